use Rattle.std.proofs.Common.{refl}
use Rattle.why_cells.proofs.Hung.{grows_none, grows_put, hung_row, takes}
use Rattle.why_cells.proofs.hanging.tell.Goals as goal

pub returns-in_ok-put : goal.returns-in_ok-put
returns-in_ok-put g c = record {
  tells = λ x named.
      takes c.args.told.now c.put.new.self (hung_row (g.D.Domain.operations c.args.engine.now.domain) c.args.flow.now x) c.hung_on.result
      (grows_put c.args.told.now c.put.new.self c.hung_on.result c.in-Some.number c.in-Some.is c.in_ok-put.ensures.puts)
      (λ n is. c.hung_on.ensures.only x n named is) (λ n hung. c.hung_on.ensures.each x n named hung);
}

pub returns-in_default : goal.returns-in_default
returns-in_default g c = record {
  tells = λ x named.
      takes c.args.told.now c.args.told.now (hung_row (g.D.Domain.operations c.args.engine.now.domain) c.args.flow.now x) c.hung_on.result
      (grows_none c.args.told.now c.args.told.now c.hung_on.result c.in_default.not-Some refl) (λ n is. c.hung_on.ensures.only x n named is) (λ n hung. c.hung_on.ensures.each x n named hung);
}
