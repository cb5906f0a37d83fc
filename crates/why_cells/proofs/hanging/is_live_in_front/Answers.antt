use Rattle.std.proofs.Common.{sym, ◌∙◌}
use Rattle.why_cells.proofs.Hung.{effect_matters, effect_first, holds_value, row_there}
use Rattle.why_cells.proofs.hanging.is_live_in_front.Goals as goal

pub is_live-requires : goal.is_live-requires
is_live-requires g c =
    let dom = g.D.Domain.operations c.args.engine.now.domain in
    let n = c.in-Some.first.now in
    record { there = holds_value dom c.requires.right.0 c.args.engine.now.store c.requires.right.1 n (c.requires.cells 0 n (sym c.in-Some.ensures.value)) }

pub returns-in-Some : goal.returns-in-Some
returns-in-Some g c =
    let dom = g.D.Domain.operations c.args.engine.now.domain in
    let store = c.args.engine.now.store in
    let n = c.in-Some.first.now in
    record {
      is = λ plan cell x r right at row effect.
          let m = effect_matters dom plan store right cell n x r c.args.inputs.now at row effect (sym c.in-Some.ensures.value) (c.requires.cells 0 n (sym c.in-Some.ensures.value)) in
          c.is_live.ensures.is m.0 m.1 ∙ m.2;
      row = λ plan cell x right at none. absurd (row_there dom plan store right cell n x c.args.inputs.now at none (sym c.in-Some.ensures.value));
    }

pub returns-in-None : goal.returns-in-None
returns-in-None g c =
    let dom = g.D.Domain.operations c.args.engine.now.domain in
    record {
      is = λ plan cell x r right at row effect. absurd (effect_first dom plan c.args.engine.now.store right cell x r c.args.inputs.now at row effect (sym c.in-None.ensures.value));
      row = λ plan cell x right at none. cc;
    }
