use Rattle.std.proofs.Common.{Some, sym, ap, ◌∙◌}
use Rattle.cell_rows.specs.Names.{name}
use Rattle.imp_flow_rows.specs.Entered.{node_now}
use Rattle.imp_flow_rows.specs.NodeRows.{iterate_at}
use Rattle.imp_flow_rows.proofs.RowLemmas.{begins_next}
use Rattle.imp_flow_rows.proofs.rows.before_iterate.Goals as goal

pub returns-clause-first : goal.returns-clause-first
returns-clause-first c =
    let point =
    c.iterate_at.ensures.is
    ∙ ap (λ n. iterate_at n c.front.result c.args.index) c.stmt.ensures.is
    ∙ ap (λ p. iterate_at (node_now c.args.node.now).stmt p c.args.index) c.front.ensures.is
    in
    λ w engine ms r e. begins_next w engine ms c.args.index (node_now c.args.node.now) r e ∙ ap (λ p. Some (name w p)) (sym point)
