use Rattle.std.proofs.Common.{rules, ◌≡◌, None, option_copied, ap, sym, ◌∙◌}
use Rattle.daig_graph.specs.Agrees.{value_at}
use Rattle.daig_graph.proofs.Agreeing.{value-is}
use Rattle.daig_graph.proofs.graph.Graph.value.Goals as goal

pub returns-in-Some : goal.returns-in-Some
returns-in-Some g c =
    let at : option_copied c.as_ref.result ≡ value_at c.self.inside.values.items c.args.cell = search rules in
    record { value = at ∙ sym (value-is _ _ _ _ c.self.invariant c.args.self.now.cells (ap (λ v. v.cells) c.self.view_is) c.args.cell) }

pub returns-in-None : goal.returns-in-None
returns-in-None g c =
    let at : None ≡ value_at c.self.inside.values.items c.args.cell = search rules in
    record { value = at ∙ sym (value-is _ _ _ _ c.self.invariant c.args.self.now.cells (ap (λ v. v.cells) c.self.view_is) c.args.cell) }
