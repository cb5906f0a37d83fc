use Rattle.std.proofs.Common.{ℕ, List, Some, option_copied, ap, sym, ◌∙◌, subst, arith}
use Rattle.daig_graph.specs.Cells.{AreCells}
use Rattle.daig_graph.proofs.Agreeing.{there-below, inputs-is, cells-closed}
use Rattle.daig_graph.proofs.graph.Graph.inputs.Goals as goal

pub inputs-requires : goal.inputs-requires
inputs-requires g c =
    let below = there-below _ _ _ _ c.self.invariant c.args.self.now.cells (ap (λ v. v.cells) c.self.view_is) c.args.cell _ (sym c.value.ensures.value ∙ ap option_copied c.in-Some.is) in
    record { place = omega (arith, below, c.self.invariant.inputs_many) }

pub returns-in-Some-clause-inputs : goal.returns-in-Some-clause-inputs
returns-in-Some-clause-inputs g c =
    ap Some c.inputs.ensures.inputs ∙ inputs-is _ _ _ _ c.self.invariant c.args.self.now.cells (ap (λ v. v.cells) c.self.view_is) c.args.cell _ (sym c.value.ensures.value ∙ ap option_copied c.in-Some.is)

pub returns-in-Some-clause-cells : goal.returns-in-Some-clause-cells
returns-in-Some-clause-cells g c =
    let P : List ℕ → Type 0 = AreCells c.args.self.now.cells in
    subst P (sym c.inputs.ensures.inputs) (cells-closed _ _ _ _ c.self.invariant c.args.self.now.cells (ap (λ v. v.cells) c.self.view_is) c.args.cell)
