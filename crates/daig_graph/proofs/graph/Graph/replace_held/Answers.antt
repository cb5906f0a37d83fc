use Rattle.std.proofs.Common.{rules, ℕ, ◌≡◌, ◌<◌, cond, slice_get, length, Some, None, set, is_some, refl, sym, ap, ◌∙◌, arith}
use Rattle.std.specs.FinMap.{insert, get}
use Rattle.daig_graph.specs.Cells.{Filled}
use Rattle.daig_graph.specs.declared.value.Value.TheVariants.{State}
use Rattle.daig_graph.proofs.Agreeing.{at-parts, cell-below}
use Rattle.daig_graph.proofs.Cases.{none-some}
use Rattle.daig_graph.proofs.Filled.{Puts, agrees-put, map-put, count-set, some-set}
use Rattle.daig_graph.proofs.graph.Graph.replace_held.Goals as goal
use Rattle.std.proofs.lemmas.List.{get_or-set_same, get_or-set_other, length-set}

pub index_mut-requires : goal.index_mut-requires
index_mut-requires g c = let below = cell-below _ _ _ _ c.self.invariant c.args.self.now.cells (ap (λ v. v.cells) c.self.view_is) c.args.cell (ap is_some c.requires.state.2) in search (rules, below)

below : (g : _) (c : goal.Joined-index_mut g) → c.args.cell < length c.self.inside.values.items
below g c = cell-below _ _ _ _ c.self.invariant c.args.self.now.cells (ap (λ v. v.cells) c.self.view_is) c.args.cell (ap is_some c.requires.state.2)

puts : (g : _) (c : goal.Joined-index_mut g) (f : Filled g.row.V.Denot) → get c.args.self.now.cells c.args.cell ≡ Some f
    → Puts c.self.inside.values.items (set c.self.inside.values.items c.args.cell (Some (State c.args.held))) c.self.inside.owned.of c.self.inside.owned.of c.self.inside.uses c.self.inside.uses c.args.cell (Some (State c.args.held)) (Some f.owner) f.inputs
puts g c f e =
    let parts = at-parts _ _ _ _ c.self.invariant c.args.self.now.cells (ap (λ v. v.cells) c.self.view_is) c.args.cell f e in
    record {
      value_here = get_or-set_same c.self.inside.values.items c.args.cell (Some (State c.args.held)) None (below g c);
      values_others = λ q ne. get_or-set_other c.self.inside.values.items c.args.cell q (Some (State c.args.held)) None ne;
      owner_here = parts.1;
      owners_others = λ q ne. refl;
      inputs_here = parts.2;
      inputs_others = λ q ne. refl;
      owners_many = omega (arith, length-set c.self.inside.values.items c.args.cell (Some (State c.args.held)), c.self.invariant.owners_many);
      inputs_many = omega (arith, length-set c.self.inside.values.items c.args.cell (Some (State c.args.held)), c.self.invariant.inputs_many);
    }

pub invariant_of-self : goal.invariant_of-self
invariant_of-self g c =
    let parts = at-parts _ _ _ _ c.self.invariant c.args.self.now.cells (ap (λ v. v.cells) c.self.view_is) c.args.cell c.requires.state.0 c.requires.state.2 in
    let there = ap {B = ℕ} (λ o. cond (is_some o) 1 0) parts.0 in
    agrees-put _ _ _ _ _ _ c.self.inside.count c.self.inside.count c.args.cell _ _ _ c.self.invariant (puts g c c.requires.state.0 c.requires.state.2) refl (λ e. none-some (sym e))
    (λ i x s. some-set c.self.inside.values.items c.args.cell (State c.args.held) (below g c) x (c.self.invariant.closed c.args.cell i x (ap (λ l. slice_get l i) parts.2 ∙ s)))
    (λ e. none-some (sym e))
    (omega (arith, count-set c.self.inside.values.items c.args.cell (Some (State c.args.held)) (below g c), there, c.self.invariant.counted))

pub returns : goal.returns
returns g c = record {
  replaces = λ f e.
      map-put _ _ _ _ _ _ c.self.inside.count c.self.inside.count c.args.cell _ _ _ c.self.invariant (puts g c f e) (invariant_of-self g c) (record f { value = State c.args.held }) refl
      ∙ ap (λ v. insert v.cells c.args.cell (record f { value = State c.args.held })) c.self.view_is;
  places = length-set c.self.inside.values.items c.args.cell (Some (State c.args.held)) ∙ ap (λ v. v.places) c.self.view_is;
}
