use Rattle.std.proofs.Common.{rules, ℕ, ◌<◌, cond, [], length, None, set, refl, sym, ap, ◌∙◌, arith}
use Rattle.std.specs.FinMap.{remove}
use Rattle.daig_graph.specs.Owners.{owner_at}
use Rattle.daig_graph.specs.Threads.{inputs_at}
use Rattle.daig_graph.proofs.Agreeing.{some-value, cell-below, unused-is}
use Rattle.daig_graph.proofs.Cases.{none-some}
use Rattle.daig_graph.proofs.Filled.{Puts, agrees-put, map-take, count-set}
use Rattle.daig_graph.proofs.graph.Graph.remove.Goals as goal
use Rattle.std.proofs.lemmas.List.{get_or-set_same, get_or-set_other, length-set}

pub clear-requires : goal.clear-requires
clear-requires g c = record { place = omega (arith, cell-below _ _ _ _ c.self.invariant c.args.self.now.cells (ap (λ v. v.cells) c.self.view_is) c.args.cell c.requires.there, c.self.invariant.inputs_many) }

pub take-owner-requires : goal.take-owner-requires
take-owner-requires g c = record { place = omega (arith, cell-below _ _ _ _ c.self.invariant c.args.self.now.cells (ap (λ v. v.cells) c.self.view_is) c.args.cell c.requires.there, c.self.invariant.owners_many) }

pub index_mut-requires : goal.index_mut-requires
index_mut-requires g c = let below = cell-below _ _ _ _ c.self.invariant c.args.self.now.cells (ap (λ v. v.cells) c.self.view_is) c.args.cell c.requires.there in search (rules, below)

pub overflow_sub-self : goal.overflow_sub-self
overflow_sub-self g c =
    let there = ap {B = ℕ} (λ b. cond b 1 0) (sym (some-value _ _ _ _ c.self.invariant c.args.self.now.cells (ap (λ v. v.cells) c.self.view_is) c.args.cell) ∙ c.requires.there) in
    omega (arith, count-set c.self.inside.values.items c.args.cell None (cell-below _ _ _ _ c.self.invariant c.args.self.now.cells (ap (λ v. v.cells) c.self.view_is) c.args.cell c.requires.there), there, c.self.invariant.counted)

below : (g : _) (c : goal.After-self-2-1 g) → c.args.cell < length c.self.inside.values.items
below g c = cell-below _ _ _ _ c.self.invariant c.args.self.now.cells (ap (λ v. v.cells) c.self.view_is) c.args.cell c.requires.there

puts : (g : _) (c : goal.After-self-2-1 g) → Puts c.self.inside.values.items (set c.self.inside.values.items c.args.cell None) c.self.inside.owned.of c.take-owner.new.self.of c.self.inside.uses c.clear.new.self c.args.cell None None []
puts g c =
    let here = below g c in
    let taken = ap (λ w. w.of) c.take-owner.ensures.taken in
    let cleared = c.clear.ensures.cleared in
    record {
      value_here = get_or-set_same c.self.inside.values.items c.args.cell None None here;
      values_others = λ q ne. get_or-set_other c.self.inside.values.items c.args.cell q None None ne;
      owner_here = ap (λ l. owner_at l c.args.cell) taken ∙ get_or-set_same c.self.inside.owned.of c.args.cell None None (omega (arith, here, c.self.invariant.owners_many));
      owners_others = λ q ne. ap (λ l. owner_at l q) taken ∙ get_or-set_other c.self.inside.owned.of c.args.cell q None None ne;
      inputs_here = ap (λ l. inputs_at l c.args.cell) cleared ∙ get_or-set_same c.self.inside.uses c.args.cell [] [] (omega (arith, here, c.self.invariant.inputs_many));
      inputs_others = λ q ne. ap (λ l. inputs_at l q) cleared ∙ get_or-set_other c.self.inside.uses c.args.cell q [] [] ne;
      owners_many = omega (arith, length-set c.self.inside.values.items c.args.cell None, ap (λ l. length l) taken, length-set c.self.inside.owned.of c.args.cell None, c.self.invariant.owners_many);
      inputs_many = omega (arith, length-set c.self.inside.values.items c.args.cell None, ap (λ l. length l) cleared, length-set c.self.inside.uses c.args.cell [], c.self.invariant.inputs_many);
    }

pub invariant_of-self : goal.invariant_of-self
invariant_of-self g c =
    let there = ap {B = ℕ} (λ b. cond b 1 0) (sym (some-value _ _ _ _ c.self.invariant c.args.self.now.cells (ap (λ v. v.cells) c.self.view_is) c.args.cell) ∙ c.requires.there) in
    agrees-put _ _ _ _ _ _ c.self.inside.count _ c.args.cell _ _ _ c.self.invariant (puts g c) refl (λ e. refl) (λ i x s. none-some s)
    (λ e. unused-is _ _ _ _ c.self.invariant c.args.self.now.cells (ap (λ v. v.cells) c.self.view_is) c.args.cell c.requires.unused)
    (omega (arith, count-set c.self.inside.values.items c.args.cell None (below g c), there, c.self.invariant.counted))

pub returns : goal.returns
returns g c = record {
  removes = map-take _ _ _ _ _ _ c.self.inside.count _ c.args.cell _ _ _ c.self.invariant (puts g c) (invariant_of-self g c) refl ∙ ap (λ v. remove v.cells c.args.cell) c.self.view_is;
  places = length-set c.self.inside.values.items c.args.cell None ∙ ap (λ v. v.places) c.self.view_is;
}
