use Rattle.std.proofs.Common.{◌≡◌, ℕ, cond, [], List, length, Some, None, set, is_some, refl, sym, ap, ◌∙◌, subst, arith}
use Rattle.std.specs.FinMap.{insert}
use Rattle.daig_graph.specs.Agrees.{Agrees}
use Rattle.daig_graph.specs.Owners.{owner_at}
use Rattle.daig_graph.specs.Threads.{inputs_at}
use Rattle.daig_graph.proofs.Agreeing.{some-value, value-none, owner-none, cells-below}
use Rattle.daig_graph.proofs.Cases.{none-some}
use Rattle.daig_graph.proofs.Filled.{Puts, agrees-put, map-put, count-set, some-set, on-err}
use Rattle.daig_graph.proofs.Maps.{cell_map, map-same}
use Rattle.daig_graph.proofs.graph.Graph.fill.Goals as goal
use Rattle.std.proofs.lemmas.List.{get_or-set_same, get_or-set_other, length-set}

pub invariant_of-self : goal.invariant_of-self
invariant_of-self g c = c.reserve.ensures.agrees c.self.inside.count c.self.invariant

pub returns-in_err-reserve-clause-err : goal.returns-in_err-reserve-clause-err
returns-in_err-reserve-clause-err g c =
    on-err c.from_residual.result
    (map-same _ _ _ _ _ _ _ _ c.self.invariant (c.reserve.ensures.agrees c.self.inside.count c.self.invariant) c.reserve.ensures.same ∙ ap (λ v. v.cells) c.self.view_is)

-- the parts with places for the cell
reserved : (g : _) (c : goal.After-set-arg-1 g) → Agrees c.reserve.new.values.items c.reserve.new.owned.of c.reserve.new.uses c.self.inside.count
reserved g c = c.reserve.ensures.agrees c.self.inside.count c.self.invariant

cells-are : (g : _) (c : goal.After-set-arg-1 g) → cell_map c.reserve.new.values.items c.reserve.new.owned.of c.reserve.new.uses ≡ c.args.self.now.cells
cells-are g c = map-same _ _ _ _ _ _ _ _ c.self.invariant (reserved g c) c.reserve.ensures.same ∙ ap (λ v. v.cells) c.self.view_is

pub set-requires-clause-place : goal.set-requires-clause-place
set-requires-clause-place g c = omega (arith, c.in_ok-reserve.ensures.place, (reserved g c).inputs_many)

pub set-requires-clause-none : goal.set-requires-clause-none
set-requires-clause-none g c = (reserved g c).blank c.args.cell (value-none _ _ _ _ (reserved g c) c.args.self.now.cells (cells-are g c) c.args.cell c.requires.absent)

pub set-requires-clause-inputs : goal.set-requires-clause-inputs
set-requires-clause-inputs g c = cells-below _ _ _ _ (reserved g c) c.args.self.now.cells (cells-are g c) c.args.inputs c.requires.inputs (length c.reserve.new.uses) (reserved g c).inputs_many

pub invariant_of-self-in_err-set : goal.invariant_of-self-in_err-set
invariant_of-self-in_err-set g c =
    let P : List (List ℕ) → Type 0 = λ l. Agrees c.reserve.new.values.items c.reserve.new.owned.of l c.self.inside.count in
    subst P (sym c.in_err-set.ensures.err) (c.reserve.ensures.agrees c.self.inside.count c.self.invariant)

pub returns-in_err-set-clause-err : goal.returns-in_err-set-clause-err
returns-in_err-set-clause-err g c =
    on-err c.from_residual-in_err-set.result
    (ap (cell_map c.reserve.new.values.items c.reserve.new.owned.of) c.in_err-set.ensures.err
    ∙ map-same _ _ _ _ _ _ _ _ c.self.invariant (c.reserve.ensures.agrees c.self.inside.count c.self.invariant) c.reserve.ensures.same ∙ ap (λ v. v.cells) c.self.view_is)

pub put-requires-clause-place : goal.put-requires-clause-place
put-requires-clause-place g c = omega (arith, c.in_ok-reserve.ensures.place, (c.reserve.ensures.agrees c.self.inside.count c.self.invariant).owners_many)

pub put-requires-clause-none : goal.put-requires-clause-none
put-requires-clause-none g c =
    let reserved = c.reserve.ensures.agrees c.self.inside.count c.self.invariant in
    owner-none _ _ _ _ reserved c.args.self.now.cells (map-same _ _ _ _ _ _ _ _ c.self.invariant reserved c.reserve.ensures.same ∙ ap (λ v. v.cells) c.self.view_is) c.args.cell c.requires.absent

agrees : (g : _) (c : goal.After-self-2-1 g) → Agrees c.reserve.new.values.items c.reserve.new.owned.of c.reserve.new.uses c.self.inside.count
agrees g c = c.reserve.ensures.agrees c.self.inside.count c.self.invariant

before : (g : _) (c : goal.After-self-2-1 g) → cell_map c.reserve.new.values.items c.reserve.new.owned.of c.reserve.new.uses ≡ c.args.self.now.cells
before g c = map-same _ _ _ _ _ _ _ _ c.self.invariant (agrees g c) c.reserve.ensures.same ∙ ap (λ v. v.cells) c.self.view_is

puts : (g : _) (c : goal.After-self-2-1 g) → Puts c.reserve.new.values.items (set c.reserve.new.values.items c.args.cell (Some c.args.value)) c.reserve.new.owned.of c.put.new.self.of c.reserve.new.uses c.set.new.self c.args.cell (Some c.args.value) (Some c.args.owner) c.args.inputs
puts g c =
    let here = c.in_ok-reserve.ensures.place in
    let put = ap (λ w. w.of) c.put.ensures.put in
    let linked = c.in_ok-set.ensures.set in
    record {
      value_here = get_or-set_same c.reserve.new.values.items c.args.cell (Some c.args.value) None here;
      values_others = λ q ne. get_or-set_other c.reserve.new.values.items c.args.cell q (Some c.args.value) None ne;
      owner_here = ap (λ l. owner_at l c.args.cell) put ∙ get_or-set_same c.reserve.new.owned.of c.args.cell (Some c.args.owner) None (omega (arith, here, (agrees g c).owners_many));
      owners_others = λ q ne. ap (λ l. owner_at l q) put ∙ get_or-set_other c.reserve.new.owned.of c.args.cell q (Some c.args.owner) None ne;
      inputs_here = ap (λ l. inputs_at l c.args.cell) linked ∙ get_or-set_same c.reserve.new.uses c.args.cell c.args.inputs [] (omega (arith, here, (agrees g c).inputs_many));
      inputs_others = λ q ne. ap (λ l. inputs_at l q) linked ∙ get_or-set_other c.reserve.new.uses c.args.cell q c.args.inputs [] ne;
      owners_many = omega (arith, length-set c.reserve.new.values.items c.args.cell (Some c.args.value), ap (λ l. length l) put, length-set c.reserve.new.owned.of c.args.cell (Some c.args.owner), (agrees g c).owners_many);
      inputs_many = omega (arith, length-set c.reserve.new.values.items c.args.cell (Some c.args.value), ap (λ l. length l) linked, length-set c.reserve.new.uses c.args.cell c.args.inputs, (agrees g c).inputs_many);
    }

pub invariant_of-self-2 : goal.invariant_of-self-2
invariant_of-self-2 g c =
    let gone = ap {B = ℕ} (λ o. cond (is_some o) 1 0) (value-none _ _ _ _ (agrees g c) c.args.self.now.cells (before g c) c.args.cell c.requires.absent) in
    agrees-put _ _ _ _ _ _ c.self.inside.count _ c.args.cell _ _ _ (agrees g c) (puts g c) refl (λ e. none-some (sym e))
    (λ i x s. some-set c.reserve.new.values.items c.args.cell c.args.value c.in_ok-reserve.ensures.place x (sym (some-value _ _ _ _ (agrees g c) c.args.self.now.cells (before g c) x) ∙ c.requires.inputs i x s))
    (λ e. none-some (sym e))
    (omega (arith, count-set c.reserve.new.values.items c.args.cell (Some c.args.value) c.in_ok-reserve.ensures.place, gone, (agrees g c).counted))

pub returns-clause-fills : goal.returns-clause-fills
returns-clause-fills g c =
    map-put _ _ _ _ _ _ c.self.inside.count _ c.args.cell _ _ _ (agrees g c) (puts g c) (invariant_of-self-2 g c) (record { owner = c.args.owner; value = c.args.value; inputs = c.args.inputs }) refl
    ∙ ap (λ m. insert m c.args.cell (record { owner = c.args.owner; value = c.args.value; inputs = c.args.inputs })) (before g c)
