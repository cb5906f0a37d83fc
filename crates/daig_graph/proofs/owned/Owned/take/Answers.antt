use Rattle.std.proofs.Common.{◌≡◌, ℕ, List, length, Option, None, Some, slice_set, refl, sym, ap, ◌∙◌, arith}
use Rattle.std.proofs.lemmas.List.{set-get_or}
use Rattle.daig_graph.specs.declared.owned.OwnedCell.{OwnedCell}
use Rattle.daig_graph.specs.Buckets.{bucket_of}
use Rattle.daig_graph.specs.Owners.{owned_at, owner_at, AreOwned}
use Rattle.daig_graph.proofs.Cases.{none-some}
use Rattle.daig_graph.proofs.Owning.{Sets, owners, owner_of, owner-at, owners-are, owned_place, owned_read, set_place, next_place, before_place, owned-taken, owners-taken, lists-taken}
use Rattle.daig_graph.proofs.owned.Owned.take.Goals.{In_ok-owner, After-set_before}
use Rattle.daig_graph.proofs.owned.Owned.take.Goals as goal

there : (c : In_ok-owner) → owned_at c.self.inside.members.items c.args.cell ≡ Some c.in_ok-owner.field-0
there c =
    owned_read c.self.inside.members.items c.args.cell c.index.result.now
    (owned_place c.self.inside.members.items c.args.self.now.of c.args.cell (ap (λ v. v.of) c.self.view_is) c.requires.place) c.index.ensures
    ∙ c.in_ok-owner.was

pub returns-in_err-owner-clause-taken : goal.returns-in_err-owner-clause-taken
returns-in_err-owner-clause-taken c =
    let of : List (Option ℕ) = c.args.self.now.of in
    let members : List (Option OwnedCell) = c.self.inside.members.items in
    let of_is : owners members ≡ of = ap (λ v. v.of) c.self.view_is in
    let none : owner_at of c.args.cell ≡ None =
    sym (ap (λ s. owner_at s c.args.cell) of_is) ∙ owner-at members c.args.cell
    ∙ ap owner_of (owned_read members c.args.cell c.index.result.now (owned_place members of c.args.cell of_is c.requires.place) c.index.ensures ∙ c.in_err-owner.was) in
    ap (λ s. record c.args.self.now { of = s }) (sym (ap (slice_set of c.args.cell) (sym none) ∙ set-get_or of c.args.cell None))

pub set_before-requires : goal.set_before-requires
set_before-requires c =
    let p = (goal.at.set_before-requires c).In_ok-owner in
    let members : List (Option OwnedCell) = c.self.inside.members.items in
    record { there = λ n e. set_place members c.args.cell None n (next_place members c.self.inside.firsts.items c.args.cell c.in_ok-owner.field-0 c.self.invariant (there p) n e) }

-- the cell after it has that before it beside itself
sets : (c : After-set_before) → Sets (slice_set c.self.inside.members.items c.args.cell None) c.set_before.new.members.items c.in_ok-owner.field-0.next (λ (m : OwnedCell). record m { before = c.in_ok-owner.field-0.before })
sets c = record { set = c.set_before.ensures.set; others = c.set_before.ensures.others; places = c.set_before.ensures.places }

-- there is none before it, so the list begins with that after it
taken_first : (c : goal.After-self-in-None-1) → AreOwned c.set_before.new.members.items (slice_set c.self.inside.firsts.items c.bucket.result c.in_ok-owner.field-0.next)
    × (owners c.set_before.new.members.items ≡ slice_set (owners c.self.inside.members.items) c.args.cell None)
    × (length (slice_set c.self.inside.firsts.items c.bucket.result c.in_ok-owner.field-0.next) ≡ length c.self.inside.firsts.items)
taken_first c =
    let r : OwnedCell = c.in_ok-owner.field-0 in
    let old : List (Option OwnedCell) = c.self.inside.members.items in
    let mid : List (Option OwnedCell) = c.set_before.new.members.items in
    let firsts : List (Option ℕ) = c.self.inside.firsts.items in
    let new_firsts : List (Option ℕ) = slice_set firsts c.bucket.result r.next in
    let none : r.before ≡ None = sym c.in-None.ensures.cell in
    let at : owned_at old c.args.cell ≡ Some r = there (goal.at.invariant_of-self c).In_ok-owner in
    let s : Sets (slice_set old c.args.cell None) mid r.next (λ (m : OwnedCell). record m { before = r.before }) = sets (goal.at.invariant_of-self c).After-set_before in
    let t : Sets mid mid r.before (λ (m : OwnedCell). record m { next = r.next }) = record { set = λ n m e f. none-some (sym none ∙ e); others = λ n e. refl; places = refl } in
    let head : r.before ≡ None → new_firsts ≡ slice_set firsts (bucket_of r.owner) r.next = λ e. ap (λ l. slice_set firsts l r.next) c.bucket.ensures.is in
    let heads : (j : ℕ) → r.before ≡ Some j → new_firsts ≡ firsts = λ j e. none-some (sym none ∙ e) in (
      owned-taken old mid mid firsts new_firsts c.args.cell r c.self.invariant at s t head heads,
      owners-taken old mid mid firsts new_firsts c.args.cell r c.self.invariant at s t head heads,
      lists-taken old mid mid firsts new_firsts c.args.cell r c.self.invariant at s t head heads,
    )

pub invariant_of-self : goal.invariant_of-self
invariant_of-self c = (taken_first c).0

pub returns-in-None-clause-taken : goal.returns-in-None-clause-taken
returns-in-None-clause-taken c =
    owners-are _ _ _ _
    ((taken_first c).1 ∙ ap (λ s. slice_set s c.args.cell None) (ap (λ v. v.of) c.self.view_is))
    ((taken_first c).2 ∙ ap (λ v. v.lists) c.self.view_is)

pub set_next-requires : goal.set_next-requires
set_next-requires c =
    let p = (goal.at.set_next-requires c).In_ok-owner in
    let members : List (Option OwnedCell) = c.self.inside.members.items in
    record {
      there = λ n e.
          let h = set_place members c.args.cell None n (before_place members c.self.inside.firsts.items c.args.cell c.in_ok-owner.field-0 c.self.invariant (there p) n e) in
          omega (arith, h, c.set_before.ensures.places);
    }

-- there is one before it, so the list begins as it did
taken_behind : (c : goal.After-set_next) → AreOwned c.set_next.new.members.items c.self.inside.firsts.items
    × (owners c.set_next.new.members.items ≡ slice_set (owners c.self.inside.members.items) c.args.cell None)
taken_behind c =
    let r : OwnedCell = c.in_ok-owner.field-0 in
    let old : List (Option OwnedCell) = c.self.inside.members.items in
    let mid : List (Option OwnedCell) = c.set_before.new.members.items in
    let new : List (Option OwnedCell) = c.set_next.new.members.items in
    let firsts : List (Option ℕ) = c.self.inside.firsts.items in
    let at : owned_at old c.args.cell ≡ Some r = there (goal.at.invariant_of-self-in-Some c).In_ok-owner in
    let s : Sets (slice_set old c.args.cell None) mid r.next (λ (m : OwnedCell). record m { before = r.before }) = sets (goal.at.invariant_of-self-in-Some c).After-set_before in
    let t : Sets mid new r.before (λ (m : OwnedCell). record m { next = r.next }) = record { set = c.set_next.ensures.set; others = c.set_next.ensures.others; places = c.set_next.ensures.places } in
    let head : r.before ≡ None → firsts ≡ slice_set firsts (bucket_of r.owner) r.next = λ e. none-some (sym e ∙ sym c.in-Some.ensures.cell) in
    let heads : (j : ℕ) → r.before ≡ Some j → firsts ≡ firsts = λ j e. refl in (
      owned-taken old mid new firsts firsts c.args.cell r c.self.invariant at s t head heads,
      owners-taken old mid new firsts firsts c.args.cell r c.self.invariant at s t head heads,
    )

pub invariant_of-self-in-Some : goal.invariant_of-self-in-Some
invariant_of-self-in-Some c = (taken_behind c).0

pub returns-in-Some-clause-taken : goal.returns-in-Some-clause-taken
returns-in-Some-clause-taken c =
    owners-are _ _ _ _
    ((taken_behind c).1 ∙ ap (λ s. slice_set s c.args.cell None) (ap (λ v. v.of) c.self.view_is))
    (ap (λ v. v.lists) c.self.view_is)
