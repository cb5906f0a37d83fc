use Rattle.std.proofs.Common.{◌≡◌, ℕ, ◌<◌, ◌≤◌, length, Some, Contains, inl, inr, sym, ◌∙◌, subst, arith}
use Rattle.std.proofs.Math.ListN.{set}
use Rattle.memo_table.specs.declared.memo.Key.{Key}
use Rattle.memo_table.specs.Recent.{entries_of, Recent}
use Rattle.memo_table.proofs.Places.{entry-set, entries-few, entries-set}
use Rattle.memo_table.proofs.recent.RecentResults.keep.Goals as goal

same-key : (a b : Key) → Some a ≡ Some b → a ≡ b
same-key a b h = cc

pub returns-in-Some-clause-kept : goal.returns-in-Some-clause-kept
returns-in-Some-clause-kept c small =
    let places = c.self.inside.places.items in
    let index = c.index_of-index.result in
    let place = c.in-Some.place in
    let within : index < length places = omega (arith, c.self.invariant.count, c.index_of-index.ensures.within) in
    let P : ℕ → Type 0 = λ state. Contains (entries_of (set places index place)) (c.args.key.now, state) in
    subst P c.in-Some.ensures.state (entry-set places index place c.args.key.now within c.in-Some.ensures.key)

pub returns-in-Some-clause-others : goal.returns-in-Some-clause-others
returns-in-Some-clause-others c k n h =
    let place = c.in-Some.place in
    elim (entries-set c.self.inside.places.items c.index_of-index.result place k n h) [
      | inl old ↦ inl (subst (λ (r : Recent). Contains r.entries (k, n)) c.self.view_is old)
      | inr new ↦ inr (same-key k c.args.key.now (sym new.0 ∙ c.in-Some.ensures.key), new.1 ∙ c.in-Some.ensures.state)
    ]

pub returns-in-Some-clause-most : goal.returns-in-Some-clause-most
returns-in-Some-clause-most c = entries-few (set c.self.inside.places.items c.index_of-index.result c.in-Some.place)

pub returns-in_default-clause-most : goal.returns-in_default-clause-most
returns-in_default-clause-most c =
    let few = entries-few c.self.inside.places.items in
    subst (λ (r : Recent). length r.entries ≤ r.places) c.self.view_is few
