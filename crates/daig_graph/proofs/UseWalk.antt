-- A walk over the uses of a number.
use Rattle.std.proofs.Common.{◌≡◌, ℕ, zero, suc, ◌+◌, ◌<◌, ◌↔◌, List, [], ◌∷◌, length, Option, Some, None, slice_get, refl, sym, ap, ◌∙◌, subst, arith}
use Rattle.daig_graph.specs.declared.graph.Use.{Use}
use Rattle.daig_graph.specs.declared.links.Beside.{Beside}
use Rattle.daig_graph.specs.declared.links.Links.{Links}
use Rattle.daig_graph.specs.Held.{IsIn, IsOnce}
use Rattle.daig_graph.specs.Linked.{Member}
use Rattle.daig_graph.specs.Threads.{inputs_at, first_at, besides, beside_at, next_at, next_of, use_count, uses_from, member_of, use_member, AreThreaded}
use Rattle.daig_graph.specs.Walks.{IsWalk}
use Rattle.daig_graph.proofs.Cases.{none-some}
use Rattle.daig_graph.proofs.Walking.{whole-list, once-list, items-list}
use Rattle.std.proofs.lemmas.Option.{same_Some, slice_get_within}
use Rattle.std.proofs.lemmas.List.Sums.{sum-map, sum_by-cons}

-- how many uses stand before those that a number is
uses_before : List Links → ℕ → ℕ
uses_before [] n = 0
uses_before (l ∷ links) zero = 0
uses_before (l ∷ links) (suc n) = length l.beside.items + uses_before links n

abbrev beside_length : Links → ℕ
beside_length l = length l.beside.items

count-more : (l : Links) (links : List Links) → use_count (l ∷ links) ≡ length l.beside.items + use_count links
count-more l links =
    sum-map beside_length (l ∷ links) ∙ sum_by-cons beside_length l links ∙ ap (λ n. length l.beside.items + n) (sym (sum-map beside_length links))

within_count : (links : List Links) (n p : ℕ) (b : Beside) → slice_get (besides links n) p ≡ Some b → uses_before links n + p < use_count links
unfolding uses_before
within_count [] n p b e = none-some e
within_count (l ∷ links) zero p b e = let h = slice_get_within l.beside.items p b e in let more = count-more l links in omega (arith, h, more)
within_count (l ∷ links) (suc n) p b e = let h = within_count links n p b e in let more = count-more l links in omega (arith, h, more)

same_number : (links : List Links) (m n p q : ℕ) (b d : Beside) → slice_get (besides links m) p ≡ Some b → slice_get (besides links n) q ≡ Some d → uses_before links m + p ≡ uses_before links n + q → (m ≡ n) × (p ≡ q)
unfolding uses_before
same_number [] m n p q b d e f same = none-some e
same_number (l ∷ links) zero zero p q b d e f same = (refl, omega (arith, same))
same_number (l ∷ links) zero (suc n) p q b d e f same = let h = slice_get_within l.beside.items p b e in absurd (omega (arith, h, same))
same_number (l ∷ links) (suc m) zero p q b d e f same = let h = slice_get_within l.beside.items q d f in absurd (omega (arith, h, same))
same_number (l ∷ links) (suc m) (suc n) p q b d e f same = let h = same_number links m n p q b d e f (omega (arith, same)) in (ap suc h.0, h.1)

-- where there is a place, there is an item
item_there : {A : Type 0} (xs : List A) (i : ℕ) → i < length xs → (x : A) × (slice_get xs i ≡ Some x)
item_there [] i h = absurd (omega (arith, h))
item_there (x ∷ xs) zero h = (x, refl)
item_there (x ∷ xs) (suc i) h = item_there xs i (omega (arith, h))

-- A use as an item of a list is an input of its cell, and has neighbours.
record IsUsed (inputs : List (List ℕ)) (links : List Links) (u : Use) (m : Member Use) : Type 0 where
  input : slice_get (inputs_at inputs u.cell) u.place ≡ Some m.list
  beside : Beside
  at : beside_at links u ≡ Some beside
  next_is : beside.next ≡ m.next

is_used : (inputs : List (List ℕ)) (links : List Links) (u : Use) (m : Member Use) → use_member inputs links u ≡ Some m → IsUsed inputs links u m
is_used inputs links u m e = by (slice_get (inputs_at inputs u.cell) u.place) (beside_at links u) refl refl
  where
    by : (x : Option ℕ) (b : Option Beside) → slice_get (inputs_at inputs u.cell) u.place ≡ x → beside_at links u ≡ b → IsUsed inputs links u m
    by None b f g = none-some (sym (ap (λ o. member_of o (beside_at links u)) f) ∙ e)
    by (Some x) None f g = none-some (sym (ap (λ o. member_of o (beside_at links u)) f ∙ ap (member_of (Some x)) g) ∙ e)
    by (Some x) (Some b) f g =
        let is = same_Some _ _ (sym (ap (λ o. member_of o (beside_at links u)) f ∙ ap (member_of (Some x)) g) ∙ e) in
        record { input = f ∙ ap (λ n. Some n.list) is; beside = b; at = g; next_is = ap (λ n. n.next) is }

module _ (inputs : List (List ℕ)) (links : List Links) (inv : AreThreaded inputs links) (cell : ℕ) where
  after : (u : Use) (m : Member Use) → use_member inputs links u ≡ Some m → next_at links u ≡ m.next
  after u m e = let h = is_used inputs links u m e in ap next_of h.at ∙ h.next_is

  code : Use → ℕ
  code u = uses_before links u.cell + u.place

  within : (u : Use) (m : Member Use) → use_member inputs links u ≡ Some m → code u < use_count links
  unfolding code
  within u m e = let h = is_used inputs links u m e in within_count links u.cell u.place h.beside h.at

  apart : (u v : Use) (m n : Member Use) → use_member inputs links u ≡ Some m → use_member inputs links v ≡ Some n → code u ≡ code v → u ≡ v
  unfolding code
  apart u v m n e f same =
      let h = is_used inputs links u m e in
      let i = is_used inputs links v n f in
      let both = same_number links u.cell v.cell u.place v.place h.beside i.beside h.at i.at same in
      ap (λ k. record { cell = k; place = u.place }) both.0 ∙ ap (λ k. record { cell = v.cell; place = k }) both.1

  whole : IsWalk (next_at links) (first_at links cell) (uses_from links (first_at links cell))
  whole = whole-list (next_at links) (use_member inputs links) (first_at links) inv.linked after code (use_count links) within apart cell

  once : IsOnce (uses_from links (first_at links cell))
  once = once-list (next_at links) (use_member inputs links) (first_at links) inv.linked after code (use_count links) within apart cell

  items : (u : Use) → IsIn (uses_from links (first_at links cell)) u ↔ (slice_get (inputs_at inputs u.cell) u.place ≡ Some cell)
  items u =
      let h = items-list (next_at links) (use_member inputs links) (first_at links) inv.linked after code (use_count links) within apart cell u in (
        λ i.
            let m = h.0 i in
            (is_used inputs links u m.0 m.1).input ∙ ap Some m.2,
        λ e.
            let place = slice_get_within (inputs_at inputs u.cell) u.place cell e in
            let many = inv.as_many u.cell in
            let b = item_there (besides links u.cell) u.place (omega (arith, place, many)) in
            h.1 (record { list = cell; before = b.0.before; next = b.0.next }, ap (λ o. member_of o (beside_at links u)) e ∙ ap (member_of (Some cell)) b.1, refl),
      )

  module _ (now : List Links) (next : Option Use) (now_is : now ≡ links) (next_is : next ≡ first_at links cell) where
    pub whole-uses : IsWalk (next_at now) next (uses_from now next)
    whole-uses =
        let P : List Links → Type 0 = λ s. IsWalk (next_at s) next (uses_from s next) in
        let Q : Option Use → Type 0 = λ o. IsWalk (next_at links) o (uses_from links o) in
        subst P (sym now_is) (subst Q (sym next_is) whole)

    from-same : uses_from now next ≡ uses_from links (first_at links cell)
    from-same = ap (λ s. uses_from s next) now_is ∙ ap (uses_from links) next_is

    pub once-uses : IsOnce (uses_from now next)
    once-uses = let P : List Use → Type 0 = IsOnce in subst P (sym from-same) once

    pub items-uses : (of : List (List ℕ)) → inputs ≡ of → (u : Use) → IsIn (uses_from now next) u ↔ (slice_get (inputs_at of u.cell) u.place ≡ Some cell)
    items-uses of e u =
        let P : List Use → Type 0 = λ s. IsIn s u ↔ (slice_get (inputs_at of u.cell) u.place ≡ Some cell) in
        let Q : List (List ℕ) → Type 0 = λ s. IsIn (uses_from links (first_at links cell)) u ↔ (slice_get (inputs_at s u.cell) u.place ≡ Some cell) in
        subst P (sym from-same) (subst Q e (items u))
