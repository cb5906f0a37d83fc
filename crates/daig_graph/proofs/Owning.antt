-- Cells on the lists of their owners: what is read of them after a change.
use Rattle.std.proofs.Common.{◌≡◌, ◌≢◌, ℕ, zero, suc, ◌+◌, ◌<◌, ◌≤◌, List, [], ◌∷◌, ◌++◌, take, length, map, Option, Some, None, option_map, slice_set, slice_index_or, refl, sym, ap, ◌∙◌, subst, arith, ◌⊎◌, inl, inr}
use Rattle.daig_graph.specs.declared.owned.OwnedCell.{OwnedCell}
use Rattle.daig_graph.specs.Buckets.{bucket_of}
use Rattle.daig_graph.specs.Linked.{Member}
use Rattle.daig_graph.specs.Owners.{Owners, owned_at, owner_at, owned_member, first_owned, AreOwned}
use Rattle.daig_graph.proofs.Cases.{none-some, has_item, numbers_differ}
use Rattle.daig_graph.proofs.Linking.{linked-along}
use Rattle.daig_graph.proofs.Pushing.{Pushed, linked-push}
use Rattle.daig_graph.proofs.Removing.{Removed, linked-remove, sides_apart, before_apart, next_apart}
use Rattle.std.proofs.lemmas.Option.{same_Some}
use Rattle.std.proofs.lemmas.Bool.{cases_eq}
use Rattle.std.proofs.lemmas.List.{get_or-set_same, get_or-set_other, ext_get_or, length-append, length-set, length-map, get_or_default}

abbrev pub owner_of : Option OwnedCell → Option ℕ
owner_of o = option_map (λ (c : OwnedCell). c.owner) o

abbrev pub owners : List (Option OwnedCell) → List (Option ℕ)
owners cells = map owner_of cells

abbrev pub as_member : OwnedCell → Member ℕ
as_member o = record { list = bucket_of o.owner; before = o.before; next = o.next }

-- the owner at a number is that of the cell there
pub owner-at : (cells : List (Option OwnedCell)) (n : ℕ) → owner_at (owners cells) n ≡ owner_of (owned_at cells n)
owner-at [] n = refl
owner-at (c ∷ cells) zero = refl
owner-at (c ∷ cells) (suc n) = owner-at cells n

pub owners-same : (old new : List (Option OwnedCell)) → length new ≡ length old → ((n : ℕ) → owner_of (owned_at new n) ≡ owner_of (owned_at old n)) → owners new ≡ owners old
owners-same old new long h =
    ext_get_or None (owners new) (owners old) (length-map new owner_of ∙ long ∙ sym (length-map old owner_of))
    (λ n l. owner-at new n ∙ h n ∙ sym (owner-at old n))

pub owners-set : (cells : List (Option OwnedCell)) (n : ℕ) (o : Option OwnedCell) → owners (slice_set cells n o) ≡ slice_set (owners cells) n (owner_of o)
owners-set [] n o = refl
owners-set (c ∷ cells) zero o = refl
owners-set (c ∷ cells) (suc n) o = ap (λ r. owner_of c ∷ r) (owners-set cells n o)

pub member_there : (cells : List (Option OwnedCell)) (n : ℕ) (o : OwnedCell) → owned_at cells n ≡ Some o → owned_member cells n ≡ Some (as_member o)
member_there cells n o e = ap (option_map as_member) e

-- what is an item of a list is a cell
pub of_member : (cells : List (Option OwnedCell)) (n : ℕ) (m : Member ℕ) → owned_member cells n ≡ Some m → (o : OwnedCell) × (owned_at cells n ≡ Some o) × (m ≡ as_member o)
of_member cells n m e = by (owned_at cells n) refl
  where
    by : (r : Option OwnedCell) → owned_at cells n ≡ r → (o : OwnedCell) × (owned_at cells n ≡ Some o) × (m ≡ as_member o)
    by None f = none-some (sym (ap (option_map as_member) f) ∙ e)
    by (Some o) f = (o, f, same_Some _ _ (sym e ∙ member_there cells n o f))

pub owner_there : (cells : List (Option OwnedCell)) (n : ℕ) (o : OwnedCell) → owned_at cells n ≡ Some o → owner_of (owned_at cells n) ≡ Some o.owner
owner_there cells n o e = ap owner_of e

-- a cell has an owner only where it is there
pub of_owner : (cells : List (Option OwnedCell)) (n x : ℕ) → owner_of (owned_at cells n) ≡ Some x → (o : OwnedCell) × (owned_at cells n ≡ Some o) × (o.owner ≡ x)
of_owner cells n x e = by (owned_at cells n) refl
  where
    by : (r : Option OwnedCell) → owned_at cells n ≡ r → (o : OwnedCell) × (owned_at cells n ≡ Some o) × (o.owner ≡ x)
    by None f = none-some (sym (ap owner_of f) ∙ e)
    by (Some o) f = (o, f, same_Some _ _ (sym (ap owner_of f) ∙ e))

-- nothing is there where there is no owner
pub not_there : (cells : List (Option OwnedCell)) (n : ℕ) → owner_of (owned_at cells n) ≡ None → owned_at cells n ≡ None
not_there cells n e = by (owned_at cells n) refl
  where
    by : (r : Option OwnedCell) → owned_at cells n ≡ r → owned_at cells n ≡ None
    by None f = f
    by (Some o) f = none-some (sym e ∙ ap owner_of f)

-- The cell of a link, if there is one, got another before or after it; the others are as they were.
pub record Sets (old new : List (Option OwnedCell)) (link : Option ℕ) (to : OwnedCell → OwnedCell) : Type 0 where
  pub set : (n : ℕ) (m : OwnedCell) → link ≡ Some n → owned_at old n ≡ Some m → owned_at new n ≡ Some (to m)
  pub others : (n : ℕ) → (link ≡ Some n → owned_at old n ≡ None) → owned_at new n ≡ owned_at old n
  pub places : length new ≡ length old

module _ (old new : List (Option OwnedCell)) (link : Option ℕ) (to : OwnedCell → OwnedCell) (same_owner : (m : OwnedCell) → (to m).owner ≡ m.owner) (s : Sets old new link to) where
  pub sets-owner : (n : ℕ) → owner_of (owned_at new n) ≡ owner_of (owned_at old n)
  sets-owner n = elim (has_item numbers_differ link n) [
    | inl e ↦ by e (owned_at old n) refl
    | inr ne ↦ ap owner_of (s.others n (λ e. absurd (ne e)))
  ]
    where
      by : link ≡ Some n → (r : Option OwnedCell) → owned_at old n ≡ r → owner_of (owned_at new n) ≡ owner_of (owned_at old n)
      by e None f = ap owner_of (s.others n (λ h. f))
      by e (Some m) f = ap owner_of (s.set n m e f) ∙ ap Some (same_owner m) ∙ sym (ap owner_of f)

  pub sets-owners : owners new ≡ owners old
  sets-owners = owners-same old new s.places sets-owner

-- the cells of lists that have a place stand on such, where the owners are the same
pub listed-along : (old new : List (Option OwnedCell)) (few many : ℕ) → few ≤ many → ((n x : ℕ) → owner_of (owned_at new n) ≡ Some x → (owner_of (owned_at old n) ≡ Some x) ⊎ (bucket_of x < many))
    → ((n : ℕ) (o : OwnedCell) → owned_at old n ≡ Some o → bucket_of o.owner < few) → (n : ℕ) (o : OwnedCell) → owned_at new n ≡ Some o → bucket_of o.owner < many
listed-along old new few many more same h n o e = elim (same n o.owner (owner_there new n o e)) [
  | inl f ↦
      let w = of_owner old n o.owner f in
      let l = h n w.0 w.1 in
      let b = ap bucket_of w.2 in
      omega (arith, l, b, more)
  | inr l ↦ l
]

-- a cell that is there has a place
pub place_of : (cells : List (Option OwnedCell)) (n : ℕ) (o : OwnedCell) → owned_at cells n ≡ Some o → n < length cells
place_of [] n o e = none-some e
place_of (c ∷ cells) zero o e = omega arith
place_of (c ∷ cells) (suc n) o e = let h = place_of cells n o e in omega (arith, h)

-- owners and cells have the same places
pub owned_place : (cells : List (Option OwnedCell)) (of : List (Option ℕ)) (n : ℕ) → owners cells ≡ of → n < length of → n < length cells
owned_place cells of n e h = let same = ap length e in let long = length-map cells owner_of in omega (arith, h, same, long)

-- what is read at a place
pub owned_read : (cells : List (Option OwnedCell)) (n : ℕ) (o : Option OwnedCell) → n < length cells → o ≡ slice_index_or cells n o → owned_at cells n ≡ o
owned_read cells n o h e = get_or_default cells n None o h ∙ sym e

-- a place stays where an item is set
pub set_place : {A : Type 0} (xs : List A) (i : ℕ) (x : A) (n : ℕ) → n < length xs → n < length (slice_set xs i x)
set_place xs i x n h = let long = length-set xs i x in omega (arith, long, h)

-- the first cell of a list has a place
pub first_place : (cells : List (Option OwnedCell)) (firsts : List (Option ℕ)) → AreOwned cells firsts → (list n : ℕ) → first_owned firsts list ≡ Some n → n < length cells
first_place cells firsts inv list n e =
    let m = inv.linked.first list n e in
    let o = of_member cells n m.0 m.1 in
    place_of cells n o.0 o.1

abbrev both : List (Option ℕ) → ℕ → Owners
both of lists = record { of = of; lists = lists }

pub owners-are : (of of2 : List (Option ℕ)) (lists lists2 : ℕ) → of ≡ of2 → lists ≡ lists2 → both of lists ≡ both of2 lists2
owners-are of of2 lists lists2 a b =
    let f : List (Option ℕ) → Owners = λ s. record { of = s; lists = lists } in
    let g : ℕ → Owners = λ n. record { of = of2; lists = n } in
    ap f a ∙ ap g b

-- links are as good as those that they equal
pub put_sets : (old new : List (Option OwnedCell)) (cell owner : ℕ) (start start2 next next2 link link2 : Option ℕ) → start ≡ start2 → next ≡ next2 → link ≡ link2
    → Sets (slice_set old cell (Some (record { owner = owner; before = start; next = next }))) new next (λ (m : OwnedCell). record m { before = link })
    → Sets (slice_set old cell (Some (record { owner = owner; before = start2; next = next2 }))) new next2 (λ (m : OwnedCell). record m { before = link2 })
put_sets old new cell owner start start2 next next2 link link2 a b d s =
    let P : Option ℕ → Type 0 = λ o. Sets (slice_set old cell (Some (record { owner = owner; before = o; next = next }))) new next (λ (m : OwnedCell). record m { before = link }) in
    let Q : Option ℕ → Type 0 = λ o. Sets (slice_set old cell (Some (record { owner = owner; before = start2; next = o }))) new o (λ (m : OwnedCell). record m { before = link }) in
    let R : Option ℕ → Type 0 = λ o. Sets (slice_set old cell (Some (record { owner = owner; before = start2; next = next2 }))) new next2 (λ (m : OwnedCell). record m { before = o }) in
    subst R d (subst Q b (subst P a s))

pub push_length : {A : Type 0} (xs : List A) (x : A) (ys : List A) → ys ≡ xs ++ x ∷ [] → length ys ≡ length xs + 1
push_length xs x ys e = ap length e ∙ length-append xs (x ∷ [])

-- nothing is as good as a place with nothing
pub push-none : {A : Type 0} (xs : List (Option A)) (n : ℕ) → slice_index_or (xs ++ None ∷ []) n None ≡ slice_index_or xs n None
push-none [] zero = refl
push-none [] (suc n) = refl
push-none (x ∷ xs) zero = refl
push-none (x ∷ xs) (suc n) = push-none xs n

-- nothing is lost where nothing is beyond
pub take-none : {A : Type 0} (xs : List (Option A)) (room : ℕ) → ((n : ℕ) → room ≤ n → slice_index_or xs n None ≡ None) → (n : ℕ) → slice_index_or (take room xs) n None ≡ slice_index_or xs n None
take-none [] zero h n = refl
take-none [] (suc room) h n = refl
take-none (x ∷ xs) zero h n = sym (h n (omega arith))
take-none (x ∷ xs) (suc room) h zero = refl
take-none (x ∷ xs) (suc room) h (suc n) = take-none xs room (λ i l. h (suc i) (omega (arith, l))) n

pub owners-take : (cells : List (Option OwnedCell)) (room : ℕ) → owners (take room cells) ≡ take room (owners cells)
owners-take [] zero = refl
owners-take [] (suc room) = refl
owners-take (c ∷ cells) zero = refl
owners-take (c ∷ cells) (suc room) = ap (λ r. owner_of c ∷ r) (owners-take cells room)

-- the same cells have the same owners
pub owners-along : (old new : List (Option OwnedCell)) → ((n : ℕ) → owned_at new n ≡ owned_at old n) → (n : ℕ) → owner_at (owners new) n ≡ owner_at (owners old) n
owners-along old new same n = owner-at new n ∙ ap owner_of (same n) ∙ sym (owner-at old n)

pub owned-along : (old new : List (Option OwnedCell)) (firsts new_firsts : List (Option ℕ)) → ((n : ℕ) → owned_at new n ≡ owned_at old n) → ((l : ℕ) → first_owned new_firsts l ≡ first_owned firsts l)
    → length firsts ≤ length new_firsts → AreOwned old firsts → AreOwned new new_firsts
owned-along old new firsts new_firsts same same_first more inv = record {
  linked = linked-along (owned_member old) (owned_member new) (first_owned firsts) (first_owned new_firsts) (λ n. ap (option_map as_member) (same n)) same_first inv.linked;
  listed = λ n o e. let h = inv.listed n o (sym (same n) ∙ e) in omega (arith, h, more);
}

pub owned-none : (cells : List (Option OwnedCell)) (firsts : List (Option ℕ)) → cells ≡ [] → firsts ≡ [] → AreOwned cells firsts
owned-none cells firsts e f =
    let no_cell : (n : ℕ) → owned_member cells n ≡ None = λ n. ap (λ s. owned_member s n) e in
    let no_first : (l : ℕ) → first_owned firsts l ≡ None = λ l. ap (λ s. first_owned s l) f in
    record {
      linked = record {
        first = λ l k h. none-some (sym (no_first l) ∙ h);
        front = λ k m h n. none-some (sym (no_cell k) ∙ h);
        back = λ k j m h n. none-some (sym (no_cell k) ∙ h);
        ahead = λ k j m h n. none-some (sym (no_cell k) ∙ h);
        rank = λ k. 0;
        peak = 0;
        falls = λ k j m h n. none-some (sym (no_cell k) ∙ h);
        low = λ k m h. none-some (sym (no_cell k) ∙ h);
      };
      listed = λ n o h. none-some (sym (ap (λ s. owned_at s n) e) ∙ h);
    }

module _ (old new : List (Option OwnedCell)) (firsts : List (Option ℕ)) (cell owner : ℕ) where
  abbrev pub put_cell : OwnedCell
  put_cell = record { owner = owner; before = None; next = first_owned firsts (bucket_of owner) }

  module _ (inv : AreOwned old firsts) (none : owned_at old cell ≡ None) (place : cell < length old) (list : bucket_of owner < length firsts)
      (s : Sets (slice_set old cell (Some put_cell)) new (first_owned firsts (bucket_of owner)) (λ m. record m { before = Some cell })) where
    mid-cell : owned_at (slice_set old cell (Some put_cell)) cell ≡ Some put_cell
    mid-cell = get_or-set_same old cell (Some put_cell) None place

    mid-other : (n : ℕ) → n ≢ cell → owned_at (slice_set old cell (Some put_cell)) n ≡ owned_at old n
    mid-other n ne = get_or-set_other old cell n (Some put_cell) None ne

    first_apart : first_owned firsts (bucket_of owner) ≢ Some cell
    first_apart f = let m = inv.linked.first (bucket_of owner) cell f in let o = of_member old cell m.0 m.1 in none-some (sym none ∙ o.1)

    there_apart : (n : ℕ) (o : OwnedCell) → owned_at old n ≡ Some o → n ≢ cell
    there_apart n o e same = none-some (sym none ∙ ap (owned_at old) (sym same) ∙ e)

    pushed : Pushed numbers_differ (owned_member old) (owned_member new) (first_owned firsts) (first_owned (slice_set firsts (bucket_of owner) (Some cell))) (bucket_of owner) cell
    pushed = record {
      fresh = ap (option_map as_member) none;
      here = ap (option_map as_member) (s.others cell (λ f. absurd (first_apart f)) ∙ mid-cell);
      after = λ k m f e.
          let o = of_member old k m e in
          ap (option_map as_member) (s.set k o.0 f (mid-other k (there_apart k o.0 o.1) ∙ o.1)) ∙ ap (λ (n : Member ℕ). Some (record n { before = Some cell })) (sym o.2);
      others = λ k ne f. ap (option_map as_member) (s.others k (λ e. absurd (f e)) ∙ mid-other k ne);
      head = get_or-set_same firsts (bucket_of owner) (Some cell) None list;
      heads = λ q ne. get_or-set_other firsts (bucket_of owner) q (Some cell) None ne;
    }

    put-owner : (n : ℕ) → owner_of (owned_at new n) ≡ owner_of (owned_at (slice_set old cell (Some put_cell)) n)
    put-owner n = sets-owner (slice_set old cell (Some put_cell)) new (first_owned firsts (bucket_of owner)) (λ m. record m { before = Some cell }) (λ m. refl) s n

    pub owned-put : AreOwned new (slice_set firsts (bucket_of owner) (Some cell))
    owned-put = record {
      linked = linked-push numbers_differ (owned_member old) (owned_member new) (first_owned firsts) (first_owned (slice_set firsts (bucket_of owner) (Some cell))) (bucket_of owner) cell inv.linked pushed;
      listed = listed-along old new (length firsts) (length (slice_set firsts (bucket_of owner) (Some cell)))
          (let l = length-set firsts (bucket_of owner) (Some cell) in omega (arith, l))
          (λ n x e. elim (cases_eq n cell) [
            | inl same ↦ inr (
                let x_is : owner ≡ x = same_Some _ _ (sym (ap owner_of (ap (owned_at (slice_set old cell (Some put_cell))) same ∙ mid-cell)) ∙ sym (put-owner n) ∙ e) in
                let b = ap bucket_of x_is in
                let l = length-set firsts (bucket_of owner) (Some cell) in
                omega (arith, b, l, list))
            | inr ne ↦ inl (sym (ap owner_of (mid-other n ne)) ∙ sym (put-owner n) ∙ e)
          ]) inv.listed;
    }

    pub owners-put : owners new ≡ slice_set (owners old) cell (Some owner)
    owners-put = sets-owners (slice_set old cell (Some put_cell)) new (first_owned firsts (bucket_of owner)) (λ m. record m { before = Some cell }) (λ m. refl) s ∙ owners-set old cell (Some put_cell)

-- the cells beside one have a place
module _ (old : List (Option OwnedCell)) (firsts : List (Option ℕ)) (cell : ℕ) (r : OwnedCell) (inv : AreOwned old firsts) (there : owned_at old cell ≡ Some r) where
  pub next_place : (n : ℕ) → r.next ≡ Some n → n < length old
  next_place n e =
      let m = inv.linked.ahead cell n (as_member r) (member_there old cell r there) e in
      let o = of_member old n m.0 m.1 in
      place_of old n o.0 o.1

  pub before_place : (n : ℕ) → r.before ≡ Some n → n < length old
  before_place n e =
      let m = inv.linked.back cell n (as_member r) (member_there old cell r there) e in
      let o = of_member old n m.0 m.1 in
      place_of old n o.0 o.1

module _ (old mid new : List (Option OwnedCell)) (firsts new_firsts : List (Option ℕ)) (cell : ℕ) (r : OwnedCell) (inv : AreOwned old firsts) (there : owned_at old cell ≡ Some r) where
  module _ (s : Sets (slice_set old cell None) mid r.next (λ m. record m { before = r.before })) (t : Sets mid new r.before (λ m. record m { next = r.next }))
      (head : r.before ≡ None → new_firsts ≡ slice_set firsts (bucket_of r.owner) r.next) (heads : (j : ℕ) → r.before ≡ Some j → new_firsts ≡ firsts) where
    own_place : cell < length old
    own_place = place_of old cell r there

    left-other : (n : ℕ) → n ≢ cell → owned_at (slice_set old cell None) n ≡ owned_at old n
    left-other n ne = get_or-set_other old cell n None None ne

    not_before : r.before ≢ Some cell
    not_before b = before_apart numbers_differ (owned_member old) (owned_member new) (first_owned firsts) (first_owned new_firsts) cell (as_member r) inv.linked (member_there old cell r there) cell b refl

    not_next : r.next ≢ Some cell
    not_next a = next_apart numbers_differ (owned_member old) (owned_member new) (first_owned firsts) (first_owned new_firsts) cell (as_member r) inv.linked (member_there old cell r there) cell a refl

    one_side : (k : ℕ) {P : Type 0} → r.before ≡ Some k → r.next ≡ Some k → P
    one_side k b a = sides_apart numbers_differ (owned_member old) (owned_member new) (first_owned firsts) (first_owned new_firsts) cell (as_member r) inv.linked (member_there old cell r there) k b a

    other : (k : ℕ) (o : Option ℕ) → o ≢ Some cell → o ≡ Some k → k ≢ cell
    other k o ne e same = ne (e ∙ ap Some same)

    removed : Removed numbers_differ (owned_member old) (owned_member new) (first_owned firsts) (first_owned new_firsts) cell (as_member r)
    removed = record {
      there = member_there old cell r there;
      gone = ap (option_map as_member) (t.others cell (λ b. absurd (not_before b)) ∙ s.others cell (λ a. absurd (not_next a)) ∙ get_or-set_same old cell None None own_place);
      before = λ k m b e.
          let o = of_member old k m e in
          let was : owned_at mid k ≡ Some o.0 = s.others k (λ a. one_side k b a) ∙ left-other k (other k r.before not_before b) ∙ o.1 in
          ap (option_map as_member) (t.set k o.0 b was) ∙ ap (λ (n : Member ℕ). Some (record n { next = r.next })) (sym o.2);
      next = λ k m a e.
          let o = of_member old k m e in
          let was : owned_at mid k ≡ Some (record o.0 { before = r.before }) = s.set k o.0 a (left-other k (other k r.next not_next a) ∙ o.1) in
          ap (option_map as_member) (t.others k (λ b. one_side k b a) ∙ was) ∙ ap (λ (n : Member ℕ). Some (record n { before = r.before })) (sym o.2);
      others = λ k ne b a. ap (option_map as_member) (t.others k (λ h. absurd (b h)) ∙ s.others k (λ h. absurd (a h)) ∙ left-other k ne);
      head = λ none. ap (λ f. first_owned f (bucket_of r.owner)) (head none) ∙ get_or-set_same firsts (bucket_of r.owner) r.next None (inv.listed cell r there);
      heads = λ q ne. by q ne r.before refl;
    }
      where
        by : (q : ℕ) → (r.before ≡ None → q ≢ bucket_of r.owner) → (o : Option ℕ) → r.before ≡ o → first_owned new_firsts q ≡ first_owned firsts q
        by q ne None e = ap (λ f. first_owned f q) (head e) ∙ get_or-set_other firsts (bucket_of r.owner) q r.next None (ne e)
        by q ne (Some j) e = ap (λ f. first_owned f q) (heads j e)

    taken-owner : (n : ℕ) → owner_of (owned_at new n) ≡ owner_of (owned_at (slice_set old cell None) n)
    taken-owner n =
        sets-owner mid new r.before (λ m. record m { next = r.next }) (λ m. refl) t n
        ∙ sets-owner (slice_set old cell None) mid r.next (λ m. record m { before = r.before }) (λ m. refl) s n

    pub lists-taken : length new_firsts ≡ length firsts
    lists-taken = by r.before refl
      where
        by : (o : Option ℕ) → r.before ≡ o → length new_firsts ≡ length firsts
        by None e = ap length (head e) ∙ length-set firsts (bucket_of r.owner) r.next
        by (Some j) e = ap length (heads j e)

    pub owned-taken : AreOwned new new_firsts
    owned-taken = record {
      linked = linked-remove numbers_differ (owned_member old) (owned_member new) (first_owned firsts) (first_owned new_firsts) cell (as_member r) inv.linked removed;
      listed = listed-along old new (length firsts) (length new_firsts) (let l = lists-taken in omega (arith, l))
          (λ n x e. elim (cases_eq n cell) [
            | inl same ↦ none-some (sym (ap owner_of (ap (owned_at (slice_set old cell None)) same ∙ get_or-set_same old cell None None own_place)) ∙ sym (taken-owner n) ∙ e)
            | inr ne ↦ inl (sym (ap owner_of (left-other n ne)) ∙ sym (taken-owner n) ∙ e)
          ]) inv.listed;
    }

    pub owners-taken : owners new ≡ slice_set (owners old) cell None
    owners-taken =
        sets-owners mid new r.before (λ m. record m { next = r.next }) (λ m. refl) t
        ∙ sets-owners (slice_set old cell None) mid r.next (λ m. record m { before = r.before }) (λ m. refl) s
        ∙ owners-set old cell None
