-- The links of one cell are written.
use Rattle.std.proofs.Common.{◌≡◌, ◌≢◌, ℕ, zero, suc, ◌<◌, ◌≤◌, List, [], ◌∷◌, ◌++◌, length, take, Option, Some, None, IsSome, slice_get, slice_index_or, slice_set, refl, sym, ap, ◌∙◌, subst, arith, inl, inr}
use Rattle.daig_graph.specs.declared.graph.Use.{Use}
use Rattle.daig_graph.specs.declared.links.Beside.{Beside}
use Rattle.daig_graph.specs.declared.links.Links.{Links}
use Rattle.daig_graph.specs.Threads.{first_of, first_at, beside_of, besides, beside_at, HasRoom, HaveOneShape}
use Rattle.smallvec.specs.SmallVec.{with_items, HasRoomFor}
use Rattle.std.proofs.lemmas.Option.{same_Some, slice_get_within, slice_get_read, get_or_from_slice_get}
use Rattle.std.proofs.lemmas.Bool.{cases_eq}
use Rattle.std.proofs.lemmas.List.{length-set, length-take-le}

-- one item of a list is written
pub set-here : {A : Type 0} (xs : List A) (i : ℕ) (x : A) → i < length xs → slice_get (slice_set xs i x) i ≡ Some x
set-here [] i x h = absurd (omega (arith, h))
set-here (y ∷ xs) zero x h = refl
set-here (y ∷ xs) (suc i) x h = set-here xs i x (omega (arith, h))

pub set-other : {A : Type 0} (xs : List A) (i : ℕ) (x : A) (k : ℕ) → k ≢ i → slice_get (slice_set xs i x) k ≡ slice_get xs k
set-other [] i x k ne = refl
set-other (y ∷ xs) zero x zero ne = absurd (ne refl)
set-other (y ∷ xs) zero x (suc k) ne = refl
set-other (y ∷ xs) (suc i) x zero ne = refl
set-other (y ∷ xs) (suc i) x (suc k) ne = set-other xs i x k (λ e. ne (ap suc e))

pub take-front : {A : Type 0} (xs ys : List A) (n : ℕ) → n ≡ length xs → take n (xs ++ ys) ≡ xs
take-front [] ys zero e = refl
take-front [] ys (suc n) e = absurd (omega (arith, e))
take-front (x ∷ xs) ys zero e = absurd (omega (arith, e))
take-front (x ∷ xs) ys (suc n) e = ap (λ t. x ∷ t) (take-front xs ys n (omega (arith, e)))

-- all items but the last stay where they are
pub take-other : {A : Type 0} (xs : List A) (n k : ℕ) → length xs ≡ suc n → k ≢ n → slice_get (take n xs) k ≡ slice_get xs k
take-other [] n k last ne = absurd (omega (arith, last))
take-other (y ∷ []) zero zero last ne = absurd (ne refl)
take-other (y ∷ []) zero (suc k) last ne = refl
take-other (y ∷ z ∷ ys) zero k last ne = absurd (omega (arith, last))
take-other (y ∷ ys) (suc n) zero last ne = refl
take-other (y ∷ ys) (suc n) (suc k) last ne = take-other ys n k (omega (arith, last)) (λ e. ne (ap suc e))

pub take-length : {A : Type 0} (xs : List A) (n : ℕ) → length xs ≡ suc n → length (take n xs) ≡ n
take-length xs n last = length-take-le n xs (omega (arith, last))

pub take-short : {A : Type 0} (xs : List A) (n : ℕ) → length (take n xs) ≤ n
take-short xs zero = omega arith
take-short [] (suc n) = omega arith
take-short (x ∷ xs) (suc n) = omega (arith, take-short xs n)

module _ (links : List Links) (cell : ℕ) (l : Links) (inside : cell < length links) where
  pub first-here : first_at (slice_set links cell l) cell ≡ l.first
  first-here = ap first_of (set-here links cell l inside)

  pub first-other : (n : ℕ) → n ≢ cell → first_at (slice_set links cell l) n ≡ first_at links n
  first-other n ne = ap first_of (set-other links cell l n ne)

  pub besides-here : besides (slice_set links cell l) cell ≡ l.beside.items
  besides-here = ap beside_of (set-here links cell l inside)

  pub besides-other : (n : ℕ) → n ≢ cell → besides (slice_set links cell l) n ≡ besides links n
  besides-other n ne = ap beside_of (set-other links cell l n ne)

  pub besides-kept : besides links cell ≡ l.beside.items → (n : ℕ) → besides (slice_set links cell l) n ≡ besides links n
  besides-kept same n = elim (cases_eq n cell) [
    | inl e ↦ ap (besides (slice_set links cell l)) e ∙ besides-here ∙ sym same ∙ ap (besides links) (sym e)
    | inr ne ↦ besides-other n ne
  ]

  pub firsts-kept : first_at links cell ≡ l.first → (n : ℕ) → first_at (slice_set links cell l) n ≡ first_at links n
  firsts-kept same n = elim (cases_eq n cell) [
    | inl e ↦ ap (first_at (slice_set links cell l)) e ∙ first-here ∙ sym same ∙ ap (first_at links) (sym e)
    | inr ne ↦ first-other n ne
  ]

  pub room-other : (n count : ℕ) → n ≢ cell → HasRoom links n count → HasRoom (slice_set links cell l) n count
  room-other n count ne h m e = h m (sym (set-other links cell l n ne) ∙ e)

  -- the cell has this room then
  pub room-here : (count : ℕ) → HasRoomFor l.beside count → HasRoom (slice_set links cell l) cell count
  room-here count h m e = let P : Links → Type 0 = λ k. HasRoomFor k.beside count in subst P (same_Some _ _ (sym (set-here links cell l inside) ∙ e)) h

  -- as much room as before
  pub room-kept : (old : Links) → slice_get links cell ≡ Some old → length l.beside.items ≡ length old.beside.items → l.beside.capacity ≡ old.beside.capacity → (n count : ℕ) → HasRoom links n count → HasRoom (slice_set links cell l) n count
  room-kept old at long cap n count h = elim (cases_eq n cell) [
    | inl e ↦ let P : ℕ → Type 0 = λ k. HasRoom (slice_set links cell l) k count in
        subst P (sym e) (room-here count (let r = h old (ap (slice_get links) e ∙ at) in omega (arith, r, long, cap)))
    | inr ne ↦ room-other n count ne h
  ]

  pub one_shape : (old : Links) → slice_get links cell ≡ Some old → length l.beside.items ≡ length old.beside.items → l.beside.capacity ≡ old.beside.capacity → HaveOneShape links (slice_set links cell l)
  one_shape old at long cap = record {
    places = length-set links cell l;
    as_long = λ n. elim (cases_eq n cell) [
      | inl e ↦ ap (λ k. length (besides (slice_set links cell l) k)) e ∙ ap length besides-here ∙ long ∙ sym (ap (λ k. length (besides links k)) e ∙ ap (λ o. length (beside_of o)) at)
      | inr ne ↦ ap length (besides-other n ne)
    ];
    room = room-kept old at long cap;
  }

-- One use has other neighbours.
pub record Marks (old new : List Links) (u : Use) (c : Beside) : Type 0 where
  pub here : beside_at new u ≡ Some c
  pub others : (k : Use) → k ≢ u → beside_at new k ≡ beside_at old k
  pub firsts : (n : ℕ) → first_at new n ≡ first_at old n
  pub shape : HaveOneShape old new

module _ (links : List Links) (u : Use) (l : Links) (at : slice_get links u.cell ≡ Some l) (xs : List Beside) (items : xs ≡ l.beside.items) (inside : u.place < length xs) (c : Beside) where
  abbrev marked : List Links
  marked = slice_set links u.cell (record { first = l.first; beside = with_items l.beside (slice_set xs u.place c) })

  long : length (slice_set xs u.place c) ≡ length l.beside.items
  long = length-set xs u.place c ∙ ap length items

  written : (with_items l.beside (slice_set xs u.place c)).items ≡ slice_set xs u.place c
  written = take-front (slice_set xs u.place c) _ (length l.beside.items) (sym long)

  cell_inside : u.cell < length links
  cell_inside = slice_get_within links u.cell l at

  pub marks : Marks links marked u c
  marks = record {
    here = ap (λ ys. slice_get ys u.place) (besides-here links u.cell _ cell_inside ∙ written) ∙ set-here xs u.place c inside;
    others = λ k ne. elim (cases_eq k.cell u.cell) [
      | inl same ↦
          ap (λ n. slice_get (besides marked n) k.place) same
          ∙ ap (λ ys. slice_get ys k.place) (besides-here links u.cell _ cell_inside ∙ written)
          ∙ set-other xs u.place c k.place (λ p. ne (ap (λ n. record { cell = n; place = k.place }) same ∙ ap (λ n. record { cell = u.cell; place = n }) p))
          ∙ ap (λ ys. slice_get ys k.place) (items ∙ sym (ap beside_of at) ∙ ap (besides links) (sym same))
      | inr other ↦ ap (λ ys. slice_get ys k.place) (besides-other links u.cell _ cell_inside k.cell other)
    ];
    firsts = firsts-kept links u.cell _ cell_inside (ap first_of at);
    shape = one_shape links u.cell _ cell_inside l at (ap length written ∙ long) refl;
  }

is_inside : {A : Type 0} (xs : List A) (i : ℕ) → IsSome (slice_get xs i) → i < length xs
is_inside [] i h = absurd (cc)
is_inside (x ∷ xs) zero h = omega arith
is_inside (x ∷ xs) (suc i) h = omega (arith, is_inside xs i h)

-- a use that has neighbours is there
pub use_there : (links : List Links) (u : Use) → IsSome (beside_at links u) → (l : Links) × (slice_get links u.cell ≡ Some l) × (u.place < length l.beside.items)
use_there links u = by (slice_get links u.cell) refl
  where
    by : (o : Option Links) → slice_get links u.cell ≡ o → IsSome (slice_get (beside_of o) u.place) → (l : Links) × (slice_get links u.cell ≡ Some l) × (u.place < length l.beside.items)
    by None e h = absurd (cc)
    by (Some l) e h = (l, e, is_inside l.beside.items u.place h)

-- the neighbours of a linked use are written
module _ (links : List Links) (u : Use) (link : Option Use) (is : link ≡ Some u) (there : (v : Use) → link ≡ Some v → IsSome (beside_at links v)) where
  pub linked-cell : u.cell < length links
  linked-cell = let h = use_there links u (there u is) in slice_get_within links u.cell h.0 h.1

  module _ (l : Links) (found : l ≡ slice_index_or links u.cell l) (xs : List Beside) (items : xs ≡ l.beside.items) where
    linked-at : slice_get links u.cell ≡ Some l
    linked-at = slice_get_read links (length links) u.cell l refl linked-cell found

    pub linked-place : u.place < length xs
    linked-place =
        let h = use_there links u (there u is) in
        let same : h.0 ≡ l = same_Some _ _ (sym h.1 ∙ linked-at) in
        omega (arith, h.2, ap (λ (k : Links). length k.beside.items) same, ap length items)

    pub linked-marks : (c : Beside) → Marks links (slice_set links u.cell (record { first = l.first; beside = with_items l.beside (slice_set xs u.place c) })) u c
    linked-marks c = marks links u l linked-at xs items linked-place c

    -- what the neighbours were
    pub linked-old : (v : Use) (b d : Beside) → link ≡ Some v → beside_at links v ≡ Some b → slice_index_or xs u.place d ≡ b
    linked-old v b d e f =
        let same : u ≡ v = same_Some _ _ (sym is ∙ e) in
        get_or_from_slice_get xs u.place b d (ap (λ ys. slice_get ys u.place) (items ∙ sym (ap beside_of linked-at)) ∙ ap (beside_at links) same ∙ f)
