-- A use more on a list, or one less, by the writes that make it so.
use Rattle.std.proofs.Common.{◌≡◌, ◌≢◌, ℕ, suc, ◌-◌, ◌<◌, List, [], ◌∷◌, ◌++◌, length, take, Option, Some, None, IsSome, slice_get, slice_index_or, slice_set, refl, sym, ap, ap₂, ◌∙◌, subst, arith, inl, inr}
use Rattle.daig_graph.specs.declared.graph.Use.{Use}
use Rattle.daig_graph.specs.declared.links.Beside.{Beside}
use Rattle.daig_graph.specs.declared.links.Links.{Links}
use Rattle.daig_graph.specs.Threads.{first_of, first_at, beside_of, besides, beside_at, HasRoom, HaveOneShape, PutsUse, TakesUse, HasNeighbours}
use Rattle.smallvec.specs.SmallVec.{SmallVec, HasRoomFor}
use Rattle.daig_graph.proofs.Cases.{none-some}
use Rattle.daig_graph.proofs.Threading.{first-here, first-other, firsts-kept, besides-here, besides-other, besides-kept, room-here, one_shape, take-other, take-length, take-short}
use Rattle.daig_graph.proofs.ThreadingOn.{other_place}
use Rattle.base_values.proofs.Lists.{get_last, get_other, get_front}
use Rattle.std.proofs.lemmas.Option.{slice_get_read, slice_get_within, slice_get_past}
use Rattle.std.proofs.lemmas.Bool.{cases_eq}
use Rattle.std.proofs.lemmas.List.{length-set, length_push}

pub some_item : {A : Type 0} (o : Option A) → IsSome o → (a : A) × (o ≡ Some a)
some_item None h = absurd (cc)
some_item (Some a) h = (a, refl)

pub is_there : {A : Type 0} (o : Option A) (a : A) → o ≡ Some a → IsSome o
is_there {A} o a e = let P : Option A → Type 0 = λ p. IsSome p in subst P (sym e) refl

-- the first use of a number whose links are these
pub first-found : (links : List Links) (n : ℕ) (l : Links) → n < length links → l ≡ slice_index_or links n l → first_at links n ≡ l.first
first-found links n l inside found = ap first_of (slice_get_read links (length links) n l refl inside found)

-- The first use of a number is another, and a cell has neighbours more.
pub record PushesBeside (old new : List Links) (cell : ℕ) (b : Beside) (input : ℕ) (head : Option Use) : Type 0 where
  pub places : length new ≡ length old
  pub here : besides new cell ≡ besides old cell ++ b ∷ []
  pub elsewhere : (n : ℕ) → n ≢ cell → besides new n ≡ besides old n
  pub first : first_at new input ≡ head
  pub firsts : (q : ℕ) → q ≢ input → first_at new q ≡ first_at old q
  pub room : (count : ℕ) → HasRoom old cell (suc count) → HasRoom new cell count

module _ (links : List Links) (cell input : ℕ) (there : cell < length links) (input_there : input < length links) (l : Links) (l_is : l ≡ slice_index_or links input l) (head : Option Use) where
  abbrev headed : List Links
  headed = slice_set links input (record { first = head; beside = l.beside })

  input-at : slice_get links input ≡ Some l
  input-at = slice_get_read links (length links) input l refl input_there l_is

  headed-besides : (n : ℕ) → besides headed n ≡ besides links n
  headed-besides = besides-kept links input _ input_there (ap beside_of input-at)

  headed-shape : HaveOneShape links headed
  headed-shape = one_shape links input _ input_there l input-at refl refl

  module _ (m : Links) (m_is : m ≡ slice_index_or headed cell m) where
    cell_there : cell < length headed
    cell_there = omega (arith, there, length-set links input (record { first = head; beside = l.beside }))

    cell-at : slice_get headed cell ≡ Some m
    cell-at = slice_get_read headed (length headed) cell m refl cell_there m_is

    pub pushed-room : (count : ℕ) → HasRoom links cell count → HasRoomFor m.beside count
    pushed-room count h = headed-shape.room cell count h m cell-at

    pub pushes : (w : SmallVec Beside) (b : Beside) → w.items ≡ m.beside.items ++ b ∷ [] → w.capacity ≡ m.beside.capacity
        → PushesBeside links (slice_set headed cell (record { first = m.first; beside = w })) cell b input head
    pushes w b items cap =
        let last : Links = record { first = m.first; beside = w } in
        record {
          places = length-set headed cell last ∙ length-set links input _;
          here = besides-here headed cell last cell_there ∙ items ∙ ap (λ ys. ys ++ b ∷ []) (sym (ap beside_of cell-at) ∙ headed-besides cell);
          elsewhere = λ n ne. besides-other headed cell last cell_there n ne ∙ headed-besides n;
          first = firsts-kept headed cell last cell_there (ap first_of cell-at) input ∙ first-here links input _ input_there;
          firsts = λ q ne. firsts-kept headed cell last cell_there (ap first_of cell-at) q ∙ first-other links input _ input_there q ne;
          room = λ count h. room-here headed cell last cell_there count (let r = pushed-room (suc count) h in omega (arith, r, ap length items, length_push m.beside.items b, cap));
        }

module _ (old mid : List Links) (u : Use) (b : Beside) (input : ℕ) (head : Option Use) (is_head : head ≡ Some u) (p : PushesBeside old mid u.cell b input head) (place : u.place ≡ length (besides old u.cell)) where
  -- all neighbours are still there
  push-front : (k : Use) (c : Beside) → beside_at old k ≡ Some c → beside_at mid k ≡ Some c
  push-front k c e = elim (cases_eq k.cell u.cell) [
    | inl same ↦
        ap (λ n. slice_get (besides mid n) k.place) same
        ∙ ap (λ ys. slice_get ys k.place) p.here
        ∙ get_front (besides old u.cell) (b ∷ []) k.place c (ap (λ n. slice_get (besides old n) k.place) (sym same) ∙ e)
    | inr ne ↦ ap (λ ys. slice_get ys k.place) (p.elsewhere k.cell ne) ∙ e
  ]

  pub push_there : (k : Use) → IsSome (beside_at old k) → IsSome (beside_at mid k)
  push_there k h = let c = some_item (beside_at old k) h in is_there (beside_at mid k) c.0 (push-front k c.0 c.1)

  push-others : (k : Use) → k ≢ u → beside_at mid k ≡ beside_at old k
  push-others k ne = elim (cases_eq k.cell u.cell) [
    | inl same ↦
        ap (λ n. slice_get (besides mid n) k.place) same
        ∙ ap (λ ys. slice_get ys k.place) p.here
        ∙ get_other (besides old u.cell) b k.place (λ e. other_place u k ne same (e ∙ sym place))
        ∙ ap (λ n. slice_get (besides old n) k.place) (sym same)
    | inr other ↦ ap (λ ys. slice_get ys k.place) (p.elsewhere k.cell other)
  ]

  not_there : beside_at old u ≡ None
  not_there = slice_get_past (besides old u.cell) u.place (omega (arith, place))

  module _ (new : List Links) (next : first_at old input ≡ b.next) (none : b.before ≡ None) (first : (v : Use) → first_at old input ≡ Some v → IsSome (beside_at old v))
      (set : (v : Use) (c : Beside) → b.next ≡ Some v → beside_at mid v ≡ Some c → beside_at new v ≡ Some (record c { before = head }))
      (others : (v : Use) → b.next ≢ Some v → beside_at new v ≡ beside_at mid v)
      (firsts : (n : ℕ) → first_at new n ≡ first_at mid n)
      (shape : HaveOneShape mid new) where
    pub put_room : (count : ℕ) → HasRoom old u.cell (suc count) → HasRoom new u.cell count
    put_room count h = shape.room u.cell count (p.room count h)

    pub puts : PutsUse old new u input
    puts = record {
      places = shape.places ∙ p.places;
      longer = shape.as_long u.cell ∙ ap length p.here ∙ length_push (besides old u.cell) b;
      as_long = λ n ne. shape.as_long n ∙ ap length (p.elsewhere n ne);
      first = firsts input ∙ p.first ∙ is_head;
      firsts = λ q ne. firsts q ∙ p.firsts q ne;
      here = others u (λ e. let c = some_item (beside_at old u) (first u (next ∙ e)) in none-some (sym not_there ∙ c.1))
          ∙ ap₂ slice_get p.here place ∙ get_last (besides old u.cell) b ∙ ap₂ (λ o f. Some (record { before = o; next = f })) none (sym next);
      after = λ k c f e. set k c (sym next ∙ f) (push-front k c e) ∙ ap (λ o. Some (record c { before = o })) is_head;
      others = λ k ne f. others k (λ e. f (next ∙ e)) ∙ push-others k ne;
    }

-- A cell has one use less.
pub record PopsBeside (old new : List Links) (u : Use) (b : Beside) : Type 0 where
  pub places : length new ≡ length old
  pub here : besides new u.cell ≡ take u.place (besides old u.cell)
  pub elsewhere : (n : ℕ) → n ≢ u.cell → besides new n ≡ besides old n
  pub firsts : (q : ℕ) → first_at new q ≡ first_at old q
  pub was : beside_at old u ≡ Some b
  pub room : (count : ℕ) → HasRoom old u.cell count → HasRoom new u.cell (suc count)

module _ (links : List Links) (u : Use) (last : length (besides links u.cell) ≡ suc u.place) (l : Links) (l_is : l ≡ slice_index_or links u.cell l) where
  pub last-cell : u.cell < length links
  last-cell = by (slice_get links u.cell) refl
    where
      by : (o : Option Links) → slice_get links u.cell ≡ o → u.cell < length links
      by None e = absurd (omega (arith, last, ap (λ p. length (beside_of p)) e))
      by (Some k) e = slice_get_within links u.cell k e

  last-at : slice_get links u.cell ≡ Some l
  last-at = slice_get_read links (length links) u.cell l refl last-cell l_is

  -- there are as many in the cell
  pub last-length : length l.beside.items ≡ suc u.place
  last-length = sym (ap (λ p. length (beside_of p)) last-at) ∙ last

  pub pops : (w : SmallVec Beside) (b : Beside) → w.items ≡ take (length l.beside.items - 1) l.beside.items → slice_get l.beside.items (length l.beside.items - 1) ≡ Some b → w.capacity ≡ l.beside.capacity
      → PopsBeside links (slice_set links u.cell (record { first = l.first; beside = w })) u b
  pops w b items was cap =
      let made : Links = record { first = l.first; beside = w } in
      let at : length l.beside.items - 1 ≡ u.place = omega (arith, last-length) in
      record {
        places = length-set links u.cell made;
        here = besides-here links u.cell made last-cell ∙ items ∙ ap₂ take at (sym (ap beside_of last-at));
        elsewhere = besides-other links u.cell made last-cell;
        firsts = firsts-kept links u.cell made last-cell (ap first_of last-at);
        was = ap₂ slice_get (ap beside_of last-at) (sym at) ∙ was;
        room = λ count h. room-here links u.cell made last-cell (suc count) (let r = h l last-at in omega (arith, r, cap, ap length items ∙ ap (λ n. length (take n l.beside.items)) at ∙ take-length l.beside.items u.place last-length, last-length));
      }

module _ (old mid : List Links) (u : Use) (b : Beside) (p : PopsBeside old mid u b) (last : length (besides old u.cell) ≡ suc u.place) (near : HasNeighbours old u b) where
  pop-others : (k : Use) → k ≢ u → beside_at mid k ≡ beside_at old k
  pop-others k ne = elim (cases_eq k.cell u.cell) [
    | inl same ↦
        ap (λ n. slice_get (besides mid n) k.place) same
        ∙ ap (λ ys. slice_get ys k.place) p.here
        ∙ take-other (besides old u.cell) u.place k.place last (other_place u k ne same)
        ∙ ap (λ n. slice_get (besides old n) k.place) (sym same)
    | inr other ↦ ap (λ ys. slice_get ys k.place) (p.elsewhere k.cell other)
  ]

  pop_there : (k : Use) → k ≢ u → IsSome (beside_at old k) → IsSome (beside_at mid k)
  pop_there k ne h = let c = some_item (beside_at old k) h in is_there (beside_at mid k) c.0 (pop-others k ne ∙ c.1)

  pub before_there : (k : Use) → b.before ≡ Some k → IsSome (beside_at mid k)
  before_there k e = let h = near.before k e in pop_there k h.1 h.0

  module _ (after : List Links) (input : ℕ)
      (set_next : (v : Use) (c : Beside) → b.before ≡ Some v → beside_at mid v ≡ Some c → beside_at after v ≡ Some (record c { next = b.next }))
      (others_next : (v : Use) → b.before ≢ Some v → beside_at after v ≡ beside_at mid v) where
    next-same : (k : Use) → b.next ≡ Some k → beside_at after k ≡ beside_at old k
    next-same k e = let h = near.next k e in others_next k (λ f. near.apart k f e) ∙ pop-others k h.1

    pub next_there : (k : Use) → b.next ≡ Some k → IsSome (beside_at after k)
    next_there k e = let h = near.next k e in let c = some_item (beside_at old k) h.0 in is_there (beside_at after k) c.0 (next-same k e ∙ c.1)

    module _ (new : List Links)
        (first_next : b.before ≡ None → first_at after input ≡ b.next)
        (firsts_next : (n : ℕ) → (b.before ≡ None → n ≢ input) → first_at after n ≡ first_at mid n)
        (shape_next : HaveOneShape mid after)
        (set_before : (v : Use) (c : Beside) → b.next ≡ Some v → beside_at after v ≡ Some c → beside_at new v ≡ Some (record c { before = b.before }))
        (others_before : (v : Use) → b.next ≢ Some v → beside_at new v ≡ beside_at after v)
        (firsts_before : (n : ℕ) → first_at new n ≡ first_at after n)
        (shape_before : HaveOneShape after new) where
      pub takes : TakesUse old new u b input
      takes = record {
        places = shape_before.places ∙ shape_next.places ∙ p.places;
        shorter = omega (arith, last, shape_before.as_long u.cell ∙ shape_next.as_long u.cell ∙ ap length p.here ∙ take-length (besides old u.cell) u.place last);
        as_long = λ n ne. shape_before.as_long n ∙ shape_next.as_long n ∙ ap length (p.elsewhere n ne);
        head = λ none. firsts_before input ∙ first_next none;
        heads = λ q h. firsts_before q ∙ firsts_next q h ∙ p.firsts q;
        gone = others_before u (λ e. let h = near.next u e in h.1 refl) ∙ others_next u (λ e. let h = near.before u e in h.1 refl)
            ∙ ap (λ ys. slice_get ys u.place) p.here ∙ slice_get_past (take u.place (besides old u.cell)) u.place (take-short (besides old u.cell) u.place);
        before = λ k c e f. let h = near.before k e in others_before k (near.apart k e) ∙ set_next k c e (pop-others k h.1 ∙ f);
        next = λ k c e f. set_before k c e (next-same k e ∙ f);
        others = λ k ne e f. others_before k f ∙ others_next k e ∙ pop-others k ne;
      }

      -- the cell has the room for one more
      pub takes_room : (count : ℕ) → HasRoom old u.cell count → HasRoom new u.cell (suc count)
      takes_room count h = shape_before.room u.cell (suc count) (shape_next.room u.cell (suc count) (p.room count h))
