-- A use is put on the list of its input, or taken off it.
use Rattle.std.proofs.Common.{◌≡◌, ◌≢◌, ℕ, suc, ◌+◌, ◌<◌, List, [], ◌∷◌, ◌++◌, length, take, Option, Some, None, IsSome, slice_get, slice_set, refl, sym, ap, ap₂, ◌∙◌, subst, arith, inl, inr}
use Rattle.daig_graph.specs.declared.graph.Use.{Use}
use Rattle.daig_graph.specs.declared.links.Beside.{Beside}
use Rattle.daig_graph.specs.declared.links.Links.{Links}
use Rattle.daig_graph.specs.Linked.{Member}
use Rattle.daig_graph.specs.Threads.{inputs_at, first_at, besides, beside_at, member_of, use_member, AreThreaded, PutsUse, TakesUse, HasNeighbours}
use Rattle.daig_graph.proofs.Cases.{uses_differ, none-some}
use Rattle.daig_graph.proofs.Threading.{take-other, take-length, take-short}
use Rattle.daig_graph.proofs.Pushing.{Pushed, linked-push}
use Rattle.daig_graph.proofs.Removing.{Removed, linked-remove, sides_apart, before_apart, next_apart}
use Rattle.base_values.proofs.Lists.{get_last, get_other, get_pushed, get_take}
use Rattle.std.proofs.lemmas.Option.{same_Some, slice_get_past}
use Rattle.std.proofs.lemmas.Bool.{cases_eq}
use Rattle.std.proofs.lemmas.List.{length-set, length_push, get_or-set_same, get_or-set_other}

-- what a member is made of
pub record Made (x : Option ℕ) (b : Option Beside) (m : Member Use) : Type 0 where
  pub input : ℕ
  pub beside : Beside
  pub of_input : x ≡ Some input
  pub of_beside : b ≡ Some beside
  pub is : record { list = input; before = beside.before; next = beside.next } ≡ m

pub made : (x : Option ℕ) (b : Option Beside) (m : Member Use) → member_of x b ≡ Some m → Made x b m
made None b m e = none-some e
made (Some x) None m e = none-some e
made (Some x) (Some b) m e = record { input = x; beside = b; of_input = refl; of_beside = refl; is = same_Some _ _ e }

-- a member has a place among the inputs, and neighbours
pub member_there : (inputs : List (List ℕ)) (links : List Links) (k : Use) (m : Member Use) → use_member inputs links k ≡ Some m → IsSome (beside_at links k)
member_there inputs links k m e =
    let P : Option Beside → Type 0 = λ o. IsSome o in
    let it = made (slice_get (inputs_at inputs k.cell) k.place) (beside_at links k) m e in
    subst P (sym it.of_beside) refl

-- the first use of a number has neighbours
pub first_there : (inputs : List (List ℕ)) (links : List Links) → AreThreaded inputs links → (x : ℕ) (k : Use) → first_at links x ≡ Some k → IsSome (beside_at links k)
first_there inputs links t x k e = let h = t.linked.first x k e in member_there inputs links k h.0 h.1

-- all inputs of a number at once
pub inputs-here : (inputs : List (List ℕ)) (n : ℕ) (xs : List ℕ) → n < length inputs → inputs_at (slice_set inputs n xs) n ≡ xs
inputs-here inputs n xs inside = get_or-set_same inputs n xs [] inside

pub inputs-other : (inputs : List (List ℕ)) (n : ℕ) (xs : List ℕ) (k : ℕ) → k ≢ n → inputs_at (slice_set inputs n xs) k ≡ inputs_at inputs k
inputs-other inputs n xs k ne = get_or-set_other inputs n k xs [] ne

-- the place of another use of the same cell
pub other_place : (u k : Use) → k ≢ u → k.cell ≡ u.cell → k.place ≢ u.place
other_place u k ne c p = ne (ap (λ n. record { cell = n; place = k.place }) c ∙ ap (λ n. record { cell = u.cell; place = n }) p)

module _ (inputs : List (List ℕ)) (old new : List Links) (t : AreThreaded inputs old) (u : Use) (xs : List ℕ) (x : ℕ)
    (inside : u.cell < length inputs) (are : inputs_at inputs u.cell ≡ xs) where
  module _ (place : u.place ≡ length xs) (below : x < length inputs) (puts : PutsUse old new u x) where
    more : List (List ℕ)
    more = slice_set inputs u.cell (xs ++ x ∷ [])

    more-here : inputs_at more u.cell ≡ xs ++ x ∷ []
    unfolding more
    more-here = inputs-here inputs u.cell (xs ++ x ∷ []) inside

    more-other : (n : ℕ) → n ≢ u.cell → inputs_at more n ≡ inputs_at inputs n
    unfolding more
    more-other n ne = inputs-other inputs u.cell (xs ++ x ∷ []) n ne

    more-length : length more ≡ length inputs
    unfolding more
    more-length = length-set inputs u.cell (xs ++ x ∷ [])

    more-kept : (k : Use) → k ≢ u → slice_get (inputs_at more k.cell) k.place ≡ slice_get (inputs_at inputs k.cell) k.place
    more-kept k ne = elim (cases_eq k.cell u.cell) [
      | inl c ↦
          ap (λ n. slice_get (inputs_at more n) k.place) c
          ∙ ap (λ ys. slice_get ys k.place) more-here
          ∙ get_other xs x k.place (λ p. other_place u k ne c (p ∙ sym place))
          ∙ ap (λ ys. slice_get ys k.place) (sym are ∙ ap (inputs_at inputs) (sym c))
      | inr other ↦ ap (λ ys. slice_get ys k.place) (more-other k.cell other)
    ]

    fresh : use_member inputs old u ≡ None
    fresh = ap (λ o. member_of o (beside_at old u)) (ap (λ ys. slice_get ys u.place) are ∙ slice_get_past xs u.place (omega (arith, place)))

    put : Pushed uses_differ (use_member inputs old) (use_member more new) (first_at old) (first_at new) x u
    put = record {
      fresh = fresh;
      here = ap₂ member_of (ap₂ slice_get more-here place ∙ get_last xs x) puts.here;
      after = λ k m f e.
          let it = made (slice_get (inputs_at inputs k.cell) k.place) (beside_at old k) m e in
          let ne : k ≢ u = λ same. none-some (sym fresh ∙ ap (use_member inputs old) (sym same) ∙ e) in
          ap₂ member_of (more-kept k ne ∙ it.of_input) (puts.after k it.beside f it.of_beside) ∙ ap (λ (w : Member Use). Some (record w { before = Some u })) it.is;
      others = λ k ne f. ap₂ member_of (more-kept k ne) (puts.others k ne f);
      head = puts.first;
      heads = puts.firsts;
    }

    threaded_put : AreThreaded more new
    threaded_put = record {
      places = puts.places ∙ t.places ∙ sym more-length;
      as_many = λ n. elim (cases_eq n u.cell) [
        | inl c ↦ ap (λ k. length (besides new k)) c ∙ puts.longer ∙ ap (λ k. k + 1) (t.as_many u.cell ∙ ap length are) ∙ sym (length_push xs x) ∙ ap length (sym more-here) ∙ ap (λ k. length (inputs_at more k)) (sym c)
        | inr ne ↦ puts.as_long n ne ∙ t.as_many n ∙ ap length (sym (more-other n ne))
      ];
      within = λ n i y e. subst (λ k. y < k) (sym more-length) (elim (cases_eq n u.cell) [
        | inl c ↦ elim (get_pushed xs x i y (ap (λ ys. slice_get ys i) (sym more-here ∙ ap (inputs_at more) (sym c)) ∙ e)) [
          | inl h ↦ t.within u.cell i y (ap (λ ys. slice_get ys i) are ∙ h)
          | inr h ↦ subst (λ k. k < length inputs) h.1 below
        ]
        | inr ne ↦ t.within n i y (ap (λ ys. slice_get ys i) (sym (more-other n ne)) ∙ e)
      ]);
      linked = linked-push uses_differ _ _ _ _ x u t.linked put;
    }

    pub threaded-put : AreThreaded (slice_set inputs u.cell (xs ++ x ∷ [])) new
    unfolding more
    threaded-put = threaded_put

  -- the member of a use that has these neighbours
  module _ (b : Beside) (at : slice_get xs u.place ≡ Some x) (there : beside_at old u ≡ Some b) where
    abbrev pub member : Member Use
    member = record { list = x; before = b.before; next = b.next }

    member-there : use_member inputs old u ≡ Some member
    member-there = ap₂ member_of (ap (λ ys. slice_get ys u.place) are ∙ at) there

    pub has_neighbours : HasNeighbours old u b
    has_neighbours = record {
      before = λ k e.
          let n = t.linked.back u k member member-there e in
          (member_there inputs old k n.0 n.1, before_apart uses_differ (use_member inputs old) (use_member inputs old) (first_at old) (first_at old) u member t.linked member-there k e);
      next = λ k e.
          let n = t.linked.ahead u k member member-there e in
          (member_there inputs old k n.0 n.1, next_apart uses_differ (use_member inputs old) (use_member inputs old) (first_at old) (first_at old) u member t.linked member-there k e);
      apart = λ k e f. sides_apart uses_differ (use_member inputs old) (use_member inputs old) (first_at old) (first_at old) u member t.linked member-there k e f;
    }

    module _ (last : length xs ≡ suc u.place) (takes : TakesUse old new u b x) where
      less : List (List ℕ)
      less = slice_set inputs u.cell (take u.place xs)

      less-here : inputs_at less u.cell ≡ take u.place xs
      unfolding less
      less-here = inputs-here inputs u.cell (take u.place xs) inside

      less-other : (n : ℕ) → n ≢ u.cell → inputs_at less n ≡ inputs_at inputs n
      unfolding less
      less-other n ne = inputs-other inputs u.cell (take u.place xs) n ne

      less-length : length less ≡ length inputs
      unfolding less
      less-length = length-set inputs u.cell (take u.place xs)

      less-kept : (k : Use) → k ≢ u → slice_get (inputs_at less k.cell) k.place ≡ slice_get (inputs_at inputs k.cell) k.place
      less-kept k ne = elim (cases_eq k.cell u.cell) [
        | inl c ↦
            ap (λ n. slice_get (inputs_at less n) k.place) c
            ∙ ap (λ ys. slice_get ys k.place) less-here
            ∙ take-other xs u.place k.place last (other_place u k ne c)
            ∙ ap (λ ys. slice_get ys k.place) (sym are ∙ ap (inputs_at inputs) (sym c))
        | inr other ↦ ap (λ ys. slice_get ys k.place) (less-other k.cell other)
      ]

      taken : Removed uses_differ (use_member inputs old) (use_member less new) (first_at old) (first_at new) u member
      taken = record {
        there = member-there;
        gone = ap (λ o. member_of o (beside_at new u)) (ap (λ ys. slice_get ys u.place) less-here ∙ slice_get_past (take u.place xs) u.place (omega (arith, take-short xs u.place)));
        before = λ k m f e.
            let it = made (slice_get (inputs_at inputs k.cell) k.place) (beside_at old k) m e in
            let h = has_neighbours.before k f in
            ap₂ member_of (less-kept k h.1 ∙ it.of_input) (takes.before k it.beside f it.of_beside) ∙ ap (λ (w : Member Use). Some (record w { next = b.next })) it.is;
        next = λ k m f e.
            let it = made (slice_get (inputs_at inputs k.cell) k.place) (beside_at old k) m e in
            let h = has_neighbours.next k f in
            ap₂ member_of (less-kept k h.1 ∙ it.of_input) (takes.next k it.beside f it.of_beside) ∙ ap (λ (w : Member Use). Some (record w { before = b.before })) it.is;
        others = λ k ne f g. ap₂ member_of (less-kept k ne) (takes.others k ne f g);
        head = takes.head;
        heads = takes.heads;
      }

      threaded_taken : AreThreaded less new
      threaded_taken = record {
        places = takes.places ∙ t.places ∙ sym less-length;
        as_many = λ n. elim (cases_eq n u.cell) [
          | inl c ↦ ap (λ k. length (besides new k)) c ∙ omega (arith, takes.shorter, t.as_many u.cell, ap length are, last, take-length xs u.place last) ∙ ap length (sym less-here) ∙ ap (λ k. length (inputs_at less k)) (sym c)
          | inr ne ↦ takes.as_long n ne ∙ t.as_many n ∙ ap length (sym (less-other n ne))
        ];
        within = λ n i y e. subst (λ k. y < k) (sym less-length) (elim (cases_eq n u.cell) [
          | inl c ↦ t.within u.cell i y (ap (λ ys. slice_get ys i) are ∙ get_take xs u.place i y (ap (λ ys. slice_get ys i) (sym less-here ∙ ap (inputs_at less) (sym c)) ∙ e))
          | inr ne ↦ t.within n i y (ap (λ ys. slice_get ys i) (sym (less-other n ne)) ∙ e)
        ]);
        linked = linked-remove uses_differ _ _ _ _ u member t.linked taken;
      }

      pub threaded-taken : AreThreaded (slice_set inputs u.cell (take u.place xs)) new
      unfolding less
      threaded-taken = threaded_taken
