-- The lists of uses stay threaded where the same uses stand elsewhere, or where places come and go.
use Rattle.std.proofs.Common.{◌≡◌, ◌≢◌, ℕ, zero, suc, ◌+◌, ◌<◌, ◌≤◌, List, [], ◌∷◌, ◌++◌, length, take, Option, Some, None, slice_get, slice_index_or, slice_set, refl, sym, ap, ap₂, ◌∙◌, subst, arith, inl, inr}
use Rattle.daig_graph.specs.declared.graph.Use.{Use}
use Rattle.daig_graph.specs.declared.links.Links.{Links}
use Rattle.daig_graph.specs.Linked.{Member}
use Rattle.daig_graph.specs.Threads.{inputs_at, first_at, besides, beside_at, member_of, use_member, AllBelow, AreSame, AreThreaded, AreThreadedWith, HasRoom, Threads}
use Rattle.smallvec.specs.SmallVec.{HasRoomFor}
use Rattle.daig_graph.proofs.Cases.{none-some}
use Rattle.daig_graph.proofs.Linking.{linked-along}
use Rattle.daig_graph.proofs.ThreadingOn.{made, inputs-here, inputs-other}
use Rattle.std.proofs.lemmas.Option.{same_Some, slice_get_read, get_or_from_slice_get}
use Rattle.std.proofs.lemmas.Bool.{cases_eq}
use Rattle.std.proofs.lemmas.List.{length_push, length-set}

-- nothing is used
pub threaded-none : (inputs : List (List ℕ)) (links : List Links) → inputs ≡ [] → links ≡ [] → AreThreaded inputs links
threaded-none inputs links no_inputs no_links =
    let empty : (n : ℕ) → inputs_at inputs n ≡ [] = λ n. ap (λ xs. inputs_at xs n) no_inputs in
    let bare : (n : ℕ) → besides links n ≡ [] = λ n. ap (λ ls. besides ls n) no_links in
    let first : (n : ℕ) → first_at links n ≡ None = λ n. ap (λ ls. first_at ls n) no_links in
    let member : (k : Use) → use_member inputs links k ≡ None = λ k. ap (λ xs. member_of (slice_get xs k.place) (beside_at links k)) (empty k.cell) in
    record {
      places = ap length no_links ∙ sym (ap length no_inputs);
      as_many = λ n. ap length (bare n) ∙ sym (ap length (empty n));
      within = λ n i x e. none-some (sym (ap (λ xs. slice_get xs i) (empty n)) ∙ e);
      linked = record {
        first = λ l k e. none-some (sym (first l) ∙ e);
        front = λ k m e n. none-some (sym (member k) ∙ e);
        back = λ k j m e n. none-some (sym (member k) ∙ e);
        ahead = λ k j m e n. none-some (sym (member k) ∙ e);
        rank = λ k. 0;
        peak = 0;
        falls = λ k j m e n. none-some (sym (member k) ∙ e);
        low = λ k m e. none-some (sym (member k) ∙ e);
      };
    }

-- the same at each number
pub threaded-along : (inputs kept : List (List ℕ)) (old new : List Links) → AreThreaded inputs old → ((n : ℕ) → inputs_at kept n ≡ inputs_at inputs n) → ((n : ℕ) → first_at new n ≡ first_at old n) → ((n : ℕ) → besides new n ≡ besides old n)
    → length new ≡ length kept → ((n : ℕ) → AllBelow (inputs_at inputs n) (length kept)) → AreThreaded kept new
threaded-along inputs kept old new t same firsts beside places within = record {
  places = places;
  as_many = λ n. ap length (beside n) ∙ t.as_many n ∙ sym (ap length (same n));
  within = λ n i x e. within n i x (sym (ap (λ xs. slice_get xs i) (same n)) ∙ e);
  linked = linked-along (use_member inputs old) (use_member kept new) (first_at old) (first_at new)
      (λ k. ap₂ (λ xs bs. member_of (slice_get xs k.place) (slice_get bs k.place)) (same k.cell) (beside k.cell)) firsts t.linked;
}

pub threaded-same : (inputs : List (List ℕ)) (old new : List Links) → AreSame old new → AreThreaded inputs old → AreThreaded inputs new
threaded-same inputs old new s t = threaded-along inputs inputs old new t (λ n. refl) s.firsts s.besides (s.places ∙ t.places) t.within

-- a place more, for a number that has nothing
pub inputs-more : (inputs : List (List ℕ)) (n : ℕ) → inputs_at (inputs ++ [] ∷ []) n ≡ inputs_at inputs n
inputs-more [] zero = refl
inputs-more [] (suc n) = refl
inputs-more (xs ∷ inputs) zero = refl
inputs-more (xs ∷ inputs) (suc n) = inputs-more inputs n

firsts-more : (links : List Links) (l : Links) → l.first ≡ None → (n : ℕ) → first_at (links ++ l ∷ []) n ≡ first_at links n
firsts-more [] l none zero = none
firsts-more [] l none (suc n) = refl
firsts-more (k ∷ links) l none zero = refl
firsts-more (k ∷ links) l none (suc n) = firsts-more links l none n

besides-more : (links : List Links) (l : Links) → l.beside.items ≡ [] → (n : ℕ) → besides (links ++ l ∷ []) n ≡ besides links n
besides-more [] l none zero = none
besides-more [] l none (suc n) = refl
besides-more (k ∷ links) l none zero = refl
besides-more (k ∷ links) l none (suc n) = besides-more links l none n

pub threaded-more : (inputs : List (List ℕ)) (links : List Links) (l : Links) → l.first ≡ None → l.beside.items ≡ [] → AreThreaded inputs links → AreThreaded (inputs ++ [] ∷ []) (links ++ l ∷ [])
threaded-more inputs links l none bare t = threaded-along inputs (inputs ++ [] ∷ []) links (links ++ l ∷ []) t (inputs-more inputs) (firsts-more links l none) (besides-more links l bare)
    (length_push links l ∙ ap (λ k. k + 1) t.places ∙ sym (length_push inputs []))
    (λ n i x e. let h = t.within n i x e in omega (arith, h, length_push inputs []))

-- the places from a number on are gone
take-inputs : (inputs : List (List ℕ)) (room n : ℕ) → (room ≤ n → inputs_at inputs n ≡ []) → inputs_at (take room inputs) n ≡ inputs_at inputs n
take-inputs [] zero n none = refl
take-inputs [] (suc room) n none = refl
take-inputs (xs ∷ inputs) zero n none = sym (none (omega arith))
take-inputs (xs ∷ inputs) (suc room) zero none = refl
take-inputs (xs ∷ inputs) (suc room) (suc n) none = take-inputs inputs room n (λ le. none (omega (arith, le)))

take-firsts : (links : List Links) (room n : ℕ) → (room ≤ n → first_at links n ≡ None) → first_at (take room links) n ≡ first_at links n
take-firsts [] zero n none = refl
take-firsts [] (suc room) n none = refl
take-firsts (l ∷ links) zero n none = sym (none (omega arith))
take-firsts (l ∷ links) (suc room) zero none = refl
take-firsts (l ∷ links) (suc room) (suc n) none = take-firsts links room n (λ le. none (omega (arith, le)))

take-besides : (links : List Links) (room n : ℕ) → (room ≤ n → besides links n ≡ []) → besides (take room links) n ≡ besides links n
take-besides [] zero n none = refl
take-besides [] (suc room) n none = refl
take-besides (l ∷ links) zero n none = sym (none (omega arith))
take-besides (l ∷ links) (suc room) zero none = refl
take-besides (l ∷ links) (suc room) (suc n) none = take-besides links room n (λ le. none (omega (arith, le)))

nothing : {A : Type 0} (xs : List A) → length xs ≡ 0 → xs ≡ []
nothing [] e = refl
nothing (x ∷ xs) e = absurd (omega (arith, e))

lengths-take : {A B : Type 0} (xs : List A) (ys : List B) (n : ℕ) → length xs ≡ length ys → length (take n xs) ≡ length (take n ys)
lengths-take [] [] zero e = refl
lengths-take [] [] (suc n) e = refl
lengths-take [] (y ∷ ys) n e = absurd (omega (arith, e))
lengths-take (x ∷ xs) [] n e = absurd (omega (arith, e))
lengths-take (x ∷ xs) (y ∷ ys) zero e = refl
lengths-take (x ∷ xs) (y ∷ ys) (suc n) e = ap suc (lengths-take xs ys n (omega (arith, e)))

-- what is below both bounds is below what is left
below-take : {A : Type 0} (xs : List A) (n x : ℕ) → x < n → x < length xs → x < length (take n xs)
below-take xs zero x a b = absurd (omega (arith, a))
below-take [] (suc n) x a b = b
below-take (y ∷ xs) (suc n) zero a b = omega arith
below-take (y ∷ xs) (suc n) (suc x) a b = omega (arith, below-take xs n x (omega (arith, a)) (omega (arith, b)))

module _ (inputs : List (List ℕ)) (links : List Links) (t : AreThreaded inputs links) (room : ℕ) (none : (n : ℕ) → room ≤ n → inputs_at inputs n ≡ []) (below : (n : ℕ) → AllBelow (inputs_at inputs n) room) where
  unused : (n : ℕ) → room ≤ n → (o : Option Use) → first_at links n ≡ o → first_at links n ≡ None
  unused n le None e = e
  unused n le (Some k) e =
      let h = t.linked.first n k e in
      let it = made (slice_get (inputs_at inputs k.cell) k.place) (beside_at links k) h.0 h.1 in
      let small = below k.cell k.place it.input it.of_input in
      let same : it.input ≡ n = ap (λ (m : Member Use). m.list) it.is ∙ h.2 in
      absurd (omega (arith, le, small, same))

  pub threaded-cut : AreThreaded (take room inputs) (take room links)
  threaded-cut = threaded-along inputs (take room inputs) links (take room links) t
      (λ n. take-inputs inputs room n (none n))
      (λ n. take-firsts links room n (λ le. unused n le (first_at links n) refl))
      (λ n. take-besides links room n (λ le. nothing (besides links n) (t.as_many n ∙ ap length (none n le))))
      (lengths-take links inputs room t.places)
      (λ n i x e. below-take inputs room x (below n i x e) (t.within n i x e))

-- a cell has room for the uses that it has
pub empty-room : (links : List Links) (cell : ℕ) (k : Links) → cell < length links → k ≡ slice_index_or links cell k → length k.beside.items ≤ k.beside.capacity → HasRoom links cell 0
empty-room links cell k inside found fits l e =
    let same : k ≡ l = same_Some _ _ (sym (slice_get_read links (length links) cell k refl inside found) ∙ e) in
    let P : Links → Type 0 = λ m. HasRoomFor m.beside 0 in
    subst P same (omega (arith, fits))

-- The inputs of a cell are taken away, and another number, which has none then, gets inputs.
module _ (inputs : List (List ℕ)) (links bare : List Links) (t : AreThreaded inputs links) (cell to : ℕ) (inside : cell < length inputs) (to_inside : to < length inputs)
    (xs : List ℕ) (are : xs ≡ inputs_at inputs cell) (cleared : Threads links bare cell xs []) (none : to ≢ cell → inputs_at inputs to ≡ []) where
  pub moving-threaded : (moved : List Links) → AreSame bare moved → AreThreaded (slice_set inputs cell []) moved
  moving-threaded moved same = threaded-same (slice_set inputs cell []) bare moved same (cleared inputs t (sym are))

  pub moving-none : inputs_at (slice_set inputs cell []) to ≡ []
  moving-none = elim (cases_eq to cell) [
    | inl same ↦ ap (inputs_at (slice_set inputs cell [])) same ∙ inputs-here inputs cell [] inside
    | inr ne ↦ inputs-other inputs cell [] to ne ∙ none ne
  ]

  pub moving-with : (moved : List Links) → AreSame bare moved → AreThreadedWith moved to []
  moving-with moved same = (slice_set inputs cell [], moving-threaded moved same, omega (arith, to_inside, length-set inputs cell []), moving-none)

-- what was found at a place are the inputs there
pub found-inputs : (inputs : List (List ℕ)) (cell : ℕ) (xs : List ℕ) → cell < length inputs → xs ≡ slice_index_or inputs cell xs → xs ≡ inputs_at inputs cell
found-inputs inputs cell xs inside found = sym (get_or_from_slice_get inputs cell xs [] (slice_get_read inputs (length inputs) cell xs refl inside found))
