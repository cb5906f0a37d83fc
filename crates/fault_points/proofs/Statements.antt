-- The points of simple statements are exact.
use Rattle.std.specs.Prelude.{◌≡◌, ℕ, List, [], ◌∷◌, ◌++◌, length, replicate, slice_get, slice_set, nat_le, nat_lt, ℤ, pos, negsuc, int_le, Option, Some, None, Bool, true, false, ◌&&◌, if◌then◌else◌, ◌⊎◌}
use Rattle.std.proofs.Common.{refl, sym, ap, ◌∙◌, subst, inl, inr, arith}
use Rattle.std.proofs.lemmas.Bool.{and_parts}
use Rattle.std.proofs.lemmas.Int.{ints}
use Rattle.imp_slots.specs.Plain.{Layout, Term, Effect, Skip, Assert, SetInt, Input, ReadElement, ReadItem, MakeArray, CopyArray, WriteElement, SetNull, MakeCell, CopyLink, ReadNext, WriteNext, WriteItem}
use Rattle.imp_slots.specs.Fits.{fits_term, fits_effect, is_int, is_array, is_link}
use Rattle.imp_words.specs.declared.fault.FaultKind.{FaultKind}
use Rattle.imp_words.specs.declared.fault.FaultKind.TheVariants.{Length as BadLength, Index, Null, Assert as Failed}
use Rattle.concrete_sem.specs.Values.{Int, Array, Variables, Cell, Heap, Attempt, Gives, Faults, LacksInput, andthen, given_or, array_at, link_at, with_number, with_link}
use Rattle.concrete_sem.specs.Evaluation.{value_of, truth_of}
use Rattle.concrete_sem.specs.Effects.{new_array, element, with_element, cell_of, with_cell, take_input, effect_of}
use Rattle.concrete_sem.specs.Proper.{IsProper, AreVariables}
use Rattle.concrete_sem.proofs.Numbers.{given}
use Rattle.domain_laws.specs.Checks.{Check, Within, IsCell, Claims, check_of, fault_of}
use Rattle.domain_laws.specs.Claims.{ChecksTo, FailsCheck}
use Rattle.domain_laws.proofs.CheckLaws.{andthen-faults, check-passed, check-failed}
use Rattle.fault_points.specs.declared.point.FaultPoint.{FaultPoint}
use Rattle.fault_points.specs.Points.{point, checked, is_length, term_points, guard_points, effect_points}
use Rattle.fault_points.specs.Exact.{NoneFails, SomeFails, AreExact, PointsAreExact}
use Rattle.fault_points.proofs.Sequences.{nothing, none_both, some_left, some_right, then_exact, map_exact, one_point}
use Rattle.fault_points.proofs.Truths.{length_is}
use Rattle.fault_points.proofs.Terms.{term_exact, guard_exact, call_exact}

-- what comes behind an operation that faults in one way alone
only : {A B : Type 0} (o : Attempt A) (f : A → B) (j k : FaultKind) → ((i : FaultKind) → o ≡ Faults i → j ≡ i) → andthen o (λ a. Gives (f a)) ≡ Faults k → j ≡ k
only (Gives a) f j k h e = absurd (cc)
only (Faults i) f j k h e = let d : i ≡ k = cc in h i refl ∙ d
only LacksInput f j k h e = absurd (cc)

given_index : {A : Type 0} (j k : FaultKind) (o : Option A) → given_or j o ≡ Faults k → j ≡ k
given_index j k None e = cc
given_index j k (Some a) e = absurd (cc)

element_fault : (zs : List ℤ) (i : ℤ) (k : FaultKind) → element zs i ≡ Faults k → Index ≡ k
element_fault zs (pos n) k e = given_index Index k (slice_get zs n) e
element_fault zs (negsuc n) k e = cc

set_if : (b : Bool) (ys : List ℤ) (k : FaultKind) → (if b then Gives ys else Faults Index) ≡ Faults k → Index ≡ k
set_if true ys k e = absurd (cc)
set_if false ys k e = cc

with_element_fault : (zs : List ℤ) (i z : ℤ) (k : FaultKind) → with_element zs i z ≡ Faults k → Index ≡ k
with_element_fault zs (pos n) z k e = set_if (nat_lt n (length zs)) (slice_set zs n z) k e
with_element_fault zs (negsuc n) z k e = cc

cell_fault : (cells : List Cell) (l : Option ℕ) (k : FaultKind) → cell_of cells l ≡ Faults k → Null ≡ k
cell_fault cells None k e = cc
cell_fault cells (Some n) k e = only (given_or Null (slice_get cells n)) (λ c. (n, c)) Null k (λ i d. given_index Null i (slice_get cells n) d) e

-- a length
length_if : {A : Type 0} (v : Variables) (e : Term) (n : ℕ) (f : List ℤ → A) (b : Bool) → nat_le n 1000000 ≡ b → truth_of v (is_length e) ≡ Gives b → AreExact v (point BadLength (is_length e) ∷ []) (andthen (if b then Gives (replicate n (pos 0)) else Faults BadLength) (λ zs. Gives (f zs)))
length_if v e n f true i t = one_point v BadLength (is_length e) true (f (replicate n (pos 0))) t
length_if v e n f false i t = record { passes = λ a g. absurd (cc); fails = λ k g. inl (cc, t) }

length_exact : {A : Type 0} (v : Variables) (e : Term) (x : ℤ) (f : List ℤ → A) → value_of v e ≡ Gives x → AreExact v (point BadLength (is_length e) ∷ []) (andthen (new_array x) (λ zs. Gives (f zs)))
length_exact v e (pos n) f t = length_if v e n f (nat_le n 1000000) refl (length_is v e (pos n) t ∙ ap Gives (same n))
  where
    same : (n : ℕ) → (if int_le (pos 0) (pos n) then int_le (pos n) (pos 1000000) else false) ≡ nat_le n 1000000
    same n = let a : int_le (pos 0) (pos n) ≡ true = grind (arith, ints) in rw a refl
length_exact v e (negsuc n) f t = record { passes = λ a g. absurd (cc); fails = λ k g. inl (cc, length_is v e (negsuc n) t) }

module _ (l : Layout) (h : Heap) (v : Variables) (proper : IsProper h (v ∷ []) (l ∷ [])) where
  are : AreVariables (length h.cells) l v
  are = proper.frames.0

  -- the point of a statement's check comes after these
  with_check : (e : Effect) (c : Check) (xs : List FaultPoint) → check_of e ≡ Some c → ((x : Heap × Variables) → effect_of e h v ≡ Gives x → NoneFails v xs) → ((k : FaultKind) → effect_of e h v ≡ Faults k → SomeFails v k xs ⊎ (fault_of c ≡ k)) → AreExact v (xs ++ (checked c ∷ [])) (effect_of e h v)
  with_check e c xs is passes fails = record {
    passes = λ x g. none_both v xs (checked c ∷ []) (passes x g) (subst (ChecksTo v true) is (check-passed e h v x g), tt);
    fails = λ k g. elim (fails k g) [
      | inl s ↦ some_left v k xs (checked c ∷ []) s
      | inr i ↦ some_right v k xs (checked c ∷ []) (inl (i, subst (ChecksTo v false) is (check-failed e h v are.links (subst (FailsCheck h v e) (sym is) (g ∙ ap Faults (sym i))))))
    ];
  }

  pub effect_exact : (e : Effect) → fits_effect l e ≡ true → AreExact v (effect_points e) (effect_of e h v)
  unfolding effect_of effect_points fits_effect
  effect_exact Skip f = nothing v _
  effect_exact (Assert g) f =
      then_exact v (guard_points g) (checked (Claims g) ∷ []) (truth_of v g) (λ b. if b then Gives (h, v) else Faults Failed) (guard_exact (length h.cells) l v are g f)
      (λ b t. one_point v Failed g b (h, v) t)
  effect_exact (SetInt x e) f = map_exact v (term_points e) (value_of v e) _ (term_exact (length h.cells) l v are e (and_parts (is_int l x) (fits_term l e) f).1)
  effect_exact (Input x) f = input h.inputs
    where
      input : (zs : List ℤ) → AreExact v [] (take_input h.cells zs v x)
      input [] = record { passes = λ a e. tt; fails = λ k e. absurd (cc) }
      input (z ∷ zs) = nothing v _
  effect_exact (ReadElement x a e) f =
      let t = term_exact (length h.cells) l v are e (and_parts (is_array l a) (fits_term l e) (and_parts (is_int l x) (is_array l a && fits_term l e) f).1).1 in
      with_check (ReadElement x a e) (Within a e) (term_points e) refl
      (λ y g. let i = given (value_of v e) (λ i. andthen (element (array_at v a) i) (λ z. Gives (h, with_number v x (Int z)))) y g in t.passes i.value i.was)
      (λ k g. elim (andthen-faults (value_of v e) (λ i. andthen (element (array_at v a) i) (λ z. Gives (h, with_number v x (Int z)))) k g) [
        | inl m ↦ inl (t.fails k m)
        | inr m ↦ inr (only (element (array_at v a) m.0) (λ z. (h, with_number v x (Int z))) Index k (element_fault (array_at v a) m.0) m.2)
      ])
  effect_exact (ReadItem x q) f =
      with_check (ReadItem x q) (IsCell q) [] refl (λ y g. tt)
      (λ k g. inr (only (cell_of h.cells (link_at v q)) (λ c. (h, with_number v x (Int c.1.item))) Null k (cell_fault h.cells (link_at v q)) g))
  effect_exact (MakeArray a e) f =
      then_exact v (term_points e) (point BadLength (is_length e) ∷ []) (value_of v e) (λ n. andthen (new_array n) (λ zs. Gives (h, with_number v a (Array zs)))) (term_exact (length h.cells) l v are e (and_parts (is_array l a) (fits_term l e) f).1)
      (λ n t. length_exact v e n (λ zs. (h, with_number v a (Array zs))) t)
  effect_exact (CopyArray a b) f = nothing v _
  effect_exact (WriteElement a e u) f =
      let k = and_parts (fits_term l e) (fits_term l u) (and_parts (is_array l a) (fits_term l e && fits_term l u) f).1 in
      let s = term_exact (length h.cells) l v are e k.0 in
      let t = term_exact (length h.cells) l v are u k.1 in
      with_check (WriteElement a e u) (Within a e) (term_points e ++ term_points u) refl
      (λ y g.
      let i = given (value_of v e) (λ i. andthen (value_of v u) (λ z. andthen (with_element (array_at v a) i z) (λ zs. Gives (h, with_number v a (Array zs))))) y g in
      let z = given (value_of v u) (λ z. andthen (with_element (array_at v a) i.value z) (λ zs. Gives (h, with_number v a (Array zs)))) y i.gives in
      none_both v (term_points e) (term_points u) (s.passes i.value i.was) (t.passes z.value z.was))
      (λ k g. elim (andthen-faults (value_of v e) (λ i. andthen (value_of v u) (λ z. andthen (with_element (array_at v a) i z) (λ zs. Gives (h, with_number v a (Array zs))))) k g) [
        | inl m ↦ inl (some_left v k (term_points e) (term_points u) (s.fails k m))
        | inr m ↦ elim (andthen-faults (value_of v u) (λ z. andthen (with_element (array_at v a) m.0 z) (λ zs. Gives (h, with_number v a (Array zs)))) k m.2) [
          | inl n ↦ inl (some_right v k (term_points e) (term_points u) (t.fails k n))
          | inr n ↦ inr (only (with_element (array_at v a) m.0 n.0) (λ zs. (h, with_number v a (Array zs))) Index k (with_element_fault (array_at v a) m.0 n.0) n.2)
        ]
      ])
  effect_exact (SetNull p) f = nothing v _
  effect_exact (MakeCell p) f = nothing v _
  effect_exact (CopyLink p q) f = nothing v _
  effect_exact (ReadNext p q) f =
      with_check (ReadNext p q) (IsCell q) [] refl (λ y g. tt)
      (λ k g. inr (only (cell_of h.cells (link_at v q)) (λ c. (h, with_link v p c.1.next)) Null k (cell_fault h.cells (link_at v q)) g))
  effect_exact (WriteNext p q) f =
      with_check (WriteNext p q) (IsCell p) [] refl (λ y g. tt)
      (λ k g. inr (only (cell_of h.cells (link_at v p)) (λ c. (with_cell h c.0 (record { item = c.1.item; next = link_at v q }), v)) Null k (cell_fault h.cells (link_at v p)) g))
  effect_exact (WriteItem p e) f =
      let t = term_exact (length h.cells) l v are e (and_parts (is_link l p) (fits_term l e) f).1 in
      with_check (WriteItem p e) (IsCell p) (term_points e) refl
      (λ y g. let z = given (value_of v e) (λ z. andthen (cell_of h.cells (link_at v p)) (λ c. Gives (with_cell h c.0 (record { item = z; next = c.1.next }), v))) y g in t.passes z.value z.was)
      (λ k g. elim (andthen-faults (value_of v e) (λ z. andthen (cell_of h.cells (link_at v p)) (λ c. Gives (with_cell h c.0 (record { item = z; next = c.1.next }), v))) k g) [
        | inl m ↦ inl (t.fails k m)
        | inr m ↦ inr (only (cell_of h.cells (link_at v p)) (λ c. (with_cell h c.0 (record { item = m.0; next = c.1.next }), v)) Null k (cell_fault h.cells (link_at v p)) m.2)
      ])

pub points_exact : PointsAreExact
points_exact l h v p = record {
  guards = guard_exact (length h.cells) l v p.frames.0;
  effects = effect_exact l h v p;
  calls = call_exact (length h.cells) l v p.frames.0;
}
