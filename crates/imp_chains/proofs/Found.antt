-- Statements and procedures are found, and chains go through callers.
use Rattle.std.specs.Prelude.{◌≡◌, ◌≢◌, ℕ, zero, suc, ◌+◌, ◌-◌, ◌<◌, ◌≤◌, nat_lt, List, [], ◌∷◌, ◌++◌, length, map, slice_get, Option, Some, None, Bool, true, false, if◌then◌else◌}
use Rattle.std.specs.Str.{bytes_eq}
use Rattle.std.proofs.Common.{refl, sym, ap, ◌∙◌, subst, arith}
use Rattle.std.proofs.lemmas.Bool.Decides.{nat_tests}
use Rattle.std.proofs.lemmas.Slice.Eq.{bytes_eq-Decides}
use Rattle.std.proofs.lemmas.List.{length-append}
use Rattle.std.proofs.lemmas.Option.{slice_get_within}
use Rattle.imp_slots.proofs.Distinct.{right_once}
use Rattle.base_values.proofs.Cases.{by_test}
use Rattle.imp_slots.specs.Plain.{Layout, Invoke, Code, Stop, Simple, If, While, Call, Break, Routine, code_numbers}
use Rattle.imp_slots.specs.Fits.{FitsCall, FitsCode, FitInTurn, Absent, Distinct, routine_numbers, IsChecked}
use Rattle.imp_chains.specs.Chains.{calls_to, extended, through, chains_within, has, holder_from, named_from}
use Rattle.imp_chains.specs.Claims.{ChainsAreThroughCallers, PlacesAreFound}
use Rattle.std.proofs.lemmas.Bool.{false≢true}

-- A number of one list that stands once in both is none of the other.
not_in : (n : ℕ) (ks ms : List ℕ) → Absent n (ks ++ ms) → has n ms ≡ true → ⊥
not_in n [] [] a h = cc
not_in n [] (m ∷ ms) a h =
    (by_test n m (λ c. (if c then true else has n ms) ≡ true → ⊥) (λ e h. a.0 e) (λ e h. not_in n [] ms a.1 h)) h
not_in n (k ∷ ks) ms a h = not_in n ks ms a.1 h

apart : (n : ℕ) (ks ms : List ℕ) → Distinct (ks ++ ms) → has n ms ≡ true → has n ks ≡ false
apart n [] ms d h = refl
apart n (k ∷ ks) ms d h =
    by_test n k (λ c. (if c then true else has n ks) ≡ false)
    (λ e. absurd (not_in k ks ms d.0 (subst (λ n. has n ms ≡ true) e h)))
    (λ e. apart n ks ms d.1 h)

has_left : (n : ℕ) (ks ms : List ℕ) → has n ks ≡ true → has n (ks ++ ms) ≡ true
has_left n [] ms h = absurd cc
has_left n (k ∷ ks) ms h =
    (by_test n k (λ c. (if c then true else has n ks) ≡ true → (if c then true else has n (ks ++ ms)) ≡ true) (λ e h. refl) (λ e h. has_left n ks ms h)) h

has_right : (n : ℕ) (ks ms : List ℕ) → has n ms ≡ true → has n (ks ++ ms) ≡ true
has_right n [] ms h = h
has_right n (k ∷ ks) ms h = by_test n k (λ c. (if c then true else has n (ks ++ ms)) ≡ true) (λ e. refl) (λ e. has_right n ks ms h)

has_in : (n : ℕ) (rs : List Routine) (p : ℕ) (r : Routine) → slice_get rs p ≡ Some r → has n (code_numbers r.code) ≡ true → has n (routine_numbers rs) ≡ true
has_in n [] p r e h = absurd cc
has_in n (x ∷ rs) zero r e h = let i : r ≡ x = cc in has_left n (code_numbers x.code) (routine_numbers rs) (subst (λ (r : Routine). has n (code_numbers r.code) ≡ true) i h)
has_in n (x ∷ rs) (suc p) r e h = has_right n (code_numbers x.code) (routine_numbers rs) (has_in n rs p r e h)

holds_at : (n k : ℕ) (rs : List Routine) (p : ℕ) (r : Routine) → Distinct (routine_numbers rs) → slice_get rs p ≡ Some r → has n (code_numbers r.code) ≡ true → holder_from n k rs ≡ Some (k + p)
holds_at n k [] p r d e h = absurd cc
holds_at n k (x ∷ rs) zero r d e h =
    let i : r ≡ x = cc in
    let j : k ≡ k + 0 = omega arith in
    ap (λ t. if t then Some k else holder_from n (suc k) rs) (subst (λ (r : Routine). has n (code_numbers r.code) ≡ true) i h) ∙ ap Some j
holds_at n k (x ∷ rs) (suc p) r d e h =
    let j : suc k + p ≡ k + suc p = omega arith in
    ap (λ t. if t then Some k else holder_from n (suc k) rs) (apart n (code_numbers x.code) (routine_numbers rs) d (has_in n rs p r e h))
    ∙ holds_at n (suc k) rs p r (right_once (code_numbers x.code) (routine_numbers rs) d) e h ∙ ap Some j

-- Names.
by_name : (x y : List ℕ) (P : Bool → Type 0) → (x ≡ y → P true) → (x ≢ y → P false) → P (bytes_eq x y)
by_name x y P t f = go (bytes_eq x y) refl
  where
    go : (c : Bool) → bytes_eq x y ≡ c → P c
    go true e = t ((bytes_eq-Decides x y).0 e)
    go false e = f (λ i. let k = (bytes_eq-Decides x y).1 i in false≢true (sym e ∙ k))

absent_name : (x : List ℕ) (rs : List Routine) (p : ℕ) (r : Routine) → Absent x (map (λ (r : Routine). r.name) rs) → slice_get rs p ≡ Some r → x ≢ r.name
absent_name x [] p r a e = absurd cc
absent_name x (y ∷ rs) zero r a e = let i : y ≡ r = cc in subst (λ (r : Routine). x ≢ r.name) i a.0
absent_name x (y ∷ rs) (suc p) r a e = absent_name x rs p r a.1 e

named_at : (k : ℕ) (rs : List Routine) (p : ℕ) (r : Routine) → Distinct (map (λ (r : Routine). r.name) rs) → slice_get rs p ≡ Some r → named_from r.name k rs ≡ Some (k + p)
named_at k [] p r d e = absurd cc
named_at k (y ∷ rs) zero r d e =
    let i : r ≡ y = cc in
    let j : k ≡ k + 0 = omega arith in
    by_name r.name y.name (λ c. (if c then Some k else named_from r.name (suc k) rs) ≡ Some (k + 0)) (λ n. ap Some j) (λ n. absurd (n (ap (λ (r : Routine). r.name) i)))
named_at k (y ∷ rs) (suc p) r d e =
    let j : suc k + p ≡ k + suc p = omega arith in
    by_name r.name y.name (λ c. (if c then Some k else named_from r.name (suc k) rs) ≡ Some (k + suc p))
    (λ n. absurd (absent_name y.name rs p r d.0 e (sym n)))
    (λ n. named_at (suc k) rs p r d.1 e ∙ ap Some j)

pub places_are_found : PlacesAreFound
places_are_found program c p r e =
    let j : 0 + p ≡ p = omega arith in
    record {
      statement = λ n h. holds_at n 0 program p r c.numbers_once e h ∙ ap Some j;
      name = named_at 0 program p r c.names_once e ∙ ap Some j;
    }

-- A procedure's callers stand after it.
pub callee_before : (before : List Routine) (l : Layout) (i : Invoke) (q : ℕ) (o : Option Routine) → slice_get before q ≡ o → FitsCall l i o → q < length before
callee_before before l i q None e f = absurd f
callee_before before l i q (Some c) e f = slice_get_within before q c e

not_before : (before : List Routine) (l : Layout) (i : Invoke) (q p : ℕ) → FitsCall l i (slice_get before q) → p ≡ q → length before ≤ p → ⊥
not_before before l i q p f e h = let k : q < length before = callee_before before l i q (slice_get before q) refl f in omega arith

pub called_earlier : (before : List Routine) (l : Layout) (p : ℕ) (c : Code) → FitsCode before l c → length before ≤ p → calls_to p c ≡ []
called_earlier before l p Stop f h = refl
called_earlier before l p (Simple n e r) f h = called_earlier before l p r f.1 h
called_earlier before l p (If n g t e r) f h = rw (called_earlier before l p t f.1 h, called_earlier before l p e f.2 h, called_earlier before l p r f.3 h) refl
called_earlier before l p (While n g b r) f h = rw (called_earlier before l p b f.1 h, called_earlier before l p r f.2 h) refl
called_earlier before l p (Call n i q r) f h =
    by_test p q (λ c. (if c then n ∷ calls_to p r else calls_to p r) ≡ [])
    (λ e. absurd (not_before before l i q p f.0 e h))
    (λ e. called_earlier before l p r f.1 h)
called_earlier before l p (Break n r) f h = called_earlier before l p r f h

-- Two ways to the chains of callers that agree on all procedures after p go through the same callers.
same_here : (f g : ℕ → List (List ℕ)) (before : List Routine) (r : Routine) (p k : ℕ) → FitsCode before r.layout r.code → k ≡ length before → (p < k → f k ≡ g k) → extended (f k) (calls_to p r.code) ≡ extended (g k) (calls_to p r.code)
same_here f g before r p k fit e s = by (nat_lt p k) refl
  where
    by : (c : Bool) → nat_lt p k ≡ c → extended (f k) (calls_to p r.code) ≡ extended (g k) (calls_to p r.code)
    by true t = let h : p < k = grind (arith, nat_tests) in ap (λ zs. extended zs (calls_to p r.code)) (s h)
    by false t =
        let h : length before ≤ p = grind (arith, nat_tests) in
        let n = called_earlier before r.layout p r.code fit h in
        ap (extended (f k)) n ∙ ap (extended (g k)) (sym n)

through_same : (f g : ℕ → List (List ℕ)) (before rs : List Routine) (p k : ℕ) → FitInTurn before rs → k ≡ length before → ((j : ℕ) → p < j → j < k + length rs → f j ≡ g j) → through f k rs p ≡ through g k rs p
through_same f g before [] p k fit e s = refl
through_same f g before (r ∷ rs) p k fit e s =
    let a = same_here f g before r p k fit.0.code e (λ h. s k h (omega arith)) in
    let n : suc k ≡ length (before ++ (r ∷ [])) = let q = length-append before (r ∷ []) in omega arith in
    let b = through_same f g (before ++ (r ∷ [])) rs p (suc k) fit.1 n (λ j h l. s j h (omega arith)) in
    ap (λ zs. zs ++ through f (suc k) rs p) a ∙ ap (λ zs. extended (g k) (calls_to p r.code) ++ zs) b

-- Enough call sites are enough.
module _ (program : List Routine) (checked : IsChecked program) where
  enough : (m a b p : ℕ) → length program ≤ m + suc p → m < a → m < b → chains_within a program p ≡ chains_within b program p
  enough m zero b p l h k = absurd (omega arith)
  enough m (suc a) zero p l h k = absurd (omega arith)
  enough zero (suc a) (suc b) p l h k =
      by_test (suc p) (length program) (λ c. (if c then [] ∷ [] else through (chains_within a program) 0 program p) ≡ (if c then [] ∷ [] else through (chains_within b program) 0 program p))
      (λ e. refl)
      (λ e. through_same (chains_within a program) (chains_within b program) [] program p 0 checked.fit refl (λ j u v. absurd (omega arith)))
  enough (suc m) (suc a) (suc b) p l h k =
      by_test (suc p) (length program) (λ c. (if c then [] ∷ [] else through (chains_within a program) 0 program p) ≡ (if c then [] ∷ [] else through (chains_within b program) 0 program p))
      (λ e. refl)
      (λ e. through_same (chains_within a program) (chains_within b program) [] program p 0 checked.fit refl (λ j u v. enough m a b j (omega arith) (omega arith) (omega arith)))

  go_through : (n p : ℕ) → length program ≡ n → suc p < n → chains_within n program p ≡ through (chains_within n program) 0 program p
  go_through zero p e h = absurd (omega arith)
  go_through (suc n) p e h =
      by_test (suc p) (length program) (λ c. (if c then [] ∷ [] else through (chains_within n program) 0 program p) ≡ through (chains_within (suc n) program) 0 program p)
      (λ i. absurd (omega arith))
      (λ i. through_same (chains_within n program) (chains_within (suc n) program) [] program p 0 checked.fit refl
      (λ j u v. enough (length program - suc j) n (suc n) j (omega arith) (omega arith) (omega arith)))

pub chains_through_callers : ChainsAreThroughCallers
chains_through_callers program checked p h = go_through program checked (length program) p refl h

-- a number that is not among them
pub lacks : (n : ℕ) (ns : List ℕ) → has n ns ≡ false → Absent n ns
lacks n [] h = tt
lacks n (m ∷ ns) h = (by_test n m (λ b. (if b then true else has n ns) ≡ false → Absent n (m ∷ ns)) (λ e h. absurd cc) (λ e h. (e, lacks n ns h))) h
