-- Chains that runs take are among those of the program.
use Rattle.std.specs.Prelude.{◌≡◌, ℕ, zero, suc, ◌+◌, List, [], ◌∷◌, map, slice_get, Some, Bool, true, false, if◌then◌else◌}
use Rattle.std.proofs.Common.{refl, sym, subst, arith, ap}
use Rattle.imp_slots.proofs.Distinct.{left_once, right_once}
use Rattle.imp_slots.specs.Plain.{Routine, code_numbers}
use Rattle.imp_slots.specs.Fits.{Distinct, routine_numbers}
use Rattle.imp_chains.specs.Chains.{calls_to, extended, through, ends_in, ending_in, has}
use Rattle.base_values.proofs.Cases.{by_test}
use Rattle.base_values.proofs.Members.{Member, here, there, in_left, in_right, in_map}

pub in_extended : (n : ℕ) (z : List ℕ) (zs : List (List ℕ)) (ns : List ℕ) → Member z zs → Member n ns → Member (n ∷ z) (extended zs ns)
in_extended n z zs [] m k = elim k [ ]
in_extended n z zs (j ∷ ns) m here = in_left _ (in_map (λ z. j ∷ z) z zs m)
in_extended n z zs (j ∷ ns) m (there k) = in_right (map (λ z. j ∷ z) zs) (in_extended n z zs ns m k)

-- a chain through a call of a procedure of the list, the first of which is the k-th
pub in_through : (chains_of : ℕ → List (List ℕ)) (k : ℕ) (rs : List Routine) (q j : ℕ) (r : Routine) (y : List ℕ) → slice_get rs j ≡ Some r → Member y (extended (chains_of (k + j)) (calls_to q r.code)) → Member y (through chains_of k rs q)
in_through of k [] q j r y e m = absurd cc
in_through of k (x ∷ rs) q zero r y e m =
    let i : r ≡ x = cc in
    let z : k + 0 ≡ k = omega arith in
    in_left _ (subst (λ (r : Routine). Member y (extended (of k) (calls_to q r.code))) i (subst (λ n. Member y (extended (of n) (calls_to q r.code))) z m))
in_through of k (x ∷ rs) q (suc j) r y e m =
    let z : k + suc j ≡ suc k + j = omega arith in
    in_right (extended (of k) (calls_to q x.code)) (in_through of (suc k) rs q j r y e (subst (λ n. Member y (extended (of n) (calls_to q r.code))) z m))

keep_or_not : {z : List ℕ} (c : Bool) (y : List ℕ) (zs : List (List ℕ)) → Member z zs → Member z (if c then y ∷ zs else zs)
keep_or_not true y zs m = there m
keep_or_not false y zs m = m

pub in_selected : (s z : List ℕ) (zs : List (List ℕ)) → Member z zs → ends_in s z ≡ true → Member z (ending_in s zs)
in_selected s z [] m e = elim m [ ]
in_selected s z (y ∷ zs) here e = subst (λ c. Member z (if c then y ∷ ending_in s zs else ending_in s zs)) (sym e) here
in_selected s z (y ∷ zs) (there m) e = keep_or_not (ends_in s y) y (ending_in s zs) (in_selected s z zs m e)

-- all of them end in the empty string
pub every_ends : (zs : List (List ℕ)) → ending_in [] zs ≡ zs
every_ends [] = refl
every_ends (z ∷ zs) = ap (λ ys. z ∷ ys) (every_ends zs)

pub has_member : (n : ℕ) (ns : List ℕ) → Member n ns → has n ns ≡ true
has_member n [] m = elim m [ ]
has_member n (k ∷ ns) here = by_test n n (λ c. (if c then true else has n ns) ≡ true) (λ e. refl) (λ e. absurd (e refl))
has_member n (k ∷ ns) (there m) = by_test n k (λ c. (if c then true else has n ns) ≡ true) (λ e. refl) (λ e. has_member n ns m)

pub once_in : (rs : List Routine) (p : ℕ) (r : Routine) → Distinct (routine_numbers rs) → slice_get rs p ≡ Some r → Distinct (code_numbers r.code)
once_in [] p r d e = absurd cc
once_in (x ∷ rs) zero r d e = let i : x ≡ r = cc in subst (λ (r : Routine). Distinct (code_numbers r.code)) i (left_once (code_numbers x.code) (routine_numbers rs) d)
once_in (x ∷ rs) (suc p) r d e = once_in rs p r (right_once (code_numbers x.code) (routine_numbers rs) d) e
