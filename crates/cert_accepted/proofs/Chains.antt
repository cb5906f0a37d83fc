-- The chains of a program: each once, through calls that are statements of it.
use Rattle.std.specs.Prelude.{◌≡◌, ◌+◌, ℕ, zero, suc, List, [], ◌∷◌, map, length, slice_get, Some, if◌then◌else◌}
use Rattle.std.proofs.Common.{refl, sym, ◌∙◌, subst, arith, inl, inr}
use Rattle.base_values.proofs.Cases.{by_test}
use Rattle.base_values.proofs.Members.{Member, here, there, either, Each, none_there, each_more}
use Rattle.imp_slots.specs.Plain.{Routine, code_numbers}
use Rattle.imp_slots.specs.Fits.{Distinct, routine_numbers}
use Rattle.imp_slots.proofs.Distinct.{not_in, left_once, right_once, once_both, apart}
use Rattle.imp_chains.specs.Chains.{calls_to, extended, through, chains_within, chains}
use Rattle.cert_accepted.proofs.Lists.{made, map_once, thins_in, thins_once}
use Rattle.cert_accepted.proofs.Numbers.{calls_thin, number_there}

-- A chain that ends in one of these calls, after one of these chains.
pub record Extends (zs : List (List ℕ)) (ns : List ℕ) (y : List ℕ) : Type 0 where
  pub last : ℕ
  pub before : List ℕ
  pub is : y ≡ last ∷ before
  pub call : Member last ns
  pub chain : Member before zs

extends : (zs : List (List ℕ)) (ns : List ℕ) (y : List ℕ) → Member y (extended zs ns) → Extends zs ns y
extends zs [] y m = elim m [ ]
extends zs (n ∷ ns) y m = elim (either y (map (λ z. n ∷ z) zs) (extended zs ns) m) [
  | inl a ↦ let k = made (λ z. n ∷ z) zs y a in record { last = n; before = k.item; is = sym k.is; call = here; chain = k.member }
  | inr b ↦ let k = extends zs ns y b in record { last = k.last; before = k.before; is = k.is; call = there k.call; chain = k.chain }
]

same_last : (n m : ℕ) (z y : List ℕ) → n ∷ z ≡ m ∷ y → n ≡ m
same_last n m z y e = cc

same_before : (n m : ℕ) (z y : List ℕ) → n ∷ z ≡ m ∷ y → z ≡ y
same_before n m z y e = cc

extended_once : (zs : List (List ℕ)) (ns : List ℕ) → Distinct zs → Distinct ns → Distinct (extended zs ns)
extended_once zs [] d e = tt
extended_once zs (n ∷ ns) d e =
    once_both (map (λ z. n ∷ z) zs) (extended zs ns) (map_once (λ z. n ∷ z) (λ x y i. same_before n n x y i) zs d) (extended_once zs ns d e.1)
    (λ y a b.
    let j = made (λ z. n ∷ z) zs y a in
    let k = extends zs ns y b in
    not_in n ns e.0 (subst (λ n. Member n ns) (same_last k.last n k.before j.item (sym k.is ∙ sym j.is)) k.call))

-- A chain through a call in one of these procedures, the first of which is the k-th.
pub record Goes (of : ℕ → List (List ℕ)) (k : ℕ) (rs : List Routine) (p : ℕ) (y : List ℕ) : Type 0 where
  pub last : ℕ
  pub before : List ℕ
  pub is : y ≡ last ∷ before
  pub place : ℕ
  pub routine : Routine
  pub at : slice_get rs place ≡ Some routine
  pub call : Member last (calls_to p routine.code)
  pub chain : Member before (of (k + place))

pub goes : (of : ℕ → List (List ℕ)) (k : ℕ) (rs : List Routine) (p : ℕ) (y : List ℕ) → Member y (through of k rs p) → Goes of k rs p y
goes of k [] p y m = elim m [ ]
goes of k (r ∷ rs) p y m = elim (either y (extended (of k) (calls_to p r.code)) (through of (suc k) rs p) m) [
  | inl a ↦
      let x = extends (of k) (calls_to p r.code) y a in
      let e : k ≡ k + 0 = omega arith in
      record { last = x.last; before = x.before; is = x.is; place = 0; routine = r; at = refl; call = x.call; chain = subst (λ k. Member x.before (of k)) e x.chain }
  | inr b ↦
      let x = goes of (suc k) rs p y b in
      let e : suc k + x.place ≡ k + suc x.place = omega arith in
      record { last = x.last; before = x.before; is = x.is; place = suc x.place; routine = x.routine; at = x.at; call = x.call; chain = subst (λ k. Member x.before (of k)) e x.chain }
]

-- its last call is a statement of these procedures
goes_number : (of : ℕ → List (List ℕ)) (k : ℕ) (rs : List Routine) (p : ℕ) (y : List ℕ) → (x : Goes of k rs p y) → Member x.last (routine_numbers rs)
goes_number of k rs p y x = number_there rs x.place x.routine x.last x.at (thins_in x.last (calls_thin p x.routine.code) x.call)

through_once : (of : ℕ → List (List ℕ)) (k : ℕ) (rs : List Routine) (p : ℕ) → Distinct (routine_numbers rs) → ((j : ℕ) → Distinct (of j)) → Distinct (through of k rs p)
through_once of k [] p d e = tt
through_once of k (r ∷ rs) p d e =
    once_both (extended (of k) (calls_to p r.code)) (through of (suc k) rs p)
    (extended_once (of k) (calls_to p r.code) (e k) (thins_once (calls_thin p r.code) (left_once (code_numbers r.code) (routine_numbers rs) d)))
    (through_once of (suc k) rs p (right_once (code_numbers r.code) (routine_numbers rs) d) e)
    (λ y a b.
    let j = extends (of k) (calls_to p r.code) y a in
    let x = goes of (suc k) rs p y b in
    apart j.last (code_numbers r.code) (routine_numbers rs) d (thins_in j.last (calls_thin p r.code) j.call)
    (subst (λ n. Member n (routine_numbers rs)) (same_last x.last j.last x.before j.before (sym x.is ∙ j.is)) (goes_number of (suc k) rs p y x)))

module _ (program : List Routine) (once : Distinct (routine_numbers program)) where
  pub chains_once : (most p : ℕ) → Distinct (chains_within most program p)
  chains_once zero p = tt
  chains_once (suc most) p =
      by_test (suc p) (length program) (λ c. Distinct (if c then [] ∷ [] else through (chains_within most program) 0 program p)) (λ e. (tt, tt))
      (λ e. through_once (chains_within most program) 0 program p once (chains_once most))

  -- the calls of a chain are statements of the program
  sites_in : (most p : ℕ) (z : List ℕ) → Member z (chains_within most program p) → Each (λ n. Member n (routine_numbers program)) z
  sites_in zero p z m = elim m [ ]
  sites_in (suc most) p z m =
      (by_test (suc p) (length program) (λ c. Member z (if c then [] ∷ [] else through (chains_within most program) 0 program p) → Each (λ n. Member n (routine_numbers program)) z)
      (λ e m. main z m)
      (λ e m. let x = goes (chains_within most program) 0 program p z m in
      subst (Each (λ n. Member n (routine_numbers program))) (sym x.is) (each_more (λ n. Member n (routine_numbers program)) x.last x.before (goes_number (chains_within most program) 0 program p z x) (sites_in most (0 + x.place) x.before x.chain)))) m
    where
      main : (z : List ℕ) → Member z ([] ∷ []) → Each (λ n. Member n (routine_numbers program)) z
      main z here = none_there (λ n. Member n (routine_numbers program))
      main z (there m) = elim m [ ]

  pub call_numbers : (p : ℕ) (z : List ℕ) → Member z (chains program p) → Each (λ n. Member n (routine_numbers program)) z
  call_numbers p z m = sites_in (length program) p z m
