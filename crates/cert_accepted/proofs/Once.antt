-- Each loop stands under each chain once.
use Rattle.std.specs.Prelude.{◌≡◌, ◌+◌, ℕ, zero, suc, List, [], ◌∷◌, map, length, slice_get, Some}
use Rattle.std.proofs.Common.{refl, sym, ap, subst, arith, inl, inr}
use Rattle.base_values.proofs.Members.{Member, here, there, in_left, in_right, either, in_map}
use Rattle.imp_slots.specs.Plain.{Routine, code_numbers}
use Rattle.imp_slots.specs.Fits.{Distinct, routine_numbers}
use Rattle.imp_slots.proofs.Distinct.{not_in, left_once, right_once, once_both, apart}
use Rattle.imp_chains.specs.Chains.{chains}
use Rattle.cert_meaning.specs.Written.{loops}
use Rattle.cert_lines.specs.Certificate.{under, loops_from}
use Rattle.cert_accepted.proofs.Lists.{made, map_once, thins_once}
use Rattle.cert_accepted.proofs.Numbers.{loops_thin, loop_number}
use Rattle.cert_accepted.proofs.Chains.{chains_once}
use Rattle.std.proofs.lemmas.Option.{same_Some}

module _ (program : List Routine) (once : Distinct (routine_numbers program)) where
  under_in : (ns : List ℕ) (zs : List (List ℕ)) (x : List ℕ × ℕ) → Member x (under ns zs) → Member x.0 zs × Member x.1 ns
  under_in ns [] x m = elim m [ ]
  under_in ns (z ∷ zs) x m = elim (either x (map (λ n. (z, n)) ns) (under ns zs) m) [
    | inl a ↦ let k = made (λ n. (z, n)) ns x a in (subst (λ y. Member y (z ∷ zs)) (ap (λ (p : List ℕ × ℕ). p.0) k.is) here, subst (λ n. Member n ns) (ap (λ (p : List ℕ × ℕ). p.1) k.is) k.member)
    | inr b ↦ let k = under_in ns zs x b in (there k.0, k.1)
  ]

  in_under : (ns : List ℕ) (zs : List (List ℕ)) (z : List ℕ) (n : ℕ) → Member z zs → Member n ns → Member (z, n) (under ns zs)
  in_under ns [] z n m k = elim m [ ]
  in_under ns (y ∷ zs) z n here k = in_left (under ns zs) (in_map (λ n. (y, n)) n ns k)
  in_under ns (y ∷ zs) z n (there m) k = in_right (map (λ n. (y, n)) ns) (in_under ns zs z n m k)

  under_once : (ns : List ℕ) (zs : List (List ℕ)) → Distinct ns → Distinct zs → Distinct (under ns zs)
  under_once ns [] d e = tt
  under_once ns (z ∷ zs) d e =
      once_both (map (λ n. (z, n)) ns) (under ns zs) (map_once (λ n. (z, n)) (λ x y i. ap (λ (p : List ℕ × ℕ). p.1) i) ns d) (under_once ns zs d e.1)
      (λ x a b. let k = made (λ n. (z, n)) ns x a in not_in z zs e.0 (subst (λ y. Member y zs) (sym (ap (λ (p : List ℕ × ℕ). p.0) k.is)) (under_in ns zs x b).0))

  -- A loop under a chain to its procedure, which is one of these.
  pub record Stands (k : ℕ) (rs : List Routine) (x : List ℕ × ℕ) : Type 0 where
    pub place : ℕ
    pub routine : Routine
    pub at : slice_get rs place ≡ Some routine
    pub loop : Member x.1 (loops routine.code)
    pub chain : Member x.0 (chains program (k + place))

  pub stands : (k : ℕ) (rs : List Routine) (x : List ℕ × ℕ) → Member x (loops_from program k rs) → Stands k rs x
  stands k [] x m = elim m [ ]
  stands k (r ∷ rs) x m = elim (either x (under (loops r.code) (chains program k)) (loops_from program (suc k) rs) m) [
    | inl a ↦
        let i = under_in (loops r.code) (chains program k) x a in
        let e : k ≡ k + 0 = omega arith in
        record { place = 0; routine = r; at = refl; loop = i.1; chain = subst (λ k. Member x.0 (chains program k)) e i.0 }
    | inr b ↦
        let s = stands (suc k) rs x b in
        let e : suc k + s.place ≡ k + suc s.place = omega arith in
        record { place = suc s.place; routine = s.routine; at = s.at; loop = s.loop; chain = subst (λ k. Member x.0 (chains program k)) e s.chain }
  ]

  pub stands_there : (k : ℕ) (rs : List Routine) (j : ℕ) (r : Routine) (z : List ℕ) (n : ℕ) → slice_get rs j ≡ Some r → Member n (loops r.code) → Member z (chains program (k + j)) → Member (z, n) (loops_from program k rs)
  stands_there k [] j r z n at loop chain = absurd cc
  stands_there k (x ∷ rs) zero r z n at loop chain =
      let e : k + 0 ≡ k = omega arith in
      in_left (loops_from program (suc k) rs) (in_under (loops x.code) (chains program k) z n (subst (λ k. Member z (chains program k)) e chain) (subst (λ (r : Routine). Member n (loops r.code)) (sym (same_Some x r at)) loop))
  stands_there k (x ∷ rs) (suc j) r z n at loop chain =
      let e : k + suc j ≡ suc k + j = omega arith in
      in_right (under (loops x.code) (chains program k)) (stands_there (suc k) rs j r z n at loop (subst (λ k. Member z (chains program k)) e chain))

  loops_number : (k : ℕ) (rs : List Routine) (x : List ℕ × ℕ) → Member x (loops_from program k rs) → Member x.1 (routine_numbers rs)
  loops_number k [] x m = elim m [ ]
  loops_number k (r ∷ rs) x m = elim (either x (under (loops r.code) (chains program k)) (loops_from program (suc k) rs) m) [
    | inl a ↦ in_left (routine_numbers rs) (loop_number x.1 r.code (under_in (loops r.code) (chains program k) x a).1)
    | inr b ↦ in_right (code_numbers r.code) (loops_number (suc k) rs x b)
  ]

  pub loops_once : (k : ℕ) (rs : List Routine) → Distinct (routine_numbers rs) → Distinct (loops_from program k rs)
  loops_once k [] d = tt
  loops_once k (r ∷ rs) d =
      once_both (under (loops r.code) (chains program k)) (loops_from program (suc k) rs)
      (under_once (loops r.code) (chains program k) (thins_once (loops_thin r.code) (left_once (code_numbers r.code) (routine_numbers rs) d)) (chains_once program once (length program) k))
      (loops_once (suc k) rs (right_once (code_numbers r.code) (routine_numbers rs) d))
      (λ x a b.
      apart x.1 (code_numbers r.code) (routine_numbers rs) d (loop_number x.1 r.code (under_in (loops r.code) (chains program k) x a).1) (loops_number (suc k) rs x b))
