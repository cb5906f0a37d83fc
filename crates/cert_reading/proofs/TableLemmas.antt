-- Tables of states and of chains, one entry at a time.
use Rattle.std.proofs.Common.{ℕ, ◌≡◌, ◌+◌, ◌<◌, ◌≤◌, true, List, [], ◌∷◌, ◌++◌, length, slice_get, refl, sym, ap, ◌∙◌, arith}
use Rattle.std.specs.Prelude.{◌==◌, ◌||◌, nat_lt, if◌then◌else◌}
use Rattle.std.specs.Str.{bytes_eq}
use Rattle.std.specs.List.{list_any}
use Rattle.std.proofs.lemmas.Bool.Decides.{nat_tests}
use Rattle.std.proofs.lemmas.List.{length_push}
use Rattle.std.proofs.lemmas.Option.{slice_get_past}
use Rattle.imp_slots.specs.Plain.{Routine}
use Rattle.imp_slots.specs.Fits.{IsChecked}
use Rattle.imp_chains.specs.Chains.{chains}
use Rattle.base_values.proofs.Cases.{by_bool}
use Rattle.base_values.proofs.Lists.{get_last, get_other}
use Rattle.call_contexts.proofs.Tabled.{none_past}
use Rattle.cert_lines.specs.Lines.{is_chain}
use Rattle.cert_reading.specs.Table.{in_set, chain_in, AreChains}
use Rattle.call_contexts.proofs.Placed.{same_names, or_last}

-- chains of a set are looked for from the first on
pub any_chain : (z : List ℕ) (zs : List (List ℕ)) → list_any (bytes_eq z) zs ≡ is_chain z zs
any_chain z [] = refl
any_chain z (y ∷ ys) = or_last (bytes_eq z y) (list_any (bytes_eq z) ys) ∙ ap (λ b. if bytes_eq z y then true else b) (any_chain z ys)

-- a chain is put into a set
pub set_put : (before behind : List (List ℕ)) (key : List ℕ) → ((q : List ℕ) → list_any (bytes_eq q) behind ≡ (if bytes_eq key q then true else list_any (bytes_eq q) before)) → (z : List ℕ) → is_chain z behind ≡ (if bytes_eq z key then true else is_chain z before)
set_put before behind key put z =
    sym (any_chain z behind) ∙ put z ∙ (λ i. if same_names key z i then true else any_chain z before i)

-- The chains to the procedures so far.
pub record Chained (program : List Routine) (sets : List (List (List ℕ))) (place : ℕ) : Type 0 where
  pub count : length sets ≡ place
  pub told : (p : ℕ) (z : List ℕ) → p < place → chain_in sets p z ≡ is_chain z (chains program p)

pub sets_step : (program : List Routine) (sets more : List (List (List ℕ))) (place : ℕ) (set : List (List ℕ)) → more ≡ sets ++ set ∷ [] → ((z : List ℕ) → is_chain z set ≡ is_chain z (chains program place)) → Chained program sets place → Chained program more (place + 1)
sets_step program sets more place set e f c = record {
  count = ap length e ∙ length_push sets set ∙ ap (λ n. n + 1) c.count;
  told = λ p z h. by_bool (p == place)
      (λ b.
      let k : p ≡ place = grind (arith, nat_tests, b) in
      ap (λ ss. in_set (slice_get ss p) z) e
      ∙ ap (λ q. in_set (slice_get (sets ++ set ∷ []) q) z) (k ∙ sym c.count)
      ∙ ap (λ o. in_set o z) (get_last sets set)
      ∙ f z ∙ ap (λ q. is_chain z (chains program q)) (sym k))
      (λ b.
      let k : p < place = grind (arith, nat_tests, b, h) in
      let l = c.count in
      ap (λ ss. in_set (slice_get ss p) z) e ∙ ap (λ o. in_set o z) (get_other sets set p (λ n. omega (arith, n, l, k))) ∙ c.told p z k);
}

pub sets_whole : (program : List Routine) (sets : List (List (List ℕ))) (place : ℕ) → IsChecked program → length program ≤ place → Chained program sets place → AreChains program sets
sets_whole program sets place checked h c p z = by_bool (nat_lt p place) (λ b. c.told p z (grind (arith, nat_tests, b))) (λ b. let k : place ≤ p = grind (arith, nat_tests, b) in let l = c.count in ap (λ o. in_set o z) (slice_get_past sets p (omega (arith, l, k))) ∙ sym (ap (is_chain z) (none_past program p checked (omega (arith, h, k)))))
