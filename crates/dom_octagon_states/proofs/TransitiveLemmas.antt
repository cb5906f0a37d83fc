-- A closed matrix whose bounds are transitive obeys the triangle law.
use Rattle.std.specs.Prelude.{◌≡◌, ℕ, ◌<◌, ◌^◌, ℤ, pos, ◌+ℤ◌, int_lt, Option, Some, None, Bool, true, false, cond, List, refl}
use Rattle.std.proofs.Common.{ap, sym, ◌∙◌}
use Rattle.std.proofs.lemmas.Bool.{false≢true}
use Rattle.dbm_close.specs.Steps.{cut}
use Rattle.dbm_core.specs.Half.{HalfMatrix, entry, nodes}
use Rattle.dbm_core.specs.Weights.{AtMost, add_weight}
use Rattle.dbm_incremental.specs.ClosedMatrices.{IsClosed, IsWhole}
use Rattle.dom_octagon_states.specs.Transitive.{AreReached, IsTransitive, StayWithin, is_bound}

stays : (w : ℤ) (o : Option ℤ) (t : Bool) → AtMost (Some w) o → is_bound (cond t (Some w) None) ≡ true → AtMost (cond t (Some w) None) o
stays w o true h p = h
stays w o false h p = absurd (false≢true p)

-- a bound that two in a row lead to, none of which is cut
step : (a b c : Option ℤ) → AtMost a (add_weight b c) → (is_bound (cut b) ≡ true → is_bound (cut c) ≡ true → is_bound (cut a) ≡ true) → AtMost (cut a) (add_weight (cut b) (cut c))
step a None c h p = tt
step a (Some b) None h p = by_test (int_lt b (pos (2 ^ 64)))
  where
    by_test : (t : Bool) → AtMost (cut a) (add_weight (cond t (Some b) None) None)
    by_test true = tt
    by_test false = tt
step a (Some b) (Some c) h p = by_tests (int_lt b (pos (2 ^ 64))) (int_lt c (pos (2 ^ 64))) p
  where
    by_tests : (t u : Bool) → (is_bound (cond t (Some b) None) ≡ true → is_bound (cond u (Some c) None) ≡ true → is_bound (cut a) ≡ true) → AtMost (cut a) (add_weight (cond t (Some b) None) (cond u (Some c) None))
    by_tests false u p = tt
    by_tests true false p = tt
    by_tests true true p = both a h (p refl refl)
      where
        both : (a : Option ℤ) → AtMost a (Some (b +ℤ c)) → is_bound (cut a) ≡ true → AtMost (cut a) (Some (b +ℤ c))
        both None h p = absurd h
        both (Some w) h p = stays w (Some (b +ℤ c)) (int_lt w (pos (2 ^ 64))) h p

pub transitive_whole : (m : HalfMatrix) → IsClosed m → IsTransitive (nodes m) (entry m) → IsWhole m
transitive_whole m (u, p) t i k j hi hk hj =
    rw (p.entries i j hi hj, p.entries i k hi hk, p.entries k j hk hj)
    (step (u i j) (u i k) (u k j) (p.strong.triangles i k j hi hk hj)
    (λ a b. ap is_bound (sym (p.entries i j hi hj)) ∙ t i k j hi hk hj (ap is_bound (p.entries i k hi hk) ∙ a) (ap is_bound (p.entries k j hk hj) ∙ b)))

-- bounds in a row from node i lead to what a bound from it leads to
abbrev pub LeadsOn : HalfMatrix → ℕ → Type 0
LeadsOn m i = (k j : ℕ) → k < nodes m → j < nodes m → is_bound (entry m i k) ≡ true → is_bound (entry m k j) ≡ true → is_bound (entry m i j) ≡ true

pub leads_on : (m : HalfMatrix) (i : ℕ) (reached : List Bool) → AreReached m i reached → StayWithin m reached → LeadsOn m i
leads_on m i reached r s k j hk hj a b = sym (r j hj) ∙ s k hk (r k hk ∙ a) j hj b
