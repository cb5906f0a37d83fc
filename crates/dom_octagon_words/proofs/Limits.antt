-- What is taken is within the limits.
use Rattle.std.specs.Prelude.{◌≡◌, ◌≤◌, ◌^◌, ℤ, pos, neg_ℤ, int_lt, not, ◌≤ℤ◌, List, [], ◌∷◌, length, Option, Some, None, option_map, Bool, true, false, IfSome, Result, Ok, Err, IfOk, if◌then◌else◌}
use Rattle.std.proofs.Common.{refl, sym, arith, subst}
use Rattle.std.proofs.lemmas.Bool.{and_parts}
use Rattle.std.proofs.lemmas.Int.{ints}
use Rattle.dbm_core.specs.Half.{HalfMatrix, entry}
use Rattle.dbm_core.specs.Limits.{IsLimited, IsWithin}
use Rattle.cert_words.specs.Words.{is_number}
use Rattle.dom_octagon_meaning.proofs.Fitting.{FitsMatrix}
use Rattle.dom_octagon_meaning.specs.Covers.{in_limits}
use Rattle.dom_octagon_words.specs.Words.{matrix_with, empty_of, bounded_of, kept_of}
use Rattle.dom_octagon_words.proofs.Words.{matrix_exact}
use Rattle.dom_octagon_words.proofs.Entries.{above}

limits-within : (o : Option ℤ) → in_limits o ≡ true → IsWithin (2 ^ 64) o
limits-within None h = tt
limits-within (Some x) h =
    let p = and_parts (not (int_lt x (neg_ℤ (pos (2 ^ 64))))) (int_lt x (pos (2 ^ 64))) h in
    (above x (neg_ℤ (pos (2 ^ 64))) p.0, below x (pos (2 ^ 64)) p.1)
  where
    below : (a b : ℤ) → int_lt a b ≡ true → a ≤ℤ b
    below a b e = grind (arith, ints)

-- a matrix that fits is within the limits
pub fits-limited : (kinds : List Bool) (m : HalfMatrix) → FitsMatrix kinds m → IsLimited (2 ^ 64) m
fits-limited kinds m h = record { diagonal = h.diagonal; within = λ i j hi hj. limits-within (entry m i j) (h.limits i j hi hj) }

abbrev AreLimited : Option (Option HalfMatrix) → Type 0
AreLimited found = IfSome found (λ o. IfSome o (IsLimited (2 ^ 64)))

matrix-limited : (kinds : List Bool) (ws : List (Option ℤ)) (o : Option HalfMatrix) → length kinds ≤ 16 → matrix_with kinds ws ≡ o → AreLimited (option_map Some o)
matrix-limited kinds ws None few e = tt
matrix-limited kinds ws (Some m) few e = fits-limited kinds m (matrix_exact kinds ws m few e).0

bounded-limited : (o : Option (List Bool)) (ws : List (Option ℤ)) → IfSome o (λ k. length k ≤ 16) → AreLimited (bounded_of o ws)
bounded-limited None ws few = tt
bounded-limited (Some kinds) ws few = matrix-limited kinds ws (matrix_with kinds ws) few refl

empty-limited : (ws : List (Option ℤ)) → AreLimited (empty_of ws)
empty-limited [] = tt
empty-limited (w ∷ ws) = tt

kept-limited : (o : Option (List Bool)) (ws : List (Option ℤ)) → IfSome o (λ k. length k ≤ 16) → AreLimited (kept_of o ws)
kept-limited o [] few = tt
kept-limited o (w ∷ ws) few = by (is_number 0 w) (is_number 1 w)
  where
    by : (a b : Bool) → AreLimited (if a then empty_of ws else (if b then bounded_of o ws else None))
    by true b = empty-limited ws
    by false true = bounded-limited o ws few
    by false false = tt

pub kept_limited : {E : Type 0} (r : Result (Option (Option HalfMatrix)) E) (o : Option (List Bool)) (ws : List (Option ℤ)) → IfSome o (λ k. length k ≤ 16) → IfOk r (λ found. found ≡ kept_of o ws) →
    IfOk r (λ found. IfSome found (λ o. IfSome o (IsLimited (2 ^ 64))))
kept_limited (Ok found) o ws few e = subst AreLimited (sym e) (kept-limited o ws few)
kept_limited (Err x) o ws few e = tt
