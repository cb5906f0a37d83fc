-- Thresholds doubled: the least that is not less than a bound is the double of the least that is not less than half of it.
use Rattle.std.specs.Prelude.{◌≡◌, ◌^◌, ℤ, pos, neg_ℤ, ◌+ℤ◌, ◌≤ℤ◌, ◌<ℤ◌, Option, Some, None, Bool, true, false, FitsSigned, cond, int_lt, if◌then◌else◌, List, [], ◌∷◌, refl}
use Rattle.std.specs.Int.{int_div_euclid, int_max, int_min}
use Rattle.std.proofs.Common.{arith, ap, sym, ◌∙◌, suc}
use Rattle.std.proofs.lemmas.Int.{ints}
use mir.Syntax.{w64}
use Rattle.dbm_close.proofs.HalvesLemmas.{halved-high, halved-low}
use Rattle.dbm_core.proofs.ThresholdLemmas.{by_order}
use Rattle.dbm_core.specs.Limits.{IsWithin}
use Rattle.dbm_core.specs.Operations.{next_threshold, threshold_value}
use Rattle.dbm_core.specs.Weights.{least}
use Rattle.num_thresholds.specs.Thresholds.{lesser, least_from, AreWords}
use Rattle.dbm_narrow.specs.Widths.{start_at}

-- a threshold, or its double, is less than x exactly where the threshold is less than z
abbrev pub IsStart : Bool → ℤ → ℤ → Type 0
IsStart d x z = (m : ℤ) → int_lt (threshold_value d m) x ≡ int_lt m z

yes : (x y : ℤ) → x <ℤ y → int_lt x y ≡ true
yes x y h = grind (arith, ints)

no : (x y : ℤ) → y ≤ℤ x → int_lt x y ≡ false
no x y h = grind (arith, ints)

starts : (x h : ℤ) → (h +ℤ h) ≤ℤ (x +ℤ pos 1) → (x +ℤ pos 1) ≤ℤ ((h +ℤ h) +ℤ pos 1) → IsStart true x h
starts x h p q m = by_order (λ t. int_lt (m +ℤ m) x ≡ t) m h (λ l. yes (m +ℤ m) x (omega (arith, ints))) (λ l. no (m +ℤ m) x (omega (arith, ints)))

start-is : (d : Bool) (x : ℤ) → IsStart d x (start_at d x)
start-is true x = starts x (int_div_euclid (x +ℤ pos 1) (pos 2)) (halved-low (x +ℤ pos 1)) (halved-high (x +ℤ pos 1))
start-is false x = λ m. refl

-- the value of a threshold, if there is one
abbrev pub valued : Bool → Option ℤ → Option ℤ
valued d None = None
valued d (Some m) = Some (threshold_value d m)

min-doubled : (m w : ℤ) → int_min m w +ℤ int_min m w ≡ int_min (m +ℤ m) (w +ℤ w)
min-doubled m w = grind (arith, ints)

min-valued : (d : Bool) (m w : ℤ) → threshold_value d (int_min m w) ≡ int_min (threshold_value d m) (threshold_value d w)
min-valued false m w = refl
min-valued true m w = min-doubled m w

least-valued : (d : Bool) (m : ℤ) (o : Option ℤ) → valued d (least (Some m) o) ≡ least (Some (threshold_value d m)) (valued d o)
least-valued d m None = refl
least-valued d m (Some w) = ap Some (min-valued d m w)

valued-from : (ms : List ℤ) (d : Bool) (x z : ℤ) → IsStart d x z → valued d (next_threshold ms false z) ≡ next_threshold ms d x
valued-from [] d x z s = refl
valued-from (m ∷ ms) d x z s =
    elim (int_lt m z) as (λ t. valued d (cond t (next_threshold ms false z) (least (Some m) (next_threshold ms false z))) ≡ cond t (next_threshold ms d x) (least (Some (threshold_value d m)) (next_threshold ms d x))) [
      | true ↦ valued-from ms d x z s
      | false ↦ least-valued d m (next_threshold ms false z) ∙ ap (least (Some (threshold_value d m))) (valued-from ms d x z s)
    ]
    ∙ ap (λ t. cond t (next_threshold ms d x) (least (Some (threshold_value d m)) (next_threshold ms d x))) (sym (s m))

-- the next threshold is the value of the least one that is not less than the start
pub next-valued : (ms : List ℤ) (d : Bool) (x : ℤ) → valued d (next_threshold ms false (start_at d x)) ≡ next_threshold ms d x
next-valued ms d x = valued-from ms d x (start_at d x) (start-is d x)

-- the least threshold that is not below a number is the next one
lesser-least : (m : ℤ) (o : Option ℤ) → Some (lesser m o) ≡ least (Some m) o
lesser-least m None = refl
lesser-least m (Some w) = refl

pub next-least : (ms : List ℤ) (x : ℤ) → least_from ms x ≡ next_threshold ms false x
next-least [] x = refl
next-least (m ∷ ms) x = elim (int_lt m x) as (λ t. (if t then least_from ms x else Some (lesser m (least_from ms x))) ≡ cond t (next_threshold ms false x) (least (Some m) (next_threshold ms false x))) [
  | true ↦ next-least ms x
  | false ↦ lesser-least m (least_from ms x) ∙ ap (least (Some m)) (next-least ms x)
]

-- ---- thresholds of 64 bits

-- a start below them is none other than the least of 64 bits
above : (m x s : ℤ) → neg_ℤ (pos (2 ^ 63)) ≤ℤ m → s ≡ int_max x (neg_ℤ (pos (2 ^ 63))) → int_lt m s ≡ int_lt m x
above m x s l e = by_order (λ t. int_lt m s ≡ t) m x (λ h. yes m s (grind (arith, ints))) (λ h. no m s (grind (arith, ints)))

from-word : (ms : List ℤ) (x s : ℤ) → AreWords ms → s ≡ int_max x (neg_ℤ (pos (2 ^ 63))) → next_threshold ms false s ≡ next_threshold ms false x
from-word [] x s w e = refl
from-word (m ∷ ms) x s w e =
    let rest : next_threshold ms false s ≡ next_threshold ms false x = from-word ms x s (λ k. w (suc k)) e in
    ap (λ t. cond t (next_threshold ms false s) (least (Some m) (next_threshold ms false s))) (above m x s (w 0).0 e)
    ∙ ap (λ o. cond (int_lt m x) o (least (Some m) o)) rest

-- where the start is above them there is none
none-above : (ms : List ℤ) (x : ℤ) → AreWords ms → pos (2 ^ 63) ≤ℤ x → next_threshold ms false x ≡ None
none-above [] x w h = refl
none-above (m ∷ ms) x w h =
    let l : m <ℤ pos (2 ^ 63) = (w 0).1 in
    ap (λ t. cond t (next_threshold ms false x) (least (Some m) (next_threshold ms false x))) (yes m x (omega (arith, ints)))
    ∙ none-above ms x (λ k. w (suc k)) h

pub threshold-beyond : (ms : List ℤ) (d : Bool) (x : ℤ) → AreWords ms → pos (2 ^ 63) ≤ℤ start_at d x → None ≡ next_threshold ms d x
threshold-beyond ms d x w h = sym (ap (valued d) (none-above ms (start_at d x) w h)) ∙ next-valued ms d x

pub threshold-none : (ms : List ℤ) (d : Bool) (x s : ℤ) → AreWords ms → s ≡ int_max (start_at d x) (neg_ℤ (pos (2 ^ 63))) → None ≡ next_threshold ms false s → None ≡ next_threshold ms d x
threshold-none ms d x s w e f = ap (valued d) (f ∙ from-word ms (start_at d x) s w e) ∙ next-valued ms d x

-- where the least threshold is found, its value is the next one
pub threshold-found : (ms : List ℤ) (d : Bool) (x s m y : ℤ) → AreWords ms → s ≡ int_max (start_at d x) (neg_ℤ (pos (2 ^ 63))) → Some m ≡ next_threshold ms false s → y ≡ threshold_value d m → Some y ≡ next_threshold ms d x
threshold-found ms d x s m y w e f g = ap Some g ∙ ap (valued d) (f ∙ from-word ms (start_at d x) s w e) ∙ next-valued ms d x

-- a threshold of 64 bits, or its double
pub value-within : (d : Bool) (m : ℤ) → FitsSigned w64 m → IsWithin (2 ^ 64) (Some (threshold_value d m))
value-within true m f = (omega (arith, ints), omega (arith, ints))
value-within false m f = (omega (arith, ints), omega (arith, ints))
