-- Looking procedures up where the last one stands first.
use Rattle.std.specs.Prelude.{◌≡◌, ℕ, ◌<◌, ◌≤◌, ◌==◌, List, [], ◌∷◌, ◌++◌, length, reverse, slice_get, Option, Some, None, if◌then◌else◌}
use Rattle.std.proofs.Common.{refl, sym, ap, ◌∙◌, arith, subst, append-nil, append_assoc}
use Rattle.std.proofs.lemmas.List.{reverse-append, reverse-reverse, length-reverse}
use Rattle.base_values.proofs.Cases.{by_test}
use Rattle.base_values.proofs.Lists.{get_last, get_other}
use Rattle.imp_slots.specs.Plain.{Routine}
use Rattle.imp_slots.specs.Fits.{FitsCode, FitInTurn, IsChecked}
use Rattle.imp_chains.specs.Thresholds.{thresholds}
use Rattle.domain_laws.specs.Operations.{Operations}
use Rattle.batch_meaning.specs.Values.{Value}
use Rattle.batch_meaning.specs.Batch.{LoopOptions, batch, procedure, calls_of}
use Rattle.batch_meaning.specs.Places.{from}
use Rattle.std.proofs.lemmas.Option.{same_Some}

-- the routine at a place
abbrev pub look : List Routine → ℕ → Option Routine
look [] q = None
look (r ∷ earlier) q = if q == length earlier then Some r else look earlier q

pub look_get : (ps : List Routine) (q : ℕ) → look ps q ≡ slice_get (reverse ps) q
look_get [] q = refl
look_get (r ∷ earlier) q =
    let e : reverse (r ∷ earlier) ≡ reverse earlier ++ (r ∷ []) = reverse-append (r ∷ []) earlier in
    let n : length (reverse earlier) ≡ length earlier = length-reverse earlier in
    by_test q (length earlier) (λ c. (if c then Some r else look earlier q) ≡ slice_get (reverse (r ∷ earlier)) q)
    (λ k. sym (ap (λ xs. slice_get xs q) e ∙ ap (slice_get (reverse earlier ++ (r ∷ []))) (k ∙ sym n) ∙ get_last (reverse earlier) r))
    (λ k. sym (ap (λ xs. slice_get xs q) e ∙ get_other (reverse earlier) r q (λ i. k (i ∙ n)) ∙ sym (look_get earlier q)))

pub from_look : (ps : List Routine) (q : ℕ) (c : Routine) → look ps q ≡ Some c → (earlier : List Routine) × (from ps q ≡ c ∷ earlier)
from_look [] q c e = absurd cc
from_look (r ∷ earlier) q c e =
    (by_test q (length earlier) (λ t. (if t then Some r else look earlier q) ≡ Some c → (rest : List Routine) × ((if t then r ∷ earlier else from earlier q) ≡ c ∷ rest))
    (λ k e. (earlier, ap (λ r. r ∷ earlier) (same_Some r c e)))
    (λ k e. from_look earlier q c e)) e

pub look_from : (ps : List Routine) (q : ℕ) (c : Routine) (rest : List Routine) → from ps q ≡ c ∷ rest → look ps q ≡ Some c
look_from [] q c rest e = absurd cc
look_from (r ∷ earlier) q c rest e =
    (by_test q (length earlier) (λ t. (if t then r ∷ earlier else from earlier q) ≡ c ∷ rest → (if t then Some r else look earlier q) ≡ Some c)
    (λ k e. let i : r ≡ c = cc in ap Some i)
    (λ k e. look_from earlier q c rest e)) e

pub look_below : (ps : List Routine) (q : ℕ) (c : Routine) → look ps q ≡ Some c → q < length ps
look_below [] q c e = absurd cc
look_below (r ∷ earlier) q c e =
    (by_test q (length earlier) (λ t. (if t then Some r else look earlier q) ≡ Some c → q < length (r ∷ earlier))
    (λ k e. omega arith)
    (λ k e. omega (arith, look_below earlier q c e))) e

pub length_from : (ps : List Routine) (q : ℕ) → length (from ps q) ≤ length ps
length_from [] q = omega arith
length_from (b ∷ ps) q = by_test q (length ps) (λ c. length (if c then b ∷ ps else from ps q) ≤ length (b ∷ ps)) (λ e. omega arith) (λ e. omega (arith, length_from ps q))

pub from_behind : (b : Routine) (ps : List Routine) (r : ℕ) → r < length ps → from (b ∷ ps) r ≡ from ps r
from_behind b ps r h = by_test r (length ps) (λ c. (if c then b ∷ ps else from ps r) ≡ from ps r) (λ k. absurd (omega arith)) (λ k. refl)

pub from_from : (ps : List Routine) (q r : ℕ) → r < length (from ps q) → from ps r ≡ from (from ps q) r
from_from [] q r h = refl
from_from (b ∷ ps) q r h =
    (by_test q (length ps) (λ c. r < length (if c then b ∷ ps else from ps q) → from (b ∷ ps) r ≡ from (if c then b ∷ ps else from ps q) r)
    (λ e h. refl)
    (λ e h. from_behind b ps r (omega (arith, length_from ps q, h)) ∙ from_from ps q r h)) h

pub from_place : (ps : List Routine) (q : ℕ) (r : Routine) (earlier : List Routine) → from ps q ≡ r ∷ earlier → q ≡ length earlier
from_place [] q r earlier e = absurd cc
from_place (b ∷ ps) q r earlier e =
    (by_test q (length ps) (λ c. (if c then b ∷ ps else from ps q) ≡ r ∷ earlier → q ≡ length earlier)
    (λ k e. let l : ps ≡ earlier = cc in k ∙ ap length l)
    (λ k e. from_place ps q r earlier e)) e

pub from_self : (r : Routine) (earlier : List Routine) → from (r ∷ earlier) (length earlier) ≡ r ∷ earlier
from_self r earlier = by_test (length earlier) (length earlier) (λ c. (if c then r ∷ earlier else from earlier (length earlier)) ≡ r ∷ earlier) (λ e. refl) (λ e. absurd (e refl))

-- each fits those after it
abbrev pub FitBack : List Routine → Type 0
FitBack [] = Unit {0}
FitBack (r ∷ earlier) = FitsCode (reverse earlier) r.layout r.code × FitBack earlier

pub fit_back_from : (ps : List Routine) (q : ℕ) → FitBack ps → FitBack (from ps q)
fit_back_from [] q h = tt
fit_back_from (b ∷ ps) q h = by_test q (length ps) (λ c. FitBack (if c then b ∷ ps else from ps q)) (λ e. h) (λ e. fit_back_from ps q h.1)

turned : (before rs : List Routine) → FitInTurn before rs → FitBack (reverse before) → FitBack (reverse (before ++ rs))
turned before [] f b = subst (λ ps. FitBack (reverse ps)) (sym (append-nil before)) b
turned before (r ∷ rs) f b =
    let e : reverse (before ++ (r ∷ [])) ≡ r ∷ reverse before = reverse-append before (r ∷ []) in
    let k = subst (λ ps. FitsCode ps r.layout r.code) (sym (reverse-reverse before)) f.0.code in
    let i = turned (before ++ (r ∷ [])) rs f.1 (subst FitBack (sym e) (k, b)) in
    subst (λ ps. FitBack (reverse ps)) (append_assoc before (r ∷ []) rs) i

pub fit_back : (program : List Routine) → IsChecked program → FitBack (reverse program)
fit_back program c = turned [] program c.fit tt

module _ {S : Type 0} (dom : Operations S) (engine : LoopOptions) where
  value_of : List Routine → List ℕ → Value S → Value S
  value_of [] z a = a
  value_of (r ∷ earlier) z a = (batch dom engine (thresholds engine.widening r) z (calls_of dom engine earlier z) r.code a).value

  same_procedure : (z : List ℕ) (a : Value S) (b r : Routine) (ps earlier : List Routine) → b ∷ ps ≡ r ∷ earlier → (batch dom engine (thresholds engine.widening b) z (calls_of dom engine ps z) b.code a).value ≡ (batch dom engine (thresholds engine.widening r) z (calls_of dom engine earlier z) r.code a).value
  unfolding value_of
  same_procedure z a b r ps earlier e = ap (λ x. value_of x z a) e

  pub procedure_from : (ps : List Routine) (z : List ℕ) (q : ℕ) (a : Value S) (r : Routine) (earlier : List Routine) → from ps q ≡ r ∷ earlier → procedure dom engine ps z q a ≡ (batch dom engine (thresholds engine.widening r) z (calls_of dom engine earlier z) r.code a).value
  procedure_from [] z q a r earlier e = absurd cc
  procedure_from (b ∷ ps) z q a r earlier e =
      (by_test q (length ps) (λ c. (if c then b ∷ ps else from ps q) ≡ r ∷ earlier → (if c then (batch dom engine (thresholds engine.widening b) z (calls_of dom engine ps z) b.code a).value else procedure dom engine ps z q a) ≡ (batch dom engine (thresholds engine.widening r) z (calls_of dom engine earlier z) r.code a).value)
      (λ k e. same_procedure z a b r ps earlier e)
      (λ k e. procedure_from ps z q a r earlier e)) e
