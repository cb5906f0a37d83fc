-- The first place at which a test passes.
use Rattle.std.proofs.Common.{◌≡◌, ℕ, zero, suc, ◌+◌, Bool, true, cond, List, [], ◌∷◌, Option, Some, None, slice_get, position, IfSome, refl, sym, ap, ◌∙◌, arith}
use Rattle.std.specs.Cmp.{IsEquivalence}
use Rattle.std.specs.List.{position_from}
use Rattle.std.proofs.lemmas.Iterator.Adapters.{position_from-zero}
use Rattle.base_values.proofs.Cases.{by_bool}
use Rattle.state_table.specs.Numbers.{AreOnce, TellsApart}
use Rattle.std.proofs.lemmas.Option.{same_Some}

-- a place of a list whose element passes, counted from i
abbrev pub PassesAt : {T : Type 0} → (T → Bool) → ℕ → List T → ℕ → Type 0
PassesAt {T} test i xs n = (k : ℕ) × (n ≡ i + k) × (s : T) × (slice_get xs k ≡ Some s) × (test s ≡ true)

from_passes : {T : Type 0} (test : T → Bool) (i : ℕ) (xs : List T) (n : ℕ) → position_from test i xs ≡ Some n → PassesAt test i xs n
from_passes test i [] n e = cc
from_passes test i (x ∷ xs) n e =
    by_bool (test x)
    (λ t. let h : Some i ≡ Some n = ap (λ b. cond b (Some i) (position_from test (i + 1) xs)) (sym t) ∙ e in
    let k : i ≡ n = same_Some i n h in
    (0, omega (arith, k), x, refl, t))
    (λ f. let h : position_from test (i + 1) xs ≡ Some n = ap (λ b. cond b (Some i) (position_from test (i + 1) xs)) (sym f) ∙ e in
    let r : PassesAt test (i + 1) xs n = from_passes test (i + 1) xs n h in
    (suc r.0, omega (arith, r.1), r.2, r.3, r.4))

passes_from : {T : Type 0} (test : T → Bool) (i : ℕ) (xs : List T) (k : ℕ) (s : T) → slice_get xs k ≡ Some s → test s ≡ true → (n : ℕ) × (position_from test i xs ≡ Some n)
passes_from test i [] k s e h = cc
passes_from test i (x ∷ xs) zero s e h =
    let is : x ≡ s = same_Some x s e in
    let t : test x ≡ true = ap test is ∙ h in
    (i, ap (λ b. cond b (Some i) (position_from test (i + 1) xs)) t)
passes_from test i (x ∷ xs) (suc k) s e h =
    by_bool (test x)
    (λ t. (i, ap (λ b. cond b (Some i) (position_from test (i + 1) xs)) t))
    (λ f. let r : (n : ℕ) × (position_from test (i + 1) xs ≡ Some n) = passes_from test (i + 1) xs k s e h in
    (r.0, ap (λ b. cond b (Some i) (position_from test (i + 1) xs)) f ∙ r.1))

-- the place that is found has an element that passes
pub position-passes : {T : Type 0} (test : T → Bool) (xs : List T) (n : ℕ) → position test xs ≡ Some n → (s : T) × (slice_get xs n ≡ Some s) × (test s ≡ true)
position-passes {T} test xs n e =
    let r : PassesAt test 0 xs n = from_passes test 0 xs n (sym (position_from-zero test xs) ∙ e) in
    let k : r.0 ≡ n = omega (arith, r.1) in
    (r.2, ap (λ m. slice_get xs m) (sym k) ∙ r.3, r.4)

-- where equal elements stand once, an element is found at its place
pub position-once : {T : Type 0} (eq : T → T → Bool) → IsEquivalence eq → (xs : List T) → AreOnce eq xs → (state : T) (n : ℕ) (s : T) → slice_get xs n ≡ Some s → eq state s ≡ true → position (eq state) xs ≡ Some n
position-once {T} eq law xs once state n s e h =
    let r : (m : ℕ) × (position_from (eq state) 0 xs ≡ Some m) = passes_from (eq state) 0 xs n s e h in
    let q : position (eq state) xs ≡ Some r.0 = position_from-zero (eq state) xs ∙ r.1 in
    let p : (y : T) × (slice_get xs r.0 ≡ Some y) × (eq state y ≡ true) = position-passes (eq state) xs r.0 q in
    let k : r.0 ≡ n = once r.0 n p.0 s p.1 e (sym (law.congr state p.0 s p.2) ∙ h) in
    q ∙ ap Some k

-- what is found is the element where equal elements are the same
pub found-same : {T : Type 0} (eq : T → T → Bool) (xs : List T) (state : T) (r : Option ℕ) → r ≡ position (eq state) xs → TellsApart eq → IfSome r (λ n. slice_get xs n ≡ Some state)
found-same eq xs state None e tells = tt
found-same {T} eq xs state (Some n) e tells =
    let p : (s : T) × (slice_get xs n ≡ Some s) × (eq state s ≡ true) = position-passes (eq state) xs n (sym e) in
    p.1 ∙ ap Some (sym (tells state p.0 p.2))
