-- Statement numbers.
use Rattle.std.proofs.Common.{ℕ, zero, suc, ◌≡◌, ◌≢◌, ◌+◌, ◌<◌, ◌≤◌, ◌==◌, ◌&&◌, ◌||◌, not, ◌↔◌, Bool, true, false, List, [], ◌∷◌, ◌++◌, length, drop, get_or, refl, sym, ap, ◌∙◌, arith, add-one, drop-cons, eq-eqb}
use Rattle.std.proofs.lemmas.Bool.{and_parts, false≢true, not-true, or_parts}
use Rattle.std.proofs.Math.Bool.{and-false}
use borrow.Author.Tests.{eqb-true}
use Rattle.imp_slots.specs.Fits.{Absent, Distinct}
use Rattle.imp_syntax.specs.Plain.{Procedure, numbers, program_numbers}
use Rattle.imp_check.specs.Programs.{AreNumbered, has, all_once}

pub program_step : (ps : List Procedure) (i : ℕ) (p : Procedure) → i < length ps → p ≡ get_or ps i p → program_numbers (drop i ps) ≡ numbers p.body ++ program_numbers (drop (i + 1) ps)
program_step ps i p h e = rw (drop-cons ps i p, add-one, ← e) refl

pub has_step : (ns : List ℕ) (i n q : ℕ) → i < length ns → n ≡ get_or ns i 0 → has (drop i ns) q ≡ ((q == n) || has (drop (i + 1) ns) q)
has_step ns i n q h e = rw (drop-cons ns i 0, add-one, ← e) refl

pub once_step : (ns : List ℕ) (i n : ℕ) → i < length ns → n ≡ get_or ns i 0 → all_once (drop i ns) ≡ (not (n == 0) && (not (has (drop (i + 1) ns) n) && all_once (drop (i + 1) ns)))
once_step ns i n h e = rw (drop-cons ns i 0, add-one, ← e) refl

pub once_end : (ns : List ℕ) (i : ℕ) → length ns ≤ i → all_once (drop i ns) ≡ true
once_end [] zero h = refl
once_end [] (suc i) h = refl
once_end (n ∷ ns) zero h = absurd (omega arith)
once_end (n ∷ ns) (suc i) h = once_end ns i (omega arith)

-- what fails from a place on fails
pub once_fails : (ns : List ℕ) (i : ℕ) → all_once (drop i ns) ≡ false → all_once ns ≡ false
once_fails ns zero h = h
once_fails [] (suc i) h = h
once_fails (n ∷ ns) (suc i) h =
    ap (λ (b : Bool). not (n == 0) && (not (has ns n) && b)) (once_fails ns i h) ∙ ap (λ (b : Bool). not (n == 0) && b) (and-false (not (has ns n))) ∙ and-false (not (n == 0))

pub zero_fails : (ns : List ℕ) (i n : ℕ) → i < length ns → n ≡ get_or ns i 0 → n ≡ 0 → all_once ns ≡ false
zero_fails ns i n h e z = let f = eq-eqb n 0 z in once_fails ns i (once_step ns i n h e ∙ ap (λ (b : Bool). not b && (not (has (drop (i + 1) ns) n) && all_once (drop (i + 1) ns))) f)

pub again_fails : (ns : List ℕ) (i n : ℕ) → i < length ns → n ≡ get_or ns i 0 → has (drop (i + 1) ns) n ≡ true → all_once ns ≡ false
again_fails ns i n h e f = once_fails ns i (once_step ns i n h e ∙ ap (λ (b : Bool). not (n == 0) && (not b && all_once (drop (i + 1) ns))) f ∙ and-false (not (n == 0)))

apart : (m n : ℕ) → (m == n) ≡ false → m ≢ n
apart m n h e = false≢true (sym h ∙ eq-eqb m n e)

pub absent : (ns : List ℕ) (n : ℕ) → has ns n ≡ false → Absent n ns
absent [] n h = tt
absent (m ∷ ns) n h = let p = or_parts (n == m) (has ns n) h in (apart n m p.0, absent ns n p.1)

differ : (b : Bool) (m n : ℕ) → (m == n) ≡ b → m ≢ n → b ≡ false
differ true m n h k = absurd (k (eqb-true m n h))
differ false m n h k = refl

absent_back : (ns : List ℕ) (n : ℕ) → Absent n ns → has ns n ≡ false
absent_back [] n h = refl
absent_back (m ∷ ns) n h = let e = differ (n == m) n m refl h.0 in rw e (absent_back ns n h.1)

no_zero : (ns : List ℕ) → all_once ns ≡ true → Absent 0 ns
no_zero [] h = tt
no_zero (n ∷ ns) h =
    let p = and_parts (not (n == 0)) (not (has ns n) && all_once ns) h in
    let q = and_parts (not (has ns n)) (all_once ns) p.1 in
    let d = apart n 0 (not-true (n == 0) p.0) in
    ((λ e. d (sym e)), no_zero ns q.1)

distinct : (ns : List ℕ) → all_once ns ≡ true → Distinct ns
distinct [] h = tt
distinct (n ∷ ns) h =
    let p = and_parts (not (n == 0)) (not (has ns n) && all_once ns) h in
    let q = and_parts (not (has ns n)) (all_once ns) p.1 in
    (absent ns n (not-true (has ns n) q.0), distinct ns q.1)

once : (ns : List ℕ) → Absent 0 ns → Distinct ns → all_once ns ≡ true
once [] z d = refl
once (n ∷ ns) z d =
    let e = differ (n == 0) n 0 refl (λ (q : n ≡ 0). z.0 (sym q)) in
    let f = absent_back ns n d.0 in
    rw (e, f) (once ns z.1 d.1)

pub numbered : (ps : List Procedure) (answer : Bool) → answer ≡ all_once (program_numbers ps) → (answer ≡ true) ↔ AreNumbered ps
numbered ps answer h = (
  (λ e. record { no_zero = no_zero (program_numbers ps) (sym h ∙ e); once = distinct (program_numbers ps) (sym h ∙ e) }),
  (λ k. h ∙ once (program_numbers ps) k.no_zero k.once),
)
