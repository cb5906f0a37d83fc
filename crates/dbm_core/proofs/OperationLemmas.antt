use Rattle.std.specs.Prelude.{◌≡◌, ℕ, ℤ, pos, Option, Some, None, Bool, cond, eqb, ◌||◌, ◌/◌, List, length, true, false, refl}
use Rattle.std.proofs.Common.{ap, arith, sym, ◌∙◌}
use Rattle.dbm_core.proofs.HalfLemmas.{entry-coherent}
use Rattle.dbm_core.proofs.NodeLemmas.{flip-half, flip-same, single-flip}
use Rattle.dbm_core.specs.Half.{HalfMatrix, IsMatrix, entry, nodes}
use Rattle.dbm_core.specs.Nodes.{IsCoherent, flip, is_single}
use Rattle.dbm_core.specs.Operations.{forgotten, joined, unbounded, widen_bound, widened}
use Rattle.dbm_core.specs.Weights.{greatest}

pub unbounded-coherent : (n : ℕ) → IsCoherent unbounded n
unbounded-coherent n i j hi hj = ap (λ b. cond b (Some (pos 0)) None) (flip-same i j)

pub joined-coherent : (a b : HalfMatrix) → IsMatrix a → IsMatrix b → length b.kinds ≡ length a.kinds → IsCoherent (joined a b) (nodes a)
joined-coherent a b h k e i j hi hj =
    ap (λ x. greatest x (entry b i j)) (entry-coherent a h i j hi hj)
    ∙ ap (greatest (entry a (flip j) (flip i))) (entry-coherent b k i j (omega arith) (omega arith))

pub widened-coherent : (thresholds : List ℤ) (a b : HalfMatrix) → IsMatrix a → IsMatrix b → length b.kinds ≡ length a.kinds → IsCoherent (widened thresholds a b) (nodes a)
widened-coherent thresholds a b h k e i j hi hj =
    ap (λ d. widen_bound thresholds d (entry a i j) (entry b i j)) (single-flip i j)
    ∙ ap (λ x. widen_bound thresholds (is_single (flip j) (flip i)) x (entry b i j)) (entry-coherent a h i j hi hj)
    ∙ ap (widen_bound thresholds (is_single (flip j) (flip i)) (entry a (flip j) (flip i))) (entry-coherent b k i j (omega arith) (omega arith))

or_swap : (p q : Bool) → p || q ≡ q || p
or_swap true true = refl
or_swap true false = refl
or_swap false true = refl
or_swap false false = refl

pub forgotten-coherent : (d : ℕ → ℕ → Option ℤ) (k n : ℕ) → IsCoherent d n → IsCoherent (forgotten d k) n
forgotten-coherent d k n c i j hi hj =
    ap (λ v. cond (eqb i j) v (cond (eqb (i / 2) k || eqb (j / 2) k) None v)) (c i j hi hj)
    ∙ ap (λ t. cond t (d (flip j) (flip i)) (cond (eqb (i / 2) k || eqb (j / 2) k) None (d (flip j) (flip i)))) (flip-same i j)
    ∙ ap (λ t. cond (eqb (flip j) (flip i)) (d (flip j) (flip i)) (cond t None (d (flip j) (flip i))))
    (or_swap (eqb (i / 2) k) (eqb (j / 2) k)
    ∙ ap (λ a. eqb a k || eqb (i / 2) k) (sym (flip-half j))
    ∙ ap (λ a. eqb (flip j / 2) k || eqb a k) (sym (flip-half i)))
