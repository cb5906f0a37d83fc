-- The order of octagons.
use Rattle.std.specs.Prelude.{◌≡◌, ℕ, ◌<◌, ℤ, ◌-ℤ◌, [], ◌∷◌, length, Option, Some, None, true}
use Rattle.std.proofs.Common.{arith}
use Rattle.std.proofs.lemmas.Bool.{and_parts}
use Rattle.std.proofs.lemmas.Int.{ints}
use Rattle.dbm_core.proofs.WeightLemmas.{AtMost-trans}
use Rattle.dbm_core.specs.Half.{entry, nodes}
use Rattle.dbm_core.specs.Valuations.{node_value}
use Rattle.dbm_core.specs.Weights.{AtMost}
use Rattle.dbm_close.specs.declared.closed.Closed.{Closed}
use Rattle.dbm_close.specs.declared.closed.Closed.TheVariants.{Empty, Matrix}
use Rattle.cert_meaning.specs.Portable.{IsSoundOrder}
use Rattle.dom_octagon_meaning.proofs.Fitting.{Describes, closed-describes, eq-true}
use Rattle.dom_octagon_meaning.proofs.Laws.{fits-state, no-frame, covers-describes, describes-covers}
use Rattle.dom_octagon_meaning.proofs.Ranges.{in-slots}
use Rattle.dom_octagon_meaning.specs.Covers.{covers, values}
use Rattle.dom_octagon_meaning.specs.Domain.{octagons}
use Rattle.dom_octagon_meaning.specs.Operations.{kinds_of}
use Rattle.dom_octagon_meaning.specs.States.{closed}
use Rattle.dom_octagon_words.specs.Words.{bound_leq, closed_leq, leq}
use Rattle.dom_octagon_words.proofs.Below.{pairs-true}

pub at-most : (a b : Option ℤ) → bound_leq a b ≡ true → AtMost a b
at-most None None e = tt
at-most (Some x) None e = tt
at-most None (Some y) e = absurd cc
at-most (Some x) (Some y) e = grind (arith, ints)

closed_below : (s t : Closed) (x : ℕ → ℤ) → closed_leq s t ≡ true → Describes x s → Describes x t
closed_below Empty t x e d = absurd d
closed_below (Matrix a) Empty x e d = absurd cc
closed_below (Matrix a) (Matrix b) x e d =
    let p = and_parts _ _ e in
    let n : length a.kinds ≡ length b.kinds = eq-true (length a.kinds) (length b.kinds) p.0 in
    λ i j hi hj.
    let li : i < nodes a = omega arith in
    let lj : j < nodes a = omega arith in
    AtMost-trans (Some (node_value x j -ℤ node_value x i)) (entry a i j) (entry b i j) (d i j li lj) (at-most (entry a i j) (entry b i j) (pairs-true (nodes a) (λ i j. bound_leq (entry a i j) (entry b i j)) p.1 i j li lj))

pub octagon_order : IsSoundOrder octagons covers leq
octagon_order ls s t h [] f g p e c = absurd (no-frame s h c)
octagon_order [] s t h (v ∷ vs) f g p e c = absurd (p.frames)
octagon_order (l ∷ ls) s t h (v ∷ vs) f g p e c =
    describes-covers t h v vs
    (closed_below (closed s) t (values v) e
    (closed-describes (kinds_of l.numbers) s (values v) (fits-state s l ls f) (in-slots l v p.frames.0.numbers) (covers-describes s h v vs c)))
