-- Joins and widenings of octagons are above both sides.
use Rattle.std.specs.Prelude.{◌≡◌, ℕ, ◌*◌, ℤ, nat_eq, List, [], ◌∷◌, length, Option, Some, None, Bool, true}
use Rattle.std.proofs.Common.{refl, sym, ap, ◌∙◌, arith, subst}
use Rattle.std.proofs.lemmas.Bool.{and_parts, and_from}
use Rattle.std.proofs.lemmas.Int.{ints}
use Rattle.base_values.proofs.Cases.{equal_test}
use Rattle.dbm_core.proofs.LimitLemmas.{greatest-left, greatest-right, joined-diagonal, widen_bound-left, widen_bound-right, zero-at_most}
use Rattle.dbm_core.proofs.OperationLemmas.{joined-coherent}
use Rattle.dbm_core.proofs.TableLemmas.{tables-have_entries}
use Rattle.dbm_core.proofs.WeightLemmas.{AtMost-refl, AtMost-trans}
use Rattle.dbm_core.specs.Half.{HalfMatrix, HasEntries, entry, nodes}
use Rattle.dbm_core.specs.Limits.{HasZeroDiagonal}
use Rattle.dbm_core.specs.Nodes.{is_single}
use Rattle.dbm_core.specs.Operations.{joined}
use Rattle.dbm_core.specs.Tables.{matrix_of}
use Rattle.dbm_core.specs.Weights.{AtMost}
use Rattle.dbm_close.specs.CloseOf.{close_of}
use Rattle.dbm_close.specs.declared.closed.Closed.{Closed}
use Rattle.dbm_close.specs.declared.closed.Closed.TheVariants.{Empty, Matrix}
use Rattle.dbm_incremental.proofs.LawLemmas.{close_of-closed}
use Rattle.dbm_incremental.specs.Answers.{IsClosedAnswer}
use Rattle.imp_slots.specs.Plain.{Layout}
use Rattle.cert_meaning.specs.Portable.{HasUpperBounds}
use Rattle.dom_octagon_meaning.proofs.Fitting.{FitsMatrix, FitsState, closed-fits, eq-true, fits-ready}
use Rattle.dom_octagon_meaning.proofs.Guards.{alike, widen-entries}
use Rattle.dom_octagon_meaning.proofs.Laws.{fits-state}
use Rattle.dom_octagon_meaning.proofs.Matrices.{table-ready}
use Rattle.dom_octagon_meaning.specs.Covers.{fits}
use Rattle.dom_octagon_meaning.specs.Domain.{octagons}
use Rattle.dom_octagon_meaning.specs.Operations.{join, join_closed, kinds_of, widen, widen_closed}
use Rattle.dom_octagon_meaning.specs.States.{closed}
use Rattle.dom_octagon_words.specs.Words.{bound_leq, closed_leq, entries_leq, leq}
use Rattle.dom_octagon_words.proofs.Below.{pairs-true, true-pairs}
use Rattle.dom_octagon_words.proofs.Closing.{AreBelow, IsBelow, close-above, close-within}
use Rattle.dom_octagon_words.proofs.Ordered.{at-most}

-- ---- the order as a test

most-true : (a b : Option ℤ) → AtMost a b → bound_leq a b ≡ true
most-true a None p = refl
most-true None (Some y) p = absurd p
most-true (Some x) (Some y) p = grind (arith, ints)

below-true : (s t : Closed) → AreBelow s t → closed_leq s t ≡ true
below-true Empty t p = refl
below-true (Matrix a) Empty p = absurd p
below-true (Matrix a) (Matrix b) p =
    and_from (nat_eq (length a.kinds) (length b.kinds)) (entries_leq a b) (equal_test (length a.kinds) (length b.kinds) p.0)
    (true-pairs (nodes a) (λ i j. bound_leq (entry a i j) (entry b i j)) (λ i j hi hj. most-true (entry a i j) (entry b i j) (p.1 i j hi hj)))

true-below : (s t : Closed) → closed_leq s t ≡ true → AreBelow s t
true-below Empty t e = tt
true-below (Matrix a) Empty e = absurd cc
true-below (Matrix a) (Matrix b) e =
    let p = and_parts (nat_eq (length a.kinds) (length b.kinds)) (entries_leq a b) e in (
      eq-true (length a.kinds) (length b.kinds) p.0,
      λ i j hi hj. at-most (entry a i j) (entry b i j) (pairs-true (nodes a) (λ i j. bound_leq (entry a i j) (entry b i j)) p.1 i j hi hj),
    )

-- ---- it is an order

below-self : (s : Closed) → AreBelow s s
below-self Empty = tt
below-self (Matrix a) = (refl, λ i j hi hj. AtMost-refl (entry a i j))

below-trans : (s t u : Closed) → AreBelow s t → AreBelow t u → AreBelow s u
below-trans Empty t u p q = tt
below-trans (Matrix a) Empty u p q = absurd p
below-trans (Matrix a) (Matrix b) Empty p q = absurd q
below-trans (Matrix a) (Matrix b) (Matrix c) p q = (
  p.0 ∙ q.0,
  λ i j hi hj. AtMost-trans (entry a i j) (entry b i j) (entry c i j) (p.1 i j hi hj) (let n : length a.kinds ≡ length b.kinds = p.0 in q.1 i j (omega arith) (omega arith)),
)

closed-answer : (kinds : List Bool) (s : Closed) → FitsState kinds s → IsClosedAnswer (closed s)
closed-answer kinds Empty h = tt
closed-answer kinds (Matrix m) h = let r = fits-ready kinds m h in close_of-closed m r.matrix r.diagonal

closed-below : (kinds : List Bool) (s : Closed) → FitsState kinds s → AreBelow (closed s) s
closed-below kinds Empty h = tt
closed-below kinds (Matrix m) h = close-within kinds m h

-- what is above a closed state is so closed
closing-above : (kinds : List Bool) (s t : Closed) → FitsState kinds s → FitsState kinds t → IsClosedAnswer s → AreBelow s t → AreBelow s (closed t)
closing-above kinds Empty t h k c p = tt
closing-above kinds (Matrix a) Empty h k c p = absurd p
closing-above kinds (Matrix a) (Matrix b) h k c p =
    let r = fits-ready kinds b k in close-above a b c r.matrix r.diagonal (k.same_kinds ∙ sym h.same_kinds) p.1

-- ---- joins

-- the greater bounds of two matrices of the same kinds, closed, are above what is closed and has smaller ones
join-above : (kinds : List Bool) (a b c : HalfMatrix) → FitsMatrix kinds a → FitsMatrix kinds b → FitsMatrix kinds c → IsClosedAnswer (Matrix c) → ((i j : ℕ) → AtMost (entry c i j) (joined a b i j)) → IsBelow c (close_of (matrix_of a.kinds (joined a b)))
join-above kinds a b c h k f z l =
    let same : b.kinds ≡ a.kinds = k.same_kinds ∙ sym h.same_kinds in
    let coherent = joined-coherent a b h.matrix k.matrix (ap length same) in
    let e : HasEntries a.kinds (joined a b) (matrix_of a.kinds (joined a b)) = tables-have_entries a.kinds (joined a b) h.matrix.few coherent in
    let d : HasZeroDiagonal (nodes a) (entry b) = subst (λ ks. HasZeroDiagonal (2 * length ks) (entry b)) same k.diagonal in
    let r = table-ready a.kinds (joined a b) h.matrix.few coherent (zero-at_most (nodes a) (joined a b) (joined-diagonal a b (nodes a) h.diagonal d)) in
    let n : length c.kinds ≡ length a.kinds = ap length (f.same_kinds ∙ sym h.same_kinds) in
    close-above c (matrix_of a.kinds (joined a b)) z r.matrix r.diagonal (r.same_kinds ∙ h.same_kinds ∙ sym f.same_kinds)
    (λ i j hi hj. subst (λ v. AtMost (entry c i j) v) (sym (e.entries i j (omega arith) (omega arith))) (l i j))

join_closed-left : (kinds : List Bool) (s t : Closed) → FitsState kinds s → FitsState kinds t → IsClosedAnswer s → AreBelow s (join_closed s t)
join_closed-left kinds Empty t h k c = tt
join_closed-left kinds (Matrix a) Empty h k c = below-self (Matrix a)
join_closed-left kinds (Matrix a) (Matrix b) h k c = rw (alike kinds a b h k) (join-above kinds a b a h k h c (λ i j. greatest-left (entry a i j) (entry b i j)))

join_closed-right : (kinds : List Bool) (s t : Closed) → FitsState kinds s → FitsState kinds t → IsClosedAnswer t → AreBelow t (join_closed s t)
join_closed-right kinds Empty t h k c = below-self t
join_closed-right kinds (Matrix a) Empty h k c = tt
join_closed-right kinds (Matrix a) (Matrix b) h k c = rw (alike kinds a b h k) (join-above kinds a b b h k k c (λ i j. greatest-right (entry a i j) (entry b i j)))

-- ---- widenings

widen_closed-left : (ms : List ℤ) (kinds : List Bool) (s t : Closed) → FitsState kinds s → FitsState kinds t → AreBelow s (widen_closed ms s t)
widen_closed-left ms kinds Empty t h k = tt
widen_closed-left ms kinds (Matrix a) Empty h k = below-self (Matrix a)
widen_closed-left ms kinds (Matrix a) (Matrix b) h k =
    let e = widen-entries ms kinds a b h k in
    rw (alike kinds a b h k) (
      ap length (sym e.same_kinds),
      λ i j hi hj. subst (λ v. AtMost (entry a i j) v) (sym (e.entries i j hi hj)) (widen_bound-left ms (is_single i j) (entry a i j) (entry b i j)),
    )

widen_closed-right : (ms : List ℤ) (kinds : List Bool) (s t : Closed) → FitsState kinds s → FitsState kinds t → AreBelow t (widen_closed ms s t)
widen_closed-right ms kinds Empty t h k = below-self t
widen_closed-right ms kinds (Matrix a) Empty h k = tt
widen_closed-right ms kinds (Matrix a) (Matrix b) h k =
    let e = widen-entries ms kinds a b h k in
    let n : length b.kinds ≡ length a.kinds = ap length (k.same_kinds ∙ sym h.same_kinds) in
    rw (alike kinds a b h k) (
      n ∙ ap length (sym e.same_kinds),
      λ i j hi hj. subst (λ v. AtMost (entry b i j) v) (sym (e.entries i j (omega arith) (omega arith))) (widen_bound-right ms (is_single i j) (entry a i j) (entry b i j)),
    )

-- ---- the laws, in frames

join-left : (kinds : List Bool) (s t : Closed) → FitsState kinds s → FitsState kinds t → leq s (join s t) ≡ true
unfolding join
join-left kinds s t h k = below-true (closed s) (join_closed (closed s) (closed t)) (join_closed-left kinds (closed s) (closed t) (closed-fits kinds s h) (closed-fits kinds t k) (closed-answer kinds s h))

join-right : (kinds : List Bool) (s t : Closed) → FitsState kinds s → FitsState kinds t → leq t (join s t) ≡ true
unfolding join
join-right kinds s t h k = below-true (closed t) (join_closed (closed s) (closed t)) (join_closed-right kinds (closed s) (closed t) (closed-fits kinds s h) (closed-fits kinds t k) (closed-answer kinds t k))

widen-left : (ms : List ℤ) (kinds : List Bool) (s t : Closed) → FitsState kinds s → FitsState kinds t → leq s (widen ms s t) ≡ true
unfolding widen
widen-left ms kinds s t h k = below-true (closed s) (widen_closed ms s (closed t)) (below-trans (closed s) s (widen_closed ms s (closed t)) (closed-below kinds s h) (widen_closed-left ms kinds s (closed t) h (closed-fits kinds t k)))

widen-right : (ms : List ℤ) (kinds : List Bool) (s t : Closed) → FitsState kinds s → FitsState kinds t → leq t (widen ms s t) ≡ true
unfolding widen
widen-right ms kinds s t h k = below-true (closed t) (widen_closed ms s (closed t)) (widen_closed-right ms kinds s (closed t) h (closed-fits kinds t k))

order-self : (kinds : List Bool) (s : Closed) → FitsState kinds s → leq s s ≡ true
order-self kinds s h = below-true (closed s) s (closed-below kinds s h)

order-trans : (kinds : List Bool) (s t u : Closed) → FitsState kinds s → FitsState kinds t → leq s t ≡ true → leq t u ≡ true → leq s u ≡ true
order-trans kinds s t u h k p q =
    below-true (closed s) u
    (below-trans (closed s) (closed t) u (closing-above kinds (closed s) t (closed-fits kinds s h) k (closed-answer kinds s h) (true-below (closed s) t p)) (true-below (closed t) u q))

-- what holds in each frame holds where there is none
alone : (ls : List Layout) (s t : Closed) → fits s ls ≡ true → ((l : Layout) (rest : List Layout) → ls ≡ l ∷ rest → leq s t ≡ true) → leq s t ≡ true
unfolding fits
alone ls Empty t h f = refl
alone [] (Matrix m) t h f = absurd cc
alone (l ∷ ls) (Matrix m) t h f = f l ls refl

fits-at : (s : Closed) (ls : List Layout) (l : Layout) (rest : List Layout) → ls ≡ l ∷ rest → fits s ls ≡ true → FitsState (kinds_of l.numbers) s
fits-at s ls l rest e h = fits-state s l rest (subst (λ ls. fits s ls ≡ true) e h)

pub octagon_bounds : HasUpperBounds octagons leq
octagon_bounds = record {
  self = λ ls s f. alone ls s s f (λ l rest e. order-self (kinds_of l.numbers) s (fits-at s ls l rest e f));
  trans = λ ls s t u f g h p q. alone ls s u f (λ l rest e. order-trans (kinds_of l.numbers) s t u (fits-at s ls l rest e f) (fits-at t ls l rest e g) p q);
  join_left = λ ls s t f g. alone ls s (join s t) f (λ l rest e. join-left (kinds_of l.numbers) s t (fits-at s ls l rest e f) (fits-at t ls l rest e g));
  join_right = λ ls s t f g. alone ls t (join s t) g (λ l rest e. join-right (kinds_of l.numbers) s t (fits-at s ls l rest e f) (fits-at t ls l rest e g));
  widen_left = λ ms ls s t rising f g. alone ls s (widen ms s t) f (λ l rest e. widen-left ms (kinds_of l.numbers) s t (fits-at s ls l rest e f) (fits-at t ls l rest e g));
  widen_right = λ ms ls s t rising f g. alone ls t (widen ms s t) g (λ l rest e. widen-right ms (kinds_of l.numbers) s t (fits-at s ls l rest e f) (fits-at t ls l rest e g));
}
