-- The words of list segments.
use Rattle.std.specs.Prelude.{◌≡◌, ℕ, ◌^◌, ◌<◌, ◌≤◌, nat_le, ◌&&◌, ℤ, pos, negsuc, List, [], ◌∷◌, length, drop, Option, Some, None, option_map, Bool, true, false, if◌then◌else◌}
use Rattle.std.specs.List.{flat_map}
use Rattle.std.specs.Option.{option_eq}
use Rattle.std.specs.Ordering.{int_eq}
use Rattle.std.proofs.Common.{refl, sym, ap, ◌∙◌, arith, subst, suc, zero, inl, inr}
use Rattle.std.proofs.lemmas.Bool.{and_parts, and_from}
use Rattle.std.proofs.lemmas.Bool.Decides.{nat_tests}
use lib.Pointwise.{pointwise, pointwise_decides}
use Rattle.base_values.proofs.Cases.{by_bool}
use Rattle.imp_slots.specs.Plain.{Layout}
use Rattle.shape_graph.specs.Shape.{Shape, In}
use Rattle.cert_words.specs.Claims.{AreSmall}
use Rattle.cert_words.specs.States.{AreWords}
use Rattle.cert_words.specs.Words.{is_number, words_text}
use Rattle.dom_listseg_meaning.specs.Covers.{counts, fits, fits_graph, fit_graphs}
use Rattle.dom_listseg_meaning.specs.Domain.{segments}
use Rattle.dom_listseg_meaning.specs.Sets.{most, rises}
use Rattle.dom_listseg_meaning.specs.State.{Segments, Top, Graphs}
use Rattle.dom_listseg_meaning.proofs.Fitting.{FitGraphs, FitsGraph, fits-state, is-few}
use Rattle.dom_listseg_words.specs.Words.{graph_told, state_words, number_of, word_at, after_frames, after_atoms, graph_of, fits_counts, graph_if, before, graphs_of, if_told, if_rises, state_of}
use Rattle.dom_listseg_words.proofs.Back.{All-fit, graphs-back, number-back}
use Rattle.dom_listseg_words.proofs.Small.{small-graphs, text-long}
use Rattle.std.proofs.lemmas.Option.{same_Some}
use Rattle.base_values.proofs.Integers.{word_Decides}

abbrev same_words : List (Option ℤ) → List (Option ℤ) → Bool
same_words = pointwise (option_eq int_eq)

told_some : (s : Segments) → state_words s ≡ [] → ⊥
told_some Top e = cc
told_some (Graphs []) e = cc
told_some (Graphs (g ∷ gs)) e = cc

-- ---- what is told is small

told_small : (ls : List Layout) (s : Segments) → fits s ls ≡ true → length (words_text (state_words s)) < 2 ^ 64 → AreSmall (state_words s)
told_small ls Top f h = (omega arith, tt)
told_small ls (Graphs []) f h = (omega arith, tt)
told_small ls (Graphs (g ∷ gs)) f h =
    let fit : FitGraphs (counts ls) (g ∷ gs) = fits-state (Graphs (g ∷ gs)) ls f in
    let few = fit.few in
    let ws : List (Option ℤ) = flat_map graph_told (g ∷ gs) in
    let long : length (Some (pos (length (g ∷ gs))) ∷ ws) ≤ length (words_text (state_words (Graphs (g ∷ gs)))) = text-long (Some (pos 1)) (Some (pos (length (g ∷ gs))) ∷ ws) in
    (omega arith, (omega (arith, few), small-graphs (g ∷ gs) (λ k i. (fit.each_fits k i).framed.graph) (omega (arith, long, h))))

-- ---- what is told is taken back

all-fit : (ls : List Layout) (gs : List Shape) → fit_graphs ls gs ≡ true → ((g : Shape) → In g gs → FitsGraph (counts ls) g) → All-fit (counts ls) gs
all-fit ls [] h f = tt
all-fit ls (g ∷ gs) h f = let p = and_parts (fits_graph ls g) (fit_graphs ls gs) h in ((p.0, (f g (inl refl)).framed.frames), all-fit ls gs p.1 (λ k i. f k (inr i)))

fit-parts : (ls : List Layout) (gs : List Shape) → fits (Graphs gs) ls ≡ true → fit_graphs ls gs ≡ true
unfolding fits
fit-parts ls gs h = (and_parts (rises gs) (fit_graphs ls gs) (and_parts (nat_le (length gs) most) (rises gs && fit_graphs ls gs) h).1).1

told-back : (ws : List (Option ℤ)) (s : Segments) → state_words s ≡ ws → if_told ws s ≡ Some s
told-back ws s e = ap (λ b. if b then Some s else None) ((pointwise_decides word_Decides (state_words s) ws).1 e)

told_back : (ls : List Layout) (s : Segments) → fits s ls ≡ true → AreSmall (state_words s) → state_of ls (state_words s) ≡ Some s
told_back ls Top f h = told-back (state_words Top) Top refl
told_back ls (Graphs []) f h = told-back (state_words (Graphs [])) (Graphs []) refl
told_back ls (Graphs (g ∷ gs)) f h =
    let fit : FitGraphs (counts ls) (g ∷ gs) = fits-state (Graphs (g ∷ gs)) ls f in
    let ws : List (Option ℤ) = state_words (Graphs (g ∷ gs)) in
    let graphs : List (Option ℤ) = flat_map graph_told (g ∷ gs) in
    ap (λ n. if_rises ws (graphs_of (counts ls) n graphs)) (number-back most (length (g ∷ gs)) fit.few) ∙
    ap (if_rises ws) (graphs-back (counts ls) (g ∷ gs) (all-fit ls (g ∷ gs) (fit-parts ls (g ∷ gs) f) fit.each_fits) h.1.1) ∙
    ap (λ b. if b then if_told ws (Graphs (g ∷ gs)) else None) fit.rise ∙
    told-back ws (Graphs (g ∷ gs)) refl

-- ---- what is taken is told

abbrev IsTold : List Layout → List (Option ℤ) → Segments → Type 0
IsTold ls ws s = (fits s ls ≡ true) × (state_words s ≡ ws)

told_exact_if : (ls : List Layout) (ws : List (Option ℤ)) (r s : Segments) → fits r ls ≡ true → if_told ws r ≡ Some s → IsTold ls ws s
told_exact_if ls ws r s f e =
    by_bool (same_words (state_words r) ws)
    (λ k. subst (IsTold ls ws) (same_Some r s (sym (ap (λ b. if b then Some r else None) k) ∙ e)) (f, (pointwise_decides word_Decides (state_words r) ws).0 k))
    (λ k. let i : None ≡ Some s = sym (ap (λ b. if b then Some r else None) k) ∙ e in absurd cc)

number-small : (bound : ℕ) (w : Option ℤ) → number_of bound w ≤ bound
number-small bound None = omega arith
number-small bound (Some (negsuc n)) = omega arith
number-small bound (Some (pos n)) = by_bool (nat_le n bound)
    (λ e. subst (λ k. k ≤ bound) (sym (ap (λ b. if b then n else 0) e)) (within n bound e))
    (λ e. subst (λ k. k ≤ bound) (sym (ap (λ b. if b then n else 0) e)) (omega arith))
  where
    within : (n bound : ℕ) → nat_le n bound ≡ true → n ≤ bound
    within n bound e = grind (arith, nat_tests)

-- so many graphs, each of which fits
record AreGraphs (ls : List Layout) (k : ℕ) (gs : List Shape) : Type 0 where
  many : length gs ≡ k
  fit : fit_graphs ls gs ≡ true

before-exact : (ls : List Layout) (k : ℕ) (g : Shape) (o : Option (List Shape)) (gs : List Shape) → ((hs : List Shape) → o ≡ Some hs → AreGraphs ls k hs) → before (graph_if (counts ls) g) o ≡ Some gs → AreGraphs ls (suc k) gs
before-exact ls k g o gs rest e =
    by_bool (fits_counts (counts ls) g)
    (λ f. by f o rest (sym (ap (λ b. before (if b then Some g else None) o) f) ∙ e))
    (λ f. let i : None ≡ Some gs = sym (ap (λ b. before (if b then Some g else None) o) f) ∙ e in absurd cc)
  where
    by : fits_counts (counts ls) g ≡ true → (o : Option (List Shape)) → ((hs : List Shape) → o ≡ Some hs → AreGraphs ls k hs) → option_map (λ gs. g ∷ gs) o ≡ Some gs → AreGraphs ls (suc k) gs
    by f None rest e = absurd cc
    by f (Some hs) rest e =
        let r = rest hs refl in
        subst (AreGraphs ls (suc k)) (same_Some (g ∷ hs) gs e) (record { many = ap suc r.many; fit = and_from (fits_graph ls g) (fit_graphs ls hs) f r.fit })

graphs-exact : (ls : List Layout) (k : ℕ) (ws : List (Option ℤ)) (gs : List Shape) → graphs_of (counts ls) k ws ≡ Some gs → AreGraphs ls k gs
graphs-exact ls zero ws gs e = subst (AreGraphs ls 0) (same_Some [] gs e) (record { many = refl; fit = refl })
graphs-exact ls (suc k) ws gs e =
    let rest : List (Option ℤ) = after_atoms (after_frames (counts ls) ws) in
    before-exact ls k (graph_of (counts ls) ws) (graphs_of (counts ls) k rest) gs (λ hs i. graphs-exact ls k rest hs i) e

graphs-fit : (ls : List Layout) (k : ℕ) (gs : List Shape) → k ≤ 64 → AreGraphs ls k gs → rises gs ≡ true → fits (Graphs gs) ls ≡ true
unfolding fits
graphs-fit ls k gs few h r = and_from (nat_le (length gs) most) (rises gs && fit_graphs ls gs) (is-few (length gs) (let e = h.many in omega (arith, e))) (and_from (rises gs) (fit_graphs ls gs) r h.fit)

rises_exact : (ls : List Layout) (k : ℕ) (ws : List (Option ℤ)) (o : Option (List Shape)) (s : Segments) → k ≤ 64 → ((gs : List Shape) → o ≡ Some gs → AreGraphs ls k gs) → if_rises ws o ≡ Some s → IsTold ls ws s
rises_exact ls k ws None s few h e = absurd cc
rises_exact ls k ws (Some gs) s few h e =
    by_bool (rises gs)
    (λ r. told_exact_if ls ws (Graphs gs) s (graphs-fit ls k gs few (h gs refl) r) (sym (ap (λ b. if b then if_told ws (Graphs gs) else None) r) ∙ e))
    (λ r. let i : None ≡ Some s = sym (ap (λ b. if b then if_told ws (Graphs gs) else None) r) ∙ e in absurd cc)

top-fits : (ls : List Layout) → fits Top ls ≡ true
unfolding fits
top-fits ls = refl

empty-fits : (ls : List Layout) → fits (Graphs []) ls ≡ true
unfolding fits
empty-fits ls = refl

told_exact : (ls : List Layout) (ws : List (Option ℤ)) (s : Segments) → state_of ls ws ≡ Some s → IsTold ls ws s
told_exact ls ws s e = by (is_number 2 (word_at ws 0)) (is_number 0 (word_at ws 0)) e
  where
    by : (a b : Bool) → (if a then if_told ws Top else (if b then if_told ws (Graphs []) else if_rises ws (graphs_of (counts ls) (number_of most (word_at ws 1)) (drop 2 ws)))) ≡ Some s → IsTold ls ws s
    by true b e = told_exact_if ls ws Top s (top-fits ls) e
    by false true e = told_exact_if ls ws (Graphs []) s (empty-fits ls) e
    by false false e = rises_exact ls (number_of most (word_at ws 1)) ws (graphs_of (counts ls) (number_of most (word_at ws 1)) (drop 2 ws)) s (number-small most (word_at ws 1))
        (λ gs i. graphs-exact ls (number_of most (word_at ws 1)) (drop 2 ws) gs i) e

pub segment_words_are : AreWords segments state_words state_of
segment_words_are = record { some = told_some; small = told_small; back = told_back; exact = told_exact }
