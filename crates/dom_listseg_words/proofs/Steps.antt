-- What is read of words, one after another.
use Rattle.std.specs.Prelude.{◌≡◌, ◌≢◌, ℕ, ◌+◌, ◌-◌, ◌*◌, ◌/◌, ◌<◌, ◌≤◌, ℤ, List, [], ◌∷◌, ◌++◌, length, map, take, drop, Option, Some, None, option_map, Bool, true, false, ◌&&◌, nat_eq, if◌then◌else◌}
use lib.Pointwise.{pointwise}
use Rattle.std.specs.List.{range_with_len}
use Rattle.std.proofs.Common.{refl, sym, ap, ◌∙◌, arith, append_assoc, get_or, suc, zero}
use Rattle.std.proofs.lemmas.List.FromFn.{map-range_with_len_more}
use Rattle.std.proofs.Math.Nat.{min-le_right}
use Rattle.base_values.proofs.Lists.{drop_item}
use Rattle.shape_graph.specs.Shape.{Shape, IsGraph}
use Rattle.fold_laws.specs.Folding.{is_folded}
use Rattle.fold_laws.proofs.Function.{is_folded-graph}
use Rattle.cert_words.specs.Words.{limit}
use Rattle.dom_listseg_words.specs.Words.{number_of, target_of, word_at, frames_of, after_frames, node_count, atom_of, after_atoms, graph_of, graph_if, before, graphs_of}

pub frames_step : (fs : List (List (Option ℕ))) (ns : List ℕ) (ws : List (Option ℤ)) (i n : ℕ) → i < length ns → n ≡ get_or ns i n →
    fs ++ frames_of (drop i ns) ws ≡ (fs ++ map target_of (take n ws) ∷ []) ++ frames_of (drop (i + 1) ns) (drop n ws)
frames_step fs ns ws i n h e = ap (λ ns. fs ++ frames_of ns ws) (drop_item ns i n h e) ∙ sym (append_assoc fs (map target_of (take n ws) ∷ []) (frames_of (drop (i + 1) ns) (drop n ws)))

pub after_step : (ns : List ℕ) (ws : List (Option ℤ)) (i n : ℕ) → i < length ns → n ≡ get_or ns i n → after_frames (drop i ns) ws ≡ after_frames (drop (i + 1) ns) (drop n ws)
after_step ns ws i n h e = ap (λ ns. after_frames ns ws) (drop_item ns i n h e)

-- there are words for all nodes
pub nodes_few : (ws : List (Option ℤ)) → 2 * node_count ws ≤ length ws
nodes_few ws = omega (arith, min-le_right (number_of limit (word_at ws 0)) (length ws / 2))

pub atoms_step : (ws : List (Option ℤ)) (k : ℕ) → map (atom_of ws) (range_with_len 0 (k + 1)) ≡ map (atom_of ws) (range_with_len 0 k) ++ atom_of ws k ∷ []
atoms_step ws k = map-range_with_len_more (atom_of ws) 0 k k (omega arith)

-- what is no graph does not fit
pub no_graph : (ns : List ℕ) (g : Shape) → (IsGraph g → ⊥) → graph_if ns g ≡ None
no_graph ns g n = by (is_folded g) refl
  where
    by : (b : Bool) → is_folded g ≡ b → graph_if ns g ≡ None
    by true e = absurd (n (is_folded-graph g e))
    by false e = ap (λ b. if (b && pointwise nat_eq (map length g.frames) ns) then Some g else None) e

-- one graph more
pub graphs_more : (ns : List ℕ) (many : ℕ) (ws : List (Option ℤ)) → many ≢ 0 → graphs_of ns many ws ≡ before (graph_if ns (graph_of ns ws)) (graphs_of ns (many - 1) (after_atoms (after_frames ns ws)))
graphs_more ns zero ws h = absurd (h refl)
graphs_more ns (suc k) ws h = let e : k ≡ suc k - 1 = omega arith in ap (λ k. before (graph_if ns (graph_of ns ws)) (graphs_of ns k (after_atoms (after_frames ns ws)))) e

-- the graphs so far with one more, before the others
pub more_behind : (done : List Shape) (g : Shape) (o : Option (List Shape)) (first : Option Shape) → first ≡ Some g →
    option_map (λ more. (done ++ g ∷ []) ++ more) o ≡ option_map (λ more. done ++ more) (before first o)
more_behind done g o first e = by o ∙ ap (λ (first : Option Shape). option_map (λ more. done ++ more) (before first o)) (sym e)
  where
    by : (o : Option (List Shape)) → option_map (λ more. (done ++ g ∷ []) ++ more) o ≡ option_map (λ more. done ++ more) (option_map (λ gs. g ∷ gs) o)
    by None = refl
    by (Some more) = ap Some (append_assoc done (g ∷ []) more)

pub graphs_step : (done pushed : List Shape) (ns : List ℕ) (many : ℕ) (ws rest : List (Option ℤ)) (g : Shape) (first : Option Shape) → many ≢ 0 → first ≡ graph_if ns (graph_of ns ws) → first ≡ Some g →
    pushed ≡ done ++ g ∷ [] → rest ≡ after_atoms (after_frames ns ws) → option_map (λ more. pushed ++ more) (graphs_of ns (many - 1) rest) ≡ option_map (λ more. done ++ more) (graphs_of ns many ws)
graphs_step done pushed ns many ws rest g first h is e p r =
    (λ i. option_map (λ more. p i ++ more) (graphs_of ns (many - 1) (r i))) ∙
    more_behind done g (graphs_of ns (many - 1) (after_atoms (after_frames ns ws))) (graph_if ns (graph_of ns ws)) (sym is ∙ e) ∙
    ap (option_map (λ more. done ++ more)) (sym (graphs_more ns many ws h))
