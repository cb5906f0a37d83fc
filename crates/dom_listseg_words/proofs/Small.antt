-- What is told of a state is small, where its text is one that memory holds.
use Rattle.std.specs.Prelude.{◌≡◌, ℕ, ◌+◌, ◌<◌, ◌≤◌, ℤ, pos, List, [], ◌∷◌, ◌++◌, length, map, Option, Some, None, Bool, true, false, if◌then◌else◌}
use Rattle.std.specs.List.{flat_map}
use Rattle.std.proofs.Common.{refl, arith, inl, inr, suc, length-append}
use Rattle.shape_graph.specs.declared.graph.Atom.{Atom}
use Rattle.shape_graph.specs.Shape.{Shape, IsGraph, In, slots, nodes, atom_at}
use Rattle.cert_words.specs.Claims.{IsSmall, AreSmall}
use Rattle.cert_words.specs.Words.{limit, word_text, more_text, words_text}
use Rattle.dom_listseg_words.specs.Words.{target_word, atom_told, graph_told}

-- a text has at least as many bytes as words after the first
more-long : (ws : List (Option ℤ)) → length ws ≤ length (more_text ws)
more-long [] = omega arith
more-long (w ∷ ws) = let e = more-long ws in omega (arith, length-append (word_text w) (more_text ws))

pub text-long : (w : Option ℤ) (ws : List (Option ℤ)) → length ws ≤ length (words_text (w ∷ ws))
text-long w ws = let e = more-long ws in omega (arith, length-append (word_text w) (more_text ws))

pub small-both : (vs ws : List (Option ℤ)) → AreSmall vs → AreSmall ws → AreSmall (vs ++ ws)
small-both [] ws h k = k
small-both (v ∷ vs) ws h k = (h.0, small-both vs ws h.1 k)

-- targets that are nodes
small-targets : (ts : List (Option ℕ)) (n : ℕ) → n ≤ limit → ((k : ℕ) → In (Some k) ts → k < n) → AreSmall (map target_word ts)
small-targets [] n h f = tt
small-targets (None ∷ ts) n h f = (omega arith, small-targets ts n h (λ k i. f k (inr i)))
small-targets (Some k ∷ ts) n h f = ((let l : k < n = f k (inl refl) in omega arith), small-targets ts n h (λ k i. f k (inr i)))

small-kind : (b : Bool) → IsSmall (Some (pos (if b then 1 else 0)))
small-kind true = omega arith
small-kind false = omega arith

small-target : (t : Option ℕ) (n : ℕ) → n ≤ limit → ((k : ℕ) → t ≡ Some k → k < n) → IsSmall (target_word t)
small-target None n h f = omega arith
small-target (Some k) n h f = let l : k < n = f k refl in omega arith

small-atoms : (atoms : List Atom) (n : ℕ) → n ≤ limit → ((j k : ℕ) → (atom_at atoms j).target ≡ Some k → k < n) → AreSmall (flat_map atom_told atoms)
small-atoms [] n h f = tt
small-atoms (a ∷ atoms) n h f = (small-kind a.many, (small-target a.target n h (f 0), small-atoms atoms n h (λ j. f (suc j))))

pub small-graph : (g : Shape) → IsGraph g → nodes g ≤ limit → AreSmall (graph_told g)
small-graph g h n =
    small-both (map target_word (slots g)) (Some (pos (length g.atoms)) ∷ flat_map atom_told g.atoms) (small-targets (slots g) (nodes g) n h.slots_in)
    (n, small-atoms g.atoms (nodes g) n h.targets_in)

-- there are as many words as nodes
atoms-long : (atoms : List Atom) → length atoms ≤ length (flat_map atom_told atoms)
atoms-long [] = omega arith
atoms-long (a ∷ atoms) = let e = atoms-long atoms in omega arith

graph-long : (g : Shape) → nodes g ≤ length (graph_told g)
graph-long g = let e = atoms-long g.atoms in omega (arith, length-append (map target_word (slots g)) (Some (pos (length g.atoms)) ∷ flat_map atom_told g.atoms))

pub small-graphs : (gs : List Shape) → ((g : Shape) → In g gs → IsGraph g) → length (flat_map graph_told gs) ≤ limit → AreSmall (flat_map graph_told gs)
small-graphs [] h n = tt
small-graphs (g ∷ gs) h n =
    let e : length (graph_told g ++ flat_map graph_told gs) ≡ length (graph_told g) + length (flat_map graph_told gs) = length-append (graph_told g) (flat_map graph_told gs) in
    let l = graph-long g in
    small-both (graph_told g) (flat_map graph_told gs) (small-graph g (h g (inl refl)) (omega (arith, e))) (small-graphs gs (λ k i. h k (inr i)) (omega (arith, e)))
