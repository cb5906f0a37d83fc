-- What is told of frames, nodes and graphs is read back.
use Rattle.std.specs.Prelude.{◌≡◌, ℕ, ◌+◌, ◌*◌, ◌/◌, ◌<◌, ◌≤◌, nat_le, min, ℤ, pos, List, [], ◌∷◌, ◌++◌, length, map, take, drop, Option, Some, None, option_map, Bool, true, false, if◌then◌else◌}
use Rattle.std.specs.List.{flat_map, range_with_len}
use Rattle.std.proofs.Common.{refl, sym, ap, ◌∙◌, arith, append_assoc, get_or, subst, suc, zero}
use Rattle.std.proofs.lemmas.List.{map-append}
use Rattle.std.proofs.lemmas.Bool.Decides.{nat_tests}
use Rattle.std.proofs.lemmas.List.FromFn.{fill_by_all}
use Rattle.std.proofs.Math.Nat.{min-eq_left}
use Rattle.shape_graph.specs.declared.graph.Atom.{Atom}
use Rattle.shape_graph.specs.Shape.{Shape, shape_of, all_slots_of}
use Rattle.cert_words.specs.Claims.{IsSmall, AreSmall}
use Rattle.cert_words.specs.Words.{is_number, limit}
use Rattle.dom_listseg_words.specs.Words.{target_word, atom_told, graph_told, number_of, node_before, target_of, frames_of, after_frames, node_count, atom_of, atoms_of, after_atoms, graph_of, fits_counts, graph_if, before, graphs_of}

pub number-back : (bound n : ℕ) → n ≤ bound → number_of bound (Some (pos n)) ≡ n
number-back bound n h = ap (λ b. if b then n else 0) (test n bound h)
  where
    test : (n bound : ℕ) → n ≤ bound → nat_le n bound ≡ true
    test n bound h = grind (arith, nat_tests)

target-back : (t : Option ℕ) → IsSmall (target_word t) → target_of (target_word t) ≡ t
target-back None h = ap node_before (number-back limit 0 (omega arith))
target-back (Some k) h = ap node_before (number-back limit (k + 1) h) ∙ (let e : k + 1 ≡ suc k = omega arith in ap node_before e)

small-front : (vs ws : List (Option ℤ)) → AreSmall (vs ++ ws) → AreSmall vs
small-front [] ws h = tt
small-front (v ∷ vs) ws h = (h.0, small-front vs ws h.1)

pub small-rest : (vs ws : List (Option ℤ)) → AreSmall (vs ++ ws) → AreSmall ws
small-rest [] ws h = h
small-rest (v ∷ vs) ws h = small-rest vs ws h.1

-- ---- frames

take-row : (row : List (Option ℕ)) (ws : List (Option ℤ)) → take (length row) (map target_word row ++ ws) ≡ map target_word row
take-row [] ws = refl
take-row (t ∷ row) ws = ap (λ ws. target_word t ∷ ws) (take-row row ws)

drop-row : (row : List (Option ℕ)) (ws : List (Option ℤ)) → drop (length row) (map target_word row ++ ws) ≡ ws
drop-row [] ws = refl
drop-row (t ∷ row) ws = drop-row row ws

row-back : (row : List (Option ℕ)) → AreSmall (map target_word row) → map target_of (map target_word row) ≡ row
row-back [] h = refl
row-back (t ∷ row) h = λ i. target-back t h.0 i ∷ row-back row h.1 i

row-first : (row : List (Option ℕ)) (rows : List (List (Option ℕ))) (ws : List (Option ℤ)) → map target_word (all_slots_of (row ∷ rows)) ++ ws ≡ map target_word row ++ (map target_word (all_slots_of rows) ++ ws)
row-first row rows ws = ap (λ xs. xs ++ ws) (map-append target_word row (all_slots_of rows)) ∙ append_assoc (map target_word row) (map target_word (all_slots_of rows)) ws

frames-back : (rows : List (List (Option ℕ))) (ws : List (Option ℤ)) → AreSmall (map target_word (all_slots_of rows)) → frames_of (map length rows) (map target_word (all_slots_of rows) ++ ws) ≡ rows
frames-back [] ws h = refl
frames-back (row ∷ rows) ws h =
    let s : AreSmall (map target_word row ++ map target_word (all_slots_of rows)) = subst AreSmall (map-append target_word row (all_slots_of rows)) h in
    let more : List (Option ℤ) = map target_word (all_slots_of rows) ++ ws in
    ap (frames_of (map length (row ∷ rows))) (row-first row rows ws) ∙
    (λ i. map target_of (take-row row more i) ∷ frames_of (map length rows) (drop-row row more i)) ∙
    (λ i. row-back row (small-front (map target_word row) (map target_word (all_slots_of rows)) s) i ∷ frames-back rows ws (small-rest (map target_word row) (map target_word (all_slots_of rows)) s) i)

after-frames-back : (rows : List (List (Option ℕ))) (ws : List (Option ℤ)) → after_frames (map length rows) (map target_word (all_slots_of rows) ++ ws) ≡ ws
after-frames-back [] ws = refl
after-frames-back (row ∷ rows) ws =
    ap (after_frames (map length (row ∷ rows))) (row-first row rows ws) ∙
    ap (after_frames (map length rows)) (drop-row row (map target_word (all_slots_of rows) ++ ws)) ∙ after-frames-back rows ws

-- ---- nodes

kind-back : (b : Bool) → is_number 1 (Some (pos (if b then 1 else 0))) ≡ b
kind-back true = refl
kind-back false = refl

-- the two words of a node
first-at : (atoms : List Atom) (ws : List (Option ℤ)) (k : ℕ) (d : Atom) → k < length atoms → get_or (flat_map atom_told atoms ++ ws) (2 * k) None ≡ Some (pos (if (get_or atoms k d).many then 1 else 0))
first-at [] ws k d h = absurd (omega arith)
first-at (a ∷ atoms) ws zero d h = refl
first-at (a ∷ atoms) ws (suc k) d h = let e : 2 * suc k ≡ suc (suc (2 * k)) = omega arith in ap (λ q. get_or (flat_map atom_told (a ∷ atoms) ++ ws) q None) e ∙ first-at atoms ws k d (omega arith)

second-at : (atoms : List Atom) (ws : List (Option ℤ)) (k : ℕ) (d : Atom) → k < length atoms → get_or (flat_map atom_told atoms ++ ws) (2 * k + 1) None ≡ target_word (get_or atoms k d).target
second-at [] ws k d h = absurd (omega arith)
second-at (a ∷ atoms) ws zero d h = refl
second-at (a ∷ atoms) ws (suc k) d h = let e : 2 * suc k + 1 ≡ suc (suc (2 * k + 1)) = omega arith in ap (λ q. get_or (flat_map atom_told (a ∷ atoms) ++ ws) q None) e ∙ second-at atoms ws k d (omega arith)

small-at : (atoms : List Atom) (k : ℕ) (d : Atom) → k < length atoms → AreSmall (flat_map atom_told atoms) → IsSmall (target_word (get_or atoms k d).target)
small-at [] k d h s = absurd (omega arith)
small-at (a ∷ atoms) zero d h s = s.1.0
small-at (a ∷ atoms) (suc k) d h s = small-at atoms k d (omega arith) s.1.1

atom-at : (w : Option ℤ) (atoms : List Atom) (ws : List (Option ℤ)) (k : ℕ) (d : Atom) → k < length atoms → AreSmall (flat_map atom_told atoms) → atom_of (w ∷ (flat_map atom_told atoms ++ ws)) k ≡ get_or atoms k d
atom-at w atoms ws k d h s =
    let a : Atom = get_or atoms k d in
    let p : 2 * k + 1 ≡ suc (2 * k) = omega arith in
    let q : 2 * k + 2 ≡ suc (2 * k + 1) = omega arith in
    let many = ap (λ p. is_number 1 (get_or (w ∷ (flat_map atom_told atoms ++ ws)) p None)) p ∙ ap (is_number 1) (first-at atoms ws k d h) ∙ kind-back a.many in
    let target = ap (λ p. target_of (get_or (w ∷ (flat_map atom_told atoms ++ ws)) p None)) q ∙ ap target_of (second-at atoms ws k d h) ∙ target-back a.target (small-at atoms k d h s) in
    λ i. record { many = many i; target = target i }

length-told : (atoms : List Atom) (ws : List (Option ℤ)) → length (flat_map atom_told atoms ++ ws) ≡ 2 * length atoms + length ws
length-told [] ws = omega arith
length-told (a ∷ atoms) ws = let e = length-told atoms ws in omega (arith, e)

count-back : (atoms : List Atom) (ws : List (Option ℤ)) → length atoms ≤ limit → node_count (Some (pos (length atoms)) ∷ (flat_map atom_told atoms ++ ws)) ≡ length atoms
count-back atoms ws h =
    let all : List (Option ℤ) = flat_map atom_told atoms ++ ws in
    ap (λ n. min n (length (Some (pos (length atoms)) ∷ all) / 2)) (number-back limit (length atoms) h) ∙
    min-eq_left (omega (arith, length-told atoms ws))

atoms-back : (atoms : List Atom) (ws : List (Option ℤ)) → length atoms ≤ limit → AreSmall (flat_map atom_told atoms) → atoms_of (Some (pos (length atoms)) ∷ (flat_map atom_told atoms ++ ws)) ≡ atoms
atoms-back atoms ws h s =
    let all : List (Option ℤ) = Some (pos (length atoms)) ∷ (flat_map atom_told atoms ++ ws) in
    let d : Atom = record { many = false; target = None } in
    ap (λ n. map (atom_of all) (range_with_len 0 n)) (count-back atoms ws h) ∙
    sym (fill_by_all (atom_of all) atoms (length atoms) d refl (λ k l. sym (atom-at (Some (pos (length atoms))) atoms ws k d l s)))

drop-told : (atoms : List Atom) (ws : List (Option ℤ)) → drop (2 * length atoms) (flat_map atom_told atoms ++ ws) ≡ ws
drop-told [] ws = refl
drop-told (a ∷ atoms) ws = let e : 2 * suc (length atoms) ≡ suc (suc (2 * length atoms)) = omega arith in ap (λ n. drop n (flat_map atom_told (a ∷ atoms) ++ ws)) e ∙ drop-told atoms ws

after-atoms-back : (atoms : List Atom) (ws : List (Option ℤ)) → length atoms ≤ limit → after_atoms (Some (pos (length atoms)) ∷ (flat_map atom_told atoms ++ ws)) ≡ ws
after-atoms-back atoms ws h =
    let all : List (Option ℤ) = Some (pos (length atoms)) ∷ (flat_map atom_told atoms ++ ws) in
    let e : 2 * length atoms + 1 ≡ suc (2 * length atoms) = omega arith in
    ap (λ n. drop (2 * n + 1) all) (count-back atoms ws h) ∙ ap (λ n. drop n all) e ∙ drop-told atoms ws

-- ---- graphs

-- the words of a graph before others
graph-first : (g : Shape) (ws : List (Option ℤ)) → graph_told g ++ ws ≡ map target_word (all_slots_of g.frames) ++ (Some (pos (length g.atoms)) ∷ (flat_map atom_told g.atoms ++ ws))
graph-first g ws = append_assoc (map target_word (all_slots_of g.frames)) (Some (pos (length g.atoms)) ∷ flat_map atom_told g.atoms) ws

graph-back : (ns : List ℕ) (g : Shape) (ws : List (Option ℤ)) → map length g.frames ≡ ns → AreSmall (graph_told g) → graph_of ns (graph_told g ++ ws) ≡ g
graph-back ns g ws e s =
    let targets : List (Option ℤ) = map target_word (all_slots_of g.frames) in
    let all : List (Option ℤ) = Some (pos (length g.atoms)) ∷ (flat_map atom_told g.atoms ++ ws) in
    let rest : AreSmall (Some (pos (length g.atoms)) ∷ flat_map atom_told g.atoms) = small-rest targets (Some (pos (length g.atoms)) ∷ flat_map atom_told g.atoms) s in
    ap (λ ns. graph_of ns (graph_told g ++ ws)) (sym e) ∙
    ap (graph_of (map length g.frames)) (graph-first g ws) ∙
    (λ i. shape_of (frames-back g.frames all (small-front targets (Some (pos (length g.atoms)) ∷ flat_map atom_told g.atoms) s) i) (atoms_of (after-frames-back g.frames all i))) ∙
    ap (shape_of g.frames) (atoms-back g.atoms ws rest.0 rest.1)

after-graph-back : (ns : List ℕ) (g : Shape) (ws : List (Option ℤ)) → map length g.frames ≡ ns → AreSmall (graph_told g) → after_atoms (after_frames ns (graph_told g ++ ws)) ≡ ws
after-graph-back ns g ws e s =
    let targets : List (Option ℤ) = map target_word (all_slots_of g.frames) in
    let all : List (Option ℤ) = Some (pos (length g.atoms)) ∷ (flat_map atom_told g.atoms ++ ws) in
    let rest : AreSmall (Some (pos (length g.atoms)) ∷ flat_map atom_told g.atoms) = small-rest targets (Some (pos (length g.atoms)) ∷ flat_map atom_told g.atoms) s in
    ap (λ ns. after_atoms (after_frames ns (graph_told g ++ ws))) (sym e) ∙
    ap (λ ws. after_atoms (after_frames (map length g.frames) ws)) (graph-first g ws) ∙
    ap after_atoms (after-frames-back g.frames all) ∙ after-atoms-back g.atoms ws rest.0

-- each of the graphs fits, and has such frames
abbrev pub All-fit : List ℕ → List Shape → Type 0
All-fit ns [] = Unit {0}
All-fit ns (g ∷ gs) = ((fits_counts ns g ≡ true) × (map length g.frames ≡ ns)) × All-fit ns gs

pub graphs-back : (ns : List ℕ) (gs : List Shape) → All-fit ns gs → AreSmall (flat_map graph_told gs) → graphs_of ns (length gs) (flat_map graph_told gs) ≡ Some gs
graphs-back ns [] f s = refl
graphs-back ns (g ∷ gs) f s =
    let ws : List (Option ℤ) = flat_map graph_told gs in
    let own : AreSmall (graph_told g) = small-front (graph_told g) ws s in
    (λ i. before (graph_if ns (graph-back ns g ws f.0.1 own i)) (graphs_of ns (length gs) (after-graph-back ns g ws f.0.1 own i))) ∙
    ap (λ b. before (if b then Some g else None) (graphs_of ns (length gs) ws)) f.0.0 ∙
    ap (option_map (λ gs. g ∷ gs)) (graphs-back ns gs f.1 (small-rest (graph_told g) ws s))
