-- What is written of lists, one after another.
use Rattle.std.specs.Prelude.{◌≡◌, ℕ, ◌+◌, ◌<◌, ℤ, List, [], ◌∷◌, ◌++◌, length, map, drop, Option}
use Rattle.std.specs.List.{flat_map}
use Rattle.std.proofs.Common.{sym, ap, ◌∙◌, append_assoc, get_or}
use Rattle.std.proofs.lemmas.List.{map-append}
use Rattle.base_values.proofs.Lists.{drop_item}
use Rattle.shape_graph.specs.declared.graph.Atom.{Atom}
use Rattle.shape_graph.specs.Shape.{Shape, all_slots_of}
use Rattle.dom_listseg_words.specs.Words.{target_word, atom_told, graph_told}

-- the words of one more are written, those of the others are still to be written
flat_step : {A : Type 0} (f : A → List (Option ℤ)) (ws : List (Option ℤ)) (xs : List A) (i : ℕ) (x : A) → i < length xs → x ≡ get_or xs i x → ws ++ flat_map f (drop i xs) ≡ (ws ++ f x) ++ flat_map f (drop (i + 1) xs)
flat_step f ws xs i x h e = ap (λ xs. ws ++ flat_map f xs) (drop_item xs i x h e) ∙ sym (append_assoc ws (f x) (flat_map f (drop (i + 1) xs)))

pub target_step : (ws : List (Option ℤ)) (ts : List (Option ℕ)) (i : ℕ) (t : Option ℕ) → i < length ts → t ≡ get_or ts i t → ws ++ map target_word (drop i ts) ≡ (ws ++ target_word t ∷ []) ++ map target_word (drop (i + 1) ts)
target_step ws ts i t h e = ap (λ ts. ws ++ map target_word ts) (drop_item ts i t h e) ∙ sym (append_assoc ws (target_word t ∷ []) (map target_word (drop (i + 1) ts)))

pub row_step : (ws : List (Option ℤ)) (rows : List (List (Option ℕ))) (i : ℕ) (row : List (Option ℕ)) → i < length rows → row ≡ get_or rows i row →
    ws ++ map target_word (all_slots_of (drop i rows)) ≡ (ws ++ map target_word row) ++ map target_word (all_slots_of (drop (i + 1) rows))
row_step ws rows i row h e =
    ap (λ rows. ws ++ map target_word (all_slots_of rows)) (drop_item rows i row h e) ∙
    ap (λ xs. ws ++ xs) (map-append target_word row (all_slots_of (drop (i + 1) rows))) ∙
    sym (append_assoc ws (map target_word row) (map target_word (all_slots_of (drop (i + 1) rows))))

pub atom_step : (ws : List (Option ℤ)) (atoms : List Atom) (i : ℕ) (a : Atom) → i < length atoms → a ≡ get_or atoms i a → ws ++ flat_map atom_told (drop i atoms) ≡ (ws ++ atom_told a) ++ flat_map atom_told (drop (i + 1) atoms)
atom_step = flat_step atom_told

pub graph_step : (ws : List (Option ℤ)) (graphs : List Shape) (i : ℕ) (g : Shape) → i < length graphs → g ≡ get_or graphs i g → ws ++ flat_map graph_told (drop i graphs) ≡ (ws ++ graph_told g) ++ flat_map graph_told (drop (i + 1) graphs)
graph_step = flat_step graph_told

-- one word and then another, and the parts of a graph
pub two_behind : (ws : List (Option ℤ)) (v w : Option ℤ) → (ws ++ v ∷ []) ++ w ∷ [] ≡ ws ++ (v ∷ (w ∷ []))
two_behind ws v w = append_assoc ws (v ∷ []) (w ∷ [])

pub three_behind : (ws us : List (Option ℤ)) (v : Option ℤ) (vs : List (Option ℤ)) → ((ws ++ us) ++ v ∷ []) ++ vs ≡ ws ++ (us ++ (v ∷ vs))
three_behind ws us v vs = append_assoc (ws ++ us) (v ∷ []) vs ∙ append_assoc ws us (v ∷ vs)
