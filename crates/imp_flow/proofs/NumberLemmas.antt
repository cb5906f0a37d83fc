-- Nodes by their numbers.
use Rattle.std.proofs.Common.{◌≡◌, ◌≢◌, ℕ, cond, List, [], ◌∷◌, ◌++◌, map, Some, refl, ap, ◌∙◌}
use Rattle.imp_slots.specs.Plain.{Code, Stop, Simple, If, While, Call, Break, Routine, code_numbers}
use Rattle.imp_slots.specs.Fits.{Absent, Distinct, routine_numbers}
use Rattle.base_values.proofs.Cases.{by_test}
use Rattle.base_values.proofs.Members.{Member, here, there}
use Rattle.cell_names.specs.declared.frame.Point.{Point}
use Rattle.cell_names.specs.declared.frame.Point.TheVariants.{Entry, Then, Else, Body, Post}
use Rattle.imp_flow_rows.specs.Shapes.{Node}
use Rattle.imp_flow.specs.Nodes.{block_nodes, nodes_of, node_of}

abbrev pub node_numbers : List Node → List ℕ
node_numbers xs = map (λ (x : Node). x.stmt) xs

both : (xs ys : List Node) → node_numbers (xs ++ ys) ≡ node_numbers xs ++ node_numbers ys
both [] ys = refl
both (x ∷ xs) ys = ap (λ ns. x.stmt ∷ ns) (both xs ys)

block_numbers : (earlier : List Routine) (loops : List ℕ) (p : Point) (c : Code) → node_numbers (block_nodes earlier loops p c) ≡ code_numbers c
block_numbers earlier loops p Stop = refl
block_numbers earlier loops p (Simple n e r) = ap (λ ns. n ∷ ns) (block_numbers earlier loops (Post n) r)
block_numbers earlier loops p (If n g t e r) =
    let T = block_nodes earlier loops (Then n) t in
    let E = block_nodes earlier loops (Else n) e in
    let R = block_nodes earlier loops (Post n) r in
    ap (λ ns. n ∷ ns) (both T (E ++ R) ∙ ap (λ ns. node_numbers T ++ ns) (both E R) ∙ (λ i. block_numbers earlier loops (Then n) t i ++ (block_numbers earlier loops (Else n) e i ++ block_numbers earlier loops (Post n) r i)))
block_numbers earlier loops p (While n g b r) =
    let B = block_nodes earlier (loops ++ n ∷ []) Body b in
    let R = block_nodes earlier loops (Post n) r in
    ap (λ ns. n ∷ ns) (both B R ∙ (λ i. block_numbers earlier (loops ++ n ∷ []) Body b i ++ block_numbers earlier loops (Post n) r i))
block_numbers earlier loops p (Call n i q r) = ap (λ ns. n ∷ ns) (block_numbers earlier loops (Post n) r)
block_numbers earlier loops p (Break n r) = ap (λ ns. n ∷ ns) (block_numbers earlier loops (Post n) r)

pub all_numbers : (rs : List Routine) → node_numbers (nodes_of rs) ≡ routine_numbers rs
all_numbers [] = refl
all_numbers (r ∷ rs) = both (block_nodes rs [] Entry r.code) (nodes_of rs) ∙ (λ i. block_numbers rs [] Entry r.code i ++ all_numbers rs i)

-- Where numbers stand once, each node is found by its own.
absent_there : (n : ℕ) (y : Node) (xs : List Node) → Absent n (node_numbers xs) → Member y xs → n ≢ y.stmt
absent_there n y [] a m = elim m [ ]
absent_there n y (_ ∷ xs) a here = a.0
absent_there n y (x ∷ xs) a (there m) = absent_there n y xs a.1 m

pub found_there : (xs : List Node) (y : Node) → Distinct (node_numbers xs) → Member y xs → node_of xs y.stmt ≡ Some y
found_there [] y d m = elim m [ ]
found_there (_ ∷ xs) y d here = by_test y.stmt y.stmt (λ t. cond t (Some y) (node_of xs y.stmt) ≡ Some y) (λ k. refl) (λ k. absurd (k refl))
found_there (x ∷ xs) y d (there m) = by_test x.stmt y.stmt (λ t. cond t (Some x) (node_of xs y.stmt) ≡ Some y) (λ k. absurd (absent_there x.stmt y xs d.0 m k)) (λ k. found_there xs y d.1 m)
