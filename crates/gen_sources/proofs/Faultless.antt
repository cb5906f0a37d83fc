-- The trees of generated sources have no fault.
use Rattle.std.proofs.Common.{◌≡◌, ◌≤◌, ◌+◌, ◌*◌, ℕ, zero, suc, List, [], Option, Some, None, Bool, true, false, refl, ap, ◌∙◌, arith, nat_lt}
use Rattle.std.specs.Prelude.{codes, max}
use Rattle.std.proofs.lemmas.Bool.Decides.{nat_tests}
use Rattle.imp_syntax.specs.declared.words.VariableKind.TheVariants.{Int}
use Rattle.imp_syntax.specs.declared.words.Operator.TheVariants.{Add, Subtract}
use Rattle.imp_syntax.specs.declared.words.Declaration.{Declaration}
use Rattle.imp_syntax.specs.Plain as plain
use Rattle.imp_syntax.specs.Plain.{Literal, Variable, Binary, Statements, Ends, Starts}
use Rattle.imp_check.specs.Faults.{first, at}
use Rattle.imp_check.specs.Names.{kind_of}
use Rattle.imp_check.specs.Statements.{Scope, action_fault, condition_fault, block_fault}
use Rattle.imp_check.specs.Programs.{block_count, nesting}
use Rattle.daig_gen.specs.declared.pieces.PieceKind.{PieceKind}
use Rattle.daig_gen.specs.declared.pieces.PieceKind.TheVariants.{Constant, Sum, Difference, While, If, Array, Input, Node}
use Rattle.daig_gen.specs.Draws.{next, pick, variable, constant}
use Rattle.daig_gen.specs.Pieces.{kind_of as drawn_kind, variable_text}
use Rattle.daig_gen.specs.Source.{piece}
use Rattle.imp_round_trip.specs.Renumbered.{block_from}
use Rattle.gen_sources.specs.Trees.{AreFaultless, declarations, named, sets, less, piece_tree, pieces_tree, tree_of}
use Rattle.gen_sources.proofs.Words.{variable_below, is_declared}

-- ---- names and kinds

abbrev vs : List Declaration
vs = declarations

declared_drawn : (s : ℕ) → kind_of vs (variable_text (variable s)) ≡ Some Int
declared_drawn s = is_declared (variable s) (variable_below s)

-- an assignment to a variable that is drawn, of a number, a variable, a sum, a difference
sets_number : (s n : ℕ) → action_fault vs (sets (variable s) (Literal n)) ≡ None
sets_number s n = rw (declared_drawn s) refl

sets_variable : (s t : ℕ) → action_fault vs (sets (variable s) (named (variable t))) ≡ None
sets_variable s t = rw (declared_drawn s, declared_drawn t) refl

sets_sum : (s t n : ℕ) → action_fault vs (sets (variable s) (Binary Add (named (variable t)) (Literal n))) ≡ None
sets_sum s t n = rw (declared_drawn s, declared_drawn t) refl

sets_difference : (s t u : ℕ) → action_fault vs (sets (variable s) (Binary Subtract (named (variable t)) (named (variable u)))) ≡ None
sets_difference s t u = rw (declared_drawn s, declared_drawn t, declared_drawn u) refl

takes_input : (s : ℕ) → action_fault vs (plain.Input (variable_text (variable s))) ≡ None
takes_input s = rw (declared_drawn s) refl

below_number : (s n : ℕ) → condition_fault vs (less (named (variable s)) (Literal n)) ≡ None
below_number s n = rw (declared_drawn s) refl

below_variable : (s t : ℕ) → condition_fault vs (less (named (variable s)) (named (variable t))) ≡ None
below_variable s t = rw (declared_drawn s, declared_drawn t) refl

-- ---- statements

module _ (scope : Scope) (declares : scope.variables ≡ vs) where
  both : {A : Type 0} (x y : Option A) → x ≡ None → y ≡ None → first x y ≡ None
  both x y e f = ap (λ o. first o y) e ∙ f

  fine_action : (n : ℕ) (act : plain.Action) → action_fault vs act ≡ None → at n (action_fault scope.variables act) ≡ None
  fine_action n act e = ap (at n) (ap (λ ds. action_fault ds act) declares ∙ e)

  fine_condition : (n : ℕ) (c : plain.Condition) → condition_fault vs c ≡ None → at n (condition_fault scope.variables c) ≡ None
  fine_condition n c e = ap (at n) (ap (λ ds. condition_fault ds c) declares ∙ e)

  simple : (inside : Bool) (n : ℕ) (act : plain.Action) (rest : Statements) → action_fault vs act ≡ None → block_fault scope inside rest ≡ None → block_fault scope inside (Starts (plain.Simple n act) rest) ≡ None
  simple inside n act rest e h = both (at n (action_fault scope.variables act)) (block_fault scope inside rest) (fine_action n act e) h

  loop : (inside : Bool) (n : ℕ) (c : plain.Condition) (body rest : Statements) → condition_fault vs c ≡ None → block_fault scope true body ≡ None → block_fault scope inside rest ≡ None → block_fault scope inside (Starts (plain.While n c body) rest) ≡ None
  loop inside n c body rest e b h =
      both (first (at n (condition_fault scope.variables c)) (block_fault scope true body)) (block_fault scope inside rest) (both (at n (condition_fault scope.variables c)) (block_fault scope true body) (fine_condition n c e) b) h

  branches : (inside : Bool) (n : ℕ) (c : plain.Condition) (t f rest : Statements) → condition_fault vs c ≡ None → block_fault scope inside t ≡ None → block_fault scope inside f ≡ None → block_fault scope inside rest ≡ None → block_fault scope inside (Starts (plain.If n c t f) rest) ≡ None
  branches inside n c t f rest e g i h =
      both (first (at n (condition_fault scope.variables c)) (first (block_fault scope inside t) (block_fault scope inside f))) (block_fault scope inside rest)
      (both (at n (condition_fault scope.variables c)) (first (block_fault scope inside t) (block_fault scope inside f)) (fine_condition n c e) (both (block_fault scope inside t) (block_fault scope inside f) g i)) h

  alone : (inside : Bool) (n : ℕ) (act : plain.Action) → action_fault vs act ≡ None → block_fault scope inside (Starts (plain.Simple n act) Ends) ≡ None
  alone inside n act e = simple inside n act Ends e refl

  piece_fine : (kind : PieceKind) (s n : ℕ) (inside : Bool) (rest : Statements) → ((k : ℕ) → block_fault scope inside (block_from k rest) ≡ None) → block_fault scope inside (block_from n (piece_tree kind s rest)) ≡ None
  piece_fine Constant s n inside rest h = simple inside n (sets (variable s) (Literal (constant (next s)))) (block_from (n + 1) rest) (sets_number s (constant (next s))) (h (n + 1))
  piece_fine Sum s n inside rest h = simple inside n (sets (variable s) (Binary Add (named (variable (next s))) (Literal (constant (next (next s)))))) (block_from (n + 1) rest) (sets_sum s (next s) (constant (next (next s)))) (h (n + 1))
  piece_fine Difference s n inside rest h = simple inside n (sets (variable s) (Binary Subtract (named (variable (next s))) (named (variable (next (next s)))))) (block_from (n + 1) rest) (sets_difference s (next s) (next (next s))) (h (n + 1))
  piece_fine While s n inside rest h =
      let add = sets (variable s) (Binary Add (named (variable s)) (Literal 1)) in
      loop inside n (less (named (variable s)) (Literal (constant (next s)))) (Starts (plain.Simple (n + 1) add) Ends) (block_from (n + (1 + (1 + 0))) rest) (below_number s (constant (next s))) (alone true (n + 1) add (sets_sum s s 1)) (h (n + (1 + (1 + 0))))
  piece_fine If s n inside rest h =
      let one = sets (variable s) (named (variable (next s))) in
      let two = sets (variable (next s)) (Literal (constant (next (next s)))) in
      branches inside n (less (named (variable s)) (named (variable (next s)))) (Starts (plain.Simple (n + 1) one) Ends) (Starts (plain.Simple (n + 1 + (1 + 0)) two) Ends) (block_from (n + (1 + (1 + 0) + (1 + 0))) rest)
      (below_variable s (next s)) (alone inside (n + 1) one (sets_variable s (next s))) (alone inside (n + 1 + (1 + 0)) two (sets_number (next s) (constant (next (next s))))) (h (n + (1 + (1 + 0) + (1 + 0))))
  piece_fine Array s n inside rest h = simple inside n (plain.MakeArray (codes "a") (Literal (constant s))) (block_from (n + 1) rest) refl (h (n + 1))
  piece_fine Input s n inside rest h = simple inside n (plain.Input (variable_text (variable s))) (block_from (n + 1) rest) (takes_input s) (h (n + 1))
  piece_fine Node s n inside rest h =
      let links = plain.WriteNext (codes "p") (codes "q") in
      let moves = plain.Assign (codes "q") (Variable (codes "p")) in
      let last : Statements = Starts (plain.Simple (n + 1 + 1) moves) (block_from (n + 1 + 1 + 1) rest) in
      simple inside n (plain.MakeCell (codes "p")) (Starts (plain.Simple (n + 1) links) last) refl
      (simple inside (n + 1) links last refl
      (simple inside (n + 1 + 1) moves (block_from (n + 1 + 1 + 1) rest) refl (h (n + 1 + 1 + 1))))

  pieces_fine : (size s n : ℕ) → block_fault scope false (block_from n (pieces_tree size s)) ≡ None
  pieces_fine zero s n = refl
  pieces_fine (suc k) s n = piece_fine (drawn_kind (pick 8 s)) (next s) n false (pieces_tree k (piece s).state) (λ j. pieces_fine k (piece s).state j)

-- ---- size

one_more : (a c m : ℕ) → a ≤ 3 → c ≤ m → a + c ≤ 3 + m
one_more a c m h g = omega arith

piece_count : (kind : PieceKind) (s n m : ℕ) (rest : Statements) → ((k : ℕ) → block_count (block_from k rest) ≤ m) → block_count (block_from n (piece_tree kind s rest)) ≤ 3 + m
piece_count Constant s n m rest h = one_more 1 _ m (omega arith) (h _)
piece_count Sum s n m rest h = one_more 1 _ m (omega arith) (h _)
piece_count Difference s n m rest h = one_more 1 _ m (omega arith) (h _)
piece_count While s n m rest h = one_more 2 _ m (omega arith) (h _)
piece_count If s n m rest h = one_more 3 _ m (omega arith) (h _)
piece_count Array s n m rest h = one_more 1 _ m (omega arith) (h _)
piece_count Input s n m rest h = one_more 1 _ m (omega arith) (h _)
piece_count Node s n m rest h = three _ (h _)
  where
    three : (c : ℕ) → c ≤ m → 1 + (1 + (1 + c)) ≤ 3 + m
    three c g = omega arith

pieces_count : (size s n : ℕ) → block_count (block_from n (pieces_tree size s)) ≤ 3 * size
pieces_count zero s n = omega arith
pieces_count (suc k) s n =
    let h = piece_count (drawn_kind (pick 8 s)) (next s) n (3 * k) (pieces_tree k (piece s).state) (λ j. pieces_count k (piece s).state j) in omega arith

most_of : (a b : ℕ) → a ≤ 1 → b ≤ 1 → max a b ≤ 1
most_of a b h g = grind (arith, nat_tests)

piece_nesting : (kind : PieceKind) (s n : ℕ) (rest : Statements) → ((k : ℕ) → nesting (block_from k rest) ≤ 1) → nesting (block_from n (piece_tree kind s rest)) ≤ 1
piece_nesting Constant s n rest h = most_of _ _ (omega arith) (h _)
piece_nesting Sum s n rest h = most_of _ _ (omega arith) (h _)
piece_nesting Difference s n rest h = most_of _ _ (omega arith) (h _)
piece_nesting While s n rest h = most_of _ _ (omega arith) (h _)
piece_nesting If s n rest h = most_of _ _ (omega arith) (h _)
piece_nesting Array s n rest h = most_of _ _ (omega arith) (h _)
piece_nesting Input s n rest h = most_of _ _ (omega arith) (h _)
piece_nesting Node s n rest h = most_of _ _ (omega arith) (most_of _ _ (omega arith) (most_of _ _ (omega arith) (h _)))

pieces_nesting : (size s n : ℕ) → nesting (block_from n (pieces_tree size s)) ≤ 1
pieces_nesting zero s n = omega arith
pieces_nesting (suc k) s n = piece_nesting (drawn_kind (pick 8 s)) (next s) n (pieces_tree k (piece s).state) (λ j. pieces_nesting k (piece s).state j)

-- ---- programs

few : (n : ℕ) → n ≤ 9999 → nat_lt (n + 0) 10001 ≡ true
few n h = grind (arith, nat_tests)

flat_enough : (n : ℕ) → n ≤ 1 → nat_lt (max n 0) 33 ≡ true
flat_enough n h = grind (arith, nat_tests)

pub are_faultless : AreFaultless
are_faultless seed size h =
    let body = pieces_tree size seed in
    let c = pieces_count size seed 1 in
    let count = few (block_count (block_from 1 body)) (omega arith) in
    let deep = flat_enough (nesting (block_from 1 body)) (pieces_nesting size seed 1) in
    let scope : Scope = record { earlier = []; others = tree_of seed size; variables = declarations } in
    let fine = pieces_fine scope refl size seed 1 in
    rw (count, deep, fine) refl
