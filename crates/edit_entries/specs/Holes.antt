-- A block inside others, in place of which another one is put.
use Rattle.std.specs.Prelude.{ℕ, List, [], ◌∷◌, Option, Some, Bool, true}
use Rattle.imp_syntax.specs.Plain.{Condition, Statements, Ends, Starts, If, While, Procedure}

-- one block after another
abbrev pub append : Statements → Statements → Statements
append Ends ys = ys
append (Starts s xs) ys = Starts s (append xs ys)

-- A block of a statement, with what stands around it in the block of that statement.
pub data Hole : Type 0 where
  Then : (before : Statements) (n : ℕ) (c : Condition) (els behind : Statements) → Hole
  Else : (before : Statements) (n : ℕ) (c : Condition) (then behind : Statements) → Hole
  Body : (before : Statements) (n : ℕ) (c : Condition) (behind : Statements) → Hole

abbrev pub fill : Hole → Statements → Statements
fill (Then b n c e r) x = append b (Starts (If n c x e) r)
fill (Else b n c t r) x = append b (Starts (If n c t x) r)
fill (Body b n c r) x = append b (Starts (While n c x) r)

-- the outermost first
abbrev pub plug : List Hole → Statements → Statements
plug [] x = x
plug (h ∷ hs) x = fill h (plug hs x)

-- the statement that has the block
abbrev pub holder : Hole → ℕ
holder (Then b n c e r) = n
holder (Else b n c t r) = n
holder (Body b n c r) = n

-- whether a loop of the holes stands around the block
abbrev pub in_loop : (inside : Bool) → List Hole → Bool
in_loop inside [] = inside
in_loop inside (Then b n c e r ∷ hs) = in_loop inside hs
in_loop inside (Else b n c t r ∷ hs) = in_loop inside hs
in_loop inside (Body b n c r ∷ hs) = in_loop true hs

-- the innermost loop around the block
abbrev pub loop_of : Option ℕ → List Hole → Option ℕ
loop_of o [] = o
loop_of o (Then b n c e r ∷ hs) = loop_of o hs
loop_of o (Else b n c t r ∷ hs) = loop_of o hs
loop_of o (Body b n c r ∷ hs) = loop_of (Some n) hs

-- these statements before, and after, what is put in
abbrev pub between : (before behind : Statements) → Statements → Statements
between before behind more = append before (append more behind)

-- a procedure with another body
abbrev pub with_body : Procedure → Statements → Procedure
with_body p b = record { name = p.name; parameters = p.parameters; outcome = p.outcome; locals = p.locals; body = b }
