-- A program with a change at one statement, or at one procedure.
use Rattle.std.specs.Prelude.{ℕ, List, [], ◌∷◌, ◌++◌, ◌==◌, cond}
use Rattle.std.specs.Str.{bytes_eq}
use Rattle.imp_syntax.specs.Plain.{Condition, Statement, Simple, Break, Call, If, While, Statements, Ends, Starts, Procedure, number_of}
use Rattle.imp_syntax.specs.declared.words.Declaration.{Declaration}
use Rattle.edit_entries.specs.Holes.{append, with_body}

-- The statement n becomes what `made` makes of it.
abbrev mutual
  pub in_statement : ℕ → (made : Statement → Statements) → Statement → Statement
  in_statement n made (Simple m a) = Simple m a
  in_statement n made (Break m) = Break m
  in_statement n made (Call m x g es) = Call m x g es
  in_statement n made (If m c t e) = If m c (in_block n made t) (in_block n made e)
  in_statement n made (While m c b) = While m c (in_block n made b)

  pub in_block : ℕ → (made : Statement → Statements) → Statements → Statements
  in_block n made Ends = Ends
  in_block n made (Starts s ss) = cond (number_of s == n) (append (made s) ss) (Starts (in_statement n made s) (in_block n made ss))

abbrev pub in_program : ℕ → (made : Statement → Statements) → List Procedure → List Procedure
in_program n made [] = []
in_program n made (p ∷ ps) = with_body p (in_block n made p.body) ∷ in_program n made ps

-- It is removed, with all inside it; it becomes another; others are put after it, or before one of its blocks; it gets
-- another condition.
abbrev pub deleted : Statement → Statements
deleted s = Ends

abbrev pub exchanged : Statement → Statement → Statements
exchanged t s = Starts t Ends

abbrev pub followed : Statements → Statement → Statements
followed more s = Starts s more

abbrev pub then_started : Statements → Statement → Statements
then_started more (Simple n a) = Starts (Simple n a) Ends
then_started more (Break n) = Starts (Break n) Ends
then_started more (Call n x g es) = Starts (Call n x g es) Ends
then_started more (If n c t e) = Starts (If n c (append more t) e) Ends
then_started more (While n c b) = Starts (While n c b) Ends

abbrev pub else_started : Statements → Statement → Statements
else_started more (Simple n a) = Starts (Simple n a) Ends
else_started more (Break n) = Starts (Break n) Ends
else_started more (Call n x g es) = Starts (Call n x g es) Ends
else_started more (If n c t e) = Starts (If n c t (append more e)) Ends
else_started more (While n c b) = Starts (While n c b) Ends

abbrev pub body_started : Statements → Statement → Statements
body_started more (Simple n a) = Starts (Simple n a) Ends
body_started more (Break n) = Starts (Break n) Ends
body_started more (Call n x g es) = Starts (Call n x g es) Ends
body_started more (If n c t e) = Starts (If n c t e) Ends
body_started more (While n c b) = Starts (While n c (append more b)) Ends

abbrev pub guarded : Condition → Statement → Statements
guarded d (Simple n a) = Starts (Simple n a) Ends
guarded d (Break n) = Starts (Break n) Ends
guarded d (Call n x g es) = Starts (Call n x g es) Ends
guarded d (If n c t e) = Starts (If n d t e) Ends
guarded d (While n c b) = Starts (While n d b) Ends

-- The first procedure of a name becomes what `made` makes of it.
abbrev pub at_named : List ℕ → (made : Procedure → List Procedure) → List Procedure → List Procedure
at_named x made [] = []
at_named x made (p ∷ ps) = cond (bytes_eq p.name x) (made p ++ ps) (p ∷ at_named x made ps)

-- Statements are put before its body; it gets a last local variable; another one is put before it; it is removed.
abbrev pub started : Statements → Procedure → List Procedure
started more p = with_body p (append more p.body) ∷ []

abbrev pub declared_in : Declaration → Procedure → List Procedure
declared_in d p = record { name = p.name; parameters = p.parameters; outcome = p.outcome; locals = p.locals ++ d ∷ []; body = p.body } ∷ []

abbrev pub preceded : Procedure → Procedure → List Procedure
preceded q p = q ∷ p ∷ []

abbrev pub dropped : Procedure → List Procedure
dropped p = []
