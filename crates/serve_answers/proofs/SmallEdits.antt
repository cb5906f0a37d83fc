-- An edit with small literals leaves those of the program small.
use Rattle.std.proofs.Common.{◌≡◌, ℕ, ◌==◌, ◌&&◌, ◌++◌, Bool, true, false, cond, List, [], ◌∷◌, refl}
use Rattle.std.proofs.lemmas.Bool.{and_from, and_parts}
use Rattle.std.specs.Str.{bytes_eq}
use Rattle.imp_syntax.specs.Plain.{Condition, Statement, Simple, Break, Call, If, While, Statements, Ends, Starts, Procedure, number_of}
use Rattle.imp_syntax.specs.declared.edit.Edit.{Edit}
use Rattle.imp_syntax.specs.declared.edit.Edit.TheVariants as edit
use Rattle.imp_syntax.specs.declared.edit.Place.{Place}
use Rattle.imp_syntax.specs.declared.edit.Place.TheVariants as place
use Rattle.imp_check.specs.Small.{small_condition, small_statement, small_block, small_program}
use Rattle.edit_entries.specs.Holes.{append}
use Rattle.imp_edit.specs.Changes.{in_statement, in_block, in_program, deleted, exchanged, followed, then_started, else_started, body_started, guarded, at_named, started, declared_in, preceded, dropped}
use Rattle.imp_edit.specs.Edited.{brought, edited, placed}

-- What an edit brings has small literals: its statements, and its condition.
abbrev pub small_guard : Edit → Bool
small_guard (edit.Replace n s) = true
small_guard (edit.Insert at more) = true
small_guard (edit.Delete n) = true
small_guard (edit.Guard n c) = small_condition c
small_guard (edit.Declare x d) = true
small_guard (edit.AddProc x p) = true
small_guard (edit.DropProc x) = true

pub record IsSmallEdit (e : Edit) : Type 0 where
  pub statements : small_block (brought e) ≡ true
  pub guard : small_guard e ≡ true

append_small : (xs ys : Statements) → small_block xs ≡ true → small_block ys ≡ true → small_block (append xs ys) ≡ true
append_small Ends ys h k = k
append_small (Starts s xs) ys h k =
    let parts = and_parts (small_statement s) (small_block xs) h in
    and_from (small_statement s) (small_block (append xs ys)) parts.0 (append_small xs ys parts.1 k)

alone_small : (s : Statement) → small_statement s ≡ true → small_block (Starts s Ends) ≡ true
alone_small s h = and_from (small_statement s) true h refl

-- what is made of a small statement is small
abbrev MakesSmall : (Statement → Statements) → Type 0
MakesSmall made = (s : Statement) → small_statement s ≡ true → small_block (made s) ≡ true

then_small : (more : Statements) → small_block more ≡ true → MakesSmall (then_started more)
then_small more k (Simple n a) h = alone_small (Simple n a) h
then_small more k (Break n) h = refl
then_small more k (Call n x g es) h = alone_small (Call n x g es) h
then_small more k (If n c t e) h =
    let parts = and_parts (small_condition c) (small_block t && small_block e) h in
    let blocks = and_parts (small_block t) (small_block e) parts.1 in
    alone_small (If n c (append more t) e) (and_from (small_condition c) _ parts.0 (and_from (small_block (append more t)) (small_block e) (append_small more t k blocks.0) blocks.1))
then_small more k (While n c b) h = alone_small (While n c b) h

else_small : (more : Statements) → small_block more ≡ true → MakesSmall (else_started more)
else_small more k (Simple n a) h = alone_small (Simple n a) h
else_small more k (Break n) h = refl
else_small more k (Call n x g es) h = alone_small (Call n x g es) h
else_small more k (If n c t e) h =
    let parts = and_parts (small_condition c) (small_block t && small_block e) h in
    let blocks = and_parts (small_block t) (small_block e) parts.1 in
    alone_small (If n c t (append more e)) (and_from (small_condition c) _ parts.0 (and_from (small_block t) (small_block (append more e)) blocks.0 (append_small more e k blocks.1)))
else_small more k (While n c b) h = alone_small (While n c b) h

body_small : (more : Statements) → small_block more ≡ true → MakesSmall (body_started more)
body_small more k (Simple n a) h = alone_small (Simple n a) h
body_small more k (Break n) h = refl
body_small more k (Call n x g es) h = alone_small (Call n x g es) h
body_small more k (If n c t e) h = alone_small (If n c t e) h
body_small more k (While n c b) h =
    let parts = and_parts (small_condition c) (small_block b) h in
    alone_small (While n c (append more b)) (and_from (small_condition c) (small_block (append more b)) parts.0 (append_small more b k parts.1))

guarded_small : (d : Condition) → small_condition d ≡ true → MakesSmall (guarded d)
guarded_small d k (Simple n a) h = alone_small (Simple n a) h
guarded_small d k (Break n) h = refl
guarded_small d k (Call n x g es) h = alone_small (Call n x g es) h
guarded_small d k (If n c t e) h =
    let parts = and_parts (small_condition c) (small_block t && small_block e) h in
    alone_small (If n d t e) (and_from (small_condition d) (small_block t && small_block e) k parts.1)
guarded_small d k (While n c b) h =
    let parts = and_parts (small_condition c) (small_block b) h in
    alone_small (While n d b) (and_from (small_condition d) (small_block b) k parts.1)

-- ---- at a statement

either_small : (b : Bool) (one other : Statements) → small_block one ≡ true → small_block other ≡ true → small_block (cond b one other) ≡ true
either_small true one other h k = h
either_small false one other h k = k

module _ (n : ℕ) (made : Statement → Statements) (makes : MakesSmall made) where
  mutual
    statement_changed : (s : Statement) → small_statement s ≡ true → small_statement (in_statement n made s) ≡ true
    statement_changed (Simple m a) h = h
    statement_changed (Break m) h = refl
    statement_changed (Call m x g es) h = h
    statement_changed (If m c t e) h =
        let parts = and_parts (small_condition c) (small_block t && small_block e) h in
        let blocks = and_parts (small_block t) (small_block e) parts.1 in
        and_from (small_condition c) _ parts.0 (and_from (small_block (in_block n made t)) (small_block (in_block n made e)) (block_changed t blocks.0) (block_changed e blocks.1))
    statement_changed (While m c b) h =
        let parts = and_parts (small_condition c) (small_block b) h in
        and_from (small_condition c) (small_block (in_block n made b)) parts.0 (block_changed b parts.1)

    block_changed : (ss : Statements) → small_block ss ≡ true → small_block (in_block n made ss) ≡ true
    block_changed Ends h = refl
    block_changed (Starts s ss) h =
        let parts = and_parts (small_statement s) (small_block ss) h in
        either_small (number_of s == n) (append (made s) ss) (Starts (in_statement n made s) (in_block n made ss))
        (append_small (made s) ss (makes s parts.0) parts.1)
        (and_from (small_statement (in_statement n made s)) (small_block (in_block n made ss)) (statement_changed s parts.0) (block_changed ss parts.1))

  program_changed : (ps : List Procedure) → small_program ps ≡ true → small_program (in_program n made ps) ≡ true
  program_changed [] h = refl
  program_changed (p ∷ ps) h =
      let parts = and_parts (small_block p.body) (small_program ps) h in
      and_from (small_block (in_block n made p.body)) (small_program (in_program n made ps)) (block_changed p.body parts.0) (program_changed ps parts.1)

-- ---- at a procedure

programs_small : (ps qs : List Procedure) → small_program ps ≡ true → small_program qs ≡ true → small_program (ps ++ qs) ≡ true
programs_small [] qs h k = k
programs_small (p ∷ ps) qs h k =
    let parts = and_parts (small_block p.body) (small_program ps) h in
    and_from (small_block p.body) (small_program (ps ++ qs)) parts.0 (programs_small ps qs parts.1 k)

either_program : (b : Bool) (one other : List Procedure) → small_program one ≡ true → small_program other ≡ true → small_program (cond b one other) ≡ true
either_program true one other h k = h
either_program false one other h k = k

named_changed : (x : List ℕ) (made : Procedure → List Procedure) → ((p : Procedure) → small_block p.body ≡ true → small_program (made p) ≡ true) →
    (ps : List Procedure) → small_program ps ≡ true → small_program (at_named x made ps) ≡ true
named_changed x made makes [] h = refl
named_changed x made makes (p ∷ ps) h =
    let parts = and_parts (small_block p.body) (small_program ps) h in
    either_program (bytes_eq p.name x) (made p ++ ps) (p ∷ at_named x made ps)
    (programs_small (made p) ps (makes p parts.0) parts.1)
    (and_from (small_block p.body) (small_program (at_named x made ps)) parts.0 (named_changed x made makes ps parts.1))

pub one_small : (b : Bool) → b ≡ true → (b && true) ≡ true
one_small b h = and_from b true h refl

placed_small : (at : Place) (more : Statements) (ps : List Procedure) → small_block more ≡ true → small_program ps ≡ true → small_program (placed at more ps) ≡ true
placed_small (place.After n) more ps k h = program_changed n (followed more) (λ s small. and_from (small_statement s) (small_block more) small k) ps h
placed_small (place.ThenStart n) more ps k h = program_changed n (then_started more) (then_small more k) ps h
placed_small (place.ElseStart n) more ps k h = program_changed n (else_started more) (else_small more k) ps h
placed_small (place.BodyStart n) more ps k h = program_changed n (body_started more) (body_small more k) ps h
placed_small (place.ProcStart x) more ps k h =
    named_changed x (started more) (λ p small. one_small (small_block (append more p.body)) (append_small more p.body k small)) ps h

pub edited_small : (e : Edit) (ps : List Procedure) → IsSmallEdit e → small_program ps ≡ true → small_program (edited e ps) ≡ true
edited_small (edit.Replace n t) ps k h = program_changed n (exchanged t) (λ s small. k.statements) ps h
edited_small (edit.Insert at more) ps k h = placed_small at more ps k.statements h
edited_small (edit.Delete n) ps k h = program_changed n deleted (λ s small. refl) ps h
edited_small (edit.Guard n c) ps k h = program_changed n (guarded c) (guarded_small c k.guard) ps h
edited_small (edit.Declare x d) ps k h = named_changed x (declared_in d) (λ p small. one_small (small_block p.body) small) ps h
edited_small (edit.AddProc x q) ps k h =
    named_changed x (preceded q) (λ p small. and_from (small_block q.body) _ k.statements (one_small (small_block p.body) small)) ps h
edited_small (edit.DropProc x) ps k h = named_changed x dropped (λ p small. refl) ps h
