-- Refusals for statements that come, one after the other.
use Rattle.std.proofs.Common.{◌≡◌, ℕ, List, None, true, refl, ap}
use Rattle.std.specs.Option.{option_map}
use Rattle.imp_syntax.specs.Plain.{Condition, Statement, If, Statements, Starts}
use Rattle.imp_syntax.specs.declared.words.Declaration.{Declaration}
use Rattle.imp_check.specs.Faults.{first, at, in_procedure}
use Rattle.imp_check.specs.Statements.{block_fault, condition_fault, statement_fault}
use Rattle.edit_entries.specs.Gaps.{lone}
use Rattle.imp_edit.specs.Refusals.{IsRefusal}
use Rattle.imp_edit.specs.declared.error.EditError.{EditError}
use Rattle.imp_edit.specs.declared.error.EditError.TheVariants.{Fault}
use Rattle.imp_edit.proofs.SpliceLemmas.{refused_step}

-- The first fault of an if is that of its first block, where its condition has none.
pub then_refused : (vs : List Declaration) (x : List ℕ) (n : ℕ) (c : Condition) (t e : Statements) (r : EditError) → condition_fault vs c ≡ None → IsRefusal (option_map Fault (in_procedure x (block_fault (lone vs) true t))) r → IsRefusal (option_map Fault (in_procedure x (statement_fault (lone vs) true (If n c t e)))) r
then_refused vs x n c t e r z h = refused_step x (block_fault (lone vs) true t) (block_fault (lone vs) true e) (statement_fault (lone vs) true (If n c t e)) r (ap (λ o. first (at n o) (first (block_fault (lone vs) true t) (block_fault (lone vs) true e))) z) h

-- The first fault of a block is that of its first statement.
pub rest_refused : (vs : List Declaration) (x : List ℕ) (s : Statement) (b : Statements) (r : EditError) → IsRefusal (option_map Fault (in_procedure x (statement_fault (lone vs) true s))) r → IsRefusal (option_map Fault (in_procedure x (block_fault (lone vs) true (Starts s b)))) r
rest_refused vs x s b r h = refused_step x (statement_fault (lone vs) true s) (block_fault (lone vs) true b) (block_fault (lone vs) true (Starts s b)) r refl h
