-- Blocks in which no call stands and each break stands in a loop.
use Rattle.std.proofs.Common.{◌≡◌, ℕ, Option, Some, None, [], Bool, true, false, refl, ap, ◌∙◌}
use Rattle.imp_syntax.specs.Plain.{Statement, Simple, Break, Call, If, While, Statements, Ends, Starts}
use Rattle.imp_check.specs.Faults.{first, at}
use Rattle.imp_check.specs.Statements.{Scope, condition_fault, statement_fault, block_fault}
use Rattle.imp_check.specs.Parts.{leaving_in, leaving}
use Rattle.edit_entries.specs.Gaps.{is_quiet, are_quiet, is_closed, are_closed, closed_at}
use Rattle.edit_entries.proofs.CallFree.{none}
use Rattle.std.proofs.lemmas.Bool.{and_from, and_parts}

-- They do not call ..
mutual
  closed_quiet_in : (i : Bool) (s : Statement) → is_closed i s ≡ true → is_quiet s ≡ true
  closed_quiet_in i (Simple n a) h = refl
  closed_quiet_in i (Break n) h = refl
  closed_quiet_in i (Call n x g es) h = cc
  closed_quiet_in i (If n c t e) h = let w = and_parts (are_closed i t) (are_closed i e) h in and_from (are_quiet t) (are_quiet e) (closed_quiet i t w.0) (closed_quiet i e w.1)
  closed_quiet_in i (While n c b) h = closed_quiet true b h

  pub closed_quiet : (i : Bool) (b : Statements) → are_closed i b ≡ true → are_quiet b ≡ true
  closed_quiet i Ends h = refl
  closed_quiet i (Starts s ss) h = let w = and_parts (is_closed i s) (are_closed i ss) h in and_from (is_quiet s) (are_quiet ss) (closed_quiet_in i s w.0) (closed_quiet i ss w.1)

pub quiet_at : (o : Option ℕ) (b : Statements) → closed_at o b ≡ true → are_quiet b ≡ true
quiet_at None b h = closed_quiet false b h
quiet_at (Some n) b h = closed_quiet true b h

-- .. and no break of theirs leaves them, where no loop is around.
mutual
  closed_leaving_in : (s : Statement) → is_closed false s ≡ true → leaving_in s ≡ []
  closed_leaving_in (Simple n a) h = refl
  closed_leaving_in (Break n) h = cc
  closed_leaving_in (Call n x g es) h = refl
  closed_leaving_in (If n c t e) h = let w = and_parts (are_closed false t) (are_closed false e) h in none (leaving t) (leaving e) (closed_leaving t w.0) (closed_leaving e w.1)
  closed_leaving_in (While n c b) h = refl

  pub closed_leaving : (b : Statements) → are_closed false b ≡ true → leaving b ≡ []
  closed_leaving Ends h = refl
  closed_leaving (Starts s ss) h = let w = and_parts (is_closed false s) (are_closed false ss) h in none (leaving_in s) (leaving ss) (closed_leaving_in s w.0) (closed_leaving ss w.1)

-- Their faults are those that they have inside a loop.
mutual
  closed_fault_in : (z : Scope) (i : Bool) (s : Statement) → is_closed i s ≡ true → statement_fault z i s ≡ statement_fault z true s
  closed_fault_in z i (Simple n a) h = refl
  closed_fault_in z true (Break n) h = refl
  closed_fault_in z false (Break n) h = cc
  closed_fault_in z i (Call n x g es) h = refl
  closed_fault_in z i (If n c t e) h =
      let w = and_parts (are_closed i t) (are_closed i e) h in
      ap (λ o. first (at n (condition_fault z.variables c)) (first o (block_fault z i e))) (closed_fault z i t w.0)
      ∙ ap (λ o. first (at n (condition_fault z.variables c)) (first (block_fault z true t) o)) (closed_fault z i e w.1)
  closed_fault_in z i (While n c b) h = refl

  pub closed_fault : (z : Scope) (i : Bool) (b : Statements) → are_closed i b ≡ true → block_fault z i b ≡ block_fault z true b
  closed_fault z i Ends h = refl
  closed_fault z i (Starts s ss) h =
      let w = and_parts (is_closed i s) (are_closed i ss) h in
      ap (λ o. first o (block_fault z i ss)) (closed_fault_in z i s w.0)
      ∙ ap (first (statement_fault z true s)) (closed_fault z i ss w.1)
