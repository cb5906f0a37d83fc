-- The codes of plain statements.
use Rattle.std.specs.Prelude.{ℕ, zero, suc, List, ◌≡◌, refl, Option, Some, None}
use Rattle.std.specs.Coded.{code_by}
use Rattle.base_values.specs.Equal.{list_to, text_to, text_from, text_from_to}
use Rattle.imp_syntax.specs.Plain.{Action, Skip, Assert, Assign, Input, MakeArray, SetNull, MakeCell, ReadElement, ReadNext, ReadItem, WriteElement, WriteNext, WriteItem, Statement, Simple, Break, Call, If, While, Statements, Ends, Starts}
use Rattle.imp_syntax.specs.Code.{left, right, list_from, list_back, expression_to, expression_from, expression_back, condition_to, condition_from, condition_back, operand_to, operand_from, operand_back}
use base.Stored.{Coded, Gv, gnil, gnum, gcons}
use denote.Struct.Codes.{itself}

abbrev pub action_to : Action → Gv
action_to Skip = gcons (gnum 0) gnil
action_to (Assert c) = gcons (gnum 1) (condition_to c)
action_to (Assign x e) = gcons (gnum 2) (gcons (text_to x) (expression_to e))
action_to (Input x) = gcons (gnum 3) (text_to x)
action_to (MakeArray x e) = gcons (gnum 4) (gcons (text_to x) (expression_to e))
action_to (SetNull x) = gcons (gnum 5) (text_to x)
action_to (MakeCell x) = gcons (gnum 6) (text_to x)
action_to (ReadElement x a e) = gcons (gnum 7) (gcons (text_to x) (gcons (text_to a) (expression_to e)))
action_to (ReadNext x q) = gcons (gnum 8) (gcons (text_to x) (text_to q))
action_to (ReadItem x q) = gcons (gnum 9) (gcons (text_to x) (text_to q))
action_to (WriteElement a e f) = gcons (gnum 10) (gcons (text_to a) (gcons (expression_to e) (expression_to f)))
action_to (WriteNext p q) = gcons (gnum 11) (gcons (text_to p) (text_to q))
action_to (WriteItem p e) = gcons (gnum 12) (gcons (text_to p) (expression_to e))

abbrev action_at : ℕ → Gv → Action
action_at zero p = Skip
action_at (suc zero) p = Assert (condition_from p)
action_at (suc (suc zero)) p = Assign (text_from (left p)) (expression_from (right p))
action_at (suc (suc (suc zero))) p = Input (text_from p)
action_at (suc (suc (suc (suc zero)))) p = MakeArray (text_from (left p)) (expression_from (right p))
action_at (suc (suc (suc (suc (suc zero))))) p = SetNull (text_from p)
action_at (suc (suc (suc (suc (suc (suc zero)))))) p = MakeCell (text_from p)
action_at (suc (suc (suc (suc (suc (suc (suc zero))))))) p = ReadElement (text_from (left p)) (text_from (left (right p))) (expression_from (right (right p)))
action_at (suc (suc (suc (suc (suc (suc (suc (suc zero)))))))) p = ReadNext (text_from (left p)) (text_from (right p))
action_at (suc (suc (suc (suc (suc (suc (suc (suc (suc zero))))))))) p = ReadItem (text_from (left p)) (text_from (right p))
action_at (suc (suc (suc (suc (suc (suc (suc (suc (suc (suc zero)))))))))) p = WriteElement (text_from (left p)) (expression_from (left (right p))) (expression_from (right (right p)))
action_at (suc (suc (suc (suc (suc (suc (suc (suc (suc (suc (suc zero))))))))))) p = WriteNext (text_from (left p)) (text_from (right p))
action_at (suc (suc (suc (suc (suc (suc (suc (suc (suc (suc (suc (suc n)))))))))))) p = WriteItem (text_from (left p)) (expression_from (right p))

abbrev pub action_from : Gv → Action
action_from gnil = Skip
action_from (gnum n) = Skip
action_from (gcons gnil p) = Skip
action_from (gcons (gnum k) p) = action_at k p
action_from (gcons (gcons a b) p) = Skip

pub action_back : (a : Action) → action_from (action_to a) ≡ a
action_back Skip = refl
action_back (Assert c) = λ i. Assert (condition_back c i)
action_back (Assign x e) = λ i. Assign (text_from_to x i) (expression_back e i)
action_back (Input x) = λ i. Input (text_from_to x i)
action_back (MakeArray x e) = λ i. MakeArray (text_from_to x i) (expression_back e i)
action_back (SetNull x) = λ i. SetNull (text_from_to x i)
action_back (MakeCell x) = λ i. MakeCell (text_from_to x i)
action_back (ReadElement x a e) = λ i. ReadElement (text_from_to x i) (text_from_to a i) (expression_back e i)
action_back (ReadNext x q) = λ i. ReadNext (text_from_to x i) (text_from_to q i)
action_back (ReadItem x q) = λ i. ReadItem (text_from_to x i) (text_from_to q i)
action_back (WriteElement a e f) = λ i. WriteElement (text_from_to a i) (expression_back e i) (expression_back f i)
action_back (WriteNext p q) = λ i. WriteNext (text_from_to p i) (text_from_to q i)
action_back (WriteItem p e) = λ i. WriteItem (text_from_to p i) (expression_back e i)

abbrev pub target_to : Option (List ℕ) → Gv
target_to None = gnil
target_to (Some x) = gcons gnil (text_to x)

abbrev pub target_from : Gv → Option (List ℕ)
target_from gnil = None
target_from (gnum n) = None
target_from (gcons a x) = Some (text_from x)

pub target_back : (x : Option (List ℕ)) → target_from (target_to x) ≡ x
target_back None = refl
target_back (Some x) = λ i. Some (text_from_to x i)

abbrev mutual
  pub statement_to : Statement → Gv
  statement_to (Simple n a) = gcons (gnum n) (gcons (gnum 0) (action_to a))
  statement_to (Break n) = gcons (gnum n) (gcons (gnum 1) gnil)
  statement_to (Call n x f es) = gcons (gnum n) (gcons (gnum 2) (gcons (target_to x) (gcons (text_to f) (list_to operand_to es))))
  statement_to (If n c t e) = gcons (gnum n) (gcons (gcons (condition_to c) (block_to t)) (block_to e))
  statement_to (While n c b) = gcons (gnum n) (gcons gnil (gcons (condition_to c) (block_to b)))

  pub block_to : Statements → Gv
  block_to Ends = gnil
  block_to (Starts s ss) = gcons (statement_to s) (block_to ss)

abbrev leaf_at : ℕ → ℕ → Gv → Statement
leaf_at n zero p = Simple n (action_from p)
leaf_at n (suc zero) p = Break n
leaf_at n (suc (suc k)) p = Call n (target_from (left p)) (text_from (left (right p))) (list_from operand_from (right (right p)))

abbrev mutual
  pub statement_from : Gv → Statement
  statement_from gnil = Break 0
  statement_from (gnum n) = Break 0
  statement_from (gcons gnil p) = Break 0
  statement_from (gcons (gcons a b) p) = Break 0
  statement_from (gcons (gnum n) gnil) = Break n
  statement_from (gcons (gnum n) (gnum k)) = Break n
  statement_from (gcons (gnum n) (gcons (gnum k) p)) = leaf_at n k p
  statement_from (gcons (gnum n) (gcons (gcons c t) e)) = If n (condition_from c) (block_from t) (block_from e)
  statement_from (gcons (gnum n) (gcons gnil gnil)) = Break n
  statement_from (gcons (gnum n) (gcons gnil (gnum k))) = Break n
  statement_from (gcons (gnum n) (gcons gnil (gcons c b))) = While n (condition_from c) (block_from b)

  pub block_from : Gv → Statements
  block_from gnil = Ends
  block_from (gnum n) = Ends
  block_from (gcons s ss) = Starts (statement_from s) (block_from ss)

mutual
  pub statement_back : (s : Statement) → statement_from (statement_to s) ≡ s
  statement_back (Simple n a) = λ i. Simple n (action_back a i)
  statement_back (Break n) = refl
  statement_back (Call n x f es) = λ i. Call n (target_back x i) (text_from_to f i) (list_back operand_to operand_from operand_back es i)
  statement_back (If n c t e) = λ i. If n (condition_back c i) (block_back t i) (block_back e i)
  statement_back (While n c b) = λ i. While n (condition_back c i) (block_back b i)

  pub block_back : (b : Statements) → block_from (block_to b) ≡ b
  block_back Ends = refl
  block_back (Starts s ss) = λ i. Starts (statement_back s i) (block_back ss i)

abbrev pub statement_code : Coded Statement
statement_code = code_by Gv itself statement_to statement_from statement_back

abbrev pub block_code : Coded Statements
block_code = code_by Gv itself block_to block_from block_back
