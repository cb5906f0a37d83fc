-- Literals of lists.
use Rattle.std.proofs.Common.{ℕ, ◌≡◌, ◌+◌, ◌<◌, ◌&&◌, List, length, drop, get_or, refl, add-one, drop-cons}
use Rattle.imp_syntax.specs.Views.{operand_of}
use Rattle.imp_syntax.specs.ActionViews.{operands_of}
use Rattle.imp_syntax.specs.Plain.{Procedure}
use Rattle.imp_syntax.specs.declared.expr.Side.{Side}
use Rattle.imp_check.specs.Small.{small_operand, small_operands, small_block, small_program}

pub operands_step : (es : List Side) (i : ℕ) (e : Side) → i < length es → e ≡ get_or es i e → small_operands (operands_of (drop i es)) ≡ (small_operand (operand_of e) && small_operands (operands_of (drop (i + 1) es)))
operands_step es i e h p = rw (drop-cons es i e, add-one, ← p) refl

pub programs_step : (ps : List Procedure) (i : ℕ) (p : Procedure) → i < length ps → p ≡ get_or ps i p → small_program (drop i ps) ≡ (small_block p.body && small_program (drop (i + 1) ps))
programs_step ps i p h e = rw (drop-cons ps i p, add-one, ← e) refl
