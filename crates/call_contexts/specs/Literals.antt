-- The numbers that stand in statements, by what is known of these.
use Rattle.std.specs.Prelude.{ℕ, List, [], Option, Some, None}
use Rattle.imp_slots.specs.ActionViews.{effect_of}
use Rattle.imp_slots.specs.declared.actions.SlotStmt.{SlotStmt}
use Rattle.imp_slots.specs.declared.actions.SlotStmt.TheVariants as act
use Rattle.imp_check.specs.declared.entry.Entry.{Entry}
use Rattle.imp_check.specs.declared.entry.SlotForm.{SlotForm}
use Rattle.imp_check.specs.declared.entry.SlotForm.TheVariants as form
use Rattle.imp_chains.specs.Thresholds.{guard_literals, effect_literals, argument_literals}

abbrev pub stmt_literals : SlotStmt → List ℕ
stmt_literals act.Break = []
stmt_literals (act.Simple a) = effect_literals (effect_of a)

-- the numbers of a statement without those inside it
abbrev pub form_literals : SlotForm → List ℕ
form_literals (form.Stmt s) = stmt_literals s
form_literals (form.Cond g) = guard_literals g
form_literals (form.Call i q) = argument_literals i.entering.arguments

abbrev pub literals_in : Option Entry → List ℕ
literals_in None = []
literals_in (Some e) = form_literals e.form
