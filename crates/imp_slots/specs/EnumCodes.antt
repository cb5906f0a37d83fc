-- The codes of the enums of slot forms: those of what they say.
use base.Stored.{Coded}
use Rattle.std.specs.Coded.{code_by}
use Rattle.imp_slots.specs.Plain.{Effect, Act}
use Rattle.imp_slots.specs.Plain as plain
use Rattle.imp_slots.specs.PartCodes.{effect_code, act_code, argument_code}
use Rattle.imp_slots.specs.ActionViews.{effect_of, action_of, action_of-effect_of, act_of, stmt_of, stmt_of-act_of}
use Rattle.imp_slots.specs.CallViews.{argument_of, argument_from, argument_from-argument_of}
use Rattle.imp_slots.specs.declared.actions.SlotAction.{SlotAction}
use Rattle.imp_slots.specs.declared.actions.SlotStmt.{SlotStmt}
use Rattle.imp_slots.specs.declared.calls.Argument.{Argument}

abbrev pub action_coded : Coded SlotAction
action_coded = code_by Effect effect_code effect_of action_of action_of-effect_of

abbrev pub stmt_coded : Coded SlotStmt
stmt_coded = code_by Act act_code act_of stmt_of stmt_of-act_of

abbrev pub argument_coded : Coded Argument
argument_coded = code_by plain.Argument argument_code argument_of argument_from argument_from-argument_of
