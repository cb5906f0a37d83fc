-- What simple statements do, as plain data.
use Rattle.std.specs.Prelude.{List, [], ◌∷◌}
use Rattle.imp_syntax.specs.Plain as plain
use Rattle.imp_syntax.specs.declared.action.Action.{Action}
use Rattle.imp_syntax.specs.declared.action.Action.TheVariants.{Skip, Assert, Assign, Input, MakeArray, SetNull, MakeCell, ReadElement, ReadNext, ReadItem, WriteElement, WriteNext, WriteItem}
use Rattle.imp_syntax.specs.declared.expr.Side.{Side}
use Rattle.imp_syntax.specs.Views.{operand_of}

abbrev pub action_of : Action → plain.Action
action_of Skip = plain.Skip
action_of (Assert c) = plain.Assert c
action_of (Assign x e) = plain.Assign x e
action_of (Input x) = plain.Input x
action_of (MakeArray x e) = plain.MakeArray x e
action_of (SetNull x) = plain.SetNull x
action_of (MakeCell x) = plain.MakeCell x
action_of (ReadElement x a e) = plain.ReadElement x a e
action_of (ReadNext x q) = plain.ReadNext x q
action_of (ReadItem x q) = plain.ReadItem x q
action_of (WriteElement a e f) = plain.WriteElement a e f
action_of (WriteNext p q) = plain.WriteNext p q
action_of (WriteItem p e) = plain.WriteItem p e

-- the arguments of a call
abbrev pub operands_of : List Side → List plain.Operand
operands_of [] = []
operands_of (a ∷ as') = operand_of a ∷ operands_of as'
