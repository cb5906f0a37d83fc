-- What an action says, and the action that says it.
use Rattle.std.specs.Prelude.{◌≡◌, refl}
use Rattle.imp_slots.specs.Plain.{Effect, Act}
use Rattle.imp_slots.specs.Plain as plain
use Rattle.imp_slots.specs.declared.actions.SlotAction.{SlotAction}
use Rattle.imp_slots.specs.declared.actions.SlotAction.TheVariants.{Skip, Assert, SetInt, Input, ReadElement, ReadItem, MakeArray, CopyArray, WriteElement, SetNull, MakeCell, CopyLink, ReadNext, WriteNext, WriteItem}
use Rattle.imp_slots.specs.declared.actions.SlotStmt.{SlotStmt}
use Rattle.imp_slots.specs.declared.actions.SlotStmt.TheVariants.{Break, Simple}

abbrev pub effect_of : SlotAction → Effect
effect_of Skip = plain.Skip
effect_of (Assert c) = plain.Assert c
effect_of (SetInt x e) = plain.SetInt x e
effect_of (Input x) = plain.Input x
effect_of (ReadElement x a e) = plain.ReadElement x a e
effect_of (ReadItem x q) = plain.ReadItem x q
effect_of (MakeArray a e) = plain.MakeArray a e
effect_of (CopyArray a b) = plain.CopyArray a b
effect_of (WriteElement a e f) = plain.WriteElement a e f
effect_of (SetNull p) = plain.SetNull p
effect_of (MakeCell p) = plain.MakeCell p
effect_of (CopyLink p q) = plain.CopyLink p q
effect_of (ReadNext p q) = plain.ReadNext p q
effect_of (WriteNext p q) = plain.WriteNext p q
effect_of (WriteItem p e) = plain.WriteItem p e

abbrev pub action_of : Effect → SlotAction
action_of plain.Skip = Skip
action_of (plain.Assert c) = Assert c
action_of (plain.SetInt x e) = SetInt x e
action_of (plain.Input x) = Input x
action_of (plain.ReadElement x a e) = ReadElement x a e
action_of (plain.ReadItem x q) = ReadItem x q
action_of (plain.MakeArray a e) = MakeArray a e
action_of (plain.CopyArray a b) = CopyArray a b
action_of (plain.WriteElement a e f) = WriteElement a e f
action_of (plain.SetNull p) = SetNull p
action_of (plain.MakeCell p) = MakeCell p
action_of (plain.CopyLink p q) = CopyLink p q
action_of (plain.ReadNext p q) = ReadNext p q
action_of (plain.WriteNext p q) = WriteNext p q
action_of (plain.WriteItem p e) = WriteItem p e

pub action_of-effect_of : (a : SlotAction) → action_of (effect_of a) ≡ a
action_of-effect_of Skip = refl
action_of-effect_of (Assert c) = refl
action_of-effect_of (SetInt x e) = refl
action_of-effect_of (Input x) = refl
action_of-effect_of (ReadElement x a e) = refl
action_of-effect_of (ReadItem x q) = refl
action_of-effect_of (MakeArray a e) = refl
action_of-effect_of (CopyArray a b) = refl
action_of-effect_of (WriteElement a e f) = refl
action_of-effect_of (SetNull p) = refl
action_of-effect_of (MakeCell p) = refl
action_of-effect_of (CopyLink p q) = refl
action_of-effect_of (ReadNext p q) = refl
action_of-effect_of (WriteNext p q) = refl
action_of-effect_of (WriteItem p e) = refl

abbrev pub act_of : SlotStmt → Act
act_of Break = plain.DoBreak
act_of (Simple a) = plain.Does (effect_of a)

abbrev pub stmt_of : Act → SlotStmt
stmt_of plain.DoBreak = Break
stmt_of (plain.Does e) = Simple (action_of e)

pub stmt_of-act_of : (s : SlotStmt) → stmt_of (act_of s) ≡ s
stmt_of-act_of Break = refl
stmt_of-act_of (Simple a) = λ i. Simple (action_of-effect_of a i)
