-- Statements by themselves, over the variables of their procedure: without those inside them.
use Rattle.std.specs.Prelude.{◌≡◌, List, Option, None, true}
use Rattle.imp_syntax.specs.Plain.{Statement, Simple, Break, Call, If, While, Procedure}
use Rattle.imp_syntax.specs.declared.words.Declaration.{Declaration}
use Rattle.imp_slots.specs.Fits.{fits_effect, fits_guard}
use Rattle.imp_check.specs.Statements.{action_fault, condition_fault}
use Rattle.imp_check.specs.Slots.{layout_in, effect_in, guard_in}
use Rattle.imp_check.specs.declared.fault.Fault.{Fault}

-- its own fault where these variables are, that of its condition or of what it does
abbrev pub own_fault : List Declaration → Statement → Option Fault
own_fault vs (Simple n a) = action_fault vs a
own_fault vs (Break n) = None
own_fault vs (Call n x g es) = None
own_fault vs (If n c t e) = condition_fault vs c
own_fault vs (While n c b) = condition_fault vs c

-- over slots it fits the layout of a procedure
abbrev pub FitsAlone : Procedure → Statement → Type 0
FitsAlone p (Simple n a) = fits_effect (layout_in p) (effect_in (layout_in p) a) ≡ true
FitsAlone p (Break n) = Unit {0}
FitsAlone p (Call n x g es) = Unit {0}
FitsAlone p (If n c t e) = fits_guard (layout_in p) (guard_in (layout_in p) c) ≡ true
FitsAlone p (While n c b) = fits_guard (layout_in p) (guard_in (layout_in p) c) ≡ true
