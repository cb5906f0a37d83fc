-- What a numeric slot holds, as plain data.
use Rattle.std.specs.Prelude.{ℤ, List, [], Option, Some, None}
use Rattle.concrete_sem.specs.Values.{Number}
use Rattle.concrete_sem.specs.Values as v
use Rattle.imp_run.specs.declared.slots.SlotValue.{SlotValue}
use Rattle.imp_run.specs.declared.slots.SlotValue.TheVariants.{Int, Array}

abbrev pub number_of : SlotValue → Number
number_of (Int z) = v.Int z
number_of (Array zs) = v.Array zs

-- the elements of an array, none where it is none
abbrev pub elements_of : Option SlotValue → List ℤ
elements_of None = []
elements_of (Some (Int z)) = []
elements_of (Some (Array zs)) = zs
