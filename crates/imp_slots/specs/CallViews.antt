-- What the parts of a call say, and the parts that say it.
use Rattle.std.specs.Prelude.{◌≡◌, refl, Option, Some, None}
use Rattle.imp_slots.specs.Plain as plain
use Rattle.imp_slots.specs.declared.calls.Argument.{Argument}
use Rattle.imp_slots.specs.declared.calls.Argument.TheVariants.{Int, Array, Link}
use Rattle.imp_slots.specs.declared.calls.Returning.{Returning}
use Rattle.imp_slots.specs.declared.calls.Returning.TheVariants as taken

abbrev pub argument_of : Argument → plain.Argument
argument_of (Int e) = plain.IntArgument e
argument_of (Array a) = plain.ArrayArgument a
argument_of (Link p) = plain.LinkArgument p

abbrev pub argument_from : plain.Argument → Argument
argument_from (plain.IntArgument e) = Int e
argument_from (plain.ArrayArgument a) = Array a
argument_from (plain.LinkArgument p) = Link p

pub argument_from-argument_of : (a : Argument) → argument_from (argument_of a) ≡ a
argument_from-argument_of (Int e) = refl
argument_from-argument_of (Array a) = refl
argument_from-argument_of (Link p) = refl

abbrev pub returning_of : Returning → plain.Returning
returning_of (taken.Numeric to from) = plain.NumericResult to from
returning_of (taken.Link to from) = plain.LinkResult to from

abbrev pub returning_from : plain.Returning → Returning
returning_from (plain.NumericResult to from) = taken.Numeric to from
returning_from (plain.LinkResult to from) = taken.Link to from

pub returning_from-returning_of : (r : Returning) → returning_from (returning_of r) ≡ r
returning_from-returning_of (taken.Numeric to from) = refl
returning_from-returning_of (taken.Link to from) = refl

-- what is taken of a result, where something is
abbrev pub taken_of : Option Returning → Option plain.Returning
taken_of None = None
taken_of (Some r) = Some (returning_of r)
