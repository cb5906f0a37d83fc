-- The first of the faults that are given in order.
use Rattle.std.specs.Prelude.{ℕ, List, Option, Some, None, Bool, true, false}
use Rattle.imp_check.specs.declared.fault.Fault.{Fault}
use Rattle.imp_check.specs.declared.fault.Spot.{Spot}
use Rattle.imp_check.specs.declared.fault.LocatedFault.{LocatedFault}

-- no fault where the test holds, else this one
abbrev pub unless : Bool → Fault → Option Fault
unless true f = None
unless false f = Some f

-- the first, or else the second
abbrev pub first : {A : Type 0} → Option A → Option A → Option A
first None o = o
first (Some x) o = Some x

-- a fault with its place
abbrev pub at : ℕ → Option Fault → Option Spot
at n None = None
at n (Some f) = Some (record { fault = f; at = n })

-- a fault with its place and procedure
abbrev pub in_procedure : List ℕ → Option Spot → Option LocatedFault
in_procedure p None = None
in_procedure p (Some s) = Some (record { fault = s.fault; proc = p; at = s.at })
