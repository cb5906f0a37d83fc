-- What variables hold.
use Rattle.std.specs.Prelude.{ℤ, List, [], Option, Some, None}
use Rattle.std.specs.declared.alloc.Global.{Global}
use Rattle.std.specs.declared.rc.Rc.{Rc}
use Rattle.std.specs.declared.vec.Vec.{Vec}

-- the items of a list that may be shared
abbrev pub shared_items : Option (Rc (Vec ℤ Global) Global) → List ℤ
shared_items None = []
shared_items (Some r) = r.value.items
