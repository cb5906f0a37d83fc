-- The join of what is known under several chains, one at a time.
use Rattle.std.specs.Prelude.{Option, Some, None}
use Rattle.domain_laws.specs.Operations.{Operations}
use Rattle.batch_meaning.specs.Values.{Value, lift, lift2}

-- what is known under one more chain, shed, joined to what is known under those before it
abbrev pub sum_with : {S : Type 0} → Operations S → Option (Value S) → Value S → Value S
sum_with dom None v = lift dom.shed v
sum_with dom (Some u) v = lift2 dom.join u (lift dom.shed v)
