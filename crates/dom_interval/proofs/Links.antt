-- Comparisons of links say nothing of numbers.
use Rattle.std.proofs.Common.{◌≡◌, ℕ, Option, Bool, true, false, refl}
use Rattle.imp_slots.specs.Plain.{CompareLinks}
use Rattle.dom_interval_meaning.specs.State.{Intervals}
use Rattle.dom_interval_meaning.specs.Operations.{assume}

pub links_say_nothing : (same : Bool) (p q : Option ℕ) (b : Bool) (s : Intervals) → assume (CompareLinks same p q) b s ≡ s
unfolding assume
links_say_nothing same p q true s = refl
links_say_nothing same p q false s = refl
