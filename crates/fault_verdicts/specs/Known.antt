-- What is known of an answer.
use Rattle.std.specs.Prelude.{◌≡◌, ◌≢◌}
use Rattle.imp_words.specs.declared.refusal.QueryRefusal.TheVariants.{NoChain}
use Rattle.batch_meaning.specs.Values as plain
use Rattle.batch_meaning.specs.Answers.{Answer, Refuses, Answers}
use Rattle.fault_verdicts.specs.declared.known.Known.{Known}
use Rattle.fault_verdicts.specs.declared.known.Known.TheVariants.{Absent, Nothing, State}

-- nothing is known of it
abbrev pub IsOpen : {S : Type 0} → Answer S → Type 0
IsOpen (Refuses r) = r ≢ NoChain
IsOpen (Answers (plain.State s)) = ⊥
IsOpen (Answers (plain.Over n z)) = Unit {0}

abbrev pub IsKnown : {S : Type 0} → Answer S → Known S → Type 0
IsKnown a Absent = a ≡ Refuses NoChain
IsKnown a Nothing = IsOpen a
IsKnown a (State s) = a ≡ Answers (plain.State s)
