-- Where a reply is an over: the answer of the present program, interpreted from scratch, is one.
use Rattle.std.specs.Prelude.{◌≡◌, ℕ, List}
use Rattle.imp_syntax.specs.declared.edit.Location.{Location}
use Rattle.domain_laws.specs.Operations.{Operations}
use Rattle.batch_meaning.specs.Values.{Over}
use Rattle.batch_meaning.specs.Answers.{Answers}
use Rattle.daig_machine.specs.Machine.{Machine}
use Rattle.daig_machine.specs.Turns.{answer_at}
use Rattle.request_json.specs.declared.reply.Reply.TheVariants as r
use Rattle.serve_answers.specs.Readings.{Readings}
use Rattle.serve_answers.specs.Lines.{line_turn}

-- Somewhere the answer of the present program is an Over of this loop.
pub record HasOver {S : Type 0} (dom : Operations S) (m : Machine) (loop : ℕ) : Type 0 where
  pub at : Location
  pub string : List ℕ
  pub chain : List ℕ
  pub answers : answer_at dom at string m ≡ Answers (Over loop chain)

-- So it is where a line is replied by an over of the loop.
abbrev pub OversAreAnswers : {S : Type 0} → Operations S → Type 0
OversAreAnswers dom =
    (readings : Readings) (m : Machine) (line : List ℕ) (loop : ℕ) (chain : List ℕ) → (line_turn readings dom line m).reply ≡ r.Over loop chain → HasOver dom m loop
