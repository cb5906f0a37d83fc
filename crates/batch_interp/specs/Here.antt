-- Where a walk through a block stands, by what the walk is lent.
use Rattle.std.specs.Prelude.{ℕ, List}
use Rattle.domain_laws.specs.Operations.{Operations}
use Rattle.batch_interp.specs.Frames.{Plan}
use Rattle.batch_interp.specs.Remembering.{Gives, AreRight}
use Rattle.batch_interp.specs.declared.frames.Interpreter.{Interpreter}
use Rattle.batch_interp.specs.declared.remembered.Remembered.{Remembered}

module _ {D S : Type 0} (operations : D → Operations S) (lent : Interpreter D) where
  -- what a definition says there: it takes the operations of the domain, the plan, the procedure's place and the call sites
  abbrev pub here : {A : Type 0} → (Operations S → Plan → (place : ℕ) → (z : List ℕ) → A) → A
  here said = said (operations lent.dom.now) lent.plan.now lent.frame.now.place lent.frame.now.sites

  -- the procedure there gives a state from the one before its body
  abbrev pub GivesHere : (entered end : S) → Type 0
  GivesHere = Gives (operations lent.dom.now) lent.plan.now lent.frame.now.place

  -- what is remembered is what procedures give there
  abbrev pub AreRightHere : Remembered S → Type 0
  AreRightHere = AreRight (operations lent.dom.now) lent.plan.now
