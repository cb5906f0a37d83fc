-- The operations of a domain of states.
use Rattle.std.specs.Prelude.{ℕ, ℤ, List, Option, Bool}
use Rattle.imp_slots.specs.Plain.{Layout, Guard, Act, Entering, Returning}
use Rattle.imp_words.specs.declared.verdict.Verdict.{Verdict}

pub record Operations (S : Type 0) : Type 0 where
  -- before main's body, from main's layout
  pub init : Layout → S
  -- after a simple statement or a break
  pub post : Act → S → S
  -- where the guard has this truth value
  pub assume : Guard → Bool → S → S
  pub join : S → S → S
  -- the next iterate of a loop, from the one before and what the body makes of it, with the loop's thresholds
  pub widen : List ℤ → S → S → S
  -- before a callee's body
  pub enter : Entering → S → S
  -- after a call, from the state before it and the one after the callee's body
  pub leave : Option Returning → S → S → S
  -- the last frame alone
  pub shed : S → S
  -- what the state says of the check of a statement; where it has none, no fault comes of one
  pub check : Act → S → Verdict
  -- whether two states are equal
  pub same : S → S → Bool
  -- no configuration is described, and simple statements change nothing
  pub dead : S → Bool
  -- the text of a state of a frame of this layout
  pub text : Layout → S → List ℕ
  -- a state of frames with these layouts, the last one's first, that keeps the domain's bounds
  pub fits : S → List Layout → Bool
