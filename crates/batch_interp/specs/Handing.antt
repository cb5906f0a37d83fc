-- What calls hand down to the procedures that they enter.
use Rattle.std.specs.Prelude.{◌≡◌, ℕ, suc, ◌==◌, ◌<◌, List, [], ◌∷◌, ◌++◌, length, drop, reverse, Option, Some, None, if◌then◌else◌}
use Rattle.imp_slots.specs.Plain.{Code, Routine}
use Rattle.imp_slots.specs.declared.blocks.SlotNode.{SlotNode}
use Rattle.imp_chains.specs.Chains.{calls_to, extended, through, chains}
use Rattle.domain_laws.specs.Operations.{Operations}
use Rattle.batch_meaning.specs.Values.{Value, lift}
use Rattle.batch_meaning.specs.Places.{entry}
use Rattle.batch_interp.specs.Answered.{value_of}
use Rattle.batch_interp.specs.Frames.{Plan, earlier, body_at}
use Rattle.batch_interp.specs.Gathered.{Gathering, gathered, gathered_in}
use Rattle.batch_interp.specs.Pairs.{All2}
use Rattle.batch_interp.specs.Totalling.{first_of, behind_first}
use Rattle.batch_interp.specs.declared.frames.CallFrame.{CallFrame}
use Rattle.batch_interp.specs.declared.walks.Entered.{Entered}
use Rattle.batch_interp.specs.declared.calls.Handed.{Handed}

-- the items of all these lists
abbrev pub in_one : {A : Type 0} → List (List A) → List A
in_one [] = []
in_one (xs ∷ more) = xs ++ in_one more

-- where a procedure is entered, and the value before its body
abbrev pub told_of : {S : Type 0} → Entered S → CallFrame × Value S
told_of e = (e.frame, value_of e.before)

-- what a call statement hands down so far to the procedure at a place
abbrev pub begun : {S : Type 0} → Option (Handed S) → (place : ℕ) → Handed S
begun None p = record { place = p; entered = [] }
begun (Some h) p = h

-- what it hands down with one more chain
abbrev pub handed_on : {S : Type 0} → Option (Handed S) → Entered S → Handed S
handed_on o e = record { place = (begun o e.frame.place).place; entered = (begun o e.frame.place).entered ++ e ∷ [] }

-- what the call statements of a procedure hand down, with one more chain
abbrev pub all_handed : {S : Type 0} → List (Handed S) → List (Entered S) → List (Handed S)
all_handed hs [] = []
all_handed hs (e ∷ es) = handed_on (first_of hs) e ∷ all_handed (behind_first hs) es

-- what is handed down to the procedure at a place, and the rest
abbrev pub handed_to : {S : Type 0} → (place : ℕ) → List (Handed S) → List (Entered S)
handed_to p [] = []
handed_to p (h ∷ hs) = if h.place == p then h.entered ++ handed_to p hs else handed_to p hs

abbrev pub handed_besides : {S : Type 0} → (place : ℕ) → List (Handed S) → List (Handed S)
handed_besides p [] = []
handed_besides p (h ∷ hs) = if h.place == p then handed_besides p hs else h ∷ handed_besides p hs

-- of a call the procedure that it enters, under the call sites z
abbrev pub of_calls : {S : Type 0} → Operations S → (z : List ℕ) → Gathering S (CallFrame × Value S)
of_calls dom z = record { simple = λ n e v. []; head = λ n v. []; call = λ n i q v. (record { place = q; sites = n ∷ z }, lift (dom.enter i.entering) v) ∷ [] }

module _ {S : Type 0} (dom : Operations S) (plan : Plan) (place : ℕ) (z : List ℕ) where
  -- the procedures that the calls of a block enter, in the order of the text
  abbrev pub calls_from : Code → Value S → List (CallFrame × Value S)
  calls_from = gathered (of_calls dom z) dom plan place z

  -- those of one statement and the statements inside it
  abbrev pub calls_inside : SlotNode → Value S → List (CallFrame × Value S)
  calls_inside = gathered_in (of_calls dom z) dom plan place z

-- The procedure at a place is entered under these call sites.
pub record IsEnteredBy {S : Type 0} (dom : Operations S) (plan : Plan) (place : ℕ) (z : List ℕ) (e : Entered S) : Type 0 where
  pub frame : e.frame ≡ record { place = place; sites = z }
  pub value : entry dom plan.engine (reverse plan.program) z ≡ Some (earlier plan.program (suc place), value_of e.before)

-- The chains to procedure p that end in a call in the k-th procedure or a later one. To main there is the empty one.
abbrev pub coming : List Routine → (k p : ℕ) → List (List ℕ)
coming program k p = if suc p == length program then [] ∷ [] else through (chains program) k (drop k program) p

module _ {S : Type 0} (dom : Operations S) (plan : Plan) where
  -- the procedure at a place, entered under these chains, in their order
  abbrev pub AreEntered : (place : ℕ) → List (List ℕ) → List (Entered S) → Type 0
  AreEntered place = All2 (IsEnteredBy dom plan place)

  -- The calls of the procedure at a place hand this down, under all chains to it.
  abbrev pub AreHandedBy : (place : ℕ) → List (Handed S) → Type 0
  AreHandedBy place hs = (p : ℕ) → AreEntered p (extended (chains plan.program place) (calls_to p (body_at plan.program place))) (handed_to p hs)

  -- To each procedure before the k-th this is handed down by the k-th and the later ones.
  abbrev pub AreHanded : (k : ℕ) → List (Handed S) → Type 0
  AreHanded k hs = (p : ℕ) → p < k → AreEntered p (coming plan.program k p) (handed_to p hs)
