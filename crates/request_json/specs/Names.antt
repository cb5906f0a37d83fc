-- The names of requests, and of what is found of faults.
use Rattle.std.specs.Prelude.{ℕ, List, [], ◌∷◌, Option, codes}
use Rattle.fault_words.specs.declared.finding.FaultVerdict.{FaultVerdict}
use Rattle.fault_words.specs.declared.finding.FaultVerdict.TheVariants as fault
use Rattle.imp_lex.specs.Kinds.{look_up}
use Rattle.request_json.specs.declared.names.Verb.{Verb}
use Rattle.request_json.specs.declared.names.Verb.TheVariants as v

abbrev pub verbs : List (List ℕ × Verb)
verbs =
    (codes "state", v.State) ∷ (codes "report", v.Report) ∷ (codes "cost", v.Cost) ∷ (codes "program", v.Program) ∷
    (codes "listing", v.Listing) ∷ (codes "run", v.Run) ∷ (codes "replace", v.Replace) ∷ (codes "insert", v.Insert) ∷
    (codes "delete", v.Delete) ∷ (codes "guard", v.Guard) ∷ (codes "declare", v.Declare) ∷ (codes "add", v.Add) ∷
    (codes "drop", v.Drop) ∷ (codes "why", v.Why) ∷ (codes "undo", v.Undo) ∷ (codes "redo", v.Redo) ∷
    (codes "ask", v.Ask) ∷ (codes "begin", v.Begin) ∷ (codes "step", v.Step) ∷ (codes "cancel", v.Cancel) ∷
    (codes "faults", v.Faults) ∷ []

unfoldable pub verb_of : List ℕ → Option Verb
verb_of name = look_up name verbs

abbrev pub verdicts : List (List ℕ × FaultVerdict)
verdicts = (codes "dead", fault.Dead) ∷ (codes "safe", fault.Safe) ∷ (codes "may", fault.May) ∷ (codes "fails", fault.Fails) ∷ []

unfoldable pub verdict_of : List ℕ → Option FaultVerdict
verdict_of name = look_up name verdicts
