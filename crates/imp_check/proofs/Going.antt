-- Going along variables and procedures.
use Rattle.std.proofs.Common.{ℕ, ◌≡◌, ◌+◌, ◌<◌, List, length, take, drop, refl, add-one, drop-cons, get_or}
use Rattle.std.proofs.Math.Seq.{take-suc}
use Rattle.imp_syntax.specs.Plain.{Procedure}
use Rattle.imp_syntax.specs.declared.words.Declaration.{Declaration}
use Rattle.imp_check.specs.Faults.{first, in_procedure}
use Rattle.imp_check.specs.Programs.{variable_fault, variables_fault, procedure_fault, procedures_fault}

pub variables_step : (ds : List Declaration) (i : ℕ) (d : Declaration) → i < length ds → d ≡ get_or ds i d → variables_fault (take i ds) (drop i ds) ≡ first (variable_fault (take i ds) d) (variables_fault (take (i + 1) ds) (drop (i + 1) ds))
variables_step ds i d h e = rw (drop-cons ds i d, add-one, take-suc ds i d, ← e) refl

pub procedures_step : (ps : List Procedure) (i : ℕ) (p : Procedure) → i < length ps → p ≡ get_or ps i p → procedures_fault (take i ps) (drop i ps) ≡ first (in_procedure p.name (procedure_fault (take i ps) (drop i ps) p)) (procedures_fault (take (i + 1) ps) (drop (i + 1) ps))
procedures_step ps i p h e = rw (drop-cons ps i p, add-one, take-suc ps i p, ← e) refl
