-- The names of procedures at places.
use Rattle.std.proofs.Common.{◌≡◌, ℕ, zero, suc, List, [], ◌∷◌, Option, Result, Ok, Err, IfOk, slice_get, refl, ap, ◌∙◌}
use Rattle.imp_syntax.specs.Plain.{Procedure}
use Rattle.imp_check.specs.declared.entry.ProcHeader.{ProcHeader}
use Rattle.imp_check.specs.Entries.{heads_of}
use Rattle.serve_answers.specs.Refusals.{name_of_head, name_at}

head_named : (ps : List Procedure) (k : ℕ) → name_of_head (slice_get (heads_of ps) k) ≡ name_at ps k
head_named [] k = refl
head_named (p ∷ ps) zero = refl
head_named (p ∷ ps) (suc k) = head_named ps k

-- the name of the head that is found at a place
pub named_by : {E : Type 0} (ps : List Procedure) (k : ℕ) (found : Option ProcHeader) (r : Result (List ℕ) E) →
    found ≡ slice_get (heads_of ps) k → IfOk r (λ name. name ≡ name_of_head found) → IfOk r (λ name. name ≡ name_at ps k)
named_by ps k found (Ok name) there is = is ∙ ap name_of_head there ∙ head_named ps k
named_by ps k found (Err e) there is = tt
