-- The first refusal of an edit, as it is looked for.
use Rattle.std.proofs.Common.{ℕ, ◌≡◌, cond, Bool, true, false, List, Option, Some, None, refl, sym, ap, ◌∙◌}
use Rattle.std.specs.Option.{option_map}
use Rattle.imp_syntax.specs.Plain.{Procedure}
use Rattle.imp_syntax.specs.declared.edit.Edit.{Edit}
use Rattle.imp_check.specs.Faults.{first}
use Rattle.imp_check.specs.Programs.{check_fault}
use Rattle.imp_check.specs.declared.fault.LocatedFault.{LocatedFault}
use Rattle.imp_edit.specs.Edited.{edited, uses, next_after}
use Rattle.imp_edit.specs.Refusals.{IsRefusal, edit_refusal, numbers_refusal, passes, site_refusal}
use Rattle.imp_edit.specs.declared.error.EditError.{EditError}
use Rattle.imp_edit.specs.declared.error.EditError.TheVariants.{NoProcedure, NoStatement, WrongStatement, IsMain, StillCalled, Numbers, Fault, Memory}

is_refusal : (o : Option EditError) (r : EditError) → o ≡ Some r → IsRefusal o r
is_refusal o NoProcedure e = e
is_refusal o NoStatement e = e
is_refusal o WrongStatement e = e
is_refusal o IsMain e = e
is_refusal o StillCalled e = e
is_refusal o Numbers e = e
is_refusal o (Fault f) e = e
is_refusal o Memory e = tt

-- what comes after where the edit goes
abbrev behind : Edit → List Procedure → ℕ → Option EditError
behind e ps next = first (numbers_refusal (uses e) next) (option_map Fault (check_fault (edited e ps)))

pub site_refused : (e : Edit) (ps : List Procedure) (next : ℕ) (r : EditError) → Some r ≡ site_refusal e ps → IsRefusal (edit_refusal e ps next) r
site_refused e ps next r q = is_refusal (edit_refusal e ps next) r (ap (λ o. first o (behind e ps next)) (sym q))

pub numbers_refused : (e : Edit) (ps : List Procedure) (next : ℕ) → None ≡ site_refusal e ps → None ≡ cond (passes (uses e) next) None (Some (next_after e next)) → edit_refusal e ps next ≡ Some Numbers
numbers_refused e ps next q w = ap (λ o. first o (behind e ps next)) (sym q) ∙ go (passes (uses e) next) w
  where
    go : (b : Bool) → None ≡ cond b None (Some (next_after e next)) → first (cond b (Some Numbers) None) (option_map Fault (check_fault (edited e ps))) ≡ Some Numbers
    go true w = refl
    go false w = cc

pub fault_left : (e : Edit) (ps : List Procedure) (next k : ℕ) → None ≡ site_refusal e ps → Some k ≡ cond (passes (uses e) next) None (Some (next_after e next)) → edit_refusal e ps next ≡ option_map Fault (check_fault (edited e ps))
fault_left e ps next k q w = ap (λ o. first o (behind e ps next)) (sym q) ∙ go (passes (uses e) next) w
  where
    go : (b : Bool) → Some k ≡ cond b None (Some (next_after e next)) → first (cond b (Some Numbers) None) (option_map Fault (check_fault (edited e ps))) ≡ option_map Fault (check_fault (edited e ps))
    go true w = cc
    go false w = refl

pub next_is : (e : Edit) (next k : ℕ) → Some k ≡ cond (passes (uses e) next) None (Some (next_after e next)) → k ≡ next_after e next
next_is e next k w = go (passes (uses e) next) w
  where
    go : (b : Bool) → Some k ≡ cond b None (Some (next_after e next)) → k ≡ next_after e next
    go true w = absurd cc
    go false w = cc

pub fault_is : (o : Option LocatedFault) (f : LocatedFault) → o ≡ Some f → option_map Fault o ≡ Some (Fault f)
fault_is o f e = ap (option_map Fault) e

pub no_fault : (o : Option LocatedFault) → o ≡ None → option_map Fault o ≡ None
no_fault o e = ap (option_map Fault) e
