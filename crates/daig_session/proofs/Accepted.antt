-- The numbers of an edit that is accepted.
use Rattle.std.proofs.Common.{◌≡◌, ℕ, ◌+◌, ◌≤◌, Bool, true, false, ◌&&◌, cond, List, Some, None, refl, arith}
use Rattle.std.specs.Prelude.{nat_lt}
use Rattle.std.proofs.lemmas.Bool.Decides.{nat_tests}
use Rattle.imp_syntax.specs.Plain.{Procedure}
use Rattle.imp_syntax.specs.declared.edit.Edit.{Edit}
use Rattle.imp_edit.specs.Edited.{next_after, uses}
use Rattle.imp_edit.specs.Refusals.{edit_refusal, numbers_refusal, site_refusal}
use Rattle.imp_edit.specs.declared.error.EditError.TheVariants.{Numbers}
use Rattle.imp_check.proofs.FewLemmas.{first_left, first_right}

by_tests : (count next : ℕ) (some many : Bool) → nat_lt 0 count ≡ some → nat_lt 1000001 (next + count) ≡ many → cond (some && many) (Some Numbers) None ≡ None → next ≤ 1000001 → next + count ≤ 1000001
by_tests count next false many p q h low = grind (arith, nat_tests, p, low)
by_tests count next true false p q h low = grind (arith, nat_tests, q)
by_tests count next true true p q h low = absurd (let e : Some Numbers ≡ None = h in cc)

-- no number passes 1,000,000
pub low_after : (e : Edit) (ps : List Procedure) (next : ℕ) → next ≤ 1000001 → edit_refusal e ps next ≡ None → next_after e next ≤ 1000001
low_after e ps next low h =
    let numbers = first_left (numbers_refusal (uses e) next) _ (first_right (site_refusal e ps) _ h) in
    by_tests (uses e) next (nat_lt 0 (uses e)) (nat_lt 1000001 (next + uses e)) refl refl numbers low
