use Rattle.std.proofs.Common.{ℕ, ◌≡◌, List, Some, slice_get, sym, ap, subst, ◌∙◌}
use Rattle.std.specs.List.Sorted.{IsStrictlySortedBy}
use Rattle.std.specs.Ordering.{nat_cmp}
use Rattle.imp_chains.specs.Chains.{has}
use Rattle.call_contexts.specs.Loops.{IsGap}
use Rattle.call_contexts.proofs.Rising.{inserted_rises, has_inserted, has_again}
use Rattle.call_contexts.proofs.loops.bring.Goals as goal

pub returns-in_ok-insert : goal.returns-in_ok-insert
returns-in_ok-insert c =
    let ns = c.args.stmts.now.items in
    let g : IsGap ns c.args.stmt c.in-Err.place = subst (λ (ms : List ℕ). IsGap ms c.args.stmt c.in-Err.place) c.as_slice.ensures.value c.in-Err.ensures.gap in
    record {
      rising = subst (IsStrictlySortedBy nat_cmp) (sym c.in_ok-insert.ensures.items) (inserted_rises ns c.args.stmt c.in-Err.place g c.requires.rising);
      brought = λ n. ap (has n) c.in_ok-insert.ensures.items ∙ has_inserted ns c.args.stmt c.in-Err.place n g;
    }

pub returns-in_default-clause-brought : goal.returns-in_default-clause-brought
returns-in_default-clause-brought c n = has_again c.args.stmts.now.items c.args.stmt c.in_default.field-0 n (subst (λ (ms : List ℕ). slice_get ms c.in_default.field-0 ≡ Some c.args.stmt) c.as_slice.ensures.value c.in_default.ensures.found)
