use Rattle.std.proofs.Common.{ℕ, ◌≡◌, List, Some, slice_get, sym, ap, subst, ◌∙◌}
use Rattle.std.specs.List.Sorted.{IsStrictlySortedBy}
use Rattle.std.specs.Ordering.{nat_cmp}
use Rattle.imp_chains.specs.Chains.{has}
use Rattle.call_contexts.specs.Loops.{IsGap}
use Rattle.call_contexts.proofs.Rising.{removed_rises, has_removed, has_still}
use Rattle.call_contexts.proofs.loops.take.Goals as goal

pub returns-in-Ok : goal.returns-in-Ok
returns-in-Ok c =
    let ns = c.args.stmts.now.items in
    let e : slice_get ns c.in-Ok.place ≡ Some c.args.stmt = subst (λ (ms : List ℕ). slice_get ms c.in-Ok.place ≡ Some c.args.stmt) c.as_slice.ensures.value c.in-Ok.ensures.found in
    record {
      rising = subst (IsStrictlySortedBy nat_cmp) (sym c.remove.ensures.items) (removed_rises ns c.args.stmt c.in-Ok.place e c.requires.rising);
      taken = λ n. ap (has n) c.remove.ensures.items ∙ has_removed ns c.args.stmt c.in-Ok.place n e c.requires.rising;
    }

pub returns-in_default-clause-taken : goal.returns-in_default-clause-taken
returns-in_default-clause-taken c n = has_still c.args.stmts.now.items c.args.stmt c.in_default.field-0 n (subst (λ (ms : List ℕ). IsGap ms c.args.stmt c.in_default.field-0) c.as_slice.ensures.value c.in_default.ensures.gap)
