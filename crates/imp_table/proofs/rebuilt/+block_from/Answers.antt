use Rattle.std.proofs.Common.{◌≡◌, ◌++◌, IfOk, None, append-nil, sym, ap, ◌∙◌, subst}
use Rattle.imp_table.specs.Pages.{entry_at}
use Rattle.imp_check.specs.Rebuilt.{next_in, block_from}
use Rattle.imp_check.proofs.StepLemmas.{step_none, block_is_of}
use Rattle.imp_table.proofs.rebuilt.+block_from.Goals as goal

pub returns : goal.returns
returns k c =
    let at = entry_at c.args.pages.now in
    let a = c.next_in.ensures.is in
    let b = c.in_default.is in
    let d = c.in_default.ensures.is in
    let n : next_in at c.loop-entry.left c.loop-entry.at ≡ None = cc in
    let e = sym (append-nil c.loop-entry.stmts) ∙ ap (λ ss. c.loop-entry.stmts ++ ss) (sym (step_none at c.loop-entry.left c.loop-entry.at n)) ∙ c.loop-entry.invariant.told in
    record { is = subst (λ b. IfOk c.new.result (λ block. block ≡ b)) (block_is_of c.loop-entry.stmts (block_from at c.args.most c.args.first) e) c.new.ensures.is }
