use Rattle.std.proofs.Common.{ℕ, ◌+◌, List, [], ◌∷◌, ◌++◌, sym, ap, ◌∙◌, arith}
use Rattle.imp_check.specs.Programs.{program_count}
use Rattle.imp_edit.proofs.CallFreeLemmas.{gap_found}
use Rattle.imp_edit.proofs.gap.part_gap.Goals as goal

pub returns : goal.returns
returns c =
    let P = c.args.table.now.program in
    let e = c.in-Some.entry.now in
    let count = c.count-most.ensures.is ∙ ap program_count c.view.ensures.is in
    record {
      is =
          gap_found P c.args.stmt (c.count-most.result + 1) e c.push.new.self c.add_blocks.new.found (sym c.in-Some.ensures.is) (omega (arith, count))
          (sym c.is_call.ensures.is ∙ c.if-is_call.false)
          (sym c.in_ok-add_blocks.ensures.is ∙ c.if-not-branch.false)
          (c.in_ok-push.ensures.added ∙ ap (λ (ns : List ℕ). ns ++ e.number ∷ []) c.new-gone.ensures.empty)
          (c.in_ok-add_blocks.ensures.added c.if-not-branch.false);
    }
