use Rattle.std.proofs.Common.{◌≡◌, ◌<◌, length, slice_set, sym, ap, ◌∙◌, arith}
use Rattle.std.proofs.lemmas.List.{get_or_default}
use Rattle.imp_check.specs.declared.entry.ProcHeader.{ProcHeader}
use Rattle.edit_entries.specs.Gaps.{ends_with}
use Rattle.imp_edit.proofs.SpliceLemmas.{head_set}
use Rattle.imp_edit.proofs.splicing.set_body.Goals as goal

pub returns : goal.returns
returns c =
    let hs = c.args.heads.now.items in
    let n = c.args.proc in
    let x = c.index.result.now in
    let h = c.index_mut.result.now in
    let ends = ends_with c.args.gap.now.front c.args.gap.now.next c.args.news.now in
    let l : n < length hs = omega (arith, c.if-proc-len.false, c.len.ensures) in
    let same : x ≡ h = c.index.ensures ∙ get_or_default hs n x h l ∙ sym c.index_mut.ensures.value in
    record { is = ap (λ o. slice_set hs n (record h { body = o })) (c.ends_with.ensures.is ∙ ap (λ (z : ProcHeader). ends z.body) same) ∙ head_set hs n h ends l c.index_mut.ensures.value }
