use Rattle.std.proofs.Common.{length, true, false, Some, sym, ap, ◌∙◌, arith}
use Rattle.imp_check.specs.Entries.{is_headed, place_headed}
use Rattle.imp_check.proofs.FewLemmas.{few_checked}
use Rattle.imp_check.proofs.TableLemmas.{heads_length, named_by}
use Rattle.imp_table.proofs.view.View.proc_named.Goals as goal

pub overflow_cast-place_headed : goal.overflow_cast-place_headed
overflow_cast-place_headed c =
    let e = c.procs-heads.ensures.are in
    omega (arith, c.place_headed.ensures.within, ap length e, heads_length c.args.self.now, (few_checked c.args.self.now c.procs-heads.ensures.faultless).procedures)

pub returns-then-is_headed : goal.returns-then-is_headed
returns-then-is_headed c =
    let e = c.procs-heads.ensures.are in
    record { is = ap Some (c.new.ensures.is ∙ c.place_headed.ensures.is ∙ ap (λ hs. place_headed hs c.args.name.now) e) ∙ named_by c.args.self.now c.args.name.now true (sym (ap (λ hs. is_headed hs c.args.name.now) e) ∙ sym c.is_headed.ensures.is ∙ c.if-is_headed.true) }

pub returns-else-is_headed : goal.returns-else-is_headed
returns-else-is_headed c =
    let e = c.procs-heads.ensures.are in
    record { is = named_by c.args.self.now c.args.name.now false (sym (ap (λ hs. is_headed hs c.args.name.now) e) ∙ sym c.is_headed.ensures.is ∙ c.if-is_headed.false) }
