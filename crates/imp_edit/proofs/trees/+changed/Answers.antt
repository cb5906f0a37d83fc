use Rattle.std.proofs.Common.{◌≡◌, ◌<◌, ◌+◌, ◌++◌, ◌∙◌, IfOk, List, length, ap, subst, arith}
use Rattle.std.proofs.lemmas.List.{take_rest}
use Rattle.imp_syntax.specs.Plain.{Statement, Statements, number_of}
use Rattle.imp_edit.specs.Made.{made}
use Rattle.imp_edit.proofs.TreeLemmas.{met_whole}
use Rattle.imp_edit.proofs.trees.+changed.Goals as goal

pub in_block-returns-then-number : goal.in_block-returns-then-number
in_block-returns-then-number t c =
    let ss = c.as_slice-stmts.result.now in
    let s = c.index-stmts-i.result in
    let i = c.loop-i.i in
    let h : i < length ss = omega arith in
    let q : number_of s ≡ c.args.id = cc (c.id.ensures.is, c.number.ensures.is, c.number-in-loop-i.ensures.is, c.if-number.true) in
    record {
      is = subst (λ (z : Statements). IfOk c.new.result (λ b. b ≡ z)) (met_whole c.args.id (made c.args.edit.now) ss c.args.block.now i s c.loop-i.all c.made.new.all c.add_all.new.all h c.index-stmts-i.is q c.loop-i.invariant.made c.in_ok-made.ensures.added (c.in_ok-add_all.ensures.added ∙ ap (λ (zs : List Statement). c.made.new.all ++ zs) (take_rest ss (i + 1)))) c.new.ensures.is;
    }
