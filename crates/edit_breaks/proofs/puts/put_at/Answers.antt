use Rattle.std.proofs.Common.{List, ◌<◌, ◌==◌, cond, sym, ap, ◌∙◌, subst}
use Rattle.imp_table.specs.Changes.{overlay, AreFalling, AreWithin}
use Rattle.imp_table.specs.declared.change.Put.{Put}
use Rattle.imp_table.proofs.FallingLemmas.{AreGreater}
use Rattle.edit_breaks.proofs.PutLemmas.{added_overlay, added_falling, added_within, greater_before, none_before}
use Rattle.edit_breaks.proofs.puts.put_at.Goals as goal
use Rattle.edit_breaks.proofs.puts.put_at.Goals.{then-loop-at-test+else-index-number, else-loop-at-test}
use Rattle.edit_breaks.proofs.puts.put_at.Goals.{else-at-gt0-via-then-at-gt0+else-index-number-2, else-at-gt0-via-else-at-gt0}

-- all before the place have greater numbers
greater : (c : goal.In_ok-insert) → AreGreater c.args.puts.now.items c.number-number.result c.loop-at.at
greater c = elim c.loop-at-test.branch [
  | then-loop-at-test+else-index-number w ↦ elim c.else-at-gt0.branch [
    | else-at-gt0-via-then-at-gt0+else-index-number-2 v ↦ greater_before c.args.puts.now.items c.number-number.result c.loop-at.at w.index.result.now v.index-then-at-gt0.result.now c.requires.falling w.loop-at-test.true c.loop-at.invariant.within w.index.ensures v.index-then-at-gt0.ensures w.if-index-number.false v.if-index-number-2.false
    | else-at-gt0-via-else-at-gt0 v ↦ none_before c.args.puts.now.items c.number-number.result c.loop-at.at v.if-at-gt0.false
  ]
  | else-loop-at-test w ↦ none_before c.args.puts.now.items c.number-number.result c.loop-at.at w.loop-at-test.false
]

pub returns-clause-is : goal.returns-clause-is
returns-clause-is c at m =
    let p : Put = record { number = c.number-number.result; entry = c.args.entry } in
    ap (λ ps. overlay ps at m) c.in_ok-insert.ensures.items
    ∙ added_overlay c.args.puts.now.items c.loop-at.at p at m (greater c)
    ∙ ap (λ k. cond (k == m) c.args.entry (overlay c.args.puts.now.items at m)) c.number-number.ensures.is

pub returns-clause-falling : goal.returns-clause-falling
returns-clause-falling c =
    let p : Put = record { number = c.number-number.result; entry = c.args.entry } in
    subst AreFalling (sym {A = List Put} c.in_ok-insert.ensures.items) (added_falling c.args.puts.now.items c.loop-at.at p c.requires.falling (greater c) c.loop-at.invariant.less)

pub returns-clause-within : goal.returns-clause-within
returns-clause-within c b h w =
    let p : Put = record { number = c.number-number.result; entry = c.args.entry } in
    subst (AreWithin b) (sym {A = List Put} c.in_ok-insert.ensures.items) (added_within b c.args.puts.now.items c.loop-at.at p (greater c) c.loop-at.invariant.less (subst (λ k. k < b) (sym c.number-number.ensures.is) h) w)
