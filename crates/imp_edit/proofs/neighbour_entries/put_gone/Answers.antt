use Rattle.std.proofs.Common.{◌≡◌, ℕ, ◌+◌, ◌-◌, ◌<◌, ◌==◌, Option, None, cond, drop, length, sym, ap, ◌∙◌, arith}
use Rattle.imp_table.specs.Changes.{overlay}
use Rattle.imp_check.specs.Programs.{has}
use Rattle.imp_check.specs.declared.entry.Entry.{Entry}
use Rattle.imp_edit.proofs.SpliceLemmas.{gone_step, below_at}
use Rattle.imp_edit.proofs.neighbour_entries.put_gone.Goals as goal

pub loop-i-preserved : goal.loop-i-preserved
loop-i-preserved c =
    let ns = c.args.gone.now in
    let i : ℕ = c.loop-i.i - 1 in
    let x = c.index-gone-i.result in
    let inv = c.loop-i.invariant in
    let up : i + 1 ≡ c.loop-i.i = omega (arith, c.loop-i-test.true) in
    let less : i < length ns = omega (arith, c.loop-i-test.true, inv.few) in
    record {
      few = omega (arith, inv.few);
      falling = c.in_ok-put_at.ensures.falling;
      is = λ at m.
          let old : Option Entry = overlay c.args.puts.now.items at m in
          c.in_ok-put_at.ensures.is at m
          ∙ ap (λ (o : Option Entry). cond (x == m) o (overlay c.loop-i.puts.items at m)) c.free.ensures.is
          ∙ ap (λ (o : Option Entry). cond (x == m) None o) (inv.is at m)
          ∙ ap (λ k. cond (x == m) None (cond (has (drop k ns) m) None old)) (sym up)
          ∙ gone_step ns i x m old less c.index-gone-i.is;
      within = λ b a w. c.in_ok-put_at.ensures.within b (below_at b ns i x a less c.index-gone-i.is) (inv.within b a w);
    }
