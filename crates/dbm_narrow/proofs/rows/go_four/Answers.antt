use Rattle.std.specs.Prelude.{◌+◌, ℤ}
use Rattle.std.proofs.Common.{refl, arith, length-set}
use Rattle.dbm_narrow.proofs.RowLemmas.{gone-next, gone-none, gone-value}
use Rattle.dbm_narrow.specs.Entries.{at}
use Rattle.dbm_narrow.proofs.rows.go_four.Goals as goal

pub returns : goal.returns
returns gen c =
    record {
      gone = gone-next gen.W.Width.unit gen.W.Width.positive _ _ _ _ _ _ c.args.j (c.args.j + 3) (c.args.j + 4) _ (omega arith) (omega arith) (omega (arith, length-set {A = ℤ}))
          (gone-next gen.W.Width.unit gen.W.Width.positive _ _ _ _ _ _ c.args.j (c.args.j + 2) (c.args.j + 3) _ (omega arith) (omega arith) (omega (arith, length-set {A = ℤ}))
          (gone-next gen.W.Width.unit gen.W.Width.positive _ _ _ _ _ _ c.args.j (c.args.j + 1) (c.args.j + 2) _ (omega arith) (omega arith) (omega (arith, length-set {A = ℤ}))
          (gone-next gen.W.Width.unit gen.W.Width.positive _ _ _ _ _ _ c.args.j c.args.j (c.args.j + 1) _ (omega arith) (omega arith) (omega arith) (gone-none gen.W.Width.unit gen.W.Width.positive _ _ _ _ _ c.args.j)
          (gone-value gen.W.Width.unit gen.W.Width.positive _ _ _ _ _ c.args.from_first.now c.args.from_second.now c.args.j (at gen.W.Width.unit c.args.row.now c.args.j) (c.gone_at-first.ensures.value) refl refl))
          (gone-value gen.W.Width.unit gen.W.Width.positive _ _ _ _ _ c.args.from_first.now c.args.from_second.now (c.args.j + 1) (at gen.W.Width.unit c.args.row.now (c.args.j + 1)) (c.gone_at-second.ensures.value) refl refl))
          (gone-value gen.W.Width.unit gen.W.Width.positive _ _ _ _ _ c.args.from_first.now c.args.from_second.now (c.args.j + 2) (at gen.W.Width.unit c.args.row.now (c.args.j + 2)) (c.gone_at-third.ensures.value) refl refl))
          (gone-value gen.W.Width.unit gen.W.Width.positive _ _ _ _ _ c.args.from_first.now c.args.from_second.now (c.args.j + 3) (at gen.W.Width.unit c.args.row.now (c.args.j + 3)) (c.gone_at-fourth.ensures.value) refl refl);
    }
