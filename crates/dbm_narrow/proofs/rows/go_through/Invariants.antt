use Rattle.std.proofs.Common.{◌*◌}
use Rattle.dbm_narrow.specs.Rows.{AreGone}
use Rattle.dbm_narrow.proofs.rows.go_through.Given as goal

abbrev pub invariant-loop-four : goal.invariant-loop-four
invariant-loop-four gen l = AreGone gen.W.Width.unit 0 (4 * l.four) l.to_first l.to_second l.from_first l.from_second l.fn.row l.row
