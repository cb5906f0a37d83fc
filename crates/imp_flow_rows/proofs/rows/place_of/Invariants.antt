use Rattle.std.proofs.Common.{◌≡◌, ◌+◌, drop, option_map}
use Rattle.cell_rows.specs.Names.{place_of}
use Rattle.imp_flow_rows.specs.Entered.{leaves_now}
use Rattle.imp_flow_rows.specs.NodeRows.{breaks_of}
use Rattle.imp_flow_rows.proofs.rows.place_of.Given as goal

-- the break is not among those so far
abbrev pub invariant-loop-i : goal.invariant-loop-i
invariant-loop-i l = place_of l.stmt (breaks_of (leaves_now l.leaves)) ≡ option_map (λ j. l.i + j) (place_of l.stmt (drop l.i (breaks_of (leaves_now l.leaves))))
