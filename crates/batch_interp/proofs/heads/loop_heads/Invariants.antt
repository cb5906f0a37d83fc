use Rattle.std.proofs.Common.{◌≡◌, ◌≤◌, drop, length, map, reverse}
use Rattle.batch_interp.specs.Remembering.{AreRight}
use Rattle.batch_interp.specs.Handing.{in_one, AreHanded}
use Rattle.batch_interp.specs.Heads.{under_told, all_loops_told}
use Rattle.batch_interp.proofs.heads.loop_heads.Given as goal

-- the loops of the procedures so far, and what they hand down to those before
abbrev pub invariant-loop-place : goal.invariant-loop-place
invariant-loop-place g l =
    let dom = g.D.Domain.operations l.dom in
    record {
      within : l.place ≤ length l.plan.program;
      told : map under_told (in_one (reverse l.parts)) ≡ all_loops_told dom l.plan.engine l.plan.program l.place (drop l.place l.plan.program);
      calls : AreHanded dom l.plan l.place l.calls;
      right : AreRight dom l.plan l.remembered;
    }
