use Rattle.std.proofs.Common.{◌≡◌, List, [], drop, map}
use Rattle.imp_slots.specs.Plain.{Routine}
use Rattle.batch_meaning.specs.Batch.{LoopOptions}
use Rattle.batch_interp.specs.Heads.{under_told}
use Rattle.cert_lines.specs.Certificate.{Lines}
use Rattle.cert_write.specs.Writing.{behind, all_lines}
use Rattle.cert_write.proofs.writing.all_lines.Given as goal

-- what is written, with the chains to come after it, is all
abbrev pub invariant-loop-under : goal.invariant-loop-under
invariant-loop-under g l =
    let lines = all_lines (g.D.Domain.operations l.dom) (g.D.Portable.port l.dom) in
    (engine : LoopOptions) (program : List Routine) →
    behind l.text.items (lines engine program (map under_told (drop l.under-index l.loops)) (Lines [])) ≡ behind [] (lines engine program (map under_told l.loops) (Lines []))
