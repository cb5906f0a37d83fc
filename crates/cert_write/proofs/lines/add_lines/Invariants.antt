use Rattle.std.proofs.Common.{◌≡◌, List, drop, map, reverse}
use Rattle.imp_slots.specs.Plain.{Routine}
use Rattle.batch_meaning.specs.Batch.{LoopOptions}
use Rattle.batch_interp.specs.Heads.{head_told}
use Rattle.cert_lines.specs.Certificate.{Certificate}
use Rattle.cert_write.specs.Writing.{behind, lines_under}
use Rattle.cert_write.proofs.lines.add_lines.Given as goal

-- what is written, with the loops to come after it, is all
abbrev pub invariant-loop-head : goal.invariant-loop-head
invariant-loop-head g l =
    let lines = lines_under (g.D.Domain.operations l.dom) (g.D.Portable.port l.dom) in
    (engine : LoopOptions) (program : List Routine) (more : Certificate) →
    behind l.text.items (lines engine program (reverse l.chain) (map head_told (drop l.head-index l.heads)) more) ≡ behind l.initial.text.items (lines engine program (reverse l.chain) (map head_told l.heads) more)
