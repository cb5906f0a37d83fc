use Rattle.std.proofs.Common.{◌≡◌, true, false, Some, arith, sym, ◌∙◌, ap}
use Rattle.std.specs.Str.{bytes_eq}
use Rattle.io_edge.proofs.FindLemmas.{found_here, found_later, found_nowhere}
use Rattle.io_edge.proofs.memory.find.Goals as goal

pub returns-then-eq : goal.returns-then-eq
returns-then-eq c =
    let same : true ≡ bytes_eq c.file-item.result.name c.args.name.now = rw (← c.name.ensures.name) (c.if-eq.ensures {u = tt}) in
    let here = found_here c.args.name.now c.args.files.now c.loop-file.file-index c.file-item.result (omega arith) c.file-item.is same in
    record { found = sym (c.loop-file.invariant ∙ here ∙ ap Some (sym c.bytes.ensures.bytes)) }

pub loop-file-preserved : goal.loop-file-preserved
loop-file-preserved c =
    let other : false ≡ bytes_eq c.file-item.result.name c.args.name.now = rw (← c.name.ensures.name) (c.if-eq.ensures {u = tt}) in
    c.loop-file.invariant ∙ found_later c.args.name.now c.args.files.now c.loop-file.file-index c.file-item.result (omega arith) c.file-item.is other

pub returns : goal.returns
returns c =
    let nowhere = found_nowhere c.args.name.now c.args.files.now c.loop-file.file-index (omega arith) in
    record { found = sym (c.loop-file.invariant ∙ nowhere) }
