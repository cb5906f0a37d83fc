use Rattle.std.proofs.Common.{◌+◌, ◌≤◌, [], drop}
use Rattle.serve_script.specs.Lines.{all_lines}
use Rattle.imp_check.specs.Slots.{routines_of}
use Rattle.cert_lines.specs.Lines.{entries}
use Rattle.cert_reading.specs.Reading.{lines_from, IsReading}
use Rattle.cert_reading.proofs.reading.read_lines.Given as goal

-- the lines so far are read, and the pending one goes on with the bytes to come
abbrev pub invariant-loop-byte : goal.invariant-loop-byte
invariant-loop-byte g l =
    let port = g.D.Portable.port l.dom in
    record {
      counted : l.count ≤ l.byte-index + 1;
      reading : IsReading port (routines_of l.prog) l.written l.count (lines_from l.line.items (drop l.byte-index l.cert)) (entries port (routines_of l.prog) 1 [] (all_lines l.cert));
    }
