use Rattle.std.proofs.Common.{[], arith}
use Rattle.serve_script.specs.Lines.{all_lines}
use Rattle.imp_check.specs.Slots.{routines_of}
use Rattle.cert_lines.specs.Lines.{entries}
use Rattle.cert_reading.proofs.ReadLemmas.{one_byte, bad_byte, last_read}
use Rattle.cert_reading.proofs.reading.read_lines.Goals as goal

pub loop-byte-preserved : goal.loop-byte-preserved
loop-byte-preserved g c =
    let port = g.D.Portable.port c.args.dom.now in
    let program = routines_of c.args.prog.now in
    let next = rw c.in-More.is at c.in_ok-read_byte.ensures.goes in
    record {
      counted = omega (arith, c.loop-byte.invariant.counted, c.in_ok-read_byte.ensures.counted);
      reading = one_byte port program (entries port program 1 [] (all_lines c.args.cert.now)) c.args.cert.now c.loop-byte.byte-index c.loop-byte.written c.read_byte.new.written c.loop-byte.count c.read_byte.new.count c.loop-byte.line.items c.read_byte.new.line.items c.loop-byte-test.true next c.loop-byte.invariant.reading;
    }

pub returns-in-Bad-clause-is : goal.returns-in-Bad-clause-is
returns-in-Bad-clause-is g c =
    let port = g.D.Portable.port c.args.dom.now in
    let program = routines_of c.args.prog.now in
    let next = rw c.in-Bad.is at c.in_ok-read_byte.ensures.goes in
    bad_byte port program (entries port program 1 [] (all_lines c.args.cert.now)) c.args.cert.now c.loop-byte.byte-index c.loop-byte.written c.read_byte.new.written c.loop-byte.count c.read_byte.new.count c.loop-byte.line.items c.read_byte.new.line.items c.loop-byte-test.true next c.loop-byte.invariant.reading

pub returns-clause-is : goal.returns-clause-is
returns-clause-is g c =
    let port = g.D.Portable.port c.args.dom.now in
    let program = routines_of c.args.prog.now in
    last_read port program c.read_rest.result (entries port program 1 [] (all_lines c.args.cert.now)) c.args.cert.now c.loop-byte.byte-index c.loop-byte.written c.loop-byte.count c.loop-byte.line.items c.as_slice.result.now c.loop-byte-test.false c.as_slice.ensures.value c.loop-byte.invariant.reading c.read_rest.ensures.is
