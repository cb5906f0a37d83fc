use Rattle.std.proofs.Common.{◌<◌, length, arith}
use Rattle.imp_check.specs.Slots.{routines_of}
use Rattle.cert_reading.proofs.ReadLemmas.{rest_read, rest_bad}
use Rattle.cert_reading.proofs.reading.read_rest.Goals as goal

pub returns-then-branch : goal.returns-then-branch
returns-then-branch g c =
    let some : 0 < length c.args.line.now = omega (arith, c.in_default.len_at_least) in
    let added = rw c.if-branch.true at c.in_ok-add_line-in_default.ensures.added in
    record { is = λ all r. rest_read (g.D.Portable.port c.args.dom.now) (routines_of c.args.prog.now) all c.args.written c.add_line.new.written c.args.count c.args.line.now some added r }

pub returns-else-branch : goal.returns-else-branch
returns-else-branch g c =
    let some : 0 < length c.args.line.now = omega (arith, c.in_default.len_at_least) in
    let added = rw c.if-branch.false at c.in_ok-add_line-in_default.ensures.added in
    record { is = λ all r. rest_bad (g.D.Portable.port c.args.dom.now) (routines_of c.args.prog.now) all c.args.written c.add_line.new.written c.args.count c.args.line.now some added r }
