use Rattle.std.proofs.Common.{◌≡◌, ◌≤◌, ◌+◌, ◌^◌, ℕ, [], take}
use Rattle.gen_summary.specs.Summary.{nothing, IsWithin}
use Rattle.daig_session.specs.Holds.{Holds}
use Rattle.serve_script.specs.Lines.{last_part, whole_lines}
use Rattle.serve_answers.specs.Lines.{Served}
use Rattle.serve_output.specs.Domains.{meaning_of}
use Rattle.serve_output.specs.Output.{tally_output}
use Rattle.daig_server.specs.Tallies.{after_lines}
use Rattle.daig_server.proofs.generated.tally_lines.Given as goal

-- the lines that end in the bytes so far are tallied
abbrev pub invariant-loop-byte : goal.invariant-loop-byte
invariant-loop-byte g l =
    let started = l.initial.server.session in
    let now = l.server.session in
    let dom = (meaning_of g.D.Named.name).operations in
    let lines = whole_lines [] (take l.byte-index l.script) in
    record {
      pending : l.line.items ≡ last_part [] (take l.byte-index l.script);
      lasts : (n : ℕ) → (started.book.tickets.next + (l.byte-index + n) ≤ 2 ^ 63) → now.book.tickets.next + n ≤ 2 ^ 63;
      within : IsWithin l.byte-index l.tally;
      next : (s : Served) → Holds (g.D.Domain.operations started.engine.domain) started.engine.store started.book s.machine → Holds (g.D.Domain.operations now.engine.domain) now.engine.store now.book (after_lines dom lines s).machine;
      tally : (s : Served) → Holds (g.D.Domain.operations started.engine.domain) started.engine.store started.book s.machine → l.tally ≡ tally_output dom lines s nothing;
    }
