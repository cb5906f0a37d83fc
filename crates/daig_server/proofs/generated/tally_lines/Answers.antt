use Rattle.std.proofs.Common.{◌∙◌, [], ◌∷◌, suc, take, slice_index_or, ap, sym, refl, arith}
use Rattle.gen_summary.specs.Summary.{nothing}
use Rattle.serve_script.specs.Lines.{whole_lines}
use Rattle.serve_script.proofs.LineLemmas.{lines_more, part_more}
use Rattle.serve_output.specs.Domains.{meaning_of}
use Rattle.serve_output.specs.Output.{tally_output}
use Rattle.daig_server.specs.Tallies.{after_lines}
use Rattle.daig_server.proofs.TallyLemmas.{after-append, tallied-append}
use Rattle.daig_server.proofs.generated.tally_lines.Goals as goal

pub tally_byte-requires : goal.tally_byte-requires
tally_byte-requires g c = record {
  lasts = (0, c.loop-byte.invariant.lasts 1 (omega (arith, c.requires.lasts, c.loop-byte-test.true)));
  room = (c.loop-byte.byte-index, omega (arith, c.requires.short, c.loop-byte-test.true), c.loop-byte.invariant.within);
}

pub loop-byte-preserved : goal.loop-byte-preserved
loop-byte-preserved g c =
    let dom = (meaning_of g.D.Named.name).operations in
    let script = c.args.script.now in
    let i = c.loop-byte.byte-index in
    let b = slice_index_or script i 0 in
    let part = c.loop-byte.line.items in
    let before = whole_lines [] (take i script) in
    let call = c.in_ok-tally_byte.ensures {u = tt} in
    let more = lines_more [] part script i b c.loop-byte-test.true refl c.loop-byte.invariant.pending in
    record {
      pending = call.line ∙ part_more [] part script i b c.loop-byte-test.true refl c.loop-byte.invariant.pending;
      lasts = λ n for. call.lasts n (c.loop-byte.invariant.lasts (suc n) (omega (arith, for)));
      within = call.within i c.loop-byte.invariant.within;
      next = λ s stands.
          rw (sym more, after-append dom before (whole_lines part (b ∷ [])) s) (call.next (after_lines dom before s) (c.loop-byte.invariant.next s stands));
      tally = λ s stands.
          call.tally (after_lines dom before s) (c.loop-byte.invariant.next s stands)
          ∙ ap (tally_output dom (whole_lines part (b ∷ [])) (after_lines dom before s)) (c.loop-byte.invariant.tally s stands)
          ∙ sym (tallied-append dom before (whole_lines part (b ∷ [])) s nothing) ∙ ap (λ lines. tally_output dom lines s nothing) more;
    }
