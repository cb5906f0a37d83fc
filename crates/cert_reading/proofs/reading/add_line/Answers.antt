use Rattle.std.proofs.Common.{◌∷◌, option_map, sym, ap, ◌∙◌}
use Rattle.std.specs.Option.{option_copied}
use Rattle.imp_check.specs.Slots.{routines_of}
use Rattle.cert_reading.specs.Reading.{entry_told}
use Rattle.cert_reading.proofs.ReadLemmas.{added}
use Rattle.cert_reading.proofs.reading.add_line.Goals as goal
use Rattle.base_values.proofs.Cases.{none_of}

pub returns : goal.returns
returns g c =
    record {
      added = added (g.D.Portable.port c.args.dom.now) (routines_of c.args.prog.now) c.args.line.now c.args.written.now c.insert.new.self c.in-Some.entry c.in_ok-key.key (sym (ap (option_map entry_told) c.in-Some.is) ∙ c.in_ok-entry.ensures.is) (c.in_ok-key.ensures.is ∙ ap (λ zs. c.in-Some.entry.at ∷ zs) c.as_slice.ensures.same) (sym c.get.ensures.state ∙ ap option_copied (none_of c.get.result (sym c.is_some.ensures ∙ c.if-is_some.false))) c.in_ok-insert.ensures.put;
    }
