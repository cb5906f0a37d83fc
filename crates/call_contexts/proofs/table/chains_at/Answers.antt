use Rattle.std.proofs.Common.{◌≡◌, ◌<◌, [], length, ap, ◌∙◌, arith}
use Rattle.imp_check.specs.Entries.{entries_of, entry_of, sites_in}
use Rattle.imp_check.specs.Slots.{routines_of}
use Rattle.call_contexts.specs.Tables.{chains_in, through_sites}
use Rattle.call_contexts.proofs.Few.{as_many}
use Rattle.call_contexts.proofs.Tabled.{from_sites}
use Rattle.call_contexts.proofs.table.chains_at.Goals as goal

pub returns : goal.returns
returns c =
    let ps = c.args.prog.now in
    let table = c.args.table.now in
    let main = c.args.main in
    let place = c.args.place in
    let p : c.new.result ≡ place = c.new.ensures.is in
    let n : length (routines_of ps) ≡ length ps = as_many [] ps in
    let h : c.new.result < length ps = omega (arith, c.requires.last, c.requires.before) in
    let s = c.sites-sites.ensures.is h ∙ ap (sites_in (entries_of ps)) p in
    record {
      is =
          c.in_ok-found.ensures.is
          ∙ ap (through_sites (chains_in table main) (entry_of (entries_of ps))) s
          ∙ from_sites ps c.args.marks.now main place table c.chains_go_through_callers.ensures.through c.main_place.ensures.checked c.main_place.ensures.numbered c.requires.last c.requires.before c.requires.callers c.requires.known;
    }
