use Rattle.std.proofs.Common.{◌∙◌}
use Rattle.imp_check.proofs.FewLemmas.{few_statements, count_is}
use Rattle.imp_check.proofs.TableLemmas.{made}
use Rattle.imp_check.proofs.building.table_parts.Goals as goal

pub returns : goal.returns
returns c =
    let ps = c.args.procs.now in
    record {
      are = made ps c.requires.fine c.in_ok-places.field-0.places.items c.program_count-count.result c.in_ok-heads.heads c.from_vec-sites.result
          c.in_ok-places.ensures.put
          (count_is ps c.program_count-count.result c.program_count-count.ensures.is (few_statements ps c.requires.fine.faultless).0)
          c.in_ok-heads.ensures.is
          (c.from_vec-sites.ensures.same ∙ c.in_ok-places.ensures.sites);
    }
