use Rattle.std.proofs.Common.{◌∙◌}
use Rattle.imp_check.proofs.EntryLemmas.{block_put, block_sites}
use Rattle.imp_check.proofs.entries.+entries.Goals as goal

pub block_entries-loop-i-preserved : goal.block_entries-loop-i-preserved
block_entries-loop-i-preserved g c =
    let f = c.args.resolver.now in
    let ss = c.as_slice-stmts.result.now in
    let i = c.loop-i.i in
    let old = c.loop-i.making in
    let new = c.statement_entries.new.making in
    let told = c.in_ok-statement_entries.ensures in
    record {
      is = c.loop-i.invariant.is;
      put = block_put f c.args.context.now c.loop-i.front ss i c.index-stmts-i.result c.number_at-next.result c.id.result old.places.items new.places.items c.loop-i-test.true c.index-stmts-i.is c.number_at-next.ensures.is c.id.ensures.is told.put ∙ c.loop-i.invariant.put;
      sites = block_sites f c.args.context.now c.loop-i.front ss i c.index-stmts-i.result c.number_at-next.result c.id.result old.sites.items new.sites.items c.loop-i-test.true c.index-stmts-i.is c.number_at-next.ensures.is c.id.ensures.is told.sites ∙ c.loop-i.invariant.sites;
    }
