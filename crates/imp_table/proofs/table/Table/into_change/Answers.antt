use Rattle.std.proofs.Common.{sym, subst}
use Rattle.imp_check.specs.Tables.{AreOf}
use Rattle.imp_table.specs.Tabled.{Tabled}
use Rattle.imp_table.proofs.ChangeLemmas.{entries_made}
use Rattle.imp_table.specs.Pages.{entry_at}
use Rattle.imp_table.proofs.table.Table.into_change.Goals as goal

pub returns-clause-makes : goal.returns-clause-makes
returns-clause-makes c =
    let at = entry_at c.self.inside.pages.items in
    let right = subst (λ (t : Tabled). AreOf t.program at c.self.inside.count c.self.inside.heads c.self.inside.sites) c.self.view_is c.self.invariant in
    record {
      entries = entries_made c.args.from.now.program c.args.self.program at c.in_ok-entries.entries.items c.args.below c.requires.old c.requires.new right.entries c.in_ok-entries.ensures.comes c.in_ok-entries.ensures.within;
      heads = sym right.procedures;
      counted = right.counted;
      sites = sym right.calls;
    }
