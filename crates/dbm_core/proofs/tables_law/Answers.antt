use Rattle.dbm_core.proofs.TableLemmas.{tables-have_entries, tables-determine}
use Rattle.dbm_core.proofs.tables_law.Goals as goal

pub returns : goal.returns
returns c = record { entries = tables-have_entries; only = tables-determine }
