use Rattle.imp_check.proofs.TableLemmas.{same_right}
use Rattle.imp_table.specs.Pages.{entry_at}
use Rattle.imp_table.proofs.table.Table.make_room.Goals as goal

pub invariant_of-self : goal.invariant_of-self
invariant_of-self c = same_right (entry_at c.self.inside.pages.items) (entry_at c.make_places.new.pages.items) c.self.inside.count c.self.inside.heads c.self.inside.sites c.make_places.ensures.kept c.self.invariant
