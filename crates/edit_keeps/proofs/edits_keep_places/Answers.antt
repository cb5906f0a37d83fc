use Rattle.std.proofs.Common.{sym}
use Rattle.cell_kept_set.proofs.Plans.{turn}
use Rattle.edit_keeps.proofs.Kept.{keep_places}
use Rattle.edit_keeps.proofs.edits_keep_places.Goals as goal

pub returns : goal.returns
returns c = record {
  keep = λ e program next fine after below continues.
      let k = keep_places e program next fine after below continues in
      (k, record { main = sym k.main; statements = λ n u v a b. turn (k.statements n v u b a) });
}
