use Rattle.std.proofs.Common.{List, Option, None, map, get_or, refl, sym, ap, subst, ◌∙◌}
use Rattle.daig_query.specs.declared.stale.Dated.{Dated}
use Rattle.daig_query.specs.Dates.{stale_by, AreDated}
use Rattle.daig_query.proofs.StaleLists.{pushed_same, pushed_dated}
use Rattle.daig_query.proofs.stale.StaleCells.make_places.Goals as goal

pub loop-self-preserved : goal.loop-self-preserved
loop-self-preserved c =
    let edit = c.loop-self.self-inside.edit in
    let cells = c.loop-self.self-inside.cells.items in
    record {
      same = λ n.
          ap (λ (xs : List (Option Dated)). get_or (map (stale_by edit) xs) n None) c.in_ok-push.ensures.items
          ∙ pushed_same (stale_by edit) refl cells n ∙ c.loop-self.invariant.same n;
      dated = subst (AreDated edit) (sym c.in_ok-push.ensures.items) (pushed_dated edit cells c.loop-self.invariant.dated);
      count = c.loop-self.invariant.count;
    }
