use Rattle.std.proofs.Common.{◌≡◌, map, set, sym, ap, ◌∙◌}
use Rattle.daig_query.specs.Dates.{stale_by}
use Rattle.daig_query.specs.Stale.{Stale}
use Rattle.daig_query.proofs.StaleLists.{put_map, stale_now}
use Rattle.daig_query.proofs.stale.StaleCells.put.Goals.{in-Some, in-None}
use Rattle.daig_query.proofs.stale.StaleCells.put.Goals as goal

pub returns-after-stale-clause-puts : goal.returns-after-stale-clause-puts
returns-after-stale-clause-puts c =
    let edit = c.self.inside.edit in
    let cells = c.self.inside.cells.items in
    let was : map (stale_by edit) cells ≡ c.args.self.now.cells = ap (λ (s : Stale). s.cells) c.self.view_is in
    let is : stale_by edit c.match-stale.dated ≡ c.args.stale = elim c.match-stale.branch [
      | in-Some w ↦ ap (stale_by edit) w.dated-is ∙ stale_now edit w.in-Some.cell ∙ sym w.in-Some.is
      | in-None w ↦ ap (stale_by edit) w.dated-is ∙ sym w.in-None.is
    ] in
    put_map (stale_by edit) cells c.args.cell c.match-stale.dated c.args.stale is ∙ ap (λ xs. set xs c.args.cell c.args.stale) was
