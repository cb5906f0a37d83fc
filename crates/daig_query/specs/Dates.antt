-- Stale cells, each with the edit that emptied it.
use Rattle.std.specs.Prelude.{◌≡◌, ◌≤◌, ℕ, List, Option, Some, None, if◌then◌else◌, ◌==◌, slice_get}
use Rattle.daig_query.specs.declared.stale.Dated.{Dated}
use Rattle.daig_query.specs.declared.stale.StaleCell.{StaleCell}

-- a cell that this edit emptied
abbrev pub stale_by : (edit : ℕ) → Option Dated → Option StaleCell
stale_by edit None = None
stale_by edit (Some d) = if d.edit == edit then Some d.cell else None

-- none was emptied by a later edit
abbrev pub AreDated : (edit : ℕ) → List (Option Dated) → Type 0
AreDated edit cells = (n : ℕ) (d : Dated) → slice_get cells n ≡ Some (Some d) → d.edit ≤ edit
