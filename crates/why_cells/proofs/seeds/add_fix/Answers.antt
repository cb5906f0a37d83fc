use Rattle.std.proofs.Common.{sym, ◌∙◌}
use Rattle.cell_names.specs.Paths.{path_at}
use Rattle.why_cells.proofs.Ways.{fix_named}
use Rattle.why_cells.proofs.seeds.add_fix.Goals as goal

pub returns-in-None : goal.returns-in-None
returns-in-None c = record {
  adds = λ named.
      let w = fix_named c.args.names.now.names c.args.frame (path_at c.args.names.now.paths c.args.before) c.in-InLoop.head c.in-InLoop.field-1 c.in-InLoop.is named in
      let e = sym c.in-None.is ∙ c.find.ensures.found w.0 w.1 in
      absurd cc;
}
