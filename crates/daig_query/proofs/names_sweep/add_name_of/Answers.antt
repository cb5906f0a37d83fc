use Rattle.std.proofs.Common.{sym, ◌∙◌}
use Rattle.std.proofs.lemmas.Option.{slice_get_within}
use Rattle.daig_query.proofs.Renaming.{adds-name, adds-nothing}
use Rattle.daig_query.proofs.names_sweep.add_name_of.Goals as goal

pub returns-then-not-there : goal.returns-then-not-there
returns-then-not-there c = record { adds = adds-nothing c.args.graph.now.cells c.args.names.now.names c.args.number c.args.later.now (sym c.has_cell-there.ensures.is ∙ c.if-not-there.true) c.requires.root }

pub copied_path-requires : goal.copied_path-requires
copied_path-requires c = record { there = c.get-path.ensures.path; root = c.requires.root }

pub add-requires : goal.add-requires
add-requires c = record { there = slice_get_within _ _ _ c.in_ok-path.ensures.path }

pub returns : goal.returns
returns c = record {
  adds =
      adds-name c.args.graph.now.cells c.args.names.now c.args.number c.args.later.now c.copied_path.new.later c.add.new.self c.get-path.result c.in_ok-path.path _
      (sym c.has_cell-there.ensures.is ∙ c.if-not-there.false) c.get-path.ensures.name c.in_ok-path.ensures.path c.in_ok-path.ensures.names c.in_ok-path.ensures.keeps c.in_ok-add.ensures.name c.add.ensures.paths c.requires.root;
}
