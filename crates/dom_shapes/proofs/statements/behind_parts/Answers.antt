use Rattle.std.proofs.Common.{◌≡◌, true, sym, subst}
use Rattle.shape_graph.specs.Shape.{Shape}
use Rattle.std.specs.Prelude.{List}
use Rattle.dom_listseg_meaning.specs.Sets.{rises}
use Rattle.dom_shapes_meaning.proofs.Laws.{take_rises, drop_rises}
use Rattle.dom_shapes.proofs.statements.behind_parts.Goals as goal

pub behind_some-requires : goal.behind_some-requires
behind_some-requires c = record { rises = subst (λ (v : List Shape). rises v ≡ true) (sym c.split_at.ensures.front) (take_rises 32 c.args.graphs.now c.requires.rises) }

pub behind_some-requires-2 : goal.behind_some-requires-2
behind_some-requires-2 c = record { rises = subst (λ (v : List Shape). rises v ≡ true) (sym c.split_at.ensures.back) (drop_rises 32 c.args.graphs.now c.requires.rises) }
