use Rattle.std.specs.Prelude.{◌≡◌, true, false}
use Rattle.std.specs.Ordering.{eq_by_cmp}
use Rattle.std.proofs.Common.{sym, ◌∙◌, subst}
use Rattle.shape_graph.specs.Order.{shape_cmp}
use Rattle.shape_graph.specs.Shape.{Shape}
use Rattle.dom_listseg_words.proofs.Folded.{folded_found, folded_none}
use Rattle.dom_listseg_words.proofs.graphs.if_folded.Goals as goal

pub returns-then-eq : goal.returns-then-eq
returns-then-eq c = record {
  exact = folded_found c.args.graph.now c.in_ok-folded.folded c.in_ok-folded.ensures.folded
      (subst (λ (x : Shape). eq_by_cmp shape_cmp x c.args.graph.now ≡ true) c.as_graph.ensures.same (sym c.eq.ensures ∙ c.if-eq.true));
}

pub returns-else-eq : goal.returns-else-eq
returns-else-eq c = record {
  exact = folded_none c.args.graph.now c.in_ok-folded.folded c.in_ok-folded.ensures.folded
      (subst (λ (x : Shape). eq_by_cmp shape_cmp x c.args.graph.now ≡ false) c.as_graph.ensures.same (sym c.eq.ensures ∙ c.if-eq.false));
}
