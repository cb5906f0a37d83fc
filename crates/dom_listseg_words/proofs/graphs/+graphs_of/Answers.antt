use Rattle.std.specs.Prelude.{◌≡◌, IfOk}
use Rattle.std.specs.Option.{option_map}
use Rattle.std.proofs.Common.{◌∙◌, ap, subst}
use Rattle.dom_listseg_words.specs.Words.{after_atoms}
use Rattle.dom_listseg_words.proofs.Steps.{graphs_step}
use Rattle.dom_listseg_words.proofs.graphs.+graphs_of.Goals as goal

pub returns : goal.returns
returns t c =
    let e = graphs_step c.args.graphs.items c.push.new.self.items c.args.counts.now c.args.many c.args.words.now c.after_atoms-rest.result.now c.in-Some.graph c.in_ok-graph.field-0
    c.if-many-eq0.false c.in_ok-graph.ensures.exact c.in-Some.is c.in_ok-push.ensures.items (c.after_atoms-rest.ensures.exact ∙ ap after_atoms c.after_frames.ensures.exact) in
    record { exact = subst (λ x. IfOk c.graphs_of.result (λ found. option_map (λ v. v.items) found ≡ x)) e c.graphs_of.ensures.exact }
