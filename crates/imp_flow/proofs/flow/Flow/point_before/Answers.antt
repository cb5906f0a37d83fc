use Rattle.std.proofs.Common.{Some, sym, ap, ◌∙◌}
use Rattle.cell_names.specs.declared.frame.Point.TheVariants.{Fix}
use Rattle.imp_flow.specs.Plans.{point_before}
use Rattle.imp_flow.proofs.FlowLemmas.{begins_before, front_told}
use Rattle.imp_flow.proofs.flow.Flow.point_before.Goals as goal

pub returns-in-Post-clause-first : goal.returns-in-Post-clause-first
returns-in-Post-clause-first c = begins_before c.args.self.now c.args.point c.point_before_post.result (c.point_before_post.ensures.is ∙ ap (point_before c.args.self.now) (sym c.in-Post.is))

pub returns-in-Iterate-clause-first : goal.returns-in-Iterate-clause-first
returns-in-Iterate-clause-first c = begins_before c.args.self.now c.args.point c.point_before_iterate.result (c.point_before_iterate.ensures.is ∙ ap (point_before c.args.self.now) (sym c.in-Iterate.is))

pub returns-in-Then-clause-first : goal.returns-in-Then-clause-first
returns-in-Then-clause-first c = begins_before c.args.self.now c.args.point c.front_of.result (c.front_of.ensures.is ∙ front_told c.args.self.now c.args.point c.in-Then.stmt c.in-Then.is)

pub returns-in-Exit-clause-first : goal.returns-in-Exit-clause-first
returns-in-Exit-clause-first c = begins_before c.args.self.now c.args.point (Some (Fix c.in-Exit.stmt)) (ap (point_before c.args.self.now) (sym c.in-Exit.is))
