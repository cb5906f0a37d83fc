use Rattle.std.proofs.Common.{sym, ap, ◌∙◌}
use Rattle.imp_flow.specs.Plans.{node_row}
use Rattle.imp_flow.proofs.flow.Flow.node_row.Goals as goal

pub returns-in-Then : goal.returns-in-Then
returns-in-Then c = record { is = λ w e. c.then_row.ensures.is w ∙ ap (node_row c.args.self.now w) (sym c.in-Then.is) }

pub returns-in-Else : goal.returns-in-Else
returns-in-Else c = record { is = λ w e. c.else_row.ensures.is w ∙ ap (node_row c.args.self.now w) (sym c.in-Else.is) }

pub returns-in-Post : goal.returns-in-Post
returns-in-Post c = record { is = λ w e. c.post_row.ensures.is w ∙ ap (node_row c.args.self.now w) (sym c.in-Post.is) }

pub returns-in-Fix : goal.returns-in-Fix
returns-in-Fix c = record { is = λ w e. c.fix_row.ensures.is w ∙ ap (node_row c.args.self.now w) (sym c.in-Fix.is) }

pub returns-in-Exit : goal.returns-in-Exit
returns-in-Exit c = record { is = λ w e. c.exit_row.ensures.is w ∙ ap (node_row c.args.self.now w) (sym c.in-Exit.is) }

pub returns-in-Leap : goal.returns-in-Leap
returns-in-Leap c = record { is = λ w e. c.leap_row.ensures.is w ∙ ap (node_row c.args.self.now w) (sym c.in-Leap.is) }
