use Rattle.std.proofs.Common.{◌∙◌}
use Rattle.cell_names.specs.declared.frame.Point.TheVariants.{Entry}
use Rattle.imp_flow.proofs.FlowLemmas.{first_none, first_some}
use Rattle.imp_flow.proofs.flow.Flow.first_row.Goals as goal

pub returns-in-None : goal.returns-in-None
returns-in-None c = record { is = λ w e. first_none c.args.self.now w c.main_row.result (e ∙ c.in-None.is) c.main_row.ensures.is }

pub returns-in-Some : goal.returns-in-Some
returns-in-Some c = record { is = λ w e. first_some c.args.self.now w Entry c.in-Some.frame c.entry_row.result (e ∙ c.in-Some.is) c.entry_row.ensures.is }
