use Rattle.serve_session.proofs.told.cost_line.Goals as goal

pub returns : goal.returns
returns g c = record { line = λ m h. rw (← c.cost-cost.ensures.is m h, ← c.kept_count-kept.ensures.is m h) c.line_of.ensures.line }
