use Rattle.serve_answers.proofs.Places.{named_by}
use Rattle.serve_answers.proofs.refusals.name_at.Goals as goal

pub returns : goal.returns
returns c = record { name = named_by c.args.table.now.program c.args.place _ c.name_of_head.result c.head_at.ensures.head c.name_of_head.ensures.name }
