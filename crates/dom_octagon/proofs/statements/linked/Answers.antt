use Rattle.std.specs.Option.{option_copied}
use Rattle.std.proofs.Common.{sym}
use Rattle.dom_octagon_states.proofs.Tight.{closed_again}
use Rattle.dom_octagon.proofs.statements.linked.Goals as goal

pub returns : goal.returns
returns c = record { exact = sym (closed_again (option_copied c.closure-matrix.result) c.args.s.now c.closure-matrix.ensures.exact c.closure-matrix.ensures.tight) }
