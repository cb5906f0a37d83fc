use Rattle.std.proofs.Common.{◌≡◌, ◌≤◌, [], ◌∷◌, length}
use Rattle.imp_syntax.specs.Views.{operand_of}
use Rattle.imp_syntax.specs.ActionViews.{operands_of}
use Rattle.imp_parse.specs.Kinds.{kinds}
use Rattle.imp_parse.specs.Lists.{with_front}
use Rattle.imp_parse.specs.Reading.{side_at}
use Rattle.imp_parse.specs.Commas.{commas_at}
use Rattle.imp_parse.proofs.call.sides.Given as goal

abbrev pub invariant-each : goal.invariant-each
invariant-each l = record {
  read : with_front (operands_of l.found) (commas_at side_at (kinds l.rest)) ≡ with_front (operand_of l.fn.first ∷ []) (commas_at side_at (kinds l.tokens));
  shorter : length l.rest ≤ length l.tokens;
}

abbrev pub decreases-each : goal.decreases-each
decreases-each l = length l.rest
