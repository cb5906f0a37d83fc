use Rattle.std.proofs.Common.{◌≡◌, ◌≤◌, [], ◌∷◌, length}
use Rattle.imp_parse.specs.Kinds.{kinds}
use Rattle.imp_parse.specs.Lists.{with_front}
use Rattle.imp_parse.specs.ProgramReading.{declaration_at}
use Rattle.imp_parse.specs.Commas.{commas_at}
use Rattle.imp_parse.proofs.procedure.declarations.Given as goal

abbrev pub invariant-each : goal.invariant-each
invariant-each l = record {
  read : with_front l.found (commas_at declaration_at (kinds l.rest)) ≡ with_front (l.fn.first ∷ []) (commas_at declaration_at (kinds l.tokens));
  shorter : length l.rest ≤ length l.tokens;
}

abbrev pub decreases-each : goal.decreases-each
decreases-each l = length l.rest
