use Rattle.std.proofs.Common.{◌≤◌, ◌-◌, length}
use Rattle.imp_lex.proofs.Answered.{HasFound}
use Rattle.imp_lex.proofs.lexer.tokens.Given as goal

abbrev pub invariant-each : goal.invariant-each
invariant-each l = record {
  within : l.at ≤ length l.text;
  so_far : HasFound l.text l.found l.at;
}

abbrev pub decreases-each : goal.decreases-each
decreases-each l = length l.text - l.at
