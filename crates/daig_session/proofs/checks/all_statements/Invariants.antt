use Rattle.std.proofs.Common.{◌≡◌, ◌++◌, drop}
use Rattle.imp_syntax.specs.Plain.{program_numbers}
use Rattle.daig_session.proofs.checks.all_statements.Given as goal

-- the statements so far, and those to come
abbrev pub invariant-loop-place : goal.invariant-loop-place
invariant-loop-place l = l.found ++ program_numbers (drop l.place l.view) ≡ program_numbers l.view
