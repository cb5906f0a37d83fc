use Rattle.std.proofs.Common.{◌≡◌, take}
use Rattle.imp_syntax.proofs.program.copied.Given as goal

-- the declarations so far are there
abbrev pub invariant-loop-declaration : goal.invariant-loop-declaration
invariant-loop-declaration l = l.copies ≡ take l.declaration-index l.declarations
