use Rattle.std.proofs.Common.{◌≡◌, drop}
use Rattle.io_edge.specs.Outside.{bytes_of}
use Rattle.io_edge.proofs.memory.find.Given as goal

-- the files from here on decide
abbrev pub invariant-loop-file : goal.invariant-loop-file
invariant-loop-file l = bytes_of l.name l.files ≡ bytes_of l.name (drop l.file-index l.files)
