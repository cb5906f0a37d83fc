use Rattle.std.proofs.Common.{◌≡◌, ◌++◌, drop}
use Rattle.json.specs.Print.{escape}
use Rattle.request_json.proofs.escapes.put_escapes.Given as goal

-- what is written, and the rest of the text escaped, is all
abbrev pub invariant-loop-byte : goal.invariant-loop-byte
invariant-loop-byte l = l.line.items ++ escape (drop l.byte-index l.text) ≡ l.fn.line.items ++ escape l.text
