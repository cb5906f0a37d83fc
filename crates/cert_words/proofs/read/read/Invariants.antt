use Rattle.std.proofs.Common.{◌≡◌, ◌≤◌, ◌++◌, false, drop}
use Rattle.cert_words.specs.Words.{limit, read}
use Rattle.cert_words.proofs.read.read.Given as goal

-- what is read and what is still to be read are the words
abbrev pub invariant-loop-byte : goal.invariant-loop-byte
invariant-loop-byte l = record {
  small : l.size ≤ limit;
  rest : l.found.items ++ read l.is_none l.is_negative l.size (drop l.byte-index l.text) ≡ read false false 0 l.text;
}
