use Rattle.std.proofs.Common.{◌≡◌, ◌++◌, map}
use Rattle.std.specs.List.{range_with_len}
use Rattle.dbm_core.specs.Half.{entry, nodes}
use Rattle.cert_words.specs.Words.{more_text}
use Rattle.dom_octagon_words.specs.Words.{at_place}
use Rattle.dom_octagon_words.proofs.write.put_entries.Given as goal

-- what is written so far
abbrev pub invariant-loop-place : goal.invariant-loop-place
invariant-loop-place l = l.text ≡ l.fn.text ++ more_text (map (at_place (nodes l.m) (entry l.m)) (range_with_len 0 l.place))
