use Rattle.std.proofs.Common.{◌≡◌, drop}
use Rattle.serde_json.specs.View.{items_view}
use Rattle.request_json.specs.Members.{items_read, integer_in}
use Rattle.request_json.proofs.ItemLemmas.{reads}
use Rattle.request_json.proofs.fields.integers_in.Given as goal

-- what is read so far, and of the members from here on, is all
abbrev pub invariant-loop-member : goal.invariant-loop-member
invariant-loop-member l = reads integer_in l.integers (drop l.member-index l.members) ≡ items_read integer_in (items_view l.members)
