use Rattle.std.proofs.Common.{◌≡◌, drop}
use Rattle.serde_json.specs.View.{items_view}
use Rattle.request_json.specs.Members.{items_read, number_in, greatest_id}
use Rattle.request_json.proofs.ItemLemmas.{reads}
use Rattle.request_json.proofs.fields.ids_in.Given as goal

-- what is read so far, and of the members from here on, is all
abbrev pub invariant-loop-member : goal.invariant-loop-member
invariant-loop-member l = reads (number_in greatest_id) l.ids (drop l.member-index l.members) ≡ items_read (number_in greatest_id) (items_view l.members)
