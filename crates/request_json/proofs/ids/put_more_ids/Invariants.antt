use Rattle.std.proofs.Common.{◌≡◌, ◌++◌, drop, true}
use Rattle.serde_json.specs.Written.{items_text}
use Rattle.request_json.specs.Replies.{items_of, count}
use Rattle.request_json.proofs.ids.put_more_ids.Given as goal

-- what is written, and the rest of the list, is all
abbrev pub invariant-loop-id : goal.invariant-loop-id
invariant-loop-id l = l.line.items ++ items_text true (items_of count (drop l.id-index l.ids)) ≡ l.fn.line.items ++ items_text true (items_of count l.ids)
