use Rattle.std.proofs.Common.{drop}
use Rattle.serde.specs.Event.{Log}
use Rattle.serde_json.specs.Events.{SendsItems}
use Rattle.request_json.specs.Replies.{items_of, item_data}
use Rattle.request_json.proofs.writing.send_items.Given as goal

-- whatever ends the list well from here ends it well from the start
abbrev pub invariant-loop-item : goal.invariant-loop-item
invariant-loop-item g l =
    (end : Log) → SendsItems (items_of item_data (drop l.item-index l.items)) (g.S.Serializer.written l.out) end → SendsItems (items_of item_data l.items) (g.S.Serializer.written l.initial.out) end
