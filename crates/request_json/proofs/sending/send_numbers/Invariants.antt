use Rattle.std.proofs.Common.{drop}
use Rattle.serde.specs.Event.{Log}
use Rattle.serde_json.specs.Events.{SendsItems}
use Rattle.request_json.specs.Replies.{items_of, count}
use Rattle.request_json.proofs.sending.send_numbers.Given as goal

-- whatever ends the list well from here ends it well from the start
abbrev pub invariant-loop-id : goal.invariant-loop-id
invariant-loop-id g l =
    (end : Log) → SendsItems (items_of count (drop l.id-index l.ids)) (g.S.Serializer.written l.out) end → SendsItems (items_of count l.ids) (g.S.Serializer.written l.initial.out) end
