use Rattle.std.proofs.Common.{drop}
use Rattle.serde.specs.Event.{Log}
use Rattle.serde_json.specs.Events.{SendsItems}
use Rattle.request_json.specs.Replies.{items_of, fault_data}
use Rattle.request_json.proofs.writing.send_all_found.Given as goal

-- whatever ends the list well from here ends it well from the start
abbrev pub invariant-loop-one : goal.invariant-loop-one
invariant-loop-one g l =
    (end : Log) → SendsItems (items_of fault_data (drop l.one-index l.found)) (g.S.Serializer.written l.out) end → SendsItems (items_of fault_data l.found) (g.S.Serializer.written l.initial.out) end
