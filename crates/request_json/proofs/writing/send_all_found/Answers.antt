use Rattle.std.proofs.Common.{◌≡◌, [], drop, Some, sym, subst, arith}
use Rattle.std.proofs.lemmas.List.{drop_all}
use Rattle.std.proofs.lemmas.Result.{on_ok_weaker}
use Rattle.serde.specs.Event.{Logs, seq_begins}
use Rattle.serde_json.specs.Events.{SendsItems}
use Rattle.request_json.specs.Replies.{items_of, fault_data}
use Rattle.request_json.proofs.SendingLemmas.{count_items}
use Rattle.request_json.proofs.writing.send_all_found.Goals as goal

pub returns : goal.returns
returns g c =
    let xs = c.args.found.now in
    let first = g.S.Serializer.written c.begin_seq.new.self in
    let end = g.S.Serializer.written c.end_seq.new.self in
    let begun = subst (λ n. Logs (g.S.Serializer.written c.args.out.now) first (seq_begins (Some n))) (sym (count_items fault_data xs)) c.in_ok-begin_seq.ensures in
    let none : drop c.loop-one.one-index xs ≡ [] = drop_all c.loop-one.one-index xs (omega arith) in
    record {
      list = on_ok_weaker c.end_seq.result (λ e. (first, begun, c.loop-one.invariant end (subst (λ ys. SendsItems (items_of fault_data ys) (g.S.Serializer.written c.loop-one.out) end) (sym none) e))) c.end_seq.ensures;
    }
