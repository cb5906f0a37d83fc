use Rattle.std.proofs.Common.{Some, subst}
use Rattle.std.proofs.lemmas.Result.{on_ok_weaker}
use Rattle.serde.specs.Event.{Logs, map_begins}
use Rattle.request_json.proofs.ReplyLemmas.{reply_sent}
use Rattle.request_json.proofs.writing.ReplySerialize.serialize.Goals as goal

pub returns : goal.returns
returns g c =
    let old = g.S.Serializer.written c.args.out.now in
    let first = g.S.Serializer.written c.begin_map.new.self in
    let last = g.S.Serializer.written c.send_fields.new.out in
    let end = g.S.Serializer.written c.end_map.new.self in
    let begun = subst (λ n. Logs old first (map_begins (Some n))) c.field_count.ensures.count c.in_ok-begin_map.ensures in
    on_ok_weaker c.end_map.result (reply_sent c.args.self.now old first last end begun c.in_ok-send_fields.ensures.fields) c.end_map.ensures
