use Rattle.std.proofs.Common.{codes, refl, subst, ◌∙◌}
use Rattle.std.proofs.lemmas.Result.{on_ok_weaker}
use Rattle.request_json.specs.Replies.{count, text_of}
use Rattle.request_json.specs.Sending.{SendsField}
use Rattle.request_json.proofs.writing.send_fault.Goals as goal

pub returns : goal.returns
returns g c =
    let old = g.S.Serializer.written c.args.out.now in
    let first = g.S.Serializer.written c.send_count.new.out in
    let second = g.S.Serializer.written c.send_text.new.out in
    let end = g.S.Serializer.written c.send_text-2.new.out in
    let at = subst (λ n. SendsField (codes "at") (count n) old first) (c.from.ensures ∙ c.number.ensures.is) c.in_ok-send_count.ensures.field in
    let name = subst (λ text. SendsField (codes "name") (text_of text) first second) c.as_slice.ensures.same c.in_ok-send_text.ensures.field in
    record {
      fields = on_ok_weaker c.send_text-2.result (λ proc. (first, at, (second, name, (end, subst (λ text. SendsField (codes "proc") (text_of text) second end) c.as_slice-2.ensures.same proc, refl)))) c.send_text-2.ensures.field;
    }
