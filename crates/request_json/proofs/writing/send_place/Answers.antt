use Rattle.std.proofs.Common.{◌≡◌, OnOk, inl, inr, sym, ap, subst}
use Rattle.request_json.specs.Replies.{place_fields, fault_fields}
use Rattle.request_json.specs.Sending.{SendsFields}
use Rattle.request_json.proofs.writing.send_place.Goals as goal

pub returns-in-IllFormed : goal.returns-in-IllFormed
returns-in-IllFormed g c =
    let old = g.S.Serializer.written c.args.out.now in
    let end = g.S.Serializer.written c.send_fault.new.out in
    let fields : place_fields c.args.refusal.now ≡ fault_fields c.in-IllFormed.fault = elim c.in-IllFormed.is [ inl is ↦ ap place_fields is | inr is ↦ ap place_fields is ] in
    record { fields = subst (λ fields. OnOk c.send_fault.result (SendsFields fields old end)) (sym fields) c.send_fault.ensures.fields }
