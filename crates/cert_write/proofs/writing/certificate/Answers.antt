use Rattle.std.proofs.Common.{◌≡◌, ap, ◌∙◌, map}
use Rattle.imp_check.specs.Slots.{routines_of}
use Rattle.call_contexts.specs.Settings.{Setting, engine_of}
use Rattle.batch_interp.specs.Heads.{under_told, all_loops_told}
use Rattle.cert_lines.specs.Certificate.{certificate}
use Rattle.cert_write.proofs.Behind.{all_text}
use Rattle.cert_write.proofs.writing.certificate.Goals as goal

pub returns : goal.returns
unfolding certificate
returns g c =
    let program = routines_of c.args.prog.now in
    let dom = g.D.Domain.operations c.args.dom.now in
    let engine = engine_of c.args.budget c.args.widening in
    let e : c.in_ok-setting.setting.engine ≡ engine = ap (λ (s : Setting). s.engine) c.in_ok-setting.ensures.is in
    let told : map under_told c.as_slice.result.now ≡ all_loops_told dom engine program 0 program =
    ap (map under_told) c.as_slice.ensures.same ∙ c.in_ok-loops.ensures.exact ∙ (λ i. all_loops_told dom (e i) program 0 program) in
    record { text = all_text dom (g.D.Portable.port c.args.dom.now) engine program c.all_lines.result c.as_slice.result.now told c.all_lines.ensures.text }
