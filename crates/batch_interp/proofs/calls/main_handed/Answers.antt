use Rattle.std.proofs.Common.{◌≡◌, ◌∙◌, ◌∷◌, ◌++◌, [], sym, ap, subst, length}
use Rattle.batch_interp.specs.Handing.{AreHanded}
use Rattle.batch_interp.proofs.Handings.{main_first}
use Rattle.batch_interp.proofs.calls.main_handed.Goals as goal

pub returns : goal.returns
returns g c =
    let dom = g.D.Domain.operations c.args.dom.now in
    let plan = c.args.plan.now in
    let calls : c.push.new.self ≡ c.in_ok-handed_on.field-0 ∷ [] = c.in_ok-push.ensures.added ∙ ap (λ hs. hs ++ c.in_ok-handed_on.field-0 ∷ []) c.new-calls.ensures.empty in
    record { handed = subst (AreHanded dom plan (length plan.program)) (sym (calls ∙ ap (λ h. h ∷ []) c.in_ok-handed_on.ensures.is)) (main_first dom plan c.in_ok-main.main c.requires.some c.in_ok-main.ensures.is c.in_ok-main.ensures.main) }
