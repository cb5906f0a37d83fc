use Rattle.std.proofs.Common.{[], ◌∷◌, ap, ◌∙◌}
use Rattle.batch_interp.specs.Handing.{handed_on}
use Rattle.batch_interp.proofs.Lists.{on_ok_along, on_ok_as}
use Rattle.batch_interp.proofs.Turned.{first_popped, rest_popped}
use Rattle.batch_interp.proofs.calls.add_handed.Goals as goal

pub returns-clause-rest : goal.returns-clause-rest
returns-clause-rest g c = on_ok_as c.push.result _ _ c.push.ensures.added (λ e. rest_popped c.pop.result c.args.so_far.now c.pop.new.self c.pop.ensures.last)

pub returns-clause-added : goal.returns-clause-added
returns-clause-added g c =
    on_ok_along _ _ _ _ _ c.push.ensures.added (ap (λ h. h ∷ []) (c.in_ok-handed.ensures.is ∙ ap (λ o. handed_on o c.args.next) (first_popped c.pop.result c.args.so_far.now c.pop.new.self c.pop.ensures.last)))
