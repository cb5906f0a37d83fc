use Rattle.std.proofs.Common.{◌≡◌, refl, sym, ap, ◌∙◌, Some, true, false}
use Rattle.std.specs.Str.{bytes_eq}
use Rattle.batch_interp.specs.Answered.{value_of}
use Rattle.batch_interp.specs.Frames.{passed}
use Rattle.batch_interp.proofs.Lists.{if_true, if_false}
use Rattle.batch_interp.proofs.Walkings.{end_there}
use Rattle.batch_interp.proofs.values.end_of.Goals as goal

pub returns-in_ok-end : goal.returns-in_ok-end
returns-in_ok-end g c =
    let dom = g.D.Domain.operations c.args.interpreter.now.dom.now in
    let plan = c.args.interpreter.now.plan.now in
    let k = c.args.interpreter.now.frame.now.place in
    let z = c.args.interpreter.now.frame.now.sites in
    let v = value_of c.args.before in
    let same : bytes_eq c.args.name.now c.args.routine.now.name ≡ true = ap (bytes_eq c.args.name.now) (sym c.name.ensures.same) ∙ sym c.if-eq.ensures in
    record {
      is = if_true (bytes_eq c.args.name.now c.args.routine.now.name) _ _ _ same (ap Some (c.in_ok-end.ensures.is ∙ ap (λ b. (passed dom plan k z b v).value) c.body.ensures.same))
          ∙ end_there dom plan k c.args.name.now z c.args.routine.now v c.requires.there;
    }

pub returns-else-eq : goal.returns-else-eq
returns-else-eq g c =
    let dom = g.D.Domain.operations c.args.interpreter.now.dom.now in
    let plan = c.args.interpreter.now.plan.now in
    let k = c.args.interpreter.now.frame.now.place in
    let z = c.args.interpreter.now.frame.now.sites in
    let v = value_of c.args.before in
    let other : bytes_eq c.args.name.now c.args.routine.now.name ≡ false = ap (bytes_eq c.args.name.now) (sym c.name.ensures.same) ∙ sym c.if-eq.ensures in
    record { is = if_false (bytes_eq c.args.name.now c.args.routine.now.name) _ _ _ other refl ∙ end_there dom plan k c.args.name.now z c.args.routine.now v c.requires.there }

pub behind_block-requires : goal.behind_block-requires
behind_block-requires g c = record { right = c.new-remembered.ensures.right (g.D.Domain.operations c.args.interpreter.now.dom.now) c.args.interpreter.now.plan.now }
