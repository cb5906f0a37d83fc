use Rattle.std.proofs.Common.{◌≡◌, sym, ◌∙◌, ap, rules, arith}
use Rattle.std.proofs.lemmas.Grind.{common_steps}
use Rattle.imp_slots.specs.CallViews.{taken_of}
use Rattle.dom_listseg_meaning.specs.State.{Top}
use Rattle.dom_listseg_meaning.specs.Operations as operations
use Rattle.dom_listseg.proofs.Left.{leave_top}
use Rattle.dom_listseg.proofs.calls.left.Goals as goal

pub returns-in-Top-default : goal.returns-in-Top-default
returns-in-Top-default c =
    let is_top : c.args.s.now ≡ Top = first_of (search rules, grind (arith, common_steps)) in
    let described = sym c.if-is_empty-2.ensures.exact in
    record {
      exact = c.top-in-Top-default.ensures.top
          ∙ sym (ap (λ s. operations.leave (taken_of c.args.returning) s c.args.done.now) is_top ∙ leave_top (taken_of c.args.returning) c.args.done.now described);
    }
