use Rattle.std.specs.Prelude.{◌≡◌, ◌&&◌, true}
use Rattle.std.specs.Bool.{beq}
use Rattle.std.specs.Cmp.Lexicographic.{pointwise}
use Rattle.std.specs.Ordering.{int_eq}
use Rattle.std.proofs.Common.{◌∙◌, ap, sym}
use Rattle.dbm_core.specs.Same.{same_matrix}
use Rattle.dbm_narrow.proofs.SameLemmas.{same-held}
use Rattle.dbm_narrow.proofs.narrow.NarrowPartialEq.eq.Goals as goal

pub returns-then-eq : goal.returns-then-eq
returns-then-eq gen c =
    let k : c.eq.result ≡ pointwise beq c.self.inside.kinds c.other.inside.kinds = c.eq.ensures ∙ (λ i. pointwise beq (c.list.ensures.value i) (c.list-2.ensures.value i)) in
    let t : pointwise beq c.self.inside.kinds c.other.inside.kinds ≡ true = sym k ∙ c.if-eq.true in
    let e : c.eq-then-eq.result ≡ pointwise int_eq c.self.inside.entries.items c.other.inside.entries.items = c.eq-then-eq.ensures in
    e ∙ sym (ap (λ b. b && pointwise int_eq c.self.inside.entries.items c.other.inside.entries.items) t)
    ∙ same-held gen.W.Width.unit gen.W.Width.positive c.self.inside.kinds c.other.inside.kinds c.self.inside.entries.items c.other.inside.entries.items c.self.invariant.entries c.other.invariant.entries
    ∙ (λ i. same_matrix (c.self.view_is i) (c.other.view_is i))
