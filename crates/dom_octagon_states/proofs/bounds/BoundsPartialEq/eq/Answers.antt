use Rattle.std.specs.Prelude.{◌≡◌, ◌^◌}
use Rattle.std.proofs.Common.{◌∙◌, ap, sym, subst}
use Rattle.dbm_core.specs.Half.{HalfMatrix, entry, nodes}
use Rattle.dbm_core.specs.Limits.{AreWithin}
use Rattle.dbm_core.specs.Same.{same_matrix}
use Rattle.dom_octagon_states.proofs.Forms.{large_small, small_large}
use Rattle.dom_octagon_states.proofs.bounds.BoundsPartialEq.eq.Goals as goal
use Rattle.dom_octagon_states.specs.Held.{IsHeld, matrix_held}

pub returns-in-Small-Large : goal.returns-in-Small-Large
returns-in-Small-Large c =
    let a : HalfMatrix = c.in-Small-Large.a.value in
    let b : HalfMatrix = c.in-Small-Large.field-0-1.value in
    let left : a ≡ c.args.self.now = sym (ap matrix_held c.in-Small-Large.is-0) ∙ c.self.view_is in
    let right : b ≡ c.args.other.now = sym (ap matrix_held c.in-Small-Large.is-1) ∙ c.other.view_is in
    let fits : AreWithin (nodes a) (2 ^ 25) (entry a) = subst (λ (m : HalfMatrix). AreWithin (nodes m) (2 ^ 25) (entry m)) c.as_ref-in-Small-Large.ensures c.kinds-kinds.ensures.within in
    let large : AreWithin (nodes b) (2 ^ 25) (entry b) → ⊥ = subst IsHeld c.in-Small-Large.is-1 c.other.invariant in
    sym (small_large a b fits large) ∙ (λ i. same_matrix (left i) (right i))

pub returns-in-Large-Small : goal.returns-in-Large-Small
returns-in-Large-Small c =
    let a : HalfMatrix = c.in-Large-Small.field-0-0.value in
    let b : HalfMatrix = c.in-Large-Small.b.value in
    let left : a ≡ c.args.self.now = sym (ap matrix_held c.in-Large-Small.is-0) ∙ c.self.view_is in
    let right : b ≡ c.args.other.now = sym (ap matrix_held c.in-Large-Small.is-1) ∙ c.other.view_is in
    let large : AreWithin (nodes a) (2 ^ 25) (entry a) → ⊥ = subst IsHeld c.in-Large-Small.is-0 c.self.invariant in
    let fits : AreWithin (nodes b) (2 ^ 25) (entry b) =
    subst (λ (m : HalfMatrix). AreWithin (nodes m) (2 ^ 25) (entry m)) c.as_ref-in-Large-Small.ensures c.kinds-kinds-in-Large-Small.ensures.within in
    sym (large_small a b large fits) ∙ (λ i. same_matrix (left i) (right i))
