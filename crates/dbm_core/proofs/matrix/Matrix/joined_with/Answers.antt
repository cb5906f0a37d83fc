use Rattle.std.proofs.Common.{◌≡◌, ◌∙◌, ap, subst, length, get_or, None, ℕ}
use Rattle.dbm_core.proofs.SlotLemmas.{joined-entries, joined-matrix}
use Rattle.dbm_core.specs.Half.{HalfMatrix, IsMatrix, entry}
use Rattle.dbm_core.specs.Operations.{joined}
use Rattle.dbm_core.specs.Weights.{greatest}
use Rattle.dbm_core.proofs.matrix.Matrix.joined_with.Goals as goal

pub invariant_of-result : goal.invariant_of-result
invariant_of-result c =
    let m : HalfMatrix = record { kinds = c.in_ok-kinds.kinds.items; kept = c.in_ok-entries.entries.items } in
    let h : (i j : ℕ) → entry m i j ≡ joined c.args.self.now c.args.other.now i j = joined-entries c.args.self.now c.args.other.now m (λ p.
    c.in_ok-entries.ensures.greater p
    ∙ ap (λ v. greatest (get_or v p None) (get_or c.as_slice-3.result.now p None)) (c.as_slice-2.ensures.value ∙ ap (λ (m : HalfMatrix). m.kept) c.self.view_is)
    ∙ ap (λ v. greatest (get_or c.args.self.now.kept p None) (get_or v p None)) (c.as_slice-3.ensures.value ∙ ap (λ (m : HalfMatrix). m.kept) c.other.view_is)) in
    joined-matrix c.args.self.now c.args.other.now m (subst IsMatrix c.self.view_is c.self.invariant) (subst IsMatrix c.other.view_is c.other.invariant)
    (c.in_ok-kinds.ensures.items ∙ c.as_slice.ensures.value ∙ ap (λ (m : HalfMatrix). m.kinds) c.self.view_is)
    (c.in_ok-entries.ensures.size ∙ ap length (c.as_slice-2.ensures.value ∙ ap (λ (m : HalfMatrix). m.kept) c.self.view_is))
    c.requires.same_kinds h

pub returns-clause-matrix : goal.returns-clause-matrix
returns-clause-matrix c =
    let m : HalfMatrix = record { kinds = c.in_ok-kinds.kinds.items; kept = c.in_ok-entries.entries.items } in
    let h : (i j : ℕ) → entry m i j ≡ joined c.args.self.now c.args.other.now i j = joined-entries c.args.self.now c.args.other.now m (λ p.
    c.in_ok-entries.ensures.greater p
    ∙ ap (λ v. greatest (get_or v p None) (get_or c.as_slice-3.result.now p None)) (c.as_slice-2.ensures.value ∙ ap (λ (m : HalfMatrix). m.kept) c.self.view_is)
    ∙ ap (λ v. greatest (get_or c.args.self.now.kept p None) (get_or v p None)) (c.as_slice-3.ensures.value ∙ ap (λ (m : HalfMatrix). m.kept) c.other.view_is)) in
    joined-matrix c.args.self.now c.args.other.now m (subst IsMatrix c.self.view_is c.self.invariant) (subst IsMatrix c.other.view_is c.other.invariant)
    (c.in_ok-kinds.ensures.items ∙ c.as_slice.ensures.value ∙ ap (λ (m : HalfMatrix). m.kinds) c.self.view_is)
    (c.in_ok-entries.ensures.size ∙ ap length (c.as_slice-2.ensures.value ∙ ap (λ (m : HalfMatrix). m.kept) c.self.view_is))
    c.requires.same_kinds h

pub returns-clause-entries : goal.returns-clause-entries
returns-clause-entries c =
    let m : HalfMatrix = record { kinds = c.in_ok-kinds.kinds.items; kept = c.in_ok-entries.entries.items } in
    let h : (i j : ℕ) → entry m i j ≡ joined c.args.self.now c.args.other.now i j = joined-entries c.args.self.now c.args.other.now m (λ p.
    c.in_ok-entries.ensures.greater p
    ∙ ap (λ v. greatest (get_or v p None) (get_or c.as_slice-3.result.now p None)) (c.as_slice-2.ensures.value ∙ ap (λ (m : HalfMatrix). m.kept) c.self.view_is)
    ∙ ap (λ v. greatest (get_or c.args.self.now.kept p None) (get_or v p None)) (c.as_slice-3.ensures.value ∙ ap (λ (m : HalfMatrix). m.kept) c.other.view_is)) in
    h
