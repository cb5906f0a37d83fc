-- Steps and names that compare equal are equal.
use Rattle.std.specs.Cmp.Lexicographic.{pointwise_decides}
use Rattle.std.proofs.Common.{◌≡◌, ℕ, List, Bool, true, ap, ap₂, ◌∙◌, sym, arith, refl}
use Rattle.std.proofs.lemmas.Bool.Decides.{nat_tests}
use Rattle.std.proofs.lemmas.Bool.{and_parts}
use Rattle.base_values.specs.Claims.{IsDecided}
use Rattle.state_table.specs.Numbers.{TellsApart}
use Rattle.cell_names.specs.declared.frame.NameFrame.{NameFrame}
use Rattle.cell_names.specs.declared.frame.NameFrame.TheVariants.{InCall, InLoop}
use Rattle.cell_names.specs.declared.frame.Point.{Point}
use Rattle.cell_names.specs.declared.frame.Point.TheVariants.{Entry, Then, Else, Body, Post, Iterate, Fix, Exit, Leap}
use Rattle.cell_names.specs.declared.path.PathStep.{PathStep}
use Rattle.cell_names.specs.declared.path.Name.{Name}
use Rattle.cell_names.specs.contracts.frame.NameFramePartialEq.TheImpl as frame_impl
use Rattle.cell_names.specs.contracts.frame.PointPartialEq.TheImpl as point_impl
use Rattle.cell_names.specs.contracts.path.PathStepPartialEq.TheImpl as step_impl
use Rattle.cell_names.specs.contracts.path.NamePartialEq.TheImpl as name_impl
use Rattle.cell_names.specs.contracts.frame.NameFrameEq.TheImpl.Laws as frame_laws
use Rattle.cell_names.specs.contracts.frame.PointEq.TheImpl.Laws as point_laws
use Rattle.cell_names.specs.contracts.path.PathStepEq.TheImpl.Laws as step_laws
use Rattle.cell_names.specs.contracts.path.NameEq.TheImpl.Laws as name_laws

frame_tells : TellsApart frame_impl.ghosts.eq
frame_tells (InCall a) (InCall b) h = ap InCall (grind (arith, nat_tests))
frame_tells (InCall a) (InLoop b c) h = cc
frame_tells (InLoop a d) (InCall b) h = cc
frame_tells (InLoop a d) (InLoop b c) h = ap₂ InLoop (grind (arith, nat_tests)) (grind (arith, nat_tests))

point_tells : TellsApart point_impl.ghosts.eq
point_tells Entry Entry h = refl
point_tells (Then a) (Then b) h = ap Then (grind (arith, nat_tests))
point_tells (Else a) (Else b) h = ap Else (grind (arith, nat_tests))
point_tells Body Body h = refl
point_tells (Post a) (Post b) h = ap Post (grind (arith, nat_tests))
point_tells (Iterate a c) (Iterate b d) h = ap₂ Iterate (grind (arith, nat_tests)) (grind (arith, nat_tests))
point_tells (Fix a) (Fix b) h = ap Fix (grind (arith, nat_tests))
point_tells (Exit a) (Exit b) h = ap Exit (grind (arith, nat_tests))
point_tells (Leap a c) (Leap b d) h = ap₂ Leap (grind (arith, nat_tests)) (grind (arith, nat_tests))
point_tells _ _ h = cc

pub name_tells : TellsApart name_impl.ghosts.eq
name_tells x y h =
    let p = and_parts _ _ h in
    let make : ℕ → Point → Name = λ b f. record { path = b; point = f } in
    ap₂ make (let e = p.0 in grind (arith, nat_tests)) (point_tells x.point y.point p.1)

pub name_self : (x : Name) → name_impl.ghosts.eq x x ≡ true
name_self x = name_laws.laws-law.refl x

decided_by : {A : Type 0} (eq : A → A → Bool) → TellsApart eq → ((x : A) → eq x x ≡ true) → IsDecided eq
decided_by eq tells self x y = (tells x y, λ e. ap (λ z. eq x z) (sym e) ∙ self x)

pub frame_decides : IsDecided frame_impl.ghosts.eq
frame_decides = decided_by frame_impl.ghosts.eq frame_tells (λ x. frame_laws.laws-law.refl x)

pub step_tells : TellsApart step_impl.ghosts.eq
step_tells x y h =
    let p = and_parts _ _ h in
    let make : ℕ → List NameFrame → PathStep = λ b fs. record { before = b; frames = fs } in
    ap₂ make (let e = p.0 in grind (arith, nat_tests)) ((pointwise_decides frame_decides x.frames y.frames).0 p.1)

pub step_self : (x : PathStep) → step_impl.ghosts.eq x x ≡ true
step_self x = step_laws.laws-law.refl x

pub point_decides : IsDecided point_impl.ghosts.eq
point_decides = decided_by point_impl.ghosts.eq point_tells (λ x. point_laws.laws-law.refl x)

pub name_decides : IsDecided name_impl.ghosts.eq
name_decides = decided_by name_impl.ghosts.eq name_tells name_self
