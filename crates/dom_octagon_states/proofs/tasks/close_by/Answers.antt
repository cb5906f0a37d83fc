use Rattle.std.specs.Prelude.{◌≢◌, ◌<◌, ◌≤◌, ◌/◌, ◌^◌, FitsSigned, Some, IfOk, length}
use Rattle.std.proofs.Common.{rules, sym, subst}
use Rattle.std.proofs.lemmas.Int.{to_z-of_z}
use Rattle.std.proofs.lemmas.Result.{IfOk-weaker}
use mir.Syntax.{w128}
use Rattle.dbm_core.specs.Half.{nodes}
use Rattle.dbm_core.specs.Limits.{IsWithin}
use Rattle.dbm_incremental.specs.ClosedMatrices.{IsClosed, IsWhole}
use Rattle.dbm_incremental.specs.Steps.{AreBounds}
use Rattle.dbm_narrow.specs.Carried.{IsClosingStood}
use Rattle.dbm_narrow.specs.Closed.{IsClosing, IsClosingEquated, IsClosingLowered}
use Rattle.dom_octagon_states.proofs.TaskLemmas.{any-does, equated-does, lowered-does, stood-does, whole-does}
use Rattle.dom_octagon_states.specs.declared.tasks.Task.TheVariants.{Any, Equated, Lowered, Stood, Whole}
use Rattle.dom_octagon_states.specs.Limits.{IsReady, ObeysTriangles}
use Rattle.dom_octagon_states.specs.Tasks.{CanDo, DoesIf}
use Rattle.dom_octagon_states.proofs.tasks.close_by.Goals as goal

pub close-requires : goal.close-requires
close-requires gen c =
    let can : IsReady c.args.m.now = subst (CanDo c.args.m.now) c.in-Any.is c.requires.can in
    record { diagonal = can.diagonal; small = can.within }

pub returns-in-Any : goal.returns-in-Any
returns-in-Any gen c =
    let can : IsReady c.args.m.now = subst (CanDo c.args.m.now) c.in-Any.is c.requires.can in
    record {
      does = subst (λ t. IfOk c.close.result (DoesIf c.args.m.now t)) (sym c.in-Any.is)
          (IfOk-weaker c.close.result (IsClosing c.args.m.now) (DoesIf c.args.m.now Any) (λ a h. any-does c.args.m.now a c.kinds-kinds.ensures.matrix can.diagonal h) c.close.ensures.closing);
      total = c.close.ensures.total;
    }

pub close_whole-requires : goal.close_whole-requires
close_whole-requires gen c =
    let can : IsReady c.args.m.now × ObeysTriangles c.args.m.now = subst (CanDo c.args.m.now) c.in-Whole.is c.requires.can in
    record { diagonal = can.1.diagonal; whole = can.1.whole }

pub returns-in-Whole : goal.returns-in-Whole
returns-in-Whole gen c =
    let can : IsReady c.args.m.now × ObeysTriangles c.args.m.now = subst (CanDo c.args.m.now) c.in-Whole.is c.requires.can in
    record {
      does = subst (λ t. IfOk c.close_whole.result (DoesIf c.args.m.now t)) (sym c.in-Whole.is)
          (IfOk-weaker c.close_whole.result (IsClosing c.args.m.now) (DoesIf c.args.m.now Whole) (λ a h. whole-does c.args.m.now a c.kinds-kinds.ensures.matrix can.0.diagonal h) c.close_whole.ensures.closing);
      total = c.close_whole.ensures.total;
    }

pub close_after_bounds-requires : goal.close_after_bounds-requires
close_after_bounds-requires gen c =
    let can : (length c.in-Lowered.bounds.now ≤ 4) × AreBounds (nodes c.args.m.now) c.in-Lowered.bounds.now × IsClosed c.args.m.now × IsWhole c.args.m.now = subst (CanDo c.args.m.now) c.in-Lowered.is c.requires.can in
    record { few = can.0; bounds = can.1; closed = can.2; whole = can.3 }

pub returns-in-Lowered : goal.returns-in-Lowered
returns-in-Lowered gen c = record {
  does = subst (λ t. IfOk c.close_after_bounds.result (DoesIf c.args.m.now t)) (sym c.in-Lowered.is)
      (IfOk-weaker c.close_after_bounds.result (IsClosingLowered c.args.m.now c.in-Lowered.bounds.now) (DoesIf c.args.m.now (Lowered c.in-Lowered.bounds)) (λ a h. lowered-does c.args.m.now c.in-Lowered.bounds a h) c.close_after_bounds.ensures.closing);
  total = c.close_after_bounds.ensures.total;
}

pub close_equation-requires : goal.close_equation-requires
close_equation-requires gen c =
    let can : (c.in-Equated.q < length c.args.m.now.kinds) × (c.in-Equated.y < nodes c.args.m.now) × (c.in-Equated.y / 2 ≢ c.in-Equated.q) × IsClosed c.args.m.now × IsWhole c.args.m.now × IsWithin (2 ^ 70) (Some c.in-Equated.c) = subst (CanDo c.args.m.now) c.in-Equated.is c.requires.can in
    let g : FitsSigned w128 c.in-Equated.c = search rules in
    record { slot = can.0; node = can.1; apart = can.2; closed = can.3; whole = can.4; small = subst (λ x. IsWithin (2 ^ 70) (Some x)) (sym (to_z-of_z w128 c.in-Equated.c g)) can.5 }

pub returns-in-Equated : goal.returns-in-Equated
returns-in-Equated gen c =
    let g : FitsSigned w128 c.in-Equated.c = search rules in
    let h : IfOk c.close_equation.result (IsClosingEquated c.args.m.now c.in-Equated.q c.in-Equated.y c.in-Equated.c) = rw (to_z-of_z w128 c.in-Equated.c g) at c.close_equation.ensures.closing in
    record {
      does = subst (λ t. IfOk c.close_equation.result (DoesIf c.args.m.now t)) (sym c.in-Equated.is)
          (IfOk-weaker c.close_equation.result (IsClosingEquated c.args.m.now c.in-Equated.q c.in-Equated.y c.in-Equated.c) (DoesIf c.args.m.now (Equated c.in-Equated.q c.in-Equated.y c.in-Equated.c)) (λ a h. equated-does c.args.m.now c.in-Equated.q c.in-Equated.y c.in-Equated.c a h) h);
      total = c.close_equation.ensures.total;
    }

pub close_carried-requires : goal.close_carried-requires
close_carried-requires gen c =
    let can : (c.in-Stood.q < length c.args.m.now.kinds) × (c.in-Stood.y < nodes c.args.m.now) × IsClosed c.args.m.now × IsWhole c.args.m.now × IsWithin (2 ^ 70) (Some c.in-Stood.c) = subst (CanDo c.args.m.now) c.in-Stood.is c.requires.can in
    let g : FitsSigned w128 c.in-Stood.c = search rules in
    record { slot = can.0; node = can.1; closed = can.2; whole = can.3; small = subst (λ x. IsWithin (2 ^ 70) (Some x)) (sym (to_z-of_z w128 c.in-Stood.c g)) can.4 }

pub returns-in-Stood : goal.returns-in-Stood
returns-in-Stood gen c =
    let g : FitsSigned w128 c.in-Stood.c = search rules in
    let h : IfOk c.close_carried.result (IsClosingStood c.args.m.now c.in-Stood.q c.in-Stood.y c.in-Stood.c) = rw (to_z-of_z w128 c.in-Stood.c g) at c.close_carried.ensures.closing in
    record {
      does = subst (λ t. IfOk c.close_carried.result (DoesIf c.args.m.now t)) (sym c.in-Stood.is)
          (IfOk-weaker c.close_carried.result (IsClosingStood c.args.m.now c.in-Stood.q c.in-Stood.y c.in-Stood.c) (DoesIf c.args.m.now (Stood c.in-Stood.q c.in-Stood.y c.in-Stood.c)) (λ a h. stood-does c.args.m.now c.in-Stood.q c.in-Stood.y c.in-Stood.c a h) h);
      total = c.close_carried.ensures.total;
    }
