-- What is claimed of fault points: an evaluation goes on only where every claim holds, and ends with a fault only where the
-- claim of a point of that kind fails.
use Rattle.std.specs.Prelude.{◌≡◌, List, [], ◌∷◌, true, false, ◌⊎◌}
use Rattle.imp_slots.specs.Plain.{Layout, Guard, Effect, Invoke}
use Rattle.imp_slots.specs.Fits.{fits_guard, fits_effect, fits_invoke}
use Rattle.imp_words.specs.declared.fault.FaultKind.{FaultKind}
use Rattle.concrete_sem.specs.Values.{Variables, Heap, Attempt, Gives, Faults}
use Rattle.concrete_sem.specs.Evaluation.{truth_of}
use Rattle.concrete_sem.specs.Effects.{effect_of}
use Rattle.concrete_sem.specs.Passing.{pass}
use Rattle.concrete_sem.specs.Proper.{IsProper}
use Rattle.fault_points.specs.declared.point.FaultPoint.{FaultPoint}
use Rattle.fault_points.specs.Points.{guard_points, effect_points, argument_points}

-- every claim holds
abbrev pub NoneFails : Variables → List FaultPoint → Type 0
NoneFails v [] = Unit {0}
NoneFails v (p ∷ ps) = (truth_of v p.claim ≡ Gives true) × NoneFails v ps

-- the claim of a point of this kind fails
abbrev pub SomeFails : Variables → FaultKind → List FaultPoint → Type 0
SomeFails v k [] = ⊥
SomeFails v k (p ∷ ps) = ((p.kind ≡ k) × (truth_of v p.claim ≡ Gives false)) ⊎ SomeFails v k ps

-- The points are those of this evaluation.
pub record AreExact {A : Type 0} (v : Variables) (ps : List FaultPoint) (o : Attempt A) : Type 0 where
  pub passes : (a : A) → o ≡ Gives a → NoneFails v ps
  pub fails : (k : FaultKind) → o ≡ Faults k → SomeFails v k ps

-- Guards, simple statements and the arguments of calls that fit a layout have exactly these points, in its variables.
pub record ExactIn (l : Layout) (h : Heap) (v : Variables) : Type 0 where
  pub guards : (g : Guard) → fits_guard l g ≡ true → AreExact v (guard_points g) (truth_of v g)
  pub effects : (e : Effect) → fits_effect l e ≡ true → AreExact v (effect_points e) (effect_of e h v)
  pub calls : (i : Invoke) → fits_invoke l i ≡ true → AreExact v (argument_points i.entering.arguments) (pass i.entering v)

abbrev pub PointsAreExact : Type 0
PointsAreExact = (l : Layout) (h : Heap) (v : Variables) → IsProper h (v ∷ []) (l ∷ []) → ExactIn l h v
