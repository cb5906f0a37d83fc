-- Sets of configurations, of frames with these layouts, the last one's first.
use Rattle.std.specs.Prelude.{◌≡◌, ◌⊎◌, List, [], ◌∷◌, Option, Bool}
use Rattle.imp_slots.specs.Plain.{Layout, Guard, Effect, Entering, Returning}
use Rattle.concrete_sem.specs.Values.{Variables, Heap, Gives}
use Rattle.concrete_sem.specs.Evaluation.{truth_of}
use Rattle.concrete_sem.specs.Effects.{effect_of}
use Rattle.concrete_sem.specs.Passing.{pass, back}
use Rattle.concrete_sem.specs.Proper.{IsProper}
use Rattle.dom_interval_meaning.specs.State.{Intervals}
use Rattle.dom_interval_meaning.specs.Covers.{covers}

-- those that the state describes
abbrev pub Of : List Layout → Intervals → Heap → List Variables → Type 0
Of ls s h vs = IsProper h vs ls × covers s h vs

-- those that one of the two states describes
abbrev pub OfEither : List Layout → Intervals → Intervals → Heap → List Variables → Type 0
OfEither ls s t h vs = Of ls s h vs ⊎ Of ls t h vs

-- those that the state describes and in which the guard has this truth value
abbrev pub Where : List Layout → Guard → Bool → Intervals → Heap → List Variables → Type 0
Where ls g b s h [] = ⊥
Where ls g b s h (v ∷ vs) = Of ls s h (v ∷ vs) × (truth_of v g ≡ Gives b)

-- those that the statement makes of one that the state describes
abbrev pub After : List Layout → Effect → Intervals → Heap → List Variables → Type 0
After ls e s k [] = ⊥
After ls e s k (u ∷ vs) = (h : Heap) × (v : Variables) × Of ls s h (v ∷ vs) × (effect_of e h v ≡ Gives (k, u))

-- those at the start of a procedure of one that the state describes, whose last frame calls it
abbrev pub Entered : List Layout → Entering → Intervals → Heap → List Variables → Type 0
Entered ls e s h [] = ⊥
Entered ls e s h (u ∷ []) = ⊥
Entered ls e s h (u ∷ v ∷ vs) = Of ls s h (v ∷ vs) × (pass e v ≡ Gives u)

-- Those after a call: of variables v of the caller that the one state describes, and of variables d at the end of the
-- procedure, of layout c, that the other describes above these.
abbrev pub Returned : (c : Layout) → List Layout → Option Returning → (s t : Intervals) → Heap → List Variables → Type 0
Returned c ls o s t k [] = ⊥
Returned c ls o s t k (u ∷ vs) = (h : Heap) × (v : Variables) × (d : Variables) × Of ls s h (v ∷ vs) × Of (c ∷ ls) t k (d ∷ v ∷ vs) × (back o v d ≡ u)
