-- The laws of a domain: its operations describe what steps do. What a state describes depends on the heap and the frames'
-- variables alone, the last frame's first.
use Rattle.std.specs.Prelude.{◌≡◌, ◌↔◌, List, [], ◌∷◌, Some, Bool, true, ℤ, All}
use Rattle.imp_slots.specs.Plain.{Layout, Guard, Effect, Act, DoBreak, Does, Invoke}
use Rattle.imp_slots.specs.Fits.{fits_guard, fits_effect, fits_invoke}
pub use Rattle.imp_chains.specs.Thresholds.{IsRising}
use Rattle.concrete_sem.specs.Values.{Variables, Heap, Gives, Faults, IsWord}
use Rattle.concrete_sem.specs.Evaluation.{truth_of}
use Rattle.concrete_sem.specs.Effects.{effect_of}
use Rattle.concrete_sem.specs.Passing.{first_variables, pass, back}
use Rattle.concrete_sem.specs.Proper.{IsProper}
use Rattle.imp_words.specs.declared.verdict.Verdict.TheVariants.{Dead, Safe}
use Rattle.domain_laws.specs.Operations.{Operations}
use Rattle.domain_laws.specs.Checks.{Check, check_of, fault_of}

-- a break fits every layout
abbrev pub fits_act : Layout → Act → Bool
fits_act l DoBreak = true
fits_act l (Does e) = fits_effect l e

-- Operations on states that fit give states that fit.
pub record Fitting {S : Type 0} (dom : Operations S) : Type 0 where
  pub init : (l : Layout) → dom.fits (dom.init l) (l ∷ []) ≡ true
  pub post : (act : Act) (l : Layout) (ls : List Layout) (s : S) → fits_act l act ≡ true → dom.fits s (l ∷ ls) ≡ true → dom.fits (dom.post act s) (l ∷ ls) ≡ true
  pub assume : (g : Guard) (b : Bool) (l : Layout) (ls : List Layout) (s : S) → fits_guard l g ≡ true → dom.fits s (l ∷ ls) ≡ true → dom.fits (dom.assume g b s) (l ∷ ls) ≡ true
  pub join : (ls : List Layout) (s t : S) → dom.fits s ls ≡ true → dom.fits t ls ≡ true → dom.fits (dom.join s t) ls ≡ true
  pub widen : (thresholds : List ℤ) (ls : List Layout) (s t : S) → IsRising thresholds → dom.fits s ls ≡ true → dom.fits t ls ≡ true → dom.fits (dom.widen thresholds s t) ls ≡ true
  pub enter : (i : Invoke) (l : Layout) (ls : List Layout) (s : S) → fits_invoke l i ≡ true → dom.fits s (l ∷ ls) ≡ true → dom.fits (dom.enter i.entering s) (i.entering.layout ∷ l ∷ ls) ≡ true
  pub leave : (i : Invoke) (l : Layout) (ls : List Layout) (s d : S) → fits_invoke l i ≡ true → dom.fits s (l ∷ ls) ≡ true → dom.fits d (i.entering.layout ∷ l ∷ ls) ≡ true → dom.fits (dom.leave i.returning s d) (l ∷ ls) ≡ true
  pub shed : (l : Layout) (ls : List Layout) (s : S) → dom.fits s (l ∷ ls) ≡ true → dom.fits (dom.shed s) (l ∷ []) ≡ true

-- The domain laws: what a state describes, the state that the operation makes describes after the step.
pub record Laws {S : Type 0} (dom : Operations S) (covers : S → Heap → List Variables → Type 0) : Type 0 where
  pub fitting : Fitting dom
  pub same : (s t : S) → (dom.same s t ≡ true) ↔ (s ≡ t)
  pub post : (e : Effect) (l : Layout) (ls : List Layout) (s : S) (h : Heap) (v : Variables) (vs : List Variables) (x : Heap × Variables) → fits_effect l e ≡ true → dom.fits s (l ∷ ls) ≡ true → IsProper h (v ∷ vs) (l ∷ ls) → effect_of e h v ≡ Gives x → covers s h (v ∷ vs) → covers (dom.post (Does e) s) x.0 (x.1 ∷ vs)
  pub assume : (g : Guard) (b : Bool) (l : Layout) (ls : List Layout) (s : S) (h : Heap) (v : Variables) (vs : List Variables) → fits_guard l g ≡ true → dom.fits s (l ∷ ls) ≡ true → IsProper h (v ∷ vs) (l ∷ ls) → truth_of v g ≡ Gives b → covers s h (v ∷ vs) → covers (dom.assume g b s) h (v ∷ vs)
  pub join_left : (ls : List Layout) (s t : S) (h : Heap) (vs : List Variables) → dom.fits s ls ≡ true → dom.fits t ls ≡ true → IsProper h vs ls → covers s h vs → covers (dom.join s t) h vs
  pub join_right : (ls : List Layout) (s t : S) (h : Heap) (vs : List Variables) → dom.fits s ls ≡ true → dom.fits t ls ≡ true → IsProper h vs ls → covers t h vs → covers (dom.join s t) h vs
  pub widen_left : (thresholds : List ℤ) (ls : List Layout) (s t : S) (h : Heap) (vs : List Variables) → IsRising thresholds → dom.fits s ls ≡ true → dom.fits t ls ≡ true → IsProper h vs ls → covers s h vs → covers (dom.widen thresholds s t) h vs
  pub widen_right : (thresholds : List ℤ) (ls : List Layout) (s t : S) (h : Heap) (vs : List Variables) → IsRising thresholds → dom.fits s ls ≡ true → dom.fits t ls ≡ true → IsProper h vs ls → covers t h vs → covers (dom.widen thresholds s t) h vs
  pub enter : (i : Invoke) (l : Layout) (ls : List Layout) (s : S) (h : Heap) (v u : Variables) (vs : List Variables) → fits_invoke l i ≡ true → dom.fits s (l ∷ ls) ≡ true → IsProper h (v ∷ vs) (l ∷ ls) → pass i.entering v ≡ Gives u → covers s h (v ∷ vs) → covers (dom.enter i.entering s) h (u ∷ v ∷ vs)
  -- h and v at the call, which passed u; k and d at the callee's end
  pub leave : (i : Invoke) (l : Layout) (ls : List Layout) (s t : S) (h k : Heap) (v u d : Variables) (vs : List Variables) → fits_invoke l i ≡ true → dom.fits s (l ∷ ls) ≡ true → dom.fits t (i.entering.layout ∷ l ∷ ls) ≡ true → IsProper h (v ∷ vs) (l ∷ ls) → IsProper k (d ∷ v ∷ vs) (i.entering.layout ∷ l ∷ ls) → pass i.entering v ≡ Gives u → covers s h (v ∷ vs) → covers t k (d ∷ v ∷ vs) → covers (dom.leave i.returning s t) k (back i.returning v d ∷ vs)
  pub init : (l : Layout) (inputs : List ℤ) → All IsWord inputs → covers (dom.init l) (record { cells = []; inputs = inputs }) (first_variables l ∷ [])
  pub shed : (l : Layout) (ls : List Layout) (s : S) (h : Heap) (v : Variables) (vs : List Variables) → dom.fits s (l ∷ ls) ≡ true → IsProper h (v ∷ vs) (l ∷ ls) → covers s h (v ∷ vs) → covers (dom.shed s) h (v ∷ [])
  -- verdicts on a statement that has a check: dead, nothing is described; safe, nothing described fails the check
  pub dead_verdict : (e : Effect) (c : Check) (l : Layout) (ls : List Layout) (s : S) (h : Heap) (vs : List Variables) → check_of e ≡ Some c → fits_effect l e ≡ true → dom.fits s (l ∷ ls) ≡ true → IsProper h vs (l ∷ ls) → dom.check (Does e) s ≡ Dead → covers s h vs → ⊥
  pub safe_verdict : (e : Effect) (c : Check) (l : Layout) (ls : List Layout) (s : S) (h : Heap) (v : Variables) (vs : List Variables) → check_of e ≡ Some c → fits_effect l e ≡ true → dom.fits s (l ∷ ls) ≡ true → IsProper h (v ∷ vs) (l ∷ ls) → dom.check (Does e) s ≡ Safe → covers s h (v ∷ vs) → effect_of e h v ≡ Faults (fault_of c) → ⊥

-- The dead law: simple statements change no dead state.
abbrev pub KeepsDead : {S : Type 0} → Operations S → Type 0
KeepsDead {S} dom = (e : Effect) (l : Layout) (ls : List Layout) (s : S) → fits_effect l e ≡ true → dom.fits s (l ∷ ls) ≡ true → dom.dead s ≡ true → dom.post (Does e) s ≡ s
