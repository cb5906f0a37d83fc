-- The intervals are a domain.
use Rattle.std.proofs.Common.{◌≡◌, refl, sym, ap, ◌∙◌, subst, ℤ, Bool, true, false, List, [], ◌∷◌, Option, Some, None}
use Rattle.imp_slots.specs.Plain.{Layout, Guard, Compare, CompareLinks, Not, And, Or, Effect, Act, DoBreak, Does}
use Rattle.imp_slots.specs.Fits.{fits_effect}
use Rattle.concrete_sem.specs.Values.{Variables, Heap, Faults}
use Rattle.concrete_sem.specs.Effects.{effect_of}
use Rattle.concrete_sem.specs.Passing.{first_variables, back}
use Rattle.concrete_sem.specs.Proper.{IsProper}
use Rattle.imp_words.specs.declared.verdict.Verdict.TheVariants.{Dead, Safe}
use Rattle.domain_laws.specs.Checks.{Check, check_of, checked_guard, fault_of}
use Rattle.domain_laws.specs.Guards.{assumed, past_check, verdict_on}
use Rattle.domain_laws.specs.Claims.{ChecksTo, FailsCheck}
use Rattle.domain_laws.proofs.CheckLaws.{FitsCheck, check-failed, check-fits}
use Rattle.domain_laws.proofs.GuardLaws.{verdict_by-dead, verdict_by-safe}
use Rattle.domain_laws.specs.Laws.{Fitting, Laws, KeepsDead}
use Rattle.dom_interval_meaning.specs.State.{Intervals, Empty, Within}
use Rattle.dom_interval_meaning.proofs.StateLaws.{intervals_Decides}
use Rattle.dom_interval_meaning.specs.Operations.{init, unless_empty, compare, compare_links, join, assume, does, post, enter, leave, check, dead}
use Rattle.dom_interval_meaning.specs.Widening.{widen}
use Rattle.dom_interval_meaning.specs.Covers.{covers, fits}
use Rattle.dom_interval_meaning.specs.Domain.{intervals}
use Rattle.dom_interval_meaning.proofs.SlotLaws.{fits_slots-true, true-fits_slots}
use Rattle.dom_interval_meaning.proofs.CompareLaws.{FitsState, Describes, join-fits, join-left, join-right, assume-fits, assume-describes}
use Rattle.dom_interval_meaning.proofs.StepLaws.{post-fits, post-describes}
use Rattle.dom_interval_meaning.proofs.CallLaws.{init-fits, init-describes, enter-fits, enter-describes, leave-fits, leave-describes}
use Rattle.dom_interval_meaning.proofs.WidenLaws.{widen-fits, widen-left, widen-right}

-- the test of fitting, as a fact
pub fits-state : (s : Intervals) (l : Layout) (ls : List Layout) → fits s (l ∷ ls) ≡ true → FitsState l s
unfolding fits
fits-state Empty l ls h = tt
fits-state (Within rs) l ls h = fits_slots-true l.numbers rs h

state-fits : (s : Intervals) (l : Layout) (ls : List Layout) → FitsState l s → fits s (l ∷ ls) ≡ true
unfolding fits
state-fits Empty l ls h = refl
state-fits (Within rs) l ls h = true-fits_slots l.numbers rs h

covers-describes : (s : Intervals) (h : Heap) (v : Variables) (vs : List Variables) → covers s h (v ∷ vs) → Describes v s
covers-describes Empty h v vs c = c
covers-describes (Within rs) h v vs c = c

describes-covers : (s : Intervals) (h : Heap) (v : Variables) (vs : List Variables) → Describes v s → covers s h (v ∷ vs)
describes-covers Empty h v vs c = c
describes-covers (Within rs) h v vs c = c

no-frame : (s : Intervals) (h : Heap) → covers s h [] → ⊥
no-frame Empty h c = c
no-frame (Within rs) h c = c

-- operations on two states of the same frames, none of which there may be
two-fit : (f : Intervals → Intervals → Intervals) → f Empty Empty ≡ Empty → ((l : Layout) (s t : Intervals) → FitsState l s → FitsState l t → FitsState l (f s t)) → (ls : List Layout) (s t : Intervals) → fits s ls ≡ true → fits t ls ≡ true → fits (f s t) ls ≡ true
unfolding fits
two-fit f e g [] Empty Empty h k = subst (λ s. fits s [] ≡ true) (sym e) refl
two-fit f e g [] Empty (Within qs) h k = cc
two-fit f e g [] (Within rs) t h k = cc
two-fit f e g (l ∷ ls) s t h k = state-fits (f s t) l ls (g l s t (fits-state s l ls h) (fits-state t l ls k))

-- a frame's layout, where something is described
two-cover : (s t r w : Intervals) (ls : List Layout) (h : Heap) (vs : List Variables) → fits s ls ≡ true → fits t ls ≡ true → IsProper h vs ls → ((l : Layout) (v : Variables) → FitsState l s → FitsState l t → Describes v r → Describes v w) → covers r h vs → covers w h vs
two-cover s t r w ls h [] f g p k c = absurd (no-frame r h c)
two-cover s t r w [] h (v ∷ vs) f g p k c = absurd (p.frames)
two-cover s t r w (l ∷ ls) h (v ∷ vs) f g p k c = describes-covers w h v vs (k l v (fits-state s l ls f) (fits-state t l ls g) (covers-describes r h v vs c))

join-empty : join Empty Empty ≡ Empty
unfolding join
join-empty = refl

widen-empty : (ms : List ℤ) → widen ms Empty Empty ≡ Empty
unfolding widen
widen-empty ms = refl

fitting : Fitting intervals
fitting = record {
  init = λ l. state-fits _ l [] (init-fits l);
  post = λ a l ls s f h. state-fits (post a s) l ls (post-fits l a s f (fits-state s l ls h));
  assume = λ g b l ls s f h. state-fits (assume g b s) l ls (assume-fits l g b s f (fits-state s l ls h));
  join = λ ls s t h k. two-fit join join-empty join-fits ls s t h k;
  widen = λ ms ls s t _ h k. two-fit (widen ms) (widen-empty ms) (widen-fits ms) ls s t h k;
  enter = λ i l ls s f h. state-fits (enter i.entering s) i.entering.layout (l ∷ ls) (enter-fits l i s f (fits-state s l ls h));
  leave = λ i l ls s d f h k. state-fits (leave i.returning s d) l ls (leave-fits l i s d f (fits-state s l ls h) (fits-state d i.entering.layout (l ∷ ls) k));
  shed = λ l ls s h. state-fits s l [] (fits-state s l ls h);
}

pub check_empty : (a : Act) → check a Empty ≡ Dead
unfolding check dead
check_empty DoBreak = refl
check_empty (Does e) = by (check_of e)
  where
    by : (o : Option Check) → verdict_on assume dead o Empty ≡ Dead
    by None = refl
    by (Some c) = refl

-- a dead state is Empty
dead-empty : (s : Intervals) → dead s ≡ true → s ≡ Empty
unfolding dead
dead-empty Empty h = refl
dead-empty (Within rs) h = cc

dead-describes : (s : Intervals) (v : Variables) → dead s ≡ true → Describes v s → ⊥
dead-describes s v h d = subst (Describes v) (dead-empty s h) d

dead-covers : (s : Intervals) (h : Heap) (vs : List Variables) → dead s ≡ true → covers s h vs → ⊥
dead-covers s h vs e c = subst (λ t. covers t h vs) (dead-empty s e) c

check-dead : (e : Effect) (s : Intervals) → check (Does e) s ≡ Dead → dead s ≡ true
unfolding check
check-dead e s h = verdict_by-dead assume dead e s h

check-safe : (e : Effect) (c : Check) (s : Intervals) → check_of e ≡ Some c → check (Does e) s ≡ Safe → dead (assume (checked_guard c) false s) ≡ true
unfolding check
check-safe e c s k h = verdict_by-safe assume dead e c s k h

safe-verdict : (e : Effect) (c : Check) (l : Layout) (ls : List Layout) (s : Intervals) (h : Heap) (v : Variables) (vs : List Variables) → check_of e ≡ Some c → fits_effect l e ≡ true → fits s (l ∷ ls) ≡ true → IsProper h (v ∷ vs) (l ∷ ls) → check (Does e) s ≡ Safe → covers s h (v ∷ vs) → effect_of e h v ≡ Faults (fault_of c) → ⊥
safe-verdict e c l ls s h v vs k f g p t d w =
    let failed : FailsCheck h v e (check_of e) = subst (FailsCheck h v e) (sym k) w in
    let false_here : ChecksTo v false (Some c) = subst (ChecksTo v false) k (check-failed e h v p.frames.0.links failed) in
    let fit : FitsCheck l (Some c) = subst (FitsCheck l) k (check-fits l e f) in
    dead-describes (assume (checked_guard c) false s) v (check-safe e c s k t)
    (assume-describes l v (checked_guard c) false s p.frames.0.numbers fit (fits-state s l ls g) false_here (covers-describes s h v vs d))

pub interval_laws : Laws intervals covers
interval_laws = record {
  fitting = fitting;
  same = λ s t. ((intervals_Decides s t).0, (intervals_Decides s t).1);
  post = λ e l ls s h v vs x f g p t c. describes-covers (post (Does e) s) x.0 x.1 vs (post-describes l h v x p.frames.0.numbers p.inputs p.cells e s f (fits-state s l ls g) t (covers-describes s h v vs c));
  assume = λ g b l ls s h v vs f k p t c. describes-covers (assume g b s) h v vs (assume-describes l v g b s p.frames.0.numbers f (fits-state s l ls k) t (covers-describes s h v vs c));
  join_left = λ ls s t h vs f g p c. two-cover s t s (join s t) ls h vs f g p (λ l v i j d. join-left l v s t i j d) c;
  join_right = λ ls s t h vs f g p c. two-cover s t t (join s t) ls h vs f g p (λ l v i j d. join-right l v s t i j d) c;
  widen_left = λ ms ls s t h vs _ f g p c. two-cover s t s (widen ms s t) ls h vs f g p (λ l v i j d. widen-left ms l v s t i j d) c;
  widen_right = λ ms ls s t h vs _ f g p c. two-cover s t t (widen ms s t) ls h vs f g p (λ l v i j d. widen-right ms l v s t i j d) c;
  enter = λ i l ls s h v u vs f g p t c. describes-covers (enter i.entering s) h u (v ∷ vs) (enter-describes l i s v u f p.frames.0.numbers t (covers-describes s h v vs c));
  leave = λ i l ls s t h k v u d vs f g j p q w c m. describes-covers (leave i.returning s t) k (back i.returning v d) vs (leave-describes i.returning s t v d (covers-describes s h v vs c) (covers-describes t k d (v ∷ vs) m));
  init = λ l inputs _. describes-covers (init l) (record { cells = []; inputs = inputs }) (first_variables l) [] (init-describes l);
  shed = λ l ls s h v vs f p c. describes-covers s h v [] (covers-describes s h v vs c);
  dead_verdict = λ e c l ls s h vs k f g p t d. dead-covers s h vs (check-dead e s t) d;
  safe_verdict = safe-verdict;
}

-- Empty stays Empty
assume-empty : (g : Guard) (b : Bool) → assumed compare compare_links join g b Empty ≡ Empty
unfolding join
assume-empty (Compare r x y) true = refl
assume-empty (Compare r x y) false = refl
assume-empty (CompareLinks equal p q) true = refl
assume-empty (CompareLinks equal p q) false = refl
assume-empty (Not g) true = assume-empty g false
assume-empty (Not g) false = assume-empty g true
assume-empty (And g h) true = ap (assumed compare compare_links join h true) (assume-empty g true) ∙ assume-empty h true
assume-empty (And g h) false = (λ i. join (assume-empty g false i) (assume-empty h false i))
assume-empty (Or g h) true = (λ i. join (assume-empty g true i) (assume-empty h true i))
assume-empty (Or g h) false = ap (assumed compare compare_links join h false) (assume-empty g false) ∙ assume-empty h false

past-empty : (o : Option Check) → past_check assume o Empty ≡ Empty
unfolding assume
past-empty None = refl
past-empty (Some c) = assume-empty (checked_guard c) true

-- nothing comes of Empty
pub post_empty : (e : Effect) → post (Does e) Empty ≡ Empty
unfolding post
post_empty e = ap (λ s. unless_empty s (does e)) (past-empty (check_of e))

pub interval_keeps_dead : KeepsDead intervals
interval_keeps_dead e l ls s f g h = let w = dead-empty s h in ap (post (Does e)) w ∙ post_empty e ∙ sym w
