-- The octagons keep the laws of a domain.
use Rattle.std.proofs.Common.{◌≡◌, refl, sym, ap, ◌∙◌, subst, ℕ, ℤ, Bool, true, false, List, [], ◌∷◌, Option, Some, None}
use Rattle.imp_slots.specs.Plain.{Layout, Guard, Compare, CompareLinks, Not, And, Or, Effect, Act, DoBreak, Does}
use Rattle.imp_slots.specs.Fits.{fits_effect}
use Rattle.concrete_sem.proofs.Keeps.{effects_keep, passing_keeps, returns_keep, start_keeps}
use Rattle.concrete_sem.specs.Values.{Variables, Heap, Faults}
use Rattle.concrete_sem.specs.Effects.{effect_of}
use Rattle.concrete_sem.specs.Passing.{first_variables, back}
use Rattle.concrete_sem.specs.Proper.{IsProper}
use Rattle.imp_words.specs.declared.verdict.Verdict.TheVariants.{Dead, Safe}
use Rattle.domain_laws.specs.Checks.{Check, check_of, checked_guard, fault_of}
use Rattle.domain_laws.specs.Guards.{assumed, past_check, verdict_by, verdict_on}
use Rattle.domain_laws.proofs.GuardLaws.{verdict_by-dead, verdict_by-safe}
use Rattle.domain_laws.specs.Claims.{ChecksTo, FailsCheck}
use Rattle.domain_laws.proofs.CheckLaws.{FitsCheck, check-failed, check-fits}
use Rattle.domain_laws.specs.Laws.{Fitting, Laws, KeepsDead}
use Rattle.dbm_close.specs.declared.closed.Closed.{Closed}
use Rattle.dbm_close.specs.declared.closed.Closed.TheVariants.{Empty, Matrix}
use Rattle.dom_octagon_meaning.specs.Covers.{covers, fits, values}
use Rattle.dom_octagon_meaning.specs.Domain.{octagons}
use Rattle.dom_octagon_meaning.specs.Operations.{kinds_of, compare, compare_links, join, widen, assume, does, post, enter, init, leave, shed, check}
use Rattle.dom_octagon_meaning.specs.States.{unless_empty, closed, dead, state_Decides}
use Rattle.dom_octagon_meaning.proofs.Fitting.{FitsState, Describes, fits_matrix-true, true-fits_matrix, closed-fits, closed-describes}
use Rattle.dom_octagon_meaning.proofs.Guards.{join-fits, join-left, join-right, widen-fits, widen-left, widen-right, assume-fits, assume-describes}
use Rattle.dom_octagon_meaning.proofs.Steps.{post-fits, post-describes}
use Rattle.dom_octagon_meaning.proofs.Calls.{init-fits, init-describes, enter-fits, enter-describes, leave-fits, leave-describes}
use Rattle.dom_octagon_meaning.proofs.Ranges.{in-slots}

pub fits-state : (s : Closed) (l : Layout) (ls : List Layout) → fits s (l ∷ ls) ≡ true → FitsState (kinds_of l.numbers) s
unfolding fits
fits-state Empty l ls h = tt
fits-state (Matrix m) l ls h = fits_matrix-true l m h

state-fits : (s : Closed) (l : Layout) (ls : List Layout) → FitsState (kinds_of l.numbers) s → fits s (l ∷ ls) ≡ true
unfolding fits
state-fits Empty l ls h = refl
state-fits (Matrix m) l ls h = true-fits_matrix l m h

pub covers-describes : (s : Closed) (h : Heap) (v : Variables) (vs : List Variables) → covers s h (v ∷ vs) → Describes (values v) s
covers-describes Empty h v vs c = c
covers-describes (Matrix m) h v vs c = c

pub describes-covers : (s : Closed) (h : Heap) (v : Variables) (vs : List Variables) → Describes (values v) s → covers s h (v ∷ vs)
describes-covers Empty h v vs d = d
describes-covers (Matrix m) h v vs d = d

pub no-frame : (s : Closed) (h : Heap) → covers s h [] → ⊥
no-frame Empty h c = c
no-frame (Matrix m) h c = c

-- operations on two states of the same frames, none of which there may be
two-fit : (f : Closed → Closed → Closed) → f Empty Empty ≡ Empty → ((l : Layout) (s t : Closed) → FitsState (kinds_of l.numbers) s → FitsState (kinds_of l.numbers) t → FitsState (kinds_of l.numbers) (f s t)) → (ls : List Layout) (s t : Closed) → fits s ls ≡ true → fits t ls ≡ true → fits (f s t) ls ≡ true
unfolding fits
two-fit f e g [] Empty Empty h k = subst (λ s. fits s [] ≡ true) (sym e) refl
two-fit f e g [] Empty (Matrix b) h k = cc
two-fit f e g [] (Matrix a) t h k = cc
two-fit f e g (l ∷ ls) s t h k = state-fits (f s t) l ls (g l s t (fits-state s l ls h) (fits-state t l ls k))

-- a frame's layout, where something is described
two-cover : (s t r w : Closed) (ls : List Layout) (h : Heap) (vs : List Variables) → fits s ls ≡ true → fits t ls ≡ true → IsProper h vs ls → ((l : Layout) (v : Variables) (us : List Variables) (ks : List Layout) → IsProper h (v ∷ us) (l ∷ ks) → FitsState (kinds_of l.numbers) s → FitsState (kinds_of l.numbers) t → Describes (values v) r → Describes (values v) w) → covers r h vs → covers w h vs
two-cover s t r w ls h [] f g p k c = absurd (no-frame r h c)
two-cover s t r w [] h (v ∷ vs) f g p k c = absurd (p.frames)
two-cover s t r w (l ∷ ls) h (v ∷ vs) f g p k c = describes-covers w h v vs (k l v vs ls p (fits-state s l ls f) (fits-state t l ls g) (covers-describes r h v vs c))

join-empty : join Empty Empty ≡ Empty
unfolding join
join-empty = refl

widen-empty : (ms : List ℤ) → widen ms Empty Empty ≡ Empty
unfolding widen
widen-empty ms = refl

shed-fits : (l : Layout) (s : Closed) → FitsState (kinds_of l.numbers) s → FitsState (kinds_of l.numbers) (shed s)
shed-fits l s h = closed-fits (kinds_of l.numbers) s h

fitting : Fitting octagons
fitting = record {
  init = λ l. state-fits (init l) l [] (init-fits l);
  post = λ a l ls s f h. state-fits (post a s) l ls (post-fits l a s f (fits-state s l ls h));
  assume = λ g b l ls s f h. state-fits (assume g b s) l ls (assume-fits l g b s f (fits-state s l ls h));
  join = λ ls s t h k. two-fit join join-empty (λ l. join-fits (kinds_of l.numbers)) ls s t h k;
  widen = λ ms ls s t r h k. two-fit (widen ms) (widen-empty ms) (λ l s t. widen-fits ms (kinds_of l.numbers) s t r) ls s t h k;
  enter = λ i l ls s f h. state-fits (enter i.entering s) i.entering.layout (l ∷ ls) (enter-fits (kinds_of l.numbers) i s (fits-state s l ls h));
  leave = λ i l ls s d f h k. state-fits (leave i.returning s d) l ls (leave-fits (kinds_of l.numbers) (kinds_of i.entering.layout.numbers) i.returning s d (fits-state s l ls h) (fits-state d i.entering.layout (l ∷ ls) k));
  shed = λ l ls s h. state-fits (shed s) l [] (shed-fits l s (fits-state s l ls h));
}

-- a dead state is Empty
dead-empty : (s : Closed) → dead s ≡ true → s ≡ Empty
unfolding dead
dead-empty Empty h = refl
dead-empty (Matrix m) h = cc

dead-describes : (s : Closed) (x : ℕ → ℤ) → dead s ≡ true → Describes x s → ⊥
dead-describes s x h d = subst (Describes x) (dead-empty s h) d

check-dead : (e : Effect) (s : Closed) → check (Does e) s ≡ Dead → dead (closed s) ≡ true
unfolding check
check-dead e s h = verdict_by-dead assume dead e (closed s) h

check-safe : (e : Effect) (c : Check) (s : Closed) → check_of e ≡ Some c → check (Does e) s ≡ Safe → dead (assume (checked_guard c) false (closed s)) ≡ true
unfolding check
check-safe e c s k h = verdict_by-safe assume dead e c (closed s) k h

dead-verdict : (e : Effect) (c : Check) (l : Layout) (ls : List Layout) (s : Closed) (h : Heap) (vs : List Variables) → check_of e ≡ Some c → fits_effect l e ≡ true → fits s (l ∷ ls) ≡ true → IsProper h vs (l ∷ ls) → check (Does e) s ≡ Dead → covers s h vs → ⊥
dead-verdict e c l ls s h [] k f g p t d = no-frame s h d
dead-verdict e c l ls s h (v ∷ vs) k f g p t d = dead-describes (closed s) (values v) (check-dead e s t)
    (closed-describes (kinds_of l.numbers) s (values v) (fits-state s l ls g) (in-slots l v p.frames.0.numbers) (covers-describes s h v vs d))

safe-verdict : (e : Effect) (c : Check) (l : Layout) (ls : List Layout) (s : Closed) (h : Heap) (v : Variables) (vs : List Variables) → check_of e ≡ Some c → fits_effect l e ≡ true → fits s (l ∷ ls) ≡ true → IsProper h (v ∷ vs) (l ∷ ls) → check (Does e) s ≡ Safe → covers s h (v ∷ vs) → effect_of e h v ≡ Faults (fault_of c) → ⊥
safe-verdict e c l ls s h v vs k f g p t d w =
    let failed : FailsCheck h v e (check_of e) = subst (FailsCheck h v e) (sym k) w in
    let false_here : ChecksTo v false (Some c) = subst (ChecksTo v false) k (check-failed e h v p.frames.0.links failed) in
    let fit : FitsCheck l (Some c) = subst (FitsCheck l) k (check-fits l e f) in
    let a = fits-state s l ls g in
    dead-describes (assume (checked_guard c) false (closed s)) (values v) (check-safe e c s k t)
    (assume-describes l v (checked_guard c) false (closed s) p.frames.0.numbers fit (closed-fits (kinds_of l.numbers) s a) false_here
    (closed-describes (kinds_of l.numbers) s (values v) a (in-slots l v p.frames.0.numbers) (covers-describes s h v vs d)))

pub octagon_laws : Laws octagons covers
octagon_laws = record {
  fitting = fitting;
  same = λ s t. ((state_Decides s t).0, (state_Decides s t).1);
  post = λ e l ls s h v vs x f g p t c. (let q = effects_keep e l ls h v vs x f t p in
      describes-covers (post (Does e) s) x.0 x.1 vs (post-describes l h v x p.frames.0.numbers (in-slots l x.1 q.frames.0.numbers) e s f (fits-state s l ls g) t (covers-describes s h v vs c)));
  assume = λ g b l ls s h v vs f k p t c. describes-covers (assume g b s) h v vs (assume-describes l v g b s p.frames.0.numbers f (fits-state s l ls k) t (covers-describes s h v vs c));
  join_left = λ ls s t h vs f g p c. two-cover s t s (join s t) ls h vs f g p (λ l v us ks w i j d. join-left (kinds_of l.numbers) (values v) s t (in-slots l v w.frames.0.numbers) i j d) c;
  join_right = λ ls s t h vs f g p c. two-cover s t t (join s t) ls h vs f g p (λ l v us ks w i j d. join-right (kinds_of l.numbers) (values v) s t (in-slots l v w.frames.0.numbers) i j d) c;
  widen_left = λ ms ls s t h vs _ f g p c. two-cover s t s (widen ms s t) ls h vs f g p (λ l v us ks w i j d. widen-left ms (kinds_of l.numbers) (values v) s t i j d) c;
  widen_right = λ ms ls s t h vs _ f g p c. two-cover s t t (widen ms s t) ls h vs f g p (λ l v us ks w i j d. widen-right ms (kinds_of l.numbers) (values v) s t (in-slots l v w.frames.0.numbers) i j d) c;
  enter = λ i l ls s h v u vs f g p t c. (let q = passing_keeps i l ls h v u vs f t p in
      describes-covers (enter i.entering s) h u (v ∷ vs) (enter-describes l i s v u f p.frames.0.numbers (in-slots i.entering.layout u q.frames.0.numbers) (fits-state s l ls g) t (covers-describes s h v vs c)));
  leave = λ i l ls s t h k v u d vs f g j p q w c m. (let r = returns_keep i l ls k v d vs f q in
      describes-covers (leave i.returning s t) k (back i.returning v d) vs (leave-describes i.entering.layout l i s t v d refl f p.frames.0.numbers q.frames.0.numbers (in-slots l (back i.returning v d) r.frames.0.numbers)
      (fits-state s l ls g) (fits-state t i.entering.layout (l ∷ ls) j) (covers-describes s h v vs c) (covers-describes t k d (v ∷ vs) m)));
  init = λ l inputs w. describes-covers (init l) (record { cells = []; inputs = inputs }) (first_variables l) [] (init-describes l (in-slots l (first_variables l) (start_keeps l inputs w).frames.0.numbers));
  shed = λ l ls s h v vs f p c. describes-covers (shed s) h v [] (closed-describes (kinds_of l.numbers) s (values v) (fits-state s l ls f) (in-slots l v p.frames.0.numbers) (covers-describes s h v vs c));
  dead_verdict = dead-verdict;
  safe_verdict = safe-verdict;
}

-- Empty stays Empty
assume-empty : (g : Guard) (b : Bool) → assumed compare compare_links join g b Empty ≡ Empty
unfolding join compare
assume-empty (Compare r x y) true = refl
assume-empty (Compare r x y) false = refl
assume-empty (CompareLinks equal p q) true = refl
assume-empty (CompareLinks equal p q) false = refl
assume-empty (Not g) true = assume-empty g false
assume-empty (Not g) false = assume-empty g true
assume-empty (And g h) true = ap (assumed compare compare_links join h true) (assume-empty g true) ∙ assume-empty h true
assume-empty (And g h) false = (λ i. join (assume-empty g false i) (assume-empty h false i))
assume-empty (Or g h) true = (λ i. join (assume-empty g true i) (assume-empty h true i))
assume-empty (Or g h) false = ap (assumed compare compare_links join h false) (assume-empty g false) ∙ assume-empty h false

past-empty : (o : Option Check) → past_check assume o Empty ≡ Empty
unfolding assume
past-empty None = refl
past-empty (Some c) = assume-empty (checked_guard c) true

-- nothing comes of Empty
pub post_empty : (e : Effect) → post (Does e) Empty ≡ Empty
unfolding post
post_empty e = ap (λ s. unless_empty (closed s) (does e)) (past-empty (check_of e))

pub check_empty : (a : Act) → check a Empty ≡ Dead
unfolding check dead
check_empty DoBreak = refl
check_empty (Does e) = by (check_of e)
  where
    by : (o : Option Check) → verdict_on assume dead o Empty ≡ Dead
    by None = refl
    by (Some c) = refl

-- of an empty state every check is dead
pub verdict_empty : (a : Act) (s : Closed) → dead (closed s) ≡ true → check a s ≡ Dead
unfolding check
verdict_empty a s h = by a
  where
    on : (o : Option Check) → verdict_on assume dead o (closed s) ≡ Dead
    on None = rw h refl
    on (Some c) = rw h refl

    by : (a : Act) → verdict_by assume dead a (closed s) ≡ Dead
    by DoBreak = on None
    by (Does e) = on (check_of e)

pub octagon_keeps_dead : KeepsDead octagons
octagon_keeps_dead e l ls s f g h = let w = dead-empty s h in ap (post (Does e)) w ∙ post_empty e ∙ sym w
