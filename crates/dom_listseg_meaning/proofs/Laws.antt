-- The list segments are a domain.
use Rattle.std.proofs.Common.{◌≡◌, refl, sym, ap, ◌∙◌, subst, Bool, true, false, List, [], ◌∷◌, Option, Some, None}
use Rattle.imp_slots.specs.Plain.{Layout, Guard, Compare, CompareLinks, Not, And, Or, Effect, Skip, Assert, SetInt, Input, ReadElement, ReadItem, MakeArray, CopyArray, WriteElement, SetNull, MakeCell, CopyLink, ReadNext, WriteNext, WriteItem, Does}
use Rattle.imp_slots.specs.Fits.{fits_effect}
use Rattle.concrete_sem.specs.Values.{Variables, Heap, Faults}
use Rattle.concrete_sem.specs.Effects.{effect_of}
use Rattle.concrete_sem.specs.Proper.{IsProper}
use Rattle.imp_words.specs.declared.verdict.Verdict.TheVariants.{Dead, Safe}
use Rattle.domain_laws.specs.Checks.{Check, check_of, checked_guard, fault_of}
use Rattle.domain_laws.specs.Claims.{ChecksTo, FailsCheck}
use Rattle.domain_laws.specs.Guards.{assumed, past_check}
use Rattle.domain_laws.proofs.CheckLaws.{FitsCheck, check-failed, check-fits}
use Rattle.domain_laws.proofs.GuardLaws.{verdict_by-dead, verdict_by-safe}
use Rattle.domain_laws.specs.Laws.{Fitting, Laws, KeepsDead}
use Rattle.dom_listseg_meaning.specs.State.{Segments, Top, Graphs}
use Rattle.dom_listseg_meaning.specs.Operations.{init, compare, compare_links, join, assume, stepped, each, does, post, enter, leave, shed, check, dead}
use Rattle.dom_listseg_meaning.specs.Sets.{capped}
use Rattle.dom_listseg_meaning.specs.Covers.{main_first, nexts, counts, covers, fits}
use Rattle.dom_listseg_meaning.specs.Domain.{segments}
use Rattle.dom_listseg_meaning.proofs.StateLaws.{segments_Decides}
use Rattle.dom_listseg_meaning.proofs.Fitting.{fits-state, state-fits}
use Rattle.dom_listseg_meaning.proofs.Covering.{Describes, join-left, join-right}
use Rattle.dom_listseg_meaning.proofs.Links.{join-fits, assume-fits, assume-describes}
use Rattle.dom_listseg_meaning.proofs.StepFits.{post-fits}
use Rattle.dom_listseg_meaning.proofs.StepLaws.{post-describes}
use Rattle.dom_listseg_meaning.proofs.CallLaws.{init-fits, init-describes, enter-fits, enter-describes, leave-fits, leave-describes, shed-fits, shed-describes}

covers-describes : (s : Segments) (h : Heap) (vs : List Variables) → covers s h vs → Describes (main_first vs) (nexts h) s
covers-describes Top h vs c = c
covers-describes (Graphs gs) h vs c = c

describes-covers : (s : Segments) (h : Heap) (vs : List Variables) → Describes (main_first vs) (nexts h) s → covers s h vs
describes-covers Top h vs c = c
describes-covers (Graphs gs) h vs c = c

joined-fits : (ls : List Layout) (s t : Segments) → fits s ls ≡ true → fits t ls ≡ true → fits (join s t) ls ≡ true
joined-fits ls s t f g = state-fits (join s t) ls (join-fits (counts ls) s t (fits-state s ls f) (fits-state t ls g))

fitting : Fitting segments
fitting = record {
  init = λ l. state-fits (init l) (l ∷ []) (init-fits l);
  post = λ a l ls s f h. state-fits (post a s) (l ∷ ls) (post-fits (counts (l ∷ ls)) l a s f (fits-state s (l ∷ ls) h));
  assume = λ g b l ls s f h. state-fits (assume g b s) (l ∷ ls) (assume-fits (counts (l ∷ ls)) l g b s f (fits-state s (l ∷ ls) h));
  join = joined-fits;
  widen = λ ms ls s t _ f g. joined-fits ls s t f g;
  enter = λ i l ls s f h. state-fits (enter i.entering s) (i.entering.layout ∷ l ∷ ls) (enter-fits (counts (l ∷ ls)) i.entering s (fits-state s (l ∷ ls) h));
  leave = λ i l ls s d f h k. state-fits (leave i.returning s d) (l ∷ ls) (leave-fits (counts (l ∷ ls)) _ i.returning s d (fits-state d (i.entering.layout ∷ l ∷ ls) k));
  shed = λ l ls s h. state-fits (shed s) (l ∷ []) (shed-fits (counts ls) _ s (fits-state s (l ∷ ls) h));
}

-- a dead state has no graphs
dead-empty : (s : Segments) → dead s ≡ true → s ≡ Graphs []
unfolding dead
dead-empty Top h = cc
dead-empty (Graphs []) h = refl
dead-empty (Graphs (g ∷ gs)) h = cc

dead-describes : (s : Segments) (h : Heap) (vs : List Variables) → dead s ≡ true → Describes (main_first vs) (nexts h) s → ⊥
dead-describes s h vs e d = let c = subst (Describes (main_first vs) (nexts h)) (dead-empty s e) d in c.1

check-dead : (e : Effect) (s : Segments) → check (Does e) s ≡ Dead → dead s ≡ true
unfolding check
check-dead e s h = verdict_by-dead assume dead e s h

check-safe : (e : Effect) (c : Check) (s : Segments) → check_of e ≡ Some c → check (Does e) s ≡ Safe → dead (assume (checked_guard c) false s) ≡ true
unfolding check
check-safe e c s k h = verdict_by-safe assume dead e c s k h

safe-verdict : (e : Effect) (c : Check) (l : Layout) (ls : List Layout) (s : Segments) (h : Heap) (v : Variables) (vs : List Variables) → check_of e ≡ Some c → fits_effect l e ≡ true → fits s (l ∷ ls) ≡ true → IsProper h (v ∷ vs) (l ∷ ls) → check (Does e) s ≡ Safe → covers s h (v ∷ vs) → effect_of e h v ≡ Faults (fault_of c) → ⊥
safe-verdict e c l ls s h v vs k f g p t d w =
    let failed : FailsCheck h v e (check_of e) = subst (FailsCheck h v e) (sym k) w in
    let false_here : ChecksTo v false (Some c) = subst (ChecksTo v false) k (check-failed e h v p.frames.0.links failed) in
    let fit : FitsCheck l (Some c) = subst (FitsCheck l) k (check-fits l e f) in
    dead-describes (assume (checked_guard c) false s) h (v ∷ vs) (check-safe e c s k t)
    (assume-describes (counts (l ∷ ls)) l vs v (nexts h) (checked_guard c) false s fit (fits-state s (l ∷ ls) g) false_here (covers-describes s h (v ∷ vs) d))

pub segments_laws : Laws segments covers
segments_laws = record {
  fitting = fitting;
  same = λ s t. ((segments_Decides s t).0, (segments_Decides s t).1);
  post = λ e l ls s h v vs x f g p t c. describes-covers (post (Does e) s) x.0 (x.1 ∷ vs) (post-describes (counts (l ∷ ls)) h v vs x l e s f (fits-state s (l ∷ ls) g) t (covers-describes s h (v ∷ vs) c));
  assume = λ g b l ls s h v vs f k p t c. describes-covers (assume g b s) h (v ∷ vs) (assume-describes (counts (l ∷ ls)) l vs v (nexts h) g b s f (fits-state s (l ∷ ls) k) t (covers-describes s h (v ∷ vs) c));
  join_left = λ ls s t h vs f g p c. describes-covers (join s t) h vs (join-left (main_first vs) (nexts h) s t (covers-describes s h vs c));
  join_right = λ ls s t h vs f g p c. describes-covers (join s t) h vs (join-right (main_first vs) (nexts h) s t (covers-describes t h vs c));
  widen_left = λ ms ls s t h vs _ f g p c. describes-covers (join s t) h vs (join-left (main_first vs) (nexts h) s t (covers-describes s h vs c));
  widen_right = λ ms ls s t h vs _ f g p c. describes-covers (join s t) h vs (join-right (main_first vs) (nexts h) s t (covers-describes t h vs c));
  enter = λ i l ls s h v u vs f g p t c. describes-covers (enter i.entering s) h (u ∷ v ∷ vs) (enter-describes (counts (l ∷ ls)) i.entering vs v u (nexts h) s (fits-state s (l ∷ ls) g) t (covers-describes s h (v ∷ vs) c));
  leave = λ i l ls s t h k v u d vs f g j p q w c m. describes-covers (leave i.returning s t) k _
      (leave-describes (counts (l ∷ ls)) _ i.returning vs v d (main_first (v ∷ vs)) (nexts h) (nexts k) s t (fits-state t (i.entering.layout ∷ l ∷ ls) j) (covers-describes s h (v ∷ vs) c) (covers-describes t k (d ∷ v ∷ vs) m));
  init = λ l inputs _. describes-covers (init l) _ _ (init-describes l []);
  shed = λ l ls s h v vs f p c. describes-covers (shed s) h (v ∷ []) (shed-describes (counts ls) _ vs v (nexts h) s (fits-state s (l ∷ ls) f) (covers-describes s h (v ∷ vs) c));
  dead_verdict = λ e c l ls s h vs k f g p t d. dead-describes s h vs (check-dead e s t) (covers-describes s h vs d);
  safe_verdict = safe-verdict;
}

-- no graphs stay no graphs
join-empty : join (Graphs []) (Graphs []) ≡ Graphs []
unfolding join capped
join-empty = refl

assume-empty : (g : Guard) (b : Bool) → assumed compare compare_links join g b (Graphs []) ≡ Graphs []
assume-empty (Compare r x y) true = refl
assume-empty (Compare r x y) false = refl
assume-empty (CompareLinks equal p q) true = refl
assume-empty (CompareLinks equal p q) false = refl
assume-empty (Not g) true = assume-empty g false
assume-empty (Not g) false = assume-empty g true
assume-empty (And g h) true = ap (assumed compare compare_links join h true) (assume-empty g true) ∙ assume-empty h true
assume-empty (And g h) false = (λ i. join (assume-empty g false i) (assume-empty h false i)) ∙ join-empty
assume-empty (Or g h) true = (λ i. join (assume-empty g true i) (assume-empty h true i)) ∙ join-empty
assume-empty (Or g h) false = ap (assumed compare compare_links join h false) (assume-empty g false) ∙ assume-empty h false

past-empty : (o : Option Check) → past_check assume o (Graphs []) ≡ Graphs []
unfolding assume
past-empty None = refl
past-empty (Some c) = assume-empty (checked_guard c) true

each-empty : (e : Effect) → each (stepped e) (Graphs []) ≡ Graphs []
unfolding capped
each-empty e = refl

does-empty : (e : Effect) → does e (Graphs []) ≡ Graphs []
unfolding does
does-empty Skip = refl
does-empty (Assert c) = refl
does-empty (SetInt x e) = refl
does-empty (Input x) = refl
does-empty (ReadElement x a e) = refl
does-empty (ReadItem x q) = refl
does-empty (MakeArray a e) = refl
does-empty (CopyArray a b) = refl
does-empty (WriteElement a e f) = refl
does-empty (SetNull p) = each-empty (SetNull p)
does-empty (MakeCell p) = each-empty (MakeCell p)
does-empty (CopyLink p q) = each-empty (CopyLink p q)
does-empty (ReadNext p q) = each-empty (ReadNext p q)
does-empty (WriteNext p q) = each-empty (WriteNext p q)
does-empty (WriteItem p e) = refl

pub post_empty : (e : Effect) → post (Does e) (Graphs []) ≡ Graphs []
unfolding post
post_empty e = ap (does e) (past-empty (check_of e)) ∙ does-empty e

pub segments_keep_dead : KeepsDead segments
segments_keep_dead e l ls s f g h = let w = dead-empty s h in ap (post (Does e)) w ∙ post_empty e ∙ sym w
