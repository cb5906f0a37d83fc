-- The laws of a domain, from those of list segments.
use Rattle.std.proofs.Common.{◌≡◌, ℕ, zero, suc, ◌≤◌, Bool, true, false, cond, List, [], ◌∷◌, ◌++◌, ◌⊎◌, inl, inr, map, length, take, drop, Option, None, Some, refl, sym, ◌∙◌, ap, subst, arith}
use Rattle.std.specs.Prelude.{◌&&◌, nat_le}
use Rattle.std.specs.Ordering.{is_lt}
use Rattle.std.proofs.lemmas.Bool.{and_parts, and_from}
use Rattle.imp_slots.specs.Plain.{Layout, Guard, Effect, Act, DoBreak, Does, Skip, Assert, SetInt, Input, ReadElement, ReadItem, MakeArray, CopyArray, WriteElement, SetNull, MakeCell, CopyLink, ReadNext, WriteNext, WriteItem, Invoke}
use Rattle.imp_slots.specs.Fits.{fits_guard, fits_effect, fits_invoke}
use Rattle.concrete_sem.specs.Values.{Variables, Heap, Gives}
use Rattle.concrete_sem.specs.Effects.{effect_of}
use Rattle.concrete_sem.specs.Proper.{IsProper}
use Rattle.domain_laws.specs.Checks.{Check, check_of, checked_guard}
use Rattle.domain_laws.specs.Guards.{Compares, past_check}
use Rattle.domain_laws.proofs.GuardLaws.{assumed-fits}
use Rattle.domain_laws.proofs.CheckLaws.{FitsCheck, check-fits}
use Rattle.domain_laws.specs.Laws.{Fitting, Laws, KeepsDead, fits_act}
use Rattle.shape_graph.specs.Shape.{Shape, In}
use Rattle.shape_graph.specs.Order.{shape_cmp}
use Rattle.dom_listseg_meaning.specs.State.{Segments, Top, Graphs}
use Rattle.dom_listseg_meaning.specs.Sets.{union, rises, most, capped}
use Rattle.dom_listseg_meaning.specs.Operations as lists
use Rattle.dom_listseg_meaning.specs.Operations.{agrees, compare, compare_links, assume, init, kept, dead}
use Rattle.dom_listseg_meaning.specs.Covers.{main_first, nexts, counts, covers}
use Rattle.dom_listseg_meaning.specs.Covers as meaning
use Rattle.dom_listseg_meaning.proofs.Members.{union-from, In-from_filter}
use Rattle.dom_listseg_meaning.proofs.Rising.{tail-rises}
use Rattle.dom_listseg_meaning.proofs.Fitting.{FitsGraph, FitGraphs, FitsState, fits-state, state-fits}
use Rattle.dom_listseg_meaning.proofs.Covering.{Describes}
use Rattle.dom_listseg_meaning.proofs.Laws.{segments_laws, segments_keep_dead, post_empty}
use Rattle.dom_shapes_meaning.specs.Sets.{tidied, bounded, all_alone}
use Rattle.dom_shapes_meaning.specs.Operations.{join, in_parts, at_once, moves, post, enter, leave, shed}
use Rattle.dom_shapes_meaning.specs.Covers.{is_tidy, fits}
use Rattle.dom_shapes_meaning.specs.Domain.{shapes}
use Rattle.dom_shapes_meaning.proofs.Tidy.{IsTidy, tidied-tidy, tidied-describes, join-tidy, join-left, join-right, Among, among-tidy}

-- ---- a state that fits is one of list segments that fits, and tidy

pub fits-lists : (s : Segments) (ls : List Layout) → fits s ls ≡ true → meaning.fits s ls ≡ true
unfolding fits
fits-lists s ls e = (and_parts (meaning.fits s ls) (is_tidy s) e).0

pub fits-tidy : (s : Segments) (ls : List Layout) → fits s ls ≡ true → IsTidy (counts ls) s
unfolding fits
fits-tidy s ls e = let p = and_parts (meaning.fits s ls) (is_tidy s) e in record { fits = fits-state s ls p.0; tidy = p.1 }

tidy-fits : (s : Segments) (ls : List Layout) → IsTidy (counts ls) s → fits s ls ≡ true
unfolding fits
tidy-fits s ls t = and_from (meaning.fits s ls) (is_tidy s) (state-fits s ls t.fits) t.tidy

made-fits : (s : Segments) (ls : List Layout) → meaning.fits s ls ≡ true → fits (tidied s) ls ≡ true
made-fits s ls e = tidy-fits (tidied s) ls (tidied-tidy (counts ls) s (fits-state s ls e))

covers-describes : (s : Segments) (h : Heap) (vs : List Variables) → covers s h vs → Describes (main_first vs) (nexts h) s
covers-describes Top h vs c = c
covers-describes (Graphs gs) h vs c = c

describes-covers : (s : Segments) (h : Heap) (vs : List Variables) → Describes (main_first vs) (nexts h) s → covers s h vs
describes-covers Top h vs c = c
describes-covers (Graphs gs) h vs c = c

made-covers : (s : Segments) (h : Heap) (vs : List Variables) → covers s h vs → covers (tidied s) h vs
made-covers s h vs c = describes-covers (tidied s) h vs (tidied-describes (main_first vs) (nexts h) s (covers-describes s h vs c))

joined-left : (s t : Segments) (h : Heap) (vs : List Variables) → covers s h vs → covers (join s t) h vs
joined-left s t h vs c = describes-covers (join s t) h vs (join-left (main_first vs) (nexts h) s t (covers-describes s h vs c))

joined-right : (s t : Segments) (h : Heap) (vs : List Variables) → covers t h vs → covers (join s t) h vs
joined-right s t h vs c = describes-covers (join s t) h vs (join-right (main_first vs) (nexts h) s t (covers-describes t h vs c))

joined-fits : (ls : List Layout) (s t : Segments) → fits s ls ≡ true → meaning.fits t ls ≡ true → fits (join s t) ls ≡ true
joined-fits ls s t f g = tidy-fits (join s t) ls (join-tidy (counts ls) s t (fits-tidy s ls f) (fits-state t ls g))

-- ---- what assumes keeps no other graphs

capped-among : (gs hs : List Shape) → ((x : Shape) → In x hs → In x gs) → Among gs (capped hs)
unfolding capped
capped-among gs hs f = by (nat_le (length hs) most)
  where
    by : (b : Bool) → Among gs (cond b (Graphs hs) Top)
    by true = f
    by false = tt

kept-among : (gs : List Shape) (test : Shape → Bool) (s : Segments) → Among gs s → Among gs (kept test s)
kept-among gs test Top a = tt
kept-among gs test (Graphs hs) a = λ x i. a x (In-from_filter test x hs i)

join-among : (gs : List Shape) (s t : Segments) → Among gs s → Among gs t → Among gs (lists.join s t)
unfolding lists.join
join-among gs Top t a b = tt
join-among gs (Graphs hs) Top a b = tt
join-among gs (Graphs hs) (Graphs ks) a b = capped-among gs (union hs ks) (λ x i. elim (union-from x hs ks i) [ inl j ↦ a x j | inr j ↦ b x j ])

compares-among : (gs : List Shape) (l : Layout) → Compares compare compare_links lists.join l (Among gs)
compares-among gs l = record {
  compare_keeps = λ r a b s f g h. h;
  links_keep = λ equal p q s f g h. kept-among gs (agrees equal p q) s h;
  join_keeps = join-among gs;
}

assume-among : (gs : List Shape) (l : Layout) (g : Guard) (b : Bool) (s : Segments) → fits_guard l g ≡ true → Among gs s → Among gs (assume g b s)
unfolding assume
assume-among gs l g b s f a = assumed-fits compare compare_links lists.join l (Among gs) (compares-among gs l) g b s f a

past-among : (gs : List Shape) (l : Layout) (o : Option Check) (s : Segments) → FitsCheck l o → Among gs s → Among gs (past_check assume o s)
past-among gs l None s f a = a
past-among gs l (Some c) s f a = assume-among gs l (checked_guard c) true s f a

-- where graphs are kept alone, a state stays tidy
still-tidy : (ls : List Layout) (s t : Segments) → fits s ls ≡ true → meaning.fits t ls ≡ true → ((gs : List Shape) → s ≡ Graphs gs → Among gs t) → (s ≡ Top → t ≡ Top) → fits t ls ≡ true
still-tidy ls Top t f g a b = tidy-fits t ls (subst (IsTidy (counts ls)) (sym (b refl)) (record { fits = tt; tidy = refl }))
still-tidy ls (Graphs gs) t f g a b = tidy-fits t ls (among-tidy (counts ls) gs t (fits-tidy (Graphs gs) ls f).tidy (a gs refl) (fits-state t ls g))

-- nothing is told of Top
abbrev IsTop : Segments → Type 0
IsTop s = s ≡ Top

join-top : (s t : Segments) → IsTop s → IsTop t → IsTop (lists.join s t)
unfolding lists.join
join-top Top t a b = refl
join-top (Graphs gs) t a b = cc

compares-top : (l : Layout) → Compares compare compare_links lists.join l IsTop
compares-top l = record {
  compare_keeps = λ r a b s f g h. h;
  links_keep = λ equal p q s f g h. ap (kept (agrees equal p q)) h;
  join_keeps = join-top;
}

assume-top : (l : Layout) (g : Guard) (b : Bool) (s : Segments) → fits_guard l g ≡ true → IsTop s → IsTop (assume g b s)
unfolding assume
assume-top l g b s f a = assumed-fits compare compare_links lists.join l IsTop (compares-top l) g b s f a

past-top : (l : Layout) (o : Option Check) (s : Segments) → FitsCheck l o → IsTop s → IsTop (past_check assume o s)
past-top l None s f a = a
past-top l (Some c) s f a = assume-top l (checked_guard c) true s f a

among-self : (s : Segments) (gs : List Shape) → s ≡ Graphs gs → Among gs s
among-self s gs e = subst (Among gs) (sym e) (λ x i. i)

assumed-fits-still : (ls : List Layout) (l : Layout) (g : Guard) (b : Bool) (s : Segments) → fits_guard l g ≡ true → fits s (l ∷ ls) ≡ true → fits (assume g b s) (l ∷ ls) ≡ true
assumed-fits-still ls l g b s f k =
    still-tidy (l ∷ ls) s (assume g b s) k (segments_laws.fitting.assume g b l ls s f (fits-lists s (l ∷ ls) k))
    (λ gs e. assume-among gs l g b s f (among-self s gs e)) (assume-top l g b s f)

-- a statement that changes no link is its check
only-check : (e : Effect) (s : Segments) → lists.moves e ≡ false → lists.post (Does e) s ≡ past_check assume (check_of e) s
unfolding lists.post lists.does
only-check Skip s m = refl
only-check (Assert c) s m = refl
only-check (SetInt x e) s m = refl
only-check (Input x) s m = refl
only-check (ReadElement x a e) s m = refl
only-check (ReadItem x q) s m = refl
only-check (MakeArray a e) s m = refl
only-check (CopyArray a b) s m = refl
only-check (WriteElement a e f) s m = refl
only-check (SetNull p) s m = cc
only-check (MakeCell p) s m = cc
only-check (CopyLink p q) s m = cc
only-check (ReadNext p q) s m = cc
only-check (WriteNext p q) s m = cc
only-check (WriteItem p e) s m = refl

resting-fits : (ls : List Layout) (l : Layout) (e : Effect) (s : Segments) → lists.moves e ≡ false → fits_effect l e ≡ true → fits s (l ∷ ls) ≡ true → fits (lists.post (Does e) s) (l ∷ ls) ≡ true
resting-fits ls l e s m f k =
    still-tidy (l ∷ ls) s (lists.post (Does e) s) k (segments_laws.fitting.post (Does e) l ls s f (fits-lists s (l ∷ ls) k))
    (λ gs d. subst (Among gs) (sym (only-check e s m)) (past-among gs l (check_of e) s (check-fits l e f) (among-self s gs d)))
    (λ d. only-check e s m ∙ past-top l (check_of e) s (check-fits l e f) d)

-- ---- some of the graphs at a time

pub take_rises : (n : ℕ) (gs : List Shape) → rises gs ≡ true → rises (take n gs) ≡ true
take_rises zero gs r = refl
take_rises (suc n) [] r = refl
take_rises (suc zero) (g ∷ []) r = refl
take_rises (suc (suc n)) (g ∷ []) r = refl
take_rises (suc zero) (g ∷ h ∷ hs) r = refl
take_rises (suc (suc n)) (g ∷ h ∷ hs) r =
    let p = and_parts (is_lt (shape_cmp g h)) (rises (h ∷ hs)) r in
    and_from (is_lt (shape_cmp g h)) (rises (h ∷ take n hs)) p.0 (take_rises (suc n) (h ∷ hs) p.1)

pub drop_rises : (n : ℕ) (gs : List Shape) → rises gs ≡ true → rises (drop n gs) ≡ true
drop_rises zero gs r = r
drop_rises (suc n) [] r = refl
drop_rises (suc n) (g ∷ gs) r = drop_rises n gs (tail-rises g gs r)

In-take : (n : ℕ) (x : Shape) (gs : List Shape) → In x (take n gs) → In x gs
In-take zero x gs i = absurd i
In-take (suc n) x [] i = absurd i
In-take (suc n) x (g ∷ gs) (inl e) = inl e
In-take (suc n) x (g ∷ gs) (inr i) = inr (In-take n x gs i)

In-drop : (n : ℕ) (x : Shape) (gs : List Shape) → In x (drop n gs) → In x gs
In-drop zero x gs i = i
In-drop (suc n) x [] i = absurd i
In-drop (suc n) x (g ∷ gs) i = inr (In-drop n x gs i)

In-either : (n : ℕ) (x : Shape) (gs : List Shape) → In x gs → In x (take n gs) ⊎ In x (drop n gs)
In-either zero x gs i = inr i
In-either (suc n) x [] i = absurd i
In-either (suc n) x (g ∷ gs) (inl e) = inl (inl e)
In-either (suc n) x (g ∷ gs) (inr i) = elim (In-either n x gs i) [ inl j ↦ inl (inr j) | inr j ↦ inr j ]

take-few : (n : ℕ) (gs : List Shape) → length (take n gs) ≤ length gs
take-few zero gs = omega arith
take-few (suc n) [] = omega arith
take-few (suc n) (g ∷ gs) = let l = take-few n gs in omega arith

drop-few : (n : ℕ) (gs : List Shape) → length (drop n gs) ≤ length gs
drop-few zero gs = omega arith
drop-few (suc n) [] = omega arith
drop-few (suc n) (g ∷ gs) = let l = drop-few n gs in omega arith

some-fit : (ls : List Layout) (gs : List Shape) → FitGraphs (counts ls) gs → meaning.fits (Graphs (take at_once gs)) ls ≡ true
some-fit ls gs f =
    state-fits (Graphs (take at_once gs)) ls
    (record { few = (let a = take-few at_once gs in let b = f.few in omega arith); rise = take_rises at_once gs f.rise; each_fits = λ g i. f.each_fits g (In-take at_once g gs i) })

rest-fits : (ls : List Layout) (gs : List Shape) → FitGraphs (counts ls) gs → meaning.fits (Graphs (drop at_once gs)) ls ≡ true
rest-fits ls gs f =
    state-fits (Graphs (drop at_once gs)) ls
    (record { few = (let a = drop-few at_once gs in let b = f.few in omega arith); rise = drop_rises at_once gs f.rise; each_fits = λ g i. f.each_fits g (In-drop at_once g gs i) })

module _ (act : Act) (l : Layout) (ls : List Layout) (f : fits_act l act ≡ true) where
  done-fits : (s : Segments) → meaning.fits s (l ∷ ls) ≡ true → meaning.fits (lists.post act s) (l ∷ ls) ≡ true
  done-fits s k = segments_laws.fitting.post act l ls s f k

  top-fits : (s : Segments) → s ≡ Top → fits s (l ∷ ls) ≡ true
  top-fits s e = tidy-fits s (l ∷ ls) (subst (IsTidy (counts (l ∷ ls))) (sym e) (record { fits = tt; tidy = refl }))

  parts-fit : (gs : List Shape) → meaning.fits (Graphs gs) (l ∷ ls) ≡ true → fits (in_parts (lists.post act) (Graphs gs)) (l ∷ ls) ≡ true
  unfolding in_parts
  parts-fit gs k = by (nat_le (length gs) at_once)
    where
      by : (b : Bool) → fits (cond b (tidied (lists.post act (Graphs gs))) (join (tidied (lists.post act (Graphs (take at_once gs)))) (lists.post act (Graphs (drop at_once gs))))) (l ∷ ls) ≡ true
      by true = made-fits (lists.post act (Graphs gs)) (l ∷ ls) (done-fits (Graphs gs) k)
      by false =
          let g = fits-state (Graphs gs) (l ∷ ls) k in
          joined-fits (l ∷ ls) (tidied (lists.post act (Graphs (take at_once gs)))) (lists.post act (Graphs (drop at_once gs)))
          (made-fits (lists.post act (Graphs (take at_once gs))) (l ∷ ls) (done-fits (Graphs (take at_once gs)) (some-fit (l ∷ ls) gs g)))
          (done-fits (Graphs (drop at_once gs)) (rest-fits (l ∷ ls) gs g))

does-top : (e : Effect) → lists.does e Top ≡ Top
unfolding lists.does
does-top Skip = refl
does-top (Assert c) = refl
does-top (SetInt x e) = refl
does-top (Input x) = refl
does-top (ReadElement x a e) = refl
does-top (ReadItem x q) = refl
does-top (MakeArray a e) = refl
does-top (CopyArray a b) = refl
does-top (WriteElement a e f) = refl
does-top (SetNull p) = refl
does-top (MakeCell p) = refl
does-top (CopyLink p q) = refl
does-top (ReadNext p q) = refl
does-top (WriteNext p q) = refl
does-top (WriteItem p e) = refl

post-top : (l : Layout) (e : Effect) → fits_effect l e ≡ true → lists.post (Does e) Top ≡ Top
unfolding lists.post
post-top l e f = ap (lists.does e) (past-top l (check_of e) Top (check-fits l e f) refl) ∙ does-top e

moved-fits : (l : Layout) (ls : List Layout) (e : Effect) (s : Segments) → fits_effect l e ≡ true → meaning.fits s (l ∷ ls) ≡ true → fits (in_parts (lists.post (Does e)) s) (l ∷ ls) ≡ true
unfolding in_parts
moved-fits l ls e Top f k = top-fits (Does e) l ls f (lists.post (Does e) Top) (post-top l e f)
moved-fits l ls e (Graphs gs) f k = parts-fit (Does e) l ls f gs k

break-fits : (s : Segments) (ls : List Layout) → fits (lists.post DoBreak s) ls ≡ true
unfolding lists.post
break-fits s ls = tidy-fits (Graphs []) ls (record { fits = record { few = omega arith; rise = refl; each_fits = λ g i. absurd i }; tidy = refl })

post-fits : (a : Act) (l : Layout) (ls : List Layout) (s : Segments) → fits_act l a ≡ true → fits s (l ∷ ls) ≡ true → fits (post a s) (l ∷ ls) ≡ true
unfolding post
post-fits DoBreak l ls s f k = break-fits s (l ∷ ls)
post-fits (Does e) l ls s f k = by (lists.moves e) refl
  where
    by : (b : Bool) → lists.moves e ≡ b → fits (cond b (in_parts (lists.post (Does e)) s) (lists.post (Does e) s)) (l ∷ ls) ≡ true
    by true m = moved-fits l ls e s f (fits-lists s (l ∷ ls) k)
    by false m = resting-fits ls l e s m f k

init-tidy : (l : Layout) → is_tidy (init l) ≡ true
unfolding init
init-tidy l = refl

init-fits : (l : Layout) → fits (init l) (l ∷ []) ≡ true
init-fits l = tidy-fits (init l) (l ∷ []) (record { fits = fits-state (init l) (l ∷ []) (segments_laws.fitting.init l); tidy = init-tidy l })

enter-fits : (i : Invoke) (l : Layout) (ls : List Layout) (s : Segments) → fits_invoke l i ≡ true → fits s (l ∷ ls) ≡ true → fits (enter i.entering s) (i.entering.layout ∷ l ∷ ls) ≡ true
unfolding enter
enter-fits i l ls s f k = made-fits (lists.enter i.entering s) (i.entering.layout ∷ l ∷ ls) (segments_laws.fitting.enter i l ls s f (fits-lists s (l ∷ ls) k))

leave-fits : (i : Invoke) (l : Layout) (ls : List Layout) (s d : Segments) → fits_invoke l i ≡ true → fits s (l ∷ ls) ≡ true → fits d (i.entering.layout ∷ l ∷ ls) ≡ true → fits (leave i.returning s d) (l ∷ ls) ≡ true
unfolding leave
leave-fits i l ls s d f k m =
    made-fits (lists.leave i.returning s d) (l ∷ ls)
    (segments_laws.fitting.leave i l ls s d f (fits-lists s (l ∷ ls) k) (fits-lists d (i.entering.layout ∷ l ∷ ls) m))

shed-fits : (l : Layout) (ls : List Layout) (s : Segments) → fits s (l ∷ ls) ≡ true → fits (shed s) (l ∷ []) ≡ true
unfolding shed
shed-fits l ls s k = made-fits (lists.shed s) (l ∷ []) (segments_laws.fitting.shed l ls s (fits-lists s (l ∷ ls) k))

fitting : Fitting shapes
fitting = record {
  init = init-fits;
  post = post-fits;
  assume = λ g b l ls s f k. assumed-fits-still ls l g b s f k;
  join = λ ls s t f g. joined-fits ls s t f (fits-lists t ls g);
  widen = λ ms ls s t _ f g. joined-fits ls s t f (fits-lists t ls g);
  enter = enter-fits;
  leave = leave-fits;
  shed = shed-fits;
}

-- ---- what a statement makes of some of the graphs is described too

module _ (e : Effect) (l : Layout) (ls : List Layout) (h : Heap) (v : Variables) (vs : List Variables) (x : Heap × Variables) (f : fits_effect l e ≡ true) (p : IsProper h (v ∷ vs) (l ∷ ls)) (g : effect_of e h v ≡ Gives x) where
  listed : (s : Segments) → meaning.fits s (l ∷ ls) ≡ true → covers s h (v ∷ vs) → covers (lists.post (Does e) s) x.0 (x.1 ∷ vs)
  listed s k c = segments_laws.post e l ls s h v vs x f k p g c

  parts-cover : (gs : List Shape) → meaning.fits (Graphs gs) (l ∷ ls) ≡ true → covers (Graphs gs) h (v ∷ vs) → covers (in_parts (lists.post (Does e)) (Graphs gs)) x.0 (x.1 ∷ vs)
  unfolding in_parts
  parts-cover gs k c = by (nat_le (length gs) at_once)
    where
      some : Segments
      some = lists.post (Does e) (Graphs (take at_once gs))

      rest : Segments
      rest = lists.post (Does e) (Graphs (drop at_once gs))

      fit : FitGraphs (counts (l ∷ ls)) gs
      fit = fits-state (Graphs gs) (l ∷ ls) k

      by : (b : Bool) → covers (cond b (tidied (lists.post (Does e) (Graphs gs))) (join (tidied some) rest)) x.0 (x.1 ∷ vs)
      by true = made-covers (lists.post (Does e) (Graphs gs)) x.0 (x.1 ∷ vs) (listed (Graphs gs) k c)
      by false =
          elim (In-either at_once c.0 gs c.1) [
            | inl i ↦ joined-left (tidied some) rest x.0 (x.1 ∷ vs)
                (made-covers some x.0 (x.1 ∷ vs) (listed (Graphs (take at_once gs)) (some-fit (l ∷ ls) gs fit) (c.0, i, c.2)))
            | inr i ↦ joined-right (tidied some) rest x.0 (x.1 ∷ vs) (listed (Graphs (drop at_once gs)) (rest-fits (l ∷ ls) gs fit) (c.0, i, c.2))
          ]

  moved-covers : (s : Segments) → meaning.fits s (l ∷ ls) ≡ true → covers s h (v ∷ vs) → covers (in_parts (lists.post (Does e)) s) x.0 (x.1 ∷ vs)
  unfolding in_parts
  moved-covers Top k c = listed Top k c
  moved-covers (Graphs gs) k c = parts-cover gs k c

  post-covers : (s : Segments) → meaning.fits s (l ∷ ls) ≡ true → covers s h (v ∷ vs) → covers (post (Does e) s) x.0 (x.1 ∷ vs)
  unfolding post
  post-covers s k c = by (lists.moves e)
    where
      by : (b : Bool) → covers (cond b (in_parts (lists.post (Does e)) s) (lists.post (Does e) s)) x.0 (x.1 ∷ vs)
      by true = moved-covers s k c
      by false = listed s k c

pub shapes_laws : Laws shapes covers
unfolding enter leave shed
shapes_laws = record {
  fitting = fitting;
  same = segments_laws.same;
  post = λ e l ls s h v vs x f g p t c. post-covers e l ls h v vs x f p t s (fits-lists s (l ∷ ls) g) c;
  assume = λ g b l ls s h v vs f k p t c. segments_laws.assume g b l ls s h v vs f (fits-lists s (l ∷ ls) k) p t c;
  join_left = λ ls s t h vs f g p c. joined-left s t h vs c;
  join_right = λ ls s t h vs f g p c. joined-right s t h vs c;
  widen_left = λ ms ls s t h vs _ f g p c. joined-left s t h vs c;
  widen_right = λ ms ls s t h vs _ f g p c. joined-right s t h vs c;
  enter = λ i l ls s h v u vs f g p t c.
      made-covers (lists.enter i.entering s) h (u ∷ v ∷ vs) (segments_laws.enter i l ls s h v u vs f (fits-lists s (l ∷ ls) g) p t c);
  leave = λ i l ls s t h k v u d vs f g j p q w c m.
      made-covers (lists.leave i.returning s t) k _
      (segments_laws.leave i l ls s t h k v u d vs f (fits-lists s (l ∷ ls) g) (fits-lists t (i.entering.layout ∷ l ∷ ls) j) p q w c m);
  init = segments_laws.init;
  shed = λ l ls s h v vs f p c. made-covers (lists.shed s) h (v ∷ []) (segments_laws.shed l ls s h v vs (fits-lists s (l ∷ ls) f) p c);
  dead_verdict = λ e c l ls s h vs k f g p t d. segments_laws.dead_verdict e c l ls s h vs k f (fits-lists s (l ∷ ls) g) p t d;
  safe_verdict = λ e c l ls s h v vs k f g p t d w. segments_laws.safe_verdict e c l ls s h v vs k f (fits-lists s (l ∷ ls) g) p t d w;
}

-- ---- no graphs stay no graphs

tidied-empty : tidied (Graphs []) ≡ Graphs []
unfolding tidied bounded
tidied-empty = refl

moved-empty : (e : Effect) → in_parts (lists.post (Does e)) (Graphs []) ≡ Graphs []
unfolding in_parts
moved-empty e = ap tidied (post_empty e) ∙ tidied-empty

keeps-empty : (e : Effect) → post (Does e) (Graphs []) ≡ Graphs []
unfolding post
keeps-empty e = by (lists.moves e)
  where
    by : (b : Bool) → cond b (in_parts (lists.post (Does e)) (Graphs [])) (lists.post (Does e) (Graphs [])) ≡ Graphs []
    by true = moved-empty e
    by false = post_empty e

dead-empty : (s : Segments) → dead s ≡ true → s ≡ Graphs []
unfolding dead
dead-empty Top h = cc
dead-empty (Graphs []) h = refl
dead-empty (Graphs (g ∷ gs)) h = cc

pub shapes_keep_dead : KeepsDead shapes
shapes_keep_dead e l ls s f g h = let w = dead-empty s h in ap (post (Does e)) w ∙ keeps-empty e ∙ sym w
