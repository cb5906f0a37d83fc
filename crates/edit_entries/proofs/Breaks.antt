-- The breaks of the loop around a block, where a part of the block goes and another one comes.
use Rattle.std.proofs.Common.{◌≡◌, ℕ, zero, suc, ◌⊎◌, inl, inr, cond, Bool, true, false, List, [], ◌∷◌, ◌++◌, length, take, drop, Option, Some, None, refl, sym, ap, ◌∙◌, subst, append-nil, append_assoc}
use Rattle.std.proofs.lemmas.List.{take-append-drop}
use Rattle.imp_syntax.specs.Plain.{Condition, Statement, Simple, Break, Call, If, While, Statements, Ends, Starts, Procedure, numbers_in, numbers, program_numbers}
use Rattle.imp_slots.specs.Fits.{Absent, Distinct}
use Rattle.imp_check.specs.Programs.{has}
use Rattle.imp_check.specs.Slots.{Resolver}
use Rattle.imp_check.specs.Parts.{ends_of, first_or, last_or, leaving_in, leaving}
use Rattle.imp_check.specs.Entries.{entry_at, entries_of, entry_of, resolver_at, context_at}
use Rattle.imp_check.specs.declared.entry.Context.{Context}
use Rattle.imp_check.specs.declared.entry.Entry.{Entry}
use Rattle.imp_check.proofs.NumberLemmas.{absent}
use Rattle.edit_entries.specs.Spliced.{left_of, among, breaking}
use Rattle.edit_entries.specs.Holes.{append, Hole, Then, Else, Body, fill, plug, holder, loop_of, between, with_body}
use Rattle.edit_entries.proofs.Others.{leaving_append}
use Rattle.edit_entries.proofs.Filled.{context_in, ends_filled, has_loop, no_loop, some_loop}
use Rattle.edit_entries.proofs.Stay.{last_holder}
use Rattle.edit_entries.proofs.Located.{Has, has_parts}
use Rattle.edit_entries.proofs.Numbers.{Apart, numbers_append, filled, absent_not, has_true, middle_alone}
use Rattle.edit_entries.proofs.Standing.{has_left, has_right, has_plugged, inner_once, deep_once, own_distinct}
use Rattle.edit_entries.proofs.Touched.{context_of, holder_found}
use Rattle.imp_slots.proofs.Distinct.{absent_both, absent_left, absent_right}

-- Breaks that leave a block are statements of it.
either : {A B C : Type 0} → A ⊎ B → (A → C) → (B → C) → C
either (inl a) f g = f a
either (inr b) f g = g b

mutual
  leaving_has_in : (m : ℕ) (s : Statement) → Has m (leaving_in s) → Has m (numbers_in s)
  leaving_has_in m (Simple n a) h = absurd h
  leaving_has_in m (Break n) h = h
  leaving_has_in m (Call n x g es) h = absurd h
  leaving_has_in m (If n c t e) h =
      either (has_parts m (leaving t) (leaving e) h)
      (λ i. inr (has_left m (numbers t) (numbers e) (leaving_has m t i)))
      (λ i. inr (has_right m (numbers t) (numbers e) (leaving_has m e i)))
  leaving_has_in m (While n c b) h = absurd h

  leaving_has : (m : ℕ) (b : Statements) → Has m (leaving b) → Has m (numbers b)
  leaving_has m Ends h = absurd h
  leaving_has m (Starts s ss) h =
      either (has_parts m (leaving_in s) (leaving ss) h)
      (λ i. has_left m (numbers_in s) (numbers ss) (leaving_has_in m s i))
      (λ i. has_right m (numbers_in s) (numbers ss) (leaving_has m ss i))

mutual
  leaving_absent_in : (m : ℕ) (s : Statement) → Absent m (numbers_in s) → Absent m (leaving_in s)
  leaving_absent_in m (Simple n a) h = tt
  leaving_absent_in m (Break n) h = h
  leaving_absent_in m (Call n x g es) h = tt
  leaving_absent_in m (If n c t e) h =
      absent_both m (leaving t) (leaving e) (leaving_absent m t (absent_left m (numbers t) (numbers e) h.1)) (leaving_absent m e (absent_right m (numbers t) (numbers e) h.1))
  leaving_absent_in m (While n c b) h = tt

  leaving_absent : (m : ℕ) (b : Statements) → Absent m (numbers b) → Absent m (leaving b)
  leaving_absent m Ends h = tt
  leaving_absent m (Starts s ss) h =
      absent_both m (leaving_in s) (leaving ss) (leaving_absent_in m s (absent_left m (numbers_in s) (numbers ss) h)) (leaving_absent m ss (absent_right m (numbers_in s) (numbers ss) h))

-- Which are left.
left_append : (gone xs ys : List ℕ) → left_of gone (xs ++ ys) ≡ left_of gone xs ++ left_of gone ys
left_append gone [] ys = refl
left_append gone (x ∷ xs) ys = go (has gone x) (left_append gone xs ys)
  where
    go : (b : Bool) → left_of gone (xs ++ ys) ≡ left_of gone xs ++ left_of gone ys → cond b (left_of gone (xs ++ ys)) (x ∷ left_of gone (xs ++ ys)) ≡ cond b (left_of gone xs) (x ∷ left_of gone xs) ++ left_of gone ys
    go true e = e
    go false e = ap (λ (ns : List ℕ). x ∷ ns) e

all_left : (gone xs : List ℕ) → Apart gone xs → left_of gone xs ≡ xs
all_left gone [] a = refl
all_left gone (x ∷ xs) a = go (has gone x) refl (all_left gone xs (λ m h. (a m h).1))
  where
    go : (b : Bool) → has gone x ≡ b → left_of gone xs ≡ xs → cond b (left_of gone xs) (x ∷ left_of gone xs) ≡ x ∷ xs
    go true q e = absurd ((a x (has_true x gone q)).0 refl)
    go false q e = ap (λ (ns : List ℕ). x ∷ ns) e

none_left : (gone xs : List ℕ) → ((m : ℕ) → Has m xs → Has m gone) → left_of gone xs ≡ []
none_left gone [] f = refl
none_left gone (x ∷ xs) f = go (has gone x) refl (none_left gone xs (λ m h. f m (inr h)))
  where
    go : (b : Bool) → has gone x ≡ b → left_of gone xs ≡ [] → cond b (left_of gone xs) (x ∷ left_of gone xs) ≡ []
    go true q e = e
    go false q e = absurd (absent_not x gone (absent gone x q) (f x (inl refl)))

-- Holes without loops.
tail_plain : (h : Hole) (hs : List Hole) → has_loop (h ∷ hs) ≡ false → (has_loop (h ∷ []) ≡ false) × (has_loop hs ≡ false)
tail_plain (Then b n c e r) hs i = (refl, i)
tail_plain (Else b n c t r) hs i = (refl, i)
tail_plain (Body b n c r) hs i = absurd cc

-- The part goes from a block ..
module _ (before olds news behind : Statements) (quits : leaving news ≡ []) where
  abbrev gone : List ℕ
  gone = numbers olds

  abbrev had : Statements
  had = between before behind olds

  abbrev has_now : Statements
  has_now = between before behind news

  kept : (b : Statements) → Apart gone (numbers b) → left_of gone (leaving b) ≡ leaving b
  kept b a = all_left gone (leaving b) (λ m h. leaving_absent m b (a m h))

  had_numbers : numbers had ≡ numbers before ++ (numbers olds ++ numbers behind)
  had_numbers = numbers_append before (append olds behind) ∙ ap (λ k. numbers before ++ k) (numbers_append olds behind)

  old_in : (m : ℕ) → Has m gone → Has m (numbers had)
  old_in m h = subst (Has m) (sym had_numbers) (has_right m (numbers before) (numbers olds ++ numbers behind) (has_left m (numbers olds) (numbers behind) h))

  pub part_lost : Distinct (numbers had) → leaving has_now ≡ left_of gone (leaving had)
  part_lost once =
      let alone : (m : ℕ) → Has m gone → Absent m (numbers before ++ numbers behind) = λ m h. middle_alone (numbers before) gone (numbers behind) m (subst Distinct had_numbers once) h in
      leaving_append before (append news behind)
      ∙ ap (λ k. leaving before ++ k) (leaving_append news behind ∙ ap (λ k. k ++ leaving behind) quits)
      ∙ sym (
      ap (left_of gone) (leaving_append before (append olds behind) ∙ ap (λ k. leaving before ++ k) (leaving_append olds behind))
      ∙ left_append gone (leaving before) (leaving olds ++ leaving behind)
      ∙ ap (λ k. k ++ left_of gone (leaving olds ++ leaving behind)) (kept before (λ m h. absent_left m (numbers before) (numbers behind) (alone m h)))
      ∙ ap (λ k. leaving before ++ k)
      (left_append gone (leaving olds) (leaving behind)
      ∙ ap (λ k. k ++ left_of gone (leaving behind)) (none_left gone (leaving olds) (λ m h. leaving_has m olds h))
      ∙ kept behind (λ m h. absent_right m (numbers before) (numbers behind) (alone m h)))
      )

  -- .. that stands in ifs.
  three : (b x e r : List ℕ) → left_of gone b ≡ b → left_of gone e ≡ e → left_of gone r ≡ r → left_of gone (b ++ ((x ++ e) ++ r)) ≡ b ++ ((left_of gone x ++ e) ++ r)
  three b x e r p q s =
      left_append gone b ((x ++ e) ++ r)
      ∙ ap (λ k. k ++ left_of gone ((x ++ e) ++ r)) p
      ∙ ap (λ k. b ++ k)
      (left_append gone (x ++ e) r
      ∙ ap (λ k. k ++ left_of gone r) (left_append gone x e ∙ ap (λ k. left_of gone x ++ k) q)
      ∙ ap (λ k. (left_of gone x ++ e) ++ k) s)

  three' : (b t x r : List ℕ) → left_of gone b ≡ b → left_of gone t ≡ t → left_of gone r ≡ r → left_of gone (b ++ ((t ++ x) ++ r)) ≡ b ++ ((t ++ left_of gone x) ++ r)
  three' b t x r p q s =
      left_append gone b ((t ++ x) ++ r)
      ∙ ap (λ k. k ++ left_of gone ((t ++ x) ++ r)) p
      ∙ ap (λ k. b ++ k)
      (left_append gone (t ++ x) r
      ∙ ap (λ k. k ++ left_of gone r) (left_append gone t x ∙ ap (λ k. k ++ left_of gone x) q)
      ∙ ap (λ k. (t ++ left_of gone x) ++ k) s)

  filled_lost : (h : Hole) (x y : Statements) → has_loop (h ∷ []) ≡ false → Distinct (numbers (fill h x)) → ((m : ℕ) → Has m gone → Has m (numbers x)) → leaving y ≡ left_of gone (leaving x) → leaving (fill h y) ≡ left_of gone (leaving (fill h x))
  filled_lost (Then b n c e r) x y i once sub q =
      let f = filled (Then b n c e r) in
      let a : (m : ℕ) → Has m gone → Absent m ((numbers b ++ n ∷ []) ++ (numbers e ++ numbers r)) = λ m h. middle_alone f.0 (numbers x) f.1 m (subst Distinct (f.2 x) once) (sub m h) in
      let l : (m : ℕ) → Has m gone → Absent m (numbers b ++ n ∷ []) = λ m h. absent_left m (numbers b ++ n ∷ []) (numbers e ++ numbers r) (a m h) in
      let k : (m : ℕ) → Has m gone → Absent m (numbers e ++ numbers r) = λ m h. absent_right m (numbers b ++ n ∷ []) (numbers e ++ numbers r) (a m h) in
      leaving_append b (Starts (If n c y e) r)
      ∙ ap (λ z. leaving b ++ ((z ++ leaving e) ++ leaving r)) q
      ∙ sym (three (leaving b) (leaving x) (leaving e) (leaving r) (kept b (λ m h. absent_left m (numbers b) (n ∷ []) (l m h))) (kept e (λ m h. absent_left m (numbers e) (numbers r) (k m h))) (kept r (λ m h. absent_right m (numbers e) (numbers r) (k m h))))
      ∙ ap (left_of gone) (sym (leaving_append b (Starts (If n c x e) r)))
  filled_lost (Else b n c t r) x y i once sub q =
      let f = filled (Else b n c t r) in
      let a : (m : ℕ) → Has m gone → Absent m ((numbers b ++ n ∷ numbers t) ++ numbers r) = λ m h. middle_alone f.0 (numbers x) f.1 m (subst Distinct (f.2 x) once) (sub m h) in
      let l : (m : ℕ) → Has m gone → Absent m (numbers b ++ n ∷ numbers t) = λ m h. absent_left m (numbers b ++ n ∷ numbers t) (numbers r) (a m h) in
      leaving_append b (Starts (If n c t y) r)
      ∙ ap (λ z. leaving b ++ ((leaving t ++ z) ++ leaving r)) q
      ∙ sym (three' (leaving b) (leaving t) (leaving x) (leaving r) (kept b (λ m h. absent_left m (numbers b) (n ∷ numbers t) (l m h))) (kept t (λ m h. (absent_right m (numbers b) (n ∷ numbers t) (l m h)).1)) (kept r (λ m h. absent_right m (numbers b ++ n ∷ numbers t) (numbers r) (a m h))))
      ∙ ap (left_of gone) (sym (leaving_append b (Starts (If n c t x) r)))
  filled_lost (Body b n c r) x y i once sub q = cc

  pub lost : (hs : List Hole) → has_loop hs ≡ false → Distinct (numbers (plug hs had)) → leaving (plug hs has_now) ≡ left_of gone (leaving (plug hs had))
  lost [] i once = part_lost once
  lost (h ∷ hs) i once =
      let j = tail_plain h hs i in
      filled_lost h (plug hs had) (plug hs has_now) j.0 once (λ m k. has_plugged m hs had (old_in m k)) (lost hs j.1 (inner_once h (plug hs had) once))

-- Where no break leaves the block, none leaves what is then there.
some_parts : (xs ys : List ℕ) → xs ++ ys ≡ [] → (xs ≡ []) × (ys ≡ [])
some_parts [] ys h = (refl, h)
some_parts (x ∷ xs) ys h = absurd cc

nothing : (xs ys : List ℕ) → xs ≡ [] → ys ≡ [] → xs ++ ys ≡ []
nothing xs ys p q = ap (λ k. k ++ ys) p ∙ q

none_filled : (h : Hole) (x y : Statements) → leaving (fill h x) ≡ [] → (leaving x ≡ [] → leaving y ≡ []) → leaving (fill h y) ≡ []
none_filled (Then b n c e r) x y z f =
    let a = some_parts (leaving b) ((leaving x ++ leaving e) ++ leaving r) (sym (leaving_append b (Starts (If n c x e) r)) ∙ z) in
    let d = some_parts (leaving x ++ leaving e) (leaving r) a.1 in
    let g = some_parts (leaving x) (leaving e) d.0 in
    leaving_append b (Starts (If n c y e) r) ∙ nothing (leaving b) ((leaving y ++ leaving e) ++ leaving r) a.0 (nothing (leaving y ++ leaving e) (leaving r) (nothing (leaving y) (leaving e) (f g.0) g.1) d.1)
none_filled (Else b n c t r) x y z f =
    let a = some_parts (leaving b) ((leaving t ++ leaving x) ++ leaving r) (sym (leaving_append b (Starts (If n c t x) r)) ∙ z) in
    let d = some_parts (leaving t ++ leaving x) (leaving r) a.1 in
    let g = some_parts (leaving t) (leaving x) d.0 in
    leaving_append b (Starts (If n c t y) r) ∙ nothing (leaving b) ((leaving t ++ leaving y) ++ leaving r) a.0 (nothing (leaving t ++ leaving y) (leaving r) (nothing (leaving t) (leaving y) g.0 (f g.1)) d.1)
none_filled (Body b n c r) x y z f = leaving_append b (Starts (While n c y) r) ∙ sym (leaving_append b (Starts (While n c x) r)) ∙ z

none_plugged : (hs : List Hole) (x y : Statements) → leaving (plug hs x) ≡ [] → (leaving x ≡ [] → leaving y ≡ []) → leaving (plug hs y) ≡ []
none_plugged [] x y z f = f z
none_plugged (h ∷ hs) x y z f = none_filled h (plug hs x) (plug hs y) z (λ w. none_plugged hs x y w f)

pub none_leaves : (hs : List Hole) (before olds news behind : Statements) → leaving news ≡ [] → leaving (plug hs (between before behind olds)) ≡ [] → leaving (plug hs (between before behind news)) ≡ []
none_leaves hs before olds news behind quits z =
    none_plugged hs (between before behind olds) (between before behind news) z
    (λ w.
    let a = some_parts (leaving before) (leaving (append olds behind)) (sym (leaving_append before (append olds behind)) ∙ w) in
    let d = some_parts (leaving olds) (leaving behind) (sym (leaving_append olds behind) ∙ a.1) in
    leaving_append before (append news behind) ∙ nothing (leaving before) (leaving (append news behind)) a.0 (leaving_append news behind ∙ nothing (leaving news) (leaving behind) quits d.1))

-- The breaks before the part, and those after it.
abbrev pub in_front : List Hole → (before : Statements) → List ℕ
in_front [] before = leaving before
in_front (Then b n c e r ∷ hs) before = leaving b ++ in_front hs before
in_front (Else b n c t r ∷ hs) before = leaving b ++ (leaving t ++ in_front hs before)
in_front (Body b n c r ∷ hs) before = in_front hs before

abbrev in_back : List Hole → (behind : Statements) → List ℕ
in_back [] behind = leaving behind
in_back (Then b n c e r ∷ hs) behind = in_back hs behind ++ (leaving e ++ leaving r)
in_back (Else b n c t r ∷ hs) behind = in_back hs behind ++ leaving r
in_back (Body b n c r ∷ hs) behind = in_back hs behind

then_parts : (b f y k e r : List ℕ) → b ++ (((f ++ (y ++ k)) ++ e) ++ r) ≡ (b ++ f) ++ (y ++ (k ++ (e ++ r)))
then_parts b f y k e r =
    ap (λ z. b ++ z)
    (append_assoc (f ++ (y ++ k)) e r
    ∙ append_assoc f (y ++ k) (e ++ r)
    ∙ ap (λ z. f ++ z) (append_assoc y k (e ++ r)))
    ∙ sym (append_assoc b f (y ++ (k ++ (e ++ r))))

else_parts : (b t f y k r : List ℕ) → b ++ ((t ++ (f ++ (y ++ k))) ++ r) ≡ (b ++ (t ++ f)) ++ (y ++ (k ++ r))
else_parts b t f y k r =
    ap (λ z. b ++ z)
    (append_assoc t (f ++ (y ++ k)) r
    ∙ ap (λ z. t ++ z) (append_assoc f (y ++ k) r ∙ ap (λ z. f ++ z) (append_assoc y k r))
    ∙ sym (append_assoc t f (y ++ (k ++ r))))
    ∙ sym (append_assoc b (t ++ f) (y ++ (k ++ r)))

parted : (hs : List Hole) → has_loop hs ≡ false → (before behind x : Statements) → leaving (plug hs (between before behind x)) ≡ in_front hs before ++ (leaving x ++ in_back hs behind)
parted [] i before behind x = leaving_append before (append x behind) ∙ ap (λ k. leaving before ++ k) (leaving_append x behind)
parted (Then b n c e r ∷ hs) i before behind x =
    leaving_append b (Starts (If n c (plug hs (between before behind x)) e) r)
    ∙ ap (λ z. leaving b ++ ((z ++ leaving e) ++ leaving r)) (parted hs i before behind x)
    ∙ then_parts (leaving b) (in_front hs before) (leaving x) (in_back hs behind) (leaving e) (leaving r)
parted (Else b n c t r ∷ hs) i before behind x =
    leaving_append b (Starts (If n c t (plug hs (between before behind x))) r)
    ∙ ap (λ z. leaving b ++ ((leaving t ++ z) ++ leaving r)) (parted hs i before behind x)
    ∙ else_parts (leaving b) (leaving t) (in_front hs before) (leaving x) (in_back hs behind) (leaving r)
parted (Body b n c r ∷ hs) i before behind x = cc

among_parts : (f come k : List ℕ) → among (length f) come (f ++ k) ≡ f ++ (come ++ k)
among_parts [] come k = refl
among_parts (n ∷ f) come k = ap (λ ns. n ∷ ns) (among_parts f come k)

-- So the breaks are those that are left, with those that come after the ones before the part.
pub gained : (before olds news behind : Statements) (hs : List Hole) → has_loop hs ≡ false → Distinct (numbers (plug hs (between before behind olds))) →
    leaving (plug hs (between before behind news)) ≡ among (length (in_front hs before)) (leaving news) (left_of (numbers olds) (leaving (plug hs (between before behind olds))))
gained before olds news behind hs i once =
    let f = in_front hs before in
    let k = in_back hs behind in
    let left : left_of (numbers olds) (leaving (plug hs (between before behind olds))) ≡ f ++ k = sym (lost before olds Ends behind refl hs i once) ∙ parted hs i before behind Ends in
    parted hs i before behind news ∙ sym (among_parts f (leaving news) k) ∙ ap (among (length f) (leaving news)) (sym left)

-- None come, or none are left.
pub among_none : (before : ℕ) (come left : List ℕ) → come ≡ [] → among before come left ≡ left
among_none before come left e = ap (λ ns. take before left ++ (ns ++ drop before left)) e ∙ take-append-drop before left

pub among_all : (before : ℕ) (come left : List ℕ) → left ≡ [] → among before come left ≡ come
among_all before come left e = ap (among before come) e ∙ none before
  where
    none : (n : ℕ) → among n come [] ≡ come
    none zero = append-nil come
    none (suc n) = append-nil come

-- The innermost loop around a block.
pub record Looped (hs : List Hole) (m : ℕ) : Type 0 where
  pub outer : List Hole
  pub before : Statements
  pub condition : Condition
  pub behind : Statements
  pub inner : List Hole
  pub is : hs ≡ outer ++ Body before m condition behind ∷ inner
  pub plain : has_loop inner ≡ false

further : (h : Hole) (hs : List Hole) (m : ℕ) → Looped hs m → Looped (h ∷ hs) m
further h hs m l = record { outer = h ∷ l.outer; before = l.before; condition = l.condition; behind = l.behind; inner = l.inner; is = ap (λ gs. h ∷ gs) l.is; plain = l.plain }

pub looped : (hs : List Hole) (m : ℕ) → loop_of None hs ≡ Some m → Looped hs m
looped [] m e = absurd cc
looped (Then b n c x r ∷ hs) m e = further (Then b n c x r) hs m (looped hs m e)
looped (Else b n c t r ∷ hs) m e = further (Else b n c t r) hs m (looped hs m e)
looped (Body b n c r ∷ hs) m e = go (has_loop hs) refl (looped hs m)
  where
    go : (t : Bool) → has_loop hs ≡ t → (loop_of None hs ≡ Some m → Looped hs m) → Looped (Body b n c r ∷ hs) m
    go true q rest = further (Body b n c r) hs m (rest (some_loop None (Some n) hs q ∙ e))
    go false q rest =
        let s : Some n ≡ Some m = sym (no_loop (Some n) hs q) ∙ e in
        let same : n ≡ m = cc in
        record { outer = []; before = b; condition = c; behind = r; inner = hs; is = ap (λ k. Body b k c r ∷ hs) same; plain = q }

pub loop_last : (o : Option ℕ) (gs : List Hole) (h : Hole) → has_loop (h ∷ []) ≡ true → loop_of o (gs ++ h ∷ []) ≡ Some (holder h)
loop_last o [] (Then b n c e r) i = cc
loop_last o [] (Else b n c t r) i = cc
loop_last o [] (Body b n c r) i = refl
loop_last o (Then b n c e r ∷ gs) h i = loop_last o gs h i
loop_last o (Else b n c t r ∷ gs) h i = loop_last o gs h i
loop_last o (Body b n c r ∷ gs) h i = loop_last (Some n) gs h i

pub context_head : (k : Context) (hs : List Hole) → (context_of k hs).head ≡ loop_of k.head hs
context_head k [] = refl
context_head k (Then b n c e r ∷ hs) = context_head (context_in k (Then b n c e r)) hs
context_head k (Else b n c t r ∷ hs) = context_head (context_in k (Else b n c t r)) hs
context_head k (Body b n c r ∷ hs) = context_head (context_in k (Body b n c r)) hs

pub plug_parts : (gs hs : List Hole) (x : Statements) → plug (gs ++ hs) x ≡ plug gs (plug hs x)
plug_parts [] hs x = refl
plug_parts (g ∷ gs) hs x = ap (fill g) (plug_parts gs hs x)

module _ (ps qs : List Procedure) (p : Procedure) (hs : List Hole) (m : ℕ) (l : Looped hs m) where
  abbrev with_block : Statements → List Procedure
  with_block x = ps ++ with_body p (plug hs x) ∷ qs

  -- what is known of it, where its body has this block
  abbrev pub loop_with : Statements → Entry
  loop_with x = entry_at (resolver_at ps p) (context_of (context_at (length ps)) l.outer) (last_or l.before None) (first_or l.behind None) (While m l.condition (plug l.inner x))

  pub plugged : (x : Statements) → plug hs x ≡ plug l.outer (fill (Body l.before m l.condition l.behind) (plug l.inner x))
  plugged x = ap (λ gs. plug gs x) l.is ∙ plug_parts l.outer (Body l.before m l.condition l.behind ∷ l.inner) x

  pub loop_found : (x : Statements) → Distinct (program_numbers (with_block x)) → entry_of (entries_of (with_block x)) m ≡ Some (loop_with x)
  loop_found x once =
      let e = ap (λ b. ps ++ with_body p b ∷ qs) (plugged x) in
      ap (λ os. entry_of (entries_of os) m) e
      ∙ holder_found ps qs p l.outer (Body l.before m l.condition l.behind) (plug l.inner x) (subst (λ (os : List Procedure). Distinct (program_numbers os)) e once)

  pub loop_once : (x : Statements) → Distinct (program_numbers (with_block x)) → Distinct (numbers (plug l.inner x))
  loop_once x once =
      let own = own_distinct ps (with_body p (plug hs x)) qs once in
      inner_once (Body l.before m l.condition l.behind) (plug l.inner x)
      (deep_once l.outer (fill (Body l.before m l.condition l.behind) (plug l.inner x)) (subst (λ z. Distinct (numbers z)) (plugged x) own))

-- the breaks that it has after an edit, by those of before
pub loop_gained : (ps qs : List Procedure) (p : Procedure) (hs : List Hole) (m : ℕ) (l : Looped hs m) (before olds news behind : Statements) → Distinct (program_numbers (ps ++ with_body p (plug hs (between before behind olds)) ∷ qs)) →
    (loop_with ps qs p hs m l (between before behind news)).breaks ≡ among (length (in_front l.inner before)) (leaving news) (left_of (numbers olds) (loop_with ps qs p hs m l (between before behind olds)).breaks)
loop_gained ps qs p hs m l before olds news behind once = gained before olds news behind l.inner l.plain (loop_once ps qs p hs m l (between before behind olds) once)

-- A loop whose body keeps its ends and has other breaks.
pub rebroken_loop : (f : Resolver) (k : Context) (a b : Option ℕ) (m : ℕ) (c : Condition) (ns : List ℕ) (x y : Statements) → ends_of y ≡ ends_of x → leaving y ≡ ns →
    entry_at f k a b (While m c y) ≡ breaking ns (entry_at f k a b (While m c x))
rebroken_loop f k a b m c ns x y p q =
    ap (λ s. record (entry_at f k a b (While m c y)) { inner = s }) p
    ∙ ap (λ ls. record (entry_at f k a b (While m c x)) { breaks = ls }) q

pub ends_plugged : (h : Hole) (hs : List Hole) (x y : Statements) → ends_of (plug (h ∷ hs) y) ≡ ends_of (plug (h ∷ hs) x)
ends_plugged h hs x y = ends_filled h (plug hs y) (plug hs x)

-- the last hole
pub holder_last : (hs : List Hole) (h : Hole) → last_holder (hs ++ h ∷ []) ≡ Some (holder h)
holder_last [] h = refl
holder_last (g ∷ []) h = refl
holder_last (g ∷ k ∷ hs) h = holder_last (k ∷ hs) h
