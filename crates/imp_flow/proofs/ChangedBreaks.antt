-- Of two loops that differ in their breaks, one has a row that the other has not.
use Rattle.std.proofs.lemmas.Option.{slice_get_past, slice_get_within, same_Some}
use Rattle.std.proofs.Common.{◌≡◌, ◌≢◌, ℕ, zero, suc, ◌<◌, ◌≤◌, ◌==◌, ◌&&◌, if◌then◌else◌, nat_lt, List, [], ◌∷◌, ◌++◌, length, Option, Some, None, Bool, true, false, MatchBool, slice_get, refl, sym, ap, ap₂, subst, ◌∙◌, arith}
use Rattle.std.proofs.lemmas.Bool.{and_parts}
use Rattle.std.proofs.lemmas.Bool.Decides.{nat_tests}
use Rattle.std.specs.Bool.{Decides}
use Rattle.std.specs.Cmp.Lexicographic.{pointwise}
use Rattle.imp_slots.specs.Plain.{Guard}
use Rattle.imp_slots.specs.Fits.{Distinct}
use Rattle.batch_meaning.specs.Places.{if_some}
use Rattle.base_values.proofs.Cases.{by_test}
use Rattle.cell_names.specs.declared.frame.NameFrame.{NameFrame}
use Rattle.cell_names.specs.declared.frame.Point.{Point}
use Rattle.cell_names.specs.declared.frame.Point.TheVariants.{Fix}
use Rattle.cell_names.specs.contracts.frame.PointPartialEq.TheImpl as points
use Rattle.cell_names.proofs.Telling.{point_decides}
use Rattle.cell_rows.specs.Names.{name, next_place, place_of, item}
use Rattle.cell_rows.specs.Rows.{Row, One, Joins, Assumes}
use Rattle.cell_rows.proofs.BatchTie.{place_is}
use Rattle.imp_flow_rows.specs.declared.node.Leave.{Leave}
use Rattle.imp_flow_rows.specs.contracts.node.LeavePartialEq.TheImpl as leaves
use Rattle.imp_flow_rows.specs.contracts.node.LeaveEq.TheImpl.Laws as laws
use Rattle.imp_flow_rows.specs.NodeRows.{breaks_of, joined_at, joins_at, behind_loop}
use Rattle.imp_flow.specs.Changed.{last_leave, same_ends, same_leaves}
use Rattle.base_values.proofs.Lists.{get_last, get_some, one_more}
use Rattle.imp_flow_rows.proofs.LeaveLemmas.{front_at, break_at}
use Rattle.imp_flow.proofs.EnteredLemmas.{get_front}
use Rattle.imp_flow.proofs.ChangedLeaves.{Split, none, some, split, last_behind, count_breaks, SameLeaves, same_but_last, leaping, found_leap, leap_there}

leave_tells : (x y : Leave) → leaves.ghosts.eq x y ≡ true → x ≡ y
leave_tells x y h =
    let p = and_parts (x.stmt == y.stmt) (points.ghosts.eq x.front y.front) h in
    let make : ℕ → Point → Leave = λ n q. record { stmt = n; front = q } in
    ap₂ make (let e : (x.stmt == y.stmt) ≡ true = p.0 in grind (arith, nat_tests)) ((point_decides x.front y.front).0 p.1)

leave_decides : (x y : Leave) → Decides (leaves.ghosts.eq x y) (x ≡ y)
leave_decides x y = (leave_tells x y, λ e. ap (λ z. leaves.ghosts.eq x z) (sym e) ∙ laws.laws-law.refl x)

-- The first place where two lists differ.
abbrev Differ : List Leave → List Leave → ℕ → Type 0
Differ xs ys i = ((k : ℕ) → k < i → slice_get xs k ≡ slice_get ys k) × (i ≤ length xs) × (slice_get xs i ≢ slice_get ys i)

differ_now : (x y : Leave) (xs ys : List Leave) → x ≢ y → Differ (x ∷ xs) (y ∷ ys) 0
differ_now x y xs ys n = (λ k h. absurd (omega arith), omega arith, λ e. n (same_Some x y e))

differ_later : (x y : Leave) (xs ys : List Leave) (i : ℕ) → x ≡ y → Differ xs ys i → Differ (x ∷ xs) (y ∷ ys) (suc i)
differ_later x y xs ys i e d = (agree, omega (arith, d.1), d.2)
  where
    agree : (k : ℕ) → k < suc i → slice_get (x ∷ xs) k ≡ slice_get (y ∷ ys) k
    agree zero h = ap Some e
    agree (suc k) h = d.0 k (omega arith)

difference : (xs ys : List Leave) → pointwise leaves.ghosts.eq xs ys ≡ false → (i : ℕ) × Differ xs ys i
difference [] [] h = absurd cc
difference [] (y ∷ ys) h = (0, ((λ k h. absurd (omega arith)), omega arith, λ e. cc))
difference (x ∷ xs) [] h = (0, ((λ k h. absurd (omega arith)), omega arith, λ e. cc))
difference (x ∷ xs) (y ∷ ys) h = at_head (leaves.ghosts.eq x y) refl (difference xs ys) h
  where
    at_head : (t : Bool) → leaves.ghosts.eq x y ≡ t → (pointwise leaves.ghosts.eq xs ys ≡ false → (i : ℕ) × Differ xs ys i) → (t && pointwise leaves.ghosts.eq xs ys) ≡ false → (i : ℕ) × Differ (x ∷ xs) (y ∷ ys) i
    at_head true e more h = let d = more h in (suc d.0, differ_later x y xs ys d.0 ((leave_decides x y).0 e) d.1)
    at_head false e more h = (0, differ_now x y xs ys (λ k. let f : leaves.ghosts.eq x y ≡ true = (leave_decides x y).1 k in absurd cc))

all_same : (xs ys : List Leave) → pointwise leaves.ghosts.eq xs ys ≡ true → xs ≡ ys
all_same [] [] h = refl
all_same [] (y ∷ ys) h = absurd cc
all_same (x ∷ xs) [] h = absurd cc
all_same (x ∷ xs) (y ∷ ys) h =
    let p = and_parts _ _ h in
    ap₂ (λ (z : Leave) zs. z ∷ zs) (leave_tells x y p.0) (all_same xs ys p.1)

-- Breaks that stand once.
item_once : (bs : List ℕ) → Distinct bs → (i j : ℕ) → i < length bs → j < length bs → item bs i ≡ item bs j → i ≡ j
item_once bs d i j h k e = same_Some i j (sym (place_is bs i d h) ∙ ap (λ b. place_of b bs) e ∙ place_is bs j d k)

found_item : (bs : List ℕ) (b i : ℕ) → place_of b bs ≡ Some i → item bs i ≡ b
found_item [] b i e = absurd cc
found_item (x ∷ bs) b zero e =
    (by_test b x (λ t. (if t then Some 0 else next_place (place_of b bs)) ≡ Some 0 → x ≡ b)
    (λ q f. sym q)
    (λ q f. first (place_of b bs) f)) e
  where
    first : (o : Option ℕ) → next_place o ≡ Some 0 → x ≡ b
    first None f = absurd cc
    first (Some j) f = absurd (let g : suc j ≡ 0 = same_Some (suc j) 0 f in omega arith)
found_item (x ∷ bs) b (suc i) e =
    (by_test b x (λ t. (if t then Some 0 else next_place (place_of b bs)) ≡ Some (suc i) → item bs i ≡ b)
    (λ q f. absurd (let g : 0 ≡ suc i = same_Some 0 (suc i) f in omega arith))
    (λ q f. found_item bs b i (more (place_of b bs) f))) e
  where
    more : (o : Option ℕ) → next_place o ≡ Some (suc i) → o ≡ Some i
    more None f = absurd cc
    more (Some j) f = let g : suc j ≡ suc i = same_Some (suc j) (suc i) f in let k : j ≡ i = omega arith in ap Some k

abbrev Agree : List Leave → List Leave → ℕ → Type 0
Agree ls ks i = (k : ℕ) → k < i → slice_get ls k ≡ slice_get ks k

-- Points after a loop are after as many breaks.
same_count : (n : ℕ) (ls ks : List Leave) → Distinct (breaks_of ks) → (i j : ℕ) → i ≤ length ls → j ≤ length ks → Agree ls ks i → joined_at n (breaks_of ks) j ≡ joined_at n (breaks_of ls) i → j ≡ i
same_count n ls ks d zero zero h k a e = refl
same_count n ls ks d zero (suc j) h k a e = absurd cc
same_count n ls ks d (suc i) zero h k a e = absurd cc
same_count n ls ks d (suc i) (suc j) h k a e =
    let l = get_some ls i (omega arith) in
    let m : slice_get ks i ≡ Some l.0 = sym (a i (omega arith)) ∙ l.1 in
    let f : item (breaks_of ks) j ≡ item (breaks_of ls) i = cc in
    let c = count_breaks ks in
    ap suc (item_once (breaks_of ks) d j i (omega arith) (omega (arith, slice_get_within ks i l.0 m)) (f ∙ break_at ls i l.0 l.1 ∙ sym (break_at ks i l.0 m)))

module _ (w : List NameFrame) (n : ℕ) where
  abbrev joined_row : Bool → List Leave → ℕ → Point → Row
  joined_row stays ls i p = Joins stays (name w (joined_at n (breaks_of ls) i)) n w p

  joins_there : (stays : Bool) (ls : List Leave) (i : ℕ) (l : Leave) → slice_get ls i ≡ Some l → joins_at w stays n ls i ≡ Some (joined_row stays ls i l.front)
  joins_there stays ls i l e = ap (λ o. if_some o (λ p. Some (joined_row stays ls i p))) (front_at ls i l e)

  same_parts : (stays : Bool) (a b p q : Point) → Joins stays (name w a) n w p ≡ Joins stays (name w b) n w q → (a ≡ b) × (p ≡ q)
  same_parts stays a b p q e = let f : name w a ≡ name w b = cc in (ap (λ x. x.point) f, cc)

  both_joined : (stays : Bool) (ls ks : List Leave) (i j : ℕ) (l m : Leave) → slice_get ks j ≡ Some m → joins_at w stays n ks j ≡ Some (joined_row stays ls i l.front) →
      (joined_at n (breaks_of ks) j ≡ joined_at n (breaks_of ls) i) × (m.front ≡ l.front)
  both_joined stays ls ks i j l m e f =
      same_parts stays (joined_at n (breaks_of ks) j) (joined_at n (breaks_of ls) i) m.front l.front (same_Some (joined_row stays ks j m.front) (joined_row stays ls i l.front) (sym (joins_there stays ks j m e) ∙ f))

  lost_leap : (ls ks : List Leave) → Distinct (breaks_of ks) → (i : ℕ) (l : Leave) → suc i < length ls → slice_get ls i ≡ Some l → Agree ls ks i → (suc i < length ks → slice_get ls i ≢ slice_get ks i) →
      leaping w n ks l.stmt ≡ Some (joined_row true ls i l.front) → ⊥
  lost_leap ls ks d i l h g a differ e =
      let f = found_leap w n ks l.stmt (joined_row true ls i l.front) e in
      let m = get_some ks f.0 (omega (arith, f.2)) in
      let b = both_joined true ls ks i f.0 l m.0 m.1 f.3 in
      let s : f.0 ≡ i = same_count n ls ks d i f.0 (omega arith) (omega (arith, f.2)) a b.0 in
      let t : m.0.stmt ≡ l.stmt = sym (break_at ks f.0 m.0 m.1) ∙ found_item (breaks_of ks) l.stmt f.0 f.1 in
      let make : ℕ → Point → Leave = λ n q. record { stmt = n; front = q } in
      let x : m.0 ≡ l = ap₂ make t b.1 in
      differ (omega (arith, f.2)) (g ∙ ap Some (sym x) ∙ sym m.1 ∙ ap (slice_get ks) s)

  behind_there : (g : Guard) (ls : List Leave) (i : ℕ) (l : Leave) → length ls ≡ suc i → slice_get ls i ≡ Some l → behind_loop w n g ls (length ls) ≡ Some (joined_row false ls i l.front)
  behind_there g ls i l h e = ap (behind_loop w n g ls) h ∙ joins_there false ls i l e

  lost_post : (g : Guard) (ls ks : List Leave) → Distinct (breaks_of ks) → (i j : ℕ) (l m : Leave) → length ls ≡ suc i → length ks ≡ suc j → slice_get ks j ≡ Some m → Agree ls ks i → (j ≡ i → m.front ≡ l.front → ⊥) →
      behind_loop w n g ks (length ks) ≡ Some (joined_row false ls i l.front) → ⊥
  lost_post g ls ks d i j l m h k f a differ e =
      let b = both_joined false ls ks i j l m f (ap (behind_loop w n g ks) (sym k) ∙ e) in
      differ (same_count n ls ks d i j (omega arith) (omega arith) a b.0) b.1

  -- after a loop without breaks
  lost_plain : (g : Guard) (ks : List Leave) (j : ℕ) (m : Leave) → length ks ≡ suc j → slice_get ks j ≡ Some m → behind_loop w n g ks (length ks) ≡ Some (One (Assumes g false) (name w (Fix n))) → ⊥
  lost_plain g ks j m k f e = let h = sym (behind_there g ks j m k f) ∙ e in cc

-- A row after the loop n that has the breaks ls, which it has not with ks.
pub data LostLeaves (n : ℕ) (g : Guard) (ls ks : List Leave) : Type 0 where
  post : (r : Row) → behind_loop [] n g ls (length ls) ≡ Some r → (behind_loop [] n g ks (length ks) ≡ Some r → ⊥) → LostLeaves n g ls ks
  exit : 0 < length ls → length ks ≡ 0 → LostLeaves n g ls ks
  leap : (b : ℕ) (r : Row) → leaping [] n ls b ≡ Some r → (leaping [] n ks b ≡ Some r → ⊥) → LostLeaves n g ls ks

module _ (n : ℕ) (g : Guard) (xs ys : List Leave) (l m : Leave) where
  abbrev ls : List Leave
  ls = xs ++ l ∷ []

  abbrev ks : List Leave
  ks = ys ++ m ∷ []

  module _ (c : Distinct (breaks_of ls)) (d : Distinct (breaks_of ks)) where
    agree_both : (i : ℕ) → i ≤ length xs → Agree xs ys i → Agree ls ks i
    agree_both i h a k q =
        let x = get_some xs k (omega arith) in
        let y : slice_get ys k ≡ Some x.0 = sym (a k q) ∙ x.1 in
        get_front xs (l ∷ []) k (omega arith) ∙ a k q ∙ sym (get_front ys (m ∷ []) k (slice_get_within ys k x.0 y))

    lost_inner : (i : ℕ) → Differ xs ys i → i < length xs → LostLeaves n g ls ks
    lost_inner i e h =
        let x = get_some xs i h in
        let at : slice_get ls i ≡ Some x.0 = get_front xs (l ∷ []) i h ∙ x.1 in
        let s : suc i < length ls = omega (arith, one_more xs l) in
        let p : place_of x.0.stmt (breaks_of ls) ≡ Some i = ap (λ b. place_of b (breaks_of ls)) (sym (break_at ls i x.0 at)) ∙ place_is (breaks_of ls) i c (omega (arith, count_breaks ls)) in
        leap x.0.stmt (joined_row [] n true ls i x.0.front) (leap_there [] n ls x.0.stmt i p s ∙ joins_there [] n true ls i x.0 at)
        (lost_leap [] n ls ks d i x.0 s at (agree_both i e.1 e.0) (λ t f. e.2 (sym (get_front xs (l ∷ []) i h) ∙ f ∙ get_front ys (m ∷ []) i (omega (arith, one_more ys m)))))

    lost_last : (Agree ls ks (length xs)) → (length ys ≡ length xs → m.front ≡ l.front → ⊥) → LostLeaves n g ls ks
    lost_last a differ =
        post (joined_row [] n false ls (length xs) l.front) (behind_there [] n g ls (length xs) l (one_more xs l) (get_last xs l))
        (lost_post [] n g ls ks d (length xs) (length ys) l m (one_more xs l) (one_more ys m) (get_last ys m) a differ)

    lost_more : (i : ℕ) → Differ xs ys i → length xs ≤ i → LostLeaves n g ls ks
    lost_more i e h =
        let s : i ≡ length xs = omega (arith, e.1) in
        lost_last (agree_both (length xs) (omega arith) (λ k q. e.0 k (omega arith)))
        (λ q f. e.2 (slice_get_past xs i h ∙ sym (slice_get_past ys i (omega arith))))

    lost_any : pointwise leaves.ghosts.eq xs ys ≡ false → LostLeaves n g ls ks
    lost_any h = let e = difference xs ys h in by_place e.0 e.1 (nat_lt e.0 (length xs)) refl
      where
        by_place : (i : ℕ) → Differ xs ys i → (t : Bool) → nat_lt i (length xs) ≡ t → LostLeaves n g ls ks
        by_place i e true q = lost_inner i e (grind (arith, nat_tests))
        by_place i e false q = lost_more i e (grind (arith, nat_tests))

    told_ends : (a b : Bool) → points.ghosts.eq l.front m.front ≡ a → pointwise leaves.ghosts.eq xs ys ≡ b → MatchBool (a && b) (SameLeaves ls ks) (LostLeaves n g ls ks)
    told_ends true true p q =
        subst (λ zs. SameLeaves ls (zs ++ m ∷ [])) (all_same xs ys q) (same_but_last xs l m ((point_decides l.front m.front).0 p))
    told_ends true false p q = lost_any q
    told_ends false false p q = lost_any q
    told_ends false true p q =
        let e : xs ≡ ys = all_same xs ys q in
        lost_last (agree_both (length xs) (omega arith) (λ k h. ap (λ zs. slice_get zs k) e))
        (λ h f. let t : points.ghosts.eq l.front m.front ≡ true = (point_decides l.front m.front).1 (sym f) in absurd cc)

none_same : SameLeaves [] []
none_same = record { count = refl; fronts = refl; breaks = λ i h. absurd (omega arith) }

abbrev Told : ℕ → Guard → List Leave → List Leave → Type 0
Told n g ls ks = MatchBool (same_leaves ls ks) (SameLeaves ls ks) (LostLeaves n g ls ks)

pub told_leaves : (n : ℕ) (g : Guard) (ls ks : List Leave) → Distinct (breaks_of ls) → Distinct (breaks_of ks) → Told n g ls ks
told_leaves n g ls ks c d = go ls ks (split ls) (split ks) c d
  where
    go : (ls ks : List Leave) → Split ls → Split ks → Distinct (breaks_of ls) → Distinct (breaks_of ks) → Told n g ls ks
    go _ _ none none c d = none_same
    go _ _ none (some ys m) c d =
        subst (λ o. MatchBool (same_ends None o) (SameLeaves [] (ys ++ m ∷ [])) (LostLeaves n g [] (ys ++ m ∷ []))) (sym (last_behind ys m))
        (post (One (Assumes g false) (name [] (Fix n))) refl (lost_plain [] n g (ys ++ m ∷ []) (length ys) m (one_more ys m) (get_last ys m)))
    go _ _ (some xs l) none c d =
        subst (λ o. MatchBool (same_ends o None) (SameLeaves (xs ++ l ∷ []) []) (LostLeaves n g (xs ++ l ∷ []) [])) (sym (last_behind xs l))
        (exit (omega (arith, one_more xs l)) refl)
    go _ _ (some xs l) (some ys m) c d =
        subst (λ o. MatchBool (same_ends o (last_leave (ys ++ m ∷ []))) (SameLeaves (xs ++ l ∷ []) (ys ++ m ∷ [])) (LostLeaves n g (xs ++ l ∷ []) (ys ++ m ∷ []))) (sym (last_behind xs l))
        (subst (λ o. MatchBool (same_ends (Some (l, xs)) o) (SameLeaves (xs ++ l ∷ []) (ys ++ m ∷ [])) (LostLeaves n g (xs ++ l ∷ []) (ys ++ m ∷ []))) (sym (last_behind ys m))
        (told_ends n g xs ys l m c d (points.ghosts.eq l.front m.front) (pointwise leaves.ghosts.eq xs ys) refl refl))
