-- The breaks of two loops that give different rows.
use Rattle.std.proofs.lemmas.Bool.Decides.{nat_tests}
use Rattle.std.proofs.lemmas.Option.{same_Some}
use Rattle.std.proofs.Common.{◌≡◌, ◌≢◌, ℕ, zero, suc, ◌<◌, if◌then◌else◌, nat_lt, List, [], ◌∷◌, ◌++◌, length, Option, Some, None, Bool, true, false, refl, sym, ap, subst, ◌∙◌, arith}
use Rattle.imp_slots.specs.Plain.{Guard}
use Rattle.batch_meaning.specs.Places.{if_some}
use Rattle.base_values.proofs.Cases.{by_test}
use Rattle.cell_names.specs.declared.frame.NameFrame.{NameFrame}
use Rattle.cell_names.specs.declared.frame.Point.TheVariants.{Leap}
use Rattle.cell_rows.specs.Names.{next_place, place_of, item}
use Rattle.cell_rows.specs.Rows.{Row}
use Rattle.imp_flow_rows.specs.declared.node.Leave.{Leave}
use Rattle.imp_flow_rows.specs.NodeRows.{breaks_of, fronts_of, joined_at, joins_at, behind_loop}
use Rattle.imp_flow.specs.Changed.{last_of, last_leave}

last_of_behind : (y : Leave) (xs : List Leave) (l : Leave) → last_of y (xs ++ l ∷ []) ≡ (l, y ∷ xs)
last_of_behind y [] l = refl
last_of_behind y (z ∷ xs) l = ap (λ e. (e.0, y ∷ e.1)) (last_of_behind z xs l)

pub last_behind : (xs : List Leave) (l : Leave) → last_leave (xs ++ l ∷ []) ≡ Some (l, xs)
last_behind [] l = refl
last_behind (y ∷ xs) l = ap Some (last_of_behind y xs l)

-- No breaks, or a last one.
pub data Split : List Leave → Type 0 where
  none : Split []
  some : (xs : List Leave) (l : Leave) → Split (xs ++ l ∷ [])

last_of_is : (l : Leave) (ls : List Leave) → (last_of l ls).1 ++ (last_of l ls).0 ∷ [] ≡ l ∷ ls
last_of_is l [] = refl
last_of_is l (m ∷ ls) = ap (λ k. l ∷ k) (last_of_is m ls)

pub split : (ls : List Leave) → Split ls
split [] = none
split (l ∷ ls) = subst Split (last_of_is l ls) (some (last_of l ls).1 (last_of l ls).0)

pub count_breaks : (ls : List Leave) → length (breaks_of ls) ≡ length ls
count_breaks [] = refl
count_breaks (l ∷ ls) = ap suc (count_breaks ls)

-- What rows have of breaks: their places, the points before them, and the numbers of all but the last.
pub record SameLeaves (ls ks : List Leave) : Type 0 where
  pub count : length ls ≡ length ks
  pub fronts : fronts_of ls ≡ fronts_of ks
  pub breaks : (i : ℕ) → suc i < length ls → item (breaks_of ls) i ≡ item (breaks_of ks) i

pub same_but_last : (xs : List Leave) (l m : Leave) → l.front ≡ m.front → SameLeaves (xs ++ l ∷ []) (xs ++ m ∷ [])
same_but_last [] l m e = record { count = refl; fronts = ap (λ p. p ∷ []) e; breaks = λ i h. absurd (omega arith) }
same_but_last (x ∷ xs) l m e =
    let r = same_but_last xs l m e in
    record { count = ap suc r.count; fronts = ap (λ ps. x.front ∷ ps) r.fronts; breaks = breaks r }
  where
    breaks : SameLeaves (xs ++ l ∷ []) (xs ++ m ∷ []) → (i : ℕ) → suc i < length (x ∷ (xs ++ l ∷ [])) → item (breaks_of (x ∷ (xs ++ l ∷ []))) i ≡ item (breaks_of (x ∷ (xs ++ m ∷ []))) i
    breaks r zero h = refl
    breaks r (suc i) h = r.breaks i (omega arith)

place_next : (x y : ℕ) (bs cs : List ℕ) (b i : ℕ) → ((j : ℕ) → suc j ≡ i → place_of b bs ≡ Some j → place_of b cs ≡ Some j) → x ≡ y → b ≢ x → (o : Option ℕ) → place_of b bs ≡ o → next_place o ≡ Some i → place_of b (y ∷ cs) ≡ Some i
place_next x y bs cs b i more h q None f g = absurd cc
place_next x y bs cs b i more h q (Some j) f g =
    let s : suc j ≡ i = same_Some (suc j) i g in
    by_test b y (λ t. (if t then Some 0 else next_place (place_of b cs)) ≡ Some i)
    (λ k. absurd (q (k ∙ sym h)))
    (λ k. ap next_place (more j s f) ∙ ap Some s)

place_kept : (bs cs : List ℕ) (b i : ℕ) → length bs ≡ length cs → ((k : ℕ) → suc k < length bs → item bs k ≡ item cs k) → place_of b bs ≡ Some i → suc i < length bs → place_of b cs ≡ Some i
place_kept [] cs b i c h e l = absurd cc
place_kept (x ∷ bs) [] b i c h e l = absurd (omega arith)
place_kept (x ∷ bs) (y ∷ cs) b i c h e l =
    let first : x ≡ y = h 0 (omega arith) in
    (by_test b x (λ t. (if t then Some 0 else next_place (place_of b bs)) ≡ Some i → place_of b (y ∷ cs) ≡ Some i)
    (λ q f. by_test b y (λ t. (if t then Some 0 else next_place (place_of b cs)) ≡ Some i) (λ k. f) (λ k. absurd (k (q ∙ first))))
    (λ q f. place_next x y bs cs b i (λ j s g. place_kept bs cs b j (omega arith) (λ m n. h (suc m) (omega arith)) g (omega arith)) first q (place_of b bs) refl f)) e

-- With the first i breaks.
joined_kept : (n : ℕ) (ls ks : List Leave) → SameLeaves ls ks → (i : ℕ) → i < length ls → joined_at n (breaks_of ls) i ≡ joined_at n (breaks_of ks) i
joined_kept n ls ks s zero h = refl
joined_kept n ls ks s (suc i) h = ap (Leap n) (s.breaks i h)

module _ (w : List NameFrame) (n : ℕ) where
  joins_kept : (stays : Bool) (ls ks : List Leave) → SameLeaves ls ks → (i : ℕ) → i < length ls → joins_at w stays n ls i ≡ joins_at w stays n ks i
  joins_kept stays ls ks s i h = rw (s.fronts, joined_kept n ls ks s i h) refl

  pub behind_kept : (g : Guard) (ls ks : List Leave) → SameLeaves ls ks → behind_loop w n g ls (length ls) ≡ behind_loop w n g ks (length ks)
  behind_kept g ls ks s = go (length ls) refl ∙ ap (behind_loop w n g ks) s.count
    where
      go : (k : ℕ) → k ≡ length ls → behind_loop w n g ls k ≡ behind_loop w n g ks k
      go zero h = refl
      go (suc i) h = joins_kept false ls ks s i (omega arith)

  abbrev pub leaping : List Leave → ℕ → Option Row
  leaping ls b = if_some (place_of b (breaks_of ls)) (λ i. if nat_lt (suc i) (length ls) then joins_at w true n ls i else None)

  abbrev leap_from : List Leave → ℕ → Option Row
  leap_from ls i = if nat_lt (suc i) (length ls) then joins_at w true n ls i else None

  -- a row after a break is where the break is not the last
  pub found_leap : (ls : List Leave) (b : ℕ) (r : Row) → leaping ls b ≡ Some r → (i : ℕ) × (place_of b (breaks_of ls) ≡ Some i) × (suc i < length ls) × (joins_at w true n ls i ≡ Some r)
  found_leap ls b r e = go (place_of b (breaks_of ls)) refl e
    where
      at : (i : ℕ) → place_of b (breaks_of ls) ≡ Some i → (t : Bool) → nat_lt (suc i) (length ls) ≡ t → (if t then joins_at w true n ls i else None) ≡ Some r →
          (i : ℕ) × (place_of b (breaks_of ls) ≡ Some i) × (suc i < length ls) × (joins_at w true n ls i ≡ Some r)
      at i f true q e = (i, f, (grind (arith, nat_tests)), e)
      at i f false q e = absurd cc

      go : (o : Option ℕ) → place_of b (breaks_of ls) ≡ o → if_some o (leap_from ls) ≡ Some r → (i : ℕ) × (place_of b (breaks_of ls) ≡ Some i) × (suc i < length ls) × (joins_at w true n ls i ≡ Some r)
      go None f e = absurd cc
      go (Some i) f e = at i f (nat_lt (suc i) (length ls)) refl e

  pub leap_there : (ls : List Leave) (b i : ℕ) → place_of b (breaks_of ls) ≡ Some i → suc i < length ls → leaping ls b ≡ joins_at w true n ls i
  leap_there ls b i f h =
      let t : nat_lt (suc i) (length ls) ≡ true = grind (arith, nat_tests) in
      ap (λ o. if_some o (leap_from ls)) f ∙ ap (λ t. if t then joins_at w true n ls i else None) t

  pub leap_kept : (ls ks : List Leave) → SameLeaves ls ks → (b : ℕ) (r : Row) → leaping ls b ≡ Some r → leaping ks b ≡ Some r
  leap_kept ls ks s b r e =
      let f = found_leap ls b r e in
      let c : length (breaks_of ls) ≡ length (breaks_of ks) = count_breaks ls ∙ s.count ∙ sym (count_breaks ks) in
      let p : place_of b (breaks_of ks) ≡ Some f.0 = place_kept (breaks_of ls) (breaks_of ks) b f.0 c (λ k h. s.breaks k (omega (arith, count_breaks ls))) f.1 (omega (arith, count_breaks ls, f.2)) in
      leap_there ks b f.0 p (omega (arith, f.2, s.count)) ∙ sym (joins_kept true ls ks s f.0 (omega (arith, f.2))) ∙ f.3
