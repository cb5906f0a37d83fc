-- The marks of a block: what each is made of, its rank, and how it is found.
use Rattle.std.proofs.Common.{◌≡◌, ℕ, ◌+◌, ◌≤◌, List, ◌∷◌, map, Bool, true, false, refl, ap, arith}
use Rattle.std.proofs.lemmas.List.{map-append}
use Rattle.imp_slots.specs.Plain.{Guard, Code, Stop, Simple, If, While, Call, Break}
use Rattle.batch_meaning.specs.Batch.{LoopOptions}
use Rattle.cell_names.specs.declared.frame.Point.{Point}
use Rattle.base_values.proofs.Members.{Member, here, there, in_left, in_right, Each, each_more, each_both, none_there, each_as, keys, keys_both}
use Rattle.cell_rows.specs.Names.{Scope, Mark, At, Algebra, number, span, cost, body_span, behind_it, inside, entry, level, last, leaves, own}
use Rattle.cell_rows.specs.Rows.{last_point, leave_points}

module _ (engine : LoopOptions) {V : Type 0} (alg : Algebra V) (scope : Scope) (z : List ℕ) where
  abbrev L : Code → Mark V → List (ℕ × At V)
  L = level engine alg scope z

  abbrev E : Mark V → Code → ℕ × At V
  E = entry engine alg scope z

  abbrev after_it : Code → Mark V → Mark V
  after_it = behind_it engine alg scope z

  abbrev into_it : Bool → ℕ → Guard → Mark V → Mark V
  into_it = inside engine alg scope z

  abbrev calls : ℕ → ℕ
  calls = body_span engine scope

  -- A mark is the first one of the block, or stands after a statement or in a branch.
  pub data Known (c : Code) (x : Mark V) : Mark V → Type 0 where
    first : Known c x x
    post : (y : Mark V) (d : Code) → Member (E y d) (L c x) → Known c x (after_it d y)
    branch : (h : Bool) (n : ℕ) (guard : Guard) (t e r : Code) (y : Mark V) → Member (E y (If n guard t e r)) (L c x) → Known c x (into_it h n guard y)

  -- From a mark of a part to one of the whole.
  pub known_more : (c d : Code) (x y : Mark V) → Known d y x → ((p : ℕ × At V) → Member p (L c x) → Member p (L d y)) → (u : Mark V) → Known c x u → Known d y u
  known_more c d x y k f u first = k
  known_more c d x y k f u (post v e m) = post v e (f _ m)
  known_more c d x y k f u (branch h n guard t e r v m) = branch h n guard t e r v (f _ m)

  abbrev KnownAt : Code → Mark V → ℕ × At V → Type 0
  KnownAt c x p = Known c x p.1.before

  known_each : (c d : Code) (x y : Mark V) → Known d y x → ((p : ℕ × At V) → Member p (L c x) → Member p (L d y)) → (xs : List (ℕ × At V)) → Each (KnownAt c x) xs → Each (KnownAt d y) xs
  known_each c d x y k f xs e = each_as (KnownAt c x) (KnownAt d y) xs (λ p q. known_more c d x y k f _ q) e

  pub known_before : (c : Code) (x : Mark V) → Each (KnownAt c x) (L c x)
  known_before Stop x = none_there (KnownAt Stop x)
  known_before (Simple n effect r) x =
      each_more (KnownAt (Simple n effect r) x) _ _ first (known_each r _ _ x (post x (Simple n effect r) here) (λ p. there) _ (known_before r _))
  known_before (If n guard t e r) x =
      let c = If n guard t e r in
      let xt = into_it true n guard x in
      let xe = into_it false n guard x in
      each_more (KnownAt c x) _ _ first
      (each_both (KnownAt c x) _ _ (known_each t c xt x (branch true n guard t e r x here) (λ p m. there (in_left _ m)) _ (known_before t xt))
      (each_both (KnownAt c x) _ _ (known_each e c xe x (branch false n guard t e r x here) (λ p m. there (in_right (L t xt) (in_left _ m))) _ (known_before e xe))
      (known_each r c _ x (post x c here) (λ p m. there (in_right (L t xt) (in_right (L e xe) m))) _ (known_before r _))))
  known_before (While n guard b r) x =
      each_more (KnownAt (While n guard b r) x) _ _ first (known_each r _ _ x (post x (While n guard b r) here) (λ p. there) _ (known_before r _))
  known_before (Call n call q r) x =
      each_more (KnownAt (Call n call q r) x) _ _ first (known_each r _ _ x (post x (Call n call q r) here) (λ p. there) _ (known_before r _))
  known_before (Break n r) x =
      each_more (KnownAt (Break n r) x) _ _ first (known_each r _ _ x (post x (Break n r) here) (λ p. there) _ (known_before r _))

  pub known_last : (c : Code) (x : Mark V) → Known c x (last engine alg scope z c x)
  known_last Stop x = first
  known_last (Simple n effect r) x = known_more r (Simple n effect r) _ x (post x (Simple n effect r) here) (λ p. there) _ (known_last r _)
  known_last (If n guard t e r) x =
      known_more r (If n guard t e r) _ x (post x (If n guard t e r) here) (λ p m. there (in_right (L t (into_it true n guard x)) (in_right (L e (into_it false n guard x)) m))) _ (known_last r _)
  known_last (While n guard b r) x = known_more r (While n guard b r) _ x (post x (While n guard b r) here) (λ p. there) _ (known_last r _)
  known_last (Call n call q r) x = known_more r (Call n call q r) _ x (post x (Call n call q r) here) (λ p. there) _ (known_last r _)
  known_last (Break n r) x = known_more r (Break n r) _ x (post x (Break n r) here) (λ p. there) _ (known_last r _)

  known_all : (c d : Code) (x y : Mark V) → Known d y x → ((p : ℕ × At V) → Member p (L c x) → Member p (L d y)) → (xs : List (Mark V)) → Each (Known c x) xs → Each (Known d y) xs
  known_all c d x y k f xs e = each_as (Known c x) (Known d y) xs (λ u q. known_more c d x y k f u q) e

  pub known_leaves : (c : Code) (x : Mark V) → Each (Known c x) (leaves engine alg scope z c x)
  known_leaves Stop x = none_there (Known Stop x)
  known_leaves (Simple n effect r) x = known_all r (Simple n effect r) _ x (post x (Simple n effect r) here) (λ p. there) _ (known_leaves r _)
  known_leaves (If n guard t e r) x =
      let c = If n guard t e r in
      let xt = into_it true n guard x in
      let xe = into_it false n guard x in
      each_both (Known c x) _ _ (known_all t c xt x (branch true n guard t e r x here) (λ p m. there (in_left _ m)) _ (known_leaves t xt))
      (each_both (Known c x) _ _ (known_all e c xe x (branch false n guard t e r x here) (λ p m. there (in_right (L t xt) (in_left _ m))) _ (known_leaves e xe))
      (known_all r c _ x (post x c here) (λ p m. there (in_right (L t xt) (in_right (L e xe) m))) _ (known_leaves r _)))
  known_leaves (While n guard b r) x = known_all r (While n guard b r) _ x (post x (While n guard b r) here) (λ p. there) _ (known_leaves r _)
  known_leaves (Call n call q r) x = known_all r (Call n call q r) _ x (post x (Call n call q r) here) (λ p. there) _ (known_leaves r _)
  known_leaves (Break n r) x = each_more (Known (Break n r) x) _ _ first (known_all r (Break n r) _ x (post x (Break n r) here) (λ p. there) _ (known_leaves r _))

  -- Each entry has its statement's number.
  abbrev Keyed : ℕ × At V → Type 0
  Keyed p = p.0 ≡ number p.1.code

  pub keyed : (c : Code) (x : Mark V) → Each Keyed (L c x)
  keyed Stop x = none_there Keyed
  keyed (Simple n effect r) x = each_more Keyed (E x (Simple n effect r)) _ refl (keyed r (after_it (Simple n effect r) x))
  keyed (If n guard t e r) x =
      each_more Keyed (E x (If n guard t e r)) _ refl (each_both Keyed _ _ (keyed t (into_it true n guard x)) (each_both Keyed _ _ (keyed e (into_it false n guard x)) (keyed r (after_it (If n guard t e r) x))))
  keyed (While n guard b r) x = each_more Keyed (E x (While n guard b r)) _ refl (keyed r (after_it (While n guard b r) x))
  keyed (Call n call q r) x = each_more Keyed (E x (Call n call q r)) _ refl (keyed r (after_it (Call n call q r) x))
  keyed (Break n r) x = each_more Keyed (E x (Break n r)) _ refl (keyed r (after_it (Break n r) x))

  pub keys_own : (c : Code) (x : Mark V) → keys (L c x) ≡ own c
  keys_own Stop x = refl
  keys_own (Simple n effect r) x = ap (λ k. n ∷ k) (keys_own r _)
  keys_own (If n guard t e r) x = rw (keys_both, keys_both, keys_own t, keys_own e, keys_own r) refl
  keys_own (While n guard b r) x = ap (λ k. n ∷ k) (keys_own r _)
  keys_own (Call n call q r) x = ap (λ k. n ∷ k) (keys_own r _)
  keys_own (Break n r) x = ap (λ k. n ∷ k) (keys_own r _)

  -- The ranks: each statement ends before the block does.
  abbrev Within : ℕ → ℕ × At V → Type 0
  Within top p = p.1.before.rank + cost engine calls p.1.code ≤ top

  within_more : (a b : ℕ) → a ≤ b → (xs : List (ℕ × At V)) → Each (Within a) xs → Each (Within b) xs
  within_more a b h xs e = each_as (Within a) (Within b) xs (λ p l. omega arith) e

  pub ranks : (c : Code) (x : Mark V) → Each (Within (x.rank + span engine calls c)) (L c x)
  ranks Stop x = none_there (Within (x.rank + 0))
  ranks (Simple n effect r) x = each_more (Within _) _ _ (omega arith) (within_more _ _ (omega arith) _ (ranks r _))
  ranks (If n guard t e r) x =
      each_more (Within _) _ _ (omega arith)
      (each_both (Within _) _ _ (within_more _ _ (omega arith) _ (ranks t (into_it true n guard x)))
      (each_both (Within _) _ _ (within_more _ _ (omega arith) _ (ranks e (into_it false n guard x)))
      (within_more _ _ (omega arith) _ (ranks r _))))
  ranks (While n guard b r) x = each_more (Within _) _ _ (omega arith) (within_more _ _ (omega arith) _ (ranks r _))
  ranks (Call n call q r) x = each_more (Within _) _ _ (omega arith) (within_more _ _ (omega arith) _ (ranks r _))
  ranks (Break n r) x = each_more (Within _) _ _ (omega arith) (within_more _ _ (omega arith) _ (ranks r _))

  pub known_rank : (c : Code) (x u : Mark V) → Known c x u → u.rank ≤ x.rank + span engine calls c
  known_rank c x u first = omega arith
  known_rank c x u (post y d m) = (ranks c x).at _ m
  known_rank c x u (branch h n guard t e r y m) = let l = (ranks c x).at _ m in omega arith

  -- The points at the end and at the breaks.
  pub last_is : (c : Code) (x : Mark V) → (last engine alg scope z c x).point ≡ last_point c x.point
  last_is Stop x = refl
  last_is (Simple n effect r) x = last_is r _
  last_is (If n guard t e r) x = last_is r _
  last_is (While n guard b r) x = last_is r _
  last_is (Call n call q r) x = last_is r _
  last_is (Break n r) x = last_is r _

  abbrev pub point_of : Mark V → Point
  point_of x = x.point

  pub leaves_are : (c : Code) (x : Mark V) → map point_of (leaves engine alg scope z c x) ≡ leave_points c x.point
  leaves_are Stop x = refl
  leaves_are (Simple n effect r) x = leaves_are r _
  leaves_are (If n guard t e r) x = rw (map-append, map-append, leaves_are t, leaves_are e, leaves_are r) refl
  leaves_are (While n guard b r) x = leaves_are r _
  leaves_are (Call n call q r) x = leaves_are r _
  leaves_are (Break n r) x = ap (λ k. x.point ∷ k) (leaves_are r _)
