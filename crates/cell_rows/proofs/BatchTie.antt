-- The marks' values are those of the batch interpreter.
use Rattle.std.proofs.Common.{ℤ, ◌≡◌, ◌≢◌, ℕ, zero, suc, ◌+◌, ◌<◌, List, [], ◌∷◌, ◌++◌, length, map, Option, Some, None, Bool, true, false, if◌then◌else◌, refl, sym, ap, ◌∙◌, arith, slice_get, append_assoc}
use Rattle.std.proofs.lemmas.List.{map-append, length-append}
use Rattle.imp_slots.specs.Plain.{Layout, Guard, Code, Stop, Simple, If, While, Call, Break, Routine}
use Rattle.imp_slots.specs.Fits.{Absent, Distinct}
use Rattle.domain_laws.specs.Operations.{Operations}
use Rattle.batch_meaning.specs.Values.{Value, State, Over, lift, lift2}
use Rattle.batch_meaning.specs.Batch.{LoopOptions, next_of, settle, iterate, fix, joined}
use Rattle.batch_meaning.specs.Places.{from}
use Rattle.base_values.proofs.Cases.{by_test}
use Rattle.base_values.proofs.Members.{Member, here, there, in_left, in_right, Each, each_more, each_both, none_there, each_as}
use Rattle.cell_rows.specs.Blocks.{iterate_at}
use Rattle.cell_rows.specs.Names.{Scope, spans, Mark, At, Algebra, breaks, break_numbers, place_of, item, next_place, span, behind_it, inside, entry, level, last, leaves}
use Rattle.cell_rows.specs.Rows.{leave_points}
use Rattle.cell_rows.specs.Cells.{Cell, cell, with_one, joined_to, block, values}

pub breaks_points : (c : Code) (p : _) → length (leave_points c p) ≡ breaks c
breaks_points Stop p = refl
breaks_points (Simple n effect r) p = breaks_points r _
breaks_points (If n guard t e r) p = rw (length-append, length-append, breaks_points t, breaks_points e, breaks_points r) refl
breaks_points (While n guard b r) p = breaks_points r _
breaks_points (Call n call q r) p = breaks_points r _
breaks_points (Break n r) p = ap suc (breaks_points r _)

pub breaks_numbers : (c : Code) → length (break_numbers c) ≡ breaks c
breaks_numbers Stop = refl
breaks_numbers (Simple n effect r) = breaks_numbers r
breaks_numbers (If n guard t e r) = rw (length-append, length-append, breaks_numbers t, breaks_numbers e, breaks_numbers r) refl
breaks_numbers (While n guard b r) = breaks_numbers r
breaks_numbers (Call n call q r) = breaks_numbers r
breaks_numbers (Break n r) = ap suc (breaks_numbers r)

absent_item : (k : ℕ) (ns : List ℕ) (i : ℕ) → Absent k ns → i < length ns → k ≢ item ns i
absent_item k [] i a h = absurd (omega arith)
absent_item k (n ∷ ns) zero a h = a.0
absent_item k (n ∷ ns) (suc i) a h = absent_item k ns i a.1 (omega arith)

-- a number that stands once is found where it stands
pub place_is : (ns : List ℕ) (i : ℕ) → Distinct ns → i < length ns → place_of (item ns i) ns ≡ Some i
place_is [] i d h = absurd (omega arith)
place_is (n ∷ ns) zero d h = by_test n n (λ c. (if c then Some 0 else next_place (place_of n ns)) ≡ Some 0) (λ e. refl) (λ e. absurd (e refl))
place_is (n ∷ ns) (suc i) d h =
    by_test (item ns i) n (λ c. (if c then Some 0 else next_place (place_of (item ns i) ns)) ≡ Some (suc i))
    (λ e. absurd (absent_item n ns i d.0 (omega arith) (sym e)))
    (λ e. ap next_place (place_is ns i d.1 (omega arith)))

pub span_from : (engine : LoopOptions) (ps : List Routine) (q : ℕ) (r : Routine) (earlier : List Routine) → from ps q ≡ r ∷ earlier → spans engine ps q ≡ span engine (spans engine earlier) r.code
span_from engine [] q r earlier e = absurd cc
span_from engine (b ∷ ps) q r earlier e =
    (by_test q (length ps) (λ c. (if c then b ∷ ps else from ps q) ≡ r ∷ earlier → (if c then span engine (spans engine ps) b.code else spans engine ps q) ≡ span engine (spans engine earlier) r.code)
    (λ k e. let i : b ≡ r = cc in let j : ps ≡ earlier = cc in ap (λ x. span engine (spans engine x) b.code) j ∙ ap (λ (x : Routine). span engine (spans engine earlier) x.code) i)
    (λ k e. span_from engine ps q r earlier e)) e

-- The entries of an if's branches are entries of the block.
module _ (engine : LoopOptions) {V : Type 0} (alg : Algebra V) (scope : Scope) (z : List ℕ) where
  abbrev L : Code → Mark V → List (ℕ × At V)
  L = level engine alg scope z

  abbrev E : Mark V → Code → ℕ × At V
  E = entry engine alg scope z

  pub record Branches (whole : List (ℕ × At V)) (n : ℕ) (guard : Guard) (t e : Code) (y : Mark V) : Type 0 where
    pub then_in : (p : ℕ × At V) → Member p (L t (inside engine alg scope z true n guard y)) → Member p whole
    pub else_in : (p : ℕ × At V) → Member p (L e (inside engine alg scope z false n guard y)) → Member p whole

  abbrev Subs : List (ℕ × At V) → Mark V → Code → Type 0
  Subs whole y Stop = Unit {0}
  Subs whole y (Simple n effect r) = Unit {0}
  Subs whole y (If n guard t e r) = Branches whole n guard t e y
  Subs whole y (While n guard b r) = Unit {0}
  Subs whole y (Call n call q r) = Unit {0}
  Subs whole y (Break n r) = Unit {0}

  abbrev HasSubs : List (ℕ × At V) → ℕ × At V → Type 0
  HasSubs whole p = Subs whole p.1.before p.1.code

  subs_more : (part whole : List (ℕ × At V)) → ((p : ℕ × At V) → Member p part → Member p whole) → (y : Mark V) (d : Code) → Subs part y d → Subs whole y d
  subs_more part whole f y Stop s = tt
  subs_more part whole f y (Simple n effect r) s = tt
  subs_more part whole f y (If n guard t e r) s = record { then_in = λ p m. f p (s.then_in p m); else_in = λ p m. f p (s.else_in p m) }
  subs_more part whole f y (While n guard b r) s = tt
  subs_more part whole f y (Call n call q r) s = tt
  subs_more part whole f y (Break n r) s = tt

  each_subs : (part whole : List (ℕ × At V)) → ((p : ℕ × At V) → Member p part → Member p whole) → Each (HasSubs part) part → Each (HasSubs whole) part
  each_subs part whole f e = each_as (HasSubs part) (HasSubs whole) part (λ p s. subs_more part whole f p.1.before p.1.code s) e

  pub subs : (c : Code) (x : Mark V) → Each (HasSubs (L c x)) (L c x)
  subs Stop x = none_there (HasSubs [])
  subs (Simple n effect r) x =
      let u = behind_it engine alg scope z (Simple n effect r) x in
      each_more (HasSubs (E x (Simple n effect r) ∷ L r u)) (E x (Simple n effect r)) (L r u) tt (each_subs (L r u) (E x (Simple n effect r) ∷ L r u) (λ p. there) (subs r u))
  subs (If n guard t e r) x =
      let c = If n guard t e r in
      let xt = inside engine alg scope z true n guard x in
      let xe = inside engine alg scope z false n guard x in
      let u = behind_it engine alg scope z c x in
      let Q = HasSubs (L c x) in
      each_more Q (E x c) (L t xt ++ (L e xe ++ L r u)) (record { then_in = λ p m. there (in_left _ m); else_in = λ p m. there (in_right (L t xt) (in_left _ m)) })
      (each_both Q (L t xt) (L e xe ++ L r u) (each_subs (L t xt) (L c x) (λ p m. there (in_left _ m)) (subs t xt))
      (each_both Q (L e xe) (L r u) (each_subs (L e xe) (L c x) (λ p m. there (in_right (L t xt) (in_left _ m))) (subs e xe))
      (each_subs (L r u) (L c x) (λ p m. there (in_right (L t xt) (in_right (L e xe) m))) (subs r u))))
  subs (While n guard b r) x =
      let u = behind_it engine alg scope z (While n guard b r) x in
      each_more (HasSubs (E x (While n guard b r) ∷ L r u)) (E x (While n guard b r)) (L r u) tt (each_subs (L r u) (E x (While n guard b r) ∷ L r u) (λ p. there) (subs r u))
  subs (Call n call q r) x =
      let u = behind_it engine alg scope z (Call n call q r) x in
      each_more (HasSubs (E x (Call n call q r) ∷ L r u)) (E x (Call n call q r)) (L r u) tt (each_subs (L r u) (E x (Call n call q r) ∷ L r u) (λ p. there) (subs r u))
  subs (Break n r) x =
      let u = behind_it engine alg scope z (Break n r) x in
      each_more (HasSubs (E x (Break n r) ∷ L r u)) (E x (Break n r)) (L r u) tt (each_subs (L r u) (E x (Break n r) ∷ L r u) (λ p. there) (subs r u))

pub got : {A B : Type 0} (f : A → B) (xs : List A) (i : ℕ) (p : B) → slice_get (map f xs) i ≡ Some p → (u : A) × (slice_get xs i ≡ Some u) × (f u ≡ p) × Member u xs
got f [] i p e = absurd cc
got f (x ∷ xs) zero p e = (x, refl, cc, here)
got f (x ∷ xs) (suc i) p e = let r = got f xs i p e in (r.0, r.1, r.2, there r.3)

module _ {S : Type 0} (dom : Operations S) (engine : LoopOptions) where
  one_side : (f : S → S → S) (s : S) (v : Value S) → lift2 f (State s) v ≡ lift (f s) v
  one_side f s (State t) = refl
  one_side f s (Over n y) = refl

  pub next_iterate : (ms : List ℤ) (body : Value S → Value S) (a : Value S) (k : ℕ) (s : S) → iterate_at dom engine ms body a k ≡ State s → iterate_at dom engine ms body a (suc k) ≡ lift (next_of dom engine ms k s) (body (State s))
  next_iterate ms body a k s e = ap (λ v. lift2 (next_of dom engine ms k) v (body v)) e ∙ one_side (next_of dom engine ms k) s (body (State s))

  -- Where the fixed point is a state, that is the iterate at the loop's index, which is below the budget.
  abbrev IsIndexed : List ℤ → (Value S → Value S) → Value S → ℕ → Cell S → Type 0
  IsIndexed ms body a top c = (s : S) → c.value ≡ State s → (c.index < top) × (iterate_at dom engine ms body a c.index ≡ State s)

  indexed : (ms : List ℤ) (body : Value S → Value S) (a : Value S) (n : ℕ) (y : List ℕ) (left k : ℕ) (s : S) → iterate_at dom engine ms body a k ≡ State s → IsIndexed ms body a (k + left) (iterate dom engine ms body (Over n y) left k s)
  indexed ms body a n y zero k s e = λ u i. absurd cc
  indexed ms body a n y (suc left) k s e = settled (λ t i u j. let r = indexed ms body a n y left (suc k) t i u j in let l : _ < suc k + left = r.0 in (omega arith, r.1)) (lift (next_of dom engine ms k s) (body (State s))) refl
    where
      chosen : (b : Bool) (t : S) → IsIndexed ms body a (k + suc left) (iterate dom engine ms body (Over n y) left (suc k) t) → IsIndexed ms body a (k + suc left) (if b then cell (State s) k else iterate dom engine ms body (Over n y) left (suc k) t)
      chosen true t f = λ u j. (omega arith, e ∙ j)
      chosen false t f = f

      settled : ((t : S) → iterate_at dom engine ms body a (suc k) ≡ State t → IsIndexed ms body a (k + suc left) (iterate dom engine ms body (Over n y) left (suc k) t)) → (v : Value S) → lift (next_of dom engine ms k s) (body (State s)) ≡ v → IsIndexed ms body a (k + suc left) (settle dom engine k s v (iterate dom engine ms body (Over n y) left (suc k)))
      settled f (Over m x) i = λ u j. absurd cc
      settled f (State t) i = chosen (dom.same t s) t (f t (next_iterate ms body a k s e ∙ i))

  pub fix_index : (ms : List ℤ) (body : Value S → Value S) (n : ℕ) (y : List ℕ) (a : Value S) → IsIndexed ms body a engine.budget (fix dom engine ms body (Over n y) a)
  fix_index ms body n y (State s) u i = let r = indexed ms body (State s) n y engine.budget 0 s refl u i in let l : _ < 0 + engine.budget = r.0 in (omega arith, r.1)
  fix_index ms body n y (Over m x) u i = absurd cc

  -- joins after a loop
  pub joined_to_over : (i n : ℕ) (y : List ℕ) (xs : List (Value S)) → joined_to dom engine i (Over n y) xs ≡ Over n y
  joined_to_over zero n y xs = refl
  joined_to_over (suc i) n y xs = ap (λ v. with_one dom engine v (slice_get xs i)) (joined_to_over i n y xs) ∙ one (slice_get xs i)
    where
      one : (o : Option (Value S)) → with_one dom engine (Over n y) o ≡ Over n y
      one None = refl
      one (Some x) = refl

  joined_to_cons : (i : ℕ) (v x : Value S) (xs : List (Value S)) → joined_to dom engine (suc i) v (x ∷ xs) ≡ joined_to dom engine i (lift2 dom.join v x) xs
  joined_to_cons zero v x xs = refl
  joined_to_cons (suc i) v x xs = ap (λ u. with_one dom engine u (slice_get xs i)) (joined_to_cons i v x xs)

  pub joined_all : (v : Value S) (xs : List (Value S)) → joined dom engine v xs ≡ joined_to dom engine (length xs) v xs
  joined_all v [] = refl
  joined_all v (x ∷ xs) = joined_all (lift2 dom.join v x) xs ∙ sym (joined_to_cons (length xs) v x xs)

  module _ (layout : Layout) (scope : Scope) (z : List ℕ) where
    abbrev M : Type 0
    M = Mark (Cell S)

    abbrev pub value_of : M → Value S
    value_of m = m.value.value

    pub last_value : (c : Code) (x : M) → (last engine (values dom engine layout) scope z c x).value.value ≡ (block dom engine scope z c x.value.value).value
    last_value Stop x = refl
    last_value (Simple n effect r) x = last_value r _
    last_value (If n guard t e r) x = last_value r _
    last_value (While n guard b r) x = last_value r _
    last_value (Call n call q r) x = last_value r _
    last_value (Break n r) x = last_value r _

    pub leaves_value : (c : Code) (x : M) → map value_of (leaves engine (values dom engine layout) scope z c x) ≡ (block dom engine scope z c x.value.value).leaving
    leaves_value Stop x = refl
    leaves_value (Simple n effect r) x = leaves_value r _
    leaves_value (If n guard t e r) x = rw (map-append, map-append, leaves_value t, leaves_value e, leaves_value r, append_assoc) refl
    leaves_value (While n guard b r) x = leaves_value r _
    leaves_value (Call n call q r) x = leaves_value r _
    leaves_value (Break n r) x = ap (λ k. x.value.value ∷ k) (leaves_value r _)

    pub leaving_count : (c : Code) (a : Value S) → length (block dom engine scope z c a).leaving ≡ breaks c
    leaving_count Stop a = refl
    leaving_count (Simple n effect r) a = leaving_count r _
    leaving_count (If n guard t e r) a = rw (length-append, length-append, leaving_count t, leaving_count e, leaving_count r) (omega arith)
    leaving_count (While n guard b r) a = leaving_count r _
    leaving_count (Call n call q r) a = leaving_count r _
    leaving_count (Break n r) a = ap suc (leaving_count r _)

  pub with_over : (n : ℕ) (y : List ℕ) (o : Option (Value S)) → with_one dom engine (Over n y) o ≡ Over n y
  with_over n y None = refl
  with_over n y (Some x) = refl

  pub state_of : (g : S → S) (i : ℕ) (a : Value S) (xs : List (Value S)) (s : S) → joined_to dom engine i (lift g a) xs ≡ State s → (u : S) × (a ≡ State u)
  state_of g i (State u) xs s e = (u, refl)
  state_of g i (Over n y) xs s e = let o = joined_to_over i n y xs in absurd cc
