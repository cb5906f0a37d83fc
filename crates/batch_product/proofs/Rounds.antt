-- A loop's iterates: the part that is done stays as it is while the other goes on, since loops widen from the first round on.
use Rattle.std.specs.Prelude.{◌≡◌, ◌↔◌, ℕ, zero, suc, nat_lt, ℤ, List, Bool, true, false, ◌&&◌, if◌then◌else◌}
use Rattle.std.proofs.Common.{refl, sym, ap, ◌∙◌, arith, subst}
use Rattle.std.proofs.lemmas.Bool.Decides.{nat_tests}
use Rattle.domain_laws.specs.Operations.{Operations}
use Rattle.dom_product_meaning.specs.Product.{product}
use Rattle.batch_meaning.specs.Values.{Value, State, Over, lift}
use Rattle.batch_meaning.specs.Batch.{LoopOptions, Fixed, next_of, settle, iterate, fix}
use Rattle.batch_product.proofs.Values.{IsPair, pair_over, pair_lift}

-- equality of states decides
abbrev pub Decides : {S : Type 0} → Operations S → Type 0
Decides {S} dom = (s t : S) → (dom.same s t ≡ true) ↔ (s ≡ t)

module _ (engine : LoopOptions) (at_once : engine.widening.delay ≡ 0) (ms : List ℤ) (n : ℕ) (z : List ℕ) where
  late : (k : ℕ) → nat_lt k engine.widening.delay ≡ false
  late k = grind (arith, nat_tests)

  module _ {S : Type 0} (dom : Operations S) (body : Value S → Value S) where
    abbrev iterates : (left k : ℕ) → S → Fixed S
    iterates = iterate dom engine ms body (Over n z)

    -- the next iterate, that of a widening
    abbrev widened : S → Value S
    widened s = lift (dom.widen ms s) (body (State s))

    next : (k : ℕ) (s t : S) → next_of dom engine ms k s t ≡ dom.widen ms s t
    next k s t = ap (λ c. if c then dom.join s t else dom.widen ms s t) (late k)

    round : (left k : ℕ) (s : S) → iterates (suc left) k s ≡ settle dom engine k s (widened s) (iterates left (suc k))
    round left k s = λ i. settle dom engine k s (lift (λ t. next k s t i) (body (State s))) (iterates left (suc k))

    -- an iterate that the next is equal to stays
    still : Decides dom → (left k : ℕ) (s : S) → widened s ≡ State s → (iterates (suc left) k s).value ≡ State s
    still decides left k s e =
        ap (λ (x : Fixed S). x.value) (round left k s) ∙
        (ap (λ v. (settle dom engine k s v (iterates left (suc k))).value) e ∙
        ap (λ c. (if c then record { value = State s; index = k } else iterates left (suc k) s).value) ((decides s s).1 refl))

  module _ {S T : Type 0} (a : Operations S) (b : Operations T) (da : Decides a) (db : Decides b) (f : Value S → Value S) (g : Value T → Value T) (h : Value (S × T) → Value (S × T))
      (pairs : (v : Value S) (w : Value T) (u : Value (S × T)) → IsPair v w u → IsPair (f v) (g w) (h u)) where
    abbrev first : (left k : ℕ) → S → Value S
    first left k s = (iterates a f left k s).value

    abbrev second : (left k : ℕ) → T → Value T
    second left k t = (iterates b g left k t).value

    abbrev whole : (left k : ℕ) → S → T → Value (S × T)
    whole left k s t = (iterates (product a b) h left k (s, t)).value

    -- the first part is done
    first_done : (left k : ℕ) (s : S) (t y : T) (e : widened a f s ≡ State s) → IsPair (first left (suc k) s) (second left (suc k) y) (whole left (suc k) s y) → IsPair (State s) (second left (suc k) y) (whole left (suc k) s y)
    first_done zero k s t y e d = tt
    first_done (suc left) k s t y e d = subst (λ v. IsPair v (second (suc left) (suc k) y) (whole (suc left) (suc k) s y)) (still a f da left (suc k) s e) d

    second_done : (left k : ℕ) (s x : S) (t : T) (e : widened b g t ≡ State t) → IsPair (first left (suc k) x) (second left (suc k) t) (whole left (suc k) x t) → IsPair (first left (suc k) x) (State t) (whole left (suc k) x t)
    second_done zero k s x t e d = tt
    second_done (suc left) k s x t e d = subst (λ w. IsPair (first (suc left) (suc k) x) w (whole (suc left) (suc k) x t)) (still b g db left (suc k) t e) d

    -- what the iterates from s on come to, where x is the next one, by whether the two are equal
    abbrev chosen_first : (is_done : Bool) (left k : ℕ) (s x : S) → Value S
    chosen_first is_done left k s x = (if is_done then record { value = State s; index = k } else iterates a f left (suc k) x).value

    abbrev chosen_second : (is_done : Bool) (left k : ℕ) (t y : T) → Value T
    chosen_second is_done left k t y = (if is_done then record { value = State t; index = k } else iterates b g left (suc k) y).value

    abbrev chosen_whole : (is_done : Bool) (left k : ℕ) (s x : S) (t y : T) → Value (S × T)
    chosen_whole is_done left k s x t y = (if is_done then record { value = State (s, t); index = k } else iterates (product a b) h left (suc k) (x, y)).value

    -- one round, from what the next ones come to
    settled : (left k : ℕ) (s : S) (t : T) (v : Value S) (w : Value T) (u : Value (S × T)) → widened a f s ≡ v → widened b g t ≡ w → IsPair v w u → ((x : S) (y : T) → IsPair (first left (suc k) x) (second left (suc k) y) (whole left (suc k) x y)) →
        IsPair (settle a engine k s v (iterates a f left (suc k))).value (settle b engine k t w (iterates b g left (suc k))).value (settle (product a b) engine k (s, t) u (iterates (product a b) h left (suc k))).value
    settled left k s t (Over m y) w u ev ew e more = tt
    settled left k s t (State x) (Over m y) u ev ew e more = pair_over m y (settle a engine k s (State x) (iterates a f left (suc k))).value _
    settled left k s t (State x) (State y) u ev ew e more =
        subst (λ u. IsPair (settle a engine k s (State x) (iterates a f left (suc k))).value (settle b engine k t (State y) (iterates b g left (suc k))).value (settle (product a b) engine k (s, t) u (iterates (product a b) h left (suc k))).value) (sym e)
        (by (a.same x s) (b.same y t) refl refl)
      where
        by : (c d : Bool) → a.same x s ≡ c → b.same y t ≡ d →
            IsPair (chosen_first c left k s x) (chosen_second d left k t y) (chosen_whole (c && d) left k s x t y)
        by true true i j = refl
        by true false i j =
            let same : x ≡ s = (da x s).0 i in
            subst (λ (x : S). IsPair (State s) (second left (suc k) y) (whole left (suc k) x y)) (sym same)
            (first_done left k s t y (ev ∙ ap State same) (more s y))
        by false true i j =
            let same : y ≡ t = (db y t).0 j in
            subst (λ (y : T). IsPair (first left (suc k) x) (State t) (whole left (suc k) x y)) (sym same)
            (second_done left k s x t (ew ∙ ap State same) (more x t))
        by false false i j = more x y

    rounds : (left k : ℕ) (s : S) (t : T) → IsPair (first left k s) (second left k t) (whole left k s t)
    rounds zero k s t = tt
    rounds (suc left) k s t =
        let p = product a b in
        let e = pairs (State s) (State t) (State (s, t)) refl in
        let d = pair_lift (a.widen ms s) (b.widen ms t) (f (State s)) (g (State t)) (h (State (s, t))) e in
        let r = settled left k s t (widened a f s) (widened b g t) (widened p h (s, t)) refl refl d (rounds left (suc k)) in
        subst (λ (x : Fixed S). IsPair x.value (second (suc left) k t) (whole (suc left) k s t)) (sym (round a f left k s))
        (subst (λ (x : Fixed T). IsPair (settle a engine k s (widened a f s) (iterates a f left (suc k))).value x.value (whole (suc left) k s t)) (sym (round b g left k t))
        (subst (λ (x : Fixed (S × T)). IsPair (settle a engine k s (widened a f s) (iterates a f left (suc k))).value (settle b engine k t (widened b g t) (iterates b g left (suc k))).value x.value) (sym (round p h left k (s, t))) r))

    -- what the iterates come to
    pub pair_fix : (v : Value S) (w : Value T) (u : Value (S × T)) → IsPair v w u → IsPair (fix a engine ms f (Over n z) v).value (fix b engine ms g (Over n z) w).value (fix (product a b) engine ms h (Over n z) u).value
    pair_fix (State s) (State t) u e = subst (λ u. IsPair (first engine.budget 0 s) (second engine.budget 0 t) (fix (product a b) engine ms h (Over n z) u).value) (sym e) (rounds engine.budget 0 s t)
    pair_fix (State s) (Over m y) u e = pair_over m y (first engine.budget 0 s) _
    pair_fix (Over m y) w u e = tt
