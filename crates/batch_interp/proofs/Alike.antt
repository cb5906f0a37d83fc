-- What a block gives depends on the call sites only where it is Over: an Over names its chain, and a state does not.
use Rattle.std.specs.Prelude.{◌≡◌, ℕ, zero, suc, ℤ, List, [], ◌∷◌, ◌++◌, length, map, Option, Some, None, option_map, true, false, if◌then◌else◌}
use Rattle.std.proofs.Common.{refl, sym, ap, subst, ◌∙◌}
use Rattle.std.proofs.lemmas.List.{map-append}
use Rattle.std.proofs.lemmas.Option.{same_Some}
use Rattle.base_values.proofs.Cases.{by_test}
use Rattle.imp_slots.specs.Plain.{Guard, Does, DoBreak, Code, Stop, Simple, If, While, Call, Break, Routine}
use Rattle.imp_chains.specs.Thresholds.{thresholds}
use Rattle.domain_laws.specs.Operations.{Operations}
use Rattle.batch_meaning.specs.Values.{Value, State, Over, lift, lift2}
use Rattle.batch_meaning.specs.Batch.{LoopOptions, Passed, Fixed, next_of, settle, iterate, fix, joined, head_of, behind, batch, procedure}
use Rattle.batch_interp.specs.Frames.{Plan, earlier, thresholds_at, calls_in, passed}

-- the state that a value is, if it is one
abbrev state_in : {S : Type 0} → Value S → Option S
state_in (State s) = Some s
state_in (Over n z) = None

-- Both are the same state, or both are Over.
abbrev Alike : {S : Type 0} → Value S → Value S → Type 0
Alike v w = state_in v ≡ state_in w

abbrev AllAlike : {S : Type 0} → List (Value S) → List (Value S) → Type 0
AllAlike vs ws = map state_in vs ≡ map state_in ws

abbrev PassedAlike : {S : Type 0} → Passed S → Passed S → Type 0
PassedAlike p q = Alike p.value q.value × AllAlike p.leaving q.leaving

abbrev both : {S : Type 0} → (S → S → S) → Option S → Option S → Option S
both f (Some s) (Some t) = Some (f s t)
both f (Some s) None = None
both f None o = None

lifted : {S : Type 0} (f : S → S) (v : Value S) → state_in (lift f v) ≡ option_map f (state_in v)
lifted f (State s) = refl
lifted f (Over n z) = refl

lift_alike : {S : Type 0} (f : S → S) (v w : Value S) → Alike v w → Alike (lift f v) (lift f w)
lift_alike f v w e = lifted f v ∙ ap (option_map f) e ∙ sym (lifted f w)

lifted2 : {S : Type 0} (f : S → S → S) (v w : Value S) → state_in (lift2 f v w) ≡ both f (state_in v) (state_in w)
lifted2 f (State s) (State t) = refl
lifted2 f (State s) (Over n z) = refl
lifted2 f (Over n z) w = refl

lift2_alike : {S : Type 0} (f : S → S → S) (v w x y : Value S) → Alike v w → Alike x y → Alike (lift2 f v x) (lift2 f w y)
lift2_alike f v w x y e h = lifted2 f v x ∙ (λ i. both f (e i) (h i)) ∙ sym (lifted2 f w y)

appended_alike : {S : Type 0} (vs ws xs ys : List (Value S)) → AllAlike vs ws → AllAlike xs ys → AllAlike (vs ++ xs) (ws ++ ys)
appended_alike vs ws xs ys e h = map-append state_in vs xs ∙ (λ i. e i ++ h i) ∙ sym (map-append state_in ws ys)

same_state : {S : Type 0} (v : Value S) (s : S) → state_in v ≡ Some s → v ≡ State s
same_state (State t) s e = ap State (same_Some t s e)
same_state (Over n z) s e = absurd cc

module _ {S : Type 0} (dom : Operations S) (engine : LoopOptions) where
  all_joined : Option S → List (Option S) → Option S
  all_joined o [] = o
  all_joined o (p ∷ ps) = all_joined (both dom.join o p) ps

  joined_states : (v : Value S) (vs : List (Value S)) → state_in (joined dom engine v vs) ≡ all_joined (state_in v) (map state_in vs)
  unfolding all_joined
  joined_states v [] = refl
  joined_states v (x ∷ xs) = joined_states (lift2 dom.join v x) xs ∙ ap (λ o. all_joined o (map state_in xs)) (lifted2 dom.join v x)

  joined_alike : (v w : Value S) (vs ws : List (Value S)) → Alike v w → AllAlike vs ws → Alike (joined dom engine v vs) (joined dom engine w ws)
  joined_alike v w vs ws e h = joined_states v vs ∙ (λ i. all_joined (e i) (h i)) ∙ sym (joined_states w ws)

  settled_here : (k : ℕ) (s t : S) (go there : S → Fixed S) → ((u : S) → Alike (go u).value (there u).value) → Alike (settle dom engine k s (State t) go).value (settle dom engine k s (State t) there).value
  settled_here k s t go there h = elim (dom.same t s) as (λ b. let stop : Fixed S = record { value = State s; index = k } in Alike (if b then stop else go t).value (if b then stop else there t).value) [ true ↦ refl | false ↦ h t ]

  settled : (k : ℕ) (s : S) (v w : Value S) (go there : S → Fixed S) → Alike v w → ((u : S) → Alike (go u).value (there u).value) → Alike (settle dom engine k s v go).value (settle dom engine k s w there).value
  settled k s (State t) (State u) go there e h = subst (λ x. Alike (settle dom engine k s (State t) go).value (settle dom engine k s (State x) there).value) (same_Some t u e) (settled_here k s t go there h)
  settled k s (State t) (Over n z) go there e h = absurd cc
  settled k s (Over n z) (State t) go there e h = absurd cc
  settled k s (Over n z) (Over m y) go there e h = refl

  -- bodies that give alike values from alike ones
  abbrev BodiesAlike : (body other : Value S → Value S) → Type 0
  BodiesAlike body other = (v w : Value S) → Alike v w → Alike (body v) (other w)

  iterated : (ms : List ℤ) (body other : Value S → Value S) (n m : ℕ) (z y : List ℕ) → BodiesAlike body other → (left k : ℕ) (s : S) → Alike (iterate dom engine ms body (Over n z) left k s).value (iterate dom engine ms other (Over m y) left k s).value
  iterated ms body other n m z y h zero k s = refl
  iterated ms body other n m z y h (suc left) k s =
      settled k s (lift (next_of dom engine ms k s) (body (State s))) (lift (next_of dom engine ms k s) (other (State s)))
      (iterate dom engine ms body (Over n z) left (suc k))
      (iterate dom engine ms other (Over m y) left (suc k))
      (lift_alike (next_of dom engine ms k s) (body (State s)) (other (State s)) (h (State s) (State s) refl))
      (iterated ms body other n m z y h left (suc k))

  fixed : (ms : List ℤ) (body other : Value S → Value S) (n m : ℕ) (z y : List ℕ) → BodiesAlike body other → (v w : Value S) → Alike v w → Alike (fix dom engine ms body (Over n z) v).value (fix dom engine ms other (Over m y) w).value
  fixed ms body other n m z y h (State s) (State t) e = subst (λ x. Alike (fix dom engine ms body (Over n z) (State s)).value (fix dom engine ms other (Over m y) (State x)).value) (same_Some s t e) (iterated ms body other n m z y h engine.budget 0 s)
  fixed ms body other n m z y h (State s) (Over k x) e = absurd cc
  fixed ms body other n m z y h (Over k x) (State s) e = absurd cc
  fixed ms body other n m z y h (Over k x) (Over j u) e = refl

  abbrev BlocksAlike : (block other : Value S → Passed S) → Type 0
  BlocksAlike block other = (v w : Value S) → Alike v w → PassedAlike (block v) (other w)

  head_alike : (ms : List ℤ) (z y : List ℕ) (n : ℕ) (g : Guard) (body other : Value S → Passed S) → BlocksAlike body other → (v w : Value S) → Alike v w → Alike (head_of dom engine ms z n g body v).value (head_of dom engine ms y n g other w).value
  head_alike ms z y n g body other h =
      fixed ms (λ x. (body (lift (dom.assume g true) x)).value) (λ x. (other (lift (dom.assume g true) x)).value) n n z y
      (λ v w e. (h (lift (dom.assume g true) v) (lift (dom.assume g true) w) (lift_alike (dom.assume g true) v w e)).0)

  behind_alike : (g : Guard) (body other : Value S → Passed S) → BlocksAlike body other → (v w : Value S) → Alike v w → Alike (behind dom engine g body v) (behind dom engine g other w)
  behind_alike g body other h v w e =
      joined_alike (lift (dom.assume g false) v) (lift (dom.assume g false) w) (body (lift (dom.assume g true) v)).leaving (other (lift (dom.assume g true) w)).leaving
      (lift_alike (dom.assume g false) v w e)
      (h (lift (dom.assume g true) v) (lift (dom.assume g true) w) (lift_alike (dom.assume g true) v w e)).1

  module _ (ms : List ℤ) (z y : List ℕ) (calls others : (n q : ℕ) → Value S → Value S) (told : (n q : ℕ) → BodiesAlike (calls n q) (others n q)) where
    blocks_alike : (c : Code) → BlocksAlike (batch dom engine ms z calls c) (batch dom engine ms y others c)
    blocks_alike Stop v w e = (e, refl)
    blocks_alike (Simple n a r) v w e = blocks_alike r (lift (dom.post (Does a)) v) (lift (dom.post (Does a)) w) (lift_alike (dom.post (Does a)) v w e)
    blocks_alike (If n g t f r) v w e =
        let a = batch dom engine ms z calls t (lift (dom.assume g true) v) in
        let b = batch dom engine ms y others t (lift (dom.assume g true) w) in
        let c = batch dom engine ms z calls f (lift (dom.assume g false) v) in
        let d = batch dom engine ms y others f (lift (dom.assume g false) w) in
        let p = blocks_alike t (lift (dom.assume g true) v) (lift (dom.assume g true) w) (lift_alike (dom.assume g true) v w e) in
        let q = blocks_alike f (lift (dom.assume g false) v) (lift (dom.assume g false) w) (lift_alike (dom.assume g false) v w e) in
        let s = blocks_alike r (lift2 dom.join a.value c.value) (lift2 dom.join b.value d.value) (lift2_alike dom.join a.value b.value c.value d.value p.0 q.0) in
        (s.0, appended_alike (a.leaving ++ c.leaving) (b.leaving ++ d.leaving) (batch dom engine ms z calls r (lift2 dom.join a.value c.value)).leaving (batch dom engine ms y others r (lift2 dom.join b.value d.value)).leaving (appended_alike a.leaving b.leaving c.leaving d.leaving p.1 q.1) s.1)
    blocks_alike (While n g b r) v w e =
        let body = batch dom engine ms z calls b in
        let other = batch dom engine ms y others b in
        let head = (head_of dom engine ms z n g body v).value in
        let side = (head_of dom engine ms y n g other w).value in
        blocks_alike r (behind dom engine g body head) (behind dom engine g other side)
        (behind_alike g body other (blocks_alike b) head side (head_alike ms z y n g body other (blocks_alike b) v w e))
    blocks_alike (Call n i q r) v w e =
        let x = calls n q (lift (dom.enter i.entering) v) in
        let u = others n q (lift (dom.enter i.entering) w) in
        blocks_alike r (lift2 (dom.leave i.returning) v x) (lift2 (dom.leave i.returning) w u)
        (lift2_alike (dom.leave i.returning) v w x u e (told n q (lift (dom.enter i.entering) v) (lift (dom.enter i.entering) w) (lift_alike (dom.enter i.entering) v w e)))
    blocks_alike (Break n r) v w e =
        let p = blocks_alike r (lift (dom.post DoBreak) v) (lift (dom.post DoBreak) w) (lift_alike (dom.post DoBreak) v w e) in
        (p.0, (λ i. e i ∷ p.1 i))

  procedures_alike : (rs : List Routine) (z y : List ℕ) (q : ℕ) → BodiesAlike (procedure dom engine rs z q) (procedure dom engine rs y q)
  procedures_alike [] z y q v w e = e
  procedures_alike (r ∷ rest) z y q v w e =
      by_test q (length rest) (λ c. Alike (if c then (batch dom engine (thresholds engine.widening r) z (λ n. procedure dom engine rest (n ∷ z)) r.code v).value else procedure dom engine rest z q v) (if c then (batch dom engine (thresholds engine.widening r) y (λ n. procedure dom engine rest (n ∷ y)) r.code w).value else procedure dom engine rest y q w))
      (λ k. (blocks_alike (thresholds engine.widening r) z y (λ n. procedure dom engine rest (n ∷ z)) (λ n. procedure dom engine rest (n ∷ y)) (λ n p. procedures_alike rest (n ∷ z) (n ∷ y) p) r.code v w e).0)
      (λ k. procedures_alike rest z y q v w e)

module _ {S : Type 0} (dom : Operations S) (plan : Plan) where
  -- a block that gives a state under some call sites gives it under any others
  pub under_any_sites : (place : ℕ) (z y : List ℕ) (c : Code) (s t : S) → (passed dom plan place z c (State s)).value ≡ State t → (passed dom plan place y c (State s)).value ≡ State t
  under_any_sites place z y c s t e =
      let told = λ (n q : ℕ). procedures_alike dom plan.engine (earlier plan.program place) (n ∷ z) (n ∷ y) q in
      let same = (blocks_alike dom plan.engine (thresholds_at plan place) z y (calls_in dom plan place z) (calls_in dom plan place y) told c (State s) (State s) refl).0 in
      same_state (passed dom plan place y c (State s)).value t (sym same ∙ ap state_in e)
