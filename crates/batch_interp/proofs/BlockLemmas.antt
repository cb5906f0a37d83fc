-- One step of each kind of statement, over plain variables.
use Rattle.std.proofs.Common.{Result, Ok, Err, IfOk, Some, slice_get, take, ℕ, suc, ◌≡◌, ◌+◌, ◌<◌, ◌≤◌, ℤ, true, false, List, [], ◌∷◌, ◌++◌, length, drop, get_or, refl, sym, ap, subst, ◌∙◌, append_assoc}
use Rattle.imp_slots.specs.Plain.{Routine, Guard, Code, Stop, Simple, If, While, Call, Break}
use Rattle.imp_slots.specs.BlockViews.{before_code, code_of}
use Rattle.imp_slots.specs.declared.blocks.SlotNode.{SlotNode}
use Rattle.imp_slots.specs.declared.blocks.SlotNode.TheVariants as node
use Rattle.domain_laws.specs.Operations.{Operations}
use Rattle.batch_meaning.specs.Values as plain
use Rattle.batch_meaning.specs.Values.{Value, lift, lift2}
use Rattle.batch_meaning.specs.Batch as meaning
use Rattle.batch_meaning.specs.Batch.{LoopOptions, Passed, with_leaving, next_of, settle, iterate, joined, behind, batch}
use Rattle.batch_interp.specs.Answered.{value_of}
use Rattle.batch_interp.specs.Frames.{Plan, body_of, body_at, calls_in, passed}
use Rattle.batch_interp.specs.Passing.{states, Ends}
use Rattle.batch_interp.specs.declared.frames.CallFrame.{CallFrame}
use Rattle.batch_interp.specs.declared.value.Answer.{Answer}
use Rattle.batch_interp.specs.declared.value.Answer.TheVariants.{State, Over}
use Rattle.batch_interp.proofs.Procedures.{call_there}
use Rattle.base_values.proofs.Lists.{drop_item, get_take}
use Rattle.std.proofs.lemmas.List.{drop_all, append-nil}

module _ {S : Type 0} (dom : Operations S) (engine : LoopOptions) where
  pub joined_step : (xs : List S) (i : ℕ) (all x t : S) → i < length xs → x ≡ get_or xs i x → t ≡ dom.join all x → joined dom engine (plain.State t) (states (drop (i + 1) xs)) ≡ joined dom engine (plain.State all) (states (drop i xs))
  joined_step xs i all x t h e k = ap (λ u. joined dom engine (plain.State u) (states (drop (i + 1) xs))) k ∙ sym (ap (λ ys. joined dom engine (plain.State all) (states ys)) (drop_item xs i x h e))

  pub joined_end : (xs : List S) (i : ℕ) (all : S) → length xs ≤ i → joined dom engine (plain.State all) (states (drop i xs)) ≡ plain.State all
  joined_end xs i all h = ap (λ ys. joined dom engine (plain.State all) (states ys)) (drop_all i xs h)

  joined_over : (n : ℕ) (y : List ℕ) (xs : List (Value S)) → joined dom engine (plain.Over n y) xs ≡ plain.Over n y
  joined_over n y [] = refl
  joined_over n y (x ∷ xs) = joined_over n y xs

  pub behind_over : (n : ℕ) (y : List ℕ) (g : Guard) (body : Value S → Passed S) → behind dom engine g body (plain.Over n y) ≡ plain.Over n y
  behind_over n y g body = joined_over n y (body (plain.Over n y)).leaving

  pub behind_state : (g : Guard) (body : Value S → Passed S) (v : Value S) (head out : S) (leaving : List S) → v ≡ plain.State head → (body (lift (dom.assume g true) (plain.State head))).leaving ≡ states leaving → out ≡ dom.assume g false head → behind dom engine g body v ≡ joined dom engine (plain.State out) (states leaving)
  behind_state g body v head out leaving e l o = ap (behind dom engine g body) e ∙ (let p : dom.assume g false head ≡ out = sym o in λ i. joined dom engine (plain.State (p i)) (l i))

  pub while_at : (g : Guard) (body : Value S → Passed S) (v : Value S) (head out all : S) (leaving others : List S) → v ≡ plain.State head → (body (lift (dom.assume g true) (plain.State head))).leaving ≡ states leaving → out ≡ dom.assume g false head → others ≡ leaving → plain.State all ≡ joined dom engine (plain.State out) (states others) → plain.State all ≡ behind dom engine g body v
  while_at g body v head out all leaving others e l o same j =
      j ∙ ap (λ xs. joined dom engine (plain.State out) (states xs)) same ∙ sym (behind_state g body v head out leaving e l o)

  pub while_over : (g : Guard) (body : Value S → Passed S) (v : Value S) (n : ℕ) (y : List ℕ) → v ≡ plain.Over n y → plain.Over n y ≡ behind dom engine g body v
  while_over g body v n y e = sym (ap (behind dom engine g body) e ∙ behind_over n y g body)

pub ends_value : {S : Type 0} (before behind : List S) (p : Passed S) (a : Answer S) → Ends before behind p a → value_of a ≡ p.value
ends_value {S} before behind p (State t) h = sym (ap (λ (p : Passed S). p.value) h)
ends_value before behind p (Over n chain) h = sym h

pub ends_along : {S A E : Type 0} (r : Result (Answer S) E) (before behind : List S) (p : A → Passed S) (a b : A) → IfOk r (Ends before behind (p a)) → a ≡ b → IfOk r (Ends before behind (p b))
ends_along (Err e) before behind p a b h k = h
ends_along (Ok x) before behind p a b h k = subst (λ c. Ends before behind (p c) x) k h

module _ {S : Type 0} (dom : Operations S) (plan : Plan) where
  -- the body of a procedure that is called
  pub of_callee : {E : Type 0} (r : Result (Answer S) E) (place : ℕ) (z : List ℕ) (n q : ℕ) (routine : Routine) (code : Code) (inner : CallFrame) (a : Value S) → Some routine ≡ slice_get (take place plan.program) q → inner ≡ record { place = q; sites = n ∷ z } → code ≡ routine.code → IfOk r (λ x. value_of x ≡ (passed dom plan inner.place inner.sites code a).value) → IfOk r (λ x. value_of x ≡ calls_in dom plan place z n q a)
  of_callee (Err e) place z n q routine code inner a there same body h = h
  of_callee (Ok x) place z n q routine code inner a there same body h =
      let here : (passed dom plan inner.place inner.sites code a).value ≡ (passed dom plan q (n ∷ z) routine.code a).value = λ i. (passed dom plan (same i).place (same i).sites (body i) a).value in
      h ∙ here ∙ sym (call_there dom plan place z n q routine a (sym there))

  -- what a body gives, from a copy of the state
  pub gave_before : (place : ℕ) (z : List ℕ) (code : Code) (entered before : S) (v : Value S) → code ≡ body_at plan.program place → before ≡ entered → v ≡ (passed dom plan place z code (plain.State entered)).value → (passed dom plan place z (body_at plan.program place) (plain.State before)).value ≡ v
  gave_before place z code entered before v body same h =
      let here : (passed dom plan place z code (plain.State entered)).value ≡ (passed dom plan place z (body_at plan.program place) (plain.State entered)).value = ap (λ b. (passed dom plan place z b (plain.State entered)).value) body in
      ap (λ s. (passed dom plan place z (body_at plan.program place) (plain.State s)).value) same ∙ sym (h ∙ here)

pub of_callee_body : (program : List Routine) (place q k : ℕ) (routine : Routine) (code : Code) → Some routine ≡ slice_get (take place program) q → k ≡ q → code ≡ routine.code → code ≡ body_at program k
of_callee_body program place q k routine code there same body =
    body ∙ ap body_of (sym (get_take program place q routine (sym there))) ∙ ap (body_at program) (sym same)

module _ {S : Type 0} (dom : Operations S) (engine : LoopOptions) (thresholds : List ℤ) (z : List ℕ) (calls : (n q : ℕ) → Value S → Value S) where
  abbrev B : Code → Value S → Passed S
  B = batch dom engine thresholds z calls

  pub over_batch : (c : Code) (n : ℕ) (y : List ℕ) → (batch dom engine thresholds z calls c (plain.Over n y)).value ≡ plain.Over n y
  over_batch Stop n y = refl
  over_batch (Simple m e r) n y = over_batch r n y
  over_batch (If m g t e r) n y = ap (λ v. (B r (lift2 dom.join v (B e (plain.Over n y)).value)).value) (over_batch t n y) ∙ over_batch r n y
  over_batch (While m g b r) n y = ap (λ v. (B r v).value) (behind_over dom engine n y g (B b)) ∙ over_batch r n y
  over_batch (Call m i q r) n y = over_batch r n y
  over_batch (Break m r) n y = over_batch r n y

  -- a statement, and what comes after it
  batch_before : (s : SlotNode) (r : Code) (a : Value S) → B (before_code s r) a ≡ with_leaving (B (before_code s Stop) a).leaving (B r (B (before_code s Stop) a).value)
  batch_before (node.Simple n e) r a = refl
  batch_before (node.If n g t e) r a =
      let x = B t (lift (dom.assume g true) a) in
      let y = B e (lift (dom.assume g false) a) in
      ap (λ ls. with_leaving ls (B r (lift2 dom.join x.value y.value))) (sym (append-nil (x.leaving ++ y.leaving)))
  batch_before (node.While n g b) r a = refl
  batch_before (node.Call n i q) r a = refl
  batch_before (node.Break n) r a = refl

  step_on : (s : SlotNode) (r : Code) (now next : S) (before behind : List S) → Ends before behind (B (before_code s Stop) (plain.State now)) (State next) → with_leaving (states behind) (B r (plain.State next)) ≡ with_leaving (states before) (B (before_code s r) (plain.State now))
  step_on s r now next before behind h =
      let q = B (before_code s Stop) (plain.State now) in
      let v : plain.State next ≡ q.value = sym (ap (λ (p : Passed S). p.value) h) in
      let l : states behind ≡ states before ++ q.leaving = sym (ap (λ (p : Passed S). p.leaving) h) in
      (λ i. with_leaving (l i) (B r (v i)))
      ∙ ap (λ ls. record { value = (B r q.value).value; leaving = ls }) (append_assoc (states before) q.leaving (B r q.value).leaving)
      ∙ ap (with_leaving (states before)) (sym (batch_before s r (plain.State now)))

  block_step : (ss : List SlotNode) (i : ℕ) (s : SlotNode) (now next : S) (before behind : List S) → i < length ss → s ≡ get_or ss i s → Ends before behind (B (before_code s Stop) (plain.State now)) (State next) → with_leaving (states behind) (B (code_of (drop (i + 1) ss)) (plain.State next)) ≡ with_leaving (states before) (B (code_of (drop i ss)) (plain.State now))
  block_step ss i s now next before behind h e k =
      step_on s (code_of (drop (i + 1) ss)) now next before behind k ∙ ap (λ xs. with_leaving (states before) (B (code_of xs) (plain.State now))) (sym (drop_item ss i s h e))

  -- a block of which one more statement is after
  pub block_on : (ss : List SlotNode) (i : ℕ) (s : SlotNode) (now next : S) (before middle behind : List S) (all : Passed S) → with_leaving (states middle) (B (code_of (drop i ss)) (plain.State now)) ≡ with_leaving (states before) all → i < length ss → s ≡ get_or ss i s → Ends middle behind (B (before_code s Stop) (plain.State now)) (State next) → with_leaving (states behind) (B (code_of (drop (i + 1) ss)) (plain.State next)) ≡ with_leaving (states before) all
  block_on ss i s now next before middle behind all told h e k = block_step ss i s now next middle behind h e k ∙ told

  block_over : (ss : List SlotNode) (i : ℕ) (s : SlotNode) (now : S) (n : ℕ) (y : List ℕ) → i < length ss → s ≡ get_or ss i s → (B (before_code s Stop) (plain.State now)).value ≡ plain.Over n y → (B (code_of (drop i ss)) (plain.State now)).value ≡ plain.Over n y
  block_over ss i s now n y h e k =
      let r = code_of (drop (i + 1) ss) in
      ap (λ xs. (B (code_of xs) (plain.State now)).value) (drop_item ss i s h e)
      ∙ ap (λ (p : Passed S). p.value) (batch_before s r (plain.State now))
      ∙ ap (λ v. (B r v).value) k
      ∙ over_batch r n y

  -- a block of which what is left is Over
  pub block_left : (ss : List SlotNode) (i : ℕ) (s : SlotNode) (now : S) (n : ℕ) (y : List ℕ) (before behind : List S) (all : Passed S) → with_leaving (states behind) (B (code_of (drop i ss)) (plain.State now)) ≡ with_leaving (states before) all → i < length ss → s ≡ get_or ss i s → (B (before_code s Stop) (plain.State now)).value ≡ plain.Over n y → all.value ≡ plain.Over n y
  block_left ss i s now n y before behind all told h e k = sym (ap (λ (p : Passed S). p.value) told) ∙ block_over ss i s now n y h e k

  pub block_end : (ss : List SlotNode) (i : ℕ) (now : S) (before : List S) → length ss ≤ i → with_leaving (states before) (B (code_of (drop i ss)) (plain.State now)) ≡ record { value = plain.State now; leaving = states before }
  block_end ss i now before h =
      ap (λ xs. with_leaving (states before) (B (code_of xs) (plain.State now))) (drop_all i ss h)
      ∙ ap (λ ls. record { value = plain.State now; leaving = ls }) (append-nil (states before))

  -- a round of a loop
  abbrev F : Guard → Code → (over : Value S) → (left k : ℕ) → S → meaning.Fixed S
  F g b over = iterate dom engine thresholds (λ x. (B b (lift (dom.assume g true) x)).value) over

  pub round_over : (g : Guard) (b : Code) (over : Value S) (s : S) (left rest k : ℕ) (n : ℕ) (y : List ℕ) → left ≡ suc rest → (B b (plain.State (dom.assume g true s))).value ≡ plain.Over n y → F g b over left k s ≡ record { value = plain.Over n y; index = 0 }
  round_over g b over s left rest k n y e h =
      ap (λ m. F g b over m k s) e ∙ ap (λ v. settle dom engine k s (lift (next_of dom engine thresholds k s) v) (F g b over rest (suc k))) h

  -- the next iterate of a round that ends
  next_here : (g : Guard) (b : Code) (over : Value S) (s end next : S) (left rest k : ℕ) (before behind : List S) → left ≡ suc rest → Ends before behind (B b (plain.State (dom.assume g true s))) (State end) → next ≡ next_of dom engine thresholds k s end → F g b over left k s ≡ settle dom engine k s (plain.State next) (F g b over rest (suc k))
  next_here g b over s end next left rest k before behind e h m =
      let v : (B b (plain.State (dom.assume g true s))).value ≡ plain.State end = ap (λ (p : Passed S). p.value) h in
      ap (λ m. F g b over m k s) e ∙ ap (λ v. settle dom engine k s (lift (next_of dom engine thresholds k s) v) (F g b over rest (suc k))) v ∙ ap (λ u. settle dom engine k s (plain.State u) (F g b over rest (suc k))) (sym m)

  pub round_stops : (g : Guard) (b : Code) (over : Value S) (s end next : S) (left rest k : ℕ) (before behind : List S) → left ≡ suc rest → Ends before behind (B b (plain.State (dom.assume g true s))) (State end) → next ≡ next_of dom engine thresholds k s end → dom.same next s ≡ true → F g b over left k s ≡ record { value = plain.State s; index = k }
  round_stops g b over s end next left rest k before behind e h m t =
      next_here g b over s end next left rest k before behind e h m ∙ rw t refl

  pub round_goes_on : (g : Guard) (b : Code) (over : Value S) (s end next : S) (left rest k : ℕ) (before behind : List S) → left ≡ suc rest → Ends before behind (B b (plain.State (dom.assume g true s))) (State end) → next ≡ next_of dom engine thresholds k s end → dom.same next s ≡ false → F g b over left k s ≡ F g b over rest (suc k) next
  round_goes_on g b over s end next left rest k before behind e h m t =
      next_here g b over s end next left rest k before behind e h m ∙ rw t refl

  pub stopped : (g : Guard) (b : Code) (s end : S) (before behind : List S) → before ≡ [] → Ends before behind (B b (plain.State (dom.assume g true s))) (State end) → (B b (lift (dom.assume g true) (plain.State s))).leaving ≡ states behind
  stopped g b s end before behind none h =
      let p = B b (plain.State (dom.assume g true s)) in
      let ls : states [] ++ p.leaving ≡ states before ++ p.leaving = ap (λ xs. states xs ++ p.leaving) (sym none) in
      ls ∙ ap (λ (p : Passed S). p.leaving) h
