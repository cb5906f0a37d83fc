-- Statements found by their numbers, one at a time.
use Rattle.std.proofs.Common.{ℕ, ◌≡◌, ◌≢◌, ◌+◌, ◌<◌, ◌||◌, true, false, List, [], ◌∷◌, ◌++◌, length, drop, get_or, Some, None, refl, sym, ap, ◌∙◌, append_assoc}
use Rattle.std.specs.Prelude.{if◌then◌else◌}
use Rattle.base_values.proofs.Members.{keys, keys_both}
use Rattle.imp_slots.specs.Plain.{Guard, Does, DoBreak, Code, Stop, Simple, If, While, Call, Break, code_numbers}
use Rattle.imp_slots.specs.BlockViews.{before_code, code_of, number_of}
use Rattle.imp_slots.specs.declared.blocks.SlotNode.{SlotNode}
use Rattle.imp_slots.specs.declared.blocks.SlotNode.TheVariants as node
use Rattle.imp_chains.specs.Chains.{has}
use Rattle.domain_laws.specs.Operations.{Operations}
use Rattle.batch_meaning.specs.Values.{Value, lift, lift2}
use Rattle.batch_meaning.specs.Batch.{head_of, behind}
use Rattle.batch_meaning.specs.Places.{Spot, find}
use Rattle.batch_interp.specs.Frames.{Plan, thresholds_at, calls_in, passed}
use Rattle.batch_interp.specs.Seeking.{holds_inside, places, spot_at, inner_of}
use Rattle.base_values.proofs.Cases.{by_test}
use Rattle.base_values.proofs.Lists.{drop_item}
use Rattle.call_contexts.proofs.Numbered.{has_both}
use Rattle.batch_meaning.proofs.Places.{find_both, find_key, or_else}

none_found : {A : Type 0} (n : ℕ) (xs : List (ℕ × A)) → has n (keys xs) ≡ false → find n xs ≡ None
none_found n [] h = refl
none_found n (x ∷ xs) h =
    (by_test n x.0 (λ c. (if c then true else has n (keys xs)) ≡ false → (if c then Some x.1 else find n xs) ≡ None) (λ e k. absurd cc) (λ e k. none_found n xs k)) h

-- found in the first part, or not there
pub first_part : {A : Type 0} (n : ℕ) (xs ys : List (ℕ × A)) → has n (keys xs) ≡ true → find n (xs ++ ys) ≡ find n xs
first_part n xs ys h = let s = find_key n xs h in find_both n xs ys ∙ ap (λ o. or_else o (find n ys)) s.1 ∙ sym s.1

pub second_part : {A : Type 0} (n : ℕ) (xs ys : List (ℕ × A)) → has n (keys xs) ≡ false → find n (xs ++ ys) ≡ find n ys
second_part n xs ys h = find_both n xs ys ∙ ap (λ o. or_else o (find n ys)) (none_found n xs h)

module _ {S : Type 0} (dom : Operations S) (plan : Plan) (place : ℕ) (z : List ℕ) where
  abbrev P : Code → Value S → List (ℕ × Spot S)
  P = places dom plan place z

  -- a block's statements have its numbers
  pub numbers_of_places : (c : Code) (v : Value S) → keys (places dom plan place z c v) ≡ code_numbers c
  numbers_of_places Stop v = refl
  numbers_of_places (Simple n e r) v = ap (λ ns. n ∷ ns) (numbers_of_places r (lift (dom.post (Does e)) v))
  numbers_of_places (If n g t e r) v =
      let x = lift2 dom.join (passed dom plan place z t (lift (dom.assume g true) v)).value (passed dom plan place z e (lift (dom.assume g false) v)).value in
      ap (λ ns. n ∷ ns)
      (keys_both (P t (lift (dom.assume g true) v)) (P e (lift (dom.assume g false) v) ++ P r x)
      ∙ ap (λ ns. keys (P t (lift (dom.assume g true) v)) ++ ns) (keys_both (P e (lift (dom.assume g false) v)) (P r x))
      ∙ (λ i. numbers_of_places t (lift (dom.assume g true) v) i ++ (numbers_of_places e (lift (dom.assume g false) v) i ++ numbers_of_places r x i)))
  numbers_of_places (While n g b r) v =
      let h = (head_of dom plan.engine (thresholds_at plan place) z n g (passed dom plan place z b) v).value in
      let x = behind dom plan.engine g (passed dom plan place z b) h in
      ap (λ ns. n ∷ ns)
      (keys_both (P b (lift (dom.assume g true) h)) (P r x)
      ∙ (λ i. numbers_of_places b (lift (dom.assume g true) h) i ++ numbers_of_places r x i))
  numbers_of_places (Call n k q r) v = ap (λ ns. n ∷ ns) (numbers_of_places r (lift2 (dom.leave k.returning) v (calls_in dom plan place z n q (lift (dom.enter k.entering) v))))
  numbers_of_places (Break n r) v = ap (λ ns. n ∷ ns) (numbers_of_places r (lift (dom.post DoBreak) v))

  -- a statement, those inside it, those after it
  places_before : (s : SlotNode) (r : Code) (v : Value S) → P (before_code s r) v ≡ (number_of s, spot_at dom plan place z s v) ∷ (inner_of dom plan place z s v ++ P r (passed dom plan place z (before_code s Stop) v).value)
  places_before (node.Simple n a) r v = refl
  places_before (node.If n c t e) r v =
      ap (λ xs. (n, spot_at dom plan place z (node.If n c t e) v) ∷ xs) (sym (append_assoc (P t (lift (dom.assume c true) v)) (P e (lift (dom.assume c false) v)) (P r (passed dom plan place z (If n c t e Stop) v).value)))
  places_before (node.While n c b) r v = refl
  places_before (node.Call n k q) r v = refl
  places_before (node.Break n) r v = refl

  inner_numbers : (n : ℕ) (s : SlotNode) (v : Value S) → has n (keys (inner_of dom plan place z s v)) ≡ holds_inside n s
  inner_numbers n (node.Simple m a) v = refl
  inner_numbers n (node.If m c t e) v =
      ap (has n) (keys_both (P t (lift (dom.assume c true) v)) (P e (lift (dom.assume c false) v)))
      ∙ has_both n (keys (P t (lift (dom.assume c true) v))) (keys (P e (lift (dom.assume c false) v)))
      ∙ (λ i. has n (numbers_of_places t (lift (dom.assume c true) v) i) || has n (numbers_of_places e (lift (dom.assume c false) v) i))
  inner_numbers n (node.While m c b) v = ap (has n) (numbers_of_places b (lift (dom.assume c true) (head_of dom plan.engine (thresholds_at plan place) z m c (passed dom plan place z b) v).value))
  inner_numbers n (node.Call m k q) v = refl
  inner_numbers n (node.Break m) v = refl

  rest_of : (ss : List SlotNode) (i : ℕ) (s : SlotNode) (v : Value S) → i < length ss → s ≡ get_or ss i s → P (code_of (drop i ss)) v ≡ (number_of s, spot_at dom plan place z s v) ∷ (inner_of dom plan place z s v ++ P (code_of (drop (i + 1) ss)) (passed dom plan place z (before_code s Stop) v).value)
  rest_of ss i s v h e = ap (λ xs. P (code_of xs) v) (drop_item ss i s h e) ∙ places_before s (code_of (drop (i + 1) ss)) v

  not_here : (n : ℕ) (ss : List SlotNode) (i : ℕ) (s : SlotNode) (v : Value S) → i < length ss → s ≡ get_or ss i s → n ≢ number_of s → find n (P (code_of (drop i ss)) v) ≡ find n (inner_of dom plan place z s v ++ P (code_of (drop (i + 1) ss)) (passed dom plan place z (before_code s Stop) v).value)
  not_here n ss i s v h e k =
      let rest = inner_of dom plan place z s v ++ P (code_of (drop (i + 1) ss)) (passed dom plan place z (before_code s Stop) v).value in
      ap (find n) (rest_of ss i s v h e)
      ∙ by_test n (number_of s) (λ c. (if c then Some (spot_at dom plan place z s v) else find n rest) ≡ find n rest) (λ e. absurd (k e)) (λ e. refl)

  -- inside the statement here
  pub seek_inner : (n : ℕ) (ss : List SlotNode) (i : ℕ) (s : SlotNode) (v : Value S) → i < length ss → s ≡ get_or ss i s → n ≢ number_of s → holds_inside n s ≡ true → find n (places dom plan place z (code_of (drop i ss)) v) ≡ find n (inner_of dom plan place z s v)
  seek_inner n ss i s v h e k m = not_here n ss i s v h e k ∙ first_part n (inner_of dom plan place z s v) (P (code_of (drop (i + 1) ss)) (passed dom plan place z (before_code s Stop) v).value) (inner_numbers n s v ∙ m)

  -- after the statement here
  pub seek_behind : (n : ℕ) (ss : List SlotNode) (i : ℕ) (s : SlotNode) (v w : Value S) → i < length ss → s ≡ get_or ss i s → n ≢ number_of s → holds_inside n s ≡ false → w ≡ (passed dom plan place z (before_code s Stop) v).value → find n (places dom plan place z (code_of (drop (i + 1) ss)) w) ≡ find n (places dom plan place z (code_of (drop i ss)) v)
  seek_behind n ss i s v w h e k m b =
      ap (λ x. find n (P (code_of (drop (i + 1) ss)) x)) b
      ∙ sym (not_here n ss i s v h e k ∙ second_part n (inner_of dom plan place z s v) (P (code_of (drop (i + 1) ss)) (passed dom plan place z (before_code s Stop) v).value) (inner_numbers n s v ∙ m))

  pub then_part : (n m : ℕ) (c : Guard) (t e : Code) (v : Value S) → has n (code_numbers t) ≡ true → find n (places dom plan place z t (lift (dom.assume c true) v)) ≡ find n (inner_of dom plan place z (node.If m c t e) v)
  then_part n m c t e v h =
      sym (first_part n (P t (lift (dom.assume c true) v)) (P e (lift (dom.assume c false) v)) (ap (has n) (numbers_of_places t (lift (dom.assume c true) v)) ∙ h))

  pub else_part : (n m : ℕ) (c : Guard) (t e : Code) (v : Value S) → has n (code_numbers t) ≡ false → find n (places dom plan place z e (lift (dom.assume c false) v)) ≡ find n (inner_of dom plan place z (node.If m c t e) v)
  else_part n m c t e v h =
      sym (second_part n (P t (lift (dom.assume c true) v)) (P e (lift (dom.assume c false) v)) (ap (has n) (numbers_of_places t (lift (dom.assume c true) v)) ∙ h))

  pub body_part : (n m : ℕ) (c : Guard) (b : Code) (v h : Value S) → h ≡ (head_of dom plan.engine (thresholds_at plan place) z m c (passed dom plan place z b) v).value → find n (places dom plan place z b (lift (dom.assume c true) h)) ≡ find n (inner_of dom plan place z (node.While m c b) v)
  body_part n m c b v h e = ap (λ x. find n (P b (lift (dom.assume c true) x))) e
