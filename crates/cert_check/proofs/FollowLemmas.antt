-- Following, one statement at a time, over plain variables.
use Rattle.std.proofs.Common.{ℕ, suc, ◌≡◌, ◌+◌, ◌<◌, ◌≤◌, Bool, true, false, List, [], ◌∷◌, ◌++◌, length, drop, take, reverse, get_or, slice_get, Option, Some, None, Result, Ok, Err, IfOk, OnOk, refl, sym, ap, ◌∙◌, append_assoc}
use Rattle.std.specs.Prelude.{if◌then◌else◌}
use Rattle.std.proofs.lemmas.List.{drop_all, append-nil}
use Rattle.imp_slots.specs.Plain.{DoBreak, Does, Effect, Guard, Invoke, Code, Stop, Simple, If, Call, Break, Routine}
use Rattle.imp_slots.specs.ActionViews.{effect_of}
use Rattle.imp_slots.specs.BlockViews.{before_code, code_of}
use Rattle.imp_slots.specs.declared.blocks.SlotNode.{SlotNode}
use Rattle.imp_slots.specs.declared.blocks.SlotNode.TheVariants as node
use Rattle.domain_laws.specs.Operations.{Operations}
use Rattle.batch_meaning.specs.Values.{State}
use Rattle.batch_meaning.specs.Batch.{LoopOptions}
use Rattle.batch_meaning.specs.Batch as batch
use Rattle.batch_meaning.specs.Places.{from, main_layout}
use Rattle.base_values.proofs.Lists.{drop_item}
use Rattle.base_values.proofs.Cases.{by_test}
use Rattle.cert_meaning.specs.Followed as plain
use Rattle.cert_meaning.specs.Followed.{Why, Passes, Fails, Missing, Entry, Step, passing, with_leaving, unless, where_written, joined, followed, followed_procedure, followed_last, followed_program}
use Rattle.batch_interp.specs.Frames.{earlier}
use Rattle.batch_interp.specs.Passing.{states}
use Rattle.batch_interp.specs.declared.frames.CallFrame.{CallFrame}
use Rattle.batch_interp.proofs.Procedures.{from_earlier, from_gone}
use Rattle.batch_interp.proofs.Walkings.{standing, whole}
use Rattle.cert_reading.specs.Table.{state_at}
use Rattle.cert_check.specs.Following.{ended, why_of, behind_by, EndsSo, turned, round, calls_in, followed_in}
use Rattle.cert_check.specs.declared.followed.Followed as code
use Rattle.cert_check.specs.declared.followed.Followed.TheVariants as came

module _ {S : Type 0} where
  after_none : (p : plain.Followed S) → with_leaving [] p ≡ p
  after_none (Passes s ss) = refl
  after_none (Fails n z w) = refl

  after_twice : (xs ys : List S) (p : plain.Followed S) → with_leaving xs (with_leaving ys p) ≡ with_leaving (xs ++ ys) p
  after_twice xs ys (Passes s ss) = ap (Passes s) (sym (append_assoc xs ys ss))
  after_twice xs ys (Fails n z w) = refl

  -- what a block passes with, where others left before it
  passed_alone : (xs : List S) (p : plain.Followed S) (s : S) (ss : List S) → with_leaving xs p ≡ Passes s ss → (ls : List S) × (p ≡ Passes s ls) × (ss ≡ xs ++ ls)
  passed_alone xs (Passes t ls) s ss e = (ls, (let k : t ≡ s = cc in ap (λ t. Passes t ls) k), cc)
  passed_alone xs (Fails n z w) s ss e = absurd cc

  failed_alone : (xs : List S) (p : plain.Followed S) (n : ℕ) (z : List ℕ) (w : Why) → with_leaving xs p ≡ Fails n z w → p ≡ Fails n z w
  failed_alone xs (Passes t ls) n z w e = absurd cc
  failed_alone xs (Fails m y v) n z w e = e

module _ {S : Type 0} (dom : Operations S) (leq : S → S → Bool) (written : (z : List ℕ) → (n : ℕ) → Option S) (z : List ℕ) (calls : (n q : ℕ) → S → plain.Followed S) where
  abbrev B : Code → S → plain.Followed S
  B = followed dom leq written z calls

  -- a loop, from what is written of it
  from_head : (n : ℕ) (g : Guard) (b r : Code) (a x : S) (c : Bool) → leq a x ≡ c → unless c (Fails n z Entry) (passing (B b (dom.assume g true x)) (λ y ys. unless (leq y x) (Fails n z Step) (B r (joined dom (dom.assume g false x) ys)))) ≡ passing (unless c (Fails n z Entry) (round dom leq z n g (B b) x)) (λ y ys. with_leaving ys (B r y))
  from_head n g b r a x false e = refl
  from_head n g b r a x true e = go (B b (dom.assume g true x))
    where
      ends : (c : Bool) (s : S) → unless c (Fails n z Step) (B r s) ≡ passing (unless c (Fails n z Step) (Passes s [])) (λ y ys. with_leaving ys (B r y))
      ends false s = refl
      ends true s = sym (after_none (B r s))

      go : (p : plain.Followed S) → passing p (λ y ys. unless (leq y x) (Fails n z Step) (B r (joined dom (dom.assume g false x) ys))) ≡ passing (passing p (λ y ys. unless (leq y x) (Fails n z Step) (Passes (joined dom (dom.assume g false x) ys) []))) (λ y ys. with_leaving ys (B r y))
      go (Passes y ys) = ends (leq y x) (joined dom (dom.assume g false x) ys)
      go (Fails m y w) = refl

  -- a statement, and what comes after it
  follows_before : (s : SlotNode) (r : Code) (a : S) → B (before_code s r) a ≡ passing (B (before_code s Stop) a) (λ y ys. with_leaving ys (B r y))
  follows_before (node.Simple n e) r a = sym (after_none (B r (dom.post (Does (effect_of e)) a)))
  follows_before (node.If n g t e) r a = first (B t (dom.assume g true a))
    where
      second : (x : S) (xs : List S) (q : plain.Followed S) → passing q (λ y ys. with_leaving (xs ++ ys) (B r (dom.join x y))) ≡ passing (passing q (λ y ys. with_leaving (xs ++ ys) (Passes (dom.join x y) []))) (λ y ys. with_leaving ys (B r y))
      second x xs (Passes y ys) = ap (λ ls. with_leaving ls (B r (dom.join x y))) (sym (append-nil (xs ++ ys)))
      second x xs (Fails m y w) = refl

      first : (p : plain.Followed S) → passing p (λ x xs. passing (B e (dom.assume g false a)) (λ y ys. with_leaving (xs ++ ys) (B r (dom.join x y)))) ≡ passing (passing p (λ x xs. passing (B e (dom.assume g false a)) (λ y ys. with_leaving (xs ++ ys) (Passes (dom.join x y) [])))) (λ y ys. with_leaving ys (B r y))
      first (Passes x xs) = second x xs (B e (dom.assume g false a))
      first (Fails m y w) = refl
  follows_before (node.While n g b) r a = by (written z n)
    where
      by : (o : Option S) → where_written o (Fails n z Missing) (λ x. unless (leq a x) (Fails n z Entry) (passing (B b (dom.assume g true x)) (λ y ys. unless (leq y x) (Fails n z Step) (B r (joined dom (dom.assume g false x) ys))))) ≡ passing (where_written o (Fails n z Missing) (λ x. unless (leq a x) (Fails n z Entry) (round dom leq z n g (B b) x))) (λ y ys. with_leaving ys (B r y))
      by None = refl
      by (Some x) = from_head n g b r a x (leq a x) refl
  follows_before (node.Call n i q) r a = by (calls n q (dom.enter i.entering a))
    where
      by : (p : plain.Followed S) → passing p (λ d ds. B r (dom.leave i.returning a d)) ≡ passing (passing p (λ d ds. Passes (dom.leave i.returning a d) [])) (λ y ys. with_leaving ys (B r y))
      by (Passes d ds) = sym (after_none (B r (dom.leave i.returning a d)))
      by (Fails m y w) = refl
  follows_before (node.Break n) r a = refl

  pub block_step : (ss : List SlotNode) (i : ℕ) (s : SlotNode) (now next : S) (before behind : List S) → i < length ss → s ≡ get_or ss i s → with_leaving before (B (before_code s Stop) now) ≡ Passes next behind → with_leaving behind (B (code_of (drop (i + 1) ss)) next) ≡ with_leaving before (B (code_of (drop i ss)) now)
  block_step ss i s now next before behind h e k =
      let r = code_of (drop (i + 1) ss) in
      let p = passed_alone before (B (before_code s Stop) now) next behind k in
      ap (λ xs. with_leaving xs (B r next)) p.2
      ∙ sym (after_twice before p.0 (B r next))
      ∙ ap (λ q. with_leaving before (passing q (λ y ys. with_leaving ys (B r y)))) (sym p.1)
      ∙ ap (with_leaving before) (sym (follows_before s r now))
      ∙ ap (λ xs. with_leaving before (B (code_of xs) now)) (sym (drop_item ss i s h e))

  pub block_fails : (ss : List SlotNode) (i : ℕ) (s : SlotNode) (now : S) (before : List S) (n : ℕ) (y : List ℕ) (w : Why) → i < length ss → s ≡ get_or ss i s → with_leaving before (B (before_code s Stop) now) ≡ Fails n y w → with_leaving before (B (code_of (drop i ss)) now) ≡ Fails n y w
  block_fails ss i s now before n y w h e k =
      let r = code_of (drop (i + 1) ss) in
      ap (λ xs. with_leaving before (B (code_of xs) now)) (drop_item ss i s h e)
      ∙ ap (with_leaving before) (follows_before s r now)
      ∙ ap (λ q. with_leaving before (passing q (λ y ys. with_leaving ys (B r y)))) (failed_alone before (B (before_code s Stop) now) n y w k)

  pub block_end : (ss : List SlotNode) (i : ℕ) (now : S) (before : List S) → length ss ≤ i → with_leaving before (B (code_of (drop i ss)) now) ≡ Passes now before
  block_end ss i now before h = ap (λ xs. with_leaving before (B (code_of xs) now)) (drop_all i ss h) ∙ ap (Passes now) (append-nil before)

  -- a statement that nothing leaves
  pub alone : (p : plain.Followed S) (before : List S) (a : code.Followed S) → p ≡ ended [] a → with_leaving before p ≡ ended before a
  alone p before (came.Behind t) e = ap (with_leaving before) e ∙ ap (Passes t) (append-nil before)
  alone p before (came.Fails n chain w) e = ap (with_leaving before) e

  -- what a statement comes to is what the code does of it
  pub simple_ends : {E : Type 0} (r : Result (code.Followed S) E) (n : ℕ) (e : Effect) (s : S) (before : List S) → IfOk r (λ x. x ≡ came.Behind (dom.post (Does e) s)) → IfOk r (λ x. with_leaving before (B (Simple n e Stop) s) ≡ ended before x)
  simple_ends (Ok x) n e s before is = ap (Passes (dom.post (Does e) s)) (append-nil before) ∙ ap (ended before) (sym is)
  simple_ends (Err e') n e s before is = is

  pub break_ends : {E : Type 0} (r : Result (code.Followed S) E) (n : ℕ) (s : S) (before behind : List S) → IfOk r (λ x. x ≡ came.Behind (dom.post DoBreak s)) → OnOk r (behind ≡ before ++ s ∷ []) → IfOk r (λ x. with_leaving before (B (Break n Stop) s) ≡ ended behind x)
  break_ends (Ok x) n s before behind is left = ap (Passes (dom.post DoBreak s)) (sym left) ∙ ap (ended behind) (sym is)
  break_ends (Err e) n s before behind is left = is

  pub alone_ends : {E : Type 0} (r : Result (code.Followed S) E) (p : plain.Followed S) (before : List S) → IfOk r (λ x. p ≡ ended [] x) → IfOk r (λ x. with_leaving before p ≡ ended before x)
  alone_ends (Ok x) p before is = alone p before x is
  alone_ends (Err e) p before is = is

  -- an if whose first block meets a loop that does not do
  pub if_stops : (g : Guard) (t e : Code) (s : S) (before : List S) (n : ℕ) (y : List ℕ) (w : Why) → with_leaving before (B t (dom.assume g true s)) ≡ Fails n y w → with_leaving before (B (If 0 g t e Stop) s) ≡ Fails n y w
  if_stops g t e s before n y w h =
      ap (λ v. with_leaving before (passing v (λ x xs. passing (B e (dom.assume g false s)) (λ y ys. with_leaving (xs ++ ys) (Passes (dom.join x y) []))))) (failed_alone before (B t (dom.assume g true s)) n y w h)

-- joins of states, without a budget
module _ {S : Type 0} (dom : Operations S) where
  joined_same : (e : LoopOptions) (s : S) (xs : List S) → batch.joined dom e (State s) (states xs) ≡ State (joined dom s xs)
  joined_same e s [] = refl
  joined_same e s (x ∷ xs) = joined_same e (dom.join s x) xs

  any : LoopOptions
  any = record { budget = 0; widening = record { delay = 0; thresholds = false } }

  pub joined_plain : (first out all : S) (others : List S) → out ≡ first → ((e : LoopOptions) → State all ≡ batch.joined dom e (State out) (states others)) → all ≡ joined dom first others
  joined_plain first out all others same is =
      let states_same : State all ≡ State (joined dom out others) = is any ∙ joined_same any out others in
      let behind_out : all ≡ joined dom out others = cc in
      behind_out ∙ ap (λ s. joined dom s others) same

-- a round, by how its body ends
module _ {S : Type 0} (dom : Operations S) (leq : S → S → Bool) (z : List ℕ) (n : ℕ) (g : Guard) (body : S → plain.Followed S) where
  pub round_ends : {E : Type 0} (r : Result (code.Followed S) E) (x : S) (none leaving others : List S) (end : code.Followed S) → none ≡ [] → with_leaving none (body (dom.assume g true x)) ≡ ended leaving end → others ≡ leaving →
      IfOk r (λ y. turned dom leq z n g x (ended others end) ≡ ended [] y) → IfOk r (λ y. round dom leq z n g body x ≡ ended [] y)
  round_ends (Ok y) x none leaving others end empty body_ends same is =
      ap (turned dom leq z n g x)
      (sym (after_none (body (dom.assume g true x))) ∙ ap (λ xs. with_leaving xs (body (dom.assume g true x))) (sym empty) ∙ body_ends ∙ ap (λ xs. ended xs end) (sym same))
      ∙ is
  round_ends (Err e) x none leaving others end empty body_ends same is = is

-- bodies of procedures
module _ {S : Type 0} (dom : Operations S) (leq : S → S → Bool) (written : (z : List ℕ) → (n : ℕ) → Option S) where
  body_of : List Routine → List ℕ → S → plain.Followed S
  body_of [] z a = Passes a []
  body_of (r ∷ rest) z a = followed dom leq written z (λ n. followed_procedure dom leq written rest (n ∷ z)) r.code a

  procedure_from : (ps : List Routine) (z : List ℕ) (q : ℕ) (a : S) → followed_procedure dom leq written ps z q a ≡ body_of (from ps q) z a
  unfolding body_of
  procedure_from [] z q a = refl
  procedure_from (b ∷ ps) z q a =
      by_test q (length ps) (λ c. (if c then followed dom leq written z (λ n. followed_procedure dom leq written ps (n ∷ z)) b.code a else followed_procedure dom leq written ps z q a) ≡ body_of (if c then b ∷ ps else from ps q) z a)
      (λ k. refl)
      (λ k. procedure_from ps z q a)

module _ {S : Type 0} (dom : Operations S) (leq : S → S → Bool) (table : List (List ℕ × S)) (program : List Routine) where
  pub call_there : (place : ℕ) (z : List ℕ) (n q : ℕ) (r : Routine) (a : S) → slice_get (take place program) q ≡ Some r → calls_in dom leq table program place z n q a ≡ followed_in dom leq table program q (n ∷ z) r.code a
  unfolding body_of
  call_there place z n q r a e =
      procedure_from dom leq (state_at table) (earlier program place) (n ∷ z) q a
      ∙ ap (λ ps. body_of dom leq (state_at table) ps (n ∷ z) a) (from_earlier program place q r e)

  pub call_gone : (place : ℕ) (z : List ℕ) (n q : ℕ) (a : S) → slice_get (take place program) q ≡ None → calls_in dom leq table program place z n q a ≡ Passes a []
  unfolding body_of
  call_gone place z n q a e =
      procedure_from dom leq (state_at table) (earlier program place) (n ∷ z) q a
      ∙ ap (λ ps. body_of dom leq (state_at table) ps (n ∷ z) a) (from_gone program place q e)

  -- a body ends as its block does
  pub of_callee : {E : Type 0} (r : Result (code.Followed S) E) (none leaving : List S) (place : ℕ) (z : List ℕ) (n q : ℕ) (routine : Routine) (c : Code) (inner : CallFrame) (a : S) → Some routine ≡ slice_get (take place program) q → inner ≡ record { place = q; sites = n ∷ z } → c ≡ routine.code → none ≡ [] → IfOk r (λ x. with_leaving none (followed_in dom leq table program inner.place inner.sites c a) ≡ ended leaving x) → IfOk r (EndsSo (calls_in dom leq table program place z n q a))
  of_callee (Err e) none leaving place z n q routine c inner a there same body o h = h
  of_callee (Ok x) none leaving place z n q routine c inner a there same body o h = (
    leaving,
    call_there place z n q routine a (sym there)
        ∙ sym (λ i. followed_in dom leq table program (same i).place (same i).sites (body i) a)
        ∙ sym (after_none (followed_in dom leq table program inner.place inner.sites c a))
        ∙ ap (λ xs. with_leaving xs (followed_in dom leq table program inner.place inner.sites c a)) (sym o)
        ∙ h,
  )

  -- a call, by how the body of its procedure ends
  pub call_ends : (place : ℕ) (z : List ℕ) (n : ℕ) (i : Invoke) (q : ℕ) (s a d t : S) (leaving : List S) → a ≡ dom.enter i.entering s → calls_in dom leq table program place z n q a ≡ Passes d leaving → t ≡ dom.leave i.returning s d → followed_in dom leq table program place z (Call n i q Stop) s ≡ Passes t []
  call_ends place z n i q s a d t leaving k h e =
      ap (λ v. passing v (λ d ds. Passes (dom.leave i.returning s d) [])) (ap (calls_in dom leq table program place z n q) (sym k) ∙ h) ∙ ap (λ t. Passes t []) (sym e)

  pub call_fails : (place : ℕ) (z : List ℕ) (n : ℕ) (i : Invoke) (q : ℕ) (s a : S) (m : ℕ) (y : List ℕ) (w : Why) → a ≡ dom.enter i.entering s → calls_in dom leq table program place z n q a ≡ Fails m y w → followed_in dom leq table program place z (Call n i q Stop) s ≡ Fails m y w
  call_fails place z n i q s a m y w k h = ap (λ v. passing v (λ d ds. Passes (dom.leave i.returning s d) [])) (ap (calls_in dom leq table program place z n q) (sym k) ∙ h)

  pub call_comes : {E : Type 0} (r : Result (code.Followed S) E) (place : ℕ) (z : List ℕ) (n : ℕ) (i : Invoke) (q : ℕ) (s a : S) (done : code.Followed S) → a ≡ dom.enter i.entering s →
      EndsSo (calls_in dom leq table program place z n q a) done → IfOk r (λ x. x ≡ behind_by (dom.leave i.returning s) done) → IfOk r (λ x. followed_in dom leq table program place z (Call n i q Stop) s ≡ ended [] x)
  call_comes (Ok x) place z n i q s a (came.Behind d) enters ends is = call_ends place z n i q s a d (dom.leave i.returning s d) ends.0 enters ends.1 refl ∙ ap (ended []) (sym is)
  call_comes (Ok x) place z n i q s a (came.Fails m chain w) enters ends is = call_fails place z n i q s a m (reverse chain) (why_of w) enters ends.1 ∙ ap (ended []) (sym is)
  call_comes (Err e) place z n i q s a done enters ends is = is

  -- main's body is that of the program
  pub main_ends : {E : Type 0} (x : Result (code.Followed S) E) (none leaving : List S) (k : ℕ) (r : Routine) (c : Code) (frame : CallFrame) (a : S) → length program ≡ suc k → slice_get program k ≡ Some r → frame ≡ record { place = k; sites = [] } → c ≡ r.code → a ≡ dom.init r.layout → none ≡ [] → IfOk x (λ x. with_leaving none (followed_in dom leq table program frame.place frame.sites c a) ≡ ended leaving x) → IfOk x (EndsSo (followed_program dom leq (state_at table) program))
  main_ends (Err e) none leaving k r c frame a l g f b i o h = h
  main_ends (Ok x) none leaving k r c frame a l g f b i o h =
      let all : reverse program ≡ r ∷ earlier program k = sym (whole program k l) ∙ standing program k r g in (
        leaving,
        ap (λ ps. followed_last dom leq (state_at table) ps (dom.init (main_layout ps))) all
            ∙ sym (λ j. followed_in dom leq table program (f j).place (f j).sites (b j) (i j))
            ∙ sym (after_none (followed_in dom leq table program frame.place frame.sites c a))
            ∙ ap (λ xs. with_leaving xs (followed_in dom leq table program frame.place frame.sites c a)) (sym o)
            ∙ h,
      )
