-- Answers read from cells.
use Rattle.std.proofs.Common.{◌≡◌, ℕ, zero, suc, ◌+◌, ◌-◌, ◌*◌, ◌<◌, ◌≤◌, ◌⊎◌, List, [], ◌∷◌, ◌++◌, map, take, drop, fold, length, Option, Some, None, option_map, slice_get, get_or, refl, sym, ap, subst, ◌∙◌, inl, inr, arith, mul-add, append-nil}
use Rattle.std.proofs.Math.Seq.{take-length}
use Rattle.std.specs.Prelude.{reverse, Result, Ok, Err, IfOk}
use Rattle.std.specs.FinMap.{get}
use Rattle.std.specs.Option.{option_and_then}
use Rattle.std.proofs.lemmas.List.{length-map, map-append}
use Rattle.std.proofs.lemmas.Option.{slice_get-get_or, same_Some}
use Rattle.imp_syntax.specs.declared.edit.Location.{Location}
use Rattle.imp_slots.specs.Fits.{IsChecked}
use Rattle.imp_slots.specs.Plain.{Routine}
use Rattle.concrete_sem.specs.Values.{Variables, Heap}
use Rattle.concrete_sem.specs.Steps.{Config}
use Rattle.concrete_sem.specs.Reach.{top, Reach}
use Rattle.concrete_sem.specs.WellFormed.{variables_of}
use Rattle.domain_laws.specs.Operations.{Operations}
use Rattle.batch_meaning.specs.Values as plain
use Rattle.batch_meaning.specs.Batch.{LoopOptions}
use Rattle.batch_meaning.specs.Answers.{Answer, Answers, In, answer_in, summed}
use Rattle.call_contexts.specs.Joined.{joined, joined_ticks}
use Rattle.cell_names.specs.Paths.{CellName}
use Rattle.cell_rows.specs.Cells.{Cell}
use Rattle.cell_rows.specs.Targets.{Target, targets, value_of_target}
use Rattle.daig_graph.specs.Cells.{AreCells, Filled}
use Rattle.daig_graph.specs.declared.value.Value.{Value}
use Rattle.daig_graph.specs.declared.value.Value.TheVariants.{State, Over}
use Rattle.daig_demands.specs.Walks.{asks_at, values_at, values_left}
use Rattle.daig_demands.specs.Walks as law
use Rattle.daig_demands.proofs.Demanded.{answer_at}
use Rattle.daig_demands.proofs.Summing.{states_are_joined, first_over}
use Rattle.loop_unroll.specs.Iterates.{value_at}
use Rattle.imp_flow.specs.Plans.{Plan}
use Rattle.cell_graph.specs.Named.{AreNumbers}
use Rattle.cell_graph.specs.Same.{same_name}
use Rattle.cell_graph.proofs.Same.{same_is}
use Rattle.daig_query.specs.declared.held.Held.{Held}
use Rattle.daig_query.specs.declared.store.Store.{Store}
use Rattle.daig_query.specs.declared.walk.Walk.{Walk}
use Rattle.daig_query.specs.Kept.{IsValue}
use Rattle.daig_query.specs.Right.{found, IsRight}
use Rattle.daig_query.specs.Walked.{IsDone, place_of}
use Rattle.daig_query.specs.Answered.{plain_value, value_in, HoldValues, joined_all, Covers, Says}
use Rattle.daig_query.proofs.Found.{stored, is_there}
use Rattle.base_values.proofs.Lists.{take_next}

module _ {S : Type 0} (dom : Operations S) (engine : LoopOptions) where
  folded : (s : S) (ss : List S) → joined_all dom (Some s) ss ≡ Some (fold dom.join s (map dom.shed ss))
  folded s [] = refl
  folded s (t ∷ ss) = folded (dom.join s (dom.shed t)) ss

  -- the states of all cells, joined
  pub says_joined : (ss : List S) (o : Option S) → o ≡ joined_all dom None ss → Says (summed dom engine (map plain.State ss)) (option_map State o)
  says_joined [] o e = subst (λ (p : Option S). Says (summed dom engine []) (option_map State p)) (sym e) refl
  says_joined (s ∷ ss) o e =
      subst (λ (p : Option S). Says (summed dom engine (map plain.State (s ∷ ss))) (option_map State p)) (sym (e ∙ folded (dom.shed s) ss)) (states_are_joined dom engine s ss)

  -- the first Over
  pub says_over : (ss : List S) (n : ℕ) (chain : List ℕ) (vs : List (plain.Value S)) → Says (summed dom engine (map plain.State ss ++ plain.Over n (reverse chain) ∷ vs)) (Some (Over n chain))
  says_over ss n chain vs = first_over dom engine n (reverse chain) vs ss

-- one state more
pub joined_next : {S : Type 0} (dom : Operations S) (o : Option S) (ss : List S) (s : S) → joined_all dom o (ss ++ s ∷ []) ≡ Some (joined dom (joined_all dom o ss) s)
joined_next dom o [] s = refl
joined_next dom o (t ∷ ss) s = joined_next dom (Some (joined dom o t)) ss s

module _ {S : Type 0} (dom : Operations S) (plan : Plan) (store : Store S) (right : IsRight dom plan store) where
  pub value_of : (n : ℕ) (x : CellName) (f : Filled Held) → slice_get store.names.names n ≡ Some x → get store.graph.cells n ≡ Some f → value_in store n ≡ Some (found dom plan x).value
  value_of n x f e h =
      ap (λ o. option_and_then (plain_value store.states) (option_map (λ (g : Filled Held). g.value) o)) h
      ∙ by f.value (stored dom plan store right n x f e h).value
    where
      by : (v : Value Held) → IsValue store.states v (found dom plan x) → plain_value store.states v ≡ Some (found dom plan x).value
      by (State h) (s, at, is) = ap (option_map plain.State) at ∙ ap (λ (c : Cell S). Some c.value) (sym is)
      by (Over n chain) is = ap Some (sym is)

  -- cells of names hold the names' values
  pub hold_found : (cells : List ℕ) (xs : List CellName) → AreNumbers store.names.names cells xs → AreCells store.graph.cells cells → HoldValues store cells (map (λ x. (found dom plan x).value) xs)
  hold_found [] [] e there = refl
  hold_found [] (x ∷ xs) e there = absurd cc
  hold_found (n ∷ cells) [] e there = absurd cc
  hold_found (n ∷ cells) (x ∷ xs) e there =
      let a : slice_get store.names.names n ≡ Some x = cc in
      let rest : AreNumbers store.names.names cells xs = cc in
      let c = is_there dom plan store right n (there 0 n refl) in
      let v : value_in store n ≡ Some (found dom plan x).value = value_of n x c.0 a c.1 in
      let vs : HoldValues store cells (map (λ y. (found dom plan y).value) xs) = hold_found cells xs rest (λ i m g. there (suc i) m g) in
      cc

  none_left : (k : law.Walk) → law.asks k ≡ None → values_left (found dom plan) k ≡ []
  none_left k e = go k.left e
    where
      go : (ts : List Target) → asks_at k.path ts ≡ None → values_at (found dom plan) k.path ts ≡ []
      go [] e = refl
      go (t ∷ ts) e = absurd cc

  module _ (ts : List Target) (w : Walk) (done : IsDone dom plan ts store w) where
    lasts_are : map (value_of_target (found dom plan)) ts ≡ map (λ x. (found dom plan x).value) done.placed.stands.lasts
    lasts_are = done.placed.stands.values ∙ (ap (λ vs. map (λ x. (found dom plan x).value) done.placed.stands.lasts ++ vs) (none_left (place_of ts store w) done.asks_none) ∙ append-nil (map (λ x. (found dom plan x).value) done.placed.stands.lasts))

    -- what a walk that is done found are the values of its targets
    pub done_holds : HoldValues store w.found.items (map (value_of_target (found dom plan)) ts)
    done_holds = subst (λ vs. HoldValues store w.found.items vs) (sym lasts_are) (hold_found w.found.items done.placed.stands.lasts done.placed.stands.numbers done.placed.stands.there)

    pub done_count : length w.found.items ≡ length ts
    done_count =
        let a : length (map (value_in store) w.found.items) ≡ length (map Some (map (value_of_target (found dom plan)) ts)) = ap length done_holds in
        sym (length-map w.found.items (value_in store)) ∙ (a ∙ (length-map (map (value_of_target (found dom plan)) ts) Some ∙ length-map ts (value_of_target (found dom plan))))

-- a value at each place
hold_get : {V : Type 0} (f : ℕ → Option V) (cells : List ℕ) (vs : List V) → map f cells ≡ map Some vs → (i n : ℕ) → slice_get cells i ≡ Some n → (v : V) × (slice_get vs i ≡ Some v) × (f n ≡ Some v)
hold_get f [] vs e i n h = absurd cc
hold_get f (c ∷ cells) [] e i n h = absurd cc
hold_get f (c ∷ cells) (v ∷ vs) e zero n h =
    let a : f c ≡ Some v = cc in
    (v, refl, ap f (sym (same_Some c n h)) ∙ a)
hold_get f (c ∷ cells) (v ∷ vs) e (suc i) n h =
    let rest : map f cells ≡ map Some vs = cc in
    hold_get f cells vs rest i n h

split_at : {V : Type 0} (vs : List V) (i : ℕ) (v : V) → slice_get vs i ≡ Some v → vs ≡ take i vs ++ v ∷ drop (suc i) vs
split_at [] i v e = absurd cc
split_at (u ∷ vs) zero v e = ap (λ x. x ∷ vs) (same_Some u v e)
split_at (u ∷ vs) (suc i) v e = ap (λ xs. u ∷ xs) (split_at vs i v e)

module _ {S : Type 0} (dom : Operations S) (store : Store S) (cells : List ℕ) where
  -- the first so many cells hold states, and these are joined
  abbrev pub IsJoined : List (plain.Value S) → ℕ → Option S → Type 0
  IsJoined vs i o = (ss : List S) × (take i vs ≡ map plain.State ss) × (o ≡ joined_all dom None ss)

  module _ (vs : List (plain.Value S)) (holds : HoldValues store cells vs) where
    held_at : (i : ℕ) → i < length cells → (v : plain.Value S) × (slice_get vs i ≡ Some v) × (value_in store (get_or cells i 0) ≡ Some v)
    held_at i l = hold_get (value_in store) cells vs holds i (get_or cells i 0) (slice_get-get_or cells i 0 l)

    -- a cell is there
    pub cell_there : (i : ℕ) → i < length cells → value_at store.graph.cells (get_or cells i 0) ≡ None → ⊥
    cell_there i l none =
        let p = held_at i l in
        let c : None ≡ Some p.0 = sym (ap (option_and_then (plain_value store.states)) none) ∙ p.2 in
        cc

    -- the state that a cell holds is known
    pub state_known : (i : ℕ) (h : Held) → i < length cells → value_at store.graph.cells (get_or cells i 0) ≡ Some (State h) → (s : S) × (slice_get store.states h.state ≡ Some s) × (slice_get vs i ≡ Some (plain.State s))
    state_known i h l e =
        let p = held_at i l in
        go p.0 p.1 (slice_get store.states h.state) refl (sym (ap (option_and_then (plain_value store.states)) e) ∙ p.2)
      where
        go : (v : plain.Value S) → slice_get vs i ≡ Some v → (o : Option S) → slice_get store.states h.state ≡ o → option_map plain.State o ≡ Some v → (s : S) × (slice_get store.states h.state ≡ Some s) × (slice_get vs i ≡ Some (plain.State s))
        go v at None k f = absurd cc
        go v at (Some s) k f = (s, k, at ∙ sym f)

    pub joined_more : (i : ℕ) (h : Held) (t r : S) (o : Option S) → i < length cells → value_at store.graph.cells (get_or cells i 0) ≡ Some (State h) → slice_get store.states h.state ≡ Some t → r ≡ joined dom o t → IsJoined vs i o → IsJoined vs (i + 1) (Some r)
    joined_more i h t r o l e at is (ss, front, all) =
        let p = state_known i h l e in
        let same : p.0 ≡ t = same_Some p.0 t (sym p.1 ∙ at) in
        let one : i + 1 ≡ suc i = omega arith in (
          ss ++ t ∷ [],
          ap (λ n. take n vs) one ∙ (take_next vs i (plain.State p.0) p.2 ∙ (ap (λ xs. xs ++ plain.State p.0 ∷ []) front ∙ (ap (λ s. map plain.State ss ++ plain.State s ∷ []) same ∙ sym (map-append plain.State ss (t ∷ []))))),
          ap Some is ∙ (ap (λ p. Some (joined dom p t)) all ∙ sym (joined_next dom None ss t)),
        )

    -- all cells hold states
    pub joined_says : (engine : LoopOptions) (i : ℕ) (o : Option S) → i ≤ length cells → length cells ≤ i → IsJoined vs i o → Says (summed dom engine vs) (option_map State o)
    joined_says engine i o a b (ss, front, all) =
        let n : length vs ≡ length cells = sym (length-map vs Some) ∙ (sym (ap length holds) ∙ length-map cells (value_in store)) in
        let m : i ≡ length vs = omega arith in
        let whole : vs ≡ map plain.State ss = sym (take-length vs) ∙ (ap (λ k. take k vs) (sym m) ∙ front) in
        subst (λ us. Says (summed dom engine us) (option_map State o)) (sym whole) (says_joined dom engine ss o all)

    -- one holds an Over
    pub over_says : (engine : LoopOptions) (i n : ℕ) (chain : List ℕ) (o : Option S) → i < length cells → value_at store.graph.cells (get_or cells i 0) ≡ Some (Over n chain) → IsJoined vs i o → Says (summed dom engine vs) (Some (Over n chain))
    over_says engine i n chain o l e (ss, front, all) =
        let p = held_at i l in
        let is : plain.Over n (reverse chain) ≡ p.0 = same_Some (plain.Over n (reverse chain)) p.0 (sym (ap (option_and_then (plain_value store.states)) e) ∙ p.2) in
        let whole : vs ≡ map plain.State ss ++ plain.Over n (reverse chain) ∷ drop (suc i) vs = split_at vs i p.0 p.1 ∙ (ap (λ xs. xs ++ p.0 ∷ drop (suc i) vs) front ∙ ap (λ v. map plain.State ss ++ v ∷ drop (suc i) vs) (sym is)) in
        subst (λ us. Says (summed dom engine us) (Some (Over n chain))) (sym whole) (says_over dom engine ss n chain (drop (suc i) vs))

-- the ticks of one cell more
pub ticks_next : {S : Type 0} (first before after each i : ℕ) (o : Option S) → before ≤ first + each * (2 * i) → after ≡ before + joined_ticks each o → after ≤ first + each * (2 * (i + 1))
ticks_next {S} first before after each i o h k = go o k
  where
    more : each * (2 * (i + 1)) ≡ each * (2 * i) + each * 2
    more = ap (λ n. each * n) (let e : 2 * (i + 1) ≡ 2 * i + 2 = omega arith in e) ∙ mul-add each (2 * i) 2

    go : (p : Option S) → after ≡ before + joined_ticks each p → after ≤ first + each * (2 * (i + 1))
    go None k = rw more (omega arith)
    go (Some s) k = rw more (omega arith)

pub ticks_within : (first after each i n : ℕ) → i < n → after ≤ first + each * (2 * (i + 1)) → after ≤ first + each * (2 * n)
ticks_within first after each i n l h =
    let e : 2 * n ≡ 2 * (i + 1) + (2 * n - 2 * (i + 1)) = omega arith in
    let m : each * (2 * n) ≡ each * (2 * (i + 1)) + each * (2 * n - 2 * (i + 1)) = ap (λ k. each * k) e ∙ mul-add each (2 * (i + 1)) (2 * n - 2 * (i + 1)) in
    rw m (omega arith)

pub ticks_failed : {S : Type 0} (first before after each i : ℕ) (o : Option S) → before ≤ first + each * (2 * i) → (after ≡ before + each) ⊎ (after ≡ before + joined_ticks each o) → after ≤ first + each * (2 * (i + 1))
ticks_failed {S} first before after each i o h (inl k) = ticks_next {S = S} first before after each i None h k
ticks_failed first before after each i o h (inr k) = ticks_next first before after each i o h k

module _ {S : Type 0} (dom : Operations S) (plan : Plan) where
  -- the answer of a location's targets is that of batch interpretation
  pub batch_is : (ts : List Target) (at : Location) (string : List ℕ) (p : ℕ) → IsChecked plan.program → targets plan.program p at string ≡ Some ts → summed dom plan.engine (map (value_of_target (found dom plan)) ts) ≡ answer_in dom plan.engine plan.program at string (In p)
  unfolding found
  batch_is ts at string p checked e = sym (answer_at dom plan.engine plan.program same_name same_is checked at string p ts e)

-- what is answered by a state covers what answers cover
pub covers_by : {S E : Type 0} (covers : S → Heap → List Variables → Type 0) (program : List Routine) (at : Location) (string : List ℕ) (a : Answer S) (r : Result (Option (Value S)) E) →
    ((s : S) (c : Config) → a ≡ Answers (plain.State s) → Reach program at string c → covers s (top c).heap (variables_of (top c).frames)) → IfOk r (Says a) → IfOk r (Covers covers program at string)
covers_by covers program at string a (Err e) sound h = tt
covers_by covers program at string a (Ok None) sound h = tt
covers_by covers program at string a (Ok (Some (State s))) sound h = λ c reach. sound s c h reach
covers_by covers program at string a (Ok (Some (Over n chain))) sound h = tt
