-- Turns that follow one another come to what a demand promises.
use Rattle.std.proofs.Common.{◌≡◌, ℕ, suc, ◌+◌, ◌*◌, ◌<◌, ◌≤◌, Bool, true, false, List, length, Option, Some, None, sym, ap, subst, ◌∙◌, arith, mul-add, eqb}
use Rattle.std.specs.Prelude.{IfSome, IfOk, Result, Ok, Err}
use Rattle.std.specs.Option.{option_eq}
use Rattle.std.proofs.lemmas.Bool.Decides.{nat_tests}
use Rattle.domain_laws.specs.Operations.{Operations}
use Rattle.cell_rows.specs.Targets.{Target}
use Rattle.imp_flow.specs.Plans.{Plan}
use Rattle.daig_query.specs.declared.advance.Progress.{Progress}
use Rattle.daig_query.specs.declared.store.Store.{Store}
use Rattle.daig_query.specs.declared.turning.TurnOutcome.{TurnOutcome}
use Rattle.daig_query.specs.declared.turning.TurnOutcome.TheVariants.{Pushed, Filled, Spent, Done}
use Rattle.daig_query.specs.declared.walk.Walk.{Walk}
use Rattle.daig_query.specs.Kept.{AddsFew, Names}
use Rattle.daig_query.specs.Filled.{cells_added, missing, Fills}
use Rattle.daig_query.specs.Turned.{stacked_names, fills_of, Ends, FillsTop, IsTurn, Obeys, Pushes, Waits}
use Rattle.daig_query.specs.Walked.{IsDone, IsGood}
use Rattle.daig_query.proofs.Growing.{few_more, few_trans, names_few}
use Rattle.daig_query.proofs.Turns.{IsRunning, added_still, running_left, stops, pushes, pushes_smaller, fills_one, fills_smaller, fills_more, waits_more, ends_all, within_still, within_more, turned, ticks_same, ticks_more}

-- What the clauses of a demand say, of a result.
pub record IsDemand {S E : Type 0} (dom : Operations S) (plan : Plan) (ts : List Target) (old new : Store S) (after : Walk) (limit : Option ℕ) (each ticks later : ℕ) (result : Result Progress E) : Type 0 where
  pub fills : Fills dom plan ts old new (cells_added old new)
  pub walk : IsGood dom plan ts new after
  pub within : IfSome limit (λ n. cells_added old new ≤ n)
  pub counted : IfOk result (λ p. p.filled ≡ cells_added old new)
  pub all : IfOk result (λ p. p.done ≡ true → p.filled ≡ length (missing dom plan ts old))
  pub done : IfOk result (λ p. p.done ≡ true → IsDone dom plan ts new after)
  pub more : IfOk result (λ p. p.done ≡ false → p.filled < length (missing dom plan ts old))
  pub limited : IfOk result (λ p. p.done ≡ false → limit ≡ Some p.filled)
  pub least : ticks ≤ later
  pub ticked : IfOk result (λ p. later ≤ ticks + each * p.filled)
  pub most : later ≤ ticks + each * suc (cells_added old new)

-- a limit that is met
pub limit_met : (limit : Option ℕ) (m : ℕ) → option_eq eqb limit (Some m) ≡ true → limit ≡ Some m
limit_met None m h = absurd cc
limit_met (Some n) m h =
    let b : eqb n m ≡ true = h in
    let e : n ≡ m = grind (arith, nat_tests) in
    ap Some e

-- the ticks of one operation more, which is no fill
ticks_past : (first before after each a b : ℕ) → b ≡ a → before ≤ first + each * a → after ≤ before + each → after ≤ first + each * suc b
ticks_past first before after each a b e h k =
    let q : suc b ≡ a + 1 = omega (arith, e) in
    let m : each * suc b ≡ each * a + each * 1 = ap (λ n. each * n) q ∙ mul-add each a 1 in
    omega arith

-- turns have come from a first store and these ticks to a store, a walk and ticks
pub record HasCome {S : Type 0} (dom : Operations S) (plan : Plan) (ts : List Target) (first : Store S) (limit : Option ℕ) (each start : ℕ) (store : Store S) (w : Walk) (ticks : ℕ) : Type 0 where
  pub running : IsRunning dom plan ts first store w
  pub within : IfSome limit (λ n. cells_added first store ≤ n)
  pub least : start ≤ ticks
  pub most : ticks ≤ start + each * cells_added first store
  pub few : AddsFew (cells_added first store) first store

module _ {S : Type 0} (first : Store S) where
  -- a few more, and those of a cell more
  few_past : (old new : Store S) (a b : ℕ) → b ≡ a → AddsFew a first old → AddsFew 1 old new → AddsFew (suc b) first new
  few_past old new a b same h k = few_more first new (a + 1) (suc b) (omega (arith, same)) (few_trans first old new a 1 h k)

  few_still : (old new : Store S) (a b : ℕ) → b ≡ a → AddsFew a first old → Names old new → AddsFew b first new
  few_still old new a b same h k = few_more first new (a + 0) b (omega (arith, same)) (few_trans first old new a 0 h (names_few old new k))

  few_ends : (old new : Store S) (a b : ℕ) → b ≡ a → AddsFew a first old → Names old new → AddsFew (suc b) first new
  few_ends old new a b same h k = few_more first new b (suc b) (omega arith) (few_still old new a b same h k)

module _ {S : Type 0} {dom : Operations S} {plan : Plan} {ts : List Target} {first : Store S} {limit : Option ℕ} {each start : ℕ} where
  module _ {old new : Store S} {before after : Walk} {spent : Bool} {ticks later : ℕ} (come : HasCome dom plan ts first limit each start old before ticks) where
    pub demand_failed : {E : Type 0} {e : E} → IsTurn dom plan ts old new (stacked_names old before.stack.items) after spent each ticks later (Err e) → {F : Type 0} (f : F) (r : Result Progress F) → r ≡ Err f → IsDemand dom plan ts first new after limit each start later r
    demand_failed t {F} f r is =
        let same : cells_added first new ≡ cells_added first old = added_still dom plan ts first old new t.err.cells in
        subst (IsDemand {E = F} dom plan ts first new after limit each start later) (sym is) (record {
          fills = stops dom plan ts first old new before after come.running t.right t.grows t.walk t.err.cells (few_past first old new (cells_added first old) (cells_added first new) same come.few t.err.few);
          walk = t.walk;
          within = within_still dom plan ts limit (cells_added first old) (cells_added first new) same come.within;
          counted = tt;
          all = tt;
          done = tt;
          more = tt;
          limited = tt;
          least = omega (arith, come.least, t.least);
          ticked = tt;
          most = ticks_past start ticks later each (cells_added first old) (cells_added first new) same come.most t.most;
        })

    module _ {E : Type 0} {turn : TurnOutcome} (t : IsTurn {E = E} dom plan ts old new (stacked_names old before.stack.items) after spent each ticks later (Ok turn)) where
      ticked_by : (is : TurnOutcome) → turn ≡ is → later ≤ ticks + each * fills_of is
      ticked_by is e = subst (λ u. later ≤ ticks + each * fills_of u) e t.ticked

      least_by : start ≤ later
      least_by = omega (arith, come.least, t.least)

      module _ (e : turn ≡ Pushed) where
        abbrev pushed : Pushes old new (stacked_names old before.stack.items) after
        pushed = turned dom plan ts old new (stacked_names old before.stack.items) after turn Pushed e t.turns

        pub come_pushed : HasCome dom plan ts first limit each start new after later
        come_pushed =
            let same : cells_added first new ≡ cells_added first old = added_still dom plan ts first old new (ap (λ g. g.cells) pushed.only.graph) in
            record {
              running = pushes dom plan ts first old new before after come.running t.right t.grows t.walk pushed;
              within = within_still dom plan ts limit (cells_added first old) (cells_added first new) same come.within;
              least = least_by;
              most = ticks_same start ticks later each (cells_added first old) (cells_added first new) same come.most (ticked_by Pushed e);
              few = few_still first old new (cells_added first old) (cells_added first new) same come.few pushed.only;
            }

        pub pushed_smaller : running_left dom plan ts first new after < running_left dom plan ts first old before
        pushed_smaller = pushes_smaller dom plan ts first old new before after come.running t.right t.grows t.walk pushed

      module _ (e : turn ≡ Filled) where
        abbrev filled : FillsTop dom plan ts old new (stacked_names old before.stack.items) after
        filled = turned dom plan ts old new (stacked_names old before.stack.items) after turn Filled e t.turns

        pub come_filled : (spent ≡ false → limit ≡ Some (cells_added first old) → ⊥) → HasCome dom plan ts first limit each start new after later
        come_filled free =
            let more : cells_added first new ≡ cells_added first old + 1 = fills_more dom plan ts first old new before after come.running t.right t.grows t.walk filled in
            record {
              running = fills_one dom plan ts first old new before after come.running t.right t.grows t.walk filled;
              within = within_more dom plan ts limit (cells_added first old) (cells_added first new) more (free (subst (Obeys spent) e t.obeys)) come.within;
              least = least_by;
              most = ticks_more start ticks later each (cells_added first old) (cells_added first new) more come.most (ticked_by Filled e);
              few = few_more first new (cells_added first old + 1) (cells_added first new) (omega (arith, more)) (few_trans first old new (cells_added first old) 1 come.few filled.puts.few);
            }

        pub filled_smaller : running_left dom plan ts first new after < running_left dom plan ts first old before
        filled_smaller = fills_smaller dom plan ts first old new before after come.running t.right t.grows t.walk filled

      -- the demand ends here
      module _ {count : ℕ} (counted : count ≡ cells_added first old) where
        pub demand_spent : turn ≡ Spent → (spent ≡ true → limit ≡ Some count) → {F : Type 0} → IsDemand {E = F} dom plan ts first new after limit each start later (Ok (record { filled = count; done = false }))
        demand_spent e met =
            let waits : Waits dom plan ts old new (stacked_names old before.stack.items) after = turned dom plan ts old new (stacked_names old before.stack.items) after turn Spent e t.turns in
            let cells : new.graph.cells ≡ old.graph.cells = ap (λ g. g.cells) waits.only.graph in
            let same : cells_added first new ≡ cells_added first old = added_still dom plan ts first old new cells in
            let more : cells_added first new < length (missing dom plan ts first) = waits_more dom plan ts first old new before after come.running t.right t.grows t.walk waits in
            record {
              fills = stops dom plan ts first old new before after come.running t.right t.grows t.walk cells (few_ends first old new (cells_added first old) (cells_added first new) same come.few waits.only);
              walk = t.walk;
              within = within_still dom plan ts limit (cells_added first old) (cells_added first new) same come.within;
              counted = counted ∙ sym same;
              all = λ d. absurd cc;
              done = λ d. absurd cc;
              more = λ d. omega (arith, more, same, counted);
              limited = λ d. met (subst (Obeys spent) e t.obeys);
              least = least_by;
              ticked = ticks_same start ticks later each (cells_added first old) count counted come.most (ticked_by Spent e);
              most = ticks_past start ticks later each (cells_added first old) (cells_added first new) same come.most t.most;
            }

        pub demand_done : turn ≡ Done → {F : Type 0} → IsDemand {E = F} dom plan ts first new after limit each start later (Ok (record { filled = count; done = true }))
        demand_done e =
            let ends : Ends dom plan ts old new (stacked_names old before.stack.items) after = turned dom plan ts old new (stacked_names old before.stack.items) after turn Done e t.turns in
            let cells : new.graph.cells ≡ old.graph.cells = ap (λ g. g.cells) ends.only.graph in
            let same : cells_added first new ≡ cells_added first old = added_still dom plan ts first old new cells in
            let all : cells_added first new ≡ length (missing dom plan ts first) = ends_all dom plan ts first old new before after come.running t.right t.grows t.walk ends in
            record {
              fills = stops dom plan ts first old new before after come.running t.right t.grows t.walk cells (few_ends first old new (cells_added first old) (cells_added first new) same come.few ends.only);
              walk = t.walk;
              within = within_still dom plan ts limit (cells_added first old) (cells_added first new) same come.within;
              counted = counted ∙ sym same;
              all = λ d. counted ∙ (sym same ∙ all);
              done = λ d. ends.done;
              more = λ d. absurd cc;
              limited = λ d. absurd cc;
              least = least_by;
              ticked = ticks_same start ticks later each (cells_added first old) count counted come.most (ticked_by Done e);
              most = ticks_past start ticks later each (cells_added first old) (cells_added first new) same come.most t.most;
            }
