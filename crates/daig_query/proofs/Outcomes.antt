-- What turns at the name on top of a stack come to.
use Rattle.std.proofs.Common.{◌≡◌, ℕ, suc, ◌||◌, ◌+◌, ◌≤◌, Bool, true, false, List, Result, Ok, Err, IfOk, OnErr, sym, ap, subst, ◌∙◌, arith}
use Rattle.std.specs.FinMap.{len}
use Rattle.domain_laws.specs.Operations.{Operations}
use Rattle.cell_names.specs.Known.{IsOnce}
use Rattle.cell_names.specs.Paths.{CellName}
use Rattle.cell_graph.specs.Same.{same_name}
use Rattle.cell_rows.specs.Targets.{Target}
use Rattle.imp_flow.specs.Plans.{Plan}
use Rattle.daig_query.specs.declared.store.Store.{Store}
use Rattle.daig_query.specs.declared.turning.TurnOutcome.{TurnOutcome}
use Rattle.daig_query.specs.declared.turning.TurnOutcome.TheVariants.{Pushed, Filled, Spent, Done}
use Rattle.daig_query.specs.declared.walk.Walk.{Walk}
use Rattle.daig_query.specs.Kept.{kept, AddsNoCell, Names}
use Rattle.daig_query.specs.Right.{IsRight}
use Rattle.daig_query.specs.Opened.{Computes, Puts}
use Rattle.daig_query.specs.Turned.{Pushes, FillsTop, Waits, IsTurn, Turns}
use Rattle.daig_query.specs.Walked.{IsGood}
use Rattle.daig_query.proofs.Filling.{computes_grow}
use Rattle.daig_query.proofs.Growing.{few_trans, grows_trans, kept_same, names_few, names_grow, names_no_cell, names_trans}
use Rattle.daig_query.proofs.Walks.{good_grows}

module _ {S : Type 0} (dom : Operations S) (plan : Plan) (ts : List Target) where
  -- Turns that fill nothing, after a look that gave names numbers.
  module _ (old mid : Store S) (before : List CellName) (after : Walk) (spent : Bool) (each ticks : ℕ) (right : IsRight dom plan mid) (names : Names old mid) (good : IsGood dom plan ts mid after) where
    pub turn_failed : {E : Type 0} (e : E) (r : Result TurnOutcome E) → r ≡ Err e → IsTurn dom plan ts old mid before after spent each ticks ticks r
    turn_failed {E} e r is =
        subst (IsTurn {E = E} dom plan ts old mid before after spent each ticks ticks) (sym is) (record {
          right = right;
          grows = names_grow old mid names;
          walk = good;
          turns = tt;
          obeys = tt;
          err = names_no_cell old mid names;
          least = omega arith;
          ticked = tt;
          most = omega arith;
        })

    pub turn_pushed : {E : Type 0} → Pushes old mid before after → IsTurn {E = E} dom plan ts old mid before after spent each ticks ticks (Ok Pushed)
    turn_pushed pushes = record {
      right = right;
      grows = names_grow old mid names;
      walk = good;
      turns = pushes;
      obeys = tt;
      err = tt;
      least = omega arith;
      ticked = omega arith;
      most = omega arith;
    }

    pub turn_spent : {E : Type 0} → spent ≡ true → Waits dom plan ts old mid before after → IsTurn {E = E} dom plan ts old mid before after spent each ticks ticks (Ok Spent)
    turn_spent is waits = record {
      right = right;
      grows = names_grow old mid names;
      walk = good;
      turns = waits;
      obeys = is;
      err = tt;
      least = omega arith;
      ticked = omega arith;
      most = omega arith;
    }

  -- Turns that come to a fill, after such a look.
  module _ (old mid new : Store S) (before : List CellName) (spent : Bool) (each ticks later : ℕ) (names : Names old mid) (least : ticks ≤ later) (most : later ≤ ticks + each) where
    pub turn_unfilled : (w : Walk) → Computes dom plan mid new → IsGood dom plan ts mid w → {E : Type 0} (e : E) (r : Result TurnOutcome E) → r ≡ Err e → IsTurn dom plan ts old new before w spent each ticks later r
    turn_unfilled w computes good {E} e r is =
        subst (IsTurn {E = E} dom plan ts old new before w spent each ticks later) (sym is) (record {
          right = computes.right;
          grows = grows_trans old mid new (names_grow old mid names) (computes_grow dom plan mid new computes);
          walk = good_grows dom plan ts mid new w computes.right (computes_grow dom plan mid new computes) good;
          turns = tt;
          obeys = tt;
          err = record { cells = computes.cells ∙ ap (λ g. g.cells) names.graph; few = few_trans old mid new 0 1 (names_few old mid names) computes.few };
          least = least;
          ticked = tt;
          most = most;
        })

    pub turn_filled : (after : Walk) (x : CellName) → Puts dom plan mid new x → IsGood dom plan ts new after → FillsTop dom plan ts old new before after → spent ≡ false → {E : Type 0} → IsTurn {E = E} dom plan ts old new before after spent each ticks later (Ok Filled)
    turn_filled after x puts good fills is = record {
      right = puts.right;
      grows = grows_trans old mid new (names_grow old mid names) puts.grows;
      walk = good;
      turns = fills;
      obeys = is;
      err = tt;
      least = least;
      ticked = omega (arith, most);
      most = most;
    }

  -- A turn after a look that gave names numbers is one from before it.
  module _ (old mid new : Store S) (right : IsRight dom plan old) (once : IsOnce mid.names.names) (names : Names old mid) where
    same : (x : CellName) → kept mid x ≡ kept old x
    same = kept_same dom plan old mid right names once

    turns_before : (before : List CellName) (after : Walk) (t : TurnOutcome) → Turns dom plan ts mid new before after t → Turns dom plan ts old new before after t
    turns_before before after Pushed p = record { top = p.top; names = p.names; absent = p.absent; only = names_trans old mid new names p.only }
    turns_before before after Filled p = record {
      top = p.top;
      names = p.names;
      ready = λ x m. sym (same x) ∙ p.ready x m;
      puts = record {
        right = p.puts.right;
        grows = grows_trans old mid new (names_grow old mid names) p.puts.grows;
        adds = λ y. p.puts.adds y ∙ ap (λ b. b || same_name y p.top) (same y);
        count = p.puts.count ∙ ap (λ g. suc (len g.cells)) names.graph;
        few = few_trans old mid new 0 1 (names_few old mid names) p.puts.few;
      };
    }
    turns_before before after Spent p = record { rest = p.rest; top = p.top; names = p.names; split = p.split; ready = p.ready; only = names_trans old mid new names p.only }
    turns_before before after Done p = record { names = p.names; bottom = p.bottom; done = p.done; only = names_trans old mid new names p.only }

    pub turn_before : {E : Type 0} (before : List CellName) (after : Walk) (spent : Bool) (each ticks later : ℕ) (r : Result TurnOutcome E) → IsTurn dom plan ts mid new before after spent each ticks later r → IsTurn dom plan ts old new before after spent each ticks later r
    turn_before before after spent each ticks later r t = record {
      right = t.right;
      grows = grows_trans old mid new (names_grow old mid names) t.grows;
      walk = t.walk;
      turns = turns r t.turns;
      obeys = t.obeys;
      err = fails r t.err;
      least = t.least;
      ticked = t.ticked;
      most = t.most;
    }
      where
        turns : {E : Type 0} (r : Result TurnOutcome E) → IfOk r (Turns dom plan ts mid new before after) → IfOk r (Turns dom plan ts old new before after)
        turns (Ok u) h = turns_before before after u h
        turns (Err e) h = tt

        fails : {E : Type 0} (r : Result TurnOutcome E) → OnErr r (AddsNoCell mid new) → OnErr r (AddsNoCell old new)
        fails (Ok u) h = tt
        fails (Err e) h = record { cells = h.cells ∙ ap (λ g. g.cells) names.graph; few = few_trans old mid new 0 1 (names_few old mid names) h.few }
