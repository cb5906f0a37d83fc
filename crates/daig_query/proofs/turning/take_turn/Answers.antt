use Rattle.std.proofs.Common.{◌≡◌, ℕ, ◌+◌, ◌*◌, ◌≤◌, true, false, Bool, List, [], ◌∷◌, ◌++◌, length, map, refl, sym, ap, subst, ◌∙◌, arith, eqb, length-append}
use Rattle.std.specs.Prelude.{Result, Ok, Err, IfOk, vec_len}
use Rattle.std.proofs.lemmas.Bool.Decides.{nat_tests}
use Rattle.std.proofs.lemmas.List.{nil_from_length}
use Rattle.std.proofs.lemmas.Result.{err_from_is_err_and}
use Rattle.domain_laws.specs.Operations.{Operations}
use Rattle.cell_rows.specs.Targets.{Target}
use Rattle.imp_flow.specs.Plans.{Plan}
use Rattle.imp_flow.specs.Reached.{target_of}
use Rattle.daig_query.specs.declared.store.Store.{Store}
use Rattle.daig_query.specs.declared.turning.TurnOutcome.{TurnOutcome}
use Rattle.daig_query.specs.declared.turning.TurnOutcome.TheVariants.{Pushed, Filled, Spent, Done}
use Rattle.daig_query.specs.declared.walk.Walk.{Walk}
use Rattle.daig_query.specs.Kept.{Grows, Names}
use Rattle.daig_query.specs.Right.{IsRight}
use Rattle.daig_query.specs.Turned.{fills_of, stacked_names, IsTurn, Obeys, Turns}
use Rattle.daig_query.specs.Walked.{IsGood}
use Rattle.daig_query.proofs.Growing.{names_no_cell, names_refl}
use Rattle.daig_query.proofs.TopTurns.{looked, looked_absent, looked_fails, looked_good, looked_pushes, looked_some, looked_turns, top_opened, top_valid, top_waits}
use Rattle.daig_query.proofs.turning.take_turn.Goals as goal

-- a turn with no name on the stack fills nothing
obeys_anyhow : {S E : Type 0} (dom : Operations S) (plan : Plan) (ts : List Target) (old new : Store S) (after : Walk) (spent : Bool) (r : Result TurnOutcome E) → IfOk r (Turns dom plan ts old new [] after) → IfOk r (Obeys spent)
obeys_anyhow dom plan ts old new after spent (Err e) h = tt
obeys_anyhow dom plan ts old new after spent (Ok Pushed) h = tt
obeys_anyhow dom plan ts old new after spent (Ok Done) h = tt
obeys_anyhow dom plan ts old new after spent (Ok Filled) h =
    let names = stacked_names new after.stack.items in
    let l : 0 ≡ length (names ++ h.top ∷ []) = ap length h.names in
    let a : length (names ++ h.top ∷ []) ≡ length names + 1 = length-append names (h.top ∷ []) in
    absurd (omega arith)
obeys_anyhow dom plan ts old new after spent (Ok Spent) h =
    let l : 0 ≡ length (h.rest ++ h.top ∷ []) = ap length h.split in
    let a : length (h.rest ++ h.top ∷ []) ≡ length h.rest + 1 = length-append h.rest (h.top ∷ []) in
    absurd (omega arith)

-- so it ticks for nothing
module _ {S E : Type 0} {dom : Operations S} {plan : Plan} {ts : List Target} {old new : Store S} {after : Walk} (right : IsRight dom plan new) (grows : Grows old new) (walk : IsGood dom plan ts new after) (only : Names old new) where
  by_walk : (spent : Bool) (each ticks : ℕ) (r : Result TurnOutcome E) → IfOk r (Turns dom plan ts old new [] after) → IsTurn dom plan ts old new [] after spent each ticks ticks r
  by_walk spent each ticks (Err e) h = record { right = right; grows = grows; walk = walk; turns = tt; obeys = tt; err = names_no_cell old new only; least = omega arith; ticked = tt; most = omega arith }
  by_walk spent each ticks (Ok t) h = record { right = right; grows = grows; walk = walk; turns = h; obeys = obeys_anyhow {E = E} dom plan ts old new after spent (Ok t) h; err = tt; least = omega arith; ticked = more; most = omega arith }
    where
      more : ticks ≤ ticks + each * fills_of t
      more = omega arith

pub turn_walk-requires-clause-empty : goal.turn_walk-requires-clause-empty
turn_walk-requires-clause-empty g c =
    let stack = c.args.walk.now.stack in
    let b : eqb (vec_len stack) 0 ≡ true = sym c.is_empty.ensures ∙ c.if-is_empty.true in
    let n : vec_len stack ≡ 0 = grind (arith, nat_tests) in
    nil_from_length stack.items (omega (arith, stack.ok, n))

pub returns-then-is_empty : goal.returns-then-is_empty
returns-then-is_empty g c =
    let stack = c.args.walk.now.stack in
    let b : eqb (vec_len stack) 0 ≡ true = sym c.is_empty.ensures ∙ c.if-is_empty.true in
    let n : vec_len stack ≡ 0 = grind (arith, nat_tests) in
    let empty : stack.items ≡ [] = nil_from_length stack.items (omega (arith, stack.ok, n)) in
    let walk = c.turn_walk in
    let dom = g.D.Domain.operations c.args.dom.now in
    let ts = map target_of c.args.targets.now in
    let each = g.D.Domain.counted c.args.dom.now in
    record {
      turn = subst (λ xs. IsTurn dom c.args.flow.now ts c.args.store.now walk.new.store (stacked_names c.args.store.now xs) walk.new.walk c.args.spent each c.args.steps.now c.args.steps.now walk.result) (sym empty) (
          by_walk walk.ensures.right walk.ensures.grows walk.ensures.walk walk.ensures.only c.args.spent each c.args.steps.now walk.result walk.ensures.turns);
    }

pub revalidate_top-requires-clause-some : goal.revalidate_top-requires-clause-some
revalidate_top-requires-clause-some g c =
    let stack = c.args.walk.now.stack in
    let b : eqb (vec_len stack) 0 ≡ false = sym c.is_empty.ensures ∙ c.if-is_empty.false in
    grind (arith, nat_tests)

pub revalidate_top-requires-clause-top : goal.revalidate_top-requires-clause-top
revalidate_top-requires-clause-top g c = top_opened c.requires.walk

pub returns-in_err-revalidate_top : goal.returns-in_err-revalidate_top
returns-in_err-revalidate_top g c =
    let l = looked c.requires.right c.requires.walk c.requires.right (names_refl c.args.store.now) c.in_err-revalidate_top.ensures.err in
    let e = err_from_is_err_and c.from_residual.result c.from_residual.ensures.1 in
    record { turn = looked_fails l (record c.args.walk.now { stack = c.revalidate_top.new.stack }) refl refl e.0 e.1 }

pub turn_top-requires : goal.turn_top-requires
turn_top-requires g c =
    let l = looked c.requires.right c.requires.walk c.requires.right (names_refl c.args.store.now) c.in_ok-revalidate_top.ensures.finds.stack in
    record {
      right = l.later;
      walk = looked_good l (record c.args.walk.now { stack = c.revalidate_top.new.stack }) refl refl;
      some = omega (arith, c.revalidate_top.new.stack.ok, looked_some l);
      absent = looked_absent l c.requires.absent;
    }

pub returns-in-Changed : goal.returns-in-Changed
returns-in-Changed g c =
    let l = looked c.requires.right c.requires.walk c.requires.right (names_refl c.args.store.now) c.in_ok-revalidate_top.ensures.finds.stack in
    record { turn = looked_turns l c.turn_top.ensures.turn }

pub returns-in_err-push-in-Waits : goal.returns-in_err-push-in-Waits
returns-in_err-push-in-Waits g c =
    let l = looked c.requires.right c.requires.walk c.requires.right (names_refl c.args.store.now) c.in_ok-revalidate_top.ensures.finds.stack in
    let e = err_from_is_err_and c.from_residual-in_err-push-in-Waits.result c.from_residual-in_err-push-in-Waits.ensures.1 in
    record { turn = looked_fails l (record c.args.walk.now { stack = c.push.new.self }) refl c.in_err-push-in-Waits.ensures.items e.0 e.1 }

pub returns-in_ok-push-in-Waits : goal.returns-in_ok-push-in-Waits
returns-in_ok-push-in-Waits g c =
    let finds = c.in_ok-revalidate_top.ensures.finds in
    let l = looked c.requires.right c.requires.walk c.requires.right (names_refl c.args.store.now) finds.stack in
    record { turn = looked_pushes l (record c.args.walk.now { stack = c.push.new.self }) refl c.in_ok-push-in-Waits.ensures.items c.opened.ensures.is (top_waits finds c.in-Waits.is) }

pub turn_valid-requires : goal.turn_valid-requires
turn_valid-requires g c =
    let finds = c.in_ok-revalidate_top.ensures.finds in
    let l = looked c.requires.right c.requires.walk c.requires.right (names_refl c.args.store.now) finds.stack in
    record {
      right = l.later;
      walk = looked_good l (record c.args.walk.now { stack = c.revalidate_top.new.stack }) refl refl;
      some = omega (arith, c.revalidate_top.new.stack.ok, looked_some l);
      absent = looked_absent l c.requires.absent;
      valid = top_valid finds c.in-Valid.is;
    }

pub returns-in-Valid : goal.returns-in-Valid
returns-in-Valid g c =
    let l = looked c.requires.right c.requires.walk c.requires.right (names_refl c.args.store.now) c.in_ok-revalidate_top.ensures.finds.stack in
    record { turn = looked_turns l c.turn_valid.ensures.turn }
