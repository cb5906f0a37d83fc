use Rattle.std.proofs.Common.{◌≡◌, suc, ◌-◌, sym, subst, arith}
use Rattle.std.specs.Bool.{Decides}
use Rattle.loop_unroll.proofs.Deciding.{repeats-some, repeats-none}
use Rattle.loop_unroll.proofs.stage.repeats.Goals as goal
use Rattle.std.proofs.lemmas.Option.{slice_get-get_or}

pub returns-in-Some : goal.returns-in-Some
returns-in-Some g c =
    let i = c.args.last - 1 in
    let is : c.args.last ≡ suc i = omega (arith, c.if-last-eq0.false) in
    let D : _ → Type 0 = λ b. Decides b (c.in-Some.before.now ≡ c.args.state.now) in
    record {
      is = repeats-some c.args.graph.now.cells c.args.cells.now c.args.last i _ c.args.state.now is (slice_get-get_or c.args.cells.now i 0 (omega (arith, c.requires.within, is))) c.requires.state
          c.in-Some.before.now (sym c.in-Some.ensures.is) c.eq.result (subst D (sym c.eq.ensures) (c.requires.equality c.in-Some.before.now c.args.state.now));
    }

pub returns-in-None : goal.returns-in-None
returns-in-None g c =
    let i = c.args.last - 1 in
    let is : c.args.last ≡ suc i = omega (arith, c.if-last-eq0.false) in
    record { is = repeats-none c.args.graph.now.cells c.args.cells.now c.args.last i _ c.args.state.now is (slice_get-get_or c.args.cells.now i 0 (omega (arith, c.requires.within, is))) c.requires.state (sym c.in-None.ensures.is) }
