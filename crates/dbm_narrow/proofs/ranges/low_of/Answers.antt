use Rattle.std.specs.Prelude.{◌≤◌, ◌+◌, ◌*◌, FitsSigned, false, length}
use Rattle.std.proofs.Common.{arith, rules, sym, subst, ◌∙◌, ap, get_or}
use Rattle.std.proofs.lemmas.Int.{to_z-of_z}
use mir.Syntax.{w128}
use Rattle.dbm_close.specs.Steps.{range_low}
use Rattle.dbm_narrow.proofs.EntryLemmas.{held-kept}
use Rattle.dbm_narrow.proofs.PartLemmas.{place-in}
use Rattle.dbm_narrow.proofs.RoundLemmas.{narrow-size}
use Rattle.dbm_narrow.specs.Entries.{IsEntry, at, wide}
use Rattle.dbm_narrow.proofs.ranges.low_of.Goals as goal

pub place-down-requires-clause-row : goal.place-down-requires-clause-row
place-down-requires-clause-row gen c = omega (arith, c.requires.narrow.matrix.few)

pub read-requires : goal.read-requires
read-requires gen c = record {
  place = omega (arith, place-in gen.W.Width.unit gen.W.Width.positive c.args.entries.now (length c.args.kinds.now) (2 * c.args.slot) (2 * c.args.slot + 1) (narrow-size gen.W.Width.unit gen.W.Width.positive c.args.kinds.now c.args.entries.now c.requires.narrow) (omega arith) (omega arith));
}

pub low_end-requires : goal.low_end-requires
low_end-requires gen c = record { bound = subst (IsEntry gen.W.Width.unit (2 * gen.W.Width.unit)) (sym c.read.ensures.value) (c.requires.narrow.entries c.place-down.result) }

pub returns : goal.returns
returns gen c =
    let few : length c.args.kinds.now ≤ 16 = c.requires.narrow.matrix.few in
    let f : FitsSigned w128 c.low_end.result = search rules in
    record {
      low = to_z-of_z w128 c.low_end.result f
          ∙ c.low_end.ensures.low
          ∙ ap (λ x. range_low (get_or c.args.kinds.now c.args.slot false) (wide gen.W.Width.unit x)) (c.read.ensures.value ∙ ap (at gen.W.Width.unit c.args.entries.now) c.place-down.ensures.place)
          ∙ ap (range_low (get_or c.args.kinds.now c.args.slot false)) (sym (held-kept gen.W.Width.unit gen.W.Width.positive c.args.kinds.now c.args.entries.now (2 * c.args.slot) (2 * c.args.slot + 1) (omega arith)));
    }
