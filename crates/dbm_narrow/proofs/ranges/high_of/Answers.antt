use Rattle.std.specs.Prelude.{◌≤◌, ◌+◌, ◌*◌, FitsSigned, false, length}
use Rattle.std.proofs.Common.{arith, rules, sym, ◌∙◌, ap, get_or}
use Rattle.std.proofs.lemmas.Int.{to_z-of_z}
use mir.Syntax.{w128}
use Rattle.dbm_close.specs.Steps.{range_high}
use Rattle.dbm_narrow.proofs.EntryLemmas.{held-kept}
use Rattle.dbm_narrow.proofs.PartLemmas.{place-in}
use Rattle.dbm_narrow.proofs.RoundLemmas.{narrow-size}
use Rattle.dbm_narrow.specs.Entries.{at, wide}
use Rattle.dbm_narrow.proofs.ranges.high_of.Goals as goal

pub place-up-requires-clause-row : goal.place-up-requires-clause-row
place-up-requires-clause-row gen c = omega (arith, c.requires.narrow.matrix.few)

pub read-requires : goal.read-requires
read-requires gen c = record {
  place = omega (arith, place-in gen.W.Width.unit gen.W.Width.positive c.args.entries.now (length c.args.kinds.now) (2 * c.args.slot + 1) (2 * c.args.slot) (narrow-size gen.W.Width.unit gen.W.Width.positive c.args.kinds.now c.args.entries.now c.requires.narrow) (omega arith) (omega arith));
}

pub returns : goal.returns
returns gen c =
    let few : length c.args.kinds.now ≤ 16 = c.requires.narrow.matrix.few in
    let f : FitsSigned w128 c.high_end.result = search rules in
    record {
      high = to_z-of_z w128 c.high_end.result f
          ∙ c.high_end.ensures.high
          ∙ ap (λ x. range_high (get_or c.args.kinds.now c.args.slot false) (wide gen.W.Width.unit x)) (c.read.ensures.value ∙ ap (at gen.W.Width.unit c.args.entries.now) c.place-up.ensures.place)
          ∙ ap (range_high (get_or c.args.kinds.now c.args.slot false)) (sym (held-kept gen.W.Width.unit gen.W.Width.positive c.args.kinds.now c.args.entries.now (2 * c.args.slot + 1) (2 * c.args.slot) (omega arith)));
    }
