use Rattle.std.specs.Prelude.{◌≡◌, ◌*◌}
use Rattle.std.proofs.Common.{sym, subst, ◌∙◌, ap}
use Rattle.dbm_narrow.specs.Entries.{IsEntry, at, through_both}
use Rattle.dbm_narrow.proofs.rows.gone_at.Goals as goal

pub over_both-requires-clause-from_first : goal.over_both-requires-clause-from_first
over_both-requires-clause-from_first gen c =
    let e : c.read-first.result ≡ at gen.W.Width.unit c.args.from_first.now c.args.j = c.read-first.ensures.value in
    subst (IsEntry gen.W.Width.unit (8 * gen.W.Width.unit)) (sym e) (c.requires.from_first c.args.j)

pub over_both-requires-clause-from_second : goal.over_both-requires-clause-from_second
over_both-requires-clause-from_second gen c =
    let e : c.read-second.result ≡ at gen.W.Width.unit c.args.from_second.now c.args.j = c.read-second.ensures.value in
    subst (IsEntry gen.W.Width.unit (8 * gen.W.Width.unit)) (sym e) (c.requires.from_second c.args.j)

pub returns : goal.returns
returns gen c =
    let x : c.read-here.result ≡ at gen.W.Width.unit c.args.row.now c.args.j = c.read-here.ensures.value in
    let f : c.read-first.result ≡ at gen.W.Width.unit c.args.from_first.now c.args.j = c.read-first.ensures.value in
    let g : c.read-second.result ≡ at gen.W.Width.unit c.args.from_second.now c.args.j = c.read-second.ensures.value in
    record {
      value = c.over_both.ensures.value
          ∙ ap (through_both gen.W.Width.unit c.args.to_first c.args.to_second c.read-first.result c.read-second.result) x
          ∙ ap (λ f. through_both gen.W.Width.unit c.args.to_first c.args.to_second f c.read-second.result (at gen.W.Width.unit c.args.row.now c.args.j)) f
          ∙ ap (λ g. through_both gen.W.Width.unit c.args.to_first c.args.to_second (at gen.W.Width.unit c.args.from_first.now c.args.j) g (at gen.W.Width.unit c.args.row.now c.args.j)) g;
    }
