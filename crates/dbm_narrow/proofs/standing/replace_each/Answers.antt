use Rattle.std.specs.Prelude.{◌≡◌, ◌+◌, ◌*◌}
use Rattle.std.proofs.Common.{arith, ◌∙◌, ap, sym, subst}
use Rattle.dbm_core.specs.Nodes.{flip}
use Rattle.dbm_narrow.proofs.StandingLemmas.{replaced-set, set-entries}
use Rattle.dbm_narrow.specs.Entries.{IsEntry, at}
use Rattle.dbm_narrow.proofs.standing.replace_each.Goals as goal

pub returns-then-q-row-clause-kept : goal.returns-then-q-row-clause-kept
returns-then-q-row-clause-kept gen c =
    let na : c.args.i ≡ 2 * c.args.q → ⊥ = λ e. absurd (omega arith) in
    let nb : c.args.i ≡ 2 * c.args.q + 1 → ⊥ = λ e. absurd (omega arith) in
    let a : c.column_at-even.result ≡ at gen.W.Width.unit c.args.second.now (flip c.args.i) = c.column_at-even.ensures.value ∙ ap (at gen.W.Width.unit c.args.second.now) c.other_sign-other.ensures.flipped in
    let b : c.column_at-odd.result ≡ at gen.W.Width.unit c.args.first.now (flip c.args.i) = c.column_at-odd.ensures.value ∙ ap (at gen.W.Width.unit c.args.first.now) c.other_sign-other.ensures.flipped in
    replaced-set gen.W.Width.unit gen.W.Width.positive c.args.q c.args.i c.args.first.now c.args.second.now c.args.row.now _ _ na nb (omega arith) a b

pub returns-then-q-row-clause-within : goal.returns-then-q-row-clause-within
returns-then-q-row-clause-within gen c =
    let a : c.column_at-even.result ≡ at gen.W.Width.unit c.args.second.now (flip c.args.i) = c.column_at-even.ensures.value ∙ ap (at gen.W.Width.unit c.args.second.now) c.other_sign-other.ensures.flipped in
    let b : c.column_at-odd.result ≡ at gen.W.Width.unit c.args.first.now (flip c.args.i) = c.column_at-odd.ensures.value ∙ ap (at gen.W.Width.unit c.args.first.now) c.other_sign-other.ensures.flipped in
    let pa : IsEntry gen.W.Width.unit (2 * gen.W.Width.unit) (c.column_at-even.result) = subst (IsEntry gen.W.Width.unit (2 * gen.W.Width.unit)) (sym a) (c.requires.second (flip c.args.i)) in
    let pb : IsEntry gen.W.Width.unit (2 * gen.W.Width.unit) (c.column_at-odd.result) = subst (IsEntry gen.W.Width.unit (2 * gen.W.Width.unit)) (sym b) (c.requires.first (flip c.args.i)) in
    set-entries gen.W.Width.unit gen.W.Width.positive (2 * gen.W.Width.unit) _ (2 * c.args.q + 1) _ (set-entries gen.W.Width.unit gen.W.Width.positive (2 * gen.W.Width.unit) c.args.row.now (2 * c.args.q) _ c.requires.row pa) pb
