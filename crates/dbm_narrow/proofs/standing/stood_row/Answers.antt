use Rattle.std.specs.Prelude.{◌≡◌, ◌<◌, ◌+◌, ◌*◌, ◌+ℤ◌}
use Rattle.std.proofs.Common.{arith, sym, ◌∙◌, ap, subst}
use Rattle.dbm_core.proofs.NodeLemmas.{flip_below}
use Rattle.dbm_core.specs.Nodes.{flip}
use Rattle.dbm_narrow.proofs.EntryLemmas.{entry-more, settle-sum}
use Rattle.dbm_narrow.proofs.LightLemmas.{rows-fit}
use Rattle.dbm_narrow.proofs.StandingLemmas.{set-entries, stood-set}
use Rattle.dbm_narrow.specs.Entries.{AreEntries, IsEntry, at, settle}
use Rattle.dbm_narrow.proofs.standing.stood_row.Goals as goal

pub stepped-stood-requires : goal.stepped-stood-requires
stepped-stood-requires gen c = (rows-fit gen.row.W gen.met.W.Width.light, (entry-more gen.W.Width.unit gen.W.Width.positive (4 * gen.W.Width.unit) (8 * gen.W.Width.unit) c.args.others (omega arith) c.requires.others, λ k. entry-more gen.W.Width.unit gen.W.Width.positive (2 * gen.W.Width.unit) (8 * gen.W.Width.unit) (at gen.W.Width.unit c.args.row.now k) (omega arith) (c.requires.row k)))

pub plus-here-requires-clause-left : goal.plus-here-requires-clause-left
plus-here-requires-clause-left gen c = entry-more gen.W.Width.unit gen.W.Width.positive (4 * gen.W.Width.unit) (8 * gen.W.Width.unit) c.args.first (omega arith) c.requires.first

pub plus-here-requires-clause-right : goal.plus-here-requires-clause-right
plus-here-requires-clause-right gen c =
    let e : c.read-node.result ≡ at gen.W.Width.unit c.args.row.now c.args.y = c.read-node.ensures.value in
    subst (IsEntry gen.W.Width.unit (8 * gen.W.Width.unit)) (sym e) (entry-more gen.W.Width.unit gen.W.Width.positive (2 * gen.W.Width.unit) (8 * gen.W.Width.unit) (at gen.W.Width.unit c.args.row.now c.args.y) (omega arith) (c.requires.row c.args.y))

pub read-behind-requires : goal.read-behind-requires
read-behind-requires gen c =
    let o : c.other_sign-other.result < 32 = subst (λ k. k < 32) (sym c.other_sign-other.ensures.flipped) (flip_below c.args.y 16 c.requires.node) in
    record { place = omega arith }

pub plus-there-requires-clause-left : goal.plus-there-requires-clause-left
plus-there-requires-clause-left gen c = entry-more gen.W.Width.unit gen.W.Width.positive (4 * gen.W.Width.unit) (8 * gen.W.Width.unit) c.args.second (omega arith) c.requires.second

pub plus-there-requires-clause-right : goal.plus-there-requires-clause-right
plus-there-requires-clause-right gen c =
    let e : c.read-behind.result ≡ at gen.W.Width.unit c.args.row.now c.other_sign-other.result = c.read-behind.ensures.value in
    subst (IsEntry gen.W.Width.unit (8 * gen.W.Width.unit)) (sym e) (entry-more gen.W.Width.unit gen.W.Width.positive (2 * gen.W.Width.unit) (8 * gen.W.Width.unit) (at gen.W.Width.unit c.args.row.now c.other_sign-other.result) (omega arith) (c.requires.row c.other_sign-other.result))

pub returns-clause-stood : goal.returns-clause-stood
returns-clause-stood gen c =
    let rn : c.read-node.result ≡ at gen.W.Width.unit c.args.row.now c.args.y = c.read-node.ensures.value in
    let rb : c.read-behind.result ≡ at gen.W.Width.unit c.args.row.now (flip c.args.y) = c.read-behind.ensures.value ∙ ap (at gen.W.Width.unit c.args.row.now) c.other_sign-other.ensures.flipped in
    let a : c.plus-here.result ≡ settle gen.W.Width.unit (c.args.first +ℤ at gen.W.Width.unit c.args.row.now c.args.y) =
    c.plus-here.ensures.sum ∙ ap (λ s. settle gen.W.Width.unit (c.args.first +ℤ s)) rn in
    let b : c.plus-there.result ≡ settle gen.W.Width.unit (c.args.second +ℤ at gen.W.Width.unit c.args.row.now (flip c.args.y)) =
    c.plus-there.ensures.sum ∙ ap (λ s. settle gen.W.Width.unit (c.args.second +ℤ s)) rb in
    stood-set gen.W.Width.unit gen.W.Width.positive c.args.row.now c.stepped-stood.result c.args.q c.args.y c.args.first c.args.second c.args.others _ _ (omega arith) a b c.stepped-stood.ensures.sums

pub returns-clause-entries : goal.returns-clause-entries
returns-clause-entries gen c =
    let rn : c.read-node.result ≡ at gen.W.Width.unit c.args.row.now c.args.y = c.read-node.ensures.value in
    let rb : c.read-behind.result ≡ at gen.W.Width.unit c.args.row.now c.other_sign-other.result = c.read-behind.ensures.value in
    let all : AreEntries gen.W.Width.unit (6 * gen.W.Width.unit) c.stepped-stood.result =
    λ k. entry-more gen.W.Width.unit gen.W.Width.positive (4 * gen.W.Width.unit + 2 * gen.W.Width.unit) (6 * gen.W.Width.unit) (at gen.W.Width.unit c.stepped-stood.result k) (omega arith)
    (c.stepped-stood.ensures.entries (4 * gen.W.Width.unit) (2 * gen.W.Width.unit) (omega (arith, gen.W.Width.positive)) c.requires.others c.requires.row k) in
    let a : IsEntry gen.W.Width.unit (6 * gen.W.Width.unit) c.plus-here.result = subst (IsEntry gen.W.Width.unit (6 * gen.W.Width.unit)) (sym (c.plus-here.ensures.sum ∙ ap (λ s. settle gen.W.Width.unit (c.args.first +ℤ s)) rn))
    (entry-more gen.W.Width.unit gen.W.Width.positive (4 * gen.W.Width.unit + 2 * gen.W.Width.unit) (6 * gen.W.Width.unit) _ (omega arith)
    (settle-sum gen.W.Width.unit gen.W.Width.positive (4 * gen.W.Width.unit) (2 * gen.W.Width.unit) c.args.first (at gen.W.Width.unit c.args.row.now c.args.y) (omega (arith, gen.W.Width.positive)) c.requires.first (c.requires.row c.args.y))) in
    let b : IsEntry gen.W.Width.unit (6 * gen.W.Width.unit) c.plus-there.result = subst (IsEntry gen.W.Width.unit (6 * gen.W.Width.unit)) (sym (c.plus-there.ensures.sum ∙ ap (λ s. settle gen.W.Width.unit (c.args.second +ℤ s)) rb))
    (entry-more gen.W.Width.unit gen.W.Width.positive (4 * gen.W.Width.unit + 2 * gen.W.Width.unit) (6 * gen.W.Width.unit) _ (omega arith)
    (settle-sum gen.W.Width.unit gen.W.Width.positive (4 * gen.W.Width.unit) (2 * gen.W.Width.unit) c.args.second (at gen.W.Width.unit c.args.row.now c.other_sign-other.result) (omega (arith, gen.W.Width.positive)) c.requires.second (c.requires.row c.other_sign-other.result))) in
    set-entries gen.W.Width.unit gen.W.Width.positive (6 * gen.W.Width.unit) _ (2 * c.args.q + 1) _ (set-entries gen.W.Width.unit gen.W.Width.positive (6 * gen.W.Width.unit) c.stepped-stood.result (2 * c.args.q) _ all a) b

pub returns-clause-small : goal.returns-clause-small
returns-clause-small gen c = λ b l pr pf ps po.
    let rn : c.read-node.result ≡ at gen.W.Width.unit c.args.row.now c.args.y = c.read-node.ensures.value in
    let rb : c.read-behind.result ≡ at gen.W.Width.unit c.args.row.now c.other_sign-other.result = c.read-behind.ensures.value in
    let all : AreEntries gen.W.Width.unit (3 * b) c.stepped-stood.result =
    λ k. entry-more gen.W.Width.unit gen.W.Width.positive (2 * b + b) (3 * b) (at gen.W.Width.unit c.stepped-stood.result k) (omega arith) (c.stepped-stood.ensures.entries (2 * b) b (omega arith) po pr k) in
    let here : IsEntry gen.W.Width.unit (3 * b) c.plus-here.result = subst (IsEntry gen.W.Width.unit (3 * b)) (sym (c.plus-here.ensures.sum ∙ ap (λ s. settle gen.W.Width.unit (c.args.first +ℤ s)) rn))
    (entry-more gen.W.Width.unit gen.W.Width.positive (2 * b + b) (3 * b) _ (omega arith)
    (settle-sum gen.W.Width.unit gen.W.Width.positive (2 * b) b c.args.first (at gen.W.Width.unit c.args.row.now c.args.y) (omega arith) pf (pr c.args.y))) in
    let there : IsEntry gen.W.Width.unit (3 * b) c.plus-there.result = subst (IsEntry gen.W.Width.unit (3 * b)) (sym (c.plus-there.ensures.sum ∙ ap (λ s. settle gen.W.Width.unit (c.args.second +ℤ s)) rb))
    (entry-more gen.W.Width.unit gen.W.Width.positive (2 * b + b) (3 * b) _ (omega arith)
    (settle-sum gen.W.Width.unit gen.W.Width.positive (2 * b) b c.args.second (at gen.W.Width.unit c.args.row.now c.other_sign-other.result) (omega arith) ps (pr c.other_sign-other.result))) in
    set-entries gen.W.Width.unit gen.W.Width.positive (3 * b) _ (2 * c.args.q + 1) _ (set-entries gen.W.Width.unit gen.W.Width.positive (3 * b) c.stepped-stood.result (2 * c.args.q) _ all here) there
