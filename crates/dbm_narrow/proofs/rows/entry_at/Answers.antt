use Rattle.std.specs.Prelude.{◌≡◌, ◌<◌, ◌≤◌, ◌+◌, length}
use Rattle.std.proofs.Common.{arith, sym, ◌∙◌, ap}
use Rattle.dbm_core.proofs.HalfLemmas.{flip-kept}
use Rattle.dbm_core.proofs.NodeLemmas.{flip_below}
use Rattle.dbm_core.specs.Half.{row_start, row_width}
use Rattle.dbm_core.specs.Nodes.{flip}
use Rattle.dbm_narrow.proofs.EntryLemmas.{pair-kept, pair-other}
use Rattle.dbm_narrow.proofs.PartLemmas.{place-in}
use Rattle.dbm_narrow.specs.Entries.{at}
use Rattle.dbm_narrow.proofs.rows.entry_at.Goals as goal

pub read-requires : goal.read-requires
read-requires gen c = record { place = omega (arith, place-in gen.W.Width.unit gen.W.Width.positive c.args.entries.now c.args.slots c.args.i c.args.j c.requires.size c.requires.row (omega arith)) }

pub place-mirrored-requires-clause-row : goal.place-mirrored-requires-clause-row
place-mirrored-requires-clause-row gen c = omega (arith, flip_below c.args.j c.args.slots c.requires.column)

pub place-mirrored-requires-clause-column : goal.place-mirrored-requires-clause-column
place-mirrored-requires-clause-column gen c =
    let w : row_width c.args.i ≤ c.args.j = omega arith in
    let f : c.other_sign.result ≡ flip c.args.j = c.other_sign.ensures.flipped in
    let g : c.other_sign-2.result ≡ flip c.args.i = c.other_sign-2.ensures.flipped in
    let k : flip c.args.i < row_width (flip c.args.j) = flip-kept c.args.i c.args.j w in
    rw (f, g) k

pub read-requires-2 : goal.read-requires-2
read-requires-2 gen c =
    let w : row_width c.args.i ≤ c.args.j = omega arith in
    let p : c.place-mirrored.result ≡ row_start (flip c.args.j) + flip c.args.i =
    c.place-mirrored.ensures.place ∙ ap (λ k. row_start k + c.other_sign-2.result) c.other_sign.ensures.flipped ∙ ap (λ k. row_start (flip c.args.j) + k) c.other_sign-2.ensures.flipped in
    let m : row_start (flip c.args.j) + flip c.args.i < length c.args.entries.now = place-in gen.W.Width.unit gen.W.Width.positive c.args.entries.now c.args.slots (flip c.args.j) (flip c.args.i) c.requires.size (flip_below c.args.j c.args.slots c.requires.column) (flip-kept c.args.i c.args.j w) in
    record { place = omega arith }

pub returns-then-j-row_len : goal.returns-then-j-row_len
returns-then-j-row_len gen c =
    let w : c.args.j < row_width c.args.i = omega arith in
    let e : c.read.result ≡ at gen.W.Width.unit c.args.entries.now c.place-kept.result = c.read.ensures.value in
    record { entry = e ∙ ap (at gen.W.Width.unit c.args.entries.now) c.place-kept.ensures.place ∙ sym (pair-kept gen.W.Width.unit gen.W.Width.positive c.args.entries.now c.args.i c.args.j w) }

pub returns : goal.returns
returns gen c =
    let w : row_width c.args.i ≤ c.args.j = omega arith in
    let p : c.place-mirrored.result ≡ row_start (flip c.args.j) + flip c.args.i =
    c.place-mirrored.ensures.place ∙ ap (λ k. row_start k + c.other_sign-2.result) c.other_sign.ensures.flipped ∙ ap (λ k. row_start (flip c.args.j) + k) c.other_sign-2.ensures.flipped in
    let e : c.read-2.result ≡ at gen.W.Width.unit c.args.entries.now c.place-mirrored.result = c.read-2.ensures.value in
    record { entry = e ∙ ap (at gen.W.Width.unit c.args.entries.now) p ∙ sym (pair-other gen.W.Width.unit gen.W.Width.positive c.args.entries.now c.args.i c.args.j w) }
