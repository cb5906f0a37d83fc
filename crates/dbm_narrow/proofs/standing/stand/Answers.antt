use Rattle.std.specs.Prelude.{◌≡◌, ◌<◌, ◌≤◌, ◌+◌, ◌*◌, ◌+ℤ◌, ◌≤ℤ◌, ◌^◌, neg_ℤ, pos, Some, true, ℕ, length}
use Rattle.std.proofs.Common.{arith, sym, ◌∙◌, ap, subst, inr}
use Rattle.std.proofs.lemmas.Int.{ints}
use Rattle.dbm_core.proofs.HalfLemmas.{entry-coherent}
use Rattle.dbm_core.proofs.NodeLemmas.{flip-flip, flip_below}
use Rattle.dbm_core.specs.Half.{entry, row_start}
use Rattle.dbm_core.specs.Limits.{IsWithin}
use Rattle.dbm_core.specs.Nodes.{flip}
use Rattle.dbm_incremental.proofs.SlotLemmas.{stood-rest}
use Rattle.dbm_incremental.proofs.StandLemmas.{node-even, node-odd, shift-even, shift-odd}
use Rattle.dbm_incremental.specs.Equations.{stood_entry}
use Rattle.dbm_narrow.proofs.EntryLemmas.{entry-more, held-entry, held-kept}
use Rattle.dbm_narrow.proofs.GrowthLemmas.{by_checked, closed-entries}
use Rattle.dbm_narrow.proofs.LightLemmas.{rows-fit}
use Rattle.dbm_narrow.proofs.MiddleLemmas.{row-is_entry}
use Rattle.dbm_narrow.proofs.RoundLemmas.{narrow-size}
use Rattle.dbm_narrow.proofs.StandingLemmas.{IsStep, stood-coherent, stood-row, wide-replaced}
use Rattle.dbm_narrow.specs.Entries.{AreEntries, IsEntry, at, held, pair_at, wide}
use Rattle.dbm_narrow.specs.Widths.{no_true}
use Rattle.dbm_narrow.proofs.standing.stand.Goals as goal

pub whole_row-node-requires : goal.whole_row-node-requires
whole_row-node-requires gen c =
    let size : length c.args.entries.now ≡ row_start (2 * length c.args.kinds.now) = narrow-size gen.W.Width.unit gen.W.Width.positive c.args.kinds.now c.args.entries.now c.requires.narrow in
    (rows-fit gen.row.W gen.met.W.Width.light, (c.requires.narrow.matrix.few, (c.requires.node, (c.other_sign-other.ensures.flipped, (size, c.requires.narrow.entries)))))

pub whole_row-behind-requires : goal.whole_row-behind-requires
whole_row-behind-requires gen c =
    let size : length c.args.entries.now ≡ row_start (2 * length c.args.kinds.now) = narrow-size gen.W.Width.unit gen.W.Width.positive c.args.kinds.now c.args.entries.now c.requires.narrow in
    let row : c.other_sign-other.result < 2 * length c.args.kinds.now = subst (λ k. k < 2 * length c.args.kinds.now) (sym c.other_sign-other.ensures.flipped) (flip_below c.args.y (length c.args.kinds.now) c.requires.node) in
    (rows-fit gen.row.W gen.met.W.Width.light, (c.requires.narrow.matrix.few, (row, (sym (ap flip c.other_sign-other.ensures.flipped ∙ flip-flip c.args.y), (size, c.requires.narrow.entries)))))

pub twice_of-twice_less-requires-clause-low : goal.twice_of-twice_less-requires-clause-low
twice_of-twice_less-requires-clause-low gen c =
    let lo : neg_ℤ (pos (2 * gen.W.Width.unit)) ≤ℤ c.args.c = c.requires.low in
    let hi : c.args.c ≤ℤ pos (2 * gen.W.Width.unit) = c.requires.high in
    let tl : c.negative-less.result ≡ neg_ℤ c.args.c = c.negative-less.ensures.value in
    omega (arith, ints)

pub twice_of-twice_less-requires-clause-high : goal.twice_of-twice_less-requires-clause-high
twice_of-twice_less-requires-clause-high gen c =
    let lo : neg_ℤ (pos (2 * gen.W.Width.unit)) ≤ℤ c.args.c = c.requires.low in
    let hi : c.args.c ≤ℤ pos (2 * gen.W.Width.unit) = c.requires.high in
    let tl : c.negative-less.result ≡ neg_ℤ c.args.c = c.negative-less.ensures.value in
    omega (arith, ints)

pub stood_row-first-requires : goal.stood_row-first-requires
stood_row-first-requires gen c =
    let few : length c.args.kinds.now ≤ 16 = c.requires.narrow.matrix.few in
    let lo : neg_ℤ (pos (2 * gen.W.Width.unit)) ≤ℤ c.args.c = c.requires.low in
    let hi : c.args.c ≤ℤ pos (2 * gen.W.Width.unit) = c.requires.high in
    let tl : c.negative-less.result ≡ neg_ℤ c.args.c = c.negative-less.ensures.value in
    let tt1 : c.twice_of-twice_less.result ≡ neg_ℤ c.args.c +ℤ neg_ℤ c.args.c = c.twice_of-twice_less.ensures.value ∙ ap (λ x. x +ℤ x) tl in
    let z : c.zero.result ≡ pos 0 = c.zero.ensures.value in
    let row : AreEntries gen.W.Width.unit (2 * gen.W.Width.unit) c.whole_row-node.result =
    row-is_entry gen.W.Width.unit gen.W.Width.positive (2 * gen.W.Width.unit) (2 * length c.args.kinds.now) c.args.entries.now c.whole_row-node.result c.args.y c.requires.narrow.entries c.whole_row-node.ensures.entries c.whole_row-node.ensures.beyond in
    let first : IsEntry gen.W.Width.unit (4 * gen.W.Width.unit) c.zero.result = inr (omega (arith, ints), omega (arith, ints)) in
    let second : IsEntry gen.W.Width.unit (4 * gen.W.Width.unit) c.twice_of-twice_less.result = inr (omega (arith, ints), omega (arith, ints)) in
    let others : IsEntry gen.W.Width.unit (4 * gen.W.Width.unit) c.negative-less.result = inr (omega (arith, ints), omega (arith, ints)) in
    (rows-fit gen.row.W gen.met.W.Width.light, (omega arith, (omega arith, (row, (first, (second, others))))))

pub stood_row-second-requires : goal.stood_row-second-requires
stood_row-second-requires gen c =
    let few : length c.args.kinds.now ≤ 16 = c.requires.narrow.matrix.few in
    let lo : neg_ℤ (pos (2 * gen.W.Width.unit)) ≤ℤ c.args.c = c.requires.low in
    let hi : c.args.c ≤ℤ pos (2 * gen.W.Width.unit) = c.requires.high in
    let tw : c.twice_of-twice.result ≡ c.args.c +ℤ c.args.c = c.twice_of-twice.ensures.value in
    let z : c.zero-2.result ≡ pos 0 = c.zero-2.ensures.value in
    let row : AreEntries gen.W.Width.unit (2 * gen.W.Width.unit) c.whole_row-behind.result =
    row-is_entry gen.W.Width.unit gen.W.Width.positive (2 * gen.W.Width.unit) (2 * length c.args.kinds.now) c.args.entries.now c.whole_row-behind.result c.other_sign-other.result c.requires.narrow.entries c.whole_row-behind.ensures.entries c.whole_row-behind.ensures.beyond in
    let first : IsEntry gen.W.Width.unit (4 * gen.W.Width.unit) c.twice_of-twice.result = inr (omega (arith, ints), omega (arith, ints)) in
    let second : IsEntry gen.W.Width.unit (4 * gen.W.Width.unit) c.zero-2.result = inr (omega (arith, ints), omega (arith, ints)) in
    let others : IsEntry gen.W.Width.unit (4 * gen.W.Width.unit) c.args.c = inr (omega (arith, ints), omega (arith, ints)) in
    (rows-fit gen.row.W gen.met.W.Width.light, (omega arith, (omega arith, (row, (first, (second, others))))))

pub are_limited-requires : goal.are_limited-requires
are_limited-requires gen c = (rows-fit gen.row.W gen.met.W.Width.light, c.stood_row-first.ensures.entries)

pub are_limited-requires-2 : goal.are_limited-requires-2
are_limited-requires-2 gen c = (rows-fit gen.row.W gen.met.W.Width.light, c.stood_row-second.ensures.entries)

pub replace_rows-requires : goal.replace_rows-requires
replace_rows-requires gen c =
    let few : length c.args.kinds.now ≤ 16 = c.requires.narrow.matrix.few in
    let size : length c.args.entries.now ≡ row_start (2 * length c.args.kinds.now) = narrow-size gen.W.Width.unit gen.W.Width.positive c.args.kinds.now c.args.entries.now c.requires.narrow in
    let tl : c.negative-less.result ≡ neg_ℤ c.args.c = c.negative-less.ensures.value in
    let tt1 : c.twice_of-twice_less.result ≡ neg_ℤ c.args.c +ℤ neg_ℤ c.args.c = c.twice_of-twice_less.ensures.value ∙ ap (λ x. x +ℤ x) tl in
    let tw : c.twice_of-twice.result ≡ c.args.c +ℤ c.args.c = c.twice_of-twice.ensures.value in
    let z1 : c.zero.result ≡ pos 0 = c.zero.ensures.value in
    let z2 : c.zero-2.result ≡ pos 0 = c.zero-2.ensures.value in
    let a : c.are_limited.result ≡ true = cc in
    let b : c.are_limited-2.result ≡ true = cc in
    let all : AreEntries gen.W.Width.unit (2 ^ 70) c.args.entries.now = λ k. entry-more gen.W.Width.unit gen.W.Width.positive (2 ^ 64) (2 ^ 70) (at gen.W.Width.unit c.args.entries.now k) (omega arith) (closed-entries gen.W.Width.unit gen.W.Width.positive c.args.kinds.now c.args.entries.now c.requires.narrow c.requires.closed k) in
    let node : AreEntries gen.W.Width.unit (2 ^ 70) c.whole_row-node.result = row-is_entry gen.W.Width.unit gen.W.Width.positive (2 ^ 70) (2 * length c.args.kinds.now) c.args.entries.now c.whole_row-node.result c.args.y all c.whole_row-node.ensures.entries c.whole_row-node.ensures.beyond in
    let behind : AreEntries gen.W.Width.unit (2 ^ 70) c.whole_row-behind.result = row-is_entry gen.W.Width.unit gen.W.Width.positive (2 ^ 70) (2 * length c.args.kinds.now) c.args.entries.now c.whole_row-behind.result c.other_sign-other.result all c.whole_row-behind.ensures.entries c.whole_row-behind.ensures.beyond in
    let first : AreEntries gen.W.Width.unit (2 * gen.W.Width.unit) c.stood_row-first.result = by_checked (AreEntries gen.W.Width.unit (2 * gen.W.Width.unit) c.stood_row-first.result) gen.W.Width.checked
    (λ e. c.are_limited.ensures.within e a)
    (λ e k.
    let big : 2 ^ 103 ≤ gen.W.Width.unit = gen.W.Width.roomy e in
    let p : IsWithin (2 ^ 70) (Some c.args.c) = c.requires.small e in
    let lo : neg_ℤ (pos (2 ^ 70)) ≤ℤ c.args.c = p.0 in
    let hi : c.args.c ≤ℤ pos (2 ^ 70) = p.1 in
    entry-more gen.W.Width.unit gen.W.Width.positive (3 * 2 ^ 70) (2 * gen.W.Width.unit) (at gen.W.Width.unit c.stood_row-first.result k) (omega arith)
    (c.stood_row-first.ensures.small (2 ^ 70) (omega arith) node (inr (omega (arith, ints), omega (arith, ints))) (inr (omega (arith, ints), omega (arith, ints))) (inr (omega (arith, ints), omega (arith, ints))) k)) in
    let second : AreEntries gen.W.Width.unit (2 * gen.W.Width.unit) c.stood_row-second.result = by_checked (AreEntries gen.W.Width.unit (2 * gen.W.Width.unit) c.stood_row-second.result) gen.W.Width.checked
    (λ e. c.are_limited-2.ensures.within e b)
    (λ e k.
    let big : 2 ^ 103 ≤ gen.W.Width.unit = gen.W.Width.roomy e in
    let p : IsWithin (2 ^ 70) (Some c.args.c) = c.requires.small e in
    let lo : neg_ℤ (pos (2 ^ 70)) ≤ℤ c.args.c = p.0 in
    let hi : c.args.c ≤ℤ pos (2 ^ 70) = p.1 in
    entry-more gen.W.Width.unit gen.W.Width.positive (3 * 2 ^ 70) (2 * gen.W.Width.unit) (at gen.W.Width.unit c.stood_row-second.result k) (omega arith)
    (c.stood_row-second.ensures.small (2 ^ 70) (omega arith) behind (inr (omega (arith, ints), omega (arith, ints))) (inr (omega (arith, ints), omega (arith, ints))) (inr (omega (arith, ints), omega (arith, ints))) k)) in
    (rows-fit gen.row.W gen.met.W.Width.light, (few, (size, (c.requires.narrow.entries, (first, (second, omega arith))))))

pub returns : goal.returns
returns gen c =
    let few : length c.args.kinds.now ≤ 16 = c.requires.narrow.matrix.few in
    let lo : neg_ℤ (pos (2 * gen.W.Width.unit)) ≤ℤ c.args.c = c.requires.low in
    let hi : c.args.c ≤ℤ pos (2 * gen.W.Width.unit) = c.requires.high in
    let tl : c.negative-less.result ≡ neg_ℤ c.args.c = c.negative-less.ensures.value in
    let tt1 : c.twice_of-twice_less.result ≡ neg_ℤ c.args.c +ℤ neg_ℤ c.args.c = c.twice_of-twice_less.ensures.value ∙ ap (λ x. x +ℤ x) tl in
    let tw : c.twice_of-twice.result ≡ c.args.c +ℤ c.args.c = c.twice_of-twice.ensures.value in
    let node : AreEntries gen.W.Width.unit (2 * gen.W.Width.unit) c.whole_row-node.result = row-is_entry gen.W.Width.unit gen.W.Width.positive (2 * gen.W.Width.unit) (2 * length c.args.kinds.now) c.args.entries.now c.whole_row-node.result c.args.y c.requires.narrow.entries c.whole_row-node.ensures.entries c.whole_row-node.ensures.beyond in
    let behind : AreEntries gen.W.Width.unit (2 * gen.W.Width.unit) c.whole_row-behind.result = row-is_entry gen.W.Width.unit gen.W.Width.positive (2 * gen.W.Width.unit) (2 * length c.args.kinds.now) c.args.entries.now c.whole_row-behind.result c.other_sign-other.result c.requires.narrow.entries c.whole_row-behind.ensures.entries c.whole_row-behind.ensures.beyond in
    let hf : flip c.args.y < (2 * length c.args.kinds.now) = flip_below c.args.y (length c.args.kinds.now) c.requires.node in
    let rn : (j : ℕ) → j < (2 * length c.args.kinds.now) → wide gen.W.Width.unit (at gen.W.Width.unit c.whole_row-node.result j) ≡ (entry (held gen.W.Width.unit c.args.kinds.now c.args.entries.now)) c.args.y j = λ j hj. ap (wide gen.W.Width.unit) (c.whole_row-node.ensures.entries j hj) ∙ sym (held-entry gen.W.Width.unit gen.W.Width.positive c.args.kinds.now c.args.entries.now c.args.y j) in
    let rb : (j : ℕ) → j < (2 * length c.args.kinds.now) → wide gen.W.Width.unit (at gen.W.Width.unit c.whole_row-behind.result j) ≡ (entry (held gen.W.Width.unit c.args.kinds.now c.args.entries.now)) (flip c.args.y) j =
    λ j hj. ap (wide gen.W.Width.unit) (c.whole_row-behind.ensures.entries j hj ∙ ap (λ k. pair_at gen.W.Width.unit c.args.entries.now k j) c.other_sign-other.ensures.flipped) ∙ sym (held-entry gen.W.Width.unit gen.W.Width.positive c.args.kinds.now c.args.entries.now (flip c.args.y) j) in
    let z1 : c.zero.result ≡ pos 0 = c.zero.ensures.value in
    let z2 : c.zero-2.result ≡ pos 0 = c.zero-2.ensures.value in
    let b0 : IsStep gen.W.Width.unit gen.W.Width.positive c.zero.result = (omega (arith, ints), omega (arith, ints)) in
    let b1 : IsStep gen.W.Width.unit gen.W.Width.positive c.zero-2.result = (omega (arith, ints), omega (arith, ints)) in
    let bt : IsStep gen.W.Width.unit gen.W.Width.positive (c.twice_of-twice_less.result) = (omega (arith, ints), omega (arith, ints)) in
    let bl : IsStep gen.W.Width.unit gen.W.Width.positive (c.negative-less.result) = (omega (arith, ints), omega (arith, ints)) in
    let bw : IsStep gen.W.Width.unit gen.W.Width.positive (c.twice_of-twice.result) = (omega (arith, ints), omega (arith, ints)) in
    let bc : IsStep gen.W.Width.unit gen.W.Width.positive (c.args.c) = (omega (arith, ints), omega (arith, ints)) in
    let pf : (j : ℕ) → j < (2 * length c.args.kinds.now) → wide gen.W.Width.unit (at gen.W.Width.unit c.stood_row-first.result j) ≡ stood_entry (entry (held gen.W.Width.unit c.args.kinds.now c.args.entries.now)) c.args.q c.args.y c.args.c (2 * c.args.q) j =
    λ j hj. ap (wide gen.W.Width.unit) (c.stood_row-first.ensures.stood j (omega arith))
    ∙ stood-row gen.W.Width.unit gen.W.Width.positive (entry (held gen.W.Width.unit c.args.kinds.now c.args.entries.now)) (2 * length c.args.kinds.now) c.args.q c.args.y c.args.c c.args.c c.args.y (2 * c.args.q) c.whole_row-node.result c.zero.result (c.twice_of-twice_less.result) (c.negative-less.result) (node-even c.args.q c.args.y) (shift-even c.args.q c.args.c) c.requires.node hf rn node
    (omega (arith, ints)) (omega (arith, ints)) (omega (arith, ints)) b0 bt bl j hj in
    let ps : (j : ℕ) → j < (2 * length c.args.kinds.now) → wide gen.W.Width.unit (at gen.W.Width.unit c.stood_row-second.result j) ≡ stood_entry (entry (held gen.W.Width.unit c.args.kinds.now c.args.entries.now)) c.args.q c.args.y c.args.c (2 * c.args.q + 1) j =
    λ j hj. ap (wide gen.W.Width.unit) (c.stood_row-second.ensures.stood j (omega arith))
    ∙ stood-row gen.W.Width.unit gen.W.Width.positive (entry (held gen.W.Width.unit c.args.kinds.now c.args.entries.now)) (2 * length c.args.kinds.now) c.args.q c.args.y c.args.c (neg_ℤ c.args.c) (flip c.args.y) (2 * c.args.q + 1) c.whole_row-behind.result (c.twice_of-twice.result) c.zero-2.result (c.args.c) (node-odd c.args.q c.args.y) (shift-odd c.args.q c.args.c) c.requires.node hf rb behind
    (omega (arith, ints)) (omega (arith, ints)) (omega (arith, ints)) bw b1 bc j hj in
    record {
      stands = λ _. record {
        entries = c.replace_rows.ensures.entries;
        stood = λ i j hi w. (let hj : j < (2 * length c.args.kinds.now) = omega arith in
            held-kept gen.W.Width.unit gen.W.Width.positive c.args.kinds.now c.replace_rows.new.entries i j w ∙ ap (wide gen.W.Width.unit) (c.replace_rows.ensures.kept i j hi w)
            ∙ wide-replaced gen.W.Width.unit gen.W.Width.positive (stood_entry (entry (held gen.W.Width.unit c.args.kinds.now c.args.entries.now)) c.args.q c.args.y c.args.c) (length c.args.kinds.now) c.args.q c.stood_row-first.result c.stood_row-second.result
            (stood-coherent gen.W.Width.unit gen.W.Width.positive (entry (held gen.W.Width.unit c.args.kinds.now c.args.entries.now)) (length c.args.kinds.now) c.args.q c.args.y c.args.c c.requires.node (entry-coherent (held gen.W.Width.unit c.args.kinds.now c.args.entries.now) c.requires.narrow.matrix)) c.requires.slot pf ps (entry (held gen.W.Width.unit c.args.kinds.now c.args.entries.now)) i j (at gen.W.Width.unit c.args.entries.now (row_start i + j)) hi hj
            (sym (held-kept gen.W.Width.unit gen.W.Width.positive c.args.kinds.now c.args.entries.now i j w)) (stood-rest (entry (held gen.W.Width.unit c.args.kinds.now c.args.entries.now)) c.args.q c.args.y c.args.c i j));
      };
      total = λ e. no_true e;
    }
