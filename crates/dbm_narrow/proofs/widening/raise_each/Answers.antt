use Rattle.std.specs.Prelude.{◌≡◌, eqb}
use Rattle.std.proofs.Common.{arith, subst, ◌∙◌}
use Rattle.dbm_core.specs.Nodes.{is_single}
use Rattle.dbm_narrow.proofs.WideningLemmas.{raised-first, raised-next}
use Rattle.dbm_narrow.specs.Entries.{at}
use Rattle.dbm_narrow.specs.Widenings.{IsWidened}
use Rattle.dbm_narrow.proofs.widening.raise_each.Goals as goal

pub loop-j-init : goal.loop-j-init
loop-j-init gen c = raised-first gen.W.Width.unit gen.W.Width.positive c.args.thresholds.now c.args.i c.args.row.now c.args.others.now

pub loop-j-preserved : goal.loop-j-preserved
loop-j-preserved gen c =
    let rx : c.read-old.result ≡ at gen.W.Width.unit c.args.row.now c.loop-j.j = c.read-old.ensures.value ∙ c.loop-j.invariant.rest c.loop-j.j (omega arith) in
    let ro : c.read-new.result ≡ at gen.W.Width.unit c.args.others.now c.loop-j.j = c.read-new.ensures.value in
    let w : IsWidened gen.W.Width.unit c.args.thresholds.now (is_single c.args.i c.loop-j.j) (at gen.W.Width.unit c.args.row.now c.loop-j.j) (at gen.W.Width.unit c.args.others.now c.loop-j.j) c.in-Some.entry =
    subst (λ y. IsWidened gen.W.Width.unit c.args.thresholds.now (is_single c.args.i c.loop-j.j) (at gen.W.Width.unit c.args.row.now c.loop-j.j) y c.in-Some.entry) ro
    (subst (λ x. IsWidened gen.W.Width.unit c.args.thresholds.now (is_single c.args.i c.loop-j.j) x c.read-new.result c.in-Some.entry) rx
    (subst (λ o. IsWidened gen.W.Width.unit c.args.thresholds.now (eqb c.loop-j.j o) c.read-old.result c.read-new.result c.in-Some.entry) c.other_sign-other.ensures.flipped
    c.in-Some.ensures.widened)) in
    raised-next gen.W.Width.unit gen.W.Width.positive c.args.thresholds.now c.args.i c.args.row.now c.args.others.now c.loop-j.row c.loop-j.j c.in-Some.entry (omega arith) c.loop-j.invariant w
