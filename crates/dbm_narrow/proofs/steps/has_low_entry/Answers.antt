use Rattle.std.specs.Prelude.{◌^◌, ◌≤ℤ◌, ◌<ℤ◌, neg_ℤ, pos}
use Rattle.std.proofs.Common.{arith, below_more, subst, sym, ◌∙◌}
use Rattle.dbm_narrow.proofs.EntryLemmas.{lt-false, lt-true}
use Rattle.dbm_narrow.specs.Entries.{at}
use Rattle.dbm_narrow.proofs.steps.has_low_entry.Goals as goal

pub returns-then-is_low : goal.returns-then-is_low
returns-then-is_low gen c = record {
  low = (
    c.loop-k.k,
    (
      omega arith,
      subst (λ x. x <ℤ neg_ℤ (pos (2 ^ 64))) c.read.ensures.value (lt-true gen.W.Width.unit gen.W.Width.positive c.read.result (neg_ℤ (pos (2 ^ 64))) (sym c.is_low.ensures.low ∙ c.if-is_low.true)),
    ),
  );
}

pub loop-k-preserved : goal.loop-k-preserved
loop-k-preserved gen c = below_more (λ j. neg_ℤ (pos (2 ^ 64)) ≤ℤ at gen.W.Width.unit c.args.entries.now j) c.loop-k.k c.loop-k.invariant
    (subst (λ x. neg_ℤ (pos (2 ^ 64)) ≤ℤ x) c.read.ensures.value (lt-false gen.W.Width.unit gen.W.Width.positive c.read.result (neg_ℤ (pos (2 ^ 64))) (sym c.is_low.ensures.low ∙ c.if-is_low.false)))

pub returns : goal.returns
returns gen c = record { low = λ k l. c.loop-k.invariant k (omega arith) }
