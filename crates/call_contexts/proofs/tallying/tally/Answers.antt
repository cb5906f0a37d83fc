use Rattle.std.proofs.Common.{◌+◌, Bool, not, true, false, subst, sym, ◌≡◌, refl}
use Rattle.imp_check.specs.Entries.{entries_of, entry_of}
use Rattle.call_contexts.specs.Tallies.{times, Tells, capped}
use Rattle.call_contexts.specs.Differences.{lists_by}
use Rattle.call_contexts.proofs.Parted.{none_told, tally_made}
use Rattle.call_contexts.proofs.tallying.tally.Goals as goal

pub returns : goal.returns
returns c =
    let ps = c.args.prog.now in
    let told = c.in_ok-count_statements.ensures.more (λ n. 0) (subst (λ es. Tells es (λ n. capped 0)) (sym c.new-counts.ensures.none) none_told) in
    record {
      is =
          tally_made c.args.widening ps c.args.proc c.count_statements.new.counts c.requires.there c.procs.ensures.numbered c.procs.ensures.faultless (set c.args.widening.thresholds c.if-not-widening.false)
          (subst (λ ns. Tells c.count_statements.new.counts (λ n. capped (0 + times n (lists_by (entry_of (entries_of ps)) ns)))) c.requires.stmts told);
    }
  where
    set : (b : Bool) → not b ≡ false → b ≡ true
    set true h = refl
    set false h = absurd cc
