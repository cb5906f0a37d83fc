use Rattle.std.proofs.Common.{inl, sym, ◌∙◌}
use Rattle.std.specs.Cmp.Rules.{signed_items}
use Rattle.imp_flow.proofs.search.look_at_loops_of.Goals as goal

pub returns-then-eq-clause-looked : goal.returns-then-eq-clause-looked
returns-then-eq-clause-looked c = inl (sym c.thresholds.ensures.is ∙ (signed_items c.thresholds.result.now c.thresholds-2.result.now).0 (sym c.eq.ensures ∙ c.if-eq.true) ∙ c.thresholds-2.ensures.is)
