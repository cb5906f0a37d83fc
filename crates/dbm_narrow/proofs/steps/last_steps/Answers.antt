use Rattle.std.proofs.Common.{inl, inr}
use Rattle.dbm_narrow.proofs.StepLemmas.{cut-narrow}
use Rattle.dbm_narrow.proofs.steps.last_steps.Goals as goal

pub has_empty_range-requires : goal.has_empty_range-requires
has_empty_range-requires gen c = record { narrow = cut-narrow gen.W.Width.unit gen.W.Width.positive c.args.kinds.now c.args.entries.now c.cut_all.new.entries c.requires.narrow c.cut_all.ensures.cut }

pub returns-then-has_low_entry : goal.returns-then-has_low_entry
returns-then-has_low_entry gen c = record { cut = c.cut_all.ensures.cut; last = inl c.if-has_low_entry.ensures.low }

pub returns-then-has_empty_range : goal.returns-then-has_empty_range
returns-then-has_empty_range gen c = record { cut = c.cut_all.ensures.cut; last = inr c.if-has_empty_range.ensures.empty }

pub returns : goal.returns
returns gen c = record { cut = c.cut_all.ensures.cut; last = (c.if-has_low_entry.ensures.low, c.if-has_empty_range.ensures.empty) }
