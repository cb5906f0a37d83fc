use Rattle.std.proofs.Common.{List, refl, ap, ◌∙◌}
use Rattle.imp_syntax.specs.Plain.{Procedure}
use Rattle.imp_check.specs.Slots.{routines_of}
use Rattle.call_contexts.specs.Settings.{engine_of, setting_of}
use Rattle.daig_session.proofs.book.Book.begun.Goals as goal

pub returns-clause-fine : goal.returns-clause-fine
returns-clause-fine c = record { faultless = c.procs.ensures.faultless; numbered = c.procs.ensures.numbered; fit = c.procs.ensures.fit }

pub returns-clause-first : goal.returns-clause-first
returns-clause-first c = record {
  now = c.in_ok-history.ensures.now;
  past_is = c.in_ok-history.ensures.past;
  future_is = c.in_ok-history.ensures.future;
  set = c.in_ok-setting.ensures.is ∙ ap (λ (p : List Procedure). setting_of (engine_of c.args.budget c.args.widening) (routines_of p)) c.view.ensures.is;
  next_is = refl;
  none = c.new-tickets.ensures.none;
  first = c.new-tickets.ensures.first;
  are_open = c.new-tickets.ensures.is;
  cost = refl;
}
