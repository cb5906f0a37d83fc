use Rattle.std.proofs.Common.{sym, ap, ◌∙◌}
use Rattle.imp_words.specs.declared.refusal.QueryRefusal.TheVariants.{NoStatement}
use Rattle.batch_meaning.specs.Answers.{found_or}
use Rattle.call_contexts.proofs.Placed.{proc_of, holder_is}
use Rattle.call_contexts.proofs.places.holder.Goals as goal

pub returns-in-Some : goal.returns-in-Some
returns-in-Some c = record { is = ap (found_or NoStatement) (sym (holder_is c.args.prog.now c.args.stmt ∙ ap proc_of (sym c.in-Some.ensures.is))) }

pub returns-in-None : goal.returns-in-None
returns-in-None c = record { is = ap (found_or NoStatement) (sym (holder_is c.args.prog.now c.args.stmt ∙ ap proc_of (sym c.in-None.ensures.is))) }
