use Rattle.std.proofs.Common.{Err, ap, refl}
use Rattle.serve_script.specs.Lines.{all_lines}
use Rattle.serve_output.specs.Domains.{meaning_of}
use Rattle.daig_server.proofs.LineLemmas.{wrote_whole}
use Rattle.daig_server.proofs.work.serve_lines.Goals as goal

pub returns-in-Err-Script-clause-wrote : goal.returns-in-Err-Script-clause-wrote
returns-in-Err-Script-clause-wrote g c = λ first stands text taken told_text told_taken. record {
  domain = g.D.Named.name;
  first = first;
  succeeds = refl;
  is = refl;
  answered = (c.in-Err-Script.ensures {u = tt}).script_lines (ap Err c.in-Err-Script.field-0-is) first stands text taken told_text told_taken;
}

pub returns-in-Err-Memory-clause-wrote : goal.returns-in-Err-Memory-clause-wrote
returns-in-Err-Memory-clause-wrote g c = λ first stands text taken told_text told_taken.
    wrote_whole (meaning_of g.D.Named.name).operations first (all_lines text) taken _
    ((c.in-Err-Memory.ensures {u = tt}).memory_lines (ap Err c.in-Err-Memory.field-0-is) first stands text taken told_text told_taken)

pub returns-in-Err-Long-clause-wrote : goal.returns-in-Err-Long-clause-wrote
returns-in-Err-Long-clause-wrote g c = λ first stands text taken told_text told_taken. record {
  domain = g.D.Named.name;
  first = first;
  succeeds = refl;
  is = refl;
  answered = (c.in-Err-Long.ensures {u = tt}).long_lines (ap Err c.in-Err-Long.field-0-is) first stands text taken told_text told_taken;
}
