use Rattle.serve_command.proofs.line.generates.Goals as goal

pub returns : goal.returns
returns c = record {
  makes = c.with_needed.ensures.makes _ (c.with_needed-command.ensures.makes _ (c.with_option-command.ensures.makes _ (c.new.ensures.app, c.new.ensures.local)));
}
