use Rattle.serve_command.proofs.line.with_settings.Goals as goal

pub returns : goal.returns
returns c = record {
  makes = c.with_option.ensures.makes _ (c.with_option-command-3.ensures.makes _ (c.with_option-command-2.ensures.makes _
      (c.with_option-command.ensures.makes _ (c.new.ensures.app, c.new.ensures.local))));
}
