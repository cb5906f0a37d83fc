use Rattle.serve_command.proofs.line.verifies.Goals as goal

pub returns : goal.returns
returns c = record {
  makes = c.with_word.ensures.makes _ (c.with_word-command.ensures.makes _ (c.with_option-command.ensures.makes _ (c.new.ensures.app, c.new.ensures.local)));
}
