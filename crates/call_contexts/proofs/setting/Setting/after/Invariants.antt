use Rattle.call_contexts.proofs.setting.Setting.after.Given as goal

abbrev pub ghost-changed : goal.ghost-changed
ghost-changed g a = g.program
