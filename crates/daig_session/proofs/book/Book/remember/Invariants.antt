use Rattle.edit_history.specs.After.{changed_program}
use Rattle.daig_session.proofs.book.Book.remember.Given as goal

-- the change leads to the program that it makes
abbrev pub ghost-remember : goal.ghost-remember
ghost-remember a = changed_program a.self.now.now a.change
