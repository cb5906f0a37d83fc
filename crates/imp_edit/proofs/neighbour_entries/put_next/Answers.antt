use Rattle.std.proofs.Common.{ℕ, OnOk, Option, sym, subst}
use Rattle.imp_table.specs.Changes.{AreWithin}
use Rattle.edit_breaks.specs.Bounds.{IsBelow}
use Rattle.imp_edit.proofs.neighbour_entries.put_next.Goals as goal

pub returns-in_ok-place-in-Some-clause-within : goal.returns-in_ok-place-in-Some-clause-within
returns-in_ok-place-in-Some-clause-within c = subst (λ (o : Option ℕ). OnOk c.put_at.result ((b : ℕ) → IsBelow b o → AreWithin b c.args.puts.now.items → AreWithin b c.put_at.new.puts.items)) (sym c.in-Some.is) c.put_at.ensures.within
