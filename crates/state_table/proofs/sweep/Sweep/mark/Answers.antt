use Rattle.std.proofs.Common.{◌≡◌, sym, ap, subst, ◌∙◌, arith}
use Rattle.indexmap.specs.IndexMap.{set_value_at}
use Rattle.state_table.specs.Marks.{mark_count, states_in, IsMarked}
use Rattle.state_table.proofs.MarkLemmas.{count-set, mark-there, marks-stay, states-set}
use Rattle.state_table.proofs.sweep.Sweep.mark.Goals as goal

entries-are : (g : _) (c : goal.After-set_mark g) → c.set_mark.new.states.entries ≡ set_value_at c.args.self.now c.args.number 1
entries-are g c = c.set_mark.ensures.set ∙ ap (λ es. set_value_at es c.args.number 1) c.self.view_is

pub returns-clause-states : goal.returns-clause-states
returns-clause-states g c = ap states_in (entries-are g c) ∙ states-set c.args.self.now c.args.number 1

pub returns-clause-marked : goal.returns-clause-marked
returns-clause-marked g c =
    subst (λ es. IsMarked es c.args.number) (sym (entries-are g c)) (mark-there c.args.self.now c.args.number 0 c.requires.there)

pub returns-clause-marks : goal.returns-clause-marks
returns-clause-marks g c n m =
    subst (λ es. IsMarked es n) (sym (entries-are g c)) (marks-stay c.args.self.now c.args.number 0 n m)

pub returns-clause-few : goal.returns-clause-few
returns-clause-few g c =
    let h = count-set c.args.self.now c.args.number in
    let e = ap mark_count (entries-are g c) in
    omega (arith, h, e)
