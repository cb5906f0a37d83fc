use Rattle.std.proofs.Common.{sym, subst}
use Rattle.state_table.specs.Marks.{IsMarked}
use Rattle.state_table.proofs.sweep.Sweep.number.Goals as goal

pub returns-clause-marks : goal.returns-clause-marks
returns-clause-marks g c n =
    let marks = c.number_marked.ensures.marks n in (
      (λ m. subst (λ es. IsMarked es n) c.self.view_is (marks.0 m)),
      (λ m. marks.1 (subst (λ es. IsMarked es n) (sym c.self.view_is) m)),
    )
