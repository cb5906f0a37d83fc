-- The law over edits of programs.
use Rattle.std.proofs.Common.{◌≡◌, List, map, sym, ap, ◌∙◌, subst}
use Rattle.imp_slots.specs.Fits.{IsChecked}
use Rattle.imp_check.specs.Slots.{routines_of}
use Rattle.concrete_sem.specs.Values.{Variables, Heap}
use Rattle.imp_chains.specs.Claims.{ThresholdsRise}
use Rattle.imp_chains.specs.Thresholds.{thresholds}
use Rattle.domain_laws.specs.Operations.{Operations}
use Rattle.domain_laws.specs.Laws.{Laws, KeepsDead}
use Rattle.batch_meaning.specs.Answers.{answer}
use Rattle.cell_rows.specs.Claims.{InputsAreNames}
use Rattle.why_slice.specs.Claims.{AnswersStay, UpstreamSuffices}
use Rattle.why_slice.proofs.ShiftedRows.{swap_all}
use Rattle.why_slice.proofs.Edited.{edited_is, thresholds_back}
use Rattle.why_slice.proofs.Told.{told}
use Rattle.why_slice.proofs.Staying.{answer_stays}

module _ {S : Type 0} (dom : Operations S) (covers : S → Heap → List Variables → Type 0) (laws : Laws dom covers) (rises : ThresholdsRise) (dead : KeepsDead dom) (names : InputsAreNames dom) where
  pub answers_stay : AnswersStay dom
  answers_stay engine same old new s l string p ts is x marked e there unused =
      let i = edited_is s x.number x.action old x.simple x.fine.fit.numbers_once in
      let j : routines_of new ≡ swap_all s x.number i.0 (routines_of old) = ap routines_of (sym x.makes) ∙ i.1 in
      ap (λ ps. answer dom engine ps l string) j
      ∙ answer_stays dom covers laws rises dead names engine s x.number i.0 (routines_of old) same is x.fine.fit (subst IsChecked j x.after.fit) x.simple
      (thresholds_back s x.number i.0 engine.widening (routines_of old) (ap (map (thresholds engine.widening)) (sym j) ∙ marked)) x.fresh l string p ts there unused e

  pub upstream_suffices : UpstreamSuffices dom
  upstream_suffices engine same program l string p ts is e there = λ new s x marked other.
      answers_stay engine same program new s l string p ts is x marked e there (λ u. other ((told dom engine (routines_of program) same is x.fine.fit l string p ts s).1 u))
