-- The places of reports.
use Rattle.std.proofs.Common.{◌≡◌, ℕ, List, [], ◌∷◌, ◌++◌, map, refl, sym, ap, ◌∙◌}
use Rattle.std.proofs.lemmas.List.{map-append}
use Rattle.imp_syntax.specs.Plain.{Procedure, program_numbers}
use Rattle.imp_syntax.specs.declared.edit.Location.TheVariants.{Before}
use Rattle.imp_check.specs.Programs.{AreNumbered}
use Rattle.imp_check.specs.Slots.{routines_of}
use Rattle.batch_meaning.specs.Report.{CheckedStatement}
use Rattle.daig_session.specs.declared.course.Kind.TheVariants.{Checks}
use Rattle.daig_session.specs.Going.{kind_places}
use Rattle.daig_session.specs.Reports.{checked_among, checked_at, checks_among, places_of}
use Rattle.daig_session.proofs.CheckLemmas.{all_checks}

among_are : (ps : List Procedure) (ns : List ℕ) → checks_among ps ns ≡ places_of (checked_among ps ns)
among_are ps [] = refl
among_are ps (n ∷ ns) = ap (λ ls. places_of (checked_at ps n) ++ ls) (among_are ps ns) ∙ sym (map-append (λ (c : CheckedStatement). Before c.number) (checked_at ps n) (checked_among ps ns))

pub checks_are : (ps : List Procedure) → AreNumbered ps → checks_among ps (program_numbers ps) ≡ kind_places Checks (routines_of ps)
checks_are ps once = among_are ps (program_numbers ps) ∙ ap places_of (all_checks ps once)
