use Rattle.std.proofs.Common.{◌≡◌, None, sym, ◌∙◌}
use Rattle.imp_check.specs.Programs.{check_fault}
use Rattle.imp_check.proofs.FitsPrograms.{programs_fit}
use Rattle.imp_check.proofs.programs.check_procs.Goals as goal

pub returns-in-None-clause-fine : goal.returns-in-None-clause-fine
returns-in-None-clause-fine c =
    let ps = c.args.procs.now in
    let faultless : check_fault ps ≡ None = sym c.in_ok-found.ensures.is ∙ c.in-None.is in
    record {
      faultless = faultless;
      numbered = c.requires.numbered;
      fit = programs_fit ps (c.in_ok-found.ensures.small c.in-None.is) faultless c.requires.numbered;
    }
