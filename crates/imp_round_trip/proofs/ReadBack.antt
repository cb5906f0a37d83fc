-- Printed text is read back.
use Rattle.std.proofs.Common.{List, [], ◌∷◌, sym, subst}
use Rattle.imp_lex.specs.declared.token.TokenKind.{TokenKind}
use Rattle.imp_syntax.specs.Plain.{Procedure}
use Rattle.imp_parse.specs.Answer.{Fits}
use Rattle.imp_parse.specs.Limits.{outside}
use Rattle.imp_parse.specs.Programs.{IsProgram}
use Rattle.imp_round_trip.specs.Printable.{IsPrintable, ArePrintable}
use Rattle.imp_round_trip.specs.Renumbered.{renumbered}
use Rattle.imp_round_trip.specs.ReadBack.{PrintingIsReadBack}
use Rattle.imp_round_trip.proofs.PrintedPrograms.{program_lexes}
use Rattle.imp_round_trip.proofs.Budgets.{program_fits}
use Rattle.imp_round_trip.proofs.SpelledPrograms.{program_is}

each_printable : (ps : List Procedure) → IsPrintable ps → ArePrintable ps
each_printable [] h = absurd h
each_printable (p ∷ ps) h = h

pub read_back : PrintingIsReadBack
read_back ps h =
    let lexed = program_lexes ps (each_printable ps h) 0 in
    let same = sym lexed.2 in
    (lexed.0, lexed.1, (subst (λ (ks : List TokenKind). IsProgram ks (renumbered ps)) same (program_is ps h), subst (λ (ks : List TokenKind). Fits outside ks) same (program_fits ps (each_printable ps h))))
