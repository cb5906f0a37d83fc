-- The program of a source, with its numbers.
use Rattle.std.proofs.Common.{◌≡◌, ℕ, zero, suc, ◌<◌, nat_lt, List, [], length, None, refl, sym, ap, ◌∙◌, subst, arith}
use Rattle.std.specs.List.{All}
use Rattle.std.proofs.lemmas.List.Elements.{All-nil}
use Rattle.imp_syntax.specs.Plain.{Procedure, program_numbers}
use Rattle.imp_slots.specs.Fits.{Absent, Distinct}
use Rattle.imp_check.specs.declared.fault.Fault.TheVariants.{Procedures, Statements as TooManyStatements, Nesting}
use Rattle.imp_check.specs.Faults.{unless, first, at, in_procedure}
use Rattle.imp_check.specs.Programs.{AreNumbered, check_fault, deepest, ending_fault, last_of, name_of, procedures_fault, program_count, size_fault}
use Rattle.imp_check.proofs.FewLemmas.{at_none, first_left, first_right, in_none, unless_lt}
use Rattle.imp_parse.specs.Answer.{HasTree, IsAnswer}
use Rattle.imp_parse.specs.Kinds.{kinds}
use Rattle.imp_parse.specs.Languages.{ProgramText}
use Rattle.imp_parse.specs.Limits.{outside}
use Rattle.imp_edit.specs.Edited.{counting}
use Rattle.imp_edit.proofs.Tallies.{often}
use Rattle.imp_edit.proofs.Once.{never_absent, once_distinct, never_below, counting_low, counting_high, counting_once}
use Rattle.imp_round_trip.proofs.ReadAgain.{printable}
use Rattle.serve_answers.specs.Fine.{IsFineBelow, IsProgramOf, SourcesAreFine, next_number}
use Rattle.serve_answers.specs.Readings.{Readings}
use Rattle.serve_answers.proofs.FineLemmas.{fine_of}
use Rattle.serve_answers.proofs.Numbered.{program_counts}
use Rattle.serve_answers.proofs.SmallTexts.{program_small}

length_counting : (first count : ℕ) → length (counting first count) ≡ count
length_counting first zero = refl
length_counting first (suc n) = ap suc (length_counting (suc first) n)

counted_numbered : (ps : List Procedure) (count : ℕ) → program_numbers ps ≡ counting 1 count → AreNumbered ps
counted_numbered ps count is = record {
  no_zero = subst (Absent 0) (sym is) (never_absent 0 (counting 1 count) (counting_low 1 count 0 (omega arith)));
  once = subst (λ (ns : List ℕ). Distinct ns) (sym is) (once_distinct (counting 1 count) (counting_once 1 count));
}

counted_below : (ps : List Procedure) (count : ℕ) → program_numbers ps ≡ counting 1 count → All (λ (n : ℕ). n < next_number ps) (program_numbers ps)
counted_below ps count is =
    let many : length (program_numbers ps) ≡ count = ap length is ∙ length_counting 1 count in
    never_below (next_number ps) (program_numbers ps)
    (λ m high. subst (λ (ns : List ℕ). often m ns ≡ 0) (sym is) (counting_high 1 count m (omega (arith, many, high))))

-- The numbers of a program that is read are 1 or more, stand once, and are below the next one.
pub tree_numbered : (text : List ℕ) (ps : List Procedure) → HasTree ProgramText outside text ps → AreNumbered ps
tree_numbered text ps tree = counted_numbered ps (program_count ps) (program_counts (kinds tree.0) ps tree.2.0)

pub tree_below : (text : List ℕ) (ps : List Procedure) → HasTree ProgramText outside text ps → All (λ (n : ℕ). n < next_number ps) (program_numbers ps)
tree_below text ps tree = counted_below ps (program_count ps) (program_counts (kinds tree.0) ps tree.2.0)

source_fine : (source : List ℕ) (program : List Procedure) → HasTree ProgramText outside source program → check_fault program ≡ None → IsFineBelow (next_number program) program
source_fine source program tree faultless =
    let small = program_small program (printable source program tree) in
    record {
      fine = fine_of program small faultless (tree_numbered source program tree);
      small = small;
      below = tree_below source program tree;
    }

pub sources_fine : SourcesAreFine
sources_fine = λ readings engine source program is.
    let tree : HasTree ProgramText outside source program = subst (IsAnswer ProgramText outside source) is.read (readings.program.exact source) in
    record {
      some = omega arith;
      present = source_fine source program tree is.faultless;
      past = All-nil (IsFineBelow (next_number program));
      future = All-nil (IsFineBelow (next_number program));
    }

-- ---- numbers of a source's program are at most 10,000

few_statements : (ps : List Procedure) → check_fault ps ≡ None → program_count ps < 10001
few_statements ps faultless =
    let nested = unless (nat_lt (deepest ps) 33) Nesting in
    let many = unless (nat_lt (program_count ps) 10001) TooManyStatements in
    let ending = in_procedure (name_of (last_of ps)) (at 0 (ending_fault ps)) in
    let sized = in_procedure (name_of (last_of ps)) (at 0 (size_fault ps)) in
    let fits = at_none 0 (size_fault ps) (in_none (name_of (last_of ps)) (at 0 (size_fault ps)) (first_left sized (first (procedures_fault [] ps) ending) faultless)) in
    unless_lt (program_count ps) 10001 TooManyStatements (first_left many nested (first_right (unless (nat_lt (length ps) 65) Procedures) (first many nested) fits))

counted_within : (ps : List Procedure) (count : ℕ) → program_numbers ps ≡ counting 1 count → count < 10001 → All (λ (n : ℕ). n < 10001) (program_numbers ps)
counted_within ps count is few =
    never_below 10001 (program_numbers ps) (λ m high. subst (λ (ns : List ℕ). often m ns ≡ 0) (sym is) (counting_high 1 count m (omega (arith, few, high))))

pub source_numbers : (readings : Readings) (source : List ℕ) (program : List Procedure) → IsProgramOf readings source program → All (λ (n : ℕ). n < 10001) (program_numbers program)
source_numbers readings source program is =
    let tree : HasTree ProgramText outside source program = subst (IsAnswer ProgramText outside source) is.read (readings.program.exact source) in
    counted_within program (program_count program) (program_counts (kinds tree.0) program tree.2.0) (few_statements program is.faultless)
