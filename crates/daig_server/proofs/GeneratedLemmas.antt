-- Generated sources are accepted.
use Rattle.std.proofs.Common.{◌≡◌, ◌∙◌, ◌≤◌, ℕ, List, Result, Ok, Err, IfErr, ap, refl, sym, arith}
use Rattle.imp_syntax.specs.Plain.{Procedure}
use Rattle.imp_parse.specs.Answer.{HasOneAnswer}
use Rattle.imp_parse.specs.Languages.{ProgramText}
use Rattle.imp_parse.specs.Limits.{outside}
use Rattle.daig_gen.specs.Source as generated
use Rattle.gen_sources.specs.Trees.{tree_of, AreFaultless, AreRead}
use Rattle.serve_answers.specs.Readings.{Readings}
use Rattle.request_json.specs.declared.reply.Refusal.{Refusal}
use Rattle.serve_output.specs.declared.error.JobError.{JobError}
use Rattle.serve_output.specs.declared.error.JobError.TheVariants.{Refused, Files, LongFile, Memory}
use Rattle.serve_output.specs.Sources.{checked, source_of, unless_faulty, IsErrorOf, IsSourceError}

pub generated_accepted : HasOneAnswer ProgramText outside → AreRead → AreFaultless → (readings : Readings) (seed size : ℕ) → size ≤ 1000 → source_of readings (generated.source_of seed size) ≡ Ok (tree_of seed size)
generated_accepted one read faultless readings seed size small =
    let text = generated.source_of seed size in
    let only = (one text).2 in
    let answer = only (readings.program.answer text) (readings.program.exact text) ∙ sym (only (Ok (tree_of seed size)) (read seed size)) in
    ap checked answer ∙ ap (unless_faulty (tree_of seed size)) (faultless seed size (omega (arith, small)))

-- a source that is accepted is not refused
no_refusal : (source : Result (List Procedure) Refusal) (program : List Procedure) (error : JobError) → source ≡ Ok program → IsSourceError source error → error ≡ Memory
no_refusal source program (Refused why) accepted is = cc
no_refusal source program Files accepted is = absurd is
no_refusal source program LongFile accepted is = absurd is
no_refusal source program Memory accepted is = refl

pub only_memory : {T : Type 0} (readings : Readings) (source : List ℕ) (program : List Procedure) (r : Result T JobError) → source_of readings source ≡ Ok program →
    IfErr r (IsErrorOf source) → IfErr r (λ error. error ≡ Memory)
only_memory readings source program (Ok t) accepted refused = tt
only_memory readings source program (Err error) accepted refused = no_refusal (source_of readings source) program error accepted (refused readings)
