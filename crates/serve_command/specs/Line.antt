-- The command line, as `clap` defines commands.
use Rattle.std.specs.Prelude.{◌≡◌, [], ◌∷◌, Some, true, false, codes, Result, IfOk}
use Rattle.clap.specs.Walk.{Rule, Text}
use Rattle.clap.specs.Simple.{App, Shape, app_of, new_rule, new_shape}
use Rattle.clap.specs.declared.builder.command.Command.{Command}
use Rattle.clap.specs.declared.builder.command.Command.TheViews.{out-Command as fields_of}
use Rattle.clap.specs.declared.builder.action.ArgAction.TheVariants.{Set}

-- an option that has a value, with the one that stands for it where it is left out
abbrev pub option_of : Text → Text → Rule
option_of name default = record (new_rule name) { long = Some name; action = Some Set; defaults = default ∷ [] }

-- an option that has a value and has to be there
abbrev pub needed_of : Text → Rule
needed_of name = record (new_rule name) { long = Some name; action = Some Set; required = true }

-- a word that is no option and has to be there
abbrev pub word_of : Text → Rule
word_of name = record (new_rule name) { action = Some Set; required = true }

abbrev pub domain_rule : Rule
domain_rule = option_of (codes "domain") (codes "interval")

abbrev pub widening_rule : Rule
widening_rule = option_of (codes "widening") (codes "thresholds")

abbrev pub delay_rule : Rule
delay_rule = option_of (codes "delay") (codes "0")

abbrev pub budget_rule : Rule
budget_rule = option_of (codes "budget") (codes "100")

abbrev pub memo_rule : Rule
memo_rule = option_of (codes "memo") (codes "1024")

abbrev pub seed_rule : Rule
seed_rule = needed_of (codes "seed")

abbrev pub size_rule : Rule
size_rule = needed_of (codes "size")

-- the file
abbrev pub file_rule : Rule
file_rule = word_of (codes "FILE")

-- the file of a certificate
abbrev pub cert_rule : Rule
cert_rule = word_of (codes "CERT")

-- the commands, and the program
abbrev pub serve_shape : Shape
serve_shape = record (new_shape (codes "serve")) { rules = domain_rule ∷ widening_rule ∷ delay_rule ∷ budget_rule ∷ memo_rule ∷ file_rule ∷ [] }

-- a command of this name that analyses the program of a file
abbrev pub analysis_shape : Text → Shape
analysis_shape name = record (new_shape name) { rules = domain_rule ∷ widening_rule ∷ delay_rule ∷ budget_rule ∷ file_rule ∷ [] }

abbrev pub batch_shape : Shape
batch_shape = analysis_shape (codes "batch")

abbrev pub faults_shape : Shape
faults_shape = analysis_shape (codes "faults")

abbrev pub gen_shape : Shape
gen_shape = record (new_shape (codes "gen")) { rules = domain_rule ∷ seed_rule ∷ size_rule ∷ [] }

abbrev pub cert_shape : Shape
cert_shape = analysis_shape (codes "cert")

abbrev pub verify_shape : Shape
verify_shape = record (new_shape (codes "verify")) { rules = domain_rule ∷ file_rule ∷ cert_rule ∷ [] }

abbrev pub daig_app : App
daig_app = record {
  top = record (new_shape (codes "daig")) { is_leaf = false; disable_help_flag = true; disable_help_subcommand = true };
  subs = serve_shape ∷ batch_shape ∷ gen_shape ∷ cert_shape ∷ verify_shape ∷ faults_shape ∷ [];
}

-- a command with none below it
abbrev pub alone : Shape → App
alone shape = record { top = shape; subs = [] }

-- what is made is this command, if memory sufficed for it; none of its arguments holds for the commands below it
abbrev pub Makes : {E : Type 0} → Result Command E → App → Type 0
Makes made app = IfOk made (λ command. (app_of command ≡ app) × ((fields_of command).has_globals ≡ false))
