-- What is read of matches, by their rows.
use Rattle.std.specs.Prelude.{◌≡◌, List, [], ◌∷◌, length, ℕ, suc, false}
use Rattle.std.proofs.Common.{inl, inr, arith}
use Rattle.std.proofs.lemmas.Bool.{ne_eqb}
use Rattle.clap.specs.Kinds.{Kinds, IsAmong, HasKind}
use Rattle.clap.specs.Values.{kind_of}
use Rattle.clap.specs.declared.error.Error.{Error}
use Rattle.clap.specs.declared.error.kind.ErrorKind.{ErrorKind}
use Rattle.clap.specs.declared.error.kind.ErrorKind.TheVariants.{OutOfMemory}
use Rattle.clap.specs.Walk.{first_of, is_empty, rows_of}
use Rattle.clap.specs.Matches.{first_value}
use Rattle.clap.specs.declared.parser.matches.Found.{Found}
use Rattle.clap.proofs.WalkLemmas.{first_value-rows}

pub first_by_rows : (found : Found) (id : List ℕ) → first_value found id ≡ first_of id (rows_of found)
first_by_rows found id = first_value-rows found id

some_kind : (k : ErrorKind) (kinds : Kinds) → IsAmong k kinds → is_empty kinds ≡ false
some_kind k [] m = absurd m
some_kind k (x ∷ xs) m = ne_eqb (suc (length xs)) 0 (λ e. absurd (omega arith))

-- an error that is no want of memory comes of a fault
pub has_fault : (kinds : Kinds) (e : Error) → HasKind kinds e → (kind_of e ≡ OutOfMemory → ⊥) → is_empty kinds ≡ false
has_fault kinds e (inl k) other = absurd (other k)
has_fault kinds e (inr m) other = some_kind (kind_of e) kinds m
