-- One turn of the search for a name.
use Rattle.std.proofs.Common.{◌≡◌, ℕ, ◌+◌, ◌<◌, ◌≤◌, List, length, drop, slice_index_or, Some, None, true, false, add-one, refl}
use Rattle.std.proofs.Math.Seq.{drop-cons}
use Rattle.std.proofs.lemmas.List.{drop_all}
use Rattle.std.specs.Str.{bytes_eq}
use Rattle.io_edge.specs.Outside.{File, bytes_of}

-- the name at this place is the one
pub found_here : (name : List ℕ) (files : List File) (i : ℕ) (file : File) → i < length files →
    file ≡ slice_index_or files i file → true ≡ bytes_eq file.name name →
    bytes_of name (drop i files) ≡ Some file.bytes
found_here name files i file within is same =
    rw (drop-cons files i file within, ← is, ← same) refl

-- it is not, so the rest decides
pub found_later : (name : List ℕ) (files : List File) (i : ℕ) (file : File) → i < length files →
    file ≡ slice_index_or files i file → false ≡ bytes_eq file.name name →
    bytes_of name (drop i files) ≡ bytes_of name (drop (i + 1) files)
found_later name files i file within is other =
    rw (add-one, drop-cons files i file within, ← is, ← other) refl

-- no name is left
pub found_nowhere : (name : List ℕ) (files : List File) (i : ℕ) → length files ≤ i →
    bytes_of name (drop i files) ≡ None
found_nowhere name files i past = rw (drop_all i files past) refl
