-- The value of a line, by how its reading ends.
use Rattle.std.proofs.Common.{◌≡◌, ℕ, ◌<◌, ◌==◌, List, length, Bool, true, false, Some, None, if◌then◌else◌, refl, arith}
use Rattle.std.specs.Str.{IsUtf8}
use Rattle.std.specs.Str.Lossy.{utf8_valid_len}
use Rattle.std.proofs.lemmas.Str.{utf8_valid_len-IsUtf8}
use Rattle.std.proofs.lemmas.Bool.Decides.{nat_tests}
use Rattle.serde_json.specs.Data.{Data}
use Rattle.serde_json.specs.Read.{read}
use Rattle.request_json.specs.Members.{json_of}

-- the line is text and JSON
pub json_of_value : (line : List ℕ) (value : Data) → IsUtf8 line → read line ≡ Some value → json_of line ≡ Some value
unfolding json_of
json_of_value line value text is =
    let whole : (utf8_valid_len line == length line) ≡ true = let same : utf8_valid_len line ≡ length line = utf8_valid_len-IsUtf8 line text in grind (arith, nat_tests) in
    rw (whole, is) refl

-- the line is no text
pub json_of_no_text : (line : List ℕ) → utf8_valid_len line < length line → json_of line ≡ None
unfolding json_of
json_of_no_text line short =
    let broken : (utf8_valid_len line == length line) ≡ false = grind (arith, nat_tests) in
    rw broken refl

alike : {A : Type 0} (b : Bool) (x : A) → (if b then x else x) ≡ x
alike true x = refl
alike false x = refl

-- the line is no JSON
pub json_of_no_value : (line : List ℕ) → read line ≡ None → json_of line ≡ None
unfolding json_of
json_of_no_value line none = rw none (alike (utf8_valid_len line == length line) None)
