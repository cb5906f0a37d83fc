-- The members of a request.
use Rattle.std.specs.Prelude.{ℕ, ℤ, ◌^◌, ◌-◌, ◌==◌, nat_le, List, [], ◌∷◌, length, Option, Some, None, option_and_then, option_map, codes, if◌then◌else◌}
use Rattle.std.specs.Str.Lossy.{utf8_valid_len}
use Rattle.serde_json.specs.Data.{Data, Items, no_items, item}
use Rattle.serde_json.specs.Read.{read}
use Rattle.serde_json.specs.Find.{get, as_str, as_array, as_number, as_u64, as_i64}

-- the value of a line that is text and JSON
unfoldable pub json_of : List ℕ → Option Data
json_of line = if utf8_valid_len line == length line then read line else None

-- a member that is a text
abbrev pub text_at : List ℕ → Data → Option (List ℕ)
text_at key request = option_and_then as_str (get key request)

abbrev pub at_most : ℕ → ℕ → Option ℕ
at_most most n = if nat_le n most then Some n else None

-- a value that is a whole number from 0 up to this one
abbrev pub number_in : ℕ → Data → Option ℕ
number_in most value = option_and_then (at_most most) (option_and_then as_u64 (as_number value))

-- a member that is a whole number from 0 up to this one
abbrev pub number_at : ℕ → List ℕ → Data → Option ℕ
number_at most key request = option_and_then (number_in most) (get key request)

-- the greatest statement number, ticket, and count of steps or cells that a request may have
abbrev pub greatest_id : ℕ
greatest_id = 2 ^ 32 - 1

abbrev pub greatest_ticket : ℕ
greatest_ticket = 2 ^ 63 - 1

abbrev pub greatest_count : ℕ
greatest_count = 1000000

-- all items read, or none
abbrev pub items_read : {A : Type 0} → (Data → Option A) → Items → Option (List A)
items_read f no_items = Some []
items_read f (item d ds) = option_and_then (λ x. option_map (λ xs. x ∷ xs) (items_read f ds)) (f d)

-- the list in an array
abbrev pub list_in : {A : Type 0} → (Data → Option A) → Data → Option (List A)
list_in f value = option_and_then (items_read f) (as_array value)

-- what is read of a member, or the empty list where it is absent
abbrev pub or_empty : {A : Type 0} → (Data → Option (List A)) → Option Data → Option (List A)
or_empty f None = Some []
or_empty f (Some value) = f value

-- a whole number of 64 bits with a sign
abbrev pub integer_in : Data → Option ℤ
integer_in value = option_and_then as_i64 (as_number value)

-- the call string, empty where it is absent
abbrev pub string_at : Data → Option (List ℕ)
string_at request = or_empty (list_in (number_in greatest_id)) (get (codes "string") request)

-- the inputs of a run, none where they are absent
abbrev pub inputs_at : Data → Option (List ℤ)
inputs_at request = or_empty (list_in integer_in) (get (codes "inputs") request)
