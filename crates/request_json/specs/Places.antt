-- Locations, places, kinds and names as texts.
use Rattle.std.specs.Prelude.{ℕ, ◌^◌, ◌&&◌, nat_le, nat_lt, List, [], ◌∷◌, length, take, drop, Option, Some, None, option_and_then, option_map, codes, if◌then◌else◌}
use Rattle.std.specs.Str.{bytes_eq}
use Rattle.std.specs.List.{list_all}
use Rattle.imp_lex.specs.Front.{is_digit}
use Rattle.imp_lex.specs.Numbers.{value_on}
use Rattle.imp_syntax.specs.declared.words.VariableKind.{VariableKind}
use Rattle.imp_syntax.specs.declared.words.VariableKind.TheVariants as kind
use Rattle.imp_syntax.specs.declared.edit.Location.{Location}
use Rattle.imp_syntax.specs.declared.edit.Location.TheVariants as location
use Rattle.imp_syntax.specs.declared.edit.Place.{Place}
use Rattle.imp_syntax.specs.declared.edit.Place.TheVariants as place

-- a number of 1 to 10 digits, up to 4,294,967,295
unfoldable pub number_of : List ℕ → Option ℕ
number_of digits =
    if nat_le 1 (length digits) && nat_le (length digits) 10 && list_all is_digit digits && nat_lt (value_on 0 digits) (2 ^ 32)
    then Some (value_on 0 digits) else None

-- what stands after these words at the front of a text
abbrev pub behind : List ℕ → List ℕ → Option (List ℕ)
behind words text = if bytes_eq (take (length words) text) words then Some (drop (length words) text) else None

-- a text of a byte at least
abbrev pub some_text : List ℕ → Option (List ℕ)
some_text [] = None
some_text (b ∷ bs) = Some (b ∷ bs)

-- the first of two that is there
abbrev pub or_else : {A : Type 0} → Option A → Option A → Option A
or_else None other = other
or_else (Some x) other = Some x

-- words and a statement's number
abbrev pub statement_behind : List ℕ → List ℕ → Option ℕ
statement_behind words text = option_and_then number_of (behind words text)

-- words and a procedure's name
abbrev pub name_behind : List ℕ → List ℕ → Option (List ℕ)
name_behind words text = option_and_then some_text (behind words text)

-- `before N`, `after N`, `head N`, `end P`
unfoldable pub location_of : List ℕ → Option Location
location_of text =
    or_else (option_map location.Before (statement_behind (codes "before ") text))
    (or_else (option_map location.After (statement_behind (codes "after ") text))
    (or_else (option_map location.Head (statement_behind (codes "head ") text))
    (option_map location.End (name_behind (codes "end ") text))))

-- `after N`, `then N`, `else N`, `body N`, `start P`
unfoldable pub place_of : List ℕ → Option Place
place_of text =
    or_else (option_map place.After (statement_behind (codes "after ") text))
    (or_else (option_map place.ThenStart (statement_behind (codes "then ") text))
    (or_else (option_map place.ElseStart (statement_behind (codes "else ") text))
    (or_else (option_map place.BodyStart (statement_behind (codes "body ") text))
    (option_map place.ProcStart (name_behind (codes "start ") text)))))

-- `int`, `array`, `list`
unfoldable pub kind_of : List ℕ → Option VariableKind
kind_of text =
    if bytes_eq text (codes "int") then Some kind.Int
    else (if bytes_eq text (codes "array") then Some kind.Array
    else (if bytes_eq text (codes "list") then Some kind.List
    else None))
