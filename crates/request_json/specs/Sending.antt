-- What a `Serializer` is sent of an object, field by field.
use Rattle.std.specs.Prelude.{◌≡◌, ℕ, List, [], ◌∷◌}
use Rattle.serde.specs.Event.{Log, Logs, field_key}
use Rattle.serde.specs.declared.name.Case.TheVariants.{AsIs}
use Rattle.serde_json.specs.Data.{Data}
use Rattle.serde_json.specs.Events.{SendsValue}

-- a key and its value
abbrev pub SendsField : List ℕ → Data → Log → Log → Type 0
SendsField key value old new = (named : Log) × Logs old named (field_key key AsIs) × SendsValue value named new

-- keys and their values, one after another
abbrev pub SendsFields : List (List ℕ × Data) → Log → Log → Type 0
SendsFields [] old new = new ≡ old
SendsFields ((key, value) ∷ fields) old new = (mid : Log) × SendsField key value old mid × SendsFields fields mid new
