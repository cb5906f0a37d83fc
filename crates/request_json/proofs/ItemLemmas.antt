-- Lists of members that are read one after another.
use Rattle.std.proofs.Common.{List, ◌++◌, Option, option_map}
use Rattle.serde_json.specs.Data.{Data}
use Rattle.serde_json.specs.View.{items_view}
use Rattle.serde_json.specs.declared.value.Value.{Value}
use Rattle.request_json.specs.Members.{items_read}

-- these, and then what is read of the members
abbrev pub reads : {X : Type 0} → (Data → Option X) → List X → List Value → Option (List X)
reads f so_far members = option_map (λ xs. so_far ++ xs) (items_read f (items_view members))
