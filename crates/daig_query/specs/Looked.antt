-- What a look at the name on top of a stack finds.
use Rattle.std.specs.Prelude.{◌≡◌, List, [], ◌∷◌, ◌++◌, Option, Some, IfSome, option_map}
use Rattle.domain_laws.specs.Operations.{Operations}
use Rattle.imp_flow.specs.Plans.{Plan}
use Rattle.imp_flow_rows.specs.declared.row.Row.{Row}
use Rattle.daig_query.specs.declared.opening.Absent.{Absent}
use Rattle.daig_query.specs.declared.opening.Open.{Open}
use Rattle.daig_query.specs.declared.store.Store.{Store}
use Rattle.daig_query.specs.Opened.{unfound, IsAt, IsFurther, IsNext, IsOpen, StaysOpen}

module _ {S : Type 0} (dom : Operations S) (plan : Plan) where
  -- the name on top is being filled, and has this row
  abbrev pub IsTopAt : Store S → Row → List Open → Type 0
  IsTopAt store row stack = (rest : List Open) (top : Open) → stack ≡ rest ++ top ∷ [] → IsAt dom plan store row top

  -- of the name on top more of the inputs are found
  pub record HasFurtherTop (store : Store S) (row : Row) (old new : List Open) : Type 0 where
    pub rest : List Open
    pub top : Open
    pub entry : Open
    pub before : old ≡ rest ++ top ∷ []
    pub after : new ≡ rest ++ entry ∷ []
    pub further : IsFurther dom plan store row top entry

  -- and so is that all are, or the first that has no cell
  pub record LooksAtTop (store : Store S) (row : Row) (old new : List Open) (found : Option Absent) : Type 0 where
    pub stack : HasFurtherTop store row old new
    pub next : IsNext dom plan store stack.entry (option_map unfound found)

  -- the name on top is being filled
  abbrev pub IsTopOpen : Store S → List Open → Type 0
  IsTopOpen store stack = (rest : List Open) (top : Open) → stack ≡ rest ++ top ∷ [] → IsOpen dom plan store top

  -- it is so once more, and maybe more of its inputs are found
  pub record HasOpenTop (store : Store S) (old new : List Open) : Type 0 where
    pub rest : List Open
    pub top : Open
    pub entry : Open
    pub before : old ≡ rest ++ top ∷ []
    pub after : new ≡ rest ++ entry ∷ []
    pub stays : StaysOpen dom plan store top entry

  -- and if a name is given, that is its next input, which has no cell
  pub record LooksAtFirst (store : Store S) (old new : List Open) (found : Option Absent) : Type 0 where
    pub stack : HasOpenTop store old new
    pub next : IfSome found (λ a. IsNext dom plan store stack.entry (Some (unfound a)))
