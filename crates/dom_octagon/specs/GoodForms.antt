-- What code knows of the forms of expressions.
use Rattle.std.specs.Prelude.{◌<◌, ◌^◌, Option, Some, None}
use Rattle.dom_octagon_meaning.specs.Claims.{IsSmallForm}
use Rattle.dom_octagon_meaning.specs.declared.form.Form.{Form}
use Rattle.dom_octagon_meaning.specs.declared.form.Form.TheVariants.{Constant, Node}

-- a form's node is a number of 40 bits
abbrev pub HasShortNode : Form → Type 0
HasShortNode (Constant c) = Unit {0}
HasShortNode (Node i c) = i < 2 ^ 40

abbrev pub HasShortNodeIf : Option Form → Type 0
HasShortNodeIf None = Unit {0}
HasShortNodeIf (Some f) = HasShortNode f

-- a form, if there is one, of a short node and a small constant
pub record IsGoodForm (o : Option Form) : Type 0 where
  pub small : IsSmallForm o
  pub short : HasShortNodeIf o
