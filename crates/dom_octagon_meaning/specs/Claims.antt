-- What is claimed of the octagons.
use Rattle.std.specs.Prelude.{◌≡◌, ℕ, ◌^◌, ℤ, Option, Some, None}
use Rattle.dbm_core.specs.Half.{HalfMatrix}
use Rattle.dbm_core.specs.Limits.{IsWithin}
use Rattle.imp_slots.specs.Plain.{Term}
use Rattle.num_bounds.specs.Bounds.{Bounds, IsRange}
use Rattle.dom_octagon_meaning.specs.declared.form.Form.{Form}
use Rattle.dom_octagon_meaning.specs.declared.form.Form.TheVariants.{Constant, Node}
use Rattle.dom_octagon_meaning.specs.Forms.{form_of}
use Rattle.dom_octagon_meaning.specs.Ranges.{range_at, range_of}

-- a form's constant
abbrev pub constant_of : Form → ℤ
constant_of (Constant c) = c
constant_of (Node i c) = c

-- the constant of a form, if there is one, is from -2^64 to 2^64
abbrev pub IsSmallForm : Option Form → Type 0
IsSmallForm None = Unit {0}
IsSmallForm (Some f) = IsWithin (2 ^ 64) (Some (constant_of f))

-- However deep an expression is: where it has a range of 64-bit integers, and the slots have such ranges, the constant of its
-- linear form is small.
abbrev pub FormsAreSmall : Type 0
FormsAreSmall = (m : HalfMatrix) (t : Term) (r : Bounds) → ((k : ℕ) → IsRange (range_at m k)) → range_of m t ≡ Some r → IsRange r → IsSmallForm (form_of t)
