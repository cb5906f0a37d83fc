-- What an assignment makes of a closed matrix before that is closed, and where the value lies in one more range.
use Rattle.std.specs.Prelude.{ℕ, ℤ, Option}
use Rattle.dbm_core.specs.Half.{HalfMatrix}
use Rattle.num_bounds.specs.Bounds.{Bounds}
use Rattle.dom_octagon_meaning.specs.declared.form.Form.{Form}
use Rattle.dom_octagon_meaning.specs.Forms.{slot_form}
use Rattle.dom_octagon_meaning.specs.Matrices.{assigned, carried, meets_range, with_equation, without}

-- slot x is equal to a form without it
abbrev pub made_equal : HalfMatrix → ℕ → Form → HalfMatrix
made_equal m x f = with_equation (without m x) (slot_form x) f

abbrev pub equal_within : HalfMatrix → ℕ → Form → Bounds → HalfMatrix
equal_within m x f w = meets_range (made_equal m x f) x w

-- slot x gets a value of the range r
abbrev pub ranged_within : HalfMatrix → ℕ → (r w : Bounds) → HalfMatrix
ranged_within m x r w = meets_range (meets_range (without m x) x r) x w

-- slot x gets the value of its own node i, plus c
abbrev pub carried_within : HalfMatrix → (x i : ℕ) → ℤ → Bounds → HalfMatrix
carried_within m x i c w = meets_range (carried m x i c) x w

-- slot x gets the value of an expression of this form, if it has one, and of the range r
abbrev pub assigned_within : HalfMatrix → ℕ → Option Form → (r w : Bounds) → HalfMatrix
assigned_within m x f r w = meets_range (assigned m x f r) x w
