-- What the operations make of a matrix before it is closed.
use Rattle.std.specs.Prelude.{ℕ, ◌+◌, ◌-◌, ◌*◌, ◌/◌, ◌%◌, ◌^◌, eqb, not, ◌&&◌, Bool, false, ℤ, pos, ◌+ℤ◌, ◌-ℤ◌, neg_ℤ, int_le, if◌then◌else◌, List, slice_index_or, Option, Some, None}
use Rattle.dbm_core.specs.Half.{HalfMatrix, entry}
use Rattle.dbm_core.specs.Nodes.{flip}
use Rattle.dbm_core.specs.Operations.{forgotten, lowered}
use Rattle.dbm_core.specs.Tables.{matrix_of}
use Rattle.dbm_core.specs.Weights.{add_weight}
use Rattle.num_bounds.specs.Bounds.{Bounds}
use Rattle.dom_octagon_meaning.specs.declared.form.Form.{Form}
use Rattle.dom_octagon_meaning.specs.declared.form.Form.TheVariants.{Constant, Node}
use Rattle.dom_octagon_meaning.specs.Forms.{slot_form}

-- v_j - v_i is c at most
unfoldable pub with_bound : HalfMatrix → (i j : ℕ) → ℤ → HalfMatrix
with_bound m i j c = matrix_of m.kinds (lowered (entry m) i j c)

-- the bounds on a slot dropped
unfoldable pub without : HalfMatrix → ℕ → HalfMatrix
without m k = matrix_of m.kinds (forgotten (entry m) k)

-- v_i is c at most
abbrev pub with_greatest : HalfMatrix → (i : ℕ) → ℤ → HalfMatrix
with_greatest m i c = with_bound m (flip i) i (c +ℤ c)

-- a - b is k at most
abbrev pub with_difference : HalfMatrix → (a b : Form) → ℤ → HalfMatrix
with_difference m (Constant c) (Constant d) k = m
with_difference m (Constant c) (Node j d) k = with_greatest m (flip j) ((k +ℤ d) -ℤ c)
with_difference m (Node i c) (Constant d) k = with_greatest m i ((k +ℤ d) -ℤ c)
with_difference m (Node i c) (Node j d) k = with_bound m j i ((k +ℤ d) -ℤ c)

-- a is b
abbrev pub with_equation : HalfMatrix → (a b : Form) → HalfMatrix
with_equation m a b = with_difference (with_difference m a b (pos 0)) b a (pos 0)

-- the greatest value of a node of an int slot
abbrev pub node_extreme : ℕ → ℤ
node_extreme i = if eqb (i % 2) 0 then pos (2 ^ 63 - 1) else pos (2 ^ 63)

-- whether v_i is at most c anyway: c is at or beyond an int slot's extreme
abbrev pub is_beyond : List Bool → (i : ℕ) → ℤ → Bool
is_beyond kinds i c = not (slice_index_or kinds (i / 2) false) && int_le (node_extreme i) c

-- v_i meets an end of a range: an int slot takes none at or beyond its extreme
unfoldable pub meets_end : HalfMatrix → (i : ℕ) → ℤ → HalfMatrix
meets_end m i c = if is_beyond m.kinds i c then m else with_greatest m i c

-- the slot meets a range
abbrev pub meets_range : HalfMatrix → ℕ → Bounds → HalfMatrix
meets_range m k r = meets_end (meets_end m (2 * k) r.hi) (2 * k + 1) (neg_ℤ r.lo)

-- a side of a comparison that has a form with a node is h at most, is l at least
abbrev pub side_at_most : HalfMatrix → Option Form → ℤ → HalfMatrix
side_at_most m None h = m
side_at_most m (Some (Constant c)) h = m
side_at_most m (Some (Node i c)) h = meets_end m i (h -ℤ c)

abbrev pub side_at_least : HalfMatrix → Option Form → ℤ → HalfMatrix
side_at_least m None l = m
side_at_least m (Some (Constant c)) l = m
side_at_least m (Some (Node i c)) l = meets_end m (flip i) (c -ℤ l)

-- Slot x gets the value of its node i, plus c: which node of the old matrix a node is then, and how far from it.
abbrev pub turned : (x i : ℕ) → ℕ → ℕ
turned x i a = if eqb (a / 2) x && not (eqb (i % 2) 0) then flip a else a

abbrev pub shift : (x : ℕ) → ℤ → ℕ → ℤ
shift x c a = if eqb (a / 2) x then (if eqb (a % 2) 0 then c else neg_ℤ c) else pos 0

abbrev pub shifted : (ℕ → ℕ → Option ℤ) → (x i : ℕ) → ℤ → ℕ → ℕ → Option ℤ
shifted d x i c a b = add_weight (d (turned x i a) (turned x i b)) (Some (shift x c b -ℤ shift x c a))

-- every bound on x carried over
unfoldable pub carried : HalfMatrix → (x i : ℕ) → ℤ → HalfMatrix
carried m x i c = matrix_of m.kinds (shifted (entry m) x i c)

-- slot x gets the value of an expression of this form, if it has one, and of this range
abbrev pub assigned : HalfMatrix → (x : ℕ) → Option Form → Bounds → HalfMatrix
assigned m x None r = meets_range (without m x) x r
assigned m x (Some (Constant c)) r = with_equation (without m x) (slot_form x) (Constant c)
assigned m x (Some (Node i c)) r = if eqb (i / 2) x then carried m x i c else with_equation (without m x) (slot_form x) (Node i c)
