-- The text of a state: the ranges of its closed slots, then the bounds on two slots that these do not give.
use Rattle.std.specs.Prelude.{ℕ, ◌+◌, ◌*◌, ℤ, int_lt, Bool, true, false, List, [], ◌∷◌, ◌++◌, codes, if◌then◌else◌, Option, Some, None}
use Rattle.std.specs.Fmt.{signed_decimal}
use Rattle.dbm_core.specs.Half.{HalfMatrix, entry}
use Rattle.dbm_core.specs.Nodes.{flip}
use Rattle.dbm_core.specs.Weights.{add_weight}
use Rattle.dbm_close.specs.Steps.{half}
use Rattle.dbm_close.specs.declared.closed.Closed.{Closed}
use Rattle.dbm_close.specs.declared.closed.Closed.TheVariants.{Empty, Matrix}
use Rattle.imp_slots.specs.Plain.{Numeric, Layout}
use Rattle.dom_numeric.specs.Texts.{name_text, range_text, space_at}
use Rattle.dom_octagon_meaning.specs.Ranges.{range_at}
use Rattle.dom_octagon_meaning.specs.States.{closed}

-- the ranges of the slots from slot n on
abbrev pub ranges_text : HalfMatrix → ℕ → List Numeric → List ℕ
ranges_text m n [] = []
ranges_text m n (k ∷ ks) = space_at n ++ range_text k (range_at m n) ++ ranges_text m (n + 1) ks

-- whether a bound is less than another; none is greater than all
abbrev pub is_sharper : Option ℤ → Option ℤ → Bool
is_sharper None h = false
is_sharper (Some c) None = true
is_sharper (Some c) (Some h) = int_lt c h

-- the bound on two nodes, where it is less than half the sum of their own
abbrev pub sharp : HalfMatrix → (i j : ℕ) → Option ℤ
sharp m i j = if is_sharper (entry m i j) (half (add_weight (entry m i (flip i)) (entry m (flip j) j))) then entry m i j else None

-- what a bound says of two slots
unfoldable pub bound_text : (sign : List ℕ) → Numeric → (between : List ℕ) → Numeric → Option ℤ → List ℕ
bound_text sign p between q None = []
bound_text sign p between q (Some c) = sign ++ name_text p ++ between ++ name_text q ++ codes "<=" ++ signed_decimal c

-- x-y<=c, y-x<=c, x+y<=c, -x-y<=c of slots a and b
unfoldable pub pair_text : HalfMatrix → ℕ → Numeric → ℕ → Numeric → List ℕ
pair_text m a p b q =
    bound_text (codes " ") p (codes "-") q (sharp m (2 * b) (2 * a))
    ++ bound_text (codes " ") q (codes "-") p (sharp m (2 * a) (2 * b))
    ++ bound_text (codes " ") p (codes "+") q (sharp m (2 * b + 1) (2 * a))
    ++ bound_text (codes " -") p (codes "-") q (sharp m (2 * b) (2 * a + 1))

-- the pairs of slot a with those from slot b on, and those of the slots from n on
abbrev pub pairs_with : HalfMatrix → ℕ → Numeric → ℕ → List Numeric → List ℕ
pairs_with m a p b [] = []
pairs_with m a p b (q ∷ qs) = pair_text m a p b q ++ pairs_with m a p (b + 1) qs

abbrev pub pairs_text : HalfMatrix → ℕ → List Numeric → List ℕ
pairs_text m n [] = []
pairs_text m n (k ∷ ks) = pairs_with m n k (n + 1) ks ++ pairs_text m (n + 1) ks

-- `any` where there are no slots
abbrev pub matrix_text : List Numeric → HalfMatrix → List ℕ
matrix_text [] m = codes "any"
matrix_text (k ∷ ks) m = ranges_text m 0 (k ∷ ks) ++ pairs_text m 0 (k ∷ ks)

-- `none` where the closed state is Empty
abbrev pub closed_text : Layout → Closed → List ℕ
closed_text l Empty = codes "none"
closed_text l (Matrix m) = matrix_text l.numbers m

unfoldable pub text : Layout → Closed → List ℕ
text l s = closed_text l (closed s)
