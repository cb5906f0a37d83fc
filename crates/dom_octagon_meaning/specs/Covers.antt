-- Which configurations a state describes, and which states fit the layouts of frames.
use Rattle.std.specs.Prelude.{ℕ, ◌+◌, ◌*◌, ◌^◌, nat_eq, Bool, true, false, not, ◌&&◌, ℤ, pos, neg_ℤ, int_lt, List, [], ◌∷◌, length, Option, Some, None}
use Rattle.std.specs.Bool.{beq}
use Rattle.std.specs.Cmp.Lexicographic.{pointwise}
use Rattle.std.specs.Option.{option_eq}
use Rattle.std.specs.Ordering.{int_eq}
use Rattle.dbm_core.specs.Half.{HalfMatrix, entry, nodes}
use Rattle.dbm_core.specs.Valuations.{IsSatisfiedBy}
use Rattle.dbm_close.specs.CloseOf.{some_below}
use Rattle.dbm_close.specs.declared.closed.Closed.{Closed}
use Rattle.dbm_close.specs.declared.closed.Closed.TheVariants.{Empty, Matrix}
use Rattle.imp_slots.specs.Plain.{Layout}
use Rattle.concrete_sem.specs.Values.{Variables, Heap, number_at}
use Rattle.dom_numeric.specs.Measures.{measure}
use Rattle.dom_octagon_meaning.specs.Operations.{kinds_of}

-- what the slots of a frame measure
abbrev pub values : Variables → ℕ → ℤ
values v k = measure (number_at v k)

-- The state is not Empty, and every bound holds of the last frame's values.
abbrev pub covers : Closed → Heap → List Variables → Type 0
covers Empty h vs = ⊥
covers (Matrix m) h [] = ⊥
covers (Matrix m) h (v ∷ vs) = IsSatisfiedBy m (values v)

-- a bound is none, or from -2^64 to 2^64 - 1
abbrev pub in_limits : Option ℤ → Bool
in_limits None = true
in_limits (Some x) = not (int_lt x (neg_ℤ (pos (2 ^ 64)))) && int_lt x (pos (2 ^ 64))

-- the slots of the layout, as many kept entries as these have, a diagonal of 0, and bounds within the limits
abbrev pub fits_matrix : Layout → HalfMatrix → Bool
fits_matrix l m =
    pointwise beq m.kinds (kinds_of l.numbers)
    && (nat_eq (length m.kept) (2 * (length m.kinds * (length m.kinds + 1)))
    && (not (some_below (nodes m) (λ i. not (option_eq int_eq (entry m i i) (Some (pos 0)))))
    && not (some_below (nodes m) (λ i. some_below (nodes m) (λ j. not (in_limits (entry m i j)))))))

-- a state of frames with these layouts, the last one's first
unfoldable pub fits : Closed → List Layout → Bool
fits Empty ls = true
fits (Matrix m) [] = false
fits (Matrix m) (l ∷ ls) = fits_matrix l m
