-- Equality of matrices: of the kinds and of the kept entries, which is identity.
use Rattle.std.specs.Prelude.{ℤ, Bool, ◌&&◌, ◌≡◌, Option, true, false, List, refl}
use Rattle.std.specs.Bool.{beq, Decides}
use Rattle.std.specs.Option.{option_eq}
use Rattle.std.specs.Ordering.{int_eq}
use Rattle.std.specs.Cmp.Lexicographic.{pointwise}
use Rattle.dbm_core.specs.Half.{HalfMatrix}
use Rattle.std.specs.Cmp.{IsEquivalence, decided}
use Rattle.std.proofs.Common.{ap, ◌∙◌}
use Rattle.std.proofs.lemmas.Slice.Eq.{slice_eq-Decides}
use Rattle.std.proofs.lemmas.Bool.{and_parts, and_from}
use Rattle.base_values.proofs.Integers.{word_Decides}

-- what `==` answers
abbrev pub same_matrix : HalfMatrix → HalfMatrix → Bool
same_matrix a b = pointwise beq a.kinds b.kinds && pointwise (option_eq int_eq) a.kept b.kept

bool_Decides : (a b : Bool) → Decides (beq a b) (a ≡ b)
bool_Decides true true = (λ _. refl, λ _. refl)
bool_Decides true false = (λ e. cc, λ e. cc)
bool_Decides false true = (λ e. cc, λ e. cc)
bool_Decides false false = (λ _. refl, λ _. refl)

-- equal kinds are the same
pub bools_Decide : (a b : List Bool) → Decides (pointwise beq a b) (a ≡ b)
bools_Decide a b = slice_eq-Decides bool_Decides a b (pointwise beq a b) refl

-- equal is identical
pub same_matrix-Decides : (a b : HalfMatrix) → Decides (same_matrix a b) (a ≡ b)
same_matrix-Decides a b = (
  (λ e. let p : (pointwise beq a.kinds b.kinds ≡ true) × (pointwise (option_eq int_eq) a.kept b.kept ≡ true) = and_parts (pointwise beq a.kinds b.kinds) (pointwise (option_eq int_eq) a.kept b.kept) e in
      let k : a.kinds ≡ b.kinds = (slice_eq-Decides bool_Decides a.kinds b.kinds (pointwise beq a.kinds b.kinds) refl).0 p.0 in
      let n : a.kept ≡ b.kept = (slice_eq-Decides word_Decides a.kept b.kept (pointwise (option_eq int_eq) a.kept b.kept) refl).0 p.1 in
      let make : List Bool → List (Option ℤ) → HalfMatrix = λ k n. record { kinds = k; kept = n } in
      ap (λ k. make k a.kept) k ∙ ap (λ n. make b.kinds n) n),
  (λ e. and_from (pointwise beq a.kinds b.kinds) (pointwise (option_eq int_eq) a.kept b.kept)
      ((slice_eq-Decides bool_Decides a.kinds b.kinds (pointwise beq a.kinds b.kinds) refl).1 (ap (λ (m : HalfMatrix). m.kinds) e))
      ((slice_eq-Decides word_Decides a.kept b.kept (pointwise (option_eq int_eq) a.kept b.kept) refl).1 (ap (λ (m : HalfMatrix). m.kept) e))),
)

pub same_matrix-equiv : IsEquivalence same_matrix
same_matrix-equiv = decided same_matrix same_matrix-Decides

pub same_matrix-hash : {X : Type 0} (f : HalfMatrix → X) (a b : HalfMatrix) → same_matrix a b ≡ true → f a ≡ f b
same_matrix-hash f a b e = ap f ((same_matrix-Decides a b).0 e)
