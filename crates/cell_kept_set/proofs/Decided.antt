-- Whether the new program has a name, and whether a name keeps its row, is decided.
use Rattle.std.specs.Bool.{Decides}
use Rattle.std.specs.Cmp.Lexicographic.{pointwise}
use Rattle.std.specs.Ordering.{int_eq}
use Rattle.std.proofs.lemmas.Bool.Decides.{Decides-int_eq}
use Rattle.std.proofs.lemmas.Slice.Eq.{slice_eq-Decides}
use Rattle.std.proofs.Common.{reverse, ◌≡◌, ℤ, List, [], ◌∷◌, Option, Some, None, Bool, true, false, refl, sym, ap, ◌∙◌, subst, ◌⊎◌, inl, inr}
use base.Stored.{Coded}
use Rattle.base_values.specs.Equal.{same, same_Decides}
use Rattle.imp_slots.specs.Codes.{guard_code}
use Rattle.imp_slots.specs.PartCodes.{act_code, layout_code, entering_code, returning_to, returning_from, returning_from_to}
use Rattle.std.specs.Coded.{code_by}
use denote.Struct.Codes.{itself}
use base.Stored.{Gv}
use Rattle.imp_slots.specs.Plain.{Returning, Routine}
use Rattle.domain_laws.specs.Operations.{Operations}
use Rattle.domain_laws.specs.Claims.{same_truth}
use Rattle.batch_meaning.specs.Batch.{LoopOptions}
use Rattle.cell_names.specs.Paths.{CellName}
use Rattle.daig_order.specs.Asking.{inputs_of}
use Rattle.cell_rows.specs.Names.{bare, mark_of, IsSame}
use Rattle.cell_rows.specs.Rows.{Unary, Posts, Assumes, Enters, Exits, Binary, JoinsBoth, Leaves, Widens, Row, Op, OpInit, OpOne, OpTwo, OpFix, OpJoin, op_of}
use Rattle.cell_rows.specs.Flat.{flat_row}
use Rattle.cell_rows.specs.Claims.{HasName}
use Rattle.cell_kept_set.specs.Touched.{Edit, old_rows, new_inputs, KeepsRow}

abbrev pub Decided : Type 0 → Type 0
Decided A = A ⊎ (A → ⊥)

by_test : {A : Type 0} (b : Bool) → Decides b A → Decided A
by_test true d = inl (d.0 refl)
by_test false d = inr (λ a. let e = d.1 a in absurd cc)

mapped : {A B : Type 0} → (A → B) → (B → A) → Decided A → Decided B
mapped f g (inl a) = inl (f a)
mapped f g (inr n) = inr (λ b. n (g b))

pub both : {A B : Type 0} → Decided A → Decided B → Decided (A × B)
both (inl a) (inl b) = inl (a, b)
both (inl a) (inr n) = inr (λ p. n p.1)
both (inr n) q = inr (λ p. n p.0)

coded : {A : Type 0} (c : Coded A) (x y : A) → Decided (x ≡ y)
coded c x y = by_test (same c x y) (same_Decides c x y)

abbrev pub returning_code : Coded (Option Returning)
returning_code = code_by Gv itself returning_to returning_from returning_from_to

-- what never holds is decided by no
pub never : {A : Type 0} → (A → ⊥) → Decides false A
never n = (λ e. absurd cc, λ a. absurd (n a))

pub truth_decides : (a b : Bool) → Decides (same_truth a b) (a ≡ b)
truth_decides true b = (λ e. sym e, λ e. sym e)
truth_decides false true = (λ e. absurd cc, λ e. absurd cc)
truth_decides false false = (λ e. refl, λ e. refl)

thresholds : (xs ys : List ℤ) → Decided (xs ≡ ys)
thresholds xs ys = by_test (pointwise int_eq xs ys) (slice_eq-Decides Decides-int_eq xs ys (pointwise int_eq xs ys) refl)

unary : (u v : Unary) → Decided (u ≡ v)
unary (Posts a) (Posts b) = mapped (λ e. ap Posts e) (λ e. cc) (coded act_code a b)
unary (Assumes g h) (Assumes k i) = mapped (λ e. ap (λ g. Assumes g h) e.0 ∙ ap (Assumes k) e.1) (λ e. (cc, cc)) (both (coded guard_code g k) (by_test (same_truth h i) (truth_decides h i)))
unary (Enters a) (Enters b) = mapped (λ e. ap Enters e) (λ e. cc) (coded entering_code a b)
unary (Exits g) (Exits k) = mapped (λ e. ap Exits e) (λ e. cc) (coded guard_code g k)
unary u v = inr (λ e. absurd cc)

binary : (u v : Binary) → Decided (u ≡ v)
binary JoinsBoth JoinsBoth = inl refl
binary (Leaves a) (Leaves b) = mapped (λ e. ap Leaves e) (λ e. cc) (coded returning_code a b)
binary (Widens a) (Widens b) = mapped (λ e. ap Widens e) (λ e. cc) (thresholds a b)
binary u v = inr (λ e. absurd cc)

ops : (o q : Op) → Decided (o ≡ q)
ops (OpInit a) (OpInit b) = mapped (λ e. ap OpInit e) (λ e. cc) (coded layout_code a b)
ops (OpOne a) (OpOne b) = mapped (λ e. ap OpOne e) (λ e. cc) (unary a b)
ops (OpTwo a) (OpTwo b) = mapped (λ e. ap OpTwo e) (λ e. cc) (binary a b)
ops OpFix OpFix = inl refl
ops OpJoin OpJoin = inl refl
ops o q = inr (λ e. absurd cc)

has_some : {A : Type 0} (o : Option A) → Decided ((a : A) × (o ≡ Some a))
has_some None = inr (λ p. let e = p.1 in absurd cc)
has_some (Some a) = inl (a, refl)

pub has_name : (engine : LoopOptions) (program : List Routine) (x : CellName) → Decided (HasName engine program x)
has_name engine program x = has_some (mark_of engine bare (reverse program) x)

module _ (same : CellName → CellName → Bool) (is : IsSame same) where
  names : (x y : CellName) → Decided (x ≡ y)
  names x y = by_test (same x y) (is.same_true x y, λ e. subst (λ z. same x z ≡ true) e (is.same_refl x))

  lists : (xs ys : List CellName) → Decided (xs ≡ ys)
  lists [] [] = inl refl
  lists [] (y ∷ ys) = inr (λ e. absurd cc)
  lists (x ∷ xs) [] = inr (λ e. absurd cc)
  lists (x ∷ xs) (y ∷ ys) = mapped (λ e. ap (λ z. z ∷ xs) e.0 ∙ ap (λ zs. y ∷ zs) e.1) (λ e. (cc, cc)) (both (names x y) (lists xs ys))

  -- Two rows that are there, with the same operation, and the same lists.
  pub record AreSame (o q : Option Row) (xs ys : List CellName) : Type 0 where
    pub row : Row
    pub other : Row
    pub had : o ≡ Some row
    pub has : q ≡ Some other
    pub operation : op_of row ≡ op_of other
    pub inputs : xs ≡ ys

  pub are_same : (o q : Option Row) (xs ys : List CellName) → Decided (AreSame o q xs ys)
  are_same None q xs ys = inr (λ s. let e = s.had in absurd cc)
  are_same (Some r) None xs ys = inr (λ s. let e = s.has in absurd cc)
  are_same (Some r) (Some t) xs ys =
      mapped (λ e. record { row = r; other = t; had = refl; has = refl; operation = e.0; inputs = e.1 })
      (λ s. let i : r ≡ s.row = cc in let j : t ≡ s.other = cc in (ap op_of i ∙ s.operation ∙ sym (ap op_of j), s.inputs))
      (both (ops (op_of r) (op_of t)) (lists xs ys))

  module _ {S : Type 0} (dom : Operations S) (e : Edit) where
    pub keeps_row : (x : CellName) → Decided (KeepsRow dom e same x)
    keeps_row x =
        mapped (λ s. record { row = s.row; other = s.other; had = s.had; has = s.has; operation = s.operation; inputs = s.inputs })
        (λ s. record { row = s.row; other = s.other; had = s.had; has = s.has; operation = s.operation; inputs = s.inputs })
        (are_same (flat_row e.engine (reverse e.old) x.path x.point) (flat_row e.engine (reverse e.new) x.path x.point) (inputs_of (old_rows dom e same) x) (new_inputs dom e same x))

    pub untouched : (x : CellName) → Decided (HasName e.engine e.new x × KeepsRow dom e same x)
    untouched x = both (has_name e.engine e.new x) (keeps_row x)
