-- The test of two operations decides whether they are the same.
use Rattle.std.proofs.Common.{◌≡◌, ◌&&◌, refl, ap, ◌∙◌}
use Rattle.std.specs.Bool.{Decides}
use Rattle.std.specs.Cmp.Lexicographic.{pointwise, pointwise_decides}
use Rattle.std.specs.Ordering.{int_eq}
use Rattle.std.proofs.lemmas.Bool.Decides.{Decides-int_eq, Decides-and, Decides-like}
use Rattle.base_values.specs.Equal.{code_same, same, same_Decides}
use Rattle.imp_slots.specs.Codes.{guard_code}
use Rattle.imp_slots.specs.PartCodes.{act_code, layout_code, entering_code, returning_to}
use Rattle.cell_rows.specs.Rows.{Unary, Posts, Assumes, Enters, Exits, Binary, JoinsBoth, Leaves, Widens, Op, OpInit, OpOne, OpTwo, OpFix, OpJoin}
use Rattle.domain_laws.specs.Claims.{same_truth}
use Rattle.cell_kept_set.proofs.Decided.{returning_code, truth_decides, never}
use Rattle.cell_kept_set.specs.SameOperation.{same_unary, same_binary, same_operation}

unary_is : (u v : Unary) → Decides (same_unary u v) (u ≡ v)
unary_is (Posts a) (Posts b) = Decides-like (same act_code a b) (λ e. ap Posts e) (λ e. cc) (same_Decides act_code a b)
unary_is (Assumes g h) (Assumes k i) =
    Decides-like (same guard_code g k && same_truth h i) (λ e. ap (λ g. Assumes g h) e.0 ∙ ap (Assumes k) e.1) (λ e. (cc, cc)) (Decides-and (same guard_code g k) (same_truth h i) (same_Decides guard_code g k) (truth_decides h i))
unary_is (Enters a) (Enters b) = Decides-like (same entering_code a b) (λ e. ap Enters e) (λ e. cc) (same_Decides entering_code a b)
unary_is (Exits g) (Exits k) = Decides-like (same guard_code g k) (λ e. ap Exits e) (λ e. cc) (same_Decides guard_code g k)
unary_is u v = never (λ e. absurd cc)

binary_is : (u v : Binary) → Decides (same_binary u v) (u ≡ v)
binary_is JoinsBoth JoinsBoth = (λ e. refl, λ e. refl)
binary_is (Leaves a) (Leaves b) = Decides-like (code_same (returning_to a) (returning_to b)) (λ e. ap Leaves e) (λ e. cc) (same_Decides returning_code a b)
binary_is (Widens m) (Widens k) = Decides-like (pointwise int_eq m k) (λ e. ap Widens e) (λ e. cc) (pointwise_decides Decides-int_eq m k)
binary_is u v = never (λ e. absurd cc)

pub operation_is : (o q : Op) → Decides (same_operation o q) (o ≡ q)
operation_is (OpInit a) (OpInit b) = Decides-like (same layout_code a b) (λ e. ap OpInit e) (λ e. cc) (same_Decides layout_code a b)
operation_is (OpOne a) (OpOne b) = Decides-like (same_unary a b) (λ e. ap OpOne e) (λ e. cc) (unary_is a b)
operation_is (OpTwo a) (OpTwo b) = Decides-like (same_binary a b) (λ e. ap OpTwo e) (λ e. cc) (binary_is a b)
operation_is OpFix OpFix = (λ e. refl, λ e. refl)
operation_is OpJoin OpJoin = (λ e. refl, λ e. refl)
operation_is o q = never (λ e. absurd cc)
