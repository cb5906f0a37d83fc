-- Whether two operations of rows are the same.
use Rattle.std.specs.Prelude.{Bool, true, false, ◌&&◌}
use Rattle.std.specs.Cmp.Lexicographic.{pointwise}
use Rattle.std.specs.Ordering.{int_eq}
use Rattle.base_values.specs.Equal.{code_same, same}
use Rattle.imp_slots.specs.Codes.{guard_code}
use Rattle.imp_slots.specs.PartCodes.{act_code, layout_code, entering_code, returning_to}
use Rattle.domain_laws.specs.Claims.{same_truth}
use Rattle.cell_rows.specs.Rows.{Unary, Posts, Assumes, Enters, Exits, Binary, JoinsBoth, Leaves, Widens, Op, OpInit, OpOne, OpTwo, OpFix, OpJoin}

abbrev pub same_unary : Unary → Unary → Bool
same_unary (Posts a) (Posts b) = same act_code a b
same_unary (Assumes g h) (Assumes k i) = same guard_code g k && same_truth h i
same_unary (Enters a) (Enters b) = same entering_code a b
same_unary (Exits g) (Exits k) = same guard_code g k
same_unary _ _ = false

abbrev pub same_binary : Binary → Binary → Bool
same_binary JoinsBoth JoinsBoth = true
same_binary (Leaves a) (Leaves b) = code_same (returning_to a) (returning_to b)
same_binary (Widens m) (Widens k) = pointwise int_eq m k
same_binary _ _ = false

abbrev pub same_operation : Op → Op → Bool
same_operation (OpInit a) (OpInit b) = same layout_code a b
same_operation (OpOne a) (OpOne b) = same_unary a b
same_operation (OpTwo a) (OpTwo b) = same_binary a b
same_operation OpFix OpFix = true
same_operation OpJoin OpJoin = true
same_operation _ _ = false
