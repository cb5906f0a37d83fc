-- Parts of a row that compare equal to those of an operation: the operation is the row's.
use Rattle.std.proofs.Common.{◌≡◌, ℤ, Bool, true, List, sym, ap}
use Rattle.std.specs.Ordering.{int_eq}
use Rattle.std.specs.Cmp.Lexicographic.{pointwise}
use Rattle.base_values.specs.Equal.{same, same_equal}
use Rattle.imp_slots.specs.Plain.{Layout, Guard, Entering}
use Rattle.imp_slots.specs.Codes.{guard_code}
use Rattle.imp_slots.specs.PartCodes.{layout_code, entering_code}
use Rattle.imp_slots.specs.EnumCodes.{stmt_coded}
use Rattle.imp_slots.specs.declared.actions.SlotStmt.{SlotStmt}
use Rattle.memo_table.specs.declared.operation.Operation.TheVariants as owned
use Rattle.memo_table.proofs.Telling.{operation_tells}

pub init_found : (a b : Layout) → same layout_code a b ≡ true → owned.Init b ≡ owned.Init a
init_found a b h = ap owned.Init (sym (same_equal layout_code a b h))

pub post_found : (s t : SlotStmt) → same stmt_coded s t ≡ true → owned.Post t ≡ owned.Post s
post_found s t h = ap owned.Post (sym (same_equal stmt_coded s t h))

pub assume_found : (c d : Guard) (sense : Bool) → same guard_code c d ≡ true → owned.Assume d sense ≡ owned.Assume c sense
assume_found c d sense h = ap (λ g. owned.Assume g sense) (sym (same_equal guard_code c d h))

pub enter_found : (a b : Entering) → same entering_code a b ≡ true → owned.Enter b ≡ owned.Enter a
enter_found a b h = ap owned.Enter (sym (same_equal entering_code a b h))

pub widen_found : (a b : List ℤ) → pointwise int_eq a b ≡ true → owned.Widen b ≡ owned.Widen a
widen_found a b h = sym (operation_tells (owned.Widen a) (owned.Widen b) h)
