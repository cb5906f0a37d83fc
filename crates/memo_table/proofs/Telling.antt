-- Keys and operations that compare equal are equal.
use Rattle.std.proofs.Common.{Bool, [], ◌∷◌, Some, None, nat_eq, ap, ap₂, ◌∙◌, sym, arith, refl}
use Rattle.std.proofs.lemmas.Bool.Decides.{nat_tests}
use Rattle.std.proofs.lemmas.Bool.{and_parts}
use Rattle.std.specs.Option.{option_eq}
use Rattle.std.specs.Cmp.{signed_Decides}
use Rattle.std.specs.Ordering.{int_eq}
use Rattle.std.specs.Cmp.Lexicographic.{pointwise}
use Rattle.base_values.specs.Claims.{IsDecided}
use Rattle.base_values.specs.Equal.{same_Decides}
use Rattle.state_table.specs.Numbers.{TellsApart}
use Rattle.imp_slots.specs.Codes.{guard_code}
use Rattle.imp_slots.specs.PartCodes.{layout_code, entering_code}
use Rattle.imp_slots.specs.EnumCodes.{stmt_coded}
use Rattle.imp_slots.specs.declared.calls.Returning.TheVariants.{Numeric, Link}
use Rattle.imp_slots.specs.contracts.calls.ReturningPartialEq.TheImpl as returning_impl
use Rattle.memo_table.specs.declared.operation.Operation.TheVariants.{Init, Post, Assume, Enter, Join, Leave, Widen}
use Rattle.memo_table.specs.contracts.memo.KeyPartialEq.TheImpl as key_impl
use Rattle.memo_table.specs.contracts.memo.KeyEq.TheImpl.Laws as key_laws
use Rattle.memo_table.specs.contracts.operation.OperationPartialEq.TheImpl as operation_impl
use Rattle.memo_table.specs.contracts.operation.OperationEq.TheImpl.Laws as operation_laws

option_tells : {A : Type 0} (eq : A → A → Bool) → TellsApart eq → TellsApart (option_eq eq)
option_tells eq tells None None h = refl
option_tells eq tells None (Some y) h = absurd (cc)
option_tells eq tells (Some x) None h = absurd (cc)
option_tells eq tells (Some x) (Some y) h = ap Some (tells x y h)

nat_tells : TellsApart nat_eq
nat_tells x y h = grind (arith, nat_tests)

list_tells : TellsApart (pointwise int_eq)
list_tells [] [] h = refl
list_tells [] (y ∷ ys) h = absurd (cc)
list_tells (x ∷ xs) [] h = absurd (cc)
list_tells (x ∷ xs) (y ∷ ys) h =
    let p = and_parts _ _ h in
    ap₂ (λ a b. a ∷ b) ((signed_Decides x y).0 p.0) (list_tells xs ys p.1)

returning_tells : TellsApart returning_impl.ghosts.eq
returning_tells (Numeric a b) (Numeric c d) h = let p = and_parts _ _ h in ap₂ Numeric (nat_tells a c p.0) (nat_tells b d p.1)
returning_tells (Link a b) (Link c d) h = let p = and_parts _ _ h in ap₂ Link (nat_tells a c p.0) (nat_tells b d p.1)
returning_tells _ _ h = cc

pub key_tells : TellsApart key_impl.ghosts.eq
key_tells x y h =
    let p = and_parts _ _ h in
    let q = and_parts _ _ p.1 in
    let o = nat_tells x.operation y.operation p.0 in
    let l = option_tells nat_eq nat_tells x.left y.left q.0 in
    let r = option_tells nat_eq nat_tells x.right y.right q.1 in
    λ i. record { operation = o i; left = l i; right = r i }

pub operation_tells : TellsApart operation_impl.ghosts.eq
operation_tells (Init a) (Init b) h = ap Init ((same_Decides layout_code a b).0 h)
operation_tells (Post a) (Post b) h = ap Post ((same_Decides stmt_coded a b).0 h)
operation_tells (Assume a s) (Assume b t) h = let p = and_parts _ _ h in ap₂ Assume ((same_Decides guard_code a b).0 p.0) (grind (arith, nat_tests))
operation_tells (Enter a) (Enter b) h = ap Enter ((same_Decides entering_code a b).0 h)
operation_tells Join Join h = refl
operation_tells (Leave a) (Leave b) h = ap Leave (option_tells returning_impl.ghosts.eq returning_tells a b h)
operation_tells (Widen a) (Widen b) h = ap Widen (list_tells a b h)
operation_tells _ _ h = cc

pub key_decides : IsDecided key_impl.ghosts.eq
key_decides x y = (key_tells x y, λ e. ap (key_impl.ghosts.eq x) (sym e) ∙ key_laws.laws-law.refl x)

pub operation_decides : IsDecided operation_impl.ghosts.eq
operation_decides x y = (operation_tells x y, λ e. ap (operation_impl.ghosts.eq x) (sym e) ∙ operation_laws.laws-law.refl x)
