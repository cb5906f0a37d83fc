-- A checked program is one whose names find their marks.
use Rattle.std.proofs.Common.{ℕ, List, [], ◌∷◌, ◌++◌}
use Rattle.imp_slots.specs.Plain.{Code, Stop, Simple, If, While, Call, Break, code_numbers}
use Rattle.imp_slots.specs.Fits.{Absent, Distinct}
use Rattle.cell_rows.specs.Names.{own, break_numbers, Nested}

-- the first list is the second one with some left out
pub data Part : List ℕ → List ℕ → Type 0 where
  empty : Part [] []
  keep : (n : ℕ) {xs ys : List ℕ} → Part xs ys → Part (n ∷ xs) (n ∷ ys)
  skip : (n : ℕ) {xs ys : List ℕ} → Part xs ys → Part xs (n ∷ ys)

absent_part : (n : ℕ) {xs ys : List ℕ} → Part xs ys → Absent n ys → Absent n xs
absent_part n empty a = tt
absent_part n (keep k p) a = (a.0, absent_part n p a.1)
absent_part n (skip k p) a = absent_part n p a.1

pub distinct_part : {xs ys : List ℕ} → Part xs ys → Distinct ys → Distinct xs
distinct_part empty d = tt
distinct_part (keep k p) d = (absent_part k p d.0, distinct_part p d.1)
distinct_part (skip k p) d = distinct_part p d.1

part_both : {xs ys us vs : List ℕ} → Part xs ys → Part us vs → Part (xs ++ us) (ys ++ vs)
part_both empty q = q
part_both (keep k p) q = keep k (part_both p q)
part_both (skip k p) q = skip k (part_both p q)

part_right : (zs : List ℕ) {xs ys : List ℕ} → Part xs ys → Part xs (zs ++ ys)
part_right [] p = p
part_right (z ∷ zs) p = skip z (part_right zs p)

part_self : (xs : List ℕ) → Part xs xs
part_self [] = empty
part_self (x ∷ xs) = keep x (part_self xs)

part_none : (xs : List ℕ) → Part [] xs
part_none [] = empty
part_none (x ∷ xs) = skip x (part_none xs)

part_left : (xs zs : List ℕ) → Part xs (xs ++ zs)
part_left [] zs = part_none zs
part_left (x ∷ xs) zs = keep x (part_left xs zs)

pub break_part : (c : Code) → Part (break_numbers c) (own c)
break_part Stop = empty
break_part (Simple n effect r) = skip n (break_part r)
break_part (If n guard t e r) = skip n (part_both (break_part t) (part_both (break_part e) (break_part r)))
break_part (While n guard b r) = skip n (break_part r)
break_part (Call n call q r) = skip n (break_part r)
break_part (Break n r) = keep n (break_part r)

pub own_part : (c : Code) → Part (own c) (code_numbers c)
own_part Stop = empty
own_part (Simple n effect r) = keep n (own_part r)
own_part (If n guard t e r) = keep n (part_both (own_part t) (part_both (own_part e) (own_part r)))
own_part (While n guard b r) = keep n (part_right (code_numbers b) (own_part r))
own_part (Call n call q r) = keep n (own_part r)
own_part (Break n r) = keep n (own_part r)

pub once_nested : (c : Code) → Distinct (code_numbers c) → Nested c
once_nested Stop d = tt
once_nested (Simple n effect r) d = once_nested r d.1
once_nested (If n guard t e r) d = (
  once_nested t (distinct_part (part_left (code_numbers t) (code_numbers e ++ code_numbers r)) d.1),
  once_nested e (distinct_part (part_right (code_numbers t) (part_left (code_numbers e) (code_numbers r))) d.1),
  once_nested r (distinct_part (part_right (code_numbers t) (part_right (code_numbers e) (part_self (code_numbers r)))) d.1),
)
once_nested (While n guard b r) d =
    let k : Distinct (code_numbers b) = distinct_part (part_left (code_numbers b) (code_numbers r)) d.1 in
    (distinct_part (own_part b) k, once_nested b k, once_nested r (distinct_part (part_right (code_numbers b) (part_self (code_numbers r))) d.1))
once_nested (Call n call q r) d = once_nested r d.1
once_nested (Break n r) d = once_nested r d.1
