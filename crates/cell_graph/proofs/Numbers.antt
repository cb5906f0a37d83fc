-- Numbers of names.
use Rattle.std.proofs.Common.{◌≡◌, ℕ, zero, suc, ◌<◌, ◌⊎◌, List, [], ◌∷◌, ◌++◌, length, Option, Some, None, Bool, true, false, if◌then◌else◌, option_map, slice_get, refl, sym, ap, subst, ◌∙◌, inl, inr, arith}
use Rattle.std.proofs.lemmas.Bool.{or_left, or_right, or_cases}
use Rattle.std.proofs.lemmas.Option.{slice_get_within, same_Some}
use Rattle.std.specs.Option.{option_and_then}
use Rattle.std.specs.Ordering.{nat_cmp}
use Rattle.std.specs.FinMap.{FinMap, get}
use Rattle.base_values.proofs.Lists.{get_last, get_other, get_pushed}
use Rattle.cell_names.specs.Known.{KeepsNumbers, IsOnce, Adds}
use Rattle.cell_names.specs.Paths.{CellName}
use Rattle.daig_order.specs.Order.{member}
use Rattle.daig_graph.specs.Cells.{Filled}
use Rattle.cell_graph.specs.Same.{same_name}
use Rattle.cell_graph.specs.Named.{number_of, filled_at, AreNumbers}
use Rattle.cell_graph.proofs.Same.{same_is}

-- the number of a name leads back to it
pub number_there : (names : List CellName) (x : CellName) (n : ℕ) → number_of names x ≡ Some n → slice_get names n ≡ Some x
unfolding number_of
number_there [] x n e = absurd cc
number_there (y ∷ ys) x n e = go (number_there ys x) (same_name x y) refl e
  where
    Rest : Type 0
    Rest = (m : ℕ) → number_of ys x ≡ Some m → slice_get ys m ≡ Some x

    more : Rest → (o : Option ℕ) → number_of ys x ≡ o → option_map suc o ≡ Some n → slice_get (y ∷ ys) n ≡ Some x
    more rest None h k = absurd cc
    more rest (Some m) h k =
        let q : suc m ≡ n = cc in
        subst (λ i. slice_get (y ∷ ys) i ≡ Some x) q (rest m h)

    go : Rest → (b : Bool) → same_name x y ≡ b → (if b then Some 0 else option_map suc (number_of ys x)) ≡ Some n → slice_get (y ∷ ys) n ≡ Some x
    go rest true h k =
        let q : 0 ≡ n = cc in
        subst (λ i. slice_get (y ∷ ys) i ≡ Some x) q (ap Some (sym (same_is.same_true x y h)))
    go rest false h k = more rest (number_of ys x) refl k

-- a name that stands somewhere has a number
pub number_found : (names : List CellName) (x : CellName) (n : ℕ) → slice_get names n ≡ Some x → (m : ℕ) × (number_of names x ≡ Some m)
unfolding number_of
number_found [] x n e = absurd cc
number_found (y ∷ ys) x zero e =
    let h : same_name x y ≡ true = subst (λ z. same_name x z ≡ true) (sym (same_Some y x e)) (same_is.same_refl x) in
    (0, ap (λ b. if b then Some 0 else option_map suc (number_of ys x)) h)
number_found (y ∷ ys) x (suc n) e = go (number_found ys x n e) (same_name x y) refl
  where
    go : (m : ℕ) × (number_of ys x ≡ Some m) → (b : Bool) → same_name x y ≡ b → (m : ℕ) × ((if b then Some 0 else option_map suc (number_of ys x)) ≡ Some m)
    go p true h = (0, refl)
    go p false h = (suc p.0, ap (option_map suc) p.1)

pub number_is : (names : List CellName) → IsOnce names → (x : CellName) (n : ℕ) → slice_get names n ≡ Some x → number_of names x ≡ Some n
number_is names once x n e =
    let p = number_found names x n e in
    p.1 ∙ ap Some (once p.0 n x (number_there names x p.0 p.1) e)

-- the cell of a name is that of its number
pub filled_number : {V : Type 0} (cells : FinMap nat_cmp (Filled V)) (names : List CellName) → IsOnce names → (x : CellName) (n : ℕ) → slice_get names n ≡ Some x → filled_at cells names x ≡ get cells n
filled_number cells names once x n e = ap (option_and_then (get cells)) (number_is names once x n e)

pub filled_named : {V : Type 0} (cells : FinMap nat_cmp (Filled V)) (names : List CellName) (x : CellName) (f : Filled V) → filled_at cells names x ≡ Some f → (n : ℕ) × (slice_get names n ≡ Some x) × (get cells n ≡ Some f)
filled_named cells names x f e = go (number_of names x) refl e
  where
    go : (o : Option ℕ) → number_of names x ≡ o → option_and_then (get cells) o ≡ Some f → (n : ℕ) × (slice_get names n ≡ Some x) × (get cells n ≡ Some f)
    go None h k = absurd cc
    go (Some n) h k = (n, number_there names x n h, k)

-- what is added has its number, and the others keep theirs
pub adds_here : {A : Type 0} (old new : List A) (x : A) (n : ℕ) → Adds old new x n → slice_get new n ≡ Some x
adds_here old new x n (inl h) = subst (λ xs. slice_get xs n ≡ Some x) (sym h.1) h.0
adds_here old new x n (inr h) = rw (h.2, h.1) (get_last old x)

pub adds_keeps : {A : Type 0} (old new : List A) (x : A) (n : ℕ) → Adds old new x n → KeepsNumbers old new
adds_keeps old new x n (inl h) = λ m y e. subst (λ xs. slice_get xs m ≡ Some y) (sym h.1) e
adds_keeps old new x n (inr h) = λ m y e.
    let w : m < length old = slice_get_within old m y e in
    rw h.2 (get_other old x m (λ q. absurd (omega arith)) ∙ e)

pub adds_once : {A : Type 0} (old new : List A) (x : A) (n : ℕ) → Adds old new x n → IsOnce old → IsOnce new
adds_once {A} old new x n (inl h) once = subst IsOnce (sym h.1) once
adds_once {A} old new x n (inr h) once = subst IsOnce (sym h.2) more
  where
    more : IsOnce (old ++ x ∷ [])
    more i j y e k = go (get_pushed old x i y e) (get_pushed old x j y k)
      where
        go : (slice_get old i ≡ Some y) ⊎ ((i ≡ length old) × (x ≡ y)) → (slice_get old j ≡ Some y) ⊎ ((j ≡ length old) × (x ≡ y)) → i ≡ j
        go (inl p) (inl q) = once i j y p q
        go (inl p) (inr q) = absurd (h.0 i (p ∙ ap Some (sym q.1)))
        go (inr p) (inl q) = absurd (h.0 j (q ∙ ap Some (sym p.1)))
        go (inr p) (inr q) = p.0 ∙ sym q.0

-- numbers of names, one by one
pub numbers_get : (names : List CellName) (ns : List ℕ) (xs : List CellName) → AreNumbers names ns xs → (i n : ℕ) → slice_get ns i ≡ Some n → (x : CellName) × (slice_get xs i ≡ Some x) × (slice_get names n ≡ Some x)
numbers_get names [] xs e i n h = absurd cc
numbers_get names (m ∷ ns) [] e i n h = absurd cc
numbers_get names (m ∷ ns) (x ∷ xs) e zero n h =
    let a : slice_get names m ≡ Some x = cc in
    let b : m ≡ n = cc in
    (x, refl, subst (λ k. slice_get names k ≡ Some x) b a)
numbers_get names (m ∷ ns) (x ∷ xs) e (suc i) n h =
    let rest : AreNumbers names ns xs = cc in
    numbers_get names ns xs rest i n h

pub numbers_of : (names : List CellName) (ns : List ℕ) (xs : List CellName) → AreNumbers names ns xs → (i : ℕ) (x : CellName) → slice_get xs i ≡ Some x → (n : ℕ) × (slice_get ns i ≡ Some n) × (slice_get names n ≡ Some x)
numbers_of names ns [] e i x h = absurd cc
numbers_of names [] (y ∷ xs) e i x h = absurd cc
numbers_of names (m ∷ ns) (y ∷ xs) e zero x h =
    let a : slice_get names m ≡ Some y = cc in
    (m, refl, a ∙ h)
numbers_of names (m ∷ ns) (y ∷ xs) e (suc i) x h =
    let rest : AreNumbers names ns xs = cc in
    numbers_of names ns xs rest i x h

pub numbers_grow : (old new : List CellName) → KeepsNumbers old new → (ns : List ℕ) (xs : List CellName) → AreNumbers old ns xs → AreNumbers new ns xs
numbers_grow old new keeps [] [] e = refl
numbers_grow old new keeps [] (x ∷ xs) e = absurd cc
numbers_grow old new keeps (n ∷ ns) [] e = absurd cc
numbers_grow old new keeps (n ∷ ns) (x ∷ xs) e =
    let a : slice_get old n ≡ Some x = cc in
    let rest : AreNumbers old ns xs = cc in
    let b : slice_get new n ≡ Some x = keeps n x a in
    let more : AreNumbers new ns xs = numbers_grow old new keeps ns xs rest in
    cc

pub numbers_length : (names : List CellName) (ns : List ℕ) (xs : List CellName) → AreNumbers names ns xs → length ns ≡ length xs
numbers_length names [] [] e = refl
numbers_length names [] (x ∷ xs) e = absurd cc
numbers_length names (n ∷ ns) [] e = absurd cc
numbers_length names (n ∷ ns) (x ∷ xs) e =
    let rest : AreNumbers names ns xs = cc in
    ap suc (numbers_length names ns xs rest)

pub numbers_push : (names : List CellName) (ns : List ℕ) (xs : List CellName) (n : ℕ) (x : CellName) → AreNumbers names ns xs → slice_get names n ≡ Some x → AreNumbers names (ns ++ n ∷ []) (xs ++ x ∷ [])
numbers_push names [] [] n x e h = ap (λ o. o ∷ []) h
numbers_push names [] (y ∷ ys) n x e h = absurd cc
numbers_push names (m ∷ ns) [] n x e h = absurd cc
numbers_push names (m ∷ ns) (y ∷ ys) n x e h =
    let a : slice_get names m ≡ Some y = cc in
    let rest : AreNumbers names ns ys = cc in
    let more : AreNumbers names (ns ++ n ∷ []) (ys ++ x ∷ []) = numbers_push names ns ys n x rest h in
    cc

-- members, by places
pub member_at : (xs : List CellName) (x : CellName) → member same_name xs x ≡ true → (i : ℕ) × (slice_get xs i ≡ Some x)
member_at [] x m = absurd cc
member_at (y ∷ xs) x m =
    elim (or_cases (same_name x y) (member same_name xs x) m) [
      | inl e ↦ (0, ap Some (sym (same_is.same_true x y e)))
      | inr k ↦ (let p = member_at xs x k in (suc p.0, p.1))
    ]

pub at_member : (xs : List CellName) (i : ℕ) (x : CellName) → slice_get xs i ≡ Some x → member same_name xs x ≡ true
at_member [] i x e = absurd cc
at_member (y ∷ xs) zero x e = or_left (same_name x y) (member same_name xs x) (subst (λ z. same_name x z ≡ true) (sym (same_Some y x e)) (same_is.same_refl x))
at_member (y ∷ xs) (suc i) x e = or_right (same_name x y) (member same_name xs x) (at_member xs i x e)
