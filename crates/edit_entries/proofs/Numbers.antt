-- The numbers of a program in which statements are exchanged.
use Rattle.std.proofs.lemmas.Bool.Decides.{nat_tests}
use Rattle.std.proofs.Common.{◌≡◌, ℕ, ◌==◌, ◌||◌, inl, inr, Bool, true, false, List, [], ◌∷◌, ◌++◌, refl, sym, ap, ◌∙◌, subst, arith, append_assoc}
use Rattle.imp_syntax.specs.Plain.{Statements, Ends, Starts, If, While, Procedure, numbers_in, numbers, program_numbers}
use Rattle.imp_slots.specs.Fits.{Absent, Distinct}
use Rattle.imp_check.specs.Programs.{has}
use Rattle.edit_entries.specs.Holes.{append, Hole, Then, Else, Body, fill, plug, between, with_body}
use Rattle.edit_entries.proofs.Located.{Has}
use Rattle.imp_slots.proofs.Distinct.{absent_left, absent_right}

pub numbers_append : (xs ys : Statements) → numbers (append xs ys) ≡ numbers xs ++ numbers ys
numbers_append Ends ys = refl
numbers_append (Starts s xs) ys = ap (λ ns. numbers_in s ++ ns) (numbers_append xs ys) ∙ sym (append_assoc (numbers_in s) (numbers xs) (numbers ys))

-- The numbers around a part that can be exchanged.
pub record Around (of : Statements → List ℕ) : Type 0 where
  pub left : List ℕ
  pub right : List ℕ
  pub is : (x : Statements) → of x ≡ left ++ (numbers x ++ right)

-- more numbers around
wider : (of : Statements → List ℕ) → Around of → (l r : List ℕ) → Around (λ x. l ++ (of x ++ r))
wider of a l r = record {
  left = l ++ a.left;
  right = a.right ++ r;
  is = λ x.
      ap (λ k. l ++ (k ++ r)) (a.is x)
      ∙ ap (λ k. l ++ k) (append_assoc a.left (numbers x ++ a.right) r ∙ ap (λ k. a.left ++ k) (append_assoc (numbers x) a.right r))
      ∙ sym (append_assoc l a.left (numbers x ++ (a.right ++ r)));
}

renamed : (of other : Statements → List ℕ) → ((x : Statements) → other x ≡ of x) → Around of → Around other
renamed of other e a = record { left = a.left; right = a.right; is = λ x. e x ∙ a.is x }

around_part : (before behind : Statements) → Around (λ x. numbers (between before behind x))
around_part before behind = record {
  left = numbers before;
  right = numbers behind;
  is = λ x. numbers_append before (append x behind) ∙ ap (λ k. numbers before ++ k) (numbers_append x behind);
}

-- the numbers of a filled hole
abbrev pub filled : (h : Hole) → (l : List ℕ) × (r : List ℕ) × ((x : Statements) → numbers (fill h x) ≡ l ++ (numbers x ++ r))
filled (Then b n c e r) = (
  numbers b ++ n ∷ [],
  numbers e ++ numbers r,
  λ x. numbers_append b (Starts (If n c x e) r) ∙ ap (λ k. numbers b ++ n ∷ k) (append_assoc (numbers x) (numbers e) (numbers r)) ∙ sym (append_assoc (numbers b) (n ∷ []) (numbers x ++ (numbers e ++ numbers r))),
)
filled (Else b n c t r) = (
  numbers b ++ n ∷ numbers t,
  numbers r,
  λ x. numbers_append b (Starts (If n c t x) r) ∙ ap (λ k. numbers b ++ n ∷ k) (append_assoc (numbers t) (numbers x) (numbers r)) ∙ sym (append_assoc (numbers b) (n ∷ numbers t) (numbers x ++ numbers r)),
)
filled (Body b n c r) = (
  numbers b ++ n ∷ [],
  numbers r,
  λ x. numbers_append b (Starts (While n c x) r) ∙ sym (append_assoc (numbers b) (n ∷ []) (numbers x ++ numbers r)),
)

around_plug : (hs : List Hole) (of : Statements → Statements) → Around (λ x. numbers (of x)) → Around (λ x. numbers (plug hs (of x)))
around_plug [] of a = a
around_plug (h ∷ hs) of a =
    let f = filled h in
    renamed (λ x. f.0 ++ (numbers (plug hs (of x)) ++ f.1)) (λ x. numbers (plug (h ∷ hs) (of x))) (λ x. f.2 (plug hs (of x))) (wider (λ x. numbers (plug hs (of x))) (around_plug hs of a) f.0 f.1)

around_program : (ps qs : List Procedure) (p : Procedure) (of : Statements → Statements) → Around (λ x. numbers (of x)) → Around (λ x. program_numbers (ps ++ with_body p (of x) ∷ qs))
around_program [] qs p of a = wider (λ x. numbers (of x)) a [] (program_numbers qs)
around_program (y ∷ ps) qs p of a =
    let rest = around_program ps qs p of a in
    record { left = numbers y.body ++ rest.left; right = rest.right; is = λ x. ap (λ k. numbers y.body ++ k) (rest.is x) ∙ sym (append_assoc (numbers y.body) rest.left (numbers x ++ rest.right)) }

pub around_edit : (ps qs : List Procedure) (p : Procedure) (hs : List Hole) (before behind : Statements) → Around (λ x. program_numbers (ps ++ with_body p (plug hs (between before behind x)) ∷ qs))
around_edit ps qs p hs before behind = around_program ps qs p (λ x. plug hs (between before behind x)) (around_plug hs (λ x. between before behind x) (around_part before behind))

pub absent_not : (m : ℕ) (xs : List ℕ) → Absent m xs → Has m xs → ⊥
absent_not m [] a h = h
absent_not m (x ∷ xs) a (inl e) = a.0 e
absent_not m (x ∷ xs) a (inr h) = absent_not m xs a.1 h

-- Tests of lists of numbers.
pub has_true : (m : ℕ) (xs : List ℕ) → has xs m ≡ true → Has m xs
has_true m [] h = cc
has_true m (x ∷ xs) h = go (m == x) refl h (has_true m xs)
  where
    go : (b : Bool) → (m == x) ≡ b → (b || has xs m) ≡ true → (has xs m ≡ true → Has m xs) → Has m (x ∷ xs)
    go true e h f = inl (grind (arith, nat_tests))
    go false e h f = inr (f h)

-- A number of the middle stands in no other part.
pub middle_alone : (l ms r : List ℕ) (m : ℕ) → Distinct (l ++ (ms ++ r)) → Has m ms → Absent m (l ++ r)
middle_alone [] ms r m d h = first ms d h
  where
    first : (ms : List ℕ) → Distinct (ms ++ r) → Has m ms → Absent m r
    first [] d h = absurd h
    first (x ∷ ms) d (inl e) = subst (λ n. Absent n r) (sym e) (absent_right x ms r d.0)
    first (x ∷ ms) d (inr h) = first ms d.1 h
middle_alone (x ∷ l) ms r m d h = (λ e. absent_not x ms (absent_left x ms r (absent_right x l (ms ++ r) d.0)) (subst (λ n. Has n ms) e h), middle_alone l ms r m d.1 h)

-- Numbers that all are away from others.
abbrev pub Apart : List ℕ → List ℕ → Type 0
Apart xs ys = (m : ℕ) → Has m xs → Absent m ys
