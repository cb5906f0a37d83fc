-- Equality of values that have a code, as a test on the codes. One set of lemmas serves each such type.
--     code_same      the test on codes
--     same c, same_Decides c, same_equiv c, same_per c, same_fed c      at a type with the code c
--     list_to, list_same      the code of a list, where its items have one
--     text_to, text_from, text_same      the code of a text
use Rattle.std.specs.Prelude.{ℕ, Bool, true, false, ◌&&◌, ◌==◌, ◌≡◌, refl, List, [], ◌∷◌}
use Rattle.std.specs.Bool.{Decides}
use Rattle.std.specs.Cmp.{IsEquivalence, IsPartialEquivalence, partial_equiv_from_equiv, decided}
use Rattle.std.specs.Cmp.Lexicographic.{pointwise}
use Rattle.std.specs.Str.{bytes_eq}
use Rattle.std.proofs.Common.{ap, sym, ◌∙◌, eq-eqb}
use Rattle.std.proofs.lemmas.Bool.{and_parts, and_from, false≢true}
use base.Stored.{Coded, Gv, gnil, gnum, gcons}
use borrow.Author.Tests.{eqb-true}

-- whether two codes are the same
abbrev pub code_same : Gv → Gv → Bool
code_same gnil gnil = true
code_same gnil (gnum n) = false
code_same gnil (gcons a b) = false
code_same (gnum m) gnil = false
code_same (gnum m) (gnum n) = m == n
code_same (gnum m) (gcons a b) = false
code_same (gcons a b) gnil = false
code_same (gcons a b) (gnum n) = false
code_same (gcons a b) (gcons c d) = code_same a c && code_same b d

code_equal : (a b : Gv) → code_same a b ≡ true → a ≡ b
code_equal gnil gnil h = refl
code_equal gnil (gnum n) h = absurd (false≢true h)
code_equal gnil (gcons a b) h = absurd (false≢true h)
code_equal (gnum m) gnil h = absurd (false≢true h)
code_equal (gnum m) (gnum n) h = ap gnum (eqb-true m n h)
code_equal (gnum m) (gcons a b) h = absurd (false≢true h)
code_equal (gcons a b) gnil h = absurd (false≢true h)
code_equal (gcons a b) (gnum n) h = absurd (false≢true h)
code_equal (gcons a b) (gcons c d) h = let p = and_parts (code_same a c) (code_same b d) h in λ i. gcons (code_equal a c p.0 i) (code_equal b d p.1 i)

code_self : (a : Gv) → code_same a a ≡ true
code_self gnil = refl
code_self (gnum m) = eq-eqb m m refl
code_self (gcons a b) = and_from (code_same a a) (code_same b b) (code_self a) (code_self b)

module _ {A : Type 0} (c : Coded A) where
  -- whether two values are the same, by their codes
  abbrev pub same : A → A → Bool
  same x y = code_same (c.code x) (c.code y)

  pub same_equal : (x y : A) → same x y ≡ true → x ≡ y
  same_equal x y h = c.inj x y (code_equal (c.code x) (c.code y) h)

  pub same_Decides : (x y : A) → Decides (same x y) (x ≡ y)
  same_Decides x y = (same_equal x y, λ e. ap (λ z. same x z) (sym e) ∙ code_self (c.code x))

  pub same_equiv : IsEquivalence same
  same_equiv = decided same same_Decides

  pub same_per : IsPartialEquivalence same
  same_per = partial_equiv_from_equiv same_equiv

  -- the law of a hash: whatever is fed of a value, the same values feed the same
  pub same_fed : (fed : A → List (List ℕ)) (x y : A) → same x y ≡ true → fed x ≡ fed y
  same_fed fed x y h = ap fed (same_equal x y h)

-- the code of a list, where code gives that of an item
abbrev pub list_to : {A : Type 0} → (A → Gv) → List A → Gv
list_to code [] = gnil
list_to code (x ∷ xs) = gcons (code x) (list_to code xs)

-- lists are found equal item by item exactly where their codes are
pub list_same : {A : Type 0} (code : A → Gv) (xs ys : List A) → pointwise (λ x y. code_same (code x) (code y)) xs ys ≡ code_same (list_to code xs) (list_to code ys)
list_same code [] [] = refl
list_same code [] (y ∷ ys) = refl
list_same code (x ∷ xs) [] = refl
list_same code (x ∷ xs) (y ∷ ys) = ap (λ b. code_same (code x) (code y) && b) (list_same code xs ys)

-- the code of a text, and the text of a code
abbrev pub text_to : List ℕ → Gv
text_to [] = gnil
text_to (x ∷ xs) = gcons (gnum x) (text_to xs)

abbrev pub text_from : Gv → List ℕ
text_from (gcons (gnum x) xs) = x ∷ text_from xs
text_from _ = []

pub text_from_to : (xs : List ℕ) → text_from (text_to xs) ≡ xs
text_from_to [] = refl
text_from_to (x ∷ xs) = λ i. x ∷ text_from_to xs i

-- texts are found equal exactly where their codes are
pub text_same : (xs ys : List ℕ) → bytes_eq xs ys ≡ code_same (text_to xs) (text_to ys)
text_same [] [] = refl
text_same [] (y ∷ ys) = refl
text_same (x ∷ xs) [] = refl
text_same (x ∷ xs) (y ∷ ys) = ap (λ b. (x == y) && b) (text_same xs ys)
