-- Whether the union with a rising list adds graphs to a list.
use Rattle.std.proofs.Common.{◌≡◌, ℕ, ◌+◌, ◌≤◌, ◌<◌, ◌⊎◌, inl, inr, Bool, true, false, List, [], ◌∷◌, ◌++◌, length, take, drop, get_or, append_assoc, refl, sym, ◌∙◌, ap, arith}
use borrow.Author.Tests.{eq-eqb, eqb-true, eqb-false}
use Rattle.std.specs.Cmp.{tied_itself}
use Rattle.std.specs.Prelude.{◌==◌, ◌↔◌, IsTrue}
use Rattle.std.specs.declared.cmp.Ordering.TheVariants.{Less, Equal, Greater}
use Rattle.std.proofs.lemmas.List.{append_cancel_left, drop_all, length-append, length-drop, take-append-drop, take_all, take_more}
use Rattle.shape_graph.specs.Shape.{Shape}
use Rattle.shape_graph.specs.Order.{shape_cmp, shape_total}
use Rattle.dom_listseg_meaning.specs.Sets.{union, rises}
use Rattle.dom_listseg_sets.proofs.Merged.{left_union, both_union, right_union, drop_rises, none_left}
use Rattle.base_values.proofs.Lists.{drop_item}

-- none is added before these places
abbrev pub IsKept : (gs hs : List Shape) (p q : ℕ) → Type 0
IsKept gs hs p q = union gs hs ≡ take p gs ++ union (drop p gs) (drop q hs)

-- one graph more of the left list
kept-more : (gs more : List Shape) (p : ℕ) (g : Shape) → p < length gs → g ≡ get_or gs p g → take p gs ++ g ∷ more ≡ take (p + 1) gs ++ more
kept-more gs more p g a x =
    (λ k. take p gs ++ x k ∷ more) ∙ sym (append_assoc (take p gs) (get_or gs p g ∷ []) more) ∙ ap (λ v. v ++ more) (sym (take_more gs p g a))

module _ (gs hs : List Shape) (p q : ℕ) (g h : Shape) (a : p < length gs) (b : q < length hs) (x : g ≡ get_or gs p g) (y : h ≡ get_or hs q h) (r : rises hs ≡ true)
    (kept : IsKept gs hs p q) where
  pub left_kept : shape_cmp g h ≡ Less → IsKept gs hs (p + 1) q
  left_kept e =
      kept ∙ ap (λ v. take p gs ++ v) (left_union gs hs p q g h a b x y r e) ∙ kept-more gs (union (drop (p + 1) gs) (drop q hs)) p g a x

  pub both_kept : shape_cmp g h ≡ Equal → IsKept gs hs (p + 1) (q + 1)
  both_kept e =
      kept ∙ ap (λ v. take p gs ++ v) (both_union gs hs p q g h a b x y r e) ∙ kept-more gs (union (drop (p + 1) gs) (drop (q + 1) hs)) p g a x

  pub one_missing : shape_cmp g h ≡ Greater → union gs hs ≡ gs → ⊥
  one_missing e same =
      let rest : union (drop p gs) (drop q hs) ≡ drop p gs = append_cancel_left (take p gs) (union (drop p gs) (drop q hs)) (drop p gs) (sym kept ∙ same ∙ sym (take-append-drop p gs)) in
      let first : h ∷ union (drop p gs) (drop (q + 1) hs) ≡ g ∷ drop (p + 1) gs = sym (right_union gs hs p q g h a b x y r e) ∙ rest ∙ drop_item gs p g a x in
      let one : h ≡ g = cc in
      let tie : shape_cmp g h ≡ Equal = ap (shape_cmp g) one ∙ tied_itself shape_total g in
      cc

-- all of the right list were seen
all-there : (gs hs : List Shape) (p q : ℕ) → IsKept gs hs p q → length hs ≤ q → union gs hs ≡ gs
all-there gs hs p q kept end = kept ∙ ap (λ v. take p gs ++ union (drop p gs) v) (drop_all q hs end) ∙ take-append-drop p gs

-- the left list ends before the right one
some-left : (gs hs : List Shape) (p q : ℕ) → IsKept gs hs p q → rises hs ≡ true → length gs ≤ p → q < length hs → union gs hs ≡ gs → ⊥
some-left gs hs p q kept r end more same =
    let rest : union (drop p gs) (drop q hs) ≡ drop q hs = ap (λ v. union v (drop q hs)) (drop_all p gs end) ∙ none_left (drop q hs) (drop_rises q hs r) in
    let all : gs ≡ gs ++ drop q hs = sym same ∙ kept ∙ (λ k. take_all p gs end k ++ rest k) in
    omega (arith, ap length all, length-append gs (drop q hs), length-drop q hs)

-- so whether all of the right list were seen tells whether any are added
pub told_at_end : (gs hs : List Shape) (p q : ℕ) → IsKept gs hs p q → rises hs ≡ true → q ≤ length hs → (length gs ≤ p) ⊎ (length hs ≤ q) → IsTrue (q == length hs) ↔ (union gs hs ≡ gs)
told_at_end gs hs p q kept r within (inr end) =
    let e : q ≡ length hs = omega arith in
    (λ seen. all-there gs hs p q kept end, λ same. eq-eqb q (length hs) e)
told_at_end gs hs p q kept r within (inl end) =
    (λ seen. let e : q ≡ length hs = eqb-true q (length hs) seen in all-there gs hs p q kept (omega arith), λ same. seen-all (q == length hs) refl same)
  where
    seen-all : (b : Bool) → (q == length hs) ≡ b → union gs hs ≡ gs → b ≡ true
    seen-all true e same = refl
    seen-all false e same = let other = eqb-false q (length hs) e in absurd (some-left gs hs p q kept r end (omega (arith, other)) same)
