-- Lists of stale cells, and which of them an edit marks.
use Rattle.std.proofs.Common.{◌≡◌, ℕ, zero, suc, ◌+◌, ◌<◌, ◌≤◌, ◌⊎◌, List, [], ◌∷◌, ◌++◌, map, get_or, set, Option, Some, None, slice_get, inl, inr, refl, sym, ap, subst, ◌∙◌, arith}
use Rattle.std.specs.Prelude.{IfSome}
use Rattle.std.proofs.lemmas.Bool.{cases_eq as same_number}
use Rattle.std.proofs.lemmas.Bool.Decides.{nat_tests}
use Rattle.std.proofs.lemmas.Option.{same_Some}
use Rattle.daig_graph.specs.Held.{IsIn}
use Rattle.daig_query.specs.declared.stale.Dated.{Dated}
use Rattle.daig_query.specs.declared.stale.StaleCell.{StaleCell}
use Rattle.daig_query.specs.Dates.{stale_by, AreDated}
use Rattle.daig_query.specs.Kept.{Cells}
use Rattle.daig_query.specs.Stale.{IsReadBy}

-- what an earlier edit emptied is stale no more
none_later : (edit later : ℕ) → edit < later → (o : Option Dated) → ((d : Dated) → o ≡ Some d → d.edit ≤ edit) → stale_by later o ≡ None
none_later edit later h None dated = refl
none_later edit later h (Some d) dated = let le = dated d refl in grind (arith, nat_tests)

pub fresh_later : (edit later : ℕ) → edit < later → (cells : List (Option Dated)) → AreDated edit cells → (n : ℕ) → get_or (map (stale_by later) cells) n None ≡ None
fresh_later edit later h [] dated n = refl
fresh_later edit later h (o ∷ cells) dated zero = none_later edit later h o (λ d e. dated 0 d (ap Some e))
fresh_later edit later h (o ∷ cells) dated (suc n) = fresh_later edit later h cells (λ m. dated (suc m)) n

-- a place more, with no cell
pub pushed_same : {A B : Type 0} (f : Option A → Option B) → f None ≡ None → (cells : List (Option A)) (n : ℕ) → get_or (map f (cells ++ None ∷ [])) n None ≡ get_or (map f cells) n None
pushed_same f none [] zero = none
pushed_same f none [] (suc n) = refl
pushed_same f none (o ∷ cells) zero = refl
pushed_same f none (o ∷ cells) (suc n) = pushed_same f none cells n

pub pushed_dated : (edit : ℕ) (cells : List (Option Dated)) → AreDated edit cells → AreDated edit (cells ++ None ∷ [])
pushed_dated edit [] dated zero d e = absurd cc
pushed_dated edit [] dated (suc n) d e = absurd cc
pushed_dated edit (o ∷ cells) dated zero d e = dated zero d e
pushed_dated edit (o ∷ cells) dated (suc n) d e = pushed_dated edit cells (λ m. dated (suc m)) n d e

-- a cell put
pub put_map : {A B : Type 0} (f : A → B) (xs : List A) (n : ℕ) (x : A) (y : B) → f x ≡ y → map f (set xs n x) ≡ set (map f xs) n y
put_map f [] n x y e = refl
put_map f (z ∷ xs) zero x y e = ap (λ v. v ∷ map f xs) e
put_map f (z ∷ xs) (suc n) x y e = ap (λ vs. f z ∷ vs) (put_map f xs n x y e)

pub stale_now : (edit : ℕ) (cell : StaleCell) → stale_by edit (Some (record { edit = edit; cell = cell })) ≡ Some cell
stale_now edit cell = grind (arith, nat_tests)

-- what is stale after is the cell put, or was stale
pub put_at : {A : Type 0} (xs : List (Option A)) (c n : ℕ) (o : Option A) (s : A) → get_or (set xs c o) n None ≡ Some s → ((n ≡ c) × (o ≡ Some s)) ⊎ ((n ≡ c → ⊥) × (get_or xs n None ≡ Some s))
put_at [] c n o s e = absurd cc
put_at (x ∷ xs) zero zero o s e = inl (refl, e)
put_at (x ∷ xs) zero (suc n) o s e = inr ((λ h. absurd (omega (arith, h))), e)
put_at (x ∷ xs) (suc c) zero o s e = inr ((λ h. absurd (omega (arith, h))), e)
put_at (x ∷ xs) (suc c) (suc n) o s e = elim (put_at xs c n o s e) [
  | inl p ↦ inl (ap suc p.0, p.1)
  | inr p ↦ inr ((λ h. p.0 (omega (arith, h))), p.1)
]

-- the cells that are stale, while those of a plan are marked
module _ (cells : Cells) (order : List ℕ) where
  abbrev pub ArePlanned : List (Option StaleCell) → Type 0
  ArePlanned stale = (n : ℕ) (s : StaleCell) → get_or stale n None ≡ Some s → IsReadBy cells n s × IsIn order n

  pub planned_on : (old new : List (Option StaleCell)) (i c : ℕ) (o : Option StaleCell) → new ≡ set old c o → IfSome o (λ s. IsReadBy cells c s) → slice_get order i ≡ Some c → ArePlanned old → ArePlanned new
  planned_on old new i c o is read at planned n s e =
      elim (put_at old c n o s (sym (ap (λ xs. get_or xs n None) is) ∙ e)) [
        | inl p ↦ (
          subst (λ m. IsReadBy cells m s) (sym p.0) (subst (λ q. IfSome q (λ t. IsReadBy cells c t)) p.1 read),
          (i, subst (λ m. slice_get order i ≡ Some m) (sym p.0) at),
        )
        | inr p ↦ planned n s p.1
      ]

  -- and none of the first so many touched
  abbrev pub AreUntouched : List ℕ → ℕ → List (Option StaleCell) → Type 0
  AreUntouched touched count stale =
      (n : ℕ) (s : StaleCell) → get_or stale n None ≡ Some s → IsReadBy cells n s × IsIn order n × ((k : ℕ) → k < count → slice_get touched k ≡ Some n → ⊥)

  pub untouched_on : (old new : List (Option StaleCell)) (touched : List ℕ) (i c : ℕ) → new ≡ set old c None → slice_get touched i ≡ Some c → AreUntouched touched i old → AreUntouched touched (i + 1) new
  untouched_on old new touched i c is at untouched n s e =
      elim (put_at old c n None s (sym (ap (λ xs. get_or xs n None) is) ∙ e)) [
        | inl p ↦ (let a : None ≡ Some s = p.1 in absurd cc)
        | inr p ↦ (
            let q = untouched n s p.1 in (
              q.0,
              q.1,
              λ k below there. elim (same_number k i) [
                | inl same ↦ p.0 (same_Some n c (sym there ∙ ap (slice_get touched) same ∙ at))
                | inr ne ↦ q.2 k (omega (arith, below, ne)) there
              ],
            ))
      ]
