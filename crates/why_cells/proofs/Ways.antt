-- The cells of names and of the fixed points on their ways.
use Rattle.std.proofs.Common.{◌≡◌, ℕ, zero, suc, ◌+◌, List, [], ◌∷◌, ◌++◌, map, take, Some, slice_get, refl, sym, ap, subst, ◌∙◌, append_assoc, append-nil, add-one}
use Rattle.std.proofs.lemmas.List.{map-append}
use Rattle.std.proofs.lemmas.Option.{same_Some}
use Rattle.base_values.proofs.Lists.{take_next}
use Rattle.cell_names.specs.declared.frame.NameFrame.{NameFrame}
use Rattle.cell_names.specs.declared.frame.NameFrame.TheVariants.{InCall, InLoop}
use Rattle.cell_names.specs.declared.frame.Point.TheVariants.{Fix}
use Rattle.cell_names.specs.Paths.{CellName}
use Rattle.cell_rows.specs.Names.{name}
use Rattle.daig_graph.specs.Held.{IsIn}
use Rattle.cell_removal.proofs.Ins.{in_first, in_more, in_left, in_right}
use Rattle.cell_graph.specs.Named.{AreNumbers}
use Rattle.cell_graph.proofs.Numbers.{numbers_get}
use Rattle.daig_query.specs.Walked.{fixes, with_fixes}
use Rattle.why_cells.specs.Reached.{fix_of, AllNamed}
use Rattle.daig_query.proofs.Walks.{with_both}

numbers_both : (names : List CellName) (ms ns : List ℕ) (xs ys : List CellName) → AreNumbers names ms xs → AreNumbers names ns ys → AreNumbers names (ms ++ ns) (xs ++ ys)
numbers_both names ms ns xs ys a b = map-append (slice_get names) ms ns ∙ ap (λ zs. zs ++ map (slice_get names) ns) a ∙ ap (λ zs. map Some xs ++ zs) b ∙ sym (map-append Some xs ys)

-- What is added on the way along a path: the fixed points so far, and those that are left.
pub record Adds (names : List CellName) (all rest : List CellName) (old now : List ℕ) : Type 0 where
  pub numbers : List ℕ
  pub xs : List CellName
  pub is : now ≡ old ++ numbers
  pub are : AreNumbers names numbers xs
  pub split : all ≡ xs ++ rest

pub adds_first : (names all : List CellName) (old : List ℕ) → Adds names all all old old
adds_first names all old = record { numbers = []; xs = []; is = sym (append-nil old); are = refl; split = refl }

fixes_more : (f : NameFrame) (v : List NameFrame) → fixes (f ∷ v) ≡ fix_of f v ++ fixes v
fixes_more (InCall n) v = refl
fixes_more (InLoop n k) v = refl

-- past a frame
pub adds_next : (names all : List CellName) (old now new : List ℕ) (f : NameFrame) (w v : List NameFrame) → w ≡ f ∷ v → AllNamed names all → Adds names all (fixes w) old now →
    (AllNamed names (fix_of f v) → (ns : List ℕ) × (new ≡ now ++ ns) × AreNumbers names ns (fix_of f v)) → Adds names all (fixes v) old new
adds_next names all old now new f w v e named h adds =
    let split : all ≡ h.xs ++ (fix_of f v ++ fixes v) = h.split ∙ ap (λ u. h.xs ++ fixes u) e ∙ ap (λ zs. h.xs ++ zs) (fixes_more f v) in
    let more = adds (λ x m. named x (subst (λ zs. IsIn zs x) (sym split) (in_right x h.xs (fix_of f v ++ fixes v) (in_left x (fix_of f v) (fixes v) m)))) in
    record {
      numbers = h.numbers ++ more.0;
      xs = h.xs ++ fix_of f v;
      is = more.1 ∙ ap (λ zs. zs ++ more.0) h.is ∙ append_assoc old h.numbers more.0;
      are = numbers_both names h.numbers more.0 h.xs (fix_of f v) h.are more.2;
      split = split ∙ sym (append_assoc h.xs (fix_of f v) (fixes v));
    }

pub fix_named : (names : List CellName) (f : NameFrame) (v : List NameFrame) (n k : ℕ) → f ≡ InLoop n k → AllNamed names (fix_of f v) → (c : ℕ) × (slice_get names c ≡ Some (name v (Fix n)))
fix_named names f v n k e named = named (name v (Fix n)) (subst (λ g. IsIn (fix_of g v) (name v (Fix n))) (sym e) (in_first (name v (Fix n)) []))

-- Over all cells: those so far, each with the fixed points on its way.
pub record Collects (names : List CellName) (found : List ℕ) (i : ℕ) (out : List ℕ) : Type 0 where
  pub are : (xs : List CellName) → AreNumbers names found xs → AllNamed names (with_fixes xs) → AreNumbers names out (with_fixes (take i xs))

fixes_in : (xs : List CellName) (i : ℕ) (x y : CellName) → slice_get xs i ≡ Some x → IsIn (fixes x.path) y → IsIn (with_fixes xs) y
fixes_in [] i x y e m = absurd cc
fixes_in (z ∷ xs) i x y e m = go i e (λ j q. fixes_in xs j x y q m)
  where
    go : (i : ℕ) → slice_get (z ∷ xs) i ≡ Some x → ((j : ℕ) → slice_get xs j ≡ Some x → IsIn (with_fixes xs) y) → IsIn (with_fixes (z ∷ xs)) y
    go zero e f = in_more y z (fixes z.path ++ with_fixes xs) (in_left y (fixes z.path) (with_fixes xs) (subst (λ (u : CellName). IsIn (fixes u.path) y) (sym (same_Some z x e)) m))
    go (suc j) e f = in_more y z (fixes z.path ++ with_fixes xs) (in_right y (fixes z.path) (with_fixes xs) (f j e))

pub collects_next : (names : List CellName) (found now more new : List ℕ) (i n : ℕ) (x : CellName) → slice_get found i ≡ Some n → slice_get names n ≡ Some x → Collects names found i now → more ≡ now ++ n ∷ [] →
    (AllNamed names (fixes x.path) → (ns : List ℕ) × (new ≡ more ++ ns) × AreNumbers names ns (fixes x.path)) → Collects names found (i + 1) new
collects_next names found now more new i n x at named h e adds = record {
  are = λ xs a all.
      let p = numbers_get names found xs a i n at in
      let same : p.0 ≡ x = same_Some _ _ (sym p.2 ∙ named) in
      let get : slice_get xs i ≡ Some x = p.1 ∙ ap Some same in
      let more_of = adds (λ y m. all y (fixes_in xs i x y get m)) in
      let one : AreNumbers names (n ∷ more_of.0) (x ∷ fixes x.path) = numbers_both names (n ∷ []) more_of.0 (x ∷ []) (fixes x.path) (ap (λ o. o ∷ []) named) more_of.2 in
      subst (λ zs. AreNumbers names zs (with_fixes (take (i + 1) xs))) (sym (more_of.1 ∙ ap (λ zs. zs ++ more_of.0) e ∙ append_assoc now (n ∷ []) more_of.0))
      (subst (AreNumbers names (now ++ n ∷ more_of.0)) (sym (ap with_fixes (ap (λ n. take n xs) (add-one i) ∙ take_next xs i x get) ∙ with_both (take i xs) (x ∷ []) ∙ ap (λ zs. with_fixes (take i xs) ++ x ∷ zs) (append-nil (fixes x.path))))
      (numbers_both names now (n ∷ more_of.0) (with_fixes (take i xs)) (x ∷ fixes x.path) (h.are xs a all) one));
}
