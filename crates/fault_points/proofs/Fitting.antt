-- Claims are over the slots of what they are of.
use Rattle.std.specs.Prelude.{◌≡◌, List, [], ◌∷◌, ◌++◌, map, drop, slice_get, length, nat_lt, true, false, ◌&&◌, Some, ℕ}
use Rattle.std.proofs.Common.{refl, subst}
use Rattle.std.proofs.lemmas.Bool.{and_parts, and_from}
use Rattle.imp_syntax.specs.declared.words.Operator.{Operator}
use Rattle.imp_syntax.specs.declared.words.Operator.TheVariants.{Add, Subtract, Multiply, Divide, Remainder}
use Rattle.imp_slots.specs.Plain.{Numeric, Layout, Term, Literal, Slot, Length, Negative, Binary, Guard, Compare, CompareLinks, Not, And, Or, Effect, Skip, Assert, SetInt, Input, ReadElement, ReadItem, MakeArray, CopyArray, WriteElement, SetNull, MakeCell, CopyLink, ReadNext, WriteNext, WriteItem, Argument, IntArgument, ArrayArgument, LinkArgument, Invoke}
use Rattle.imp_slots.specs.Fits.{fits_term, fits_guard, fits_effect, fits_arguments, fits_invoke, fits_returning, is_kind, is_int, is_array, is_link, is_side}
use Rattle.imp_words.specs.declared.fault.FaultKind.TheVariants.{Overflow, Length as BadLength}
use Rattle.domain_laws.specs.Checks.{Check, Within, IsCell, Claims, check_of}
use Rattle.domain_laws.proofs.CheckLaws.{FitsCheck, check-fits}
use Rattle.fault_points.specs.declared.point.FaultPoint.{FaultPoint}
use Rattle.fault_points.specs.Points.{point, unless, checked, opposite_fits, is_length, operator_points, term_points, guard_points, effect_points, argument_points}

module _ (l : Layout) where
  abbrev pub ClaimsFit : List FaultPoint → Type 0
  ClaimsFit [] = Unit {0}
  ClaimsFit (p ∷ ps) = (fits_guard l p.claim ≡ true) × ClaimsFit ps

  fit_both : (xs ys : List FaultPoint) → ClaimsFit xs → ClaimsFit ys → ClaimsFit (xs ++ ys)
  fit_both [] ys f g = g
  fit_both (x ∷ xs) ys f g = (f.0, fit_both xs ys f.1 g)

  operators_fit : (o : Operator) (a b : Term) → fits_term l a ≡ true → fits_term l b ≡ true → ClaimsFit (operator_points o a b)
  unfolding fits_guard fits_term
  operators_fit Add a b f g = (rw (f, g) refl, tt)
  operators_fit Subtract a b f g = (rw (f, g) refl, tt)
  operators_fit Multiply a b f g = (rw (f, g) refl, tt)
  operators_fit Divide a b f g = (rw g refl, (rw (f, g) refl, tt))
  operators_fit Remainder a b f g = (rw g refl, (rw (f, g) refl, tt))

  opposite_fit : (e : Term) → fits_term l e ≡ true → ClaimsFit (point Overflow (opposite_fits e) ∷ [])
  unfolding fits_guard fits_term
  opposite_fit e f = (rw f refl, tt)

  length_fit : (e : Term) → fits_term l e ≡ true → ClaimsFit (point BadLength (is_length e) ∷ [])
  unfolding fits_guard fits_term
  length_fit e f = (rw f refl, tt)

  pub terms_fit : (e : Term) → fits_term l e ≡ true → ClaimsFit (term_points e)
  unfolding term_points fits_term
  terms_fit (Literal n) f = tt
  terms_fit (Slot x) f = tt
  terms_fit (Length a) f = tt
  terms_fit (Negative e) f = fit_both (term_points e) (point Overflow (opposite_fits e) ∷ []) (terms_fit e f) (opposite_fit e f)
  terms_fit (Binary o a b) f =
      let k = and_parts (fits_term l a) (fits_term l b) f in
      fit_both (term_points a) (term_points b ++ operator_points o a b) (terms_fit a k.0)
      (fit_both (term_points b) (operator_points o a b) (terms_fit b k.1) (operators_fit o a b k.0 k.1))

  unless_fit : (g : Guard) (ps : List FaultPoint) → fits_guard l g ≡ true → ClaimsFit ps → ClaimsFit (map (unless g) ps)
  unfolding fits_guard
  unless_fit g [] f h = tt
  unless_fit g (p ∷ ps) f h = (and_from (fits_guard l g) (fits_guard l p.claim) f h.0, unless_fit g ps f h.1)

  not_fits : (g : Guard) → fits_guard l g ≡ true → fits_guard l (Not g) ≡ true
  unfolding fits_guard
  not_fits g f = f

  pub guards_fit : (g : Guard) → fits_guard l g ≡ true → ClaimsFit (guard_points g)
  unfolding guard_points fits_guard
  guards_fit (Compare r a b) f =
      let k = and_parts (fits_term l a) (fits_term l b) f in fit_both (term_points a) (term_points b) (terms_fit a k.0) (terms_fit b k.1)
  guards_fit (CompareLinks equal p q) f = tt
  guards_fit (Not g) f = guards_fit g f
  guards_fit (And g h) f =
      let k = and_parts (fits_guard l g) (fits_guard l h) f in
      fit_both (guard_points g) _ (guards_fit g k.0) (unless_fit (Not g) (guard_points h) (not_fits g k.0) (guards_fit h k.1))
  guards_fit (Or g h) f =
      let k = and_parts (fits_guard l g) (fits_guard l h) f in
      fit_both (guard_points g) _ (guards_fit g k.0) (unless_fit g (guard_points h) k.0 (guards_fit h k.1))

  check_fit : (e : Effect) (c : Check) → check_of e ≡ Some c → fits_effect l e ≡ true → ClaimsFit (checked c ∷ [])
  check_fit e c is f = (subst (FitsCheck l) is (check-fits l e f), tt)

  pub effects_fit : (e : Effect) → fits_effect l e ≡ true → ClaimsFit (effect_points e)
  unfolding effect_points fits_effect
  effects_fit Skip f = tt
  effects_fit (Assert g) f = fit_both (guard_points g) (checked (Claims g) ∷ []) (guards_fit g f) (f, tt)
  effects_fit (SetInt x e) f = terms_fit e (and_parts (is_int l x) (fits_term l e) f).1
  effects_fit (Input x) f = tt
  effects_fit (ReadElement x a e) f =
      fit_both (term_points e) (checked (Within a e) ∷ []) (terms_fit e (and_parts (is_array l a) (fits_term l e) (and_parts (is_int l x) (is_array l a && fits_term l e) f).1).1) (check_fit (ReadElement x a e) (Within a e) refl f)
  effects_fit (ReadItem x q) f = check_fit (ReadItem x q) (IsCell q) refl f
  effects_fit (MakeArray a e) f = let k = (and_parts (is_array l a) (fits_term l e) f).1 in fit_both (term_points e) (point BadLength (is_length e) ∷ []) (terms_fit e k) (length_fit e k)
  effects_fit (CopyArray a b) f = tt
  effects_fit (WriteElement a e u) f =
      let k = and_parts (fits_term l e) (fits_term l u) (and_parts (is_array l a) (fits_term l e && fits_term l u) f).1 in
      fit_both (term_points e ++ term_points u) (checked (Within a e) ∷ []) (fit_both (term_points e) (term_points u) (terms_fit e k.0) (terms_fit u k.1)) (check_fit (WriteElement a e u) (Within a e) refl f)
  effects_fit (SetNull p) f = tt
  effects_fit (MakeCell p) f = tt
  effects_fit (CopyLink p q) f = tt
  effects_fit (ReadNext p q) f = check_fit (ReadNext p q) (IsCell q) refl f
  effects_fit (WriteNext p q) f = check_fit (WriteNext p q) (IsCell p) refl f
  effects_fit (WriteItem p e) f = fit_both (term_points e) (checked (IsCell p) ∷ []) (terms_fit e (and_parts (is_link l p) (fits_term l e) f).1) (check_fit (WriteItem p e) (IsCell p) refl f)

  arguments_fit : (list : List Argument) (ns : List Numeric) (ls : List (List ℕ)) → fits_arguments l list ns ls ≡ true → ClaimsFit (argument_points list)
  unfolding argument_points
  arguments_fit [] ns ls f = tt
  arguments_fit (IntArgument e ∷ more) ns ls f =
      let k = and_parts (is_kind false (slice_get ns 0)) (fits_term l e && fits_arguments l more (drop 1 ns) ls) f in
      let j = and_parts (fits_term l e) (fits_arguments l more (drop 1 ns) ls) k.1 in
      fit_both (term_points e) (argument_points more) (terms_fit e j.0) (arguments_fit more (drop 1 ns) ls j.1)
  arguments_fit (ArrayArgument a ∷ more) ns ls f =
      let k = and_parts (is_kind true (slice_get ns 0)) (is_array l a && fits_arguments l more (drop 1 ns) ls) f in
      arguments_fit more (drop 1 ns) ls (and_parts (is_array l a) (fits_arguments l more (drop 1 ns) ls) k.1).1
  arguments_fit (LinkArgument p ∷ more) ns ls f =
      let k = and_parts (nat_lt 0 (length ls)) (is_side l p && fits_arguments l more ns (drop 1 ls)) f in
      arguments_fit more ns (drop 1 ls) (and_parts (is_side l p) (fits_arguments l more ns (drop 1 ls)) k.1).1

  pub calls_fit : (i : Invoke) → fits_invoke l i ≡ true → ClaimsFit (argument_points i.entering.arguments)
  unfolding fits_invoke
  calls_fit i f = arguments_fit i.entering.arguments i.entering.layout.numbers i.entering.layout.links (and_parts (fits_arguments l i.entering.arguments i.entering.layout.numbers i.entering.layout.links) (fits_returning i.entering.layout l i.returning) f).0
