-- The ends of a range of quotients are quotients.
use Rattle.std.proofs.Common.{ℤ, pos, negsuc, ◌≤ℤ◌, int_div, int_lt, Option, Some, None, IfSome, refl, arith}
use Rattle.std.proofs.lemmas.Int.{ints, clamps}
use Rattle.std.specs.Int.{int_max, int_min}
use Rattle.base_values.proofs.Cases.{by_bool}
use Rattle.num_bounds.specs.Bounds.{Bounds, Within as Lies}
use Rattle.num_bounds.specs.Meaning.{IsTaken}
use Rattle.num_bounds.specs.Operations.{below_zero, above_zero, part_quotients, either_hull, quotients, hull_of, corners}
use Rattle.num_bounds.proofs.Ends.{between-left}

smaller : (P : ℤ → Type 0) (u v : ℤ) → P u → P v → P (int_min u v)
smaller P u v p q = by_bool (int_lt v u) (λ t. rw t q) (λ t. rw t p)

greater : (P : ℤ → Type 0) (u v : ℤ) → P u → P v → P (int_max u v)
greater P u v p q = by_bool (int_lt v u) (λ t. rw t p) (λ t. rw t q)

-- both ends are quotients of numbers of the two ranges
abbrev pub EndsTaken : Bounds → Bounds → Bounds → Type 0
EndsTaken a b r = IsTaken int_div a b r.lo × IsTaken int_div a b r.hi

module _ (a b : Bounds) (o : a.lo ≤ℤ a.hi) where
  abbrev Q : ℤ → Type 0
  Q = IsTaken int_div a b

  -- both ends of a part of the divisors are divisors
  abbrev IsOf : Bounds → Type 0
  IsOf r = Lies r.lo b × Lies r.hi b

  hull-taken : (u v : Bounds) → EndsTaken a b u → EndsTaken a b v → EndsTaken a b (hull_of u v)
  hull-taken u v s t = (smaller Q u.lo v.lo s.0 t.0, greater Q u.hi v.hi s.1 t.1)

  corners-taken : (r : Bounds) → IsOf r → EndsTaken a b (corners int_div a r)
  corners-taken r w =
      let al : Lies a.lo a = (omega (arith, ints), o) in
      let ah : Lies a.hi a = (o, omega (arith, ints)) in
      let ll : Q (int_div a.lo r.lo) = (a.lo, r.lo, al, w.0, refl) in
      let lh : Q (int_div a.lo r.hi) = (a.lo, r.hi, al, w.1, refl) in
      let hl : Q (int_div a.hi r.lo) = (a.hi, r.lo, ah, w.0, refl) in
      let hh : Q (int_div a.hi r.hi) = (a.hi, r.hi, ah, w.1, refl) in
      (smaller Q _ _ (smaller Q _ _ ll lh) (smaller Q _ _ hl hh), greater Q _ _ (greater Q _ _ ll lh) (greater Q _ _ hl hh))

  part-taken : (part : Option Bounds) → IfSome part IsOf → IfSome (part_quotients a part) (EndsTaken a b)
  part-taken None w = tt
  part-taken (Some r) w = corners-taken r w

  either-taken : (u v : Option Bounds) → IfSome u (EndsTaken a b) → IfSome v (EndsTaken a b) → IfSome (either_hull u v) (EndsTaken a b)
  either-taken None v s t = t
  either-taken (Some u) None s t = s
  either-taken (Some u) (Some v) s t = hull-taken u v s t

  pub quotients-taken : IfSome (quotients a b) (EndsTaken a b)
  quotients-taken =
      either-taken (part_quotients a (below_zero b)) (part_quotients a (above_zero b))
      (part-taken (below_zero b) (between-left b.lo (int_min b.hi (negsuc 0)) IsOf (λ h. ((omega (arith, ints), omega (arith, ints, clamps)), (h, omega (arith, ints, clamps))))))
      (part-taken (above_zero b) (between-left (int_max b.lo (pos 1)) b.hi IsOf (λ h. ((omega (arith, ints, clamps), h), (omega (arith, ints, clamps), omega (arith, ints))))))
