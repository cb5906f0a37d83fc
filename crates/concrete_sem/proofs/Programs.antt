-- What is known of the procedures of a checked program.
use Rattle.std.specs.Prelude.{◌≡◌, ℕ, zero, suc, ◌+◌, ◌<◌, List, [], ◌∷◌, ◌++◌, length, slice_get, Option, Some, None, MatchOption}
use Rattle.std.proofs.Common.{refl, sym, subst, arith, append_assoc}
use Rattle.std.proofs.lemmas.List.{length-append}
use Rattle.std.proofs.lemmas.Option.{slice_get_within}
use Rattle.imp_slots.specs.Plain.{Layout, Code, Routine}
use Rattle.imp_slots.specs.Fits.{FitsCode, FitsRoutine, FitInTurn, IsChecked}
use Rattle.concrete_sem.specs.WellFormed.{StandsIn, whole, behind_simple, then_block, else_block, behind_if, loop_body, behind_loop, behind_call, behind_break}
use Rattle.base_values.proofs.Lists.{get_front}

-- A routine of the program fits some routines, which stand before it in the program.
pub record Known (program : List Routine) (p : ℕ) (r : Routine) : Type 0 where
  pub before : List Routine
  pub fits : FitsRoutine before r
  pub earlier : (q : ℕ) (c : Routine) → slice_get before q ≡ Some c → (slice_get program q ≡ Some c) × (q < p)

known_in : (before rs : List Routine) (p : ℕ) (r : Routine) → FitInTurn before rs → slice_get rs p ≡ Some r → Known (before ++ rs) (length before + p) r
known_in before [] p r f e = absurd cc
known_in before (x ∷ rs) zero r f e =
    let i : x ≡ r = cc in
    record {
      before = before;
      fits = subst (FitsRoutine before) i f.0;
      earlier = λ q c g. let k : q < length before = slice_get_within before q c g in (get_front before (x ∷ rs) q c g, omega arith);
    }
known_in before (x ∷ rs) (suc p) r f e =
    let k = known_in (before ++ (x ∷ [])) rs p r f.1 e in
    let a : (before ++ (x ∷ [])) ++ rs ≡ before ++ (x ∷ rs) = append_assoc before (x ∷ []) rs in
    let n : length (before ++ (x ∷ [])) + p ≡ length before + suc p = let q = length-append before (x ∷ []) in omega arith in
    subst (λ n. Known (before ++ (x ∷ rs)) n r) n (subst (λ ps. Known ps (length (before ++ (x ∷ [])) + p) r) a k)

pub known : (program : List Routine) (p : ℕ) (r : Routine) → IsChecked program → slice_get program p ≡ Some r → Known program p r
known program p r c e = let n : 0 + p ≡ p = omega arith in subst (λ n. Known program n r) n (known_in [] program p r c.fit e)

-- A block of the body fits as the body does.
pub block_fits : (before : List Routine) (l : Layout) (body c : Code) → FitsCode before l body → StandsIn body c → FitsCode before l c
block_fits before l body c f whole = f
block_fits before l body c f (behind_simple s) = (block_fits before l body _ f s).1
block_fits before l body c f (then_block s) = (block_fits before l body _ f s).1
block_fits before l body c f (else_block s) = (block_fits before l body _ f s).2
block_fits before l body c f (behind_if s) = (block_fits before l body _ f s).3
block_fits before l body c f (loop_body s) = (block_fits before l body _ f s).1
block_fits before l body c f (behind_loop s) = (block_fits before l body _ f s).2
block_fits before l body c f (behind_call s) = (block_fits before l body _ f s).1
block_fits before l body c f (behind_break s) = block_fits before l body _ f s

-- what is known of an option's value
pub from_match : (o : Option Routine) (P : Routine → Type 0) → MatchOption o ⊥ P → (r : Routine) × (o ≡ Some r) × P r
from_match None P m = absurd m
from_match (Some r) P m = (r, refl, m)

pub to_match : (o : Option Routine) (P : Routine → Type 0) (r : Routine) → o ≡ Some r → P r → MatchOption o ⊥ P
to_match o P r e p = subst (λ o. MatchOption o ⊥ P) (sym e) p
