-- Why edits are refused, by look-ups.
use Rattle.std.proofs.Common.{ℕ, suc, ◌≡◌, ◌<◌, ◌||◌, cond, Bool, true, false, List, [], ◌∷◌, length, Some, None, refl, arith}
use Rattle.std.specs.Str.{bytes_eq}
use Rattle.imp_syntax.specs.Plain.{Procedure}
use Rattle.imp_check.specs.Names.{is_named, place_named, named_in}
use Rattle.imp_edit.specs.declared.error.EditError.TheVariants.{NoProcedure}
use Rattle.imp_edit.specs.Refusals.{procedure_refusal}

-- the procedure is there, at its place
pub found : (ps : List Procedure) (x : List ℕ) (k : ℕ) → Some k ≡ named_in ps x → procedure_refusal x ps ≡ None
found ps x k e = go (is_named ps x) e
  where
    go : (b : Bool) → Some k ≡ cond b (Some (place_named ps x)) None → cond b None (Some NoProcedure) ≡ None
    go true e = refl
    go false e = absurd cc

pub missing : (ps : List Procedure) (x : List ℕ) → None ≡ named_in ps x → procedure_refusal x ps ≡ Some NoProcedure
missing ps x e = go (is_named ps x) e
  where
    go : (b : Bool) → None ≡ cond b (Some (place_named ps x)) None → cond b None (Some NoProcedure) ≡ Some NoProcedure
    go true e = absurd cc
    go false e = refl

pub found_at : (ps : List Procedure) (x : List ℕ) (k : ℕ) → Some k ≡ named_in ps x → k ≡ place_named ps x
found_at ps x k e = go (is_named ps x) e
  where
    go : (b : Bool) → Some k ≡ cond b (Some (place_named ps x)) None → k ≡ place_named ps x
    go true e = cc
    go false e = absurd cc

within : (ps : List Procedure) (x : List ℕ) → is_named ps x ≡ true → place_named ps x < length ps
within [] x h = absurd cc
within (p ∷ ps) x h = go (within ps x) (bytes_eq p.name x) h
  where
    go : (is_named ps x ≡ true → place_named ps x < length ps) → (b : Bool) → (b || is_named ps x) ≡ true → cond b 0 (suc (place_named ps x)) < suc (length ps)
    go f true h = omega arith
    go f false h = omega (arith, f h)

pub found_within : (ps : List Procedure) (x : List ℕ) (k : ℕ) → Some k ≡ named_in ps x → k < length ps
found_within ps x k e = go (is_named ps x) refl e
  where
    go : (b : Bool) → is_named ps x ≡ b → Some k ≡ cond b (Some (place_named ps x)) None → k < length ps
    go true h e = let q : k ≡ place_named ps x = cc in omega (arith, q, within ps x h)
    go false h e = absurd cc
