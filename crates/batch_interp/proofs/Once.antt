-- What a checked program guarantees of a procedure at a place.
use Rattle.std.proofs.Common.{ℕ, zero, suc, ◌≡◌, List, [], ◌∷◌, ◌++◌, take, slice_get, Option, Some, None, refl, sym, subst, append_assoc}
use Rattle.imp_slots.specs.Plain.{Routine}
use Rattle.imp_slots.specs.Fits.{FitsCode, FitInTurn, IsChecked}
use Rattle.imp_chains.specs.Chains.{calls_to}
use Rattle.std.proofs.lemmas.List.{append-nil}
use Rattle.base_values.proofs.Members.{Member}
use Rattle.imp_chains.proofs.Found.{called_earlier}
use Rattle.base_values.proofs.Lists.{none_past}

-- each procedure fits those before it
pub fit_at : (before rs : List Routine) (k : ℕ) (r : Routine) → FitInTurn before rs → slice_get rs k ≡ Some r → FitsCode (before ++ take k rs) r.layout r.code
fit_at before [] k r f e = absurd cc
fit_at before (x ∷ rs) zero r f e =
    let s : x ≡ r = cc in
    subst (λ bs. FitsCode bs r.layout r.code) (sym (append-nil before)) (subst (λ (r : Routine). FitsCode before r.layout r.code) s f.0.code)
fit_at before (x ∷ rs) (suc k) r f e = subst (λ bs. FitsCode bs r.layout r.code) (append_assoc before (x ∷ []) (take k rs)) (fit_at (before ++ x ∷ []) rs k r f.1 e)

nothing_in : {A : Type 0} (x : A) (xs : List A) → xs ≡ [] → Member x xs → ⊥
nothing_in x xs e m = elim (subst (Member x) e m) [ ]

-- a procedure that is called stands before its caller
pub called_before : (program : List Routine) (k p : ℕ) (r : Routine) (n : ℕ) → IsChecked program → slice_get program k ≡ Some r → Member n (calls_to p r.code) → (c : Routine) × (slice_get (take k program) p ≡ Some c)
called_before program k p r n checked e m = go (slice_get (take k program) p) refl
  where
    go : (o : Option Routine) → slice_get (take k program) p ≡ o → (c : Routine) × (slice_get (take k program) p ≡ Some c)
    go (Some c) h = (c, h)
    go None h = absurd (nothing_in n (calls_to p r.code) (called_earlier (take k program) r.layout p r.code (fit_at [] program k r checked.fit e) (none_past (take k program) p h)) m)
