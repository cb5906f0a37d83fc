-- `==` tells states apart where it is a test that does.
use Rattle.std.specs.Prelude.{◌≡◌, ◌↔◌, Bool, true}
use Rattle.std.specs.Bool.{Decides}
use Rattle.std.proofs.Common.{subst}
use Rattle.base_values.specs.Claims.{IsDecided}

pub states_decided : {S : Type 0} {same eq : S → S → Bool} → ((s t : S) → (same s t ≡ true) ↔ (s ≡ t)) → ((s t : S) → same s t ≡ eq s t) → IsDecided eq
states_decided same_is_equal tested s t = subst (λ b. Decides b (s ≡ t)) (tested s t) (same_is_equal s t)
