-- The edges turned round: what a name needs is the names that use it. So the order of a demand there is an order of removal.
use Rattle.std.specs.Prelude.{◌≡◌, ℕ, ◌-◌, ◌≤◌, Bool, true, false, not, ◌&&◌, List, []}
use Rattle.daig_order.specs.Order.{System, member}
use Rattle.daig_order.specs.OrderLaws.{Follows, IsDistinct}

-- these are the users of each name: a use is one edge, read from either end; no user ranks above the peak
pub record AreUsers {T : Type 0} (s : System T) (users : T → List T) (peak : ℕ) : Type 0 where
  pub uses : (x y : T) → member s.same (users x) y ≡ true → member s.same (s.inputs y) x ≡ true
  pub used : (x y : T) → member s.same (s.inputs y) x ≡ true → member s.same (users x) y ≡ true
  pub below : (x y : T) → member s.same (users x) y ≡ true → s.rank y ≤ peak

abbrev pub turned : {T : Type 0} → System T → (T → List T) → ℕ → System T
turned s users peak = record { same = s.same; inputs = users; rank = λ x. peak - s.rank x }

-- a path of inputs leads from the name to one of the touched
pub data Leads {T : Type 0} (s : System T) (touched : List T) : T → Type 0 where
  here : (x : T) → member s.same touched x ≡ true → Leads s touched x
  through : (x y : T) → Leads s touched x → member s.same (s.inputs y) x ≡ true → Leads s touched y

-- exactly the names that lead to a touched one, each once, and each after those that use it
pub record IsPlan {T : Type 0} (s : System T) (users : T → List T) (peak : ℕ) (touched plan : List T) : Type 0 where
  pub only : (x : T) → member s.same plan x ≡ true → Leads s touched x
  pub each : (x : T) → Leads s touched x → member s.same plan x ≡ true
  pub once : IsDistinct s.same plan
  pub users_first : Follows (turned s users peak) (λ _. false) [] plan

-- the kept names without the removed ones
abbrev pub without : {T : Type 0} → System T → (T → Bool) → List T → T → Bool
without s kept plan x = kept x && not (member s.same plan x)
