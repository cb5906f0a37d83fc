-- The edges turned round: the order there is a plan of removal, and what it leaves is closed.
use Rattle.std.proofs.Common.{◌≡◌, ℕ, ◌+◌, ◌<◌, ◌≤◌, Bool, true, false, not, List, refl, arith}
use Rattle.std.proofs.lemmas.Bool.{and_parts, and_from, not-true}
use Rattle.daig_order.specs.Order.{System, IsAcyclic, member}
use Rattle.daig_order.specs.OrderLaws.{order, Needed, input, under, IsClosed}
use Rattle.daig_order.specs.Machine.{AreBelow}
use Rattle.daig_order.specs.Turned.{AreUsers, turned, Leads, here, through, IsPlan, without}
use Rattle.daig_order.proofs.OrderLawProofs.{order-distinct, order-follows, order-needed, needed-seen}
use Rattle.base_values.proofs.Cases.{not_both}

pub not_false : (b : Bool) → (b ≡ true → ⊥) → not b ≡ true
not_false true h = absurd (h refl)
not_false false h = refl

module _ {T : Type 0} (s : System T) (law : IsAcyclic s) (users : T → List T) (peak : ℕ) (u : AreUsers s users peak) where
  pub turned-acyclic : IsAcyclic (turned s users peak)
  turned-acyclic = record {
    same_true = law.same_true;
    same_refl = law.same_refl;
    falls = λ x y m. let lt : s.rank x < s.rank y = law.falls y x (u.uses x y m) in let le : s.rank y ≤ peak = u.below x y m in omega arith;
  }

  leads_needed : (touched : List T) (x : T) → Leads s touched x → Needed (turned s users peak) touched x
  leads_needed touched x (here _ m) = input x m
  leads_needed touched x (through y _ l m) = under y x (leads_needed touched y l) (u.used y x m)

  needed_leads : (touched : List T) (x : T) → Needed (turned s users peak) touched x → Leads s touched x
  needed_leads touched x (input _ m) = here x m
  needed_leads touched x (under y _ n m) = through y x (needed_leads touched y n) (u.uses y x m)

  low : (xs : List T) → AreBelow (turned s users peak) xs (peak + 1)
  low xs y m = omega arith

  -- the order of a demand along the turned edges is a plan
  pub order-plan : (touched : List T) → IsPlan s users peak touched (order (turned s users peak) touched)
  order-plan touched = record {
    only = λ x m. needed_leads touched x (order-needed (turned s users peak) turned-acyclic (λ _. false) touched (peak + 1) (low touched) x m).0;
    each = λ x l. needed-seen (turned s users peak) turned-acyclic (λ _. false) touched (peak + 1) (low touched) x (λ a b h m. absurd (cc)) (leads_needed touched x l);
    once = order-distinct (turned s users peak) turned-acyclic (λ _. false) touched (peak + 1) (low touched);
    users_first = order-follows (turned s users peak) turned-acyclic (λ _. false) touched (peak + 1) (low touched);
  }

-- an input of a name that stays leads to no touched one, or the name would
pub rest-closed : {T : Type 0} (s : System T) (users : T → List T) (peak : ℕ) (touched plan : List T) → IsPlan s users peak touched plan → (kept : T → Bool) → IsClosed s kept → IsClosed s (without s kept plan)
rest-closed s users peak touched plan p kept closed x y h m =
    let both = and_parts (kept x) (not (member s.same plan x)) h in
    and_from (kept y) (not (member s.same plan y)) (closed x y both.0 m)
    (not_false (member s.same plan y) (λ t. not_both (member s.same plan x) (p.each x (through y x (p.only y t) m)) (not-true (member s.same plan x) both.1)))
