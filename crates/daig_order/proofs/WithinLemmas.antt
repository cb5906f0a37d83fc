-- Removal from the names that have cells alone.
use Rattle.std.proofs.Common.{◌≡◌, ℕ, ◌↔◌, Bool, true, false, not, List, refl, sym, subst}
use Rattle.daig_order.specs.Order.{System, IsAcyclic, member}
use Rattle.daig_order.specs.OrderLaws.{IsClosed}
use Rattle.daig_order.specs.Turned.{AreUsers, Leads, here, through, IsPlan, without}
use Rattle.daig_order.specs.Leading.{LeadsTo, itself, Stays}
use Rattle.daig_order.specs.Leading as lead
use Rattle.daig_order.specs.Within.{inputs_if, within, AreDependents, AreCellsOf}
use Rattle.std.proofs.lemmas.Bool.{and_parts, and_from, not-true}
use Rattle.daig_order.proofs.TurnedLemmas.{not_false}
use Rattle.base_values.proofs.Cases.{not_both}

-- the inputs of what stays stay
pub stays-closed : {T : Type 0} (s : System T) (those : T → Type 0) (cells : T → Bool) → IsClosed s cells → (x y : T) → Stays s those cells x → member s.same (s.inputs x) y ≡ true → Stays s those cells y
stays-closed s those cells closed x y k m = record { had = closed x y k.had m; free = λ l. k.free (lead.through y x l m) }

module _ {T : Type 0} (s : System T) (cells : T → Bool) where
  -- the inputs of a cell are those of the whole system; other names have none
  inside : (x y : T) → member s.same (inputs_if (cells x) (s.inputs x)) y ≡ true → (cells x ≡ true) × (member s.same (s.inputs x) y ≡ true)
  inside x y m = go (cells x) refl m
    where
      go : (b : Bool) → cells x ≡ b → member s.same (inputs_if b (s.inputs x)) y ≡ true → (cells x ≡ true) × (member s.same (s.inputs x) y ≡ true)
      go true e m = (e, m)
      go false e m = absurd cc

  outside : (x y : T) → cells x ≡ true → member s.same (s.inputs x) y ≡ true → member s.same (inputs_if (cells x) (s.inputs x)) y ≡ true
  outside x y c m = subst (λ b. member s.same (inputs_if b (s.inputs x)) y ≡ true) (sym c) m

  pub within-acyclic : IsAcyclic s → IsAcyclic (within s cells)
  within-acyclic law = record { same_true = law.same_true; same_refl = law.same_refl; falls = λ x y m. law.falls x y (inside x y m).1 }

  pub within-users : (users : T → List T) (peak : ℕ) → AreDependents s cells users peak → AreUsers (within s cells) users peak
  within-users users peak d = record {
    uses = λ x y m. let u = d.uses x y m in outside y x u.0 u.1;
    used = λ x y m. let i = inside y x m in d.used x y i.0 i.1;
    below = λ x y m. d.below y (d.uses x y m).0;
  }

  module _ (those : T → Type 0) (xs : List T) (are : AreCellsOf s cells those xs) where
    leads-there : (x : T) → Leads (within s cells) xs x → LeadsTo s those x
    leads-there x (here _ m) = itself x (are.only x m).1
    leads-there x (through y _ l m) = lead.through y x (leads-there y l) (inside x y m).1

    there-leads : IsClosed s cells → (x : T) → cells x ≡ true → LeadsTo s those x → Leads (within s cells) xs x
    there-leads closed x c (itself _ h) = here x (are.all x c h)
    there-leads closed x c (lead.through y _ l m) = through y x (there-leads closed y (closed x y c m) l) (outside x y c m)

    -- what a plan leaves
    pub leaves-rest : IsClosed s cells → (users : T → List T) (peak : ℕ) (plan : List T) → IsPlan (within s cells) users peak xs plan → (x : T) → (without s cells plan x ≡ true) ↔ Stays s those cells x
    leaves-rest closed users peak plan p x = (
      λ h. let b = and_parts (cells x) (not (member s.same plan x)) h in record { had = b.0; free = λ l. not_both (member s.same plan x) (p.each x (there-leads closed x b.0 l)) (not-true (member s.same plan x) b.1) },
      λ k. and_from (cells x) (not (member s.same plan x)) k.had (not_false (member s.same plan x) (λ m. k.free (leads-there x (p.only x m)))),
    )
