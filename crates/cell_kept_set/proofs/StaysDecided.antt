-- Going down the inputs finds what leads to no name that is not sound.
use Rattle.std.proofs.Common.{◌≡◌, ℕ, zero, suc, ◌≤◌, Bool, true, ◌&&◌, List, [], ◌∷◌, refl, sym, subst, inl, inr, arith}
use Rattle.std.proofs.lemmas.Bool.{and_parts, and_from, or_left, or_right, or_cases}
use Rattle.std.specs.Bool.{Decides}
use Rattle.daig_order.specs.Order.{System, IsAcyclic, member}
use Rattle.daig_order.specs.OrderLaws.{IsClosed}
use Rattle.daig_order.specs.Leading.{LeadsTo, itself, through, Stays}
use Rattle.daig_order.proofs.WithinLemmas.{stays-closed}
use Rattle.cell_kept_set.specs.StaysWithin.{each, stays_within, stays}

module _ {T : Type 0} (s : System T) (law : IsAcyclic s) where
  -- a test of each item holds of the members
  each_member : (f : T → Bool) (xs : List T) → each f xs ≡ true → (y : T) → member s.same xs y ≡ true → f y ≡ true
  each_member f [] h y m = absurd cc
  each_member f (x ∷ xs) h y m =
      let p = and_parts (f x) (each f xs) h in
      elim (or_cases (s.same y x) (member s.same xs y) m) [
        | inl e ↦ subst (λ z. f z ≡ true) (sym (law.same_true y x e)) p.0
        | inr k ↦ each_member f xs p.1 y k
      ]

  all_members : (f : T → Bool) (xs : List T) → ((y : T) → member s.same xs y ≡ true → f y ≡ true) → each f xs ≡ true
  all_members f [] g = refl
  all_members f (x ∷ xs) g =
      and_from (f x) (each f xs) (g x (or_left (s.same x x) (member s.same xs x) (law.same_refl x))) (all_members f xs (λ y m. g y (or_right (s.same y x) (member s.same xs y) m)))

  module _ (those : T → Type 0) (sound cells : T → Bool) (closed : IsClosed s cells) (tells : (x : T) → sound x ≡ true → those x → ⊥) (told : (x : T) → (those x → ⊥) → sound x ≡ true) where
    here : (x : T) → (cells x && sound x) ≡ true → (LeadsTo s those x → (y : T) × (member s.same (s.inputs x) y ≡ true) × LeadsTo s those y)
    here x h (itself _ t) = absurd (tells x (and_parts (cells x) (sound x) h).1 t)
    here x h (through y _ l m) = (y, m, l)

    pub down : (k : ℕ) (x : T) → s.rank x ≤ k → stays_within s sound cells k x ≡ true → Stays s those cells x
    down zero x r h =
        record {
          had = (and_parts (cells x) (sound x) h).0;
          free = λ l. (let p = here x h l in let lt = law.falls x p.0 p.1 in absurd (omega arith));
        }
    down (suc k) x r h =
        let p = and_parts (cells x && sound x) (each (stays_within s sound cells k) (s.inputs x)) h in
        record {
          had = (and_parts (cells x) (sound x) p.0).0;
          free = λ l.
              (let q = here x p.0 l in
              let lt = law.falls x q.0 q.1 in
              (down k q.0 (omega arith) (each_member (stays_within s sound cells k) (s.inputs x) p.1 q.0 q.1)).free q.2);
        }

    own : (x : T) → Stays s those cells x → (cells x && sound x) ≡ true
    own x k = and_from (cells x) (sound x) k.had (told x (λ t. k.free (itself x t)))

    pub up : (k : ℕ) (x : T) → Stays s those cells x → stays_within s sound cells k x ≡ true
    up zero x h = own x h
    up (suc k) x h =
        and_from (cells x && sound x) (each (stays_within s sound cells k) (s.inputs x)) (own x h)
        (all_members (stays_within s sound cells k) (s.inputs x) (λ y m. up k y (stays-closed s those cells closed x y h m)))

    pub stays_decides : (x : T) → Decides (stays s sound cells x) (Stays s those cells x)
    stays_decides x = (down (s.rank x) x (omega arith), up (s.rank x) x)
