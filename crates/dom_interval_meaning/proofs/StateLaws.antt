-- Equal states are the same, and feed a hasher the same.
use Rattle.std.proofs.Common.{◌≡◌, refl, ap, subst, true}
use Rattle.std.specs.Bool.{Decides}
use Rattle.std.specs.Cmp.{IsEquivalence, IsPartialEquivalence, decided, partial_equiv_from_equiv}
use Rattle.std.proofs.lemmas.Bool.{false≢true}
use lib.Pointwise.{pointwise_decides}
use Rattle.dom_interval_meaning.specs.State.{Intervals, Empty, Within, slot_Decides, intervals_same, intervals_fed}

intervals_equal : (a b : Intervals) → intervals_same a b ≡ true → a ≡ b
intervals_equal Empty Empty h = refl
intervals_equal Empty (Within qs) h = absurd (false≢true h)
intervals_equal (Within rs) Empty h = absurd (false≢true h)
intervals_equal (Within rs) (Within qs) h = ap Within ((pointwise_decides slot_Decides rs qs).0 h)

intervals_self : (a : Intervals) → intervals_same a a ≡ true
intervals_self Empty = refl
intervals_self (Within rs) = (pointwise_decides slot_Decides rs rs).1 refl

pub intervals_Decides : (a b : Intervals) → Decides (intervals_same a b) (a ≡ b)
intervals_Decides a b = (intervals_equal a b, λ e. subst (λ z. intervals_same a z ≡ true) e (intervals_self a))

pub intervals_equiv : IsEquivalence intervals_same
intervals_equiv = decided intervals_same intervals_Decides

pub intervals_per : IsPartialEquivalence intervals_same
intervals_per = partial_equiv_from_equiv intervals_equiv

pub intervals_fed-same : (a b : Intervals) → intervals_same a b ≡ true → intervals_fed a ≡ intervals_fed b
intervals_fed-same a b h = ap intervals_fed (intervals_equal a b h)
