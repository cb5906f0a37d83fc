-- States that can be written as a text and read back, and compared.
use Rattle.std.specs.Prelude.{◌≡◌, ◌<◌, ◌^◌, ℕ, ℤ, List, length, Option, Some, None, Bool, true}
use Rattle.imp_slots.specs.Plain.{Layout}
use Rattle.concrete_sem.specs.Values.{Variables, Heap}
use Rattle.concrete_sem.specs.Proper.{IsProper}
use Rattle.imp_chains.specs.Thresholds.{IsRising}
use Rattle.domain_laws.specs.Operations.{Operations}

pub record Portable (S : Type 0) : Type 0 where
  -- the text of a state
  pub put : S → List ℕ
  -- the state of frames with these layouts, the last one's first, that has this text
  pub take : List Layout → List ℕ → Option S
  -- whether the left state is found to describe nothing that the right one does not
  pub leq : S → S → Bool

-- What is found below describes no more, in frames with these layouts.
abbrev pub IsSoundOrder : {S : Type 0} → Operations S → (S → Heap → List Variables → Type 0) → (S → S → Bool) → Type 0
IsSoundOrder {S} dom covers leq =
    (ls : List Layout) (s t : S) (h : Heap) (vs : List Variables) → dom.fits s ls ≡ true → dom.fits t ls ≡ true → IsProper h vs ls → leq s t ≡ true → covers s h vs → covers t h vs

-- What is put is taken back, what has no state is refused, and the order is sound. Texts have fewer than 2^64 bytes, as
-- all have that memory holds.
pub record PortableLaws {S : Type 0} (dom : Operations S) (covers : S → Heap → List Variables → Type 0) (port : Portable S) : Type 0 where
  pub back : (ls : List Layout) (s : S) → dom.fits s ls ≡ true → length (port.put s) < 2 ^ 64 → port.take ls (port.put s) ≡ Some s
  pub refused : (ls : List Layout) (t : List ℕ) (s : S) → length t < 2 ^ 64 → port.take ls t ≡ None → dom.fits s ls ≡ true → port.put s ≡ t → ⊥
  pub taken : (ls : List Layout) (t : List ℕ) (s : S) → port.take ls t ≡ Some s → (dom.fits s ls ≡ true) × (port.put s ≡ t)
  pub below : IsSoundOrder dom covers port.leq

-- An order of the states that fit, in which joins and widenings are above both sides.
pub record HasUpperBounds {S : Type 0} (dom : Operations S) (leq : S → S → Bool) : Type 0 where
  pub self : (ls : List Layout) (s : S) → dom.fits s ls ≡ true → leq s s ≡ true
  pub trans : (ls : List Layout) (s t u : S) → dom.fits s ls ≡ true → dom.fits t ls ≡ true → dom.fits u ls ≡ true → leq s t ≡ true → leq t u ≡ true → leq s u ≡ true
  pub join_left : (ls : List Layout) (s t : S) → dom.fits s ls ≡ true → dom.fits t ls ≡ true → leq s (dom.join s t) ≡ true
  pub join_right : (ls : List Layout) (s t : S) → dom.fits s ls ≡ true → dom.fits t ls ≡ true → leq t (dom.join s t) ≡ true
  pub widen_left : (thresholds : List ℤ) (ls : List Layout) (s t : S) → IsRising thresholds → dom.fits s ls ≡ true → dom.fits t ls ≡ true → leq s (dom.widen thresholds s t) ≡ true
  pub widen_right : (thresholds : List ℤ) (ls : List Layout) (s t : S) → IsRising thresholds → dom.fits s ls ≡ true → dom.fits t ls ≡ true → leq t (dom.widen thresholds s t) ≡ true
