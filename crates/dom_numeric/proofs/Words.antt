-- What gives a word is one.
use Rattle.std.proofs.Common.{◌≡◌, ◌≢◌, refl, sym, ◌∙◌, ℤ, pos, int_div, Bool, true, false, if◌then◌else◌}
use Rattle.std.proofs.lemmas.Bool.Decides.{Decides-int_eq}
use Rattle.std.specs.Ordering.{int_eq}
use Rattle.imp_words.specs.declared.fault.FaultKind.TheVariants.{Overflow, Zero}
use Rattle.concrete_sem.specs.Values.{Gives, Faults, is_word, IsWord}
use Rattle.concrete_sem.specs.Evaluation.{word as word_of, quotient}
use Rattle.concrete_sem.proofs.Numbers.{word_of as word-fits, gives_same}

-- what gives a word gives the number itself, which is one
pub word-gives : (z w : ℤ) → word_of z ≡ Gives w → (w ≡ z) × IsWord z
word-gives z w h = by (is_word z) refl h
  where
    by : (b : Bool) → is_word z ≡ b → (if b then Gives z else Faults Overflow) ≡ Gives w → (w ≡ z) × IsWord z
    by true e f = (sym (gives_same f), word-fits z e)
    by false e f = cc

pub quotient-gives : (x y w : ℤ) → quotient x y ≡ Gives w → (w ≡ int_div x y) × IsWord (int_div x y) × (y ≢ pos 0)
quotient-gives x y w h = by (int_eq y (pos 0)) refl h
  where
    by : (b : Bool) → int_eq y (pos 0) ≡ b → (if b then Faults Zero else word_of (int_div x y)) ≡ Gives w → (w ≡ int_div x y) × IsWord (int_div x y) × (y ≢ pos 0)
    by true e f = cc
    by false e f = let p = word-gives (int_div x y) w f in (p.0, p.1, λ z. let t : int_eq y (pos 0) ≡ true = (Decides-int_eq y (pos 0)).1 z in let u : true ≡ false = sym t ∙ e in cc)
