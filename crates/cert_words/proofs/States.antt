-- States whose texts are lists of words are put and taken back.
use Rattle.std.specs.Prelude.{◌≡◌, ◌<◌, ◌^◌, ℕ, ℤ, List, [], ◌∷◌, length, Option, Some, None, Bool, true}
use Rattle.std.proofs.Common.{refl, sym, ap, ◌∙◌, subst}
use Rattle.imp_slots.specs.Plain.{Layout}
use Rattle.concrete_sem.specs.Values.{Variables, Heap}
use Rattle.domain_laws.specs.Operations.{Operations}
use Rattle.cert_meaning.specs.Portable.{IsSoundOrder, PortableLaws}
use Rattle.cert_words.specs.Words.{words_text, words_of}
use Rattle.cert_words.specs.Claims.{AreSmall}
use Rattle.cert_words.specs.States.{state_if, by_words, AreWords}
use Rattle.cert_words.proofs.Back.{words_back, reading_exact}

module _ {S : Type 0} (dom : Operations S) (covers : S → Heap → List Variables → Type 0) (told : S → List (Option ℤ)) (state_of : List Layout → List (Option ℤ) → Option S) (leq : S → S → Bool) (words : AreWords dom told state_of) where
  read_back : (ws : List (Option ℤ)) → (ws ≡ [] → ⊥) → AreSmall ws → words_of (words_text ws) ≡ Some ws
  read_back [] some small = absurd (some refl)
  read_back (w ∷ ws) some small = words_back w ws small.0 small.1

  taken_back : (ls : List Layout) (s : S) → dom.fits s ls ≡ true → length (words_text (told s)) < 2 ^ 64 → state_if (state_of ls) (words_of (words_text (told s))) ≡ Some s
  taken_back ls s f h = ap (state_if (state_of ls)) (read_back (told s) (words.some s) (words.small ls s f h)) ∙ words.back ls s f (words.small ls s f h)

  exactly : (ls : List Layout) (t : List ℕ) (s : S) (o : Option (List (Option ℤ))) → words_of t ≡ o → state_if (state_of ls) o ≡ Some s → (dom.fits s ls ≡ true) × (words_text (told s) ≡ t)
  exactly ls t s None e k = absurd cc
  exactly ls t s (Some ws) e k = let x = words.exact ls ws s k in (x.0, ap words_text x.1 ∙ reading_exact t ws e)

  pub words_are_portable : IsSoundOrder dom covers leq → PortableLaws dom covers (by_words told state_of leq)
  words_are_portable order = record {
    back = taken_back;
    refused = λ ls t s h none f e. let k : None ≡ Some s = sym none ∙ ap (λ t. state_if (state_of ls) (words_of t)) (sym e) ∙ taken_back ls s f (subst (λ t. length t < 2 ^ 64) (sym e) h) in cc;
    taken = λ ls t s k. exactly ls t s (words_of t) refl k;
    below = order;
  }
