-- States whose texts are lists of words.
use Rattle.std.specs.Prelude.{◌≡◌, ◌<◌, ◌^◌, ℤ, List, [], length, Option, Some, None, Bool, true}
use Rattle.imp_slots.specs.Plain.{Layout}
use Rattle.domain_laws.specs.Operations.{Operations}
use Rattle.cert_meaning.specs.Portable.{Portable}
use Rattle.cert_words.specs.Words.{words_text, words_of}
use Rattle.cert_words.specs.Claims.{AreSmall}

-- the state of these words, where there are words
abbrev pub state_if : {S : Type 0} → (List (Option ℤ) → Option S) → Option (List (Option ℤ)) → Option S
state_if f None = None
state_if f (Some ws) = f ws

-- States by their words: `told` gives the words of a state, `state_of` the state that fits with these words.
abbrev pub by_words : {S : Type 0} → (told : S → List (Option ℤ)) → (state_of : List Layout → List (Option ℤ) → Option S) → (leq : S → S → Bool) → Portable S
by_words told state_of leq = record { put = λ s. words_text (told s); take = λ ls t. state_if (state_of ls) (words_of t); leq = leq }

-- The words of a state that fits are small where its text is one that memory holds, and give it back where they are; and words
-- that give a state are those of it, which fits.
pub record AreWords {S : Type 0} (dom : Operations S) (told : S → List (Option ℤ)) (state_of : List Layout → List (Option ℤ) → Option S) : Type 0 where
  pub some : (s : S) → told s ≡ [] → ⊥
  pub small : (ls : List Layout) (s : S) → dom.fits s ls ≡ true → length (words_text (told s)) < 2 ^ 64 → AreSmall (told s)
  pub back : (ls : List Layout) (s : S) → dom.fits s ls ≡ true → AreSmall (told s) → state_of ls (told s) ≡ Some s
  pub exact : (ls : List Layout) (ws : List (Option ℤ)) (s : S) → state_of ls ws ≡ Some s → (dom.fits s ls ≡ true) × (told s ≡ ws)
