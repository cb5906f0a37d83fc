-- The texts of words are UTF-8.
use Rattle.std.specs.Prelude.{suc, ℤ, pos, negsuc, List, [], ◌∷◌, ◌++◌, Option, Some, None, Bool, decimal, codes}
use Rattle.std.specs.Str.{IsUtf8}
use Rattle.std.proofs.Common.{refl, arith}
use Rattle.std.proofs.lemmas.Str.{IsUtf8-append, IsUtf8-nil}
use Rattle.json.proofs.Printed.Utf8.{IsUtf8-are_ascii}
use Rattle.imp_slots.specs.Plain.{Layout}
use Rattle.domain_laws.specs.Operations.{Operations}
use Rattle.cert_words.specs.Words.{word_text, more_text, words_text}
use Rattle.cert_words.specs.Claims.{IsSmall, AreSmall}
use Rattle.cert_words.specs.States.{by_words, AreWords}
use Rattle.cert_accepted.specs.Accepted.{PutsUtf8}
use Rattle.cert_accepted.proofs.OneLine.{decimal_line}

word_utf8 : (w : Option ℤ) → IsSmall w → IsUtf8 (word_text w)
word_utf8 None h = IsUtf8-are_ascii (codes "n") refl
word_utf8 (Some (pos n)) h = (decimal_line n (omega (arith, h))).utf8
word_utf8 (Some (negsuc n)) h = IsUtf8-append (45 ∷ []) (decimal (suc n)) (IsUtf8-are_ascii (45 ∷ []) refl) (decimal_line (suc n) (omega (arith, h))).utf8

more_utf8 : (ws : List (Option ℤ)) → AreSmall ws → IsUtf8 (more_text ws)
more_utf8 [] h = IsUtf8-nil
more_utf8 (w ∷ ws) h =
    IsUtf8-append (32 ∷ []) (word_text w ++ more_text ws) (IsUtf8-are_ascii (32 ∷ []) refl) (IsUtf8-append (word_text w) (more_text ws) (word_utf8 w h.0) (more_utf8 ws h.1))

words_utf8 : (ws : List (Option ℤ)) → AreSmall ws → IsUtf8 (words_text ws)
words_utf8 [] h = IsUtf8-nil
words_utf8 (w ∷ ws) h = IsUtf8-append (word_text w) (more_text ws) (word_utf8 w h.0) (more_utf8 ws h.1)

-- so are the texts of states that are lists of words
pub words_put_utf8 : {S : Type 0} (dom : Operations S) (told : S → List (Option ℤ)) (state_of : List Layout → List (Option ℤ) → Option S) (leq : S → S → Bool) → AreWords dom told state_of → PutsUtf8 dom (by_words told state_of leq)
words_put_utf8 dom told state_of leq words ls s fits short = words_utf8 (told s) (words.small ls s fits short)
