-- Texts of words after others.
use Rattle.std.specs.Prelude.{◌≡◌, ℤ, List, [], ◌∷◌, ◌++◌, Option}
use Rattle.std.proofs.Common.{refl, sym, ap, ◌∙◌, append_assoc, append-nil}
use Rattle.cert_words.specs.Words.{word_text, more_text}

pub more_both : (vs ws : List (Option ℤ)) → more_text (vs ++ ws) ≡ more_text vs ++ more_text ws
more_both [] ws = refl
more_both (v ∷ vs) ws = ap (λ t. 32 ∷ (word_text v ++ t)) (more_both vs ws) ∙ ap (λ t. 32 ∷ t) (sym (append_assoc (word_text v) (more_text vs) (more_text ws)))

-- with one word more
pub more_last : (ws : List (Option ℤ)) (w : Option ℤ) → more_text (ws ++ w ∷ []) ≡ more_text ws ++ (32 ∷ word_text w)
more_last ws w = more_both ws (w ∷ []) ∙ ap (λ t. more_text ws ++ (32 ∷ t)) (append-nil (word_text w))
