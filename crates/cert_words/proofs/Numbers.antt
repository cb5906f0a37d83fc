-- Words that are numbers, and words that are the same.
use Rattle.std.specs.Prelude.{◌≡◌, ℕ, ℤ, pos, negsuc, Option, Some, None, true}
use Rattle.std.proofs.Common.{sym, ap}
use Rattle.base_values.proofs.Cases.{by_test}
use Rattle.cert_words.specs.Words.{is_number}

-- a word that is this number
pub word_is : (n : ℕ) (w : Option ℤ) → is_number n w ≡ true → w ≡ Some (pos n)
word_is n None e = absurd cc
word_is n (Some (negsuc m)) e = absurd cc
word_is n (Some (pos m)) e = by_test n m (λ c. c ≡ true → Some (pos m) ≡ Some (pos n)) (λ k e. ap (λ n. Some (pos n)) (sym k)) (λ k e. absurd cc) e
