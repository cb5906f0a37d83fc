-- Parts that are added one after another make one text.
use Rattle.std.proofs.Common.{◌≡◌, ℕ, List, ◌++◌, append_assoc}

pub joined_2 : (t a b : List ℕ) → (t ++ a) ++ b ≡ t ++ (a ++ b)
joined_2 t a b = append_assoc t a b

pub joined_3 : (t a b c : List ℕ) → ((t ++ a) ++ b) ++ c ≡ t ++ ((a ++ b) ++ c)
joined_3 t a b c = simp append_assoc

pub joined_4 : (t a b c d : List ℕ) → (((t ++ a) ++ b) ++ c) ++ d ≡ t ++ (((a ++ b) ++ c) ++ d)
joined_4 t a b c d = simp append_assoc

pub joined_5 : (t a b c d e : List ℕ) → ((((t ++ a) ++ b) ++ c) ++ d) ++ e ≡ t ++ ((((a ++ b) ++ c) ++ d) ++ e)
joined_5 t a b c d e = simp append_assoc

pub joined_6 : (t a b c d e f : List ℕ) → (((((t ++ a) ++ b) ++ c) ++ d) ++ e) ++ f ≡ t ++ (((((a ++ b) ++ c) ++ d) ++ e) ++ f)
joined_6 t a b c d e f = simp append_assoc

pub joined_7 : (t a b c d e f g : List ℕ) → ((((((t ++ a) ++ b) ++ c) ++ d) ++ e) ++ f) ++ g ≡ t ++ ((((((a ++ b) ++ c) ++ d) ++ e) ++ f) ++ g)
joined_7 t a b c d e f g = simp append_assoc

pub joined_9 : (t a b c d e f g h i : List ℕ) → ((((((((t ++ a) ++ b) ++ c) ++ d) ++ e) ++ f) ++ g) ++ h) ++ i ≡ t ++ ((((((((a ++ b) ++ c) ++ d) ++ e) ++ f) ++ g) ++ h) ++ i)
joined_9 t a b c d e f g h i = simp append_assoc
