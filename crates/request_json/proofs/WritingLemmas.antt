-- Lines as code puts them together, piece by piece.
use Rattle.std.proofs.Common.{◌≡◌, ℕ, List, ◌∷◌, ◌++◌, codes, append_assoc, ◌∙◌}

-- pieces, put one after the other
pub two : (old a x b : List ℕ) → ((old ++ a) ++ x) ++ b ≡ old ++ (a ++ (x ++ b))
two old a x b = append_assoc (old ++ a) x b ∙ append_assoc old a (x ++ b)

three : (old a x b y c : List ℕ) → ((((old ++ a) ++ x) ++ b) ++ y) ++ c ≡ old ++ (a ++ (x ++ (b ++ (y ++ c))))
three old a x b y c = two ((old ++ a) ++ x) b y c ∙ two old a x (b ++ (y ++ c))

pub four : (old a x b y c z d : List ℕ) → ((((((old ++ a) ++ x) ++ b) ++ y) ++ c) ++ z) ++ d ≡ old ++ (a ++ (x ++ (b ++ (y ++ (c ++ (z ++ d))))))
four old a x b y c z d = two ((((old ++ a) ++ x) ++ b) ++ y) c z d ∙ three old a x b y (c ++ (z ++ d))

-- lists
pub list_text : (old first rest : List ℕ) → ((old ++ codes "[") ++ first) ++ rest ≡ old ++ 91 ∷ (first ++ rest)
list_text old first rest = two old (codes "[") first rest
