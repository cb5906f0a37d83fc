-- The line of an answer as the code puts it together, and that a yes is told from the others.
use Rattle.std.proofs.Common.{◌≡◌, ℕ, List, [], ◌∷◌, ◌++◌, codes, reverse, refl, sym, ap, ◌∙◌, arith}
use Rattle.std.specs.Prelude.{decimal}
use Rattle.std.proofs.lemmas.List.{reverse-reverse}
use Rattle.json.specs.Print.{quoted}
use Rattle.serde_json.specs.Written.{compact_text}
use Rattle.serde_json.proofs.OnLiterals.{serde_json_on_literals}
use Rattle.request_json.specs.Replies.{count, list_of}
use Rattle.request_json.proofs.WritingLemmas.{two, four}
use Rattle.cert_meaning.specs.Followed.{Why}
use Rattle.cert_lines.specs.Verify.{Verified, Yes, BadLine, No, why_name, verified_data, verified_line}

pub yes_text : (old : List ℕ) → old ++ codes "{\"verify\":\"yes\"}" ≡ old ++ compact_text (verified_data Yes)
unfolding serde_json_on_literals verified_data
yes_text old = refl

pub bad_text : (old : List ℕ) (line : ℕ) → ((old ++ codes "{\"line\":") ++ decimal line) ++ codes ",\"verify\":\"no\"}" ≡ old ++ compact_text (verified_data (BadLine line))
unfolding serde_json_on_literals verified_data
bad_text old line = two old (codes "{\"line\":") (decimal line) (codes ",\"verify\":\"no\"}")

no_alone : (old : List ℕ) (n : ℕ) (z : List ℕ) (why : Why) →
    ((((((old ++ codes "{\"at\":") ++ decimal n) ++ codes ",\"chain\":") ++ compact_text (list_of count (reverse z))) ++ codes ",\"verify\":\"no\",\"why\":") ++ quoted (why_name why)) ++ codes "}" ≡ old ++ compact_text (verified_data (No n z why))
unfolding serde_json_on_literals verified_data
no_alone old n z why = four old (codes "{\"at\":") (decimal n) (codes ",\"chain\":") (compact_text (list_of count (reverse z))) (codes ",\"verify\":\"no\",\"why\":") (quoted (why_name why)) (codes "}")

pub no_text : (old : List ℕ) (n : ℕ) (chain : List ℕ) (why : Why) →
    ((((((old ++ codes "{\"at\":") ++ decimal n) ++ codes ",\"chain\":") ++ compact_text (list_of count chain)) ++ codes ",\"verify\":\"no\",\"why\":") ++ quoted (why_name why)) ++ codes "}" ≡ old ++ compact_text (verified_data (No n (reverse chain) why))
no_text old n chain why =
    ap (λ z. ((((((old ++ codes "{\"at\":") ++ decimal n) ++ codes ",\"chain\":") ++ compact_text (list_of count z)) ++ codes ",\"verify\":\"no\",\"why\":") ++ quoted (why_name why)) ++ codes "}") (sym (reverse-reverse chain))
    ∙ no_alone old n (reverse chain) why

third : List ℕ → ℕ
third [] = 0
third (a ∷ []) = 0
third (a ∷ (b ∷ [])) = 0
third (a ∷ (b ∷ (c ∷ ds))) = c

-- the line of a yes is that of nothing else
pub yes_alone : (v : Verified) → verified_line v ≡ verified_line Yes → v ≡ Yes
unfolding serde_json_on_literals verified_data third
yes_alone Yes e = refl
yes_alone (BadLine line) e = let k : 108 ≡ 118 = ap third e in absurd (omega (arith, k))
yes_alone (No n z why) e = let k : 97 ≡ 118 = ap third e in absurd (omega (arith, k))
