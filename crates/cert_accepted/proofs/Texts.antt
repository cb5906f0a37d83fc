-- The lines of a text that was written line by line.
use Rattle.std.specs.Prelude.{◌≡◌, ◌==◌, not, ℕ, List, [], ◌∷◌, ◌++◌, map, true, if◌then◌else◌}
use Rattle.std.proofs.Common.{refl, sym, ap, ◌∙◌, append_assoc, append-nil}
use Rattle.std.proofs.lemmas.Bool.{and_parts, not-true}
use Rattle.base_values.proofs.Members.{Each, here, there}
use Rattle.serde_json.specs.Data.{Data}
use Rattle.serde_json.specs.Written.{compact_text}
use Rattle.serve_script.specs.Lines.{whole_lines, last_part, last_line, all_lines}
use Rattle.cert_lines.specs.Certificate.{lines_text}
use Rattle.cert_accepted.proofs.OneLine.{has_no_end}

whole_over : (part t rest : List ℕ) → has_no_end t ≡ true → whole_lines part (t ++ 10 ∷ rest) ≡ (part ++ t) ∷ whole_lines [] rest
whole_over part [] rest h = ap (λ p. p ∷ whole_lines [] rest) (sym (append-nil part))
whole_over part (b ∷ t) rest h =
    let p = and_parts (not (b == 10)) (has_no_end t) h in
    ap (λ c. if c then part ∷ whole_lines [] (t ++ 10 ∷ rest) else whole_lines (part ++ b ∷ []) (t ++ 10 ∷ rest)) (not-true (b == 10) p.0) ∙
    whole_over (part ++ b ∷ []) t rest p.1 ∙ ap (λ q. q ∷ whole_lines [] rest) (append_assoc part (b ∷ []) t)

last_over : (part t rest : List ℕ) → has_no_end t ≡ true → last_part part (t ++ 10 ∷ rest) ≡ last_part [] rest
last_over part [] rest h = refl
last_over part (b ∷ t) rest h =
    let p = and_parts (not (b == 10)) (has_no_end t) h in
    ap (λ c. if c then last_part [] (t ++ 10 ∷ rest) else last_part (part ++ b ∷ []) (t ++ 10 ∷ rest)) (not-true (b == 10) p.0) ∙ last_over (part ++ b ∷ []) t rest p.1

abbrev Whole : Data → Type 0
Whole d = has_no_end (compact_text d) ≡ true

later : (d : Data) (ds : List Data) → Each Whole (d ∷ ds) → Each Whole ds
later d ds e = record { at = λ x m. e.at x (there m) }

wholes : (ds : List Data) → Each Whole ds → whole_lines [] (lines_text ds) ≡ map compact_text ds
wholes [] e = refl
wholes (d ∷ ds) e =
    ap (whole_lines []) (append_assoc (compact_text d) (10 ∷ []) (lines_text ds)) ∙ whole_over [] (compact_text d) (lines_text ds) (e.at d here) ∙
    ap (λ ls. compact_text d ∷ ls) (wholes ds (later d ds e))

none_left : (ds : List Data) → Each Whole ds → last_part [] (lines_text ds) ≡ []
none_left [] e = refl
none_left (d ∷ ds) e =
    ap (last_part []) (append_assoc (compact_text d) (10 ∷ []) (lines_text ds)) ∙ last_over [] (compact_text d) (lines_text ds) (e.at d here) ∙ none_left ds (later d ds e)

pub lines_back : (ds : List Data) → Each (λ d. has_no_end (compact_text d) ≡ true) ds → all_lines (lines_text ds) ≡ map compact_text ds
lines_back ds e =
    ap (λ ls. ls ++ last_line (last_part [] (lines_text ds))) (wholes ds e) ∙ ap (λ p. map compact_text ds ++ last_line p) (none_left ds e) ∙ append-nil (map compact_text ds)
