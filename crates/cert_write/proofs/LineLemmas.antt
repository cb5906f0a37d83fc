-- The lines as the code puts them together.
use Rattle.std.proofs.Common.{◌≡◌, ℕ, List, ◌++◌, codes, reverse, sym, ap}
use Rattle.std.specs.Prelude.{decimal}
use Rattle.std.proofs.lemmas.List.{reverse-reverse}
use Rattle.json.specs.Print.{quoted}
use Rattle.serde_json.specs.Written.{compact_text}
use Rattle.serde_json.proofs.OnLiterals.{serde_json_on_literals}
use Rattle.request_json.specs.declared.reply.Reply.TheVariants as r
use Rattle.request_json.specs.Replies.{count, list_of, reply_fields, reply_text}
use Rattle.request_json.proofs.WritingLemmas.{four}
use Rattle.cert_lines.specs.Certificate.{Gives, certificate_text}
use Rattle.cert_write.specs.Writing.{line_data}

pub state_text : (old : List ℕ) (n : ℕ) (chain state : List ℕ) →
    ((((((old ++ codes "{\"at\":") ++ decimal n) ++ codes ",\"chain\":") ++ compact_text (list_of count chain)) ++ codes ",\"state\":") ++ quoted state) ++ codes "}" ≡ old ++ compact_text (line_data n chain state)
unfolding serde_json_on_literals
state_text old n chain state = four old (codes "{\"at\":") (decimal n) (codes ",\"chain\":") (compact_text (list_of count chain)) (codes ",\"state\":") (quoted state) (codes "}")

pub over_text : (n : ℕ) (chain : List ℕ) → reply_text (r.Over n chain) ≡ certificate_text (Gives n (reverse chain))
unfolding reply_text reply_fields
over_text n chain = ap (λ z. reply_text (r.Over n z)) (sym (reverse-reverse chain))
