-- The readers of whole texts are exact.
use Rattle.std.proofs.Common.{◌≡◌, ℕ, ◌+◌, List, refl, sym, ap, subst}
use Rattle.imp_lex.specs.declared.token.TokenKind.{TokenKind}
use Rattle.imp_syntax.specs.Plain.{Statement, Statements, block_of}
use Rattle.imp_parse.specs.Statements.{IsSimple}
use Rattle.imp_parse.specs.StatementReading.{simple_at, numbered_at, body_at}
use Rattle.imp_parse.specs.Languages.{SimpleText, BodyText}
use Rattle.imp_parse.proofs.Exact.{Exact}
use Rattle.imp_parse.proofs.Pack.{Loose, read_some, never, give, made_of, made}
use Rattle.imp_parse.proofs.Layers.{alone, alone_exact}
use Rattle.imp_parse.proofs.Simples.{simple_exact, simple_some}
use Rattle.imp_parse.proofs.Blocks.{StatementsIn, statements_on, some_statements}

abbrev numbered_pack : ℕ → Loose alone (Statement × ℕ) never
numbered_pack n = give (read_some (IsSimple n) never (simple_at n) (simple_exact n) (simple_some n)) (λ s. (s, n + 1))

simple_to : (n : ℕ) (w : List TokenKind) (s : Statement × ℕ) → (numbered_pack n).lang w s → SimpleText n w s
simple_to n w s g = let q = made_of (λ x. (x, n + 1)) (IsSimple n) w s g in subst (SimpleText n w) q.2 (q.1, refl)

simple_from : (n : ℕ) (w : List TokenKind) (s : Statement × ℕ) → SimpleText n w s → (numbered_pack n).lang w s
simple_from n w s g =
    let same : (s.0, n + 1) ≡ s = ap (λ (j : ℕ). (s.0, j)) (sym g.1) in
    subst ((numbered_pack n).lang w) same (made (λ x. (x, n + 1)) (IsSimple n) w s.0 g.0)

pub numbered_exact : (n j : ℕ) → Exact j (SimpleText n) never (numbered_at n)
numbered_exact n j = alone_exact (numbered_pack n) (SimpleText n) (numbered_at n) (simple_to n) (simple_from n) (λ ts. refl) j

abbrev as_block : List Statement × ℕ → Statements × ℕ
as_block ss = (block_of ss.0, ss.1)

abbrev body_pack : ℕ → Loose alone (Statements × ℕ) statements_on
body_pack n = give (some_statements n) as_block

body_to : (n : ℕ) (w : List TokenKind) (b : Statements × ℕ) → (body_pack n).lang w b → BodyText n w b
body_to n w b g = let q = made_of as_block (StatementsIn n) w b g in subst (BodyText n w) q.2 (q.0.0, q.1, refl)

body_from : (n : ℕ) (w : List TokenKind) (b : Statements × ℕ) → BodyText n w b → (body_pack n).lang w b
body_from n w b g =
    let same : as_block (g.0, b.1) ≡ b = ap (λ (x : Statements). (x, b.1)) g.2 in
    subst ((body_pack n).lang w) same (made as_block (StatementsIn n) w (g.0, b.1) g.1)

pub body_exact : (n j : ℕ) → Exact j (BodyText n) statements_on (body_at n)
body_exact n j = alone_exact (body_pack n) (BodyText n) (body_at n) (body_to n) (body_from n) (λ ts. refl) j
