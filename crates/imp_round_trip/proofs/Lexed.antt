-- Texts and their tokens: pieces of text, each before any other text or before one that goes on with no byte of a word.
use Rattle.std.proofs.Common.{◌≡◌, ℕ, ◌+◌, Bool, true, false, List, [], ◌∷◌, ◌++◌, refl, sym, ap, subst, append_assoc}
use Rattle.std.specs.Prelude.{not, nat_eq, Some, None, codes}
use Rattle.imp_lex.specs.declared.token.Token.{Token}
use Rattle.imp_lex.specs.declared.token.TokenKind.{TokenKind}
use Rattle.imp_lex.specs.declared.token.TokenKind.TheVariants as k
use Rattle.imp_lex.specs.declared.token.Mark.{Mark}
use Rattle.imp_lex.specs.declared.token.Mark.TheVariants as m
use Rattle.imp_lex.specs.Kinds.{mark_of}
use Rattle.imp_lex.specs.Front.{front_of, is_word, longest}
use Rattle.imp_lex.specs.Lexing.{token_at, IsLexed, done, skip, word}
use Rattle.imp_parse.specs.Kinds.{kinds}

-- the text, wherever it stands, has tokens of these kinds
abbrev pub Lexes : List ℕ → List TokenKind → Type 0
Lexes text ks = (at : ℕ) → (tokens : List Token) × IsLexed at text tokens × (kinds tokens ≡ ks)

pub lexes_nothing : Lexes [] []
unfolding front_of
lexes_nothing at = ([], done refl, refl)

-- a blank before, or a token of n bytes
pub passes : (text rest : List ℕ) (ks : List TokenKind) → ((at : ℕ) (tokens : List Token) → IsLexed (at + 1) rest tokens → IsLexed at text tokens) → Lexes rest ks → Lexes text ks
passes text rest ks on h at = let r = h (at + 1) in (r.0, on at r.0 r.1, r.2)

pub takes : (n : ℕ) (kind : TokenKind) (text rest : List ℕ) (ks : List TokenKind) → ((at : ℕ) (tokens : List Token) → IsLexed (at + n) rest tokens → IsLexed at text (token_at at n kind ∷ tokens)) → Lexes rest ks → Lexes text (kind ∷ ks)
takes n kind text rest ks on h at = let r = h (at + n) in (token_at at n kind ∷ r.0, on at r.0 r.1, ap (λ (q : List TokenKind). kind ∷ q) r.2)

-- ---- pieces

-- the text has these tokens, before whatever stands after it
pub record Closed (text : List ℕ) (ks : List TokenKind) : Type 0 where
  pub on : (rest : List ℕ) (more : List TokenKind) → Lexes rest more → Lexes (text ++ rest) (ks ++ more)

-- no word goes on with this text
abbrev pub is_apart : List ℕ → Bool
is_apart [] = true
is_apart (b ∷ bs) = not (is_word b)

-- the text has these tokens, before what goes on with no byte of a word
pub record Open (text : List ℕ) (ks : List TokenKind) : Type 0 where
  pub on : (rest : List ℕ) (more : List TokenKind) → is_apart rest ≡ true → Lexes rest more → Lexes (text ++ rest) (ks ++ more)

-- the text begins with no byte of a word; or it does where what stands after it does
abbrev pub Apart : List ℕ → Type 0
Apart text = (rest : List ℕ) → is_apart (text ++ rest) ≡ true

abbrev pub StaysApart : List ℕ → Type 0
StaysApart text = (rest : List ℕ) → is_apart rest ≡ true → is_apart (text ++ rest) ≡ true

pub left_open : (text : List ℕ) (ks : List TokenKind) → Closed text ks → Open text ks
left_open text ks h = record { on = λ rest more e. h.on rest more }

pub nothing : Closed [] []
nothing = record { on = λ rest more h. h }

-- two pieces, each closed or open
joined : (x y rest : List ℕ) (u v more : List TokenKind) → Lexes (x ++ (y ++ rest)) (u ++ (v ++ more)) → Lexes ((x ++ y) ++ rest) ((u ++ v) ++ more)
joined x y rest u v more h = subst (λ (q : List TokenKind). Lexes ((x ++ y) ++ rest) q) (sym (append_assoc u v more)) (subst (λ (q : List ℕ). Lexes q (u ++ (v ++ more))) (sym (append_assoc x y rest)) h)

pub closed_closed : {x y : List ℕ} {u v : List TokenKind} → Closed x u → Closed y v → Closed (x ++ y) (u ++ v)
closed_closed {x = x} {y = y} {u = u} {v = v} g h = record { on = λ rest more l. joined x y rest u v more (g.on (y ++ rest) (v ++ more) (h.on rest more l)) }

pub closed_open : {x y : List ℕ} {u v : List TokenKind} → Closed x u → Open y v → Open (x ++ y) (u ++ v)
closed_open {x = x} {y = y} {u = u} {v = v} g h = record { on = λ rest more e l. joined x y rest u v more (g.on (y ++ rest) (v ++ more) (h.on rest more e l)) }

pub open_closed : {x y : List ℕ} {u v : List TokenKind} → Open x u → Apart y → Closed y v → Closed (x ++ y) (u ++ v)
open_closed {x = x} {y = y} {u = u} {v = v} g a h = record { on = λ rest more l. joined x y rest u v more (g.on (y ++ rest) (v ++ more) (a rest) (h.on rest more l)) }

pub open_open : {x y : List ℕ} {u v : List TokenKind} → Open x u → StaysApart y → Open y v → Open (x ++ y) (u ++ v)
open_open {x = x} {y = y} {u = u} {v = v} g a h = record { on = λ rest more e l. joined x y rest u v more (g.on (y ++ rest) (v ++ more) (a rest e) (h.on rest more e l)) }

-- the texts of three pieces stand to the left, their tokens to the right
pub open_closed_open : {x y z : List ℕ} {u v w : List TokenKind} → Open x u → Apart y → Closed y v → Open z w → Open ((x ++ y) ++ z) (u ++ (v ++ w))
open_closed_open {x = x} {y = y} {z = z} {u = u} {v = v} {w = w} g a h i = subst (λ (q : List TokenKind). Open ((x ++ y) ++ z) q) (append_assoc u v w) (closed_open (open_closed g a h) i)

pub retold : (text : List ℕ) {u v : List TokenKind} → u ≡ v → Closed text u → Closed text v
retold text e h = subst (λ (q : List TokenKind). Closed text q) e h

-- ---- blanks

pub space : Closed (32 ∷ []) []
unfolding front_of
space = record { on = λ rest more h. passes (32 ∷ rest) rest more (λ at tokens l. skip {n = 1} refl l) h }

pub line_feed : Closed (10 ∷ []) []
unfolding front_of
line_feed = record { on = λ rest more h. passes (10 ∷ rest) rest more (λ at tokens l. skip {n = 1} refl l) h }

-- ---- marks

-- a mark that goes on with no second byte
abbrev pub Single : ℕ → Mark → Type 0
Single b mark = (rest : List ℕ) → front_of (b ∷ rest) ≡ longest None (Some mark)

pub single : (b : ℕ) (mark : Mark) → Single b mark → Closed (b ∷ []) (k.Mark mark ∷ [])
single b mark is = record { on = λ rest more h. takes 1 (k.Mark mark) (b ∷ rest) rest more (λ at tokens l. word {n = 1} {kind = k.Mark mark} (is rest) l) h }

-- a mark with a space after it
abbrev pub Spaced : ℕ → Mark → Type 0
Spaced b mark = (rest : List ℕ) → front_of (b ∷ 32 ∷ rest) ≡ longest None (Some mark)

pub spaced : (b : ℕ) (mark : Mark) → Spaced b mark → Closed (b ∷ 32 ∷ []) (k.Mark mark ∷ [])
spaced b mark is = record { on = λ rest more h. takes 1 (k.Mark mark) (b ∷ 32 ∷ rest) (32 ∷ rest) more (λ at tokens l. word {n = 1} {kind = k.Mark mark} (is rest) l) (space.on rest more h) }

-- a mark of two bytes
abbrev pub Double : ℕ → ℕ → Mark → Type 0
Double b c mark = (rest : List ℕ) → front_of (b ∷ c ∷ rest) ≡ longest (Some mark) None

pub double : (b c : ℕ) (mark : Mark) → Double b c mark → Closed (b ∷ c ∷ []) (k.Mark mark ∷ [])
double b c mark is = record { on = λ rest more h. takes 2 (k.Mark mark) (b ∷ c ∷ rest) rest more (λ at tokens l. word {n = 2} {kind = k.Mark mark} (is rest) l) h }

open_parenthesis_front : Single 40 m.OpenParenthesis
unfolding front_of mark_of
open_parenthesis_front [] = refl
open_parenthesis_front (c ∷ rest) = refl

pub open_parenthesis : Closed (codes "(") (k.Mark m.OpenParenthesis ∷ [])
open_parenthesis = single 40 m.OpenParenthesis open_parenthesis_front

close_parenthesis_front : Single 41 m.CloseParenthesis
unfolding front_of mark_of
close_parenthesis_front [] = refl
close_parenthesis_front (c ∷ rest) = refl

pub close_parenthesis : Closed (codes ")") (k.Mark m.CloseParenthesis ∷ [])
close_parenthesis = single 41 m.CloseParenthesis close_parenthesis_front

open_brace_front : Single 123 m.OpenBrace
unfolding front_of mark_of
open_brace_front [] = refl
open_brace_front (c ∷ rest) = refl

pub open_brace : Closed (codes "{") (k.Mark m.OpenBrace ∷ [])
open_brace = single 123 m.OpenBrace open_brace_front

close_brace_front : Single 125 m.CloseBrace
unfolding front_of mark_of
close_brace_front [] = refl
close_brace_front (c ∷ rest) = refl

pub close_brace : Closed (codes "}") (k.Mark m.CloseBrace ∷ [])
close_brace = single 125 m.CloseBrace close_brace_front

open_bracket_front : Single 91 m.OpenBracket
unfolding front_of mark_of
open_bracket_front [] = refl
open_bracket_front (c ∷ rest) = refl

pub open_bracket : Closed (codes "[") (k.Mark m.OpenBracket ∷ [])
open_bracket = single 91 m.OpenBracket open_bracket_front

close_bracket_front : Single 93 m.CloseBracket
unfolding front_of mark_of
close_bracket_front [] = refl
close_bracket_front (c ∷ rest) = refl

pub close_bracket : Closed (codes "]") (k.Mark m.CloseBracket ∷ [])
close_bracket = single 93 m.CloseBracket close_bracket_front

colon_front : Single 58 m.Colon
unfolding front_of mark_of
colon_front [] = refl
colon_front (c ∷ rest) = refl

pub colon : Closed (codes ":") (k.Mark m.Colon ∷ [])
colon = single 58 m.Colon colon_front

semicolon_front : Single 59 m.Semicolon
unfolding front_of mark_of
semicolon_front [] = refl
semicolon_front (c ∷ rest) = refl

pub semicolon : Closed (codes ";") (k.Mark m.Semicolon ∷ [])
semicolon = single 59 m.Semicolon semicolon_front

comma_front : Single 44 m.Comma
unfolding front_of mark_of
comma_front [] = refl
comma_front (c ∷ rest) = refl

pub comma : Closed (codes ",") (k.Mark m.Comma ∷ [])
comma = single 44 m.Comma comma_front

dot_front : Single 46 m.Dot
unfolding front_of mark_of
dot_front [] = refl
dot_front (c ∷ rest) = refl

pub dot : Closed (codes ".") (k.Mark m.Dot ∷ [])
dot = single 46 m.Dot dot_front

plus_front : Single 43 m.Plus
unfolding front_of mark_of
plus_front [] = refl
plus_front (c ∷ rest) = refl

pub plus : Closed (codes "+") (k.Mark m.Plus ∷ [])
plus = single 43 m.Plus plus_front

star_front : Single 42 m.Star
unfolding front_of mark_of
star_front [] = refl
star_front (c ∷ rest) = refl

pub star : Closed (codes "*") (k.Mark m.Star ∷ [])
star = single 42 m.Star star_front

percent_front : Single 37 m.Percent
unfolding front_of mark_of
percent_front [] = refl
percent_front (c ∷ rest) = refl

pub percent : Closed (codes "%") (k.Mark m.Percent ∷ [])
percent = single 37 m.Percent percent_front

equals_front : Spaced 61 m.Equals
unfolding front_of mark_of
equals_front rest = refl

pub equals : Closed (codes "= ") (k.Mark m.Equals ∷ [])
equals = spaced 61 m.Equals equals_front

less_front : Spaced 60 m.Less
unfolding front_of mark_of
less_front rest = refl

pub less : Closed (codes "< ") (k.Mark m.Less ∷ [])
less = spaced 60 m.Less less_front

greater_front : Spaced 62 m.Greater
unfolding front_of mark_of
greater_front rest = refl

pub greater : Closed (codes "> ") (k.Mark m.Greater ∷ [])
greater = spaced 62 m.Greater greater_front

minus_front : Spaced 45 m.Minus
unfolding front_of mark_of
minus_front rest = refl

pub minus : Closed (codes "- ") (k.Mark m.Minus ∷ [])
minus = spaced 45 m.Minus minus_front

slash_front : Spaced 47 m.Slash
unfolding front_of mark_of
slash_front rest = refl

pub slash : Closed (codes "/ ") (k.Mark m.Slash ∷ [])
slash = spaced 47 m.Slash slash_front

arrow_front : Double 45 62 m.Arrow
unfolding front_of mark_of
arrow_front rest = refl

pub arrow : Closed (codes "->") (k.Mark m.Arrow ∷ [])
arrow = double 45 62 m.Arrow arrow_front

equal_to_front : Double 61 61 m.EqualTo
unfolding front_of mark_of
equal_to_front rest = refl

pub equal_to : Closed (codes "==") (k.Mark m.EqualTo ∷ [])
equal_to = double 61 61 m.EqualTo equal_to_front

not_equal_to_front : Double 33 61 m.NotEqualTo
unfolding front_of mark_of
not_equal_to_front rest = refl

pub not_equal_to : Closed (codes "!=") (k.Mark m.NotEqualTo ∷ [])
not_equal_to = double 33 61 m.NotEqualTo not_equal_to_front

at_most_front : Double 60 61 m.AtMost
unfolding front_of mark_of
at_most_front rest = refl

pub at_most : Closed (codes "<=") (k.Mark m.AtMost ∷ [])
at_most = double 60 61 m.AtMost at_most_front

at_least_front : Double 62 61 m.AtLeast
unfolding front_of mark_of
at_least_front rest = refl

pub at_least : Closed (codes ">=") (k.Mark m.AtLeast ∷ [])
at_least = double 62 61 m.AtLeast at_least_front

both_front : Double 38 38 m.And
unfolding front_of mark_of
both_front rest = refl

pub both : Closed (codes "&&") (k.Mark m.And ∷ [])
both = double 38 38 m.And both_front

either_front : Double 124 124 m.Or
unfolding front_of mark_of
either_front rest = refl

pub either : Closed (codes "||") (k.Mark m.Or ∷ [])
either = double 124 124 m.Or either_front

-- a minus before anything but >
abbrev pub begins_greater : List ℕ → Bool
begins_greater [] = false
begins_greater (b ∷ rest) = nat_eq b 62

sign_front : (text : List ℕ) → begins_greater text ≡ false → front_of (45 ∷ text) ≡ longest None (Some m.Minus)
unfolding front_of mark_of
sign_front [] e = refl
sign_front (b ∷ rest) e = rw e refl

pub signs : (text : List ℕ) (ks : List TokenKind) → begins_greater text ≡ false → Lexes text ks → Lexes (45 ∷ text) (k.Mark m.Minus ∷ ks)
signs text ks e h = takes 1 (k.Mark m.Minus) (45 ∷ text) text ks (λ at tokens l. word {n = 1} {kind = k.Mark m.Minus} (sign_front text e) l) h

-- a not before (
not_front : (rest : List ℕ) → front_of (33 ∷ 40 ∷ rest) ≡ longest None (Some m.Not)
unfolding front_of mark_of
not_front rest = refl

pub not_group : Closed (codes "!(") (k.Mark m.Not ∷ k.Mark m.OpenParenthesis ∷ [])
not_group = record { on = λ rest more h. takes 1 (k.Mark m.Not) (33 ∷ 40 ∷ rest) (40 ∷ rest) (k.Mark m.OpenParenthesis ∷ more) (λ at tokens l. word {n = 1} {kind = k.Mark m.Not} (not_front rest) l) (open_parenthesis.on rest more h) }
