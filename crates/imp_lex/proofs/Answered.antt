-- The answer of a text, as a function, and that the relations say the same.
use Rattle.std.proofs.Common.{◌≡◌, ℕ, zero, suc, ◌+◌, ◌<◌, List, [], ◌∷◌, ◌++◌, length, drop, refl, sym, ap, ◌∙◌, arith, append_assoc, length-drop}
use Rattle.std.specs.Prelude.{Ok, Err}
use Rattle.std.proofs.lemmas.List.{append-nil, drop-drop}
use Rattle.imp_lex.specs.declared.token.TokenKind.{TokenKind}
use Rattle.imp_lex.specs.declared.token.Token.{Token}
use Rattle.imp_lex.specs.declared.error.Fault.{Fault}
use Rattle.imp_lex.specs.declared.front.Front.{Front}
use Rattle.imp_lex.specs.declared.front.Front.TheVariants as p
use Rattle.imp_lex.specs.Front.{front_of, IsBounded}
use Rattle.imp_lex.specs.Lexing.{Answer, token_at, error_at, IsLexed, done, skip, word, IsFaulty, here, pass, past}
use Rattle.imp_lex.proofs.Fronts.{front_bounded}

-- an answer after these tokens
abbrev pub behind : List Token → Answer → Answer
behind found (Ok tokens) = Ok (found ++ tokens)
behind found (Err error) = Err error

-- the answer of a text with this at its front, where read gives that of a text after it
abbrev pub step : Front → ℕ → List ℕ → (ℕ → List ℕ → Answer) → Answer
step p.End at text read = Ok []
step (p.Skip n) at text read = read (at + n) (drop n text)
step (p.Takes n kind) at text read = behind (token_at at n kind ∷ []) (read (at + n) (drop n text))
step (p.Bad fault) at text read = Err (error_at fault at)

-- the answer in so many steps at most
abbrev pub answer_within : ℕ → ℕ → List ℕ → Answer
answer_within zero at text = Ok []
answer_within (suc most) at text = step (front_of text) at text (answer_within most)

-- each step passes a byte at least
unfoldable pub answer_of : ℕ → List ℕ → Answer
answer_of at text = answer_within (suc (length text)) at text

step_same : (front : Front) (at : ℕ) (text : List ℕ) (read other : ℕ → List ℕ → Answer) → IsBounded (length text) front → ((from : ℕ) (rest : List ℕ) → length rest < length text → read from rest ≡ other from rest) → step front at text read ≡ step front at text other
step_same p.End at text read other bounded same = refl
step_same (p.Skip n) at text read other bounded same = same (at + n) (drop n text) (omega (arith, length-drop n text, bounded.0, bounded.1))
step_same (p.Takes n kind) at text read other bounded same = ap (behind (token_at at n kind ∷ [])) (same (at + n) (drop n text) (omega (arith, length-drop n text, bounded.0, bounded.1)))
step_same (p.Bad fault) at text read other bounded same = refl

enough : (m n at : ℕ) (text : List ℕ) → length text < m → length text < n → answer_within m at text ≡ answer_within n at text
enough zero n at text a c = absurd (omega arith)
enough (suc m) zero at text a c = absurd (omega arith)
enough (suc m) (suc n) at text a c =
    step_same (front_of text) at text (answer_within m) (answer_within n) (front_bounded text) (λ from rest le. enough m n from rest (omega arith) (omega arith))

pub one_step : (at : ℕ) (text : List ℕ) → answer_of at text ≡ step (front_of text) at text answer_of
unfolding answer_of
one_step at text =
    step_same (front_of text) at text (answer_within (length text)) answer_of (front_bounded text) (λ from rest le. enough (length text) (suc (length rest)) from rest le (omega arith))

pub stepped : (at : ℕ) (text : List ℕ) (front : Front) → front_of text ≡ front → answer_of at text ≡ step front at text answer_of
stepped at text front e = one_step at text ∙ ap (λ (front : Front). step front at text answer_of) e

-- ---- the relations

pub lexed_only : (at : ℕ) (text : List ℕ) (tokens : List Token) → IsLexed at text tokens → answer_of at text ≡ Ok tokens
lexed_only at text tokens (done e) = stepped at text p.End e
lexed_only at text tokens (skip {n = n} e lexed) = stepped at text (p.Skip n) e ∙ lexed_only (at + n) (drop n text) tokens lexed
lexed_only at text tokens (word {n = n} {kind = kind} {tokens = more} e lexed) = stepped at text (p.Takes n kind) e ∙ ap (behind (token_at at n kind ∷ [])) (lexed_only (at + n) (drop n text) more lexed)

pub faulty_only : (at : ℕ) (text : List ℕ) (fault : Fault) (place : ℕ) → IsFaulty at text fault place → answer_of at text ≡ Err (error_at fault place)
faulty_only at text fault place (here e) = stepped at text (p.Bad fault) e
faulty_only at text fault place (pass {n = n} e faulty) = stepped at text (p.Skip n) e ∙ faulty_only (at + n) (drop n text) fault place faulty
faulty_only at text fault place (past {n = n} {kind = kind} e faulty) = stepped at text (p.Takes n kind) e ∙ ap (behind (token_at at n kind ∷ [])) (faulty_only (at + n) (drop n text) fault place faulty)

-- the text from a place on has these tokens, or this fault
abbrev pub Has : ℕ → List ℕ → Answer → Type 0
Has at text (Ok tokens) = IsLexed at text tokens
Has at text (Err error) = (fault : Fault) × (place : ℕ) × (error_at fault place ≡ error) × IsFaulty at text fault place

has_skip : (at n : ℕ) (text : List ℕ) (answer : Answer) → front_of text ≡ p.Skip n → Has (at + n) (drop n text) answer → Has at text answer
has_skip at n text (Ok tokens) e h = skip e h
has_skip at n text (Err error) e h = (h.0, h.1, h.2, pass e h.3)

has_word : (at n : ℕ) (kind : TokenKind) (text : List ℕ) (answer : Answer) → front_of text ≡ p.Takes n kind → Has (at + n) (drop n text) answer → Has at text (behind (token_at at n kind ∷ []) answer)
has_word at n kind text (Ok tokens) e h = word e h
has_word at n kind text (Err error) e h = (h.0, h.1, h.2, past e h.3)

has_step : (front : Front) (at : ℕ) (text : List ℕ) (read : ℕ → List ℕ → Answer) → front_of text ≡ front → IsBounded (length text) front → ((from : ℕ) (rest : List ℕ) → length rest < length text → Has from rest (read from rest)) → Has at text (step front at text read)
has_step p.End at text read e bounded go = done e
has_step (p.Skip n) at text read e bounded go = has_skip at n text (read (at + n) (drop n text)) e (go (at + n) (drop n text) (omega (arith, length-drop n text, bounded.0, bounded.1)))
has_step (p.Takes n kind) at text read e bounded go = has_word at n kind text (read (at + n) (drop n text)) e (go (at + n) (drop n text) (omega (arith, length-drop n text, bounded.0, bounded.1)))
has_step (p.Bad fault) at text read e bounded go = (fault, at, refl, here e)

has_within : (most at : ℕ) (text : List ℕ) → length text < most → Has at text (answer_within most at text)
has_within zero at text le = absurd (omega arith)
has_within (suc most) at text le = has_step (front_of text) at text (answer_within most) refl (front_bounded text) (λ from rest less. has_within most from rest (omega arith))

pub has_answer : (at : ℕ) (text : List ℕ) → Has at text (answer_of at text)
unfolding answer_of
has_answer at text = has_within (suc (length text)) at text (omega arith)

-- ---- the loop

-- the loop has found these tokens before the place
abbrev pub HasFound : List ℕ → List Token → ℕ → Type 0
HasFound text found at = answer_of 0 text ≡ behind found (answer_of at (drop at text))

behind_behind : (found : List Token) (token : Token) (answer : Answer) → behind found (behind (token ∷ []) answer) ≡ behind (found ++ token ∷ []) answer
behind_behind found token (Ok tokens) = ap Ok (sym (append_assoc found (token ∷ []) tokens))
behind_behind found token (Err error) = refl

pub begun : (text : List ℕ) → HasFound text [] 0
begun text = behind_nothing (answer_of 0 text)
  where
    behind_nothing : (answer : Answer) → answer ≡ behind [] answer
    behind_nothing (Ok tokens) = refl
    behind_nothing (Err error) = refl

pub skips : (text : List ℕ) (found : List Token) (at n : ℕ) → front_of (drop at text) ≡ p.Skip n → HasFound text found at → HasFound text found (at + n)
skips text found at n e so_far = so_far ∙ ap (behind found) (stepped at (drop at text) (p.Skip n) e ∙ ap (answer_of (at + n)) (drop-drop n at text))

pub takes : (text : List ℕ) (found : List Token) (at n : ℕ) (kind : TokenKind) → front_of (drop at text) ≡ p.Takes n kind → HasFound text found at → HasFound text (found ++ token_at at n kind ∷ []) (at + n)
takes text found at n kind e so_far =
    so_far ∙ ap (behind found) (stepped at (drop at text) (p.Takes n kind) e ∙ ap (λ rest. behind (token_at at n kind ∷ []) (answer_of (at + n) rest)) (drop-drop n at text)) ∙ behind_behind found (token_at at n kind) (answer_of (at + n) (drop (at + n) text))

pub refuses : (text : List ℕ) (found : List Token) (at : ℕ) (fault : Fault) → front_of (drop at text) ≡ p.Bad fault → HasFound text found at → answer_of 0 text ≡ Err (error_at fault at)
refuses text found at fault e so_far = so_far ∙ ap (behind found) (stepped at (drop at text) (p.Bad fault) e)

pub all_found : (text : List ℕ) (found : List Token) (at : ℕ) → front_of (drop at text) ≡ p.End → HasFound text found at → answer_of 0 text ≡ Ok found
all_found text found at e so_far = so_far ∙ ap (behind found) (stepped at (drop at text) p.End e) ∙ ap Ok (append-nil found)
