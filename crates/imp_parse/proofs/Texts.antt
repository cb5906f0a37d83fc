-- What the functions answer is what the text is, and each text is one thing.
use Rattle.std.proofs.Common.{◌≡◌, ◌⊎◌, ℕ, zero, suc, ◌+◌, ◌≤◌, Bool, inl, inr, List, [], ◌∷◌, length, take, Option, Some, None, Result, Ok, Err, refl, sym, ap, ◌∙◌, subst, arith}
use Rattle.std.specs.Prelude.{IfOk, IfErr}
use Rattle.std.proofs.lemmas.List.{length-map}
use Rattle.imp_lex.specs.declared.token.Token.{Token}
use Rattle.imp_lex.specs.declared.token.TokenKind.{TokenKind}
use Rattle.imp_lex.specs.declared.error.LexError.{LexError}
use Rattle.imp_lex.specs.declared.error.LexError.TheVariants as lex
use Rattle.imp_lex.specs.Lexing as lexing
use Rattle.imp_parse.specs.declared.error.Stopped.{Stopped}
use Rattle.imp_parse.specs.declared.error.Stopped.TheVariants as s
use Rattle.imp_parse.specs.declared.error.ParseError.{ParseError}
use Rattle.imp_parse.specs.declared.error.ParseError.TheVariants as e
use Rattle.imp_parse.specs.declared.limits.Nesting.{Nesting}
use Rattle.imp_parse.specs.Kinds.{kinds}
use Rattle.imp_parse.specs.Language.{Language}
use Rattle.imp_parse.specs.Reader.{Stop, Unexpected, Out}
use Rattle.imp_parse.specs.Limits.{too_deep}
use Rattle.imp_parse.specs.Answer.{IsTokenAnswer, IsAnswer, OfTokens, HasTree, IsFault, IsOnlyAnswer, HasOneAnswer}
use Rattle.imp_parse.specs.Judged.{Gives, finished, cut, judged, of_lex}
use Rattle.imp_parse.specs.Scanned.{IsScanned, IsLexicalFault}
use Rattle.imp_parse.specs.declared.scanned.Scanned.{Scanned}
use Rattle.imp_parse.proofs.Exact.{Reader, Exact}
use Rattle.imp_parse.proofs.Judge.{token_unique, one_tree, judged_answer, never_out}

-- ---- the tokens are no more than the bytes

pub few_tokens : (from most : ℕ) (tokens : List Token) → lexing.AreInOrder from most tokens → from ≤ most → from + length tokens ≤ most
few_tokens from most [] order le = omega arith
few_tokens from most (t ∷ tokens) order le =
    let rest : t.span.end + length tokens ≤ most = few_tokens t.span.end most tokens order.3 order.2 in
    omega (arith, order.0, order.1, rest)

pub kinds_take : (n : ℕ) (tokens : List Token) → kinds (take n tokens) ≡ take n (kinds tokens)
kinds_take zero tokens = refl
kinds_take (suc n) [] = refl
kinds_take (suc n) (t ∷ tokens) = ap (λ (q : List TokenKind). t.kind ∷ q) (kinds_take n tokens)

-- ---- what a function answers

pub record Answers {A : Type 0} (G : Language A) (p : Nesting) (text : List ℕ) (result : Result A ParseError) : Type 0 where
  pub parsed : IfOk result (HasTree G p text)
  pub faulty : IfErr result (IsFault G p text)
  pub only : IsOnlyAnswer G p text result

tokens_same : (text : List ℕ) (tokens : List Token) → lexing.IsOnlyAnswer text (Ok tokens) → (other : List Token) → lexing.IsLexed 0 text other → tokens ≡ other
tokens_same text tokens sole other lexed = elim (sole (Ok other) lexed) [
  | inl same ↦ cc
  | inr wrong ↦ absurd cc
]

no_fault : (text : List ℕ) (tokens : List Token) → lexing.IsOnlyAnswer text (Ok tokens) → (fault : LexError) → lexing.IsAnswer text (Err fault) → ⊥
no_fault text tokens sole fault is = elim (sole (Err fault) is) [
  | inl same ↦ absurd cc
  | inr wrong ↦ absurd cc
]

module _ {A : Type 0} (G : Language A) (p : Nesting) (one : (ts : List TokenKind) (a b : A) → G ts a → G ts b → a ≡ b) where
  of_tokens : (text : List ℕ) (tokens : List Token) → lexing.IsLexed 0 text tokens → (answer : Result A ParseError) → IsTokenAnswer G p (kinds tokens) answer → IsAnswer G p text answer
  of_tokens text tokens lexed (Ok x) g = (tokens, lexed, g)
  of_tokens text tokens lexed (Err (e.Unexpected i)) g = (tokens, lexed, g)
  of_tokens text tokens lexed (Err (e.TooDeep i)) g = (tokens, lexed, g)
  of_tokens text tokens lexed (Err (e.Lex fault)) g = absurd g
  of_tokens text tokens lexed (Err e.Memory) g = absurd g

  same_as : (text : List ℕ) (tokens : List Token) → lexing.IsOnlyAnswer text (Ok tokens) → (answer other : Result A ParseError) → IsTokenAnswer G p (kinds tokens) answer → OfTokens G p text other → answer ≡ other
  same_as text tokens sole answer other g h = token_unique G p one (kinds tokens) answer other g (subst (λ ts. IsTokenAnswer G p (kinds ts) other) (sym (tokens_same text tokens sole h.0 h.1)) h.2)

  only_this : (text : List ℕ) (tokens : List Token) → lexing.IsOnlyAnswer text (Ok tokens) → (answer : Result A ParseError) → IsTokenAnswer G p (kinds tokens) answer → (other : Result A ParseError) → IsAnswer G p text other → answer ≡ other
  only_this text tokens sole answer g (Ok x) h = same_as text tokens sole answer (Ok x) g h
  only_this text tokens sole answer g (Err (e.Unexpected i)) h = same_as text tokens sole answer (Err (e.Unexpected i)) g h
  only_this text tokens sole answer g (Err (e.TooDeep i)) h = same_as text tokens sole answer (Err (e.TooDeep i)) g h
  only_this text tokens sole answer g (Err (e.Lex fault)) h = absurd (no_fault text tokens sole fault h)
  only_this text tokens sole answer g (Err e.Memory) h = absurd h

  right_one : (text : List ℕ) (answer : Result A ParseError) → IsAnswer G p text answer → ((other : Result A ParseError) → IsAnswer G p text other → answer ≡ other) → Answers G p text answer
  right_one text (Ok x) is only = record { parsed = is; faulty = tt; only = λ other h. inl (only other h) }
  right_one text (Err (e.Unexpected i)) is only = record { parsed = tt; faulty = is; only = λ other h. inl (only other h) }
  right_one text (Err (e.TooDeep i)) is only = record { parsed = tt; faulty = is; only = λ other h. inl (only other h) }
  right_one text (Err (e.Lex fault)) is only = record { parsed = tt; faulty = is; only = λ other h. inl (only other h) }
  right_one text (Err e.Memory) is only = absurd is

  by_memory : (text : List ℕ) → Answers G p text (Err e.Memory)
  by_memory text = record { parsed = tt; faulty = tt; only = λ other h. inr refl }

  lexed_answer : (text : List ℕ) (tokens : List Token) → lexing.IsLexed 0 text tokens → lexing.IsOnlyAnswer text (Ok tokens) → (answer : Result A ParseError) → (answer ≡ Err e.Memory) ⊎ IsTokenAnswer G p (kinds tokens) answer → Answers G p text answer
  lexed_answer text tokens lexed sole answer (inl h) = subst (Answers G p text) (sym h) (by_memory text)
  lexed_answer text tokens lexed sole answer (inr g) = right_one text answer (of_tokens text tokens lexed answer g) (only_this text tokens sole answer g)

  -- a lexical fault
  fault_alone : (text : List ℕ) (fault : LexError) → lexing.IsOnlyAnswer text (Err fault) → (fault ≡ lex.Memory → ⊥) → (other : Result A ParseError) → IsAnswer G p text other → Err (e.Lex fault) ≡ other
  fault_alone text fault sole real (Ok x) h = elim (sole (Ok h.0) h.1) [ inl same ↦ absurd cc | inr wrong ↦ absurd (real cc) ]
  fault_alone text fault sole real (Err (e.Unexpected i)) h = elim (sole (Ok h.0) h.1) [ inl same ↦ absurd cc | inr wrong ↦ absurd (real cc) ]
  fault_alone text fault sole real (Err (e.TooDeep i)) h = elim (sole (Ok h.0) h.1) [ inl same ↦ absurd cc | inr wrong ↦ absurd (real cc) ]
  fault_alone text fault sole real (Err (e.Lex other)) h = elim (sole (Err other) h) [ inl same ↦ let is : fault ≡ other = cc in ap (λ q. Err (e.Lex q)) is | inr wrong ↦ absurd (real cc) ]
  fault_alone text fault sole real (Err e.Memory) h = absurd h

  lex_answer : (text : List ℕ) (fault : LexError) → lexing.IsFault text fault → lexing.IsOnlyAnswer text (Err fault) → Answers G p text (Err (of_lex fault))
  lex_answer text lex.Memory is sole = by_memory text
  lex_answer text (lex.BadByte at) is sole = right_one text (Err (e.Lex (lex.BadByte at))) is (fault_alone text (lex.BadByte at) sole (λ h. cc))
  lex_answer text (lex.NumberTooBig at) is sole = right_one text (Err (e.Lex (lex.NumberTooBig at))) is (fault_alone text (lex.NumberTooBig at) sole (λ h. cc))
  lex_answer text (lex.NameTooLong at) is sole = right_one text (Err (e.Lex (lex.NameTooLong at))) is (fault_alone text (lex.NameTooLong at) sole (λ h. cc))

module _ {A : Type 0} (G : Language A) (on : TokenKind → Bool) (r : Reader A) (exact : (n : ℕ) → Exact n G on r) (p : Nesting) where
  -- an answer by the reader, of the tokens that are not too deep
  pub scanned_answer : (text : List ℕ) (scanned : Scanned) → IsScanned p text scanned → (readable : List TokenKind) → readable ≡ cut scanned.deep (kinds scanned.tokens)
      → (read : Result A Stopped) → Gives (λ x. x) read (finished (r readable)) → (result : Result A ParseError) → result ≡ judged scanned.deep (length scanned.tokens) read → Answers G p text result
  scanned_answer text scanned is readable cuts read gives result judge =
      let ts : List TokenKind = kinds scanned.tokens in
      let len : length scanned.tokens ≡ length ts = sym (simp length-map) in
      let given : Gives (λ x. x) read (finished (r (cut (too_deep p ts) ts))) = subst (λ q. Gives (λ x. x) read (finished (r q))) (cuts ∙ ap (λ d. cut d ts) is.deep) gives in
      let same : result ≡ judged (too_deep p ts) (length ts) read = judge ∙ ap (λ n. judged scanned.deep n read) len ∙ ap (λ d. judged d (length ts) read) is.deep in
      subst (Answers G p text) (sym same) (lexed_answer G p (one_tree G on r exact) text scanned.tokens is.lexed is.only (judged (too_deep p ts) (length ts) read) (judged_answer G on r exact p ts read given))

  -- that of a text whose tokens were not read
  pub unscanned_answer : (text : List ℕ) (error : ParseError) → IsLexicalFault text error → Answers G p text (Err error)
  unscanned_answer text error h = subst (λ e. Answers G p text (Err e)) (sym h.is) (lex_answer G p (one_tree G on r exact) text h.fault h.faulty h.only)

  -- ---- each text has one answer

  abbrev of_stop : Result A Stop → Result A Stopped
  of_stop (Ok x) = Ok x
  of_stop (Err (Unexpected n)) = Err (s.Unexpected n)
  of_stop (Err Out) = Err s.Memory

  gives_stop : (x : Result A Stop) → (x ≡ Err Out → ⊥) → Gives (λ y. y) (of_stop x) x
  gives_stop (Ok y) h = refl
  gives_stop (Err (Unexpected n)) h = refl
  gives_stop (Err Out) h = absurd (h refl)

  not_memory : (deep : Option ℕ) (total : ℕ) (x : Result A Stop) → (x ≡ Err Out → ⊥) → judged deep total (of_stop x) ≡ Err e.Memory → ⊥
  not_memory None total (Ok y) h m = absurd cc
  not_memory None total (Err (Unexpected n)) h m = absurd cc
  not_memory (Some i) total (Ok y) h m = absurd cc
  not_memory (Some i) total (Err (Unexpected zero)) h m = absurd cc
  not_memory (Some i) total (Err (Unexpected (suc n))) h m = absurd cc
  not_memory None total (Err Out) h m = h refl
  not_memory (Some i) total (Err Out) h m = h refl

  pub some_answer : (ts : List TokenKind) → (answer : Result A ParseError) × IsTokenAnswer G p ts answer
  some_answer ts =
      let deep = too_deep p ts in
      let x : Result A Stop = finished (r (cut deep ts)) in
      let in_ : x ≡ Err Out → ⊥ = never_out G on r exact (cut deep ts) in
      elim (judged_answer G on r exact p ts (of_stop x) (gives_stop x in_)) [
        | inl m ↦ absurd (not_memory deep (length ts) x in_ m)
        | inr g ↦ (judged deep (length ts) (of_stop x), g)
      ]

  pub one_answer : lexing.HasOneAnswer → HasOneAnswer G p
  one_answer lexes text = by_lexed (lexes text).0 (lexes text).1 (lexes text).2 where
    by_lexed : (answer : lexing.Answer) → lexing.IsAnswer text answer → ((other : lexing.Answer) → lexing.IsAnswer text other → other ≡ answer) → (result : Result A ParseError) × IsAnswer G p text result × ((other : Result A ParseError) → IsAnswer G p text other → other ≡ result)
    by_lexed (Ok tokens) is only =
        let g = some_answer (kinds tokens) in
        (g.0, of_tokens G p (one_tree G on r exact) text tokens is g.0 g.1, λ other h. sym (only_this G p (one_tree G on r exact) text tokens (λ o k. inl (sym (only o k))) g.0 g.1 other h))
    by_lexed (Err lex.Memory) is only = absurd is
    by_lexed (Err (lex.BadByte at)) is only = (Err (e.Lex (lex.BadByte at)), is, λ other h. sym (fault_alone G p (one_tree G on r exact) text (lex.BadByte at) (λ o k. inl (sym (only o k))) (λ m. cc) other h))
    by_lexed (Err (lex.NumberTooBig at)) is only = (Err (e.Lex (lex.NumberTooBig at)), is, λ other h. sym (fault_alone G p (one_tree G on r exact) text (lex.NumberTooBig at) (λ o k. inl (sym (only o k))) (λ m. cc) other h))
    by_lexed (Err (lex.NameTooLong at)) is only = (Err (e.Lex (lex.NameTooLong at)), is, λ other h. sym (fault_alone G p (one_tree G on r exact) text (lex.NameTooLong at) (λ o k. inl (sym (only o k))) (λ m. cc) other h))
