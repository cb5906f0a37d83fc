-- The readers of statements are exact.
use Rattle.std.proofs.Common.{◌≡◌, ℕ, ◌+◌, Bool, true, false, inl, inr, ◌⊎◌, List, [], ◌∷◌, ◌++◌, length, Ok, Err, refl, sym, ap, ◌∙◌, subst, append_assoc}
use Rattle.std.specs.Prelude.{◌||◌}
use Rattle.std.proofs.lemmas.List.{append-nil}
use Rattle.imp_lex.specs.declared.token.Mark.{Mark}
use Rattle.imp_lex.specs.declared.token.Mark.TheVariants as m
use Rattle.imp_lex.specs.declared.token.Word.TheVariants as word
use Rattle.imp_lex.specs.declared.token.TokenKind.{TokenKind}
use Rattle.imp_lex.specs.declared.token.TokenKind.TheVariants as k
use Rattle.imp_syntax.specs.Plain.{Condition, Statement, If, While, Statements, Ends, block_of}
use std.Path.{fun_ext}
use Rattle.imp_parse.specs.Reading.{mark_at, condition_at}
use Rattle.imp_parse.specs.Language.{Language}
use Rattle.imp_parse.specs.Reader.{Unexpected, Read, ◌>>=◌, fix}
use Rattle.imp_parse.specs.Grammar.{IsCondition}
use Rattle.imp_parse.specs.Statements.{IsSimple, skip, break, assert, call, assign, write_element, write_next, write_item, IsStatement, simple, if_, if_else, while, IsBlock, block, IsStatements, none, onward}
use Rattle.imp_parse.specs.Lists.{Lists, begun, with_front}
use Rattle.imp_parse.specs.StatementReading.{simple_at, begins_statement, block_by, else_by, if_by, while_by, numbered_at, statement_by, statements_step, statements_at}
use Rattle.imp_parse.specs.declared.error.Stopped.{Stopped}
use Rattle.imp_parse.specs.Judged.{Fails}
use Rattle.imp_parse.proofs.Exact.{Free, Exact, Both, both}
use Rattle.imp_parse.proofs.Pack as packs
use Rattle.imp_parse.proofs.Pack.{Layer, strictly, loosely, Pack, Strict, Loose, loose, Nothing, nothing, done, Follows, then, never, until, Arm, Dead, Live, Other, is_other, arm_reader, arm_lang, IsOther, live, other, choose, Made, give, made_of, made, nothing_is}
use Rattle.imp_parse.proofs.Layers.{Turn, layer_exact}
use Rattle.imp_parse.proofs.Chains.{free_less}
use Rattle.imp_parse.proofs.ListLayers.{IsList, ends, more, Listing, layer, is_live, turn, goes_on, stops_by, is_done}
use Rattle.imp_parse.proofs.Singles.{IsMark, mark, a_mark, mark_follows}
use Rattle.imp_parse.proofs.Conditions.{a_condition, junction_on}
use Rattle.imp_parse.proofs.Simples.{simple_arm, arm_to, arm_from, simple_is}
use Rattle.base_values.proofs.Cases.{or_first, or_second}

-- ---- the languages

abbrev pub StatementIn : ℕ → Language (Statement × ℕ)
StatementIn n w s = IsStatement n w s.0 s.1

abbrev pub StatementsIn : ℕ → Language (List Statement × ℕ)
StatementsIn n w ss = IsStatements n w ss.0 ss.1

abbrev pub BlockIn : ℕ → Language (Statements × ℕ)
BlockIn n w b = IsBlock n w b.0 b.1

abbrev pub is_else : TokenKind → Bool
is_else (k.Word word.Else) = true
is_else t = false

abbrev pub statements_on : TokenKind → Bool
statements_on t = begins_statement t || is_else t

pub statements_to : (n : ℕ) (w : List TokenKind) (ss : List Statement × ℕ) → IsList StatementIn StatementsIn n w ss → StatementsIn n w ss
statements_to n w ss ends = none
statements_to n w ss (more g h) = onward g h

pub statements_from : (n j : ℕ) (w : List TokenKind) (ss : List Statement) → IsStatements n w ss j → IsList StatementIn StatementsIn n w (ss, j)
statements_from n j w ss none = ends
statements_from n j w ss (onward {i = i} {s = s} {ss = ss'} g h) = more {x = (s, i)} {xs = (ss', j)} g h

-- what no statement begins with does not stand first
module _ (on : TokenKind → Bool) (apart : (t : TokenKind) → begins_statement t ≡ true → on t ≡ false) where
  simple_first : {n : ℕ} {v : List TokenKind} {s : Statement} → IsSimple n v s → (rest : List TokenKind) → Free on (v ++ rest)
  simple_first skip rest = apart (k.Word word.Skip) refl
  simple_first break rest = apart (k.Word word.Break) refl
  simple_first (assert g) rest = apart (k.Word word.Assert) refl
  simple_first (call g) rest = apart (k.Word word.Call) refl
  simple_first (assign {x = x} g) rest = apart (k.Name x) refl
  simple_first (write_element {a = a} g h) rest = apart (k.Name a) refl
  simple_first (write_next {p = p}) rest = apart (k.Name p) refl
  simple_first (write_item {p = p} g) rest = apart (k.Name p) refl

  statement_first : {n j : ℕ} {v : List TokenKind} {s : Statement} → IsStatement n v s j → (rest : List TokenKind) → Free on (v ++ rest)
  statement_first (simple g) rest = simple_first g rest
  statement_first (if_ g h) rest = apart (k.Word word.If) refl
  statement_first (if_else g h i) rest = apart (k.Word word.If) refl
  statement_first (while g h) rest = apart (k.Word word.While) refl

  pub statements_first : {n j : ℕ} {w : List TokenKind} {ss : List Statement} → IsStatements n w ss j → (rest : List TokenKind) → Free on rest → Free on (w ++ rest)
  statements_first none rest free = free
  statements_first (onward {v = v} {w = w} g h) rest free = subst (Free on) (sym (append_assoc v w rest)) (statement_first g (w ++ rest))

else_apart : (t : TokenKind) → begins_statement t ≡ true → is_else t ≡ false
else_apart (k.Word word.Else) e = absurd cc
else_apart t e = refl

pub statements_follow : (n : ℕ) → Follows is_else (StatementsIn n) statements_on
statements_follow n w ss rest g free = statements_first is_else else_apart g rest (free_less statements_on is_else (λ t h. or_second (begins_statement t) (is_else t) h) rest free)

abbrev pub listing : Listing Statement ℕ begins_statement is_else statements_on
listing = record { Item = StatementIn; Many = StatementsIn; to = statements_to; from = λ n w ss g. statements_from n ss.1 w ss.0 g; follow = statements_follow; stops = λ t h. or_first (begins_statement t) (is_else t) h }

abbrev pub statements : Layer
statements = layer begins_statement is_else statements_on listing

-- ---- blocks

abbrev pub block_pack : ℕ → Strict statements (Statements × ℕ) never
block_pack n = packs.next (a_mark m.OpenBrace) (λ a. then (packs.call {L = statements} n) (λ ss. loose (give (a_mark m.CloseBrace) (λ z. (block_of ss.0, ss.1)))) (λ ss. mark_follows m.CloseBrace _ statements_on never refl))

mark_text : (wanted : Mark) (w : List TokenKind) (a : Unit {0}) → IsMark wanted w a → w ≡ k.Mark wanted ∷ []
mark_text wanted w a mark = refl

pub block_to : (n : ℕ) (w : List TokenKind) (b : Statements × ℕ) → (block_pack n).lang w b → BlockIn n w b
block_to n w b (both mark (both {v = v} {w = u} {a = ss} g h)) =
    let q = made_of (λ z. (block_of ss.0, ss.1)) (IsMark m.CloseBrace) u b h in
    subst (λ (r : List TokenKind). BlockIn n (k.Mark m.OpenBrace ∷ (v ++ r)) b) (sym (mark_text m.CloseBrace u q.0 q.1)) (subst (BlockIn n (k.Mark m.OpenBrace ∷ (v ++ k.Mark m.CloseBrace ∷ []))) q.2 (block g))

pub block_from : (n j : ℕ) (w : List TokenKind) (b : Statements) → IsBlock n w b j → (block_pack n).lang w (b, j)
block_from n j w b (block {w = u} {ss = ss} g) = both mark (both {a = (ss, j)} g (made (λ z. (block_of ss, j)) (IsMark m.CloseBrace) (k.Mark m.CloseBrace ∷ []) tt mark))

abbrev pub else_arm : ℕ → TokenKind → Arm statements (Statements × ℕ) is_else
else_arm n (k.Word word.Else) = Live (until is_else (λ t h. refl) (loose (block_pack n)))
else_arm n t = Other

pub else_stops : (n : ℕ) (a : Statements × ℕ) (rest : List TokenKind) → Nothing {A = Statements × ℕ} (Ends, n) [] a → Free is_else rest → IsOther (else_arm n) rest
else_stops n a [] g free = tt
else_stops n a (k.Word word.Else ∷ rest) g free = absurd cc
else_stops n a (t ∷ rest) g free = refl

abbrev pub else_pack : ℕ → Pack statements (Statements × ℕ) loosely strictly is_else
else_pack n = choose (else_arm n) (done is_else (Ends, n)) (else_stops n) ([], (Ends, n), other tt nothing)

-- ---- statements

abbrev pub if_pack : ℕ → Strict statements (Statement × ℕ) is_else
if_pack n = packs.next (a_mark m.OpenParenthesis) (λ a. loose (then a_condition (λ c. loose (packs.next (a_mark m.CloseParenthesis) (λ z.
    loose (packs.next (block_pack (n + 1)) (λ t. give (loose (else_pack t.1)) (λ e. (If n c t.0 e.0, e.1))))))) (λ c. mark_follows m.CloseParenthesis _ junction_on is_else refl)))

abbrev pub while_pack : ℕ → Strict statements (Statement × ℕ) is_else
while_pack n = packs.next (a_mark m.OpenParenthesis) (λ a. loose (then a_condition (λ c. loose (packs.next (a_mark m.CloseParenthesis) (λ z.
    until is_else (λ t h. refl) (loose (give (block_pack (n + 1)) (λ b. (While n c b.0, b.1))))))) (λ c. mark_follows m.CloseParenthesis _ junction_on is_else refl)))

-- a simple statement, and the number after it
abbrev pub numbered : ℕ → Arm statements Statement never → Arm statements (Statement × ℕ) is_else
numbered n Dead = Dead
numbered n (Live p) = Live (until is_else (λ t h. refl) (give p (λ s. (s, n + 1))))
numbered n Other = Dead

abbrev pub statement_arm : ℕ → TokenKind → Arm statements (Statement × ℕ) is_else
statement_arm n (k.Word word.If) = Live (loose (if_pack n))
statement_arm n (k.Word word.While) = Live (loose (while_pack n))
statement_arm n t = numbered n (simple_arm statements n t)

-- ---- what they read

else_to : (n : ℕ) (w : List TokenKind) (e : Statements × ℕ) → (else_pack n).lang w e → ((w ≡ []) × ((Ends, n) ≡ e)) ⊎ ((v : List TokenKind) × (w ≡ k.Word word.Else ∷ v) × BlockIn n v e)
else_to n w e (live {t = k.Word word.Else} {w = v} g) = inr (v, refl, block_to n v e g)
else_to n w e (live {t = t} g) = absurd g
else_to n w e (other o g) = let q = nothing_is (Ends, n) w e g in inl (q.0, q.1)

if_end : (n : ℕ) (u v w : List TokenKind) (c : Condition) (t : Statements × ℕ) (e : Statements × ℕ) → IsCondition u c → BlockIn (n + 1) v t → ((w ≡ []) × ((Ends, t.1) ≡ e)) ⊎ ((y : List TokenKind) × (w ≡ k.Word word.Else ∷ y) × BlockIn t.1 y e)
    → StatementIn n (k.Word word.If ∷ k.Mark m.OpenParenthesis ∷ (u ++ (k.Mark m.CloseParenthesis ∷ (v ++ w)))) (If n c t.0 e.0, e.1)
if_end n u v w c t e g b (inl h) =
    subst (λ y. StatementIn n (k.Word word.If ∷ k.Mark m.OpenParenthesis ∷ (u ++ (k.Mark m.CloseParenthesis ∷ (v ++ w)))) (If n c t.0 y.0, y.1)) h.1
    (subst (λ (q : List TokenKind). IsStatement n (k.Word word.If ∷ k.Mark m.OpenParenthesis ∷ (u ++ (k.Mark m.CloseParenthesis ∷ q))) (If n c t.0 Ends) t.1) (sym (ap (λ (q : List TokenKind). v ++ q) h.0 ∙ append-nil v)) (if_ g b))
if_end n u v w c t e g b (inr h) = subst (λ (q : List TokenKind). IsStatement n (k.Word word.If ∷ k.Mark m.OpenParenthesis ∷ (u ++ (k.Mark m.CloseParenthesis ∷ (v ++ q)))) (If n c t.0 e.0) e.1) (sym h.1) (if_else g b h.2)

if_to : (n : ℕ) (w : List TokenKind) (s : Statement × ℕ) → (if_pack n).lang w s → StatementIn n (k.Word word.If ∷ w) s
if_to n w s (both mark (both {v = u} {a = c} g (both mark (both {v = v} {w = r} {a = t} b h)))) =
    let q = made_of (λ e. (If n c t.0 e.0, e.1)) (else_pack t.1).lang r s h in
    subst (StatementIn n (k.Word word.If ∷ k.Mark m.OpenParenthesis ∷ (u ++ (k.Mark m.CloseParenthesis ∷ (v ++ r))))) q.2 (if_end n u v r c t q.0 g (block_to (n + 1) v t b) (else_to t.1 r q.0 q.1))

while_to : (n : ℕ) (w : List TokenKind) (s : Statement × ℕ) → (while_pack n).lang w s → StatementIn n (k.Word word.While ∷ w) s
while_to n w s (both mark (both {v = u} {a = c} g (both {w = v} mark h))) =
    let q = made_of (λ b. (While n c b.0, b.1)) (block_pack (n + 1)).lang v s h in
    subst (StatementIn n (k.Word word.While ∷ k.Mark m.OpenParenthesis ∷ (u ++ (k.Mark m.CloseParenthesis ∷ v)))) q.2 (while g (block_to (n + 1) v q.0 q.1))

numbered_to : (n : ℕ) (t : TokenKind) (w : List TokenKind) (s : Statement × ℕ) (a : Arm statements Statement never) → ((v : List TokenKind) (x : Statement) → arm_lang a v x → IsSimple n (t ∷ v) x) → arm_lang (numbered n a) w s → StatementIn n (t ∷ w) s
numbered_to n t w s Dead to g = absurd g
numbered_to n t w s (Live p) to g = let q = made_of (λ x. (x, n + 1)) p.lang w s g in subst (StatementIn n (t ∷ w)) q.2 (simple (to w q.0 q.1))
numbered_to n t w s Other to g = absurd g

pub statement_to : (n : ℕ) (t : TokenKind) (w : List TokenKind) (s : Statement × ℕ) → arm_lang (statement_arm n t) w s → StatementIn n (t ∷ w) s
statement_to n (k.Word word.If) w s g = if_to n w s g
statement_to n (k.Word word.While) w s g = while_to n w s g
statement_to n t w s g = numbered_to n t w s (simple_arm statements n t) (arm_to statements n t) g

numbered_from : (n : ℕ) (v : List TokenKind) (x : Statement) (a : Arm statements Statement never) → arm_lang a v x → arm_lang (numbered n a) v (x, n + 1)
numbered_from n v x Dead g = absurd g
numbered_from n v x (Live p) g = made (λ y. (y, n + 1)) p.lang v x g
numbered_from n v x Other g = absurd g

-- the arm of a token that begins a simple statement
simple_way : (n : ℕ) (t : TokenKind) (v : List TokenKind) (x : Statement) → arm_lang (simple_arm statements n t) v x → arm_lang (statement_arm n t) v (x, n + 1)
simple_way n (k.Word word.If) v x g = absurd g
simple_way n (k.Word word.While) v x g = absurd g
simple_way n t v x g = numbered_from n v x (simple_arm statements n t) g

pub statement_from : (n j : ℕ) (w : List TokenKind) (s : Statement) → IsStatement n w s j → (t : TokenKind) × (v : List TokenKind) × (w ≡ t ∷ v) × arm_lang (statement_arm n t) v (s, j)
statement_from n j w s (simple g) = let f = arm_from statements n w s g in (f.0, f.1, f.2, simple_way n f.0 f.1 s f.3)
statement_from n j w s (if_ {v = v} {c = c} {t = t} g h) = (
  k.Word word.If,
  _,
  refl,
  both mark (both g (both mark (subst (λ (q : List TokenKind). Both {B = Statement × ℕ} (block_pack (n + 1)).lang (λ y. Made (λ e. (If n c y.0 e.0, e.1)) (else_pack y.1).lang) q (If n c t Ends, j)) (append-nil v)
      (both {a = (t, j)} (block_from (n + 1) j v t h) (made (λ e. (If n c t e.0, e.1)) (else_pack j).lang [] (Ends, j) (other tt nothing)))))),
)
statement_from n j w s (if_else {i = i} {v = v} {w = y} {c = c} {t = t} {e = e} g h r) =
    (k.Word word.If, _, refl, both mark (both g (both mark (both {a = (t, i)} (block_from (n + 1) i v t h) (made (λ z. (If n c t z.0, z.1)) (else_pack i).lang (k.Word word.Else ∷ y) (e, j) (live {t = k.Word word.Else} (block_from i j y e r)))))))
statement_from n j w s (while {v = v} {c = c} {b = b} g h) = (k.Word word.While, _, refl, both mark (both g (both mark (made (λ z. (While n c z.0, z.1)) (block_pack (n + 1)).lang v (b, j) (block_from (n + 1) j v b h)))))

-- ---- the layer

pub begins_is : (n : ℕ) (t : TokenKind) → begins_statement t ≡ is_live begins_statement is_else statements_on listing (statement_arm n t)
begins_is n (k.Word word.If) = refl
begins_is n (k.Word word.While) = refl
begins_is n (k.Word word.Skip) = refl
begins_is n (k.Word word.Break) = refl
begins_is n (k.Word word.Assert) = refl
begins_is n (k.Word word.Call) = refl
begins_is n (k.Name x) = refl
begins_is n t = refl

else_is : (f : Lists Statement ℕ) (n : ℕ) (ts : List TokenKind) → else_by f n ts ≡ (else_pack n).reader f ts
else_is f n [] = refl
else_is f n (k.Word word.Else ∷ rest) = refl
else_is f n (t ∷ rest) = refl

abbrev if_with : (f : Lists Statement ℕ) → (ℕ → List TokenKind → Read (Statements × ℕ)) → ℕ → List TokenKind → Read (Statement × ℕ)
if_with f r n ts = do
  a ← mark_at m.OpenParenthesis ts
  c ← condition_at a.1
  z ← mark_at m.CloseParenthesis c.1
  t ← block_by f (n + 1) z.1
  e ← r t.0.1 t.1
  Ok ((If n c.0 t.0.0 e.0.0, e.0.1), e.1)

if_is : (f : Lists Statement ℕ) (n : ℕ) (ts : List TokenKind) → if_by f n ts ≡ (if_pack n).reader f ts
if_is f n ts =
    let same : (λ (j : ℕ). else_by f j) ≡ (λ (j : ℕ). (else_pack j).reader f) = fun_ext (λ j. fun_ext (λ q. else_is f j q)) in
    ap (λ r. if_with f r n ts) same

while_is : (f : Lists Statement ℕ) (n : ℕ) (ts : List TokenKind) → while_by f n ts ≡ (while_pack n).reader f ts
while_is f n ts = refl

-- what the arm of a simple statement's first token reads on to
numbered_is : (f : Lists Statement ℕ) (n : ℕ) (t : TokenKind) (rest : List TokenKind) (a : Arm statements Statement never) (r : Read Statement) → r ≡ arm_reader a f (λ ts. Err (Unexpected (length ts))) t rest
    → is_other a ≡ false → (r >>= λ s. Ok ((s.0, n + 1), s.1)) ≡ arm_reader (numbered n a) f (λ ts. Err (Unexpected (length ts))) t rest
numbered_is f n t rest Dead r e h = ap (λ q. q >>= λ s. Ok ((s.0, n + 1), s.1)) e
numbered_is f n t rest (Live p) r e h = ap (λ q. q >>= λ s. Ok ((s.0, n + 1), s.1)) e
numbered_is f n t rest Other r e h = absurd cc

never_other : (n : ℕ) (t : TokenKind) → is_other (simple_arm statements n t) ≡ false
never_other n (k.Word word.Skip) = refl
never_other n (k.Word word.Break) = refl
never_other n (k.Word word.Assert) = refl
never_other n (k.Word word.Call) = refl
never_other n (k.Name x) = refl
never_other n t = refl

same_arm : (f : Lists Statement ℕ) (r q : List TokenKind → Read Statement) (t : TokenKind) (rest : List TokenKind) (a : Arm statements Statement never) → is_other a ≡ false → arm_reader a f r t rest ≡ arm_reader a f q t rest
same_arm f r q t rest Dead h = refl
same_arm f r q t rest (Live p) h = refl
same_arm f r q t rest Other h = absurd cc

simple_at_arm : (f : Lists Statement ℕ) (n : ℕ) (t : TokenKind) (rest : List TokenKind) → simple_at n (t ∷ rest) ≡ arm_reader (simple_arm statements n t) f (λ ts. Err (Unexpected (length ts))) t rest
simple_at_arm f n t rest = simple_is statements n f (t ∷ rest) ∙ same_arm f _ (λ ts. Err (Unexpected (length ts))) t rest (simple_arm statements n t) (never_other n t)

by_number : (f : Lists Statement ℕ) (n : ℕ) (t : TokenKind) (rest : List TokenKind) → numbered_at n (t ∷ rest) ≡ arm_reader (numbered n (simple_arm statements n t)) f (λ ts. Err (Unexpected (length ts))) t rest
by_number f n t rest = numbered_is f n t rest (simple_arm statements n t) (simple_at n (t ∷ rest)) (simple_at_arm f n t rest) (never_other n t)

pub statement_is : (f : Lists Statement ℕ) (n : ℕ) (t : TokenKind) (rest : List TokenKind) → statement_by f n (t ∷ rest) ≡ arm_reader (statement_arm n t) f (λ ts. Err (Unexpected (length ts))) t rest
unfolding statement_by
statement_is f n (k.Word word.If) rest = if_is f n rest
statement_is f n (k.Word word.While) rest = while_is f n rest
statement_is f n t rest = by_number f n t rest

pub item_from : (n : ℕ) (w : List TokenKind) (s : Statement × ℕ) → StatementIn n w s → (t : TokenKind) × (v : List TokenKind) × (w ≡ t ∷ v) × arm_lang (statement_arm n t) v s
item_from n w s g = statement_from n s.1 w s.0 g

pub statements_turn : (n : ℕ) → Turn statements statements_step n
unfolding statements_step
statements_turn n = turn begins_statement is_else statements_on listing statement_arm statement_to item_from begins_is statement_by statement_is n

pub statements_exact : (n j : ℕ) → Exact j (StatementsIn n) statements_on (statements_at n)
statements_exact n j = layer_exact statements statements_step statements_turn j n

abbrev pub some_statements : {L : Layer} → ℕ → Loose L (List Statement × ℕ) statements_on
some_statements n = packs.read_some (StatementsIn n) statements_on (statements_at n) (statements_exact n) ([], ([], n), none)

-- ---- a loop that reads them

pub statements_go_on : (n : ℕ) (front : List Statement) (ts : List TokenKind) (x : (Statement × ℕ) × List TokenKind) (total : Read (List Statement × ℕ)) → begun begins_statement ts ≡ true → statement_by (fix statements_step) n ts ≡ Ok x
    → with_front front (fix statements_step n ts) ≡ total → with_front (front ++ x.0.0 ∷ []) (fix statements_step x.0.1 x.1) ≡ total
unfolding statements_step
statements_go_on = goes_on begins_statement is_else statements_on listing statement_arm statement_to item_from begins_is statement_by statement_is

pub statements_stop : (n : ℕ) (front : List Statement) (ts : List TokenKind) (e : Stopped) (total : Read (List Statement × ℕ)) → begun begins_statement ts ≡ true → Fails e (statement_by (fix statements_step) n ts) → with_front front (fix statements_step n ts) ≡ total → Fails e total
unfolding statements_step
statements_stop = stops_by begins_statement is_else statements_on listing statement_arm statement_to item_from begins_is statement_by statement_is

pub statements_done : (n : ℕ) (front : List Statement) (ts : List TokenKind) (total : Read (List Statement × ℕ)) → begun begins_statement ts ≡ false → with_front front (fix statements_step n ts) ≡ total → total ≡ Ok ((front, n), ts)
unfolding statements_step
statements_done = is_done begins_statement is_else statements_on listing statement_arm statement_to item_from begins_is statement_by statement_is
