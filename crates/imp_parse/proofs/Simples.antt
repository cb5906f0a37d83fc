-- The readers of simple statements are exact.
use Rattle.std.proofs.Common.{◌≡◌, ℕ, ◌<◌, Bool, true, false, List, [], ◌∷◌, ◌++◌, length, Some, None, refl, sym, subst, arith}
use Rattle.std.specs.Prelude.{◌||◌}
use Rattle.imp_lex.specs.declared.token.Mark.TheVariants as m
use Rattle.imp_lex.specs.declared.token.Word.TheVariants as word
use Rattle.imp_lex.specs.declared.token.TokenKind.{TokenKind}
use Rattle.imp_lex.specs.declared.token.TokenKind.TheVariants as k
use Rattle.imp_syntax.specs.declared.words.Operator.{Operator}
use Rattle.imp_syntax.specs.Plain as plain
use Rattle.imp_syntax.specs.Plain.{Expression, Statement, Simple, Break, Call}
use Rattle.imp_parse.specs.Language.{Opens}
use Rattle.imp_parse.specs.Tables.{additive, multiplicative, same_mark}
use Rattle.imp_parse.specs.Grammar.{IsExpression, sum, IsSum, sum_ends, sum_more, product, IsProduct, product_ends, product_more, negative, number, name, length_of, group}
use Rattle.imp_parse.specs.Statements.{IsInvoke, IsAssigned, input, array, null, new, outcome, next, item, element, value, IsSimple, skip, break, assert, call, assign, write_element, write_next, write_item}
use Rattle.imp_parse.specs.Reading.{product_at, sum_at}
use Rattle.imp_parse.specs.StatementReading.{field_rhs_at, named_rhs_at, rhs_at, field_at, named_at, simple_at}
use Rattle.imp_parse.proofs.Exact.{Free, Exact, both}
use Rattle.imp_parse.proofs.Pack as packs
use Rattle.imp_parse.proofs.Pack.{Layer, Calls, Strict, Loose, loose, nothing, done, read, read_some, Follows, then, never, until, Arm, Dead, Live, Other, is_other, arm_lang, IsOther, live, other, choose, strict_stops, Made, give, made_of, made, made_follows}
use Rattle.imp_parse.proofs.Layers.{alone, no_calls, alone_exact}
use Rattle.imp_parse.proofs.Chains.{high_on, low_follows}
use Rattle.imp_parse.proofs.Singles.{mark, a_mark, named, a_name, mark_follows, ended, refused}
use Rattle.imp_parse.proofs.Expressions.{chains, operator_on, product_exact, sum_exact}
use Rattle.imp_parse.proofs.Conditions.{an_expression, a_condition, junction_on}
use Rattle.imp_parse.proofs.Calls.{a_call}
use Rattle.base_values.proofs.Cases.{or_second}

-- ---- what is assigned: after a name

abbrev pub selects : TokenKind → Bool
selects (k.Mark m.Dot) = true
selects (k.Mark m.OpenBracket) = true
selects t = false

abbrev pub rhs_on : TokenKind → Bool
rhs_on t = selects t || operator_on t

pub rhs_operator : (t : TokenKind) → rhs_on t ≡ false → operator_on t ≡ false
rhs_operator t h = or_second (selects t) (operator_on t) h

pub sum_follows : {A : Type 0} (h : Expression → A) (a : Expression) → Follows (high_on chains) (Made h (IsSum a)) operator_on
sum_follows h a = made_follows h (IsSum a) (high_on chains) operator_on (low_follows multiplicative additive plain.Binary plain.Binary never chains a)

module _ (n : ℕ) (x : List ℕ) where
  abbrev pub variable_pack : List ℕ → Loose alone Statement rhs_on
  variable_pack y = until rhs_on rhs_operator
      (then (read_some (IsProduct (plain.Variable y)) (high_on chains) (product_at (plain.Variable y)) (product_exact (plain.Variable y)) ([], plain.Variable y, product_ends))
      (λ a. give (read_some (IsSum a) operator_on (sum_at a) (sum_exact a) ([], a, sum_ends)) (λ e. Simple n (plain.Assign x e))) (λ a. sum_follows (λ e. Simple n (plain.Assign x e)) a))

  abbrev pub field_rhs_arm : List ℕ → TokenKind → Arm alone Statement never
  field_rhs_arm y (k.Word word.Next) = Live (loose (done never (Simple n (plain.ReadNext x y))))
  field_rhs_arm y (k.Word word.Item) = Live (loose (done never (Simple n (plain.ReadItem x y))))
  field_rhs_arm y t = Dead

  abbrev pub field_rhs_pack : List ℕ → Strict alone Statement never
  field_rhs_pack y = choose (field_rhs_arm y) (refused (Break n)) (strict_stops (field_rhs_arm y) (refused (Break n))) (k.Word word.Next ∷ [], Simple n (plain.ReadNext x y), live {t = k.Word word.Next} nothing)

  abbrev pub named_rhs_arm : List ℕ → TokenKind → Arm alone Statement rhs_on
  named_rhs_arm y (k.Mark m.Dot) = Live (until rhs_on (λ t h. refl) (loose (field_rhs_pack y)))
  named_rhs_arm y (k.Mark m.OpenBracket) = Live (until rhs_on (λ t h. refl) (loose (then an_expression (λ e. ended m.CloseBracket (Simple n (plain.ReadElement x y e))) (λ e. mark_follows m.CloseBracket _ operator_on never refl))))
  named_rhs_arm y t = Other

  pub named_rhs_stops : (y : List ℕ) (a : Statement) (rest : List TokenKind) → (variable_pack y).lang [] a → Free rhs_on rest → IsOther (named_rhs_arm y) rest
  named_rhs_stops y a [] g free = tt
  named_rhs_stops y a (k.Mark m.Dot ∷ rest) g free = absurd cc
  named_rhs_stops y a (k.Mark m.OpenBracket ∷ rest) g free = absurd cc
  named_rhs_stops y a (t ∷ rest) g free = refl

  abbrev pub named_rhs_pack : List ℕ → Loose alone Statement rhs_on
  named_rhs_pack y = choose (named_rhs_arm y) (variable_pack y) (named_rhs_stops y) ([], Simple n (plain.Assign x (plain.Variable y)), other tt (both product_ends (both sum_ends nothing)))

  pub named_rhs_to : (y : List ℕ) (w : List TokenKind) (s : Statement) → (named_rhs_pack y).lang w s → IsAssigned n x (k.Name y ∷ w) s
  named_rhs_to y w s (live {t = k.Mark m.Dot} (live {t = k.Word word.Next} nothing)) = next
  named_rhs_to y w s (live {t = k.Mark m.Dot} (live {t = k.Word word.Item} nothing)) = item
  named_rhs_to y w s (live {t = k.Mark m.Dot} (live {t = t} g)) = absurd g
  named_rhs_to y w s (live {t = k.Mark m.Dot} (other o (both mark nothing))) = absurd cc
  named_rhs_to y w s (live {t = k.Mark m.OpenBracket} (both g (both mark nothing))) = element g
  named_rhs_to y w s (live {t = t} g) = absurd g
  named_rhs_to y w s (other o (both {v = v} {w = u} {a = a} g h)) =
      let q = made_of (λ e. Simple n (plain.Assign x e)) (IsSum a) u s h in
      subst (IsAssigned n x (k.Name y ∷ (v ++ u))) q.2 (value (sum (product name g) q.1))

  field_rhs_is : (y : List ℕ) (ts : List TokenKind) → field_rhs_at n x y ts ≡ (field_rhs_pack y).reader no_calls ts
  unfolding same_mark
  field_rhs_is y [] = refl
  field_rhs_is y (k.Word word.Next ∷ rest) = refl
  field_rhs_is y (k.Word word.Item ∷ rest) = refl
  field_rhs_is y (t ∷ rest) = refl

  pub named_rhs_is : (y : List ℕ) (ts : List TokenKind) → named_rhs_at n x y ts ≡ (named_rhs_pack y).reader no_calls ts
  unfolding named_rhs_at same_mark
  named_rhs_is y [] = refl
  named_rhs_is y (k.Mark m.Dot ∷ rest) = field_rhs_is y rest
  named_rhs_is y (k.Mark m.OpenBracket ∷ rest) = refl
  named_rhs_is y (t ∷ rest) = refl

  -- ---- what is assigned

  abbrev pub value_pack : Strict alone Statement rhs_on
  value_pack = until rhs_on rhs_operator (give an_expression (λ e. Simple n (plain.Assign x e)))

  abbrev pub rhs_arm : TokenKind → Arm alone Statement rhs_on
  rhs_arm (k.Word word.Input) = Live (loose (done rhs_on (Simple n (plain.Input x))))
  rhs_arm (k.Word word.Array) = Live (until rhs_on rhs_operator (loose (give an_expression (λ e. Simple n (plain.MakeArray x e)))))
  rhs_arm (k.Word word.Null) = Live (loose (done rhs_on (Simple n (plain.SetNull x))))
  rhs_arm (k.Word word.New) = Live (loose (done rhs_on (Simple n (plain.MakeCell x))))
  rhs_arm (k.Word word.Call) = Live (until rhs_on (λ t h. refl) (loose (give a_call (λ i. Call n (Some x) i.0 i.1))))
  rhs_arm (k.Name y) = Live (named_rhs_pack y)
  rhs_arm t = Other

  abbrev pub rhs_pack : Strict alone Statement rhs_on
  rhs_pack = choose rhs_arm value_pack (strict_stops rhs_arm value_pack) (k.Word word.Input ∷ [], Simple n (plain.Input x), live {t = k.Word word.Input} nothing)

  pub rhs_to : (w : List TokenKind) (s : Statement) → rhs_pack.lang w s → IsAssigned n x w s
  rhs_to w s (live {t = k.Word word.Input} nothing) = input
  rhs_to w s (live {t = k.Word word.Array} {w = u} g) = let q = made_of (λ e. Simple n (plain.MakeArray x e)) IsExpression u s g in subst (IsAssigned n x (k.Word word.Array ∷ u)) q.2 (array q.1)
  rhs_to w s (live {t = k.Word word.Null} nothing) = null
  rhs_to w s (live {t = k.Word word.New} nothing) = new
  rhs_to w s (live {t = k.Word word.Call} {w = u} g) = let q = made_of (λ i. Call n (Some x) i.0 i.1) IsInvoke u s g in subst (IsAssigned n x (k.Word word.Call ∷ u)) q.2 (outcome q.1)
  rhs_to w s (live {t = k.Name y} {w = u} g) = named_rhs_to y u s g
  rhs_to w s (live {t = t} g) = absurd g
  rhs_to w s (other o g) = let q = made_of (λ e. Simple n (plain.Assign x e)) IsExpression w s g in subst (IsAssigned n x w) q.2 (value q.1)

  additive_other : (y : List ℕ) (t : TokenKind) (op : Operator) → additive t ≡ Some op → is_other (named_rhs_arm y t) ≡ true
  additive_other y (k.Mark m.Plus) op e = refl
  additive_other y (k.Mark m.Minus) op e = refl
  additive_other y t op e = absurd cc

  multiplicative_other : (y : List ℕ) (t : TokenKind) (op : Operator) → multiplicative t ≡ Some op → is_other (named_rhs_arm y t) ≡ true
  multiplicative_other y (k.Mark m.Star) op e = refl
  multiplicative_other y (k.Mark m.Slash) op e = refl
  multiplicative_other y (k.Mark m.Percent) op e = refl
  multiplicative_other y t op e = absurd cc

  tails_other : (y : List ℕ) {a b e : Expression} {v u : List TokenKind} → IsProduct a v b → IsSum b u e → IsOther (named_rhs_arm y) (v ++ u)
  tails_other y product_ends sum_ends = tt
  tails_other y product_ends (sum_more {o = op} {t = t} is g h) = additive_other y t op is
  tails_other y (product_more {o = op} {t = t} is g h) l = multiplicative_other y t op is

  value_from : (w : List TokenKind) (e : Expression) → IsExpression w e → rhs_pack.lang w (Simple n (plain.Assign x e))
  value_from w e (sum {v = v0} {w = u} (product {w = v} (name {x = y}) h) l) = live {t = k.Name y} (other (tails_other y h l) (both h (made (λ z. Simple n (plain.Assign x z)) (IsSum _) u e l)))
  value_from w e (sum {v = v} {w = u} (product (negative g) h) l) = other refl (made (λ z. Simple n (plain.Assign x z)) IsExpression w e (sum (product (negative g) h) l))
  value_from w e (sum {v = v} {w = u} (product number h) l) = other refl (made (λ z. Simple n (plain.Assign x z)) IsExpression w e (sum (product number h) l))
  value_from w e (sum {v = v} {w = u} (product length_of h) l) = other refl (made (λ z. Simple n (plain.Assign x z)) IsExpression w e (sum (product length_of h) l))
  value_from w e (sum {v = v} {w = u} (product (group g) h) l) = other refl (made (λ z. Simple n (plain.Assign x z)) IsExpression w e (sum (product (group g) h) l))

  pub rhs_from : (w : List TokenKind) (s : Statement) → IsAssigned n x w s → rhs_pack.lang w s
  rhs_from w s input = live {t = k.Word word.Input} nothing
  rhs_from w s (array {w = u} {e = e} g) = live {t = k.Word word.Array} (made (λ z. Simple n (plain.MakeArray x z)) IsExpression u e g)
  rhs_from w s null = live {t = k.Word word.Null} nothing
  rhs_from w s new = live {t = k.Word word.New} nothing
  rhs_from w s (outcome {w = u} {f = f} {es = es} g) = live {t = k.Word word.Call} (made (λ i. Call n (Some x) i.0 i.1) IsInvoke u (f, es) g)
  rhs_from w s (next {q = q}) = live {t = k.Name q} (live {t = k.Mark m.Dot} (live {t = k.Word word.Next} nothing))
  rhs_from w s (item {q = q}) = live {t = k.Name q} (live {t = k.Mark m.Dot} (live {t = k.Word word.Item} nothing))
  rhs_from w s (element {a = a} g) = live {t = k.Name a} (live {t = k.Mark m.OpenBracket} (both g (both mark nothing)))
  rhs_from w s (value {e = e} g) = value_from w e g

  pub rhs_is : (ts : List TokenKind) → rhs_at n x ts ≡ rhs_pack.reader no_calls ts
  unfolding rhs_at
  rhs_is [] = refl
  rhs_is (k.Word word.Input ∷ rest) = refl
  rhs_is (k.Word word.Array ∷ rest) = refl
  rhs_is (k.Word word.Null ∷ rest) = refl
  rhs_is (k.Word word.New ∷ rest) = refl
  rhs_is (k.Word word.Call ∷ rest) = refl
  rhs_is (k.Name y ∷ rest) = named_rhs_is y rest
  rhs_is (t ∷ rest) = refl

  pub rhs_exact : (j : ℕ) → Exact j (IsAssigned n x) rhs_on (rhs_at n x)
  rhs_exact j = alone_exact rhs_pack (IsAssigned n x) (rhs_at n x) rhs_to rhs_from rhs_is j

  pub assigned_some : (w : List TokenKind) (s : Statement) → IsAssigned n x w s → 0 < length w
  assigned_some w s g = let p = rhs_pack in omega (arith, p.grows 0 w s (rhs_from w s g))

  abbrev pub an_assigned : {L : Layer} → Strict L Statement rhs_on
  an_assigned = read (IsAssigned n x) rhs_on (rhs_at n x) rhs_exact (k.Word word.Input ∷ [], Simple n (plain.Input x), input) assigned_some

-- ---- simple statements

module _ (L : Layer) (n : ℕ) where
  abbrev pub field_arm : List ℕ → TokenKind → Arm L Statement never
  field_arm p (k.Word word.Next) = Live (loose (packs.next (a_mark m.Equals) (λ a. loose (packs.next a_name (λ q. ended m.Semicolon (Simple n (plain.WriteNext p q)))))))
  field_arm p (k.Word word.Item) = Live (loose (packs.next (a_mark m.Equals) (λ a. loose (then an_expression (λ e. ended m.Semicolon (Simple n (plain.WriteItem p e))) (λ e. mark_follows m.Semicolon _ operator_on never refl)))))
  field_arm p t = Dead

  abbrev pub field_pack : List ℕ → Strict L Statement never
  field_pack p = choose (field_arm p) (refused (Break n)) (strict_stops (field_arm p) (refused (Break n)))
      (k.Word word.Next ∷ k.Mark m.Equals ∷ k.Name [] ∷ k.Mark m.Semicolon ∷ [], Simple n (plain.WriteNext p []), live {t = k.Word word.Next} (both mark (both named (both mark nothing))))

  abbrev pub named_arm : List ℕ → TokenKind → Arm L Statement never
  named_arm x (k.Mark m.Equals) = Live (loose (then (an_assigned n x) (λ s. ended m.Semicolon s) (λ s. mark_follows m.Semicolon _ rhs_on never refl)))
  named_arm x (k.Mark m.OpenBracket) =
      Live (loose (then an_expression (λ e. loose (packs.next (a_mark m.CloseBracket) (λ b. loose (packs.next (a_mark m.Equals) (λ q.
      loose (then an_expression (λ f. ended m.Semicolon (Simple n (plain.WriteElement x e f))) (λ f. mark_follows m.Semicolon _ operator_on never refl))))))) (λ e. mark_follows m.CloseBracket _ operator_on never refl)))
  named_arm x (k.Mark m.Dot) = Live (loose (field_pack x))
  named_arm x t = Dead

  abbrev pub named_pack : List ℕ → Strict L Statement never
  named_pack x = choose (named_arm x) (refused (Break n)) (strict_stops (named_arm x) (refused (Break n)))
      (k.Mark m.Equals ∷ k.Word word.Input ∷ k.Mark m.Semicolon ∷ [], Simple n (plain.Input x), live {t = k.Mark m.Equals} (both input (both mark nothing)))

  abbrev pub simple_arm : TokenKind → Arm L Statement never
  simple_arm (k.Word word.Skip) = Live (ended m.Semicolon (Simple n plain.Skip))
  simple_arm (k.Word word.Break) = Live (ended m.Semicolon (Break n))
  simple_arm (k.Word word.Assert) = Live (loose (then a_condition (λ c. ended m.Semicolon (Simple n (plain.Assert c))) (λ c. mark_follows m.Semicolon _ junction_on never refl)))
  simple_arm (k.Word word.Call) = Live (loose (packs.next a_call (λ i. ended m.Semicolon (Call n None i.0 i.1))))
  simple_arm (k.Name x) = Live (loose (named_pack x))
  simple_arm t = Dead

  pub field_to : (p : List ℕ) (w : List TokenKind) (s : Statement) → (field_pack p).lang w s → IsSimple n (k.Name p ∷ k.Mark m.Dot ∷ w) s
  field_to p w s (live {t = k.Word word.Next} (both mark (both named (both mark nothing)))) = write_next
  field_to p w s (live {t = k.Word word.Item} (both mark (both g (both mark nothing)))) = write_item g
  field_to p w s (live {t = t} g) = absurd g
  field_to p w s (other o (both mark nothing)) = absurd cc

  pub named_to : (x : List ℕ) (w : List TokenKind) (s : Statement) → (named_pack x).lang w s → IsSimple n (k.Name x ∷ w) s
  named_to x w s (live {t = k.Mark m.Equals} (both g (both mark nothing))) = assign g
  named_to x w s (live {t = k.Mark m.OpenBracket} (both g (both mark (both mark (both h (both mark nothing)))))) = write_element g h
  named_to x w s (live {t = k.Mark m.Dot} {w = u} g) = field_to x u s g
  named_to x w s (live {t = t} g) = absurd g
  named_to x w s (other o (both mark nothing)) = absurd cc

  -- what an arm reads on to is a simple statement that begins with its token
  pub arm_to : (t : TokenKind) (w : List TokenKind) (s : Statement) → arm_lang (simple_arm t) w s → IsSimple n (t ∷ w) s
  arm_to (k.Word word.Skip) w s (both mark nothing) = skip
  arm_to (k.Word word.Break) w s (both mark nothing) = break
  arm_to (k.Word word.Assert) w s (both g (both mark nothing)) = assert g
  arm_to (k.Word word.Call) w s (both {a = i} g (both mark nothing)) = call {f = i.0} {es = i.1} g
  arm_to (k.Name x) w s g = named_to x w s g
  arm_to t w s g = absurd g

  pub arm_from : (w : List TokenKind) (s : Statement) → IsSimple n w s → (t : TokenKind) × (v : List TokenKind) × (w ≡ t ∷ v) × arm_lang (simple_arm t) v s
  arm_from w s skip = (k.Word word.Skip, _, refl, both mark nothing)
  arm_from w s break = (k.Word word.Break, _, refl, both mark nothing)
  arm_from w s (assert g) = (k.Word word.Assert, _, refl, both g (both mark nothing))
  arm_from w s (call {f = f} {es = es} g) = (k.Word word.Call, _, refl, both {a = (f, es)} g (both mark nothing))
  arm_from w s (assign {x = x} g) = (k.Name x, _, refl, live {t = k.Mark m.Equals} (both g (both mark nothing)))
  arm_from w s (write_element {a = a} g h) = (k.Name a, _, refl, live {t = k.Mark m.OpenBracket} (both g (both mark (both mark (both h (both mark nothing))))))
  arm_from w s (write_next {p = p}) = (k.Name p, _, refl, live {t = k.Mark m.Dot} (live {t = k.Word word.Next} (both mark (both named (both mark nothing)))))
  arm_from w s (write_item {p = p} g) = (k.Name p, _, refl, live {t = k.Mark m.Dot} (live {t = k.Word word.Item} (both mark (both g (both mark nothing)))))

  abbrev pub simple_pack : Strict L Statement never
  simple_pack = choose simple_arm (refused (Break n)) (strict_stops simple_arm (refused (Break n))) (k.Word word.Skip ∷ k.Mark m.Semicolon ∷ [], Simple n plain.Skip, live {t = k.Word word.Skip} (both mark nothing))

  pub simple_to : (w : List TokenKind) (s : Statement) → simple_pack.lang w s → IsSimple n w s
  simple_to w s (live {t = t} {w = u} g) = arm_to t u s g
  simple_to w s (other o (both mark nothing)) = absurd cc

  pub simple_from : (w : List TokenKind) (s : Statement) → IsSimple n w s → simple_pack.lang w s
  simple_from w s g = let f = arm_from w s g in subst (λ (q : List TokenKind). simple_pack.lang q s) (sym f.2) (live {t = f.0} f.3)

  field_is : (f : Calls L) (p : List ℕ) (ts : List TokenKind) → field_at n p ts ≡ (field_pack p).reader f ts
  unfolding same_mark
  field_is f p [] = refl
  field_is f p (k.Word word.Next ∷ rest) = refl
  field_is f p (k.Word word.Item ∷ rest) = refl
  field_is f p (t ∷ rest) = refl

  named_is : (f : Calls L) (x : List ℕ) (ts : List TokenKind) → named_at n x ts ≡ (named_pack x).reader f ts
  unfolding named_at same_mark
  named_is f x [] = refl
  named_is f x (k.Mark m.Equals ∷ rest) = refl
  named_is f x (k.Mark m.OpenBracket ∷ rest) = refl
  named_is f x (k.Mark m.Dot ∷ rest) = field_is f x rest
  named_is f x (t ∷ rest) = refl

  pub simple_is : (f : Calls L) (ts : List TokenKind) → simple_at n ts ≡ simple_pack.reader f ts
  unfolding simple_at same_mark
  simple_is f [] = refl
  simple_is f (k.Word word.Skip ∷ rest) = refl
  simple_is f (k.Word word.Break ∷ rest) = refl
  simple_is f (k.Word word.Assert ∷ rest) = refl
  simple_is f (k.Word word.Call ∷ rest) = refl
  simple_is f (k.Name x ∷ rest) = named_is f x rest
  simple_is f (t ∷ rest) = refl

pub simple_exact : (n j : ℕ) → Exact j (IsSimple n) never (simple_at n)
simple_exact n j = alone_exact (simple_pack alone n) (IsSimple n) (simple_at n) (simple_to alone n) (simple_from alone n) (simple_is alone n no_calls) j

pub simple_some : (n : ℕ) → Opens (IsSimple n) []
simple_some n = (k.Word word.Skip ∷ k.Mark m.Semicolon ∷ [], Simple n plain.Skip, skip)
