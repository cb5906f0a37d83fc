-- What the text of a program has in common with itself where another block stands in the place of one statement.
use Rattle.std.proofs.Common.{◌≡◌, ℕ, suc, zero, List, [], ◌∷◌, ◌++◌, map, slice_get, Option, cond, refl, sym, ap, ◌∙◌, subst, ◌⊎◌, inl, inr}
use Rattle.std.specs.Str.{bytes_eq}
use Rattle.base_values.proofs.Members.{Member, here, there, in_left, in_right, Each, each_more, each_both, each_as, none_there}
use Rattle.imp_syntax.specs.Plain.{Statement, Statements, Procedure, number_of, numbers_in, numbers}
use Rattle.imp_syntax.specs.Plain as tree
use Rattle.imp_slots.specs.Plain.{Guard, Invoke, Layout, Effect, Code, Stop, Simple, If, While, Call, Break, code_numbers}
use Rattle.imp_check.specs.Names.{place_named}
use Rattle.imp_check.specs.Slots.{Resolver, guard_in, effect_in, invoke_of, invoke_in, callee_in, statement_in, code_in}
use Rattle.edit_entries.specs.Holes.{append}
use Rattle.imp_edit.specs.Changes.{in_program}
use Rattle.cell_names.specs.declared.frame.Point.{Point}
use Rattle.cell_names.specs.declared.frame.Point.TheVariants.{Then, Else, Body, Post}
use Rattle.cell_rows.specs.Rows.{last_point}
use Rattle.cell_rows.specs.Targets.{Text, text, deeper, texts}
use Rattle.cell_rows.proofs.Listed.{each_map, one}
use Rattle.edit_bound_laws.specs.Neighbours.{IsAt}

-- Headers stay, so callees are found and calls are resolved as before.
pub place_same : (n : ℕ) (made : Statement → Statements) (ps : List Procedure) (g : List ℕ) → place_named ps g ≡ place_named (in_program n made ps) g
place_same n made [] g = refl
place_same n made (p ∷ ps) g = ap (λ k. cond (bytes_eq p.name g) 0 (suc k)) (place_same n made ps g)

pub invoke_same : (n : ℕ) (made : Statement → Statements) (l : Layout) (x : Option (List ℕ)) (es : List tree.Operand) (ps : List Procedure) (k : ℕ) → invoke_of l x es (slice_get ps k) ≡ invoke_of l x es (slice_get (in_program n made ps) k)
invoke_same n made l x es [] k = refl
invoke_same n made l x es (p ∷ ps) zero = refl
invoke_same n made l x es (p ∷ ps) (suc k) = invoke_same n made l x es ps k

pub last_after : (f : Resolver) (s : Statement) (r : Code) (p : Point) → last_point (statement_in f s r) p ≡ last_point r (Post (number_of s))
last_after f (tree.Simple m a) r p = refl
last_after f (tree.Break m) r p = refl
last_after f (tree.Call m x g es) r p = refl
last_after f (tree.If m c t e) r p = refl
last_after f (tree.While m c b) r p = refl

pub last_append : (f : Resolver) (xs ss : Statements) (p : Point) → last_point (code_in f (append xs ss)) p ≡ last_point (code_in f ss) (last_point (code_in f xs) p)
last_append f tree.Ends ss p = refl
last_append f (tree.Starts s xs) ss p =
    last_after f s (code_in f (append xs ss)) p
    ∙ last_append f xs ss (Post (number_of s))
    ∙ ap (last_point (code_in f ss)) (sym (last_after f s (code_in f xs) p))

-- texts behind a statement, and behind a block
behind_in : (f : Resolver) (s : Statement) (r : Code) (p : Point) (x : ℕ × Text) → Member x (texts r (Post (number_of s))) → Member x (texts (statement_in f s r) p)
behind_in f (tree.Simple m a) r p x h = there h
behind_in f (tree.Break m) r p x h = there h
behind_in f (tree.Call m y g es) r p x h = there h
behind_in f (tree.If m c t e) r p x h = there (in_right (texts (code_in f t) (Then m)) (in_right (texts (code_in f e) (Else m)) h))
behind_in f (tree.While m c b) r p x h = there (in_right (map (deeper m) (texts (code_in f b) Body)) h)

pub append_in : (f : Resolver) (xs ss : Statements) (p : Point) (x : ℕ × Text) → Member x (texts (code_in f ss) (last_point (code_in f xs) p)) → Member x (texts (code_in f (append xs ss)) p)
append_in f tree.Ends ss p x h = h
append_in f (tree.Starts s xs) ss p x h =
    behind_in f s (code_in f (append xs ss)) p x
    (append_in f xs ss (Post (number_of s)) x (subst (λ q. Member x (texts (code_in f ss) q)) (last_after f s (code_in f xs) p) h))

-- the numbers of texts
mutual
  statement_numbers : (f : Resolver) (s : Statement) (r : Code) (p : Point) (is : List ℕ) → Each (λ (x : ℕ × Text). Member x.0 is) (texts r (Post (number_of s))) → Each (λ (x : ℕ × Text). Member x.0 (numbers_in s ++ is)) (texts (statement_in f s r) p)
  statement_numbers f (tree.Simple m a) r p is h = each_more (λ (x : ℕ × Text). Member x.0 (m ∷ is)) (one p (Simple m (effect_in f.layout a) r)) _ here (each_as _ _ _ (λ x k. there k) h)
  statement_numbers f (tree.Break m) r p is h = each_more (λ (x : ℕ × Text). Member x.0 (m ∷ is)) (one p (Break m r)) _ here (each_as _ _ _ (λ x k. there k) h)
  statement_numbers f (tree.Call m y g es) r p is h = each_more (λ (x : ℕ × Text). Member x.0 (m ∷ is)) (one p (Call m (invoke_in f y g es) (callee_in f g) r)) _ here (each_as _ _ _ (λ x k. there k) h)
  statement_numbers f (tree.If m c t e) r p is h =
      let P : ℕ × Text → Type 0 = λ x. Member x.0 (numbers_in (tree.If m c t e) ++ is) in
      each_more P (one p (If m (guard_in f.layout c) (code_in f t) (code_in f e) r)) _ here
      (each_both P _ _ (each_as (λ x. Member x.0 (numbers t)) P _ (λ x k. there (in_left is (in_left (numbers e) k))) (block_numbers f t (Then m)))
      (each_both P _ _ (each_as (λ x. Member x.0 (numbers e)) P _ (λ x k. there (in_left is (in_right (numbers t) k))) (block_numbers f e (Else m)))
      (each_as (λ x. Member x.0 is) P _ (λ x k. there (in_right (numbers t ++ numbers e) k)) h)))
  statement_numbers f (tree.While m c b) r p is h =
      let P : ℕ × Text → Type 0 = λ x. Member x.0 (numbers_in (tree.While m c b) ++ is) in
      each_more P (one p (While m (guard_in f.layout c) (code_in f b) r)) _ here
      (each_both P _ _ (each_map (deeper m) (λ x. Member x.0 (numbers b)) P (λ x k. there (in_left is k)) (texts (code_in f b) Body) (block_numbers f b Body))
      (each_as (λ x. Member x.0 is) P _ (λ x k. there (in_right (numbers b) k)) h))

  block_numbers : (f : Resolver) (ss : Statements) (p : Point) → Each (λ (x : ℕ × Text). Member x.0 (numbers ss)) (texts (code_in f ss) p)
  block_numbers f tree.Ends p = none_there _
  block_numbers f (tree.Starts s ss) p = statement_numbers f s (code_in f ss) p (numbers ss) (block_numbers f ss (Post (number_of s)))

-- what holds of the texts of a statement, and of those behind it
pub statement_each : (f : Resolver) (s : Statement) (r : Code) (p : Point) (P : ℕ × Text → Type 0) → ((x : ℕ × Text) → Member x.0 (numbers_in s) → P x) → Each P (texts r (Post (number_of s))) → Each P (texts (statement_in f s r) p)
statement_each f (tree.Simple m a) r p P own h = each_more P (one p (Simple m (effect_in f.layout a) r)) _ (own _ here) h
statement_each f (tree.Break m) r p P own h = each_more P (one p (Break m r)) _ (own _ here) h
statement_each f (tree.Call m y g es) r p P own h = each_more P (one p (Call m (invoke_in f y g es) (callee_in f g) r)) _ (own _ here) h
statement_each f (tree.If m c t e) r p P own h =
    each_more P (one p (If m (guard_in f.layout c) (code_in f t) (code_in f e) r)) _ (own _ here)
    (each_both P _ _ (each_as (λ x. Member x.0 (numbers t)) P _ (λ x k. own x (there (in_left (numbers e) k))) (block_numbers f t (Then m)))
    (each_both P _ _ (each_as (λ x. Member x.0 (numbers e)) P _ (λ x k. own x (there (in_right (numbers t) k))) (block_numbers f e (Else m))) h))
statement_each f (tree.While m c b) r p P own h =
    each_more P (one p (While m (guard_in f.layout c) (code_in f b) r)) _ (own _ here)
    (each_both P _ _ (each_map (deeper m) (λ x. Member x.0 (numbers b)) P (λ x k. own (deeper m x) (there k)) (texts (code_in f b) Body) (block_numbers f b Body)) h)

module _ (n : ℕ) where
  -- the same point, or one at the statement n
  abbrev pub Or : Point → Point → Type 0
  Or p q = (p ≡ q) ⊎ IsAt n p

  -- the same code, or the statement n stands in it
  abbrev pub SameOr : Code → Code → Type 0
  SameOr b d = (b ≡ d) ⊎ Member n (code_numbers b)

  -- Code with the same head, whose blocks end at such points.
  pub data AlikeCode : Code → Code → Type 0 where
    stop : AlikeCode Stop Stop
    simple : (m : ℕ) (e : Effect) (r s : Code) → AlikeCode (Simple m e r) (Simple m e s)
    branch : (m : ℕ) (g : Guard) (t u x y r s : Code) → Or (last_point t (Then m)) (last_point x (Then m)) → Or (last_point u (Else m)) (last_point y (Else m)) → AlikeCode (If m g t u r) (If m g x y s)
    loop : (m : ℕ) (g : Guard) (b d r s : Code) → Or (last_point b Body) (last_point d Body) → SameOr b d → AlikeCode (While m g b r) (While m g d s)
    call : (m : ℕ) (i : Invoke) (q : ℕ) (r s : Code) → AlikeCode (Call m i q r) (Call m i q s)
    break : (m : ℕ) (r s : Code) → AlikeCode (Break m r) (Break m s)

  alike_self : (c : Code) → AlikeCode c c
  alike_self Stop = stop
  alike_self (Simple m e r) = simple m e r r
  alike_self (If m g t u r) = branch m g t u t u r r (inl refl) (inl refl)
  alike_self (While m g b r) = loop m g b b r r (inl refl) (inl refl)
  alike_self (Call m i q r) = call m i q r r
  alike_self (Break m r) = break m r r

  -- The other text has a statement of the number, after such a point.
  pub record Found (xs : List (ℕ × Text)) (x : ℕ × Text) : Type 0 where
    pub other : Text
    pub there_is : Member (x.0, other) xs
    pub front : Or x.1.front other.front
    pub code : AlikeCode x.1.code other.code

  -- or it stands in the statement n
  abbrev pub FoundOr : List ℕ → List (ℕ × Text) → ℕ × Text → Type 0
  FoundOr is xs x = Found xs x ⊎ Member x.0 is

  pub found_more : (is js : List ℕ) (xs ys : List (ℕ × Text)) → ((k : ℕ) → Member k is → Member k js) → ((x : ℕ × Text) → Member x xs → Member x ys) → (qs : List (ℕ × Text)) → Each (FoundOr is xs) qs → Each (FoundOr js ys) qs
  found_more is js xs ys i h qs e = each_as (FoundOr is xs) (FoundOr js ys) qs (λ q d. more q d) e
    where
      more : (q : ℕ × Text) → FoundOr is xs q → FoundOr js ys q
      more q (inl f) = inl (record { other = f.other; there_is = h (q.0, f.other) f.there_is; front = f.front; code = f.code })
      more q (inr m) = inr (i q.0 m)

  found_self : (is : List ℕ) (xs : List (ℕ × Text)) → Each (FoundOr is xs) xs
  found_self is xs = record { at = λ x m. inl (record { other = x.1; there_is = m; front = inl refl; code = alike_self x.1.code }) }

  -- the same code after another point
  pub last_rest : (c : Code) (p q : Point) → Or p q → Or (last_point c p) (last_point c q)
  last_rest Stop p q h = h
  last_rest (Simple m e r) p q h = inl refl
  last_rest (If m g t u r) p q h = inl refl
  last_rest (While m g b r) p q h = inl refl
  last_rest (Call m i k r) p q h = inl refl
  last_rest (Break m r) p q h = inl refl

  headed : (is : List ℕ) (c : Code) (p q : Point) (xs ys : List (ℕ × Text)) → Or p q → Each (FoundOr is ys) xs → Each (FoundOr is (one q c ∷ ys)) (one p c ∷ xs)
  headed is c p q xs ys h e =
      each_more (FoundOr is (one q c ∷ ys)) (one p c) xs (inl (record { other = text [] q c; there_is = here; front = h; code = alike_self c }))
      (found_more is is ys (one q c ∷ ys) (λ k m. m) (λ x m. there m) xs e)

  pub rest_alike : (is : List ℕ) (c : Code) (p q : Point) → Or p q → Each (FoundOr is (texts c q)) (texts c p)
  rest_alike is Stop p q h = none_there _
  rest_alike is (Simple m e r) p q h = headed is (Simple m e r) p q _ _ h (found_self is _)
  rest_alike is (If m g t u r) p q h = headed is (If m g t u r) p q _ _ h (found_self is _)
  rest_alike is (While m g b r) p q h = headed is (While m g b r) p q _ _ h (found_self is _)
  rest_alike is (Call m i k r) p q h = headed is (Call m i k r) p q _ _ h (found_self is _)
  rest_alike is (Break m r) p q h = headed is (Break m r) p q _ _ h (found_self is _)
