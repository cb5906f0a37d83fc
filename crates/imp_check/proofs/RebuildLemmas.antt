-- The tree that is made from what is known of statements is the program.
use Rattle.std.proofs.lemmas.Bool.Decides.{nat_tests}
use Rattle.std.proofs.Common.{◌≡◌, ℕ, zero, suc, ◌<◌, ◌==◌, ◌⊎◌, inl, inr, cond, List, [], ◌∷◌, ◌++◌, map, Option, Some, None, Bool, true, false, refl, sym, ap, ◌∙◌, subst, arith}
use Rattle.imp_syntax.specs.Plain.{Statement, Statements, Ends, Starts, Procedure, number_of, numbers_in, numbers, program_numbers}
use Rattle.imp_syntax.specs.Plain as tree
use Rattle.imp_slots.specs.Fits.{Absent, Distinct}
use Rattle.imp_check.specs.Slots.{Resolver}
use Rattle.imp_check.specs.Programs.{block_count, program_count}
use Rattle.imp_check.specs.declared.entry.Which.TheVariants as which
use Rattle.imp_check.specs.declared.entry.Context.{Context}
use Rattle.imp_check.specs.declared.entry.Entry.{Entry}
use Rattle.imp_check.specs.Parts.{first_or}
use Rattle.imp_check.specs.Entries.{inside, inside_loop, entry_at, statement_entries, block_entries, procedure_entries, entries_from, entries_of, entry_of, resolver_at, context_at, heads_of}
use Rattle.imp_check.specs.Rebuilt.{statement_with, from_entry, block_from, program_from}

abbrev pub In : Entry → List Entry → Type 0
In x [] = ⊥
In x (y ∷ ys) = (x ≡ y) ⊎ In x ys

pub in_left : (x : Entry) (xs ys : List Entry) → In x xs → In x (xs ++ ys)
in_left x [] ys h = absurd h
in_left x (y ∷ xs) ys (inl e) = inl e
in_left x (y ∷ xs) ys (inr h) = inr (in_left x xs ys h)

pub in_right : (x : Entry) (xs ys : List Entry) → In x ys → In x (xs ++ ys)
in_right x [] ys h = h
in_right x (y ∷ xs) ys h = inr (in_right x xs ys h)

-- each of these is found
abbrev pub Known : (ℕ → Option Entry) → List Entry → Type 0
Known at xs = (x : Entry) → In x xs → at x.number ≡ Some x

pub known_left : (at : ℕ → Option Entry) (xs ys : List Entry) → Known at (xs ++ ys) → Known at xs
known_left at xs ys k x h = k x (in_left x xs ys h)

pub known_right : (at : ℕ → Option Entry) (xs ys : List Entry) → Known at (xs ++ ys) → Known at ys
known_right at xs ys k x h = k x (in_right x xs ys h)

module _ (at : ℕ → Option Entry) (f : Resolver) where
  -- a statement whose spot is found, and what is after it
  step : (m : ℕ) (x : Entry) (s : Statement) (ss : Statements) → at x.number ≡ Some x → statement_with x.part (block_from at m x.inner.first) (block_from at m x.other.first) ≡ s → block_from at m x.next ≡ ss → block_from at (suc m) (Some x.number) ≡ Starts s ss
  step m x s ss k e r = ap (from_entry (block_from at m)) k ∙ ap (λ (t : Statement). Starts t (block_from at m x.next)) e ∙ ap (Starts s) r

  pub block_is : (m : ℕ) (b : Statements) (c : Context) (a : Option ℕ) → block_count b < m → Known at (block_entries f c a None b) → block_from at m (first_or b None) ≡ b
  block_is zero b c a h k = absurd (omega arith)
  block_is (suc m) Ends c a h k = refl
  block_is (suc m) (Starts (tree.Simple n x) ss) c a h k =
      step m (entry_at f c a (first_or ss None) (tree.Simple n x)) (tree.Simple n x) ss (k (entry_at f c a (first_or ss None) (tree.Simple n x)) (inl refl)) refl (block_is m ss c (Some n) (omega arith) (λ y i. k y (inr i)))
  block_is (suc m) (Starts (tree.Break n) ss) c a h k =
      step m (entry_at f c a (first_or ss None) (tree.Break n)) (tree.Break n) ss (k (entry_at f c a (first_or ss None) (tree.Break n)) (inl refl)) refl (block_is m ss c (Some n) (omega arith) (λ y i. k y (inr i)))
  block_is (suc m) (Starts (tree.Call n x g es) ss) c a h k =
      step m (entry_at f c a (first_or ss None) (tree.Call n x g es)) (tree.Call n x g es) ss (k (entry_at f c a (first_or ss None) (tree.Call n x g es)) (inl refl)) refl (block_is m ss c (Some n) (omega arith) (λ y i. k y (inr i)))
  block_is (suc m) (Starts (tree.If n d t e) ss) c a h k =
      let x = entry_at f c a (first_or ss None) (tree.If n d t e) in
      let T = block_entries f (inside c n which.Then) None None t in
      let E = block_entries f (inside c n which.Else) None None e in
      let R = block_entries f c (Some n) None ss in
      let l : Known at (T ++ E) = λ y i. k y (inr (in_left y (T ++ E) R i)) in
      step m x (tree.If n d t e) ss (k x (inl refl))
      (ap (λ u. tree.If n d u (block_from at m (first_or e None))) (block_is m t (inside c n which.Then) None (omega arith) (known_left at T E l)) ∙ ap (tree.If n d t) (block_is m e (inside c n which.Else) None (omega arith) (known_right at T E l)))
      (block_is m ss c (Some n) (omega arith) (λ y i. k y (inr (in_right y (T ++ E) R i))))
  block_is (suc m) (Starts (tree.While n d b) ss) c a h k =
      let x = entry_at f c a (first_or ss None) (tree.While n d b) in
      let B = block_entries f (inside_loop c n) None None b in
      let R = block_entries f c (Some n) None ss in
      step m x (tree.While n d b) ss (k x (inl refl))
      (ap (tree.While n d) (block_is m b (inside_loop c n) None (omega arith) (λ y i. k y (inr (in_left y B R i)))))
      (block_is m ss c (Some n) (omega arith) (λ y i. k y (inr (in_right y B R i))))

-- A program whose statements are known, each by its number, is made from that and from its procedures without statements.
program_from_is : (at : ℕ → Option Entry) (m : ℕ) (es ps : List Procedure) → program_count ps < m → Known at (entries_from es ps) → program_from at m (heads_of ps) ≡ ps
program_from_is at m es [] h k = refl
program_from_is at m es (p ∷ ps) h k =
    let P = procedure_entries es p in
    let R = entries_from (es ++ p ∷ []) ps in
    ap (λ b. record { name = p.name; parameters = p.parameters; outcome = p.outcome; locals = p.locals; body = b } ∷ program_from at m (heads_of ps)) (block_is at (resolver_at es p) m p.body (context_at _) None (omega arith) (known_left at P R k))
    ∙ ap (λ (os : List Procedure). p ∷ os) (program_from_is at m (es ++ p ∷ []) ps (omega arith) (known_right at P R k))

-- Numbers of statements, as those of what is known of them.
abbrev pub entry_numbers : List Entry → List ℕ
entry_numbers xs = map (λ (x : Entry). x.number) xs

map_both : (xs ys : List Entry) → entry_numbers (xs ++ ys) ≡ entry_numbers xs ++ entry_numbers ys
map_both [] ys = refl
map_both (x ∷ xs) ys = ap (λ ns. x.number ∷ ns) (map_both xs ys)

module _ (f : Resolver) where
  mutual
    statement_numbers : (c : Context) (a p : Option ℕ) (s : Statement) → entry_numbers (statement_entries f c a p s) ≡ numbers_in s
    statement_numbers c a p (tree.Simple n x) = refl
    statement_numbers c a p (tree.Break n) = refl
    statement_numbers c a p (tree.Call n x g es) = refl
    statement_numbers c a p (tree.If n d t e) =
        ap (λ ns. n ∷ ns)
        (map_both (block_entries f (inside c n which.Then) None None t) (block_entries f (inside c n which.Else) None None e)
        ∙ ap (λ ns. ns ++ entry_numbers (block_entries f (inside c n which.Else) None None e)) (block_numbers (inside c n which.Then) None None t)
        ∙ ap (λ ns. numbers t ++ ns) (block_numbers (inside c n which.Else) None None e))
    statement_numbers c a p (tree.While n d b) = ap (λ ns. n ∷ ns) (block_numbers (inside_loop c n) None None b)

    pub block_numbers : (c : Context) (a p : Option ℕ) (b : Statements) → entry_numbers (block_entries f c a p b) ≡ numbers b
    block_numbers c a p Ends = refl
    block_numbers c a p (Starts s ss) =
        map_both (statement_entries f c a (first_or ss p) s) (block_entries f c (Some (number_of s)) p ss)
        ∙ ap (λ ns. ns ++ entry_numbers (block_entries f c (Some (number_of s)) p ss)) (statement_numbers c a (first_or ss p) s)
        ∙ ap (λ ns. numbers_in s ++ ns) (block_numbers c (Some (number_of s)) p ss)

from_numbers : (es ps : List Procedure) → entry_numbers (entries_from es ps) ≡ program_numbers ps
from_numbers es [] = refl
from_numbers es (p ∷ ps) =
    map_both (procedure_entries es p) (entries_from (es ++ p ∷ []) ps)
    ∙ ap (λ ns. ns ++ entry_numbers (entries_from (es ++ p ∷ []) ps)) (block_numbers (resolver_at es p) (context_at _) None None p.body)
    ∙ ap (λ ns. numbers p.body ++ ns) (from_numbers (es ++ p ∷ []) ps)

pub all_numbers : (ps : List Procedure) → entry_numbers (entries_of ps) ≡ program_numbers ps
all_numbers ps = from_numbers [] ps

-- Where numbers stand once, each statement is found by its own.
not_there : (x : Entry) (n : ℕ) (ys : List Entry) → Absent n (entry_numbers ys) → In x ys → (n == x.number) ≡ false
not_there x n [] a h = absurd h
not_there x n (y ∷ ys) a (inl e) = go (n == x.number) refl
  where
    go : (b : Bool) → (n == x.number) ≡ b → b ≡ false
    go false q = refl
    go true q = let same : n ≡ x.number = grind (arith, nat_tests) in absurd (a.0 (same ∙ ap (λ (z : Entry). z.number) e))
not_there x n (y ∷ ys) a (inr h) = not_there x n ys a.1 h

same_number : (n : ℕ) → (n == n) ≡ true
same_number n = grind (arith, nat_tests)

pub found : (xs : List Entry) → Distinct (entry_numbers xs) → Known (entry_of xs) xs
found [] d x h = absurd h
found (y ∷ ys) d x (inl e) = ap (λ (z : Entry). cond (y.number == z.number) (Some y) (entry_of ys z.number)) e ∙ ap (λ b. cond b (Some y) (entry_of ys y.number)) (same_number y.number) ∙ ap Some (sym e)
found (y ∷ ys) d x (inr h) = ap (λ b. cond b (Some y) (entry_of ys x.number)) (not_there x y.number ys d.0 h) ∙ found ys d.1 x h

-- The tree made from a table that is right is the program.
pub program_is : (at : ℕ → Option Entry) (m : ℕ) (ps : List Procedure) → ((n : ℕ) → at n ≡ entry_of (entries_of ps) n) → Distinct (program_numbers ps) → program_count ps < m → program_from at m (heads_of ps) ≡ ps
program_is at m ps right once h = program_from_is at m [] ps h (λ x i. right x.number ∙ found (entries_of ps) (subst Distinct (sym (all_numbers ps)) once) x i)
