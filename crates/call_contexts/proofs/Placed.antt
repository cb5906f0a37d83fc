-- Places of statements and procedures, by what is known of them.
use Rattle.std.proofs.Common.{ℕ, suc, ◌≡◌, ◌==◌, ◌+◌, ◌||◌, cond, Bool, true, false, List, [], ◌∷◌, ◌++◌, length, Option, Some, None, option_map, refl, sym, ap, ◌∙◌, subst, arith, append_assoc}
use Rattle.std.specs.Prelude.{if◌then◌else◌}
use Rattle.std.specs.Str.{bytes_eq}
use Rattle.std.specs.Cmp.Lexicographic.{bytes_decides}
use Rattle.std.proofs.lemmas.Bool.Decides.{nat_tests}
use Rattle.std.proofs.Math.Bool.{or-false}
use Rattle.imp_syntax.specs.Plain.{Statements, Ends, Starts, Procedure}
use Rattle.imp_syntax.specs.Plain as tree
use Rattle.imp_slots.specs.Plain.{code_numbers}
use Rattle.imp_slots.specs.Fits.{Absent, Distinct}
use Rattle.imp_check.specs.Faults.{first}
use Rattle.imp_check.specs.Names.{is_named, place_named, named_in}
use Rattle.imp_check.specs.Parts.{first_or}
use Rattle.imp_check.specs.Programs.{AreNumbered}
use Rattle.imp_check.specs.Slots.{Resolver, code_in, routines_from, routines_of}
use Rattle.imp_check.specs.Entries.{inside, inside_loop, entry_at, block_entries, procedure_entries, entries_from, entries_of, entry_of, resolver_at, context_at}
use Rattle.imp_check.specs.declared.entry.Context.{Context}
use Rattle.imp_check.specs.declared.entry.Entry.{Entry}
use Rattle.imp_check.specs.declared.entry.Which.TheVariants as which
use Rattle.imp_check.proofs.RebuildLemmas.{entry_numbers, all_numbers}
use Rattle.imp_chains.specs.Chains.{has, has_while, holder_from, holder, named_from, named, is_while}
use Rattle.imp_words.specs.declared.refusal.QueryRefusal.TheVariants.{NoStatement}
use Rattle.batch_meaning.specs.Answers.{found_or, found_loop}
use Rattle.call_contexts.specs.Places.{is_loop}
use Rattle.call_contexts.proofs.Numbered.{has_both}
use Rattle.base_values.proofs.Cases.{by_test}
use Rattle.base_values.proofs.Lists.{one_more}

pub swapped : (m n : ℕ) → (m == n) ≡ (n == m)
swapped m n = grind (arith, nat_tests)

pub or_last : (a b : Bool) → (a || b) ≡ (if a then true else b)
or_last true b = refl
or_last false b = refl

-- The procedure of what is known of a statement.
abbrev pub proc_of : Option Entry → Option ℕ
proc_of o = option_map (λ (e : Entry). e.context.proc) o

abbrev here : ℕ → Bool → Option ℕ
here k true = Some k
here k false = None

module _ (n : ℕ) where
  proc_both : (xs ys : List Entry) → proc_of (entry_of (xs ++ ys) n) ≡ first (proc_of (entry_of xs n)) (proc_of (entry_of ys n))
  proc_both [] ys = refl
  proc_both (x ∷ xs) ys = go (x.number == n) (proc_both xs ys)
    where
      go : (b : Bool) → proc_of (entry_of (xs ++ ys) n) ≡ first (proc_of (entry_of xs n)) (proc_of (entry_of ys n)) → proc_of (cond b (Some x) (entry_of (xs ++ ys) n)) ≡ first (proc_of (cond b (Some x) (entry_of xs n))) (proc_of (entry_of ys n))
      go true h = refl
      go false h = h

  module _ (k : ℕ) where
    -- the statements of these numbers are in the procedure at the place k
    abbrev Held : List Entry → List ℕ → Type 0
    Held xs ms = proc_of (entry_of xs n) ≡ here k (has n ms)

    held_one : (x : Entry) (xs : List Entry) (ms : List ℕ) → x.context.proc ≡ k → Held xs ms → Held (x ∷ xs) (x.number ∷ ms)
    held_one x xs ms e h = ap (λ b. proc_of (cond b (Some x) (entry_of xs n))) (swapped x.number n) ∙ go (n == x.number)
      where
        go : (b : Bool) → proc_of (cond b (Some x) (entry_of xs n)) ≡ here k (if b then true else has n ms)
        go true = ap Some e
        go false = h

    held_both : (xs ys : List Entry) (ms ns : List ℕ) → Held xs ms → Held ys ns → Held (xs ++ ys) (ms ++ ns)
    held_both xs ys ms ns p q = proc_both xs ys ∙ (λ i. first (p i) (q i)) ∙ go (has n ms) (has n ns) ∙ ap (here k) (sym (has_both n ms ns))
      where
        go : (a b : Bool) → first (here k a) (here k b) ≡ here k (a || b)
        go true b = refl
        go false b = refl

    module _ (f : Resolver) where
      held_block : (c : Context) (a p : Option ℕ) (b : Statements) → c.proc ≡ k → Held (block_entries f c a p b) (code_numbers (code_in f b))
      held_block c a p Ends e = refl
      held_block c a p (Starts (tree.Simple m x) ss) e = held_one (entry_at f c a (first_or ss p) (tree.Simple m x)) (block_entries f c (Some m) p ss) (code_numbers (code_in f ss)) e (held_block c (Some m) p ss e)
      held_block c a p (Starts (tree.Break m) ss) e = held_one (entry_at f c a (first_or ss p) (tree.Break m)) (block_entries f c (Some m) p ss) (code_numbers (code_in f ss)) e (held_block c (Some m) p ss e)
      held_block c a p (Starts (tree.Call m x g es) ss) e = held_one (entry_at f c a (first_or ss p) (tree.Call m x g es)) (block_entries f c (Some m) p ss) (code_numbers (code_in f ss)) e (held_block c (Some m) p ss e)
      held_block c a p (Starts (tree.If m d t u) ss) e =
          let T = block_entries f (inside c m which.Then) None None t in
          let E = block_entries f (inside c m which.Else) None None u in
          let R = block_entries f c (Some m) p ss in
          let ts = code_numbers (code_in f t) in
          let us = code_numbers (code_in f u) in
          let rs = code_numbers (code_in f ss) in
          let all = held_both (T ++ E) R (ts ++ us) rs (held_both T E ts us (held_block (inside c m which.Then) None None t e) (held_block (inside c m which.Else) None None u e)) (held_block c (Some m) p ss e) in
          held_one (entry_at f c a (first_or ss p) (tree.If m d t u)) ((T ++ E) ++ R) (ts ++ (us ++ rs)) e (subst (Held ((T ++ E) ++ R)) (append_assoc ts us rs) all)
      held_block c a p (Starts (tree.While m d b) ss) e =
          let B = block_entries f (inside_loop c m) None None b in
          let R = block_entries f c (Some m) p ss in
          let bs = code_numbers (code_in f b) in
          let rs = code_numbers (code_in f ss) in
          held_one (entry_at f c a (first_or ss p) (tree.While m d b)) (B ++ R) (bs ++ rs) e (held_both B R bs rs (held_block (inside_loop c m) None None b e) (held_block c (Some m) p ss e))

  held_from : (es ps : List Procedure) → proc_of (entry_of (entries_from es ps) n) ≡ holder_from n (length es) (routines_from es ps)
  held_from es [] = refl
  held_from es (p ∷ ps) =
      proc_both (procedure_entries es p) (entries_from (es ++ p ∷ []) ps)
      ∙ ap (λ o. first o (proc_of (entry_of (entries_from (es ++ p ∷ []) ps) n))) (held_block (length es) (resolver_at es p) (context_at (length es)) None None p.body refl)
      ∙ ap (first (here (length es) (has n (code_numbers (code_in (resolver_at es p) p.body))))) (held_from (es ++ p ∷ []) ps ∙ ap (λ k. holder_from n k (routines_from (es ++ p ∷ []) ps)) (one_more es p))
      ∙ go (has n (code_numbers (code_in (resolver_at es p) p.body))) (holder_from n (suc (length es)) (routines_from (es ++ p ∷ []) ps))
    where
      go : (b : Bool) (o : Option ℕ) → first (here (length es) b) o ≡ (if b then Some (length es) else o)
      go true o = refl
      go false o = refl

-- A statement's procedure is the first one that has its number.
pub holder_is : (ps : List Procedure) (n : ℕ) → holder n (routines_of ps) ≡ proc_of (entry_of (entries_of ps) n)
holder_is ps n = sym (held_from n [] ps)

-- Whether what is known of a statement is that it is a loop.
abbrev pub loop_of : Option Entry → Bool
loop_of None = false
loop_of (Some e) = is_loop e.part

module _ (n : ℕ) where
  -- whether one of these is a loop of this number
  abbrev pub any_loop : List Entry → Bool
  any_loop [] = false
  any_loop (x ∷ xs) = cond (x.number == n) (is_loop x.part || any_loop xs) (any_loop xs)

  any_both : (xs ys : List Entry) → any_loop (xs ++ ys) ≡ (any_loop xs || any_loop ys)
  any_both [] ys = refl
  any_both (x ∷ xs) ys = go (x.number == n) (is_loop x.part) (any_both xs ys)
    where
      go : (b l : Bool) → any_loop (xs ++ ys) ≡ (any_loop xs || any_loop ys) → cond b (l || any_loop (xs ++ ys)) (any_loop (xs ++ ys)) ≡ (cond b (l || any_loop xs) (any_loop xs) || any_loop ys)
      go true true h = refl
      go true false h = h
      go false l h = h

  no_loop : (b r : Bool) → cond b (false || r) r ≡ r
  no_loop true r = refl
  no_loop false r = refl

  module _ (f : Resolver) where
    pub any_block : (c : Context) (a p : Option ℕ) (b : Statements) → any_loop (block_entries f c a p b) ≡ has_while n (code_in f b)
    any_block c a p Ends = refl
    any_block c a p (Starts (tree.Simple m x) ss) = no_loop (m == n) (any_loop (block_entries f c (Some m) p ss)) ∙ any_block c (Some m) p ss
    any_block c a p (Starts (tree.Break m) ss) = no_loop (m == n) (any_loop (block_entries f c (Some m) p ss)) ∙ any_block c (Some m) p ss
    any_block c a p (Starts (tree.Call m x g es) ss) = no_loop (m == n) (any_loop (block_entries f c (Some m) p ss)) ∙ any_block c (Some m) p ss
    any_block c a p (Starts (tree.If m d t u) ss) =
        let T = block_entries f (inside c m which.Then) None None t in
        let E = block_entries f (inside c m which.Else) None None u in
        let R = block_entries f c (Some m) p ss in
        no_loop (m == n) (any_loop ((T ++ E) ++ R))
        ∙ any_both (T ++ E) R
        ∙ ap (λ b. b || any_loop R) (any_both T E)
        ∙ (λ i. (any_block (inside c m which.Then) None None t i || any_block (inside c m which.Else) None None u i) || any_block c (Some m) p ss i)
        ∙ go (has_while n (code_in f t)) (has_while n (code_in f u)) (has_while n (code_in f ss))
      where
        go : (a b r : Bool) → ((a || b) || r) ≡ (if a then true else if b then true else r)
        go true b r = refl
        go false true r = refl
        go false false r = refl
    any_block c a p (Starts (tree.While m d b) ss) =
        let B = block_entries f (inside_loop c m) None None b in
        let R = block_entries f c (Some m) p ss in
        ap (λ t. cond t (true || any_loop (B ++ R)) (any_loop (B ++ R))) (swapped m n)
        ∙ ap (λ r. cond (n == m) true r) (any_both B R ∙ (λ i. any_block (inside_loop c m) None None b i || any_block c (Some m) p ss i))
        ∙ go (n == m) (has_while n (code_in f b)) (has_while n (code_in f ss))
      where
        go : (t a r : Bool) → cond t true (a || r) ≡ (if t then true else if a then true else r)
        go true a r = refl
        go false true r = refl
        go false false r = refl

  any_from : (es ps : List Procedure) → any_loop (entries_from es ps) ≡ is_while n (routines_from es ps)
  any_from es [] = refl
  any_from es (p ∷ ps) =
      any_both (procedure_entries es p) (entries_from (es ++ p ∷ []) ps)
      ∙ (λ i. any_block (resolver_at es p) (context_at (length es)) None None p.body i || any_from (es ++ p ∷ []) ps i)
      ∙ or_last (has_while n (code_in (resolver_at es p) p.body)) (is_while n (routines_from (es ++ p ∷ []) ps))

  none_absent : (xs : List Entry) → Absent n (entry_numbers xs) → any_loop xs ≡ false
  none_absent [] a = refl
  none_absent (x ∷ xs) a = by_test x.number n (λ b. cond b (is_loop x.part || any_loop xs) (any_loop xs) ≡ false) (λ e. absurd (a.0 (sym e))) (λ e. none_absent xs a.1)

  any_is : (xs : List Entry) → Distinct (entry_numbers xs) → any_loop xs ≡ loop_of (entry_of xs n)
  any_is [] d = refl
  any_is (x ∷ xs) d =
      by_test x.number n (λ b. cond b (is_loop x.part || any_loop xs) (any_loop xs) ≡ loop_of (cond b (Some x) (entry_of xs n)))
      (λ e. ap (λ r. is_loop x.part || r) (none_absent xs (subst (λ m. Absent m (entry_numbers xs)) e d.0)) ∙ or-false (is_loop x.part))
      (λ e. any_is xs d.1)

-- Whether a program has a loop of a number is told by the statement of the number.
pub while_is : (ps : List Procedure) (n : ℕ) → AreNumbered ps → is_while n (routines_of ps) ≡ loop_of (entry_of (entries_of ps) n)
while_is ps n h = sym (any_from n [] ps) ∙ any_is n (entries_of ps) (subst Distinct (sym (all_numbers ps)) h.once)

-- The procedure of a loop is told by the statement of its number.
pub loop_found : (ps : List Procedure) (n : ℕ) (o : Option Entry) (b : Bool) → AreNumbered ps → o ≡ entry_of (entries_of ps) n → loop_of o ≡ b → found_loop b (found_or NoStatement (proc_of o)) ≡ found_loop (is_while n (routines_of ps)) (found_or NoStatement (holder n (routines_of ps)))
loop_found ps n o b h e l =
    let w : is_while n (routines_of ps) ≡ b = while_is ps n h ∙ ap loop_of (sym e) ∙ l in
    let p : holder n (routines_of ps) ≡ proc_of o = holder_is ps n ∙ ap proc_of (sym e) in
    sym (λ i. found_loop (w i) (found_or NoStatement (p i)))

-- The procedures over slots have the names of the program's.
pub same_names : (x y : List ℕ) → bytes_eq x y ≡ bytes_eq y x
same_names x y = go (bytes_eq x y) (bytes_eq y x) refl refl
  where
    go : (a b : Bool) → bytes_eq x y ≡ a → bytes_eq y x ≡ b → a ≡ b
    go true true e f = refl
    go false false e f = refl
    go true false e f = sym ((bytes_decides y x).1 (sym ((bytes_decides x y).0 e))) ∙ f
    go false true e f = sym e ∙ (bytes_decides x y).1 (sym ((bytes_decides y x).0 f))

named_by : (x : List ℕ) (k : ℕ) (es ps : List Procedure) → named_from x k (routines_from es ps) ≡ cond (is_named ps x) (Some (k + place_named ps x)) None
named_by x k es [] = refl
named_by x k es (p ∷ ps) =
    ap (λ b. if b then Some k else named_from x (suc k) (routines_from (es ++ p ∷ []) ps)) (same_names x p.name)
    ∙ go (bytes_eq p.name x) (is_named ps x) (place_named ps x) (named_by x (suc k) (es ++ p ∷ []) ps)
  where
    go : (b c : Bool) (q : ℕ) → named_from x (suc k) (routines_from (es ++ p ∷ []) ps) ≡ cond c (Some (suc k + q)) None → (if b then Some k else named_from x (suc k) (routines_from (es ++ p ∷ []) ps)) ≡ cond (b || c) (Some (k + cond b 0 (suc q))) None
    go true c q h = let z : k ≡ k + 0 = omega arith in ap Some z
    go false true q h = let z : suc k + q ≡ k + suc q = omega arith in h ∙ ap Some z
    go false false q h = h

pub named_is : (ps : List Procedure) (x : List ℕ) → named x (routines_of ps) ≡ named_in ps x
named_is ps x = named_by x 0 [] ps ∙ go (is_named ps x) (place_named ps x)
  where
    go : (b : Bool) (q : ℕ) → cond b (Some (0 + q)) None ≡ cond b (Some q) None
    go true q = let z : 0 + q ≡ q = omega arith in ap Some z
    go false q = refl
