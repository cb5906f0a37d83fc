-- What a change takes from a procedure and brings to it is what the procedure has less and more than before.
use Rattle.std.proofs.lemmas.Bool.{cases_lt}
use Rattle.std.proofs.lemmas.Option.{same_Some}
use Rattle.std.proofs.Common.{◌≡◌, ◌≢◌, ℕ, zero, suc, ◌+◌, ◌<◌, ◌≤◌, ◌==◌, ◌⊎◌, inl, inr, cond, Bool, true, false, List, [], ◌∷◌, ◌++◌, length, take, slice_get, Option, Some, None, refl, sym, ap, ◌∙◌, subst, arith, append_assoc, append-nil, length-append}
use Rattle.std.specs.Prelude.{if◌then◌else◌}
use Rattle.imp_table.proofs.ChangeLemmas.{no_entry}
use Rattle.imp_syntax.specs.Plain.{Statements, Ends, Starts, Procedure}
use Rattle.imp_syntax.specs.Plain as tree
use Rattle.imp_slots.specs.Fits.{Distinct}
use Rattle.imp_check.specs.Slots.{Resolver, code_in, routine_of, effect_in, guard_in}
use Rattle.imp_check.specs.Parts.{first_or}
use Rattle.imp_check.specs.Programs.{block_count, program_count}
use Rattle.imp_check.specs.Entries.{inside, inside_loop, entry_at, block_entries, procedure_entries, entries_from, entries_of, entry_of, resolver_at, context_at}
use Rattle.imp_table.specs.Changes.{overlay}
use Rattle.imp_table.specs.declared.change.Put.{Put}
use Rattle.imp_check.specs.declared.entry.Context.{Context}
use Rattle.imp_check.specs.declared.entry.Entry.{Entry}
use Rattle.imp_check.specs.declared.entry.Which.TheVariants as which
use Rattle.imp_table.proofs.OverlayLemmas.{put_numbers, overlay_other}
use Rattle.imp_check.proofs.PutLemmas.{other, same}
use Rattle.imp_check.proofs.RebuildLemmas.{entry_numbers}
use Rattle.imp_chains.specs.Chains.{has}
use Rattle.imp_chains.specs.Thresholds.{effect_literals, guard_literals}
use Rattle.call_contexts.specs.Literals.{form_literals}
use Rattle.call_contexts.specs.Tallies.{literal_lists, one_if, times}
use Rattle.call_contexts.specs.Differences.{lists_in, lost, gained}
use Rattle.call_contexts.proofs.LiteralLemmas.{effect_again}
use Rattle.call_contexts.proofs.TallyLemmas.{times_both}
use Rattle.base_values.proofs.Lists.{one_more}

-- A sum over the numbers below a bound.
abbrev sum_to : (ℕ → ℕ) → ℕ → ℕ
sum_to g zero = 0
sum_to g (suc b) = g b + sum_to g b

sum_same : (g h : ℕ → ℕ) (b : ℕ) → ((m : ℕ) → m < b → h m ≡ g m) → sum_to h b ≡ sum_to g b
sum_same g h zero e = refl
sum_same g h (suc b) e = omega (arith, e b (omega arith), sum_same g h b (λ m l. e m (omega arith)))

sum_none : (g : ℕ → ℕ) (b : ℕ) → ((m : ℕ) → g m ≡ 0) → sum_to g b ≡ 0
sum_none g zero e = refl
sum_none g (suc b) e = omega (arith, e b, sum_none g b e)

-- another value at one of them
sum_changed : (g h : ℕ → ℕ) (x b : ℕ) → x < b → ((m : ℕ) → m ≢ x → h m ≡ g m) → sum_to h b + g x ≡ sum_to g b + h x
sum_changed g h x zero l e = absurd (omega arith)
sum_changed g h x (suc b) l e = go (cases_lt x b) (sum_changed g h x b)
  where
    go : (x < b) ⊎ (b ≤ x) → (x < b → ((m : ℕ) → m ≢ x → h m ≡ g m) → sum_to h b + g x ≡ sum_to g b + h x) → (h b + sum_to h b) + g x ≡ (g b + sum_to g b) + h x
    go (inl s) ih = omega (arith, ih s e, e b (λ i. omega (arith, s, i)))
    go (inr s) ih =
        let q : b ≡ x = omega (arith, s, l) in
        omega (arith, ap g q, ap h q, sum_same g h b (λ m k. e m (λ i. omega (arith, k, i, q))))

-- Numbers below a bound, and one above all of them.
abbrev Below : ℕ → List ℕ → Type 0
Below b [] = Unit {0}
Below b (n ∷ ns) = (n < b) × Below b ns

abbrev beyond : List ℕ → ℕ
beyond [] = 0
beyond (n ∷ ns) = suc (n + beyond ns)

below_beyond : (ns : List ℕ) (b : ℕ) → beyond ns ≤ b → Below b ns
below_beyond [] b h = tt
below_beyond (n ∷ ns) b h = (omega arith, below_beyond ns b (omega arith))

module _ (k n : ℕ) where
  -- whether what is a statement of the procedure has the number
  abbrev here : Option Entry → ℕ
  here o = times n (lists_in k o)

  -- in how many of these it stands
  abbrev pub counted : List Entry → ℕ
  counted [] = 0
  counted (e ∷ es) = here (Some e) + counted es

  counted_both : (xs ys : List Entry) → counted (xs ++ ys) ≡ counted xs + counted ys
  counted_both [] ys = omega arith
  counted_both (x ∷ xs) ys = omega (arith, counted_both xs ys)

  -- the statements of a list, by their numbers
  by_numbers : (es : List Entry) (b : ℕ) → Distinct (entry_numbers es) → Below b (entry_numbers es) → sum_to (λ m. here (entry_of es m)) b ≡ counted es
  by_numbers [] b d l = sum_none (λ m. here None) b (λ m. refl)
  by_numbers (e ∷ es) b d l =
      let g : ℕ → ℕ = λ m. here (entry_of es m) in
      let h : ℕ → ℕ = λ m. here (entry_of (e ∷ es) m) in
      let was : here (entry_of es e.number) ≡ 0 = ap here (no_entry es e.number d.0) in
      let is : here (entry_of (e ∷ es) e.number) ≡ here (Some e) = ap (λ b. here (cond b (Some e) (entry_of es e.number))) (same e.number) in
      omega (arith, was, is, by_numbers es b d.1 l.1, sum_changed g h e.number b l.0 (λ m i. ap (λ b. here (cond b (Some e) (entry_of es m))) (other e.number m (λ j. i (sym j)))))

  -- Another statement, or none, at some numbers.
  laid : (at : ℕ → Option Entry) (ps : List Put) (b : ℕ) → Distinct (put_numbers ps) → Below b (put_numbers ps) → sum_to (λ m. here (overlay ps at m)) b + times n (lost k at ps) ≡ sum_to (λ m. here (at m)) b + times n (gained k ps)
  laid at [] b d l = refl
  laid at (p ∷ ps) b d l =
      let g : ℕ → ℕ = λ m. here (overlay ps at m) in
      let h : ℕ → ℕ = λ m. here (overlay (p ∷ ps) at m) in
      let was : here (overlay ps at p.number) ≡ here (at p.number) = ap here (overlay_other ps at p.number d.0) in
      let is : here (overlay (p ∷ ps) at p.number) ≡ here p.entry = ap (λ b. here (cond b p.entry (overlay ps at p.number))) (same p.number) in
      omega (
        arith,
        was,
        is,
        laid at ps b d.1 l.1,
        times_both n (lists_in k (at p.number)) (lost k at ps),
        times_both n (lists_in k p.entry) (gained k ps),
        sum_changed g h p.number b l.0 (λ m i. ap (λ b. here (cond b p.entry (overlay ps at m))) (other p.number m (λ j. i (sym j)))),
      )

  -- no more goes than there is
  abbrev emptied : List Put → List Put
  emptied [] = []
  emptied (p ∷ ps) = record { number = p.number; entry = None } ∷ emptied ps

  emptied_numbers : (ps : List Put) → put_numbers (emptied ps) ≡ put_numbers ps
  emptied_numbers [] = refl
  emptied_numbers (p ∷ ps) = ap (λ ns. p.number ∷ ns) (emptied_numbers ps)

  emptied_lost : (at : ℕ → Option Entry) (ps : List Put) → lost k at (emptied ps) ≡ lost k at ps
  emptied_lost at [] = refl
  emptied_lost at (p ∷ ps) = ap (λ xs. lists_in k (at p.number) ++ xs) (emptied_lost at ps)

  emptied_gained : (ps : List Put) → gained k (emptied ps) ≡ []
  emptied_gained [] = refl
  emptied_gained (p ∷ ps) = emptied_gained ps

  no_more_lost : (at : ℕ → Option Entry) (ps : List Put) (b : ℕ) → Distinct (put_numbers ps) → Below b (put_numbers ps) → times n (lost k at ps) ≤ sum_to (λ m. here (at m)) b
  no_more_lost at ps b d l =
      let s = laid at (emptied ps) b (subst Distinct (sym (emptied_numbers ps)) d) (subst (Below b) (sym (emptied_numbers ps)) l) in
      omega (arith, s, ap (times n) (emptied_lost at ps), ap (times n) (emptied_gained ps))

  -- The statements of a procedure, as its numbers stand over slots.
  one : (x : Entry) (ls : List ℕ) (t : Bool) → (x.context.proc == k) ≡ t → form_literals x.form ≡ ls → here (Some x) ≡ cond t (one_if (has n ls)) 0
  one x ls t e f = ap (λ b. times n (if b then form_literals x.form ∷ [] else [])) e ∙ go t ∙ ap (λ ns. cond t (one_if (has n ns)) 0) f
    where
      go : (t : Bool) → times n (if t then form_literals x.form ∷ [] else []) ≡ cond t (one_if (has n (form_literals x.form))) 0
      go true = omega arith
      go false = refl

  both : (t : Bool) (a b : ℕ) → cond t a 0 + cond t b 0 ≡ cond t (a + b) 0
  both true a b = refl
  both false a b = omega arith

  module _ (f : Resolver) (t : Bool) where
    pub counted_block : (c : Context) (a p : Option ℕ) (b : Statements) → (c.proc == k) ≡ t → counted (block_entries f c a p b) ≡ cond t (times n (literal_lists (code_in f b))) 0
    counted_block c a p Ends e = go t
      where
        go : (t : Bool) → times n [] ≡ cond t (times n []) 0
        go true = refl
        go false = refl
    counted_block c a p (Starts (tree.Simple m x) ss) e =
        let X = entry_at f c a (first_or ss p) (tree.Simple m x) in
        let ls = effect_literals (effect_in f.layout x) in
        (λ i. one X ls t e (ap effect_literals (effect_again (effect_in f.layout x))) i + counted_block c (Some m) p ss e i)
        ∙ both t (one_if (has n ls)) (times n (literal_lists (code_in f ss)))
    counted_block c a p (Starts (tree.Break m) ss) e =
        let X = entry_at f c a (first_or ss p) (tree.Break m) in
        (λ i. one X [] t e refl i + counted_block c (Some m) p ss e i)
        ∙ both t (one_if (has n [])) (times n (literal_lists (code_in f ss)))
    counted_block c a p (Starts (tree.Call m x g es) ss) e =
        let X = entry_at f c a (first_or ss p) (tree.Call m x g es) in
        (λ i. one X (form_literals X.form) t e refl i + counted_block c (Some m) p ss e i)
        ∙ both t (one_if (has n (form_literals X.form))) (times n (literal_lists (code_in f ss)))
    counted_block c a p (Starts (tree.If m d u v) ss) e =
        let X = entry_at f c a (first_or ss p) (tree.If m d u v) in
        let T = block_entries f (inside c m which.Then) None None u in
        let E = block_entries f (inside c m which.Else) None None v in
        let R = block_entries f c (Some m) p ss in
        let us = literal_lists (code_in f u) in
        let vs = literal_lists (code_in f v) in
        let rs = literal_lists (code_in f ss) in
        let g = one_if (has n (guard_literals (guard_in f.layout d))) in
        let inner =
        counted_both (T ++ E) R ∙ ap (λ m. m + counted R) (counted_both T E)
        ∙ (λ i. (counted_block (inside c m which.Then) None None u e i + counted_block (inside c m which.Else) None None v e i) + counted_block c (Some m) p ss e i)
        ∙ ap (λ m. m + cond t (times n rs) 0) (both t (times n us) (times n vs))
        ∙ both t (times n us + times n vs) (times n rs) in
        let all : (g + ((times n us + times n vs) + times n rs)) ≡ g + times n (us ++ (vs ++ rs)) = omega (arith, times_both n us (vs ++ rs), times_both n vs rs) in
        (λ i. one X (guard_literals (guard_in f.layout d)) t e refl i + inner i)
        ∙ both t g ((times n us + times n vs) + times n rs)
        ∙ ap (λ m. cond t m 0) all
    counted_block c a p (Starts (tree.While m d b) ss) e =
        let X = entry_at f c a (first_or ss p) (tree.While m d b) in
        let B = block_entries f (inside_loop c m) None None b in
        let R = block_entries f c (Some m) p ss in
        let bs = literal_lists (code_in f b) in
        let rs = literal_lists (code_in f ss) in
        let g = one_if (has n (guard_literals (guard_in f.layout d))) in
        let inner =
        counted_both B R
        ∙ (λ i. counted_block (inside_loop c m) None None b e i + counted_block c (Some m) p ss e i)
        ∙ both t (times n bs) (times n rs) in
        let all : (g + (times n bs + times n rs)) ≡ g + times n (bs ++ rs) = omega (arith, times_both n bs rs) in
        (λ i. one X (guard_literals (guard_in f.layout d)) t e refl i + inner i)
        ∙ both t g (times n bs + times n rs)
        ∙ ap (λ m. cond t m 0) all

  none_here : (es ps : List Procedure) → k < length es → counted (entries_from es ps) ≡ 0
  none_here es [] h = refl
  none_here es (q ∷ ps) h =
      let first = counted_block (resolver_at es q) false (context_at (length es)) None None q.body (other (length es) k (λ i. omega (arith, i, h))) in
      let rest = none_here (es ++ q ∷ []) ps (omega (arith, h, one_more es q)) in
      omega (arith, counted_both (procedure_entries es q) (entries_from (es ++ q ∷ []) ps), first, rest)

  own_here : (es ps : List Procedure) (j : ℕ) (p : Procedure) → slice_get ps j ≡ Some p → k ≡ length es + j → counted (entries_from es ps) ≡ times n (literal_lists (routine_of (es ++ take j ps) p).code)
  own_here es [] j p h e = absurd cc
  own_here es (q ∷ ps) zero p h e =
      let s : q ≡ p = same_Some q p h in
      let z : length es ≡ k = omega (arith, e) in
      let first = counted_block (resolver_at es q) true (context_at (length es)) None None q.body (ap (λ m. m == k) z ∙ same k) in
      let rest = none_here (es ++ q ∷ []) ps (omega (arith, z, one_more es q)) in
      let all : counted (entries_from es (q ∷ ps)) ≡ times n (literal_lists (routine_of es q).code) = omega (arith, counted_both (procedure_entries es q) (entries_from (es ++ q ∷ []) ps), first, rest) in
      all ∙ (λ i. times n (literal_lists (routine_of (sym (append-nil es) i) (s i)).code))
  own_here es (q ∷ ps) (suc j) p h e =
      let first = counted_block (resolver_at es q) false (context_at (length es)) None None q.body (other (length es) k (λ i. omega (arith, i, e))) in
      let rest = own_here (es ++ q ∷ []) ps j p h (omega (arith, e, one_more es q)) in
      let all : counted (entries_from es (q ∷ ps)) ≡ times n (literal_lists (routine_of ((es ++ q ∷ []) ++ take j ps) p).code) = omega (arith, counted_both (procedure_entries es q) (entries_from (es ++ q ∷ []) ps), first, rest) in
      all ∙ ap (λ (z : List Procedure). times n (literal_lists (routine_of z p).code)) (append_assoc es (q ∷ []) (take j ps))

  pub own_counted : (ps : List Procedure) (p : Procedure) → slice_get ps k ≡ Some p → counted (entries_of ps) ≡ times n (literal_lists (routine_of (take k ps) p).code)
  own_counted ps p h = own_here [] ps k p h (omega arith)

  -- The numbers of the statements of both programs and of the change are below some bound.
  pub balance : (old new : List Entry) (ps : List Put) → Distinct (entry_numbers old) → Distinct (entry_numbers new) → Distinct (put_numbers ps) → ((m : ℕ) → entry_of new m ≡ overlay ps (entry_of old) m)
      → (counted new + times n (lost k (entry_of old) ps) ≡ counted old + times n (gained k ps)) × (times n (lost k (entry_of old) ps) ≤ counted old)
  balance old new ps d u v h =
      let b = beyond (entry_numbers old) + (beyond (entry_numbers new) + beyond (put_numbers ps)) in
      let lo = below_beyond (entry_numbers old) b (omega arith) in
      let ln = below_beyond (entry_numbers new) b (omega arith) in
      let lp = below_beyond (put_numbers ps) b (omega arith) in
      let had = by_numbers old b d lo in
      let has : sum_to (λ m. here (overlay ps (entry_of old) m)) b ≡ counted new = sum_same (λ m. here (entry_of new m)) (λ m. here (overlay ps (entry_of old) m)) b (λ m l. ap here (sym (h m))) ∙ by_numbers new b u ln in
      (omega (arith, had, has, laid (entry_of old) ps b v lp), omega (arith, had, no_more_lost (entry_of old) ps b v lp))

-- In few statements.
times_few : (n : ℕ) (lists : List (List ℕ)) → times n lists ≤ length lists
times_few n [] = omega arith
times_few n (ns ∷ lists) = omega (arith, at_most_one (has n ns), times_few n lists)
  where
    at_most_one : (b : Bool) → one_if b ≤ 1
    at_most_one true = omega arith
    at_most_one false = omega arith

lists_length : (f : Resolver) (b : Statements) → length (literal_lists (code_in f b)) ≡ block_count b
lists_length f Ends = refl
lists_length f (Starts (tree.Simple m x) ss) = omega (arith, lists_length f ss)
lists_length f (Starts (tree.Break m) ss) = omega (arith, lists_length f ss)
lists_length f (Starts (tree.Call m x g es) ss) = omega (arith, lists_length f ss)
lists_length f (Starts (tree.If m d u v) ss) =
    omega (
      arith,
      lists_length f u,
      lists_length f v,
      lists_length f ss,
      length-append (literal_lists (code_in f u)) (literal_lists (code_in f v) ++ literal_lists (code_in f ss)),
      length-append (literal_lists (code_in f v)) (literal_lists (code_in f ss)),
    )
lists_length f (Starts (tree.While m d b) ss) =
    omega (arith, lists_length f b, lists_length f ss, length-append (literal_lists (code_in f b)) (literal_lists (code_in f ss)))

count_there : (ps : List Procedure) (k : ℕ) (p : Procedure) → slice_get ps k ≡ Some p → block_count p.body ≤ program_count ps
count_there [] k p h = absurd cc
count_there (q ∷ ps) zero p h = let e : q ≡ p = same_Some q p h in omega (arith, ap (λ (z : Procedure). block_count z.body) e)
count_there (q ∷ ps) (suc k) p h = omega (arith, count_there ps k p h)

pub times_below : (ps : List Procedure) (k n : ℕ) (p : Procedure) → slice_get ps k ≡ Some p → times n (literal_lists (routine_of (take k ps) p).code) ≤ program_count ps
times_below ps k n p h =
    let f = resolver_at (take k ps) p in
    omega (arith, times_few n (literal_lists (code_in f p.body)), lists_length f p.body, count_there ps k p h)
