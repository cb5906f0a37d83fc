-- The statements of a procedure are those that are found from one to the next.
use Rattle.std.proofs.Common.{◌≡◌, ℕ, zero, suc, ◌-◌, ◌<◌, inl, inr, List, [], ◌∷◌, ◌++◌, length, take, slice_get, Option, Some, None, option_map, refl, sym, ap, ◌∙◌, subst, arith, append_assoc, append-nil}
use Rattle.std.proofs.lemmas.Option.{same_Some}
use Rattle.imp_syntax.specs.Plain.{Statements, Ends, Starts, Procedure, numbers}
use Rattle.imp_syntax.specs.Plain as tree
use Rattle.imp_slots.specs.Fits.{Distinct}
use Rattle.imp_check.specs.Slots.{Resolver}
use Rattle.imp_check.specs.Programs.{AreNumbered, block_count, program_count}
use Rattle.imp_check.specs.Parts.{first_or, ends_of}
use Rattle.imp_check.specs.Entries.{inside, inside_loop, entry_at, block_entries, procedure_entries, entries_from, entries_of, entry_of, resolver_at, context_at}
use Rattle.imp_check.specs.Rebuilt.{next_in}
use Rattle.imp_check.specs.Walks.{walk, walked, body_numbers, numbers_at}
use Rattle.imp_check.specs.declared.entry.BlockEnds.{BlockEnds}
use Rattle.imp_check.specs.declared.entry.Context.{Context}
use Rattle.imp_check.specs.declared.entry.Entry.{Entry}
use Rattle.imp_check.specs.declared.entry.Which.TheVariants as which
use Rattle.imp_check.proofs.RebuildLemmas.{In, in_left, in_right, Known, known_left, known_right, found, all_numbers}

abbrev pub option_ends : Option Procedure → Option BlockEnds
option_ends o = option_map (λ (p : Procedure). ends_of p.body) o

-- What a walk does with the statement that is next.
pub walk_step : (at : ℕ → Option Entry) (left : ℕ) (o : Option ℕ) (e : Entry) → next_in at left o ≡ Some e → walk at left o ≡ e.number ∷ (walk at (left - 1) e.inner.first ++ (walk at (left - 1) e.other.first ++ walk at (left - 1) e.next))
walk_step at zero o e h = cc
walk_step at (suc left) None e h = cc
walk_step at (suc left) (Some n) e h =
    let p : suc left - 1 ≡ left = omega arith in
    ap (walked (walk at left)) h
    ∙ ap (λ k. e.number ∷ (walk at k e.inner.first ++ (walk at k e.other.first ++ walk at k e.next))) (sym p)

pub walk_none : (at : ℕ → Option Entry) (left : ℕ) (o : Option ℕ) → next_in at left o ≡ None → walk at left o ≡ []
walk_none at zero o h = refl
walk_none at (suc left) None h = refl
walk_none at (suc left) (Some n) h = ap (walked (walk at left)) h

pub walk_nothing : (at : ℕ → Option Entry) (m : ℕ) → walk at m None ≡ []
walk_nothing at zero = refl
walk_nothing at (suc m) = refl

module _ (at : ℕ → Option Entry) (f : Resolver) where
  -- a statement whose entry is found, those inside it, and those after it
  step : (m : ℕ) (x : Entry) (xs ys zs : List ℕ) → at x.number ≡ Some x → walk at m x.inner.first ≡ xs → walk at m x.other.first ≡ ys → walk at m x.next ≡ zs → walk at (suc m) (Some x.number) ≡ x.number ∷ (xs ++ (ys ++ zs))
  step m x xs ys zs k p q r = ap (walked (walk at m)) k ∙ (λ i. x.number ∷ (p i ++ (q i ++ r i)))

  pub walk_is : (m : ℕ) (b : Statements) (c : Context) (a : Option ℕ) → block_count b < m → Known at (block_entries f c a None b) → walk at m (first_or b None) ≡ numbers b
  walk_is zero b c a h k = absurd (omega arith)
  walk_is (suc m) Ends c a h k = refl
  walk_is (suc m) (Starts (tree.Simple n x) ss) c a h k =
      step m (entry_at f c a (first_or ss None) (tree.Simple n x)) [] [] (numbers ss) (k (entry_at f c a (first_or ss None) (tree.Simple n x)) (inl refl)) (walk_nothing at m) (walk_nothing at m) (walk_is m ss c (Some n) (omega arith) (λ y i. k y (inr i)))
  walk_is (suc m) (Starts (tree.Break n) ss) c a h k =
      step m (entry_at f c a (first_or ss None) (tree.Break n)) [] [] (numbers ss) (k (entry_at f c a (first_or ss None) (tree.Break n)) (inl refl)) (walk_nothing at m) (walk_nothing at m) (walk_is m ss c (Some n) (omega arith) (λ y i. k y (inr i)))
  walk_is (suc m) (Starts (tree.Call n x g es) ss) c a h k =
      step m (entry_at f c a (first_or ss None) (tree.Call n x g es)) [] [] (numbers ss) (k (entry_at f c a (first_or ss None) (tree.Call n x g es)) (inl refl)) (walk_nothing at m) (walk_nothing at m) (walk_is m ss c (Some n) (omega arith) (λ y i. k y (inr i)))
  walk_is (suc m) (Starts (tree.If n d t e) ss) c a h k =
      let x = entry_at f c a (first_or ss None) (tree.If n d t e) in
      let T = block_entries f (inside c n which.Then) None None t in
      let E = block_entries f (inside c n which.Else) None None e in
      let R = block_entries f c (Some n) None ss in
      let l : Known at (T ++ E) = λ y i. k y (inr (in_left y (T ++ E) R i)) in
      step m x (numbers t) (numbers e) (numbers ss) (k x (inl refl))
      (walk_is m t (inside c n which.Then) None (omega arith) (known_left at T E l))
      (walk_is m e (inside c n which.Else) None (omega arith) (known_right at T E l))
      (walk_is m ss c (Some n) (omega arith) (λ y i. k y (inr (in_right y (T ++ E) R i))))
      ∙ ap (λ ns. n ∷ ns) (sym (append_assoc (numbers t) (numbers e) (numbers ss)))
  walk_is (suc m) (Starts (tree.While n d b) ss) c a h k =
      let x = entry_at f c a (first_or ss None) (tree.While n d b) in
      let B = block_entries f (inside_loop c n) None None b in
      let R = block_entries f c (Some n) None ss in
      step m x (numbers b) [] (numbers ss) (k x (inl refl))
      (walk_is m b (inside_loop c n) None (omega arith) (λ y i. k y (inr (in_left y B R i))))
      (walk_nothing at m)
      (walk_is m ss c (Some n) (omega arith) (λ y i. k y (inr (in_right y B R i))))

-- The statements of a procedure are statements of the program.
own_from : (es ps : List Procedure) (k : ℕ) (p : Procedure) → slice_get ps k ≡ Some p → (x : Entry) → In x (procedure_entries (es ++ take k ps) p) → In x (entries_from es ps)
own_from es [] k p h x i = absurd cc
own_from es (q ∷ ps) zero p h x i =
    let e : q ≡ p = same_Some q p h in
    in_left x (procedure_entries es q) (entries_from (es ++ q ∷ []) ps) (subst (λ (z : Procedure). In x (procedure_entries es z)) (sym e) (subst (λ (z : List Procedure). In x (procedure_entries z p)) (append-nil es) i))
own_from es (q ∷ ps) (suc k) p h x i =
    in_right x (procedure_entries es q) (entries_from (es ++ q ∷ []) ps) (own_from (es ++ q ∷ []) ps k p h x (subst (λ (z : List Procedure). In x (procedure_entries z p)) (sym (append_assoc es (q ∷ []) (take k ps))) i))

pub own : (ps : List Procedure) (k : ℕ) (p : Procedure) → slice_get ps k ≡ Some p → (x : Entry) → In x (procedure_entries (take k ps) p) → In x (entries_of ps)
own ps k p h x i = own_from [] ps k p h x i

pub all_known : (ps : List Procedure) → AreNumbered ps → Known (entry_of (entries_of ps)) (entries_of ps)
all_known ps h = found (entries_of ps) (subst Distinct (sym (all_numbers ps)) h.once)

count_at : (ps : List Procedure) (k : ℕ) (p : Procedure) → slice_get ps k ≡ Some p → block_count p.body < suc (program_count ps)
count_at [] k p h = absurd cc
count_at (q ∷ ps) zero p h = let e : q ≡ p = same_Some q p h in omega (arith, ap (λ (z : Procedure). block_count z.body) e)
count_at (q ∷ ps) (suc k) p h = omega (arith, count_at ps k p h)

-- The statements that are found from the first one of a procedure are its own, where its entries are found.
pub walk_own : (at : ℕ → Option Entry) (ps : List Procedure) (k m : ℕ) (p : Procedure) → slice_get ps k ≡ Some p → program_count ps < m → Known at (procedure_entries (take k ps) p) → walk at m (first_or p.body None) ≡ numbers p.body
walk_own at ps k m p h l known = walk_is at (resolver_at (take k ps) p) m p.body (context_at (length (take k ps))) None (omega (arith, l, count_at ps k p h)) known

pub walk_at : (ps : List Procedure) (k m : ℕ) (ends : BlockEnds) → AreNumbered ps → program_count ps < m → option_ends (slice_get ps k) ≡ Some ends → walk (entry_of (entries_of ps)) m ends.first ≡ numbers_at ps k
walk_at ps k m ends n l h = go (slice_get ps k) refl h
  where
    go : (o : Option Procedure) → slice_get ps k ≡ o → option_ends o ≡ Some ends → walk (entry_of (entries_of ps)) m ends.first ≡ body_numbers o
    go None e h = absurd cc
    go (Some p) e h =
        let q : ends_of p.body ≡ ends = same_Some (ends_of p.body) ends h in
        ap (λ (z : BlockEnds). walk (entry_of (entries_of ps)) m z.first) (sym q)
        ∙ walk_own (entry_of (entries_of ps)) ps k m p e l (λ x i. all_known ps n x (own ps k p e x i))

pub walk_past : (ps : List Procedure) (k : ℕ) → option_ends (slice_get ps k) ≡ None → numbers_at ps k ≡ []
walk_past ps k h = go (slice_get ps k) h
  where
    go : (o : Option Procedure) → option_ends o ≡ None → body_numbers o ≡ []
    go None h = refl
    go (Some p) h = absurd cc
