-- What is known of a statement of a program stands in the procedure that it names.
use Rattle.std.proofs.lemmas.Bool.Decides.{nat_tests}
use Rattle.std.proofs.lemmas.Option.{same_Some, slice_get_within}
use Rattle.base_values.proofs.Lists.{one_more}
use Rattle.std.proofs.Common.{◌≡◌, ℕ, suc, ◌+◌, ◌<◌, ◌==◌, ◌⊎◌, inl, inr, cond, Bool, true, false, List, [], ◌∷◌, ◌++◌, length, take, slice_get, Option, Some, None, refl, sym, ap, ◌∙◌, subst, arith, append_assoc, append-nil}
use Rattle.imp_syntax.specs.Plain.{Statements, Ends, Starts, Procedure}
use Rattle.imp_syntax.specs.Plain as tree
use Rattle.imp_check.specs.Slots.{Resolver}
use Rattle.imp_check.specs.Entries.{inside, inside_loop, block_entries, procedure_entries, entries_from, entries_of, entry_of, resolver_at, context_at, calls_here, sites_in}
use Rattle.imp_check.specs.Walks.{body_numbers, numbers_at}
use Rattle.imp_check.specs.declared.entry.Context.{Context}
use Rattle.imp_check.specs.declared.entry.Entry.{Entry}
use Rattle.imp_check.specs.declared.entry.Which.TheVariants as which
use Rattle.imp_check.proofs.RebuildLemmas.{In, entry_numbers, block_numbers}

pub either : (x : Entry) (xs ys : List Entry) → In x (xs ++ ys) → In x xs ⊎ In x ys
either x [] ys h = inr h
either x (z ∷ xs) ys (inl e) = inl (inl e)
either x (z ∷ xs) ys (inr h) = elim (either x xs ys h) [ inl a ↦ inl (inr a) | inr b ↦ inr b ]

-- The statements of a block, and all inside them, are of its procedure.
module _ (f : Resolver) where
  pub procedure_is : (b : Statements) (c : Context) (a p : Option ℕ) (x : Entry) → In x (block_entries f c a p b) → x.context.proc ≡ c.proc
  procedure_is Ends c a p x h = absurd h
  procedure_is (Starts (tree.Simple n z) ss) c a p x (inl e) = ap (λ (y : Entry). y.context.proc) e
  procedure_is (Starts (tree.Simple n z) ss) c a p x (inr h) = procedure_is ss c (Some n) p x h
  procedure_is (Starts (tree.Break n) ss) c a p x (inl e) = ap (λ (y : Entry). y.context.proc) e
  procedure_is (Starts (tree.Break n) ss) c a p x (inr h) = procedure_is ss c (Some n) p x h
  procedure_is (Starts (tree.Call n z g es) ss) c a p x (inl e) = ap (λ (y : Entry). y.context.proc) e
  procedure_is (Starts (tree.Call n z g es) ss) c a p x (inr h) = procedure_is ss c (Some n) p x h
  procedure_is (Starts (tree.If n d t u) ss) c a p x (inl e) = ap (λ (y : Entry). y.context.proc) e
  procedure_is (Starts (tree.If n d t u) ss) c a p x (inr h) =
      let T = block_entries f (inside c n which.Then) None None t in
      let E = block_entries f (inside c n which.Else) None None u in
      let R = block_entries f c (Some n) p ss in
      elim (either x (T ++ E) R h) [
        | inl i ↦ elim (either x T E i) [
          | inl j ↦ procedure_is t (inside c n which.Then) None None x j
          | inr j ↦ procedure_is u (inside c n which.Else) None None x j
        ]
        | inr i ↦ procedure_is ss c (Some n) p x i
      ]
  procedure_is (Starts (tree.While n d b) ss) c a p x (inl e) = ap (λ (y : Entry). y.context.proc) e
  procedure_is (Starts (tree.While n d b) ss) c a p x (inr h) =
      let B = block_entries f (inside_loop c n) None None b in
      let R = block_entries f c (Some n) p ss in
      elim (either x B R h) [
        | inl i ↦ procedure_is b (inside_loop c n) None None x i
        | inr i ↦ procedure_is ss c (Some n) p x i
      ]

-- A statement stands in the procedure at a place.
pub record Stands (ps : List Procedure) (x : Entry) (k : ℕ) : Type 0 where
  pub procedure : Procedure
  pub there : slice_get ps k ≡ Some procedure
  pub own : In x (procedure_entries (take k ps) procedure)

stands_from : (es ps : List Procedure) (x : Entry) → In x (entries_from es ps) → (k : ℕ) × (p : Procedure) × (slice_get ps k ≡ Some p) × In x (procedure_entries (es ++ take k ps) p) × (x.context.proc ≡ length es + k)
stands_from es [] x h = absurd h
stands_from es (q ∷ ps) x h =
    elim (either x (procedure_entries es q) (entries_from (es ++ q ∷ []) ps) h) [
      | inl i ↦ (0, q, refl, subst (λ (z : List Procedure). In x (procedure_entries z q)) (sym (append-nil es)) i, first i)
      | inr i ↦
          let r = stands_from (es ++ q ∷ []) ps x i in
          (suc r.0, r.1, r.2, subst (λ (z : List Procedure). In x (procedure_entries z r.1)) (append_assoc es (q ∷ []) (take r.0 ps)) r.3, later r.0 r.4)
    ]
  where
    first : In x (procedure_entries es q) → x.context.proc ≡ length es + 0
    first i = let e = procedure_is (resolver_at es q) q.body (context_at (length es)) None None x i in let z : length es ≡ length es + 0 = omega arith in e ∙ z

    later : (k : ℕ) → x.context.proc ≡ length (es ++ q ∷ []) + k → x.context.proc ≡ length es + suc k
    later k e = omega (arith, e, one_more es q)

stands_in : (ps : List Procedure) (x : Entry) → In x (entries_of ps) → Stands ps x x.context.proc
stands_in ps x h =
    let r = stands_from [] ps x h in
    let z : 0 + r.0 ≡ r.0 = omega arith in
    let e : r.0 ≡ x.context.proc = sym (r.4 ∙ z) in
    subst (λ (k : ℕ). Stands ps x k) e (record { procedure = r.1; there = r.2; own = r.3 })

found_in : (es : List Entry) (n : ℕ) (x : Entry) → entry_of es n ≡ Some x → In x es × (x.number ≡ n)
found_in [] n x h = absurd cc
found_in (e ∷ es) n x h = go (e.number == n) refl h (found_in es n x)
  where
    go : (b : Bool) → (e.number == n) ≡ b → cond b (Some e) (entry_of es n) ≡ Some x → (entry_of es n ≡ Some x → In x es × (x.number ≡ n)) → In x (e ∷ es) × (x.number ≡ n)
    go true q h more = let s : e ≡ x = same_Some e x h in let k : e.number ≡ n = grind (arith, nat_tests) in (inl (sym s), ap (λ (z : Entry). z.number) (sym s) ∙ k)
    go false q h more = let r = more h in (inr r.0, r.1)

pub entry_found : (ps : List Procedure) (n : ℕ) (x : Entry) → entry_of (entries_of ps) n ≡ Some x → In x (entries_of ps) × (x.number ≡ n)
entry_found ps n x h = found_in (entries_of ps) n x h

pub stands : (ps : List Procedure) (n : ℕ) (x : Entry) → entry_of (entries_of ps) n ≡ Some x → Stands ps x x.context.proc
stands ps n x h = stands_in ps x (entry_found ps n x h).0

-- It is among the numbers of the procedure, and a call among those of the callee.
number_in : (x : Entry) (xs : List Entry) → In x xs → (i : ℕ) × (slice_get (entry_numbers xs) i ≡ Some x.number)
number_in x [] h = absurd h
number_in x (y ∷ xs) (inl e) = (0, ap (λ (z : Entry). Some z.number) (sym e))
number_in x (y ∷ xs) (inr h) = let r = number_in x xs h in (suc r.0, r.1)

pub number_there : (ps : List Procedure) (n : ℕ) (x : Entry) → entry_of (entries_of ps) n ≡ Some x → (i : ℕ) × (slice_get (numbers_at ps x.context.proc) i ≡ Some n)
number_there ps n x h =
    let s = stands ps n x h in
    let k = x.context.proc in
    let p = s.procedure in
    let r = number_in x (procedure_entries (take k ps) p) s.own in
    (r.0, ap (λ (ns : List ℕ). slice_get ns r.0) (ap body_numbers s.there ∙ sym (block_numbers (resolver_at (take k ps) p) (context_at (length (take k ps))) None None p.body)) ∙ r.1 ∙ ap Some (entry_found ps n x h).1)

pub place_there : (ps : List Procedure) (n : ℕ) (x : Entry) → entry_of (entries_of ps) n ≡ Some x → x.context.proc < length ps
place_there ps n x h = let s = stands ps n x h in slice_get_within ps x.context.proc s.procedure s.there

site_in : (q : ℕ) (x : Entry) (es : List Entry) → In x es → calls_here x.form q ≡ true → (i : ℕ) × (slice_get (sites_in es q) i ≡ Some x.number)
site_in q x [] h c = absurd h
site_in q x (e ∷ es) (inl s) c =
    let k : calls_here e.form q ≡ true = ap (λ (z : Entry). calls_here z.form q) (sym s) ∙ c in
    (0, ap (λ b. slice_get (cond b (e.number ∷ sites_in es q) (sites_in es q)) 0) k ∙ ap (λ (z : Entry). Some z.number) (sym s))
site_in q x (e ∷ es) (inr h) c = go (calls_here e.form q) (site_in q x es h c)
  where
    go : (b : Bool) → (i : ℕ) × (slice_get (sites_in es q) i ≡ Some x.number) → (i : ℕ) × (slice_get (cond b (e.number ∷ sites_in es q) (sites_in es q)) i ≡ Some x.number)
    go true r = (suc r.0, r.1)
    go false r = r

pub site_there : (ps : List Procedure) (q n : ℕ) (x : Entry) → entry_of (entries_of ps) n ≡ Some x → calls_here x.form q ≡ true → (i : ℕ) × (slice_get (sites_in (entries_of ps) q) i ≡ Some n)
site_there ps q n x h c =
    let f = entry_found ps n x h in
    let r = site_in q x (entries_of ps) f.0 c in
    (r.0, r.1 ∙ ap Some f.1)
