-- The call statements of a program, and its procedures without their statements, where a part of a block is exchanged.
use Rattle.std.proofs.Common.{◌≡◌, ℕ, zero, suc, cond, Bool, true, false, List, [], ◌∷◌, ◌++◌, length, Option, Some, None, refl, sym, ap, ◌∙◌}
use Rattle.imp_syntax.specs.Plain.{Statement, Statements, Ends, Starts, Procedure, number_of}
use Rattle.imp_syntax.specs.Plain as tree
use Rattle.imp_check.specs.Slots.{Resolver}
use Rattle.imp_check.specs.Parts.{first_or, last_or, ends_of}
use Rattle.imp_check.specs.Entries.{inside, inside_loop, statement_entries, block_entries, procedure_entries, entries_from, entries_of, resolver_at, context_at, calls_here, sites_in, sites_below, sites_of, head_of, heads_of}
use Rattle.imp_check.specs.declared.entry.Context.{Context}
use Rattle.imp_check.specs.declared.entry.Entry.{Entry}
use Rattle.imp_check.specs.declared.entry.ProcHeader.{ProcHeader}
use Rattle.imp_check.specs.declared.entry.Which.TheVariants as which
use Rattle.edit_entries.specs.Holes.{append, Hole, Then, Else, Body, fill, plug, between, with_body}
use Rattle.edit_entries.proofs.Heads.{as_many, entries_alike}
use Rattle.edit_entries.proofs.Others.{entries_append}
use Rattle.edit_entries.proofs.Programs.{old_one, new_one, old_program, new_program, bares_at}

pub sites_both : (xs ys : List Entry) (k : ℕ) → sites_in (xs ++ ys) k ≡ sites_in xs k ++ sites_in ys k
sites_both [] ys k = refl
sites_both (x ∷ xs) ys k = go (calls_here x.form k) (sites_both xs ys k)
  where
    go : (b : Bool) → sites_in (xs ++ ys) k ≡ sites_in xs k ++ sites_in ys k → cond b (x.number ∷ sites_in (xs ++ ys) k) (sites_in (xs ++ ys) k) ≡ cond b (x.number ∷ sites_in xs k) (sites_in xs k) ++ sites_in ys k
    go true e = ap (λ ns. x.number ∷ ns) e
    go false e = e

module _ (f : Resolver) (k : ℕ) where
  -- Calls do not depend on where statements stand.
  mutual
    statement_sites : (c d : Context) (a b p q : Option ℕ) (s : Statement) → sites_in (statement_entries f c a p s) k ≡ sites_in (statement_entries f d b q s) k
    statement_sites c d a b p q (tree.Simple n x) = refl
    statement_sites c d a b p q (tree.Break n) = refl
    statement_sites c d a b p q (tree.Call n x g es) = refl
    statement_sites c d a b p q (tree.If n g t e) =
        sites_both (block_entries f (inside c n which.Then) None None t) (block_entries f (inside c n which.Else) None None e) k
        ∙ ap (λ ns. ns ++ sites_in (block_entries f (inside c n which.Else) None None e) k) (block_sites (inside c n which.Then) (inside d n which.Then) None None None None t)
        ∙ ap (λ ns. sites_in (block_entries f (inside d n which.Then) None None t) k ++ ns) (block_sites (inside c n which.Else) (inside d n which.Else) None None None None e)
        ∙ sym (sites_both (block_entries f (inside d n which.Then) None None t) (block_entries f (inside d n which.Else) None None e) k)
    statement_sites c d a b p q (tree.While n g x) = block_sites (inside_loop c n) (inside_loop d n) None None None None x

    block_sites : (c d : Context) (a b p q : Option ℕ) (x : Statements) → sites_in (block_entries f c a p x) k ≡ sites_in (block_entries f d b q x) k
    block_sites c d a b p q Ends = refl
    block_sites c d a b p q (Starts s ss) =
        sites_both (statement_entries f c a (first_or ss p) s) (block_entries f c (Some (number_of s)) p ss) k
        ∙ ap (λ ns. ns ++ sites_in (block_entries f c (Some (number_of s)) p ss) k) (statement_sites c d a b (first_or ss p) (first_or ss q) s)
        ∙ ap (λ ns. sites_in (statement_entries f d b (first_or ss q) s) k ++ ns) (block_sites c d (Some (number_of s)) (Some (number_of s)) p q ss)
        ∙ sym (sites_both (statement_entries f d b (first_or ss q) s) (block_entries f d (Some (number_of s)) q ss) k)

  -- the calls of a block
  abbrev pub sites : Statements → List ℕ
  sites b = sites_in (block_entries f (context_at 0) None None b) k

  sites_append : (xs ys : Statements) → sites (append xs ys) ≡ sites xs ++ sites ys
  sites_append xs ys =
      ap (λ es. sites_in es k) (entries_append f (context_at 0) None None xs ys)
      ∙ sites_both (block_entries f (context_at 0) None (first_or ys None) xs) (block_entries f (context_at 0) (last_or xs None) None ys) k
      ∙ ap (λ ns. ns ++ sites_in (block_entries f (context_at 0) (last_or xs None) None ys) k) (block_sites (context_at 0) (context_at 0) None None (first_or ys None) None xs)
      ∙ ap (λ ns. sites xs ++ ns) (block_sites (context_at 0) (context_at 0) (last_or xs None) None None None ys)

  sites_if : (n : ℕ) (c : _) (t e r : Statements) → sites (Starts (tree.If n c t e) r) ≡ (sites t ++ sites e) ++ sites r
  sites_if n c t e r =
      sites_both (statement_entries f (context_at 0) None (first_or r None) (tree.If n c t e)) (block_entries f (context_at 0) (Some n) None r) k
      ∙ ap (λ ns. ns ++ sites_in (block_entries f (context_at 0) (Some n) None r) k)
      (sites_both (block_entries f (inside (context_at 0) n which.Then) None None t) (block_entries f (inside (context_at 0) n which.Else) None None e) k
      ∙ ap (λ ns. ns ++ sites_in (block_entries f (inside (context_at 0) n which.Else) None None e) k) (block_sites (inside (context_at 0) n which.Then) (context_at 0) None None None None t)
      ∙ ap (λ ns. sites t ++ ns) (block_sites (inside (context_at 0) n which.Else) (context_at 0) None None None None e))
      ∙ ap (λ ns. (sites t ++ sites e) ++ ns) (block_sites (context_at 0) (context_at 0) (Some n) None None None r)

  sites_while : (n : ℕ) (c : _) (b r : Statements) → sites (Starts (tree.While n c b) r) ≡ sites b ++ sites r
  sites_while n c b r =
      sites_both (statement_entries f (context_at 0) None (first_or r None) (tree.While n c b)) (block_entries f (context_at 0) (Some n) None r) k
      ∙ ap (λ ns. ns ++ sites_in (block_entries f (context_at 0) (Some n) None r) k) (block_sites (inside_loop (context_at 0) n) (context_at 0) None None None None b)
      ∙ ap (λ ns. sites b ++ ns) (block_sites (context_at 0) (context_at 0) (Some n) None None None r)

  sites_filled : (h : Hole) (x y : Statements) → sites x ≡ sites y → sites (fill h x) ≡ sites (fill h y)
  sites_filled (Then b n c e r) x y q =
      sites_append b (Starts (tree.If n c x e) r)
      ∙ ap (λ ns. sites b ++ ns) (sites_if n c x e r ∙ ap (λ ns. (ns ++ sites e) ++ sites r) q ∙ sym (sites_if n c y e r))
      ∙ sym (sites_append b (Starts (tree.If n c y e) r))
  sites_filled (Else b n c t r) x y q =
      sites_append b (Starts (tree.If n c t x) r)
      ∙ ap (λ ns. sites b ++ ns) (sites_if n c t x r ∙ ap (λ ns. (sites t ++ ns) ++ sites r) q ∙ sym (sites_if n c t y r))
      ∙ sym (sites_append b (Starts (tree.If n c t y) r))
  sites_filled (Body b n c r) x y q =
      sites_append b (Starts (tree.While n c x) r)
      ∙ ap (λ ns. sites b ++ ns) (sites_while n c x r ∙ ap (λ ns. ns ++ sites r) q ∙ sym (sites_while n c y r))
      ∙ sym (sites_append b (Starts (tree.While n c y) r))

  sites_plug : (hs : List Hole) (x y : Statements) → sites x ≡ sites y → sites (plug hs x) ≡ sites (plug hs y)
  sites_plug [] x y q = q
  sites_plug (h ∷ hs) x y q = sites_filled h (plug hs x) (plug hs y) (sites_plug hs x y q)

  sites_between : (before behind x y : Statements) → sites x ≡ sites y → sites (between before behind x) ≡ sites (between before behind y)
  sites_between before behind x y q =
      sites_append before (append x behind)
      ∙ ap (λ ns. sites before ++ ns) (sites_append x behind ∙ ap (λ ns. ns ++ sites behind) q ∙ sym (sites_append y behind))
      ∙ sym (sites_append before (append y behind))

  sites_edited : (hs : List Hole) (before olds news behind : Statements) → sites olds ≡ sites news → (c : Context) →
      sites_in (block_entries f c None None (plug hs (between before behind olds))) k ≡ sites_in (block_entries f c None None (plug hs (between before behind news))) k
  sites_edited hs before olds news behind q c =
      block_sites c (context_at 0) None None None None (plug hs (between before behind olds))
      ∙ sites_plug hs (between before behind olds) (between before behind news) (sites_between before behind olds news q)
      ∙ block_sites (context_at 0) c None None None None (plug hs (between before behind news))

module _ (p : Procedure) (hs : List Hole) (before olds news behind : Statements) (same : (es : List Procedure) (k : ℕ) → sites (resolver_at es p) k olds ≡ sites (resolver_at es p) k news) where
  abbrev O : Procedure
  O = old_one p hs before olds news behind

  abbrev N : Procedure
  N = new_one p hs before olds news behind

  along : (k : ℕ) (es ps qs : List Procedure) → sites_in (entries_from es (ps ++ O ∷ qs)) k ≡ sites_in (entries_from es (ps ++ N ∷ qs)) k
  along k es [] qs =
      sites_both (procedure_entries es O) (entries_from (es ++ O ∷ []) qs) k
      ∙ ap (λ ns. ns ++ sites_in (entries_from (es ++ O ∷ []) qs) k) (sites_edited (resolver_at es p) k hs before olds news behind (same es k) (context_at (length es)))
      ∙ ap (λ xs. sites_in (procedure_entries es N) k ++ sites_in xs k) (entries_alike (es ++ O ∷ []) (es ++ N ∷ []) qs (bares_at p hs before olds news behind es []))
      ∙ sym (sites_both (procedure_entries es N) (entries_from (es ++ N ∷ []) qs) k)
  along k es (x ∷ ps) qs =
      sites_both (procedure_entries es x) (entries_from (es ++ x ∷ []) (ps ++ O ∷ qs)) k
      ∙ ap (λ ns. sites_in (procedure_entries es x) k ++ ns) (along k (es ++ x ∷ []) ps qs)
      ∙ sym (sites_both (procedure_entries es x) (entries_from (es ++ x ∷ []) (ps ++ N ∷ qs)) k)

  below : (ps qs : List Procedure) (n : ℕ) → sites_below (entries_of (old_program p hs before olds news behind ps qs)) n ≡ sites_below (entries_of (new_program p hs before olds news behind ps qs)) n
  below ps qs zero = refl
  below ps qs (suc n) =
      ap (λ ls. ls ++ sites_in (entries_of (old_program p hs before olds news behind ps qs)) n ∷ []) (below ps qs n)
      ∙ ap (λ ns. sites_below (entries_of (new_program p hs before olds news behind ps qs)) n ++ ns ∷ []) (along n [] ps qs)

  same_length : (ps qs : List Procedure) → length (ps ++ O ∷ qs) ≡ length (ps ++ N ∷ qs)
  same_length ps qs = sym (as_many (ps ++ O ∷ qs)) ∙ ap length (bares_at p hs before olds news behind ps qs) ∙ as_many (ps ++ N ∷ qs)

  -- Where the parts have the same calls, so have the programs.
  pub sites_stay : (ps qs : List Procedure) → sites_of (new_program p hs before olds news behind ps qs) ≡ sites_of (old_program p hs before olds news behind ps qs)
  sites_stay ps qs =
      let old = old_program p hs before olds news behind ps qs in
      let new = new_program p hs before olds news behind ps qs in
      sym (below ps qs (length new)) ∙ ap (sites_below (entries_of old)) (sym (same_length ps qs))

-- Where the ends of a body stay, so does all that is known of the procedures.
pub heads_stay : (p : Procedure) (x y : Statements) (ps qs : List Procedure) → ends_of x ≡ ends_of y → heads_of (ps ++ with_body p y ∷ qs) ≡ heads_of (ps ++ with_body p x ∷ qs)
heads_stay p x y [] qs e = ap (λ o. record (head_of (with_body p x)) { body = o } ∷ heads_of qs) (sym e)
heads_stay p x y (q ∷ ps) qs e = ap (λ (hs : List ProcHeader). head_of q ∷ hs) (heads_stay p x y ps qs e)
