-- Blocks in which another block stands in the place of one statement.
use Rattle.std.proofs.Common.{◌≡◌, ℕ, List, [], ◌∷◌, ◌++◌, map, slice_get, Option, cond, refl, sym, ap, ◌∙◌, subst, ◌⊎◌, inl, inr}
use Rattle.base_values.proofs.Cases.{by_test}
use Rattle.base_values.proofs.Members.{Member, here, there, in_left, in_right, Each, each_more, each_both, none_there, in_map}
use Rattle.imp_syntax.specs.Plain.{Statement, Statements, Procedure, number_of, numbers_in, numbers}
use Rattle.imp_syntax.specs.Plain as tree
use Rattle.imp_slots.specs.Plain.{Layout, Code, Stop, Simple, If, While, Call, Break, code_numbers}
use Rattle.imp_check.specs.Slots.{Resolver, guard_in, effect_in, invoke_of, invoke_in, callee_in, statement_in, code_in}
use Rattle.edit_entries.specs.Holes.{append}
use Rattle.imp_edit.specs.Changes.{in_statement, in_block, in_program}
use Rattle.cell_names.specs.declared.frame.Point.{Point}
use Rattle.cell_names.specs.declared.frame.Point.TheVariants.{Then, Else, Body, Post}
use Rattle.cell_rows.specs.Rows.{last_point}
use Rattle.cell_rows.specs.Targets.{Text, text, deeper, texts}
use Rattle.cell_rows.proofs.Listed.{each_map}
use Rattle.edit_bound_laws.specs.Neighbours.{inside_blocks, inside}
use Rattle.edit_bound_laws.proofs.Alike.{place_same, invoke_same, last_after, last_append, append_in, statement_each, Or, SameOr, AlikeCode, simple, branch, loop, call, break, FoundOr, found_more, last_rest, rest_alike}

module _ (n : ℕ) (made : Statement → Statements) (layout : Layout) (es : List Procedure) where
  abbrev f : Resolver
  f = record { layout = layout; earlier = es }

  abbrev g : Resolver
  g = record { layout = layout; earlier = in_program n made es }

  invoke_is : (x : Option (List ℕ)) (h : List ℕ) (os : List tree.Operand) → invoke_in f x h os ≡ invoke_in g x h os
  invoke_is x h os = invoke_same n made layout x os es (callee_in f h) ∙ ap (λ k. invoke_of layout x os (slice_get (in_program n made es) k)) (place_same n made es h)

  mutual
    statement_same : (s : Statement) (r t : Code) → r ≡ t → statement_in f s r ≡ statement_in g s t
    statement_same (tree.Simple m a) r t h = ap (Simple m (effect_in layout a)) h
    statement_same (tree.Break m) r t h = ap (Break m) h
    statement_same (tree.Call m x k os) r t h =
        ap (λ i. Call m i (callee_in f k) r) (invoke_is x k os) ∙ ap (λ q. Call m (invoke_in g x k os) q r) (place_same n made es k) ∙ ap (Call m (invoke_in g x k os) (callee_in g k)) h
    statement_same (tree.If m c u e) r t h =
        ap (λ x. If m (guard_in layout c) x (code_in f e) r) (code_same u) ∙ ap (λ y. If m (guard_in layout c) (code_in g u) y r) (code_same e) ∙ ap (If m (guard_in layout c) (code_in g u) (code_in g e)) h
    statement_same (tree.While m c b) r t h = ap (λ x. While m (guard_in layout c) x r) (code_same b) ∙ ap (While m (guard_in layout c) (code_in g b)) h

    code_same : (ss : Statements) → code_in f ss ≡ code_in g ss
    code_same tree.Ends = refl
    code_same (tree.Starts s ss) = statement_same s (code_in f ss) (code_in g ss) (code_same ss)

  abbrev O : Point → Point → Type 0
  O = Or n

  number_stays : (s : Statement) → number_of (in_statement n made s) ≡ number_of s
  number_stays (tree.Simple m a) = refl
  number_stays (tree.Break m) = refl
  number_stays (tree.Call m x k os) = refl
  number_stays (tree.If m c t e) = refl
  number_stays (tree.While m c b) = refl

  -- Both blocks end at the same point, or the old one at the statement.
  pub last_block : (ss : Statements) (p q : Point) → O p q → O (last_point (code_in f ss) p) (last_point (code_in g (in_block n made ss)) q)
  last_block tree.Ends p q h = h
  last_block (tree.Starts s ss) p q h = go (last_block ss (Post (number_of s)) (Post (number_of s)) (inl refl))
    where
      go : O (last_point (code_in f ss) (Post (number_of s))) (last_point (code_in g (in_block n made ss)) (Post (number_of s))) → O (last_point (code_in f (tree.Starts s ss)) p) (last_point (code_in g (in_block n made (tree.Starts s ss))) q)
      go k =
          subst (λ x. O x (last_point (code_in g (in_block n made (tree.Starts s ss))) q)) (sym (last_after f s (code_in f ss) p))
          (by_test (number_of s) n (λ b. O (last_point (code_in f ss) (Post (number_of s))) (last_point (code_in g (cond b (append (made s) ss) (tree.Starts (in_statement n made s) (in_block n made ss)))) q))
          (λ e.
          subst (O (last_point (code_in f ss) (Post (number_of s)))) (ap (λ c. last_point c (last_point (code_in g (made s)) q)) (code_same ss) ∙ sym (last_append g (made s) ss q))
          (last_rest n (code_in f ss) (Post (number_of s)) (last_point (code_in g (made s)) q) (inr e)))
          (λ _.
          subst (O (last_point (code_in f ss) (Post (number_of s))))
          (ap (λ m. last_point (code_in g (in_block n made ss)) (Post m)) (sym (number_stays s)) ∙ sym (last_after g (in_statement n made s) (code_in g (in_block n made ss)) q)) k))

  own_number : (s : Statement) (r : Code) → Member (number_of s) (code_numbers (statement_in f s r))
  own_number (tree.Simple m a) r = here
  own_number (tree.Break m) r = here
  own_number (tree.Call m x k os) r = here
  own_number (tree.If m c t e) r = here
  own_number (tree.While m c b) r = here

  both_same : (F : Code → Code → Code) (a b c d : Code) (P : Type 0) → (a ≡ b) ⊎ P → (c ≡ d) ⊎ P → (F a c ≡ F b d) ⊎ P
  both_same F a b c d P (inr x) k = inr x
  both_same F a b c d P (inl h) (inr x) = inr x
  both_same F a b c d P (inl h) (inl k) = inl (ap (λ a. F a c) h ∙ ap (F b) k)

  in_part : (b d : Code) (ks : List ℕ) → ((k : ℕ) → Member k (code_numbers b) → Member k ks) → SameOr n b d → (b ≡ d) ⊎ Member n ks
  in_part b d ks i (inl e) = inl e
  in_part b d ks i (inr m) = inr (i n m)

  then_same : (F : Code → Code → Code → Code) (a b c d e h : Code) (P : Type 0) → (a ≡ b) ⊎ P → (c ≡ d) ⊎ P → (e ≡ h) ⊎ P → (F a c e ≡ F b d h) ⊎ P
  then_same F a b c d e h P (inr x) k l = inr x
  then_same F a b c d e h P (inl j) (inr x) l = inr x
  then_same F a b c d e h P (inl j) (inl k) (inr x) = inr x
  then_same F a b c d e h P (inl j) (inl k) (inl l) = inl (ap (λ a. F a c e) j ∙ ap (λ c. F b c e) k ∙ ap (F b d) l)

  hit_or : (s : Statement) (ss : Statements) → SameOr n (statement_in f s (code_in f ss)) (statement_in g (in_statement n made s) (code_in g (in_block n made ss))) → SameOr n (code_in f (tree.Starts s ss)) (code_in g (in_block n made (tree.Starts s ss)))
  hit_or s ss h =
      by_test (number_of s) n (λ b. SameOr n (code_in f (tree.Starts s ss)) (code_in g (cond b (append (made s) ss) (tree.Starts (in_statement n made s) (in_block n made ss)))))
      (λ e. inr (subst (λ k. Member k (code_numbers (statement_in f s (code_in f ss)))) e (own_number s (code_in f ss))))
      (λ _. h)

  mutual
    same_statement : (s : Statement) (r t : Code) → SameOr n r t → SameOr n (statement_in f s r) (statement_in g (in_statement n made s) t)
    same_statement (tree.Simple m a) r t h = both_same (λ _ r. Simple m (effect_in layout a) r) Stop Stop r t _ (inl refl) (in_part r t (m ∷ code_numbers r) (λ k i. there i) h)
    same_statement (tree.Break m) r t h = both_same (λ _ r. Break m r) Stop Stop r t _ (inl refl) (in_part r t (m ∷ code_numbers r) (λ k i. there i) h)
    same_statement (tree.Call m x k os) r t h =
        subst (λ c. (Call m (invoke_in f x k os) (callee_in f k) r ≡ c) ⊎ Member n (m ∷ code_numbers r))
        (ap (λ i. Call m i (callee_in f k) t) (invoke_is x k os) ∙ ap (λ q. Call m (invoke_in g x k os) q t) (place_same n made es k))
        (both_same (λ _ r. Call m (invoke_in f x k os) (callee_in f k) r) Stop Stop r t _ (inl refl) (in_part r t (m ∷ code_numbers r) (λ k i. there i) h))
    same_statement (tree.If m c u v) r t h =
        let uc = code_in f u in
        let vc = code_in f v in
        let ks = m ∷ (code_numbers uc ++ (code_numbers vc ++ code_numbers r)) in
        let w = in_part r t ks (λ k i. there (in_right (code_numbers uc) (in_right (code_numbers vc) i))) h in
        let y = in_part vc (code_in g (in_block n made v)) ks (λ k i. there (in_right (code_numbers uc) (in_left (code_numbers r) i))) (same_block v) in
        let x = in_part uc (code_in g (in_block n made u)) ks (λ k i. there (in_left _ i)) (same_block u) in
        then_same (If m (guard_in layout c)) uc (code_in g (in_block n made u)) vc (code_in g (in_block n made v)) r t (Member n ks) x y w
    same_statement (tree.While m c b) r t h =
        let bc = code_in f b in
        let ks = m ∷ (code_numbers bc ++ code_numbers r) in
        both_same (While m (guard_in layout c)) bc (code_in g (in_block n made b)) r t (Member n ks) (in_part bc (code_in g (in_block n made b)) ks (λ k i. there (in_left _ i)) (same_block b)) (in_part r t ks (λ k i. there (in_right (code_numbers bc) i)) h)

    -- The block is the same, or the statement stands in it.
    pub same_block : (ss : Statements) → SameOr n (code_in f ss) (code_in g (in_block n made ss))
    same_block tree.Ends = inl refl
    same_block (tree.Starts s ss) = hit_or s ss (same_statement s (code_in f ss) (code_in g (in_block n made ss)) (same_block ss))

  abbrev In : List ℕ → List (ℕ × Text) → ℕ × Text → Type 0
  In = FoundOr n

  head_found : (is : List ℕ) (p q : Point) (m : ℕ) (c d : Code) (xs ys : List (ℕ × Text)) → O p q → AlikeCode n c d → Each (In is ys) xs → Each (In is ((m, text [] q d) ∷ ys)) ((m, text [] p c) ∷ xs)
  head_found is p q m c d xs ys h a e =
      each_more (In is ((m, text [] q d) ∷ ys)) (m, text [] p c) xs (inl (record { other = text [] q d; there_is = here; front = h; code = a }))
      (found_more n is is ys ((m, text [] q d) ∷ ys) (λ k i. i) (λ x i. there i) xs e)

  part : (is js : List ℕ) (xs ys : List (ℕ × Text)) → ((k : ℕ) → Member k is → Member k js) → ((x : ℕ × Text) → Member x xs → Member x ys) → (qs : List (ℕ × Text)) → Each (In is xs) qs → Each (In js ys) qs
  part = found_more n

  deeper_found : (m : ℕ) (is : List ℕ) (ys : List (ℕ × Text)) (xs : List (ℕ × Text)) → Each (In is ys) xs → Each (In is (map (deeper m) ys)) (map (deeper m) xs)
  deeper_found m is ys xs e = each_map (deeper m) (In is ys) (In is (map (deeper m) ys)) go xs e
    where
      go : (x : ℕ × Text) → In is ys x → In is (map (deeper m) ys) (deeper m x)
      go x (inl k) = inl (record { other = (deeper m (x.0, k.other)).1; there_is = in_map (deeper m) (x.0, k.other) ys k.there_is; front = k.front; code = k.code })
      go x (inr i) = inr i

  hit : (s : Statement) (ss : Statements) (p q : Point) → number_of s ≡ n → Each (In (numbers_in s ++ inside n ss) (texts (code_in g (append (made s) ss)) q)) (texts (statement_in f s (code_in f ss)) p)
  hit s ss p q e =
      let is = numbers_in s ++ inside n ss in
      let at = last_point (code_in g (made s)) q in
      let ys = texts (code_in g (append (made s) ss)) q in
      statement_each f s (code_in f ss) p (In is ys) (λ x i. inr (in_left (inside n ss) i))
      (part is is (texts (code_in f ss) at) ys (λ k i. i) (λ x i. append_in g (made s) ss q x (subst (λ c. Member x (texts c at)) (code_same ss) i)) _
      (rest_alike n is (code_in f ss) (Post (number_of s)) at (inr e)))

  either : (s : Statement) (ss : Statements) (p q : Point) →
      Each (In (inside_blocks n s ++ inside n ss) (texts (statement_in g (in_statement n made s) (code_in g (in_block n made ss))) q)) (texts (statement_in f s (code_in f ss)) p) →
      Each (In (inside n (tree.Starts s ss)) (texts (code_in g (in_block n made (tree.Starts s ss))) q)) (texts (code_in f (tree.Starts s ss)) p)
  either s ss p q k =
      by_test (number_of s) n
      (λ b. Each (In (cond b (numbers_in s) (inside_blocks n s) ++ inside n ss) (texts (code_in g (cond b (append (made s) ss) (tree.Starts (in_statement n made s) (in_block n made ss)))) q)) (texts (code_in f (tree.Starts s ss)) p))
      (λ e. hit s ss p q e)
      (λ _. k)

  mutual
    statement_found : (s : Statement) (r t : Code) (p q : Point) (is : List ℕ) → O p q → Each (In is (texts t (Post (number_of s)))) (texts r (Post (number_of s))) →
        Each (In (inside_blocks n s ++ is) (texts (statement_in g (in_statement n made s) t) q)) (texts (statement_in f s r) p)
    statement_found (tree.Simple m a) r t p q is h e = head_found is p q m _ _ _ _ h (simple m (effect_in layout a) r t) e
    statement_found (tree.Break m) r t p q is h e = head_found is p q m _ _ _ _ h (break m r t) e
    statement_found (tree.Call m x k os) r t p q is h e =
        head_found is p q m _ _ _ _ h
        (subst (λ i. AlikeCode n (Call m (invoke_in f x k os) (callee_in f k) r) (Call m i (callee_in g k) t)) (invoke_is x k os)
        (subst (λ j. AlikeCode n (Call m (invoke_in f x k os) (callee_in f k) r) (Call m (invoke_in f x k os) j t)) (place_same n made es k) (call m (invoke_in f x k os) (callee_in f k) r t))) e
    statement_found (tree.If m c u v) r t p q is h e =
        let us = texts (code_in g (in_block n made u)) (Then m) in
        let vs = texts (code_in g (in_block n made v)) (Else m) in
        let ys = us ++ (vs ++ texts t (Post m)) in
        let js = (inside n u ++ inside n v) ++ is in
        head_found js p q m _ _ _ ys h
        (branch m (guard_in layout c) (code_in f u) (code_in f v) (code_in g (in_block n made u)) (code_in g (in_block n made v)) r t (last_block u (Then m) (Then m) (inl refl)) (last_block v (Else m) (Else m) (inl refl)))
        (each_both (In js ys) _ _ (part (inside n u) js us ys (λ k i. in_left is (in_left (inside n v) i)) (λ x i. in_left _ i) _ (block_found u (Then m) (Then m) (inl refl)))
        (each_both (In js ys) _ _ (part (inside n v) js vs ys (λ k i. in_left is (in_right (inside n u) i)) (λ x i. in_right us (in_left _ i)) _ (block_found v (Else m) (Else m) (inl refl)))
        (part is js (texts t (Post m)) ys (λ k i. in_right (inside n u ++ inside n v) i) (λ x i. in_right us (in_right vs i)) _ e)))
    statement_found (tree.While m c b) r t p q is h e =
        let bs = map (deeper m) (texts (code_in g (in_block n made b)) Body) in
        let ys = bs ++ texts t (Post m) in
        let js = inside n b ++ is in
        head_found js p q m _ _ _ ys h (loop m (guard_in layout c) (code_in f b) (code_in g (in_block n made b)) r t (last_block b Body Body (inl refl)) (same_block b))
        (each_both (In js ys) _ _ (part (inside n b) js bs ys (λ k i. in_left is i) (λ x i. in_left _ i) _ (deeper_found m (inside n b) _ _ (block_found b Body Body (inl refl))))
        (part is js (texts t (Post m)) ys (λ k i. in_right (inside n b) i) (λ x i. in_right bs i) _ e))

    -- Each text of the old block is found in the new one, or stands in the statement.
    pub block_found : (ss : Statements) (p q : Point) → O p q → Each (In (inside n ss) (texts (code_in g (in_block n made ss)) q)) (texts (code_in f ss) p)
    block_found tree.Ends p q h = none_there _
    block_found (tree.Starts s ss) p q h =
        either s ss p q
        (statement_found s (code_in f ss) (code_in g (in_block n made ss)) p q (inside n ss) h (block_found ss (Post (number_of s)) (Post (number_of s)) (inl refl)))
