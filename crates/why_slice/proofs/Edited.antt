-- What an edit that replaces a simple statement makes of a program over slots.
use Rattle.std.specs.Str.{bytes_eq}
use Rattle.std.proofs.Common.{◌≡◌, ◌≢◌, ◌⊎◌, inl, inr, ℕ, zero, suc, List, [], ◌∷◌, ◌++◌, reverse, map, Option, true, cond, if◌then◌else◌, ◌==◌, slice_get, refl, sym, ap, ◌∙◌, subst}
use Rattle.std.proofs.lemmas.List.{reverse-append}
use Rattle.imp_syntax.specs.Plain.{Action, Operand, Statement, Statements, Procedure, number_of}
use Rattle.imp_syntax.specs.Plain as tree
use Rattle.imp_slots.specs.Plain.{Layout, Effect, Skip, Code, Stop, Simple, If, While, Call, Break, Routine, code_numbers}
use Rattle.imp_slots.specs.Fits.{Absent, Distinct, routine_numbers}
use Rattle.imp_slots.proofs.Distinct.{left_once, right_once, absent_left, absent_right}
use Rattle.imp_check.specs.Names.{place_named}
use Rattle.imp_check.specs.Slots.{Resolver, layout_in, guard_in, effect_in, invoke_of, invoke_in, callee_in, statement_in, code_in, routine_of, routines_from, routines_of}
use Rattle.edit_entries.specs.Holes.{append, with_body}
use Rattle.imp_edit.specs.Changes.{in_statement, in_block, in_program, exchanged}
use Rattle.imp_chains.specs.Chains.{has}
use Rattle.imp_chains.specs.declared.widening.Widening.{Widening}
use Rattle.imp_chains.specs.Thresholds.{thresholds}
use Rattle.base_values.proofs.Cases.{by_bool, by_test}
use Rattle.why_slice.specs.Exchanged.{OnlySimple, IsSimple}
use Rattle.why_slice.proofs.Shifted.{shift_other, shift_it, pick, pick_other, pick_it, swap}
use Rattle.why_slice.proofs.ShiftedRows.{swap_routine, swap_all, SameThresholds}
use Rattle.imp_chains.proofs.Found.{lacks}

once : (n : ℕ) (xs ys : List ℕ) → Distinct (xs ++ ys) → has n xs ≡ true → Absent n ys
once n [] ys d h = absurd cc
once n (x ∷ xs) ys d h =
    (by_test n x (λ c. (if c then true else has n xs) ≡ true → Absent n ys)
    (λ e h. subst (λ k. Absent k ys) (sym e) (absent_right x xs ys d.0))
    (λ e h. once n xs ys d.1 h)) h

module _ (s t : ℕ) (f : Effect) where
  -- where the statement does not stand nothing is exchanged
  pub swap_absent : (c : Code) → Absent s (code_numbers c) → swap s t f c ≡ c
  swap_absent Stop h = refl
  swap_absent (Simple n e r) h =
      let o : n ≢ s = λ i. h.0 (sym i) in
      ap (λ k. Simple k (pick s t f n e) (swap s t f r)) (shift_other s t n o) ∙ ap (λ k. Simple n k (swap s t f r)) (pick_other s t f n e o) ∙ ap (λ k. Simple n e k) (swap_absent r h.1)
  swap_absent (If n g x y r) h =
      let k = absent_right s (code_numbers x) (code_numbers y ++ code_numbers r) h.1 in
      ap (λ a. If n g a (swap s t f y) (swap s t f r)) (swap_absent x (absent_left s (code_numbers x) (code_numbers y ++ code_numbers r) h.1))
      ∙ ap (λ a. If n g x a (swap s t f r)) (swap_absent y (absent_left s (code_numbers y) (code_numbers r) k))
      ∙ ap (λ a. If n g x y a) (swap_absent r (absent_right s (code_numbers y) (code_numbers r) k))
  swap_absent (While n g b r) h =
      ap (λ a. While n g a (swap s t f r)) (swap_absent b (absent_left s (code_numbers b) (code_numbers r) h.1)) ∙ ap (λ a. While n g b a) (swap_absent r (absent_right s (code_numbers b) (code_numbers r) h.1))
  swap_absent (Call n i q r) h = ap (λ a. Call n i q a) (swap_absent r h.1)
  swap_absent (Break n r) h = ap (λ a. Break n a) (swap_absent r h.1)

-- Of programs: s is replaced by the action a, with the number t.
module _ (s t : ℕ) (a : Action) where
  abbrev made : Statement → Statements
  made = exchanged (tree.Simple t a)

  abbrev edit : List Procedure → List Procedure
  edit = in_program s made

  abbrev edit_body : Procedure → Procedure
  edit_body p = with_body p (in_block s made p.body)

  edit_both : (es ps : List Procedure) → edit (es ++ ps) ≡ edit es ++ edit ps
  edit_both [] ps = refl
  edit_both (e ∷ es) ps = ap (λ k. edit_body e ∷ k) (edit_both es ps)

  -- calls find the same procedures
  place_same : (es : List Procedure) (g : List ℕ) → place_named (edit es) g ≡ place_named es g
  place_same [] g = refl
  place_same (e ∷ es) g = ap (λ k. cond (bytes_eq e.name g) 0 (suc k)) (place_same es g)

  called_same : (l : Layout) (x : Option (List ℕ)) (vs : List Operand) (es : List Procedure) (i : ℕ) → invoke_of l x vs (slice_get (edit es) i) ≡ invoke_of l x vs (slice_get es i)
  called_same l x vs [] i = refl
  called_same l x vs (e ∷ es) zero = refl
  called_same l x vs (e ∷ es) (suc i) = called_same l x vs es i

  module _ (l : Layout) (es : List Procedure) where
    abbrev F : Resolver
    F = record { layout = l; earlier = es }

    abbrev F' : Resolver
    F' = record { layout = l; earlier = edit es }

    abbrev e : Effect
    e = effect_in l a

    invoke_same : (x : Option (List ℕ)) (g : List ℕ) (vs : List Operand) → invoke_in F' x g vs ≡ invoke_in F x g vs
    invoke_same x g vs = ap (λ k. invoke_of l x vs (slice_get (edit es) k)) (place_same es g) ∙ called_same l x vs es (place_named es g)

    call_same : (n : ℕ) (x : Option (List ℕ)) (g : List ℕ) (vs : List Operand) (r : Code) → Call n (invoke_in F' x g vs) (callee_in F' g) r ≡ Call n (invoke_in F x g vs) (callee_in F g) r
    call_same n x g vs r = ap (λ i. Call n i (callee_in F' g) r) (invoke_same x g vs) ∙ ap (λ q. Call n (invoke_in F x g vs) q r) (place_same es g)

    -- a block that is not edited is the same, whichever procedures stand before it
    mutual
      statement_same : (x : Statement) (r r' : Code) → r' ≡ r → statement_in F' x r' ≡ statement_in F x r
      statement_same (tree.Simple n b) r r' h = ap (λ k. Simple n (effect_in l b) k) h
      statement_same (tree.Break n) r r' h = ap (λ k. Break n k) h
      statement_same (tree.Call n x g vs) r r' h = call_same n x g vs r' ∙ ap (λ k. Call n (invoke_in F x g vs) (callee_in F g) k) h
      statement_same (tree.If n c x y) r r' h =
          ap (λ k. If n (guard_in l c) k (code_in F' y) r') (block_same x) ∙ ap (λ k. If n (guard_in l c) (code_in F x) k r') (block_same y) ∙ ap (λ k. If n (guard_in l c) (code_in F x) (code_in F y) k) h
      statement_same (tree.While n c b) r r' h = ap (λ k. While n (guard_in l c) k r') (block_same b) ∙ ap (λ k. While n (guard_in l c) (code_in F b) k) h

      block_same : (ss : Statements) → code_in F' ss ≡ code_in F ss
      block_same tree.Ends = refl
      block_same (tree.Starts x ss) = statement_same x (code_in F ss) (code_in F' ss) (block_same ss)

    -- what is known after a statement
    rest_only : (x : Statement) (r : Code) → OnlySimple s (statement_in F x r) → OnlySimple s r
    rest_only (tree.Simple n b) r h = h
    rest_only (tree.Break n) r h = h.1
    rest_only (tree.Call n x g vs) r h = h.1
    rest_only (tree.If n c x y) r h = h.3
    rest_only (tree.While n c b) r h = h.2

    rest_once : (x : Statement) (r : Code) → Distinct (code_numbers (statement_in F x r)) → Distinct (code_numbers r)
    rest_once (tree.Simple n b) r d = d.1
    rest_once (tree.Break n) r d = d.1
    rest_once (tree.Call n x g vs) r d = d.1
    rest_once (tree.If n c x y) r d = right_once (code_numbers (code_in F y)) (code_numbers r) (right_once (code_numbers (code_in F x)) (code_numbers (code_in F y) ++ code_numbers r) d.1)
    rest_once (tree.While n c b) r d = right_once (code_numbers (code_in F b)) (code_numbers r) d.1

    -- the statement itself
    replaced : (x : Statement) (ss : Statements) → number_of x ≡ s → OnlySimple s (statement_in F x (code_in F ss)) → Distinct (code_numbers (statement_in F x (code_in F ss))) → code_in F' (append (made x) ss) ≡ swap s t e (statement_in F x (code_in F ss))
    replaced (tree.Simple n b) ss i h d =
        sym
        (ap (λ k. Simple k (pick s t e n (effect_in l b)) (swap s t e (code_in F ss))) (shift_it s t n i)
        ∙ ap (λ k. Simple t k (swap s t e (code_in F ss))) (pick_it s t e n (effect_in l b) i)
        ∙ ap (λ k. Simple t e k) (swap_absent s t e (code_in F ss) (subst (λ k. Absent k (code_numbers (code_in F ss))) i d.0) ∙ sym (block_same ss)))
    replaced (tree.Break n) ss i h d = absurd (h.0 i)
    replaced (tree.Call n x g vs) ss i h d = absurd (h.0 i)
    replaced (tree.If n c x y) ss i h d = absurd (h.0 i)
    replaced (tree.While n c b) ss i h d = absurd (h.0 i)

    mutual
      statement_edited : (x : Statement) (r r' : Code) → number_of x ≢ s → OnlySimple s (statement_in F x r) → Distinct (code_numbers (statement_in F x r)) → r' ≡ swap s t e r → statement_in F' (in_statement s made x) r' ≡ swap s t e (statement_in F x r)
      statement_edited (tree.Simple n b) r r' o h d k =
          ap (λ k. Simple n (effect_in l b) k) k
          ∙ sym (ap (λ k. Simple k (pick s t e n (effect_in l b)) (swap s t e r)) (shift_other s t n o) ∙ ap (λ k. Simple n k (swap s t e r)) (pick_other s t e n (effect_in l b) o))
      statement_edited (tree.Break n) r r' o h d k = ap (λ k. Break n k) k
      statement_edited (tree.Call n x g vs) r r' o h d k = call_same n x g vs r' ∙ ap (λ k. Call n (invoke_in F x g vs) (callee_in F g) k) k
      statement_edited (tree.If n c x y) r r' o h d k =
          let later = right_once (code_numbers (code_in F x)) (code_numbers (code_in F y) ++ code_numbers r) d.1 in
          ap (λ k. If n (guard_in l c) k (code_in F' (in_block s made y)) r') (block_edited x h.1 (left_once (code_numbers (code_in F x)) (code_numbers (code_in F y) ++ code_numbers r) d.1))
          ∙ ap (λ k. If n (guard_in l c) (swap s t e (code_in F x)) k r') (block_edited y h.2 (left_once (code_numbers (code_in F y)) (code_numbers r) later))
          ∙ ap (λ k. If n (guard_in l c) (swap s t e (code_in F x)) (swap s t e (code_in F y)) k) k
      statement_edited (tree.While n c b) r r' o h d k =
          ap (λ k. While n (guard_in l c) k r') (block_edited b h.1 (left_once (code_numbers (code_in F b)) (code_numbers r) d.1)) ∙ ap (λ k. While n (guard_in l c) (swap s t e (code_in F b)) k) k

      pub block_edited : (ss : Statements) → OnlySimple s (code_in F ss) → Distinct (code_numbers (code_in F ss)) → code_in F' (in_block s made ss) ≡ swap s t e (code_in F ss)
      block_edited tree.Ends h d = refl
      block_edited (tree.Starts x ss) h d =
          go (statement_edited x (code_in F ss) (code_in F' (in_block s made ss))) (block_edited ss (rest_only x (code_in F ss) h) (rest_once x (code_in F ss) d))
        where
          go : (number_of x ≢ s → OnlySimple s (statement_in F x (code_in F ss)) → Distinct (code_numbers (statement_in F x (code_in F ss))) → code_in F' (in_block s made ss) ≡ swap s t e (code_in F ss) →
              statement_in F' (in_statement s made x) (code_in F' (in_block s made ss)) ≡ swap s t e (statement_in F x (code_in F ss))) →
              code_in F' (in_block s made ss) ≡ swap s t e (code_in F ss) →
              code_in F' (cond (number_of x == s) (append (made x) ss) (tree.Starts (in_statement s made x) (in_block s made ss))) ≡ swap s t e (statement_in F x (code_in F ss))
          go one rest =
              by_test (number_of x) s (λ c. code_in F' (cond c (append (made x) ss) (tree.Starts (in_statement s made x) (in_block s made ss))) ≡ swap s t e (statement_in F x (code_in F ss)))
              (λ i. replaced x ss i h d)
              (λ i. one i h d rest)

  -- The effect over slots is that in the procedure of the statement; no other procedure has the statement.
  abbrev body : List Procedure → Procedure → Code
  body es p = code_in (record { layout = layout_in p; earlier = es }) p.body

  abbrev Chosen : Effect → (es ps : List Procedure) → Type 0
  Chosen f es [] = Unit {0}
  Chosen f es (p ∷ ps) = ((f ≡ effect_in (layout_in p) a) ⊎ Absent s (code_numbers (body es p))) × Chosen f (es ++ p ∷ []) ps

  none_left : (f : Effect) (es ps : List Procedure) → Absent s (routine_numbers (routines_from es ps)) → Chosen f es ps
  none_left f es [] h = tt
  none_left f es (p ∷ ps) h =
      let rest = routine_numbers (routines_from (es ++ p ∷ []) ps) in
      (inr (absent_left s (code_numbers (body es p)) rest h), none_left f (es ++ p ∷ []) ps (absent_right s (code_numbers (body es p)) rest h))

  choose : (es ps : List Procedure) → Distinct (routine_numbers (routines_from es ps)) → (f : Effect) × Chosen f es ps
  choose es [] d = (Skip, tt)
  choose es (p ∷ ps) d = go (choose (es ++ p ∷ []) ps (right_once (code_numbers (body es p)) (routine_numbers (routines_from (es ++ p ∷ []) ps)) d))
    where
      go : (f : Effect) × Chosen f (es ++ p ∷ []) ps → (f : Effect) × Chosen f es (p ∷ ps)
      go later =
          by_bool (has s (code_numbers (body es p)))
          (λ h. (effect_in (layout_in p) a, (inl refl, none_left (effect_in (layout_in p) a) (es ++ p ∷ []) ps (once s (code_numbers (body es p)) (routine_numbers (routines_from (es ++ p ∷ []) ps)) d h))))
          (λ h. (later.0, (inr (lacks s (code_numbers (body es p)) h), later.1)))

  code_is : (f : Effect) (es : List Procedure) (p : Procedure) → OnlySimple s (body es p) → Distinct (code_numbers (body es p)) → (f ≡ effect_in (layout_in p) a) ⊎ Absent s (code_numbers (body es p)) → body (edit es) (edit_body p) ≡ swap s t f (body es p)
  code_is f es p h d (inl i) = block_edited (layout_in p) es p.body h d ∙ ap (λ f. swap s t f (body es p)) (sym i)
  code_is f es p h d (inr n) = block_edited (layout_in p) es p.body h d ∙ swap_absent s t (effect_in (layout_in p) a) (body es p) n ∙ sym (swap_absent s t f (body es p) n)

  all_edited : (f : Effect) (es ps : List Procedure) → Chosen f es ps → IsSimple s (routines_from es ps) → Distinct (routine_numbers (routines_from es ps)) → routines_from (edit es) (edit ps) ≡ swap_all s t f (routines_from es ps)
  all_edited f es [] c h d = refl
  all_edited f es (p ∷ ps) c h d =
      let rest = routine_numbers (routines_from (es ++ p ∷ []) ps) in
      ap (λ k. record { name = p.name; layout = layout_in p; code = k } ∷ routines_from (edit es ++ edit_body p ∷ []) (edit ps)) (code_is f es p h.0 (left_once (code_numbers (body es p)) rest d) c.0)
      ∙ ap (λ k. swap_routine s t f (routine_of es p) ∷ routines_from k (edit ps)) (sym (edit_both es (p ∷ [])))
      ∙ ap (λ k. swap_routine s t f (routine_of es p) ∷ k) (all_edited f (es ++ p ∷ []) ps c.1 h.1 (right_once (code_numbers (body es p)) rest d))

  -- The program over slots has the other statement in the place of s.
  pub edited_is : (ps : List Procedure) → IsSimple s (routines_of ps) → Distinct (routine_numbers (routines_of ps)) → (f : Effect) × (routines_of (edit ps) ≡ swap_all s t f (routines_of ps))
  edited_is ps h d = let c = choose [] ps d in (c.0, all_edited c.0 [] ps c.1 h d)

-- Thresholds of each procedure, in either order.
module _ (s t : ℕ) (f : Effect) (w : Widening) where
  thresholds_both : (xs ys : List Routine) → SameThresholds s t f w xs → SameThresholds s t f w ys → SameThresholds s t f w (xs ++ ys)
  thresholds_both [] ys h k = k
  thresholds_both (x ∷ xs) ys h k = (h.0, thresholds_both xs ys h.1 k)

  thresholds_reversed : (ps : List Routine) → SameThresholds s t f w ps → SameThresholds s t f w (reverse ps)
  thresholds_reversed [] h = tt
  thresholds_reversed (r ∷ ps) h = subst (SameThresholds s t f w) (sym (reverse-append (r ∷ []) ps)) (thresholds_both (reverse ps) (r ∷ []) (thresholds_reversed ps h.1) (h.0, tt))

  thresholds_each : (ps : List Routine) → map (thresholds w) (swap_all s t f ps) ≡ map (thresholds w) ps → SameThresholds s t f w ps
  thresholds_each [] e = tt
  thresholds_each (r ∷ ps) e = (cc, thresholds_each ps cc)

  pub thresholds_back : (ps : List Routine) → map (thresholds w) (swap_all s t f ps) ≡ map (thresholds w) ps → SameThresholds s t f w (reverse ps)
  thresholds_back ps e = thresholds_reversed ps (thresholds_each ps e)
