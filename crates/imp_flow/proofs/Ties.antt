-- The rows by nodes are the rows by the table of statements.
use Rattle.std.proofs.lemmas.List.{length-append, reverse-reverse, map-append}
use Rattle.std.proofs.Common.{◌≡◌, ℕ, zero, suc, ◌<◌, ◌==◌, ℤ, cond, List, [], ◌∷◌, ◌++◌, length, map, reverse, Option, Some, None, Bool, true, false, if◌then◌else◌, nat_lt, slice_get, refl, sym, ap, ◌∙◌, subst, arith, append_assoc, append-nil}
use Rattle.std.specs.Option.{option_map}
use Rattle.imp_slots.specs.Plain.{Guard, Code, Stop, Simple, If, While, Call, Break, Routine}
use Rattle.imp_chains.specs.Thresholds.{thresholds}
use Rattle.batch_meaning.specs.Batch.{LoopOptions}
use Rattle.batch_meaning.specs.Places.{find, if_some, from}
use Rattle.cell_names.specs.declared.frame.NameFrame.{NameFrame}
use Rattle.cell_names.specs.declared.frame.NameFrame.TheVariants.{InCall, InLoop}
use Rattle.cell_names.specs.declared.frame.Point.{Point}
use Rattle.cell_names.specs.declared.frame.Point.TheVariants.{Entry, Then, Else, Body, Post, Iterate, Fix, Exit, Leap}
use Rattle.base_values.proofs.Cases.{by_test}
use Rattle.batch_meaning.proofs.Procedures.{look, look_get}
use Rattle.base_values.proofs.Members.{here, there, Each, none_there, each_more, each_both, each_as}
use Rattle.batch_meaning.proofs.Places.{found_member}
use Rattle.cell_rows.specs.Names.{name, Mark, mark, PathBlock, bare, number, breaks, break_numbers, place_of, iterate_point, start_of, when}
use Rattle.cell_rows.specs.Rows.{Row, One, Two, Fixed as FixedRow, Assumes, Enters, Exits, Leaves, next_operation, last_point, leave_points, joined_point, joins_row, loop_row, enter_row, turn_row, branch_row, post_row, next_row, fix_row, exit_row, leap_row, sites_of}
use Rattle.cell_rows.specs.Targets.{Text, text, deeper, texts}
use Rattle.cell_rows.specs.Flat.{Flat, flat_of, flat, stand_in, by_text, flat_row}
use Rattle.imp_flow_rows.specs.declared.node.Leave.{Leave}
use Rattle.call_contexts.specs.Settings.{or_no_thresholds}
use Rattle.call_contexts.proofs.LiteralLemmas.{effect_again}
use Rattle.imp_flow_rows.specs.Shapes.{Node}
use Rattle.imp_flow.specs.Nodes.{leaving, body_end, shape_of, node_in, block_nodes, nodes_of, node_of}
use Rattle.imp_flow_rows.specs.NodeRows.{breaks_of, fronts_of, iterate_at, joined_at, where_so, joins_at, behind_loop, post_at, enter_at, branch_at, turn_at, next_at, fix_at, exit_at, leap_at}
use Rattle.imp_flow.specs.Plans.{Plan, thresholds_at, by_node, next_of, node_row}
use Rattle.std.proofs.lemmas.Option.{same_Some}

-- The breaks of a block, with the points before them.
pub breaks_are : (c : Code) (p : Point) → breaks_of (leaving c p) ≡ break_numbers c
breaks_are Stop p = refl
breaks_are (Simple n e r) p = breaks_are r (Post n)
breaks_are (If n g t e r) p =
    map-append (λ (l : Leave). l.stmt) (leaving t (Then n)) (leaving e (Else n) ++ leaving r (Post n))
    ∙ ap (λ k. breaks_of (leaving t (Then n)) ++ k) (map-append (λ (l : Leave). l.stmt) (leaving e (Else n)) (leaving r (Post n)))
    ∙ rw (breaks_are t (Then n), breaks_are e (Else n), breaks_are r (Post n)) refl
breaks_are (While n g b r) p = breaks_are r (Post n)
breaks_are (Call n i q r) p = breaks_are r (Post n)
breaks_are (Break n r) p = ap (λ k. n ∷ k) (breaks_are r (Post n))

pub fronts_are : (c : Code) (p : Point) → fronts_of (leaving c p) ≡ leave_points c p
fronts_are Stop p = refl
fronts_are (Simple n e r) p = fronts_are r (Post n)
fronts_are (If n g t e r) p =
    map-append (λ (l : Leave). l.front) (leaving t (Then n)) (leaving e (Else n) ++ leaving r (Post n))
    ∙ ap (λ k. fronts_of (leaving t (Then n)) ++ k) (map-append (λ (l : Leave). l.front) (leaving e (Else n)) (leaving r (Post n)))
    ∙ rw (fronts_are t (Then n), fronts_are e (Else n), fronts_are r (Post n)) refl
fronts_are (While n g b r) p = fronts_are r (Post n)
fronts_are (Call n i q r) p = fronts_are r (Post n)
fronts_are (Break n r) p = ap (λ k. p ∷ k) (fronts_are r (Post n))

pub count_is : (c : Code) (p : Point) → length (leaving c p) ≡ breaks c
count_is Stop p = refl
count_is (Simple n e r) p = count_is r (Post n)
count_is (If n g t e r) p =
    omega (
      arith,
      length-append (leaving t (Then n)) (leaving e (Else n) ++ leaving r (Post n)),
      length-append (leaving e (Else n)) (leaving r (Post n)),
      count_is t (Then n),
      count_is e (Else n),
      count_is r (Post n),
    )
count_is (While n g b r) p = count_is r (Post n)
count_is (Call n i q r) p = count_is r (Post n)
count_is (Break n r) p = ap suc (count_is r (Post n))

-- Each statement of the table has its node.
abbrev text_node : List Routine → List ℕ → Text → Node
text_node earlier loops t = node_in earlier (loops ++ t.loops) t.front (number t.code) (shape_of earlier t.code)

abbrev entry_node : List Routine → List ℕ → ℕ × Text → Node
entry_node earlier loops x = text_node earlier loops x.1

abbrev pub flat_node : Flat → Node
flat_node u = text_node u.earlier [] u.text

abbrev pub flat_entry : ℕ × Flat → Node
flat_entry x = flat_node x.1

module _ (earlier : List Routine) where
  abbrev N : List ℕ → ℕ × Text → Node
  N = entry_node earlier

  deeper_nodes : (loops : List ℕ) (n : ℕ) (xs : List (ℕ × Text)) → map (N (loops ++ n ∷ [])) xs ≡ map (N loops) (map (deeper n) xs)
  deeper_nodes loops n [] = refl
  deeper_nodes loops n (x ∷ xs) =
      ap (λ ls. node_in earlier ls x.1.front (number x.1.code) (shape_of earlier x.1.code) ∷ map (N (loops ++ n ∷ [])) xs) (append_assoc loops (n ∷ []) x.1.loops)
      ∙ ap (λ k. N loops (deeper n x) ∷ k) (deeper_nodes loops n xs)

  first : (loops : List ℕ) (p : Point) (c : Code) (rest : List Node) → node_in earlier loops p (number c) (shape_of earlier c) ∷ rest ≡ text_node earlier loops (text [] p c) ∷ rest
  first loops p c rest = ap (λ ls. node_in earlier ls p (number c) (shape_of earlier c) ∷ rest) (sym (append-nil loops))

  block_is : (loops : List ℕ) (p : Point) (c : Code) → block_nodes earlier loops p c ≡ map (N loops) (texts c p)
  block_is loops p Stop = refl
  block_is loops p (Simple n e r) = first loops p (Simple n e r) _ ∙ ap (λ k. N loops (n, text [] p (Simple n e r)) ∷ k) (block_is loops (Post n) r)
  block_is loops p (If n g t e r) =
      first loops p (If n g t e r) _
      ∙ ap (λ k. N loops (n, text [] p (If n g t e r)) ∷ k)
      (rw (block_is loops (Then n) t, block_is loops (Else n) e, block_is loops (Post n) r) refl
      ∙ ap (λ k. map (N loops) (texts t (Then n)) ++ k) (sym (map-append (N loops) (texts e (Else n)) (texts r (Post n))))
      ∙ sym (map-append (N loops) (texts t (Then n)) (texts e (Else n) ++ texts r (Post n))))
  block_is loops p (While n g b r) =
      first loops p (While n g b r) _
      ∙ ap (λ k. N loops (n, text [] p (While n g b r)) ∷ k)
      (ap (λ k. k ++ block_nodes earlier loops (Post n) r) (block_is (loops ++ n ∷ []) Body b ∙ deeper_nodes loops n (texts b Body))
      ∙ ap (λ k. map (N loops) (map (deeper n) (texts b Body)) ++ k) (block_is loops (Post n) r)
      ∙ sym (map-append (N loops) (map (deeper n) (texts b Body)) (texts r (Post n))))
  block_is loops p (Call n i q r) = first loops p (Call n i q r) _ ∙ ap (λ k. N loops (n, text [] p (Call n i q r)) ∷ k) (block_is loops (Post n) r)
  block_is loops p (Break n r) = first loops p (Break n r) _ ∙ ap (λ k. N loops (n, text [] p (Break n r)) ∷ k) (block_is loops (Post n) r)

flat_nodes : (r : Routine) (earlier : List Routine) (xs : List (ℕ × Text)) → map (entry_node earlier []) xs ≡ map flat_entry (map (flat_of r earlier) xs)
flat_nodes r earlier [] = refl
flat_nodes r earlier (x ∷ xs) = ap (λ k. entry_node earlier [] x ∷ k) (flat_nodes r earlier xs)

pub nodes_are : (ps : List Routine) → nodes_of ps ≡ map flat_entry (flat ps)
nodes_are [] = refl
nodes_are (r ∷ earlier) =
    ap (λ k. k ++ nodes_of earlier) (block_is earlier [] Entry r.code ∙ flat_nodes r earlier (texts r.code Entry))
    ∙ ap (λ k. map flat_entry (map (flat_of r earlier) (texts r.code Entry)) ++ k) (nodes_are earlier)
    ∙ sym (map-append flat_entry (map (flat_of r earlier) (texts r.code Entry)) (flat earlier))

-- Each is under its own number, in the procedure at its place.
abbrev Own : ℕ × Text → Type 0
Own x = x.0 ≡ number x.1.code

own_deeper : (n : ℕ) (xs : List (ℕ × Text)) → Each Own xs → Each Own (map (deeper n) xs)
own_deeper n [] h = none_there Own
own_deeper n (x ∷ xs) h = each_more Own (deeper n x) _ (h.at x here) (own_deeper n xs (record { at = λ y m. h.at y (there m) }))

own : (c : Code) (p : Point) → Each Own (texts c p)
own Stop p = none_there Own
own (Simple n e r) p = each_more Own (n, text [] p (Simple n e r)) _ refl (own r (Post n))
own (If n g t e r) p = each_more Own (n, text [] p (If n g t e r)) _ refl (each_both Own _ _ (own t (Then n)) (each_both Own _ _ (own e (Else n)) (own r (Post n))))
own (While n g b r) p = each_more Own (n, text [] p (While n g b r)) _ refl (each_both Own _ _ (own_deeper n _ (own b Body)) (own r (Post n)))
own (Call n i q r) p = each_more Own (n, text [] p (Call n i q r)) _ refl (own r (Post n))
own (Break n r) p = each_more Own (n, text [] p (Break n r)) _ refl (own r (Post n))

pub record Stands (ps : List Routine) (x : ℕ × Flat) : Type 0 where
  pub number : x.0 ≡ number x.1.text.code
  pub within : length x.1.earlier < length ps
  pub routine : look ps (length x.1.earlier) ≡ Some x.1.routine

stands_first : (r : Routine) (earlier : List Routine) (xs : List (ℕ × Text)) → Each Own xs → Each (Stands (r ∷ earlier)) (map (flat_of r earlier) xs)
stands_first r earlier [] h = none_there (Stands (r ∷ earlier))
stands_first r earlier (x ∷ xs) h =
    each_more (Stands (r ∷ earlier)) (flat_of r earlier x) _
    (record {
      number = h.at x here;
      within = omega arith;
      routine = by_test (length earlier) (length earlier) (λ c. (if c then Some r else look earlier (length earlier)) ≡ Some r) (λ e. refl) (λ e. absurd (e refl));
    })
    (stands_first r earlier xs (record { at = λ y m. h.at y (there m) }))

stands_more : (r : Routine) (earlier : List Routine) (x : ℕ × Flat) → Stands earlier x → Stands (r ∷ earlier) x
stands_more r earlier x h = record {
  number = h.number;
  within = omega (arith, h.within);
  routine =
      by_test (length x.1.earlier) (length earlier) (λ c. (if c then Some r else look earlier (length x.1.earlier)) ≡ Some x.1.routine)
      (λ e. let l : length x.1.earlier < length earlier = h.within in absurd (omega arith))
      (λ e. h.routine);
}

pub all_stand : (ps : List Routine) → Each (Stands ps) (flat ps)
all_stand [] = none_there (Stands [])
all_stand (r ∷ earlier) =
    each_both (Stands (r ∷ earlier)) (map (flat_of r earlier) (texts r.code Entry)) (flat earlier)
    (stands_first r earlier (texts r.code Entry) (own r.code Entry))
    (each_as (Stands earlier) (Stands (r ∷ earlier)) (flat earlier) (stands_more r earlier) (all_stand earlier))

-- A statement's node is found where the statement is.
pub find_node : (ps : List Routine) (n : ℕ) (xs : List (ℕ × Flat)) → Each (Stands ps) xs → node_of (map flat_entry xs) n ≡ option_map flat_node (find n xs)
find_node ps n [] h = refl
find_node ps n (x ∷ xs) h =
    let own : x.0 ≡ number x.1.text.code = (h.at x here).number in
    let rest = find_node ps n xs (record { at = λ y m. h.at y (there m) }) in
    by_test (number x.1.text.code) n (λ c. cond c (Some (flat_entry x)) (node_of (map flat_entry xs) n) ≡ option_map flat_node (if n == x.0 then Some x.1 else find n xs))
    (λ e. by_test n x.0 (λ d. Some (flat_entry x) ≡ option_map flat_node (if d then Some x.1 else find n xs)) (λ k. refl) (λ k. absurd (k (sym (own ∙ e)))))
    (λ e. by_test n x.0 (λ d. node_of (map flat_entry xs) n ≡ option_map flat_node (if d then Some x.1 else find n xs)) (λ k. absurd (e (sym (k ∙ own)))) (λ k. rest))

module _ (engine : LoopOptions) (w : List NameFrame) where
  abbrev B : Type 0
  B = PathBlock engine bare

  -- The rows of a statement, in a place of these procedures.
  starts : (b : B) (n : ℕ) (r : ℕ) (f : Point → Row) (rs : List Routine) → if_some (start_of engine bare rs (n ∷ b.sites) (mark Entry (suc r) tt)) (λ d. Some (f (last_point d.code Entry))) ≡ if_some (body_end rs) (λ e. Some (f e))
  starts b n r f [] = refl
  starts b n r f (c ∷ rs) = refl

  joined_is : (n : ℕ) (c : Code) (i : ℕ) → joined_point n c i ≡ joined_at n (break_numbers c) i
  joined_is n c zero = refl
  joined_is n c (suc i) = refl

  joins_is : (stays : Bool) (n : ℕ) (c : Code) (i : ℕ) → joins_row engine bare w stays n c i ≡ joins_at w stays n (leaving c Body) i
  joins_is stays n c i = rw (fronts_are c Body, breaks_are c Body, joined_is n c i) refl

  behind_is : (n : ℕ) (g : Guard) (c : Code) (k : ℕ) → loop_row engine bare w n g c k ≡ behind_loop w n g (leaving c Body) k
  behind_is n g c zero = refl
  behind_is n g c (suc i) = joins_is false n c i

  leaps : (n : ℕ) (c : Code) (o : Option ℕ) → if_some o (λ i. if nat_lt (suc i) (breaks c) then joins_row engine bare w true n c i else None) ≡ if_some o (λ i. if nat_lt (suc i) (breaks c) then joins_at w true n (leaving c Body) i else None)
  leaps n c None = refl
  leaps n c (Some i) = ap (λ (o : Option Row). if nat_lt (suc i) (breaks c) then o else None) (joins_is true n c i)

  when_so : {A : Type 0} (b : Bool) (a : A) → when engine bare b a ≡ where_so b a
  when_so true a = refl
  when_so false a = refl

  module _ (b : B) (p : Point) where
    abbrev M : Mark (Unit {0})
    M = mark p 0 tt

    abbrev X : List ℕ → Code → Node
    X loops c = node_in b.scope.earlier loops p (number c) (shape_of b.scope.earlier c)

    pub post_is : (loops : List ℕ) (c : Code) → post_row engine bare w b M c ≡ post_at w (X loops c)
    post_is loops Stop = refl
    post_is loops (Simple n e r) = rw (effect_again e) refl
    post_is loops (If n g t e r) = refl
    post_is loops (While n g c r) = ap (loop_row engine bare w n g c) (sym (count_is c Body)) ∙ behind_is n g c (length (leaving c Body))
    post_is loops (Call n i q r) = starts b n 0 (λ e. Two (Leaves i.returning) (name w p) (name (InCall n ∷ w) e)) (from b.scope.earlier q)
    post_is loops (Break n r) = refl

    pub enter_is : (loops : List ℕ) (c : Code) → enter_row engine bare w b (number c) M c ≡ enter_at w (X loops c)
    enter_is loops Stop = refl
    enter_is loops (Simple n e r) = refl
    enter_is loops (If n g t e r) = refl
    enter_is loops (While n g c r) = refl
    enter_is loops (Call n i q r) = starts b n 0 (λ e. One (Enters i.entering) (name w p)) (from b.scope.earlier q)
    enter_is loops (Break n r) = refl

    pub branch_is : (h : Bool) (loops : List ℕ) (c : Code) → branch_row engine bare w h b M c ≡ branch_at w h (X loops c)
    branch_is h loops Stop = refl
    branch_is h loops (Simple n e r) = refl
    branch_is h loops (If n g t e r) = refl
    branch_is h loops (While n g c r) = refl
    branch_is h loops (Call n i q r) = refl
    branch_is h loops (Break n r) = refl

    iterates : (n k : ℕ) → iterate_point engine bare n p k ≡ iterate_at n p k
    iterates n zero = refl
    iterates n (suc k) = refl

    pub turn_is : (k : ℕ) (loops : List ℕ) (c : Code) → turn_row engine bare w b (number c) k M c ≡ turn_at w engine k (X loops c)
    turn_is k loops Stop = refl
    turn_is k loops (Simple n e r) = refl
    turn_is k loops (If n g t e r) = refl
    turn_is k loops (While n g c r) = when_so (nat_lt k engine.budget) (One (Assumes g true) (name w (iterate_point engine bare n p k))) ∙ rw (iterates n k) refl
    turn_is k loops (Call n i q r) = refl
    turn_is k loops (Break n r) = refl

    pub next_is : (k : ℕ) (loops : List ℕ) (c : Code) → next_row engine bare w k b M c ≡ next_at w engine b.scope.thresholds k (X loops c)
    next_is k loops Stop = refl
    next_is k loops (Simple n e r) = refl
    next_is k loops (If n g t e r) = refl
    next_is k loops (While n g c r) =
        when_so (nat_lt k engine.budget) (Two (next_operation engine b.scope.thresholds k) (name w (iterate_point engine bare n p k)) (name (InLoop n k ∷ w) (last_point c Body))) ∙ rw (iterates n k) refl
    next_is k loops (Call n i q r) = refl
    next_is k loops (Break n r) = refl

    pub exit_is : (loops : List ℕ) (c : Code) → exit_row engine bare w b M c ≡ exit_at w (X loops c)
    exit_is loops Stop = refl
    exit_is loops (Simple n e r) = refl
    exit_is loops (If n g t e r) = refl
    exit_is loops (While n g c r) = when_so (nat_lt 0 (breaks c)) (One (Exits g) (name w (Fix n))) ∙ rw (count_is c Body) refl
    exit_is loops (Call n i q r) = refl
    exit_is loops (Break n r) = refl

    pub leap_is : (k : ℕ) (loops : List ℕ) (c : Code) → leap_row engine bare w k b M c ≡ leap_at w k (X loops c)
    leap_is k loops Stop = refl
    leap_is k loops (Simple n e r) = refl
    leap_is k loops (If n g t e r) = refl
    leap_is k loops (While n g c r) = leaps n c (place_of k (break_numbers c)) ∙ rw (breaks_are c Body, count_is c Body) refl
    leap_is k loops (Call n i q r) = refl
    leap_is k loops (Break n r) = refl

  -- of a fixed point, whose path's call sites are those of the place
  pub fix_is : (b : B) (p : Point) → b.sites ≡ sites_of w → (loops : List ℕ) (c : Code) → fix_row engine bare w b (mark p 0 tt) c ≡ fix_at w (node_in b.scope.earlier loops p (number c) (shape_of b.scope.earlier c))
  fix_is b p h loops Stop = refl
  fix_is b p h loops (Simple n e r) = refl
  fix_is b p h loops (If n g t e r) = refl
  fix_is b p h loops (While n g c r) = ap (λ z. Some (FixedRow n z w p)) h
  fix_is b p h loops (Call n i q r) = refl
  fix_is b p h loops (Break n r) = refl

get_thresholds : (f : Routine → List ℤ) (ps : List Routine) (k : ℕ) (r : Routine) → slice_get ps k ≡ Some r → slice_get (map f ps) k ≡ Some (f r)
get_thresholds f [] k r e = absurd cc
get_thresholds f (x ∷ ps) zero r e = ap (λ c. Some (f c)) (same_Some x r e)
get_thresholds f (x ∷ ps) (suc k) r e = get_thresholds f ps k r e

module _ (plan : Plan) where
  abbrev back : List Routine
  back = reverse plan.program

  thresholds_are : (x : ℕ × Flat) → Stands back x → thresholds_at plan (length x.1.earlier) ≡ thresholds plan.engine.widening x.1.routine
  thresholds_are x h =
      ap or_no_thresholds (get_thresholds (thresholds plan.engine.widening) plan.program (length x.1.earlier) x.1.routine
      (ap (λ ps. slice_get ps (length x.1.earlier)) (sym (reverse-reverse plan.program)) ∙ sym (look_get back (length x.1.earlier)) ∙ h.routine))

  -- Rows that agree at each statement of the table agree at its number.
  at_number : (n : ℕ) (w : List NameFrame) (g : PathBlock plan.engine bare → Mark (Unit {0}) → Code → Option Row) (f : Node → Option Row) →
      ((u : Flat) → Stands back (n, u) → g (stand_in plan.engine back w u) (mark u.text.front 0 tt) u.text.code ≡ f (flat_node u)) →
      by_text plan.engine back w n g ≡ by_node plan n f
  at_number n w g f h =
      go (find n (flat back)) refl ∙ ap (λ o. if_some o f) (sym (ap (λ xs. node_of xs n) (nodes_are back) ∙ find_node back n (flat back) (all_stand back)))
    where
      go : (o : Option Flat) → find n (flat back) ≡ o → if_some o (λ u. g (stand_in plan.engine back w u) (mark u.text.front 0 tt) u.text.code) ≡ if_some (option_map flat_node o) f
      go None e = refl
      go (Some u) e = h u ((all_stand back).at (n, u) (found_member n u (flat back) e))

  abbrev E : LoopOptions
  E = plan.engine

  abbrev place_in : List NameFrame → Flat → PathBlock plan.engine bare
  place_in = stand_in plan.engine back

  abbrev IsRow : List NameFrame → Point → Type 0
  IsRow w p = node_row plan w p ≡ flat_row plan.engine back w p

  entries_tie : (w : List NameFrame) → IsRow w Entry
  entries_tie [] = refl
  entries_tie (InCall n ∷ w) =
      sym (at_number n w (λ b. enter_row E bare w b n) (enter_at w) (λ u h. subst (λ k. enter_row E bare w (place_in w u) k (mark u.text.front 0 tt) u.text.code ≡ enter_at w (flat_node u)) (sym h.number) (enter_is E w (place_in w u) u.text.front u.text.loops u.text.code)))
  entries_tie (InLoop n k ∷ w) = refl

  bodies_tie : (w : List NameFrame) → IsRow w Body
  bodies_tie [] = refl
  bodies_tie (InCall n ∷ w) = refl
  bodies_tie (InLoop n k ∷ w) =
      sym (at_number n w (λ b. turn_row E bare w b n k) (turn_at w E k) (λ u h. subst (λ j. turn_row E bare w (place_in w u) j k (mark u.text.front 0 tt) u.text.code ≡ turn_at w E k (flat_node u)) (sym h.number) (turn_is E w (place_in w u) u.text.front k u.text.loops u.text.code)))

  iterates_tie : (w : List NameFrame) (n k : ℕ) → IsRow w (Iterate n k)
  iterates_tie w n zero = refl
  iterates_tie w n (suc k) =
      sym (at_number n w (next_row E bare w k) (next_of plan w k) (λ u h. next_is E w (place_in w u) u.text.front k u.text.loops u.text.code ∙ ap (λ (ms : List ℤ). next_at w E ms k (flat_node u)) (sym (thresholds_are (n, u) h))))

  -- The rows by nodes are those of the program.
  pub rows_tie : (w : List NameFrame) (p : Point) → IsRow w p
  rows_tie w Entry = entries_tie w
  rows_tie w Body = bodies_tie w
  rows_tie w (Then n) = sym (at_number n w (branch_row E bare w true) (branch_at w true) (λ u h. branch_is E w (place_in w u) u.text.front true u.text.loops u.text.code))
  rows_tie w (Else n) = sym (at_number n w (branch_row E bare w false) (branch_at w false) (λ u h. branch_is E w (place_in w u) u.text.front false u.text.loops u.text.code))
  rows_tie w (Post n) = sym (at_number n w (post_row E bare w) (post_at w) (λ u h. post_is E w (place_in w u) u.text.front u.text.loops u.text.code))
  rows_tie w (Iterate n k) = iterates_tie w n k
  rows_tie w (Fix n) = sym (at_number n w (fix_row E bare w) (fix_at w) (λ u h. fix_is E w (place_in w u) u.text.front refl u.text.loops u.text.code))
  rows_tie w (Exit n) = sym (at_number n w (exit_row E bare w) (exit_at w) (λ u h. exit_is E w (place_in w u) u.text.front u.text.loops u.text.code))
  rows_tie w (Leap n k) = sym (at_number n w (leap_row E bare w k) (leap_at w k) (λ u h. leap_is E w (place_in w u) u.text.front k u.text.loops u.text.code))
