-- The node of each statement of a program is told by what is known of it, of its breaks, and of its callee.
use Rattle.std.proofs.lemmas.List.{length-reverse, map-append, reverse-append, reverse-reverse}
use Rattle.std.proofs.lemmas.Bool.{ltb-true, ltb-false}
use Rattle.std.proofs.lemmas.Option.{slice_get_past, same_Some}
use Rattle.std.proofs.Common.{◌≡◌, ◌≢◌, ℕ, zero, suc, ◌+◌, ◌-◌, ◌<◌, ◌≤◌, ◌⊎◌, inl, inr, cond, nat_lt, List, [], ◌∷◌, ◌++◌, length, map, reverse, slice_get, Option, Some, None, Bool, true, false, refl, sym, ap, ◌∙◌, subst, arith, append_assoc, append-nil}
use Rattle.std.specs.Prelude.{if◌then◌else◌}
use Rattle.std.specs.Option.{option_map}
use Rattle.std.specs.Str.{bytes_eq}
use Rattle.imp_syntax.specs.Plain.{Statements, Ends, Starts, Procedure}
use Rattle.imp_syntax.specs.Plain as tree
use Rattle.imp_slots.specs.Plain.{Routine, Layout}
use Rattle.imp_slots.specs.Fits.{Distinct, IsChecked}
use Rattle.imp_check.specs.Parts.{first_or, last_or, leaving}
use Rattle.imp_check.specs.Programs.{AreNumbered}
use Rattle.imp_check.specs.Slots.{Resolver, layout_in, code_in, guard_in, callee_in, invoke_in, routine_of, routines_from, routines_of}
use Rattle.imp_check.specs.Entries.{inside, inside_loop, entry_at, block_entries, procedure_entries, entries_from, entries_of, entry_of, resolver_at, context_at, heads_of, head_of}
use Rattle.imp_check.specs.declared.entry.Context.{Context}
use Rattle.imp_check.specs.declared.entry.Entry as known
use Rattle.imp_check.specs.declared.entry.ProcHeader.{ProcHeader}
use Rattle.imp_check.specs.declared.entry.Which.TheVariants as which
use Rattle.imp_check.proofs.RebuildLemmas.{In, in_left, in_right, Known, known_left, known_right, found, all_numbers}
use Rattle.batch_meaning.specs.Places.{from, if_some, main_layout}
use Rattle.batch_meaning.proofs.Procedures.{look, look_get}
use Rattle.base_values.proofs.Cases.{by_test}
use Rattle.base_values.proofs.Members.{Member, here, there}
use Rattle.base_values.proofs.Members as members
use Rattle.cell_names.specs.declared.frame.Point.{Point}
use Rattle.cell_names.specs.declared.frame.Point.TheVariants.{Entry, Then, Else, Body, Post}
use Rattle.cell_rows.specs.Rows.{last_point}
use Rattle.cell_rows.proofs.FlatOnce.{once_reversed}
use Rattle.imp_flow_rows.specs.Shapes.{Node, Shape}
use Rattle.imp_flow_rows.specs.Shapes as shape
use Rattle.imp_flow.specs.declared.steps.TargetStep.{TargetStep}
use Rattle.imp_flow.specs.declared.steps.TargetStep.TheVariants.{Take}
use Rattle.imp_flow.specs.Nodes.{leaving as leaves, body_end, callee_end, node_in, block_nodes, nodes_of, node_of}
use Rattle.imp_flow_rows.specs.Entered.{Table, start_of, behind_or, front_in, leave_at, end_of, end_in, head_of as outer_of, loops_up, node_from, known_in, node_by}
use Rattle.imp_flow.specs.Reached.{into_loops}
use Rattle.imp_flow.proofs.NumberLemmas.{all_numbers as all_nodes, found_there}
use Rattle.imp_check.proofs.SlotLemmas.{routines_push}
use Rattle.imp_check.proofs.StandLemmas.{either}
use Rattle.call_contexts.proofs.Few.{as_many}

-- The last point of a block is told by its last statement.
pub last_is : (f : Resolver) (b : Statements) (p : Point) (o : Option ℕ) → last_point (code_in f b) (behind_or p o) ≡ behind_or p (last_or b o)
last_is f Ends p o = refl
last_is f (Starts (tree.Simple n a) ss) p o = last_is f ss p (Some n)
last_is f (Starts (tree.Break n) ss) p o = last_is f ss p (Some n)
last_is f (Starts (tree.Call n x g es) ss) p o = last_is f ss p (Some n)
last_is f (Starts (tree.If n c t e) ss) p o = last_is f ss p (Some n)
last_is f (Starts (tree.While n c b) ss) p o = last_is f ss p (Some n)

module _ (at : Table) (f : Resolver) where
  both : (xs ys : List ℕ) → map (leave_at at) xs ++ map (leave_at at) ys ≡ map (leave_at at) (xs ++ ys)
  both xs ys = sym (map-append (leave_at at) xs ys)

  -- The breaks of a block, with the points before them, are told by their numbers.
  leaves_are : (b : Statements) (c : Context) (o next : Option ℕ) → Known at (block_entries f c o next b) → leaves (code_in f b) (behind_or (start_of c.around) o) ≡ map (leave_at at) (leaving b)
  leaves_are Ends c o next k = refl
  leaves_are (Starts (tree.Simple n a) ss) c o next k = leaves_are ss c (Some n) next (λ y i. k y (inr i))
  leaves_are (Starts (tree.Break n) ss) c o next k =
      let x = entry_at f c o (first_or ss next) (tree.Break n) in
      ap (λ (q : Point). record { stmt = n; front = q } ∷ leaves (code_in f ss) (Post n)) (sym (ap front_in (k x (inl refl))))
      ∙ ap (λ ls. leave_at at n ∷ ls) (leaves_are ss c (Some n) next (λ y i. k y (inr i)))
  leaves_are (Starts (tree.Call n x g es) ss) c o next k = leaves_are ss c (Some n) next (λ y i. k y (inr i))
  leaves_are (Starts (tree.If n d t e) ss) c o next k =
      let T = block_entries f (inside c n which.Then) None None t in
      let E = block_entries f (inside c n which.Else) None None e in
      let R = block_entries f c (Some n) next ss in
      let l : Known at (T ++ E) = λ y i. k y (inr (in_left y (T ++ E) R i)) in
      ap (λ ls. ls ++ (leaves (code_in f e) (Else n) ++ leaves (code_in f ss) (Post n))) (leaves_are t (inside c n which.Then) None None (known_left at T E l))
      ∙ ap (λ ls. map (leave_at at) (leaving t) ++ (ls ++ leaves (code_in f ss) (Post n))) (leaves_are e (inside c n which.Else) None None (known_right at T E l))
      ∙ ap (λ ls. map (leave_at at) (leaving t) ++ (map (leave_at at) (leaving e) ++ ls)) (leaves_are ss c (Some n) next (λ y i. k y (inr (in_right y (T ++ E) R i))))
      ∙ ap (λ ls. map (leave_at at) (leaving t) ++ ls) (both (leaving e) (leaving ss))
      ∙ both (leaving t) (leaving e ++ leaving ss)
      ∙ ap (map (leave_at at)) (sym (append_assoc (leaving t) (leaving e) (leaving ss)))
  leaves_are (Starts (tree.While n d b) ss) c o next k =
      let B = block_entries f (inside_loop c n) None None b in
      let R = block_entries f c (Some n) next ss in
      leaves_are ss c (Some n) next (λ y i. k y (inr (in_right y B R i)))

-- These are the loops around a block with so many blocks around it.
abbrev AreAround : Table → Context → List ℕ → Type 0
AreAround at c loops = (m : ℕ) → c.depth ≤ m → loops_up at m c.head ≡ loops

-- The nodes of a block are told by its entries.
module _ (at : Table) (ends : ℕ → ℕ → Option Point) (f : Resolver) (earlier : List Routine) (callees : (q : ℕ) → callee_end earlier q ≡ ends (length earlier) q) where
  abbrev T : known.Entry → Node
  T x = node_from at (ends x.context.proc) x

  three : (xs ys zs : List Node) (us vs ws : List known.Entry) → xs ≡ map T us → ys ≡ map T vs → zs ≡ map T ws → xs ++ (ys ++ zs) ≡ map T ((us ++ vs) ++ ws)
  three xs ys zs us vs ws p q r =
      (λ i. p i ++ (q i ++ r i))
      ∙ ap (λ k. map T us ++ k) (sym (map-append T vs ws))
      ∙ sym (map-append T us (vs ++ ws))
      ∙ ap (map T) (sym (append_assoc us vs ws))

  two : (xs zs : List Node) (us ws : List known.Entry) → xs ≡ map T us → zs ≡ map T ws → xs ++ zs ≡ map T (us ++ ws)
  two xs zs us ws p r = (λ i. p i ++ r i) ∙ sym (map-append T us ws)

  stands : (c : Context) (loops : List ℕ) → length earlier ≡ c.proc → AreAround at c loops → (p : Point) (n : ℕ) (s t : Shape) → s ≡ t → node_in earlier loops p n s ≡ record { stmt = n; place = c.proc; loops = loops_up at c.depth c.head; front = p; shape = t }
  stands c loops h l p n s t e =
      ap (λ z. record { stmt = n; place = z; loops = loops; front = p; shape = s }) h
      ∙ ap (λ ls. record { stmt = n; place = c.proc; loops = ls; front = p; shape = s }) (sym (l c.depth (omega arith)))
      ∙ ap (λ z. record { stmt = n; place = c.proc; loops = loops_up at c.depth c.head; front = p; shape = z }) e

  inner : (c : Context) (loops : List ℕ) (n : ℕ) (x : known.Entry) → x.context.head ≡ c.head → at n ≡ Some x → AreAround at c loops → (m : ℕ) → suc c.depth ≤ m → loops_up at m (Some n) ≡ loops ++ n ∷ []
  inner c loops n x s k l zero h = absurd (omega arith)
  inner c loops n x s k l (suc m) h = ap (λ o. loops_up at m (outer_of o) ++ n ∷ []) k ∙ ap (λ o. loops_up at m o ++ n ∷ []) s ∙ ap (λ ls. ls ++ n ∷ []) (l m (omega arith))

  pub nodes_are : (b : Statements) (loops : List ℕ) (c : Context) (o next : Option ℕ) → length earlier ≡ c.proc → AreAround at c loops → Known at (block_entries f c o next b) →
      block_nodes earlier loops (behind_or (start_of c.around) o) (code_in f b) ≡ map T (block_entries f c o next b)
  nodes_are Ends loops c o next h l k = refl
  nodes_are (Starts (tree.Simple n a) ss) loops c o next h l k =
      let X = entry_at f c o (first_or ss next) (tree.Simple n a) in
      let q = stands c loops h l (behind_or (start_of c.around) o) n (T X).shape (T X).shape refl in
      let r = nodes_are ss loops c (Some n) next h l (λ y i. k y (inr i)) in
      (λ i. q i ∷ r i)
  nodes_are (Starts (tree.Break n) ss) loops c o next h l k =
      let X = entry_at f c o (first_or ss next) (tree.Break n) in
      let q = stands c loops h l (behind_or (start_of c.around) o) n (T X).shape (T X).shape refl in
      let r = nodes_are ss loops c (Some n) next h l (λ y i. k y (inr i)) in
      (λ i. q i ∷ r i)
  nodes_are (Starts (tree.Call n x g es) ss) loops c o next h l k =
      let X = entry_at f c o (first_or ss next) (tree.Call n x g es) in
      let e = callees (callee_in f g) ∙ ap (λ z. ends z (callee_in f g)) h in
      let q = stands c loops h l (behind_or (start_of c.around) o) n (shape.Call (invoke_in f x g es) (callee_in f g) (callee_end earlier (callee_in f g))) (T X).shape (ap (shape.Call (invoke_in f x g es) (callee_in f g)) e) in
      let r = nodes_are ss loops c (Some n) next h l (λ y i. k y (inr i)) in
      (λ i. q i ∷ r i)
  nodes_are (Starts (tree.If n d t e) ss) loops c o next h l k =
      let X = entry_at f c o (first_or ss next) (tree.If n d t e) in
      let t1 = block_entries f (inside c n which.Then) None None t in
      let e1 = block_entries f (inside c n which.Else) None None e in
      let r1 = block_entries f c (Some n) next ss in
      let w : Known at (t1 ++ e1) = λ y i. k y (inr (in_left y (t1 ++ e1) r1 i)) in
      let p = last_is f t (Then n) None in
      let u = last_is f e (Else n) None in
      let q = stands c loops h l (behind_or (start_of c.around) o) n (shape.If (guard_in f.layout d) (last_point (code_in f t) (Then n)) (last_point (code_in f e) (Else n))) (T X).shape (λ i. shape.If (guard_in f.layout d) (p i) (u i)) in
      let r =
      three (block_nodes earlier loops (Then n) (code_in f t)) (block_nodes earlier loops (Else n) (code_in f e)) (block_nodes earlier loops (Post n) (code_in f ss)) t1 e1 r1
      (nodes_are t loops (inside c n which.Then) None None h (λ m j. l m (omega arith)) (known_left at t1 e1 w))
      (nodes_are e loops (inside c n which.Else) None None h (λ m j. l m (omega arith)) (known_right at t1 e1 w))
      (nodes_are ss loops c (Some n) next h l (λ y i. k y (inr (in_right y (t1 ++ e1) r1 i)))) in
      (λ i. q i ∷ r i)
  nodes_are (Starts (tree.While n d b) ss) loops c o next h l k =
      let X = entry_at f c o (first_or ss next) (tree.While n d b) in
      let b1 = block_entries f (inside_loop c n) None None b in
      let r1 = block_entries f c (Some n) next ss in
      let kb : Known at b1 = λ y i. k y (inr (in_left y b1 r1 i)) in
      let p = last_is f b Body None in
      let u = leaves_are at f b (inside_loop c n) None None kb in
      let q = stands c loops h l (behind_or (start_of c.around) o) n (shape.While (guard_in f.layout d) (last_point (code_in f b) Body) (leaves (code_in f b) Body)) (T X).shape (λ i. shape.While (guard_in f.layout d) (p i) (u i)) in
      let r =
      two (block_nodes earlier (loops ++ n ∷ []) Body (code_in f b)) (block_nodes earlier loops (Post n) (code_in f ss)) b1 r1
      (nodes_are b (loops ++ n ∷ []) (inside_loop c n) None None h (inner c loops n X refl (k X (inl refl)) l) kb)
      (nodes_are ss loops c (Some n) next h l (λ y i. k y (inr (in_right y b1 r1 i)))) in
      (λ i. q i ∷ r i)

-- The last point of a callee's body is told by its last statement.
abbrev code_end : Option Routine → Option Point
code_end None = None
code_end (Some r) = Some (last_point r.code Entry)

ends_from : (es ps : List Procedure) (q : ℕ) → code_end (slice_get (routines_from es ps) q) ≡ end_of (slice_get ps q)
ends_from es [] q = refl
ends_from es (p ∷ ps) zero = ap Some (last_is (resolver_at es p) p.body Entry None)
ends_from es (p ∷ ps) (suc q) = ends_from (es ++ p ∷ []) ps q

callee_is : (ps : List Routine) (q : ℕ) → callee_end ps q ≡ code_end (look ps q)
callee_is [] q = refl
callee_is (r ∷ ps) q = by_test q (length ps) (λ c. body_end (if c then r ∷ ps else from ps q) ≡ code_end (if c then Some r else look ps q)) (λ k. refl) (λ k. callee_is ps q)

pub get_front : {A : Type 0} (xs ys : List A) (q : ℕ) → q < length xs → slice_get (xs ++ ys) q ≡ slice_get xs q
get_front [] ys q h = absurd (omega arith)
get_front (x ∷ xs) ys zero h = refl
get_front (x ∷ xs) ys (suc q) h = get_front xs ys q (omega arith)

in_front : (es ps : List Procedure) (q : ℕ) → end_of (slice_get es q) ≡ end_in (es ++ ps) (length es) q
in_front es ps q = go (nat_lt q (length es)) refl
  where
    go : (b : Bool) → nat_lt q (length es) ≡ b → end_of (slice_get es q) ≡ (if b then end_of (slice_get (es ++ ps) q) else None)
    go true e = ap end_of (sym (get_front es ps q (ltb-true q (length es) e)))
    go false e = ap end_of (slice_get_past es q (ltb-false q (length es) e))

counted : (es ps : List Procedure) → length (reverse (routines_from es ps)) ≡ length ps
counted es ps = length-reverse (routines_from es ps) ∙ as_many es ps

callees_are : (es ps : List Procedure) (q : ℕ) → callee_end (reverse (routines_of es)) q ≡ end_in (es ++ ps) (length (reverse (routines_of es))) q
callees_are es ps q =
    callee_is (reverse (routines_of es)) q
    ∙ ap code_end (look_get (reverse (routines_of es)) q ∙ ap (λ xs. slice_get xs q) (reverse-reverse (routines_of es)))
    ∙ ends_from [] es q
    ∙ in_front es ps q
    ∙ ap (λ n. end_in (es ++ ps) n q) (sym (counted [] es))

-- One more procedure, before those of which the last one stands first.
abbrev all_back : (es ps : List Procedure) → List Routine
all_back es ps = reverse (routines_from es ps) ++ reverse (routines_of es)

one_more : (es ps : List Procedure) (p : Procedure) → all_back es (p ∷ ps) ≡ all_back (es ++ p ∷ []) ps
one_more es ps p =
    let rs = routines_from (es ++ p ∷ []) ps in
    ap (λ xs. xs ++ reverse (routines_of es)) (reverse-append (routine_of es p ∷ []) rs)
    ∙ append_assoc (reverse rs) (routine_of es p ∷ []) (reverse (routines_of es))
    ∙ ap (λ xs. reverse rs ++ xs) (sym (routines_push es p))

nodes_behind : (xs rs : List Routine) (y : Node) → Member y (nodes_of rs) → Member y (nodes_of (xs ++ rs))
nodes_behind [] rs y m = m
nodes_behind (x ∷ xs) rs y m = members.in_right (block_nodes (xs ++ rs) [] Entry x.code) (nodes_behind xs rs y m)

mapped : (g : known.Entry → Node) (e : known.Entry) (xs : List known.Entry) → In e xs → Member (g e) (map g xs)
mapped g e [] h = absurd h
mapped g e (x ∷ xs) (inl q) = subst (λ z. Member (g z) (g x ∷ map g xs)) (sym q) here
mapped g e (x ∷ xs) (inr h) = there (mapped g e xs h)

module _ (P : List Procedure) (at : Table) where
  abbrev N : known.Entry → Node
  N x = node_from at (end_in P x.context.proc) x

  no_loops : (m : ℕ) → loops_up at m None ≡ []
  no_loops zero = refl
  no_loops (suc m) = refl

  -- the nodes of a procedure
  own : (es ps : List Procedure) (p : Procedure) → P ≡ es ++ p ∷ ps → Known at (procedure_entries es p) → block_nodes (reverse (routines_of es)) [] Entry (routine_of es p).code ≡ map N (procedure_entries es p)
  own es ps p s k =
      nodes_are at (end_in P) (resolver_at es p) (reverse (routines_of es)) (λ q. callees_are es (p ∷ ps) q ∙ ap (λ z. end_in z (length (reverse (routines_of es))) q) (sym s)) p.body [] (context_at (length es)) None None (counted [] es) (λ m j. no_loops m) k

  there_all : (es ps : List Procedure) → P ≡ es ++ ps → Known at (entries_from es ps) → (e : known.Entry) → In e (entries_from es ps) → Member (N e) (nodes_of (all_back es ps))
  there_all es [] s k e h = absurd h
  there_all es (p ∷ ps) s k e h =
      go (there_all (es ++ p ∷ []) ps (s ∙ sym (append_assoc es (p ∷ []) ps)) (known_right at (procedure_entries es p) (entries_from (es ++ p ∷ []) ps) k) e) (either e (procedure_entries es p) (entries_from (es ++ p ∷ []) ps) h)
    where
      go : (In e (entries_from (es ++ p ∷ []) ps) → Member (N e) (nodes_of (all_back (es ++ p ∷ []) ps))) → In e (procedure_entries es p) ⊎ In e (entries_from (es ++ p ∷ []) ps) → Member (N e) (nodes_of (all_back es (p ∷ ps)))
      go ih (inl i) =
          let m = subst (Member (N e)) (sym (own es ps p s (known_left at (procedure_entries es p) (entries_from (es ++ p ∷ []) ps) k))) (mapped N e (procedure_entries es p) i) in
          let b = nodes_behind (reverse (routines_from (es ++ p ∷ []) ps)) (routine_of es p ∷ reverse (routines_of es)) (N e) (members.in_left (nodes_of (reverse (routines_of es))) m) in
          subst (λ rs. Member (N e) (nodes_of rs)) (ap (λ xs. reverse (routines_from (es ++ p ∷ []) ps) ++ xs) (sym (routines_push es p)) ∙ sym (one_more es ps p)) b
      go ih (inr i) = subst (λ rs. Member (N e) (nodes_of rs)) (sym (one_more es ps p)) (ih i)

  -- what is not known is no node
  gone_both : (xs ys : List Node) (n : ℕ) → node_of xs n ≡ None → node_of ys n ≡ None → node_of (xs ++ ys) n ≡ None
  gone_both [] ys n h k = k
  gone_both (x ∷ xs) ys n h k = (by_test x.stmt n (λ t. cond t (Some x) (node_of xs n) ≡ None → cond t (Some x) (node_of (xs ++ ys) n) ≡ None) (λ e i. absurd cc) (λ e i. gone_both xs ys n i k)) h

  gone_first : (xs ys : List known.Entry) (n : ℕ) → entry_of (xs ++ ys) n ≡ None → entry_of xs n ≡ None
  gone_first [] ys n h = refl
  gone_first (x ∷ xs) ys n h = (by_test x.number n (λ t. cond t (Some x) (entry_of (xs ++ ys) n) ≡ None → cond t (Some x) (entry_of xs n) ≡ None) (λ e i. absurd cc) (λ e i. gone_first xs ys n i)) h

  gone_second : (xs ys : List known.Entry) (n : ℕ) → entry_of (xs ++ ys) n ≡ None → entry_of ys n ≡ None
  gone_second [] ys n h = h
  gone_second (x ∷ xs) ys n h = (by_test x.number n (λ t. cond t (Some x) (entry_of (xs ++ ys) n) ≡ None → entry_of ys n ≡ None) (λ e i. absurd cc) (λ e i. gone_second xs ys n i)) h

  gone_mapped : (xs : List known.Entry) (n : ℕ) → entry_of xs n ≡ None → node_of (map N xs) n ≡ None
  gone_mapped [] n h = refl
  gone_mapped (x ∷ xs) n h = (by_test x.number n (λ t. cond t (Some x) (entry_of xs n) ≡ None → cond t (Some (N x)) (node_of (map N xs) n) ≡ None) (λ e i. absurd cc) (λ e i. gone_mapped xs n i)) h

  gone_all : (es ps : List Procedure) (n : ℕ) → P ≡ es ++ ps → Known at (entries_from es ps) → entry_of (entries_from es ps) n ≡ None → node_of (nodes_of (reverse (routines_of es))) n ≡ None → node_of (nodes_of (all_back es ps)) n ≡ None
  gone_all es [] n s k h g = g
  gone_all es (p ∷ ps) n s k h g =
      let o = own es ps p s (known_left at (procedure_entries es p) (entries_from (es ++ p ∷ []) ps) k) in
      let a = gone_mapped (procedure_entries es p) n (gone_first (procedure_entries es p) (entries_from (es ++ p ∷ []) ps) n h) in
      let b = gone_both (block_nodes (reverse (routines_of es)) [] Entry (routine_of es p).code) (nodes_of (reverse (routines_of es))) n (ap (λ xs. node_of xs n) o ∙ a) g in
      ap (λ rs. node_of (nodes_of rs) n) (one_more es ps p)
      ∙ gone_all (es ++ p ∷ []) ps n (s ∙ sym (append_assoc es (p ∷ []) ps)) (known_right at (procedure_entries es p) (entries_from (es ++ p ∷ []) ps) k) (gone_second (procedure_entries es p) (entries_from (es ++ p ∷ []) ps) n h) (ap (λ rs. node_of (nodes_of rs) n) (routines_push es p) ∙ b)

found_entry : (xs : List known.Entry) (n : ℕ) (e : known.Entry) → entry_of xs n ≡ Some e → In e xs × (e.number ≡ n)
found_entry [] n e h = absurd cc
found_entry (x ∷ xs) n e h =
    (by_test x.number n (λ t. cond t (Some x) (entry_of xs n) ≡ Some e → In e (x ∷ xs) × (e.number ≡ n))
    (λ k f. let q : x ≡ e = same_Some x e f in (inl (sym q), ap (λ (z : known.Entry). z.number) (sym q) ∙ k))
    (λ k f. let m = found_entry xs n e f in (inr m.0, m.1))) h

all_known : (ps : List Procedure) → AreNumbered ps → Known (known_in ps) (entries_of ps)
all_known ps h = found (entries_of ps) (subst Distinct (sym (all_numbers ps)) h.once)

-- The node of a statement is the one that is told by what is known of it.
pub node_found : (ps : List Procedure) (n : ℕ) (e : known.Entry) → IsChecked (routines_of ps) → AreNumbered ps → entry_of (entries_of ps) n ≡ Some e → node_of (nodes_of (reverse (routines_of ps))) n ≡ Some (node_by ps e)
node_found ps n e c h k =
    let f = found_entry (entries_of ps) n e k in
    let back = reverse (routines_of ps) in
    let m = subst (λ rs. Member (node_by ps e) (nodes_of rs)) (append-nil back) (there_all ps (known_in ps) [] ps refl (all_known ps h) e f.0) in
    ap (node_of (nodes_of back)) (sym f.1) ∙ found_there (nodes_of back) (node_by ps e) (subst Distinct (sym (all_nodes back)) (once_reversed (routines_of ps) c.numbers_once)) m

pub node_gone : (ps : List Procedure) (n : ℕ) → AreNumbered ps → entry_of (entries_of ps) n ≡ None → node_of (nodes_of (reverse (routines_of ps))) n ≡ None
node_gone ps n h k = ap (λ rs. node_of (nodes_of rs) n) (sym (append-nil (reverse (routines_of ps)))) ∙ gone_all ps (known_in ps) [] ps n refl (all_known ps h) k refl

-- Main, the last procedure.
last_layout : (es ps : List Procedure) (k : ℕ) (l : Layout) → k + 1 ≡ length ps → option_map layout_in (slice_get ps k) ≡ Some l → main_layout (all_back es ps) ≡ l
last_layout es [] k l h e = absurd cc
last_layout es (p ∷ []) zero l h e = ap (λ rs. main_layout rs) (one_more es [] p ∙ routines_push es p) ∙ same_Some (layout_in p) l e
last_layout es (p ∷ []) (suc k) l h e = absurd cc
last_layout es (p ∷ q ∷ ps) zero l h e = absurd (omega arith)
last_layout es (p ∷ q ∷ ps) (suc k) l h e = ap main_layout (one_more es (q ∷ ps) p) ∙ last_layout (es ++ p ∷ []) (q ∷ ps) k l (omega arith) e

pub main_there : (ps : List Procedure) (k : ℕ) (l : Layout) → k + 1 ≡ length (routines_of ps) → option_map layout_in (slice_get ps k) ≡ Some l → l ≡ main_layout (reverse (routines_of ps))
main_there ps k l h e = sym (ap main_layout (sym (append-nil (reverse (routines_of ps)))) ∙ last_layout [] ps k l (h ∙ as_many [] ps) e)

pub main_gone : (ps : List Procedure) (k : ℕ) → k + 1 ≡ length (routines_of ps) → option_map layout_in (slice_get ps k) ≡ None → ⊥
main_gone ps k h e = go ps k (h ∙ as_many [] ps) e
  where
    go : (ps : List Procedure) (k : ℕ) → k + 1 ≡ length ps → option_map layout_in (slice_get ps k) ≡ None → ⊥
    go [] k h e = omega arith
    go (p ∷ ps) zero h e = cc
    go (p ∷ ps) (suc k) h e = go ps k (omega arith) e

-- The end of a procedure.
abbrev pub ending : (name : List ℕ) → (place : Option Routine) → Option (List ℕ × Point)
ending x o = if_some o (λ r. if bytes_eq x r.name then Some ([], last_point r.code Entry) else None)

end_at : (es ps : List Procedure) (k : ℕ) (h : ProcHeader) (x : List ℕ) → slice_get (heads_of ps) k ≡ Some h → ending x (slice_get (routines_from es ps) k) ≡ (if bytes_eq x h.bare.name then Some ([], behind_or Entry h.body.last) else None)
end_at es [] k h x e = absurd cc
end_at es (p ∷ ps) zero h x e =
    ap (λ q. if bytes_eq x p.name then Some ([], q) else None) (last_is (resolver_at es p) p.body Entry None)
    ∙ ap (λ (z : ProcHeader). if bytes_eq x z.bare.name then Some ([], behind_or Entry z.body.last) else None) (same_Some (head_of p) h e)
end_at es (p ∷ ps) (suc k) h x e = end_at (es ++ p ∷ []) ps k h x e

pub end_there : (ps : List Procedure) (k : ℕ) (h : ProcHeader) (x : List ℕ) → slice_get (heads_of ps) k ≡ Some h → ending x (slice_get (routines_of ps) k) ≡ (if bytes_eq x h.bare.name then Some ([], behind_or Entry h.body.last) else None)
end_there ps k h x e = end_at [] ps k h x e

pub end_gone : (ps : List Procedure) (k : ℕ) (x : List ℕ) → slice_get (heads_of ps) k ≡ None → ending x (slice_get (routines_of ps) k) ≡ None
end_gone ps k x e = go [] ps k e
  where
    go : (es ps : List Procedure) (k : ℕ) → slice_get (heads_of ps) k ≡ None → ending x (slice_get (routines_from es ps) k) ≡ None
    go es [] k e = refl
    go es (p ∷ ps) zero e = absurd cc
    go es (p ∷ ps) (suc k) e = go (es ++ p ∷ []) ps k e

-- Steps into loops.
into_both : (xs : List ℕ) (n : ℕ) → into_loops (xs ++ n ∷ []) ≡ into_loops xs ++ Take n ∷ []
into_both [] n = refl
into_both (x ∷ xs) n = ap (λ ss. Take x ∷ ss) (into_both xs n)

pub into_more : (at : Table) (most n : ℕ) (ss : List TargetStep) → most ≢ 0 → (ss ++ into_loops (loops_up at (most - 1) (outer_of (at n)))) ++ Take n ∷ [] ≡ ss ++ into_loops (loops_up at most (Some n))
into_more at zero n ss h = absurd (h refl)
into_more at (suc most) n ss h =
    let e : suc most - 1 ≡ most = omega arith in
    ap (λ m. (ss ++ into_loops (loops_up at m (outer_of (at n)))) ++ Take n ∷ []) e
    ∙ append_assoc ss (into_loops (loops_up at most (outer_of (at n)))) (Take n ∷ [])
    ∙ ap (λ xs. ss ++ xs) (sym (into_both (loops_up at most (outer_of (at n))) n))

pub into_none : (at : Table) (most : ℕ) (ss : List TargetStep) → ss ≡ ss ++ into_loops (loops_up at most None)
into_none at zero ss = sym (append-nil ss)
into_none at (suc most) ss = sym (append-nil ss)

pub into_zero : (at : Table) (most : ℕ) (head : Option ℕ) (ss : List TargetStep) → most ≡ 0 → ss ≡ ss ++ into_loops (loops_up at most head)
into_zero at zero head ss h = sym (append-nil ss)
into_zero at (suc most) head ss h = absurd (omega arith)

pub into_nothing : (ss : List TargetStep) → ss ≡ ss ++ into_loops []
into_nothing ss = sym (append-nil ss)
