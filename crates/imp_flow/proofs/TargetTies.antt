-- Targets by nodes are those by the text.
use Rattle.std.proofs.lemmas.List.{length-reverse, reverse-reverse, map-append}
use Rattle.std.proofs.Common.{◌≡◌, ◌≢◌, ℕ, suc, ◌-◌, ◌<◌, List, [], ◌∷◌, ◌++◌, length, map, reverse, Option, Some, None, Bool, true, false, if◌then◌else◌, slice_get, Result, Ok, Err, IfOk, refl, sym, ap, ◌∙◌, subst, arith, append_assoc, append-nil}
use Rattle.std.specs.Option.{option_map}
use Rattle.std.specs.Str.{bytes_eq}
use Rattle.imp_syntax.specs.declared.edit.Location.{Location}
use Rattle.imp_syntax.specs.declared.edit.Location.TheVariants.{Before, After, Head, End}
use Rattle.imp_slots.specs.Plain.{Invoke, Code, Stop, Simple, If, While, Call, Break, Routine}
use Rattle.imp_slots.specs.Fits.{Distinct, IsChecked}
use Rattle.batch_meaning.specs.Places.{find, if_some, from}
use Rattle.cell_names.specs.declared.frame.Point.{Point}
use Rattle.cell_names.specs.declared.frame.Point.TheVariants.{Entry, Post, Fix}
use Rattle.base_values.proofs.Cases.{by_test}
use Rattle.batch_meaning.proofs.Procedures.{look_get, look_from, look_below, from_behind, from_from, from_place, from_self}
use Rattle.base_values.proofs.Members.{Member, in_left, in_right, keys, keys_both, in_map}
use Rattle.batch_meaning.proofs.Places.{found, found_member, find_both, or_else}
use Rattle.cell_rows.specs.Names.{number}
use Rattle.cell_rows.specs.Rows.{last_point}
use Rattle.cell_rows.specs.Flat.{Flat, flat_of, flat}
use Rattle.cell_rows.specs.Targets.{Text, text, texts, takes, to_point, callee_of, is_loop, way_of, way_in, way, target_in, target}
use Rattle.cell_rows.specs.Targets as plain
use Rattle.imp_slots.proofs.Distinct.{right_once}
use Rattle.cell_rows.proofs.FlatOnce.{flat_once}
use Rattle.imp_flow_rows.specs.Shapes.{Node}
use Rattle.imp_flow_rows.specs.Shapes as shape
use Rattle.imp_flow_rows.specs.Shapes.{callee_at, is_while}
use Rattle.imp_flow.specs.declared.steps.TargetStep.{TargetStep}
use Rattle.imp_flow.specs.declared.steps.TargetStep.TheVariants.{Go}
use Rattle.imp_flow.specs.declared.steps.Target.{Target}
use Rattle.imp_flow.specs.declared.ways.Reached.{Reached}
use Rattle.imp_flow.specs.Nodes.{shape_of, node_in, node_of, body_end}
use Rattle.imp_flow.specs.Plans.{Plan}
use Rattle.imp_flow.specs.Reached.{step_of, target_of, into_loops, if_in, reached, node_in_place, way_into, way_along, ending_at, target_from, target_along}
use Rattle.imp_flow.proofs.Ties.{flat_node, nodes_are, Stands, all_stand, find_node}
use Rattle.cell_rows.proofs.Ways.{flat_behind}
use Rattle.std.proofs.lemmas.Option.{same_Some}

takes_are : (ns : List ℕ) → map step_of (into_loops ns) ≡ takes ns
takes_are [] = refl
takes_are (n ∷ ns) = ap (λ k. plain.Take n ∷ k) (takes_are ns)

into_is : (ss : List TargetStep) (ns : List ℕ) → map step_of (ss ++ into_loops ns) ≡ map step_of ss ++ takes ns
into_is ss ns = map-append step_of ss (into_loops ns) ∙ ap (λ k. map step_of ss ++ k) (takes_are ns)

call_is : (ss : List TargetStep) (ns : List ℕ) (n : ℕ) → map step_of ((ss ++ into_loops ns) ++ Go n ∷ []) ≡ map step_of ss ++ (takes ns ++ plain.Go n ∷ [])
call_is ss ns n =
    map-append step_of (ss ++ into_loops ns) (Go n ∷ [])
    ∙ ap (λ k. k ++ plain.Go n ∷ []) (into_is ss ns)
    ∙ append_assoc (map step_of ss) (takes ns) (plain.Go n ∷ [])

abbrev in_table : Routine → List Routine → Text → Flat
in_table r earlier t = record { routine = r; earlier = earlier; text = t }

find_flat : (r : Routine) (earlier : List Routine) (n : ℕ) (xs : List (ℕ × Text)) → find n (map (flat_of r earlier) xs) ≡ option_map (in_table r earlier) (find n xs)
find_flat r earlier n [] = refl
find_flat r earlier n (x ∷ xs) =
    by_test n x.0 (λ c. (if c then Some (in_table r earlier x.1) else find n (map (flat_of r earlier) xs)) ≡ option_map (in_table r earlier) (if c then Some x.1 else find n xs)) (λ e. refl) (λ e. find_flat r earlier n xs)

find_in : (r : Routine) (earlier : List Routine) (n : ℕ) → find n (flat (r ∷ earlier)) ≡ or_else (option_map (in_table r earlier) (find n (texts r.code Entry))) (find n (flat earlier))
find_in r earlier n = find_both n (map (flat_of r earlier) (texts r.code Entry)) (flat earlier) ∙ ap (λ o. or_else o (find n (flat earlier))) (find_flat r earlier n (texts r.code Entry))

-- The node of a statement that stands in a procedure.
abbrev stood : List Routine → Text → Node
stood earlier t = node_in earlier t.loops t.front (number t.code) (shape_of earlier t.code)

abbrev in_place : (place : ℕ) → Option Flat → Option Node
in_place k o = if_some (option_map flat_node o) (if_in k)

is_in : (k : ℕ) (x : Node) → x.place ≡ k → if_in k x ≡ Some x
is_in k x e = by_test x.place k (λ c. (if c then Some x else None) ≡ Some x) (λ i. refl) (λ i. absurd (i e))

is_out : (k : ℕ) (x : Node) → x.place ≢ k → if_in k x ≡ None
is_out k x e = by_test x.place k (λ c. (if c then Some x else None) ≡ None) (λ i. absurd (e i)) (λ i. refl)

-- None of the procedures before stands at the place after them.
none_in_front : (ps : List Routine) (n : ℕ) (o : Option Flat) → find n (flat ps) ≡ o → in_place (length ps) o ≡ None
none_in_front ps n None e = refl
none_in_front ps n (Some u) e =
    let s : Stands ps (n, u) = (all_stand ps).at (n, u) (found_member n u (flat ps) e) in
    let l : length u.earlier < length ps = s.within in
    is_out (length ps) (flat_node u) (λ i. absurd (omega arith))

last_one : (b : Routine) (ps : List Routine) (n : ℕ) → in_place (length ps) (find n (flat (b ∷ ps))) ≡ option_map (stood ps) (find n (texts b.code Entry))
last_one b ps n = ap (in_place (length ps)) (find_in b ps n) ∙ go (find n (texts b.code Entry))
  where
    go : (o : Option Text) → in_place (length ps) (or_else (option_map (in_table b ps) o) (find n (flat ps))) ≡ option_map (stood ps) o
    go None = none_in_front ps n (find n (flat ps)) refl
    go (Some t) = is_in (length ps) (stood ps t) refl

-- A number of the last procedure is none of another's.
once_only : (b : Routine) (ps : List Routine) (k n : ℕ) (r : Routine) (earlier : List Routine) (t : Text) → Distinct (keys (flat (b ∷ ps))) → k ≢ length ps → from ps k ≡ r ∷ earlier → find n (texts b.code Entry) ≡ Some t → (o : Option Text) → find n (texts r.code Entry) ≡ o → o ≡ None
once_only b ps k n r earlier t d h f e None i = refl
once_only b ps k n r earlier t d h f e (Some s) i =
    let first : find n (flat (b ∷ ps)) ≡ Some (in_table b ps t) = find_in b ps n ∙ ap (λ o. or_else (option_map (in_table b ps) o) (find n (flat ps))) e in
    let m : Member (n, in_table r earlier s) (flat (r ∷ earlier)) = in_left (flat earlier) (in_map (flat_of r earlier) (n, s) (texts r.code Entry) (found_member n s (texts r.code Entry) i)) in
    let j : Member (n, in_table r earlier s) (flat ps) = flat_behind ps k (n, in_table r earlier s) (subst (λ rs. Member (n, in_table r earlier s) (flat rs)) (sym f) m) in
    let second : find n (flat (b ∷ ps)) ≡ Some (in_table r earlier s) = found (n, in_table r earlier s) (flat (b ∷ ps)) d (in_right (map (flat_of b ps) (texts b.code Entry)) j) in
    let same : ps ≡ earlier = ap (λ (u : Flat). u.earlier) (same_Some (in_table b ps t) (in_table r earlier s) (sym first ∙ second)) in
    absurd (h (from_place ps k r earlier f ∙ ap length (sym same)))

once_right : (b : Routine) (ps : List Routine) → Distinct (keys (flat (b ∷ ps))) → Distinct (keys (flat ps))
once_right b ps d =
    right_once (keys (map (flat_of b ps) (texts b.code Entry))) (keys (flat ps))
    (subst Distinct (keys_both (map (flat_of b ps) (texts b.code Entry)) (flat ps)) d)

other_one : (b : Routine) (ps : List Routine) (k n : ℕ) (r : Routine) (earlier : List Routine) → Distinct (keys (flat (b ∷ ps))) → k ≢ length ps → from ps k ≡ r ∷ earlier → in_place k (find n (flat ps)) ≡ option_map (stood earlier) (find n (texts r.code Entry)) → in_place k (find n (flat (b ∷ ps))) ≡ option_map (stood earlier) (find n (texts r.code Entry))
other_one b ps k n r earlier d h f ih = ap (in_place k) (find_in b ps n) ∙ go (find n (texts b.code Entry)) refl
  where
    go : (o : Option Text) → find n (texts b.code Entry) ≡ o → in_place k (or_else (option_map (in_table b ps) o) (find n (flat ps))) ≡ option_map (stood earlier) (find n (texts r.code Entry))
    go None e = ih
    go (Some t) e =
        is_out k (stood ps t) (λ i. h (sym i))
        ∙ sym (ap (option_map (stood earlier)) (once_only b ps k n r earlier t d h f e (find n (texts r.code Entry)) refl))

-- a statement of the last of these
abbrev last_stood : ℕ → List Routine → Option Node
last_stood n [] = None
last_stood n (q ∷ qs) = option_map (stood qs) (find n (texts q.code Entry))

found_in : (ps : List Routine) (k n : ℕ) (r : Routine) (earlier : List Routine) → Distinct (keys (flat ps)) → from ps k ≡ r ∷ earlier → in_place k (find n (flat ps)) ≡ option_map (stood earlier) (find n (texts r.code Entry))
found_in [] k n r earlier d f = absurd cc
found_in (b ∷ ps) k n r earlier d f =
    (by_test k (length ps) (λ c. (if c then b ∷ ps else from ps k) ≡ r ∷ earlier → in_place k (find n (flat (b ∷ ps))) ≡ option_map (stood earlier) (find n (texts r.code Entry)))
    (λ e i. ap (λ j. in_place j (find n (flat (b ∷ ps)))) e ∙ last_one b ps n ∙ here_is i)
    (λ e i. other_one b ps k n r earlier d e i (found_in ps k n r earlier (once_right b ps d) i))) f
  where
    here_is : b ∷ ps ≡ r ∷ earlier → option_map (stood ps) (find n (texts b.code Entry)) ≡ option_map (stood earlier) (find n (texts r.code Entry))
    here_is i = ap (last_stood n) i

-- A way that comes to no procedure.
abbrev IsGone : Option plain.Way → Type 0
IsGone None = Unit {0}
IsGone (Some x) = x.procs ≡ []

module _ (plan : Plan) (checked : IsChecked plan.program) where
  abbrev program : List Routine
  program = plan.program

  abbrev back : List Routine
  back = reverse plan.program

  node_is : (k n : ℕ) (r : Routine) (earlier : List Routine) → from back k ≡ r ∷ earlier → node_in_place plan k n ≡ option_map (stood earlier) (find n (texts r.code Entry))
  node_is k n r earlier f =
      ap (λ o. if_some o (if_in k)) (ap (λ xs. node_of xs n) (nodes_are back) ∙ find_node back n (flat back) (all_stand back))
      ∙ found_in back k n r earlier (flat_once plan.program checked) f

  -- The way by nodes is at the place of the procedure that the way comes to.
  record Comes (x : Reached) (o : Option plain.Way) : Type 0 where
    routine : Routine
    earlier : List Routine
    stands : from back x.place ≡ routine ∷ earlier
    is : o ≡ Some (way_of (map step_of x.steps) (routine ∷ earlier))

  abbrev Ends : Option Reached → Option plain.Way → Type 0
  Ends None o = IsGone o
  Ends (Some x) o = Comes x o

  main_there : Comes (reached [] (length plan.program - 1)) (Some (way_of [] back))
  main_there = go back refl
    where
      go : (ps : List Routine) → back ≡ ps → Comes (reached [] (length plan.program - 1)) (Some (way_of [] back))
      go [] e =
          let l : length back ≡ length plan.program = length-reverse plan.program in
          let z : length back ≡ 0 = ap length e in
          let s : 0 < length plan.program = checked.some in
          absurd (omega arith)
      go (r ∷ earlier) e =
          let l : length back ≡ length plan.program = length-reverse plan.program in
          let z : length back ≡ suc (length earlier) = ap length e in
          let k : length plan.program - 1 ≡ length earlier = omega arith in
          record {
            routine = r;
            earlier = earlier;
            stands = ap (λ ps. from ps (length plan.program - 1)) e ∙ ap (from (r ∷ earlier)) k ∙ from_self r earlier;
            is = ap (λ ps. Some (way_of [] ps)) e;
          }

  gone_on : (n : ℕ) (o : Option plain.Way) → IsGone o → IsGone (if_some o (λ x. way_in n x.steps x.procs))
  gone_on n None h = tt
  gone_on n (Some x) h = subst (λ ps. IsGone (way_in n x.steps ps)) (sym h) tt

  -- a callee stands where it stands among those before its caller
  callee_stands : (k q : ℕ) (r c : Routine) (earlier more : List Routine) → from back k ≡ r ∷ earlier → from earlier q ≡ c ∷ more → from back q ≡ c ∷ more
  callee_stands k q r c earlier more f g =
      let l : q < length earlier = look_below earlier q c (look_from earlier q c more g) in
      let a : q < length (from back k) = rw f (omega arith) in
      from_from back k q a ∙ ap (λ ps. from ps q) f ∙ from_behind r earlier q l ∙ g

  abbrev into : (n : ℕ) (ss : List TargetStep) (ls : List ℕ) → ℕ → Option Reached
  into n ss ls q = Some (reached ((ss ++ into_loops ls) ++ Go n ∷ []) q)

  abbrev onto : (n : ℕ) (ss : List TargetStep) (ls : List ℕ) (earlier : List Routine) → ℕ → Option plain.Way
  onto n ss ls earlier q = Some (way_of (map step_of ss ++ (takes ls ++ plain.Go n ∷ [])) (from earlier q))

  callee_ends : (k n q : ℕ) (r : Routine) (earlier : List Routine) (ss : List TargetStep) (ls : List ℕ) (i : Invoke) → from back k ≡ r ∷ earlier →
      (ps : List Routine) → from earlier q ≡ ps → Ends (if_some (callee_at (shape.Call i q (body_end ps))) (into n ss ls)) (onto n ss ls earlier q)
  callee_ends k n q r earlier ss ls i f [] g = g
  callee_ends k n q r earlier ss ls i f (c ∷ more) g = record {
    routine = c;
    earlier = more;
    stands = callee_stands k q r c earlier more f g;
    is = ap (λ ps. Some (way_of (map step_of ss ++ (takes ls ++ plain.Go n ∷ [])) ps)) g ∙ ap (λ xs. Some (way_of xs (c ∷ more))) (sym (call_is ss ls n));
  }

  code_ends : (k n : ℕ) (r : Routine) (earlier : List Routine) (ss : List TargetStep) (ls : List ℕ) → from back k ≡ r ∷ earlier →
      (c : Code) → Ends (if_some (callee_at (shape_of earlier c)) (into n ss ls)) (if_some (callee_of c) (λ q. onto n ss ls earlier q.1))
  code_ends k n r earlier ss ls f Stop = tt
  code_ends k n r earlier ss ls f (Simple m e c) = tt
  code_ends k n r earlier ss ls f (If m g t e c) = tt
  code_ends k n r earlier ss ls f (While m g b c) = tt
  code_ends k n r earlier ss ls f (Call m i q c) = callee_ends k n q r earlier ss ls i f (from earlier q) refl
  code_ends k n r earlier ss ls f (Break m c) = tt

  abbrev way_text : (n : ℕ) (ss : List TargetStep) (earlier : List Routine) → Option Text → Option plain.Way
  way_text n ss earlier o = if_some o (λ t. if_some (callee_of t.code) (λ q. onto n ss t.loops earlier q.1))

  abbrev way_node : (n : ℕ) (ss : List TargetStep) → Option Node → Option Reached
  way_node n ss o = if_some o (λ y. if_some (callee_at y.shape) (into n ss y.loops))

  text_ends : (k n : ℕ) (r : Routine) (earlier : List Routine) (ss : List TargetStep) → from back k ≡ r ∷ earlier →
      (o : Option Text) → Ends (way_node n ss (option_map (stood earlier) o)) (way_text n ss earlier o)
  text_ends k n r earlier ss f None = tt
  text_ends k n r earlier ss f (Some t) = code_ends k n r earlier ss t.loops f t.code

  goes_on : (n : ℕ) (x : Reached) (o : Option plain.Way) → Comes x o → Ends (way_into plan n x) (if_some o (λ y. way_in n y.steps y.procs))
  goes_on n x o h =
      subst (λ (a : Option Reached). Ends a (if_some o (λ y. way_in n y.steps y.procs))) (sym (ap (way_node n x.steps) (node_is x.place n h.routine h.earlier h.stands)))
      (subst (λ (b : Option plain.Way). Ends (way_node n x.steps (option_map (stood h.earlier) (find n (texts h.routine.code Entry)))) b) (sym (ap (λ o. if_some o (λ y. way_in n y.steps y.procs)) h.is))
      (text_ends x.place n h.routine h.earlier x.steps h.stands (find n (texts h.routine.code Entry))))

  ends : (z : List ℕ) → Ends (way_along plan z) (way back z)
  ends [] = main_there
  ends (n ∷ z) = go (way_along plan z) (ends z)
    where
      go : (a : Option Reached) → Ends a (way back z) → Ends (if_some a (way_into plan n)) (way back (n ∷ z))
      go None h = gone_on n (way back z) h
      go (Some x) h = goes_on n x (way back z) h

  -- A location that no procedure has is nowhere.
  gone_at : (l : Location) (ss : List plain.TargetStep) → target_in l ss [] ≡ None
  gone_at (Before n) ss = refl
  gone_at (After n) ss = refl
  gone_at (Head n) ss = refl
  gone_at (End x) ss = refl

  gone_there : (l : Location) (o : Option plain.Way) → IsGone o → if_some o (λ x. target_in l x.steps x.procs) ≡ None
  gone_there l None h = refl
  gone_there l (Some x) h = ap (target_in l x.steps) h ∙ gone_at l x.steps

  -- one in a procedure that is there
  abbrev finish : (ss : List TargetStep) → Option (List ℕ × Point) → Option plain.Target
  finish ss o = option_map target_of (if_some o (λ e. Some (record { steps = ss ++ into_loops e.0; last = e.1 })))

  done : (ss : List TargetStep) (ls : List ℕ) (p : Point) → finish ss (Some (ls, p)) ≡ Some (to_point (map step_of ss ++ takes ls) p)
  done ss ls p = ap (λ xs. Some (to_point xs p)) (into_is ss ls)

  looped : (earlier : List Routine) (c : Code) → is_while (shape_of earlier c) ≡ is_loop c
  looped earlier Stop = refl
  looped earlier (Simple n e r) = refl
  looped earlier (If n g t e r) = refl
  looped earlier (While n g b r) = refl
  looped earlier (Call n i q r) = refl
  looped earlier (Break n r) = refl

  before_is : (ss : List TargetStep) (earlier : List Routine) (o : Option Text) → finish ss (if_some (option_map (stood earlier) o) (λ y. Some (y.loops, y.front))) ≡ if_some o (λ t. Some (to_point (map step_of ss ++ takes t.loops) t.front))
  before_is ss earlier None = refl
  before_is ss earlier (Some t) = done ss t.loops t.front

  after_is : (ss : List TargetStep) (earlier : List Routine) (n : ℕ) (o : Option Text) → finish ss (if_some (option_map (stood earlier) o) (λ y. Some (y.loops, Post n))) ≡ if_some o (λ t. Some (to_point (map step_of ss ++ takes t.loops) (Post n)))
  after_is ss earlier n None = refl
  after_is ss earlier n (Some t) = done ss t.loops (Post n)

  head_is : (ss : List TargetStep) (earlier : List Routine) (n : ℕ) (o : Option Text) → finish ss (if_some (option_map (stood earlier) o) (λ y. if is_while y.shape then Some (y.loops, Fix n) else None)) ≡ if_some o (λ t. if is_loop t.code then Some (to_point (map step_of ss ++ takes t.loops) (Fix n)) else None)
  head_is ss earlier n None = refl
  head_is ss earlier n (Some t) = ap (λ (b : Bool). finish ss (if b then Some (t.loops, Fix n) else None)) (looped earlier t.code) ∙ go (is_loop t.code)
    where
      go : (b : Bool) → finish ss (if b then Some (t.loops, Fix n) else None) ≡ (if b then Some (to_point (map step_of ss ++ takes t.loops) (Fix n)) else None)
      go true = done ss t.loops (Fix n)
      go false = refl

  end_is : (ss : List TargetStep) (p : Point) (b : Bool) → finish ss (if b then Some ([], p) else None) ≡ (if b then Some (to_point (map step_of ss) p) else None)
  end_is ss p true = done ss [] p ∙ ap (λ xs. Some (to_point xs p)) (append-nil (map step_of ss))
  end_is ss p false = refl

  -- the procedure at a place
  routine_at : (k : ℕ) (r : Routine) (earlier : List Routine) → from back k ≡ r ∷ earlier → slice_get plan.program k ≡ Some r
  routine_at k r earlier f = ap (λ ps. slice_get ps k) (sym (reverse-reverse plan.program)) ∙ sym (look_get back k) ∙ look_from back k r earlier f

  in_there : (l : Location) (k : ℕ) (ss : List TargetStep) (r : Routine) (earlier : List Routine) → from back k ≡ r ∷ earlier → finish ss (ending_at plan l k) ≡ target_in l (map step_of ss) (r ∷ earlier)
  in_there (Before n) k ss r earlier f = ap (λ o. finish ss (if_some o (λ y. Some (y.loops, y.front)))) (node_is k n r earlier f) ∙ before_is ss earlier (find n (texts r.code Entry))
  in_there (After n) k ss r earlier f = ap (λ o. finish ss (if_some o (λ y. Some (y.loops, Post n)))) (node_is k n r earlier f) ∙ after_is ss earlier n (find n (texts r.code Entry))
  in_there (Head n) k ss r earlier f = ap (λ o. finish ss (if_some o (λ y. if is_while y.shape then Some (y.loops, Fix n) else None))) (node_is k n r earlier f) ∙ head_is ss earlier n (find n (texts r.code Entry))
  in_there (End x) k ss r earlier f = ap (λ o. finish ss (if_some o (λ q. if bytes_eq x q.name then Some ([], last_point q.code Entry) else None))) (routine_at k r earlier f) ∙ end_is ss (last_point r.code Entry) (bytes_eq x r.name)

  -- The target by nodes is the target.
  target_is : (l : Location) (z : List ℕ) → option_map target_of (target_along plan l z) ≡ target plan.program l z
  target_is l z = go (way_along plan z) (ends z)
    where
      go : (a : Option Reached) → Ends a (way back z) → option_map target_of (if_some a (target_from plan l)) ≡ target plan.program l z
      go None h = sym (gone_there l (way back z) h)
      go (Some x) h = in_there l x.place x.steps h.routine h.earlier h.stands ∙ sym (ap (λ o. if_some o (λ y. target_in l y.steps y.procs)) h.is)

  pub target_gone : (l : Location) (z : List ℕ) → None ≡ way_along plan z → None ≡ target plan.program l z
  target_gone l z e = ap (λ o. option_map target_of (if_some o (target_from plan l))) e ∙ target_is l z

  pub target_there : {E : Type 0} (l : Location) (z : List ℕ) (x : Reached) (y : Result (Option Target) E) → Some x ≡ way_along plan z → IfOk y (λ o. o ≡ target_from plan l x) → IfOk y (λ o. option_map target_of o ≡ target plan.program l z)
  target_there l z x (Err e) h g = tt
  target_there l z x (Ok o) h g = ap (option_map target_of) (g ∙ ap (λ a. if_some a (target_from plan l)) h) ∙ target_is l z
