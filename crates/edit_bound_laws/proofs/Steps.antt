-- The inputs of a cell are at its own point, or at one from which control comes straight to it.
use Rattle.std.proofs.Common.{◌≡◌, ℕ, zero, suc, List, [], ◌∷◌, length, Option, Some, None, Bool, true, false, if◌then◌else◌, refl, sym, ap, ◌∙◌, subst, ◌⊎◌, inl, inr, nat_lt, slice_get, option_map}
use Rattle.std.proofs.lemmas.Option.{slice_get-map}
use Rattle.imp_slots.specs.Plain.{Guard, Returning, Code, Stop, Simple, If, While, Call, Break, Routine}
use Rattle.imp_slots.specs.Fits.{Distinct}
use Rattle.base_values.proofs.Members.{keys}
use Rattle.batch_meaning.specs.Batch.{LoopOptions}
use Rattle.batch_meaning.specs.Places.{if_some, find, from}
use Rattle.cell_names.specs.declared.frame.NameFrame.{NameFrame}
use Rattle.cell_names.specs.declared.frame.NameFrame.TheVariants.{InCall, InLoop}
use Rattle.cell_names.specs.declared.frame.Point.{Point}
use Rattle.cell_names.specs.declared.frame.Point.TheVariants.{Entry, Then, Else, Body, Post, Iterate, Fix, Exit, Leap}
use Rattle.cell_names.specs.Paths.{CellName, sites_of}
use Rattle.cell_rows.specs.Names.{name, Mark, PathBlock, bare, mark_of, mark_at, follow, statement, AllFine, iterate_point, place_of, in_call, in_loop, level_of, branch_mark, post_mark, next_mark, fix_mark, when}
use Rattle.cell_rows.specs.Rows as R
use Rattle.cell_rows.specs.Rows.{Row, One, Two, Fixed, Joins, last_point}
use Rattle.cell_rows.specs.Flat.{flat, flat_row}
use Rattle.cell_rows.proofs.Levels.{keys_own}
use Rattle.cell_rows.proofs.Lookup.{then_some, unstated, fine}
use Rattle.cell_kept_set.proofs.Blocks.{IsHome, block, listed, flat_at}
use Rattle.edit_bound_laws.specs.Flow.{FlowPoint, Called, InThen, InElse, Head, Behind, statement_of, in_block, start_of, is_called, Node, node, node_of, Equation, Begins, Enters, Chooses, Rounds, Acts, Meets, Leaves, Returns, first_end, behind_equation, equation, before, callers, chain_before, IsStart, StartsBlockOf, Flows, on, out}
use Rattle.edit_bound_laws.proofs.Named.{Named, NamedIf}
use Rattle.edit_bound_laws.proofs.Rows.{joined, enter_by, turn_by, branch_by, next_by, fix_by, joins_by, loop_by, post_by, exit_by, leap_by, row_by, row_is}

-- not the start of a block
abbrev IsInner : Point → Type 0
IsInner p = (a b : FlowPoint) → in_block a p ≡ in_block b p

last_inner : (c : Code) (p : Point) → IsInner p → IsInner (last_point c p)
last_inner Stop p h = h
last_inner (Simple n effect r) p h = last_inner r (Post n) (λ a b. refl)
last_inner (If n guard t e r) p h = last_inner r (Post n) (λ a b. refl)
last_inner (While n guard b r) p h = last_inner r (Post n) (λ a b. refl)
last_inner (Call n call q r) p h = last_inner r (Post n) (λ a b. refl)
last_inner (Break n r) p h = last_inner r (Post n) (λ a b. refl)

module _ (engine : LoopOptions) (ps : List Routine) where
  -- the same point, or an edge
  abbrev pub Step : Node → Node → Type 0
  Step a b = (a ≡ b) ⊎ Flows engine ps a b

  abbrev To : Node → CellName → Type 0
  To b x = Step (node_of x) b

  abbrev Leads : Node → Option Row → Type 0
  Leads b = NamedIf engine (To b)

  -- from the point before the statement
  straight : (w : List NameFrame) (b : Node) (e : Equation) (p : Point) → equation engine ps b.point ≡ Some e → before e ≡ Some p → chain_before b ≡ sites_of w → StartsBlockOf ps (sites_of w) (statement_of b.point) (start_of w) → To b (name w p)
  straight w b e p q r i s = subst (λ z. Step (node z (in_block (start_of w) p)) b) i (inr (on b (start_of w) e p q r (subst (λ z. StartsBlockOf ps z (statement_of b.point) (start_of w)) (sym i) s)))

  when_leads : (b : Node) (t : Bool) (r : Row) → Named engine (To b) r → Leads b (when engine bare t r)
  when_leads b true r h = h
  when_leads b false r h = tt

  -- the iterates of a loop
  iterate_leads : (w : List NameFrame) (n : ℕ) (p : Point) → To (node (sites_of w) (Head n)) (name w p) → (k : ℕ) → To (node (sites_of w) (Head n)) (name w (iterate_point engine bare n p k))
  iterate_leads w n p s zero = s
  iterate_leads w n p s (suc k) = inl refl

  enter_leads : (w : List NameFrame) (n : ℕ) (e : Equation) → equation engine ps (Called n) ≡ Some e → StartsBlockOf ps (sites_of w) n (start_of w) → Leads (node (n ∷ sites_of w) (Called n)) (enter_by engine w e)
  enter_leads w n (Begins layout) q s = tt
  enter_leads w n (Enters p entering) q s = straight w (node (n ∷ sites_of w) (Called n)) (Enters p entering) p q refl refl s
  enter_leads w n (Chooses p guard) q s = tt
  enter_leads w n (Rounds p guard last ts) q s = tt
  enter_leads w n (Acts p act) q s = tt
  enter_leads w n (Meets p l) q s = tt
  enter_leads w n (Leaves guard points numbers) q s = tt
  enter_leads w n (Returns p returning last) q s = tt

  branch_leads : (w : List NameFrame) (h : Bool) (b : FlowPoint) → is_called b ≡ false → (e : Equation) → equation engine ps b ≡ Some e → StartsBlockOf ps (sites_of w) (statement_of b) (start_of w) → Leads (node (sites_of w) b) (branch_by engine w h e)
  branch_leads w h b i (Begins layout) q s = tt
  branch_leads w h b i (Enters p entering) q s = tt
  branch_leads w h b i (Chooses p guard) q s = straight w (node (sites_of w) b) (Chooses p guard) p q refl (ap (λ c. if c then callers (sites_of w) else sites_of w) i) s
  branch_leads w h b i (Rounds p guard last ts) q s = tt
  branch_leads w h b i (Acts p act) q s = tt
  branch_leads w h b i (Meets p l) q s = tt
  branch_leads w h b i (Leaves guard points numbers) q s = tt
  branch_leads w h b i (Returns p returning last) q s = tt

  turn_leads : (w : List NameFrame) (n k : ℕ) (e : Equation) → equation engine ps (Head n) ≡ Some e → StartsBlockOf ps (sites_of w) n (start_of w) → Leads (node (sites_of w) (Head n)) (turn_by engine w n k e)
  turn_leads w n k (Begins layout) q s = tt
  turn_leads w n k (Enters p entering) q s = tt
  turn_leads w n k (Chooses p guard) q s = tt
  turn_leads w n k (Rounds p guard last ts) q s =
      when_leads (node (sites_of w) (Head n)) (nat_lt k engine.budget) (One (R.Assumes guard true) (name w (iterate_point engine bare n p k)))
      (iterate_leads w n p (straight w (node (sites_of w) (Head n)) (Rounds p guard last ts) p q refl refl s) k)
  turn_leads w n k (Acts p act) q s = tt
  turn_leads w n k (Meets p l) q s = tt
  turn_leads w n k (Leaves guard points numbers) q s = tt
  turn_leads w n k (Returns p returning last) q s = tt

  next_leads : (w : List NameFrame) (n k : ℕ) (e : Equation) → equation engine ps (Head n) ≡ Some e → StartsBlockOf ps (sites_of w) n (start_of w) → Leads (node (sites_of w) (Head n)) (next_by engine w n k e)
  next_leads w n k (Begins layout) q s = tt
  next_leads w n k (Enters p entering) q s = tt
  next_leads w n k (Chooses p guard) q s = tt
  next_leads w n k (Rounds p guard last ts) q s =
      when_leads (node (sites_of w) (Head n)) (nat_lt k engine.budget) (Two (R.next_operation engine ts k) (name w (iterate_point engine bare n p k)) (name (InLoop n k ∷ w) last))
      (iterate_leads w n p (straight w (node (sites_of w) (Head n)) (Rounds p guard last ts) p q refl refl s) k, inr (out (node (sites_of w) (in_block (Head n) last)) (node (sites_of w) (Head n)) (Rounds p guard last ts) 0 q refl))
  next_leads w n k (Acts p act) q s = tt
  next_leads w n k (Meets p l) q s = tt
  next_leads w n k (Leaves guard points numbers) q s = tt
  next_leads w n k (Returns p returning last) q s = tt

  fix_leads : (w : List NameFrame) (n : ℕ) (e : Equation) → equation engine ps (Head n) ≡ Some e → StartsBlockOf ps (sites_of w) n (start_of w) → Leads (node (sites_of w) (Head n)) (fix_by engine w n e)
  fix_leads w n (Begins layout) q s = tt
  fix_leads w n (Enters p entering) q s = tt
  fix_leads w n (Chooses p guard) q s = tt
  fix_leads w n (Rounds p guard last ts) q s = iterate_leads w n p (straight w (node (sites_of w) (Head n)) (Rounds p guard last ts) p q refl refl s)
  fix_leads w n (Acts p act) q s = tt
  fix_leads w n (Meets p l) q s = tt
  fix_leads w n (Leaves guard points numbers) q s = tt
  fix_leads w n (Returns p returning last) q s = tt

  module _ (w : List NameFrame) (n : ℕ) (guard : Guard) (points : List Point) (numbers : List ℕ) (q : equation engine ps (Behind n) ≡ Some (Leaves guard points numbers)) where
    abbrev B : Node
    B = node (sites_of w) (Behind n)

    from_head : To B (name w (Fix n))
    from_head = inr (out (node (sites_of w) (Head n)) B (Leaves guard points numbers) 0 q refl)

    from_break : (i k : ℕ) (p : Point) → slice_get points i ≡ Some p → To B (name (InLoop n k ∷ w) p)
    from_break i k p e = inr (out (node (sites_of w) (in_block (Head n) p)) B (Leaves guard points numbers) (suc i) q (slice_get-map (λ a. node (sites_of w) (in_block (Head n) a)) points i ∙ ap (option_map (λ a. node (sites_of w) (in_block (Head n) a))) e))

    joined_leads : (i : ℕ) → To B (name w (joined n numbers i))
    joined_leads zero = inl refl
    joined_leads (suc i) = inl refl

    joins_leads : (stays : Bool) (i : ℕ) → Leads B (joins_by engine w stays n points numbers i)
    joins_leads stays i = go (slice_get points i) refl
      where
        go : (o : Option Point) → slice_get points i ≡ o → Leads B (if_some o (λ p. Some (Joins stays (name w (joined n numbers i)) n w p)))
        go None e = tt
        go (Some p) e = (joined_leads i, λ k. from_break i k p e)

    loop_leads : (i : ℕ) → Leads B (loop_by engine w n guard points numbers i)
    loop_leads zero = from_head
    loop_leads (suc i) = joins_leads false i

    then_leads : (i : ℕ) (t : Bool) → Leads B (if t then joins_by engine w true n points numbers i else None)
    then_leads i true = joins_leads true i
    then_leads i false = tt

    leap_joins : (o : Option ℕ) → Leads B (if_some o (λ i. if nat_lt (suc i) (length points) then joins_by engine w true n points numbers i else None))
    leap_joins None = tt
    leap_joins (Some i) = then_leads i (nat_lt (suc i) (length points))

  -- Branches end inside them.
  meets_inner : (n : ℕ) (p l : Point) → equation engine ps (Behind n) ≡ Some (Meets p l) → IsInner p × IsInner l
  meets_inner n p l q =
      let u = then_some (find n (flat ps)) (λ u. behind_equation u.earlier u.text.front u.text.code) (Meets p l) q in
      go u.0.earlier u.0.text.front u.0.text.code u.2
    where
      called : (o : Option Point) (returning : Option Returning) (f : Point) → if_some o (λ e. Some (Returns f returning e)) ≡ Some (Meets p l) → ⊥
      called None returning f e = absurd cc
      called (Some x) returning f e = absurd cc

      go : (earlier : List Routine) (f : Point) (c : Code) → behind_equation earlier f c ≡ Some (Meets p l) → IsInner p × IsInner l
      go earlier f Stop e = absurd cc
      go earlier f (Simple m effect r) e = absurd cc
      go earlier f (If m guard t x r) e =
          let i : last_point t (Then m) ≡ p = cc in
          let j : last_point x (Else m) ≡ l = cc in
          (subst IsInner i (last_inner t (Then m) (λ a b. refl)), subst IsInner j (last_inner x (Else m) (λ a b. refl)))
      go earlier f (While m guard t r) e = absurd cc
      go earlier f (Call m call k r) e = absurd (called (first_end (from earlier k)) call.returning f e)
      go earlier f (Break m r) e = absurd cc

  post_leads : (w : List NameFrame) (n : ℕ) (e : Equation) → equation engine ps (Behind n) ≡ Some e → StartsBlockOf ps (sites_of w) n (start_of w) → Leads (node (sites_of w) (Behind n)) (post_by engine w n e)
  post_leads w n (Begins layout) q s = tt
  post_leads w n (Enters p entering) q s = tt
  post_leads w n (Chooses p guard) q s = tt
  post_leads w n (Rounds p guard last ts) q s = tt
  post_leads w n (Acts p act) q s = straight w (node (sites_of w) (Behind n)) (Acts p act) p q refl refl s
  post_leads w n (Meets p l) q s =
      let i = meets_inner n p l q in (
        subst (λ a. Step (node (sites_of w) a) (node (sites_of w) (Behind n))) (i.0 (Behind n) (start_of w)) (inr (out (node (sites_of w) (in_block (Behind n) p)) (node (sites_of w) (Behind n)) (Meets p l) 0 q refl)),
        subst (λ a. Step (node (sites_of w) a) (node (sites_of w) (Behind n))) (i.1 (Behind n) (start_of w)) (inr (out (node (sites_of w) (in_block (Behind n) l)) (node (sites_of w) (Behind n)) (Meets p l) 1 q refl)),
      )
  post_leads w n (Leaves guard points numbers) q s = loop_leads w n guard points numbers q (length points)
  post_leads w n (Returns p returning last) q s = (straight w (node (sites_of w) (Behind n)) (Returns p returning last) p q refl refl s, inr (out (node (n ∷ sites_of w) (in_block (Called n) last)) (node (sites_of w) (Behind n)) (Returns p returning last) 0 q refl))

  exit_leads : (w : List NameFrame) (n : ℕ) (e : Equation) → equation engine ps (Behind n) ≡ Some e → Leads (node (sites_of w) (Behind n)) (exit_by engine w n e)
  exit_leads w n (Begins layout) q = tt
  exit_leads w n (Enters p entering) q = tt
  exit_leads w n (Chooses p guard) q = tt
  exit_leads w n (Rounds p guard last ts) q = tt
  exit_leads w n (Acts p act) q = tt
  exit_leads w n (Meets p l) q = tt
  exit_leads w n (Leaves guard points numbers) q = when_leads (node (sites_of w) (Behind n)) (nat_lt 0 (length points)) (One (R.Exits guard) (name w (Fix n))) (from_head w n guard points numbers q)
  exit_leads w n (Returns p returning last) q = tt

  leap_leads : (w : List NameFrame) (n k : ℕ) (e : Equation) → equation engine ps (Behind n) ≡ Some e → Leads (node (sites_of w) (Behind n)) (leap_by engine w n k e)
  leap_leads w n k (Begins layout) q = tt
  leap_leads w n k (Enters p entering) q = tt
  leap_leads w n k (Chooses p guard) q = tt
  leap_leads w n k (Rounds p guard last ts) q = tt
  leap_leads w n k (Acts p act) q = tt
  leap_leads w n k (Meets p l) q = tt
  leap_leads w n k (Leaves guard points numbers) q = leap_joins w n guard points numbers q (place_of k numbers)
  leap_leads w n k (Returns p returning last) q = tt

  -- whose blocks start there
  module _ (once : Distinct (keys (flat ps))) (all : AllFine ps) where
    is_start : (w : List NameFrame) (m : List ℕ) (ls : List ℕ) → IsHome ps w m ls → IsStart ps (sites_of w) m ls (start_of w)
    is_start [] m ls h = (refl, h.0, h.1)
    is_start (InCall n ∷ w) m ls h = (h.0, h.1, h.2, h.3, refl)
    is_start (InLoop n k ∷ w) m ls h = h

    level_once : (w : List NameFrame) (b : PathBlock engine bare) → follow engine bare ps w ≡ Some b → Distinct (keys (level_of engine bare b))
    level_once w b e = subst Distinct (sym (keys_own engine bare b.scope b.sites b.code b.first)) (fine engine bare ps all w b e).block.once

    stands : {A : Type 0} (w : List NameFrame) (n : ℕ) (g : PathBlock engine bare → Mark (Unit {0}) → Code → Option A) (r : A) → statement engine bare (follow engine bare ps w) n g ≡ Some r → StartsBlockOf ps (sites_of w) n (start_of w)
    stands w n g r e =
        let u = unstated engine bare (follow engine bare ps w) n g r e in
        let b = block engine ps once level_once w u.place u.leads in
        let l = listed engine ps once w u.place b u.before u.code u.stands in
        (flat_at engine ps once b u.before u.code, ap (λ (n : ℕ). find n (flat ps)) u.numbered ∙ l, is_start w b.routine.name b.loops b.home)

    -- All names that the row of a name may ask for are at its point, or control comes straight from there.
    row_leads : (w : List NameFrame) (p : Point) (m : Mark (Unit {0})) (e : Equation) → mark_of engine bare ps (name w p) ≡ Some m → equation engine ps (in_block (start_of w) p) ≡ Some e → Leads (node_of (name w p)) (row_by engine w p e)
    row_leads [] Entry m (Begins layout) h q = tt
    row_leads [] Entry m (Enters p entering) h q = tt
    row_leads [] Entry m (Chooses p guard) h q = tt
    row_leads [] Entry m (Rounds p guard last ts) h q = tt
    row_leads [] Entry m (Acts p act) h q = tt
    row_leads [] Entry m (Meets p l) h q = tt
    row_leads [] Entry m (Leaves guard points numbers) h q = tt
    row_leads [] Entry m (Returns p returning last) h q = tt
    row_leads (InCall n ∷ w) Entry m e h q =
        let f = then_some (follow engine bare ps (InCall n ∷ w)) (λ b. mark_at engine bare b Entry) m h in
        enter_leads w n e q (stands w n (λ b. in_call engine bare b n) f.0 f.1)
    row_leads (InLoop n k ∷ w) Entry m e h q = tt
    row_leads [] Body m e h q = tt
    row_leads (InCall n ∷ w) Body m e h q = tt
    row_leads (InLoop n k ∷ w) Body m e h q =
        let f = then_some (follow engine bare ps (InLoop n k ∷ w)) (λ b. mark_at engine bare b Body) m h in
        turn_leads w n k e q (stands w n (λ b. in_loop engine bare b n k) f.0 f.1)
    row_leads w (Then n) m e h q = branch_leads w true (InThen n) refl e q (stands w n (branch_mark engine bare true) m h)
    row_leads w (Else n) m e h q = branch_leads w false (InElse n) refl e q (stands w n (branch_mark engine bare false) m h)
    row_leads w (Post n) m e h q = post_leads w n e q (stands w n (post_mark engine bare) m h)
    row_leads w (Iterate n zero) m e h q = tt
    row_leads w (Iterate n (suc k)) m e h q = next_leads w n k e q (stands w n (next_mark engine bare k) m h)
    row_leads w (Fix n) m e h q = fix_leads w n e q (stands w n (fix_mark engine bare) m h)
    row_leads w (Exit n) m e h q = exit_leads w n e q
    row_leads w (Leap n k) m e h q = leap_leads w n k e q

    pub flat_leads : (x : CellName) (m : Mark (Unit {0})) (r : Row) → mark_of engine bare ps x ≡ Some m → flat_row engine ps x.path x.point ≡ Some r → Named engine (To (node_of x)) r
    flat_leads x m r h e =
        let q = then_some (equation engine ps (node_of x).point) (row_by engine x.path x.point) r (sym (row_is engine ps x.path x.point) ∙ e) in
        subst (Leads (node_of x)) q.2 (row_leads x.path x.point m q.0 h q.1)
