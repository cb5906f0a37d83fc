-- The row of an iterate by its statement's node, and the first inputs of rows.
use Rattle.std.proofs.Common.{◌≡◌, ◌≢◌, ◌⊎◌, inl, inr, ℕ, zero, suc, ◌-◌, Bool, true, false, nat_lt, List, [], ◌∷◌, length, reverse, Option, Some, None, refl, sym, ap, subst, ◌∙◌, arith}
use Rattle.imp_slots.specs.Plain.{Guard}
use Rattle.batch_meaning.specs.Places.{if_some, main_layout}
use Rattle.std.specs.Prelude.{IfSome}
use Rattle.std.specs.Option.{option_map}
use Rattle.cell_names.specs.declared.frame.NameFrame.{NameFrame}
use Rattle.cell_names.specs.declared.frame.NameFrame.TheVariants.{InCall, InLoop}
use Rattle.cell_names.specs.declared.frame.Point.{Point}
use Rattle.cell_names.specs.declared.frame.Point.TheVariants.{Entry, Then, Else, Body, Post, Iterate, Fix, Exit, Leap}
use Rattle.cell_rows.specs.Names.{name}
use Rattle.cell_rows.specs.Flat.{flat_row}
use Rattle.cell_rows.specs.Rows.{Row, Init, One, Fixed, Exits, sites_of}
use Rattle.imp_flow_rows.specs.Shapes.{Node, Shape}
use Rattle.imp_flow_rows.specs.Shapes as shape
use Rattle.imp_flow.specs.Nodes.{node_of}
use Rattle.imp_flow_rows.specs.Inputs.{first_of, BeginsWith}
use Rattle.imp_flow_rows.specs.NodeRows.{Looping, looping, where_so, before_post, before_iterate, enter_at, branch_by, branch_at, turn_at, next_at, post_at, fix_at, exit_at}
use Rattle.imp_flow_rows.proofs.RowLemmas.{begins_post, begins_next}
use Rattle.imp_flow_rows.specs.declared.row.Row as declared
use Rattle.imp_flow_rows.specs.Near.{last_frame, row_in}
use Rattle.imp_flow.specs.Plans.{Plan, thresholds_at, plan_nodes, by_node, next_of, node_row, front_of, point_before}
use Rattle.imp_flow.proofs.Ties.{rows_tie}
use Rattle.imp_flow.proofs.ChangedStays.{found_node}
use Rattle.std.proofs.lemmas.Option.{same_Some}

pub iterate_found : (plan : Plan) (w : List NameFrame) (n k : ℕ) (x : Node) → k ≢ 0 → node_of (plan_nodes plan) n ≡ Some x → next_at w plan.engine (thresholds_at plan x.place) (k - 1) x ≡ node_row plan w (Iterate n k)
iterate_found plan w n zero x h e = absurd (h refl)
iterate_found plan w n (suc k) x h e =
    let p : suc k - 1 ≡ k = omega arith in
    rw p (sym (ap (λ o. if_some o (next_of plan w k)) e))

abbrev nowhere : Option Row
nowhere = None

pub iterate_gone : (plan : Plan) (w : List NameFrame) (n k : ℕ) → node_of (plan_nodes plan) n ≡ None → nowhere ≡ node_row plan w (Iterate n k)
iterate_gone plan w n zero e = refl
iterate_gone plan w n (suc k) e = sym (ap (λ o. if_some o (next_of plan w k)) e)

-- The start of a body, by the last frame of its path.
pub entry_found : (plan : Plan) (w : List NameFrame) (f : NameFrame) (n : ℕ) (x : Node) → f ≡ InCall n → node_of (plan_nodes plan) n ≡ Some x → enter_at w x ≡ node_row plan (f ∷ w) Entry
entry_found plan w f n x h e = subst (λ (g : NameFrame). enter_at w x ≡ node_row plan (g ∷ w) Entry) (sym h) (sym (ap (λ o. if_some o (enter_at w)) e))

pub body_found : (plan : Plan) (w : List NameFrame) (f : NameFrame) (n k : ℕ) (x : Node) → f ≡ InLoop n k → node_of (plan_nodes plan) n ≡ Some x → turn_at w plan.engine k x ≡ node_row plan (f ∷ w) Body
body_found plan w f n k x h e = subst (λ (g : NameFrame). turn_at w plan.engine k x ≡ node_row plan (g ∷ w) Body) (sym h) (sym (ap (λ o. if_some o (turn_at w plan.engine k)) e))

pub first_none : (plan : Plan) (w : List NameFrame) (r : Option declared.Row) → last_frame w ≡ None → ((w : List NameFrame) → option_map (row_in w) r ≡ Some (Init (main_layout (reverse plan.program)))) → option_map (row_in w) r ≡ node_row plan w Entry
first_none plan [] r e h = h []
first_none plan (f ∷ w) r e h = absurd cc

pub first_some : (plan : Plan) (w : List NameFrame) (p : Point) (f : NameFrame) (r : Option declared.Row) → last_frame w ≡ Some f → ((w : List NameFrame) → option_map (row_in (f ∷ w)) r ≡ node_row plan (f ∷ w) p) → option_map (row_in w) r ≡ node_row plan w p
first_some plan [] p f r e h = absurd cc
first_some plan (g ∷ w) p f r e h = subst (λ (k : NameFrame). option_map (row_in (k ∷ w)) r ≡ node_row plan (k ∷ w) p) (sym (same_Some g f e)) (h w)

-- The point before an iterate by its statement's node.
pub before_found : (plan : Plan) (n k : ℕ) (x : Node) → k ≢ 0 → node_of (plan_nodes plan) n ≡ Some x → Some (before_iterate (k - 1) x) ≡ point_before plan (Iterate n k)
before_found plan n zero x h e = absurd (h refl)
before_found plan n (suc k) x h e =
    let p : suc k - 1 ≡ k = omega arith in
    rw p (sym (ap (option_map (before_iterate k)) e))

abbrev no_point : Option Point
no_point = None

pub before_gone : (plan : Plan) (n k : ℕ) → node_of (plan_nodes plan) n ≡ None → no_point ≡ point_before plan (Iterate n k)
before_gone plan n zero e = refl
before_gone plan n (suc k) e = sym (ap (option_map (before_iterate k)) e)

module _ (plan : Plan) (w : List NameFrame) where
  -- Of a statement that the program has, where its node tells the first input of its row.
  by_its_node : (n : ℕ) (f : Node → Option Row) (g : Node → Point) (p : Point) → option_map g (node_of (plan_nodes plan) n) ≡ Some p → ((x : Node) → BeginsWith (f x) (name w (g x))) → BeginsWith (by_node plan n f) (name w p)
  by_its_node n f g p e h = go (node_of (plan_nodes plan) n) e
    where
      go : (o : Option Node) → option_map g o ≡ Some p → BeginsWith (if_some o f) (name w p)
      go None e r k = absurd cc
      go (Some x) e r k = h x r k ∙ ap (λ q. Some (name w q)) (same_Some (g x) p e)

  begins_branch : (b : Bool) (x : Node) → BeginsWith (branch_at w b x) (name w x.front)
  begins_branch b x = by x.shape
    where
      by : (s : Shape) → BeginsWith (branch_by w b x.front s) (name w x.front)
      by (shape.Act s) r e = absurd cc
      by (shape.If g t f) r e = ap first_of (sym (same_Some _ r e))
      by (shape.While g end ls) r e = absurd cc
      by (shape.Call i q end) r e = absurd cc

  begins_fix : (x : Node) → BeginsWith (fix_at w x) (name w x.front)
  begins_fix x = by (looping x.shape)
    where
      by : (o : Option Looping) → BeginsWith (if_some o (λ l. Some (Fixed x.stmt (sites_of w) w x.front))) (name w x.front)
      by None r e = absurd cc
      by (Some l) r e = ap first_of (sym (same_Some _ r e))

  begins_exit : (n : ℕ) → BeginsWith (by_node plan n (exit_at w)) (name w (Fix n))
  begins_exit n = found (node_of (plan_nodes plan) n) refl
    where
      when : (x : Node) → x.stmt ≡ n → (b : Bool) (g : Guard) → BeginsWith (where_so b (One (Exits g) (name w (Fix x.stmt)))) (name w (Fix n))
      when x s true g r e = ap first_of (sym (same_Some _ r e)) ∙ ap (λ k. Some (name w (Fix k))) s
      when x s false g r e = absurd cc

      by : (x : Node) → x.stmt ≡ n → (o : Option Looping) → BeginsWith (if_some o (λ l. where_so (nat_lt 0 (length l.leaves)) (One (Exits l.guard) (name w (Fix x.stmt))))) (name w (Fix n))
      by x s None r e = absurd cc
      by x s (Some l) r e = when x s (nat_lt 0 (length l.leaves)) l.guard r e

      found : (o : Option Node) → node_of (plan_nodes plan) n ≡ o → BeginsWith (if_some o (exit_at w)) (name w (Fix n))
      found None k r e = absurd cc
      found (Some x) k r e = by x (found_node (plan_nodes plan) n x k).1 (looping x.shape) r e

  begins_iterate : (n k : ℕ) (p : Point) → point_before plan (Iterate n k) ≡ Some p → BeginsWith (node_row plan w (Iterate n k)) (name w p)
  begins_iterate n zero p e r k = absurd cc
  begins_iterate n (suc k) p e r f = by_its_node n (next_of plan w k) (before_iterate k) p e (λ x. begins_next w plan.engine (thresholds_at plan x.place) k x) r f

  begins_at : (p q : Point) → point_before plan p ≡ Some q → BeginsWith (node_row plan w p) (name w q)
  begins_at Entry q e r f = absurd cc
  begins_at Body q e r f = absurd cc
  begins_at (Then n) q e r f = by_its_node n (branch_at w true) (λ (x : Node). x.front) q e (begins_branch true) r f
  begins_at (Else n) q e r f = by_its_node n (branch_at w false) (λ (x : Node). x.front) q e (begins_branch false) r f
  begins_at (Post n) q e r f = by_its_node n (post_at w) before_post q e (begins_post w) r f
  begins_at (Iterate n k) q e r f = begins_iterate n k q e r f
  begins_at (Fix n) q e r f = by_its_node n (fix_at w) (λ (x : Node). x.front) q e begins_fix r f
  begins_at (Exit n) q e r f = begins_exit n r f ∙ ap (λ z. Some (name w z)) (same_Some (Fix n) q e)
  begins_at (Leap n k) q e r f = absurd cc

-- The point before the start of a block of an if, and before where the iterates of a loop stop.
pub front_told : (plan : Plan) (p : Point) (n : ℕ) → (p ≡ Then n) ⊎ ((p ≡ Else n) ⊎ (p ≡ Fix n)) → front_of plan n ≡ point_before plan p
front_told plan p n (inl e) = ap (point_before plan) (sym e)
front_told plan p n (inr (inl e)) = ap (point_before plan) (sym e)
front_told plan p n (inr (inr e)) = ap (point_before plan) (sym e)

-- The first input of a name's row has the name's path and the point before the name's.
pub begins_before : (plan : Plan) (p : Point) (o : Option Point) → o ≡ point_before plan p → IfSome o (λ q. (w : List NameFrame) → BeginsWith (flat_row plan.engine (reverse plan.program) w p) (name w q))
begins_before plan p None e = tt
begins_before plan p (Some q) e = λ w. subst (λ r. BeginsWith r (name w q)) (rows_tie plan w p) (begins_at plan w p q (sym e))
