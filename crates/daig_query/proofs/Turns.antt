-- Each turn of the machine keeps what is known of a run over stores.
use Rattle.std.specs.Prelude.{is_some, IfSome}
use Rattle.std.proofs.Common.{◌≡◌, ℕ, suc, ◌+◌, ◌-◌, ◌*◌, ◌<◌, ◌≤◌, ◌||◌, false, List, [], ◌∷◌, ◌++◌, take, reverse, length, Option, Some, None, slice_get, sym, ap, subst, ◌∙◌, arith, length-append, mul-add, eqb}
use Rattle.std.specs.FinMap.{len}
use Rattle.std.specs.Option.{option_eq}
use Rattle.std.proofs.lemmas.Bool.Decides.{nat_tests}
use Rattle.std.proofs.lemmas.List.{length-map}
use Rattle.base_values.proofs.Lists.{get_last, get_some}
use Rattle.domain_laws.specs.Operations.{Operations}
use Rattle.daig_order.specs.Order.{member}
use Rattle.daig_order.specs.Store.{first_absent, missing_of}
use Rattle.daig_order.specs.Machine.{waits}
use Rattle.cell_names.specs.Paths.{CellName}
use Rattle.cell_rows.specs.Targets.{Target}
use Rattle.imp_flow.specs.Plans.{Plan}
use Rattle.cell_graph.specs.Same.{same_name}
use Rattle.cell_graph.specs.Named.{filled_at}
use Rattle.daig_query.specs.declared.store.Store.{Store}
use Rattle.daig_query.specs.declared.turning.TurnOutcome.{TurnOutcome}
use Rattle.daig_query.specs.declared.walk.Walk.{Walk}
use Rattle.daig_query.specs.Kept.{kept, AddsFew, Grows}
use Rattle.daig_query.specs.Right.{found, IsRight}
use Rattle.daig_query.specs.Opened.{name_of}
use Rattle.daig_query.specs.Turned.{stacked_names, Pushes, FillsTop, Waits, Ends, Turns}
use Rattle.daig_query.specs.Filled.{cells_added, missing, Fills}
use Rattle.daig_query.specs.Walked.{IsGood, place_of}
use Rattle.daig_query.proofs.Growing.{grows_trans, filled_same}
use Rattle.daig_query.proofs.Stacked.{has_kept, stack_waits, targets_kept, name_at}
use Rattle.daig_query.proofs.Running.{cells_of, system, wanted, Runs, left, missing_is, runs_same, runs_push, push_smaller, runs_leave, runs_end, top_more, fill_less, runs_fill}
use Rattle.std.proofs.lemmas.Option.{same_Some}
use Rattle.std.proofs.Math.Seq.{take-append_seam as take_start}

module _ {S : Type 0} (dom : Operations S) (plan : Plan) (ts : List Target) where
  -- A run began over the store `first`, and has come to another, with a walk.
  pub record IsRunning (first store : Store S) (w : Walk) : Type 0 where
    pub right : IsRight dom plan store
    pub grows : Grows first store
    pub good : IsGood dom plan ts store w
    pub run : Runs dom plan ts (kept first) (kept store) (stacked_names store w.stack.items) (cells_added first store)
    pub counted : len store.graph.cells ≡ len first.graph.cells + cells_added first store

  -- how far it is from its end
  abbrev pub running_left : (first store : Store S) → Walk → ℕ
  running_left first store w = left dom plan ts (kept first) (stacked_names store w.stack.items) (cells_added first store)

  -- where no cell is added the same names have cells
  pub kept_still : (old new : Store S) → IsRight dom plan old → IsRight dom plan new → Grows old new → new.graph.cells ≡ old.graph.cells → (x : CellName) → kept new x ≡ kept old x
  kept_still old new before after grows cells x =
      ap is_some (
      ap (λ m. filled_at m new.names.names x) cells
      ∙ filled_same old.graph.cells old.names.names new.names.names before.once after.once grows.names (λ n f e. let p = before.cells n f e in (p.0, p.1)) x
      )

  -- nor are more cells added
  pub added_still : (first old new : Store S) → new.graph.cells ≡ old.graph.cells → cells_added first new ≡ cells_added first old
  added_still first old new cells = ap (λ m. len m - len first.graph.cells) cells

  -- what the names under the top wait for is the top
  waits_top : (store : Store S) (w : Walk) → IsRight dom plan store → IsGood dom plan ts store w → (names : List CellName) (x : CellName) → stacked_names store w.stack.items ≡ names ++ x ∷ [] → kept store x ≡ false →
      first_absent (cells_of dom plan ts (kept store)) (waits (system dom plan ts) (wanted dom plan ts) (reverse names)) ≡ Some x
  waits_top store w right good names x e absent =
      let os = w.stack.items in
      let n : length os ≡ length names + 1 = sym (length-map os (name_of store)) ∙ (ap length e ∙ length-append names (x ∷ [])) in
      let p = get_some os (length names) (omega arith) in
      let at : slice_get (stacked_names store os) (length names) ≡ Some (name_of store p.0) = name_at dom plan store right ts (place_of ts store w) w.found.items good.placed.stands os good.stacked (length names) p.0 p.1 in
      let same : name_of store p.0 ≡ x = same_Some (name_of store p.0) x (sym at ∙ (ap (λ xs. slice_get xs (length names)) e ∙ get_last names x)) in
      let front : take (length names) (stacked_names store os) ≡ names = ap (take (length names)) e ∙ take_start names (x ∷ []) in
      let s = stack_waits dom plan store right ts (place_of ts store w) w.found.items good.placed.stands os good.stacked (length names) p.0 p.1 (ap (kept store) same ∙ absent) in
      ap (λ xs. first_absent (cells_of dom plan ts (kept store)) (waits (system dom plan ts) (wanted dom plan ts) (reverse xs))) (sym front) ∙ (s ∙ ap Some same)

  module _ (first old new : Store S) (before after : Walk) (run : IsRunning first old before) (right : IsRight dom plan new) (grows : Grows old new) (good : IsGood dom plan ts new after) where
    -- the run goes on where no cell is added
    still : new.graph.cells ≡ old.graph.cells → Runs dom plan ts (kept first) (kept new) (stacked_names old before.stack.items) (cells_added first new)
    still cells =
        subst (λ n. Runs dom plan ts (kept first) (kept new) (stacked_names old before.stack.items) n) (sym (added_still first old new cells)) (
        runs_same dom plan ts (kept first) (kept old) (kept new) (stacked_names old before.stack.items) (cells_added first old) (kept_still old new run.right right grows cells) run.run
        )

    still_counted : new.graph.cells ≡ old.graph.cells → len new.graph.cells ≡ len first.graph.cells + cells_added first new
    still_counted cells =
        let a : len new.graph.cells ≡ len old.graph.cells = ap len cells in
        let b : cells_added first new ≡ cells_added first old = added_still first old new cells in
        let c = run.counted in
        omega arith

    -- what a run leaves where it stops with no fill
    pub stops : new.graph.cells ≡ old.graph.cells → AddsFew (suc (cells_added first new)) first new → Fills dom plan ts first new (cells_added first new)
    stops cells few =
        let s = runs_leave dom plan ts run.right.checked (kept first) (kept new) (stacked_names old before.stack.items) (cells_added first new) (still cells) in
        record {
          right = right;
          grows = grows_trans first old new run.grows grows;
          adds = λ x.
              sym (has_kept (found dom plan) (kept new) x)
              ∙ (s.adds x
              ∙ (ap (λ b. b || member same_name (take (cells_added first new) (missing_of (system dom plan ts) (cells_of dom plan ts (kept first)) (wanted dom plan ts))) x) (has_kept (found dom plan) (kept first) x)
              ∙ ap (λ xs. kept first x || member same_name (take (cells_added first new) xs) x) (missing_is dom plan ts first)));
          needed = subst (λ xs. cells_added first new ≤ length xs) (missing_is dom plan ts first) s.needed;
          counted = still_counted cells;
          few = few;
        }

    -- a push
    pub pushes : Pushes old new (stacked_names old before.stack.items) after → IsRunning first new after
    pushes p = record {
      right = right;
      grows = grows_trans first old new run.grows grows;
      good = good;
      run =
          subst (λ xs. Runs dom plan ts (kept first) (kept new) xs (cells_added first new)) (sym p.names) (
          runs_push dom plan ts run.right.checked (kept first) (kept new) (stacked_names old before.stack.items) (cells_added first new) (still cells) p.top
          (waits_top new after right good (stacked_names old before.stack.items) p.top p.names p.absent)
          );
      counted = still_counted cells;
    }
      where
        cells : new.graph.cells ≡ old.graph.cells
        cells = ap (λ g. g.cells) p.only.graph

    pub pushes_smaller : Pushes old new (stacked_names old before.stack.items) after → running_left first new after < running_left first old before
    pushes_smaller p =
        let cells : new.graph.cells ≡ old.graph.cells = ap (λ g. g.cells) p.only.graph in
        let s = push_smaller dom plan ts run.right.checked (kept first) (kept new) (stacked_names old before.stack.items) (cells_added first new) (still cells) p.top (waits_top new after right good (stacked_names old before.stack.items) p.top p.names p.absent) in
        subst (λ n. running_left first new after < left dom plan ts (kept first) (stacked_names old before.stack.items) n) (added_still first old new cells) (
        subst (λ xs. left dom plan ts (kept first) xs (cells_added first new) < left dom plan ts (kept first) (stacked_names old before.stack.items) (cells_added first new)) (sym p.names) s
        )

    -- a fill
    module _ (p : FillsTop dom plan ts old new (stacked_names old before.stack.items) after) where
      abbrev names : List CellName
      names = stacked_names old before.stack.items

      abbrev rest : List CellName
      rest = stacked_names new after.stack.items

      pub fills_more : cells_added first new ≡ cells_added first old + 1
      fills_more =
          let a : len new.graph.cells ≡ suc (len old.graph.cells) = p.puts.count in
          let c = run.counted in
          omega arith

      pub fills_one : IsRunning first new after
      fills_one = record {
        right = right;
        grows = grows_trans first old new run.grows grows;
        good = good;
        run =
            subst (λ n. Runs dom plan ts (kept first) (kept new) rest n) (sym fills_more) (
            runs_fill dom plan ts run.right.checked (kept first) (kept old) names (cells_added first old) run.run rest p.top p.names p.ready (kept new) p.puts.adds
            );
        counted =
            let a : len new.graph.cells ≡ suc (len old.graph.cells) = p.puts.count in
            let c = run.counted in
            let d = fills_more in
            omega arith;
      }

      pub fills_smaller : running_left first new after < running_left first old before
      fills_smaller =
          subst (λ n. left dom plan ts (kept first) rest n < left dom plan ts (kept first) names (cells_added first old)) (sym fills_more) (
          fill_less dom plan ts run.right.checked (kept first) (kept old) names (cells_added first old) run.run rest p.top p.names p.ready
          )

    -- a name that waits shows that more is missing
    pub waits_more : Waits dom plan ts old new (stacked_names old before.stack.items) after → cells_added first new < length (missing dom plan ts first)
    waits_more p =
        let cells : new.graph.cells ≡ old.graph.cells = ap (λ g. g.cells) p.only.graph in
        subst (λ xs. cells_added first new < length xs) (missing_is dom plan ts first) (
        top_more dom plan ts run.right.checked (kept first) (kept new) (stacked_names old before.stack.items) (cells_added first new) (still cells) p.rest p.top p.split p.ready
        )

    -- at the end all that was missing is filled
    pub ends_all : Ends dom plan ts old new (stacked_names old before.stack.items) after → cells_added first new ≡ length (missing dom plan ts first)
    ends_all p =
        let cells : new.graph.cells ≡ old.graph.cells = ap (λ g. g.cells) p.only.graph in
        runs_end dom plan ts run.right.checked (kept first) (kept new) (stacked_names old before.stack.items) (cells_added first new) (still cells) p.bottom
        (targets_kept dom plan new right ts (place_of ts new after) after.found.items p.done.placed.stands p.done.asks_none)
        ∙ ap length (missing_is dom plan ts first)

  -- how many cells more, at most so many
  pub within_start : (limit : Option ℕ) (store : Store S) → IfSome limit (λ n. cells_added store store ≤ n)
  within_start None store = tt
  within_start (Some n) store = omega arith

  pub within_still : (limit : Option ℕ) (a b : ℕ) → b ≡ a → IfSome limit (λ n. a ≤ n) → IfSome limit (λ n. b ≤ n)
  within_still None a b e h = tt
  within_still (Some n) a b e h = omega arith

  pub within_more : (limit : Option ℕ) (a b : ℕ) → b ≡ a + 1 → (limit ≡ Some a → ⊥) → IfSome limit (λ n. a ≤ n) → IfSome limit (λ n. b ≤ n)
  within_more None a b e new h = tt
  within_more (Some n) a b e new h = more (λ (q : n ≡ a). new (ap Some q))
    where
      more : (n ≡ a → ⊥) → b ≤ n
      more other = grind (arith, other)

-- what a turn did, by what it was
pub turned : {S : Type 0} (dom : Operations S) (plan : Plan) (ts : List Target) (old new : Store S) (before : List CellName) (after : Walk) (turn is : TurnOutcome) → turn ≡ is → Turns dom plan ts old new before after turn → Turns dom plan ts old new before after is
turned dom plan ts old new before after turn is e h = subst (Turns dom plan ts old new before after) e h

-- a limit that is not reached
pub limit_open : (limit : Option ℕ) (m a : ℕ) → m ≡ a → option_eq eqb limit (Some m) ≡ false → limit ≡ Some a → ⊥
limit_open None m a e h k = cc
limit_open (Some n) m a e h k =
    let q : n ≡ m = same_Some n a k ∙ sym e in
    let b : eqb n m ≡ false = h in
    grind (arith, nat_tests)

-- the ticks of no operation, and of one more
pub ticks_same : (first before after each a b : ℕ) → b ≡ a → before ≤ first + each * a → after ≤ before + each * 0 → after ≤ first + each * b
ticks_same first before after each a b e h k = rw e (omega arith)

pub ticks_more : (first before after each a b : ℕ) → b ≡ a + 1 → before ≤ first + each * a → after ≤ before + each * 1 → after ≤ first + each * b
ticks_more first before after each a b e h k =
    let m : each * b ≡ each * a + each * 1 = rw e (mul-add each a 1) in
    omega arith
