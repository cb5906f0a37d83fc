-- The cells of a program have names, and ranks above those of their inputs.
use Rattle.std.proofs.Common.{reverse, ◌≡◌, ℕ, ◌<◌, List, Option, Some, None, IsSome, refl, sym, ap, subst}
use Rattle.std.proofs.lemmas.Option.{slice_get_within}
use Rattle.std.specs.FinMap.{get}
use Rattle.domain_laws.specs.Operations.{Operations}
use Rattle.daig_order.specs.Asking.{Rows, AreRows}
use Rattle.daig_order.proofs.AskingProofs.{system-acyclic}
use Rattle.cell_names.specs.Paths.{CellName}
use Rattle.cell_rows.specs.Cells.{Cell}
use Rattle.cell_rows.specs.Claims.{rows_of}
use Rattle.cell_rows.proofs.FlatOnce.{flat_once, all_fine}
use Rattle.cell_rows.proofs.TotalRows.{is_total}
use Rattle.imp_flow.specs.Plans.{Plan}
use Rattle.cell_removal.specs.Removal.{Cells, Uses}
use Rattle.cell_graph.specs.Same.{same_name}
use Rattle.edit_invalidate.specs.Touched.{or_start, name_at}
use Rattle.cell_graph.specs.Asked.{inputs}
use Rattle.cell_graph.specs.Holds.{HoldsCells}
use Rattle.edit_invalidate.specs.Claims.{CellsAreNamed, CellsRise}
use Rattle.cell_graph.proofs.Same.{same_is}
use Rattle.cell_graph.proofs.Numbers.{numbers_get, at_member}

pub some_of : {A : Type 0} (o : Option A) → IsSome o → (a : A) × (o ≡ Some a)
some_of None h = absurd cc
some_of (Some a) h = (a, refl)

module _ {S : Type 0} (dom : Operations S) {V : Type 0} where
  pub are_named : CellsAreNamed dom V
  are_named plan names cells h n s =
      let f = some_of (get cells n) s in
      let p = h.each n f.0 f.1 in
      slice_get_within names n p.0 p.1

  module _ (plan : Plan) (names : List CellName) (cells : Cells V) (h : HoldsCells dom plan names cells) where
    abbrev rows : Rows CellName (Cell S)
    rows = rows_of dom plan.engine plan.program same_name

    falls : (x y : ℕ) → Uses cells y x → rows.rank (name_at names x) < rows.rank (name_at names y)
    unfolding inputs
    falls x y u =
        let f = u.1 in
        let p = h.each y f.0 f.1 in
        let q = numbers_get names f.0.inputs (inputs dom plan p.0) p.2.inputs u.0 x f.2 in
        let law : AreRows (rows_of dom plan.engine plan.program same_name) = is_total dom plan.engine (reverse plan.program) (all_fine plan.program h.checked) (flat_once plan.program h.checked) same_name same_is in
        let lt = (system-acyclic (rows_of dom plan.engine plan.program same_name) law).falls p.0 q.0 (at_member (inputs dom plan p.0) u.0 q.0 q.1) in
        let P : CellName → CellName → Type 0 = λ a b. rows.rank a < rows.rank b in
        subst (λ a. P a (name_at names y)) (sym (ap or_start q.2)) (subst (P q.0) (sym (ap or_start p.1)) lt)

  pub rise : CellsRise dom V
  rise plan names cells h = record { rank = λ n. (rows plan names cells h).rank (name_at names n); falls = falls plan names cells h }
