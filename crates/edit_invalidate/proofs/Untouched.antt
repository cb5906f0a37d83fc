-- The untouched cells have their traces in the new program.
use Rattle.std.proofs.Common.{reverse, ◌≡◌, length, sym, ap, ◌∙◌, subst}
use Rattle.std.proofs.lemmas.Option.{same_Some}
use Rattle.std.specs.FinMap.{get}
use Rattle.domain_laws.specs.Operations.{Operations}
use Rattle.daig_order.specs.Asking.{AreRows}
use Rattle.daig_traces.proofs.TraceLemmas.{names_have_traces}
use Rattle.cell_rows.specs.Claims.{rows_of}
use Rattle.cell_rows.proofs.FlatOnce.{flat_once, all_fine}
use Rattle.cell_rows.proofs.TotalRows.{is_total}
use Rattle.cell_graph.specs.Asked.{inputs}
use Rattle.cell_graph.specs.Same.{same_name}
use Rattle.cell_graph.proofs.Same.{same_is}
use Rattle.cell_graph.proofs.Numbers.{numbers_length}
use Rattle.edit_invalidate.specs.Touched.{KeepsCell, or_start, name_at, input_count, inputs_at}
use Rattle.edit_invalidate.specs.Claims.{UntouchedHaveTraces}
use Rattle.edit_invalidate.proofs.Leaving.{untouched_keep_rows}
use Rattle.edit_invalidate.proofs.Rising.{some_of}
use Rattle.edit_invalidate.proofs.Tracing.{traces_stay}

pub untouched_have_traces : {S : Type 0} (dom : Operations S) {V : Type 0} → UntouchedHaveTraces dom V
unfolding inputs
untouched_have_traces {S} dom old new names cells stmts n x one h are s free named =
    let f = some_of (get cells n) s in
    let p = h.each n f.0 f.1 in
    let is : p.0 ≡ x = same_Some p.0 x (sym p.1 ∙ named) in
    let counted : inputs_at cells n ≡ length (inputs dom old x) = ap input_count f.1 ∙ numbers_length names f.0.inputs (inputs dom old p.0) p.2.inputs ∙ ap (λ y. length (inputs dom old y)) is in
    let law : AreRows (rows_of dom old.engine old.program same_name) = is_total dom old.engine (reverse old.program) (all_fine old.program h.checked) (flat_once old.program h.checked) same_name same_is in
    let keep = subst (λ y. KeepsCell old new y (length (inputs dom old x))) (ap or_start named) (subst (KeepsCell old new (name_at names n)) counted (untouched_keep_rows dom old new names cells stmts n one h are s free)) in
    let trace = names_have_traces (rows_of dom old.engine old.program same_name) law x in
    traces_stay dom old new x (inputs dom old x) _ _ one keep trace
