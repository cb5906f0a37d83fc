use Rattle.std.proofs.Common.{◌≡◌, ◌<◌, ◌++◌, map, reverse, length, Some, slice_get, IfOk, sym, ap, subst, ◌∙◌}
use Rattle.std.proofs.lemmas.Option.{slice_get_within}
use Rattle.call_chains.specs.Targets.{selected_at, targets_of}
use Rattle.cell_graph.specs.Same.{same_name}
use Rattle.why_slice.specs.Upstream.{all_hung, all_of, listed, statement_at, sorted_once}
use Rattle.why_cells.specs.Reached.{AreReached}
use Rattle.why_cells.specs.Told.{SameItems, TellsReached}
use Rattle.why_cells.proofs.Sliced.{found_named, keys_named, seeds_are, seeds_there, upstream_is}
use Rattle.why_cells.proofs.slicing.upstream.Goals as goal

pub with_fixes-requires : goal.with_fixes-requires
with_fixes-requires g c =
    let dom = g.D.Domain.operations c.args.engine.now.domain in
    let h = c.requires.filled in
    record {
      within = λ i n e.
          let x = found_named dom c.args.flow.now h.1 c.args.engine.now.store c.args.walk.now h.4.right h.4.done i n (subst (λ ns. slice_get ns i ≡ Some n) c.found.ensures.same e) in
          subst (λ k. n < length k.names) (sym c.names.ensures.is) (slice_get_within c.args.engine.now.store.names.names n x.0 x.1);
    }

pub all_hung-requires-clause-cells : goal.all_hung-requires-clause-cells
all_hung-requires-clause-cells g c = λ i n e.
    let dom = g.D.Domain.operations c.args.engine.now.domain in
    let h = c.requires.filled in
    let are = seeds_are dom c.args.flow.now h.1 c.args.engine.now.store c.args.walk.now h.4.right h.4.done c.names.result.now c.found.result.now c.in_ok-seeds.seeds.items c.names.ensures.is c.found.ensures.same c.in_ok-seeds.ensures.are in
    seeds_there dom c.args.flow.now h.1 c.args.engine.now.store c.args.walk.now h.4.right h.4.done c.in_ok-seeds.seeds.items are i n (subst (λ ns. slice_get ns i ≡ Some n) c.as_slice.ensures.value e)

pub returns : goal.returns
returns g c = record {
  is = λ p ts place targets filled.
      let dom = g.D.Domain.operations c.args.engine.now.domain in
      let plan = c.args.flow.now in
      let store = c.args.engine.now.store in
      let walk = c.args.walk.now in
      let l = c.args.at.now in
      let string = c.args.string.now in
      let are = seeds_are dom plan ts store walk filled.right filled.done c.names.result.now c.found.result.now c.in_ok-seeds.seeds.items c.names.ensures.is c.found.ensures.same c.in_ok-seeds.ensures.are in
      let reached = subst (λ ns. TellsReached dom plan store ns c.in_ok-hung.hung) c.as_slice.ensures.value c.in_ok-hung.ensures.are in
      let at : AreReached store.graph.cells c.in_ok-seeds.seeds.items reached.cells = reached.reached in
      let xs = keys_named dom plan ts store walk filled.right filled.done c.in_ok-seeds.seeds.items are reached.cells at in
      let chains : c.as_slice-2.result.now ≡ map reverse (targets_of plan.program l string) =
      c.as_slice-2.ensures.same ∙ c.in_ok-chains.ensures.is ∙ ap (λ prog. map reverse (targets_of prog l string)) c.program.ensures.is in
      let hung : SameItems c.in_ok-hung.hung (all_hung dom plan.engine plan.program same_name xs.0) = reached.tells xs.0 xs.1 in
      let all = chains ∙ ap (λ o. map reverse (selected_at plan.program string o)) place in
      subst (λ ks. IfOk c.upstream.result (λ stmts. stmts ≡ ks))
      (ap (λ zs. sorted_once (listed (statement_at l) ++ (all_of zs ++ c.in_ok-hung.hung))) all
      ∙ upstream_is dom plan ts store walk filled.right filled.done c.in_ok-seeds.seeds.items are reached.cells at xs.0 xs.1 l string p c.in_ok-hung.hung hung)
      c.upstream.ensures.is;
}
