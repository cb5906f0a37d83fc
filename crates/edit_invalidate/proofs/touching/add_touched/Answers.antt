use Rattle.std.proofs.Common.{◌≡◌, ℕ, ◌++◌, ◌∷◌, [], List, sym, ◌∙◌, subst}
use Rattle.std.proofs.lemmas.List.{map-id}
use Rattle.std.proofs.lemmas.Iterator.Consumers.{YieldsList-from_first, YieldsList-turn, YieldsList-end}
use Rattle.edit_invalidate.proofs.Adding.{Seen, at_turn, owned_named, seen_kept, seen_touched, seen_all}
use Rattle.edit_invalidate.proofs.touching.add_touched.Goals as goal

pub keeps_row-requires : goal.keeps_row-requires
keeps_row-requires g c =
    let t = YieldsList-turn (YieldsList-from_first (λ (x : ℕ). x) (λ (rest : List ℕ). rest) c.cells_of_statement-cell-items.result cc) c.loop-cell.yielded _ c.loop-cell.yielded_by _ _ c.in-Some.cell c.in-Some.is c.next.ensures.steps in
    record {
      there =
          owned_named c.args.graph.now.cells c.args.names.now.names c.args.stmt c.in-Some.cell
          ((c.cells_of_statement-cell-items.ensures.cells c.in-Some.cell).0 (at_turn c.cells_of_statement-cell-items.result c.loop-cell.yielded c.in-Some.cell t))
          c.requires.named;
    }

pub loop-cell-preserved-in-Continue-1 : goal.loop-cell-preserved-in-Continue-1
loop-cell-preserved-in-Continue-1 g c =
    let t = YieldsList-turn (YieldsList-from_first (λ (x : ℕ). x) (λ (rest : List ℕ). rest) c.cells_of_statement-cell-items.result cc) c.loop-cell.yielded _ c.loop-cell.yielded_by _ _ c.in-Some.cell c.in-Some.is c.next.ensures.steps in
    subst (λ (xs : List ℕ). Seen c.args.old.now c.args.new.now c.args.names.now.names c.args.graph.now.cells c.args.stmt (c.loop-cell.yielded ++ c.in-Some.cell ∷ []) c.args.touched.now.items xs) (sym c.in_ok-push.ensures.items)
    (seen_touched c.args.old.now c.args.new.now c.args.names.now.names c.args.graph.now.cells c.args.stmt c.in-Some.cell c.loop-cell.yielded c.args.touched.now.items c.loop-cell.touched.items c.loop-cell.invariant
    ((c.cells_of_statement-cell-items.ensures.cells c.in-Some.cell).0 (at_turn c.cells_of_statement-cell-items.result c.loop-cell.yielded c.in-Some.cell t))
    (λ k. let e = c.keeps_row.ensures.is.1 k in absurd (let h = c.if-not-keeps_row.true in cc)))

pub loop-cell-preserved : goal.loop-cell-preserved
loop-cell-preserved g c =
    seen_kept c.args.old.now c.args.new.now c.args.names.now.names c.args.graph.now.cells c.args.stmt c.in-Some.cell c.loop-cell.yielded c.args.touched.now.items c.loop-cell.touched.items c.loop-cell.invariant
    (c.keeps_row.ensures.is.0 (let h = c.if-not-keeps_row.false in cc))

pub returns : goal.returns
returns g c =
    let t = YieldsList-end (YieldsList-from_first (λ (x : ℕ). x) (λ (rest : List ℕ). rest) c.cells_of_statement-cell-items.result cc) c.loop-cell.yielded _ c.loop-cell.yielded_by _ _ c.in-None.is c.next.ensures.steps in
    let all : c.loop-cell.yielded ≡ c.cells_of_statement-cell-items.result = sym (map-id c.loop-cell.yielded) ∙ t.0 in
    let seen : Seen c.args.old.now c.args.new.now c.args.names.now.names c.args.graph.now.cells c.args.stmt c.cells_of_statement-cell-items.result c.args.touched.now.items c.loop-cell.touched.items =
    subst (λ (xs : List ℕ). Seen c.args.old.now c.args.new.now c.args.names.now.names c.args.graph.now.cells c.args.stmt xs c.args.touched.now.items c.loop-cell.touched.items) all c.loop-cell.invariant in
    record {
      adds = seen_all c.args.old.now c.args.new.now c.args.names.now.names c.args.graph.now.cells c.args.stmt c.cells_of_statement-cell-items.result c.args.touched.now.items c.loop-cell.touched.items c.cells_of_statement-cell-items.ensures.cells seen;
    }
