use Rattle.std.proofs.Common.{◌≡◌, ◌++◌, false, None, List, add-one, map, take, drop, get_or, set, sym, ap, ◌∙◌}
use Rattle.shape_graph.specs.declared.graph.Atom.{Atom}
use Rattle.shape_graph.specs.Tables.{renumbered}
use Rattle.shape_graph.proofs.Renumbered.{get_or-border, set-border}
use Rattle.shape_graph.proofs.folding.numbered_atoms.Goals as goal

pub loop-atom-preserved : goal.loop-atom-preserved
loop-atom-preserved c =
    let f = renumbered c.args.numbers.now in
    let xs : List Atom = c.deref_mut-atom-items.result.now in
    let i = c.loop-atom.atom-index in
    let past : Atom = record { many = false; target = None } in
    let old : get_or c.loop-atom.atom-items i past ≡ get_or xs i past = ap (λ ys. get_or ys i past) c.loop-atom.invariant ∙ get_or-border f xs i past c.loop-atom-test.true in
    ap (λ ys. set ys i c.numbered_atom.result) c.loop-atom.invariant
    ∙ ap (set (map f (take i xs) ++ drop i xs) i) (c.numbered_atom.ensures.numbered ∙ ap f old)
    ∙ set-border f xs i past c.loop-atom-test.true
    ∙ ap (λ n. map f (take n xs) ++ drop n xs) (sym (add-one i))
