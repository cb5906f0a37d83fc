use Rattle.std.proofs.Common.{length, refl}
use Rattle.daig_query.specs.Renamed.{Renames}
use Rattle.daig_query.proofs.Renames.{anew-below, anew-rising, renames-all, renames-right}
use Rattle.daig_query.proofs.Renaming.{anew-same}
use Rattle.daig_query.proofs.names_sweep.rename_cells.Goals as goal

pub renumber-requires : goal.renumber-requires
renumber-requires g c =
    let store = c.args.store.now in
    let names = store.names.names in
    let made = c.args.made in
    let numbers = c.as_slice.result.now in
    let anew = anew-same store.graph.cells names (length names) made.numbers.items numbers made.names.names c.as_slice.ensures.value c.requires.renaming.anew in
    record {
      rising = anew-rising store c.requires.held numbers made.names.names anew;
      below = anew-below store c.requires.held numbers made.names.names anew;
    }

-- the cells have the new numbers of their names
renamed : (g : _) (c : goal.After-drop-numbers g) → Renames c.args.store.now (record c.args.store.now { graph = c.renumber.new.self; names = c.args.made.names; stale = c.clear.new.self })
renamed g c =
    let store = c.args.store.now in
    let names = store.names.names in
    let made = c.args.made in
    let numbers = c.as_slice.result.now in
    let anew = anew-same store.graph.cells names (length names) made.numbers.items numbers made.names.names c.as_slice.ensures.value c.requires.renaming.anew in
    renames-all store (record store { graph = c.renumber.new.self; names = made.names; stale = c.clear.new.self }) c.requires.held numbers anew
    c.renumber.ensures.renumbers c.renumber.ensures.same_len c.requires.renaming.root c.numbers_are_one.ensures.names c.numbers_are_one-2.ensures.names refl refl refl refl c.clear.ensures.count

pub returns-clause-renames : goal.returns-clause-renames
returns-clause-renames g c = renamed g c

pub returns-clause-right : goal.returns-clause-right
returns-clause-right g c = λ dom. renames-right dom c.args.store.now (record c.args.store.now { graph = c.renumber.new.self; names = c.args.made.names; stale = c.clear.new.self }) (renamed g c) c.clear.ensures.fresh
