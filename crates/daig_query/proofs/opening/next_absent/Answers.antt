use Rattle.std.proofs.Common.{◌≡◌, Some, refl, sym, ap, subst, ◌∙◌}
use Rattle.std.specs.FinMap.{get}
use Rattle.imp_flow_rows.specs.Near.{input_name}
use Rattle.cell_names.specs.Known.{Known, KeepsNumbers, IsOnce}
use Rattle.domain_laws.specs.Operations.{Operations}
use Rattle.imp_flow.specs.Plans.{Plan}
use Rattle.daig_query.specs.declared.store.Store.{Store}
use Rattle.daig_query.specs.Kept.{Names}
use Rattle.daig_query.specs.Opened.{name_of, unfound, IsNext}
use Rattle.daig_query.specs.Right.{IsRight}
use Rattle.daig_query.proofs.Growing.{keeps_same, keeps_trans, names_trans, right_named}
use Rattle.daig_query.proofs.Looking.{named_by, later, further, finds, more, fewer}
use Rattle.daig_query.proofs.opening.next_absent.Goals as goal
use Rattle.base_values.proofs.Cases.{none_of}

-- a store that has more paths alone, by the names that stand at the end
paths_more : {S : Type 0} (old : Store S) (mid last : Known) → KeepsNumbers old.names.paths mid.paths → mid.names ≡ old.names.names → last ≡ mid → Names old (record old { names = last })
paths_more old mid last keeps same is = record {
  paths = keeps_trans old.names.paths mid.paths last.paths keeps (keeps_same mid.paths last.paths (ap (λ (k : Known). k.paths) is));
  names = keeps_same old.names.names last.names (ap (λ (k : Known). k.names) is ∙ same);
  states = refl;
  operations = refl;
  memo = refl;
  recent = refl;
  stale = refl;
  graph = refl;
}

paths_right : {S : Type 0} (dom : Operations S) (plan : Plan) (old : Store S) (mid last : Known) → IsRight dom plan old → KeepsNumbers old.names.paths mid.paths → mid.names ≡ old.names.names → last ≡ mid → IsRight dom plan (record old { names = last })
paths_right dom plan old mid last right keeps same is =
    right_named dom plan old (record old { names = last }) right (paths_more old mid last keeps same is) (subst (λ xs. IsOnce xs) (sym (ap (λ (k : Known). k.names) is ∙ same)) right.once)

pub returns-in_err-name-clause-names : goal.returns-in_err-name-clause-names
returns-in_err-name-clause-names g c =
    let store = c.inputs.store in
    names_trans c.args.store.now store _ c.inputs.invariant.names (paths_more store c.name.new.names c.name.new.names c.name.ensures.kept c.name.ensures.names refl)

pub returns-in_err-name-clause-right : goal.returns-in_err-name-clause-right
returns-in_err-name-clause-right g c =
    paths_right (g.D.Domain.operations c.args.dom.now) c.args.flow.now c.inputs.store c.name.new.names c.name.new.names c.inputs.invariant.at.right c.name.ensures.kept c.name.ensures.names refl

pub returns-in_err-cell-clause-names : goal.returns-in_err-cell-clause-names
returns-in_err-cell-clause-names g c =
    let store = c.inputs.store in
    names_trans c.args.store.now store _ c.inputs.invariant.names (paths_more store c.name.new.names c.add_input.new.self c.name.ensures.kept c.name.ensures.names c.in_err-cell.ensures.err)

pub returns-in_err-cell-clause-right : goal.returns-in_err-cell-clause-right
returns-in_err-cell-clause-right g c =
    paths_right (g.D.Domain.operations c.args.dom.now) c.args.flow.now c.inputs.store c.name.new.names c.add_input.new.self c.inputs.invariant.at.right c.name.ensures.kept c.name.ensures.names c.in_err-cell.ensures.err

pub returns-clause-names : goal.returns-clause-names
returns-clause-names g c = c.inputs.invariant.names

pub returns-clause-right : goal.returns-clause-right
returns-clause-right g c = c.inputs.invariant.at.right

pub returns-then-not-there-clause-names : goal.returns-then-not-there-clause-names
returns-then-not-there-clause-names g c =
    let store = c.inputs.store in
    let named = named_by store _ c.name.new.names c.in_ok-name.name c.in_ok-cell.cell _ c.inputs.invariant.at.right.once c.name.ensures.kept c.name.ensures.names c.in_ok-name.ensures.is c.in_ok-name.ensures.within c.in_ok-cell.ensures.name c.add_input.ensures.paths refl refl refl refl refl refl in
    names_trans c.args.store.now store _ c.inputs.invariant.names named.names

pub returns-then-not-there-clause-right : goal.returns-then-not-there-clause-right
returns-then-not-there-clause-right g c =
    let dom = g.D.Domain.operations c.args.dom.now in
    let store = c.inputs.store in
    later dom c.args.flow.now store _ c.inputs.invariant.at.right _ c.in_ok-name.name c.in_ok-cell.cell (
    named_by store _ c.name.new.names c.in_ok-name.name c.in_ok-cell.cell _ c.inputs.invariant.at.right.once c.name.ensures.kept c.name.ensures.names c.in_ok-name.ensures.is c.in_ok-name.ensures.within c.in_ok-cell.ensures.name c.add_input.ensures.paths refl refl refl refl refl refl
    )

pub returns-then-not-there-clause-further : goal.returns-then-not-there-clause-further
returns-then-not-there-clause-further g c =
    let dom = g.D.Domain.operations c.args.dom.now in
    let plan = c.args.flow.now in
    let store = c.inputs.store in
    let y = input_name (name_of store c.inputs.entry).path c.in-Some.input in
    let named = named_by store (record store { names = c.add_input.new.self }) c.name.new.names c.in_ok-name.name c.in_ok-cell.cell y c.inputs.invariant.at.right.once c.name.ensures.kept c.name.ensures.names c.in_ok-name.ensures.is c.in_ok-name.ensures.within c.in_ok-cell.ensures.name c.add_input.ensures.paths refl refl refl refl refl refl in
    further dom plan store (record store { names = c.add_input.new.self }) (later dom plan store _ c.inputs.invariant.at.right y c.in_ok-name.name c.in_ok-cell.cell named) named.names c.args.row.now c.args.entry.now c.inputs.entry c.inputs.invariant.cell c.inputs.invariant.name c.inputs.invariant.at c.inputs.entry.inputs refl

pub returns-then-not-there-clause-next : goal.returns-then-not-there-clause-next
returns-then-not-there-clause-next g c =
    let dom = g.D.Domain.operations c.args.dom.now in
    let plan = c.args.flow.now in
    let store = c.inputs.store in
    let y = input_name (name_of store c.inputs.entry).path c.in-Some.input in
    let named = named_by store (record store { names = c.add_input.new.self }) c.name.new.names c.in_ok-name.name c.in_ok-cell.cell y c.inputs.invariant.at.right.once c.name.ensures.kept c.name.ensures.names c.in_ok-name.ensures.is c.in_ok-name.ensures.within c.in_ok-cell.ensures.name c.add_input.ensures.paths refl refl refl refl refl refl in
    subst (λ u. IsNext dom plan (record store { names = c.add_input.new.self }) c.inputs.entry (Some (unfound u))) (sym c.without_cell.ensures.is) (
    finds dom plan store (record store { names = c.add_input.new.self }) c.inputs.invariant.at.right y c.in_ok-name.name c.in_ok-cell.cell named c.args.row.now c.inputs.entry c.inputs.invariant.at (sym c.in-Some.ensures.next) (none_of (get store.graph.cells c.in_ok-cell.cell) (sym c.has_cell-there.ensures.is ∙ c.if-not-there.true))
    )

pub returns-in_err-name-clause-further : goal.returns-in_err-name-clause-further
returns-in_err-name-clause-further g c =
    let dom = g.D.Domain.operations c.args.dom.now in
    let plan = c.args.flow.now in
    let store = c.inputs.store in
    let later_store = record store { names = c.name.new.names } in
    further dom plan store later_store (paths_right dom plan store c.name.new.names c.name.new.names c.inputs.invariant.at.right c.name.ensures.kept c.name.ensures.names refl) (paths_more store c.name.new.names c.name.new.names c.name.ensures.kept c.name.ensures.names refl) c.args.row.now c.args.entry.now c.inputs.entry c.inputs.invariant.cell c.inputs.invariant.name c.inputs.invariant.at c.inputs.entry.inputs refl

pub returns-in_err-cell-clause-further : goal.returns-in_err-cell-clause-further
returns-in_err-cell-clause-further g c =
    let dom = g.D.Domain.operations c.args.dom.now in
    let plan = c.args.flow.now in
    let store = c.inputs.store in
    let later_store = record store { names = c.add_input.new.self } in
    further dom plan store later_store (paths_right dom plan store c.name.new.names c.add_input.new.self c.inputs.invariant.at.right c.name.ensures.kept c.name.ensures.names c.in_err-cell.ensures.err) (paths_more store c.name.new.names c.add_input.new.self c.name.ensures.kept c.name.ensures.names c.in_err-cell.ensures.err) c.args.row.now c.args.entry.now c.inputs.entry c.inputs.invariant.cell c.inputs.invariant.name c.inputs.invariant.at c.inputs.entry.inputs refl

pub returns-in_err-push-clause-further : goal.returns-in_err-push-clause-further
returns-in_err-push-clause-further g c =
    let dom = g.D.Domain.operations c.args.dom.now in
    let plan = c.args.flow.now in
    let store = c.inputs.store in
    let y = input_name (name_of store c.inputs.entry).path c.in-Some.input in
    let named = named_by store (record store { names = c.add_input.new.self }) c.name.new.names c.in_ok-name.name c.in_ok-cell.cell y c.inputs.invariant.at.right.once c.name.ensures.kept c.name.ensures.names c.in_ok-name.ensures.is c.in_ok-name.ensures.within c.in_ok-cell.ensures.name c.add_input.ensures.paths refl refl refl refl refl refl in
    further dom plan store (record store { names = c.add_input.new.self }) (later dom plan store _ c.inputs.invariant.at.right y c.in_ok-name.name c.in_ok-cell.cell named) named.names c.args.row.now c.args.entry.now c.inputs.entry c.inputs.invariant.cell c.inputs.invariant.name c.inputs.invariant.at c.push.new.self c.in_err-push.ensures.err

pub returns-clause-further : goal.returns-clause-further
returns-clause-further g c = record { at = c.inputs.invariant.at; cell = c.inputs.invariant.cell; name = c.inputs.invariant.name }

pub inputs-smaller : goal.inputs-smaller
inputs-smaller g c =
    let dom = g.D.Domain.operations c.args.dom.now in
    let store = c.inputs.store in
    let y = input_name (name_of store c.inputs.entry).path c.in-Some.input in
    fewer dom c.args.flow.now store _ c.inputs.invariant.at.right y c.in_ok-name.name c.in_ok-cell.cell (
    named_by store _ c.name.new.names c.in_ok-name.name c.in_ok-cell.cell y c.inputs.invariant.at.right.once c.name.ensures.kept c.name.ensures.names c.in_ok-name.ensures.is c.in_ok-name.ensures.within c.in_ok-cell.ensures.name c.add_input.ensures.paths refl refl refl refl refl refl
    ) c.args.row.now c.inputs.entry c.inputs.invariant.at (sym c.in-Some.ensures.next) (record { cell = c.inputs.entry.cell; name = c.inputs.entry.name; inputs = c.push.new.self }) refl c.in_ok-push.ensures.added

pub inputs-preserved : goal.inputs-preserved
inputs-preserved g c =
    let dom = g.D.Domain.operations c.args.dom.now in
    let store = c.inputs.store in
    let y = input_name (name_of store c.inputs.entry).path c.in-Some.input in
    let named = named_by store (record store { names = c.add_input.new.self }) c.name.new.names c.in_ok-name.name c.in_ok-cell.cell y c.inputs.invariant.at.right.once c.name.ensures.kept c.name.ensures.names c.in_ok-name.ensures.is c.in_ok-name.ensures.within c.in_ok-cell.ensures.name c.add_input.ensures.paths refl refl refl refl refl refl in
    record {
      names = names_trans c.args.store.now store _ c.inputs.invariant.names named.names;
      at = more dom c.args.flow.now store _ c.inputs.invariant.at.right y c.in_ok-name.name c.in_ok-cell.cell named c.args.row.now c.inputs.entry c.inputs.invariant.at (sym c.in-Some.ensures.next) (record { cell = c.inputs.entry.cell; name = c.inputs.entry.name; inputs = c.push.new.self }) refl refl c.in_ok-push.ensures.added (sym c.has_cell-there.ensures.is ∙ c.if-not-there.false);
      cell = c.inputs.invariant.cell;
      name = c.inputs.invariant.name;
    }

pub returns-in_err-push-clause-names : goal.returns-in_err-push-clause-names
returns-in_err-push-clause-names g c =
    let store = c.inputs.store in
    let named = named_by store _ c.name.new.names c.in_ok-name.name c.in_ok-cell.cell _ c.inputs.invariant.at.right.once c.name.ensures.kept c.name.ensures.names c.in_ok-name.ensures.is c.in_ok-name.ensures.within c.in_ok-cell.ensures.name c.add_input.ensures.paths refl refl refl refl refl refl in
    names_trans c.args.store.now store _ c.inputs.invariant.names named.names

pub returns-in_err-push-clause-right : goal.returns-in_err-push-clause-right
returns-in_err-push-clause-right g c =
    let dom = g.D.Domain.operations c.args.dom.now in
    let store = c.inputs.store in
    later dom c.args.flow.now store _ c.inputs.invariant.at.right _ c.in_ok-name.name c.in_ok-cell.cell (
    named_by store _ c.name.new.names c.in_ok-name.name c.in_ok-cell.cell _ c.inputs.invariant.at.right.once c.name.ensures.kept c.name.ensures.names c.in_ok-name.ensures.is c.in_ok-name.ensures.within c.in_ok-cell.ensures.name c.add_input.ensures.paths refl refl refl refl refl refl
    )
