use Rattle.std.proofs.Common.{◌≡◌, ◌+◌, None, Err, IfErr, true, drop, rules, sym, ap, ◌∙◌, subst}
use Rattle.std.specs.Option.{option_map}
use Rattle.imp_syntax.specs.Plain.{Statement, Statements, If, Starts, block_of, number_of}
use Rattle.imp_syntax.specs.Blocks.{block_rest}
use Rattle.imp_syntax.specs.StmtViews.{statement_of}
use Rattle.imp_check.specs.Faults.{in_procedure}
use Rattle.imp_check.specs.Names.{variables}
use Rattle.imp_check.specs.Statements.{block_fault, condition_fault, statement_fault}
use Rattle.edit_entries.specs.Gaps.{lone}
use Rattle.imp_check.specs.Single.{own_fault}
use Rattle.imp_edit.specs.Refusals.{IsRefusal}
use Rattle.imp_edit.specs.declared.error.EditError.TheVariants.{Fault}
use Rattle.imp_edit.proofs.NewEntryLemmas.{rest_refused, then_refused}
use Rattle.imp_edit.proofs.new_entries.+come.Goals as goal

pub add_block-returns-in_err-add_statement-clause-refused : goal.add_block-returns-in_err-add_statement-clause-refused
add_block-returns-in_err-add_statement-clause-refused t c =
    let vs = variables c.args.head.now.bare in
    let x = c.args.head.now.bare.name in
    let ss = c.as_slice-stmts.result.now in
    let i = c.loop-i.i in
    let s = c.index-stmts-i.result in
    let r : Statements = block_of (drop (i + 1) ss) in
    let is : block_fault (lone vs) true c.args.block.now ≡ block_fault (lone vs) true (Starts s r) = c.loop-i.invariant.fault ∙ ap (block_fault (lone vs) true) (block_rest ss i s c.loop-i-test.true c.index-stmts-i.is) in
    let w = rest_refused vs x s r c.in_err-add_statement.field-0.0 c.in_err-add_statement.ensures.refused in
    let e : c.from_residual.result ≡ Err c.in_err-add_statement.field-0.0 = search rules in
    subst (λ z. IfErr z (IsRefusal (option_map Fault (in_procedure x (block_fault (lone vs) true c.args.block.now))))) (sym e)
    (subst (λ o. IsRefusal (option_map Fault (in_procedure x o)) c.in_err-add_statement.field-0.0) (sym is) w)

pub add_statement-returns-in_err-add_block-in-If-clause-refused : goal.add_statement-returns-in_err-add_block-in-If-clause-refused
add_statement-returns-in_err-add_block-in-If-clause-refused t c =
    let vs = variables c.args.head.now.bare in
    let x = c.args.head.now.bare.name in
    let n = number_of c.args.stmt.now in
    let d = c.in-If.field-0 in
    let r = c.in_err-add_block-in-If.field-0.0 in
    let q : If n d c.in-If.then c.in-If.els ≡ c.args.stmt.now = ap (statement_of n) (sym c.in-If.is) ∙ c.node.ensures.is in
    let f : condition_fault vs d ≡ None = ap (own_fault vs) q ∙ c.in_ok-entry.ensures.faultless in
    let w = then_refused vs x n d c.in-If.then c.in-If.els r f c.in_err-add_block-in-If.ensures.refused in
    let e : c.from_residual-in_err-add_block-in-If.result ≡ Err r = search rules in
    subst (λ z. IfErr z (IsRefusal (option_map Fault (in_procedure x (statement_fault (lone vs) true c.args.stmt.now))))) (sym e)
    (subst (λ (s : Statement). IsRefusal (option_map Fault (in_procedure x (statement_fault (lone vs) true s))) r) q w)
