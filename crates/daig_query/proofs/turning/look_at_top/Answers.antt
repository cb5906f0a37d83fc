use Rattle.std.proofs.Common.{◌≡◌, ℕ, suc, ◌-◌, List, [], ◌∷◌, ◌++◌, length, Option, option_map, get_or, set, refl, sym, ap, ◌∙◌, arith}
use Rattle.std.specs.Prelude.{Result, Ok, Err, IfOk, OnErr, vec_len}
use Rattle.domain_laws.specs.Operations.{Operations}
use Rattle.imp_flow.specs.Plans.{Plan}
use Rattle.imp_flow_rows.specs.declared.row.Row.{Row}
use Rattle.daig_query.specs.declared.opening.Absent.{Absent}
use Rattle.daig_query.specs.declared.opening.Open.{Open}
use Rattle.daig_query.specs.declared.store.Store.{Store}
use Rattle.daig_query.specs.Opened.{unfound, IsFurther, IsNext}
use Rattle.daig_query.specs.Looked.{HasFurtherTop, LooksAtTop}
use Rattle.daig_query.proofs.Lists.{last_set}
use Rattle.daig_query.proofs.turning.look_at_top.Goals as goal

module _ {S : Type 0} (dom : Operations S) (plan : Plan) (store : Store S) (row : Row) (stack : List Open) (n : ℕ) (size : length stack ≡ suc n) (top entry : Open) (is : top ≡ get_or stack n top) (further : IsFurther dom plan store row top entry) where
  abbrev has_further : HasFurtherTop dom plan store row stack (set stack n entry)
  has_further =
      let p = last_set stack top entry n size in
      record { rest = p.0; top = top; entry = entry; before = p.1 ∙ ap (λ o. p.0 ++ o ∷ []) (sym is); after = p.2; further = further }

  looked : {E : Type 0} (r : Result (Option Absent) E) → IfOk r (λ found. IsNext dom plan store entry (option_map unfound found)) → IfOk r (LooksAtTop dom plan store row stack (set stack n entry))
  looked (Ok found) h = record { stack = has_further; next = h }
  looked (Err e) h = tt

  failed : {E : Type 0} (r : Result (Option Absent) E) → OnErr r (HasFurtherTop dom plan store row stack (set stack n entry))
  failed (Ok found) = tt
  failed (Err e) = has_further

pub next_absent-requires : goal.next_absent-requires
next_absent-requires g c =
    let stack = c.args.stack.now in
    let top = c.in-Some.top.now in
    let size : length stack.items ≡ suc (vec_len stack - 1) = omega (arith, stack.ok, c.in-Some.ensures.variant.0 refl) in
    let p = last_set stack.items top top (vec_len stack - 1) size in
    record { at = c.requires.top p.0 top (p.1 ∙ ap (λ o. p.0 ++ o ∷ []) (sym c.in-Some.ensures.value)) }

pub returns-clause-looks : goal.returns-clause-looks
returns-clause-looks g c =
    let dom = g.D.Domain.operations c.args.dom.now in
    let stack = c.args.stack.now in
    let size : length stack.items ≡ suc (vec_len stack - 1) = omega (arith, stack.ok, c.in-Some.ensures.variant.0 refl) in
    looked dom c.args.flow.now c.next_absent.new.store c.args.row.now stack.items (vec_len stack - 1) size c.in-Some.top.now c.next_absent.new.entry c.in-Some.ensures.value c.next_absent.ensures.further c.next_absent.result c.next_absent.ensures.next

pub returns-clause-err : goal.returns-clause-err
returns-clause-err g c =
    let dom = g.D.Domain.operations c.args.dom.now in
    let stack = c.args.stack.now in
    let size : length stack.items ≡ suc (vec_len stack - 1) = omega (arith, stack.ok, c.in-Some.ensures.variant.0 refl) in
    failed dom c.args.flow.now c.next_absent.new.store c.args.row.now stack.items (vec_len stack - 1) size c.in-Some.top.now c.next_absent.new.entry c.in-Some.ensures.value c.next_absent.ensures.further c.next_absent.result
