use Rattle.std.proofs.Common.{◌≡◌, length, sym, ap, subst, ◌∙◌}
use Rattle.daig_query.specs.declared.opening.Open.{Open}
use Rattle.daig_query.specs.declared.stale.Reads.TheVariants.{Nothing, One, Two}
use Rattle.daig_query.specs.Revalidated.{IsValid}
use Rattle.daig_query.specs.Stale.{stale_at}
use Rattle.daig_query.proofs.Revalidating.{nothing_valid, one_next, one_valid, read_held, stale_with, two_first, two_second, two_valid}
use Rattle.daig_query.proofs.revalidation.revalidate.Goals.{in-Nothing, in-One+in_ok-end-in-One+in_default-2, in-Two+in_ok-end-in-Two+in_default-3+in_ok-end-in-Two-2+in_default-4}
use Rattle.daig_query.proofs.revalidation.revalidate.Goals as goal

pub look-requires-clause-next : goal.look-requires-clause-next
look-requires-clause-next g c =
    let store = c.args.store.now in
    let entry = c.args.entry.now in
    let stale = c.in-Some.stale in
    let only = c.in-One.only in
    one_next (g.D.Domain.operations c.args.dom.now) c.args.flow.now store c.requires.right entry c.requires.entry stale.held only
    (stale_with store.stale entry.cell stale (One only) c.in-Some.ensures.is c.in-One.is)

pub look-requires-in-Two-clause-next : goal.look-requires-in-Two-clause-next
look-requires-in-Two-clause-next g c =
    let store = c.args.store.now in
    let entry = c.args.entry.now in
    let stale = c.in-Some.stale in
    let left = c.in-Two.left in
    let right = c.in-Two.right in
    two_first (g.D.Domain.operations c.args.dom.now) c.args.flow.now store c.requires.right entry c.requires.entry stale.held left right
    (stale_with store.stale entry.cell stale (Two left right) c.in-Some.ensures.is c.in-Two.is)

pub look-requires-in-Two-2-clause-next : goal.look-requires-in-Two-2-clause-next
look-requires-in-Two-2-clause-next g c =
    let store = c.args.store.now in
    let stale = c.in-Some.stale in
    let left = c.in-Two.left in
    let right = c.in-Two.right in
    let stays = c.look-in-Two.ensures.stays in
    two_second (g.D.Domain.operations c.args.dom.now) c.args.flow.now store c.requires.right c.look-in-Two.new.entry stays.entry stale.held left right
    (ap (stale_at store.stale) stays.cell ∙ stale_with store.stale c.args.entry.now.cell stale (Two left right) c.in-Some.ensures.is c.in-Two.is)
    (read_held (g.D.Domain.operations c.args.dom.now) c.args.flow.now store c.look-in-Two.new.entry left c.in_ok-end-in-Two.field-0 c.in_ok-end-in-Two.ensures.looks c.in_default-3.is)

pub returns-then-len-count-clause-finds : goal.returns-then-len-count-clause-finds
returns-then-len-count-clause-finds g c =
    let dom = g.D.Domain.operations c.args.dom.now in
    let plan = c.args.flow.now in
    let store = c.args.store.now in
    let entry = c.args.entry.now in
    let stale = c.in-Some.stale in
    let held = stale.held in
    let size : length c.match-stale.entry.inputs ≡ c.match-stale.count = sym c.len.ensures.count ∙ c.if-len-count.true in
    elim c.match-stale.branch [
      | in-Nothing w ↦
          let many = ap (λ (o : Open). length o.inputs) (sym w.entry-is) ∙ size ∙ w.count-is in
          let was = stale_with store.stale entry.cell stale Nothing c.in-Some.ensures.is w.in-Nothing.is in
          subst (λ o. IsValid dom plan store o held) (sym w.entry-is) (nothing_valid dom plan store c.requires.right entry c.requires.entry held was many)
      | in-One+in_ok-end-in-One+in_default-2 w ↦
          let many = ap (λ (o : Open). length o.inputs) (sym w.entry-is) ∙ size ∙ w.count-is in
          let only = w.in-One.only in
          let stays = w.look.ensures.stays in
          let was = ap (stale_at store.stale) stays.cell ∙ stale_with store.stale entry.cell stale (One only) c.in-Some.ensures.is w.in-One.is in
          let holds = read_held dom plan store w.look.new.entry only w.in_ok-end-in-One.field-0 w.in_ok-end-in-One.ensures.looks w.in_default-2.is in
          subst (λ o. IsValid dom plan store o held) (sym w.entry-is) (one_valid dom plan store c.requires.right w.look.new.entry stays.entry held only was holds many)
      | in-Two+in_ok-end-in-Two+in_default-3+in_ok-end-in-Two-2+in_default-4 w ↦
          let many = ap (λ (o : Open). length o.inputs) (sym w.entry-is) ∙ size ∙ w.count-is in
          let left = w.in-Two.left in
          let right = w.in-Two.right in
          let first = w.look-in-Two.ensures.stays in
          let second = w.look-in-Two-2.ensures.stays in
          let was = ap (stale_at store.stale) (second.cell ∙ first.cell) ∙ stale_with store.stale entry.cell stale (Two left right) c.in-Some.ensures.is w.in-Two.is in
          let holds = read_held dom plan store w.look-in-Two.new.entry left w.in_ok-end-in-Two.field-0 w.in_ok-end-in-Two.ensures.looks w.in_default-3.is in
          let also = read_held dom plan store w.look-in-Two-2.new.entry right w.in_ok-end-in-Two-2.field-0 w.in_ok-end-in-Two-2.ensures.looks w.in_default-4.is in
          subst (λ o. IsValid dom plan store o held) (sym w.entry-is) (two_valid dom plan store c.requires.right w.look-in-Two-2.new.entry second.entry held left right was holds also many)
    ]
