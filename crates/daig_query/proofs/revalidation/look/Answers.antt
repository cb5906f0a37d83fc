use Rattle.std.proofs.Common.{◌≡◌, length, refl, rules, sym, subst, arith}
use Rattle.std.proofs.lemmas.Bool.Decides.{nat_tests}
use Rattle.daig_query.specs.Opened.{StaysOpen}
use Rattle.daig_query.specs.Revalidated.{HoldsRead}
use Rattle.daig_query.proofs.Revalidating.{read_taken, read_waits, stays_same, value_none}
use Rattle.daig_query.proofs.revalidation.look.Goals.{then-is_next-2+in_ok-push-in-Some-State, else-is_next-2}
use Rattle.daig_query.proofs.revalidation.look.Goals as goal

pub returns-in-None-clause-looks : goal.returns-in-None-clause-looks
returns-in-None-clause-looks g c =
    let store = c.args.store.now in
    let entry = c.args.entry.now in
    let read = c.args.read in
    let test = c.if-is_next.true in
    let count = c.len.ensures.count in
    let many : length entry.inputs ≡ c.args.place = grind (arith, nat_tests) in
    read_waits (g.D.Domain.operations c.args.dom.now) c.args.flow.now store c.requires.right entry c.requires.entry c.args.place read c.requires.next many
    c.get.result c.get.ensures.path c.get.ensures.name (value_none store.graph.cells read.cell (sym c.in-None.ensures.value))

pub returns-after-is_next-2-clause-stays : goal.returns-after-is_next-2-clause-stays
returns-after-is_next-2-clause-stays g c =
    let dom = g.D.Domain.operations c.args.dom.now in
    let plan = c.args.flow.now in
    let store = c.args.store.now in
    let entry = c.args.entry.now in
    let read = c.args.read in
    let holds : HoldsRead store read = search rules in
    elim c.if-is_next-2.branch [
      | then-is_next-2+in_ok-push-in-Some-State w ↦
          let test = w.if-is_next-2.true in
          let count = c.len.ensures.count in
          let many : length entry.inputs ≡ c.args.place = grind (arith, nat_tests) in
          subst (StaysOpen dom plan store entry) (sym w.entry-is) (
          read_taken dom plan store c.requires.right entry c.requires.entry c.args.place read c.requires.next many holds w.push.new.self w.in_ok-push-in-Some-State.ensures.added)
      | else-is_next-2 w ↦
          subst (StaysOpen dom plan store entry) (sym w.entry-is) (stays_same dom plan store entry c.requires.entry entry.inputs refl)
    ]
