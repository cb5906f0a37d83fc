-- A session that is ready stands for a machine.
use Rattle.std.proofs.Common.{◌≡◌, suc, true, List, [], ◌∷◌, filter, Option, Some, None, is_some, refl, subst, arith}
use Rattle.std.proofs.lemmas.Bool.{false_from_ne_true}
use std.Path.{fun_ext}
use Rattle.domain_laws.specs.Operations.{Operations}
use Rattle.imp_check.specs.Slots.{routines_of}
use Rattle.cell_names.specs.Known.{IsOnce}
use Rattle.cell_names.specs.Paths.{CellName}
use Rattle.daig_order.specs.Order.{member}
use Rattle.daig_order.specs.OrderLaws.{IsDistinct}
use Rattle.cell_kept_set.specs.Touched.{AreCells}
use Rattle.daig_graph.specs.Cells.{Filled}
use Rattle.cell_graph.specs.Same.{same_name}
use Rattle.cell_graph.specs.Named.{filled_at}
use Rattle.cell_graph.proofs.Same.{same_is}
use Rattle.cell_graph.proofs.Numbers.{at_member, filled_named, member_at}
use Rattle.daig_query.specs.declared.held.Held.{Held}
use Rattle.daig_query.specs.declared.store.Store.{Store}
use Rattle.daig_query.specs.Kept.{kept}
use Rattle.daig_machine.proofs.Lists.{filter_distinct, filter_holds, filter_there}
use Rattle.daig_session.specs.declared.book.Book.{Book}
use Rattle.daig_session.specs.Books.{machine_of}
use Rattle.daig_session.specs.Holds.{Holds, IsReady}
use Rattle.daig_session.proofs.Moved.{both_ways}

once_distinct : (xs : List CellName) → IsOnce xs → IsDistinct same_name xs
once_distinct [] once = tt
once_distinct (x ∷ xs) once = (
  false_from_ne_true (member same_name xs x) (λ m. let p = member_at xs x m in let e : 0 ≡ suc p.0 = once 0 (suc p.0) x refl p.1 in omega arith),
  once_distinct xs (λ k n y h j. (let e : suc k ≡ suc n = once (suc k) (suc n) y h j in omega arith)),
)

module _ {S : Type 0} (dom : Operations S) (store : Store S) (book : Book) (r : IsReady dom store book) where
  abbrev pub names : List CellName
  names = filter (kept store) store.names.names

  named : (x : CellName) (o : Option (Filled Held)) → filled_at store.graph.cells store.names.names x ≡ o → is_some o ≡ true → member same_name store.names.names x ≡ true
  named x None e h = absurd cc
  named x (Some f) e h = let p = filled_named store.graph.cells store.names.names x f e in at_member store.names.names p.0 x p.1

  same_names : (x : CellName) → kept store x ≡ member same_name names x
  same_names x = both_ways (kept store x) (member same_name names x)
      (λ h. filter_there same_name same_is.same_true (kept store) store.names.names x (named x (filled_at store.graph.cells store.names.names x) refl h) h)
      (λ m. filter_holds same_name same_is.same_true (kept store) store.names.names x m)

  pub stands : Holds dom store book (machine_of book names)
  stands = record {
    is = refl;
    same = same_names;
    cells = record {
      cells = subst (AreCells dom book.setting.engine (routines_of book.history.now) same_name) (fun_ext same_names) r.right.kept;
      once = filter_distinct same_name (kept store) store.names.names (once_distinct store.names.names r.right.once);
    };
  }
