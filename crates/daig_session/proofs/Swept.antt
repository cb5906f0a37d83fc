-- A sweep changes nothing of what a session stands for.
use Rattle.std.proofs.Common.{◌≡◌, ◌-◌, sym, ap, subst, ◌∙◌}
use Rattle.std.specs.FinMap.{len}
use Rattle.domain_laws.specs.Operations.{Operations}
use Rattle.imp_flow.specs.Plans.{Plan}
use Rattle.daig_query.specs.declared.store.Store.{Store}
use Rattle.daig_query.specs.Filled.{cells_added}
use Rattle.daig_query.specs.Renamed.{Renames}
use Rattle.daig_query.specs.Swept.{StaysRight, Swept}
use Rattle.daig_query.proofs.Sweeps.{swept-kept, swept-lasts}
use Rattle.daig_machine.specs.Machine.{Machine}
use Rattle.daig_session.specs.declared.book.Book.{Book}
use Rattle.daig_session.specs.Books.{flow_in}
use Rattle.daig_session.specs.Holds.{Holds, IsReady}
use Rattle.daig_session.specs.Moves.{Leaves}
use Rattle.daig_session.proofs.Waiting.{waiting_lasts}

-- as many cells are added to what is swept
pub swept-added : {S : Type 0} (old new later : Store S) → Swept old new → cells_added new later ≡ cells_added old later
swept-added old new later swept = ap (λ n. len later.graph.cells - n) swept.same_len

module _ {S : Type 0} (dom : Operations S) (old new : Store S) (swept : Swept old new) where
  pub swept-ready : (book : Book) → StaysRight dom old new → IsReady dom old book → IsReady dom new book
  swept-ready book stays ready =
      let right = stays (flow_in book) ready.right in
      record { right = right; order = ready.order; waiting = waiting_lasts dom (flow_in book) old new right (swept-lasts old new swept) book.tickets.open_ones.items ready.waiting }

  pub swept-holds : (book : Book) (m : Machine) → Holds dom old book m → Holds dom new book m
  swept-holds book m h = record { is = h.is; same = λ x. swept-kept old new swept x ∙ h.same x; cells = h.cells }

  -- what is left after a move is left after a sweep
  pub swept-leaves : (before : Store S) (from to : Plan) → StaysRight dom old new → Leaves dom from to before old → Leaves dom from to before new
  swept-leaves before from to stays l = record {
    right = stays to l.right;
    names = λ x. (λ t. (l.names x).0 (sym (swept-kept old new swept x) ∙ t), λ k. swept-kept old new swept x ∙ (l.names x).1 k);
  }

-- and what is left after a move is left where its names are swept
pub renamed-leaves : {S : Type 0} (dom : Operations S) (old new : Store S) → Renames old new → (before : Store S) (from to : Plan) → StaysRight dom old new → Leaves dom from to before old → Leaves dom from to before new
renamed-leaves dom old new renames before from to stays l = record {
  right = stays to l.right;
  names = λ x. (λ t. (l.names x).0 (sym (renames.kept x) ∙ t), λ k. renames.kept x ∙ (l.names x).1 k);
}

-- A session after a sweep of its engine, which keeps its domain.
module _ {S : Type 0} (dom after : Operations S) (same : after ≡ dom) (old new : Store S) (swept : Swept old new) (book : Book) where
  pub behind-ready : StaysRight dom old new → IsReady dom old book → IsReady after new book
  behind-ready stays ready = subst (λ (d : Operations S). IsReady d new book) (sym same) (swept-ready dom old new swept book stays ready)

  pub behind-holds : (m : Machine) → Holds dom old book m → Holds after new book m
  behind-holds m h = subst (λ (d : Operations S). Holds d new book m) (sym same) (swept-holds dom old new swept book m h)
