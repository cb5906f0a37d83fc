use Rattle.std.proofs.Common.{◌≡◌, ℕ, List, ◌∷◌, [], ◌++◌, Option, None, refl, ap, ◌∙◌, arith}
use Rattle.daig_graph.specs.declared.owned.OwnedCell.{OwnedCell}
use Rattle.daig_graph.specs.Owners.{owned_at, owner_at, first_owned}
use Rattle.daig_graph.proofs.Owning.{owners, owned-along, owners-along, push-none, push_length}
use Rattle.daig_graph.proofs.owned.Owned.reserve.Goals.{After-loop-self, In_ok-push}
use Rattle.daig_graph.proofs.owned.Owned.reserve.Goals as goal

pushed-same : (c : In_ok-push) (n : ℕ) → owned_at c.push.new.self.items n ≡ owned_at c.loop-self.self-inside.members.items n
pushed-same c n = ap (λ s. owned_at s n) c.in_ok-push.ensures.items ∙ push-none c.loop-self.self-inside.members.items n

-- the owners are what they were
loop-same : (c : After-loop-self) (n : ℕ) → owner_at (owners c.loop-self.self-inside.members.items) n ≡ owner_at c.args.self.now.of n
loop-same c n = owners-along c.self.inside.members.items c.loop-self.self-inside.members.items (λ m. c.loop-self.invariant.same m ∙ ap (λ s. owned_at s m) c.make_room.ensures.same) n ∙ ap (λ s. owner_at s n) (ap (λ v. v.of) c.self.view_is)

pub loop-self-preserved : goal.loop-self-preserved
loop-self-preserved c =
    let old : List (Option OwnedCell) = c.loop-self.self-inside.members.items in
    let long = push_length old None c.push.new.self.items c.in_ok-push.ensures.items in
    record {
      inv = owned-along old c.push.new.self.items c.loop-self.self-inside.firsts.items c.loop-self.self-inside.firsts.items (pushed-same c) (λ l. refl) (omega arith) c.loop-self.invariant.inv;
      same = λ n. pushed-same c n ∙ c.loop-self.invariant.same n;
      lists = c.loop-self.invariant.lists;
      kept = omega (arith, long, c.loop-self.invariant.kept);
      most = omega (arith, long, c.loop-self-test.true, c.len.ensures);
    }

pub returns-in_err-push-clause-same : goal.returns-in_err-push-clause-same
returns-in_err-push-clause-same c n = ap (λ s. owner_at (owners s) n) c.in_err-push.ensures.items ∙ owners-along c.self.inside.members.items c.loop-self.self-inside.members.items (λ m. c.loop-self.invariant.same m ∙ ap (λ s. owned_at s m) c.make_room.ensures.same) n ∙ ap (λ s. owner_at s n) (ap (λ v. v.of) c.self.view_is)

pub loop-self-2-preserved : goal.loop-self-2-preserved
loop-self-2-preserved c =
    let old : List (Option ℕ) = c.loop-self-2.self-inside.firsts.items in
    let new : List (Option ℕ) = c.push-in-loop-self-2.new.self.items in
    let is : new ≡ old ++ None ∷ [] = c.in_ok-push-2.ensures.items ∙ ap (λ o. old ++ o ∷ []) c.none.ensures.none in
    let long = push_length old None new is in
    let members = c.loop-self-2.self-inside.members.items in
    record {
      inv = owned-along members members old new (λ n. refl) (λ l. ap (λ s. first_owned s l) is ∙ push-none old l) (omega (arith, long)) c.loop-self-2.invariant.inv;
      members = c.loop-self-2.invariant.members;
    }

pub returns-in_err-push-2-clause-same : goal.returns-in_err-push-2-clause-same
returns-in_err-push-2-clause-same c n = ap (λ s. owner_at (owners s) n) c.loop-self-2.invariant.members ∙ loop-same (goal.at.returns-in_err-push-2-clause-same c).After-loop-self n

pub returns-clause-same : goal.returns-clause-same
returns-clause-same c n = ap (λ s. owner_at (owners s) n) c.loop-self-2.invariant.members ∙ loop-same (goal.at.returns-clause-same c).After-loop-self n
