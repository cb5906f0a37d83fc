use Rattle.std.proofs.Common.{◌≡◌, ◌≤◌, ℕ, None, take, refl, sym, ap, ◌∙◌, arith}
use Rattle.daig_graph.specs.Owners.{owned_at, owner_at}
use Rattle.daig_graph.proofs.Owning.{owners, owner-at, owners-are, owners-take, owned-along, not_there, take-none}
use Rattle.daig_graph.proofs.owned.Owned.cut.Goals as goal

cut-is : (c : goal.After-shrink_to_fit) → c.shrink_to_fit.new.self.items ≡ take c.args.room c.self.inside.members.items
cut-is c = c.shrink_to_fit.ensures.items ∙ c.truncate.ensures.items

none : (c : goal.After-shrink_to_fit) (n : ℕ) → c.args.room ≤ n → owned_at c.self.inside.members.items n ≡ None
none c n l =
    not_there c.self.inside.members.items n
    (sym (owner-at c.self.inside.members.items n) ∙ ap (λ s. owner_at s n) (ap (λ v. v.of) c.self.view_is) ∙ c.requires.none n l)

pub invariant_of-self : goal.invariant_of-self
invariant_of-self c =
    owned-along c.self.inside.members.items c.shrink_to_fit.new.self.items c.self.inside.firsts.items c.self.inside.firsts.items
    (λ n. ap (λ s. owned_at s n) (cut-is c) ∙ take-none c.self.inside.members.items c.args.room (none c) n)
    (λ l. refl) (omega arith) c.self.invariant

pub returns : goal.returns
returns c = record {
  cut = owners-are _ _ _ _
      (ap owners (cut-is c) ∙ owners-take c.self.inside.members.items c.args.room ∙ ap (take c.args.room) (ap (λ v. v.of) c.self.view_is))
      (ap (λ v. v.lists) c.self.view_is);
}
