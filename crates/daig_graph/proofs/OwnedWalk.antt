-- A walk over the cells of a list.
use Rattle.std.proofs.Common.{◌≡◌, ℕ, ◌<◌, ◌↔◌, List, length, Option, Some, sym, ap, ◌∙◌, subst}
use Rattle.daig_graph.specs.declared.owned.OwnedCell.{OwnedCell}
use Rattle.daig_graph.specs.Buckets.{bucket_of}
use Rattle.daig_graph.specs.Held.{IsIn, IsOnce}
use Rattle.daig_graph.specs.Linked.{Member}
use Rattle.daig_graph.specs.Owners.{owned_member, first_owned, next_owned, after_owned, owned_from, AreOwned, IsListed}
use Rattle.daig_graph.specs.Walks.{IsWalk}
use Rattle.daig_graph.proofs.Owning.{owners, owner-at, owner_there, of_member, of_owner, member_there, place_of}
use Rattle.daig_graph.proofs.Walking.{whole-list, once-list, items-list}

module _ (cells : List (Option OwnedCell)) (firsts : List (Option ℕ)) (inv : AreOwned cells firsts) (list : ℕ) where
  after : (n : ℕ) (m : Member ℕ) → owned_member cells n ≡ Some m → next_owned cells n ≡ m.next
  after n m e = let o = of_member cells n m e in ap after_owned o.1 ∙ sym (ap (λ (i : Member ℕ). i.next) o.2)

  within : (n : ℕ) (m : Member ℕ) → owned_member cells n ≡ Some m → n < length cells
  within n m e = let o = of_member cells n m e in place_of cells n o.0 o.1

  whole : IsWalk (next_owned cells) (first_owned firsts list) (owned_from cells (first_owned firsts list))
  whole = whole-list (next_owned cells) (owned_member cells) (first_owned firsts) inv.linked after (λ n. n) (length cells) within (λ j k m n e f same. same) list

  once : IsOnce (owned_from cells (first_owned firsts list))
  once = once-list (next_owned cells) (owned_member cells) (first_owned firsts) inv.linked after (λ n. n) (length cells) within (λ j k m n e f same. same) list

  items : (x : ℕ) → IsIn (owned_from cells (first_owned firsts list)) x ↔ IsListed (owners cells) list x
  items x =
      let h = items-list (next_owned cells) (owned_member cells) (first_owned firsts) inv.linked after (λ n. n) (length cells) within (λ j k m n e f same. same) list x in (
        λ i.
            let m = h.0 i in
            let o = of_member cells x m.0 m.1 in
            (o.0.owner, owner-at cells x ∙ owner_there cells x o.0 o.1, sym (ap (λ (n : Member ℕ). n.list) o.2) ∙ m.2),
        λ l.
            let o = of_owner cells x l.0 (sym (owner-at cells x) ∙ l.1) in
            h.1 (_, member_there cells x o.0 o.1, ap bucket_of o.2 ∙ l.2),
      )

  module _ (members : List (Option OwnedCell)) (next : Option ℕ) (members_are : members ≡ cells) (next_is : next ≡ first_owned firsts list) where
    pub whole-owned : IsWalk (next_owned members) next (owned_from members next)
    whole-owned =
        let P : List (Option OwnedCell) → Type 0 = λ s. IsWalk (next_owned s) next (owned_from s next) in
        let Q : Option ℕ → Type 0 = λ o. IsWalk (next_owned cells) o (owned_from cells o) in
        subst P (sym members_are) (subst Q (sym next_is) whole)

    from-same : owned_from members next ≡ owned_from cells (first_owned firsts list)
    from-same = ap (λ s. owned_from s next) members_are ∙ ap (owned_from cells) next_is

    pub once-owned : IsOnce (owned_from members next)
    once-owned = let P : List ℕ → Type 0 = IsOnce in subst P (sym from-same) once

    pub items-owned : (of : List (Option ℕ)) → owners cells ≡ of → (x : ℕ) → IsIn (owned_from members next) x ↔ IsListed of list x
    items-owned of e x =
        let P : List ℕ → Type 0 = λ s. IsIn s x ↔ IsListed of list x in
        let Q : List (Option ℕ) → Type 0 = λ s. IsIn (owned_from cells (first_owned firsts list)) x ↔ IsListed s list x in
        subst P (sym from-same) (subst Q e (items x))
