use Rattle.std.proofs.Common.{◌≡◌, ℕ, ◌<◌, length, None, Option, Some, slice_set, slice_index_or, sym, ap, ◌∙◌, subst, arith}
use Rattle.daig_graph.specs.declared.owned.OwnedCell.{OwnedCell}
use Rattle.daig_graph.specs.Buckets.{bucket_of}
use Rattle.daig_graph.specs.Owners.{first_owned, owned_at, AreOwned}
use Rattle.daig_graph.proofs.Owning.{Sets, owned-put, owners, owners-put, owners-are, put_sets, owned_place, set_place, not_there, owner-at, first_place}
use Rattle.std.proofs.lemmas.List.{get_or_default, length-set}
use Rattle.daig_graph.proofs.owned.Owned.put.Goals.{After-index-next}
use Rattle.daig_graph.proofs.owned.Owned.put.Goals as goal

next-is : (c : After-index-next) → c.index-next.result.now ≡ first_owned c.self.inside.firsts.items (bucket_of c.args.owner)
next-is c =
    let list = c.bucket-list.ensures.is in
    let lists = ap (λ v. v.lists) c.self.view_is in
    c.index-next.ensures
    ∙ get_or_default c.self.inside.firsts.items c.bucket-list.result c.index-next.result.now None (omega (arith, c.requires.list, list, lists))
    ∙ ap (first_owned c.self.inside.firsts.items) list

cells-are : (c : After-index-next) → owners c.self.inside.members.items ≡ c.args.self.now.of
cells-are c = ap (λ v. v.of) c.self.view_is

place : (c : After-index-next) → c.args.cell < length c.self.inside.members.items
place c = owned_place c.self.inside.members.items c.args.self.now.of c.args.cell (cells-are c) c.requires.place

none : (c : After-index-next) → owned_at c.self.inside.members.items c.args.cell ≡ None
none c =
    not_there c.self.inside.members.items c.args.cell
    (sym (owner-at c.self.inside.members.items c.args.cell) ∙ ap (λ s. slice_index_or s c.args.cell None) (cells-are c) ∙ c.requires.none)

list : (c : After-index-next) → bucket_of c.args.owner < length c.self.inside.firsts.items
list c = let lists = ap (λ v. v.lists) c.self.view_is in omega (arith, c.requires.list, lists)

pub set_before-requires : goal.set_before-requires
set_before-requires c =
    let p = (goal.at.set_before-requires c).After-index-next in
    record {
      there = λ n e. set_place c.self.inside.members.items c.args.cell _ n
          (first_place c.self.inside.members.items c.self.inside.firsts.items c.self.invariant (bucket_of c.args.owner) n (sym (next-is p) ∙ e));
    }

sets : (c : goal.After-set_before) → Sets (slice_set c.self.inside.members.items c.args.cell (Some (record { owner = c.args.owner; before = None; next = first_owned c.self.inside.firsts.items (bucket_of c.args.owner) })))
    c.set_before.new.members.items (first_owned c.self.inside.firsts.items (bucket_of c.args.owner)) (λ (m : OwnedCell). record m { before = Some c.args.cell })
sets c =
    put_sets c.self.inside.members.items c.set_before.new.members.items c.args.cell c.args.owner
    c.none.result None c.index-next.result.now (first_owned c.self.inside.firsts.items (bucket_of c.args.owner)) c.to-link.result (Some c.args.cell)
    c.none.ensures.none (next-is (goal.at.returns c).After-index-next) c.to-link.ensures.cell
    (record { set = c.set_before.ensures.set; others = c.set_before.ensures.others; places = c.set_before.ensures.places })

pub invariant_of-self : goal.invariant_of-self
invariant_of-self c =
    let p = (goal.at.invariant_of-self c).After-index-next in
    let members = c.set_before.new.members.items in
    let P : ℕ → Type 0 = λ l. AreOwned members (slice_set c.self.inside.firsts.items l c.to-link.result) in
    let Q : Option ℕ → Type 0 = λ o. AreOwned members (slice_set c.self.inside.firsts.items (bucket_of c.args.owner) o) in
    subst P (sym c.bucket-list.ensures.is) (subst Q (sym c.to-link.ensures.cell)
    (owned-put c.self.inside.members.items members c.self.inside.firsts.items c.args.cell c.args.owner c.self.invariant (none p) (place p) (list p) (sets c)))

pub returns : goal.returns
returns c =
    let p = (goal.at.returns c).After-index-next in
    let old = c.self.inside.members.items in
    record {
      put = owners-are _ _ _ _
          (owners-put old c.set_before.new.members.items c.self.inside.firsts.items c.args.cell c.args.owner c.self.invariant (none p) (place p) (list p) (sets c)
          ∙ ap (λ s. slice_set s c.args.cell (Some c.args.owner)) (cells-are p))
          (length-set c.self.inside.firsts.items c.bucket-list.result c.to-link.result ∙ ap (λ v. v.lists) c.self.view_is);
    }
