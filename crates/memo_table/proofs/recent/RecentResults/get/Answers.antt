use Rattle.std.proofs.Common.{◌≡◌, ◌<◌, length, Some, false, true, Contains, sym, ap, ◌∙◌, subst, arith}
use Rattle.memo_table.specs.declared.recent.Place.{Place}
use Rattle.memo_table.specs.Recent.{HasSameNumbers, Recent, entries_of, key_of}
use Rattle.memo_table.proofs.Places.{entry-at, same-key, stands-at}
use Rattle.memo_table.proofs.recent.RecentResults.get.Goals as goal

pub returns-then-has_same_key-clause-kept : goal.returns-then-has_same_key-clause-kept
returns-then-has_same_key-clause-kept c =
    let places = c.self.inside.places.items in
    let index = c.index_of.result in
    let place = c.index-place.result.now in
    let key = c.args.key.now in
    let same : HasSameNumbers place c.in_ok-sought.sought = c.has_same_key.ensures.is.0 c.if-has_same_key.true in
    let has : key_of place ≡ Some key = same-key place c.in_ok-sought.sought same ∙ c.in_ok-sought.ensures.key in
    let within : index < length places = omega (arith, c.self.invariant.count, c.index_of.ensures.within) in
    let held = entry-at places index place key within (ap key_of (sym c.index-place.ensures) ∙ has) in
    let P : Place → Type 0 = λ p. Contains (entries_of places) (key, p.state) in
    let Q : Recent → Type 0 = λ r. Contains r.entries (key, place.state) in
    subst Q c.self.view_is (subst P (sym c.index-place.ensures) held)

pub returns-then-has_same_key-clause-found : goal.returns-then-has_same_key-clause-found
returns-then-has_same_key-clause-found c n small h =
    let there = stands-at c.self.inside.last c.self.inside.places.items c.args.self.now.entries c.args.key.now n c.in_ok-sought.sought c.index-place.result.now c.index_of.result (ap (λ (r : Recent). r.entries) c.self.view_is) c.self.invariant c.in_ok-sought.ensures.key c.index_of.ensures.is c.index-place.ensures h in
    ap Some (sym there.1)

pub returns-else-has_same_key-clause-found : goal.returns-else-has_same_key-clause-found
returns-else-has_same_key-clause-found c n small h =
    let there = stands-at c.self.inside.last c.self.inside.places.items c.args.self.now.entries c.args.key.now n c.in_ok-sought.sought c.index-place.result.now c.index_of.result (ap (λ (r : Recent). r.entries) c.self.view_is) c.self.invariant c.in_ok-sought.ensures.key c.index_of.ensures.is c.index-place.ensures h in
    let no : false ≡ true = sym c.if-has_same_key.false ∙ c.has_same_key.ensures.is.1 there.0 in
    cc
