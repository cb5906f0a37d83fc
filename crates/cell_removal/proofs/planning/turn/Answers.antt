use Rattle.std.proofs.Common.{◌≡◌, ℕ, ◌-◌, List, [], ◌∷◌, ◌++◌, length, get_or, set, take, sym, ap, subst, ◌∙◌, arith}
use Rattle.daig_graph.specs.Held.{IsIn}
use Rattle.daig_graph.specs.declared.graph.Use.{Use}
use Rattle.cell_removal.specs.declared.planning.Open.{Open}
use Rattle.cell_removal.specs.Marks.{HasMark}
use Rattle.cell_removal.specs.Removal.{IsFirst}
use Rattle.cell_removal.specs.Turns.{Turns}
use Rattle.cell_removal.proofs.Ins.{in_last}
use Rattle.cell_removal.proofs.Tops.{top-size, top-set, top-get, top-take, split_top}
use Rattle.cell_removal.proofs.Turns.{takes, goes}
use Rattle.cell_removal.proofs.planning.turn.Goals as goal

-- the element at the last place is the top
is-top : (stack below : List Open) (o top : Open) (last : ℕ) → stack ≡ below ++ o ∷ [] → length stack - 1 ≡ last → top ≡ get_or stack last top → top ≡ o
is-top stack below o top last e size value =
    let n = top-size stack below o e in
    value ∙ ap (λ k. get_or stack k top) (omega (arith, n, size)) ∙ ap (λ xs. get_or xs (length below) top) e ∙ top-get o below top

-- with another top
set-top : (stack below : List Open) (o p : Open) (last : ℕ) → stack ≡ below ++ o ∷ [] → length stack - 1 ≡ last → set stack last p ≡ below ++ p ∷ []
set-top stack below o p last e size =
    let n = top-size stack below o e in
    ap (λ k. set stack k p) (omega (arith, n, size)) ∙ ap (λ xs. set xs (length below) p) e ∙ top-set o below p

pub add-requires : goal.add-requires
add-requires g c =
    let stack = c.args.stack.now in
    let s = split_top stack.items (omega (arith, stack.ok, c.requires.some)) in
    let is = is-top stack.items s.0 s.1 c.index_mut-top.result.now (c.len-last.result - 1) s.2 (omega (arith, stack.ok, c.len-last.ensures)) c.index_mut-top.ensures.value in
    let u : Use = record { cell = c.in-Some.user; place = c.in-Some.ensures.next.place } in
    let P : Open → Type 0 = λ z. IsIn z.users u in
    let Q : List Open → Type 0 = λ xs. IsIn xs s.1 in
    record { room = c.requires.room c.in-Some.user (c.requires.users s.1 u (subst Q (sym s.2) (in_last s.1 s.0)) (subst P is c.in-Some.ensures.next.there)) }

pub returns-in_ok-push-in-None-clause-turns : goal.returns-in_ok-push-in-None-clause-turns
returns-in_ok-push-in-None-clause-turns g c below o e =
    let stack = c.args.stack.now in
    let last = c.len-last.result - 1 in
    let size : length stack.items - 1 ≡ last = omega (arith, stack.ok, c.len-last.ensures) in
    let top : Open = record { cell = c.index_mut-top.result.now.cell; users = c.next_user.new.users } in
    let is = is-top stack.items below o c.index_mut-top.result.now last e size c.index_mut-top.ensures.value in
    let s = set-top stack.items below o top last e size in
    let n = top-size stack.items below o e in
    let P : Open → Type 0 = λ z. (u : Use) → IsIn z.users u → HasMark c.args.marks.now u.cell in
    let Q : List Open → Type 0 = λ xs. Turns c.args.graph.now.cells o c.args.marks.now c.args.planned.now.items c.args.marks.now c.push.new.self.items below xs in
    subst Q (sym (c.pop-planned.ensures.rest ∙ ap (take (stack.len - 1)) s ∙ ap (λ k. take k (below ++ top ∷ [])) (omega (arith, stack.ok, n)) ∙ top-take top below))
    (takes c.args.graph.now.cells o c.args.marks.now c.args.planned.now.items c.push.new.self.items below (subst P is c.in-None.ensures.next) (c.in_ok-push-in-None.ensures.items ∙ ap (λ z. c.args.planned.now.items ++ z.cell ∷ []) is))

pub returns-in_ok-push-in-Some-clause-turns : goal.returns-in_ok-push-in-Some-clause-turns
returns-in_ok-push-in-Some-clause-turns g c below o e =
    let stack = c.args.stack.now in
    let last = c.len-last.result - 1 in
    let size : length stack.items - 1 ≡ last = omega (arith, stack.ok, c.len-last.ensures) in
    let top : Open = record { cell = c.index_mut-top.result.now.cell; users = c.next_user.new.users } in
    let is = is-top stack.items below o c.index_mut-top.result.now last e size c.index_mut-top.ensures.value in
    let P : Open → Type 0 = λ z. IsFirst (HasMark c.args.marks.now) z.users c.next_user.new.users c.in-Some.user in
    goes c.args.graph.now.cells o top c.opened.result c.args.marks.now c.args.planned.now.items c.add.new.self below (set stack.items last top) c.push-in-Some.new.self.items c.in-Some.user (ap (λ z. z.cell) is) (subst P is c.in-Some.ensures.next) c.opened.ensures.opened
    c.add.ensures.puts (set-top stack.items below o top last e size) c.in_ok-push-in-Some.ensures.items
