use Rattle.std.proofs.Common.{◌≡◌, ℕ, suc, ◌-◌, List, [], ◌∷◌, ◌++◌, length, get_or, set, refl, sym, ap, ◌∙◌, arith}
use Rattle.std.specs.Prelude.{Result, Ok, Err, IfOk, OnErr, vec_len}
use Rattle.domain_laws.specs.Operations.{Operations}
use Rattle.imp_flow.specs.Plans.{Plan}
use Rattle.daig_query.specs.declared.opening.Open.{Open}
use Rattle.daig_query.specs.declared.revalidation.Revalidation.{Revalidation}
use Rattle.daig_query.specs.declared.store.Store.{Store}
use Rattle.daig_query.specs.Opened.{StaysOpen}
use Rattle.daig_query.specs.Looked.{HasOpenTop}
use Rattle.daig_query.specs.Revalidated.{Finds, FindsOnTop}
use Rattle.daig_query.proofs.Lists.{last_set}
use Rattle.daig_query.proofs.turning.revalidate_top.Goals as goal

module _ {S : Type 0} (dom : Operations S) (plan : Plan) (store : Store S) (stack : List Open) (n : ℕ) (size : length stack ≡ suc n) (top entry : Open) (is : top ≡ get_or stack n top) (stays : StaysOpen dom plan store top entry) where
  abbrev has_open : HasOpenTop dom plan store stack (set stack n entry)
  has_open =
      let p = last_set stack top entry n size in
      record { rest = p.0; top = top; entry = entry; before = p.1 ∙ ap (λ o. p.0 ++ o ∷ []) (sym is); after = p.2; stays = stays }

  looked : {E : Type 0} (r : Result Revalidation E) → IfOk r (Finds dom plan store entry) → IfOk r (FindsOnTop dom plan store stack (set stack n entry))
  looked (Ok end) h = record { stack = has_open; finds = h }
  looked (Err e) h = tt

  failed : {E : Type 0} (r : Result Revalidation E) → OnErr r (HasOpenTop dom plan store stack (set stack n entry))
  failed (Ok found) = tt
  failed (Err e) = has_open

pub revalidate-requires-clause-entry : goal.revalidate-requires-clause-entry
revalidate-requires-clause-entry g c =
    let stack = c.args.stack.now in
    let top = c.in-Some.top.now in
    let size : length stack.items ≡ suc (vec_len stack - 1) = omega (arith, stack.ok, c.in-Some.ensures.variant.0 refl) in
    let p = last_set stack.items top top (vec_len stack - 1) size in
    c.requires.top p.0 top (p.1 ∙ ap (λ o. p.0 ++ o ∷ []) (sym c.in-Some.ensures.value))

pub returns-clause-finds : goal.returns-clause-finds
returns-clause-finds g c =
    let dom = g.D.Domain.operations c.args.dom.now in
    let stack = c.args.stack.now in
    let size : length stack.items ≡ suc (vec_len stack - 1) = omega (arith, stack.ok, c.in-Some.ensures.variant.0 refl) in
    looked dom c.args.flow.now c.args.store.now stack.items (vec_len stack - 1) size c.in-Some.top.now c.revalidate.new.entry c.in-Some.ensures.value c.revalidate.ensures.stays c.revalidate.result c.revalidate.ensures.finds

pub returns-clause-err : goal.returns-clause-err
returns-clause-err g c =
    let dom = g.D.Domain.operations c.args.dom.now in
    let stack = c.args.stack.now in
    let size : length stack.items ≡ suc (vec_len stack - 1) = omega (arith, stack.ok, c.in-Some.ensures.variant.0 refl) in
    failed dom c.args.flow.now c.args.store.now stack.items (vec_len stack - 1) size c.in-Some.top.now c.revalidate.new.entry c.in-Some.ensures.value c.revalidate.ensures.stays c.revalidate.result
