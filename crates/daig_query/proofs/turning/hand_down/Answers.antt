use Rattle.std.proofs.Common.{◌≡◌, ℕ, suc, ◌-◌, List, [], ◌∷◌, ◌++◌, length, get_or, set, refl, sym, ap, ◌∙◌, inl, inr, arith}
use Rattle.std.specs.Prelude.{Result, Ok, Err, OnOk, OnErr, vec_len}
use Rattle.daig_query.specs.declared.opening.Open.{Open}
use Rattle.daig_query.specs.Turned.{HandsDown}
use Rattle.daig_query.proofs.Lists.{last_set}
use Rattle.daig_query.proofs.turning.hand_down.Goals as goal

handed : {T E : Type 0} (r : Result T E) (cell n : ℕ) (os : List Open) (o : Open) (inputs : List ℕ) → length os ≡ suc n → o ≡ get_or os n o → OnOk r (inputs ≡ o.inputs ++ cell ∷ []) → OnErr r (inputs ≡ o.inputs) →
    HandsDown cell os (set os n (record { cell = o.cell; name = o.name; inputs = inputs }))
handed (Ok t) cell n os o inputs size is added same =
    let p = last_set os o (record { cell = o.cell; name = o.name; inputs = inputs }) n size in
    inr (p.0, o, p.1 ∙ ap (λ u. p.0 ++ u ∷ []) (sym is), p.2 ∙ ap (λ xs. p.0 ++ record { cell = o.cell; name = o.name; inputs = xs } ∷ []) added)
handed (Err e) cell n os o inputs size is added same =
    let p = last_set os o (record { cell = o.cell; name = o.name; inputs = inputs }) n size in
    inl (p.2 ∙ ap (λ xs. p.0 ++ record { cell = o.cell; name = o.name; inputs = xs } ∷ []) same ∙ ap (λ u. p.0 ++ u ∷ []) is ∙ sym p.1)

pub returns-in-Some : goal.returns-in-Some
returns-in-Some c =
    let stack = c.args.stack.now in
    let size : length stack.items ≡ suc (vec_len stack - 1) = omega (arith, stack.ok, c.in-Some.ensures.variant.0 refl) in
    record { hands = handed c.push.result c.args.cell (vec_len stack - 1) stack.items c.in-Some.below.now c.push.new.self size c.in-Some.ensures.value c.push.ensures.added c.push.ensures.err }
