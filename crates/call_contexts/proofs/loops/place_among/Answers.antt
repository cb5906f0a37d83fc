use Rattle.std.proofs.Common.{ℕ, rules}
use Rattle.std.proofs.lemmas.List.Sorted.{answers_always}
use Rattle.call_contexts.proofs.Rising.{placed}
use Rattle.call_contexts.proofs.loops.place_among.Goals as goal

-- the key of a statement is its number
pub returns : goal.returns
returns c =
    let by_number = c.binary_search_by_key.ensures.position (λ (m : ℕ). m) (answers_always _ _ _ (λ f a r g called. search rules)) in
    let p = placed c.args.stmts.now c.args.stmt c.binary_search_by_key.result c.requires.rising (rw c.number.ensures.is at by_number) in
    record { found = p.found; gap = p.gap }
