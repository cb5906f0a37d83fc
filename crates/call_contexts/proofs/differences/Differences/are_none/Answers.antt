use Rattle.std.proofs.Common.{◌≡◌, ℕ, List, subst}
use Rattle.std.specs.Bool.{OnTrue}
use Rattle.call_contexts.proofs.differences.Differences.are_none.Goals as goal

pub returns : goal.returns
returns c =
    let told = subst (λ (gs : List (List ℕ)). OnTrue c.are_alike.result (c.as_slice.result.now ≡ gs)) c.as_slice-2.ensures.same c.are_alike.ensures.same in
    record { none = subst (λ (ls : List (List ℕ)). OnTrue c.are_alike.result (ls ≡ c.args.self.now.gained)) c.as_slice.ensures.same told }
