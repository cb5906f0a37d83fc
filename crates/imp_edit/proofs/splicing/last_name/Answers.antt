use Rattle.std.proofs.Common.{IfOk, List, ℕ, Some, ◌≡◌, ap, sym, subst, ◌∙◌, arith}
use Rattle.std.proofs.lemmas.Option.{slice_get-get_or, slice_get_past}
use Rattle.imp_edit.proofs.SpliceLemmas.{last_name, no_last}
use Rattle.imp_edit.proofs.splicing.last_name.Goals as goal

pub returns-in_ok-clone-in-Some : goal.returns-in_ok-clone-in-Some
returns-in_ok-clone-in-Some c =
    let hs = c.procs-heads.result.now in
    let i = c.saturating_sub.result in
    let h = c.in-Some.head.now in
    let w = c.in-Some.ensures.lookup in
    record { is = c.in_ok-clone-in-Some.ensures.cases ∙ c.name.ensures.is ∙ last_name c.args.table.now.program hs i h c.procs-heads.ensures.are (omega (arith, c.saturating_sub.ensures)) (sym (slice_get-get_or hs i h w.3.0 ∙ ap Some (sym w.1))) }

pub returns-in-None : goal.returns-in-None
returns-in-None c =
    let hs = c.procs-heads.result.now in
    let i = c.saturating_sub.result in
    record { is = subst (λ (x : List ℕ). IfOk c.from_slice.result (λ name. name ≡ x)) (no_last c.args.table.now.program hs i c.procs-heads.ensures.are (omega (arith, c.saturating_sub.ensures)) (sym (slice_get_past hs i c.in-None.ensures.lookup.3))) c.from_slice.ensures.same }
