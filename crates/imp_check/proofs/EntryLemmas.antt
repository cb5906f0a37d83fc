-- Entries.
use Rattle.std.proofs.Common.{ℕ, ◌≡◌, ◌+◌, ◌<◌, List, ◌∷◌, ◌++◌, Option, Some, None, length, take, drop, get_or, refl, sym, ap, ◌∙◌, add-one, drop-cons}
use Rattle.std.proofs.Math.Seq.{take-suc}
use Rattle.imp_syntax.specs.Plain.{Statement, Starts, block_of, number_of, Procedure}
use Rattle.imp_check.specs.Entries.{statement_entries, block_entries, procedure_entries, entries_from, heads_of, head_of}
use Rattle.imp_check.specs.Puts.{put_all, with_sites}
use Rattle.imp_check.specs.declared.entry.Entry.{Entry}
use Rattle.imp_check.specs.Slots.{Resolver}
use Rattle.imp_check.specs.declared.entry.Context.{Context}
use Rattle.imp_check.proofs.PartLemmas.{number_at, next_is}
use Rattle.imp_check.proofs.PutLemmas.{all_both, sites_both}
use Rattle.imp_slots.specs.Plain.{Effect}
use Rattle.imp_slots.specs.ActionViews.{action_of, effect_of, action_of-effect_of}
use Rattle.imp_slots.specs.declared.actions.SlotAction.{SlotAction}

pub action_again : (a : SlotAction) (e : Effect) → effect_of a ≡ e → a ≡ action_of e
action_again a e h = sym (action_of-effect_of a) ∙ ap action_of h

-- the entries so far, and those to come
pub entries_step : (ps : List Procedure) (i : ℕ) (p : Procedure) → i < length ps → p ≡ get_or ps i p → entries_from (take i ps) (drop i ps) ≡ procedure_entries (take i ps) p ++ entries_from (take (i + 1) ps) (drop (i + 1) ps)
entries_step ps i p h e = rw (drop-cons ps i p, add-one, take-suc ps i p, ← e) refl

-- a procedure more, whose entries are put
pub put_step : (ps : List Procedure) (i : ℕ) (p : Procedure) (old new : List (Option Entry)) → i < length ps → p ≡ get_or ps i p → new ≡ put_all (procedure_entries (take i ps) p) old → put_all (entries_from (take (i + 1) ps) (drop (i + 1) ps)) new ≡ put_all (entries_from (take i ps) (drop i ps)) old
put_step ps i p old new h e q =
    ap (put_all (entries_from (take (i + 1) ps) (drop (i + 1) ps))) q
    ∙ sym (ap (λ es. put_all es old) (entries_step ps i p h e) ∙ all_both (procedure_entries (take i ps) p) (entries_from (take (i + 1) ps) (drop (i + 1) ps)) old)

pub sites_step : (ps : List Procedure) (i : ℕ) (p : Procedure) (old new : List (List ℕ)) → i < length ps → p ≡ get_or ps i p → new ≡ with_sites (procedure_entries (take i ps) p) old → with_sites (entries_from (take (i + 1) ps) (drop (i + 1) ps)) new ≡ with_sites (entries_from (take i ps) (drop i ps)) old
sites_step ps i p old new h e q =
    ap (with_sites (entries_from (take (i + 1) ps) (drop (i + 1) ps))) q
    ∙ sym (ap (λ es. with_sites es old) (entries_step ps i p h e) ∙ sites_both (procedure_entries (take i ps) p) (entries_from (take (i + 1) ps) (drop (i + 1) ps)) old)

pub heads_step : (ps : List Procedure) (i : ℕ) (p : Procedure) → i < length ps → p ≡ get_or ps i p → heads_of (drop i ps) ≡ head_of p ∷ heads_of (drop (i + 1) ps)
heads_step ps i p h e = rw (drop-cons ps i p, add-one, ← e) refl

-- a statement more of a block
block_step : (f : Resolver) (c : Context) (front : Option ℕ) (ss : List Statement) (i : ℕ) (s : Statement) → i < length ss → s ≡ get_or ss i s → block_entries f c front None (block_of (drop i ss)) ≡ statement_entries f c front (number_at ss (i + 1)) s ++ block_entries f c (Some (number_of s)) None (block_of (drop (i + 1) ss))
block_step f c front ss i s h e =
    let later = block_of (drop (i + 1) ss) in
    let here : block_of (drop i ss) ≡ Starts s later = rw (drop-cons ss i s, add-one, ← e) refl in
    ap (block_entries f c front None) here ∙ ap (λ next. statement_entries f c front next s ++ block_entries f c (Some (number_of s)) None later) (next_is ss (i + 1))

pub block_put : (f : Resolver) (c : Context) (front : Option ℕ) (ss : List Statement) (i : ℕ) (s : Statement) (next : Option ℕ) (id : ℕ) (old new : List (Option Entry)) → i < length ss → s ≡ get_or ss i s → next ≡ number_at ss (i + 1) → id ≡ number_of s → new ≡ put_all (statement_entries f c front next s) old → put_all (block_entries f c (Some id) None (block_of (drop (i + 1) ss))) new ≡ put_all (block_entries f c front None (block_of (drop i ss))) old
block_put f c front ss i s next id old new h e n d q =
    let here = statement_entries f c front (number_at ss (i + 1)) s in
    let later = block_entries f c (Some (number_of s)) None (block_of (drop (i + 1) ss)) in
    ap (λ m. put_all (block_entries f c (Some m) None (block_of (drop (i + 1) ss))) new) d
    ∙ ap (put_all later) (q ∙ ap (λ o. put_all (statement_entries f c front o s) old) n)
    ∙ sym (ap (λ es. put_all es old) (block_step f c front ss i s h e) ∙ all_both here later old)

pub block_sites : (f : Resolver) (c : Context) (front : Option ℕ) (ss : List Statement) (i : ℕ) (s : Statement) (next : Option ℕ) (id : ℕ) (old new : List (List ℕ)) → i < length ss → s ≡ get_or ss i s → next ≡ number_at ss (i + 1) → id ≡ number_of s → new ≡ with_sites (statement_entries f c front next s) old → with_sites (block_entries f c (Some id) None (block_of (drop (i + 1) ss))) new ≡ with_sites (block_entries f c front None (block_of (drop i ss))) old
block_sites f c front ss i s next id old new h e n d q =
    let here = statement_entries f c front (number_at ss (i + 1)) s in
    let later = block_entries f c (Some (number_of s)) None (block_of (drop (i + 1) ss)) in
    ap (λ m. with_sites (block_entries f c (Some m) None (block_of (drop (i + 1) ss))) new) d
    ∙ ap (with_sites later) (q ∙ ap (λ o. with_sites (statement_entries f c front o s) old) n)
    ∙ sym (ap (λ es. with_sites es old) (block_step f c front ss i s h e) ∙ sites_both here later old)
