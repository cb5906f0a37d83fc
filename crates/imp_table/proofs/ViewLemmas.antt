-- Programs as they are read.
use Rattle.std.proofs.Common.{◌≡◌, ℕ, ◌<◌, List, [], length, Some, slice_get, slice_index_or, ◌≤◌, sym, ap, ◌∙◌}
use Rattle.imp_syntax.specs.Plain.{Procedure}
use Rattle.std.proofs.lemmas.Option.{none-some, same_Some, slice_get-get_or, slice_get_past}
use Rattle.imp_check.specs.Entries.{entries_of, sites_in, sites_of}
use Rattle.imp_table.specs.Views.{over, program_over, AreRead}
use Rattle.imp_check.specs.declared.entry.ProcHeader.{ProcHeader}
use Rattle.imp_table.specs.declared.change.Put.{Put}
use Rattle.imp_check.proofs.TableLemmas.{table_is, table_right}
use Rattle.imp_check.proofs.SiteLemmas.{below_at, below_past}

pub read_is : (under : List Procedure) (puts : List Put) (count : ℕ) (heads : List ProcHeader) (sites : List (List ℕ)) (program : List Procedure) → AreRead under puts count heads sites program → program_over under puts count heads ≡ program
read_is under puts count heads sites program r = table_is program (over under puts) count heads sites r.right

pub read_right : (under : List Procedure) (puts : List Put) (count : ℕ) (heads : List ProcHeader) (sites : List (List ℕ)) (program : List Procedure) → AreRead under puts count heads sites program → AreRead under puts count heads sites (program_over under puts count heads)
read_right under puts count heads sites program r = record { right = table_right program (over under puts) count heads sites r.right; falling = r.falling }

-- the call statements of a procedure
module _ (ps : List Procedure) (ss : List (List ℕ)) (i p : ℕ) where
  pub site_of : (s : List ℕ) → ss ≡ sites_of ps → i ≡ p → i < length ss → s ≡ slice_index_or ss i s → p < length ps → s ≡ sites_in (entries_of ps) p
  site_of s e q l at h =
      same_Some s (sites_in (entries_of ps) p)
      (sym (slice_get-get_or ss i s l ∙ ap Some (sym at)) ∙ ap (λ zs. slice_get zs i) e ∙ ap (λ (k : ℕ). slice_get (sites_of ps) k) q ∙ below_at (entries_of ps) (length ps) p h)

  pub no_site : ss ≡ sites_of ps → i ≡ p → i < length ss → length ps ≤ p → ⊥
  no_site e q l h = none-some _ (sym (sym (slice_get-get_or ss i [] l) ∙ ap (λ zs. slice_get zs i) e ∙ ap (λ (k : ℕ). slice_get (sites_of ps) k) q ∙ below_past (entries_of ps) (length ps) p h))

  pub site_gone : ss ≡ sites_of ps → i ≡ p → length ss ≤ i → p < length ps → ⊥
  site_gone e q l h = none-some _ (sym (sym (below_at (entries_of ps) (length ps) p h) ∙ ap (λ (k : ℕ). slice_get (sites_of ps) k) (sym q) ∙ ap (λ zs. slice_get zs i) (sym e) ∙ slice_get_past ss i l))
