-- A change exchanged into a table.
use Rattle.std.proofs.Common.{◌≡◌, ℕ, List, Option, Some, None, option_map, unwrap_or, ap, ◌∙◌, sym}
use Rattle.imp_syntax.specs.Plain.{Procedure}
use Rattle.imp_check.specs.Entries.{entries_of, entry_of, heads_of, sites_of}
use Rattle.imp_check.specs.Fine.{IsFine}
use Rattle.imp_check.specs.Tables.{AreOf}
use Rattle.imp_table.specs.Changes.{overlay, Makes}
use Rattle.imp_check.specs.declared.entry.Entry.{Entry}
use Rattle.imp_check.specs.declared.entry.ProcHeader.{ProcHeader}
use Rattle.imp_table.specs.declared.change.Change.{Change}
use Rattle.imp_table.proofs.OverlayLemmas.{overlay_alike}

-- a list that was exchanged, and what was there before
there_again : {A : Type 0} (o : Option A) (x y z : A) → x ≡ z → y ≡ unwrap_or o z → z ≡ unwrap_or (option_map (λ _. x) o) y
there_again None x y z e f = sym f
there_again (Some w) x y z e f = sym e

-- the same entries in another form
pub alike_right : (program : List Procedure) (at after : ℕ → Option Entry) (count : ℕ) (heads : List ProcHeader) (sites : List (List ℕ)) → ((n : ℕ) → after n ≡ at n) → AreOf program at count heads sites → AreOf program after count heads sites
alike_right program at after count heads sites h r = record {
  fine = r.fine;
  entries = λ n. h n ∙ r.entries n;
  counted = r.counted;
  procedures = r.procedures;
  calls = r.calls;
}

module _ (old program : List Procedure) (change : Change) (makes : Makes old change program) (fine : IsFine program) (at : ℕ → Option Entry) (count : ℕ) (heads : List ProcHeader) (sites : List (List ℕ)) (right : AreOf old at count heads sites) (after : ℕ → Option Entry) (put : (m : ℕ) → after m ≡ overlay change.entries.items at m) where
  pub after_right : AreOf program after change.count (unwrap_or change.heads heads) (unwrap_or change.sites sites)
  after_right = record {
    fine = fine;
    entries = λ m. put m ∙ overlay_alike change.entries.items at (entry_of (entries_of old)) right.entries m ∙ sym (makes.entries m);
    counted = makes.counted;
    procedures = ap (unwrap_or change.heads) right.procedures ∙ sym makes.heads;
    calls = ap (unwrap_or change.sites) right.calls ∙ sym makes.sites;
  }

  pub back_makes : (back : Change) → ((m : ℕ) → overlay back.entries.items after m ≡ at m) → back.count ≡ count → back.heads ≡ option_map (λ _. heads) change.heads → back.sites ≡ option_map (λ _. sites) change.sites → Makes program back old
  back_makes back b n h s = record {
    entries = λ m. sym (right.entries m) ∙ sym (b m) ∙ overlay_alike back.entries.items after (entry_of (entries_of program)) after_right.entries m;
    heads = there_again change.heads heads (heads_of program) (heads_of old) right.procedures makes.heads ∙ ap (λ o. unwrap_or o (heads_of program)) (sym h);
    counted = n ∙ right.counted;
    sites = there_again change.sites sites (sites_of program) (sites_of old) right.calls makes.sites ∙ ap (λ o. unwrap_or o (sites_of program)) (sym s);
  }
