-- The tree of a table that is right, and its procedures.
use Rattle.std.proofs.Common.{◌≡◌, ℕ, zero, suc, ◌||◌, cond, Bool, List, [], ◌∷◌, length, slice_get, Option, Some, None, option_map, refl, ap, ◌∙◌, sym, subst, arith}
pub use Rattle.std.proofs.lemmas.List.{take_at}
use Rattle.std.specs.Str.{bytes_eq}
use Rattle.imp_syntax.specs.Plain.{Procedure}
use Rattle.imp_slots.specs.Fits.{Distinct}
use Rattle.imp_check.specs.Names.{is_named, place_named, named_in}
use Rattle.imp_check.specs.Programs.{program_count}
use Rattle.imp_check.specs.Slots.{layout_in}
use Rattle.imp_check.specs.Parts.{ends_of}
use Rattle.imp_check.specs.Entries.{entries_of, entry_of, heads_of, head_of, is_headed, place_headed}
use Rattle.imp_check.specs.Rebuilt.{program_from, program_by}
use Rattle.imp_check.specs.Fine.{IsFine}
use Rattle.imp_check.specs.Tables.{entry_in, AreOf}
use Rattle.imp_check.specs.Puts.{put_all, with_sites, no_sites}
use Rattle.imp_check.specs.declared.entry.Entry.{Entry}
use Rattle.imp_check.specs.declared.entry.ProcHeader.{ProcHeader}
use Rattle.imp_check.proofs.FewLemmas.{first_alone}
use Rattle.imp_check.proofs.RebuildLemmas.{program_is, all_numbers}
use Rattle.imp_check.proofs.PutLemmas.{all_at}
use Rattle.imp_check.proofs.SitesMade.{sites_made}

pub table_is : (program : List Procedure) (at : ℕ → Option Entry) (count : ℕ) (heads : List ProcHeader) (sites : List (List ℕ)) → AreOf program at count heads sites → program_by at count heads ≡ program
table_is program at count heads sites r = ap (program_from at (suc count)) r.procedures ∙ program_is at (suc count) program r.entries r.fine.numbered.once (omega (arith, r.counted))

pub table_right : (program : List Procedure) (at : ℕ → Option Entry) (count : ℕ) (heads : List ProcHeader) (sites : List (List ℕ)) → AreOf program at count heads sites → AreOf (program_by at count heads) at count heads sites
table_right program at count heads sites r = subst (λ (ps : List Procedure). AreOf ps at count heads sites) (sym (table_is program at count heads sites r)) r

pub headed : (ps : List Procedure) (x : List ℕ) → is_headed (heads_of ps) x ≡ is_named ps x
headed [] x = refl
headed (p ∷ ps) x = ap (λ b. bytes_eq p.name x || b) (headed ps x)

pub headed_place : (ps : List Procedure) (x : List ℕ) → place_headed (heads_of ps) x ≡ place_named ps x
headed_place [] x = refl
headed_place (p ∷ ps) x = ap (λ n. cond (bytes_eq p.name x) 0 (suc n)) (headed_place ps x)

pub heads_length : (ps : List Procedure) → length (heads_of ps) ≡ length ps
heads_length [] = refl
heads_length (p ∷ ps) = ap suc (heads_length ps)

pub head_at : (ps : List Procedure) (k : ℕ) → slice_get (heads_of ps) k ≡ option_map head_of (slice_get ps k)
head_at [] k = refl
head_at (p ∷ ps) zero = refl
head_at (p ∷ ps) (suc k) = head_at ps k

pub body_at : (ps : List Procedure) (k : ℕ) → option_map (λ (h : ProcHeader). h.body) (slice_get (heads_of ps) k) ≡ option_map (λ (p : Procedure). ends_of p.body) (slice_get ps k)
body_at [] k = refl
body_at (p ∷ ps) zero = refl
body_at (p ∷ ps) (suc k) = body_at ps k

pub layout_at : (ps : List Procedure) (k : ℕ) → option_map (λ (h : ProcHeader). h.layout) (slice_get (heads_of ps) k) ≡ option_map layout_in (slice_get ps k)
layout_at [] k = refl
layout_at (p ∷ ps) zero = refl
layout_at (p ∷ ps) (suc k) = layout_at ps k

-- the same entries in another table
pub same_right : (at after : ℕ → Option Entry) (count : ℕ) (heads : List ProcHeader) (sites : List (List ℕ)) → ((n : ℕ) → after n ≡ at n) → AreOf (program_by at count heads) at count heads sites → AreOf (program_by after count heads) after count heads sites
same_right at after count heads sites h r = table_right (program_by at count heads) after count heads sites (record {
  fine = r.fine;
  entries = λ n. h n ∙ r.entries n;
  counted = r.counted;
  procedures = r.procedures;
  calls = r.calls;
})

-- the table made of a program
pub made : (ps : List Procedure) (fine : IsFine ps) (places : List (Option Entry)) (count : ℕ) (heads : List ProcHeader) (sites : List (List ℕ)) → places ≡ put_all (entries_of ps) [] → count ≡ program_count ps → heads ≡ heads_of ps → sites ≡ with_sites (entries_of ps) (no_sites (length ps)) → AreOf ps (entry_in places) count heads sites
made ps fine places count heads sites e n h s = record {
  fine = fine;
  entries = λ m. ap (λ xs. entry_in xs m) e ∙ all_at (entries_of ps) [] m (subst Distinct (sym (all_numbers ps)) fine.numbered.once) ∙ first_alone (entry_of (entries_of ps) m);
  counted = n;
  procedures = h;
  calls = s ∙ sites_made (entries_of ps) (length ps);
}

-- the procedure of a name, by the procedures without statements
pub named_by : (ps : List Procedure) (x : List ℕ) (b : Bool) → is_headed (heads_of ps) x ≡ b → cond b (Some (place_headed (heads_of ps) x)) None ≡ named_in ps x
named_by ps x b e = ap (λ n. cond b (Some n) None) (headed_place ps x) ∙ ap (λ t. cond t (Some (place_named ps x)) None) (sym e ∙ headed ps x)
