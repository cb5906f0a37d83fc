-- Programs that changes lead to.
use Rattle.std.proofs.Common.{ℕ, zero, suc, Bool, slice_index_or, ◌≡◌, ◌<◌, ◌≤◌, List, [], ◌∷◌, length, take, unwrap_or, refl, sym, ap, ◌∙◌, subst, arith}
use Rattle.std.specs.List.{All}
use Rattle.imp_syntax.specs.Plain.{Procedure}
use Rattle.imp_check.specs.Entries.{entries_of, entry_of, heads_of, sites_of}
use Rattle.imp_check.specs.Fine.{IsFine}
use Rattle.imp_table.specs.Changes.{Makes, overlay}
use Rattle.imp_table.specs.Pages.{HasPlace, HavePlaces, IsNeeded}
use Rattle.imp_table.specs.declared.change.Change.{Change}
use Rattle.imp_check.proofs.TableLemmas.{table_is}
use Rattle.edit_history.specs.After.{changed_program, programs_by, AllLead}
use Rattle.edit_history.specs.History.{AllNeeded, AreKept}

-- a change makes one program alone
pub after_is : (ps : List Procedure) (c : Change) (qs : List Procedure) → Makes ps c qs → IsFine qs → changed_program ps c ≡ qs
unfolding changed_program
after_is ps c qs m f =
    table_is qs (overlay c.entries.items (entry_of (entries_of ps))) c.count (unwrap_or c.heads (heads_of ps)) (unwrap_or c.sites (sites_of ps)) (record {
      fine = f;
      entries = λ n. sym (m.entries n);
      counted = m.counted;
      procedures = sym m.heads;
      calls = sym m.sites;
    })

-- A change of `ps` to `qs` was exchanged for the change back.
module _ (places : List ℕ) (ps qs : List Procedure) (back : Change) (fine : IsFine ps) (makes : Makes qs back ps) (there_too : HavePlaces places back.entries.items) where
  again : changed_program qs back ≡ ps
  again = after_is qs back ps makes fine

  pub programs_back : (cs : List Change) → programs_by qs (back ∷ cs) ≡ ps ∷ programs_by ps cs
  programs_back cs = ap (λ zs. zs ∷ programs_by zs cs) again

  pub all_back : (cs : List Change) → AllLead places ps cs → AllLead places qs (back ∷ cs)
  all_back cs a = (
    record { makes = subst (λ zs. Makes qs back zs) (sym again) makes; fine = subst IsFine (sym again) fine; there = there_too },
    subst (λ zs. AllLead places zs cs) (sym again) a,
  )

-- the first so many
pub programs_take : (n : ℕ) (ps : List Procedure) (cs : List Change) → programs_by ps (take n cs) ≡ take n (programs_by ps cs)
programs_take zero ps [] = refl
programs_take zero ps (c ∷ cs) = refl
programs_take (suc n) ps [] = refl
programs_take (suc n) ps (c ∷ cs) = ap (λ qss. changed_program ps c ∷ qss) (programs_take n (changed_program ps c) cs)

pub lead_take : (n : ℕ) (places : List ℕ) (ps : List Procedure) (cs : List Change) → AllLead places ps cs → AllLead places ps (take n cs)
lead_take zero places ps [] a = tt
lead_take zero places ps (c ∷ cs) a = tt
lead_take (suc n) places ps [] a = tt
lead_take (suc n) places ps (c ∷ cs) a = (a.0, lead_take n places (changed_program ps c) cs a.1)

-- other places
abbrev pub StillHave : (places more : List ℕ) → List Change → Type 0
StillHave places more cs = All (λ (c : Change). HavePlaces places c.entries.items → HavePlaces more c.entries.items) cs

pub have_more : (places more : List ℕ) (cs : List Change) → ((n : ℕ) → HasPlace places n → HasPlace more n) → StillHave places more cs
have_more places more cs h i d l a = record { falling = a.falling; there = λ k p m. h (slice_index_or (slice_index_or cs i d).entries.items k p).number (a.there k p m) }

pub have_needed : (places more : List ℕ) (needed : List Bool) (cs : List Change) → ((n : ℕ) → IsNeeded needed n → HasPlace places n → HasPlace more n) → AllNeeded needed cs → StillHave places more cs
have_needed places more needed cs h need i d l a = record { falling = a.falling; there = λ k p m. h (slice_index_or (slice_index_or cs i d).entries.items k p).number (need i d l k p m) (a.there k p m) }

lead_still : (places more : List ℕ) (ps : List Procedure) (cs : List Change) → StillHave places more cs → AllLead places ps cs → AllLead more ps cs
lead_still places more ps [] h a = tt
lead_still places more ps (c ∷ cs) h a = (
  record { makes = a.0.makes; fine = a.0.fine; there = h 0 c (omega arith) a.0.there },
  lead_still places more (changed_program ps c) cs (λ i d l. h (suc i) d (omega arith)) a.1,
)

pub take_few : (n : ℕ) (cs : List Change) → length cs ≤ n → cs ≡ take n cs
take_few zero [] h = refl
take_few zero (c ∷ cs) h = absurd (omega arith)
take_few (suc n) [] h = refl
take_few (suc n) (c ∷ cs) h = ap (λ ds. c ∷ ds) (take_few n cs (omega arith))

few_taken : (n : ℕ) (cs : List Change) → length (take n cs) ≤ n
few_taken zero [] = omega arith
few_taken zero (c ∷ cs) = omega arith
few_taken (suc n) [] = omega arith
few_taken (suc n) (c ∷ cs) = omega (arith, few_taken n cs)

-- fewer than 64 are there
pub room_left : (len cap : ℕ) (cs ds : List Change) → len ≡ length ds → ds ≡ take 63 cs → 64 ≤ cap → len < cap
room_left len cap cs ds n e h = omega (arith, n, ap length e, few_taken 63 cs, h)

-- The places of a table are others.
pub still_kept : (ps qs : List Procedure) (places more : List ℕ) (past future : List Change) (m n : ℕ) → qs ≡ ps → StillHave places more past → StillHave places more future → AreKept ps places past future m n → AreKept qs more past future m n
still_kept ps qs places more past future m n e behind ahead k =
    subst (λ zs. AreKept zs more past future m n) (sym e) (record {
      fine = k.fine;
      behind = lead_still places more ps past behind k.behind;
      ahead = lead_still places more ps future ahead k.ahead;
      few = k.few;
      room_behind = k.room_behind;
      room_ahead = k.room_ahead;
    })

-- A change of `ps` to `qs` was exchanged for the change back. It is remembered ..
module _ (places : List ℕ) (ps qs : List Procedure) (back : Change) (makes : Makes qs back ps) (there_too : HavePlaces places back.entries.items) (now : List Procedure) (there : List ℕ) (is : now ≡ qs) (same : there ≡ places) where
  pub remembered : (past behind ahead : List Change) (m n : ℕ) → IsFine ps → IsFine qs → AllLead places ps past → behind ≡ back ∷ take 63 past → ahead ≡ [] → 64 ≤ m → 64 ≤ n → AreKept now there behind ahead m n
  remembered past behind ahead m n fine fine_too lead b a l k =
      subst (λ zs. AreKept zs there behind ahead m n) (sym is) (subst (λ r. AreKept qs r behind ahead m n) (sym same) (record {
        fine = fine_too;
        behind = subst (AllLead places qs) (sym b) (all_back places ps qs back fine makes there_too (take 63 past) (lead_take 63 places ps past lead));
        ahead = subst (AllLead places qs) (sym a) tt;
        few = omega (arith, ap length b, ap length a, few_taken 63 past);
        room_behind = l;
        room_ahead = k;
      }))

  pub remembered_past : (past behind : List Change) → IsFine ps → behind ≡ back ∷ take 63 past → programs_by now behind ≡ ps ∷ take 63 (programs_by ps past)
  remembered_past past behind fine b =
      ap (λ zs. programs_by zs behind) is
      ∙ ap (programs_by qs) b
      ∙ programs_back places ps qs back fine makes there_too (take 63 past)
      ∙ ap (λ qss. ps ∷ qss) (programs_take 63 ps past)

  -- .. or the nearest one of the other side.
  pub gone : (c : Change) (from onto from_too onto_too : List Change) (m n m_too n_too : ℕ) → qs ≡ changed_program ps c → AreKept ps places from onto m n → from ≡ c ∷ from_too → onto_too ≡ back ∷ onto → m_too ≡ m → n_too ≡ n → AreKept now there from_too onto_too m_too n_too
  gone c from onto from_too onto_too m n m_too n_too made k f o e d =
      let lead : AllLead places ps (c ∷ from_too) = subst (AllLead places ps) f k.behind in
      subst (λ zs. AreKept zs there from_too onto_too m_too n_too) (sym is) (subst (λ r. AreKept qs r from_too onto_too m_too n_too) (sym same) (record {
        fine = subst IsFine (sym made) lead.0.fine;
        behind = subst (λ zs. AllLead places zs from_too) (sym made) lead.1;
        ahead = subst (AllLead places qs) (sym o) (all_back places ps qs back k.fine makes there_too onto k.ahead);
        few = omega (arith, ap length f, ap length o, k.few);
        room_behind = omega (arith, e, k.room_behind);
        room_ahead = omega (arith, d, k.room_ahead);
      }))

  pub gone_onto : (onto onto_too : List Change) → IsFine ps → onto_too ≡ back ∷ onto → programs_by now onto_too ≡ ps ∷ programs_by ps onto
  gone_onto onto onto_too fine o = ap (λ zs. programs_by zs onto_too) is ∙ ap (programs_by qs) o ∙ programs_back places ps qs back fine makes there_too onto
