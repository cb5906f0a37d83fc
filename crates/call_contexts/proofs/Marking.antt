-- Marks of the procedures through which chains lead to one.
use Rattle.std.proofs.Common.{ℕ, suc, ◌≡◌, ◌+◌, ◌<◌, ◌≤◌, Bool, true, false, List, [], ◌∷◌, ◌++◌, length, map, Option, Some, None, refl, sym, ap, ◌∙◌, subst, arith, ⊎_elim}
use Rattle.std.specs.Prelude.{if◌then◌else◌, slice_set, nat_lt}
use Rattle.std.proofs.lemmas.Bool.{cases_lt, cases_eq}
use Rattle.std.proofs.lemmas.List.{get_or-set_same, get_or-set_other, get_or_past, set_past}
use Rattle.imp_syntax.specs.Plain.{Procedure}
use Rattle.imp_slots.specs.Plain.{Routine}
use Rattle.imp_chains.specs.Chains.{calls_to, extended, through}
use Rattle.imp_check.specs.Programs.{AreNumbered}
use Rattle.imp_check.specs.Slots.{routines_of}
use Rattle.imp_check.specs.Entries.{sites_in, entries_of, entry_of}
use Rattle.imp_check.specs.declared.entry.Entry.{Entry}
use Rattle.call_contexts.specs.Tables.{chains_by, through_sites}
use Rattle.call_contexts.specs.Marks.{is_marked, mark, mark_by, mark_all, left_out, AreCallersMarked, AreMarked}
use Rattle.call_contexts.proofs.Tabled.{through_sites_are, nil_first, nil_second}
use Rattle.base_values.proofs.Cases.{less_of}

-- what is left out at a place, by whether it stands after that of the procedure that is called, and is marked
abbrev out : (after marked : Bool) → List (List ℕ)
out after marked = if after then (if marked then [] else [] ∷ []) else []

-- a mark, once set
set_marks : (marks : List Bool) (c : ℕ) → is_marked (slice_set marks c true) c ≡ true
set_marks marks c =
    ⊎_elim
    (λ h. get_or-set_same marks c true true h)
    (λ h. ap (λ (ms : List Bool). is_marked ms c) (set_past marks c true h) ∙ get_or_past marks c true h)
    (cases_lt c (length marks))

set_grows : (marks : List Bool) (c q : ℕ) → is_marked marks q ≡ true → is_marked (slice_set marks c true) q ≡ true
set_grows marks c q h =
    ⊎_elim
    (λ e. subst (λ k. is_marked (slice_set marks c true) k ≡ true) (sym e) (set_marks marks c))
    (λ n. get_or-set_other marks c q true true n ∙ h)
    (cases_eq q c)

mark_early : (place c q : ℕ) (marks : List Bool) → q ≤ place → is_marked (mark place c marks) q ≡ is_marked marks q
mark_early place c q marks h = go (nat_lt place c) refl
  where
    go : (b : Bool) → nat_lt place c ≡ b → is_marked (if b then slice_set marks c true else marks) q ≡ is_marked marks q
    go true e = let l : place < c = less_of place c e in get_or-set_other marks c q true true (λ s. absurd (omega arith))
    go false e = refl

mark_grows : (place c q : ℕ) (marks : List Bool) → is_marked marks q ≡ true → is_marked (mark place c marks) q ≡ true
mark_grows place c q marks h = go (nat_lt place c)
  where
    go : (b : Bool) → is_marked (if b then slice_set marks c true else marks) q ≡ true
    go true = set_grows marks c q h
    go false = h

mark_done : (place c : ℕ) (marks : List Bool) → left_out place (mark place c marks) c ≡ []
mark_done place c marks = go (nat_lt place c)
  where
    go : (b : Bool) → out b (is_marked (if b then slice_set marks c true else marks) c) ≡ []
    go true = ap (out true) (set_marks marks c)
    go false = refl

by_early : (place q : ℕ) (o : Option Entry) (marks : List Bool) → q ≤ place → is_marked (mark_by place o marks) q ≡ is_marked marks q
by_early place q None marks h = refl
by_early place q (Some e) marks h = mark_early place e.context.proc q marks h

by_grows : (place q : ℕ) (o : Option Entry) (marks : List Bool) → is_marked marks q ≡ true → is_marked (mark_by place o marks) q ≡ true
by_grows place q None marks h = h
by_grows place q (Some e) marks h = mark_grows place e.context.proc q marks h

by_done : (place : ℕ) (o : Option Entry) (marks : List Bool) → chains_by (left_out place (mark_by place o marks)) o ≡ []
by_done place None marks = refl
by_done place (Some e) marks = mark_done place e.context.proc marks

-- where marks grow, no less is left out
out_kept : (place q : ℕ) (old new : List Bool) → (is_marked old q ≡ true → is_marked new q ≡ true) → left_out place old q ≡ [] → left_out place new q ≡ []
out_kept place q old new grows = go (nat_lt place q) (is_marked old q) (is_marked new q) grows
  where
    go : (l a b : Bool) → (a ≡ true → b ≡ true) → out l a ≡ [] → out l b ≡ []
    go false a b g h = refl
    go true true b g h = ap (out true) (g refl)
    go true false b g h = absurd cc

chains_by_kept : (place : ℕ) (o : Option Entry) (old new : List Bool) → ((q : ℕ) → is_marked old q ≡ true → is_marked new q ≡ true) → chains_by (left_out place old) o ≡ [] → chains_by (left_out place new) o ≡ []
chains_by_kept place None old new grows h = refl
chains_by_kept place (Some e) old new grows h = out_kept place e.context.proc old new (grows e.context.proc) h

module _ (place : ℕ) (at : ℕ → Option Entry) where
  all_early : (ns : List ℕ) (marks : List Bool) (q : ℕ) → q ≤ place → is_marked (mark_all place at ns marks) q ≡ is_marked marks q
  all_early [] marks q h = refl
  all_early (n ∷ ns) marks q h = all_early ns (mark_by place (at n) marks) q h ∙ by_early place q (at n) marks h

  all_grows : (ns : List ℕ) (marks : List Bool) (q : ℕ) → is_marked marks q ≡ true → is_marked (mark_all place at ns marks) q ≡ true
  all_grows [] marks q h = h
  all_grows (n ∷ ns) marks q h = all_grows ns (mark_by place (at n) marks) q (by_grows place q (at n) marks h)

  all_done : (ns : List ℕ) (marks : List Bool) → through_sites (left_out place (mark_all place at ns marks)) at ns ≡ []
  all_done [] marks = refl
  all_done (n ∷ ns) marks =
      let first = mark_by place (at n) marks in
      let last = mark_all place at ns first in
      ap (λ (zs : List (List ℕ)). map (λ z. n ∷ z) zs ++ through_sites (left_out place last) at ns) (chains_by_kept place (at n) first last (λ q. all_grows ns first q) (by_done place (at n) marks))
      ∙ all_done ns first

none_extended : (ns : List ℕ) → extended [] ns ≡ []
none_extended [] = refl
none_extended (n ∷ ns) = none_extended ns

extended_kept : (zs ws : List (List ℕ)) (ns : List ℕ) → (zs ≡ [] → ws ≡ []) → extended zs ns ≡ [] → extended ws ns ≡ []
extended_kept zs ws [] k h = refl
extended_kept [] ws (n ∷ ns) k h = ap (λ (us : List (List ℕ)). extended us (n ∷ ns)) (k refl) ∙ none_extended ns
extended_kept (z ∷ zs) ws (n ∷ ns) k h = absurd cc

through_kept : (f g : ℕ → List (List ℕ)) (j : ℕ) (rs : List Routine) (p : ℕ) → ((q : ℕ) → f q ≡ [] → g q ≡ []) → through f j rs p ≡ [] → through g j rs p ≡ []
through_kept f g j [] p k h = refl
through_kept f g j (r ∷ rs) p k h =
    let ns = calls_to p r.code in
    let a : extended (f j) ns ≡ [] = nil_first (extended (f j) ns) (through f (suc j) rs p) h in
    let b : through f (suc j) rs p ≡ [] = nil_second (extended (f j) ns) (through f (suc j) rs p) h in
    ap (λ (zs : List (List ℕ)). zs ++ through g (suc j) rs p) (extended_kept (f j) (g j) ns (k j) a) ∙ through_kept f g (suc j) rs p k b

callers_kept : (rs : List Routine) (old new : List Bool) (p : ℕ) → ((q : ℕ) → is_marked old q ≡ true → is_marked new q ≡ true) → AreCallersMarked rs old p → AreCallersMarked rs new p
callers_kept rs old new p grows h = through_kept (left_out p old) (left_out p new) 0 rs p (λ q. out_kept p q old new (grows q)) h

pub marked_first : (rs : List Routine) (marks : List Bool) (own main : ℕ) → AreMarked rs (slice_set (slice_set marks own true) main true) own main own
marked_first rs marks own main =
    record {
      here = set_grows (slice_set marks own true) main own (set_marks marks own);
      top = set_marks (slice_set marks own true) main;
      callers = (λ q a b m. absurd (omega arith));
    }

pub marked_next : (ps : List Procedure) (marks : List Bool) (own main k : ℕ) → AreNumbered ps → AreMarked (routines_of ps) marks own main k →
    AreMarked (routines_of ps) (if is_marked marks k then mark_all k (entry_of (entries_of ps)) (sites_in (entries_of ps) k) marks else marks) own main (k + 1)
marked_next ps marks own main k numbered a = go (is_marked marks k) refl
  where
    go : (b : Bool) → is_marked marks k ≡ b → AreMarked (routines_of ps) (if b then mark_all k (entry_of (entries_of ps)) (sites_in (entries_of ps) k) marks else marks) own main (k + 1)
    go false e =
        record {
          here = a.here;
          top = a.top;
          callers = (λ q l h m. ⊎_elim
              (λ (s : q < k). a.callers q l s m)
              (λ (s : k ≤ q). let same : q ≡ k = omega arith in let f : is_marked marks q ≡ false = ap (is_marked marks) same ∙ e in absurd cc)
              (cases_lt q k));
        }
    go true e =
        let ns = sites_in (entries_of ps) k in
        let f = entry_of (entries_of ps) in
        let new = mark_all k f ns marks in
        record {
          here = all_grows k f ns marks own a.here;
          top = all_grows k f ns marks main a.top;
          callers = (λ q l h m. ⊎_elim
              (λ (s : q < k). callers_kept (routines_of ps) marks new q (λ j. all_grows k f ns marks j) (a.callers q l s (sym (all_early k f ns marks q (omega arith)) ∙ m)))
              (λ (s : k ≤ q). let same : k ≡ q = omega arith in subst (AreCallersMarked (routines_of ps) new) same (sym (through_sites_are (left_out k new) ps k numbered) ∙ all_done k f ns marks))
              (cases_lt q k));
        }
