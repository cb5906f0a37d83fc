-- A change at a place makes the new program, and the first fault of that program is told by what comes.
use Rattle.std.proofs.Common.{◌≡◌, ℕ, zero, suc, ◌+◌, ◌-◌, ◌<◌, ◌≤◌, nat_lt, inl, inr, List, [], ◌∷◌, length, slice_get, Option, Some, None, true, false, refl, sym, ap, ◌∙◌, subst, arith}
use Rattle.std.specs.Prelude.{unwrap_or}
use Rattle.std.specs.List.{All}
use Rattle.std.specs.Option.{option_map}
use Rattle.imp_syntax.specs.Plain.{Statements, Ends, Procedure, numbers, program_numbers}
use Rattle.imp_syntax.specs.declared.edit.Edit.{Edit}
use Rattle.imp_slots.specs.Fits.{Absent, Distinct, FitsCode}
use Rattle.imp_check.specs.Entries.{entries_of, entry_of, resolver_at, context_at, head_of, heads_of, sites_of}
use Rattle.imp_check.specs.Faults.{first, unless, at, in_procedure}
use Rattle.imp_check.specs.Fine.{IsFine}
use Rattle.imp_check.specs.Names.{variables}
use Rattle.imp_check.specs.Parts.{first_or, last_or}
use Rattle.imp_check.specs.Programs.{AreNumbered, block_count, program_count, nesting, name_of, last_of, variables_fault, check_fault}
use Rattle.imp_check.specs.Slots.{code_in, layout_in}
use Rattle.imp_check.specs.Statements.{block_fault}
use Rattle.imp_table.specs.declared.change.Change.{Change}
use Rattle.imp_check.specs.declared.entry.Entry.{Entry}
use Rattle.imp_check.specs.declared.entry.ProcHeader.{ProcHeader}
use Rattle.imp_check.specs.declared.fault.Fault.TheVariants.{Statements as TooManyStatements, Nesting}
use Rattle.edit_entries.specs.Gaps.{are_quiet, are_closed, closed_at, ends_with, holder_of, held_in, heads_in, gap_splice, lone}
use Rattle.edit_entries.specs.Holes.{Hole, in_loop}
use Rattle.edit_entries.specs.Spliced.{spliced}
use Rattle.edit_entries.proofs.Breaks.{context_head}
use Rattle.edit_entries.proofs.Closed.{closed_quiet}
use Rattle.edit_entries.proofs.Exchange.{faultless}
use Rattle.edit_entries.proofs.Located.{Has}
use Rattle.edit_entries.proofs.Numbers.{Apart}
use Rattle.edit_entries.proofs.Parts.{closed_in, gap_table, gap_heads, gap_fault, gap_sites, gap_fits, front_has, next_has, old_has, holder_has, loop_has}
use Rattle.edit_entries.proofs.Programs.{old_one, old_program, new_program, news_count}
use Rattle.edit_entries.proofs.CallFree.{numbers_count, quiet_entries}
use Rattle.edit_entries.proofs.Standing.{all_has, context_proc, own_head}
use Rattle.edit_entries.proofs.Touched.{context_of}
use Rattle.imp_edit.specs.Edited.{edited, brought, uses, next_after, counting, Continues}
use Rattle.edit_breaks.specs.Breaks.{loop_breaks}
use Rattle.edit_breaks.specs.Bounds.{IsBelow}
use Rattle.imp_edit.specs.Gaps.{AreBelow, IsSplice, count_with, entries_with, gap_of, splice_fault}
use Rattle.imp_edit.specs.Refusals.{IsRefusal, site_refusal}
use Rattle.imp_edit.specs.EditChange.{IsMade}
use Rattle.imp_edit.specs.declared.error.EditError.{EditError}
use Rattle.imp_edit.specs.declared.error.EditError.TheVariants.{Fault}
use Rattle.edit_breaks.specs.declared.gap.Gap.{Gap}
use Rattle.imp_edit.proofs.BreaksTold.{breaks_told}
use Rattle.imp_edit.proofs.GapLemmas.{GapPart, gap_part}
use Rattle.imp_edit.proofs.Once.{never_absent, counting_low, counting_high, never_below}

-- In holes.
module _ (p : Procedure) (hs : List Hole) (before olds behind : Statements) (ps qs : List Procedure) (news : Statements) (quiet : are_quiet olds ≡ true) (closed : are_closed (in_loop false hs) news ≡ true) where
  abbrev O : List Procedure
  O = old_program p hs before olds Ends behind ps qs

  abbrev N : List Procedure
  N = new_program p hs before olds news behind ps qs

  abbrev h : ProcHeader
  h = head_of (old_one p hs before olds Ends behind)

  module _ (g : Gap) (context : g.context ≡ context_of (context_at (length ps)) hs) (in_front : g.front ≡ last_or before None) (in_back : g.next ≡ first_or behind None) (gone : g.gone ≡ numbers olds) where
    counts : count_with O g news ≡ (program_count O - block_count olds) + block_count news
    counts = ap (λ n. (program_count O - n) + block_count news) (ap (λ (ns : List ℕ). length ns) gone ∙ numbers_count olds)

    -- The first fault.
    pub fault_is : check_fault O ≡ None → check_fault N ≡ splice_fault O h g news
    fault_is z =
        let k = context_of (context_at (length ps)) hs in
        gap_fault ps qs p before olds news behind hs quiet closed z
        ∙ ap (λ n. first (in_procedure (name_of (last_of O)) (at 0 (first (unless (nat_lt n 10001) TooManyStatements) (unless (nat_lt (k.depth + nesting news) 33) Nesting)))) (in_procedure p.name (block_fault (lone (variables p)) true news))) (sym counts)
        ∙ ap (λ c. first (in_procedure (name_of (last_of O)) (at 0 (first (unless (nat_lt (count_with O g news) 10001) TooManyStatements) (unless (nat_lt (c.depth + nesting news) 33) Nesting)))) (in_procedure p.name (block_fault (lone (variables p)) true news))) (sym context)

    -- What is known of the statements.
    module _ (old : Distinct (program_numbers O)) (new : Distinct (program_numbers N)) (apart : Apart (numbers olds) (numbers news)) where
      abbrev breaks : List ℕ
      breaks = loop_breaks O g news

      entries_are : (m : ℕ) → entry_of (entries_of N) m ≡ entries_with O h g news m
      entries_are m =
          let k = context_of (context_at (length ps)) hs in
          let a = last_or before None in
          let b = first_or behind None in
          let at = entry_of (entries_of O) in
          gap_table ps qs p before olds news behind breaks apart hs old new (breaks_told ps qs p hs before olds behind news g context in_front gone old new) m
          ∙ ap (λ (es : List Entry). spliced (record (gap_splice (resolver_at ps p) k a b (numbers olds) news breaks) { come = es }) (held_in k.around (ends_with a b news)) at m) (quiet_entries (layout_in p) ps [] k a b news (closed_quiet (in_loop false hs) news closed))
          ∙ ap (λ ns. spliced (gap_splice (resolver_at [] p) k a b ns news breaks) (held_in k.around (ends_with a b news)) at m) (sym gone)
          ∙ ap (λ z. spliced (gap_splice (resolver_at [] p) z a b g.gone news breaks) (held_in z.around (ends_with a b news)) at m) (sym context)
          ∙ ap (λ z. spliced (gap_splice (resolver_at [] p) g.context z b g.gone news breaks) (held_in g.context.around (ends_with z b news)) at m) (sym in_front)
          ∙ ap (λ z. spliced (gap_splice (resolver_at [] p) g.context g.front z g.gone news breaks) (held_in g.context.around (ends_with g.front z news)) at m) (sym in_back)

    heads_are : heads_of N ≡ heads_in g.context.around (heads_of O) g.context.proc (ends_with g.front g.next news)
    heads_are =
        let k = context_of (context_at (length ps)) hs in
        gap_heads ps qs p before olds news behind hs
        ∙ ap (λ n. heads_in k.around (heads_of O) n (ends_with (last_or before None) (first_or behind None) news)) (sym (context_proc (context_at (length ps)) hs))
        ∙ ap (λ z. heads_in z.around (heads_of O) z.proc (ends_with (last_or before None) (first_or behind None) news)) (sym context)
        ∙ ap (λ z. heads_in g.context.around (heads_of O) g.context.proc (ends_with z (first_or behind None) news)) (sym in_front)
        ∙ ap (λ z. heads_in g.context.around (heads_of O) g.context.proc (ends_with g.front z news)) (sym in_back)

    below_some : (b : ℕ) (o : Option ℕ) → ((n : ℕ) → o ≡ Some n → n < b) → IsBelow b o
    below_some b None f = tt
    below_some b (Some n) f = f n refl

    -- All numbers there are below the next one.
    module _ (old : Distinct (program_numbers O)) (next : ℕ) (b : ℕ) (low : All (λ (n : ℕ). n < next) (program_numbers O)) (more : next ≤ b) (come : All (λ (n : ℕ). n < b) (numbers news)) where
      below_has : (n : ℕ) → Has n (program_numbers O) → n < b
      below_has n i = let l = all_has (λ (m : ℕ). m < next) (program_numbers O) n low i in omega (arith, l, more)

      all_below : (ns : List ℕ) → ((n : ℕ) → Has n ns → n < b) → All (λ (n : ℕ). n < b) ns
      all_below [] f i d l = absurd (omega arith)
      all_below (n ∷ ns) f zero d l = f n (inl refl)
      all_below (n ∷ ns) f (suc i) d l = all_below ns (λ m h. f m (inr h)) i d (omega arith)

      below_all : AreBelow b g news
      below_all = record {
        gone = subst (λ (ns : List ℕ). All (λ (n : ℕ). n < b) ns) (sym gone) (all_below (numbers olds) (λ n i. below_has n (old_has ps qs p before olds news behind hs old n i)));
        front = below_some b g.front (λ n e. below_has n (front_has ps qs p before olds news behind hs old n (sym in_front ∙ e)));
        next = below_some b g.next (λ n e. below_has n (next_has ps qs p before olds news behind hs old n (sym in_back ∙ e)));
        holder = below_some b (holder_of g.context.around) (λ n e. below_has n (holder_has ps qs p before olds news behind hs old n (ap (λ z. holder_of z.around) (sym context) ∙ e)));
        loop = below_some b g.context.head (λ n e. below_has n (loop_has ps qs p before olds news behind hs old n (ap (λ z. z.head) (sym context) ∙ e)));
        come = come;
      }

    -- The change makes the new program.
    pub spliced_made : IsFine O → AreNumbered N → Apart (numbers olds) (numbers news) → (next : ℕ) (b : ℕ) → All (λ (n : ℕ). n < next) (program_numbers O) → next ≤ b → All (λ (n : ℕ). n < b) (numbers news) →
        FitsCode [] (layout_in p) (code_in (resolver_at [] p) news) → splice_fault O h g news ≡ None → (change : Change) → IsSplice O h g news change → IsMade O N b change
    spliced_made fine numbered apart next b low more come fits none change s = record {
      makes = record {
        entries = λ m. entries_are fine.numbered.once numbered.once apart m ∙ sym (s.entries m);
        heads = heads_are ∙ sym s.heads;
        counted = s.counted ∙ counts ∙ sym (news_count p hs before olds news behind ps qs);
        sites = gap_sites ps qs p before olds news behind hs quiet closed ∙ ap (λ (o : Option (List (List ℕ))). unwrap_or o (sites_of O)) (sym s.sites);
      };
      fine = record {
        faultless = fault_is fine.faultless ∙ none;
        numbered = numbered;
        fit = gap_fits ps qs p before olds news behind hs quiet closed fits fine.fit numbered;
      };
      within = s.within b (below_all fine.numbered.once next b low more come);
    }

-- At the place of an edit.
module _ (e : Edit) (P : List Procedure) (g : Gap) (h : ProcHeader) (fine : IsFine P) (site : site_refusal e P ≡ None) (here : gap_of e P ≡ Some g) (l : slice_get (heads_of P) g.context.proc ≡ Some h) where
  abbrev part : GapPart e P g
  part = gap_part e P g fine.numbered.once site here

  abbrev whole : List Procedure
  whole = old_program part.own part.holes part.before part.olds Ends part.behind part.front part.back

  abbrev own : Procedure
  own = old_one part.own part.holes part.before part.olds Ends part.behind

  head_is : h ≡ head_of own
  head_is =
      let r : Some h ≡ Some (head_of own) =
      sym l
      ∙ ap (λ (os : List Procedure). slice_get (heads_of os) g.context.proc) part.is
      ∙ ap (λ n. slice_get (heads_of whole) n) (ap (λ z. z.proc) part.context ∙ context_proc (context_at (length part.front)) part.holes)
      ∙ own_head part.front own part.back in
      cc

  fine_whole : IsFine whole
  fine_whole = subst IsFine part.is fine

  pub gap_variables : variables_fault [] (variables h.bare) ≡ None
  gap_variables = ap (λ (z : ProcHeader). variables_fault [] (variables z.bare)) head_is ∙ (faultless part.own part.holes part.before part.olds Ends part.behind part.front part.back fine_whole.faultless).vars

  module _ (closed_here : closed_at g.context.head (brought e) ≡ true) where
    closed : are_closed (in_loop false part.holes) (brought e) ≡ true
    closed =
        sym (closed_in part.holes None false (brought e) refl)
        ∙ ap (λ o. closed_at o (brought e)) (sym (ap (λ z. z.head) part.context ∙ context_head (context_at (length part.front)) part.holes))
        ∙ closed_here

    edit_fault : check_fault (edited e P) ≡ splice_fault P h g (brought e)
    edit_fault =
        ap check_fault part.becomes
        ∙ fault_is part.own part.holes part.before part.olds part.behind part.front part.back (brought e) part.quiet closed g part.context part.in_front part.in_back part.gone fine_whole.faultless
        ∙ ap (λ (z : ProcHeader). splice_fault whole z g (brought e)) (sym head_is)
        ∙ ap (λ (os : List Procedure). splice_fault os h g (brought e)) (sym part.is)

    pub gap_refused : (r : EditError) → IsRefusal (option_map Fault (splice_fault P h g (brought e))) r → IsRefusal (option_map Fault (check_fault (edited e P))) r
    gap_refused r w = subst (λ o. IsRefusal (option_map Fault o) r) (sym edit_fault) w

    module _ (next : ℕ) (low : All (λ (n : ℕ). n < next) (program_numbers P)) (continues : Continues e next) where
      low_whole : All (λ (n : ℕ). n < next) (program_numbers whole)
      low_whole = subst (λ (os : List Procedure). All (λ (n : ℕ). n < next) (program_numbers os)) part.is low

      apart : Apart (numbers part.olds) (numbers (brought e))
      apart m i =
          let w = old_has part.front part.back part.own part.before part.olds (brought e) part.behind part.holes fine_whole.numbered.once m i in
          let k = all_has (λ (n : ℕ). n < next) (program_numbers whole) m low_whole w in
          subst (Absent m) (sym continues) (never_absent m (counting next (uses e)) (counting_low next (uses e) m k))

      come : All (λ (n : ℕ). n < next_after e next) (numbers (brought e))
      come = subst (λ (ns : List ℕ). All (λ (n : ℕ). n < next_after e next) ns) (sym continues) (never_below (next_after e next) (counting next (uses e)) (λ m k. counting_high next (uses e) m k))

      pub gap_made : AreNumbered (edited e P) → FitsCode [] (layout_in h.bare) (code_in (resolver_at [] h.bare) (brought e)) → splice_fault P h g (brought e) ≡ None → (change : Change) → IsSplice P h g (brought e) change → IsMade P (edited e P) (next_after e next) change
      gap_made numbered fits none change s =
          let new = new_program part.own part.holes part.before part.olds (brought e) part.behind part.front part.back in
          let splice : IsSplice whole (head_of own) g (brought e) change = subst (λ (z : ProcHeader). IsSplice whole z g (brought e) change) head_is (subst (λ (os : List Procedure). IsSplice os h g (brought e) change) part.is s) in
          let fit : FitsCode [] (layout_in part.own) (code_in (resolver_at [] part.own) (brought e)) = subst (λ (z : ProcHeader). FitsCode [] (layout_in z.bare) (code_in (resolver_at [] z.bare) (brought e))) head_is fits in
          let no : splice_fault whole (head_of own) g (brought e) ≡ None = ap (λ (z : ProcHeader). splice_fault whole z g (brought e)) (sym head_is) ∙ ap (λ (os : List Procedure). splice_fault os h g (brought e)) (sym part.is) ∙ none in
          let made : IsMade whole new (next_after e next) change =
          spliced_made part.own part.holes part.before part.olds part.behind part.front part.back (brought e) part.quiet closed g part.context part.in_front part.in_back part.gone
          fine_whole (subst AreNumbered part.becomes numbered) apart next (next_after e next) low_whole (omega arith) come fit no change splice in
          subst (λ (os : List Procedure). IsMade P os (next_after e next) change) (sym part.becomes) (subst (λ (os : List Procedure). IsMade os new (next_after e next) change) (sym part.is) made)
