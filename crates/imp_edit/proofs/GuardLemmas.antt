-- Another condition of a statement: its fault alone, and a change of one entry.
use Rattle.std.proofs.lemmas.Bool.Decides.{nat_tests}
use Rattle.std.proofs.Common.{◌≡◌, ℕ, zero, suc, ◌<◌, ◌==◌, cond, List, [], ◌∷◌, Option, Some, None, Bool, true, false, refl, sym, ap, ◌∙◌, subst, arith}
use Rattle.std.specs.Prelude.{slice_get, unwrap_or}
use Rattle.std.specs.List.{All}
use Rattle.std.specs.Option.{option_map}
use Rattle.std.proofs.lemmas.List.Elements.{All-push}
use Rattle.imp_syntax.specs.Plain.{Condition, Statement, Simple, Break, Call, If, While, Statements, Ends, Procedure, number_of, program_numbers}
use Rattle.imp_syntax.specs.Changes.{with_condition}
use Rattle.imp_syntax.specs.declared.words.Declaration.{Declaration}
use Rattle.imp_slots.specs.Fits.{Distinct, IsChecked, fits_guard}
use Rattle.imp_check.specs.Fine.{IsFine}
use Rattle.imp_check.specs.Faults.{first, at, in_procedure}
use Rattle.imp_check.specs.Names.{variables}
use Rattle.imp_check.specs.Single.{FitsAlone, own_fault}
use Rattle.imp_check.specs.Slots.{Resolver, layout_in, guard_in, routines_of}
use Rattle.imp_table.proofs.FallingLemmas.{falling_more}
use Rattle.imp_check.specs.Statements.{condition_fault, block_fault}
use Rattle.imp_check.specs.Parts.{part_of}
use Rattle.imp_check.specs.Programs.{AreNumbered, block_count, program_count, variables_fault, check_fault}
use Rattle.imp_check.specs.Entries.{entries_of, entry_of, form_in, resolver_at, head_of, heads_of, sites_of}
use Rattle.imp_table.specs.Changes.{AreWithin, Makes, overlay}
use Rattle.imp_table.specs.declared.change.Change.{Change}
use Rattle.imp_table.specs.declared.change.Put.{Put}
use Rattle.imp_check.specs.declared.entry.Entry.{Entry}
use Rattle.imp_check.specs.declared.entry.ProcHeader.{ProcHeader}
use Rattle.imp_check.specs.declared.entry.SlotForm.{SlotForm}
use Rattle.imp_check.specs.declared.entry.SlotForm.TheVariants as form
use Rattle.edit_entries.specs.Holes.{Hole, plug, between, in_loop, with_body}
use Rattle.edit_entries.proofs.Counts.{count_edited, count_program}
use Rattle.edit_entries.proofs.Exchange.{faultless, exchanged_fault}
use Rattle.edit_entries.proofs.Filled.{plug_ends}
use Rattle.edit_entries.proofs.Fitting.{FitsThere, program_fits, same_leave}
use Rattle.edit_entries.proofs.Guards.{one, same_leaving, guard_ends, guard_other, guard_own}
use Rattle.edit_entries.proofs.Programs.{old_program, new_program, scope_at}
use Rattle.edit_entries.proofs.Sites.{sites, sites_stay, heads_stay}
use Rattle.edit_entries.proofs.Standing.{Stands, site, old_is, all_has, known_has}
use Rattle.imp_edit.specs.Changes.{guarded, in_program}
use Rattle.imp_edit.specs.Refusals.{IsRefusal, fits}
use Rattle.imp_edit.specs.declared.error.EditError.{EditError}
use Rattle.imp_edit.specs.declared.error.EditError.TheVariants.{Fault}
use Rattle.imp_edit.specs.EditChange.{IsMade}
use Rattle.imp_edit.specs.declared.refusals.Needed.TheVariants.{Conditional}
use Rattle.imp_edit.proofs.Exchanged.{program_edited}
use Rattle.imp_check.proofs.FewLemmas.{first_none, first_alone}

guarded_is : (d : Condition) (s : Statement) → guarded d s ≡ one (with_condition s d)
guarded_is d (Simple n a) = refl
guarded_is d (Break n) = refl
guarded_is d (Call n x g es) = refl
guarded_is d (If n c t e) = refl
guarded_is d (While n c b) = refl

-- one entry at a number
abbrev pub one_put : ℕ → Entry → List Put
one_put n y = record { number = n; entry = Some y } ∷ []

guarded_part : (d : Condition) (s : Statement) → with_condition (part_of s) d ≡ part_of (with_condition s d)
guarded_part d (Simple n a) = refl
guarded_part d (Break n) = refl
guarded_part d (Call n x g es) = refl
guarded_part d (If n c t e) = refl
guarded_part d (While n c b) = refl

-- The fault of a condition, with no other one after it.
alone_in : {A B : Type 0} (f : Option A → B) (o t e : Option A) → t ≡ None → e ≡ None → f (first (first o (first t e)) None) ≡ f o
alone_in f o t e p q = ap (λ z. f (first (first o (first z e)) None)) p ∙ ap (λ z. f (first (first o z) None)) q ∙ ap f (first_alone (first o None) ∙ first_alone o)

alone_while : {A B : Type 0} (f : Option A → B) (o t : Option A) → t ≡ None → f (first (first o t) None) ≡ f o
alone_while f o t p = ap (λ z. f (first (first o z) None)) p ∙ ap f (first_alone (first o None) ∙ first_alone o)

module _ (p : Procedure) (hs : List Hole) (before behind : Statements) (ps qs : List Procedure) (d : Condition) where
  abbrev old : Statement → List Procedure
  old s = old_program p hs before (one s) Ends behind ps qs

  abbrev new : Statement → List Procedure
  new s = new_program p hs before (one s) (one (with_condition s d)) behind ps qs

  guard_fault : (s : Statement) → fits Conditional (part_of s) ≡ true → check_fault (old s) ≡ None → check_fault (new s) ≡ in_procedure p.name (at (number_of s) (condition_fault (variables p) d))
  guard_fault (Simple n a) f z = cc
  guard_fault (Break n) f z = cc
  guard_fault (Call n x g es) f z = cc
  guard_fault (If n c t e) f z =
      let olds = one (If n c t e) in
      let news = one (If n d t e) in
      let sc = scope_at p hs before olds olds behind ps qs in
      let i = in_loop false hs in
      let w = (faultless p hs before olds news behind ps qs z).part in
      let a = first_none (first (at n (condition_fault (variables p) c)) (first (block_fault sc i t) (block_fault sc i e))) None w in
      let b = first_none (at n (condition_fault (variables p) c)) (first (block_fault sc i t) (block_fault sc i e)) a.0 in
      let k = first_none (block_fault sc i t) (block_fault sc i e) b.1 in
      exchanged_fault p hs before olds news behind ps qs z refl (omega arith) (λ g. refl)
      ∙ alone_in (in_procedure p.name) (at n (condition_fault (variables p) d)) (block_fault sc i t) (block_fault sc i e) k.0 k.1
  guard_fault (While n c b) f z =
      let olds = one (While n c b) in
      let news = one (While n d b) in
      let sc = scope_at p hs before olds olds behind ps qs in
      let i = in_loop false hs in
      let w = (faultless p hs before olds news behind ps qs z).part in
      let a = first_none (first (at n (condition_fault (variables p) c)) (block_fault sc true b)) None w in
      let k = first_none (at n (condition_fault (variables p) c)) (block_fault sc true b) a.0 in
      exchanged_fault p hs before olds news behind ps qs z refl (omega arith) (λ g. refl)
      ∙ alone_while (in_procedure p.name) (at n (condition_fault (variables p) d)) (block_fault sc true b) k.1

  fits_there : (s : Statement) → fits Conditional (part_of s) ≡ true → fits_guard (layout_in p) (guard_in (layout_in p) d) ≡ true → FitsThere p hs before (one s) (one (with_condition s d)) behind
  fits_there (Simple n a) f k = λ rs es w. cc
  fits_there (Break n) f k = λ rs es w. cc
  fits_there (Call n x g os) f k = λ rs es w. cc
  fits_there (If n c t e) f k = λ rs es w. (k, w.1, w.2, tt)
  fits_there (While n c b) f k = λ rs es w. (k, w.1, tt)

  same_sites : (s : Statement) (es : List Procedure) (k : ℕ) → sites (resolver_at es p) k (one s) ≡ sites (resolver_at es p) k (one (with_condition s d))
  same_sites (Simple n a) es k = refl
  same_sites (Break n) es k = refl
  same_sites (Call n x g os) es k = refl
  same_sites (If n c t e) es k = refl
  same_sites (While n c b) es k = refl

  same_count : (s : Statement) → block_count (one (with_condition s d)) ≡ block_count (one s)
  same_count (Simple n a) = refl
  same_count (Break n) = refl
  same_count (Call n x g es) = refl
  same_count (If n c t e) = refl
  same_count (While n c b) = refl

  form_is : (s : Statement) (es : List Procedure) → fits Conditional (part_of s) ≡ true → form_in (resolver_at es p) (with_condition s d) ≡ form.Cond (guard_in (layout_in p) d)
  form_is (Simple n a) es f = cc
  form_is (Break n) es f = cc
  form_is (Call n x g os) es f = cc
  form_is (If n c t e) es f = refl
  form_is (While n c b) es f = refl

  count_stays : (s : Statement) → program_count (old s) ≡ program_count (new s)
  count_stays s =
      omega (
        arith,
        count_program ps (with_body p (plug hs (between before behind (one s)))) (with_body p (plug hs (between before behind (one (with_condition s d))))) qs,
        count_edited hs before (one s) (one (with_condition s d)) behind,
        same_count s,
      )

  guard_makes : (s : Statement) (x y : Entry) (change : Change) → fits Conditional (part_of s) ≡ true → Distinct (program_numbers (old s)) → Distinct (program_numbers (new s)) →
      entry_of (entries_of (old s)) (number_of s) ≡ Some x → y ≡ record x { part = part_of (with_condition s d); form = form.Cond (guard_in (layout_in p) d) } →
      change.entries.items ≡ one_put (number_of s) y → change.heads ≡ None → change.count ≡ program_count (old s) → change.sites ≡ None →
      Makes (old s) change (new s)
  guard_makes s x y change f once again k same puts no_heads counted no_sites = record {
    entries = λ m. go m (number_of s == m) refl ∙ ap (λ (os : List Put). overlay os (entry_of (entries_of (old s))) m) (sym puts);
    heads =
        heads_stay p (plug hs (between before behind (one s))) (plug hs (between before behind (one (with_condition s d)))) ps qs (plug_ends (resolver_at ps p) 0 hs (between before behind (one s)) (between before behind (one (with_condition s d))) (guard_ends before behind s d))
        ∙ ap (λ (o : Option (List ProcHeader)). unwrap_or o (heads_of (old s))) (sym no_heads);
    counted = counted ∙ count_stays s;
    sites = sites_stay p hs before (one s) (one (with_condition s d)) behind (same_sites s) ps qs ∙ ap (λ (o : Option (List (List ℕ))). unwrap_or o (sites_of (old s))) (sym no_sites);
  }
    where
      go : (m : ℕ) (b : Bool) → (number_of s == m) ≡ b → entry_of (entries_of (new s)) m ≡ cond b (Some y) (entry_of (entries_of (old s)) m)
      go m true e =
          let q : number_of s ≡ m = grind (arith, nat_tests) in
          ap (entry_of (entries_of (new s))) (sym q)
          ∙ guard_own ps qs p hs before behind s d once again x k
          ∙ ap (λ (z : SlotForm). Some (record x { part = part_of (with_condition s d); form = z })) (form_is s ps f)
          ∙ ap (λ (z : Entry). Some z) (sym same)
      go m false e = sym (guard_other ps qs p hs before behind s d m e)

-- What the new program is.
new_is : (n : ℕ) (d : Condition) (P : List Procedure) → Distinct (program_numbers P) → (s : Stands n P) →
    in_program n (guarded d) P ≡ new_program s.own s.place.holes s.place.before (one s.place.stmt) (one (with_condition s.place.stmt d)) s.place.behind s.front s.back
new_is n d P once s = program_edited n (guarded d) P once s ∙ ap (λ b. new_program s.own s.place.holes s.place.before (one s.place.stmt) b s.place.behind s.front s.back) (guarded_is d s.place.stmt)

conditional_is : (e : Entry) (s : Statement) → e.part ≡ part_of s → fits Conditional e.part ≡ true → fits Conditional (part_of s) ≡ true
conditional_is e s q f = ap (fits Conditional) (sym q) ∙ f

-- The first fault is that of the condition.
pub guard_refusal : (n : ℕ) (d : Condition) (P : List Procedure) (e : Entry) (h : ProcHeader) → IsFine P → entry_of (entries_of P) n ≡ Some e → slice_get (heads_of P) e.context.proc ≡ Some h → fits Conditional e.part ≡ true →
    check_fault (in_program n (guarded d) P) ≡ in_procedure h.bare.name (at n (condition_fault (variables h.bare) d))
guard_refusal n d P e h fine k l f =
    let t = site n P e h fine.numbered.once k l in
    let s = t.place in
    let c = conditional_is e s.place.stmt (ap (λ (z : Entry). z.part) t.entry) f in
    ap check_fault (new_is n d P fine.numbered.once s)
    ∙ guard_fault s.own s.place.holes s.place.before s.place.behind s.front s.back d s.place.stmt c (ap check_fault (sym (old_is n P s)) ∙ fine.faultless)
    ∙ ap (λ m. in_procedure s.own.name (at m (condition_fault (variables s.own) d))) s.place.number
    ∙ ap (λ (z : ProcHeader). in_procedure z.bare.name (at n (condition_fault (variables z.bare) d))) (sym t.head)

one_within : (next : ℕ) (p : Put) → p.number < next → AreWithin next (p ∷ [])
one_within next p h = record { falling = falling_more [] p (λ i j d l m. absurd (omega arith)) (λ i d l. absurd (omega arith)); below = All-push (λ (q : Put). q.number < next) [] p (λ i d l. absurd (omega arith)) h }

-- The change of one entry makes the new program.
pub guard_made : (n : ℕ) (d : Condition) (P : List Procedure) (e y : Entry) (h : ProcHeader) (next : ℕ) (change : Change) → IsFine P → entry_of (entries_of P) n ≡ Some e → slice_get (heads_of P) e.context.proc ≡ Some h → fits Conditional e.part ≡ true →
    All (λ (m : ℕ). m < next) (program_numbers P) → AreNumbered (in_program n (guarded d) P) → condition_fault (variables h.bare) d ≡ None → fits_guard (layout_in h.bare) (guard_in (layout_in h.bare) d) ≡ true →
    y ≡ record e { part = with_condition e.part d; form = form.Cond (guard_in (layout_in h.bare) d) } →
    change.entries.items ≡ one_put n y → change.heads ≡ None → change.count ≡ program_count P → change.sites ≡ None →
    IsMade P (in_program n (guarded d) P) next change
guard_made n d P e y h next change fine k l f low numbered c g same puts no_heads counted no_sites =
    let t = site n P e h fine.numbered.once k l in
    let s = t.place in
    let v = s.place in
    let u = conditional_is e v.stmt (ap (λ (z : Entry). z.part) t.entry) f in
    let is = new_is n d P fine.numbered.once s in
    let was = old_is n P s in
    let fits_own : fits_guard (layout_in s.own) (guard_in (layout_in s.own) d) ≡ true = subst (λ (z : ProcHeader). fits_guard (layout_in z.bare) (guard_in (layout_in z.bare) d) ≡ true) t.head g in
    let part : with_condition e.part d ≡ part_of (with_condition v.stmt d) = ap (λ (z : Entry). with_condition z.part d) t.entry ∙ guarded_part d v.stmt in
    let own : y ≡ record e { part = part_of (with_condition v.stmt d); form = form.Cond (guard_in (layout_in s.own) d) } =
    same ∙ ap (λ (z : Statement). record e { part = z; form = form.Cond (guard_in (layout_in h.bare) d) }) part ∙ ap (λ (z : ProcHeader). record e { part = part_of (with_condition v.stmt d); form = form.Cond (guard_in (layout_in z.bare) d) }) t.head in
    let once : Distinct (program_numbers (old s.own v.holes v.before v.behind s.front s.back d v.stmt)) = subst (λ (os : List Procedure). Distinct (program_numbers os)) was fine.numbered.once in
    let again : AreNumbered (new s.own v.holes v.before v.behind s.front s.back d v.stmt) = subst AreNumbered is numbered in
    let found : entry_of (entries_of (old s.own v.holes v.before v.behind s.front s.back d v.stmt)) (number_of v.stmt) ≡ Some e = ap (λ (os : List Procedure). entry_of (entries_of os) (number_of v.stmt)) (sym was) ∙ ap (entry_of (entries_of P)) v.number ∙ k in
    let made = guard_makes s.own v.holes v.before v.behind s.front s.back d v.stmt e y change u once again.once found own (puts ∙ ap (λ (m : ℕ). one_put m y) (sym v.number)) no_heads (counted ∙ ap program_count was) no_sites in
    record {
      makes = subst (λ (os : List Procedure). Makes P change os) (sym is) (subst (λ (os : List Procedure). Makes os change (new s.own v.holes v.before v.behind s.front s.back d v.stmt)) (sym was) made);
      fine = record {
        faultless = guard_refusal n d P e h fine k l f ∙ ap (λ o. in_procedure h.bare.name (at n o)) c;
        numbered = numbered;
        fit = subst (λ (os : List Procedure). IsChecked (routines_of os)) (sym is) (program_fits s.own v.holes v.before (one v.stmt) (one (with_condition v.stmt d)) v.behind s.front s.back (fits_there s.own v.holes v.before v.behind s.front s.back d v.stmt u fits_own) (same_leave s.own v.holes v.before (one v.stmt) (one (with_condition v.stmt d)) v.behind (same_leaving v.stmt d)) (subst (λ (os : List Procedure). IsChecked (routines_of os)) was fine.fit) again);
      };
      within = subst (AreWithin next) (sym puts) (one_within next (record { number = n; entry = Some y }) (all_has (λ (m : ℕ). m < next) (program_numbers P) n low (known_has n P e k)));
    }

-- What the code asks.
pub fine_of : (P : List Procedure) → check_fault P ≡ None → AreNumbered P → IsChecked (routines_of P) → IsFine P
fine_of P z k w = record { faultless = z; numbered = k; fit = w }

-- the variables of a procedure that is there have no fault
pub guard_variables : (n : ℕ) (P : List Procedure) (e : Entry) (h : ProcHeader) → IsFine P → entry_of (entries_of P) n ≡ Some e → slice_get (heads_of P) e.context.proc ≡ Some h → variables_fault [] (variables h.bare) ≡ None
guard_variables n P e h fine k l =
    let t = site n P e h fine.numbered.once k l in
    let s = t.place in
    let v = s.place in
    ap (λ (z : ProcHeader). variables_fault [] (variables z.bare)) t.head
    ∙ (faultless s.own v.holes v.before (one v.stmt) (one v.stmt) v.behind s.front s.back (ap check_fault (sym (old_is n P s)) ∙ fine.faultless)).vars

-- A statement with another condition, by itself.
pub guarded_fault : (vs : List Declaration) (s : Statement) (d : Condition) → fits Conditional s ≡ true → own_fault vs (with_condition s d) ≡ condition_fault vs d
guarded_fault vs (Simple n a) d f = cc
guarded_fault vs (Break n) d f = cc
guarded_fault vs (Call n x g es) d f = cc
guarded_fault vs (If n c t e) d f = refl
guarded_fault vs (While n c b) d f = refl

pub guarded_fits : (p : Procedure) (s : Statement) (d : Condition) → fits Conditional s ≡ true → FitsAlone p (with_condition s d) → fits_guard (layout_in p) (guard_in (layout_in p) d) ≡ true
guarded_fits p (Simple n a) d f w = cc
guarded_fits p (Break n) d f w = cc
guarded_fits p (Call n x g es) d f w = cc
guarded_fits p (If n c t e) d f w = w
guarded_fits p (While n c b) d f w = w

pub guarded_form : (r : Resolver) (s : Statement) (d : Condition) → fits Conditional s ≡ true → form_in r (with_condition s d) ≡ form.Cond (guard_in r.layout d)
guarded_form r (Simple n a) d f = cc
guarded_form r (Break n) d f = cc
guarded_form r (Call n x g es) d f = cc
guarded_form r (If n c t e) d f = refl
guarded_form r (While n c b) d f = refl

-- the layout of a procedure that is there
pub head_layout : (P : List Procedure) (k : ℕ) (h : ProcHeader) → slice_get (heads_of P) k ≡ Some h → h.layout ≡ layout_in h.bare
head_layout [] k h e = cc
head_layout (p ∷ ps) zero h e = let q : head_of p ≡ h = cc in subst (λ (z : ProcHeader). z.layout ≡ layout_in z.bare) q refl
head_layout (p ∷ ps) (suc k) h e = head_layout ps k h e

pub guard_refused : (n : ℕ) (d : Condition) (P : List Procedure) (e : Entry) (h : ProcHeader) (s : Statement) (r : EditError) → IsFine P → entry_of (entries_of P) n ≡ Some e → slice_get (heads_of P) e.context.proc ≡ Some h → fits Conditional e.part ≡ true →
    s ≡ with_condition e.part d → IsRefusal (option_map Fault (in_procedure h.bare.name (at n (own_fault (variables h.bare) s)))) r → IsRefusal (option_map Fault (check_fault (in_program n (guarded d) P))) r
guard_refused n d P e h s r fine k l f is w =
    let own : own_fault (variables h.bare) s ≡ condition_fault (variables h.bare) d = ap (own_fault (variables h.bare)) is ∙ guarded_fault (variables h.bare) e.part d f in
    subst (λ o. IsRefusal (option_map Fault o) r) (ap (λ o. in_procedure h.bare.name (at n o)) own ∙ sym (guard_refusal n d P e h fine k l f)) w
