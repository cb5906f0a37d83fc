-- Statements that a search has no need to look at keep their rows.
use Rattle.std.proofs.lemmas.Bool.{cases_lt, ltb-true}
use Rattle.std.proofs.Common.{◌≡◌, ◌⊎◌, inl, inr, ℕ, zero, suc, ◌<◌, nat_lt, List, [], ◌∷◌, length, map, slice_get, Option, Some, None, Bool, true, false, refl, sym, ap, subst, ◌∙◌, arith}
use Rattle.std.specs.Prelude.{if◌then◌else◌}
use Rattle.std.specs.Option.{option_map}
use Rattle.std.specs.BTreeSet.{contains, IsOrdered}
use Rattle.std.specs.Ordering.{nat_cmp}
use Rattle.base_values.proofs.Cases.{by_test}
use Rattle.imp_syntax.specs.Plain.{Procedure, Statement}
use Rattle.imp_syntax.specs.Plain as tree
use Rattle.imp_slots.specs.Plain.{Guard, Invoke}
use Rattle.imp_slots.specs.Fits.{Absent, IsChecked}
use Rattle.imp_check.specs.Parts.{ends_of}
use Rattle.imp_check.specs.Programs.{AreNumbered}
use Rattle.imp_check.specs.Slots.{routines_of}
use Rattle.imp_check.specs.Entries.{calls_here, entries_of, entry_of, sites_in}
use Rattle.imp_check.specs.declared.entry.BlockEnds.{BlockEnds}
use Rattle.std.specs.Bool.{OnTrue}
use Rattle.imp_table.specs.Changes.{overlay}
use Rattle.imp_table.specs.declared.change.Put.{Put}
use Rattle.imp_check.specs.declared.entry.Entry as known
use Rattle.imp_check.specs.declared.entry.SlotForm.{SlotForm}
use Rattle.imp_check.specs.declared.entry.SlotForm.TheVariants as form
use Rattle.imp_check.proofs.PutLemmas.{same}
use Rattle.imp_table.proofs.OverlayLemmas.{put_numbers, overlay_other, overlay_kept}
use Rattle.imp_check.proofs.StandLemmas.{place_there, site_there}
use Rattle.imp_check.proofs.BreakLemmas.{Has, loop_named}
use Rattle.batch_meaning.specs.Batch.{LoopOptions}
use Rattle.call_contexts.specs.Places.{is_loop}
use Rattle.call_contexts.proofs.Looped.{loop_there}
use Rattle.cell_names.specs.declared.frame.Point.{Point}
use Rattle.cell_names.specs.declared.frame.Point.TheVariants.{Entry, Body}
use Rattle.imp_flow_rows.specs.Shapes.{Shape}
use Rattle.imp_flow_rows.specs.Shapes as shape
use Rattle.imp_flow_rows.specs.Entered.{Table, behind_or, leave_at, front_in, front_point, end_of, end_in, branching, shape_from, known_in, node_by}
use Rattle.imp_flow.specs.Plans.{Plan, plan_of, thresholds_at, loops_at}
use Rattle.imp_flow.specs.Changed.{AreChanged, Stays, is_looping}
use Rattle.imp_flow.specs.declared.search.Search.{Search}
use Rattle.imp_flow.specs.Searches.{left_of, left_by, EndsAlike, GoesOn, IsLooked, AllLooked, ArePutsLooked, AreCallersLooked, AreLoopsLooked}
use Rattle.imp_flow.proofs.EnteredLemmas.{node_found, node_gone}
use Rattle.imp_flow.proofs.ChangedStays.{none_stays}
use Rattle.imp_flow.proofs.ChangedSet.{are_changed, puts_looked_more, callers_looked_more}
use Rattle.imp_flow.proofs.Alike.{unlooped, AreThresholdsAlike, alike_stays}
use Rattle.std.proofs.lemmas.Option.{same_Some}

-- Whether something of a change has a number, and whether a break of it leaves a loop.
record Put_at (puts : List Put) (P : Put → Type 0) : Type 0 where
  place : ℕ
  put : Put
  there : slice_get puts place ≡ Some put
  holds : P put

further : (p : Put) (ps : List Put) (P : Put → Type 0) → Put_at ps P → Put_at (p ∷ ps) P
further p ps P a = record { place = suc a.place; put = a.put; there = a.there; holds = a.holds }

find_number : (puts : List Put) (n : ℕ) → Put_at puts (λ p. p.number ≡ n) ⊎ Absent n (put_numbers puts)
find_number [] n = inr tt
find_number (p ∷ ps) n = by_test p.number n (λ b. Put_at (p ∷ ps) (λ p. p.number ≡ n) ⊎ Absent n (put_numbers (p ∷ ps)))
    (λ e. inl (record { place = 0; put = p; there = refl; holds = e }))
    (λ e. elim (find_number ps n) [ inl a ↦ inl (further p ps (λ p. p.number ≡ n) a) | inr a ↦ inr ((λ k. e (sym k)), a) ])

is_it : (o : Option ℕ) (n : ℕ) → (o ≡ Some n) ⊎ (o ≡ Some n → ⊥)
is_it None n = inr (λ e. cc)
is_it (Some m) n = by_test m n (λ b. (Some m ≡ Some n) ⊎ (Some m ≡ Some n → ⊥)) (λ e. inl (ap Some e)) (λ e. inr (λ k. e (same_Some m n k)))

find_left : (puts : List Put) (n : ℕ) → Put_at puts (λ p. left_by p.entry ≡ Some n) ⊎ ((i : ℕ) (p : Put) → slice_get puts i ≡ Some p → left_by p.entry ≡ Some n → ⊥)
find_left [] n = inr (λ i p e. absurd cc)
find_left (q ∷ ps) n = elim (is_it (left_by q.entry) n) [
  | inl e ↦ inl (record { place = 0; put = q; there = refl; holds = e })
  | inr e ↦ elim (find_left ps n) [
    | inl a ↦ inl (further q ps (λ p. left_by p.entry ≡ Some n) a)
    | inr a ↦ inr (none e a)
  ]
]
  where
    none : (left_by q.entry ≡ Some n → ⊥) → ((i : ℕ) (p : Put) → slice_get ps i ≡ Some p → left_by p.entry ≡ Some n → ⊥) → (i : ℕ) (p : Put) → slice_get (q ∷ ps) i ≡ Some p → left_by p.entry ≡ Some n → ⊥
    none e a zero p s = subst (λ (z : Put). left_by z.entry ≡ Some n → ⊥) (same_Some q p s) e
    none e a (suc i) p s = a i p s

-- Shapes that are told alike.
branch_alike : (f g : Table) (x : known.Entry) (c : Guard) (s : Statement) → map (leave_at f) x.breaks ≡ map (leave_at g) x.breaks → branching f x c s ≡ branching g x c s
branch_alike f g x c (tree.Simple n a) e = refl
branch_alike f g x c (tree.Break n) e = refl
branch_alike f g x c (tree.Call n y q es) e = refl
branch_alike f g x c (tree.If n d t u) e = refl
branch_alike f g x c (tree.While n d b) e = ap (shape.While c (behind_or Body x.inner.last)) e

shape_alike : (f g : Table) (xs ys : ℕ → Option Point) (x : known.Entry) (m : SlotForm) → map (leave_at f) x.breaks ≡ map (leave_at g) x.breaks → ((i : Invoke) (q : ℕ) → m ≡ form.Call i q → xs q ≡ ys q) → shape_from f xs x m ≡ shape_from g ys x m
shape_alike f g xs ys x (form.Stmt s) e h = refl
shape_alike f g xs ys x (form.Cond c) e h = branch_alike f g x c x.part e
shape_alike f g xs ys x (form.Call i q) e h = ap (shape.Call i q) (h i q refl)

leaves_alike : (f g : Table) (bs : List ℕ) → ((b : ℕ) → Has bs b → f b ≡ g b) → map (leave_at f) bs ≡ map (leave_at g) bs
leaves_alike f g [] h = refl
leaves_alike f g (b ∷ bs) h =
    let e : leave_at f b ≡ leave_at g b = ap (λ (o : Option known.Entry). record { stmt = b; front = front_in o }) (h b (inl refl)) in
    (λ i. e i ∷ leaves_alike f g bs (λ c k. h c (inr k)) i)

-- what is no loop has not the shape of one
no_branch : (f : Table) (x : known.Entry) (c : Guard) (s : Statement) → is_loop s ≡ false → is_looping (branching f x c s) ≡ false
no_branch f x c (tree.Simple n a) e = refl
no_branch f x c (tree.Break n) e = refl
no_branch f x c (tree.Call n y q es) e = refl
no_branch f x c (tree.If n d t u) e = refl
no_branch f x c (tree.While n d b) e = absurd cc

no_shape : (f : Table) (ends : ℕ → Option Point) (x : known.Entry) (m : SlotForm) → is_loop x.part ≡ false → is_looping (shape_from f ends x m) ≡ false
no_shape f ends x (form.Stmt s) e = refl
no_shape f ends x (form.Cond c) e = no_branch f x c x.part e
no_shape f ends x (form.Call i q) e = refl

-- Ends of procedures.
abbrev end_last : Option (Option ℕ) → Option Point
end_last None = None
end_last (Some o) = Some (behind_or Entry o)

end_is : (o : Option Procedure) → end_of o ≡ end_last (option_map (λ (p : Procedure). (ends_of p.body).last) o)
end_is None = refl
end_is (Some p) = refl

ends_alike : (ps qs : List Procedure) (q : ℕ) → EndsAlike ps qs q → end_of (slice_get ps q) ≡ end_of (slice_get qs q)
ends_alike ps qs q a = end_is (slice_get ps q) ∙ ap end_last (a.before ∙ sym a.after) ∙ sym (end_is (slice_get qs q))

-- two procedures that end alike
pub ends : (old new : List Procedure) (k : ℕ) (a b : BlockEnds) (t : Bool) → Some a ≡ option_map (λ (p : Procedure). ends_of p.body) (slice_get old k) → Some b ≡ option_map (λ (p : Procedure). ends_of p.body) (slice_get new k) → OnTrue t (a.last ≡ b.last) → OnTrue t (EndsAlike old new k)
ends old new k a b false e f h = tt
ends old new k a b true e f h = record { last = b.last; before = last_of (slice_get old k) a e ∙ ap Some h; after = last_of (slice_get new k) b f }
  where
    last_of : (o : Option Procedure) (c : BlockEnds) → Some c ≡ option_map (λ (p : Procedure). ends_of p.body) o → option_map (λ (p : Procedure). (ends_of p.body).last) o ≡ Some c.last
    last_of None c e = absurd cc
    last_of (Some p) c e = let q : ends_of p.body ≡ c = cc in ap (λ (z : BlockEnds). Some z.last) q

-- Two programs of which the second has these entries over the first, and a search through them.
module _ (ps qs : List Procedure) (puts : List Put) (engine : LoopOptions) (old_checked : IsChecked (routines_of ps)) (old_numbered : AreNumbered ps) (new_checked : IsChecked (routines_of qs)) (new_numbered : AreNumbered qs) (made : (n : ℕ) → entry_of (entries_of qs) n ≡ overlay puts (entry_of (entries_of ps)) n) where
  abbrev old : Plan
  old = plan_of (routines_of ps) engine

  abbrev new : Plan
  new = plan_of (routines_of qs) engine

  -- a statement that stays, and whose breaks stay
  breaks_stay : (n : ℕ) (x : known.Entry) → entry_of (entries_of qs) n ≡ Some x → ((i : ℕ) (p : Put) → slice_get puts i ≡ Some p → left_by p.entry ≡ Some n → ⊥) → (b : ℕ) → Has x.breaks b → known_in ps b ≡ known_in qs b
  breaks_stay n x e none b h =
      let y = loop_named qs n b x new_numbered e h in
      let left : left_by (Some y.entry) ≡ Some n = ap (λ m. left_of m y.entry.context.head) y.break ∙ y.loop in
      overlay_kept puts (entry_of (entries_of ps)) b y.entry (sym (made b) ∙ y.known) (λ i p s k. none i p s (ap left_by k ∙ left)) ∙ sym y.known

  module _ (s : Search) (looked_puts : ArePutsLooked old new s puts) (looked_callers : (k : ℕ) → k < length qs → AreCallersLooked old new s ps qs k) (looked_loops : engine.widening.delay < engine.budget → (k : ℕ) → k < length qs → AreLoopsLooked old new s k) where
    -- a call whose callee ends as before, or at which the search looked
    callee : (n : ℕ) (x : known.Entry) (m : SlotForm) → entry_of (entries_of qs) n ≡ Some x → x.form ≡ m → IsLooked old new s n ⊎ ((i : Invoke) (q : ℕ) → m ≡ form.Call i q → end_in ps x.context.proc q ≡ end_in qs x.context.proc q)
    callee n x (form.Stmt a) e f = inr (λ i q c. absurd cc)
    callee n x (form.Cond a) e f = inr (λ i q c. absurd cc)
    callee n x (form.Call j r) e f = go (nat_lt r x.context.proc) refl
      where
        callee_of : (i : Invoke) (q : ℕ) → form.Call j r ≡ form.Call i q → r ≡ q
        callee_of i q c = cc

        none : nat_lt r x.context.proc ≡ false → end_in ps x.context.proc r ≡ end_in qs x.context.proc r
        none t = ap (λ b. if b then end_of (slice_get ps r) else None) t ∙ sym (ap (λ b. if b then end_of (slice_get qs r) else None) t)

        some : end_of (slice_get ps r) ≡ end_of (slice_get qs r) → end_in ps x.context.proc r ≡ end_in qs x.context.proc r
        some k = ap (λ o. if nat_lt r x.context.proc then o else None) k

        within : nat_lt r x.context.proc ≡ true → r < length qs
        within t = omega (arith, ltb-true r x.context.proc t, place_there qs n x e)

        called : AllLooked old new s (sites_in (entries_of qs) r) → IsLooked old new s n
        called a = let k = site_there qs r n x e (ap (λ m. calls_here m r) f ∙ same r) in a.at k.0 n k.1

        go : (b : Bool) → nat_lt r x.context.proc ≡ b → IsLooked old new s n ⊎ ((i : Invoke) (q : ℕ) → form.Call j r ≡ form.Call i q → end_in ps x.context.proc q ≡ end_in qs x.context.proc q)
        go false t = inr (λ i q c. subst (λ (k : ℕ). end_in ps x.context.proc k ≡ end_in qs x.context.proc k) (callee_of i q c) (none t))
        go true t = elim (looked_callers r (within t)) [
          | inl a ↦ inr (λ i q c. subst (λ (k : ℕ). end_in ps x.context.proc k ≡ end_in qs x.context.proc k) (callee_of i q c) (some (ends_alike ps qs r a)))
          | inr a ↦ inl (called a)
        ]

    -- a statement that thresholds do not count for, or at which the search looked
    marked : (n : ℕ) (x : known.Entry) → entry_of (entries_of qs) n ≡ Some x → IsLooked old new s n ⊎ AreThresholdsAlike engine (thresholds_at old x.context.proc) (thresholds_at new x.context.proc) (node_by qs x)
    marked n x e = elim (cases_lt engine.widening.delay engine.budget) [
      | inr l ↦ inr (inr (inl l))
      | inl l ↦ elim (looked_loops l x.context.proc (place_there qs n x e)) [
        | inl m ↦ inr (inl m)
        | inr a ↦ go (is_loop x.part) refl a
      ]
    ]
      where
        go : (b : Bool) → is_loop x.part ≡ b → AllLooked old new s (loops_at new x.context.proc) → IsLooked old new s n ⊎ AreThresholdsAlike engine (thresholds_at old x.context.proc) (thresholds_at new x.context.proc) (node_by qs x)
        go true t a = let k = loop_there qs n x new_numbered e t in inl (a.at k.0 n k.1)
        go false t a = inr (inr (inr (no_shape (known_in qs) (end_in qs x.context.proc) x x.form t)))

    stays_there : (n : ℕ) (x : known.Entry) → entry_of (entries_of ps) n ≡ Some x → entry_of (entries_of qs) n ≡ Some x → ((i : ℕ) (p : Put) → slice_get puts i ≡ Some p → left_by p.entry ≡ Some n → ⊥) → IsLooked old new s n ⊎ Stays old new n
    stays_there n x e f none = elim (callee n x x.form f refl) [
      | inl l ↦ inl l
      | inr ends ↦ elim (marked n x f) [
        | inl l ↦ inl l
        | inr m ↦ inr (alike_stays old new refl n (node_by ps x) (node_by qs x) (node_found ps n x old_checked old_numbered e) (node_found qs n x new_checked new_numbered f) (alike ends) m)
      ]
    ]
      where
        alike : ((i : Invoke) (q : ℕ) → x.form ≡ form.Call i q → end_in ps x.context.proc q ≡ end_in qs x.context.proc q) → unlooped (node_by ps x) ≡ unlooped (node_by qs x)
        alike ends =
            let leaves = leaves_alike (known_in ps) (known_in qs) x.breaks (breaks_stay n x f none) in
            ap (λ (z : Shape). record { stmt = x.number; place = x.context.proc; loops = []; front = front_point x; shape = z }) (shape_alike (known_in ps) (known_in qs) (end_in ps x.context.proc) (end_in qs x.context.proc) x x.form leaves ends)

    -- All that it has not found keep their rows.
    pub rest_stays : (n : ℕ) → contains nat_cmp s.changed n ≡ false → Stays old new n
    rest_stays n h = elim (find_number puts n) [
      | inl a ↦ (subst (IsLooked old new s) a.holds (looked_puts.at a.place a.put a.there)).kept h
      | inr absent ↦ elim (find_left puts n) [
        | inl a ↦ (looked_puts.left a.place a.put n a.there a.holds).kept h
        | inr none ↦ go (entry_of (entries_of ps) n) refl absent none
      ]
    ]
      where
        go : (o : Option known.Entry) → entry_of (entries_of ps) n ≡ o → Absent n (put_numbers puts) → ((i : ℕ) (p : Put) → slice_get puts i ≡ Some p → left_by p.entry ≡ Some n → ⊥) → Stays old new n
        go None e absent none = none_stays old new refl n (node_gone ps n old_numbered e)
        go (Some x) e absent none = elim (stays_there n x e (made n ∙ overlay_other puts (entry_of (entries_of ps)) n absent ∙ e) none) [
          | inl l ↦ l.kept h
          | inr t ↦ t
        ]

-- What a search has looked at, as it went on, and that all is found then.
pub record AllDone (ps qs : List Procedure) (puts : List Put) (old new : Plan) (s t u : Search) : Type 0 where
  pub at_puts : ArePutsLooked old new s puts
  pub on : GoesOn old new s t
  pub at_callers : (k : ℕ) → k < length qs → AreCallersLooked old new t ps qs k
  pub further : GoesOn old new t u
  pub at_loops : old.engine.widening.delay < old.engine.budget → (k : ℕ) → k < length qs → AreLoopsLooked old new u k

pub all_found : (ps qs : List Procedure) (puts : List Put) (engine : LoopOptions) (old new : Plan) (s t u : Search) (ns : List ℕ) → old ≡ plan_of (routines_of ps) engine → new ≡ plan_of (routines_of qs) engine → AreNumbered ps → AreNumbered qs → ((n : ℕ) → entry_of (entries_of qs) n ≡ overlay puts (entry_of (entries_of ps)) n) → AllDone ps qs puts old new s t u → IsOrdered nat_cmp u.changed → ns ≡ u.changed.keys → AreChanged (plan_of (routines_of ps) engine) (plan_of (routines_of qs) engine) ns
all_found ps qs puts engine old new s t u ns eo en np nq made done o e = go (subst (λ (z : Plan). AllDone ps qs puts (plan_of (routines_of ps) engine) z s t u) en (subst (λ (z : Plan). AllDone ps qs puts z new s t u) eo done))
  where
    go : AllDone ps qs puts (plan_of (routines_of ps) engine) (plan_of (routines_of qs) engine) s t u → AreChanged (plan_of (routines_of ps) engine) (plan_of (routines_of qs) engine) ns
    go d =
        let a = plan_of (routines_of ps) engine in
        let b = plan_of (routines_of qs) engine in
        let i = d.further.is in
        are_changed a b u i
        (rest_stays ps qs puts engine i.old_checked np i.new_checked nq made u
        (puts_looked_more a b t u d.further puts (puts_looked_more a b s t d.on puts d.at_puts))
        (λ k l. callers_looked_more a b t u d.further ps qs k (d.at_callers k l))
        d.at_loops)
        ns o e
