-- The row of a name by number, in a program and in the one in which a simple statement is exchanged.
use Rattle.std.specs.Option.{option_map}
use Rattle.std.proofs.Common.{◌≡◌, ◌≢◌, ℕ, zero, suc, List, [], ◌∷◌, Option, Some, Bool, true, false, refl, sym, ap, ◌∙◌, subst}
use Rattle.imp_slots.specs.Plain.{Effect, Does, Code, Stop, Simple, If, While, Call, Break, Routine}
use Rattle.imp_slots.specs.Fits.{Absent}
use Rattle.batch_meaning.specs.Batch.{LoopOptions}
use Rattle.batch_meaning.specs.Places.{find, if_some, main_layout}
use Rattle.batch_meaning.proofs.Places.{found_member}
use Rattle.cell_names.specs.declared.frame.NameFrame.{NameFrame}
use Rattle.cell_names.specs.declared.frame.NameFrame.TheVariants.{InCall, InLoop}
use Rattle.cell_names.specs.declared.frame.Point.{Point}
use Rattle.cell_names.specs.declared.frame.Point.TheVariants.{Entry, Then, Else, Body, Post, Iterate, Fix, Exit, Leap}
use Rattle.base_values.proofs.Members.{keys}
use Rattle.cell_rows.specs.Names.{name, Mark, mark, PathBlock, bare, number}
use Rattle.cell_rows.specs.Rows.{Row, Init, One, Posts, sites_of, branch_row, post_row, next_row, fix_row, exit_row, leap_row, enter_row, turn_row}
use Rattle.cell_rows.specs.Flat.{Flat, flat, stand_in, by_text, flat_row}
use Rattle.cell_rows.proofs.Lookup.{then_some}
use Rattle.why_slice.specs.Exchanged.{OnlySimple, IsSimple}
use Rattle.why_slice.proofs.Shifted.{shift_number, shift_point, shift, shift_row, shift_other, shift_it, find_shifted, pick_it, swap}
use Rattle.why_slice.proofs.ShiftedRows.{swap_all, swap_flat, flat_shifted, SameThresholds, Known, known, branch_shifts, turn_shifts, next_shifts, fix_shifts, exit_shifts, leap_shifts, enter_shifts, post_shifts}
use Rattle.std.proofs.lemmas.Option.{same_Some}

abbrev Compound : Code → Type 0
Compound Stop = ⊥
Compound (Simple n e r) = ⊥
Compound (If n g x y r) = Unit {0}
Compound (While n g b r) = Unit {0}
Compound (Call n i q r) = Unit {0}
Compound (Break n r) = Unit {0}

apart : (s : ℕ) (d : Code) → OnlySimple s d → Compound d → number d ≢ s
apart s Stop h c = absurd c
apart s (Simple n e r) h c = absurd c
apart s (If n g x y r) h c = h.0
apart s (While n g b r) h c = h.0
apart s (Call n i q r) h c = h.0
apart s (Break n r) h c = h.0

module _ (engine : LoopOptions) (w : List NameFrame) (b : PathBlock engine bare) (x : Mark (Unit {0})) (r : Row) where
  branch_compound : (h : Bool) (d : Code) → branch_row engine bare w h b x d ≡ Some r → Compound d
  branch_compound h Stop e = absurd cc
  branch_compound h (Simple n a q) e = absurd cc
  branch_compound h (If n g y z q) e = tt
  branch_compound h (While n g y q) e = tt
  branch_compound h (Call n i k q) e = tt
  branch_compound h (Break n q) e = tt

  turn_compound : (n k : ℕ) (d : Code) → turn_row engine bare w b n k x d ≡ Some r → Compound d
  turn_compound n k Stop e = absurd cc
  turn_compound n k (Simple m a q) e = absurd cc
  turn_compound n k (If m g y z q) e = tt
  turn_compound n k (While m g y q) e = tt
  turn_compound n k (Call m i j q) e = tt
  turn_compound n k (Break m q) e = tt

  next_compound : (k : ℕ) (d : Code) → next_row engine bare w k b x d ≡ Some r → Compound d
  next_compound k Stop e = absurd cc
  next_compound k (Simple n a q) e = absurd cc
  next_compound k (If n g y z q) e = tt
  next_compound k (While n g y q) e = tt
  next_compound k (Call n i j q) e = tt
  next_compound k (Break n q) e = tt

  fix_compound : (d : Code) → fix_row engine bare w b x d ≡ Some r → Compound d
  fix_compound Stop e = absurd cc
  fix_compound (Simple n a q) e = absurd cc
  fix_compound (If n g y z q) e = tt
  fix_compound (While n g y q) e = tt
  fix_compound (Call n i j q) e = tt
  fix_compound (Break n q) e = tt

  exit_compound : (d : Code) → exit_row engine bare w b x d ≡ Some r → Compound d
  exit_compound Stop e = absurd cc
  exit_compound (Simple n a q) e = absurd cc
  exit_compound (If n g y z q) e = tt
  exit_compound (While n g y q) e = tt
  exit_compound (Call n i j q) e = tt
  exit_compound (Break n q) e = tt

  leap_compound : (k : ℕ) (d : Code) → leap_row engine bare w k b x d ≡ Some r → Compound d
  leap_compound k Stop e = absurd cc
  leap_compound k (Simple n a q) e = absurd cc
  leap_compound k (If n g y z q) e = tt
  leap_compound k (While n g y q) e = tt
  leap_compound k (Call n i j q) e = tt
  leap_compound k (Break n q) e = tt

  enter_compound : (n : ℕ) (d : Code) → enter_row engine bare w b n x d ≡ Some r → Compound d
  enter_compound n Stop e = absurd cc
  enter_compound n (Simple m a q) e = absurd cc
  enter_compound n (If m g y z q) e = tt
  enter_compound n (While m g y q) e = tt
  enter_compound n (Call m i k q) e = tt
  enter_compound n (Break m q) e = tt

module _ (s t : ℕ) (f : Effect) (engine : LoopOptions) (ps : List Routine) (simple : IsSimple s ps) (marked : SameThresholds s t f engine.widening ps) (fresh : Absent t (keys (flat ps))) where
  abbrev others : List Routine
  others = swap_all s t f ps

  abbrev Reads : Type 0
  Reads = PathBlock engine bare → Mark (Unit {0}) → Code → Option Row

  abbrev KnownAt : ℕ → Flat → Type 0
  KnownAt n u = Known s t f engine.widening (n, u)

  abbrev read : List NameFrame → Reads → Flat → Option Row
  read w g u = g (stand_in engine ps w u) (mark u.text.front 0 tt) u.text.code

  looked : (n : ℕ) (u : Flat) → find n (flat ps) ≡ Some u → find (shift_number s t n) (flat others) ≡ Some (swap_flat s t f u)
  looked n u e = ap (find (shift_number s t n)) (flat_shifted s t f ps simple) ∙ find_shifted s t (swap_flat s t f) n u (flat ps) fresh e

  -- at the shifted number
  text_at : (w : List NameFrame) (n : ℕ) (g : Reads) (r : Row) (u : Flat) → find n (flat ps) ≡ Some u → read w g (swap_flat s t f u) ≡ Some r → by_text engine others w (shift_number s t n) g ≡ Some r
  text_at w n g r u e i = ap (λ o. if_some o (λ u. g (stand_in engine others w u) (mark u.text.front 0 tt) u.text.code)) (looked n u e) ∙ i

  -- at a number that is not the exchanged one
  text_shifts : (w : List NameFrame) (n : ℕ) (g : Reads) (r : Row) → ((u : Flat) → KnownAt n u → read w g u ≡ Some r → (number u.text.code ≢ s) × (read w g (swap_flat s t f u) ≡ option_map (shift_row s t) (read w g u))) → by_text engine ps w n g ≡ Some r → by_text engine others w n g ≡ Some (shift_row s t r)
  text_shifts w n g r h e =
      let p = then_some (find n (flat ps)) (read w g) r e in
      let u = p.0 in
      let k = (known s t f engine.widening ps simple marked).at (n, u) (found_member n u (flat ps) p.1) in
      let i = h u k p.2 in
      subst (λ j. by_text engine others w j g ≡ Some (shift_row s t r)) (shift_other s t n (λ j. i.0 (sym k.numbered ∙ j)))
      (text_at w n g (shift_row s t r) u p.1 (i.1 ∙ ap (option_map (shift_row s t)) p.2))

  -- The row after the exchanged statement.
  pub record Exchanges (w : List NameFrame) (r : Row) : Type 0 where
    pub effect : Effect
    pub front : Point
    pub old : r ≡ One (Posts (Does effect)) (name w front)
    pub new : flat_row engine others w (Post t) ≡ Some (One (Posts (Does f)) (shift s t (name w front)))

  exchanged_by : (w : List NameFrame) (r : Row) (u : Flat) (d : Code) → u.text.code ≡ d → find s (flat ps) ≡ Some u → s ≡ number d → OnlySimple s d → post_row engine bare w (stand_in engine ps w u) (mark u.text.front 0 tt) d ≡ Some r → Exchanges w r
  exchanged_by w r u Stop c a k o e = absurd cc
  exchanged_by w r u (Simple n x q) c a k o e = record {
    effect = x;
    front = u.text.front;
    old = sym (same_Some _ _ e);
    new =
        subst (λ j. flat_row engine others w (Post j) ≡ Some (One (Posts (Does f)) (shift s t (name w u.text.front)))) (shift_it s t s refl)
        (text_at w s (post_row engine bare w) (One (Posts (Does f)) (shift s t (name w u.text.front))) u a
        (ap (λ d. post_row engine bare w (stand_in engine others w (swap_flat s t f u)) (mark (shift_point s t u.text.front) 0 tt) (swap s t f d)) c
        ∙ ap (λ a. Some (One (Posts (Does a)) (shift s t (name w u.text.front)))) (pick_it s t f n x (sym k))));
  }
  exchanged_by w r u (If n g y z q) c a k o e = absurd (o.0 (sym k))
  exchanged_by w r u (While n g y q) c a k o e = absurd (o.0 (sym k))
  exchanged_by w r u (Call n i j q) c a k o e = absurd (o.0 (sym k))
  exchanged_by w r u (Break n q) c a k o e = absurd (o.0 (sym k))

  pub exchanged : (w : List NameFrame) (r : Row) → flat_row engine ps w (Post s) ≡ Some r → Exchanges w r
  exchanged w r e =
      let p = then_some (find s (flat ps)) (read w (post_row engine bare w)) r e in
      let k = (known s t f engine.widening ps simple marked).at (s, p.0) (found_member s p.0 (flat ps) p.1) in
      exchanged_by w r p.0 p.0.text.code refl p.1 k.numbered k.only p.2

  main_same : (ps : List Routine) → main_layout (swap_all s t f ps) ≡ main_layout ps
  main_same [] = refl
  main_same (r ∷ rs) = refl

  -- All other rows shift.
  pub row_shifts : (w : List NameFrame) (p : Point) (r : Row) → (p ≡ Post s → ⊥) → flat_row engine ps w p ≡ Some r → flat_row engine others w (shift_point s t p) ≡ Some (shift_row s t r)
  row_shifts [] Entry r h e = ap (λ l. Some (Init l)) (main_same ps) ∙ ap (λ r. Some (shift_row s t r)) (same_Some _ _ e)
  row_shifts (InCall n ∷ w) Entry r h e =
      text_shifts w n (λ b. enter_row engine bare w b n) r
      (λ u k i. (apart s u.text.code k.only (enter_compound engine w (stand_in engine ps w u) (mark u.text.front 0 tt) r n u.text.code i), enter_shifts s t f engine w u.routine u.earlier (sites_of w) k.marked k.earlier u.text.front n u.text.code)) e
  row_shifts (InLoop n k ∷ w) Entry r h e = absurd cc
  row_shifts [] Body r h e = absurd cc
  row_shifts (InCall n ∷ w) Body r h e = absurd cc
  row_shifts (InLoop n j ∷ w) Body r h e =
      text_shifts w n (λ b. turn_row engine bare w b n j) r
      (λ u k i. (apart s u.text.code k.only (turn_compound engine w (stand_in engine ps w u) (mark u.text.front 0 tt) r n j u.text.code i), turn_shifts s t f engine w u.routine u.earlier (sites_of w) k.marked k.earlier u.text.front n j u.text.code)) e
  row_shifts w (Then n) r h e =
      text_shifts w n (branch_row engine bare w true) r
      (λ u k i. (apart s u.text.code k.only (branch_compound engine w (stand_in engine ps w u) (mark u.text.front 0 tt) r true u.text.code i), branch_shifts s t f engine w u.routine u.earlier (sites_of w) k.marked k.earlier u.text.front true u.text.code)) e
  row_shifts w (Else n) r h e =
      text_shifts w n (branch_row engine bare w false) r
      (λ u k i. (apart s u.text.code k.only (branch_compound engine w (stand_in engine ps w u) (mark u.text.front 0 tt) r false u.text.code i), branch_shifts s t f engine w u.routine u.earlier (sites_of w) k.marked k.earlier u.text.front false u.text.code)) e
  row_shifts w (Post n) r h e =
      let o : n ≢ s = λ j. h (ap (λ n. Post n) j) in
      subst (λ j. flat_row engine others w (Post j) ≡ Some (shift_row s t r)) (sym (shift_other s t n o))
      (text_shifts w n (post_row engine bare w) r
      (λ u k i. let a : number u.text.code ≢ s = λ j. o (k.numbered ∙ j) in (a, post_shifts s t f engine w u.routine u.earlier (sites_of w) k.marked k.earlier u.text.front u.text.code k.only a)) e)
  row_shifts w (Iterate n zero) r h e = absurd cc
  row_shifts w (Iterate n (suc j)) r h e =
      text_shifts w n (next_row engine bare w j) r
      (λ u k i. (apart s u.text.code k.only (next_compound engine w (stand_in engine ps w u) (mark u.text.front 0 tt) r j u.text.code i), next_shifts s t f engine w u.routine u.earlier (sites_of w) k.marked k.earlier u.text.front j u.text.code k.only)) e
  row_shifts w (Fix n) r h e =
      text_shifts w n (fix_row engine bare w) r
      (λ u k i. (apart s u.text.code k.only (fix_compound engine w (stand_in engine ps w u) (mark u.text.front 0 tt) r u.text.code i), fix_shifts s t f engine w u.routine u.earlier (sites_of w) k.marked k.earlier u.text.front u.text.code)) e
  row_shifts w (Exit n) r h e =
      text_shifts w n (exit_row engine bare w) r
      (λ u k i. (apart s u.text.code k.only (exit_compound engine w (stand_in engine ps w u) (mark u.text.front 0 tt) r u.text.code i), exit_shifts s t f engine w u.routine u.earlier (sites_of w) k.marked k.earlier u.text.front u.text.code)) e
  row_shifts w (Leap n j) r h e =
      text_shifts w n (leap_row engine bare w j) r
      (λ u k i. (apart s u.text.code k.only (leap_compound engine w (stand_in engine ps w u) (mark u.text.front 0 tt) r j u.text.code i), leap_shifts s t f engine w u.routine u.earlier (sites_of w) k.marked k.earlier u.text.front j u.text.code k.only)) e
