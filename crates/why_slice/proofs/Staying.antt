-- Where a statement that an answer does not depend on is exchanged, the answer stays.
use Rattle.std.specs.Option.{option_map}
use Rattle.std.proofs.Common.{◌≡◌, ℕ, zero, suc, List, [], ◌∷◌, ◌++◌, length, map, reverse, Some, None, Bool, true, false, nat_lt, if◌then◌else◌, refl, sym, ap, ◌∙◌, subst}
use Rattle.imp_syntax.specs.declared.edit.Location.{Location}
use Rattle.imp_slots.specs.Plain.{Effect, Does, Routine}
use Rattle.imp_slots.specs.Fits.{Absent, IsChecked, routine_numbers}
use Rattle.concrete_sem.specs.Values.{Variables, Heap}
use Rattle.imp_chains.specs.Claims.{ThresholdsRise}
use Rattle.domain_laws.specs.Operations.{Operations}
use Rattle.domain_laws.specs.Laws.{Laws, KeepsDead}
use Rattle.batch_meaning.specs.Values.{Value, State, Over}
use Rattle.batch_meaning.specs.Batch.{LoopOptions}
use Rattle.batch_meaning.specs.Answers.{In, procedure_of, answer_in, answer, summed, Refuses}
use Rattle.imp_words.specs.declared.refusal.QueryRefusal.TheVariants.{LongString}
use Rattle.batch_meaning.proofs.Procedures.{FitBack, fit_back}
use Rattle.daig_order.specs.OrderLaws.{input, under}
use Rattle.daig_order.specs.Asking.{Rows, gather, inputs_of, value_of}
use Rattle.daig_order.proofs.AskingProofs.{gather-none, gather-some}
use Rattle.cell_names.specs.declared.frame.NameFrame.{NameFrame}
use Rattle.cell_names.specs.declared.frame.NameFrame.TheVariants.{InCall, InLoop}
use Rattle.cell_names.specs.declared.frame.Point.{Point}
use Rattle.cell_names.specs.declared.frame.Point.TheVariants.{Entry, Then, Else, Body, Post, Iterate, Fix, Exit, Leap}
use Rattle.cell_names.specs.Paths.{CellName}
use Rattle.base_values.proofs.Cases.{by_bool, by_test}
use Rattle.base_values.proofs.Members.{keys}
use Rattle.cell_rows.specs.Names.{IsSame, name, bare, iterate_point}
use Rattle.cell_rows.specs.Rows.{Row, Init, One, Two, Fixed as FixedRow, Joins, Posts}
use Rattle.cell_rows.specs.Cells.{Cell, asks_row, operation_row, most_row, by_row, nothing, wants_first, right_of}
use Rattle.cell_rows.specs.Flat.{flat, flat_row}
use Rattle.cell_rows.specs.Targets.{TargetStep, Take, Go, Target, unless_over, demanded_in, demanded, value_in_path, value_of_target, targets}
use Rattle.cell_rows.specs.Claims.{HasName, rows_of, InputsAreNames}
use Rattle.cell_rows.proofs.FlatOnce.{keys_flat}
use Rattle.cell_rows.proofs.Rowed.{has_row}
use Rattle.cell_rows.proofs.Unique.{All, all_of}
use Rattle.daig_demands.proofs.Demanded.{needed_named, answer_at}
use Rattle.daig_demands.proofs.Machine.{law}
use Rattle.why_slice.specs.Upstream.{is_live, NeededBy, IsUpstream, at_location, by_name}
use Rattle.why_slice.specs.Exchanged.{IsSimple}
use Rattle.why_slice.proofs.Turned.{TurnedRow, turned}
use Rattle.why_slice.proofs.Shifted.{shift_point, shift, shift_row, shift_it}
use Rattle.why_slice.proofs.ShiftedRows.{swap_all, SameThresholds}
use Rattle.why_slice.proofs.ShiftedTable.{row_shifts, exchanged}
use Rattle.why_slice.proofs.ShiftedTargets.{simple_reversed, absent_reversed, swapped_reversed, Elsewhere, procedure_same, shift_target, targets_shifted}
use Rattle.why_slice.proofs.Fitting.{AllSuit, all_suit}
use Rattle.why_slice.proofs.Idle.{idle}

-- whether a point is the one after statement s
by_point : {X : Type 0} (s : ℕ) (p : Point) → (p ≡ Post s → X) → ((p ≡ Post s → ⊥) → X) → X
by_point s Entry f g = g (λ e. absurd cc)
by_point s Body f g = g (λ e. absurd cc)
by_point s (Then n) f g = g (λ e. absurd cc)
by_point s (Else n) f g = g (λ e. absurd cc)
by_point {X} s (Post n) f g = by_test n s (λ c. X) (λ e. f (ap (λ n. Post n) e)) (λ e. g (λ i. e (ap number_of i)))
  where
    number_of : Point → ℕ
    number_of Entry = 0
    number_of Body = 0
    number_of (Then n) = n
    number_of (Else n) = n
    number_of (Post n) = n
    number_of (Iterate n k) = n
    number_of (Fix n) = n
    number_of (Exit n) = n
    number_of (Leap n k) = n
by_point s (Iterate n k) f g = g (λ e. absurd cc)
by_point s (Fix n) f g = g (λ e. absurd cc)
by_point s (Exit n) f g = g (λ e. absurd cc)
by_point s (Leap n k) f g = g (λ e. absurd cc)

all_left : {A : Type 0} (P : A → Type 0) (xs ys : List A) → All P (xs ++ ys) → All P xs
all_left P [] ys h = tt
all_left P (x ∷ xs) ys h = (h.0, all_left P xs ys h.1)

all_right : {A : Type 0} (P : A → Type 0) (xs ys : List A) → All P (xs ++ ys) → All P ys
all_right P [] ys h = h
all_right P (x ∷ xs) ys h = all_right P xs ys h.1

module _ {S : Type 0} (dom : Operations S) (engine : LoopOptions) (s t : ℕ) where
  -- a shifted row asks for the shifted names, and makes the same of their values
  asks_shifted : (r : Row) (vs : List (Cell S)) → asks_row dom engine (shift_row s t r) vs ≡ option_map (shift s t) (asks_row dom engine r vs)
  asks_shifted (Init layout) vs = refl
  asks_shifted (One op a) [] = refl
  asks_shifted (One op a) (v ∷ vs) = refl
  asks_shifted (Two op a b) [] = refl
  asks_shifted (Two op a b) (v ∷ []) = refl
  asks_shifted (Two op a b) (v ∷ u ∷ vs) = refl
  asks_shifted (FixedRow n z w p) vs = by (wants_first dom engine vs) (length vs)
    where
      point : (k : ℕ) → iterate_point engine bare n (shift_point s t p) k ≡ shift_point s t (iterate_point engine bare n p k)
      point zero = refl
      point (suc k) = refl

      by : (b : Bool) (k : ℕ) → (if b then Some (name w (iterate_point engine bare n (shift_point s t p) k)) else None) ≡ option_map (shift s t) (if b then Some (name w (iterate_point engine bare n p k)) else None)
      by true k = ap (λ q. Some (name w q)) (point k)
      by false k = refl
  asks_shifted (Joins stays l n w p) [] = refl
  asks_shifted (Joins stays l n w p) (v ∷ []) = go v.value
    where
      by : (b : Bool) → (if b then Some (name (InLoop n v.index ∷ w) (shift_point s t p)) else None) ≡ option_map (shift s t) (if b then Some (name (InLoop n v.index ∷ w) p) else None)
      by true = refl
      by false = refl

      go : (u : Value S) → right_of dom engine n w (shift_point s t p) u v.index ≡ option_map (shift s t) (right_of dom engine n w p u v.index)
      go (Over m z) = refl
      go (State x) = by (nat_lt v.index engine.budget)
  asks_shifted (Joins stays l n w p) (v ∷ u ∷ vs) = refl

  operation_shifted : (r : Row) (vs : List (Cell S)) → operation_row dom engine (shift_row s t r) vs ≡ operation_row dom engine r vs
  operation_shifted (Init layout) vs = refl
  operation_shifted (One op a) [] = refl
  operation_shifted (One op a) (v ∷ vs) = refl
  operation_shifted (Two op a b) [] = refl
  operation_shifted (Two op a b) (v ∷ []) = refl
  operation_shifted (Two op a b) (v ∷ u ∷ vs) = refl
  operation_shifted (FixedRow n z w p) vs = refl
  operation_shifted (Joins stays l n w p) [] = refl
  operation_shifted (Joins stays l n w p) (v ∷ []) = refl
  operation_shifted (Joins stays l n w p) (v ∷ u ∷ vs) = refl

  most_shifted : (r : Row) → most_row dom engine (shift_row s t r) ≡ most_row dom engine r
  most_shifted (Init layout) = refl
  most_shifted (One op a) = refl
  most_shifted (Two op a b) = refl
  most_shifted (FixedRow n z w p) = refl
  most_shifted (Joins stays l n w p) = refl

  -- The value at a target is read in the same way, where the demanded names' values are the same.
  module _ (old new : CellName → Cell S) where
    abbrev Same : CellName → Type 0
    Same x = new (shift s t x) ≡ old x

    value_same : (ss : List TargetStep) (p : Point) (w : List NameFrame) → All Same (demanded_in old ss p w) → value_in_path new ss (shift_point s t p) w ≡ value_in_path old ss p w
    value_same [] p w h = ap (λ (c : Cell S). c.value) h.0
    value_same (Go n ∷ ss) p w h = value_same ss p (InCall n ∷ w) h
    value_same (Take n ∷ ss) p w h =
        ap (λ (c : Cell S). unless_over c.value c.value (value_in_path new ss (shift_point s t p) (InLoop n c.index ∷ w))) h.0
        ∙ go (old (name w (Fix n))).value (value_same ss p (InLoop n (old (name w (Fix n))).index ∷ w)) h.1
      where
        go : (v : Value S) → (All Same (demanded_in old ss p (InLoop n (old (name w (Fix n))).index ∷ w)) → value_in_path new ss (shift_point s t p) (InLoop n (old (name w (Fix n))).index ∷ w) ≡ value_in_path old ss p (InLoop n (old (name w (Fix n))).index ∷ w)) →
            All Same (unless_over v [] (demanded_in old ss p (InLoop n (old (name w (Fix n))).index ∷ w))) →
            unless_over v v (value_in_path new ss (shift_point s t p) (InLoop n (old (name w (Fix n))).index ∷ w)) ≡ unless_over v v (value_in_path old ss p (InLoop n (old (name w (Fix n))).index ∷ w))
        go (Over m z) f a = refl
        go (State x) f a = f a

    values_same : (f : Effect) (ts : List Target) → All Same (demanded old ts) → map (value_of_target new) (map (shift_target s t f) ts) ≡ map (value_of_target old) ts
    values_same f [] h = refl
    values_same f (g ∷ ts) h =
        ap (λ v. v ∷ map (value_of_target new) (map (shift_target s t f) ts)) (value_same g.steps g.last [] (all_left Same (demanded_in old g.steps g.last []) (demanded old ts) h))
        ∙ ap (λ vs. value_of_target old g ∷ vs) (values_same f ts (all_right Same (demanded_in old g.steps g.last []) (demanded old ts) h))

-- One row asks for its one input.
module _ {S : Type 0} (dom : Operations S) (engine : LoopOptions) (program : List Routine) (same : CellName → CellName → Bool) where
  abbrev rows : Rows CellName (Cell S)
  rows = rows_of dom engine program same

  pub input_alone : (x a : CellName) (e : Effect) → flat_row engine (reverse program) x.path x.point ≡ Some (One (Posts (Does e)) a) → inputs_of rows x ≡ a ∷ []
  unfolding inputs_of
  input_alone x a e h =
      ap (λ o. gather (value_of rows) (λ vs. by_row dom engine o None (λ r. asks_row dom engine r vs)) (by_row dom engine o 0 (most_row dom engine)) []) h
      ∙ gather-some (value_of rows) (λ vs. asks_row dom engine (One (Posts (Does e)) a) vs) 0 [] a refl
      ∙ ap (λ xs. a ∷ xs) (gather-none (value_of rows) (λ vs. asks_row dom engine (One (Posts (Does e)) a) vs) 0 (value_of rows a ∷ []) refl)

  -- a name without a row has no input
  pub input_none : (x : CellName) → flat_row engine (reverse program) x.path x.point ≡ None → inputs_of rows x ≡ []
  unfolding inputs_of
  input_none x h =
      ap (λ o. gather (value_of rows) (λ vs. by_row dom engine o None (λ r. asks_row dom engine r vs)) (by_row dom engine o 0 (most_row dom engine)) []) h
      ∙ gather-none (value_of rows) (λ vs. None) 0 [] refl

module _ {S : Type 0} (dom : Operations S) (covers : S → Heap → List Variables → Type 0) (laws : Laws dom covers) (rises : ThresholdsRise) (dead : KeepsDead dom) (names : InputsAreNames dom)
    (engine : LoopOptions) (s t : ℕ) (f : Effect) (program : List Routine) (same : CellName → CellName → Bool) (is : IsSame same) (checked : IsChecked program) (after : IsChecked (swap_all s t f program))
    (simple : IsSimple s program) (marked : SameThresholds s t f engine.widening (reverse program)) (fresh : Absent t (routine_numbers program))
    (l : Location) (string : List ℕ) (p : ℕ) (ts : List Target) (there : targets program p l string ≡ Some ts) (unused : IsUpstream dom engine program same l string p ts s → ⊥) where
  abbrev others : List Routine
  others = swap_all s t f program

  abbrev back : List Routine
  back = reverse program

  abbrev old : Rows CellName (Cell S)
  old = rows_of dom engine program same

  abbrev new : Rows CellName (Cell S)
  new = rows_of dom engine others same

  abbrev Need : CellName → Type 0
  Need = NeededBy dom engine program same ts

  suit : AllSuit s f back
  suit = all_suit s t f back (subst (λ ps. FitBack ps) (swapped_reversed s t f program) (fit_back others after))

  named : (x : CellName) → Need x → HasName engine program x
  named x n = needed_named dom engine program same is checked names l string p ts x there n

  in_new : (w : List NameFrame) (q : Point) (r : Row) → flat_row engine (swap_all s t f back) w q ≡ Some r → flat_row engine (reverse others) w q ≡ Some r
  in_new w q r e = ap (λ ps. flat_row engine ps w q) (swapped_reversed s t f program) ∙ e

  numbers_fresh : Absent t (keys (flat back))
  numbers_fresh = subst (Absent t) (sym (keys_flat back)) (absent_reversed t program fresh)

  row_of : (x : CellName) (r q : Row) → flat_row engine back x.path x.point ≡ Some r → flat_row engine (reverse others) x.path (shift_point s t x.point) ≡ Some q →
      ((vs : List (Cell S)) → asks_row dom engine q vs ≡ option_map (shift s t) (asks_row dom engine r vs)) → (most_row dom engine q ≡ most_row dom engine r) →
      operation_row dom engine q (map (value_of old) (inputs_of old x)) ≡ operation_row dom engine r (map (value_of old) (inputs_of old x)) → TurnedRow old new (shift s t) x
  row_of x r q e i a m o = record {
    asks = λ vs. ap (λ o. by_row dom engine o None (λ r. asks_row dom engine r vs)) i ∙ a vs ∙ ap (λ o. option_map (shift s t) (by_row dom engine o None (λ r. asks_row dom engine r vs))) (sym e);
    most = ap (λ o. by_row dom engine o 0 (most_row dom engine)) i ∙ m ∙ ap (λ o. by_row dom engine o 0 (most_row dom engine)) (sym e);
    operation = ap (λ o. by_row dom engine o (nothing dom engine) (λ r. operation_row dom engine r (map (value_of old) (inputs_of old x)))) i ∙ o
        ∙ ap (λ o. by_row dom engine o (nothing dom engine) (λ r. operation_row dom engine r (map (value_of old) (inputs_of old x)))) (sym e);
  }

  -- What is after the exchanged statement has no live value before it.
  idle_row : (w : List NameFrame) → Need (name w (Post s)) → (r : Row) → flat_row engine back w (Post s) ≡ Some r → TurnedRow old new (shift s t) (name w (Post s))
  idle_row w n r e =
      let x = exchanged s t f engine back (simple_reversed s program simple) marked numbers_fresh w r e in
      let row : flat_row engine back w (Post s) ≡ Some (One (Posts (Does x.effect)) (name w x.front)) = e ∙ ap (λ r. Some r) x.old in
      let still : is_live dom (value_of old (name w x.front)).value ≡ false =
      by_bool (is_live dom (value_of old (name w x.front)).value) (λ v. absurd (unused (by_name (name w (Post s)) n (record { row = One (Posts (Does x.effect)) (name w x.front); is = row; names = refl; counts = v })))) (λ v. v) in
      let k = idle dom engine covers laws rises dead s f program checked suit same is w x.effect x.front (named (name w (Post s)) n) row still in
      let i = input_alone dom engine program same (name w (Post s)) (name w x.front) x.effect row in
      row_of (name w (Post s)) (One (Posts (Does x.effect)) (name w x.front)) (One (Posts (Does f)) (shift s t (name w x.front))) row
      (ap (λ k. flat_row engine (reverse others) w (Post k)) (shift_it s t s refl) ∙ in_new w (Post t) (One (Posts (Does f)) (shift s t (name w x.front))) x.new)
      (one_asks (name w x.front) x.effect) refl
      (ap (λ xs. operation_row dom engine (One (Posts (Does f)) (shift s t (name w x.front))) (map (value_of old) xs)) i ∙ sym k
      ∙ ap (λ xs. operation_row dom engine (One (Posts (Does x.effect)) (name w x.front)) (map (value_of old) xs)) (sym i))
    where
      one_asks : (a : CellName) (e : Effect) (vs : List (Cell S)) → asks_row dom engine (One (Posts (Does f)) (shift s t a)) vs ≡ option_map (shift s t) (asks_row dom engine (One (Posts (Does e)) a) vs)
      one_asks a e [] = refl
      one_asks a e (v ∷ vs) = refl

  rows_turned : (x : CellName) → Need x → TurnedRow old new (shift s t) x
  rows_turned x n =
      let r = has_row engine program checked x (named x n) in
      by_point s x.point
      (λ i.
      subst (λ (q : Point). Need (name x.path q) → flat_row engine back x.path q ≡ Some r.0 → TurnedRow old new (shift s t) (name x.path q)) (sym i) (λ n e. idle_row x.path n r.0 e) n r.1)
      (λ i.
      row_of x r.0 (shift_row s t r.0) r.1 (in_new x.path (shift_point s t x.point) (shift_row s t r.0) (row_shifts s t f engine back (simple_reversed s program simple) marked numbers_fresh x.path x.point r.0 i r.1))
      (asks_shifted dom engine s t r.0) (most_shifted dom engine s t r.0) (operation_shifted dom engine s t r.0 (map (value_of old) (inputs_of old x))))

  pub value_stays : (x : CellName) → Need x → value_of new (shift s t x) ≡ value_of old x
  value_stays x n =
      turned old new (shift s t) (law dom engine program same is checked) (law dom engine others same is after) Need rows_turned (λ x y n m. under x y n m) x n

  elsewhere : Elsewhere s t f l
  elsewhere i = unused (at_location i)

  pub answer_stays : procedure_of program l ≡ In p → answer dom engine others l string ≡ answer dom engine program l string
  answer_stays e =
      let h = all_of same is.same_refl (λ x. value_of new (shift s t x) ≡ value_of old x) (demanded (value_of old) ts) (λ x m. value_stays x (input x m)) in
      let k : answer_in dom engine others l string (In p) ≡ answer_in dom engine program l string (In p) =
      answer_at dom engine others same is after l string p (map (shift_target s t f) ts) (targets_shifted s t f program simple fresh l elsewhere p string ts there)
      ∙ ap (summed dom engine) (values_same dom engine s t (value_of old) (value_of new) f ts h)
      ∙ sym (answer_at dom engine program same is checked l string p ts there) in
      ap (λ a. if nat_lt 2 (length string) then Refuses LongString else a)
      (ap (answer_in dom engine others l string) (procedure_same s t f program fresh l p elsewhere e) ∙ k ∙ sym (ap (answer_in dom engine program l string) e))
