-- A query's demands come one by one, and its answer is read from them.
use Rattle.std.proofs.Common.{◌≡◌, ℕ, zero, suc, ◌+◌, ◌≤◌, List, [], ◌∷◌, ◌++◌, length, map, Option, Some, None, refl, sym, ap, ◌∙◌, subst, arith, append_assoc, append-nil, take, slice_get}
use Rattle.std.proofs.lemmas.List.{map-append}
use Rattle.batch_meaning.specs.Values.{Value, State, Over}
use Rattle.cell_names.specs.declared.frame.NameFrame.{NameFrame}
use Rattle.cell_names.specs.declared.frame.NameFrame.TheVariants.{InCall, InLoop}
use Rattle.cell_names.specs.declared.frame.Point.{Point}
use Rattle.cell_names.specs.declared.frame.Point.TheVariants.{Fix}
use Rattle.cell_names.specs.Paths.{CellName}
use Rattle.daig_order.specs.Asking.{gather}
use Rattle.daig_order.proofs.AskingProofs.{gather-none, gather-some, gather-next}
use Rattle.cell_rows.specs.Names.{name}
use Rattle.cell_rows.specs.Cells.{Cell}
use Rattle.cell_rows.specs.Targets.{TargetStep, Take, Go, Target, unless_over, next_in, next_demanded, most_in, most_demanded, demanded_in, demanded, value_in_path, value_of_target, read_in, read_all}
use Rattle.cell_rows.proofs.Unique.{All}

module _ {S : Type 0} (g : CellName → Cell S) where
  -- One target's names, and then those of the rest.
  gather_in : (asks rest : List (Cell S) → Option CellName) (more : List CellName) (room : ℕ) →
      ((before : List (Cell S)) (fuel : ℕ) → ((vs : List (Cell S)) → asks (before ++ vs) ≡ rest vs) → room ≤ fuel → gather g asks fuel before ≡ more) →
      (ss : List TargetStep) (p : Point) (w : List NameFrame) (before : List (Cell S)) (fuel : ℕ) → ((vs : List (Cell S)) → asks (before ++ vs) ≡ next_in rest ss p w vs) → most_in ss + room ≤ fuel →
      gather g asks fuel before ≡ demanded_in g ss p w ++ more
  gather_in asks rest more room rec [] p w before zero h le = absurd (omega arith)
  gather_in asks rest more room rec [] p w before (suc fuel) h le =
      let y = name w p in
      let some : asks before ≡ Some y = ap asks (sym (append-nil before)) ∙ h [] in
      gather-some g asks fuel before y some ∙ ap (λ xs. y ∷ xs) (rec (before ++ g y ∷ []) fuel (λ vs. ap asks (append_assoc before (g y ∷ []) vs) ∙ h (g y ∷ vs)) (omega arith))
  gather_in asks rest more room rec (Go n ∷ ss) p w before fuel h le = gather_in asks rest more room rec ss p (InCall n ∷ w) before fuel h le
  gather_in asks rest more room rec (Take n ∷ ss) p w before zero h le = absurd (omega arith)
  gather_in asks rest more room rec (Take n ∷ ss) p w before (suc fuel) h le =
      let y = name w (Fix n) in
      let some : asks before ≡ Some y = ap asks (sym (append-nil before)) ∙ h [] in
      let i = λ (k : (vs : List (Cell S)) → asks ((before ++ g y ∷ []) ++ vs) ≡ next_in rest ss p (InLoop n (g y).index ∷ w) vs).
      gather_in asks rest more room rec ss p (InLoop n (g y).index ∷ w) (before ++ g y ∷ []) fuel k (omega arith) in
      gather-some g asks fuel before y some ∙ ap (λ xs. y ∷ xs) (go (omega arith) i (λ vs. ap asks (append_assoc before (g y ∷ []) vs) ∙ h (g y ∷ vs)) (g y).value refl)
    where
      d : List CellName
      d = demanded_in g ss p (InLoop n (g (name w (Fix n))).index ∷ w)

      go : room ≤ fuel → (((vs : List (Cell S)) → asks ((before ++ g (name w (Fix n)) ∷ []) ++ vs) ≡ next_in rest ss p (InLoop n (g (name w (Fix n))).index ∷ w) vs) → gather g asks fuel (before ++ g (name w (Fix n)) ∷ []) ≡ d ++ more) →
          ((vs : List (Cell S)) → asks ((before ++ g (name w (Fix n)) ∷ []) ++ vs) ≡ unless_over (g (name w (Fix n))).value (rest vs) (next_in rest ss p (InLoop n (g (name w (Fix n))).index ∷ w) vs)) →
          (v : Value S) → (g (name w (Fix n))).value ≡ v → gather g asks fuel (before ++ g (name w (Fix n)) ∷ []) ≡ unless_over (g (name w (Fix n))).value [] d ++ more
      go le i k (Over j z) e =
          rec (before ++ g (name w (Fix n)) ∷ []) fuel (λ vs. k vs ∙ ap (λ v. unless_over v (rest vs) (next_in rest ss p (InLoop n (g (name w (Fix n))).index ∷ w) vs)) e) le
          ∙ ap (λ v. unless_over v [] d ++ more) (sym e)
      go le i k (State s) e =
          i (λ vs. k vs ∙ ap (λ v. unless_over v (rest vs) (next_in rest ss p (InLoop n (g (name w (Fix n))).index ∷ w) vs)) e)
          ∙ ap (λ v. unless_over v [] d ++ more) (sym e)

  gather_all : (ts : List Target) (asks : List (Cell S) → Option CellName) (before : List (Cell S)) (fuel : ℕ) → ((vs : List (Cell S)) → asks (before ++ vs) ≡ next_demanded ts vs) → most_demanded ts ≤ fuel → gather g asks fuel before ≡ demanded g ts
  gather_all [] asks before fuel h le = gather-none g asks fuel before (ap asks (sym (append-nil before)) ∙ h [])
  gather_all (t ∷ ts) asks before fuel h le =
      gather_in asks (next_demanded ts) (demanded g ts) (most_demanded ts) (λ b k i l. gather_all ts asks b k i l) t.steps t.last [] before fuel h le

  -- The names that are asked for one by one are those of the targets, in order.
  pub demands_are : (ts : List Target) → gather g (next_demanded ts) (most_demanded ts) [] ≡ demanded g ts
  demands_are ts = gather_all ts (next_demanded ts) [] (most_demanded ts) (λ vs. refl) (omega arith)

  read_target : (rest : List (Cell S) → List (Value S)) (ss : List TargetStep) (p : Point) (w : List NameFrame) (us : List (Cell S)) → read_in rest ss (map g (demanded_in g ss p w) ++ us) ≡ value_in_path g ss p w ∷ rest us
  read_target rest [] p w us = refl
  read_target rest (Go n ∷ ss) p w us = read_target rest ss p (InCall n ∷ w) us
  read_target rest (Take n ∷ ss) p w us = go (read_target rest ss p (InLoop n (g (name w (Fix n))).index ∷ w) us) (g (name w (Fix n))).value
    where
      d : List CellName
      d = demanded_in g ss p (InLoop n (g (name w (Fix n))).index ∷ w)

      u : Value S
      u = value_in_path g ss p (InLoop n (g (name w (Fix n))).index ∷ w)

      go : read_in rest ss (map g d ++ us) ≡ u ∷ rest us → (v : Value S) → unless_over v (v ∷ rest (map g (unless_over v [] d) ++ us)) (read_in rest ss (map g (unless_over v [] d) ++ us)) ≡ unless_over v v u ∷ rest us
      go e (Over j z) = refl
      go e (State s) = e

  -- The values that are read are those of the targets.
  pub reads_are : (ts : List Target) → read_all ts (map g (demanded g ts)) ≡ map (value_of_target g) ts
  reads_are [] = refl
  reads_are (t ∷ ts) =
      ap (read_in (read_all ts) t.steps) (map-append g (demanded_in g t.steps t.last []) (demanded g ts))
      ∙ read_target (read_all ts) t.steps t.last [] (map g (demanded g ts))
      ∙ ap (λ vs. value_of_target g t ∷ vs) (reads_are ts)

  module _ (f : CellName → Cell S) where
    abbrev Same : CellName → Type 0
    Same x = g x ≡ f x

    -- Functions that agree on a target's names demand the same and give the same value.
    pub same_target : (ss : List TargetStep) (p : Point) (w : List NameFrame) → All Same (demanded_in f ss p w) → (demanded_in g ss p w ≡ demanded_in f ss p w) × (value_in_path g ss p w ≡ value_in_path f ss p w)
    same_target [] p w h = (refl, ap (λ (c : Cell S). c.value) h.0)
    same_target (Go n ∷ ss) p w h = same_target ss p (InCall n ∷ w) h
    same_target (Take n ∷ ss) p w h =
        let y = name w (Fix n) in
        subst (λ (c : Cell S). (y ∷ unless_over c.value [] (demanded_in g ss p (InLoop n c.index ∷ w)) ≡ demanded_in f (Take n ∷ ss) p w) × (unless_over c.value c.value (value_in_path g ss p (InLoop n c.index ∷ w)) ≡ value_in_path f (Take n ∷ ss) p w)) (sym h.0)
        (go (λ k. same_target ss p (InLoop n (f y).index ∷ w) k) (f y).value h.1)
      where
        y : CellName
        y = name w (Fix n)

        go : (All Same (demanded_in f ss p (InLoop n (f y).index ∷ w)) → (demanded_in g ss p (InLoop n (f y).index ∷ w) ≡ demanded_in f ss p (InLoop n (f y).index ∷ w)) × (value_in_path g ss p (InLoop n (f y).index ∷ w) ≡ value_in_path f ss p (InLoop n (f y).index ∷ w))) →
            (v : Value S) → All Same (unless_over v [] (demanded_in f ss p (InLoop n (f y).index ∷ w))) →
            (y ∷ unless_over v [] (demanded_in g ss p (InLoop n (f y).index ∷ w)) ≡ y ∷ unless_over v [] (demanded_in f ss p (InLoop n (f y).index ∷ w))) × (unless_over v v (value_in_path g ss p (InLoop n (f y).index ∷ w)) ≡ unless_over v v (value_in_path f ss p (InLoop n (f y).index ∷ w)))
        go i (Over j z) k = (refl, refl)
        go i (State s) k = let r = i k in (ap (λ xs. y ∷ xs) r.0, r.1)

module _ {S : Type 0} where
  -- Nothing is asked for past so many values.
  ends_in : (rest : List (Cell S) → Option CellName) (room : ℕ) → ((us : List (Cell S)) → room ≤ length us → rest us ≡ None) → (ss : List TargetStep) (p : Point) (w : List NameFrame) (vs : List (Cell S)) → most_in ss + room ≤ length vs → next_in rest ss p w vs ≡ None
  ends_in rest room h [] p w [] l = absurd (omega arith)
  ends_in rest room h [] p w (v ∷ vs) l = h vs (omega arith)
  ends_in rest room h (Go n ∷ ss) p w vs l = ends_in rest room h ss p (InCall n ∷ w) vs l
  ends_in rest room h (Take n ∷ ss) p w [] l = absurd (omega arith)
  ends_in rest room h (Take n ∷ ss) p w (v ∷ vs) l = go v.value (h vs (omega arith)) (ends_in rest room h ss p (InLoop n v.index ∷ w) vs (omega arith))
    where
      go : (u : Value S) → rest vs ≡ None → next_in rest ss p (InLoop n v.index ∷ w) vs ≡ None → unless_over u (rest vs) (next_in rest ss p (InLoop n v.index ∷ w) vs) ≡ None
      go (Over j z) a b = a
      go (State s) a b = b

  ends_all : (ts : List Target) (us : List (Cell S)) → most_demanded ts ≤ length us → next_demanded ts us ≡ None
  ends_all [] us l = refl
  ends_all (t ∷ ts) us l = ends_in (next_demanded ts) (most_demanded ts) (λ us l. ends_all ts us l) t.steps t.last [] us l

  -- The next demand, by the values of those before it.
  pub demand_next : (g : CellName → Cell S) (ts : List Target) (k : ℕ) → k ≤ length (demanded g ts) → next_demanded ts (map g (take k (demanded g ts))) ≡ slice_get (demanded g ts) k
  demand_next g ts k h =
      subst (λ xs. next_demanded ts (map g (take k xs)) ≡ slice_get xs k) (demands_are g ts)
      (gather-next g (next_demanded ts) (most_demanded ts) (ends_all ts) (most_demanded ts) [] (omega arith) k (subst (λ xs. k ≤ length xs) (sym (demands_are g ts)) h))
