-- The last iterate decides, where the iterates stop at none before it.
use Rattle.std.proofs.Common.{◌≡◌, ℕ, zero, suc, ◌<◌, Bool, true, false, ◌==◌, cond, ◌⊎◌, inl, inr, List, length, Option, Some, None, slice_get, get_or, option_map, is_some, ◌↔◌, refl, sym, ap, ◌∙◌, subst, arith, eq-eqb}
use Rattle.std.proofs.lemmas.Bool.Decides.{nat_tests}
use Rattle.std.specs.Option.{option_and_then}
use Rattle.daig_graph.specs.declared.value.Value.{Value}
use Rattle.daig_graph.specs.declared.value.Value.TheVariants as value
use Rattle.loop_unroll.specs.declared.stage.Stage.{Stage}
use Rattle.loop_unroll.specs.declared.stage.Stage.TheVariants as stage
use Rattle.std.specs.Bool.{Decides}
use Rattle.std.specs.Ordering.{nat_cmp}
use Rattle.std.specs.FinMap.{FinMap, get}
use Rattle.daig_graph.specs.Cells.{Filled, AreCells}
use Rattle.loop_unroll.specs.Iterates.{iterate_of, value_at, state_in, IsOver, IsOverValue, IsEqual, IsSpent, Stops, GoesOnTo, OverrunsWithin}
use Rattle.loop_unroll.specs.Stages.{IsStage, spent_or_open}
use Rattle.std.proofs.lemmas.Option.{slice_get-get_or, same_Some}
use Rattle.std.proofs.lemmas.Bool.{false≢true}
use Rattle.daig_graph.proofs.Cases.{none-some}

module _ {V : Type 0} (budget : ℕ) (iterate : ℕ → Option (Value V)) where
  -- an Over is no state
  over_apart : (j : ℕ) (s : V) {P : Type 0} → IsOver iterate j → iterate j ≡ Some (value.State s) → P
  over_apart j s {P} over e =
      let Q : Value V → Type 0 = IsOverValue in
      let h : IsOverValue (value.State s) = subst Q (same_Some _ _ (sym over.1 ∙ e)) over.2 in
      absurd h

  module _ (last : ℕ) (earlier : GoesOnTo budget iterate (suc last)) where
    only_last : (j : ℕ) → j < suc last → Stops budget iterate j → j ≡ last
    only_last j l stops = elim (before j last l) [
      | inl same ↦ same
      | inr less ↦ absurd (earlier j less stops)
    ]
      where
        before : (j last : ℕ) → j < suc last → (j ≡ last) ⊎ (suc j < suc last)
        before zero zero l = inl refl
        before zero (suc last) l = inr (omega arith)
        before (suc j) zero l = absurd (omega (arith, l))
        before (suc j) (suc last) l = elim (before j last (omega (arith, l))) [
          | inl same ↦ inl (ap suc same)
          | inr less ↦ inr (omega (arith, less))
        ]

    pub stage-over : IsOver iterate last → IsStage budget iterate (suc last) stage.Over
    stage-over over = record {
      stops = (λ e. (last, omega arith, inl over), λ h. refl);
      converges = (
        λ e. absurd (false≢true e),
        λ h.
            let same = only_last h.0 h.1 (inr (inl h.2)) in
            over_apart last h.2.1 over (ap iterate (sym same) ∙ h.2.4),
      );
      overruns = (λ e. (last, omega arith, inl over), λ h. refl);
    }

    pub stage-equal : IsEqual iterate last → IsStage budget iterate (suc last) stage.Equal
    stage-equal equal = record {
      stops = (λ e. (last, omega arith, inr (inl equal)), λ h. refl);
      converges = (λ e. (last, omega arith, equal), λ h. refl);
      overruns = (λ e. absurd (false≢true e), λ h. apart h);
    }
      where
        apart : {P : Type 0} → OverrunsWithin budget iterate (suc last) → P
        apart h = elim h.2 [
          | inl over ↦ let same = only_last h.0 h.1 (inl over) in
              let Q : ℕ → Type 0 = IsOver iterate in
              over_apart last equal.1 (subst Q same over) equal.4
          | inr spent ↦ let same = only_last h.0 h.1 (inr (inr spent)) in
              let Q : ℕ → Type 0 = IsSpent budget iterate in
              absurd ((subst Q same spent).3 equal)
        ]

    pub stage-spent : IsSpent budget iterate last → IsStage budget iterate (suc last) stage.Spent
    stage-spent spent = record {
      stops = (λ e. (last, omega arith, inr (inr spent)), λ h. refl);
      converges = (
        λ e. absurd (false≢true e),
        λ h.
            let same = only_last h.0 h.1 (inr (inl h.2)) in
            let Q : ℕ → Type 0 = IsEqual iterate in
            absurd (spent.3 (subst Q same h.2)),
      );
      overruns = (λ e. (last, omega arith, inr spent), λ h. refl);
    }

    pub stage-open : ¬ (Stops budget iterate last) → IsStage budget iterate (suc last) stage.Open
    stage-open goes = record {
      stops = (λ e. absurd (false≢true e), λ h. none h.0 h.1 h.2);
      converges = (λ e. absurd (false≢true e), λ h. none h.0 h.1 (inr (inl h.2)));
      overruns = (λ e. absurd (false≢true e), λ h. overrun h);
    }
      where
        none : {P : Type 0} (j : ℕ) → j < suc last → Stops budget iterate j → P
        none j l stops =
            let Q : ℕ → Type 0 = Stops budget iterate in
            absurd (goes (subst Q (only_last j l stops) stops))

        overrun : {P : Type 0} → OverrunsWithin budget iterate (suc last) → P
        overrun h = elim h.2 [
          | inl over ↦ none h.0 h.1 (inl over)
          | inr spent ↦ none h.0 h.1 (inr (inr spent))
        ]

    -- a state that does not repeat the one before it
    pub stage-rest : (s : V) → iterate last ≡ Some (value.State s) → ¬ (IsEqual iterate last) → IsStage budget iterate (suc last) (spent_or_open budget last)
    stage-rest s e apart = by (last == budget) refl
      where
        by : (b : Bool) → (last == budget) ≡ b → IsStage budget iterate (suc last) (cond b stage.Spent stage.Open)
        by true h = stage-spent (let same : last ≡ budget = grind (arith, nat_tests) in (same, s, e, apart))
        by false h = stage-open (λ stops. elim stops [
          | inl over ↦ over_apart last s over e
          | inr (inl equal) ↦ apart equal
          | inr (inr spent) ↦ absurd (false≢true (sym h ∙ eq-eqb last budget spent.0))
        ])

state_in-some : {V : Type 0} (o : Option (Value V)) (s : V) → state_in o ≡ Some s → o ≡ Some (value.State s)
state_in-some None s e = none-some e
state_in-some (Some (value.State t)) s e = ap (λ r. Some (value.State r)) (same_Some _ _ e)
state_in-some (Some (value.Over n chain)) s e = none-some e

module _ {V : Type 0} (graph : FinMap nat_cmp (Filled V)) (cells : List ℕ) (last i x : ℕ) (state : V) (last_is : last ≡ suc i) (at : slice_get cells i ≡ Some x) (is : iterate_of graph cells last ≡ Some (value.State state)) where
  before-is : iterate_of graph cells i ≡ value_at graph x
  before-is = ap (option_and_then (value_at graph)) at

  -- the state before it is that of the cell before it
  was : (h : IsEqual (iterate_of graph cells) last) → (h.1 ≡ state) × (value_at graph x ≡ Some (value.State h.1))
  was h =
      let same : h.0 ≡ i = omega (arith, h.2, last_is) in
      let one : value.State h.1 ≡ value.State state = same_Some _ _ (sym h.4 ∙ is) in
      (state_of one, sym before-is ∙ ap (iterate_of graph cells) (sym same) ∙ h.3)
    where
      state_of : {s t : V} → value.State s ≡ value.State t → s ≡ t
      state_of e = same_Some _ _ (ap (λ v. state_in (Some v)) e)

  pub repeats-some : (before : V) → state_in (value_at graph x) ≡ Some before → (b : Bool) → Decides b (before ≡ state) → (b ≡ true) ↔ IsEqual (iterate_of graph cells) last
  repeats-some before e b decides = (
    λ t. (i, state, last_is, before-is ∙ state_in-some _ before e ∙ ap (λ s. Some (value.State s)) (decides.0 t), is),
    λ h. let w = was h in decides.1 (same_Some _ _ (sym e ∙ ap state_in w.1) ∙ w.0),
  )

  pub repeats-none : state_in (value_at graph x) ≡ None → (false ≡ true) ↔ IsEqual (iterate_of graph cells) last
  repeats-none e = (λ t. absurd (false≢true t), λ h. none-some (sym e ∙ ap state_in (was h).1))

-- so many iterates are those up to the last
pub counted : {V : Type 0} (budget : ℕ) (iterate : ℕ → Option (Value V)) (count last : ℕ) (result : Stage) → count ≡ suc last → GoesOnTo budget iterate count → (GoesOnTo budget iterate (suc last) → IsStage budget iterate (suc last) result) → IsStage budget iterate count result
counted budget iterate count last result e earlier make =
    let P : ℕ → Type 0 = GoesOnTo budget iterate in
    let Q : ℕ → Type 0 = λ n. IsStage budget iterate n result in
    subst Q (sym e) (make (subst P e earlier))

pub last-value : {V : Type 0} (graph : FinMap nat_cmp (Filled V)) (cells : List ℕ) (last : ℕ) → last < length cells → iterate_of graph cells last ≡ value_at graph (get_or cells last 0)
last-value graph cells last l = ap (option_and_then (value_at graph)) (slice_get-get_or cells last 0 l)

has-value : {V P : Type 0} (o : Option (Filled V)) → is_some o ≡ true → None ≡ option_map (λ f. f.value) o → P
has-value None h e = absurd (false≢true h)
has-value (Some f) h e = none-some e

pub cell-has : {V P : Type 0} (graph : FinMap nat_cmp (Filled V)) (cells : List ℕ) (last : ℕ) → last < length cells → AreCells graph cells → None ≡ value_at graph (get_or cells last 0) → P
cell-has graph cells last l are none = has-value (get graph (get_or cells last 0)) (are last (get_or cells last 0) (slice_get-get_or cells last 0 l)) none
