-- Marking the states that cells hold, and giving them new numbers.
use Rattle.std.proofs.Common.{◌≡◌, ◌≢◌, ℕ, ◌+◌, ◌≤◌, Option, Some, None, is_some, List, cond, inl, inr, refl, sym, ap, subst, ◌∙◌, arith, option_map}
use Rattle.std.specs.Cmp.{nat_cmp_total}
use Rattle.std.specs.FinMap.{get, insert, remove, len, len-insert}
use Rattle.std.proofs.lemmas.Bool.{cases_eq}
use Rattle.std.proofs.lemmas.Option.{same_Some}
use Rattle.daig_graph.specs.Cells.{Filled, ReplacesHeld}
use Rattle.daig_graph.specs.declared.value.Value.{Value}
use Rattle.daig_graph.specs.declared.value.Value.TheVariants.{State, Over}
use Rattle.daig_graph.proofs.Maps.{get-insert-here, get-insert-other, get-remove-here, get-remove-other, insert-is}
use Rattle.loop_unroll.specs.Iterates.{state_in}
use Rattle.state_table.specs.Marks.{IsMarked}
use Rattle.daig_query.specs.declared.held.Held.{Held}
use Rattle.daig_query.specs.Kept.{Cells}
use Rattle.daig_query.specs.Swept.{held_by, renumbered, renumbered_value, AreMarked, AreRenumbered}

-- the cell that holds a state
pub holder : (cells : Cells) (n : ℕ) (h : Held) → held_by cells n ≡ Some h → (f : Filled Held) × (get cells n ≡ Some f) × (f.value ≡ State h)
holder cells n h e = by (get cells n) refl e
  where
    in_value : (f : Filled Held) (v : Value Held) → f.value ≡ v → state_in (Some v) ≡ Some h → f.value ≡ State h
    in_value f (State k) is e = is ∙ ap State (same_Some k h e)
    in_value f (Over m chain) is e = absurd cc

    by : (o : Option (Filled Held)) → get cells n ≡ o → state_in (option_map (λ f. f.value) o) ≡ Some h → (f : Filled Held) × (get cells n ≡ Some f) × (f.value ≡ State h)
    by None is e = absurd cc
    by (Some f) is e = (f, is, in_value f f.value refl e)

-- what holds no state is the same under other numbers
renumbered-other : (number : ℕ → ℕ) (o : Option (Filled Held)) → state_in (option_map (λ f. f.value) o) ≡ None → option_map (renumbered number) o ≡ o
renumbered-other number None e = refl
renumbered-other number (Some f) e = by f.value refl e
  where
    by : (v : Value Held) → f.value ≡ v → state_in (Some v) ≡ None → option_map (renumbered number) (Some f) ≡ Some f
    by (State h) is e = absurd cc
    by (Over n chain) is e = ap (λ v. Some (record f { value = renumbered_value number v })) is ∙ ap (λ v. Some (record f { value = v })) (sym is)

module _ (number : ℕ → ℕ) (old : Cells) where
  pub renumbered-none : AreRenumbered number 0 old old
  renumbered-none = record { first = λ n h. absurd (omega (arith, h)); others = λ n h. refl; same_len = refl }

  -- a number without a state is passed over
  pub renumbered-over : (count : ℕ) (now : Cells) → AreRenumbered number count old now → held_by now count ≡ None → AreRenumbered number (count + 1) old now
  renumbered-over count now r none = record {
    first = λ n h. elim (cases_eq n count) [
      | inl same ↦
          let is : get now count ≡ get old count = r.others count (omega arith) in
          ap (get now) same ∙ is ∙ sym (renumbered-other number (get old count) (ap (λ o. state_in (option_map (λ f. f.value) o)) (sym is) ∙ none)) ∙ ap (λ m. option_map (renumbered number) (get old m)) (sym same)
      | inr ne ↦ r.first n (omega (arith, h, ne))
    ];
    others = λ n h. r.others n (omega (arith, h));
    same_len = r.same_len;
  }

  -- and a state gets its new number
  pub renumbered-on : (count : ℕ) (now later : Cells) (h k : Held) → AreRenumbered number count old now → held_by now count ≡ Some h → k ≡ record h { state = number h.state } → ReplacesHeld now count k later → AreRenumbered number (count + 1) old later
  renumbered-on count now later h k r holds k_is replaces =
      let f = holder now count h holds in
      let later_is : later ≡ insert now count (record f.0 { value = State k }) = replaces f.0 f.1 in
      let before : get old count ≡ Some f.0 = sym (r.others count (omega arith)) ∙ f.1 in
      record {
        first = λ n below. elim (cases_eq n count) [
          | inl same ↦
              ap (get later) same ∙ ap (λ m. get m count) later_is ∙ get-insert-here now count (record f.0 { value = State k })
              ∙ ap (λ j. Some (record f.0 { value = State j })) k_is
              ∙ ap (λ v. Some (record f.0 { value = renumbered_value number v })) (sym f.2)
              ∙ ap (option_map (renumbered number)) (sym before) ∙ ap (λ m. option_map (renumbered number) (get old m)) (sym same)
          | inr ne ↦ ap (λ m. get m n) later_is ∙ get-insert-other now count (record f.0 { value = State k }) n ne ∙ r.first n (omega (arith, below, ne))
        ];
        others = λ n above.
            let ne : n ≢ count = λ e. omega (arith, above, e) in
            ap (λ m. get m n) later_is ∙ get-insert-other now count (record f.0 { value = State k }) n ne ∙ r.others n (omega (arith, above));
        same_len =
            ap len later_is ∙ len-insert nat_cmp_total now count (record f.0 { value = State k })
            ∙ ap (λ o. cond (is_some o) (len now) (len now + 1)) f.1 ∙ r.same_len;
      }

  -- what the present cells hold is what they held, from a number on
  pub held-same : (count : ℕ) (now : Cells) → AreRenumbered number count old now → held_by now count ≡ held_by old count
  held-same count now r = ap (λ o. state_in (option_map (λ f. f.value) o)) (r.others count (omega arith))

-- The cells without those of the first so many numbers: they are fewer by as many as there are marks more.
pub record Leaves (cells : Cells) (count first marks : ℕ) : Type 0 where
  pub rest : Cells
  pub others : (n : ℕ) → count ≤ n → get rest n ≡ get cells n
  pub few : marks + len rest ≤ first + len cells

pub leaves-all : (cells : Cells) (first : ℕ) → Leaves cells 0 first first
leaves-all cells first = record { rest = cells; others = λ n h. refl; few = omega arith }

pub leaves-over : (cells : Cells) (count first marks : ℕ) → Leaves cells count first marks → Leaves cells (count + 1) first marks
leaves-over cells count first marks l = record { rest = l.rest; others = λ n h. l.others n (omega (arith, h)); few = l.few }

-- one cell less, one mark more
pub leaves-cell : (cells : Cells) (count first marks more : ℕ) (f : Filled Held) → Leaves cells count first marks → get cells count ≡ Some f → more ≤ marks + 1 → Leaves cells (count + 1) first more
leaves-cell cells count first marks more f l at few =
    let m = remove l.rest count in
    let here : get l.rest count ≡ Some f = l.others count (omega arith) ∙ at in
    let whole : l.rest ≡ insert m count f = insert-is m l.rest count f here (λ q ne. sym (get-remove-other l.rest count q ne)) in
    let length_is : len l.rest ≡ len m + 1 = ap len whole ∙ len-insert nat_cmp_total m count f ∙ ap (λ o. cond (is_some o) (len m) (len m + 1)) (get-remove-here l.rest count) in
    record {
      rest = m;
      others = λ n h. get-remove-other l.rest count n (λ e. omega (arith, h, e)) ∙ l.others n (omega (arith, h));
      few = omega (arith, l.few, length_is, few);
    }

pub leaves-on : (cells : Cells) (count first marks more : ℕ) (h : Held) → Leaves cells count first marks → held_by cells count ≡ Some h → more ≤ marks + 1 → Leaves cells (count + 1) first more
leaves-on cells count first marks more h l holds few = let f = holder cells count h holds in leaves-cell cells count first marks more f.0 l f.1 few

pub leaves-few : (cells : Cells) (count first marks : ℕ) → Leaves cells count first marks → marks ≤ first + len cells
leaves-few cells count first marks l = omega (arith, l.few)

module _ {S : Type 0} where
  pub marked-none : (cells : Cells) (entries : List (S × ℕ)) → AreMarked cells 0 entries
  marked-none cells entries n h below e = absurd (omega (arith, below))

  pub marked-over : (cells : Cells) (count : ℕ) (entries : List (S × ℕ)) → AreMarked cells count entries → held_by cells count ≡ None → AreMarked cells (count + 1) entries
  marked-over cells count entries m none n h below e = elim (cases_eq n count) [
    | inl same ↦ let is : None ≡ Some h = sym none ∙ ap (held_by cells) (sym same) ∙ e in absurd cc
    | inr ne ↦ m n h (omega (arith, below, ne)) e
  ]

  pub marked-on : (cells : Cells) (count : ℕ) (old new : List (S × ℕ)) (k : Held) → AreMarked cells count old → held_by cells count ≡ Some k → IsMarked new k.state → ((n : ℕ) → IsMarked old n → IsMarked new n) → AreMarked cells (count + 1) new
  marked-on cells count old new k m holds here stay n h below e = elim (cases_eq n count) [
    | inl same ↦ let is : k ≡ h = same_Some k h (sym holds ∙ ap (held_by cells) (sym same) ∙ e) in subst (λ (j : Held). IsMarked new j.state) is here
    | inr ne ↦ stay h.state (m n h (omega (arith, below, ne)) e)
  ]
