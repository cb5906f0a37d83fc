-- Where iterates stop, by the numbers of their states.
use Rattle.std.proofs.Common.{◌≡◌, ℕ, suc, ◌<◌, ◌≤◌, List, [], ◌∷◌, ◌++◌, Option, Some, None, true, false, if◌then◌else◌, nat_lt, slice_get, refl, sym, ap, ap₂, subst, ◌∙◌, inl, inr, arith}
use Rattle.std.proofs.lemmas.Bool.Decides.{nat_tests}
use Rattle.base_values.proofs.Cases.{by_bool, less_of}
use Rattle.domain_laws.specs.Operations.{Operations}
use Rattle.batch_meaning.specs.Values as plain
use Rattle.cell_names.specs.Known.{IsOnce}
use Rattle.cell_rows.specs.Cells.{Cell}
use Rattle.daig_demands.specs.Stops.{state_of, last_state, goes_on}
use Rattle.daig_graph.specs.declared.value.Value.{Value}
use Rattle.daig_graph.specs.declared.value.Value.TheVariants.{State, Over}
use Rattle.loop_unroll.specs.Iterates.{IsOver, IsEqual, Stops}
use Rattle.daig_query.specs.declared.held.Held.{Held}
use Rattle.std.proofs.lemmas.Option.{same_Some}

not_less : (j n : ℕ) → nat_lt j n ≡ false → j ≤ n → j ≡ n
not_less j n e h = grind (arith, nat_tests)

pub last_snoc : {S : Type 0} (before : Option S) (us : List (Cell S)) (u : Cell S) → last_state before (us ++ u ∷ []) ≡ state_of u.value
last_snoc before [] u = refl
last_snoc before (c ∷ us) u = last_snoc (state_of c.value) us u

pub held_state : (a b : Held) → State a ≡ State b → a ≡ b
held_state a b e = cc

pub held_same : (a b : Held) → a.state ≡ b.state → a.index ≡ 0 → b.index ≡ 0 → a ≡ b
held_same a b e h k = let make : ℕ → ℕ → Held = λ s i. record { state = s; index = i } in ap₂ make e (h ∙ sym k)

over_state : (n : ℕ) (chain : List ℕ) (h : Held) → Some (Over n chain) ≡ Some (State h) → ⊥
over_state n chain h e = cc

module _ {S : Type 0} (dom : Operations S) (states : List S) (once : IsOnce states) (same : (s t : S) → (dom.same s t ≡ true) → s ≡ t) (self : (s : S) → dom.same s s ≡ true) (budget : ℕ) (iterate : ℕ → Option (Value Held)) (j : ℕ) where
  -- What is before iterate j: nothing that is a state, or this state, whose number iterate j - 1 holds.
  pub data Before : Option S → Type 0 where
    nothing : ((i : ℕ) (g : Held) → j ≡ suc i → iterate i ≡ Some (State g) → ⊥) → Before None
    some : (i : ℕ) (g : Held) (t : S) → j ≡ suc i → iterate i ≡ Some (State g) → slice_get states g.state ≡ Some t → g.index ≡ 0 → Before (Some t)

  no_over : (h : Held) → iterate j ≡ Some (State h) → IsOver iterate j → ⊥
  no_over h e (State g, q, o) = o
  no_over h e (Over n chain, q, o) = over_state n chain h (sym q ∙ e)

  -- where they go on, they stop not here
  pub goes_state : (p : Option S) → Before p → (h : Held) (s : S) → iterate j ≡ Some (State h) → slice_get states h.state ≡ Some s → h.index ≡ 0 → goes_on dom budget j p (plain.State s) ≡ true → Stops budget iterate j → ⊥
  goes_state p b h s e at zeroed goes (inl o) = no_over h e o
  goes_state p (nothing none) h s e at zeroed goes (inr (inl (i, g, q, before, here))) = none i g q before
  goes_state p (nothing none) h s e at zeroed goes (inr (inr (q, g, here, other))) = let w : j < budget = less_of j budget goes in absurd (omega arith)
  goes_state p (some i g t q before there zero_before) h s e at zeroed goes stops = by_bool (dom.same s t) equal apart
    where
      equal : dom.same s t ≡ true → ⊥
      equal k =
          let r : goes_on dom budget j (Some t) (plain.State s) ≡ false = ap (λ b. if b then false else nat_lt j budget) k in
          let c : true ≡ false = sym goes ∙ r in
          cc

      apart : dom.same s t ≡ false → ⊥
      apart k = by stops
        where
          less : nat_lt j budget ≡ true
          less = sym (ap (λ b. if b then false else nat_lt j budget) k) ∙ goes

          by : Stops budget iterate j → ⊥
          by (inl o) = no_over h e o
          by (inr (inl (m, f, v, first, second))) =
              let a : suc m ≡ suc i = sym v ∙ q in
              let mi : m ≡ i = omega arith in
              let gf : g ≡ f = held_state g f (same_Some (State g) (State f) (sym before ∙ subst (λ n. iterate n ≡ Some (State f)) mi first)) in
              let hf : h ≡ f = held_state h f (same_Some (State h) (State f) (sym e ∙ second)) in
              let hg : h ≡ g = hf ∙ sym gf in
              let st : s ≡ t = same_Some s t (sym at ∙ (ap (λ (x : Held). slice_get states x.state) hg ∙ there)) in
              let yes : dom.same s t ≡ true = subst (λ x. dom.same s x ≡ true) st (self s) in
              let c : true ≡ false = sym yes ∙ k in
              cc
          by (inr (inr (v, f, here, other))) = let w : j < budget = less_of j budget less in absurd (omega arith)

  -- where they do not, they stop here
  pub stops_state : (p : Option S) → Before p → j ≤ budget → (h : Held) (s : S) → iterate j ≡ Some (State h) → slice_get states h.state ≡ Some s → h.index ≡ 0 → goes_on dom budget j p (plain.State s) ≡ false → Stops budget iterate j
  stops_state p (nothing none) within h s e at zeroed goes = inr (inr (not_less j budget goes within, h, e, λ (i, g, q, before, here). none i g q before))
  stops_state p (some i g t q before there zero_before) within h s e at zeroed goes = by_bool (dom.same s t) equal apart
    where
      equal : dom.same s t ≡ true → Stops budget iterate j
      equal k =
          let st : s ≡ t = same s t k in
          let numbers : h.state ≡ g.state = once h.state g.state s at (there ∙ ap Some (sym st)) in
          let hg : h ≡ g = held_same h g numbers zeroed zero_before in
          inr (inl (i, g, q, before, e ∙ ap (λ x. Some (State x)) hg))

      apart : dom.same s t ≡ false → Stops budget iterate j
      apart k =
          let less : nat_lt j budget ≡ false = sym (ap (λ b. if b then false else nat_lt j budget) k) ∙ goes in
          inr (inr (not_less j budget less within, h, e, other))
        where
          other : IsEqual iterate j → ⊥
          other (m, f, v, first, second) =
              let a : suc m ≡ suc i = sym v ∙ q in
              let mi : m ≡ i = omega arith in
              let gf : g ≡ f = held_state g f (same_Some (State g) (State f) (sym before ∙ subst (λ n. iterate n ≡ Some (State f)) mi first)) in
              let hf : h ≡ f = held_state h f (same_Some (State h) (State f) (sym e ∙ second)) in
              let hg : h ≡ g = hf ∙ sym gf in
              let st : s ≡ t = same_Some s t (sym at ∙ (ap (λ (x : Held). slice_get states x.state) hg ∙ there)) in
              let yes : dom.same s t ≡ true = subst (λ x. dom.same s x ≡ true) st (self s) in
              let c : true ≡ false = sym yes ∙ k in
              cc
