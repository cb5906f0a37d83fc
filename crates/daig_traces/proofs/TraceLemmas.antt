-- Traces, from what a row asks for next.
use Rattle.std.proofs.Common.{◌≡◌, ℕ, zero, suc, ◌≤◌, List, [], ◌∷◌, ◌++◌, map, take, length, slice_get, Option, Some, refl, sym, ap, ◌∙◌, subst, inl, inr, arith}
use Rattle.std.proofs.Math.Seq.{take-length}
use Rattle.std.proofs.lemmas.List.{length-map, length-take-le, take-map, take_all}
use Rattle.std.proofs.lemmas.Option.{slice_get_cases, slice_get_past, slice_get_within}
use Rattle.base_values.proofs.Lists.{none_past, take_next}
use Rattle.daig_order.specs.Asking.{Rows, AreRows, inputs_of, value_of}
use Rattle.daig_order.specs.Found.{AreFound}
use Rattle.daig_order.proofs.AskingProofs.{asks-next, value-is}
use Rattle.daig_traces.specs.Traces.{IsTrace}
use Rattle.daig_traces.specs.Theorems.{NamesHaveTraces, TracesLead, TracesTell, TracesMove, FoundLead, FoundTell}

pub names_have_traces : {T V : Type 0} → NamesHaveTraces T V
names_have_traces t law x = record {
  many = sym (length-map (inputs_of t x) (value_of t));
  asked = λ k h. ap (t.asks x) (take-map (value_of t) k (inputs_of t x)) ∙ asks-next t law x k h;
  value = value-is t law x;
}

-- values that are those of k + 1 names are those of the first k
shorter : {T V : Type 0} (f : T → V) (k : ℕ) (vs : List V) (xs : List T) → take (suc k) vs ≡ map f (take (suc k) xs) → take k vs ≡ map f (take k xs)
shorter f zero vs xs h = refl
shorter f (suc k) [] [] h = refl
shorter f (suc k) [] (x ∷ xs) h = absurd cc
shorter f (suc k) (v ∷ vs) [] h = absurd cc
shorter f (suc k) (v ∷ vs) (x ∷ xs) h =
    let e : v ≡ f x = cc in
    let r : take (suc k) vs ≡ map f (take (suc k) xs) = cc in
    rw (e, shorter f k vs xs r) refl

-- lists with the same first k items and the same next one have the same k + 1 first
longer : {T : Type 0} (xs ys : List T) (k : ℕ) (y : T) → take k ys ≡ take k xs → slice_get xs k ≡ Some y → slice_get ys k ≡ Some y → take (suc k) ys ≡ take (suc k) xs
longer xs ys k y e h g = take_next ys k y g ∙ ap (λ zs. zs ++ y ∷ []) e ∙ sym (take_next xs k y h)

-- lists of one length with the same item at each place are the same
same_items : {T : Type 0} (xs ys : List T) → length xs ≡ length ys → ((k : ℕ) → k ≤ length ys → slice_get xs k ≡ slice_get ys k) → xs ≡ ys
same_items [] [] n at = refl
same_items [] (y ∷ ys) n at = absurd (omega arith)
same_items (x ∷ xs) [] n at = absurd (omega arith)
same_items (x ∷ xs) (y ∷ ys) n at =
    let first : Some x ≡ Some y = at 0 (omega arith) in
    let e : x ≡ y = cc in
    ap (λ z. z ∷ xs) e ∙ ap (λ zs. y ∷ zs) (same_items xs ys (omega arith) (λ k h. at (suc k) (omega arith)))

module _ {T V : Type 0} (t : Rows T V) (law : AreRows t) (x : T) (xs : List T) (vs : List V) (v : V) (trace : IsTrace t x xs vs v) where
  abbrev ins : List T
  ins = inputs_of t x

  abbrev Leads : ℕ → Type 0
  Leads k = (take k ins ≡ take k xs) × (slice_get ins k ≡ slice_get xs k)

  next : (k : ℕ) → k ≤ length xs → k ≤ length ins → take k vs ≡ map (value_of t) (take k xs) → take k ins ≡ take k xs → Leads k
  next k h i own e = (e, sym (asks-next t law x k i) ∙ ap (λ ys. t.asks x (map (value_of t) ys)) e ∙ ap (t.asks x) (sym own) ∙ trace.asked k h)

  more : (k : ℕ) → suc k ≤ length xs → take (suc k) vs ≡ map (value_of t) (take (suc k) xs) → Leads k → Leads (suc k)
  more k h own l =
      elim (slice_get_cases xs k).1 [
        | inl p ↦ let g = l.1 ∙ p.2 in next (suc k) h (let w = slice_get_within ins k p.0 g in omega arith) own (longer xs ins k p.0 l.0 p.2 g)
        | inr q ↦ let past = q.0 in absurd (omega arith)
      ]

  leads : (k : ℕ) → k ≤ length xs → take k vs ≡ map (value_of t) (take k xs) → Leads k
  leads zero h own = next zero h (omega arith) own refl
  leads (suc k) h own = more k h own (leads k (omega arith) (shorter (value_of t) k vs xs own))

  tells : vs ≡ map (value_of t) xs → (ins ≡ xs) × (value_of t x ≡ v)
  tells own =
      let n = length xs in
      let l = leads n (omega arith) (ap (take n) own ∙ take-map (value_of t) n xs) in
      let short = none_past ins n (l.1 ∙ slice_get_past xs n (omega arith)) in
      let e : ins ≡ xs = sym (take_all n ins short) ∙ l.0 ∙ take-length xs in
      (e, value-is t law x ∙ ap (λ ys. t.operation x (map (value_of t) ys)) e ∙ ap (t.operation x) (sym own) ∙ sym trace.value)

  module _ (get : T → Option V) where
    found_lead : (k : ℕ) → k ≤ length xs → AreFound (value_of t) get ins (take k vs) → slice_get ins k ≡ slice_get xs k
    found_lead k h found =
        let le : k ≤ length vs = omega (arith, trace.many) in
        let n : length (take k vs) ≡ k = length-take-le k vs le in
        let own : take k vs ≡ map (value_of t) (take k ins) = found.values ∙ ap (λ i. map (value_of t) (take i ins)) n in
        sym (asks-next t law x k (omega (arith, found.within, n))) ∙ ap (t.asks x) (sym own) ∙ trace.asked k h

    found_tell : AreFound (value_of t) get ins vs → (ins ≡ xs) × (value_of t x ≡ v)
    found_tell found =
        let whole : take (length xs) vs ≡ vs = ap (λ i. take i vs) trace.many ∙ take-length vs in
        let end = found_lead (length xs) (omega arith) (subst (AreFound (value_of t) get ins) (sym whole) found) in
        let short = none_past ins (length xs) (end ∙ slice_get_past xs (length xs) (omega arith)) in
        let own : vs ≡ map (value_of t) ins = found.values ∙ ap (map (value_of t)) (take_all (length vs) ins (omega (arith, short, trace.many))) in
        let value = value-is t law x ∙ ap (t.operation x) (sym own) ∙ sym trace.value in
        (same_items ins xs (omega (arith, found.within, trace.many, short)) (λ k h. sym (asks-next t law x k (omega (arith, found.within, trace.many))) ∙ ap (t.asks x) (sym (ap (take k) own ∙ take-map (value_of t) k ins)) ∙ trace.asked k h), value)

pub traces_lead : {T V : Type 0} → TracesLead T V
traces_lead t law x xs vs v trace k h own = leads t law x xs vs v trace k h own

pub traces_tell : {T V : Type 0} → TracesTell T V
traces_tell t law x xs vs v trace own = tells t law x xs vs v trace own

pub traces_move : {T V : Type 0} → TracesMove T V
traces_move t u x xs vs v trace asks operation = record {
  many = trace.many;
  asked = λ k h. asks k h ∙ trace.asked k h;
  value = trace.value ∙ sym operation;
}

pub founds_lead : {T V : Type 0} → FoundLead T V
founds_lead t law get x xs vs v trace k h found = found_lead t law x xs vs v trace get k h found

pub founds_tell : {T V : Type 0} → FoundTell T V
founds_tell t law get x xs vs v trace found = found_tell t law x xs vs v trace get found
