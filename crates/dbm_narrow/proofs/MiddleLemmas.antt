-- The bounds to and from a slot's nodes; and what becomes of an entry by them.
use Rattle.std.specs.Prelude.{◌≡◌, ℕ, ◌<◌, ◌≤◌, ◌+◌, ◌*◌, ℤ, ◌+ℤ◌, None, Bool, List, length, map}
use Rattle.std.specs.Int.{int_min}
use Rattle.std.proofs.Common.{arith, ap, sym, ◌∙◌, get_or}
use Rattle.dbm_close.proofs.MiddleLemmas.{via_both-rounded}
use Rattle.dbm_close.specs.Rounds.{HasMiddle, rounded, via_both}
use Rattle.dbm_core.proofs.HalfLemmas.{entry-coherent}
use Rattle.dbm_core.proofs.NodeLemmas.{flip-even, flip-odd}
use Rattle.dbm_core.proofs.WeightLemmas.{add_weight-comm}
use Rattle.dbm_core.specs.Half.{IsMatrix, entry, row_start, row_width}
use Rattle.dbm_core.specs.Nodes.{flip}
use Rattle.dbm_core.specs.Weights.{add_weight, least}
use Rattle.dbm_narrow.proofs.EntryLemmas.{entries-from, held-entry, held-kept, pair-is_entry, pair-other, wide-at, wide-min, wide-settle, wide-sum, wide-through_both}
use Rattle.dbm_narrow.specs.declared.middle.Middle.{Middle}
use Rattle.dbm_narrow.specs.Entries.{AreEntries, IsEntry, at, held, none, pair_at, settle, wide}
use Rattle.dbm_narrow.specs.Middles.{IsNarrowMiddle, through_middle, wide_middle}
use Rattle.dbm_narrow.specs.Rounds.{IsNarrow}

module _ (unit : ℕ) (room : 0 < unit) where
  pub flip-first : (q : ℕ) → flip (2 * q) ≡ 2 * q + 1
  flip-first q = flip-even (2 * q) (omega arith)

  pub flip-second : (q : ℕ) → flip (2 * q + 1) ≡ 2 * q
  flip-second q = flip-odd (2 * q + 1) (omega arith) ∙ omega arith

  -- the entries between the nodes of slot q and those of a later slot s, by their mirror images
  module _ (xs : List ℤ) (q s : ℕ) (l : q + 1 ≤ s) where
    pub turned-even_first : pair_at unit xs (2 * q) (2 * s) ≡ at unit xs (row_start (2 * s + 1) + (2 * q + 1))
    turned-even_first = pair-other unit room xs (2 * q) (2 * s) (omega arith) ∙ ap (λ k. at unit xs (row_start k + flip (2 * q))) (flip-first s) ∙ ap (λ k. at unit xs (row_start (2 * s + 1) + k)) (flip-first q)

    pub turned-odd_first : pair_at unit xs (2 * q) (2 * s + 1) ≡ at unit xs (row_start (2 * s) + (2 * q + 1))
    turned-odd_first = pair-other unit room xs (2 * q) (2 * s + 1) (omega arith) ∙ ap (λ k. at unit xs (row_start k + flip (2 * q))) (flip-second s) ∙ ap (λ k. at unit xs (row_start (2 * s) + k)) (flip-first q)

    pub turned-even_second : pair_at unit xs (2 * q + 1) (2 * s) ≡ at unit xs (row_start (2 * s + 1) + 2 * q)
    turned-even_second = pair-other unit room xs (2 * q + 1) (2 * s) (omega arith) ∙ ap (λ k. at unit xs (row_start k + flip (2 * q + 1))) (flip-first s) ∙ ap (λ k. at unit xs (row_start (2 * s + 1) + k)) (flip-second q)

    pub turned-odd_second : pair_at unit xs (2 * q + 1) (2 * s + 1) ≡ at unit xs (row_start (2 * s) + 2 * q)
    turned-odd_second = pair-other unit room xs (2 * q + 1) (2 * s + 1) (omega arith) ∙ ap (λ k. at unit xs (row_start k + flip (2 * q + 1))) (flip-second s) ∙ ap (λ k. at unit xs (row_start (2 * s) + k)) (flip-second q)

  -- the column of a node is the row of the node of the other sign, turned
  module _ (kinds : List Bool) (xs : List ℤ) (t : IsMatrix (held unit kinds xs)) where
    pub to_node : (i k : ℕ) → i < 2 * length kinds → k < 2 * length kinds → wide unit (pair_at unit xs (flip k) (flip i)) ≡ entry (held unit kinds xs) i k
    to_node i k hi hk = sym (held-entry unit room kinds xs (flip k) (flip i)) ∙ sym (entry-coherent (held unit kinds xs) t i k hi hk)

  -- what the arrays hold before column n
  pub record AreWays {W : Type 0} (n : ℕ) (xs : List ℤ) (q : ℕ) (m : Middle W) : Type 0 where
    pub first : (j : ℕ) → j < n → at unit m.from_first j ≡ pair_at unit xs (2 * q) j
    pub to_first : (i : ℕ) → i < n → at unit m.to_first i ≡ pair_at unit xs (2 * q + 1) (flip i)
    pub to_second : (i : ℕ) → i < n → at unit m.to_second i ≡ int_min (pair_at unit xs (2 * q) (flip i)) (settle unit (pair_at unit xs (2 * q) (2 * q + 1) +ℤ pair_at unit xs (2 * q + 1) (flip i)))
    pub from_second : (j : ℕ) → j < n → at unit m.from_second j ≡ int_min (pair_at unit xs (2 * q + 1) j) (settle unit (pair_at unit xs (2 * q + 1) (2 * q) +ℤ pair_at unit xs (2 * q) j))

  pub ways-middle : {W : Type 0} → (kinds : List Bool) (xs : List ℤ) (q : ℕ) (m : Middle W) → IsNarrow unit kinds xs → q < length kinds → AreWays (2 * length kinds) xs q m → HasMiddle (2 * length kinds) (entry (held unit kinds xs)) q (wide_middle unit m)
  ways-middle kinds xs q m t l p = record {
    to_first = λ i hi. wide-at unit room m.to_first i ∙ to_first i hi;
    from_first = λ j hj. wide-at unit room m.from_first j ∙ from_first j hj;
    to_second = λ i hi. wide-at unit room m.to_second i ∙ ap (wide unit) (p.to_second i hi) ∙ wide-min unit room (pair_at unit xs (2 * q) (flip i)) (settle unit (pair_at unit xs (2 * q) (2 * q + 1) +ℤ pair_at unit xs (2 * q + 1) (flip i)))
        ∙ ap (λ a. least a (wide unit (settle unit (pair_at unit xs (2 * q) (2 * q + 1) +ℤ pair_at unit xs (2 * q + 1) (flip i))))) (to_direct i hi)
        ∙ ap (least (entry (held unit kinds xs) i (2 * q + 1))) (step_to i hi);
    from_second = λ j hj. wide-at unit room m.from_second j ∙ ap (wide unit) (p.from_second j hj) ∙ wide-min unit room (pair_at unit xs (2 * q + 1) j) (settle unit (pair_at unit xs (2 * q + 1) (2 * q) +ℤ pair_at unit xs (2 * q) j))
        ∙ ap (λ a. least a (wide unit (settle unit (pair_at unit xs (2 * q + 1) (2 * q) +ℤ pair_at unit xs (2 * q) j)))) (sym (held-entry unit room kinds xs (2 * q + 1) j))
        ∙ ap (least (entry (held unit kinds xs) (2 * q + 1) j)) (step_from j);
  }
    where
      small : (i j : ℕ) → IsEntry unit (2 * unit) (pair_at unit xs i j)
      small i j = pair-is_entry unit room (2 * unit) xs i j t.entries

      to_pair : (i : ℕ) → i < 2 * length kinds → wide unit (pair_at unit xs (2 * q + 1) (flip i)) ≡ entry (held unit kinds xs) i (2 * q)
      to_pair i hi = ap (λ k. wide unit (pair_at unit xs k (flip i))) (sym (flip-first q)) ∙ to_node kinds xs t.matrix i (2 * q) hi (omega arith)

      to_first : (i : ℕ) → i < 2 * length kinds → wide unit (at unit m.to_first i) ≡ entry (held unit kinds xs) i (2 * q)
      to_first i hi = ap (wide unit) (p.to_first i hi) ∙ to_pair i hi

      from_first : (j : ℕ) → j < 2 * length kinds → wide unit (at unit m.from_first j) ≡ entry (held unit kinds xs) (2 * q) j
      from_first j hj = ap (wide unit) (p.first j hj) ∙ sym (held-entry unit room kinds xs (2 * q) j)

      to_direct : (i : ℕ) → i < 2 * length kinds → wide unit (pair_at unit xs (2 * q) (flip i)) ≡ entry (held unit kinds xs) i (2 * q + 1)
      to_direct i hi = ap (λ k. wide unit (pair_at unit xs k (flip i))) (sym (flip-second q)) ∙ to_node kinds xs t.matrix i (2 * q + 1) hi (omega arith)

      step_to : (i : ℕ) → i < 2 * length kinds → wide unit (settle unit (pair_at unit xs (2 * q) (2 * q + 1) +ℤ pair_at unit xs (2 * q + 1) (flip i))) ≡ add_weight (entry (held unit kinds xs) i (2 * q)) (entry (held unit kinds xs) (2 * q) (2 * q + 1))
      step_to i hi =
          wide-settle unit room (pair_at unit xs (2 * q) (2 * q + 1) +ℤ pair_at unit xs (2 * q + 1) (flip i))
          ∙ wide-sum unit room (2 * unit) (2 * unit) (pair_at unit xs (2 * q) (2 * q + 1)) (pair_at unit xs (2 * q + 1) (flip i)) (omega arith) (small (2 * q) (2 * q + 1)) (small (2 * q + 1) (flip i))
          ∙ ap (λ a. add_weight a (wide unit (pair_at unit xs (2 * q + 1) (flip i)))) (sym (held-entry unit room kinds xs (2 * q) (2 * q + 1)))
          ∙ ap (add_weight (entry (held unit kinds xs) (2 * q) (2 * q + 1))) (to_pair i hi)
          ∙ add_weight-comm (entry (held unit kinds xs) (2 * q) (2 * q + 1)) (entry (held unit kinds xs) i (2 * q))

      step_from : (j : ℕ) → wide unit (settle unit (pair_at unit xs (2 * q + 1) (2 * q) +ℤ pair_at unit xs (2 * q) j)) ≡ add_weight (entry (held unit kinds xs) (2 * q + 1) (2 * q)) (entry (held unit kinds xs) (2 * q) j)
      step_from j =
          wide-settle unit room (pair_at unit xs (2 * q + 1) (2 * q) +ℤ pair_at unit xs (2 * q) j)
          ∙ wide-sum unit room (2 * unit) (2 * unit) (pair_at unit xs (2 * q + 1) (2 * q)) (pair_at unit xs (2 * q) j) (omega arith) (small (2 * q + 1) (2 * q)) (small (2 * q) j)
          ∙ ap (λ a. add_weight a (wide unit (pair_at unit xs (2 * q) j))) (sym (held-entry unit room kinds xs (2 * q + 1) (2 * q)))
          ∙ ap (add_weight (entry (held unit kinds xs) (2 * q + 1) (2 * q))) (sym (held-entry unit room kinds xs (2 * q) j))

  -- an entry that goes through the middle stands for the bound when walks do
  pub middle-via : {W : Type 0} → (kinds : List Bool) (xs ys : List ℤ) (m : Middle W) → IsNarrowMiddle unit m → (i j : ℕ) → j < row_width i → at unit ys (row_start i + j) ≡ through_middle unit m i j (at unit xs (row_start i + j)) →
      entry (held unit kinds ys) i j ≡ via_both (wide_middle unit m) i j (entry (held unit kinds xs) i j)
  middle-via kinds xs ys m s i j w e =
      held-kept unit room kinds ys i j w
      ∙ ap (wide unit) e
      ∙ wide-through_both unit room (at unit m.to_first i) (at unit m.to_second i) (at unit m.from_first j) (at unit m.from_second j) (at unit xs (row_start i + j)) (s.to_first i) (s.to_second i) (s.from_first j) (s.from_second j)
      ∙ ap (λ a. least (least a (add_weight (wide unit (at unit m.to_first i)) (wide unit (at unit m.from_first j)))) (add_weight (wide unit (at unit m.to_second i)) (wide unit (at unit m.from_second j)))) (sym (held-kept unit room kinds xs i j w))
      ∙ ap (λ a. least (least (entry (held unit kinds xs) i j) (add_weight a (wide unit (at unit m.from_first j)))) (add_weight (wide unit (at unit m.to_second i)) (wide unit (at unit m.from_second j)))) (sym (wide-at unit room m.to_first i))
      ∙ ap (λ a. least (least (entry (held unit kinds xs) i j) (add_weight (get_or (map (wide unit) m.to_first) i None) a)) (add_weight (wide unit (at unit m.to_second i)) (wide unit (at unit m.from_second j)))) (sym (wide-at unit room m.from_first j))
      ∙ ap (λ a. least (least (entry (held unit kinds xs) i j) (add_weight (get_or (map (wide unit) m.to_first) i None) (get_or (map (wide unit) m.from_first) j None))) (add_weight a (wide unit (at unit m.from_second j)))) (sym (wide-at unit room m.to_second i))
      ∙ ap (λ a. least (least (entry (held unit kinds xs) i j) (add_weight (get_or (map (wide unit) m.to_first) i None) (get_or (map (wide unit) m.from_first) j None))) (add_weight (get_or (map (wide unit) m.to_second) i None) a)) (sym (wide-at unit room m.from_second j))

  pub middle-rounded : {W : Type 0} → (kinds : List Bool) (xs ys : List ℤ) (q : ℕ) (m : Middle W) → HasMiddle (2 * length kinds) (entry (held unit kinds xs)) q (wide_middle unit m) → IsNarrowMiddle unit m →
      (i j : ℕ) → i < 2 * length kinds → j < row_width i → at unit ys (row_start i + j) ≡ through_middle unit m i j (at unit xs (row_start i + j)) →
      entry (held unit kinds ys) i j ≡ rounded (entry (held unit kinds xs)) q i j
  middle-rounded kinds xs ys q m h s i j hi w e =
      let hj : j < 2 * length kinds = omega arith in
      middle-via kinds xs ys m s i j w e ∙ via_both-rounded (2 * length kinds) (entry (held unit kinds xs)) q (wide_middle unit m) h i j hi hj

  -- ---- the arrays hold entries

  pub row-is_entry : (b n : ℕ) (xs row : List ℤ) (i : ℕ) → AreEntries unit b xs → ((j : ℕ) → j < n → at unit row j ≡ pair_at unit xs i j) → ((j : ℕ) → n ≤ j → at unit row j ≡ none unit) → AreEntries unit b row
  row-is_entry b n xs row i h p q = entries-from unit room b n row (pair_at unit xs i) p q (λ j. pair-is_entry unit room b xs i j h)

  pub flipped-is_entry : (b n : ℕ) (row turned : List ℤ) → AreEntries unit b row → ((i : ℕ) → i < n → at unit turned i ≡ at unit row (flip i)) → ((i : ℕ) → n ≤ i → at unit turned i ≡ none unit) → AreEntries unit b turned
  flipped-is_entry b n row turned h p q = entries-from unit room b n turned (λ i. at unit row (flip i)) p q (λ i. h (flip i))
