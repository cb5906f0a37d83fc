-- A slot that stands for a node plus a number, in narrow entries: its rows, and the matrix with them.
use Rattle.std.specs.Prelude.{◌≡◌, ℕ, ◌<◌, ◌+◌, ◌*◌, ◌/◌, ℤ, pos, neg_ℤ, ◌+ℤ◌, ◌-ℤ◌, ◌≤ℤ◌, Option, Some, Bool, List, length, slice_set, refl}
use Rattle.std.proofs.Common.{arith, ap, sym, subst, ◌∙◌, inl, inr, get_or-set_other, get_or-set_same, length-set}
use Rattle.std.proofs.lemmas.Bool.{cases_eq, cases_lt, eq-eqb, ne_eqb}
use Rattle.std.proofs.lemmas.Int.{ints}
use Rattle.std.proofs.lemmas.List.{get_or_past, length-map}
use Rattle.dbm_close.specs.declared.closed.Closed.{Closed}
use Rattle.dbm_close.specs.declared.closed.Closed.TheVariants as wide
use Rattle.dbm_close.specs.Finish.{IsFinishOf}
use Rattle.dbm_close.specs.Steps.{even_down, half}
use Rattle.dbm_close.proofs.StrongLemmas.{Agree}
use Rattle.dbm_core.proofs.HalfLemmas.{HasEntries-from_kept, entry-coherent}
use Rattle.dbm_core.proofs.LimitLemmas.{zero-at_most}
use Rattle.dbm_core.proofs.NodeLemmas.{flip_below}
use Rattle.dbm_core.proofs.WeightLemmas.{add_weight-comm}
use Rattle.dbm_core.specs.Half.{HalfMatrix, HasEntries, IsMatrix, entry, nodes}
use Rattle.dbm_core.specs.Nodes.{IsCoherent, IsOfSlot, flip}
use Rattle.dbm_core.specs.Weights.{AtMost, add_weight}
use Rattle.dbm_incremental.proofs.AssignLemmas.{equated-weights}
use Rattle.dbm_incremental.proofs.CloseLemmas.{close-from_entries, finish-answer}
use Rattle.dbm_incremental.proofs.LawLemmas.{close_of-closed}
use Rattle.dbm_incremental.proofs.MoveLemmas.{whole-strong}
use Rattle.dbm_incremental.proofs.StandLemmas.{node-even, node-odd, node-other, shift-even, shift-odd, shift-other, stand_node-flip, stand_shift-flip, stood-inside, stood-strong}
use Rattle.dbm_incremental.specs.Answers.{IsClosedAnswer}
use Rattle.dbm_incremental.specs.ClosedMatrices.{IsClosed, IsStrong, IsWhole}
use Rattle.dbm_incremental.specs.Equations.{ClosesEquated, equated, stand_node, stand_shift, stood_entry}
use Rattle.dbm_incremental.specs.Triangles.{AreSoundWeights}
use Rattle.dbm_narrow.proofs.EntryLemmas.{wide-bound, wide-settle, wide-sum}
use Rattle.dbm_narrow.proofs.MiddleLemmas.{flip-first, flip-second}
use Rattle.dbm_narrow.specs.Carried.{IsClosingStood}
use Rattle.dbm_narrow.specs.Closed.{IsClosing}
use Rattle.dbm_narrow.specs.declared.closed.Closing.{Closing}
use Rattle.dbm_narrow.specs.declared.closed.Closing.TheVariants.{Empty, Matrix, TooWide}
use Rattle.dbm_narrow.specs.Entries.{AreEntries, IsEntry, at, held, none, settle, wide}
use Rattle.dbm_narrow.specs.declared.closing.ClosingResult.{ClosingResult}
use Rattle.dbm_narrow.specs.declared.closing.ClosingResult.TheVariants.{Closed as OutcomeClosed, Empty as OutcomeEmpty, TooWide as OutcomeTooWide}
use Rattle.dbm_narrow.specs.Held.{TellsFinish}
use Rattle.dbm_narrow.specs.Rounds.{IsNarrow}
use Rattle.dbm_narrow.specs.Standing.{IsEquatedOutcome, StandsTo, replaced, stood_at}

module _ (unit : ℕ) (room : 0 < unit) where
  -- ---- one row

  pub stood_at-first : (row : List ℤ) (q y : ℕ) (a b c : ℤ) (j : ℕ) → j ≡ 2 * q → stood_at unit row q y a b c j ≡ settle unit (a +ℤ at unit row y)
  stood_at-first row q y a b c j e = rw (eq-eqb j (2 * q) e) refl

  pub stood_at-second : (row : List ℤ) (q y : ℕ) (a b c : ℤ) (j : ℕ) → (j ≡ 2 * q → ⊥) → j ≡ 2 * q + 1 → stood_at unit row q y a b c j ≡ settle unit (b +ℤ at unit row (flip y))
  stood_at-second row q y a b c j n e = rw (ne_eqb j (2 * q) n, eq-eqb j (2 * q + 1) e) refl

  pub stood_at-others : (row : List ℤ) (q y : ℕ) (a b c : ℤ) (j : ℕ) → (j ≡ 2 * q → ⊥) → (j ≡ 2 * q + 1 → ⊥) → stood_at unit row q y a b c j ≡ settle unit (c +ℤ at unit row j)
  stood_at-others row q y a b c j n m = rw (ne_eqb j (2 * q) n, ne_eqb j (2 * q + 1) m) refl

  -- a step within the limits of a sum
  abbrev pub IsStep : ℤ → Type 0
  IsStep k = (neg_ℤ (pos (4 * unit)) ≤ℤ k) × (k ≤ℤ pos (4 * unit))

  module _ (d : ℕ → ℕ → Option ℤ) (n q y : ℕ) (c p : ℤ) (o i : ℕ) (row : List ℤ) (first second others : ℤ)
      (eo : stand_node q y i ≡ o) (ep : stand_shift q c i ≡ p) (hy : y < n) (hf : flip y < n)
      (read : (j : ℕ) → j < n → wide unit (at unit row j) ≡ d o j) (small : AreEntries unit (2 * unit) row)
      (f1 : first ≡ c -ℤ p) (f2 : second ≡ neg_ℤ c -ℤ p) (f3 : others ≡ pos 0 -ℤ p) (b1 : IsStep first) (b2 : IsStep second) (b3 : IsStep others) where
    sum : (k : ℤ) (j : ℕ) → j < n → IsStep k → wide unit (settle unit (k +ℤ at unit row j)) ≡ add_weight (d o j) (Some k)
    sum k j hj b =
        let l : k ≤ℤ pos (4 * unit) = b.1 in
        wide-settle unit room (k +ℤ at unit row j)
        ∙ wide-sum unit room (4 * unit) (2 * unit) k (at unit row j) (omega arith) (inr b) (small j)
        ∙ ap (λ a. add_weight a (wide unit (at unit row j))) (wide-bound unit room k (omega (arith, ints)))
        ∙ ap (add_weight (Some k)) (read j hj)
        ∙ add_weight-comm (Some k) (d o j)

    target : (j z : ℕ) (s : ℤ) → stand_node q y j ≡ z → stand_shift q c j ≡ s → add_weight (d o z) (Some (s -ℤ p)) ≡ stood_entry d q y c i j
    target j z s e f = sym (ap (λ a. add_weight (d a (stand_node q y j)) (Some (stand_shift q c j -ℤ stand_shift q c i))) eo
        ∙ ap (λ a. add_weight (d o a) (Some (stand_shift q c j -ℤ stand_shift q c i))) e
        ∙ ap (λ a. add_weight (d o z) (Some (a -ℤ stand_shift q c i))) f
        ∙ ap (λ a. add_weight (d o z) (Some (s -ℤ a))) ep)

    pub stood-row : (j : ℕ) → j < n → wide unit (stood_at unit row q y first second others j) ≡ stood_entry d q y c i j
    stood-row j hj = elim (cases_eq j (2 * q)) [
      | inl e ↦ ap (wide unit) (stood_at-first row q y first second others j e) ∙ sum first y hy b1 ∙ ap (λ k. add_weight (d o y) (Some k)) f1
          ∙ target j y c (ap (stand_node q y) e ∙ node-even q y) (ap (stand_shift q c) e ∙ shift-even q c)
      | inr m ↦ elim (cases_eq j (2 * q + 1)) [
        | inl e ↦ ap (wide unit) (stood_at-second row q y first second others j m e) ∙ sum second (flip y) hf b2 ∙ ap (λ k. add_weight (d o (flip y)) (Some k)) f2
            ∙ target j (flip y) (neg_ℤ c) (ap (stand_node q y) e ∙ node-odd q y) (ap (stand_shift q c) e ∙ shift-odd q c)
        | inr l ↦ ap (wide unit) (stood_at-others row q y first second others j m l) ∙ sum others j hj b3 ∙ ap (λ k. add_weight (d o j) (Some k)) f3
            ∙ target j j (pos 0) (node-other q y j m l) (shift-other q c j m l)
      ]
    ]

  -- ---- all rows

  module _ (s : ℕ → ℕ → Option ℤ) (h q : ℕ) (first second : List ℤ) (co : IsCoherent s (2 * h)) (hq : q < h)
      (pf : (j : ℕ) → j < 2 * h → wide unit (at unit first j) ≡ s (2 * q) j) (ps : (j : ℕ) → j < 2 * h → wide unit (at unit second j) ≡ s (2 * q + 1) j) where
    pub wide-replaced : (d : ℕ → ℕ → Option ℤ) (i j : ℕ) (x : ℤ) → i < 2 * h → j < 2 * h → wide unit x ≡ d i j → ((IsOfSlot q i j → ⊥) → s i j ≡ d i j) → wide unit (replaced unit q first second i j x) ≡ s i j
    wide-replaced d i j x hi hj e f = elim (cases_eq i (2 * q)) [
      | inl a ↦ ap (wide unit) (rw (eq-eqb i (2 * q) a) refl) ∙ pf j hj ∙ ap (λ k. s k j) (sym a)
      | inr na ↦ elim (cases_eq i (2 * q + 1)) [
        | inl b ↦ ap (wide unit) (rw (ne_eqb i (2 * q) na, eq-eqb i (2 * q + 1) b) refl) ∙ ps j hj ∙ ap (λ k. s k j) (sym b)
        | inr nb ↦ elim (cases_eq j (2 * q)) [
          | inl a ↦ ap (wide unit) (rw (ne_eqb i (2 * q) na, ne_eqb i (2 * q + 1) nb, eq-eqb j (2 * q) a) refl) ∙ ps (flip i) (flip_below i h hi)
              ∙ ap (λ k. s k (flip i)) (sym (flip-first unit room q) ∙ ap flip (sym a)) ∙ sym (co i j hi hj)
          | inr nc ↦ elim (cases_eq j (2 * q + 1)) [
            | inl b ↦ ap (wide unit) (rw (ne_eqb i (2 * q) na, ne_eqb i (2 * q + 1) nb, ne_eqb j (2 * q) nc, eq-eqb j (2 * q + 1) b) refl) ∙ pf (flip i) (flip_below i h hi)
                ∙ ap (λ k. s k (flip i)) (sym (flip-second unit room q) ∙ ap flip (sym b)) ∙ sym (co i j hi hj)
            | inr nd ↦ ap (wide unit) (rw (ne_eqb i (2 * q) na, ne_eqb i (2 * q + 1) nb, ne_eqb j (2 * q) nc, ne_eqb j (2 * q + 1) nd) refl) ∙ e
                ∙ sym (f (outside i j na nb nc nd))
          ]
        ]
      ]
    ]
      where
        of_node : (i : ℕ) → (i ≡ 2 * q → ⊥) → (i ≡ 2 * q + 1 → ⊥) → i / 2 ≡ q → ⊥
        of_node i na nb g = elim (cases_eq i (2 * q)) [ inl e ↦ na e | inr e ↦ nb (omega arith) ]

        outside : (i j : ℕ) → (i ≡ 2 * q → ⊥) → (i ≡ 2 * q + 1 → ⊥) → (j ≡ 2 * q → ⊥) → (j ≡ 2 * q + 1 → ⊥) → IsOfSlot q i j → ⊥
        outside i j na nb nc nd (inl g) = of_node i na nb g
        outside i j na nb nc nd (inr g) = of_node j nc nd g

  -- a row of another slot's node
  pub replaced-set : (q i : ℕ) (first second xs : List ℤ) (a b : ℤ) → (i ≡ 2 * q → ⊥) → (i ≡ 2 * q + 1 → ⊥) → 2 * q + 1 < length xs → a ≡ at unit second (flip i) → b ≡ at unit first (flip i) →
      (j : ℕ) → j < length xs → at unit (slice_set (slice_set xs (2 * q) a) (2 * q + 1) b) j ≡ replaced unit q first second i j (at unit xs j)
  replaced-set q i first second xs a b na nb l ea eb j hj = elim (cases_eq j (2 * q)) [
    | inl e ↦ let n : j ≡ 2 * q + 1 → ⊥ = λ z. absurd (omega arith) in
        get_or-set_other (slice_set xs (2 * q) a) (2 * q + 1) j b (none unit) n ∙ ap (at unit (slice_set xs (2 * q) a)) e ∙ get_or-set_same xs (2 * q) a (none unit) (omega arith) ∙ ea
        ∙ sym (rw (ne_eqb i (2 * q) na, ne_eqb i (2 * q + 1) nb, eq-eqb j (2 * q) e) refl)
    | inr n ↦ elim (cases_eq j (2 * q + 1)) [
      | inl e ↦ ap (at unit (slice_set (slice_set xs (2 * q) a) (2 * q + 1) b)) e ∙ get_or-set_same (slice_set xs (2 * q) a) (2 * q + 1) b (none unit) (omega (arith, length-set xs (2 * q) a)) ∙ eb
          ∙ sym (rw (ne_eqb i (2 * q) na, ne_eqb i (2 * q + 1) nb, ne_eqb j (2 * q) n, eq-eqb j (2 * q + 1) e) refl)
      | inr m ↦ get_or-set_other (slice_set xs (2 * q) a) (2 * q + 1) j b (none unit) m ∙ get_or-set_other xs (2 * q) j a (none unit) n
          ∙ sym (rw (ne_eqb i (2 * q) na, ne_eqb i (2 * q + 1) nb, ne_eqb j (2 * q) n, ne_eqb j (2 * q + 1) m) refl)
    ]
  ]

  -- ---- the matrix

  -- the entries of a closed matrix that obeys the triangle law are strong
  pub closed-strong : (kinds : List Bool) (xs : List ℤ) → IsClosed (held unit kinds xs) → IsWhole (held unit kinds xs) → IsStrong (2 * length kinds) (entry (held unit kinds xs))
  closed-strong kinds xs h w = whole-strong (held unit kinds xs) h w

  -- a slot that stands for a node leaves mirror images alike
  pub stood-coherent : (d : ℕ → ℕ → Option ℤ) (h q y : ℕ) (c : ℤ) → y < 2 * h → IsCoherent d (2 * h) → IsCoherent (stood_entry d q y c) (2 * h)
  stood-coherent d h q y c hy co i j hi hj =
      ap (λ a. add_weight a (Some (stand_shift q c j -ℤ stand_shift q c i))) (co (stand_node q y i) (stand_node q y j) (stood-inside h q y hy i hi) (stood-inside h q y hy j hj))
      ∙ ap (λ a. add_weight (d a (flip (stand_node q y i))) (Some (stand_shift q c j -ℤ stand_shift q c i))) (sym (stand_node-flip q y j))
      ∙ ap (λ a. add_weight (d (stand_node q y (flip j)) a) (Some (stand_shift q c j -ℤ stand_shift q c i))) (sym (stand_node-flip q y i))
      ∙ ap (λ a. add_weight (d (stand_node q y (flip j)) (stand_node q y (flip i))) (Some a)) (turned (stand_shift q c i) (stand_shift q c j) (stand_shift q c (flip i)) (stand_shift q c (flip j)) (stand_shift-flip q c i) (stand_shift-flip q c j))
    where
      turned : (a b e f : ℤ) → e ≡ neg_ℤ a → f ≡ neg_ℤ b → b -ℤ a ≡ e -ℤ f
      turned a b e f p r = omega (arith, ints)

  -- what agrees with strong entries is strong
  pub agree-strong : (h : ℕ) (u v : ℕ → ℕ → Option ℤ) → Agree (2 * h) v u → IsStrong (2 * h) u → IsStrong (2 * h) v
  agree-strong h u v e s = record {
    coherent = λ i j hi hj. e i j hi hj ∙ s.coherent i j hi hj ∙ sym (e (flip j) (flip i) (fl j hj) (fl i hi));
    diagonal = λ i hi. e i i hi hi ∙ s.diagonal i hi;
    triangles = λ i k j hi hk hj. subst (λ a. AtMost a (add_weight (v i k) (v k j))) (sym (e i j hi hj))
        (subst (λ a. AtMost (u i j) (add_weight a (v k j))) (sym (e i k hi hk)) (subst (λ a. AtMost (u i j) (add_weight (u i k) a)) (sym (e k j hk hj)) (s.triangles i k j hi hk hj)));
    evens = λ i hi. subst (λ a. even_down a ≡ a) (sym (e i (flip i) hi (fl i hi))) (s.evens i hi);
    halves = λ i j hi hj. subst (λ a. AtMost a (half (add_weight (v i (flip i)) (v (flip j) j)))) (sym (e i j hi hj))
        (subst (λ a. AtMost (u i j) (half (add_weight a (v (flip j) j)))) (sym (e i (flip i) hi (fl i hi)))
        (subst (λ a. AtMost (u i j) (half (add_weight (u i (flip i)) a))) (sym (e (flip j) j (fl j hj) hj)) (s.halves i j hi hj)));
  }
    where
      fl : (i : ℕ) → i < 2 * h → flip i < 2 * h
      fl i hi = flip_below i h hi

  module _ (kinds : List Bool) (xs ys : List ℤ) (q y : ℕ) (c : ℤ) (t : IsNarrow unit kinds xs) (hy : y < 2 * length kinds) (size : length ys ≡ length xs) (st : StandsTo unit kinds xs ys q y c) where
    coherent : IsCoherent (stood_entry (entry (held unit kinds xs)) q y c) (2 * length kinds)
    coherent = stood-coherent (entry (held unit kinds xs)) (length kinds) q y c hy (entry-coherent (held unit kinds xs) t.matrix)

    matrix : IsMatrix (held unit kinds ys)
    matrix = record {
      few = t.matrix.few;
      fits = length-map ys (wide unit) ∙ size ∙ sym (length-map xs (wide unit)) ∙ t.matrix.fits;
      diagonal = λ k l.
          let a : 2 * k < 2 * length kinds = omega arith in
          st.stood (2 * k) (2 * k) a (omega arith) ∙ coherent (2 * k) (2 * k) a a
          ∙ ap (λ z. stood_entry (entry (held unit kinds xs)) q y c z z) (flip-first unit room k) ∙ sym (st.stood (2 * k + 1) (2 * k + 1) (omega arith) (omega arith));
    }

    pub stands-entries : HasEntries kinds (stood_entry (entry (held unit kinds xs)) q y c) (held unit kinds ys)
    stands-entries = HasEntries-from_kept kinds (stood_entry (entry (held unit kinds xs)) q y c) (held unit kinds ys) matrix refl coherent st.stood

    pub stands-narrow : IsNarrow unit kinds ys
    stands-narrow = record { matrix = matrix; entries = st.entries }

    module _ (h : IsClosed (held unit kinds xs)) (w : IsWhole (held unit kinds xs)) where
      pub stands-strong : IsStrong (2 * length kinds) (entry (held unit kinds ys))
      stands-strong = agree-strong (length kinds) (stood_entry (entry (held unit kinds xs)) q y c) (entry (held unit kinds ys)) stands-entries.entries
          (stood-strong (entry (held unit kinds xs)) (length kinds) q y c hy (closed-strong kinds xs h w))

      weights : q < length kinds → (y / 2 ≡ q → ⊥) → AreSoundWeights (equated (entry (held unit kinds xs)) q y c) (2 * length kinds) (entry (held unit kinds ys))
      weights hq n = equated-weights (held unit kinds xs) (held unit kinds ys) q y c hq hy n (closed-strong kinds xs h w) stands-entries

      pub stands-closes : (a : Closed) → q < length kinds → (y / 2 ≡ q → ⊥) → IsFinishOf kinds (entry (held unit kinds ys)) a → ClosesEquated (held unit kinds xs) q y c a
      stands-closes a hq n f u g = close-from_entries kinds (equated (entry (held unit kinds xs)) q y c) (held unit kinds ys) u a refl g (weights hq n) f

      pub stands-closed : (a : Closed) → q < length kinds → (y / 2 ≡ q → ⊥) → IsFinishOf kinds (entry (held unit kinds ys)) a → IsClosedAnswer a
      stands-closed a hq n f = finish-answer (equated (entry (held unit kinds xs)) q y c) (held unit kinds ys) a matrix (weights hq n) f

      -- what the last steps answer of it
      pub stands-outcome : (zs : List ℤ) (r : ClosingResult) → q < length kinds → (y / 2 ≡ q → ⊥) → TellsFinish unit kinds ys zs r → IsEquatedOutcome unit kinds xs zs q y c r
      stands-outcome zs OutcomeClosed hq n f = record {
        narrow = record { matrix = f.finish.entries.matrix; entries = f.entries };
        closes = stands-closes (wide.Matrix (held unit kinds zs)) hq n f.finish;
        closed = stands-closed (wide.Matrix (held unit kinds zs)) hq n f.finish;
      }
      stands-outcome zs OutcomeEmpty hq n f = stands-closes wide.Empty hq n f
      stands-outcome zs OutcomeTooWide hq n f = tt

  -- what closing answers of a matrix in which a slot stands for a node plus a number
  pub stood-closing : {W : Type 0} → (m n : HalfMatrix) (q y : ℕ) (c : ℤ) (a : Closing W) → HasEntries m.kinds (stood_entry (entry m) q y c) n → IsStrong (nodes n) (entry n) → IsClosing n a → IsClosingStood m q y c a
  stood-closing m n q y c Empty h s e = (n, (h, sym e))
  stood-closing m n q y c (Matrix r) h s e = ((n, (h, sym e)), subst IsClosedAnswer e (close_of-closed n h.matrix (zero-at_most (nodes n) (entry n) s.diagonal)))
  stood-closing m n q y c TooWide h s e = tt

  -- ---- what code writes

  pub stood-set : (row xs : List ℤ) (q y : ℕ) (k1 k2 k3 a b : ℤ) → 2 * q + 1 < length xs → a ≡ settle unit (k1 +ℤ at unit row y) → b ≡ settle unit (k2 +ℤ at unit row (flip y)) →
      ((j : ℕ) → j < 32 → at unit xs j ≡ settle unit (k3 +ℤ at unit row j)) → (j : ℕ) → j < 32 → at unit (slice_set (slice_set xs (2 * q) a) (2 * q + 1) b) j ≡ stood_at unit row q y k1 k2 k3 j
  stood-set row xs q y k1 k2 k3 a b l ea eb es j hj = elim (cases_eq j (2 * q)) [
    | inl e ↦ let n : j ≡ 2 * q + 1 → ⊥ = λ z. absurd (omega arith) in
        get_or-set_other (slice_set xs (2 * q) a) (2 * q + 1) j b (none unit) n ∙ ap (at unit (slice_set xs (2 * q) a)) e ∙ get_or-set_same xs (2 * q) a (none unit) (omega arith) ∙ ea ∙ sym (stood_at-first row q y k1 k2 k3 j e)
    | inr n ↦ elim (cases_eq j (2 * q + 1)) [
      | inl e ↦ ap (at unit (slice_set (slice_set xs (2 * q) a) (2 * q + 1) b)) e ∙ get_or-set_same (slice_set xs (2 * q) a) (2 * q + 1) b (none unit) (omega (arith, length-set xs (2 * q) a)) ∙ eb ∙ sym (stood_at-second row q y k1 k2 k3 j n e)
      | inr m ↦ get_or-set_other (slice_set xs (2 * q) a) (2 * q + 1) j b (none unit) m ∙ get_or-set_other xs (2 * q) j a (none unit) n ∙ es j hj ∙ sym (stood_at-others row q y k1 k2 k3 j n m)
    ]
  ]

  pub set-entries : (b : ℕ) (xs : List ℤ) (i : ℕ) (x : ℤ) → AreEntries unit b xs → IsEntry unit b x → AreEntries unit b (slice_set xs i x)
  set-entries b xs i x h p k = elim (cases_eq k i) [
    | inl e ↦ elim (cases_lt i (length xs)) [
      | inl l ↦ subst (IsEntry unit b) (sym (ap (at unit (slice_set xs i x)) e ∙ get_or-set_same xs i x (none unit) l)) p
      | inr l ↦ inl (get_or_past (slice_set xs i x) k (none unit) (omega (arith, length-set xs i x)))
    ]
    | inr n ↦ subst (IsEntry unit b) (sym (get_or-set_other xs i k x (none unit) n)) (h k)
  ]
