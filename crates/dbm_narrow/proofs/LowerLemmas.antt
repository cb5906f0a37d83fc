-- A bound lowered in narrow entries is lowered in the matrix that they stand for.
use Rattle.std.specs.Prelude.{◌≡◌, ℕ, ◌<◌, ◌+◌, ◌*◌, ℤ, pos, negsuc, neg_ℤ, ◌≤ℤ◌, ◌+ℤ◌, Some, Bool, List, length, map, refl}
use Rattle.std.specs.Int.{int_min}
use Rattle.std.proofs.Common.{arith, ap, sym, subst, ◌∙◌, inr}
use Rattle.std.proofs.lemmas.Int.{ints}
use Rattle.std.proofs.lemmas.List.{length-map}
use Rattle.dbm_core.proofs.HalfLemmas.{HasEntries-from_kept, entry-coherent}
use Rattle.dbm_core.proofs.LowerLemmas.{lowered-coherent}
use Rattle.dbm_core.proofs.NodeLemmas.{flip-flip, flip_below}
use Rattle.dbm_core.proofs.WeightLemmas.{add_weight-comm}
use Rattle.dbm_core.specs.Half.{HasEntries, IsMatrix, entry, row_start, row_width}
use Rattle.dbm_core.specs.Limits.{HasZeroDiagonal}
use Rattle.dbm_core.specs.Nodes.{IsCoherent, flip}
use Rattle.dbm_core.specs.Operations.{lowered}
use Rattle.dbm_core.specs.Weights.{AtMost, add_weight, least}
use Rattle.dbm_incremental.proofs.LawLemmas.{closed_limited}
use Rattle.dbm_incremental.specs.ClosedMatrices.{IsClosed, IsWhole}
use Rattle.dbm_incremental.proofs.EndsLemmas.{over_both-inserted, same-sound}
use Rattle.dbm_incremental.proofs.InsertLemmas.{inserted-weights, kept-weights, negative-first, negative-second, weights-coherent}
use Rattle.dbm_incremental.proofs.TriangleLemmas.{own-weights, triangles-from_weights, weights-diagonal}
use Rattle.dbm_incremental.specs.declared.ends.Ends.{Ends}
use Rattle.dbm_incremental.specs.Ends.{HasEnds}
use Rattle.dbm_incremental.specs.Triangles.{AreSoundWeights, IsTriangular, edged, inserted}
use Rattle.dbm_narrow.proofs.EntryLemmas.{held-entry, min-entry, entry-more, pair-is_entry, settle-sum, wide-at, wide-bound, wide-min, wide-settle, wide-sum}
use Rattle.dbm_narrow.proofs.MiddleLemmas.{middle-via, to_node}
use Rattle.dbm_narrow.specs.declared.middle.Middle.{Middle}
use Rattle.dbm_narrow.specs.Entries.{AreEntries, IsEntry, at, held, pair_at, settle, wide}
use Rattle.dbm_narrow.specs.Lowerings.{AreEnds, HasOwnWeights, LowersNegative, LowersTo}
use Rattle.dbm_narrow.specs.Middles.{IsNarrowMiddle, through_middle}
use Rattle.dbm_narrow.specs.Rounds.{IsNarrow}

module _ (unit : ℕ) (room : 0 < unit) where
  -- the bounds that the entries stand for
  abbrev pub wide_ends : {W : Type 0} → Middle W → Ends
  wide_ends m = record { to_first = map (wide unit) m.to_first; from_first = map (wide unit) m.from_first; to_second = map (wide unit) m.to_second; from_second = map (wide unit) m.from_second }

  pub wide-at_most : (x c : ℤ) → x ≤ℤ c → c ≤ℤ pos (2 * unit) → AtMost (wide unit x) (Some c)
  wide-at_most x c h l = subst (λ a. AtMost a (Some c)) (sym (wide-bound unit room x (omega (arith, ints)))) h

  module _ (kinds : List Bool) (xs : List ℤ) (i j : ℕ) (c : ℤ) (t : IsNarrow unit kinds xs) (hi : i < 2 * length kinds) (hj : j < 2 * length kinds) (lo : neg_ℤ (pos (2 * unit)) ≤ℤ c) (up : c ≤ℤ pos (2 * unit)) where
    step : IsEntry unit (2 * unit) c
    step = inr (lo, up)

    small : (x y : ℕ) → IsEntry unit (2 * unit) (pair_at unit xs x y)
    small x y = pair-is_entry unit room (2 * unit) xs x y t.entries

    wide_step : wide unit c ≡ Some c
    wide_step = wide-bound unit room c (omega (arith, ints))

    module _ {W : Type 0} (m : Middle W) (p : AreEnds unit (2 * length kinds) xs i j c m) where
      to_first : (x : ℕ) → x < 2 * length kinds → wide unit (at unit m.to_first x) ≡ entry (held unit kinds xs) x i
      to_first x hx = ap (wide unit) (p.to_first x hx) ∙ to_node unit room kinds xs t.matrix x i hx hi

      to_first_entry : (x : ℕ) → x < 2 * length kinds → IsEntry unit (2 * unit) (at unit m.to_first x)
      to_first_entry x hx = subst (IsEntry unit (2 * unit)) (sym (p.to_first x hx)) (small (flip i) (flip x))

      from_first : (x : ℕ) → x < 2 * length kinds → wide unit (at unit m.from_first x) ≡ add_weight (Some c) (entry (held unit kinds xs) j x)
      from_first x hx = ap (wide unit) (p.from_first x hx) ∙ wide-settle unit room (c +ℤ pair_at unit xs j x)
          ∙ wide-sum unit room (2 * unit) (2 * unit) c (pair_at unit xs j x) (omega arith) step (small j x)
          ∙ ap (λ a. add_weight a (wide unit (pair_at unit xs j x))) wide_step
          ∙ ap (add_weight (Some c)) (sym (held-entry unit room kinds xs j x))

      from_first_entry : (x : ℕ) → x < 2 * length kinds → IsEntry unit (4 * unit) (at unit m.from_first x)
      from_first_entry x hx = subst (IsEntry unit (4 * unit)) (sym (p.from_first x hx))
          (entry-more unit room (2 * unit + 2 * unit) (4 * unit) (settle unit (c +ℤ pair_at unit xs j x)) (omega arith) (settle-sum unit room (2 * unit) (2 * unit) c (pair_at unit xs j x) (omega arith) step (small j x)))

      direct : (x : ℕ) → x < 2 * length kinds → wide unit (pair_at unit xs j (flip x)) ≡ entry (held unit kinds xs) x (flip j)
      direct x hx = ap (λ k. wide unit (pair_at unit xs k (flip x))) (sym (flip-flip j)) ∙ to_node unit room kinds xs t.matrix x (flip j) hx (flip_below j (length kinds) hj)

      to_second : (x : ℕ) → x < 2 * length kinds → wide unit (at unit m.to_second x) ≡ edged (entry (held unit kinds xs)) i j c x (flip j)
      to_second x hx =
          let hf : flip j < 2 * length kinds = flip_below j (length kinds) hj in
          ap (wide unit) (p.to_second x hx)
          ∙ wide-min unit room (pair_at unit xs j (flip x)) (settle unit (at unit m.from_first (flip j) +ℤ at unit m.to_first x))
          ∙ ap (λ a. least a (wide unit (settle unit (at unit m.from_first (flip j) +ℤ at unit m.to_first x)))) (direct x hx)
          ∙ ap (least (entry (held unit kinds xs) x (flip j))) (wide-settle unit room (at unit m.from_first (flip j) +ℤ at unit m.to_first x)
          ∙ wide-sum unit room (4 * unit) (2 * unit) (at unit m.from_first (flip j)) (at unit m.to_first x) (omega arith) (from_first_entry (flip j) hf) (to_first_entry x hx)
          ∙ ap (λ a. add_weight a (wide unit (at unit m.to_first x))) (from_first (flip j) hf)
          ∙ ap (add_weight (add_weight (Some c) (entry (held unit kinds xs) j (flip j)))) (to_first x hx)
          ∙ add_weight-comm (add_weight (Some c) (entry (held unit kinds xs) j (flip j))) (entry (held unit kinds xs) x i))

      over_entry : (x : ℕ) → x < 2 * length kinds → IsEntry unit (6 * unit) (int_min (pair_at unit xs (flip i) x) (settle unit (pair_at unit xs (flip i) i +ℤ at unit m.from_first x)))
      over_entry x hx = min-entry unit room (6 * unit) (pair_at unit xs (flip i) x) (settle unit (pair_at unit xs (flip i) i +ℤ at unit m.from_first x))
          (entry-more unit room (2 * unit) (6 * unit) (pair_at unit xs (flip i) x) (omega arith) (small (flip i) x))
          (entry-more unit room (2 * unit + 4 * unit) (6 * unit) (settle unit (pair_at unit xs (flip i) i +ℤ at unit m.from_first x)) (omega arith)
          (settle-sum unit room (2 * unit) (4 * unit) (pair_at unit xs (flip i) i) (at unit m.from_first x) (omega arith) (small (flip i) i) (from_first_entry x hx)))

      from_second : (x : ℕ) → x < 2 * length kinds → wide unit (at unit m.from_second x) ≡ add_weight (Some c) (edged (entry (held unit kinds xs)) i j c (flip i) x)
      from_second x hx =
          ap (wide unit) (p.from_second x hx)
          ∙ wide-settle unit room (c +ℤ int_min (pair_at unit xs (flip i) x) (settle unit (pair_at unit xs (flip i) i +ℤ at unit m.from_first x)))
          ∙ wide-sum unit room (2 * unit) (6 * unit) c (int_min (pair_at unit xs (flip i) x) (settle unit (pair_at unit xs (flip i) i +ℤ at unit m.from_first x))) (omega arith) step (over_entry x hx)
          ∙ ap (λ a. add_weight a (wide unit (int_min (pair_at unit xs (flip i) x) (settle unit (pair_at unit xs (flip i) i +ℤ at unit m.from_first x))))) wide_step
          ∙ ap (add_weight (Some c)) (wide-min unit room (pair_at unit xs (flip i) x) (settle unit (pair_at unit xs (flip i) i +ℤ at unit m.from_first x))
          ∙ ap (λ a. least a (wide unit (settle unit (pair_at unit xs (flip i) i +ℤ at unit m.from_first x)))) (sym (held-entry unit room kinds xs (flip i) x))
          ∙ ap (least (entry (held unit kinds xs) (flip i) x)) (wide-settle unit room (pair_at unit xs (flip i) i +ℤ at unit m.from_first x)
          ∙ wide-sum unit room (2 * unit) (4 * unit) (pair_at unit xs (flip i) i) (at unit m.from_first x) (omega arith) (small (flip i) i) (from_first_entry x hx)
          ∙ ap (λ a. add_weight a (wide unit (at unit m.from_first x))) (sym (held-entry unit room kinds xs (flip i) i))
          ∙ ap (add_weight (entry (held unit kinds xs) (flip i) i)) (from_first x hx)))

      pub has_ends : HasEnds (2 * length kinds) (entry (held unit kinds xs)) i j c (wide_ends m)
      has_ends = record {
        to_first = λ x hx. wide-at unit room m.to_first x ∙ to_first x hx;
        from_first = λ x hx. wide-at unit room m.from_first x ∙ from_first x hx;
        to_second = λ x hx. wide-at unit room m.to_second x ∙ to_second x hx;
        from_second = λ x hx. wide-at unit room m.from_second x ∙ from_second x hx;
      }

      -- what the first two tests read
      pub first-sum : wide unit (at unit m.from_first i) ≡ add_weight (Some c) (entry (held unit kinds xs) j i)
      first-sum = from_first i hi

      pub second-sum : wide unit (at unit m.from_second (flip j)) ≡ add_weight (Some c) (edged (entry (held unit kinds xs)) i j c (flip i) (flip j))
      second-sum = from_second (flip j) (flip_below j (length kinds) hj)

    pub lowers-kept : HasOwnWeights unit kinds xs → pair_at unit xs i j ≤ℤ c → LowersTo unit kinds xs xs i j c
    lowers-kept o h = record {
      narrow = t;
      own = o;
      weights = λ w k s. kept-weights w (entry (held unit kinds xs)) (length kinds) i j c k hi hj s (subst (λ a. AtMost a (Some c)) (sym (held-entry unit room kinds xs i j)) (wide-at_most (pair_at unit xs i j) c h up));
    }

    pub lowers-first : AtMost (add_weight (Some c) (entry (held unit kinds xs) j i)) (Some (negsuc 0)) → LowersNegative unit kinds xs i j c
    lowers-first z w k s = negative-first w (entry (held unit kinds xs)) (2 * length kinds) i j c hi hj s.weights z

    pub lowers-second : AtMost (add_weight (Some c) (edged (entry (held unit kinds xs)) i j c (flip i) (flip j))) (Some (negsuc 0)) → LowersNegative unit kinds xs i j c
    lowers-second z w k s = negative-second w (entry (held unit kinds xs)) (length kinds) i j c hi hj s.weights z

    module _ (ys : List ℤ) (o : HasOwnWeights unit kinds xs) (size : length ys ≡ length xs) (all : AreEntries unit (2 * unit) ys)
        (y : AtMost (Some (pos 0)) (add_weight (Some c) (entry (held unit kinds xs) j i))) (z : AtMost (Some (pos 0)) (add_weight (Some c) (edged (entry (held unit kinds xs)) i j c (flip i) (flip j))))
        (kept : (a b : ℕ) → a < 2 * length kinds → b < row_width a → entry (held unit kinds ys) a b ≡ inserted (entry (held unit kinds xs)) i j c a b) where
      sound : AreSoundWeights (lowered (entry (held unit kinds xs)) i j c) (2 * length kinds) (inserted (entry (held unit kinds xs)) i j c)
      sound = inserted-weights (entry (held unit kinds xs)) (entry (held unit kinds xs)) (length kinds) i j c hi hj (own-weights (entry (held unit kinds xs)) (2 * length kinds) o.diagonal o.triangles) y z

      zero : HasZeroDiagonal (2 * length kinds) (inserted (entry (held unit kinds xs)) i j c)
      zero = weights-diagonal (lowered (entry (held unit kinds xs)) i j c) (inserted (entry (held unit kinds xs)) i j c) (2 * length kinds) sound

      coherent : IsCoherent (inserted (entry (held unit kinds xs)) i j c) (2 * length kinds)
      coherent = weights-coherent (lowered (entry (held unit kinds xs)) i j c) (inserted (entry (held unit kinds xs)) i j c) (length kinds)
          (lowered-coherent (entry (held unit kinds xs)) (2 * length kinds) i j c (entry-coherent (held unit kinds xs) t.matrix)) sound.weights

      matrix : IsMatrix (held unit kinds ys)
      matrix = record {
        few = t.matrix.few;
        fits = length-map ys (wide unit) ∙ size ∙ sym (length-map xs (wide unit)) ∙ t.matrix.fits;
        diagonal = λ h l.
            let a : 2 * h < 2 * length kinds = omega arith in
            let b : 2 * h + 1 < 2 * length kinds = omega arith in
            kept (2 * h) (2 * h) a (omega arith) ∙ zero (2 * h) a ∙ sym (zero (2 * h + 1) b) ∙ sym (kept (2 * h + 1) (2 * h + 1) b (omega arith));
      }

      entries : HasEntries kinds (inserted (entry (held unit kinds xs)) i j c) (held unit kinds ys)
      entries = HasEntries-from_kept kinds (inserted (entry (held unit kinds xs)) i j c) (held unit kinds ys) matrix refl coherent kept

      triangles : IsTriangular (2 * length kinds) (entry (held unit kinds ys))
      triangles = triangles-from_weights (lowered (entry (held unit kinds xs)) i j c) (entry (held unit kinds ys)) (2 * length kinds)
          (same-sound (lowered (entry (held unit kinds xs)) i j c) (inserted (entry (held unit kinds xs)) i j c) (entry (held unit kinds ys)) (2 * length kinds) entries.entries sound).weights

      pub lowers-to : LowersTo unit kinds xs ys i j c
      lowers-to = record {
        narrow = record { matrix = matrix; entries = all };
        own = record { diagonal = λ a ha. entries.entries a a ha ha ∙ zero a ha; triangles = triangles };
        weights = λ w k s. same-sound (lowered w i j c) (inserted (entry (held unit kinds xs)) i j c) (entry (held unit kinds ys)) (2 * length kinds) entries.entries
            (inserted-weights w (entry (held unit kinds xs)) (length kinds) i j c hi hj s y z);
      }

  -- an entry that goes over the ends stands for the bound with the edge inserted
  pub ends-inserted : {W : Type 0} → (kinds : List Bool) (xs ys : List ℤ) (i j : ℕ) (c : ℤ) (m : Middle W) → HasEnds (2 * length kinds) (entry (held unit kinds xs)) i j c (wide_ends m) → IsNarrowMiddle unit m →
      (a b : ℕ) → a < 2 * length kinds → b < row_width a → at unit ys (row_start a + b) ≡ through_middle unit m a b (at unit xs (row_start a + b)) →
      entry (held unit kinds ys) a b ≡ inserted (entry (held unit kinds xs)) i j c a b
  ends-inserted kinds xs ys i j c m h s a b ha w e =
      let hb : b < 2 * length kinds = omega arith in
      middle-via unit room kinds xs ys m s a b w e ∙ over_both-inserted (2 * length kinds) (entry (held unit kinds xs)) i j c (wide_ends m) h a b ha hb

  -- closed entries that obey the triangle law are the least weights of their own walks
  pub closed-own : (kinds : List Bool) (xs : List ℤ) → IsClosed (held unit kinds xs) → IsWhole (held unit kinds xs) → HasOwnWeights unit kinds xs
  closed-own kinds xs h w = record { diagonal = (closed_limited (held unit kinds xs) h).diagonal; triangles = w }
