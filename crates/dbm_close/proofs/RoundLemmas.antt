-- What a round keeps, and what the rounds end with.
use Rattle.std.specs.Prelude.{[], ◌∷◌, ◌++◌, ◌≡◌, ℕ, ◌<◌, ◌≤◌, ◌+◌, ◌*◌, ◌^◌, ◌/◌, ℤ, pos, negsuc, ◌≤ℤ◌, neg_ℤ, Option, Some, None, cond, eqb, List, length, refl}
use Rattle.std.proofs.Common.{arith, ap, ◌∙◌, inl, inr, subst, sym, add-one}
use Rattle.std.proofs.Math.Nat.{pow-suc, pow-le-pow_right}
use Rattle.std.proofs.lemmas.Int.{ints}
use Rattle.std.proofs.lemmas.Bool.{cases_lt, cases_eq, eq-eqb, ne_eqb}
use Rattle.dbm_close.specs.Walks.{walk_end, walk_weight}
use Rattle.dbm_close.proofs.WalkLemmas.{IsWalk-path, walk_weight-path, path_weight-but_last, Below-but_last, but_last, AreLeastWalks, Below-more, IsLeastWalk, edges-least, least-mirrored, round-least, round_reached, path_weight}
use Rattle.dbm_close.specs.Rounds.{HasLeastWeights, IsDiagonalNegative, IsSlotNegative, IsSlotSound, round_entry, rounded, through}
use Rattle.dbm_close.specs.Walks.{Below, AreLeastWeights, HasNegativeWalk, HasNoNegativeWalk}
use Rattle.dbm_core.proofs.HalfLemmas.{entry-coherent, flip-kept}
use Rattle.dbm_core.proofs.NodeLemmas.{flip_below, flip-odd, parity}
use Rattle.dbm_core.proofs.WeightLemmas.{AtMost-both, AtMost-trans, least-cases}
use Rattle.dbm_core.specs.Half.{HalfMatrix, IsMatrix, entry, nodes, row_width}
use Rattle.dbm_core.specs.Limits.{IsZeroAtMost, AreWithin, IsWithin}
use Rattle.dbm_core.specs.Nodes.{IsCoherent, flip}
use Rattle.dbm_core.specs.Weights.{AtMost, add_weight}

pub IsWithin-more : (b c : ℕ) (a : Option ℤ) → b ≤ c → IsWithin b a → IsWithin c a
IsWithin-more b c None h p = tt
IsWithin-more b c (Some x) h p = let q : neg_ℤ (pos b) ≤ℤ x = p.0 in let r : x ≤ℤ pos b = p.1 in (omega (arith, ints), omega (arith, ints))

pub IsWithin-add : (b : ℕ) (a c : Option ℤ) → IsWithin b a → IsWithin b c → IsWithin (2 * b) (add_weight a c)
IsWithin-add b None c p q = tt
IsWithin-add b (Some x) None p q = tt
IsWithin-add b (Some x) (Some y) p q =
    let q1 : neg_ℤ (pos b) ≤ℤ x = p.0 in let r1 : x ≤ℤ pos b = p.1 in let q2 : neg_ℤ (pos b) ≤ℤ y = q.0 in let r2 : y ≤ℤ pos b = q.1 in
    (omega (arith, ints), omega (arith, ints))

pub through-within : (n b : ℕ) (d : ℕ → ℕ → Option ℤ) (k : ℕ) → k < n → AreWithin n b d → AreWithin n (2 * b) (through d k)
through-within n b d k kn h i j hi hj =
    least-cases (IsWithin (2 * b)) (d i j) (add_weight (d i k) (d k j))
    (IsWithin-more b (2 * b) (d i j) (omega arith) (h i j hi hj))
    (IsWithin-add b (d i k) (d k j) (h i k hi kn) (h k j kn hj))

pub rounded-within : (h b : ℕ) (d : ℕ → ℕ → Option ℤ) (q : ℕ) → q < h → AreWithin (2 * h) b d → AreWithin (2 * h) (2 * (2 * b)) (rounded d q)
rounded-within h b d q l p = through-within (2 * h) (2 * b) (through d (2 * q)) (2 * q + 1) (omega arith) (through-within (2 * h) b d (2 * q) (omega arith) p)

pub rounded-least : (w d : ℕ → ℕ → Option ℤ) (h q : ℕ) → q < h → AreLeastWalks w (2 * h) (2 * q) d → IsSlotSound d q → AreLeastWalks w (2 * h) (2 * (q + 1)) (rounded d q)
rounded-least w d h q l all s =
    let e : 2 * q + 1 + 1 ≡ 2 * (q + 1) = omega arith in
    subst (λ b. AreLeastWalks w (2 * h) b (rounded d q)) e
    (round-least w (through d (2 * q)) (2 * h) (2 * q + 1) (omega arith) s.1 (round-least w d (2 * h) (2 * q) (omega arith) s.0 all))

by_same : (P : Option ℤ → Type 0) (i j : ℕ) (x y : Option ℤ) → (i ≡ j → P x) → ((i ≡ j → ⊥) → P y) → P (cond (eqb i j) x y)
by_same P i j x y p q = elim (cases_eq i j) [ inl m ↦ rw (eq-eqb i j m) (p m) | inr m ↦ rw (ne_eqb i j m) (q m) ]

-- a coherent table that has the round's entries at the kept pairs has least weights at every pair
pub round_entry-least : (w d e : ℕ → ℕ → Option ℤ) (h q : ℕ) → q < h → IsCoherent w (2 * h) → IsCoherent e (2 * h) →
    AreLeastWalks w (2 * h) (2 * q) d → IsSlotSound d q →
    ((i j : ℕ) → i < 2 * h → j < row_width i → e i j ≡ round_entry d q i j) →
    AreLeastWalks w (2 * h) (2 * (q + 1)) e
round_entry-least w d e h q l cw ce all s kept i j hi hj = elim (cases_lt j (row_width i)) [
  | inl p ↦ at_kept i j hi hj p
  | inr p ↦ rw (ce i j hi hj) (least-mirrored w h (q + 1) cw (omega arith) i j hi hj (e (flip j) (flip i))
      (at_kept (flip j) (flip i) (flip_below j h hj) (flip_below i h hi) (flip-kept i j p)))
]
  where
    r : AreLeastWalks w (2 * h) (2 * (q + 1)) (rounded d q)
    r = rounded-least w d h q l all s

    at_diagonal : (i : ℕ) → i < 2 * h → IsLeastWalk w (2 * (q + 1)) i i (rounded d q (2 * (i / 2)) (2 * (i / 2)))
    at_diagonal i hi = elim (parity i) [
      | inl p ↦ let k : 2 * (i / 2) ≡ i = omega arith in
          rw k (r i i hi hi)
      | inr p ↦ let k : 2 * (i / 2) ≡ flip i = omega (arith, flip-odd i p) in
          rw k (least-mirrored w h (q + 1) cw (omega arith) i i hi hi (rounded d q (flip i) (flip i)) (r (flip i) (flip i) (flip_below i h hi) (flip_below i h hi)))
    ]

    at_kept : (i j : ℕ) → i < 2 * h → j < 2 * h → j < row_width i → IsLeastWalk w (2 * (q + 1)) i j (e i j)
    at_kept i j hi hj p = rw (kept i j hi p) (by_same (IsLeastWalk w (2 * (q + 1)) i j) i j (rounded d q (2 * (i / 2)) (2 * (i / 2))) (rounded d q i j)
        (λ m. subst (λ k. IsLeastWalk w (2 * (q + 1)) i k (rounded d q (2 * (i / 2)) (2 * (i / 2)))) m (at_diagonal i hi))
        (λ m. r i j hi hj))

-- least over the inner nodes is least over all walks, where no edge from a node to itself weighs more than 0
pub weights-from_walks : (w s : ℕ → ℕ → Option ℤ) (n : ℕ) → IsZeroAtMost n w → AreLeastWalks w n n s → AreLeastWeights w n s
weights-from_walks w s n z all = record {
  walks = λ i j x hi hj e. (let p : IsLeastWalk w n i j (s i j) = all i j hi hj in (
    p.reached.0 ++ (j ∷ []),
    IsWalk-path n i p.reached.0 j hj p.reached.1,
    walk_weight-path w i p.reached.0 j ∙ AtMost-both (path_weight w i p.reached.0 j) (s i j) p.reached.2 (p.lower p.reached.0 p.reached.1) ∙ e,
  ));
  lower = λ i j xs hi hj b. at_most i j xs hi hj b.inside b.ends;
}
  where
    at_most : (i j : ℕ) (xs : List ℕ) → i < n → j < n → Below n xs → walk_end i xs ≡ j → AtMost (s i j) (walk_weight w i xs)
    at_most i j [] hi hj b e = subst (λ k. AtMost (s i k) (Some (pos 0))) e (AtMost-trans (s i i) (w i i) (Some (pos 0)) ((all i i hi hi).lower [] tt) (z i hi))
    at_most i j (x ∷ xs) hi hj b e = subst (λ v. AtMost (s i j) v) (path_weight-but_last w i x xs)
        (subst (λ k. AtMost (s i j) (path_weight w i (but_last x xs) k)) (sym e) ((all i j hi hj).lower (but_last x xs) (Below-but_last n x xs b)))

pub sound-from_diagonal : (w s : ℕ → ℕ → Option ℤ) (n : ℕ) → AreLeastWeights w n s → ((i : ℕ) → i < n → AtMost (Some (pos 0)) (s i i)) → HasNoNegativeWalk w n
sound-from_diagonal w s n h zero = λ i xs hi b. AtMost-trans (Some (pos 0)) (s i i) (walk_weight w i xs) (zero i hi) (h.lower i i xs hi hi b)

pub negative-path : (w : ℕ → ℕ → Option ℤ) (n i : ℕ) (xs : List ℕ) → i < n → Below n xs → AtMost (path_weight w i xs i) (Some (negsuc 0)) → HasNegativeWalk w n
negative-path w n i xs hi b z = (
  i,
  hi,
  (
    xs ++ (i ∷ []),
    IsWalk-path n i xs i hi b,
    subst (λ v. AtMost v (Some (negsuc 0))) (sym (walk_weight-path w i xs i)) z,
  ),
)

pub negative-from_entry : (w s : ℕ → ℕ → Option ℤ) (n b i : ℕ) → b ≤ n → i < n → IsLeastWalk w b i i (s i i) → AtMost (s i i) (Some (negsuc 0)) → HasNegativeWalk w n
negative-from_entry w s n b i l hi p z = negative-path w n i p.reached.0 hi (Below-more b n p.reached.0 l p.reached.1)
    (AtMost-trans (path_weight w i p.reached.0 i) (s i i) (Some (negsuc 0)) p.reached.2 z)

pub negative-from_slot : (w d : ℕ → ℕ → Option ℤ) (h q : ℕ) → q < h → AreLeastWalks w (2 * h) (2 * q) d → IsSlotNegative d q → HasNegativeWalk w (2 * h)
negative-from_slot w d h q l all (inl z) = negative-from_entry w d (2 * h) (2 * q) (2 * q) (omega arith) (omega arith) (all (2 * q) (2 * q) (omega arith) (omega arith)) z
negative-from_slot w d h q l all (inr z) =
    let k : 2 * q < 2 * h = omega arith in
    let m : 2 * q + 1 < 2 * h = omega arith in
    let r : (xs : List ℕ) × Below (2 * q + 1) xs × AtMost (path_weight w (2 * q + 1) xs (2 * q + 1)) (through d (2 * q) (2 * q + 1) (2 * q + 1)) =
    round_reached w d (2 * q) (2 * q + 1) (2 * q + 1) (all (2 * q + 1) (2 * q + 1) m m) (all (2 * q + 1) (2 * q) m k) (all (2 * q) (2 * q + 1) k m) in
    negative-path w (2 * h) (2 * q + 1) r.0 m (Below-more (2 * q + 1) (2 * h) r.0 (omega arith) r.1)
    (AtMost-trans (path_weight w (2 * q + 1) r.0 (2 * q + 1)) (through d (2 * q) (2 * q + 1) (2 * q + 1)) (Some (negsuc 0)) r.2 z)

pub round_entry-within : (d e : ℕ → ℕ → Option ℤ) (h q b : ℕ) → q < h → IsCoherent e (2 * h) → AreWithin (2 * h) b d →
    ((i j : ℕ) → i < 2 * h → j < row_width i → e i j ≡ round_entry d q i j) → AreWithin (2 * h) (2 * (2 * b)) e
round_entry-within d e h q b l ce p kept i j hi hj = elim (cases_lt j (row_width i)) [
  | inl w ↦ at_kept i j hi hj w
  | inr w ↦ rw (ce i j hi hj) (at_kept (flip j) (flip i) (flip_below j h hj) (flip_below i h hi) (flip-kept i j w))
]
  where
    at_kept : (i j : ℕ) → i < 2 * h → j < 2 * h → j < row_width i → IsWithin (2 * (2 * b)) (e i j)
    at_kept i j hi hj w = rw (kept i j hi w) (by_same (IsWithin (2 * (2 * b))) i j (rounded d q (2 * (i / 2)) (2 * (i / 2))) (rounded d q i j)
        (λ m. rounded-within h b d q l p (2 * (i / 2)) (2 * (i / 2)) (omega arith) (omega arith))
        (λ m. rounded-within h b d q l p i j hi hj))

-- before round q
abbrev pub round_bound : ℕ → ℕ
round_bound q = 2 ^ 70 * 4 ^ q

pub round_bound-next : (q : ℕ) → 2 * (2 * round_bound q) ≡ round_bound (q + 1)
round_bound-next q = omega (arith, ap (λ k. 4 ^ k) (add-one q) ∙ pow-suc 4 q)

pub round_bound-room : (q : ℕ) → q ≤ 16 → round_bound q ≤ 2 ^ 102
round_bound-room q l = let p : 4 ^ q ≤ 4 ^ 16 = pow-le-pow_right four l in omega arith
  where
    four : 0 < 4
    four = omega arith

pub AreWithin-more : (n b c : ℕ) (d : ℕ → ℕ → Option ℤ) → b ≤ c → AreWithin n b d → AreWithin n c d
AreWithin-more n b c d l h i j hi hj = IsWithin-more b c (d i j) l (h i j hi hj)

-- after the rounds for the slots below q
pub record IsRounded (m s : HalfMatrix) (q : ℕ) : Type 0 where
  pub matrix : IsMatrix s
  pub same_kinds : s.kinds ≡ m.kinds
  pub walks : AreLeastWalks (entry m) (nodes m) (2 * q) (entry s)
  pub within : AreWithin (nodes m) (round_bound q) (entry s)

pub IsRounded-first : (m : HalfMatrix) → IsMatrix m → AreWithin (nodes m) (2 ^ 70) (entry m) → IsRounded m m 0
IsRounded-first m t h = record { matrix = t; same_kinds = refl; walks = edges-least (entry m) (nodes m); within = h }

pub IsRounded-next : (m s t : HalfMatrix) (q : ℕ) → q < length m.kinds → IsMatrix m → IsRounded m s q → IsMatrix t → t.kinds ≡ m.kinds → IsSlotSound (entry s) q →
    ((i j : ℕ) → i < nodes m → j < row_width i → entry t i j ≡ round_entry (entry s) q i j) → IsRounded m t (q + 1)
IsRounded-next m s t q l im p it e z kept =
    let ct : IsCoherent (entry t) (nodes m) = subst (λ k. IsCoherent (entry t) (2 * length k)) e (entry-coherent t it) in
    record {
      matrix = it;
      same_kinds = e;
      walks = round_entry-least (entry m) (entry s) (entry t) (length m.kinds) q l (entry-coherent m im) ct p.walks z kept;
      within = subst (λ b. AreWithin (nodes m) b (entry t)) (round_bound-next q) (round_entry-within (entry s) (entry t) (length m.kinds) q (round_bound q) l ct p.within kept);
    }

pub HasLeastWeights-last : (m s : HalfMatrix) → IsZeroAtMost (nodes m) (entry m) → length m.kinds ≤ 16 → IsRounded m s (length m.kinds) → ((i : ℕ) → i < nodes m → AtMost (Some (pos 0)) (entry s i i)) → HasLeastWeights m s
HasLeastWeights-last m s d l p z = record {
  matrix = p.matrix;
  same_kinds = p.same_kinds;
  weights = weights-from_walks (entry m) (entry s) (nodes m) d p.walks;
  sound = sound-from_diagonal (entry m) (entry s) (nodes m) (weights-from_walks (entry m) (entry s) (nodes m) d p.walks) z;
  within = AreWithin-more (nodes m) (round_bound (length m.kinds)) (2 ^ 102) (entry s) (round_bound-room (length m.kinds) l) p.within;
}

pub negative-from_diagonal : (m s : HalfMatrix) → IsRounded m s (length m.kinds) → IsDiagonalNegative (nodes m) (entry s) → HasNegativeWalk (entry m) (nodes m)
negative-from_diagonal m s p z = negative-from_entry (entry m) (entry s) (nodes m) (nodes m) z.0 (omega arith) z.1.0 (p.walks z.0 z.0 z.1.0 z.1.0) z.1.1

pub IsRounded-room : (m s : HalfMatrix) (q : ℕ) → IsRounded m s q → q ≤ 16 → AreWithin (nodes s) (2 ^ 102) (entry s)
IsRounded-room m s q p l i j hi hj =
    let e : length s.kinds ≡ length m.kinds = ap length p.same_kinds in
    AreWithin-more (nodes m) (round_bound q) (2 ^ 102) (entry s) (round_bound-room q l) p.within i j (omega arith) (omega arith)

pub negative-from_rounded : (m s : HalfMatrix) (q : ℕ) → q < length m.kinds → IsRounded m s q → IsSlotNegative (entry s) q → HasNegativeWalk (entry m) (nodes m)
negative-from_rounded m s q l p z = negative-from_slot (entry m) (entry s) (length m.kinds) q l p.walks z
