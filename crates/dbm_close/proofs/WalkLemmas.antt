use Rattle.std.proofs.lemmas.Int.{ints}
use Rattle.std.specs.Prelude.{◌+ℤ◌, None, ◌≡◌, ℕ, ◌<◌, ◌≤◌, ◌+◌, ◌*◌, ℤ, pos, Option, Some, ◌⊎◌, List, [], ◌∷◌, ◌++◌, refl}
use Rattle.std.proofs.Common.{arith, ap, sym, ◌∙◌, inl, inr}
use Rattle.std.proofs.lemmas.Bool.{cases_lt}
use Rattle.dbm_close.specs.Rounds.{through}
use Rattle.dbm_core.proofs.NodeLemmas.{flip_below, flip-flip}
use Rattle.dbm_core.proofs.WeightLemmas.{AtMost-refl, AtMost-trans, add_weight-assoc, add_weight-comm, add_weight-from_zero, add_weight-mono, least-cases, least-left, least-right}
use Rattle.dbm_core.specs.Nodes.{IsCoherent, flip}
use Rattle.dbm_close.specs.Walks.{Below, walk_end, walk_weight, IsWalk}
use Rattle.dbm_core.specs.Weights.{AtMost, add_weight}

-- what the walk from i over the inner nodes xs to j weighs; it has one edge or more
abbrev pub path_weight : (ℕ → ℕ → Option ℤ) → ℕ → List ℕ → ℕ → Option ℤ
path_weight w i [] j = w i j
path_weight w i (x ∷ xs) j = add_weight (w i x) (path_weight w x xs j)

-- v is the least weight of the walks from i to j whose inner nodes are below b
pub record IsLeastWalk (w : ℕ → ℕ → Option ℤ) (b i j : ℕ) (v : Option ℤ) : Type 0 where
  pub reached : (xs : List ℕ) × Below b xs × AtMost (path_weight w i xs j) v
  pub lower : (xs : List ℕ) → Below b xs → AtMost v (path_weight w i xs j)

-- d has the least weights at every pair of the n nodes
abbrev pub AreLeastWalks : (ℕ → ℕ → Option ℤ) → ℕ → ℕ → (ℕ → ℕ → Option ℤ) → Type 0
AreLeastWalks w n b d = (i j : ℕ) → i < n → j < n → IsLeastWalk w b i j (d i j)

pub Below-append : (b : ℕ) (xs ys : List ℕ) → Below b xs → Below b ys → Below b (xs ++ ys)
Below-append b [] ys p q = q
Below-append b (x ∷ xs) ys p q = (p.0, Below-append b xs ys p.1 q)

pub Below-more : (b c : ℕ) (xs : List ℕ) → b ≤ c → Below b xs → Below c xs
Below-more b c [] h p = tt
Below-more b c (x ∷ xs) h p = (let q : x < b = p.0 in omega arith, Below-more b c xs h p.1)

pub path_weight-append : (w : ℕ → ℕ → Option ℤ) (i : ℕ) (xs : List ℕ) (k : ℕ) (ys : List ℕ) (j : ℕ) → path_weight w i (xs ++ (k ∷ ys)) j ≡ add_weight (path_weight w i xs k) (path_weight w k ys j)
path_weight-append w i [] k ys j = refl
path_weight-append w i (x ∷ xs) k ys j =
    ap (add_weight (w i x)) (path_weight-append w x xs k ys j) ∙ sym (add_weight-assoc (w i x) (path_weight w x xs k) (path_weight w k ys j))

-- the edges alone are least where no inner node is allowed
pub edges-least : (w : ℕ → ℕ → Option ℤ) (n : ℕ) → AreLeastWalks w n 0 w
edges-least w n i j p q = record {
  reached = ([], tt, AtMost-refl (w i j));
  lower = edges-lower w i j;
}
  where
    edges-lower : (w : ℕ → ℕ → Option ℤ) (i j : ℕ) (xs : List ℕ) → Below 0 xs → AtMost (w i j) (path_weight w i xs j)
    edges-lower w i j [] h = AtMost-refl (w i j)
    edges-lower w i j (x ∷ xs) h = let q : x < 0 = h.0 in absurd (omega arith)

-- an edge before a least walk
edge_front : (w d : ℕ → ℕ → Option ℤ) (b i x j : ℕ) → x < b → IsLeastWalk w b i j (d i j) → IsLeastWalk w b x j (d x j) → AtMost (d i j) (add_weight (w i x) (d x j))
edge_front w d b i x j h p q =
    AtMost-trans (d i j) (add_weight (w i x) (path_weight w x q.reached.0 j)) (add_weight (w i x) (d x j))
    (p.lower (x ∷ q.reached.0) (h, q.reached.1))
    (add_weight-mono (w i x) (w i x) (path_weight w x q.reached.0 j) (d x j) (AtMost-refl (w i x)) q.reached.2)

-- the same, after the round at k, for the nodes up to k
round_front : (w d : ℕ → ℕ → Option ℤ) (n k : ℕ) → k < n → AreLeastWalks w n k d → AtMost (Some (pos 0)) (d k k) →
    (i x j : ℕ) → i < n → j < n → (x < k) ⊎ (x ≡ k) → AtMost (through d k i j) (add_weight (w i x) (through d k x j))
round_front w d n k kn all zero i x j hi hj (inl h) =
    let xn : x < n = omega arith in
    least-cases (λ v. AtMost (through d k i j) (add_weight (w i x) v)) (d x j) (add_weight (d x k) (d k j))
    (AtMost-trans (through d k i j) (d i j) (add_weight (w i x) (d x j))
    (least-left (d i j) (add_weight (d i k) (d k j)))
    (edge_front w d k i x j h (all i j hi hj) (all x j xn hj)))
    (rw (← add_weight-assoc (w i x) (d x k) (d k j))
    (AtMost-trans (through d k i j) (add_weight (d i k) (d k j)) (add_weight (add_weight (w i x) (d x k)) (d k j))
    (least-right (d i j) (add_weight (d i k) (d k j)))
    (add_weight-mono (d i k) (add_weight (w i x) (d x k)) (d k j) (d k j)
    (edge_front w d k i x k h (all i k hi kn) (all x k xn kn))
    (AtMost-refl (d k j)))))
round_front w d n k kn all zero i x j hi hj (inr e) =
    rw e (least-cases (λ v. AtMost (through d k i j) (add_weight (w i k) v)) (d k j) (add_weight (d k k) (d k j))
    (direct (d k j) (AtMost-refl (d k j)))
    (direct (add_weight (d k k) (d k j)) (add_weight-from_zero (d k k) (d k j) zero)))
  where
    direct : (v : Option ℤ) → AtMost (d k j) v → AtMost (through d k i j) (add_weight (w i k) v)
    direct v h =
        AtMost-trans (through d k i j) (add_weight (d i k) (d k j)) (add_weight (w i k) v)
        (least-right (d i j) (add_weight (d i k) (d k j)))
        (add_weight-mono (d i k) (w i k) (d k j) v ((all i k hi kn).lower [] tt) h)

up_to : (x k : ℕ) → (x < k) ⊎ (k ≤ x) → x < k + 1 → (x < k) ⊎ (x ≡ k)
up_to x k (inl p) h = inl p
up_to x k (inr p) h = inr (omega arith)

round_lower : (w d : ℕ → ℕ → Option ℤ) (n k : ℕ) → k < n → AreLeastWalks w n k d → AtMost (Some (pos 0)) (d k k) →
    (i j : ℕ) → i < n → j < n → (xs : List ℕ) → Below (k + 1) xs → AtMost (through d k i j) (path_weight w i xs j)
round_lower w d n k kn all zero i j hi hj [] h =
    AtMost-trans (through d k i j) (d i j) (w i j) (least-left (d i j) (add_weight (d i k) (d k j))) ((all i j hi hj).lower [] tt)
round_lower w d n k kn all zero i j hi hj (x ∷ xs) h =
    let low : x < k + 1 = h.0 in
    let xn : x < n = omega arith in
    AtMost-trans (through d k i j) (add_weight (w i x) (through d k x j)) (add_weight (w i x) (path_weight w x xs j))
    (round_front w d n k kn all zero i x j hi hj (up_to x k (cases_lt x k) low))
    (add_weight-mono (w i x) (w i x) (through d k x j) (path_weight w x xs j) (AtMost-refl (w i x)) (round_lower w d n k kn all zero x j xn hj xs h.1))

pub round_reached : (w d : ℕ → ℕ → Option ℤ) (k i j : ℕ) → IsLeastWalk w k i j (d i j) → IsLeastWalk w k i k (d i k) → IsLeastWalk w k k j (d k j) →
    (xs : List ℕ) × Below (k + 1) xs × AtMost (path_weight w i xs j) (through d k i j)
round_reached w d k i j p q r =
    least-cases (λ v. (xs : List ℕ) × Below (k + 1) xs × AtMost (path_weight w i xs j) v) (d i j) (add_weight (d i k) (d k j))
    (p.reached.0, Below-more k (k + 1) p.reached.0 (omega arith) p.reached.1, p.reached.2) (
      q.reached.0 ++ (k ∷ r.reached.0),
      Below-append (k + 1) q.reached.0 (k ∷ r.reached.0) (Below-more k (k + 1) q.reached.0 (omega arith) q.reached.1) (omega arith, Below-more k (k + 1) r.reached.0 (omega arith) r.reached.1),
      rw (path_weight-append w i q.reached.0 k r.reached.0 j)
          (add_weight-mono (path_weight w i q.reached.0 k) (d i k) (path_weight w k r.reached.0 j) (d k j) q.reached.2 r.reached.2),
    )

-- the round at k: least weights over inner nodes below k become those below k + 1, where no closed walk at k is negative
pub round-least : (w d : ℕ → ℕ → Option ℤ) (n k : ℕ) → k < n → AtMost (Some (pos 0)) (d k k) → AreLeastWalks w n k d → AreLeastWalks w n (k + 1) (through d k)
round-least w d n k kn zero all i j hi hj = record {
  reached = round_reached w d k i j (all i j hi hj) (all i k hi kn) (all k j kn hj);
  lower = round_lower w d n k kn all zero i j hi hj;
}

abbrev pub mirrored : List ℕ → List ℕ
mirrored [] = []
mirrored (x ∷ xs) = mirrored xs ++ (flip x ∷ [])

pub Below-mirrored : (h : ℕ) (xs : List ℕ) → Below (2 * h) xs → Below (2 * h) (mirrored xs)
Below-mirrored h [] p = tt
Below-mirrored h (x ∷ xs) p = Below-append (2 * h) (mirrored xs) (flip x ∷ []) (Below-mirrored h xs p.1) (flip_below x h p.0, tt)

pub path_weight-mirrored : (w : ℕ → ℕ → Option ℤ) (h : ℕ) → IsCoherent w (2 * h) → (i : ℕ) (xs : List ℕ) (j : ℕ) → i < 2 * h → Below (2 * h) xs → j < 2 * h →
    path_weight w i xs j ≡ path_weight w (flip j) (mirrored xs) (flip i)
path_weight-mirrored w h c i [] j hi p hj = c i j hi hj
path_weight-mirrored w h c i (x ∷ xs) j hi p hj =
    ap (add_weight (w i x)) (path_weight-mirrored w h c x xs j p.0 p.1 hj)
    ∙ ap (λ v. add_weight v (path_weight w (flip j) (mirrored xs) (flip x))) (c i x hi p.0)
    ∙ add_weight-comm (w (flip x) (flip i)) (path_weight w (flip j) (mirrored xs) (flip x))
    ∙ sym (path_weight-append w (flip j) (mirrored xs) (flip x) [] (flip i))

-- the least weight from i to j is the least weight of the mirror images
pub least-mirrored : (w : ℕ → ℕ → Option ℤ) (h q : ℕ) → IsCoherent w (2 * h) → q ≤ h → (i j : ℕ) → i < 2 * h → j < 2 * h → (v : Option ℤ) →
    IsLeastWalk w (2 * q) (flip j) (flip i) v → IsLeastWalk w (2 * q) i j v
least-mirrored w h q c l i j hi hj v p = record {
  reached = (
    mirrored p.reached.0,
    Below-mirrored q p.reached.0 p.reached.1,
    let e : path_weight w (flip j) p.reached.0 (flip i) ≡ path_weight w (flip (flip i)) (mirrored p.reached.0) (flip (flip j)) =
        path_weight-mirrored w h c (flip j) p.reached.0 (flip i) (flip_below j h hj) (Below-more (2 * q) (2 * h) p.reached.0 (omega arith) p.reached.1) (flip_below i h hi) in
        let f : path_weight w (flip j) p.reached.0 (flip i) ≡ path_weight w i (mirrored p.reached.0) j =
        e ∙ ap (λ x. path_weight w x (mirrored p.reached.0) (flip (flip j))) (flip-flip i) ∙ ap (λ x. path_weight w i (mirrored p.reached.0) x) (flip-flip j) in
        rw (← f) p.reached.2,
  );
  lower = λ xs b. rw (path_weight-mirrored w h c i xs j hi (Below-more (2 * q) (2 * h) xs (omega arith) b) hj) (p.lower (mirrored xs) (Below-mirrored q xs b));
}

-- ---- walks by their steps, and by their inner nodes

pub add_weight-zero : (a : Option ℤ) → add_weight a (Some (pos 0)) ≡ a
add_weight-zero None = refl
add_weight-zero (Some x) = let e : x +ℤ pos 0 ≡ x = omega (arith, ints) in ap Some e

pub walk_weight-path : (w : ℕ → ℕ → Option ℤ) (i : ℕ) (xs : List ℕ) (j : ℕ) → walk_weight w i (xs ++ (j ∷ [])) ≡ path_weight w i xs j
walk_weight-path w i [] j = add_weight-zero (w i j)
walk_weight-path w i (x ∷ xs) j = ap (add_weight (w i x)) (walk_weight-path w x xs j)

walk_end-path : (i : ℕ) (xs : List ℕ) (j : ℕ) → walk_end i (xs ++ (j ∷ [])) ≡ j
walk_end-path i [] j = refl
walk_end-path i (x ∷ xs) j = walk_end-path x xs j

pub IsWalk-path : (n i : ℕ) (xs : List ℕ) (j : ℕ) → j < n → Below n xs → IsWalk n i (xs ++ (j ∷ [])) j
IsWalk-path n i xs j hj b = record { inside = Below-append n xs (j ∷ []) b (hj, tt); ends = walk_end-path i xs j }

-- the nodes of a walk but the last
abbrev pub but_last : ℕ → List ℕ → List ℕ
but_last x [] = []
but_last x (y ∷ ys) = x ∷ but_last y ys

pub path_weight-but_last : (w : ℕ → ℕ → Option ℤ) (i x : ℕ) (xs : List ℕ) → path_weight w i (but_last x xs) (walk_end x xs) ≡ walk_weight w i (x ∷ xs)
path_weight-but_last w i x [] = sym (add_weight-zero (w i x))
path_weight-but_last w i x (y ∷ ys) = ap (add_weight (w i x)) (path_weight-but_last w x y ys)

pub Below-but_last : (n x : ℕ) (xs : List ℕ) → Below n (x ∷ xs) → Below n (but_last x xs)
Below-but_last n x [] b = tt
Below-but_last n x (y ∷ ys) b = (b.0, Below-but_last n y ys b.1)
