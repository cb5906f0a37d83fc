-- Slots renamed, shifted and put beside each other; and closing what is strong already.
use Rattle.std.specs.Prelude.{◌≡◌, ℕ, ◌<◌, ◌*◌, ◌^◌, ℤ, pos, negsuc, neg_ℤ, ◌+ℤ◌, ◌-ℤ◌, ◌≤ℤ◌, Option, Some, None, Bool, true, false, cond, int_lt, length, refl}
use Rattle.std.specs.Int.{int_div_euclid}
use Rattle.std.proofs.Common.{arith, ap, sym, ◌∙◌, subst, inl, inr}
use Rattle.std.proofs.lemmas.Bool.{cases_eq}
use Rattle.std.proofs.lemmas.Int.{ints}
use Rattle.dbm_close.specs.Close.{strong}
use Rattle.dbm_close.specs.Steps.{cut, even_down, half}
use Rattle.dbm_core.proofs.HalfLemmas.{entry-coherent}
use Rattle.dbm_core.proofs.NodeLemmas.{flip_below, flip-flip}
use Rattle.dbm_core.specs.Half.{HalfMatrix, entry, nodes}
use Rattle.dbm_core.specs.Nodes.{flip}
use Rattle.dbm_core.specs.Weights.{AtMost, add_weight}
use Rattle.dbm_incremental.proofs.KeepLemmas.{closed-diagonal}
use Rattle.dbm_close.proofs.HalvesLemmas.{even-halves, half-double}
use Rattle.dbm_incremental.specs.ClosedMatrices.{IsClosed, IsStrong, IsWhole}
use Rattle.dbm_incremental.specs.Triangles.{IsTriangular}

-- ---- nodes renamed: o takes the k nodes of one matrix to nodes of another, signs kept

pub renamed-strong : (d : ℕ → ℕ → Option ℤ) (n k : ℕ) (o : ℕ → ℕ) → ((i : ℕ) → i < k → o i < n) → ((i : ℕ) → i < k → o (flip i) ≡ flip (o i)) → IsStrong n d → IsStrong k (λ i j. d (o i) (o j))
renamed-strong d n k o b f p = record {
  coherent = λ i j hi hj. p.coherent (o i) (o j) (b i hi) (b j hj) ∙ ap (λ x. d x (flip (o i))) (sym (f j hj)) ∙ ap (λ x. d (o (flip j)) x) (sym (f i hi));
  diagonal = λ i hi. p.diagonal (o i) (b i hi);
  triangles = λ i k j hi hk hj. p.triangles (o i) (o k) (o j) (b i hi) (b k hk) (b j hj);
  evens = λ i hi. ap (λ x. even_down (d (o i) x)) (f i hi) ∙ p.evens (o i) (b i hi) ∙ ap (d (o i)) (sym (f i hi));
  halves = λ i j hi hj. subst (λ x. AtMost (d (o i) (o j)) (half (add_weight (d (o i) x) (d (o (flip j)) (o j))))) (sym (f i hi))
      (subst (λ x. AtMost (d (o i) (o j)) (half (add_weight (d (o i) (flip (o i))) (d x (o j))))) (sym (f j hj)) (p.halves (o i) (o j) (b i hi) (b j hj)));
}

-- ---- values shifted: p is added to what each node stands for

abbrev pub moved : (ℕ → ℕ → Option ℤ) → (ℕ → ℤ) → ℕ → ℕ → Option ℤ
moved d p i j = add_weight (d i j) (Some (p j -ℤ p i))

moved-sum : (a b c : Option ℤ) (x y z : ℤ) → AtMost a (add_weight b c) → AtMost (add_weight a (Some (z -ℤ x))) (add_weight (add_weight b (Some (y -ℤ x))) (add_weight c (Some (z -ℤ y))))
moved-sum a None c x y z h = tt
moved-sum a (Some b) None x y z h = tt
moved-sum None (Some b) (Some c) x y z h = absurd h
moved-sum (Some a) (Some b) (Some c) x y z h = omega (arith, ints)

-- what is an even bound, and twice a number, is even
even_shift : (a : Option ℤ) (x y : ℤ) → y ≡ neg_ℤ x → even_down a ≡ a → even_down (add_weight a (Some (y -ℤ x))) ≡ add_weight a (Some (y -ℤ x))
even_shift None x y e h = refl
even_shift (Some a) x y e h =
    let t : Some a ≡ add_weight (half (Some a)) (half (Some a)) = sym h ∙ even-halves (Some a) in
    twice (int_div_euclid a (pos 2)) t
  where
    twice : (k : ℤ) → Some a ≡ Some (k +ℤ k) → even_down (Some (a +ℤ (y -ℤ x))) ≡ Some (a +ℤ (y -ℤ x))
    twice k t =
        let g : a ≡ k +ℤ k = cc in
        let f : a +ℤ (y -ℤ x) ≡ (k -ℤ x) +ℤ (k -ℤ x) = omega (arith, ints) in
        subst (λ v. even_down (Some v) ≡ Some v) (sym f)
        (even-halves (Some ((k -ℤ x) +ℤ (k -ℤ x))) ∙ ap (λ v. add_weight v v) (half-double (Some (k -ℤ x))))

moved-half : (a b c : Option ℤ) (x y : ℤ) → even_down b ≡ b → even_down c ≡ c → AtMost a (half (add_weight b c)) → (u v : ℤ) → u ≡ neg_ℤ x → v ≡ neg_ℤ y →
    AtMost (add_weight a (Some (y -ℤ x))) (half (add_weight (add_weight b (Some (u -ℤ x))) (add_weight c (Some (y -ℤ v)))))
moved-half a None c x y p q h u v e f = tt
moved-half a (Some b) None x y p q h u v e f = tt
moved-half a (Some b) (Some c) x y p q h u v e f = shift a (by_halves (int_div_euclid b (pos 2)) (int_div_euclid c (pos 2)) (sym p ∙ even-halves (Some b)) (sym q ∙ even-halves (Some c))) h
  where
    by_halves : (k l : ℤ) → Some b ≡ Some (k +ℤ k) → Some c ≡ Some (l +ℤ l) → (z : ℤ) × (z +ℤ z ≡ b +ℤ c)
    by_halves k l s t = (k +ℤ l, (let g : b ≡ k +ℤ k = cc in let i : c ≡ l +ℤ l = cc in omega (arith, ints)))

    shift : (a : Option ℤ) → (z : ℤ) × (z +ℤ z ≡ b +ℤ c) → AtMost a (half (Some (b +ℤ c))) → AtMost (add_weight a (Some (y -ℤ x))) (half (Some ((b +ℤ (u -ℤ x)) +ℤ (c +ℤ (y -ℤ v)))))
    shift a (z, t) h =
        let s : (b +ℤ (u -ℤ x)) +ℤ (c +ℤ (y -ℤ v)) ≡ (z +ℤ (y -ℤ x)) +ℤ (z +ℤ (y -ℤ x)) = omega (arith, ints) in
        subst (λ w. AtMost (add_weight a (Some (y -ℤ x))) (half (Some w))) (sym s)
        (subst (λ w. AtMost (add_weight a (Some (y -ℤ x))) w) (sym (half-double (Some (z +ℤ (y -ℤ x)))))
        (below a (subst (λ w. AtMost a w) (half-double (Some z)) (subst (λ w. AtMost a (half (Some w))) (sym t) h))))
      where
        below : (a : Option ℤ) → AtMost a (Some z) → AtMost (add_weight a (Some (y -ℤ x))) (Some (z +ℤ (y -ℤ x)))
        below None h = absurd h
        below (Some a) h = omega (arith, ints)

pub moved-strong : (d : ℕ → ℕ → Option ℤ) (h : ℕ) (p : ℕ → ℤ) → ((i : ℕ) → p (flip i) ≡ neg_ℤ (p i)) → IsStrong (2 * h) d → IsStrong (2 * h) (moved d p)
moved-strong d h p f s = record {
  coherent = λ i j hi hj. ap (λ x. add_weight x (Some (p j -ℤ p i))) (s.coherent i j hi hj) ∙ ap (λ x. add_weight (d (flip j) (flip i)) (Some x)) (mirror (p i) (p j) (p (flip i)) (p (flip j)) (f i) (f j));
  diagonal = λ i hi. ap (λ x. add_weight x (Some (p i -ℤ p i))) (s.diagonal i hi) ∙ ap Some (nothing (p i));
  triangles = λ i k j hi hk hj. moved-sum (d i j) (d i k) (d k j) (p i) (p k) (p j) (s.triangles i k j hi hk hj);
  evens = λ i hi. even_shift (d i (flip i)) (p i) (p (flip i)) (f i) (s.evens i hi);
  halves = λ i j hi hj. moved-half (d i j) (d i (flip i)) (d (flip j) j) (p i) (p j) (s.evens i hi)
      (subst (λ x. even_down (d (flip j) x) ≡ d (flip j) x) (flip-flip j) (s.evens (flip j) (flip_below j h hj)))
      (s.halves i j hi hj) (p (flip i)) (p (flip j)) (f i) (f j);
}
  where
    mirror : (x y u v : ℤ) → u ≡ neg_ℤ x → v ≡ neg_ℤ y → y -ℤ x ≡ u -ℤ v
    mirror x y u v e f = omega (arith, ints)

    nothing : (x : ℤ) → pos 0 +ℤ (x -ℤ x) ≡ pos 0
    nothing x = omega (arith, ints)

-- ---- slots beside each other: no bound between the blocks b

pub blocks-triangular : (d : ℕ → ℕ → Option ℤ) (n : ℕ) (b : ℕ → ℕ) → ((i j : ℕ) → i < n → j < n → (b i ≡ b j → ⊥) → d i j ≡ None) →
    ((i k j : ℕ) → i < n → k < n → j < n → b i ≡ b k → b k ≡ b j → AtMost (d i j) (add_weight (d i k) (d k j))) → IsTriangular n d
blocks-triangular d n b apart t i k j hi hk hj = elim (cases_eq (b i) (b k)) [
  | inl p ↦ elim (cases_eq (b k) (b j)) [
    | inl q ↦ t i k j hi hk hj p q
    | inr q ↦ subst (λ v. AtMost (d i j) (add_weight (d i k) v)) (sym (apart k j hk hj q)) (none_right (d i k))
  ]
  | inr p ↦ subst (λ v. AtMost (d i j) (add_weight v (d k j))) (sym (apart i k hi hk p)) tt
]
  where
    none_right : (a : Option ℤ) → AtMost (d i j) (add_weight a None)
    none_right None = tt
    none_right (Some x) = tt

-- ---- what is closed and whole is strong

whole-half : (a b c : Option ℤ) → AtMost a (half (add_weight b c)) → AtMost (cut a) (half (add_weight (cut b) (cut c)))
whole-half a None c h = tt
whole-half a (Some b) None h = by_test (int_lt b (pos (2 ^ 64)))
  where
    by_test : (t : Bool) → AtMost (cut a) (half (add_weight (cond t (Some b) None) None))
    by_test true = tt
    by_test false = tt
whole-half a (Some b) (Some c) h = by_tests (int_lt b (pos (2 ^ 64))) (int_lt c (pos (2 ^ 64))) refl refl
  where
    by_tests : (t u : Bool) → int_lt b (pos (2 ^ 64)) ≡ t → int_lt c (pos (2 ^ 64)) ≡ u → AtMost (cut a) (half (add_weight (cond t (Some b) None) (cond u (Some c) None)))
    by_tests false u e f = tt
    by_tests true false e f = tt
    by_tests true true e f = both a h
      where
        sum : (x y z : ℤ) → (z +ℤ z) ≤ℤ (x +ℤ y) → int_lt x (pos (2 ^ 64)) ≡ true → int_lt y (pos (2 ^ 64)) ≡ true → (w : ℤ) → w ≤ℤ z → int_lt w (pos (2 ^ 64)) ≡ true
        sum x y z p q r w l = grind (arith, ints)

        low : (x : ℤ) → (int_div_euclid x (pos 2) +ℤ int_div_euclid x (pos 2)) ≤ℤ x
        low (pos n) = omega (arith, ints)
        low (negsuc n) = omega (arith, ints)

        both : (a : Option ℤ) → AtMost a (half (Some (b +ℤ c))) → AtMost (cut a) (half (Some (b +ℤ c)))
        both None h = absurd h
        both (Some w) h = rw (sum b c (int_div_euclid (b +ℤ c) (pos 2)) (low (b +ℤ c)) e f w h) h

pub whole-strong : (m : HalfMatrix) → IsClosed m → IsWhole m → IsStrong (nodes m) (entry m)
whole-strong m (u, p) t = record {
  coherent = entry-coherent m p.matrix;
  diagonal = closed-diagonal m (u, p);
  triangles = t;
  evens = λ i hi. let e : entry m i (flip i) ≡ cut (u i (flip i)) = p.entries i (flip i) hi (flip_below i (length m.kinds) hi) in rw e (even (u i (flip i)) (p.strong.evens i hi));
  halves = λ i j hi hj. rw (p.entries i j hi hj, p.entries i (flip i) hi (flip_below i (length m.kinds) hi), p.entries (flip j) j (flip_below j (length m.kinds) hj) hj)
      (whole-half (u i j) (u i (flip i)) (u (flip j) j) (p.strong.halves i j hi hj));
}
  where
    even : (a : Option ℤ) → even_down a ≡ a → even_down (cut a) ≡ cut a
    even None e = refl
    even (Some x) e = elim (int_lt x (pos (2 ^ 64))) as (λ v. even_down (cond v (Some x) None) ≡ cond v (Some x) None) [ true ↦ e | false ↦ refl ]
