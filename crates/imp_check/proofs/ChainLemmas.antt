-- Tallies of chains.
use Rattle.std.proofs.Common.{ℕ, zero, suc, ◌≡◌, ◌+◌, ◌-◌, ◌*◌, ◌^◌, ◌<◌, ◌≤◌, Bool, true, false, cond, List, [], ◌∷◌, ◌++◌, length, drop, min, max, map, refl, ap, sym, ◌∙◌, arith, length-append, add-one, drop-cons, get_or, nat_lt, ◌==◌, ◌⊎◌, inl, inr}
use Rattle.std.proofs.lemmas.Bool.{lt-ltb, cases_lt, false≢true}
use Rattle.std.proofs.Math.Dec.{eqb-suc-zero}
use Rattle.std.proofs.lemmas.List.{drop_all}
use Rattle.imp_syntax.specs.Plain.{Statement, Statements, Starts, Procedure}
use Rattle.imp_check.specs.Chains.{calls_in, calls, extended, chains_through, chains_to, all_chains}
use Rattle.imp_check.specs.Programs.{longest}
use Rattle.imp_check.specs.Tallies.{capped, tally_of, tally_sum, called, none, tallies_of}
use Rattle.imp_check.specs.declared.chains.ChainTally.{ChainTally}

pub length_both : (f : List ℕ) (t e : Statements) → length (calls f t ++ calls f e) ≡ length (calls f t) + length (calls f e)
length_both f t e = length-append (calls f t) (calls f e)

pub length_calls : (f : List ℕ) (s : Statement) (ss : Statements) → length (calls f (Starts s ss)) ≡ length (calls_in f s) + length (calls f ss)
length_calls f s ss = length-append (calls_in f s) (calls f ss)

longest_append : (xs ys : List (List ℕ)) → longest (xs ++ ys) ≡ max (longest xs) (longest ys)
longest_append [] ys = omega arith
longest_append (x ∷ xs) ys = omega (arith, longest_append xs ys)

longest_behind : (s : ℕ) (w : List ℕ) (ws : List (List ℕ)) → longest (map (λ v. v ++ s ∷ []) (w ∷ ws)) ≡ longest (w ∷ ws) + 1
longest_behind s w [] = omega (arith, length-append w (s ∷ []))
longest_behind s w (v ∷ ws) = omega (arith, length-append w (s ∷ []), longest_behind s v ws)

length_behind : (s : ℕ) (ws : List (List ℕ)) → length (map (λ v. v ++ s ∷ []) ws) ≡ length ws
length_behind s [] = refl
length_behind s (w ∷ ws) = omega (arith, length_behind s ws)

extended_none : (ss : List ℕ) → extended [] ss ≡ []
extended_none [] = refl
extended_none (s ∷ ss) = extended_none ss

length_extended : (ws : List (List ℕ)) (ss : List ℕ) → length (extended ws ss) ≡ length ws * length ss
length_extended ws [] = omega arith
length_extended ws (s ∷ ss) = omega (arith, length-append (map (λ v. v ++ s ∷ []) ws) (extended ws ss), length_behind s ws, length_extended ws ss)

longest_extended : (w : List ℕ) (ws : List (List ℕ)) (s : ℕ) (ss : List ℕ) → longest (extended (w ∷ ws) (s ∷ ss)) ≡ longest (w ∷ ws) + 1
longest_extended w ws s [] = omega (arith, longest_append (map (λ v. v ++ s ∷ []) (w ∷ ws)) [], longest_behind s w ws)
longest_extended w ws s (t ∷ ss) = omega (arith, longest_append (map (λ v. v ++ s ∷ []) (w ∷ ws)) (extended (w ∷ ws) (t ∷ ss)), longest_behind s w ws, longest_extended w ws t ss)

pub tally_append : (xs ys : List (List ℕ)) → tally_of (xs ++ ys) ≡ tally_sum (tally_of xs) (tally_of ys)
unfolding tally_of tally_sum
tally_append xs ys =
    let e : capped (length (xs ++ ys)) ≡ capped (capped (length xs) + capped (length ys)) = omega (arith, length-append xs ys) in
    let l : capped (longest (xs ++ ys)) ≡ max (capped (longest xs)) (capped (longest ys)) = omega (arith, longest_append xs ys) in
    λ i. record { count = e i; longest = l i }

pub added_assoc : (a b c : ChainTally) → tally_sum (tally_sum a b) c ≡ tally_sum a (tally_sum b c)
unfolding tally_sum
added_assoc a b c =
    let e : capped (capped (a.count + b.count) + c.count) ≡ capped (a.count + capped (b.count + c.count)) = omega arith in
    let l : max (max a.longest b.longest) c.longest ≡ max a.longest (max b.longest c.longest) = omega arith in
    λ i. record { count = e i; longest = l i }

-- a product with a large factor is large
mul_large : (m a n : ℕ) → m ≤ a → 0 < n → m ≤ a * n
mul_large m a zero h p = absurd (omega arith)
mul_large m a (suc n) h p = omega arith

mul_large_right : (m a n : ℕ) → m ≤ n → 0 < a → m ≤ a * n
mul_large_right m zero n h p = absurd (omega arith)
mul_large_right m (suc a) n h p = omega arith

cap_high : (m x y : ℕ) → m ≤ x → m ≤ y → min x m ≡ min y m
cap_high m x y h k = omega arith

cap_cases : (m a n : ℕ) → 0 < m → (m < suc a) ⊎ (suc a ≤ m) → (m < suc n) ⊎ (suc n ≤ m) → min (min (suc a) m * min (suc n) m) m ≡ min (suc a * suc n) m
cap_cases m a n p (inl h) k =
    let e : min (suc a) m ≡ m = omega arith in
    rw e (cap_high m (m * min (suc n) m) (suc a * suc n) (mul_large m m (min (suc n) m) (omega arith) (omega arith)) (mul_large m (suc a) (suc n) (omega arith) (omega arith)))
cap_cases m a n p (inr h) (inl k) =
    let e : min (suc n) m ≡ m = omega arith in
    rw e (cap_high m (min (suc a) m * m) (suc a * suc n) (mul_large_right m (min (suc a) m) m (omega arith) (omega arith)) (mul_large_right m (suc a) (suc n) (omega arith) (omega arith)))
cap_cases m a n p (inr h) (inr k) =
    let e : min (suc a) m ≡ suc a = omega arith in
    let f : min (suc n) m ≡ suc n = omega arith in
    rw (e, f) refl

cap_zero : (m a x : ℕ) → min (x * min 0 m) m ≡ min (a * 0) m
cap_zero m a x = let e : min 0 m ≡ 0 = omega arith in rw e (omega arith)

cap_zero_left : (m n x : ℕ) → min (min 0 m * x) m ≡ min (0 * n) m
cap_zero_left m n x = let e : min 0 m ≡ 0 = omega arith in rw e (omega arith)

cap_mul : (m a n : ℕ) → 0 < m → min (min a m * min n m) m ≡ min (a * n) m
cap_mul m zero n p = cap_zero_left m n (min n m)
cap_mul m (suc a) zero p = cap_zero m (suc a) (min (suc a) m)
cap_mul m (suc a) (suc n) p = cap_cases m a n p (cases_lt m (suc a)) (cases_lt m (suc n))

drop-nil : {A : Type 0} (n : ℕ) → drop {A = A} n [] ≡ []
drop-nil zero = refl
drop-nil (suc n) = refl

cond_same : (b : Bool) (t : ChainTally) → cond b t t ≡ t
cond_same true t = refl
cond_same false t = refl

-- the chains that go on with the calls of a list, by their tally
pub called_is : (ws : List (List ℕ)) (ss : List ℕ) → called (tally_of ws) (capped (length ss)) ≡ tally_of (extended ws ss)
unfolding tally_of called
called_is [] ss = sym (ap tally_of (extended_none ss))
called_is (w ∷ ws) [] = cond_same (nat_lt 0 (capped (length (w ∷ ws)))) none
called_is (w ∷ ws) (s ∷ ss) =
    let a : nat_lt 0 (capped (length (w ∷ ws))) ≡ true = lt-ltb 0 (capped (length (w ∷ ws))) (omega arith) in
    let b : nat_lt 0 (capped (length (s ∷ ss))) ≡ true = lt-ltb 0 (capped (length (s ∷ ss))) (omega arith) in
    let e : capped (capped (length (w ∷ ws)) * capped (length (s ∷ ss))) ≡ capped (length (extended (w ∷ ws) (s ∷ ss))) =
    cap_mul (2 ^ 32 - 1) (length (w ∷ ws)) (length (s ∷ ss)) (omega arith) ∙ ap capped (sym (length_extended (w ∷ ws) (s ∷ ss))) in
    let l : capped (capped (longest (w ∷ ws)) + 1) ≡ capped (longest (extended (w ∷ ws) (s ∷ ss))) = omega (arith, longest_extended w ws s ss) in
    rw (a, b) (λ i. record { count = e i; longest = l i })

pub none_added : (ws : List (List ℕ)) → tally_sum none (tally_of ws) ≡ tally_of ws
unfolding tally_of tally_sum
none_added ws =
    let e : capped (0 + capped (length ws)) ≡ capped (length ws) = omega arith in
    let l : max 0 (capped (longest ws)) ≡ capped (longest ws) = omega arith in
    λ i. record { count = e i; longest = l i }

pub added_none : (t : ChainTally) → t.count ≤ 2 ^ 32 - 1 → tally_sum t (tally_of []) ≡ t
unfolding tally_of tally_sum
added_none t h =
    let e : capped (t.count + capped 0) ≡ t.count = omega arith in
    let l : max t.longest (capped 0) ≡ t.longest = omega arith in
    λ i. record { count = e i; longest = l i }

pub added_few : (a b : ChainTally) → (tally_sum a b).count ≤ 2 ^ 32 - 1
unfolding tally_sum
added_few a b = omega arith

pub tally_main : tally_of ([] ∷ []) ≡ record { count = 1; longest = 0 }
unfolding tally_of
tally_main = refl

-- the tally of the chains through the procedures from a place on
through_step : (f : List ℕ) (ps : List Procedure) (i : ℕ) (p : Procedure) (d : ChainTally) → i < length ps → p ≡ get_or ps i p → tally_of (chains_through f (drop i ps)) ≡ tally_sum (called (get_or (tallies_of ps) i d) (capped (length (calls f p.body)))) (tally_of (chains_through f (drop (i + 1) ps)))
through_step f [] i p d h e = absurd (omega arith)
through_step f (q ∷ ps) zero p d h e =
    rw (e, called_is (chains_to q.name ps) (calls f q.body)) (tally_append (extended (chains_to q.name ps) (calls f q.body)) (chains_through f ps))
through_step f (q ∷ ps) (suc i) p d h e = let r = through_step f ps i p d (omega arith) e in rw add-one (rw add-one at r)

pub through_next : (f : List ℕ) (ps : List Procedure) (ts : List ChainTally) (i : ℕ) (p : Procedure) (d total c new w : ChainTally) (n : ℕ) → ts ≡ tallies_of ps → i < length ps → p ≡ get_or ps i p → n ≡ capped (length (calls f p.body)) → c ≡ called (get_or ts i d) n → new ≡ tally_sum total c → tally_sum total (tally_of (chains_through f (drop i ps))) ≡ w → tally_sum new (tally_of (chains_through f (drop (i + 1) ps))) ≡ w
through_next f ps ts i p d total c new w n known h e en ec enew told =
    let y = tally_of (chains_through f (drop (i + 1) ps)) in
    let t = get_or (tallies_of ps) i d in
    let same : c ≡ called t (capped (length (calls f p.body))) = ec ∙ ap (λ (z : List ChainTally). called (get_or z i d) n) known ∙ ap (λ (m : ℕ). called t m) en in
    ap (λ (z : ChainTally). tally_sum z y) enew ∙ added_assoc total c y ∙ ap (λ (z : ChainTally). tally_sum total z) (ap (λ (z : ChainTally). tally_sum z y) same ∙ sym (through_step f ps i p d h e)) ∙ told

pub through_end : (f : List ℕ) (ps : List Procedure) (i : ℕ) (total w : ChainTally) → length ps ≤ i → total.count ≤ 2 ^ 32 - 1 → tally_sum total (tally_of (chains_through f (drop i ps))) ≡ w → total ≡ w
through_end f ps i total w h few told =
    let e : drop i ps ≡ [] = drop_all i ps h in
    sym (added_none total few) ∙ ap (λ (z : List Procedure). tally_sum total (tally_of (chains_through f z))) (sym e) ∙ told

pub only_main : (f : List ℕ) (ps : List Procedure) → true ≡ (length ps == 0) → record { count = 1; longest = 0 } ≡ tally_of (chains_to f ps)
only_main f [] h = sym tally_main
only_main f (p ∷ ps) h = absurd (false≢true (sym (h ∙ eqb-suc-zero (length ps))))

pub not_main : (f : List ℕ) (ps : List Procedure) (t : ChainTally) → false ≡ (length ps == 0) → t ≡ tally_of (chains_through f ps) → t ≡ tally_of (chains_to f ps)
not_main f [] t h e = absurd (false≢true h)
not_main f (p ∷ ps) t h e = e

pub tallies_length : (ps : List Procedure) → length (tallies_of ps) ≡ length ps
tallies_length [] = refl
tallies_length (p ∷ ps) = ap suc (tallies_length ps)

-- the tallies from a procedure on, by those of the procedures after it
pub tallies_before : (ps : List Procedure) (i : ℕ) (p : Procedure) → i < length ps → p ≡ get_or ps i p → tallies_of (drop i ps) ≡ tally_of (chains_to p.name (drop (i + 1) ps)) ∷ tallies_of (drop (i + 1) ps)
tallies_before ps i p h e = rw (drop-cons ps i p, add-one, ← e) refl

-- the tally of all chains to the procedures from a place on
all_step : (ps : List Procedure) (i : ℕ) (d : ChainTally) → i < length (tallies_of ps) → tally_of (all_chains (drop i ps)) ≡ tally_sum (get_or (tallies_of ps) i d) (tally_of (all_chains (drop (i + 1) ps)))
all_step [] i d h = absurd (omega arith)
all_step (p ∷ ps) zero d h = tally_append (chains_to p.name ps) (all_chains ps)
all_step (p ∷ ps) (suc i) d h = let r = all_step ps i d (omega arith) in rw add-one (rw add-one at r)

pub all_next : (ps : List Procedure) (ts : List ChainTally) (i : ℕ) (d total new w : ChainTally) → ts ≡ tallies_of ps → i < length ts → new ≡ tally_sum total (get_or ts i d) → tally_sum total (tally_of (all_chains (drop i ps))) ≡ w → tally_sum new (tally_of (all_chains (drop (i + 1) ps))) ≡ w
all_next ps ts i d total new w known h enew told =
    let y = tally_of (all_chains (drop (i + 1) ps)) in
    let t = get_or (tallies_of ps) i d in
    let k : i < length (tallies_of ps) = omega (arith, ap length known) in
    let same : new ≡ tally_sum total t = enew ∙ ap (λ (z : List ChainTally). tally_sum total (get_or z i d)) known in
    ap (λ (z : ChainTally). tally_sum z y) same ∙ added_assoc total t y ∙ ap (λ (z : ChainTally). tally_sum total z) (sym (all_step ps i d k)) ∙ told

pub all_end : (ps : List Procedure) (i : ℕ) → length (tallies_of ps) ≤ i → drop i ps ≡ []
all_end [] i h = drop-nil i
all_end (p ∷ ps) zero h = absurd (omega arith)
all_end (p ∷ ps) (suc i) h = all_end ps i (omega arith)
