-- What a matrix with given entries is.
use Rattle.std.specs.Prelude.{◌≡◌, ℕ, ◌<◌, ◌≤◌, ◌+◌, ◌*◌, ◌-◌, ℤ, Option, Bool, true, false, if◌then◌else◌, neg_ℤ, ◌+ℤ◌, List, [], ◌∷◌, length, refl, ◌⊎◌}
use Rattle.std.proofs.Common.{arith, ap, ◌∙◌, inl, inr}
use Rattle.dbm_core.proofs.HalfLemmas.{entry-coherent}
use Rattle.dbm_core.proofs.LowerLemmas.{either_none, lowered-coherent}
use Rattle.dbm_core.proofs.NodeLemmas.{flip-even, flip-odd, parity}
use Rattle.dbm_core.proofs.OperationLemmas.{forgotten-coherent, joined-coherent, widened-coherent}
use Rattle.dbm_core.proofs.TableLemmas.{tables-determine}
use Rattle.dbm_core.specs.Half.{HalfMatrix, HasEntries, IsMatrix, entry, nodes}
use Rattle.dbm_core.specs.Nodes.{flip}
use Rattle.dbm_core.specs.Operations.{forgotten, joined, lowered, widened}
use Rattle.dbm_core.specs.Tables.{matrix_of}
use Rattle.num_bounds.specs.Bounds.{Bounds}
use Rattle.dom_octagon_meaning.specs.declared.source.ArgumentSource.{ArgumentSource}
use Rattle.dom_octagon_meaning.specs.declared.source.ArgumentSource.TheVariants.{FromSlot, InRange}
use Rattle.dom_octagon_meaning.specs.Matrices.{is_beyond, meets_end, meets_range, with_bound, with_greatest, without}
use Rattle.dom_octagon_meaning.specs.Operations.{meet_sources}

pub bound-is : (m r : HalfMatrix) (i j : ℕ) (c : ℤ) → IsMatrix m → HasEntries m.kinds (lowered (entry m) i j c) r → r ≡ with_bound m i j c
unfolding with_bound
bound-is m r i j c h e = tables-determine m.kinds (lowered (entry m) i j c) r h.few (lowered-coherent (entry m) (nodes m) i j c (entry-coherent m h)) e

flip-past : (n i : ℕ) → 2 * n ≤ i → 2 * n ≤ flip i
flip-past n i l = elim (parity i) [
  | inl e ↦ let f : flip i ≡ i + 1 = flip-even i e in omega arith
  | inr e ↦ let f : flip i ≡ i - 1 = flip-odd i e in omega arith
]

lowered-outside : (d : ℕ → ℕ → Option ℤ) (n i j : ℕ) (c : ℤ) → (2 * n ≤ i) ⊎ (2 * n ≤ j) → (a b : ℕ) → a < 2 * n → b < 2 * n → d a b ≡ lowered d i j c a b
unfolding lowered
lowered-outside d n i j c o a b ha hb = let f : _ ≡ false = either_none i j (flip j) (flip i) a b (apart o) (turned o) in rw f refl
  where
    apart : (2 * n ≤ i) ⊎ (2 * n ≤ j) → (i ≡ a) × (j ≡ b) → ⊥
    apart (inl l) e = let p : i ≡ a = e.0 in absurd (omega arith)
    apart (inr l) e = let p : j ≡ b = e.1 in absurd (omega arith)

    turned : (2 * n ≤ i) ⊎ (2 * n ≤ j) → (flip j ≡ a) × (flip i ≡ b) → ⊥
    turned (inl l) e = let p : flip i ≡ b = e.1 in let q : 2 * n ≤ flip i = flip-past n i l in absurd (omega arith)
    turned (inr l) e = let p : flip j ≡ a = e.0 in let q : 2 * n ≤ flip j = flip-past n j l in absurd (omega arith)

-- a bound on what is no node changes nothing
pub bound-outside : (m : HalfMatrix) (i j : ℕ) (c : ℤ) → IsMatrix m → (nodes m ≤ i) ⊎ (nodes m ≤ j) → m ≡ with_bound m i j c
bound-outside m i j c h o = bound-is m m i j c h (record { matrix = h; same_kinds = refl; entries = λ a b ha hb. lowered-outside (entry m) (length m.kinds) i j c o a b ha hb })

end-outside : (m : HalfMatrix) (i : ℕ) (c : ℤ) → IsMatrix m → nodes m ≤ i → m ≡ meets_end m i c
unfolding meets_end
end-outside m i c h l = by (is_beyond m.kinds i c)
  where
    by : (b : Bool) → m ≡ (if b then m else with_greatest m i c)
    by true = refl
    by false = bound-outside m (flip i) i (c +ℤ c) h (inr l)

pub range-outside : (m : HalfMatrix) (k : ℕ) (r : Bounds) → IsMatrix m → length m.kinds ≤ k → m ≡ meets_range m k r
range-outside m k r h l = end-outside m (2 * k + 1) (neg_ℤ r.lo) h (omega arith) ∙ ap (λ n. meets_end n (2 * k + 1) (neg_ℤ r.lo)) (end-outside m (2 * k) r.hi h (omega arith))

-- ranges of what is no slot are met by nothing
pub sources-outside : (m : HalfMatrix) (k : ℕ) (ss : List ArgumentSource) → IsMatrix m → length m.kinds ≤ k → m ≡ meet_sources m k ss
sources-outside m k [] h l = refl
sources-outside m k (FromSlot x ∷ ss) h l = sources-outside m (k + 1) ss h (omega arith)
sources-outside m k (InRange r ∷ ss) h l = sources-outside m (k + 1) ss h (omega arith) ∙ ap (λ n. meet_sources n (k + 1) ss) (range-outside m k r h l)

pub without-is : (m r : HalfMatrix) (k : ℕ) → IsMatrix m → HasEntries m.kinds (forgotten (entry m) k) r → r ≡ without m k
unfolding without
without-is m r k h e = tables-determine m.kinds (forgotten (entry m) k) r h.few (forgotten-coherent (entry m) k (nodes m) (entry-coherent m h)) e

pub join-is : (a b r : HalfMatrix) → IsMatrix a → IsMatrix b → b.kinds ≡ a.kinds → HasEntries a.kinds (joined a b) r → r ≡ matrix_of a.kinds (joined a b)
join-is a b r h k s e = tables-determine a.kinds (joined a b) r h.few (joined-coherent a b h k (ap length s)) e

pub widen-is : (ms : List ℤ) (a b r : HalfMatrix) → IsMatrix a → IsMatrix b → b.kinds ≡ a.kinds → HasEntries a.kinds (widened ms a b) r → r ≡ matrix_of a.kinds (widened ms a b)
widen-is ms a b r h k s e = tables-determine a.kinds (widened ms a b) r h.few (widened-coherent ms a b h k (ap length s)) e
