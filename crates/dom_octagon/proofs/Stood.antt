-- A slot that stands for its own node plus a constant is carried over, and answers.
use Rattle.std.specs.Prelude.{◌≡◌, ℕ, ◌+◌, ◌*◌, ◌/◌, ◌%◌, ℤ, pos, neg_ℤ, ◌-ℤ◌, Option, Some, length, refl}
use Rattle.std.proofs.Common.{arith, ap, sym, ◌∙◌, inl, inr}
use Rattle.std.proofs.lemmas.Bool.{cases_eq, eq-eqb, ne_eqb}
use Rattle.dbm_close.proofs.SlotLemmas.{even-flip}
use Rattle.dbm_core.proofs.HalfLemmas.{entry-coherent}
use Rattle.dbm_core.proofs.LimitLemmas.{IsLimited-entries, forgotten-diagonal, forgotten-within}
use Rattle.dbm_core.proofs.TableLemmas.{tables-determine}
use Rattle.dbm_core.specs.Half.{HalfMatrix, HasEntries, IsMatrix, entry, nodes}
use Rattle.dbm_core.specs.Limits.{IsLimited}
use Rattle.dbm_core.specs.Nodes.{flip}
use Rattle.dbm_core.specs.Operations.{forgotten}
use Rattle.dbm_core.specs.Weights.{add_weight}
use Rattle.dbm_incremental.proofs.StandLemmas.{node-even, node-odd, node-other, shift-even, shift-odd, shift-other}
use Rattle.dbm_incremental.specs.Equations.{stand_node, stand_shift, stood_entry}
use Rattle.dom_octagon_meaning.proofs.Matrices.{shifted-coherent}
use Rattle.dom_octagon_meaning.specs.Matrices.{carried, shift, shifted, turned}

-- ---- which node a node is

turned-same : (x i a : ℕ) → a / 2 ≡ x → i % 2 ≡ 0 → turned x i a ≡ a
turned-same x i a e p = rw (eq-eqb (a / 2) x e, eq-eqb (i % 2) 0 p) refl

turned-flipped : (x i a : ℕ) → a / 2 ≡ x → (i % 2 ≡ 0 → ⊥) → turned x i a ≡ flip a
turned-flipped x i a e n = rw (eq-eqb (a / 2) x e, ne_eqb (i % 2) 0 n) refl

turned-other : (x i a : ℕ) → (a / 2 ≡ x → ⊥) → turned x i a ≡ a
turned-other x i a n = rw (ne_eqb (a / 2) x n) refl

stand-first : (x i : ℕ) → i / 2 ≡ x → i ≡ turned x i (2 * x)
stand-first x i e = elim (cases_eq (i % 2) 0) [
  | inl p ↦ let k : i ≡ 2 * x = omega arith in k ∙ sym (turned-same x i (2 * x) (omega arith) p)
  | inr n ↦ let k : i ≡ 2 * x + 1 = omega arith in k ∙ sym (even-flip x) ∙ sym (turned-flipped x i (2 * x) (omega arith) n)
]

stand-second : (x i : ℕ) → i / 2 ≡ x → flip i ≡ turned x i (2 * x + 1)
stand-second x i e = elim (cases_eq (i % 2) 0) [
  | inl p ↦ let k : i ≡ 2 * x = omega arith in ap flip k ∙ even-flip x ∙ sym (turned-same x i (2 * x + 1) (omega arith) p)
  | inr n ↦ let k : i ≡ 2 * x + 1 = omega arith in ap flip k ∙ sym (turned-flipped x i (2 * x + 1) (omega arith) n)
]

stand-turned : (x i a : ℕ) → i / 2 ≡ x → stand_node x i a ≡ turned x i a
stand-turned x i a e = elim (cases_eq a (2 * x)) [
  | inl p ↦ ap (stand_node x i) p ∙ node-even x i ∙ stand-first x i e ∙ ap (turned x i) (sym p)
  | inr n ↦ elim (cases_eq a (2 * x + 1)) [
    | inl p ↦ ap (stand_node x i) p ∙ node-odd x i ∙ stand-second x i e ∙ ap (turned x i) (sym p)
    | inr m ↦ node-other x i a n m ∙ sym (turned-other x i a (λ q. absurd (omega arith)))
  ]
]

-- ---- how far it is

shift-first : (x : ℕ) (c : ℤ) → shift x c (2 * x) ≡ c
shift-first x c = let p : (2 * x) / 2 ≡ x = omega arith in let q : (2 * x) % 2 ≡ 0 = omega arith in rw (eq-eqb ((2 * x) / 2) x p, eq-eqb ((2 * x) % 2) 0 q) refl

shift-second : (x : ℕ) (c : ℤ) → shift x c (2 * x + 1) ≡ neg_ℤ c
shift-second x c =
    let p : (2 * x + 1) / 2 ≡ x = omega arith in
    let q : (2 * x + 1) % 2 ≡ 0 → ⊥ = λ e. absurd (omega arith) in
    rw (eq-eqb ((2 * x + 1) / 2) x p, ne_eqb ((2 * x + 1) % 2) 0 q) refl

shift-elsewhere : (x : ℕ) (c : ℤ) (a : ℕ) → (a / 2 ≡ x → ⊥) → shift x c a ≡ pos 0
shift-elsewhere x c a n = rw (ne_eqb (a / 2) x n) refl

stand-shift : (x : ℕ) (c : ℤ) (a : ℕ) → stand_shift x c a ≡ shift x c a
stand-shift x c a = elim (cases_eq a (2 * x)) [
  | inl p ↦ ap (stand_shift x c) p ∙ shift-even x c ∙ sym (ap (shift x c) p ∙ shift-first x c)
  | inr n ↦ elim (cases_eq a (2 * x + 1)) [
    | inl p ↦ ap (stand_shift x c) p ∙ shift-odd x c ∙ sym (ap (shift x c) p ∙ shift-second x c)
    | inr m ↦ shift-other x c a n m ∙ sym (shift-elsewhere x c a (λ q. absurd (omega arith)))
  ]
]

-- ---- the matrix

stood-shifted : (d : ℕ → ℕ → Option ℤ) (x i : ℕ) (c : ℤ) (a b : ℕ) → i / 2 ≡ x → stood_entry d x i c a b ≡ shifted d x i c a b
stood-shifted d x i c a b e = λ k. add_weight (d (stand-turned x i a e k) (stand-turned x i b e k)) (Some (stand-shift x c b k -ℤ stand-shift x c a k))

pub stood_carried : (m r : HalfMatrix) (x i : ℕ) (c : ℤ) → IsMatrix m → i / 2 ≡ x → HasEntries m.kinds (stood_entry (entry m) x i c) r → r ≡ carried m x i c
unfolding carried
stood_carried m r x i c h e p = tables-determine m.kinds (shifted (entry m) x i c) r h.few (shifted-coherent (entry m) x i c (length m.kinds) (entry-coherent m h))
    (record { matrix = p.matrix; same_kinds = p.same_kinds; entries = λ a b ha hb. p.entries a b ha hb ∙ stood-shifted (entry m) x i c a b e })

-- ---- a slot forgotten

pub forgotten_limited : (b : ℕ) (m r : HalfMatrix) (k : ℕ) → IsLimited b m → HasEntries m.kinds (forgotten (entry m) k) r → IsLimited b r
forgotten_limited b m r k l h = IsLimited-entries m.kinds (forgotten (entry m) k) r b (forgotten-diagonal (entry m) k (nodes m) l.diagonal) (forgotten-within (entry m) k (nodes m) b l.within) h
