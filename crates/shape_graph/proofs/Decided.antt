-- Whether each target of a graph is a node is decided.
use Rattle.std.proofs.Common.{◌≡◌, ℕ, ◌<◌, List, [], ◌∷◌, ◌⊎◌, Option, None, Some, zero, suc, inl, inr, refl, arith}
use Rattle.std.proofs.lemmas.Bool.{cases_lt}
use Rattle.shape_graph.specs.declared.graph.Atom.{Atom}
use Rattle.shape_graph.specs.Shape.{Shape, nodes, slots, atom_at, In, IsGraph}

below : (n : ℕ) (ts : List (Option ℕ)) → ((k : ℕ) → In (Some k) ts → k < n) ⊎ (((k : ℕ) → In (Some k) ts → k < n) → ⊥)
below n [] = inl (λ k i. absurd i)
below n (None ∷ ts) =
    elim (below n ts) [
      | inl h ↦ inl (λ k i. elim i [ inl e ↦ absurd (cc) | inr j ↦ h k j ])
      | inr h ↦ inr (λ p. h (λ k i. p k (inr i)))
    ]
below n (Some j ∷ ts) =
    elim (cases_lt j n) [
      | inl l ↦ elim (below n ts) [
        | inl h ↦ inl (λ k i. elim i [ inl e ↦ (let d : k ≡ j = cc in omega arith) | inr m ↦ h k m ])
        | inr h ↦ inr (λ p. h (λ k i. p k (inr i)))
      ]
      | inr l ↦ inr (λ p. (let b = p j (inl refl) in absurd (omega arith)))
    ]

AtomsBelow : ℕ → List Atom → Type 0
AtomsBelow n atoms = (j k : ℕ) → (atom_at atoms j).target ≡ Some k → k < n

head_below : (n : ℕ) (t : Option ℕ) → ((k : ℕ) → t ≡ Some k → k < n) ⊎ (((k : ℕ) → t ≡ Some k → k < n) → ⊥)
head_below n None = inl (λ k e. cc)
head_below n (Some j) = elim (cases_lt j n) [ inl l ↦ inl (λ k e. (let d : j ≡ k = cc in omega arith)) | inr l ↦ inr (λ p. (let b = p j refl in absurd (omega arith))) ]

both : (n : ℕ) (a : Atom) (atoms : List Atom) → ((k : ℕ) → a.target ≡ Some k → k < n) → AtomsBelow n atoms → AtomsBelow n (a ∷ atoms)
unfolding AtomsBelow
both n a atoms h r zero k e = h k e
both n a atoms h r (suc j) k e = r j k e

atoms_below : (n : ℕ) (atoms : List Atom) → AtomsBelow n atoms ⊎ (AtomsBelow n atoms → ⊥)
unfolding AtomsBelow
atoms_below n [] = inl (λ j k e. cc)
atoms_below n (a ∷ atoms) =
    elim (head_below n a.target) [
      | inl h ↦ elim (atoms_below n atoms) [
        | inl r ↦ inl (both n a atoms h r)
        | inr r ↦ inr (λ p. r (λ j k e. p (suc j) k e))
      ]
      | inr h ↦ inr (λ p. h (λ k e. p zero k e))
    ]

-- each target is a node, or not
pub is_graph : (g : Shape) → IsGraph g ⊎ (IsGraph g → ⊥)
unfolding AtomsBelow
is_graph g =
    elim (below (nodes g) (slots g)) [
      | inl s ↦ elim (atoms_below (nodes g) g.atoms) [
        | inl a ↦ inl (record { slots_in = s; targets_in = a })
        | inr a ↦ inr (λ ok. a ok.targets_in)
      ]
      | inr s ↦ inr (λ ok. s ok.slots_in)
    ]
