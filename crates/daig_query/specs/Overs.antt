-- Overs among cells.
use Rattle.std.specs.Prelude.{◌≡◌, ℕ, ◌<◌, List, length, Some}
use Rattle.daig_graph.specs.declared.value.Value.TheVariants.{Over}
use Rattle.loop_unroll.specs.Iterates.{iterate_of}
use Rattle.daig_query.specs.Kept.{Cells}

module _ (cells : Cells) (numbers : List ℕ) where
  -- the cell at a place holds this Over
  abbrev pub IsOverAt : ℕ → ℕ → List ℕ → Type 0
  IsOverAt i n chain = iterate_of cells numbers i ≡ Some (Over n chain)

  -- it holds none
  abbrev pub HasNoOverAt : ℕ → Type 0
  HasNoOverAt i = (n : ℕ) (chain : List ℕ) → ¬ (IsOverAt i n chain)

  -- none of the first so many does hold one
  abbrev pub HasNoOver : ℕ → Type 0
  HasNoOver count = (i n : ℕ) (chain : List ℕ) → i < count → ¬ (IsOverAt i n chain)

  -- one of them does
  pub record HasOver : Type 0 where
    pub place : ℕ
    pub within : place < length numbers
    pub loop : ℕ
    pub chain : List ℕ
    pub here : IsOverAt place loop chain

  -- the first one
  pub record IsFirstOver (n : ℕ) (chain : List ℕ) : Type 0 where
    pub place : ℕ
    pub here : IsOverAt place n chain
    pub before : HasNoOver place
