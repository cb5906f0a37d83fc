-- Statements about all graphs.
use Rattle.std.specs.Prelude.{◌≡◌, ℕ, true, ◌↔◌}
use Rattle.std.specs.Ordering.{eq_by_cmp}
use Rattle.std.specs.Cmp.{IsTotalOrder}
use Rattle.std.specs.declared.cmp.Ordering.TheVariants.{Equal}
use Rattle.shape_graph.specs.Shape.{Shape, IsGraph}
use Rattle.shape_graph.specs.Folds.{Folds, IsFolded, IsRenaming}
use Rattle.shape_graph.specs.Order.{shape_cmp, shape_hash}
use Rattle.shape_graph.specs.Covers.{IsCoveredBy}

-- each graph has a fold
abbrev pub EachGraphFolds : Type 0
EachGraphFolds = (g : Shape) → IsGraph g → (next : Shape) × Folds g next

-- and no other
abbrev pub FoldsOfOneAreEqual : Type 0
FoldsOfOneAreEqual = (g one other : Shape) → Folds g one → Folds g other → one ≡ other

-- two folded graphs that differ in the numbers of their nodes alone are equal
abbrev pub RenamedAreEqual : Type 0
RenamedAreEqual = (g next : Shape) (number : ℕ → ℕ) → IsGraph g → IsFolded g → IsFolded next → IsRenaming g next number → g ≡ next

-- the order of graphs is total: it reverses with its sides, is transitive, and does not tell graphs apart that tie
abbrev pub OrderIsTotal : Type 0
OrderIsTotal = IsTotalOrder shape_cmp

-- graphs tie exactly where they are equal
abbrev pub TiesAreEqual : Type 0
TiesAreEqual = (g h : Shape) → (shape_cmp g h ≡ Equal) ↔ (g ≡ h)

-- `==` holds of graphs exactly where they are equal
abbrev pub EqualityIsExact : Type 0
EqualityIsExact = (g h : Shape) → (eq_by_cmp shape_cmp g h ≡ true) ↔ (g ≡ h)

-- graphs that are equal by `==` feed a hasher the same
abbrev pub HashRespectsEquality : Type 0
HashRespectsEquality = (g h : Shape) → eq_by_cmp shape_cmp g h ≡ true → shape_hash g ≡ shape_hash h

-- folding by a function: it gives a fold of each graph, which is the only one, to fold twice is to fold once, and the fold
-- covers what the graph covers
pub record IsFolding (fold : Shape → Shape) : Type 0 where
  pub folds : (g : Shape) → IsGraph g → Folds g (fold g)
  pub only : (g next : Shape) → IsGraph g → Folds g next → next ≡ fold g
  pub idempotent : (g : Shape) → IsGraph g → fold (fold g) ≡ fold g
  pub covers : (g : Shape) → IsGraph g → IsCoveredBy g (fold g)
