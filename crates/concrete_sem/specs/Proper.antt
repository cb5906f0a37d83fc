-- Heaps and variables that are as a program's layouts say.
use Rattle.std.specs.Prelude.{◌≡◌, ℕ, ◌<◌, ◌≤◌, List, [], ◌∷◌, length, Option, Some, None, true, false, All}
use Rattle.std.specs.List.{AllZip}
use Rattle.imp_slots.specs.Plain.{Numeric, Layout}
use Rattle.concrete_sem.specs.Values.{Number, Int, Array, Variables, Cell, Heap, IsWord}

-- null, or one of so many cells
abbrev pub IsLink : ℕ → Option ℕ → Type 0
IsLink cells None = Unit {0}
IsLink cells (Some k) = k < cells

abbrev pub IsCell : ℕ → Cell → Type 0
IsCell cells c = IsWord c.item × IsLink cells c.next

-- a value of the slot's kind
abbrev pub IsNumber : Numeric → Number → Type 0
IsNumber k (Int z) = (k.is_array ≡ false) × IsWord z
IsNumber k (Array zs) = (k.is_array ≡ true) × (length zs ≤ 1000000) × All IsWord zs

pub record AreVariables (cells : ℕ) (l : Layout) (v : Variables) : Type 0 where
  pub numbers : AllZip IsNumber l.numbers v.numbers
  pub count : length v.links ≡ length l.links
  pub links : All (IsLink cells) v.links

-- variables of frames with these layouts
abbrev pub AreFrames : ℕ → List Variables → List Layout → Type 0
AreFrames cells [] [] = Unit {0}
AreFrames cells [] (l ∷ ls) = ⊥
AreFrames cells (v ∷ vs) [] = ⊥
AreFrames cells (v ∷ vs) (l ∷ ls) = AreVariables cells l v × AreFrames cells vs ls

-- A heap, and the variables of frames with these layouts, both the last frame's first.
pub record IsProper (h : Heap) (vs : List Variables) (ls : List Layout) : Type 0 where
  pub cells : All (IsCell (length h.cells)) h.cells
  pub inputs : All IsWord h.inputs
  pub frames : AreFrames (length h.cells) vs ls
