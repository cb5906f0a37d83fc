-- What simple statements do.
use Rattle.std.specs.Prelude.{ℕ, nat_le, nat_lt, ℤ, pos, negsuc, List, [], ◌∷◌, ◌++◌, length, replicate, slice_get, slice_set, Option, Some, None, if◌then◌else◌}
use Rattle.imp_slots.specs.Plain.{Effect, Skip, Assert, SetInt, Input, ReadElement, ReadItem, MakeArray, CopyArray, WriteElement, SetNull, MakeCell, CopyLink, ReadNext, WriteNext, WriteItem}
use Rattle.imp_words.specs.declared.fault.FaultKind.TheVariants.{Length, Index, Null, Assert as Failed}
use Rattle.concrete_sem.specs.Values.{Int, Array, Variables, Cell, Heap, Attempt, Gives, Faults, LacksInput, andthen, given_or, array_at, link_at, with_number, with_link}
use Rattle.concrete_sem.specs.Evaluation.{value_of, truth_of}

-- an array of that many elements 0, up to 1,000,000
abbrev pub new_array : ℤ → Attempt (List ℤ)
new_array (pos n) = if nat_le n 1000000 then Gives (replicate n (pos 0)) else Faults Length
new_array (negsuc n) = Faults Length

abbrev pub element : List ℤ → ℤ → Attempt ℤ
element zs (pos k) = given_or Index (slice_get zs k)
element zs (negsuc k) = Faults Index

abbrev pub with_element : List ℤ → ℤ → ℤ → Attempt (List ℤ)
with_element zs (pos k) z = if nat_lt k (length zs) then Gives (slice_set zs k z) else Faults Index
with_element zs (negsuc k) z = Faults Index

-- the place of a link's cell, and the cell
abbrev pub cell_of : List Cell → Option ℕ → Attempt (ℕ × Cell)
cell_of cells None = Faults Null
cell_of cells (Some k) = andthen (given_or Null (slice_get cells k)) (λ c. Gives (k, c))

abbrev pub with_cell : Heap → ℕ → Cell → Heap
with_cell h k c = record h { cells = slice_set h.cells k c }

-- The heap and the variables after the statement.
abbrev pub take_input : List Cell → List ℤ → Variables → ℕ → Attempt (Heap × Variables)
take_input cells [] v x = LacksInput
take_input cells (z ∷ zs) v x = Gives (record { cells = cells; inputs = zs }, with_number v x (Int z))

unfoldable pub effect_of : Effect → Heap → Variables → Attempt (Heap × Variables)
effect_of Skip h v = Gives (h, v)
effect_of (Assert g) h v = andthen (truth_of v g) (λ b. if b then Gives (h, v) else Faults Failed)
effect_of (SetInt x e) h v = andthen (value_of v e) (λ z. Gives (h, with_number v x (Int z)))
effect_of (Input x) h v = take_input h.cells h.inputs v x
effect_of (ReadElement x a e) h v = andthen (value_of v e) (λ i. andthen (element (array_at v a) i) (λ z. Gives (h, with_number v x (Int z))))
effect_of (ReadItem x q) h v = andthen (cell_of h.cells (link_at v q)) (λ c. Gives (h, with_number v x (Int c.1.item)))
effect_of (MakeArray a e) h v = andthen (value_of v e) (λ n. andthen (new_array n) (λ zs. Gives (h, with_number v a (Array zs))))
effect_of (CopyArray a b) h v = Gives (h, with_number v a (Array (array_at v b)))
effect_of (WriteElement a e f) h v =
    andthen (value_of v e) (λ i. andthen (value_of v f) (λ z. andthen (with_element (array_at v a) i z) (λ zs. Gives (h, with_number v a (Array zs)))))
effect_of (SetNull p) h v = Gives (h, with_link v p None)
effect_of (MakeCell p) h v = Gives (record h { cells = h.cells ++ (record { item = pos 0; next = None } ∷ []) }, with_link v p (Some (length h.cells)))
effect_of (CopyLink p q) h v = Gives (h, with_link v p (link_at v q))
effect_of (ReadNext p q) h v = andthen (cell_of h.cells (link_at v q)) (λ c. Gives (h, with_link v p c.1.next))
effect_of (WriteNext p q) h v = andthen (cell_of h.cells (link_at v p)) (λ c. Gives (with_cell h c.0 (record { item = c.1.item; next = link_at v q }), v))
effect_of (WriteItem p e) h v = andthen (value_of v e) (λ z. andthen (cell_of h.cells (link_at v p)) (λ c. Gives (with_cell h c.0 (record { item = z; next = c.1.next }), v)))
