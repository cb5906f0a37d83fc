-- The matrix of a table of entries.
use Rattle.std.specs.Prelude.{◌≡◌, ℕ, ◌<◌, ◌+◌, ◌*◌, ℤ, Option, List, [], ◌∷◌, ◌++◌, length, refl}
use Rattle.std.proofs.Common.{arith, ap, sym, ◌∙◌, suc, zero, subst, length-append, add-one}
use Rattle.dbm_core.proofs.HalfLemmas.{RowsHold, CellsHold, RowsHold-push, CellsHold-push, RowsHold-more, IsMatrix-from_rows, HasEntries-from_kept, entry-kept}
use Rattle.dbm_core.proofs.NodeLemmas.{flip-even}
use Rattle.dbm_core.proofs.SameLemmas.{HasEntries-one}
use Rattle.dbm_core.specs.Half.{HalfMatrix, row_start, row_width}
use Rattle.dbm_core.specs.Nodes.{flip}
use Rattle.dbm_core.specs.Tables.{TablesHaveEntries, TablesDetermine, then_row, rows, matrix_of}

-- so far the list has f's values: n rows, and j pairs of the next
pub record Holds (f : ℕ → ℕ → Option ℤ) (v : List (Option ℤ)) (n j : ℕ) : Type 0 where
  pub size : length v ≡ row_start n + j
  pub rows_held : RowsHold (λ i j x. x ≡ f i j) v n
  pub cells : CellsHold (λ i j x. x ≡ f i j) v n j

then_row-holds : (f : ℕ → ℕ → Option ℤ) (front : List (Option ℤ)) (n j : ℕ) → Holds f front n 0 → Holds f (then_row front (f n) j) n j
then_row-holds f front n zero h = h
then_row-holds f front n (suc j) h =
    let p : Holds f (then_row front (f n) j) n j = then_row-holds f front n j h in
    record {
      size = omega (arith, p.size, length-append (then_row front (f n) j) (f n j ∷ []));
      rows_held = RowsHold-push (λ i j x. x ≡ f i j) (then_row front (f n) j) n j (f n j) p.size p.rows_held;
      cells = subst (λ k. CellsHold (λ i j x. x ≡ f i j) (then_row front (f n) j ++ (f n j ∷ [])) n k) (add-one j)
          (CellsHold-push (λ i j x. x ≡ f i j) (then_row front (f n) j) n j (f n j) p.size p.cells refl);
    }

rows-hold : (f : ℕ → ℕ → Option ℤ) (n : ℕ) → Holds f (rows f n) n 0
rows-hold f zero = record { size = refl; rows_held = λ i j l w. absurd (omega arith); cells = λ j l. absurd (omega arith) }
rows-hold f (suc n) =
    let p : Holds f (then_row (rows f n) (f n) (row_width n)) n (row_width n) = then_row-holds f (rows f n) n (row_width n) (rows-hold f n) in
    record {
      size = omega (arith, p.size);
      rows_held = subst (RowsHold (λ i j x. x ≡ f i j) (then_row (rows f n) (f n) (row_width n))) (add-one n)
          (RowsHold-more (λ i j x. x ≡ f i j) (then_row (rows f n) (f n) (row_width n)) n p.rows_held p.cells);
      cells = λ j l. absurd (omega arith);
    }

pub tables-have_entries : TablesHaveEntries
unfolding matrix_of
tables-have_entries kinds f few c =
    let p : Holds f (rows f (2 * length kinds)) (2 * length kinds) 0 = rows-hold f (2 * length kinds) in
    let m : HalfMatrix = record { kinds = kinds; kept = rows f (2 * length kinds) } in
    HasEntries-from_kept kinds f m
    (IsMatrix-from_rows (λ i j x. x ≡ f i j) m few (omega (arith, p.size)) p.rows_held (λ h a b l q r. q ∙ diagonal h l ∙ sym r))
    refl c (λ i j l w. entry-kept m i j w ∙ p.rows_held i j l w)
  where
    diagonal : (h : ℕ) → h < length kinds → f (2 * h) (2 * h) ≡ f (2 * h + 1) (2 * h + 1)
    diagonal h l =
        let e : flip (2 * h) ≡ 2 * h + 1 = flip-even (2 * h) (omega arith) in
        c (2 * h) (2 * h) (omega arith) (omega arith) ∙ ap (λ k. f k (flip (2 * h))) e ∙ ap (f (2 * h + 1)) e

pub tables-determine : TablesDetermine
tables-determine kinds f m few c h = HasEntries-one kinds f m (matrix_of kinds f) h (tables-have_entries kinds f few c)
