-- The matrix that is made of words.
use Rattle.std.specs.Prelude.{◌≡◌, ℕ, ◌+◌, ◌*◌, ◌<◌, ◌≤◌, ℤ, List, length, Option, Bool, true, Result, Ok, Err, IfOk}
use Rattle.std.proofs.Common.{sym, ◌∙◌, arith}
use Rattle.dbm_core.proofs.HalfLemmas.{HasEntries-from_kept}
use Rattle.dbm_core.proofs.TableLemmas.{tables-determine}
use Rattle.dbm_core.specs.Half.{HalfMatrix, IsMatrix, entry, row_width}
use Rattle.dbm_core.specs.Tables.{matrix_of}
use Rattle.dom_octagon_words.specs.Words.{are_entries, word_at}
use Rattle.dom_octagon_words.proofs.Entries.{entries-true}

pub table_made : {E : Type 0} (r : Result HalfMatrix E) (kinds : List Bool) (ws : List (Option ℤ)) → length kinds ≤ 16 → are_entries ws (2 * length kinds) ≡ true →
    IfOk r IsMatrix → IfOk r (λ m. m.kinds ≡ kinds) → IfOk r (λ m. (i j : ℕ) → i < 2 * length kinds → j < row_width i → entry m i j ≡ word_at ws (2 * length kinds) i j) →
    IfOk r (λ m. m ≡ matrix_of kinds (word_at ws (2 * length kinds)))
table_made (Ok m) kinds ws few e t k h =
    let c = (entries-true ws (2 * length kinds) e).coherent in
    tables-determine kinds (word_at ws (2 * length kinds)) m few c (HasEntries-from_kept kinds (word_at ws (2 * length kinds)) m t k c h)
table_made (Err x) kinds ws few e t k h = tt

-- both entries of a slot's diagonal are 0
pub table_diagonal : (kinds : List Bool) (ws : List (Option ℤ)) → are_entries ws (2 * length kinds) ≡ true →
    (h : ℕ) (a b : Option ℤ) → h < length kinds → a ≡ word_at ws (2 * length kinds) (2 * h) (2 * h) → b ≡ word_at ws (2 * length kinds) (2 * h + 1) (2 * h + 1) → a ≡ b
table_diagonal kinds ws e h a b l p q =
    let d = (entries-true ws (2 * length kinds) e).diagonal in p ∙ d (2 * h) (omega arith) ∙ sym (d (2 * h + 1) (omega arith)) ∙ sym q
