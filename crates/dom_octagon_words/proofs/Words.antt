-- The words of octagons.
use Rattle.std.specs.Prelude.{◌≡◌, ℕ, ◌*◌, ◌<◌, ◌≤◌, ◌/◌, ◌%◌, ℤ, pos, List, [], ◌∷◌, length, Option, Some, None, option_map, Bool, true, if◌then◌else◌}
use Rattle.std.proofs.Common.{refl, sym, ap, ◌∙◌, arith, subst}
use Rattle.base_values.proofs.Cases.{by_bool}
use Rattle.dbm_core.proofs.HalfLemmas.{entry-coherent}
use Rattle.dbm_core.proofs.NodeLemmas.{flip_below}
use Rattle.dbm_core.proofs.TableLemmas.{tables-have_entries, tables-determine}
use Rattle.dbm_core.specs.Half.{HalfMatrix, HasEntries, entry, nodes}
use Rattle.dbm_core.specs.Nodes.{flip}
use Rattle.dbm_core.specs.Tables.{matrix_of}
use Rattle.dbm_close.specs.declared.closed.Closed.{Closed}
use Rattle.dbm_close.specs.declared.closed.Closed.TheVariants.{Empty, Matrix}
use Rattle.imp_slots.specs.Plain.{Layout}
use Rattle.cert_words.proofs.Numbers.{word_is}
use Rattle.cert_words.specs.Claims.{AreSmall}
use Rattle.cert_words.specs.States.{AreWords}
use Rattle.cert_words.specs.Words.{is_number}
use Rattle.dom_octagon_meaning.proofs.Fitting.{FitsMatrix, fits_matrix-true, true-fits_matrix, kinds_few}
use Rattle.dom_octagon_meaning.specs.Covers.{fits, in_limits}
use Rattle.dom_octagon_meaning.specs.Domain.{octagons}
use Rattle.dom_octagon_meaning.specs.Operations.{kinds_of}
use Rattle.dom_octagon_words.specs.Words.{at_place, table_told, state_words, word_at, are_entries, matrix_with, state_in, empty_of, bounded_of, kept_of, last_kinds, state_of}
use Rattle.dom_octagon_words.proofs.Below.{place_within}
use Rattle.dom_octagon_words.proofs.Entries.{AreEntries, entries-true, true-entries, limits-small, small-words}
use Rattle.dom_octagon_words.proofs.Tables.{table-length, table-word, table-back, table-same}
use Rattle.std.proofs.lemmas.Option.{same_Some}

told_some : (s : Closed) → state_words s ≡ [] → ⊥
told_some Empty e = cc
told_some (Matrix m) e = cc

-- ---- what is told is small

matrix_small : (kinds : List Bool) (m : HalfMatrix) → FitsMatrix kinds m → AreSmall (table_told (nodes m) (entry m))
matrix_small kinds m h = small-words (at_place (nodes m) (entry m)) 0 (nodes m * nodes m)
    (λ p _ l. let w = place_within (nodes m) p (omega (arith, l)) in limits-small (entry m (p / nodes m) (p % nodes m)) (h.limits (p / nodes m) (p % nodes m) w.0 w.1))

told_small : (ls : List Layout) (s : Closed) → fits s ls ≡ true → AreSmall (state_words s)
unfolding fits
told_small ls Empty h = (omega arith, tt)
told_small [] (Matrix m) h = cc
told_small (l ∷ ls) (Matrix m) h = (omega arith, matrix_small (kinds_of l.numbers) m (fits_matrix-true l m h))

-- ---- what is told is taken back

table_entries : (kinds : List Bool) (m : HalfMatrix) → FitsMatrix kinds m → AreEntries (table_told (nodes m) (entry m)) (nodes m)
table_entries kinds m h =
    let at = table-word (nodes m) (entry m) in
    record {
      size = table-length (nodes m) (entry m);
      limits = λ i j hi hj. ap in_limits (at i j hi hj) ∙ h.limits i j hi hj;
      coherent = λ i j hi hj. at i j hi hj ∙ entry-coherent m h.matrix i j hi hj ∙ sym (at (flip j) (flip i) (flip_below j (length m.kinds) hj) (flip_below i (length m.kinds) hi));
      diagonal = λ i hi. at i i hi hi ∙ h.diagonal i hi;
    }

matrix_back : (kinds : List Bool) (m : HalfMatrix) → FitsMatrix kinds m → matrix_with m.kinds (table_told (nodes m) (entry m)) ≡ Some m
matrix_back kinds m h =
    let ws : List (Option ℤ) = table_told (nodes m) (entry m) in
    let e = table_entries kinds m h in
    let held : HasEntries m.kinds (word_at ws (nodes m)) m = record { matrix = h.matrix; same_kinds = refl; entries = λ i j hi hj. sym (table-word (nodes m) (entry m) i j hi hj) } in
    ap (λ b. if b then Some (matrix_of m.kinds (word_at ws (nodes m))) else None) (true-entries ws (nodes m) e) ∙
    ap Some (sym (tables-determine m.kinds (word_at ws (nodes m)) m h.matrix.few e.coherent held))

told_back : (ls : List Layout) (s : Closed) → fits s ls ≡ true → state_of ls (state_words s) ≡ Some s
unfolding fits
told_back ls Empty h = refl
told_back [] (Matrix m) h = cc
told_back (l ∷ ls) (Matrix m) h =
    let f = fits_matrix-true l m h in
    ap (λ o. option_map state_in (option_map Some o)) (subst (λ k. matrix_with k (table_told (nodes m) (entry m)) ≡ Some m) f.same_kinds (matrix_back (kinds_of l.numbers) m f))

-- ---- what is taken is told

abbrev IsTold : List Layout → List (Option ℤ) → Closed → Type 0
IsTold ls ws s = (fits s ls ≡ true) × (state_words s ≡ ws)

abbrev pub MatrixIsTold : List Bool → List (Option ℤ) → HalfMatrix → Type 0
MatrixIsTold kinds ws m = FitsMatrix kinds m × (table_told (nodes m) (entry m) ≡ ws)

table_exact : (kinds : List Bool) (ws : List (Option ℤ)) → length kinds ≤ 16 → AreEntries ws (2 * length kinds) → MatrixIsTold kinds ws (matrix_of kinds (word_at ws (2 * length kinds)))
table_exact kinds ws few e =
    let m : HalfMatrix = matrix_of kinds (word_at ws (2 * length kinds)) in
    let h : HasEntries kinds (word_at ws (2 * length kinds)) m = tables-have_entries kinds (word_at ws (2 * length kinds)) few e.coherent in
    let n : length m.kinds ≡ length kinds = ap length h.same_kinds in (
      record {
        matrix = h.matrix;
        same_kinds = h.same_kinds;
        diagonal = λ i hi. (let li : i < 2 * length kinds = omega arith in h.entries i i li li ∙ e.diagonal i li);
        limits = λ i j hi hj. (let li : i < 2 * length kinds = omega arith in let lj : j < 2 * length kinds = omega arith in ap in_limits (h.entries i j li lj) ∙ e.limits i j li lj);
      },
      ap (λ k. table_told (2 * k) (entry m)) n ∙ table-same (2 * length kinds) (entry m) (word_at ws (2 * length kinds)) h.entries ∙ table-back (2 * length kinds) ws e.size,
    )

pub matrix_exact : (kinds : List Bool) (ws : List (Option ℤ)) (m : HalfMatrix) → length kinds ≤ 16 → matrix_with kinds ws ≡ Some m → MatrixIsTold kinds ws m
matrix_exact kinds ws m few e =
    let n : ℕ = 2 * length kinds in
    by_bool (are_entries ws n)
    (λ k. subst (MatrixIsTold kinds ws) (same_Some (matrix_of kinds (word_at ws n)) m (sym (ap (λ b. if b then Some (matrix_of kinds (word_at ws n)) else None) k) ∙ e)) (table_exact kinds ws few (entries-true ws n k)))
    (λ k. let i : None ≡ Some m = sym (ap (λ b. if b then Some (matrix_of kinds (word_at ws n)) else None) k) ∙ e in absurd cc)

empty_exact : (ls : List Layout) (ws : List (Option ℤ)) (o : Option HalfMatrix) → empty_of ws ≡ Some o → IsTold ls (Some (pos 0) ∷ ws) (state_in o)
unfolding fits
empty_exact ls [] o e = subst (λ o. IsTold ls (Some (pos 0) ∷ []) (state_in o)) (same_Some None o e) (refl, refl)
empty_exact ls (w ∷ ws) o e = absurd cc

bounded_exact : (ls : List Layout) (ws : List (Option ℤ)) (o : Option HalfMatrix) → bounded_of (last_kinds ls) ws ≡ Some o → IsTold ls (Some (pos 1) ∷ ws) (state_in o)
unfolding fits
bounded_exact [] ws o e = absurd cc
bounded_exact (l ∷ ls) ws o e = by (matrix_with (kinds_of l.numbers) ws) refl e
  where
    by : (found : Option HalfMatrix) → matrix_with (kinds_of l.numbers) ws ≡ found → option_map Some found ≡ Some o → IsTold (l ∷ ls) (Some (pos 1) ∷ ws) (state_in o)
    by None k e = absurd cc
    by (Some m) k e =
        let x = matrix_exact (kinds_of l.numbers) ws m (kinds_few l.numbers) k in
        subst (λ o. IsTold (l ∷ ls) (Some (pos 1) ∷ ws) (state_in o)) (same_Some (Some m) o e) (true-fits_matrix l m x.0, ap (λ ws. Some (pos 1) ∷ ws) x.1)

kept_exact : (ls : List Layout) (ws : List (Option ℤ)) (o : Option HalfMatrix) → kept_of (last_kinds ls) ws ≡ Some o → IsTold ls ws (state_in o)
kept_exact ls [] o e = absurd cc
kept_exact ls (w ∷ ws) o e =
    let bounded : Option (Option HalfMatrix) = bounded_of (last_kinds ls) ws in
    by_bool (is_number 0 w)
    (λ k. subst (λ w. IsTold ls (w ∷ ws) (state_in o)) (sym (word_is 0 w k)) (empty_exact ls ws o (sym (ap (λ c. if c then empty_of ws else (if is_number 1 w then bounded else None)) k) ∙ e)))
    (λ k.
    let g : (if is_number 1 w then bounded else None) ≡ Some o = sym (ap (λ c. if c then empty_of ws else (if is_number 1 w then bounded else None)) k) ∙ e in
    by_bool (is_number 1 w)
    (λ i. subst (λ w. IsTold ls (w ∷ ws) (state_in o)) (sym (word_is 1 w i)) (bounded_exact ls ws o (sym (ap (λ c. if c then bounded else None) i) ∙ g)))
    (λ i. let j : None ≡ Some o = sym (ap (λ c. if c then bounded else None) i) ∙ g in absurd cc))

told_exact : (ls : List Layout) (ws : List (Option ℤ)) (s : Closed) → state_of ls ws ≡ Some s → IsTold ls ws s
told_exact ls ws s e = by (kept_of (last_kinds ls) ws) refl e
  where
    by : (found : Option (Option HalfMatrix)) → kept_of (last_kinds ls) ws ≡ found → option_map state_in found ≡ Some s → IsTold ls ws s
    by None k e = absurd cc
    by (Some o) k e = subst (IsTold ls ws) (same_Some (state_in o) s e) (kept_exact ls ws o k)

pub octagon_words_are : AreWords octagons state_words state_of
octagon_words_are = record { some = told_some; small = λ ls s f h. told_small ls s f; back = λ ls s f h. told_back ls s f; exact = told_exact }
