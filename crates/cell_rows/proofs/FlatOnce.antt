-- In a checked program each statement number stands in the table once.
use Rattle.std.proofs.lemmas.List.{reverse-append, length-reverse}
use Rattle.std.proofs.Common.{◌<◌, reverse, slice_get, Option, None, append_assoc, append-nil, ◌≡◌, ℕ, List, [], ◌∷◌, ◌++◌, length, map, Some, refl, sym, ap, ◌∙◌, subst, inl, inr}
use Rattle.std.proofs.lemmas.Option.{slice_get_within}
use Rattle.imp_slots.proofs.Distinct.{left_once, right_once, apart, once_both}
use Rattle.imp_slots.specs.Plain.{Layout, Code, Stop, Simple, If, While, Call, Break, Routine, code_numbers}
use Rattle.imp_slots.specs.Fits.{Distinct, FitsCall, FitsCode, IsChecked, routine_numbers}
use Rattle.cell_names.specs.declared.frame.Point.TheVariants.{Entry}
use Rattle.batch_meaning.proofs.Procedures.{FitBack, fit_back}
use Rattle.base_values.proofs.Members.{Member, in_left, in_right, keys, either, keys_both}
use Rattle.cell_rows.specs.Names.{CallsBelow, AllFine}
use Rattle.cell_rows.specs.Targets.{Text, texts}
use Rattle.cell_rows.specs.Flat.{flat_of, flat}
use Rattle.cell_rows.proofs.Arriving.{keys_texts}
use Rattle.cell_rows.proofs.Checked.{distinct_part, own_part, once_nested}

keys_flat_of : (c : Routine) (e : List Routine) (xs : List (ℕ × Text)) → keys (map (flat_of c e) xs) ≡ keys xs
keys_flat_of c e [] = refl
keys_flat_of c e (x ∷ xs) = ap (λ k. x.0 ∷ k) (keys_flat_of c e xs)

-- the table's numbers are those of the procedures
pub keys_flat : (ps : List Routine) → keys (flat ps) ≡ routine_numbers ps
keys_flat [] = refl
keys_flat (c ∷ earlier) =
    keys_both (map (flat_of c earlier) (texts c.code Entry)) (flat earlier)
    ∙ ap (λ k. k ++ keys (flat earlier)) (keys_flat_of c earlier (texts c.code Entry) ∙ keys_texts c.code Entry)
    ∙ ap (λ k. code_numbers c.code ++ k) (keys_flat earlier)

pub numbers_both : (xs ys : List Routine) → routine_numbers (xs ++ ys) ≡ routine_numbers xs ++ routine_numbers ys
numbers_both [] ys = refl
numbers_both (x ∷ xs) ys = ap (λ k. code_numbers x.code ++ k) (numbers_both xs ys) ∙ sym (append_assoc (code_numbers x.code) (routine_numbers xs) (routine_numbers ys))

reversed : (c : Routine) (ps : List Routine) → routine_numbers (reverse (c ∷ ps)) ≡ routine_numbers (reverse ps) ++ code_numbers c.code
reversed c ps = ap routine_numbers (reverse-append (c ∷ []) ps) ∙ numbers_both (reverse ps) (c ∷ []) ∙ ap (λ k. routine_numbers (reverse ps) ++ k) (append-nil (code_numbers c.code))

in_reversed : (n : ℕ) (ps : List Routine) → Member n (routine_numbers (reverse ps)) → Member n (routine_numbers ps)
in_reversed n [] m = m
in_reversed n (c ∷ ps) m =
    elim (either n (routine_numbers (reverse ps)) (code_numbers c.code) (subst (λ xs. Member n xs) (reversed c ps) m)) [
      | inl a ↦ in_right (code_numbers c.code) (in_reversed n ps a)
      | inr b ↦ in_left (routine_numbers ps) b
    ]

pub once_reversed : (ps : List Routine) → Distinct (routine_numbers ps) → Distinct (routine_numbers (reverse ps))
once_reversed [] d = d
once_reversed (c ∷ ps) d =
    subst Distinct (sym (reversed c ps))
    (once_both (routine_numbers (reverse ps)) (code_numbers c.code)
    (once_reversed ps (right_once (code_numbers c.code) (routine_numbers ps) d))
    (left_once (code_numbers c.code) (routine_numbers ps) d)
    (λ k m i. apart k (code_numbers c.code) (routine_numbers ps) d i (in_reversed k ps m)))

pub flat_once : (program : List Routine) → IsChecked program → Distinct (keys (flat (reverse program)))
flat_once program h = subst Distinct (sym (keys_flat (reverse program))) (once_reversed program h.numbers_once)

-- so its blocks are fine
calls_below : (before : List Routine) (l : Layout) (c : Code) → FitsCode before l c → CallsBelow (length before) c
calls_below before l Stop f = tt
calls_below before l (Simple n effect r) f = calls_below before l r f.1
calls_below before l (If n guard t e r) f = (calls_below before l t f.1, calls_below before l e f.2, calls_below before l r f.3)
calls_below before l (While n guard b r) f = (calls_below before l b f.1, calls_below before l r f.2)
calls_below before l (Call n call q r) f = (there_below before q (slice_get before q) refl f.0, calls_below before l r f.1)
  where
    there_below : (xs : List Routine) (q : ℕ) (o : Option Routine) → slice_get xs q ≡ o → FitsCall l call o → q < length xs
    there_below xs q None e f = absurd f
    there_below xs q (Some r) e f = slice_get_within xs q r e
calls_below before l (Break n r) f = calls_below before l r f

fine_back : (ps : List Routine) → FitBack ps → Distinct (routine_numbers ps) → AllFine ps
fine_back [] f d = tt
fine_back (c ∷ ps) f d =
    let k : Distinct (code_numbers c.code) = left_once (code_numbers c.code) (routine_numbers ps) d in (
      record {
        once = distinct_part (own_part c.code) k;
        nested = once_nested c.code k;
        calls = subst (λ (n : ℕ). CallsBelow n c.code) (length-reverse ps) (calls_below (reverse ps) c.layout c.code f.0);
      },
      fine_back ps f.1 (right_once (code_numbers c.code) (routine_numbers ps) d),
    )

pub all_fine : (program : List Routine) → IsChecked program → AllFine (reverse program)
all_fine program h = fine_back (reverse program) (fit_back program h) (once_reversed program h.numbers_once)
