-- A procedure that is put into a program changes no row of the others.
use Rattle.std.proofs.lemmas.List.{length-reverse, length-drop, length-take-le, reverse-append, take-append-drop, map-append}
use Rattle.std.proofs.Common.{◌≡◌, ◌<◌, ◌⊎◌, inl, inr, ℕ, zero, suc, List, [], ◌∷◌, ◌++◌, length, map, reverse, take, drop, Option, Some, None, true, false, refl, sym, ap, ◌∙◌, subst, arith, append_assoc}
use Rattle.imp_slots.specs.Plain.{Code, Routine, code_numbers}
use Rattle.imp_slots.specs.Fits.{Absent, Distinct, IsChecked, routine_numbers}
use Rattle.batch_meaning.specs.Batch.{LoopOptions}
use Rattle.batch_meaning.specs.Places.{find, if_some, main_layout}
use Rattle.cell_names.specs.declared.frame.NameFrame.{NameFrame}
use Rattle.cell_names.specs.declared.frame.NameFrame.TheVariants.{InCall, InLoop}
use Rattle.cell_names.specs.declared.frame.Point.{Point}
use Rattle.cell_names.specs.declared.frame.Point.TheVariants.{Entry, Then, Else, Body, Post, Iterate, Fix, Exit, Leap}
use Rattle.base_values.proofs.Cases.{by_test}
use Rattle.base_values.proofs.Members.{Member, here, there, in_left, in_right, key_member, either}
use Rattle.batch_meaning.proofs.Places.{found_member}
use Rattle.cell_rows.specs.Names.{Mark, mark, PathBlock, bare}
use Rattle.cell_rows.specs.Rows.{Row, enter_row, turn_row, branch_row, post_row, next_row, fix_row, exit_row, leap_row}
use Rattle.cell_rows.specs.Flat.{Flat, flat, stand_in, by_text, flat_row}
use Rattle.imp_slots.proofs.Distinct.{absent_left, absent_right, not_in, right_once, apart}
use Rattle.cell_rows.proofs.FlatOnce.{keys_flat, once_reversed}
use Rattle.imp_flow.specs.Shifts.{shift_routine, put_in, KeepRows}
use Rattle.imp_flow.specs.Owners.{owner}
use Rattle.imp_flow.proofs.ShiftCode.{numbers_shift}
use Rattle.imp_flow.proofs.ShiftRows.{found_alike, same_row}
use Rattle.std.proofs.lemmas.Option.{same_Some}

-- The program with the last procedure first.
reverse_map : {A B : Type 0} (f : A → B) (xs : List A) → reverse (map f xs) ≡ map f (reverse xs)
reverse_map f [] = refl
reverse_map f (x ∷ xs) =
    reverse-append (f x ∷ []) (map f xs)
    ∙ ap (λ ys. ys ++ f x ∷ []) (reverse_map f xs)
    ∙ sym (map-append f (reverse xs) (x ∷ []))
    ∙ ap (map f) (sym (reverse-append (x ∷ []) xs))

abbrev front : ℕ → List Routine → List Routine
front k program = reverse (drop k program)

abbrev behind : ℕ → List Routine → List Routine
behind k program = reverse (take k program)

split_back : (k : ℕ) (program : List Routine) → reverse program ≡ front k program ++ behind k program
split_back k program = ap reverse (sym (take-append-drop k program)) ∙ reverse-append (take k program) (drop k program)

put_in_back : (k : ℕ) (r : Routine) (program : List Routine) → reverse (put_in k r program) ≡ map (shift_routine k) (front k program) ++ r ∷ behind k program
put_in_back k r program =
    let rest = map (shift_routine k) (drop k program) in
    reverse-append (take k program) (r ∷ rest)
    ∙ ap (λ xs. xs ++ behind k program) (reverse-append (r ∷ []) rest)
    ∙ append_assoc (reverse rest) (r ∷ []) (behind k program)
    ∙ ap (λ xs. xs ++ r ∷ behind k program) (reverse_map (shift_routine k) (drop k program))

-- A row of a point is looked up by its statement, which stands in the program.
by_number : (engine : LoopOptions) (ps : List Routine) (w : List NameFrame) (n : ℕ) (g : PathBlock engine bare → Mark (Unit {0}) → Code → Option Row) (row : Row) → by_text engine ps w n g ≡ Some row → Member n (routine_numbers ps)
by_number engine ps w n g row e = go (find n (flat ps)) refl e
  where
    go : (o : Option Flat) → find n (flat ps) ≡ o → if_some o (λ u. g (stand_in engine ps w u) (mark u.text.front 0 tt) u.text.code) ≡ Some row → Member n (routine_numbers ps)
    go None f h = absurd cc
    go (Some u) f h = subst (λ (ns : List ℕ). Member n ns) (keys_flat ps) (key_member (n, u) (flat ps) (found_member n u (flat ps) f))

module _ (engine : LoopOptions) (ps : List Routine) where
  abbrev IsOwned : List NameFrame → Point → Type 0
  IsOwned w p = (row : Row) → flat_row engine ps w p ≡ Some row → (owner w p ≡ 0) ⊎ Member (owner w p) (routine_numbers ps)

  owned_entry : (w : List NameFrame) → IsOwned w Entry
  owned_entry [] row e = inl refl
  owned_entry (InCall n ∷ w) row e = inr (by_number engine ps w n (λ b. enter_row engine bare w b n) row e)
  owned_entry (InLoop n k ∷ w) row e = inl refl

  owned_body : (w : List NameFrame) → IsOwned w Body
  owned_body [] row e = inl refl
  owned_body (InCall n ∷ w) row e = inl refl
  owned_body (InLoop n k ∷ w) row e = inr (by_number engine ps w n (λ b. turn_row engine bare w b n k) row e)

  owned_iterate : (w : List NameFrame) (n k : ℕ) → IsOwned w (Iterate n k)
  owned_iterate w n zero row e = absurd cc
  owned_iterate w n (suc k) row e = inr (by_number engine ps w n (next_row engine bare w k) row e)

  owned : (w : List NameFrame) (p : Point) → IsOwned w p
  owned w Entry = owned_entry w
  owned w Body = owned_body w
  owned w (Then n) = λ row e. inr (by_number engine ps w n (branch_row engine bare w true) row e)
  owned w (Else n) = λ row e. inr (by_number engine ps w n (branch_row engine bare w false) row e)
  owned w (Post n) = λ row e. inr (by_number engine ps w n (post_row engine bare w) row e)
  owned w (Iterate n k) = owned_iterate w n k
  owned w (Fix n) = λ row e. inr (by_number engine ps w n (fix_row engine bare w) row e)
  owned w (Exit n) = λ row e. inr (by_number engine ps w n (exit_row engine bare w) row e)
  owned w (Leap n k) = λ row e. inr (by_number engine ps w n (leap_row engine bare w k) row e)

-- A number of the procedure that is put in is not of the others.
absent_or : (n : ℕ) (xs : List ℕ) → Absent n xs ⊎ Member n xs
absent_or n [] = inl tt
absent_or n (x ∷ xs) =
    by_test n x (λ c. Absent n (x ∷ xs) ⊎ Member n (x ∷ xs))
    (λ e. inr (subst (λ (m : ℕ). Member m (x ∷ xs)) (sym e) here))
    (λ e. elim (absent_or n xs) [
      | inl a ↦ inl (e, a)
      | inr m ↦ inr (there m)
    ])

absent_part : (n : ℕ) (xs : List Routine) (r : Routine) (ys : List Routine) → Absent n (routine_numbers (xs ++ r ∷ ys)) → Absent n (code_numbers r.code)
absent_part n [] r ys h = absent_left n (code_numbers r.code) (routine_numbers ys) h
absent_part n (x ∷ xs) r ys h = absent_part n xs r ys (absent_right n (code_numbers x.code) (routine_numbers (xs ++ r ∷ ys)) h)

module _ (k : ℕ) (b : List Routine) (r : Routine) (n : ℕ) (m : Member n (code_numbers r.code)) where
  put : (a : List Routine) → Member n (routine_numbers (map (shift_routine k) a ++ r ∷ b))
  put [] = in_left (routine_numbers b) m
  put (c ∷ a) = in_right (code_numbers (shift_routine k c).code) (put a)

  not_others : (a : List Routine) → Distinct (routine_numbers (map (shift_routine k) a ++ r ∷ b)) → Member n (routine_numbers (a ++ b)) → ⊥
  not_others [] d i = apart n (code_numbers r.code) (routine_numbers b) d m i
  not_others (c ∷ a) d i =
      let rest = routine_numbers (map (shift_routine k) a ++ r ∷ b) in
      elim (either n (code_numbers c.code) (routine_numbers (a ++ b)) i) [
        | inl j ↦ apart n (code_numbers (shift_routine k c).code) rest d (subst (λ (ns : List ℕ). Member n ns) (sym (numbers_shift k c.code)) j) (put a)
        | inr j ↦ not_others a (right_once (code_numbers (shift_routine k c).code) rest d) j
      ]

-- The rows of a program and of that with r after its first k procedures.
module _ (engine : LoopOptions) (program : List Routine) (k : ℕ) (r : Routine) (within : k < length program) where
  abbrev New : List Routine
  New = put_in k r program

  at : length (behind k program) ≡ k
  at = length-reverse (take k program) ∙ length-take-le k program (omega arith)

  same_main : (a : List Routine) → 0 < length a → main_layout (map (shift_routine k) a ++ r ∷ behind k program) ≡ main_layout (a ++ behind k program)
  same_main [] h = absurd (omega arith)
  same_main (c ∷ a) h = refl

  some_front : 0 < length (front k program)
  some_front = omega (arith, length-reverse (drop k program), length-drop k program)

  others : (w : List NameFrame) (p : Point) → Absent (owner w p) (code_numbers r.code) → flat_row engine (reverse New) w p ≡ flat_row engine (reverse program) w p
  others w p h =
      ap (λ (ps : List Routine). flat_row engine ps w p) (put_in_back k r program)
      ∙ same_row engine (map (shift_routine k) (front k program) ++ r ∷ behind k program) (front k program ++ behind k program) (same_main (front k program) some_front) w p (found_alike k (behind k program) r at (owner w p) h (front k program))
      ∙ ap (λ (ps : List Routine). flat_row engine ps w p) (sym (split_back k program))

  not_more : IsChecked New → (n : ℕ) → Member n (code_numbers r.code) → (n ≡ 0) ⊎ Member n (routine_numbers (reverse program)) → ⊥
  not_more h n m (inl z) = not_in n (code_numbers r.code) (subst (λ (j : ℕ). Absent j (code_numbers r.code)) (sym z) (absent_part 0 (take k program) r (map (shift_routine k) (drop k program)) h.no_zero)) m
  not_more h n m (inr i) =
      not_others k (behind k program) r n m (front k program)
      (subst (λ (ps : List Routine). Distinct (routine_numbers ps)) (put_in_back k r program) (once_reversed New h.numbers_once))
      (subst (λ (ps : List Routine). Member n (routine_numbers ps)) (split_back k program) i)

  kept : IsChecked New → (w : List NameFrame) (p : Point) (row : Row) → flat_row engine (reverse program) w p ≡ Some row → flat_row engine (reverse New) w p ≡ Some row
  kept h w p row e =
      elim (absent_or (owner w p) (code_numbers r.code)) [
        | inl a ↦ others w p a ∙ e
        | inr m ↦ absurd (not_more h (owner w p) m (owned engine (reverse program) w p row e))
      ]

  pub rows_keep : IsChecked New → KeepRows engine program New r
  rows_keep h = record {
    kept = kept h;
    agree = λ w p row other e f. same_Some row other (sym (kept h w p row e) ∙ f);
    others = others;
  }
