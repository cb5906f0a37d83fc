-- Programs in which a simple statement s is exchanged for another one of number t: what is read off the text shifts.
use Rattle.std.proofs.lemmas.List.{map-append}
use Rattle.std.proofs.Common.{◌≡◌, ◌≢◌, ℕ, suc, List, [], ◌∷◌, ◌++◌, map, Some, if◌then◌else◌, ◌==◌, refl, sym, ap, ◌∙◌}
use Rattle.imp_slots.specs.Plain.{Effect, Code, Stop, Simple, If, While, Call, Break}
use Rattle.imp_slots.specs.Fits.{Absent}
use Rattle.batch_meaning.specs.Places.{find}
use Rattle.batch_meaning.proofs.Places.{found_member}
use Rattle.cell_names.specs.declared.frame.Point.{Point}
use Rattle.cell_names.specs.declared.frame.Point.TheVariants.{Entry, Then, Else, Body, Post, Iterate, Fix, Exit, Leap}
use Rattle.cell_names.specs.Paths.{CellName}
use Rattle.base_values.proofs.Cases.{by_test}
use Rattle.base_values.proofs.Members.{Member, here, there, keys}
use Rattle.cell_rows.specs.Names.{name, breaks, break_numbers}
use Rattle.cell_rows.specs.Rows.{Row, Init, One, Two, Fixed, Joins, last_point, leave_points}
use Rattle.cell_rows.specs.Targets.{Text, text, deeper, texts}
use Rattle.why_slice.specs.Exchanged.{OnlySimple}
use Rattle.std.proofs.lemmas.Option.{same_Some}

module _ (s t : ℕ) where
  abbrev pub shift_number : ℕ → ℕ
  shift_number n = if n == s then t else n

  abbrev pub shift_point : Point → Point
  shift_point Entry = Entry
  shift_point (Then n) = Then n
  shift_point (Else n) = Else n
  shift_point Body = Body
  shift_point (Post n) = Post (shift_number n)
  shift_point (Iterate n k) = Iterate n k
  shift_point (Fix n) = Fix n
  shift_point (Exit n) = Exit n
  shift_point (Leap n b) = Leap n b

  abbrev pub shift : CellName → CellName
  shift x = name x.path (shift_point x.point)

  abbrev pub shift_row : Row → Row
  shift_row (Init layout) = Init layout
  shift_row (One op a) = One op (shift a)
  shift_row (Two op a b) = Two op (shift a) (shift b)
  shift_row (Fixed n z w p) = Fixed n z w (shift_point p)
  shift_row (Joins stays l n w p) = Joins stays (shift l) n w (shift_point p)

  pub shift_other : (n : ℕ) → n ≢ s → shift_number n ≡ n
  shift_other n h = by_test n s (λ c. (if c then t else n) ≡ n) (λ e. absurd (h e)) (λ e. refl)

  pub shift_it : (n : ℕ) → n ≡ s → shift_number n ≡ t
  shift_it n h = by_test n s (λ c. (if c then t else n) ≡ t) (λ e. refl) (λ e. absurd (e h))

  shift_apart : (n k : ℕ) → n ≢ t → k ≢ t → n ≢ k → shift_number n ≢ shift_number k
  shift_apart n k a b h =
      by_test n s (λ c. (if c then t else n) ≢ shift_number k)
      (λ e. λ i. b (sym (i ∙ shift_other k (λ j. h (e ∙ sym j)))))
      (λ e. by_test k s (λ c. n ≢ (if c then t else k)) (λ j. a) (λ j. h))

  abbrev pub shift_entry : {A B : Type 0} → (A → B) → ℕ × A → ℕ × B
  shift_entry g x = (shift_number x.0, g x.1)

  not_there : {A : Type 0} (n : ℕ) (xs : List (ℕ × A)) (x : A) → Absent t (keys xs) → Member (n, x) xs → n ≢ t
  not_there n [] x a m = elim m [ ]
  not_there n (y ∷ xs) x a here = λ e. a.0 (sym e)
  not_there n (y ∷ xs) x a (there m) = not_there n xs x a.1 m

  -- What stands at a number stands, shifted, at the shifted number.
  pub find_shifted : {A B : Type 0} (g : A → B) (n : ℕ) (x : A) (xs : List (ℕ × A)) → Absent t (keys xs) → find n xs ≡ Some x → find (shift_number n) (map (shift_entry g) xs) ≡ Some (g x)
  find_shifted g n x [] a e = absurd cc
  find_shifted {A} {B} g n x (y ∷ xs) a e =
      (by_test n y.0 (λ c. (if c then Some y.1 else find n xs) ≡ Some x → (if shift_number n == shift_number y.0 then Some (g y.1) else find (shift_number n) (map (shift_entry g) xs)) ≡ Some (g x))
      (λ k e. by_test (shift_number n) (shift_number y.0) (λ c. (if c then Some (g y.1) else find (shift_number n) (map (shift_entry g) xs)) ≡ Some (g x)) (λ i. ap (λ z. Some (g z)) (same_Some _ _ e)) (λ i. absurd (i (ap shift_number k))))
      (λ k e. by_test (shift_number n) (shift_number y.0) (λ c. (if c then Some (g y.1) else find (shift_number n) (map (shift_entry g) xs)) ≡ Some (g x))
      (λ i. absurd (shift_apart n y.0 (not_there n xs x a.1 (found_member n x xs e)) (λ j. a.0 (sym j)) k i))
      (λ i. find_shifted g n x xs a.1 e))) e

  module _ (f : Effect) where
    abbrev pub pick : ℕ → Effect → Effect
    pick n e = if n == s then f else e

    pub pick_other : (n : ℕ) (e : Effect) → n ≢ s → pick n e ≡ e
    pick_other n e h = by_test n s (λ c. (if c then f else e) ≡ e) (λ k. absurd (h k)) (λ k. refl)

    pub pick_it : (n : ℕ) (e : Effect) → n ≡ s → pick n e ≡ f
    pick_it n e h = by_test n s (λ c. (if c then f else e) ≡ f) (λ k. refl) (λ k. absurd (k h))

    -- The block with the other statement.
    abbrev pub swap : Code → Code
    swap Stop = Stop
    swap (Simple n e r) = Simple (shift_number n) (pick n e) (swap r)
    swap (If n g x y r) = If n g (swap x) (swap y) (swap r)
    swap (While n g b r) = While n g (swap b) (swap r)
    swap (Call n i q r) = Call n i q (swap r)
    swap (Break n r) = Break n (swap r)

    abbrev pub swap_text : Text → Text
    swap_text u = text u.loops (shift_point u.front) (swap u.code)

    pub breaks_swapped : (c : Code) → breaks (swap c) ≡ breaks c
    breaks_swapped Stop = refl
    breaks_swapped (Simple n e r) = breaks_swapped r
    breaks_swapped (If n g x y r) = rw (breaks_swapped x, breaks_swapped y, breaks_swapped r) refl
    breaks_swapped (While n g b r) = breaks_swapped r
    breaks_swapped (Call n i q r) = breaks_swapped r
    breaks_swapped (Break n r) = ap suc (breaks_swapped r)

    pub break_numbers_swapped : (c : Code) → break_numbers (swap c) ≡ break_numbers c
    break_numbers_swapped Stop = refl
    break_numbers_swapped (Simple n e r) = break_numbers_swapped r
    break_numbers_swapped (If n g x y r) = rw (break_numbers_swapped x, break_numbers_swapped y, break_numbers_swapped r) refl
    break_numbers_swapped (While n g b r) = break_numbers_swapped r
    break_numbers_swapped (Call n i q r) = break_numbers_swapped r
    break_numbers_swapped (Break n r) = ap (λ k. n ∷ k) (break_numbers_swapped r)

    -- after a statement that is not exchanged
    behind : {A : Type 0} (g : Point → A) (n : ℕ) → n ≢ s → g (Post n) ≡ g (shift_point (Post n))
    behind g n h = ap (λ k. g (Post k)) (sym (shift_other n h))

    pub last_shifted : (c : Code) (p : Point) → OnlySimple s c → last_point (swap c) (shift_point p) ≡ shift_point (last_point c p)
    last_shifted Stop p h = refl
    last_shifted (Simple n e r) p h = last_shifted r (Post n) h
    last_shifted (If n g x y r) p h = behind (last_point (swap r)) n h.0 ∙ last_shifted r (Post n) h.3
    last_shifted (While n g b r) p h = behind (last_point (swap r)) n h.0 ∙ last_shifted r (Post n) h.2
    last_shifted (Call n i q r) p h = behind (last_point (swap r)) n h.0 ∙ last_shifted r (Post n) h.1
    last_shifted (Break n r) p h = behind (last_point (swap r)) n h.0 ∙ last_shifted r (Post n) h.1

    pub leave_shifted : (c : Code) (p : Point) → OnlySimple s c → leave_points (swap c) (shift_point p) ≡ map shift_point (leave_points c p)
    leave_shifted Stop p h = refl
    leave_shifted (Simple n e r) p h = leave_shifted r (Post n) h
    leave_shifted (If n g x y r) p h =
        rw (map-append shift_point (leave_points x (Then n)) (leave_points y (Else n) ++ leave_points r (Post n)), map-append shift_point (leave_points y (Else n)) (leave_points r (Post n)), ← leave_shifted x (Then n) h.1, ← leave_shifted y (Else n) h.2, ← leave_shifted r (Post n) h.3, ← behind (leave_points (swap r)) n h.0)
        refl
    leave_shifted (While n g b r) p h = behind (leave_points (swap r)) n h.0 ∙ leave_shifted r (Post n) h.2
    leave_shifted (Call n i q r) p h = behind (leave_points (swap r)) n h.0 ∙ leave_shifted r (Post n) h.1
    leave_shifted (Break n r) p h = ap (λ k. shift_point p ∷ k) (behind (leave_points (swap r)) n h.0 ∙ leave_shifted r (Post n) h.1)

    deeper_shifted : (n : ℕ) (xs : List (ℕ × Text)) → map (deeper n) (map (shift_entry swap_text) xs) ≡ map (shift_entry swap_text) (map (deeper n) xs)
    deeper_shifted n [] = refl
    deeper_shifted n (x ∷ xs) = ap (λ k. deeper n (shift_entry swap_text x) ∷ k) (deeper_shifted n xs)

    pub texts_shifted : (c : Code) (p : Point) → OnlySimple s c → texts (swap c) (shift_point p) ≡ map (shift_entry swap_text) (texts c p)
    texts_shifted Stop p h = refl
    texts_shifted (Simple n e r) p h = ap (λ k. (shift_number n, text [] (shift_point p) (swap (Simple n e r))) ∷ k) (texts_shifted r (Post n) h)
    texts_shifted (If n g x y r) p h =
        rw (map-append (shift_entry swap_text) (texts x (Then n)) (texts y (Else n) ++ texts r (Post n)), map-append (shift_entry swap_text) (texts y (Else n)) (texts r (Post n)), ← texts_shifted x (Then n) h.1, ← texts_shifted y (Else n) h.2, ← texts_shifted r (Post n) h.3, shift_other n h.0)
        refl
    texts_shifted (While n g b r) p h =
        rw (map-append (shift_entry swap_text) (map (deeper n) (texts b Body)) (texts r (Post n)), ← deeper_shifted n (texts b Body), ← texts_shifted b Body h.1, ← texts_shifted r (Post n) h.2, shift_other n h.0)
        refl
    texts_shifted (Call n i q r) p h = ap (λ k. (k, text [] (shift_point p) (swap (Call n i q r))) ∷ texts (swap r) (Post k)) (sym (shift_other n h.0)) ∙ ap (λ k. (shift_number n, text [] (shift_point p) (swap (Call n i q r))) ∷ k) (texts_shifted r (Post n) h.1)
    texts_shifted (Break n r) p h = ap (λ k. (k, text [] (shift_point p) (swap (Break n r))) ∷ texts (swap r) (Post k)) (sym (shift_other n h.0)) ∙ ap (λ k. (shift_number n, text [] (shift_point p) (swap (Break n r))) ∷ k) (texts_shifted r (Post n) h.1)
