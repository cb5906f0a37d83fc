-- The rows by number of a program in which a simple statement is exchanged for another one: they shift.
use Rattle.std.specs.Option.{option_map}
use Rattle.std.proofs.lemmas.List.{map-append}
use Rattle.std.proofs.lemmas.Option.{slice_get-map}
use Rattle.std.proofs.Common.{◌≡◌, ◌≢◌, ℕ, zero, suc, List, [], ◌∷◌, ◌++◌, length, map, Option, Some, None, Bool, true, false, if◌then◌else◌, ◌==◌, refl, sym, ap, ◌∙◌, nat_lt, slice_get}
use Rattle.imp_slots.specs.Plain.{Guard, Effect, Does, Code, Stop, Simple, If, While, Call, Break, Routine}
use Rattle.imp_chains.specs.declared.widening.Widening.{Widening}
use Rattle.imp_chains.specs.Thresholds.{thresholds}
use Rattle.batch_meaning.specs.Batch.{LoopOptions}
use Rattle.batch_meaning.specs.Places.{if_some, from}
use Rattle.cell_names.specs.declared.frame.NameFrame.{NameFrame}
use Rattle.cell_names.specs.declared.frame.NameFrame.TheVariants.{InCall, InLoop}
use Rattle.cell_names.specs.declared.frame.Point.{Point}
use Rattle.cell_names.specs.declared.frame.Point.TheVariants.{Entry, Then, Else, Body, Post, Fix, Leap}
use Rattle.base_values.proofs.Cases.{by_test}
use Rattle.base_values.proofs.Members.{Each, each_more, each_both, none_there}
use Rattle.cell_rows.specs.Names.{scope_of, name, Mark, mark, PathBlock, bare, number, breaks, break_numbers, place_of, item, start_of, iterate_point, when}
use Rattle.cell_rows.specs.Rows as R
use Rattle.cell_rows.specs.Rows.{Row, One, Two, Joins, Posts, Enters, Leaves, last_point, leave_points, joined_point, next_operation, branch_row, post_row, next_row, fix_row, exit_row, leap_row, enter_row, turn_row, loop_row, joins_row}
use Rattle.cell_rows.specs.Targets.{Text, deeper, texts}
use Rattle.cell_rows.specs.Flat.{Flat, flat_of, flat}
use Rattle.cell_rows.proofs.Listed.{each_map, one}
use Rattle.why_slice.specs.Exchanged.{OnlySimple, IsSimple}
use Rattle.why_slice.proofs.Shifted.{shift_point, shift_row, shift_entry, pick_other, swap, swap_text, breaks_swapped, break_numbers_swapped, last_shifted, leave_shifted, texts_shifted}

module _ (s t : ℕ) (f : Effect) where
  abbrev pub swap_routine : Routine → Routine
  swap_routine r = record { name = r.name; layout = r.layout; code = swap s t f r.code }

  abbrev pub swap_all : List Routine → List Routine
  swap_all [] = []
  swap_all (r ∷ rs) = swap_routine r ∷ swap_all rs

  abbrev pub swap_flat : Flat → Flat
  swap_flat u = record { routine = swap_routine u.routine; earlier = swap_all u.earlier; text = swap_text s t f u.text }

  pub length_swapped : (ps : List Routine) → length (swap_all ps) ≡ length ps
  length_swapped [] = refl
  length_swapped (r ∷ ps) = ap suc (length_swapped ps)

  pub from_swapped : (ps : List Routine) (q : ℕ) → from (swap_all ps) q ≡ swap_all (from ps q)
  from_swapped [] q = refl
  from_swapped (r ∷ ps) q =
      ap (λ k. if q == k then swap_routine r ∷ swap_all ps else from (swap_all ps) q) (length_swapped ps)
      ∙ by_test q (length ps) (λ c. (if c then swap_routine r ∷ swap_all ps else from (swap_all ps) q) ≡ swap_all (if c then r ∷ ps else from ps q)) (λ e. refl) (λ e. from_swapped ps q)

  flat_texts : (r : Routine) (e : List Routine) (xs : List (ℕ × Text)) → map (flat_of (swap_routine r) (swap_all e)) (map (shift_entry s t (swap_text s t f)) xs) ≡ map (shift_entry s t swap_flat) (map (flat_of r e) xs)
  flat_texts r e [] = refl
  flat_texts r e (x ∷ xs) = ap (λ k. shift_entry s t swap_flat (flat_of r e x) ∷ k) (flat_texts r e xs)

  pub flat_shifted : (ps : List Routine) → IsSimple s ps → flat (swap_all ps) ≡ map (shift_entry s t swap_flat) (flat ps)
  flat_shifted [] h = refl
  flat_shifted (r ∷ ps) h =
      ap (λ k. map (flat_of (swap_routine r) (swap_all ps)) k ++ flat (swap_all ps)) (texts_shifted s t f r.code Entry h.0)
      ∙ ap (λ k. k ++ flat (swap_all ps)) (flat_texts r ps (texts r.code Entry))
      ∙ ap (λ k. map (shift_entry s t swap_flat) (map (flat_of r ps) (texts r.code Entry)) ++ k) (flat_shifted ps h.1)
      ∙ sym (map-append (shift_entry s t swap_flat) (map (flat_of r ps) (texts r.code Entry)) (flat ps))

  -- the thresholds of each procedure are the same
  abbrev pub SameThresholds : Widening → List Routine → Type 0
  SameThresholds w [] = Unit {0}
  SameThresholds w (r ∷ rs) = (thresholds w (swap_routine r) ≡ thresholds w r) × SameThresholds w rs

  pub simple_from : (ps : List Routine) (q : ℕ) → IsSimple s ps → IsSimple s (from ps q)
  simple_from [] q h = tt
  simple_from (r ∷ ps) q h = by_test q (length ps) (λ c. IsSimple s (if c then r ∷ ps else from ps q)) (λ e. h) (λ e. simple_from ps q h.1)

  -- What is known of a text: its number is that of its statement.
  abbrev pub KnownText : ℕ × Text → Type 0
  KnownText x = (x.0 ≡ number x.1.code) × OnlySimple s x.1.code

  pub known_texts : (c : Code) (p : Point) → OnlySimple s c → Each KnownText (texts c p)
  known_texts Stop p h = none_there KnownText
  known_texts (Simple n e r) p h = each_more KnownText (one p (Simple n e r)) _ (refl, h) (known_texts r (Post n) h)
  known_texts (If n g x y r) p h = each_more KnownText (one p (If n g x y r)) _ (refl, h) (each_both KnownText _ _ (known_texts x (Then n) h.1) (each_both KnownText _ _ (known_texts y (Else n) h.2) (known_texts r (Post n) h.3)))
  known_texts (While n g b r) p h = each_more KnownText (one p (While n g b r)) _ (refl, h) (each_both KnownText _ _ (each_map (deeper n) KnownText KnownText (λ x k. k) (texts b Body) (known_texts b Body h.1)) (known_texts r (Post n) h.2))
  known_texts (Call n i q r) p h = each_more KnownText (one p (Call n i q r)) _ (refl, h) (known_texts r (Post n) h.1)
  known_texts (Break n r) p h = each_more KnownText (one p (Break n r)) _ (refl, h) (known_texts r (Post n) h.1)

  -- What is known of an entry.
  pub record Known (w : Widening) (x : ℕ × Flat) : Type 0 where
    pub numbered : x.0 ≡ number x.1.text.code
    pub only : OnlySimple s x.1.text.code
    pub earlier : IsSimple s x.1.earlier
    pub marked : thresholds w (swap_routine x.1.routine) ≡ thresholds w x.1.routine

  pub known : (w : Widening) (ps : List Routine) → IsSimple s ps → SameThresholds w ps → Each (Known w) (flat ps)
  known w [] h m = none_there (Known w)
  known w (r ∷ ps) h m =
      each_both (Known w) _ _
      (each_map (flat_of r ps) KnownText (Known w) (λ x k. record { numbered = k.0; only = k.1; earlier = h.1; marked = m.0 }) (texts r.code Entry) (known_texts r.code Entry h.0))
      (known w ps h.1 m.1)

  module _ (engine : LoopOptions) where
    abbrev N : ℕ
    N = engine.budget

    abbrev Q : Type 0
    Q = PathBlock engine bare

    abbrev U : Type 0
    U = Mark (Unit {0})

    -- A place of the text and the point before a statement, and the same in the other program.
    abbrev place : Routine → List Routine → List ℕ → Code → Q
    place r e z c = record { scope = scope_of engine bare r e; sites = z; code = c; first = mark Entry 0 tt }

    abbrev front : Point → U
    front p = mark p 0 tt

    shifted_when : (b : Bool) (r : Row) → when engine bare b (shift_row s t r) ≡ option_map (shift_row s t) (when engine bare b r)
    shifted_when true r = refl
    shifted_when false r = refl

    shifted_iterate : (n : ℕ) (p : Point) (k : ℕ) → iterate_point engine bare n (shift_point s t p) k ≡ shift_point s t (iterate_point engine bare n p k)
    shifted_iterate n p zero = refl
    shifted_iterate n p (suc k) = refl

    shifted_joined : (n : ℕ) (body : Code) (i : ℕ) → joined_point n (swap s t f body) i ≡ shift_point s t (joined_point n body i)
    shifted_joined n body zero = refl
    shifted_joined n body (suc i) = ap (λ k. Leap n (item k i)) (break_numbers_swapped s t f body)

    module _ (w : List NameFrame) where
      shifted_joins : (stays : Bool) (n : ℕ) (body : Code) (i : ℕ) → OnlySimple s body → joins_row engine bare w stays n (swap s t f body) i ≡ option_map (shift_row s t) (joins_row engine bare w stays n body i)
      shifted_joins stays n body i h =
          ap (λ ps. if_some (slice_get ps i) (λ p. Some (Joins stays (name w (joined_point n (swap s t f body) i)) n w p))) (leave_shifted s t f body Body h)
          ∙ ap (λ o. if_some o (λ p. Some (Joins stays (name w (joined_point n (swap s t f body) i)) n w p))) (slice_get-map (shift_point s t) (leave_points body Body) i)
          ∙ ap (λ q. if_some (option_map (shift_point s t) (slice_get (leave_points body Body) i)) (λ p. Some (Joins stays (name w q) n w p))) (shifted_joined n body i)
          ∙ go (slice_get (leave_points body Body) i)
        where
          go : (o : Option Point) → if_some (option_map (shift_point s t) o) (λ p. Some (Joins stays (name w (shift_point s t (joined_point n body i))) n w p)) ≡ option_map (shift_row s t) (if_some o (λ p. Some (Joins stays (name w (joined_point n body i)) n w p)))
          go None = refl
          go (Some p) = refl

      shifted_loop : (n : ℕ) (guard : Guard) (body : Code) (k : ℕ) → OnlySimple s body → loop_row engine bare w n guard (swap s t f body) k ≡ option_map (shift_row s t) (loop_row engine bare w n guard body k)
      shifted_loop n guard body zero h = refl
      shifted_loop n guard body (suc i) h = shifted_joins false n body i h

      -- a row of a callee
      shifted_callee : (ps : List Routine) (z : List ℕ) (x : U) (g h : Code → Row) → IsSimple s ps → ((c : Code) → OnlySimple s c → h (swap s t f c) ≡ shift_row s t (g c)) →
          if_some (start_of engine bare (swap_all ps) z x) (λ d. Some (h d.code)) ≡ option_map (shift_row s t) (if_some (start_of engine bare ps z x) (λ d. Some (g d.code)))
      shifted_callee [] z x g h i k = refl
      shifted_callee (r ∷ ps) z x g h i k = ap (λ r. Some r) (k r.code i.0)

      module _ (r : Routine) (e : List Routine) (z : List ℕ) (marked : thresholds engine.widening (swap_routine r) ≡ thresholds engine.widening r) (simple : IsSimple s e) (p : Point) where
        -- What a reading of rows gives in the other program.
        abbrev Shifts : (Q → U → Code → Option Row) → Code → Type 0
        Shifts g d = g (place (swap_routine r) (swap_all e) z (swap s t f d)) (front (shift_point s t p)) (swap s t f d) ≡ option_map (shift_row s t) (g (place r e z d) (front p) d)

        pub branch_shifts : (h : Bool) (d : Code) → Shifts (branch_row engine bare w h) d
        branch_shifts h Stop = refl
        branch_shifts h (Simple n x q) = refl
        branch_shifts h (If n g a b q) = refl
        branch_shifts h (While n g b q) = refl
        branch_shifts h (Call n i k q) = refl
        branch_shifts h (Break n q) = refl

        pub turn_shifts : (n k : ℕ) (d : Code) → Shifts (λ b. turn_row engine bare w b n k) d
        turn_shifts n k Stop = refl
        turn_shifts n k (Simple m x q) = refl
        turn_shifts n k (If m g a b q) = refl
        turn_shifts n k (While m g b q) = ap (λ i. when engine bare (nat_lt k N) (One (R.Assumes g true) (name w i))) (shifted_iterate n p k) ∙ shifted_when (nat_lt k N) (One (R.Assumes g true) (name w (iterate_point engine bare n p k)))
        turn_shifts n k (Call m i j q) = refl
        turn_shifts n k (Break m q) = refl

        pub next_shifts : (k : ℕ) (d : Code) → OnlySimple s d → Shifts (next_row engine bare w k) d
        next_shifts k Stop h = refl
        next_shifts k (Simple n x q) h = refl
        next_shifts k (If n g a b q) h = refl
        next_shifts k (While n g b q) h =
            ap (λ ms. when engine bare (nat_lt k N) (Two (next_operation engine ms k) (name w (iterate_point engine bare n (shift_point s t p) k)) (name (InLoop n k ∷ w) (last_point (swap s t f b) Body)))) marked
            ∙ ap (λ i. when engine bare (nat_lt k N) (Two (next_operation engine (thresholds engine.widening r) k) (name w i) (name (InLoop n k ∷ w) (last_point (swap s t f b) Body)))) (shifted_iterate n p k)
            ∙ ap (λ l. when engine bare (nat_lt k N) (Two (next_operation engine (thresholds engine.widening r) k) (name w (shift_point s t (iterate_point engine bare n p k))) (name (InLoop n k ∷ w) l))) (last_shifted s t f b Body h.1)
            ∙ shifted_when (nat_lt k N) (Two (next_operation engine (thresholds engine.widening r) k) (name w (iterate_point engine bare n p k)) (name (InLoop n k ∷ w) (last_point b Body)))
        next_shifts k (Call n i j q) h = refl
        next_shifts k (Break n q) h = refl

        pub fix_shifts : (d : Code) → Shifts (fix_row engine bare w) d
        fix_shifts Stop = refl
        fix_shifts (Simple n x q) = refl
        fix_shifts (If n g a b q) = refl
        fix_shifts (While n g b q) = refl
        fix_shifts (Call n i k q) = refl
        fix_shifts (Break n q) = refl

        pub exit_shifts : (d : Code) → Shifts (exit_row engine bare w) d
        exit_shifts Stop = refl
        exit_shifts (Simple n x q) = refl
        exit_shifts (If n g a b q) = refl
        exit_shifts (While n g b q) = ap (λ k. when engine bare (nat_lt 0 k) (One (R.Exits g) (name w (Fix n)))) (breaks_swapped s t f b) ∙ shifted_when (nat_lt 0 (breaks b)) (One (R.Exits g) (name w (Fix n)))
        exit_shifts (Call n i k q) = refl
        exit_shifts (Break n q) = refl

        pub leap_shifts : (k : ℕ) (d : Code) → OnlySimple s d → Shifts (leap_row engine bare w k) d
        leap_shifts k Stop h = refl
        leap_shifts k (Simple n x q) h = refl
        leap_shifts k (If n g a b q) h = refl
        leap_shifts k (While n g b q) h =
            ap (λ ks. if_some (place_of k ks) (λ i. if nat_lt (suc i) (breaks (swap s t f b)) then joins_row engine bare w true n (swap s t f b) i else None)) (break_numbers_swapped s t f b)
            ∙ ap (λ m. if_some (place_of k (break_numbers b)) (λ i. if nat_lt (suc i) m then joins_row engine bare w true n (swap s t f b) i else None)) (breaks_swapped s t f b)
            ∙ go (place_of k (break_numbers b))
          where
            by : (c : Bool) (i : ℕ) → (if c then joins_row engine bare w true n (swap s t f b) i else None) ≡ option_map (shift_row s t) (if c then joins_row engine bare w true n b i else None)
            by true i = shifted_joins true n b i h.1
            by false i = refl

            go : (o : Option ℕ) → if_some o (λ i. if nat_lt (suc i) (breaks b) then joins_row engine bare w true n (swap s t f b) i else None) ≡ option_map (shift_row s t) (if_some o (λ i. if nat_lt (suc i) (breaks b) then joins_row engine bare w true n b i else None))
            go None = refl
            go (Some i) = by (nat_lt (suc i) (breaks b)) i
        leap_shifts k (Call n i j q) h = refl
        leap_shifts k (Break n q) h = refl

        pub enter_shifts : (n : ℕ) (d : Code) → Shifts (λ b. enter_row engine bare w b n) d
        enter_shifts n Stop = refl
        enter_shifts n (Simple m x q) = refl
        enter_shifts n (If m g a b q) = refl
        enter_shifts n (While m g b q) = refl
        enter_shifts n (Call m i k q) =
            ap (λ ps. if_some (start_of engine bare ps (n ∷ z) (mark Entry 1 tt)) (λ d. Some (One (Enters i.entering) (name w (shift_point s t p))))) (from_swapped e k)
            ∙ shifted_callee (from e k) (n ∷ z) (mark Entry 1 tt) (λ c. One (Enters i.entering) (name w p)) (λ c. One (Enters i.entering) (name w (shift_point s t p))) (simple_from e k simple) (λ c h. refl)
        enter_shifts n (Break m q) = refl

        -- after a statement that is not the exchanged one
        pub post_shifts : (d : Code) → OnlySimple s d → number d ≢ s → Shifts (post_row engine bare w) d
        post_shifts Stop h o = refl
        post_shifts (Simple n x q) h o = ap (λ a. Some (One (Posts (Does a)) (name w (shift_point s t p)))) (pick_other s t f n x o)
        post_shifts (If n g a b q) h o =
            ap (λ l. Some (Two R.JoinsBoth (name w l) (name w (last_point (swap s t f b) (Else n))))) (last_shifted s t f a (Then n) h.1)
            ∙ ap (λ l. Some (Two R.JoinsBoth (name w (shift_point s t (last_point a (Then n)))) (name w l))) (last_shifted s t f b (Else n) h.2)
        post_shifts (While n g b q) h o = ap (loop_row engine bare w n g (swap s t f b)) (breaks_swapped s t f b) ∙ shifted_loop n g b (breaks b) h.1
        post_shifts (Call n i k q) h o =
            ap (λ ps. if_some (start_of engine bare ps (n ∷ z) (mark Entry 1 tt)) (λ d. Some (Two (Leaves i.returning) (name w (shift_point s t p)) (name (InCall n ∷ w) (last_point d.code Entry))))) (from_swapped e k)
            ∙ shifted_callee (from e k) (n ∷ z) (mark Entry 1 tt) (λ c. Two (Leaves i.returning) (name w p) (name (InCall n ∷ w) (last_point c Entry))) (λ c. Two (Leaves i.returning) (name w (shift_point s t p)) (name (InCall n ∷ w) (last_point c Entry))) (simple_from e k simple)
            (λ c h. ap (λ l. Two (Leaves i.returning) (name w (shift_point s t p)) (name (InCall n ∷ w) l)) (last_shifted s t f c Entry h))
        post_shifts (Break n q) h o = refl
