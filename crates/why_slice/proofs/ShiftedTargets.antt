-- The targets of a location where a simple statement that the location does not name is exchanged.
use Rattle.std.specs.Str.{bytes_eq}
use Rattle.std.proofs.lemmas.List.{reverse-append}
use Rattle.std.proofs.Common.{◌≡◌, ◌≢◌, ℕ, zero, suc, List, [], ◌∷◌, ◌++◌, length, map, reverse, Option, Some, None, Bool, true, false, if◌then◌else◌, ◌==◌, refl, sym, ap, ◌∙◌, subst}
use Rattle.imp_syntax.specs.declared.edit.Location.{Location}
use Rattle.imp_syntax.specs.declared.edit.Location.TheVariants.{Before, After, Head, End}
use Rattle.imp_slots.specs.Plain.{Effect, Invoke, Code, Stop, Simple, If, While, Call, Break, Routine, code_numbers}
use Rattle.imp_slots.specs.Fits.{Absent, routine_numbers}
use Rattle.imp_chains.specs.Chains.{calls_to, extended, through, chains_within, ending_in, selected, has, holder_from, holder, named_from, has_while, is_while}
use Rattle.batch_meaning.specs.Places.{find, if_some, from}
use Rattle.batch_meaning.specs.Answers.{Found, In, Misses, found_or, found_loop, procedure_of}
use Rattle.batch_meaning.proofs.Places.{found_member}
use Rattle.imp_words.specs.declared.refusal.QueryRefusal.TheVariants.{NoStatement, NoProcedure}
use Rattle.cell_names.specs.declared.frame.Point.TheVariants.{Entry, Post, Fix}
use Rattle.base_values.proofs.Cases.{by_test}
use Rattle.cell_rows.specs.Names.{number}
use Rattle.cell_rows.specs.Rows.{last_point}
use Rattle.cell_rows.specs.Targets.{Text, texts, TargetStep, Go, takes, Target, to_point, callee_of, Way, way_of, way_in, way, is_loop, target_in, target, all_targets, targets}
use Rattle.cell_rows.proofs.Arriving.{keys_texts}
use Rattle.cell_rows.proofs.Lookup.{then_some}
use Rattle.why_slice.specs.Upstream.{statement_at}
use Rattle.why_slice.specs.Exchanged.{OnlySimple, IsSimple}
use Rattle.why_slice.proofs.Shifted.{shift_number, shift_point, shift_other, find_shifted, swap, swap_text, last_shifted, texts_shifted}
use Rattle.why_slice.proofs.ShiftedRows.{swap_routine, swap_all, length_swapped, from_swapped, known_texts, simple_from}
use Rattle.cell_rows.proofs.FlatOnce.{numbers_both}
use Rattle.std.proofs.lemmas.Option.{same_Some}
use Rattle.imp_slots.proofs.Distinct.{absent_both, absent_left, absent_right}

absent_has : (n : ℕ) (xs : List ℕ) → Absent n xs → has n xs ≡ false
absent_has n [] a = refl
absent_has n (x ∷ xs) a = by_test n x (λ c. (if c then true else has n xs) ≡ false) (λ e. absurd (a.0 e)) (λ e. absent_has n xs a.1)

pub absent_reversed : (n : ℕ) (ps : List Routine) → Absent n (routine_numbers ps) → Absent n (routine_numbers (reverse ps))
absent_reversed n [] a = tt
absent_reversed n (r ∷ ps) a =
    subst (Absent n) (sym (ap routine_numbers (reverse-append (r ∷ []) ps) ∙ numbers_both (reverse ps) (r ∷ [])))
    (absent_both n (routine_numbers (reverse ps)) (routine_numbers (r ∷ [])) (absent_reversed n ps (absent_right n (code_numbers r.code) (routine_numbers ps) a))
    (absent_both n (code_numbers r.code) [] (absent_left n (code_numbers r.code) (routine_numbers ps) a) tt))

absent_from : (n : ℕ) (ps : List Routine) (q : ℕ) → Absent n (routine_numbers ps) → Absent n (routine_numbers (from ps q))
absent_from n [] q a = a
absent_from n (r ∷ ps) q a = by_test q (length ps) (λ c. Absent n (routine_numbers (if c then r ∷ ps else from ps q))) (λ e. a) (λ e. absent_from n ps q (absent_right n (code_numbers r.code) (routine_numbers ps) a))

simple_both : (s : ℕ) (xs ys : List Routine) → IsSimple s xs → IsSimple s ys → IsSimple s (xs ++ ys)
simple_both s [] ys a b = b
simple_both s (x ∷ xs) ys a b = (a.0, simple_both s xs ys a.1 b)

pub simple_reversed : (s : ℕ) (ps : List Routine) → IsSimple s ps → IsSimple s (reverse ps)
simple_reversed s [] h = tt
simple_reversed s (r ∷ ps) h = subst (IsSimple s) (sym (reverse-append (r ∷ []) ps)) (simple_both s (reverse ps) (r ∷ []) (simple_reversed s ps h.1) (h.0, tt))

module _ (s t : ℕ) (f : Effect) where
  abbrev all : List Routine → List Routine
  all = swap_all s t f

  swapped_both : (xs ys : List Routine) → all (xs ++ ys) ≡ all xs ++ all ys
  swapped_both [] ys = refl
  swapped_both (x ∷ xs) ys = ap (λ k. swap_routine s t f x ∷ k) (swapped_both xs ys)

  pub swapped_reversed : (ps : List Routine) → reverse (all ps) ≡ all (reverse ps)
  swapped_reversed [] = refl
  swapped_reversed (r ∷ ps) =
      reverse-append (swap_routine s t f r ∷ []) (all ps) ∙ ap (λ k. k ++ swap_routine s t f r ∷ []) (swapped_reversed ps)
      ∙ sym (ap all (reverse-append (r ∷ []) ps) ∙ swapped_both (reverse ps) (r ∷ []))

  -- chains
  calls_same : (p : ℕ) (c : Code) → calls_to p (swap s t f c) ≡ calls_to p c
  calls_same p Stop = refl
  calls_same p (Simple n e r) = calls_same p r
  calls_same p (If n g x y r) = rw (calls_same p x, calls_same p y, calls_same p r) refl
  calls_same p (While n g b r) = rw (calls_same p b, calls_same p r) refl
  calls_same p (Call n i q r) = ap (λ k. if p == q then n ∷ k else k) (calls_same p r)
  calls_same p (Break n r) = calls_same p r

  through_same : (a b : ℕ → List (List ℕ)) → ((k : ℕ) → a k ≡ b k) → (k : ℕ) (rs : List Routine) (p : ℕ) → through a k (all rs) p ≡ through b k rs p
  through_same a b h k [] p = refl
  through_same a b h k (r ∷ rs) p =
      ap (λ zs. extended zs (calls_to p (swap s t f r.code)) ++ through a (suc k) (all rs) p) (h k)
      ∙ ap (λ ns. extended (b k) ns ++ through a (suc k) (all rs) p) (calls_same p r.code)
      ∙ ap (λ zs. extended (b k) (calls_to p r.code) ++ zs) (through_same a b h (suc k) rs p)

  within_same : (most : ℕ) (program : List Routine) (p : ℕ) → chains_within most (all program) p ≡ chains_within most program p
  within_same zero program p = refl
  within_same (suc most) program p =
      ap (λ k. if suc p == k then [] ∷ [] else through (chains_within most (all program)) 0 (all program) p) (length_swapped s t f program)
      ∙ ap (λ zs. if suc p == length program then [] ∷ [] else zs) (through_same (chains_within most (all program)) (chains_within most program) (within_same most program) 0 program p)

  pub selected_same : (program : List Routine) (p : ℕ) (string : List ℕ) → selected (all program) p string ≡ selected program p string
  selected_same program p string =
      ap (λ k. ending_in (reverse string) (chains_within k (all program) p)) (length_swapped s t f program) ∙ ap (ending_in (reverse string)) (within_same (length program) program p)

  -- places
  has_both : (n : ℕ) (xs ys us vs : List ℕ) → has n xs ≡ has n us → has n ys ≡ has n vs → has n (xs ++ ys) ≡ has n (us ++ vs)
  has_both n xs ys us vs h k = split xs ys ∙ ap (λ b. if b then true else has n ys) h ∙ ap (λ b. if has n us then true else b) k ∙ sym (split us vs)
    where
      split : (xs ys : List ℕ) → has n (xs ++ ys) ≡ (if has n xs then true else has n ys)
      split [] ys = refl
      split (x ∷ xs) ys = by_test n x (λ c. (if c then true else has n (xs ++ ys)) ≡ (if (if c then true else has n xs) then true else has n ys)) (λ e. refl) (λ e. split xs ys)

  has_same : (n : ℕ) → n ≢ s → n ≢ t → (c : Code) → has n (code_numbers (swap s t f c)) ≡ has n (code_numbers c)
  has_same n a b Stop = refl
  has_same n a b (Simple m e r) =
      by_test m s (λ c. (if n == (if c then t else m) then true else has n (code_numbers (swap s t f r))) ≡ (if n == m then true else has n (code_numbers r)))
      (λ i.
      by_test n t (λ c. (if c then true else has n (code_numbers (swap s t f r))) ≡ (if n == m then true else has n (code_numbers r))) (λ j. absurd (b j))
      (λ j. by_test n m (λ c. has n (code_numbers (swap s t f r)) ≡ (if c then true else has n (code_numbers r))) (λ k. absurd (a (k ∙ i))) (λ k. has_same n a b r)))
      (λ i. ap (λ k. if n == m then true else k) (has_same n a b r))
  has_same n a b (If m g x y r) =
      ap (λ k. if n == m then true else k)
      (has_both n (code_numbers (swap s t f x)) (code_numbers (swap s t f y) ++ code_numbers (swap s t f r)) (code_numbers x) (code_numbers y ++ code_numbers r) (has_same n a b x)
      (has_both n (code_numbers (swap s t f y)) (code_numbers (swap s t f r)) (code_numbers y) (code_numbers r) (has_same n a b y) (has_same n a b r)))
  has_same n a b (While m g x r) = ap (λ k. if n == m then true else k) (has_both n (code_numbers (swap s t f x)) (code_numbers (swap s t f r)) (code_numbers x) (code_numbers r) (has_same n a b x) (has_same n a b r))
  has_same n a b (Call m i q r) = ap (λ k. if n == m then true else k) (has_same n a b r)
  has_same n a b (Break m r) = ap (λ k. if n == m then true else k) (has_same n a b r)

  holder_same : (n : ℕ) → n ≢ s → n ≢ t → (k : ℕ) (rs : List Routine) → holder_from n k (all rs) ≡ holder_from n k rs
  holder_same n a b k [] = refl
  holder_same n a b k (r ∷ rs) = ap (λ c. if c then Some k else holder_from n (suc k) (all rs)) (has_same n a b r.code) ∙ ap (λ o. if has n (code_numbers r.code) then Some k else o) (holder_same n a b (suc k) rs)

  not_held : (k : ℕ) (rs : List Routine) → Absent t (routine_numbers rs) → holder_from t k rs ≡ None
  not_held k [] h = refl
  not_held k (r ∷ rs) h =
      ap (λ c. if c then Some k else holder_from t (suc k) rs) (absent_has t (code_numbers r.code) (absent_left t (code_numbers r.code) (routine_numbers rs) h)) ∙ not_held (suc k) rs (absent_right t (code_numbers r.code) (routine_numbers rs) h)

  while_same : (n : ℕ) (c : Code) → has_while n (swap s t f c) ≡ has_while n c
  while_same n Stop = refl
  while_same n (Simple m e r) = while_same n r
  while_same n (If m g x y r) = rw (while_same n x, while_same n y, while_same n r) refl
  while_same n (While m g x r) = rw (while_same n x, while_same n r) refl
  while_same n (Call m i q r) = while_same n r
  while_same n (Break m r) = while_same n r

  is_while_same : (n : ℕ) (rs : List Routine) → is_while n (all rs) ≡ is_while n rs
  is_while_same n [] = refl
  is_while_same n (r ∷ rs) = ap (λ c. if c then true else is_while n (all rs)) (while_same n r.code) ∙ ap (λ c. if has_while n r.code then true else c) (is_while_same n rs)

  named_same : (x : List ℕ) (k : ℕ) (rs : List Routine) → named_from x k (all rs) ≡ named_from x k rs
  named_same x k [] = refl
  named_same x k (r ∷ rs) = ap (λ o. if bytes_eq x r.name then Some k else o) (named_same x (suc k) rs)

  -- The location does not name the exchanged statement.
  abbrev pub Elsewhere : Location → Type 0
  Elsewhere l = statement_at l ≡ Some s → ⊥

  module _ (program : List Routine) (fresh : Absent t (routine_numbers program)) where
    held_same : (n : ℕ) → n ≢ s → (p : ℕ) → found_or NoStatement (holder n program) ≡ In p → holder n (all program) ≡ holder n program
    held_same n a p e =
        by_test n t (λ c. holder n (all program) ≡ holder n program)
        (λ i. absurd (no_place (sym (ap (found_or NoStatement) (ap (λ k. holder k program) i ∙ not_held 0 program fresh)) ∙ e)))
        (λ i. holder_same n a i 0 program)
      where
        no_place : Misses NoStatement ≡ In p → ⊥
        no_place e = absurd cc

    of_loop : (b : Bool) (x : Found) (p : ℕ) → found_loop b x ≡ In p → x ≡ In p
    of_loop true (In q) p e = e
    of_loop false (In q) p e = absurd cc
    of_loop b (Misses r) p e = absurd cc

    pub procedure_same : (l : Location) (p : ℕ) → Elsewhere l → procedure_of program l ≡ In p → procedure_of (all program) l ≡ In p
    procedure_same (Before n) p a e = ap (found_or NoStatement) (held_same n (λ i. a (ap (λ n. Some n) i)) p e) ∙ e
    procedure_same (After n) p a e = ap (found_or NoStatement) (held_same n (λ i. a (ap (λ n. Some n) i)) p e) ∙ e
    procedure_same (Head n) p a e =
        ap (λ b. found_loop b (found_or NoStatement (holder n (all program)))) (is_while_same n program)
        ∙ ap (λ o. found_loop (is_while n program) (found_or NoStatement o)) (held_same n (λ i. a (ap (λ n. Some n) i)) p (of_loop (is_while n program) (found_or NoStatement (holder n program)) p e))
        ∙ e
    procedure_same (End x) p a e = ap (found_or NoProcedure) (named_same x 0 program) ∙ e

  -- ways
  text_shifted : (c : Code) (n : ℕ) (u : Text) → OnlySimple s c → Absent t (code_numbers c) → n ≢ s → find n (texts c Entry) ≡ Some u → find n (texts (swap s t f c) Entry) ≡ Some (swap_text s t f u)
  text_shifted c n u h a o e =
      subst (λ k. find k (texts (swap s t f c) Entry) ≡ Some (swap_text s t f u)) (shift_other s t n o)
      (ap (find (shift_number s t n)) (texts_shifted s t f c Entry h) ∙ find_shifted s t (swap_text s t f) n u (texts c Entry) (subst (Absent t) (sym (keys_texts c Entry)) a) e)

  called_other : (d : Code) (k : Invoke × ℕ) → OnlySimple s d → callee_of d ≡ Some k → (number d ≢ s) × (callee_of (swap s t f d) ≡ Some k)
  called_other Stop k h e = absurd cc
  called_other (Simple n x r) k h e = absurd cc
  called_other (If n g x y r) k h e = absurd cc
  called_other (While n g x r) k h e = absurd cc
  called_other (Call n i q r) k h e = (h.0, e)
  called_other (Break n r) k h e = absurd cc

  -- A way in a program is one in the other, to the other procedures.
  record Leads (o : Option Way) (w : Way) : Type 0 where
    leads : o ≡ Some (way_of w.steps (all w.procs))
    simple : IsSimple s w.procs
    fresh : Absent t (routine_numbers w.procs)

  way_in_shifted : (n : ℕ) (ss : List TargetStep) (ps : List Routine) (w : Way) → IsSimple s ps → Absent t (routine_numbers ps) → way_in n ss ps ≡ Some w → Leads (way_in n ss (all ps)) w
  way_in_shifted n ss [] w h a e = absurd cc
  way_in_shifted n ss (r ∷ earlier) w h a e =
      let x = then_some (find n (texts r.code Entry)) (λ t. if_some (callee_of t.code) (λ q. Some (way_of (ss ++ (takes t.loops ++ Go n ∷ [])) (from earlier q.1)))) w e in
      let u = x.0 in
      let y = then_some (callee_of u.code) (λ q. Some (way_of (ss ++ (takes u.loops ++ Go n ∷ [])) (from earlier q.1))) w x.2 in
      let k = (known_texts s t f r.code Entry h.0).at (n, u) (found_member n u (texts r.code Entry) x.1) in
      let c = called_other u.code y.0 k.1 y.1 in
      let i : way_of (ss ++ (takes u.loops ++ Go n ∷ [])) (from earlier y.0.1) ≡ w = same_Some _ _ y.2 in
      let later = absent_right t (code_numbers r.code) (routine_numbers earlier) a in
      subst (Leads (way_in n ss (all (r ∷ earlier)))) i (record {
        leads = ap (λ o. if_some o (λ t. if_some (callee_of t.code) (λ q. Some (way_of (ss ++ (takes t.loops ++ Go n ∷ [])) (from (all earlier) q.1))))) (text_shifted r.code n u h.0 (absent_left t (code_numbers r.code) (routine_numbers earlier) a) (λ j. c.0 (sym k.0 ∙ j)) x.1)
            ∙ ap (λ o. if_some o (λ q. Some (way_of (ss ++ (takes u.loops ++ Go n ∷ [])) (from (all earlier) q.1)))) c.1
            ∙ ap (λ qs. Some (way_of (ss ++ (takes u.loops ++ Go n ∷ [])) qs)) (from_swapped s t f earlier y.0.1);
        simple = simple_from s t f earlier y.0.1 h.1;
        fresh = absent_from t earlier y.0.1 later;
      })

  way_shifted : (ps : List Routine) (z : List ℕ) (w : Way) → IsSimple s ps → Absent t (routine_numbers ps) → way ps z ≡ Some w → Leads (way (all ps) z) w
  way_shifted ps [] w h a e = subst (Leads (way (all ps) [])) (same_Some _ _ e) (record { leads = refl; simple = h; fresh = a })
  way_shifted ps (n ∷ z) w h a e =
      let x = then_some (way ps z) (λ x. way_in n x.steps x.procs) w e in
      let l = way_shifted ps z x.0 h a x.1 in
      let i = way_in_shifted n x.0.steps x.0.procs w l.simple l.fresh x.2 in
      record { leads = ap (λ o. if_some o (λ x. way_in n x.steps x.procs)) l.leads ∙ i.leads; simple = i.simple; fresh = i.fresh }

  abbrev pub shift_target : Target → Target
  shift_target g = to_point g.steps (shift_point s t g.last)

  loop_same : (c : Code) → is_loop (swap s t f c) ≡ is_loop c
  loop_same Stop = refl
  loop_same (Simple n e r) = refl
  loop_same (If n g x y r) = refl
  loop_same (While n g b r) = refl
  loop_same (Call n i q r) = refl
  loop_same (Break n r) = refl

  target_in_shifted : (l : Location) (ss : List TargetStep) (ps : List Routine) (g : Target) → Elsewhere l → IsSimple s ps → Absent t (routine_numbers ps) → target_in l ss ps ≡ Some g → target_in l ss (all ps) ≡ Some (shift_target g)
  target_in_shifted l ss [] g o h a e = absurd cc
  target_in_shifted (Before n) ss (r ∷ earlier) g o h a e =
      let x = then_some (find n (texts r.code Entry)) (λ t. Some (to_point (ss ++ takes t.loops) t.front)) g e in
      ap (λ o. if_some o (λ t. Some (to_point (ss ++ takes t.loops) t.front))) (text_shifted r.code n x.0 h.0 (absent_left t (code_numbers r.code) (routine_numbers earlier) a) (λ i. o (ap (λ n. Some n) i)) x.1)
      ∙ ap (λ g. Some (shift_target g)) (same_Some _ _ x.2)
  target_in_shifted (After n) ss (r ∷ earlier) g o h a e =
      let x = then_some (find n (texts r.code Entry)) (λ t. Some (to_point (ss ++ takes t.loops) (Post n))) g e in
      let i : n ≢ s = λ i. o (ap (λ n. Some n) i) in
      ap (λ o. if_some o (λ t. Some (to_point (ss ++ takes t.loops) (Post n)))) (text_shifted r.code n x.0 h.0 (absent_left t (code_numbers r.code) (routine_numbers earlier) a) i x.1)
      ∙ ap (λ k. Some (to_point (ss ++ takes x.0.loops) (Post k))) (sym (shift_other s t n i))
      ∙ ap (λ g. Some (shift_target g)) (same_Some _ _ x.2)
  target_in_shifted (Head n) ss (r ∷ earlier) g o h a e =
      let x = then_some (find n (texts r.code Entry)) (λ t. if is_loop t.code then Some (to_point (ss ++ takes t.loops) (Fix n)) else None) g e in
      ap (λ o. if_some o (λ t. if is_loop t.code then Some (to_point (ss ++ takes t.loops) (Fix n)) else None)) (text_shifted r.code n x.0 h.0 (absent_left t (code_numbers r.code) (routine_numbers earlier) a) (λ i. o (ap (λ n. Some n) i)) x.1)
      ∙ ap (λ b. if b then Some (to_point (ss ++ takes x.0.loops) (Fix n)) else None) (loop_same x.0.code)
      ∙ by (is_loop x.0.code) (to_point (ss ++ takes x.0.loops) (Fix n)) x.2 refl
    where
      by : (b : Bool) (d : Target) → (if b then Some d else None) ≡ Some g → shift_target d ≡ d → (if b then Some d else None) ≡ Some (shift_target g)
      by true d e i = ap (λ d. Some d) (sym i) ∙ ap (λ g. Some (shift_target g)) (same_Some _ _ e)
      by false d e i = absurd cc
  target_in_shifted (End x) ss (r ∷ earlier) g o h a e =
      ap (λ q. if bytes_eq x r.name then Some (to_point ss q) else None) (last_shifted s t f r.code Entry h.0) ∙ by (bytes_eq x r.name) e
    where
      by : (b : Bool) → (if b then Some (to_point ss (last_point r.code Entry)) else None) ≡ Some g → (if b then Some (to_point ss (shift_point s t (last_point r.code Entry))) else None) ≡ Some (shift_target g)
      by true e = ap (λ g. Some (shift_target g)) (same_Some _ _ e)
      by false e = absurd cc

  module _ (program : List Routine) (simple : IsSimple s program) (fresh : Absent t (routine_numbers program)) (l : Location) (elsewhere : Elsewhere l) where
    target_shifted : (z : List ℕ) (g : Target) → target program l z ≡ Some g → target (all program) l z ≡ Some (shift_target g)
    target_shifted z g e =
        let x = then_some (way (reverse program) z) (λ x. target_in l x.steps x.procs) g e in
        let w = way_shifted (reverse program) z x.0 (simple_reversed s program simple) (absent_reversed t program fresh) x.1 in
        ap (λ ps. if_some (way ps z) (λ x. target_in l x.steps x.procs)) (swapped_reversed program)
        ∙ ap (λ o. if_some o (λ x. target_in l x.steps x.procs)) w.leads
        ∙ target_in_shifted l x.0.steps x.0.procs g elsewhere w.simple w.fresh x.2

    all_shifted : (zs : List (List ℕ)) (ts : List Target) → all_targets (target program l) zs ≡ Some ts → all_targets (target (all program) l) zs ≡ Some (map shift_target ts)
    all_shifted [] ts e = ap (λ ts. Some (map shift_target ts)) (same_Some _ _ e)
    all_shifted (z ∷ zs) ts e =
        let x = then_some (target program l z) (λ t. if_some (all_targets (target program l) zs) (λ ts. Some (t ∷ ts))) ts e in
        let y = then_some (all_targets (target program l) zs) (λ ts. Some (x.0 ∷ ts)) ts x.2 in
        ap (λ o. if_some o (λ t. if_some (all_targets (target (all program) l) zs) (λ ts. Some (t ∷ ts)))) (target_shifted z x.0 x.1)
        ∙ ap (λ o. if_some o (λ ts. Some (shift_target x.0 ∷ ts))) (all_shifted zs y.0 y.1)
        ∙ ap (λ ts. Some (map shift_target ts)) (same_Some _ _ y.2)

    pub targets_shifted : (p : ℕ) (string : List ℕ) (ts : List Target) → targets program p l string ≡ Some ts → targets (all program) p l string ≡ Some (map shift_target ts)
    targets_shifted p string ts e = ap (all_targets (target (all program) l)) (selected_same program p string) ∙ all_shifted (selected program p string) ts e
