-- What rows read of a block is the same where its callees are shifted.
use Rattle.std.proofs.lemmas.Bool.Decides.{nat_tests}
use Rattle.std.proofs.lemmas.List.{length-append, map-append}
use Rattle.std.proofs.Common.{◌≡◌, ◌<◌, ◌≤◌, ℕ, suc, List, [], ◌∷◌, ◌++◌, length, map, Some, Bool, true, false, if◌then◌else◌, nat_lt, refl, sym, ap, ◌∙◌, arith}
use Rattle.imp_slots.specs.Plain.{Code, Stop, Simple, If, While, Call, Break, Routine, code_numbers}
use Rattle.imp_chains.specs.Thresholds.{effect_literals, argument_literals, literals}
use Rattle.batch_meaning.specs.Places.{from}
use Rattle.cell_names.specs.declared.frame.Point.{Point}
use Rattle.cell_names.specs.declared.frame.Point.TheVariants.{Entry, Then, Else, Body, Post}
use Rattle.base_values.proofs.Cases.{by_test}
use Rattle.batch_meaning.proofs.Procedures.{from_behind}
use Rattle.cell_rows.specs.Names.{number}
use Rattle.cell_rows.specs.Rows.{last_point}
use Rattle.cell_rows.specs.Targets.{Text, text, deeper, texts}
use Rattle.imp_flow_rows.specs.declared.node.Leave.{Leave}
use Rattle.imp_flow_rows.specs.Shapes.{Shape}
use Rattle.imp_flow_rows.specs.Shapes as shape
use Rattle.imp_flow.specs.Nodes.{leaving, body_end, callee_end, shape_of}
use Rattle.imp_flow.specs.Shifts.{shift, shift_code, shift_routine}

-- A place below k stays, another goes up by one.
pub by_less : (k q : ℕ) (P : ℕ → Type 0) → (q < k → P q) → (k ≤ q → P (suc q)) → P (shift k q)
by_less k q P below above = go (nat_lt q k) refl
  where
    go : (c : Bool) → nat_lt q k ≡ c → P (if c then q else suc q)
    go true e = below (grind (arith, nat_tests))
    go false e = above (grind (arith, nat_tests))

pub shift_up : (k q n : ℕ) → k ≤ n → q ≡ n → shift k q ≡ suc n
shift_up k q n h e = by_less k q (λ s. s ≡ suc n) (λ l. absurd (omega arith)) (λ l. ap suc e)

pub shift_back : (k q n : ℕ) → k ≤ n → shift k q ≡ suc n → q ≡ n
shift_back k q n h = by_less k q (λ s. s ≡ suc n → q ≡ n) (λ l e. absurd (omega arith)) (λ l e. omega arith)

module _ (k : ℕ) where
  abbrev S : Code → Code
  S = shift_code k

  pub last_shift : (c : Code) (p : Point) → last_point (S c) p ≡ last_point c p
  last_shift Stop p = refl
  last_shift (Simple n e r) p = last_shift r (Post n)
  last_shift (If n g t e r) p = last_shift r (Post n)
  last_shift (While n g b r) p = last_shift r (Post n)
  last_shift (Call n i q r) p = last_shift r (Post n)
  last_shift (Break n r) p = last_shift r (Post n)

  leaving_shift : (c : Code) (p : Point) → leaving (S c) p ≡ leaving c p
  leaving_shift Stop p = refl
  leaving_shift (Simple n e r) p = leaving_shift r (Post n)
  leaving_shift (If n g t e r) p = rw (leaving_shift t (Then n), leaving_shift e (Else n), leaving_shift r (Post n)) refl
  leaving_shift (While n g b r) p = leaving_shift r (Post n)
  leaving_shift (Call n i q r) p = leaving_shift r (Post n)
  leaving_shift (Break n r) p = ap (λ (ls : List Leave). record { stmt = n; front = p } ∷ ls) (leaving_shift r (Post n))

  pub literals_shift : (c : Code) → literals (S c) ≡ literals c
  literals_shift Stop = refl
  literals_shift (Simple n e r) = ap (λ ls. effect_literals e ++ ls) (literals_shift r)
  literals_shift (If n g t e r) = rw (literals_shift t, literals_shift e, literals_shift r) refl
  literals_shift (While n g b r) = rw (literals_shift b, literals_shift r) refl
  literals_shift (Call n i q r) = ap (λ ls. argument_literals i.entering.arguments ++ ls) (literals_shift r)
  literals_shift (Break n r) = literals_shift r

  pub numbers_shift : (c : Code) → code_numbers (S c) ≡ code_numbers c
  numbers_shift Stop = refl
  numbers_shift (Simple n e r) = ap (λ ns. n ∷ ns) (numbers_shift r)
  numbers_shift (If n g t e r) = rw (numbers_shift t, numbers_shift e, numbers_shift r) refl
  numbers_shift (While n g b r) = rw (numbers_shift b, numbers_shift r) refl
  numbers_shift (Call n i q r) = ap (λ ns. n ∷ ns) (numbers_shift r)
  numbers_shift (Break n r) = ap (λ ns. n ∷ ns) (numbers_shift r)

  pub number_shift : (c : Code) → number (S c) ≡ number c
  number_shift Stop = refl
  number_shift (Simple n e r) = refl
  number_shift (If n g t e r) = refl
  number_shift (While n g b r) = refl
  number_shift (Call n i q r) = refl
  number_shift (Break n r) = refl

  -- The statements of the text.
  abbrev pub shift_text : Text → Text
  shift_text t = text t.loops t.front (S t.code)

  abbrev pub shift_entry : ℕ × Text → ℕ × Text
  shift_entry x = (x.0, shift_text x.1)

  abbrev All : List (ℕ × Text) → List (ℕ × Text)
  All = map shift_entry

  deeper_shift : (n : ℕ) (xs : List (ℕ × Text)) → map (deeper n) (All xs) ≡ All (map (deeper n) xs)
  deeper_shift n [] = refl
  deeper_shift n (x ∷ xs) = ap (λ ys. deeper n (shift_entry x) ∷ ys) (deeper_shift n xs)

  pub texts_shift : (c : Code) (p : Point) → texts (S c) p ≡ All (texts c p)
  texts_shift Stop p = refl
  texts_shift (Simple n e r) p = ap (λ xs. (n, text [] p (S (Simple n e r))) ∷ xs) (texts_shift r (Post n))
  texts_shift (If n g t e r) p =
      ap (λ xs. (n, text [] p (S (If n g t e r))) ∷ xs)
      (rw (texts_shift t (Then n), texts_shift e (Else n), texts_shift r (Post n)) refl
      ∙ ap (λ xs. All (texts t (Then n)) ++ xs) (sym (map-append shift_entry (texts e (Else n)) (texts r (Post n))))
      ∙ sym (map-append shift_entry (texts t (Then n)) (texts e (Else n) ++ texts r (Post n))))
  texts_shift (While n g b r) p =
      ap (λ xs. (n, text [] p (S (While n g b r))) ∷ xs)
      (ap (λ xs. map (deeper n) xs ++ texts (S r) (Post n)) (texts_shift b Body)
      ∙ ap (λ xs. xs ++ texts (S r) (Post n)) (deeper_shift n (texts b Body))
      ∙ ap (λ xs. All (map (deeper n) (texts b Body)) ++ xs) (texts_shift r (Post n))
      ∙ sym (map-append shift_entry (map (deeper n) (texts b Body)) (texts r (Post n))))
  texts_shift (Call n i q r) p = ap (λ xs. (n, text [] p (S (Call n i q r))) ∷ xs) (texts_shift r (Post n))
  texts_shift (Break n r) p = ap (λ xs. (n, text [] p (S (Break n r))) ∷ xs) (texts_shift r (Post n))

from_past : (ps : List Routine) (q : ℕ) → length ps ≤ q → from ps q ≡ []
from_past [] q h = refl
from_past (r ∷ ps) q h = by_test q (length ps) (λ c. (if c then r ∷ ps else from ps q) ≡ []) (λ e. absurd (omega arith)) (λ e. from_past ps q (omega arith))

-- The shape of a statement, except the place of a callee.
abbrev pub without_place : Shape → Shape
without_place (shape.Act s) = shape.Act s
without_place (shape.If g t e) = shape.If g t e
without_place (shape.While g end ls) = shape.While g end ls
without_place (shape.Call i q end) = shape.Call i 0 end

-- After the procedures b, the last one first, r is put in, and those before are shifted.
module _ (k : ℕ) (b : List Routine) (r : Routine) (at : length b ≡ k) where
  abbrev pub moved : List Routine → List Routine
  moved a = map (shift_routine k) a ++ r ∷ b

  pub longer : (a : List Routine) → length (moved a) ≡ suc (length (a ++ b))
  longer [] = refl
  longer (c ∷ a) = ap suc (longer a)

  first_shift : (q : ℕ) → callee_end (r ∷ b) (shift k q) ≡ callee_end b q
  first_shift q =
      by_less k q (λ s. callee_end (r ∷ b) s ≡ callee_end b q)
      (λ l. ap body_end (from_behind r b q (omega arith)))
      (λ l. ap body_end (from_past (r ∷ b) (suc q) (omega arith) ∙ sym (from_past b q (omega arith))))

  pub callee_shift : (a : List Routine) (q : ℕ) → callee_end (moved a) (shift k q) ≡ callee_end (a ++ b) q
  callee_shift [] q = first_shift q
  callee_shift (c ∷ a) q =
      let low : k ≤ length (a ++ b) = omega (arith, length-append a b) in
      by_test q (length (a ++ b)) (λ t. callee_end (moved (c ∷ a)) (shift k q) ≡ body_end (if t then c ∷ (a ++ b) else from (a ++ b) q))
      (λ e. by_test (shift k q) (length (moved a)) (λ t. body_end (if t then shift_routine k c ∷ moved a else from (moved a) (shift k q)) ≡ Some (last_point c.code Entry)) (λ h. ap Some (last_shift k c.code Entry)) (λ h. absurd (h (shift_up k q (length (a ++ b)) low e ∙ sym (longer a)))))
      (λ e. by_test (shift k q) (length (moved a)) (λ t. body_end (if t then shift_routine k c ∷ moved a else from (moved a) (shift k q)) ≡ body_end (from (a ++ b) q)) (λ h. absurd (e (shift_back k q (length (a ++ b)) low (h ∙ longer a)))) (λ h. callee_shift a q))

  pub shape_shift : (a : List Routine) (c : Code) → without_place (shape_of (moved a) (shift_code k c)) ≡ without_place (shape_of (a ++ b) c)
  shape_shift a Stop = refl
  shape_shift a (Simple n e r) = refl
  shape_shift a (If n g t e r) = rw (last_shift k t (Then n), last_shift k e (Else n)) refl
  shape_shift a (While n g c r) = rw (last_shift k c Body, leaving_shift k c Body) refl
  shape_shift a (Call n i q r) = ap (shape.Call i 0) (callee_shift a q)
  shape_shift a (Break n r) = refl
