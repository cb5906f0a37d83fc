-- The numbers of an edited program.
use Rattle.std.proofs.Common.{ℕ, ◌≡◌, ◌+◌, ◌<◌, ◌≤◌, ◌⊎◌, inl, inr, List, [], ◌++◌, ap, arith}
use Rattle.std.specs.List.{All}
use Rattle.imp_slots.specs.Fits.{Distinct}
use Rattle.imp_syntax.specs.Plain.{Condition, Statement, Simple, Break, Call, If, While, Statements, Ends, Starts, Procedure, numbers_in, numbers, program_numbers}
use Rattle.imp_syntax.specs.declared.words.Declaration.{Declaration}
use Rattle.imp_syntax.specs.declared.edit.Edit.{Edit}
use Rattle.imp_syntax.specs.declared.edit.Edit.TheVariants as edit
use Rattle.imp_syntax.specs.declared.edit.Place.{Place}
use Rattle.imp_syntax.specs.declared.edit.Place.TheVariants as place
use Rattle.imp_check.specs.Programs.{AreNumbered}
use Rattle.edit_entries.specs.Holes.{append}
use Rattle.imp_edit.specs.Changes.{in_program, deleted, exchanged, followed, then_started, else_started, body_started, guarded, started, declared_in, preceded, dropped}
use Rattle.imp_edit.specs.Edited.{placed, edited, brought, uses, next_after, counting, Continues}
use Rattle.imp_edit.proofs.Tallies.{often, often_both, numbers_append, program_often, named_often}
use Rattle.imp_edit.proofs.Once.{distinct_once, once_distinct, absent_never, never_absent, below_never, never_below, counting_low, counting_high, counting_once, some_times}

-- What each change brings of a number.
module _ (m : ℕ) where
  abbrev of : Statements → ℕ
  of b = often m (numbers b)

  few_alone : (s : Statement) → of (Starts s Ends) ≡ often m (numbers_in s)
  few_alone s = omega (arith, often_both m (numbers_in s) [])

  few_deleted : (s : Statement) → of (deleted s) ≤ often m (numbers_in s) + 0
  few_deleted s = omega arith

  few_exchanged : (t s : Statement) → of (exchanged t s) ≤ often m (numbers_in s) + of (Starts t Ends)
  few_exchanged t s = omega arith

  few_followed : (more : Statements) (s : Statement) → of (followed more s) ≤ often m (numbers_in s) + of more
  few_followed more s = omega (arith, often_both m (numbers_in s) (numbers more))

  few_then : (more : Statements) (s : Statement) → of (then_started more s) ≤ often m (numbers_in s) + of more
  few_then more (Simple n a) = omega arith
  few_then more (Break n) = omega arith
  few_then more (Call n x g es) = omega arith
  few_then more (If n c t e) = omega (arith, few_alone (If n c (append more t) e), often_both m (numbers (append more t)) (numbers e), often_both m (numbers t) (numbers e), numbers_append m more t)
  few_then more (While n c b) = omega (arith, few_alone (While n c b))

  few_else : (more : Statements) (s : Statement) → of (else_started more s) ≤ often m (numbers_in s) + of more
  few_else more (Simple n a) = omega arith
  few_else more (Break n) = omega arith
  few_else more (Call n x g es) = omega arith
  few_else more (If n c t e) = omega (arith, few_alone (If n c t (append more e)), often_both m (numbers t) (numbers (append more e)), often_both m (numbers t) (numbers e), numbers_append m more e)
  few_else more (While n c b) = omega (arith, few_alone (While n c b))

  few_body : (more : Statements) (s : Statement) → of (body_started more s) ≤ often m (numbers_in s) + of more
  few_body more (Simple n a) = omega arith
  few_body more (Break n) = omega arith
  few_body more (Call n x g es) = omega arith
  few_body more (If n c t e) = omega (arith, few_alone (If n c t e))
  few_body more (While n c b) = omega (arith, few_alone (While n c (append more b)), numbers_append m more b)

  few_guarded : (d : Condition) (s : Statement) → of (guarded d s) ≤ often m (numbers_in s) + 0
  few_guarded d (Simple n a) = omega arith
  few_guarded d (Break n) = omega arith
  few_guarded d (Call n x g es) = omega arith
  few_guarded d (If n c t e) = omega (arith, few_alone (If n d t e))
  few_guarded d (While n c b) = omega (arith, few_alone (While n d b))

  few_started : (more : Statements) (p : Procedure) → often m (program_numbers (started more p)) ≤ of p.body + of more
  few_started more p = omega (arith, often_both m (numbers (append more p.body)) [], numbers_append m more p.body)

  few_declared : (d : Declaration) (p : Procedure) → often m (program_numbers (declared_in d p)) ≤ of p.body + 0
  few_declared d p = omega (arith, often_both m (numbers p.body) [])

  few_preceded : (q p : Procedure) → often m (program_numbers (preceded q p)) ≤ of p.body + of q.body
  few_preceded q p = omega (arith, often_both m (numbers q.body) (numbers p.body ++ []), often_both m (numbers p.body) [])

  few_dropped : (p : Procedure) → often m (program_numbers (dropped p)) ≤ of p.body + 0
  few_dropped p = omega arith

  -- a change at a statement that stands once
  once_changed : (n : ℕ) (made : Statement → Statements) (more : ℕ) → ((s : Statement) → of (made s) ≤ often m (numbers_in s) + more) → (ps : List Procedure) → Distinct (program_numbers ps) → often m (program_numbers (in_program n made ps)) ≤ often m (program_numbers ps) + more
  once_changed n made more few ps d = omega (arith, program_often n m made more few ps, some_times (often n (program_numbers ps)) more (distinct_once (program_numbers ps) d n))

  placed_often : (at : Place) (more : Statements) (ps : List Procedure) → Distinct (program_numbers ps) → often m (program_numbers (placed at more ps)) ≤ often m (program_numbers ps) + of more
  placed_often (place.After n) more ps d = once_changed n (followed more) (of more) (few_followed more) ps d
  placed_often (place.ThenStart n) more ps d = once_changed n (then_started more) (of more) (few_then more) ps d
  placed_often (place.ElseStart n) more ps d = once_changed n (else_started more) (of more) (few_else more) ps d
  placed_often (place.BodyStart n) more ps d = once_changed n (body_started more) (of more) (few_body more) ps d
  placed_often (place.ProcStart x) more ps d = named_often x m (started more) (of more) (few_started more) ps

  -- An edit brings no more of a number than its own statements have.
  pub edited_often : (e : Edit) (ps : List Procedure) → Distinct (program_numbers ps) → often m (program_numbers (edited e ps)) ≤ often m (program_numbers ps) + of (brought e)
  edited_often (edit.Replace n t) ps d = once_changed n (exchanged t) (of (Starts t Ends)) (few_exchanged t) ps d
  edited_often (edit.Insert at more) ps d = placed_often at more ps d
  edited_often (edit.Delete n) ps d = once_changed n deleted 0 few_deleted ps d
  edited_often (edit.Guard n c) ps d = once_changed n (guarded c) 0 (few_guarded c) ps d
  edited_often (edit.Declare x v) ps d = named_often x m (declared_in v) 0 (few_declared v) ps
  edited_often (edit.AddProc x p) ps d = named_often x m (preceded p) (of p.body) (few_preceded p) ps
  edited_often (edit.DropProc x) ps d = named_often x m dropped 0 few_dropped ps

brought_often : (e : Edit) (next : ℕ) → Continues e next → (m : ℕ) → often m (numbers (brought e)) ≡ often m (counting next (uses e))
brought_often e next c m = ap (often m) c

-- The numbers of an edited program are 1 or more and stand once ..
pub numbered_again : (e : Edit) (ps : List Procedure) (next : ℕ) → AreNumbered ps → All (λ (n : ℕ). n < next) (program_numbers ps) → 0 < next → Continues e next → AreNumbered (edited e ps)
numbered_again e ps next h low pos c = record {
  no_zero = never_absent 0 (program_numbers (edited e ps)) (omega (arith, edited_often 0 e ps h.once, absent_never 0 (program_numbers ps) h.no_zero, brought_often e next c 0, counting_low next (uses e) 0 pos));
  once = once_distinct (program_numbers (edited e ps)) (λ m. once m (order m));
}
  where
    order : (m : ℕ) → (m < next) ⊎ (next ≤ m)
    order m = grind arith

    once : (m : ℕ) → (m < next) ⊎ (next ≤ m) → often m (program_numbers (edited e ps)) ≤ 1
    once m (inl l) = omega (arith, edited_often m e ps h.once, distinct_once (program_numbers ps) h.once m, brought_often e next c m, counting_low next (uses e) m l)
    once m (inr l) = omega (arith, edited_often m e ps h.once, below_never next (program_numbers ps) low m l, brought_often e next c m, counting_once next (uses e) m)

-- .. and are below the next one.
pub below_again : (e : Edit) (ps : List Procedure) (next : ℕ) → AreNumbered ps → All (λ (n : ℕ). n < next) (program_numbers ps) → Continues e next → All (λ (n : ℕ). n < next_after e next) (program_numbers (edited e ps))
below_again e ps next h low c = never_below (next_after e next) (program_numbers (edited e ps)) (λ m l.
    let z = below_never next (program_numbers ps) low m (omega (arith, l)) in
    omega (arith, edited_often m e ps h.once, z, brought_often e next c m, counting_high next (uses e) m l))
