-- A rank for each name, whether the program has it or not, by the table of the program's statements.
use Rattle.std.specs.Prelude.{ℕ, zero, suc, ◌+◌, ◌*◌, List, [], ◌∷◌, ◌++◌, map, Option, Some, None, true, false}
use Rattle.imp_slots.specs.Plain.{Code, Stop, Simple, If, While, Call, Break, Routine}
use Rattle.batch_meaning.specs.Batch.{LoopOptions}
use Rattle.batch_meaning.specs.Places.{find, if_some}
use Rattle.cell_names.specs.declared.frame.NameFrame.{NameFrame}
use Rattle.cell_names.specs.declared.frame.NameFrame.TheVariants.{InCall, InLoop}
use Rattle.cell_names.specs.declared.frame.Point.{Point}
use Rattle.cell_names.specs.declared.frame.Point.TheVariants.{Entry, Then, Else, Body, Post, Iterate, Fix, Exit, Leap}
use Rattle.cell_names.specs.Paths.{CellName}
use Rattle.cell_rows.specs.Names.{Scope, Mark, mark, At, PathBlock, bare, scope_of, span, body_span, behind_it, inside, entry, branch_mark, post_mark, next_mark, fix_mark, exit_mark, leap_mark}

-- A statement of the program: its procedure's scope, the mark before it, its code.
pub record Spread : Type 0 where
  pub scope : Scope
  pub at : At (Unit {0})

abbrev pub spread_of : Scope → ℕ × At (Unit {0}) → ℕ × Spread
spread_of e x = (x.0, record { scope = e; at = x.1 })

module _ (engine : LoopOptions) where
  -- All statements of a body, those in its loops too; a loop's body is counted from 0 on.
  abbrev pub entries : Scope → Code → Mark (Unit {0}) → List (ℕ × At (Unit {0}))
  entries e Stop x = []
  entries e (Simple n effect r) x = entry engine bare e [] x (Simple n effect r) ∷ entries e r (behind_it engine bare e [] (Simple n effect r) x)
  entries e (If n guard t f r) x =
      entry engine bare e [] x (If n guard t f r) ∷ (entries e t (inside engine bare e [] true n guard x) ++ (entries e f (inside engine bare e [] false n guard x) ++ entries e r (behind_it engine bare e [] (If n guard t f r) x)))
  entries e (While n guard b r) x = entry engine bare e [] x (While n guard b r) ∷ (entries e b (mark Body 0 tt) ++ entries e r (behind_it engine bare e [] (While n guard b r) x))
  entries e (Call n call q r) x = entry engine bare e [] x (Call n call q r) ∷ entries e r (behind_it engine bare e [] (Call n call q r) x)
  entries e (Break n r) x = entry engine bare e [] x (Break n r) ∷ entries e r (behind_it engine bare e [] (Break n r) x)

  abbrev pub spread : List Routine → List (ℕ × Spread)
  spread [] = []
  spread (r ∷ earlier) = map (spread_of (scope_of engine bare r earlier)) (entries (scope_of engine bare r earlier) r.code (mark Entry 0 tt)) ++ spread earlier

  module _ (program : List Routine) where
    abbrev pub stand : Spread → PathBlock engine bare
    stand u = record { scope = u.scope; sites = []; code = u.at.code; first = mark Entry 0 tt }

    abbrev pub by_number : {A : Type 0} → ℕ → (PathBlock engine bare → Mark (Unit {0}) → Code → Option A) → Option A
    by_number n g = if_some (find n (spread program)) (λ u. g (stand u) u.at.before u.at.code)

    abbrev pub or_zero : Option (Mark (Unit {0})) → ℕ
    or_zero None = 0
    or_zero (Some m) = m.rank

    abbrev pub offset : Point → ℕ
    offset Entry = 0
    offset Body = 0
    offset (Then n) = or_zero (by_number n (branch_mark engine bare true))
    offset (Else n) = or_zero (by_number n (branch_mark engine bare false))
    offset (Post n) = or_zero (by_number n (post_mark engine bare))
    offset (Iterate n zero) = 0
    offset (Iterate n (suc k)) = or_zero (by_number n (next_mark engine bare k))
    offset (Fix n) = or_zero (by_number n (fix_mark engine bare))
    offset (Exit n) = or_zero (by_number n (exit_mark engine bare))
    offset (Leap n k) = or_zero (by_number n (leap_mark engine bare k))

    abbrev pub front_of : PathBlock engine bare → Mark (Unit {0}) → Code → Option (Mark (Unit {0}))
    front_of b y d = Some y

    abbrev pub turn_of : ℕ → PathBlock engine bare → Mark (Unit {0}) → Code → Option (Mark (Unit {0}))
    turn_of k b y (While n guard body r) = Some (mark Body (y.rank + k * (span engine (body_span engine b.scope) body + 2)) tt)
    turn_of k b y _ = None

    abbrev pub base : List NameFrame → ℕ
    base [] = 0
    base (InCall n ∷ w) = base w + suc (or_zero (by_number n front_of))
    base (InLoop n k ∷ w) = base w + suc (or_zero (by_number n (turn_of k)))

    abbrev pub total_rank : CellName → ℕ
    total_rank x = base x.path + offset x.point
