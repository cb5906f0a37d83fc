-- What an edit touches after a loop with breaks, on small programs.
use Rattle.std.specs.Prelude.{◌≡◌, ℕ, suc, ◌==◌, List, [], ◌∷◌, Some, Bool, true, false, reverse, refl}
use Rattle.std.proofs.Common.{inl, inr, sym, ap, ◌∙◌}
use Rattle.imp_syntax.specs.declared.words.Relation.TheVariants.{Less}
use Rattle.imp_slots.specs.Plain.{Literal, Guard, Compare, Skip, Code, Stop, Simple, While, Break, Routine}
use Rattle.imp_words.specs.declared.verdict.Verdict.TheVariants.{May}
use Rattle.domain_laws.specs.Operations.{Operations}
use Rattle.batch_meaning.specs.Batch.{LoopOptions}
use Rattle.cell_names.specs.declared.frame.NameFrame.TheVariants.{InLoop}
use Rattle.cell_names.specs.declared.frame.Point.TheVariants.{Body, Post, Exit, Leap}
use Rattle.cell_names.specs.Paths.{CellName}
use Rattle.daig_order.specs.Asking.{gather, value_at, value_of, inputs_of}
use Rattle.cell_rows.specs.Names.{name}
use Rattle.cell_rows.specs.Rows.{Joins}
use Rattle.cell_rows.specs.Flat.{flat_row}
use Rattle.cell_kept_set.specs.Touched.{Edit, old_rows, KeepsRow, IsChanged}
use Rattle.cell_kept_set.specs.RowTest.{SameAsked}
use Rattle.cell_kept_set.proofs.RowTests.{row_test}

-- a domain whose joins rise, so that each loop is an Over, and one whose joins stay
abbrev counting : (ℕ → ℕ) → Operations ℕ
counting f = record { init = λ l. 0; post = λ a s. s; assume = λ g b s. s; join = λ s t. f s; widen = λ ms s t. f s; enter = λ e s. s; leave = λ r s d. d; shed = λ s. s; check = λ a s. May; same = λ s t. s == t; dead = λ s. false; text = λ l s. []; fits = λ s ls. true }

abbrev rising : Operations ℕ
rising = counting (λ s. suc s)

abbrev staying : Operations ℕ
staying = counting (λ s. s)

abbrev guard : Guard
guard = Compare Less (Literal 0) (Literal 1)

abbrev main_of : Code → List Routine
main_of c = record { name = 109 ∷ []; layout = record { numbers = []; links = [] }; code = c } ∷ []

abbrev engine : LoopOptions
engine = record { budget = 1; widening = record { delay = 0; thresholds = false } }

-- a loop with one break; with a skip before it; with a further break after it
abbrev one_break : List Routine
one_break = main_of (While 1 guard (Break 2 Stop) Stop)

abbrev moved : List Routine
moved = main_of (While 1 guard (Simple 3 Skip (Break 2 Stop)) Stop)

abbrev another : List Routine
another = main_of (While 1 guard (Break 2 (Break 3 Stop)) Stop)

abbrev moves : Edit
moves = record { engine = engine; old = one_break; new = moved }

abbrev adds : Edit
adds = record { engine = engine; old = one_break; new = another }

abbrev behind : CellName
behind = name [] (Post 1)

old_row : flat_row engine (reverse one_break) [] (Post 1) ≡ Some (Joins false (name [] (Exit 1)) 1 [] Body)
old_row = refl

moved_row : flat_row engine (reverse moved) [] (Post 1) ≡ Some (Joins false (name [] (Exit 1)) 1 [] (Post 3))
moved_row = refl

another_row : flat_row engine (reverse another) [] (Post 1) ≡ Some (Joins false (name [] (Leap 1 2)) 1 [] (Post 2))
another_row = refl

module _ (same : CellName → CellName → Bool) where
  -- Where the loop is an Over, what is after it asks for its left input alone ..
  over_inputs : inputs_of (old_rows rising moves same) behind ≡ name [] (Exit 1) ∷ []
  unfolding inputs_of value_of value_at gather
  over_inputs = refl

  -- .. and a break that moved does not touch it;
  over_stays : KeepsRow rising moves same behind
  over_stays = (row_test rising moves same behind (Joins false (name [] (Exit 1)) 1 [] Body) (Joins false (name [] (Exit 1)) 1 [] (Post 3)) old_row moved_row).1 (inr (refl, over_inputs))

  -- else it does.
  state_inputs : inputs_of (old_rows staying moves same) behind ≡ name [] (Exit 1) ∷ name (InLoop 1 0 ∷ []) Body ∷ []
  unfolding inputs_of value_of value_at gather
  state_inputs = refl

  longer : (x y : CellName) → x ∷ y ∷ [] ≡ x ∷ [] → ⊥
  longer x y e = absurd cc

  other : name [] (Exit 1) ≡ name [] (Leap 1 2) → ⊥
  other e = points (ap (λ (c : CellName). c.point) e)
    where
      points : Exit 1 ≡ Leap 1 2 → ⊥
      points e = absurd cc

  state_changes : IsChanged staying moves same behind
  state_changes k = go ((row_test staying moves same behind (Joins false (name [] (Exit 1)) 1 [] Body) (Joins false (name [] (Exit 1)) 1 [] (Post 3)) old_row moved_row).0 k)
    where
      go : SameAsked (Joins false (name [] (Exit 1)) 1 [] Body) (Joins false (name [] (Exit 1)) 1 [] (Post 3)) (inputs_of (old_rows staying moves same) behind) → ⊥
      go (inl e) = absurd cc
      go (inr o) = longer (name [] (Exit 1)) (name (InLoop 1 0 ∷ []) Body) (sym state_inputs ∙ o.1)

  -- A further break after the only one touches it, Over or not.
  more_changes : IsChanged rising adds same behind
  more_changes k = go ((row_test rising adds same behind (Joins false (name [] (Exit 1)) 1 [] Body) (Joins false (name [] (Leap 1 2)) 1 [] (Post 2)) old_row another_row).0 k)
    where
      go : SameAsked (Joins false (name [] (Exit 1)) 1 [] Body) (Joins false (name [] (Leap 1 2)) 1 [] (Post 2)) (inputs_of (old_rows rising adds same) behind) → ⊥
      go (inl e) = absurd cc
      go (inr o) = other o.0
