-- What an engine over these names rests on.
use Rattle.std.proofs.Common.{◌≡◌, ℕ, suc, ◌+◌, ◌<◌, ◌≤◌, Bool, true, List, [], ◌∷◌, map, sym, ap, ◌∙◌, subst, arith, inl, inr}
use Rattle.imp_slots.specs.Plain.{Routine}
use Rattle.domain_laws.specs.Operations.{Operations}
use Rattle.batch_meaning.specs.Batch.{LoopOptions}
use Rattle.cell_names.specs.Paths.{CellName}
use Rattle.daig_order.specs.Order.{member, IsAcyclic}
use Rattle.daig_order.specs.Asking.{Rows, value_of, inputs_of, system_of}
use Rattle.daig_order.proofs.AskingProofs.{value-is, system-acyclic}
use Rattle.cell_rows.specs.Names.{IsSame, AllFine}
use Rattle.cell_rows.specs.Cells.{Cell, table, value_of_name}
use Rattle.cell_rows.specs.Targets.{Target, demanded}
use Rattle.cell_rows.proofs.Unique.{All}
use Rattle.cell_rows.proofs.TableProofs.{HasName, is_table, values_agree, inputs_agree, solves}
use Rattle.std.proofs.lemmas.Bool.{or_cases}

pub all_member : {T : Type 0} (same : T → T → Bool) → ((x y : T) → same x y ≡ true → x ≡ y) → (P : T → Type 0) (xs : List T) → All P xs → (y : T) → member same xs y ≡ true → P y
all_member same eq P [] h y m = absurd cc
all_member same eq P (x ∷ xs) h y m =
    elim (or_cases (same y x) (member same xs y) m) [ inl e ↦ subst P (sym (eq y x e)) h.0 | inr q ↦ all_member same eq P xs h.1 y q ]

abbrev pub top_of : {T : Type 0} → (T → ℕ) → List T → ℕ
top_of rank [] = 0
top_of rank (x ∷ xs) = rank x + top_of rank xs

under_top : {T : Type 0} (same : T → T → Bool) → ((x y : T) → same x y ≡ true → x ≡ y) → (rank : T → ℕ) (xs : List T) (y : T) → member same xs y ≡ true → rank y ≤ top_of rank xs
under_top same eq rank [] y m = absurd cc
under_top same eq rank (x ∷ xs) y m =
    elim (or_cases (same y x) (member same xs y) m) [
      | inl e ↦ (let k : rank y ≡ rank x = ap rank (eq y x e) in omega arith)
      | inr q ↦ (let l = under_top same eq rank xs y q in omega arith)
    ]

module _ {S : Type 0} (dom : Operations S) (engine : LoopOptions) (program : List Routine) (all : AllFine program) (same : CellName → CellName → Bool) (is : IsSame same) where
  abbrev T : Rows CellName (Cell S)
  T = table dom engine program same

  abbrev Has : CellName → Type 0
  Has = HasName dom engine program all

  -- The inputs of a name that the program has are names that it has.
  pub inputs_have : (x y : CellName) → Has x → member same (inputs_of T x) y ≡ true → Has y
  inputs_have x y h m =
      let s = (solves dom engine program all same is).down x h in
      all_member same is.same_true Has (inputs_of T x) (subst (All Has) (sym (inputs_agree dom engine program all same is x h)) s) y m

  pub acyclic : IsAcyclic (system_of T)
  acyclic = system-acyclic T (is_table dom engine program all same is)

  -- A number above the ranks of the demanded names.
  pub low : (ts : List Target) (y : CellName) → member same (demanded (value_of T) ts) y ≡ true → T.rank y < suc (top_of T.rank (demanded (value_of T) ts))
  low ts y m = let l = under_top same is.same_true T.rank (demanded (value_of T) ts) y m in omega arith

  -- A name's value is its operation over its inputs' values, which is the batch interpreter's value there.
  pub equation : (x : CellName) → Has x → value_of_name dom engine program x ≡ T.operation x (map (value_of T) (inputs_of T x))
  equation x h = sym (values_agree dom engine program all same is x h) ∙ value-is T (is_table dom engine program all same is) x
