-- What targets demand: names of the program, whose values are the answer.
use Rattle.std.proofs.Common.{◌≡◌, ℕ, Bool, true, List, [], ◌∷◌, ◌++◌, map, reverse, Some, sym, ap, ◌∙◌, subst}
use Rattle.std.proofs.lemmas.Option.{same_Some}
use Rattle.imp_syntax.specs.declared.edit.Location.{Location}
use Rattle.imp_slots.specs.Plain.{Routine}
use Rattle.imp_slots.specs.Fits.{IsChecked}
use Rattle.imp_chains.specs.Chains.{selected}
use Rattle.domain_laws.specs.Operations.{Operations}
use Rattle.batch_meaning.specs.Batch.{LoopOptions}
use Rattle.batch_meaning.specs.Places.{if_some}
use Rattle.batch_meaning.specs.Answers.{In, answer_in, summed}
use Rattle.cell_names.specs.Paths.{CellName}
use Rattle.daig_order.specs.Order.{member}
use Rattle.daig_order.specs.OrderLaws.{Needed, input, under}
use Rattle.daig_order.specs.Asking.{system_of}
use Rattle.cell_rows.specs.Names.{IsSame}
use Rattle.cell_rows.specs.Cells.{Cell, value_of_name}
use Rattle.cell_rows.specs.Targets.{Target, demanded_in, demanded, target, all_targets, targets, read_all, value_of_target}
use Rattle.cell_rows.specs.Claims.{HasName, InputsAreNames, rows_of}
use Rattle.cell_rows.proofs.Answered.{HasIt, unvalued, total_batch, answer_is}
use Rattle.cell_rows.proofs.Arriving.{Has}
use Rattle.cell_rows.proofs.Chained.{all_once, is_at}
use Rattle.cell_rows.proofs.Demands.{demands_are, reads_are, same_target}
use Rattle.cell_rows.proofs.FlatOnce.{all_fine, once_reversed}
use Rattle.cell_rows.proofs.Lookup.{then_some}
use Rattle.cell_rows.proofs.Package.{all_member}
use Rattle.cell_rows.proofs.Unique.{All, all_map}
use Rattle.daig_demands.specs.Claims.{found_by}

all_both : {A : Type 0} (P : A → Type 0) (xs ys : List A) → All P xs → All P ys → All P (xs ++ ys)
all_both P [] ys p q = q
all_both P (x ∷ xs) ys p q = (p.0, all_both P xs ys p.1 q)

module _ {S : Type 0} (dom : Operations S) (engine : LoopOptions) (program : List Routine) (same : CellName → CellName → Bool) (is : IsSame same) (checked : IsChecked program) where
  abbrev g : CellName → Cell S
  g = found_by dom engine program same

  abbrev f : CellName → Cell S
  f = value_of_name dom engine (reverse program)

  abbrev There : CellName → Type 0
  There = HasIt dom engine program checked

  at_target : (l : Location) (z : List ℕ) (t : Target) → target program l z ≡ Some t → All There (demanded_in g t.steps t.last [])
  at_target l z t e =
      let fine = all_fine program checked in
      let r = is_at dom engine (reverse program) fine (all_once (reverse program) (once_reversed program checked.numbers_once)) l z t e in
      let has = Has dom engine (reverse program) fine in
      let agree = all_map has has (λ x. g x ≡ f x) (λ x p q. total_batch dom engine program checked same is x p) (demanded_in f t.steps t.last []) r.1 r.1 in
      subst (All There) (sym (same_target g f t.steps t.last [] agree).0) r.1

  at_targets : (l : Location) (zs : List (List ℕ)) (ts : List Target) → all_targets (target program l) zs ≡ Some ts → All There (demanded g ts)
  at_targets l [] ts e = let i : [] ≡ ts = cc in subst (λ ts. All There (demanded g ts)) i tt
  at_targets l (z ∷ zs) ts e =
      let x = then_some (target program l z) (λ t. if_some (all_targets (target program l) zs) (λ ts. Some (t ∷ ts))) ts e in
      let y = then_some (all_targets (target program l) zs) (λ ts. Some (x.0 ∷ ts)) ts x.2 in
      let t = x.0 in
      let i : t ∷ y.0 ≡ ts = same_Some (t ∷ y.0) ts y.2 in
      subst (λ ts. All There (demanded g ts)) i (all_both There (demanded_in g t.steps t.last []) (demanded g y.0) (at_target l z t x.1) (at_targets l zs y.0 y.1))

  pub demanded_named : (l : Location) (string : List ℕ) (p : ℕ) (ts : List Target) (x : CellName) → targets program p l string ≡ Some ts → member same (demanded g ts) x ≡ true → HasName engine program x
  demanded_named l string p ts x e m = unvalued dom engine program checked x (all_member same is.same_true There (demanded g ts) (at_targets l (selected program p string) ts e) x m)

  pub needed_named : InputsAreNames dom → (l : Location) (string : List ℕ) (p : ℕ) (ts : List Target) (x : CellName) → targets program p l string ≡ Some ts → Needed (system_of (rows_of dom engine program same)) (demanded g ts) x → HasName engine program x
  needed_named names l string p ts x e (input _ m) = demanded_named l string p ts x e m
  needed_named names l string p ts x e (under y _ n m) = names engine program same y x is checked (needed_named names l string p ts y e n) m

  -- The answer is made of the targets' values.
  pub answer_at : (l : Location) (string : List ℕ) (p : ℕ) (ts : List Target) → targets program p l string ≡ Some ts → answer_in dom engine program l string (In p) ≡ summed dom engine (map (value_of_target g) ts)
  answer_at l string p ts e =
      answer_is dom engine program checked g (total_batch dom engine program checked same is) l string p ts e
      ∙ ap (summed dom engine) (ap (λ xs. read_all ts (map g xs)) (demands_are g ts) ∙ reads_are g ts)
