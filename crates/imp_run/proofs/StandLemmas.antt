-- Where a configuration stands.
use Rattle.std.specs.Prelude.{◌≡◌, ℕ, suc, ◌-◌, List, [], ◌∷◌, length, slice_get, Option, Some, None, option_map}
use Rattle.std.proofs.Common.{refl, sym, ap, ◌∙◌, sub-one}
use Rattle.imp_syntax.specs.declared.edit.Location.TheVariants.{Before, End}
use Rattle.imp_slots.specs.Plain.{Code, Routine}
use Rattle.imp_slots.specs.BlockViews.{before_code, code_of, number_of}
use Rattle.imp_slots.specs.declared.blocks.SlotNode.{SlotNode}
use Rattle.imp_slots.specs.declared.blocks.SlotNode.TheVariants.{Simple, If, While, Call, Break}
use Rattle.concrete_sem.specs.Steps.{Work, Ret}
use Rattle.concrete_sem.specs.Reach.{location_of, first_number}
use Rattle.imp_run.specs.declared.work.Item.{Item}
use Rattle.imp_run.specs.declared.work.Item.TheVariants.{Do, Done, Test}
use Rattle.imp_run.specs.Work.{put, work_on}
use Rattle.imp_run.specs.Machine.{work_of}
use Rattle.imp_run.specs.Outcome.{item_location, end_location}

first_is : (s : SlotNode) (r : Code) → first_number (before_code s r) ≡ Some (number_of s)
first_is (Simple n a) r = refl
first_is (If n c t e) r = refl
first_is (While n c b) r = refl
first_is (Call n i q) r = refl
first_is (Break n) r = refl

item_stands : (program : List Routine) (i : Item) (w : Work) → location_of program (put i w) ≡ Some (item_location i)
item_stands program (Do first rest) w = ap (option_map Before) (first_is first.now (code_of rest.now))
item_stands program (Done n call) w = refl
item_stands program (Test n cond body) w = refl

-- no work stands at the end of its procedure
end_map : (o : Option Routine) → option_map (λ (r : Routine). End r.name) o ≡ end_location o
end_map None = refl
end_map (Some r) = refl

end_stands : (program : List Routine) (p : ℕ) → location_of program (Ret p) ≡ end_location (slice_get program p)
end_stands program p = end_map (slice_get program p)

-- the last item of work decides
pub last_stands : (program : List Routine) (items : List Item) (i : Item) (w : Work) → slice_get items (length items - 1) ≡ Some i → location_of program (work_on w items) ≡ Some (item_location i)
last_stands program [] i w at = absurd (cc)
last_stands program (x ∷ []) i w at = let is : x ≡ i = cc in ap (λ y. location_of program (put y w)) is ∙ item_stands program i w
last_stands program (x ∷ y ∷ items) i w at =
    last_stands program (y ∷ items) i (put x w) (ap (λ k. slice_get (y ∷ items) k) (sub-one (suc (length items))) ∙ ap (λ k. slice_get (x ∷ y ∷ items) k) (sym (sub-one (suc (suc (length items))))) ∙ at)

some_last : (x : Item) (items : List Item) → (i : Item) × (slice_get (x ∷ items) (length (x ∷ items) - 1) ≡ Some i)
some_last x [] = (x, refl)
some_last x (y ∷ items) =
    let r : (i : Item) × (slice_get (y ∷ items) (length (y ∷ items) - 1) ≡ Some i) = some_last y items in
    (r.0, ap (λ k. slice_get (x ∷ y ∷ items) k) (sub-one (suc (suc (length items)))) ∙ ap (λ k. slice_get (y ∷ items) k) (sym (sub-one (suc (length items)))) ∙ r.1)

-- without a last item there is no work
pub none_stands : (program : List Routine) (items : List Item) (p : ℕ) → slice_get items (length items - 1) ≡ None → location_of program (work_of p items) ≡ end_location (slice_get program p)
none_stands program [] p at = end_stands program p
none_stands program (x ∷ items) p at = let r = some_last x items in absurd (cc)
