-- Targets of chains, one after another.
use Rattle.std.proofs.lemmas.List.{reverse-append, take-append-drop}
use Rattle.std.proofs.Common.{◌≡◌, ℕ, ◌+◌, ◌<◌, List, [], ◌∷◌, ◌++◌, length, map, reverse, take, drop, get_or, Option, Some, None, Result, Ok, Err, IfOk, refl, sym, ap, ◌∙◌}
use Rattle.imp_syntax.specs.declared.edit.Location.{Location}
use Rattle.imp_slots.specs.Plain.{Routine}
use Rattle.imp_slots.specs.Fits.{IsChecked}
use Rattle.imp_chains.specs.Chains.{selected}
use Rattle.batch_meaning.specs.Answers.{In, procedure_of}
use Rattle.batch_meaning.specs.Places.{if_some}
use Rattle.call_chains.specs.Targets.{selected_at, targets_of}
use Rattle.cell_rows.specs.Targets.{target, all_targets, targets}
use Rattle.cell_rows.specs.Targets as plain
use Rattle.cell_rows.proofs.Ways.{targets_some}
use Rattle.imp_flow.specs.declared.steps.Target.{Target}
use Rattle.imp_flow.specs.declared.ways.Reached.{Reached}
use Rattle.imp_flow.specs.Plans.{Plan}
use Rattle.imp_flow.specs.Reached.{target_of, with_one, those_there, way_into, way_along}
use Rattle.base_values.proofs.Lists.{all_back, take_back}

module _ (plan : Plan) where
  gone_more : (ys z : List ℕ) → way_along plan z ≡ None → way_along plan (ys ++ z) ≡ None
  gone_more [] z h = h
  gone_more (y ∷ ys) z h = ap (λ o. if_some o (way_into plan y)) (gone_more ys z h)

  -- A chain that is gone at a call is gone with all longer ones.
  pub chain_gone : (xs : List ℕ) (i x : ℕ) (now : Reached) → i < length xs → x ≡ get_or xs i x → way_along plan (reverse (take i xs)) ≡ Some now → None ≡ way_into plan x now → None ≡ way_along plan (reverse xs)
  chain_gone xs i x now h e a g =
      let here : way_along plan (reverse (take (i + 1) xs)) ≡ None = ap (way_along plan) (take_back xs i x h e) ∙ ap (λ o. if_some o (way_into plan x)) a ∙ sym g in
      let all : reverse (drop (i + 1) xs) ++ reverse (take (i + 1) xs) ≡ reverse xs = sym (reverse-append (take (i + 1) xs) (drop (i + 1) xs)) ∙ ap reverse (take-append-drop (i + 1) xs) in
      sym (ap (way_along plan) (sym all) ∙ gone_more (reverse (drop (i + 1) xs)) (reverse (take (i + 1) xs)) here)

module _ (f : List ℕ → Option plain.Target) where
  -- Where each chain has one, they are all there.
  those_all : (zs : List (List ℕ)) (ts : List plain.Target) → all_targets f zs ≡ Some ts → those_there f zs ≡ ts
  those_all [] ts e = cc
  those_all (z ∷ zs) ts e = first (f z) (all_targets f zs) (those_all zs) e
    where
      first : (o : Option plain.Target) (rest : Option (List plain.Target)) → ((us : List plain.Target) → rest ≡ Some us → those_there f zs ≡ us) → if_some o (λ t. if_some rest (λ us. Some (t ∷ us))) ≡ Some ts → with_one o (those_there f zs) ≡ ts
      first None rest ih e = absurd cc
      first (Some t) None ih e = absurd cc
      first (Some t) (Some us) ih e = let i : t ∷ us ≡ ts = cc in ap (λ k. t ∷ k) (ih us refl) ∙ i

-- The targets of the chains that are selected.
pub targets_are : {E : Type 0} (program : List Routine) (l : Location) (string : List ℕ) (chains : List (List ℕ)) (y : Result (List Target) E) → IsChecked program → chains ≡ map reverse (targets_of program l string) →
    IfOk y (λ ts. map target_of ts ≡ those_there (target program l) (map reverse chains)) → IfOk y (λ ts. (p : ℕ) → procedure_of program l ≡ In p → targets program p l string ≡ Some (map target_of ts))
targets_are program l string chains (Err e) checked c u = tt
targets_are program l string chains (Ok us) checked c u = λ p e.
    let zs : List (List ℕ) = selected program p string in
    let s = targets_some program checked l p string e in
    let all : map reverse chains ≡ zs = ap (map reverse) (c ∙ ap (λ x. map reverse (selected_at program string x)) e) ∙ all_back zs in
    let same : map target_of us ≡ s.0 = u ∙ ap (those_there (target program l)) all ∙ those_all (target program l) zs s.0 s.1 in
    s.1 ∙ ap Some (sym same)
