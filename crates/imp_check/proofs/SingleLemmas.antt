-- What is known of a statement without a fault of its own, and of the variables of its procedure.
use Rattle.std.proofs.Common.{ℕ, ◌≡◌, ◌^◌, ◌<◌, Bool, true, false, List, [], ◌∷◌, ◌++◌, length, cond, Option, Some, None, arith, ap, refl, append-nil}
use Rattle.std.specs.Str.{bytes_eq}
use Rattle.imp_syntax.specs.Plain.{Condition, Action, Procedure}
use Rattle.imp_syntax.specs.declared.words.Declaration.{Declaration}
use Rattle.imp_syntax.specs.declared.words.VariableKind.{VariableKind}
use Rattle.imp_slots.specs.Fits.{fits_effect, fits_guard}
use Rattle.imp_slots.specs.Plain.{Layout}
use Rattle.imp_check.specs.Names.{kind_of, variables}
use Rattle.imp_check.specs.Programs.{variables_fault}
use Rattle.imp_check.specs.Slots.{layout_in, effect_in, guard_in}
use Rattle.imp_check.specs.Small.{small_action, small_condition}
use Rattle.imp_check.specs.Statements.{action_fault, condition_fault}
use Rattle.imp_check.proofs.FewLemmas.{few_of}
use Rattle.imp_check.proofs.SlotLemmas.{length_numerics, length_links}
use Rattle.imp_check.proofs.Lookup.{apart}
use Rattle.imp_check.proofs.FitsTerms.{condition_fits}
use Rattle.imp_check.proofs.FitsActions.{action_fits}
use Rattle.imp_check.proofs.FitsBlocks.{action_none, condition_none}

pub action_alone : (p : Procedure) (a : Action) → variables_fault [] (variables p) ≡ None → small_action a ≡ true → action_fault (variables p) a ≡ None → fits_effect (layout_in p) (effect_in (layout_in p) a) ≡ true
action_alone p a v s h = action_fits (variables p) (apart [] (variables p) v) a s (action_none (variables p) a h)

pub condition_alone : (p : Procedure) (c : Condition) → variables_fault [] (variables p) ≡ None → small_condition c ≡ true → condition_fault (variables p) c ≡ None → fits_guard (layout_in p) (guard_in (layout_in p) c) ≡ true
condition_alone p c v s h = condition_fits (variables p) (apart [] (variables p) v) c s (condition_none (variables p) c h)

-- a layout of few slots
pub few_numbers : (p : Procedure) (l : Layout) → variables_fault [] (variables p) ≡ None → l ≡ layout_in p → length l.numbers < 2 ^ 32
few_numbers p l v e = omega (arith, ap (λ (z : Layout). length z.numbers) e, length_numerics (variables p), (few_of p v).numbers)

pub few_links : (p : Procedure) (l : Layout) → variables_fault [] (variables p) ≡ None → l ≡ layout_in p → length l.links < 2 ^ 32
few_links p l v e = omega (arith, ap (λ (z : Layout). length z.links) e, length_links (variables p), (few_of p v).links)

-- the kind of a name, by those of the first variables
kind_here_by : (b : Bool) (j k : VariableKind) (o q : Option VariableKind) → (o ≡ Some k → q ≡ Some k) → cond b (Some j) o ≡ Some k → cond b (Some j) q ≡ Some k
kind_here_by true j k o q ih h = h
kind_here_by false j k o q ih h = ih h

pub kind_here : (xs ys : List Declaration) (x : List ℕ) (k : VariableKind) → kind_of xs x ≡ Some k → kind_of (xs ++ ys) x ≡ Some k
kind_here [] ys x k h = cc
kind_here (d ∷ xs) ys x k h = kind_here_by (bytes_eq d.name x) d.kind k (kind_of xs x) (kind_of (xs ++ ys) x) (kind_here xs ys x k) h

kind_later_by : (b : Bool) (j : VariableKind) (o q r : Option VariableKind) → (o ≡ None → q ≡ r) → cond b (Some j) o ≡ None → cond b (Some j) q ≡ r
kind_later_by true j o q r ih h = cc
kind_later_by false j o q r ih h = ih h

pub kind_later : (xs ys : List Declaration) (x : List ℕ) → kind_of xs x ≡ None → kind_of (xs ++ ys) x ≡ kind_of ys x
kind_later [] ys x h = refl
kind_later (d ∷ xs) ys x h = kind_later_by (bytes_eq d.name x) d.kind (kind_of xs x) (kind_of (xs ++ ys) x) (kind_of ys x) (kind_later xs ys x) h

pub none_more : (xs : List Declaration) → xs ++ [] ≡ xs
none_more xs = append-nil xs
