-- The statements of blocks and procedures, one at a time.
use Rattle.std.proofs.Common.{ℕ, ◌≡◌, ◌+◌, ◌<◌, ◌≤◌, false, true, List, [], ◌∷◌, ◌++◌, length, drop, get_or, refl, sym, ap, ◌∙◌, append_assoc}
use Rattle.std.proofs.lemmas.List.{drop_all, append-nil}
use Rattle.imp_slots.specs.Plain.{Code, Stop}
use Rattle.imp_slots.specs.BlockViews.{before_code, code_of}
use Rattle.imp_slots.specs.declared.blocks.SlotNode.{SlotNode}
use Rattle.imp_slots.specs.declared.blocks.SlotNode.TheVariants as node
use Rattle.fault_points.specs.Points.{guard_points}
use Rattle.fault_verdicts.specs.declared.statement.Evaluated.{Evaluated}
use Rattle.fault_verdicts.specs.Statements.{evaluated, evaluated_in}
use Rattle.base_values.proofs.Lists.{drop_item}

before : (s : SlotNode) (r : Code) → evaluated_in (before_code s r) ≡ evaluated_in (before_code s Stop) ++ evaluated_in r
before (node.Simple n a) r = refl
before (node.If n c t e) r =
    ap (λ xs. evaluated n false (guard_points c) ∷ xs)
    (sym (append_assoc (evaluated_in t) (evaluated_in e) (evaluated_in r)) ∙ ap (λ xs. (evaluated_in t ++ xs) ++ evaluated_in r) (sym (append-nil (evaluated_in e))))
before (node.While n c b) r = ap (λ xs. evaluated n true (guard_points c) ∷ (xs ++ evaluated_in r)) (sym (append-nil (evaluated_in b)))
before (node.Call n i q) r = refl
before (node.Break n) r = refl

pub step : (ss : List SlotNode) (i : ℕ) (s : SlotNode) → i < length ss → s ≡ get_or ss i s → evaluated_in (code_of (drop i ss)) ≡ evaluated_in (before_code s Stop) ++ evaluated_in (code_of (drop (i + 1) ss))
step ss i s h e = ap (λ xs. evaluated_in (code_of xs)) (drop_item ss i s h e) ∙ before s (code_of (drop (i + 1) ss))

pub end : (ss : List SlotNode) (i : ℕ) → length ss ≤ i → evaluated_in (code_of (drop i ss)) ≡ []
end ss i h = ap (λ xs. evaluated_in (code_of xs)) (drop_all i ss h)

pub one : (x : Evaluated) (xs : List Evaluated) → x ∷ (xs ++ []) ≡ x ∷ xs
one x xs = ap (λ xs. x ∷ xs) (append-nil xs)

pub two : (x : Evaluated) (xs ys : List Evaluated) → x ∷ (xs ++ (ys ++ [])) ≡ (x ∷ xs) ++ ys
two x xs ys = ap (λ zs. x ∷ (xs ++ zs)) (append-nil ys)
