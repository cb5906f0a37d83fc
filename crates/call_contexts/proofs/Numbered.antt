-- Statements by their numbers, one at a time.
use Rattle.std.proofs.Common.{ℕ, ◌≡◌, ◌==◌, ◌+◌, ◌<◌, ◌≤◌, ◌||◌, Bool, true, false, List, [], ◌∷◌, ◌++◌, length, drop, get_or, refl, ap, ◌∙◌}
use Rattle.std.specs.Prelude.{if◌then◌else◌}
use Rattle.std.proofs.lemmas.List.{drop_all}
use Rattle.imp_slots.specs.Plain.{Code, Stop, code_numbers}
use Rattle.imp_slots.specs.BlockViews.{before_code, code_of}
use Rattle.imp_slots.specs.declared.blocks.SlotNode.{SlotNode}
use Rattle.imp_slots.specs.declared.blocks.SlotNode.TheVariants as node
use Rattle.imp_chains.specs.Chains.{has}
use Rattle.base_values.proofs.Lists.{drop_item}

pub has_both : (n : ℕ) (xs ys : List ℕ) → has n (xs ++ ys) ≡ (has n xs || has n ys)
has_both n [] ys = refl
has_both n (x ∷ xs) ys = go (n == x) (has_both n xs ys)
  where
    go : (c : Bool) → has n (xs ++ ys) ≡ (has n xs || has n ys) → (if c then true else has n (xs ++ ys)) ≡ ((if c then true else has n xs) || has n ys)
    go true h = refl
    go false h = h

numbers_before : (s : SlotNode) (r : Code) → code_numbers (before_code s r) ≡ code_numbers (before_code s Stop) ++ code_numbers r
numbers_before (node.Simple n a) r = refl
numbers_before (node.If n c t e) r = ap (λ xs. n ∷ xs) (inner (code_numbers t) (code_numbers e) (code_numbers r))
  where
    inner : (xs ys zs : List ℕ) → xs ++ (ys ++ zs) ≡ (xs ++ (ys ++ [])) ++ zs
    inner [] [] zs = refl
    inner [] (y ∷ ys) zs = ap (λ ws. y ∷ ws) (inner [] ys zs)
    inner (x ∷ xs) ys zs = ap (λ ws. x ∷ ws) (inner xs ys zs)
numbers_before (node.While n c b) r = ap (λ xs. n ∷ xs) (inner (code_numbers b) (code_numbers r))
  where
    inner : (xs zs : List ℕ) → xs ++ zs ≡ (xs ++ []) ++ zs
    inner [] zs = refl
    inner (x ∷ xs) zs = ap (λ ws. x ∷ ws) (inner xs zs)
numbers_before (node.Call n i q) r = refl
numbers_before (node.Break n) r = refl

has_before : (n : ℕ) (s : SlotNode) (r : Code) → has n (code_numbers (before_code s r)) ≡ (has n (code_numbers (before_code s Stop)) || has n (code_numbers r))
has_before n s r = ap (has n) (numbers_before s r) ∙ has_both n (code_numbers (before_code s Stop)) (code_numbers r)

has_here : (n : ℕ) (ss : List SlotNode) (i : ℕ) (s : SlotNode) → i < length ss → s ≡ get_or ss i s → has n (code_numbers (code_of (drop i ss))) ≡ (has n (code_numbers (before_code s Stop)) || has n (code_numbers (code_of (drop (i + 1) ss))))
has_here n ss i s h e = ap (λ xs. has n (code_numbers (code_of xs))) (drop_item ss i s h e) ∙ has_before n s (code_of (drop (i + 1) ss))

pub has_step : (n : ℕ) (ss : List SlotNode) (i : ℕ) (s : SlotNode) → i < length ss → s ≡ get_or ss i s → has n (code_numbers (before_code s Stop)) ≡ false → has n (code_numbers (code_of (drop i ss))) ≡ has n (code_numbers (code_of (drop (i + 1) ss)))
has_step n ss i s h e k = has_here n ss i s h e ∙ ap (λ b. b || has n (code_numbers (code_of (drop (i + 1) ss)))) k

pub has_found : (n : ℕ) (ss : List SlotNode) (i : ℕ) (s : SlotNode) → i < length ss → s ≡ get_or ss i s → has n (code_numbers (before_code s Stop)) ≡ true → has n (code_numbers (code_of (drop i ss))) ≡ true
has_found n ss i s h e k = has_here n ss i s h e ∙ ap (λ b. b || has n (code_numbers (code_of (drop (i + 1) ss)))) k

pub has_end : (n : ℕ) (ss : List SlotNode) (i : ℕ) → length ss ≤ i → has n (code_numbers (code_of (drop i ss))) ≡ false
has_end n ss i h = ap (λ xs. has n (code_numbers (code_of xs))) (drop_all i ss h)
