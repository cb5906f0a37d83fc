-- Changes of trees, as the code makes them.
use Rattle.std.proofs.Common.{ℕ, ◌+◌, ◌<◌, ◌≤◌, ◌≡◌, refl, List, [], ◌∷◌, ◌++◌, length, drop, slice_index_or, cond, ◌==◌, true, false, ap, sym, ◌∙◌, append_assoc}
use Rattle.std.proofs.lemmas.List.{append-nil, drop_all}
use Rattle.base_values.proofs.Cases.{equal_test}
use Rattle.imp_syntax.specs.Plain.{Condition, Statement, Simple, Break, Call, If, While, Statements, Ends, Starts, block_of, statements_of, number_of}
use Rattle.imp_syntax.specs.Changes.{inserted, with_condition}
use Rattle.imp_syntax.specs.Blocks.{statements_back, block_again, block_rest}
use Rattle.edit_entries.specs.Holes.{append}
use Rattle.imp_edit.specs.Changes.{guarded, in_block, in_statement}
use Rattle.imp_check.proofs.StepLemmas.{block_is_of}

-- the statements of one block before another, and back
pub both : (xs ys : Statements) → statements_of (append xs ys) ≡ statements_of xs ++ statements_of ys
both Ends ys = refl
both (Starts s xs) ys = ap (λ (zs : List Statement). s ∷ zs) (both xs ys)

pub in_front : (more b : Statements) → inserted b 0 more ≡ append more b
in_front more b = ap block_of (sym (both more b)) ∙ block_again (append more b)

-- an if or while with another condition
pub conditioned : (d : Condition) (s : Statement) → statements_of (guarded d s) ≡ with_condition s d ∷ []
conditioned d (Simple n a) = refl
conditioned d (Break n) = refl
conditioned d (Call n x g es) = refl
conditioned d (If n c t e) = refl
conditioned d (While n c b) = refl

-- What is still to come of a block with a change at a statement: the statement is met, another one is passed, none is left.
abbrev pub to_come : ℕ → (Statement → Statements) → List Statement → ℕ → List Statement
to_come n made ss i = statements_of (in_block n made (block_of (drop i ss)))

met : (n : ℕ) (made : Statement → Statements) (ss : List Statement) (i : ℕ) (s : Statement) → i < length ss → s ≡ slice_index_or ss i s → (number_of s == n) ≡ true → to_come n made ss i ≡ statements_of (made s) ++ drop (i + 1) ss
met n made ss i s h e q =
    ap (λ b. statements_of (in_block n made b)) (block_rest ss i s h e)
    ∙ ap (λ t. statements_of (cond t (append (made s) (block_of (drop (i + 1) ss))) (Starts (in_statement n made s) (in_block n made (block_of (drop (i + 1) ss)))))) q
    ∙ both (made s) (block_of (drop (i + 1) ss))
    ∙ ap (λ zs. statements_of (made s) ++ zs) (statements_back (drop (i + 1) ss))

pub passed : (n : ℕ) (made : Statement → Statements) (ss : List Statement) (i : ℕ) (s : Statement) → i < length ss → s ≡ slice_index_or ss i s → (number_of s == n) ≡ false → to_come n made ss i ≡ in_statement n made s ∷ to_come n made ss (i + 1)
passed n made ss i s h e q =
    ap (λ b. statements_of (in_block n made b)) (block_rest ss i s h e)
    ∙ ap (λ t. statements_of (cond t (append (made s) (block_of (drop (i + 1) ss))) (Starts (in_statement n made s) (in_block n made (block_of (drop (i + 1) ss)))))) q

ended : (n : ℕ) (made : Statement → Statements) (ss : List Statement) (i : ℕ) → length ss ≤ i → to_come n made ss i ≡ []
ended n made ss i h = ap (λ zs. statements_of (in_block n made (block_of zs))) (drop_all i ss h)

-- the block once the statement is met, and at the end
pub met_whole : (n : ℕ) (made : Statement → Statements) (ss : List Statement) (b : Statements) (i : ℕ) (s : Statement) (front met_too all : List Statement) → i < length ss → s ≡ slice_index_or ss i s → number_of s ≡ n → front ++ to_come n made ss i ≡ statements_of (in_block n made b) → met_too ≡ front ++ statements_of (made s) → all ≡ met_too ++ drop (i + 1) ss → block_of all ≡ in_block n made b
met_whole n made ss b i s front met_too all h e q told r t =
    block_is_of all (in_block n made b)
    (t ∙ ap (λ zs. zs ++ drop (i + 1) ss) r ∙ append_assoc front (statements_of (made s)) (drop (i + 1) ss) ∙ ap (λ zs. front ++ zs) (sym (met n made ss i s h e (equal_test (number_of s) n q))) ∙ told)

pub left_whole : (n : ℕ) (made : Statement → Statements) (ss : List Statement) (b : Statements) (i : ℕ) (front : List Statement) → length ss ≤ i → front ++ to_come n made ss i ≡ statements_of (in_block n made b) → block_of front ≡ in_block n made b
left_whole n made ss b i front h told =
    block_is_of front (in_block n made b) (sym (append-nil front) ∙ ap (λ zs. front ++ zs) (sym (ended n made ss i h)) ∙ told)
