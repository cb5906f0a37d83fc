-- Edits whose statement is one action.
use Rattle.std.proofs.Common.{◌≡◌, ℕ, List, [], ◌∷◌, sym, ap, subst, ◌∙◌}
use Rattle.imp_syntax.specs.Plain.{Statement, Statements, Ends, Starts, numbers, block_of}
use Rattle.imp_check.specs.Programs.{block_count}
use Rattle.imp_edit.specs.Edited.{counting}
use Rattle.test_session.specs.Singles.{IsSingle}

pub single_counts : (s : Statement) (number : ℕ) → IsSingle number s → numbers (Starts s Ends) ≡ counting number (block_count (Starts s Ends))
single_counts s number h = h.numbered ∙ sym (ap (counting number) h.counted)

pub block_counts : (s : Statement) (ss : List Statement) (b : Statements) (number : ℕ) → IsSingle number s → ss ≡ s ∷ [] → b ≡ block_of ss → numbers b ≡ counting number (block_count b)
block_counts s ss b number h one is =
    subst (λ (c : Statements). numbers c ≡ counting number (block_count c)) (sym (is ∙ ap block_of one)) (single_counts s number h)
