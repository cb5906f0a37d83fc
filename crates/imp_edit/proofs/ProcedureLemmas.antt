-- A change at a procedure, as the code makes it.
use Rattle.std.proofs.Common.{ℕ, ◌+◌, ◌<◌, ◌≤◌, ◌≡◌, List, [], ◌∷◌, ◌++◌, length, drop, get_or, cond, true, false, ap, ◌∙◌}
use Rattle.std.specs.Str.{bytes_eq}
use Rattle.std.proofs.lemmas.List.{drop_all}
use Rattle.base_values.proofs.Lists.{drop_item}
use Rattle.imp_syntax.specs.Plain.{Procedure}
use Rattle.imp_edit.specs.Changes.{at_named}

pub met : (x : List ℕ) (made : Procedure → List Procedure) (ps : List Procedure) (i : ℕ) (p : Procedure) → i < length ps → p ≡ get_or ps i p → bytes_eq p.name x ≡ true → at_named x made (drop i ps) ≡ made p ++ drop (i + 1) ps
met x made ps i p h e q = ap (at_named x made) (drop_item ps i p h e) ∙ ap (λ t. cond t (made p ++ drop (i + 1) ps) (p ∷ at_named x made (drop (i + 1) ps))) q

pub passed : (x : List ℕ) (made : Procedure → List Procedure) (ps : List Procedure) (i : ℕ) (p : Procedure) → i < length ps → p ≡ get_or ps i p → bytes_eq p.name x ≡ false → at_named x made (drop i ps) ≡ p ∷ at_named x made (drop (i + 1) ps)
passed x made ps i p h e q = ap (at_named x made) (drop_item ps i p h e) ∙ ap (λ t. cond t (made p ++ drop (i + 1) ps) (p ∷ at_named x made (drop (i + 1) ps))) q

pub ended : (x : List ℕ) (made : Procedure → List Procedure) (ps : List Procedure) (i : ℕ) → length ps ≤ i → at_named x made (drop i ps) ≡ []
ended x made ps i h = ap (at_named x made) (drop_all i ps h)
