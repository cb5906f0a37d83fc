-- Arguments beside parameters.
use Rattle.std.proofs.Common.{ℕ, zero, suc, ◌≡◌, ◌+◌, ◌<◌, ◌≤◌, ◌==◌, ◌&&◌, true, List, [], ◌∷◌, length, drop, refl, arith, add-one, drop-cons, get_or}
use Rattle.std.proofs.lemmas.Bool.Decides.{nat_tests}
use Rattle.imp_syntax.specs.Views.{operand_of}
use Rattle.imp_syntax.specs.ActionViews.{operands_of}
use Rattle.imp_syntax.specs.declared.expr.Side.{Side}
use Rattle.imp_syntax.specs.declared.words.Declaration.{Declaration}
use Rattle.imp_check.specs.Statements.{same_length, fits_parameter, fit_parameters}

pub same_length_is : (es : List Side) (ds : List Declaration) → same_length (operands_of es) ds ≡ (length es == length ds)
same_length_is [] [] = refl
same_length_is [] (d ∷ ds) = grind (arith, nat_tests)
same_length_is (e ∷ es) [] = grind (arith, nat_tests)
same_length_is (e ∷ es) (d ∷ ds) = grind (arith, nat_tests, same_length_is es ds)

pub fit_step : (vs : List Declaration) (es : List Side) (ds : List Declaration) (i : ℕ) (e : Side) (d : Declaration) → i < length es → i < length ds → e ≡ get_or es i e → d ≡ get_or ds i d → fit_parameters vs (operands_of (drop i es)) (drop i ds) ≡ (fits_parameter vs (operand_of e) d.kind && fit_parameters vs (operands_of (drop (i + 1) es)) (drop (i + 1) ds))
fit_step vs es ds i e d h k p q = rw (drop-cons es i e, drop-cons ds i d, add-one, ← p, ← q) refl

fit_nil : (vs : List Declaration) (es : List Side) → fit_parameters vs (operands_of es) [] ≡ true
fit_nil vs [] = refl
fit_nil vs (e ∷ es) = refl

pub fit_end : (vs : List Declaration) (es : List Side) (ds : List Declaration) (i : ℕ) → length ds ≤ i → fit_parameters vs (operands_of (drop i es)) (drop i ds) ≡ true
fit_end vs es [] zero h = fit_nil vs es
fit_end vs es [] (suc i) h = fit_nil vs (drop (suc i) es)
fit_end vs es (d ∷ ds) zero h = absurd (omega arith)
fit_end vs [] (d ∷ ds) (suc i) h = refl
fit_end vs (e ∷ es) (d ∷ ds) (suc i) h = fit_end vs es ds i (omega arith)
