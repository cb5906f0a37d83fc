-- Loops and calls are among the numbers of a block.
use Rattle.std.specs.Prelude.{◌≡◌, ℕ, zero, suc, List, [], ◌∷◌, slice_get, Some, if◌then◌else◌}
use Rattle.std.proofs.Common.{sym, subst}
use Rattle.base_values.proofs.Cases.{by_test}
use Rattle.base_values.proofs.Members.{Member, in_left, in_right}
use Rattle.imp_slots.specs.Plain.{Code, Stop, Simple, If, While, Call, Break, Routine, code_numbers}
use Rattle.imp_slots.specs.Fits.{routine_numbers}
use Rattle.imp_chains.specs.Chains.{calls_to}
use Rattle.cert_meaning.specs.Written.{loops}
use Rattle.cert_accepted.proofs.Lists.{Thins, ends, keeps, drops, thins_both, thins_in}
use Rattle.std.proofs.lemmas.Option.{same_Some}

pub loops_thin : (c : Code) → Thins (loops c) (code_numbers c)
loops_thin Stop = ends
loops_thin (Simple n e r) = drops (loops_thin r)
loops_thin (If n g t e r) = drops (thins_both (loops_thin t) (thins_both (loops_thin e) (loops_thin r)))
loops_thin (While n g b r) = keeps (thins_both (loops_thin b) (loops_thin r))
loops_thin (Call n i q r) = drops (loops_thin r)
loops_thin (Break n r) = drops (loops_thin r)

pub calls_thin : (p : ℕ) (c : Code) → Thins (calls_to p c) (code_numbers c)
calls_thin p Stop = ends
calls_thin p (Simple n e r) = drops (calls_thin p r)
calls_thin p (If n g t e r) = drops (thins_both (calls_thin p t) (thins_both (calls_thin p e) (calls_thin p r)))
calls_thin p (While n g b r) = drops (thins_both (calls_thin p b) (calls_thin p r))
calls_thin p (Call n i q r) =
    by_test p q (λ c. Thins (if c then n ∷ calls_to p r else calls_to p r) (n ∷ code_numbers r)) (λ e. keeps (calls_thin p r)) (λ e. drops (calls_thin p r))
calls_thin p (Break n r) = drops (calls_thin p r)

pub loop_number : (n : ℕ) (c : Code) → Member n (loops c) → Member n (code_numbers c)
loop_number n c m = thins_in n (loops_thin c) m

-- a statement of a procedure is one of the program
pub number_there : (rs : List Routine) (p : ℕ) (r : Routine) (n : ℕ) → slice_get rs p ≡ Some r → Member n (code_numbers r.code) → Member n (routine_numbers rs)
number_there [] p r n e m = absurd cc
number_there (x ∷ rs) zero r n e m = in_left (routine_numbers rs) (subst (λ (r : Routine). Member n (code_numbers r.code)) (sym (same_Some x r e)) m)
number_there (x ∷ rs) (suc p) r n e m = in_right (code_numbers x.code) (number_there rs p r n e m)
