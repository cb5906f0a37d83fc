-- From an Over on all is that Over.
use Rattle.std.specs.Prelude.{◌≡◌, ℕ, ℤ, List, [], ◌∷◌, true, false}
use Rattle.std.proofs.Common.{refl, ap, ◌∙◌}
use Rattle.imp_slots.specs.Plain.{Guard, DoBreak, Does, Code, Stop, Simple, If, While, Call, Break}
use Rattle.domain_laws.specs.Operations.{Operations}
use Rattle.batch_meaning.specs.Values.{Value, Over, lift, lift2}
use Rattle.batch_meaning.specs.Batch.{LoopOptions, Passed, joined, head_of, behind, batch}

module _ {S : Type 0} (dom : Operations S) (engine : LoopOptions) where
  pub joined_over : (n : ℕ) (y : List ℕ) (xs : List (Value S)) → joined dom engine (Over n y) xs ≡ Over n y
  joined_over n y [] = refl
  joined_over n y (x ∷ xs) = joined_over n y xs

  pub behind_over : (guard : Guard) (body : Value S → Passed S) (n : ℕ) (y : List ℕ) → behind dom engine guard body (Over n y) ≡ Over n y
  behind_over guard body n y = joined_over n y (body (Over n y)).leaving

  module _ (ms : List ℤ) (z : List ℕ) (calls : ℕ → ℕ → Value S → Value S) where
    abbrev B : Code → Value S → Passed S
    B = batch dom engine ms z calls

    -- From an Over on all is that Over.
    pub batch_over : (n : ℕ) (y : List ℕ) (c : Code) (a : Value S) → a ≡ Over n y → (B c a).value ≡ Over n y
    batch_over n y Stop a e = e
    batch_over n y (Simple m effect r) a e = batch_over n y r _ (ap (lift (dom.post (Does effect))) e)
    batch_over n y (If m guard t x r) a e =
        let k = batch_over n y t _ (ap (lift (dom.assume guard true)) e) in
        batch_over n y r _ (ap (λ v. lift2 dom.join v (B x (lift (dom.assume guard false) a)).value) k)
    batch_over n y (While m guard b r) a e = batch_over n y r _ (ap (λ v. behind dom engine guard (B b) ((head_of dom engine ms z m guard (B b) v).value)) e ∙ behind_over guard (B b) n y)
    batch_over n y (Call m call q r) a e = batch_over n y r _ (ap (λ v. lift2 (dom.leave call.returning) v (calls m q (lift (dom.enter call.entering) v))) e)
    batch_over n y (Break m r) a e = batch_over n y r _ (ap (lift (dom.post DoBreak)) e)
