-- What procedures gave, from the states before their bodies.
use Rattle.std.specs.Prelude.{◌≡◌, ℕ, List, [], ◌∷◌, ◌++◌, set, Option, Some, None, All}
use Rattle.std.proofs.Common.{sym, ap, ◌∙◌, subst}
use Rattle.std.proofs.lemmas.List.Elements.{All-push, All-set}
use Rattle.domain_laws.specs.Operations.{Operations}
use Rattle.batch_meaning.specs.Values.{State}
use Rattle.batch_interp.specs.Frames.{Plan, body_at, passed}
use Rattle.batch_interp.specs.Remembering.{Gives, IsRight}
use Rattle.batch_interp.specs.declared.remembered.Outcome.{Outcome}
use Rattle.batch_interp.proofs.Alike.{under_any_sites}

module _ {S : Type 0} (dom : Operations S) (plan : Plan) where
  pub longer_right : (os ps : List (Option (Outcome S))) → ps ≡ os ++ (None ∷ []) → All (IsRight dom plan) os → All (IsRight dom plan) ps
  longer_right os ps e h = subst (All (IsRight dom plan)) (sym e) (All-push (IsRight dom plan) os None h tt)

  pub put_right : (os : List (Option (Outcome S))) (i : ℕ) (o : Outcome S) → All (IsRight dom plan) os → IsRight dom plan (Some o) → All (IsRight dom plan) (set os i (Some o))
  put_right os i o h k = All-set (IsRight dom plan) os i (Some o) k h

  -- what a procedure gives, along equations
  pub gives_along : (p q : ℕ) (s t e f : S) → p ≡ q → s ≡ t → f ≡ e → Gives dom plan p s e → Gives dom plan q t f
  gives_along p q s t e f place entered end h = λ z. sym (λ i. (passed dom plan (place i) z (body_at plan.program (place i)) (State (entered i))).value) ∙ h z ∙ ap State (sym end)

  -- What is given under some call sites is given under any, since it is a state.
  pub gives_always : (p : ℕ) (z : List ℕ) (s e f : S) → (passed dom plan p z (body_at plan.program p) (State s)).value ≡ State e → f ≡ e → Gives dom plan p s f
  gives_always p z s e f h same = λ y. under_any_sites dom plan p z y (body_at plan.program p) s e h ∙ ap State (sym same)
