-- A point that an edit of a statement changes is one of those that it can change.
use Rattle.std.proofs.Common.{◌≡◌, ℕ, List, [], ◌∷◌, Some, reverse, refl, sym, ap, ◌∙◌, subst, ◌⊎◌, inl, inr}
use Rattle.std.specs.List.{Contains}
use Rattle.base_values.proofs.Cases.{by_test}
use Rattle.base_values.proofs.Members.{Member, here, there, contains_of, member_of}
use Rattle.imp_syntax.specs.Plain.{Statement, Statements, Procedure}
use Rattle.imp_slots.specs.Plain.{Routine}
use Rattle.imp_check.specs.Fine.{IsFine}
use Rattle.imp_check.specs.Slots.{routines_of}
use Rattle.imp_edit.specs.Changes.{in_program}
use Rattle.domain_laws.specs.Operations.{Operations}
use Rattle.batch_meaning.specs.Batch.{LoopOptions}
use Rattle.cell_names.specs.declared.frame.Point.{Point}
use Rattle.cell_names.specs.declared.frame.Point.TheVariants.{Entry, Then, Else, Body, Post, Iterate, Fix, Exit, Leap}
use Rattle.cell_kept_set.specs.Touched.{Edit}
use Rattle.cell_kept_set.proofs.Decided.{Decided}
use Rattle.edit_bound_laws.specs.Flow.{FlowPoint, statement_of, Node, node_of, Equation, Begins, Enters, Chooses, Rounds, Acts, Meets, Leaves, Returns, IsReached, itself, along}
use Rattle.edit_bound_laws.specs.Bound.{IsChangedAt}
use Rattle.edit_bound_laws.specs.Neighbours.{inside_program, IsAt, Names, IsLoopChange}
use Rattle.edit_bound_laws.specs.Sources.{IsLoopPoint, IsSource, EmptiedAreBehind}
use Rattle.edit_bound_laws.proofs.Bound.{machines_empty, fine_old, fine_new}
use Rattle.edit_bound_laws.proofs.Others.{others-keep}

either : {A B : Type 0} → Decided A → Decided B → Decided (A ⊎ B)
either (inl a) d = inl (inl a)
either (inr n) (inl b) = inl (inr b)
either (inr n) (inr m) = inr (λ c. elim c [ inl a ↦ n a | inr b ↦ m b ])

same_number : (m n : ℕ) → Decided (m ≡ n)
same_number m n = by_test m n (λ b. Decided (m ≡ n)) (λ e. inl e) (λ e. inr e)

neither : (k x : ℕ) (xs : List ℕ) → (k ≡ x → ⊥) → (Member k xs → ⊥) → Member k (x ∷ xs) → ⊥
neither k x xs e d here = e refl
neither k x xs e d (there m) = d m

is_member : (k : ℕ) (xs : List ℕ) → Decided (Member k xs)
is_member k [] = inr (λ m. elim m [ ])
is_member k (x ∷ xs) = go (same_number k x) (is_member k xs)
  where
    go : Decided (k ≡ x) → Decided (Member k xs) → Decided (Member k (x ∷ xs))
    go (inl e) d = inl (subst (λ y. Member k (y ∷ xs)) e here)
    go (inr e) (inl m) = inl (there m)
    go (inr e) (inr d) = inr (neither k x xs e d)

is_at : (n : ℕ) (p : Point) → Decided (IsAt n p)
is_at n Entry = inr (λ a. a)
is_at n Body = inr (λ a. a)
is_at n (Then m) = same_number m n
is_at n (Else m) = same_number m n
is_at n (Post m) = same_number m n
is_at n (Iterate m k) = inr (λ a. a)
is_at n (Fix m) = inr (λ a. a)
is_at n (Exit m) = inr (λ a. a)
is_at n (Leap m k) = inr (λ a. a)

is_named : (n : ℕ) (q : Equation) → Decided (Names n q)
is_named n (Begins layout) = inr (λ a. a)
is_named n (Enters p entering) = is_at n p
is_named n (Chooses p guard) = is_at n p
is_named n (Rounds p guard last thresholds) = either (is_at n p) (is_at n last)
is_named n (Acts p act) = is_at n p
is_named n (Meets p q) = either (is_at n p) (is_at n q)
is_named n (Leaves guard points numbers) = inr (λ a. a)
is_named n (Returns p returning last) = either (is_at n p) (is_at n last)

loop_point : (ps : List Routine) (m n : ℕ) (q r : Equation) → IsLoopChange ps m n q r → IsLoopPoint ps m n q
loop_point ps m n (Rounds p guard last thresholds) (Rounds q other end others) c = c.3
loop_point ps m n (Leaves guard points numbers) (Leaves other fronts breaks) c = c.1
loop_point ps m n q r c = absurd c

module _ (engine : LoopOptions) (n : ℕ) (made : Statement → Statements) (old : List Procedure) (fo : IsFine old) (fn : IsFine (in_program n made old)) where
  abbrev e : Edit
  e = record { engine = engine; old = routines_of old; new = routines_of (in_program n made old) }

  source : (a : FlowPoint) → IsChangedAt e a → IsSource engine old n a
  source a c = (c.0, c.1, go (is_member (statement_of a) (inside_program n old)) (is_named n c.0))
    where
      go : Decided (Member (statement_of a) (inside_program n old)) → Decided (Names n c.0) → Contains (inside_program n old) (statement_of a) ⊎ (Names n c.0 ⊎ IsLoopPoint (reverse (routines_of old)) (statement_of a) n c.0)
      go (inl m) d = inl (contains_of (statement_of a) (inside_program n old) m)
      go (inr k) (inl m) = inr (inl m)
      go (inr k) (inr d) =
          let r = others-keep engine n made old a c.0 fo fn c.1 (λ m. k (member_of (statement_of a) (inside_program n old) m)) d in
          elim r.2 [
            | inl same ↦ absurd (c.2 (r.1 ∙ ap (λ x. Some x) (sym same)))
            | inr change ↦ inr (inr (loop_point (reverse (routines_of old)) (statement_of a) n c.0 r.0 change))
          ]

  pub reach_more : (a : Node) → IsReached engine (reverse (routines_of old)) (λ a. IsChangedAt e a.point) a → IsReached engine (reverse (routines_of old)) (λ a. IsSource engine old n a.point) a
  reach_more a (itself _ c) = itself a (source a.point c)
  reach_more b (along a _ r f) = along a b (reach_more a r) f

pub emptied-behind : {S : Type 0} (dom : Operations S) → EmptiedAreBehind dom
emptied-behind dom m n made past future next apart k x h gone =
    let program = in_program n made m.program in
    reach_more m.engine n made m.program (fine_old m.program program apart) (fine_new m.program program apart) (node_of x) (machines_empty dom m program past future next apart k x h gone)
