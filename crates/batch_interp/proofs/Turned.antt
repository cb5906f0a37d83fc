-- Lists whose items are popped, the last one first.
use Rattle.std.proofs.Common.{ℕ, ◌≡◌, ◌≢◌, List, [], ◌∷◌, ◌++◌, reverse, Option, Some, None, MatchOption, refl, sym, ap, ◌∙◌, append_assoc}
use Rattle.std.specs.Prelude.{if◌then◌else◌}
use Rattle.std.proofs.lemmas.List.{reverse-append, reverse-reverse}
use Rattle.base_values.proofs.Cases.{by_test}
use Rattle.batch_interp.specs.Handing.{in_one, handed_on, all_handed, handed_to, handed_besides}
use Rattle.batch_interp.specs.Totalling.{first_of, behind_first}
use Rattle.batch_interp.specs.declared.calls.Handed.{Handed}
use Rattle.batch_interp.specs.declared.walks.Entered.{Entered}

pub reversed : {A : Type 0} (xs ys : List A) (x : A) → xs ≡ ys ++ x ∷ [] → reverse xs ≡ x ∷ reverse ys
reversed xs ys x e = ap reverse e ∙ reverse-append ys (x ∷ [])

pub turned_twice : {A : Type 0} (xs : List A) → reverse (reverse xs) ≡ xs
turned_twice xs = reverse-reverse xs

-- what is popped of a list, and what is left
abbrev pub IsPopped : {A : Type 0} → Option A → List A → List A → Type 0
IsPopped o xs ys = MatchOption o ((xs ≡ []) × (ys ≡ [])) (λ x. xs ≡ ys ++ x ∷ [])

pub first_popped : {A : Type 0} (o : Option A) (xs ys : List A) → IsPopped o xs ys → o ≡ first_of (reverse xs)
first_popped None xs ys h = sym (ap (λ zs. first_of (reverse zs)) h.0)
first_popped (Some x) xs ys h = sym (ap first_of (reversed xs ys x h))

pub rest_popped : {A : Type 0} (o : Option A) (xs ys : List A) → IsPopped o xs ys → behind_first (reverse xs) ≡ reverse ys
rest_popped None xs ys h = ap (λ zs. behind_first (reverse zs)) h.0 ∙ sym (ap reverse h.1)
rest_popped (Some x) xs ys h = ap behind_first (reversed xs ys x h)

-- one more item is moved
pub one_moved : {A : Type 0} (all all' left left' : List A) (next : A) → left ≡ left' ++ next ∷ [] → all' ≡ all ++ next ∷ [] → all' ++ reverse left' ≡ all ++ reverse left
one_moved all all' left left' next l a = ap (λ xs. xs ++ reverse left') a ∙ append_assoc all (next ∷ []) (reverse left') ∙ ap (λ xs. all ++ xs) (sym (reversed left left' next l))

-- one more list is put after
pub one_put : {A : Type 0} (all all' : List A) (left left' : List (List A)) (part : List A) → left ≡ left' ++ part ∷ [] → all' ≡ all ++ part → all' ++ in_one (reverse left') ≡ all ++ in_one (reverse left)
one_put all all' left left' part l a = ap (λ xs. xs ++ in_one (reverse left')) a ∙ append_assoc all part (in_one (reverse left')) ∙ ap (λ xs. all ++ in_one xs) (sym (reversed left left' part l))

-- one more call statement hands down
pub one_handed : {S : Type 0} (all all' before before' : List (Handed S)) (left left' : List (Entered S)) (next : Entered S) → left ≡ left' ++ next ∷ [] → behind_first (reverse before) ≡ reverse before' → all' ≡ all ++ handed_on (first_of (reverse before)) next ∷ [] → all' ++ all_handed (reverse before') (reverse left') ≡ all ++ all_handed (reverse before) (reverse left)
one_handed all all' before before' left left' next l b a =
    let h = handed_on (first_of (reverse before)) next in
    ap (λ xs. xs ++ all_handed (reverse before') (reverse left')) a ∙ append_assoc all (h ∷ []) (all_handed (reverse before') (reverse left'))
    ∙ ap (λ xs. all ++ h ∷ all_handed xs (reverse left')) (sym b)
    ∙ ap (λ xs. all ++ all_handed (reverse before) xs) (sym (reversed left left' next l))

-- what one more call statement hands down to the procedure at a place
pub taken_here : {S : Type 0} (p : ℕ) (left left' : List (Handed S)) (h : Handed S) (entered entered' : List (Entered S)) → left ≡ left' ++ h ∷ [] → h.place ≡ p → entered' ≡ entered ++ h.entered → (entered' ++ handed_to p (reverse left') ≡ entered ++ handed_to p (reverse left)) × (handed_besides p (reverse left') ≡ handed_besides p (reverse left))
taken_here p left left' h entered entered' l e a = (
  ap (λ xs. xs ++ handed_to p (reverse left')) a ∙ append_assoc entered h.entered (handed_to p (reverse left'))
      ∙ ap (λ xs. entered ++ xs) (by_test h.place p (λ b. h.entered ++ handed_to p (reverse left') ≡ (if b then h.entered ++ handed_to p (reverse left') else handed_to p (reverse left'))) (λ k. refl) (λ k. absurd (k e)))
      ∙ ap (λ xs. entered ++ handed_to p xs) (sym (reversed left left' h l)),
  by_test h.place p (λ b. handed_besides p (reverse left') ≡ (if b then handed_besides p (reverse left') else h ∷ handed_besides p (reverse left'))) (λ k. refl) (λ k. absurd (k e))
      ∙ ap (handed_besides p) (sym (reversed left left' h l)),
)

pub taken_other : {S : Type 0} (p : ℕ) (left left' : List (Handed S)) (h : Handed S) (others others' : List (Handed S)) → left ≡ left' ++ h ∷ [] → h.place ≢ p → others' ≡ others ++ h ∷ [] → (handed_to p (reverse left') ≡ handed_to p (reverse left)) × (others' ++ handed_besides p (reverse left') ≡ others ++ handed_besides p (reverse left))
taken_other p left left' h others others' l e a = (
  by_test h.place p (λ b. handed_to p (reverse left') ≡ (if b then h.entered ++ handed_to p (reverse left') else handed_to p (reverse left'))) (λ k. absurd (e k)) (λ k. refl)
      ∙ ap (handed_to p) (sym (reversed left left' h l)),
  ap (λ xs. xs ++ handed_besides p (reverse left')) a ∙ append_assoc others (h ∷ []) (handed_besides p (reverse left'))
      ∙ ap (λ xs. others ++ xs) (by_test h.place p (λ b. h ∷ handed_besides p (reverse left') ≡ (if b then handed_besides p (reverse left') else h ∷ handed_besides p (reverse left'))) (λ k. absurd (e k)) (λ k. refl))
      ∙ ap (λ xs. others ++ handed_besides p xs) (sym (reversed left left' h l)),
)
