-- What two walks through a procedure gather side by side, with the statement of which they do.
use Rattle.std.proofs.Common.{ℕ, ◌≡◌, List, ◌++◌, slice_get, Some, None, true, false, sym, subst}
use Rattle.imp_slots.specs.Plain.{Effect, Does, DoBreak, Invoke, Code, Stop, Simple, If, While, Call, Break, Routine}
use Rattle.imp_slots.specs.Fits.{Distinct, IsChecked}
use Rattle.domain_laws.specs.Operations.{Operations}
use Rattle.batch_meaning.specs.Values.{Value, lift}
use Rattle.batch_meaning.specs.Batch.{Fixed}
use Rattle.batch_meaning.specs.Places.{Spot, spot, find}
use Rattle.base_values.proofs.Members.{Member, here, there, in_left, in_right}
use Rattle.batch_meaning.proofs.Places.{found}
use Rattle.batch_sound.proofs.Chains.{once_in}
use Rattle.batch_interp.specs.Frames.{Plan, value_after, head_there}
use Rattle.batch_interp.specs.Gathered.{Gathering, gathered}
use Rattle.batch_interp.specs.Pairs.{All2}
use Rattle.batch_interp.specs.Seeking.{places}
use Rattle.batch_interp.proofs.Members.{all2_both, all2_as}
use Rattle.batch_interp.proofs.Seekings.{numbers_of_places}

-- Of each statement as many items are gathered, and they are so related, whatever the value after it is.
pub record Agree {S A B : Type 0} (R : ℕ × Spot S → A → B → Type 0) (f : Gathering S A) (g : Gathering S B) : Type 0 where
  pub simple : (n : ℕ) (e : Effect) (v w : Value S) → All2 (R (n, spot v None w None)) (f.simple n e v) (g.simple n e v)
  pub head : (n : ℕ) (v w : Value S) (h : Fixed S) → All2 (R (n, spot v (Some h) w None)) (f.head n h.value) (g.head n h.value)
  pub call : (n : ℕ) (i : Invoke) (q : ℕ) (v w : Value S) → All2 (R (n, spot v None w (Some (i, q)))) (f.call n i q v) (g.call n i q v)

module _ {S A B : Type 0} (R : ℕ × Spot S → A → B → Type 0) (f : Gathering S A) (g : Gathering S B) (agree : Agree R f g) (dom : Operations S) (plan : Plan) (place : ℕ) (z : List ℕ) where
  abbrev P : Code → Value S → List (ℕ × Spot S)
  P = places dom plan place z

  abbrev F : Code → Value S → List A
  F = gathered f dom plan place z

  abbrev G : Code → Value S → List B
  G = gathered g dom plan place z

  -- two items are gathered of a statement of a block
  record Stands (c : Code) (v : Value S) (a : A) (b : B) : Type 0 where
    at : ℕ × Spot S
    stands : Member at (places dom plan place z c v)
    is : R at a b

  first : (c : Code) (v : Value S) (at : ℕ × Spot S) (xs : List A) (ys : List B) → Member at (P c v) → All2 (R at) xs ys → All2 (Stands c v) xs ys
  first c v at xs ys m h = all2_as (R at) (Stands c v) xs ys (λ a b r. record { at = at; stands = m; is = r }) h

  more : (c d : Code) (v w : Value S) (xs : List A) (ys : List B) → ((x : ℕ × Spot S) → Member x (P c v) → Member x (P d w)) → All2 (Stands c v) xs ys → All2 (Stands d w) xs ys
  more c d v w xs ys k h = all2_as (Stands c v) (Stands d w) xs ys (λ a b s. record { at = s.at; stands = k s.at s.stands; is = s.is }) h

  all_stand : (c : Code) (v : Value S) → All2 (Stands c v) (F c v) (G c v)
  all_stand Stop v = tt
  all_stand (Simple n e r) v =
      let c = Simple n e r in
      let w = lift (dom.post (Does e)) v in
      all2_both (Stands c v) (f.simple n e v) (F r w) (g.simple n e v) (G r w)
      (first c v (n, spot v None w None) (f.simple n e v) (g.simple n e v) here (agree.simple n e v w))
      (more r c w v (F r w) (G r w) (λ x. there) (all_stand r w))
  all_stand (If n q t e r) v =
      let c = If n q t e r in
      let a = lift (dom.assume q true) v in
      let b = lift (dom.assume q false) v in
      let w = value_after dom plan place z (If n q t e Stop) v in
      all2_both (Stands c v) (F t a ++ F e b) (F r w) (G t a ++ G e b) (G r w)
      (all2_both (Stands c v) (F t a) (F e b) (G t a) (G e b)
      (more t c a v (F t a) (G t a) (λ x m. there (in_left (P e b ++ P r w) m)) (all_stand t a))
      (more e c b v (F e b) (G e b) (λ x m. there (in_right (P t a) (in_left (P r w) m))) (all_stand e b)))
      (more r c w v (F r w) (G r w) (λ x m. there (in_right (P t a) (in_right (P e b) m))) (all_stand r w))
  all_stand (While n q b r) v =
      let c = While n q b r in
      let h = head_there dom plan place z n q b v in
      let a = lift (dom.assume q true) h.value in
      let w = value_after dom plan place z (While n q b Stop) v in
      all2_both (Stands c v) (f.head n h.value ++ F b a) (F r w) (g.head n h.value ++ G b a) (G r w)
      (all2_both (Stands c v) (f.head n h.value) (F b a) (g.head n h.value) (G b a)
      (first c v (n, spot v (Some h) w None) (f.head n h.value) (g.head n h.value) here (agree.head n v w h))
      (more b c a v (F b a) (G b a) (λ x m. there (in_left (P r w) m)) (all_stand b a)))
      (more r c w v (F r w) (G r w) (λ x m. there (in_right (P b a) m)) (all_stand r w))
  all_stand (Call n i q r) v =
      let c = Call n i q r in
      let w = value_after dom plan place z (Call n i q Stop) v in
      all2_both (Stands c v) (f.call n i q v) (F r w) (g.call n i q v) (G r w)
      (first c v (n, spot v None w (Some (i, q))) (f.call n i q v) (g.call n i q v) here (agree.call n i q v w))
      (more r c w v (F r w) (G r w) (λ x. there) (all_stand r w))
  all_stand (Break n r) v = let w = lift (dom.post DoBreak) v in more r (Break n r) w v (F r w) (G r w) (λ x. there) (all_stand r w)

  -- two items are gathered of a statement that is found by its number
  pub record IsFound (c : Code) (v : Value S) (a : A) (b : B) : Type 0 where
    pub at : ℕ × Spot S
    pub spotted : find at.0 (places dom plan place z c v) ≡ Some at.1
    pub is : R at a b

  pub each_found : (r : Routine) (v : Value S) → IsChecked plan.program → slice_get plan.program place ≡ Some r → All2 (IsFound r.code v) (gathered f dom plan place z r.code v) (gathered g dom plan place z r.code v)
  each_found r v checked e =
      let once = subst Distinct (sym (numbers_of_places dom plan place z r.code v)) (once_in plan.program place r checked.numbers_once e) in
      all2_as (Stands r.code v) (IsFound r.code v) (F r.code v) (G r.code v) (λ a b s. record { at = s.at; spotted = found s.at (P r.code v) once s.stands; is = s.is }) (all_stand r.code v)
