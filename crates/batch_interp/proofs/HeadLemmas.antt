-- What is known at the heads of loops, one at a time, and that it is the value at that location.
use Rattle.std.proofs.Common.{ℕ, suc, ◌≡◌, ◌+◌, ◌<◌, ◌≤◌, List, [], ◌∷◌, ◌++◌, length, map, drop, take, reverse, slice_get, Option, Some, true, false, refl, sym, ap, subst, ◌∙◌, arith, append_assoc}
use Rattle.std.proofs.lemmas.List.{map-append, drop_all, take_all}
use Rattle.imp_syntax.specs.declared.edit.Location.TheVariants.{Head as AtHead}
use Rattle.imp_slots.specs.Plain.{Code, Stop, Simple, If, While, Call, Break, Routine}
use Rattle.imp_slots.specs.Fits.{IsChecked}
use Rattle.imp_chains.specs.Chains.{chains}
use Rattle.domain_laws.specs.Operations.{Operations}
use Rattle.batch_meaning.specs.Values.{Value, lift}
use Rattle.batch_meaning.specs.Places.{Spot, if_some, head_value, entry, value_in, value_at}
use Rattle.cert_meaning.specs.Written.{loops}
use Rattle.base_values.proofs.Lists.{drop_next}
use Rattle.batch_interp.specs.Answered.{value_of}
use Rattle.batch_interp.specs.Frames.{Plan, earlier, body_of, body_at, value_after, value_at_head}
use Rattle.batch_interp.specs.Gathered.{Gathering, gathered, within}
use Rattle.batch_interp.specs.Handing.{in_one, IsEnteredBy}
use Rattle.batch_interp.specs.Pairs.{All2}
use Rattle.batch_interp.specs.Heads.{loop_value, head_told, heads_under, under_told, told_under, all_loops_told, of_loops, loop_values}
use Rattle.batch_interp.specs.declared.heads.LoopHead.{LoopHead}
use Rattle.batch_interp.specs.declared.heads.LoopsUnder.{LoopsUnder}
use Rattle.batch_interp.specs.declared.frames.CallFrame.{CallFrame}
use Rattle.batch_interp.specs.declared.walks.Entered.{Entered}
use Rattle.batch_interp.proofs.Alongside.{Agree, IsFound, each_found}
use Rattle.batch_interp.proofs.Members.{all2_as, all2_told, all2_length, At}
use Rattle.batch_interp.proofs.Procedures.{there_at}
use Rattle.batch_interp.proofs.Turned.{reversed}
use Rattle.batch_interp.proofs.Walkings.{head_there}

pub heads_one : {S : Type 0} (xs : List (LoopHead S)) (x : LoopHead S) → map loop_value (xs ++ x ∷ []) ≡ map loop_value xs ++ loop_value x ∷ []
heads_one xs x = map-append loop_value xs (x ∷ [])

-- of a loop its number, whatever is known at its head
abbrev of_numbers : {S : Type 0} → Gathering S ℕ
of_numbers = within (λ e v. []) (λ n v. n ∷ [])

-- a loop has this number, and this value is known at its head
abbrev IsHead : {S : Type 0} → ℕ × Spot S → ℕ → ℕ × Value S → Type 0
IsHead at n x = (at.0 ≡ n) × (x.0 ≡ n) × (head_value at.1 ≡ Some x.1)

agree : {S : Type 0} → Agree {S = S} IsHead of_numbers of_loops
agree = record { simple = λ n e v w. tt; head = λ n v w h. ((refl, refl, refl), tt); call = λ n i q v w. tt }

abbrev found_at : {S : Type 0} → ℕ × Value S → ℕ × Option (Value S)
found_at x = (x.0, Some x.1)

module _ {S : Type 0} (dom : Operations S) (plan : Plan) where
  module _ (place : ℕ) (z : List ℕ) where
    abbrev after : Code → Value S → Value S
    after = value_after dom plan place z

    loops_gathered : (c : Code) (v : Value S) → loops c ≡ gathered of_numbers dom plan place z c v
    loops_gathered Stop v = refl
    loops_gathered (Simple n e r) v = loops_gathered r (after (Simple n e Stop) v)
    loops_gathered (If n g t e r) v =
        sym (append_assoc (loops t) (loops e) (loops r))
        ∙ (λ i. (loops_gathered t (lift (dom.assume g true) v) i ++ loops_gathered e (lift (dom.assume g false) v) i) ++ loops_gathered r (after (If n g t e Stop) v) i)
    loops_gathered (While n g b r) v = λ i. n ∷ (loops_gathered b (lift (dom.assume g true) (value_at_head dom plan place z n g b v)) i ++ loops_gathered r (after (While n g b Stop) v) i)
    loops_gathered (Call n i q r) v = loops_gathered r (after (Call n i q Stop) v)
    loops_gathered (Break n r) v = loops_gathered r (after (Break n Stop) v)

  -- what is known at the heads of a procedure's loops are the values at those locations
  are_heads : (place : ℕ) (z : List ℕ) (r : Routine) (v : Value S) → IsChecked plan.program → slice_get plan.program place ≡ Some r → entry dom plan.engine (reverse plan.program) z ≡ Some (earlier plan.program (suc place), v) → map found_at (loop_values dom plan place z r.code v) ≡ heads_under dom plan.engine plan.program (loops r.code) z
  are_heads place z r v checked g e =
      let Found = IsFound IsHead of_numbers of_loops agree dom plan place z r.code v in
      let f : ℕ → Option (Value S) = λ n. value_at dom plan.engine plan.program (AtHead n) z in
      let told : ℕ → ℕ × Option (Value S) = λ n. (n, f n) in
      let there : (n : ℕ) (x : ℕ × Value S) → Found n x → found_at x ≡ told n = λ n x s.
      let is : Some x.1 ≡ f n =
      sym s.is.2 ∙ sym (ap (λ o. if_some o head_value) s.spotted) ∙ head_there dom plan place s.at.0 z r v g
      ∙ sym (ap (λ o. if_some o (λ y. value_in dom plan.engine y.0 z y.1 (AtHead s.at.0))) e)
      ∙ ap f s.is.0 in
      λ i. (s.is.1 i, is i) in
      all2_told told found_at (loops r.code) (loop_values dom plan place z r.code v)
      (all2_as Found (λ n x. found_at x ≡ told n) (loops r.code) (loop_values dom plan place z r.code v) there
      (subst (λ ns. All2 Found ns (loop_values dom plan place z r.code v)) (sym (loops_gathered place z r.code v)) (each_found IsHead of_numbers of_loops agree dom plan place z r v checked g)))

  told_twice : (hs : List (LoopHead S)) → map head_told hs ≡ map found_at (map loop_value hs)
  told_twice [] = refl
  told_twice (h ∷ hs) = ap (λ xs. head_told h ∷ xs) (told_twice hs)

  -- the loops of a procedure under one more chain to it
  pub loops_next : (place i : ℕ) (body : Code) (e : Entered S) (at : At (IsEnteredBy dom plan place) (chains plan.program place) i e) (none : List (LoopHead S)) (old new : List (LoopsUnder S)) (u : LoopsUnder S) → IsChecked plan.program → place < length plan.program → body ≡ body_at plan.program place → reverse u.chain ≡ e.frame.sites → none ≡ [] → map loop_value u.heads ≡ map loop_value none ++ loop_values dom plan e.frame.place e.frame.sites body (value_of e.before) → new ≡ old ++ u ∷ [] → map under_told old ≡ told_under dom plan.engine plan.program (loops (body_at plan.program place)) (take i (chains plan.program place)) → map under_told new ≡ told_under dom plan.engine plan.program (loops (body_at plan.program place)) (take (i + 1) (chains plan.program place))
  loops_next place i body e at none old new u checked h b c n m a g =
      let zs = chains plan.program place in
      let ns = loops (body_at plan.program place) in
      let r = there_at plan.program place h in
      let here : body_at plan.program place ≡ r.0.code = ap body_of r.1 in
      let p : e.frame.place ≡ place = ap (λ (f : CallFrame). f.place) at.holds.frame in
      let q : e.frame.sites ≡ at.item = ap (λ (f : CallFrame). f.sites) at.holds.frame in
      let heads : map head_told u.heads ≡ heads_under dom plan.engine plan.program ns at.item =
      told_twice u.heads
      ∙ ap (map found_at) (m ∙ ap (λ xs. map loop_value xs ++ loop_values dom plan e.frame.place e.frame.sites body (value_of e.before)) n ∙ (λ j. loop_values dom plan (p j) (q j) ((b ∙ here) j) (value_of e.before)))
      ∙ are_heads place at.item r.0 (value_of e.before) checked r.1 at.holds.value
      ∙ sym (ap (λ c. heads_under dom plan.engine plan.program (loops c) at.item) here) in
      let told : under_told u ≡ (at.item, heads_under dom plan.engine plan.program ns at.item) = λ j. ((c ∙ q) j, heads j) in
      ap (map under_told) a ∙ map-append under_told old (u ∷ [])
      ∙ (λ j. g j ++ told j ∷ [])
      ∙ sym (map-append (λ z. (z, heads_under dom plan.engine plan.program ns z)) (take i zs) (at.item ∷ []))
      ∙ ap (told_under dom plan.engine plan.program ns) (sym at.front)

  pub loops_end : (place i : ℕ) (es : List (Entered S)) (us : List (LoopsUnder S)) → All2 (IsEnteredBy dom plan place) (chains plan.program place) es → length es ≤ i → map under_told us ≡ told_under dom plan.engine plan.program (loops (body_at plan.program place)) (take i (chains plan.program place)) → map under_told us ≡ told_under dom plan.engine plan.program (loops (body_at plan.program place)) (chains plan.program place)
  loops_end place i es us a h g =
      let zs = chains plan.program place in
      g ∙ ap (told_under dom plan.engine plan.program (loops (body_at plan.program place))) (take_all i zs (omega (arith, h, all2_length (IsEnteredBy dom plan place) zs es a)))

  -- the loops of one more procedure come before
  pub all_loops_next : (k : ℕ) (parts parts' : List (List (LoopsUnder S))) (part : List (LoopsUnder S)) → k < length plan.program → map under_told part ≡ told_under dom plan.engine plan.program (loops (body_at plan.program k)) (chains plan.program k) → parts' ≡ parts ++ part ∷ [] → map under_told (in_one (reverse parts)) ≡ all_loops_told dom plan.engine plan.program (suc k) (drop (suc k) plan.program) → map under_told (in_one (reverse parts')) ≡ all_loops_told dom plan.engine plan.program k (drop k plan.program)
  all_loops_next k parts parts' part h e a g =
      let r = there_at plan.program k h in
      ap (λ xs. map under_told (in_one xs)) (reversed parts' parts part a)
      ∙ map-append under_told part (in_one (reverse parts))
      ∙ (λ i. e i ++ g i)
      ∙ ap (λ o. told_under dom plan.engine plan.program (loops (body_of o)) (chains plan.program k) ++ all_loops_told dom plan.engine plan.program (suc k) (drop (suc k) plan.program)) r.1
      ∙ sym (ap (all_loops_told dom plan.engine plan.program k) (drop_next plan.program k r.0 r.1))

  pub all_loops_none : (n : ℕ) (parts : List (List (LoopsUnder S))) → n ≡ length plan.program → parts ≡ [] → map under_told (in_one (reverse parts)) ≡ all_loops_told dom plan.engine plan.program n (drop n plan.program)
  all_loops_none n parts e a = ap (λ xs. map under_told (in_one (reverse xs))) a ∙ sym (ap (all_loops_told dom plan.engine plan.program n) (drop_all n plan.program (omega (arith, e))))
