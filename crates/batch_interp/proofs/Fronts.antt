-- What is known before the statements of a procedure that have a check.
use Rattle.std.proofs.Common.{ℕ, zero, suc, ◌≡◌, ◌+◌, ◌<◌, ◌≤◌, true, false, List, [], ◌∷◌, ◌++◌, length, drop, map, reverse, get_or, slice_get, option_map, Option, Some, None, Result, Ok, Err, IfOk, refl, sym, ap, subst, ◌∙◌, arith, append_assoc, add-one}
use Rattle.std.specs.Prelude.{Contains}
use Rattle.std.proofs.lemmas.List.{map-append, reverse-reverse, drop_all}
use Rattle.imp_syntax.specs.declared.edit.Location.TheVariants.{Before}
use Rattle.imp_slots.specs.Plain.{Effect, Code, Stop, Simple, If, While, Call, Break, Routine, code_numbers}
use Rattle.imp_slots.specs.Fits.{IsChecked}
use Rattle.imp_chains.specs.Chains.{chains, holder}
use Rattle.imp_chains.specs.Claims.{PlacesAreFound}
use Rattle.domain_laws.specs.Operations.{Operations}
use Rattle.domain_laws.specs.Checks.{Check, check_of, kind_of}
use Rattle.imp_words.specs.declared.findings.Finding.{Finding}
use Rattle.imp_words.specs.declared.refusal.QueryRefusal.TheVariants.{NoStatement}
use Rattle.batch_meaning.specs.Values.{Value, lift}
use Rattle.batch_meaning.specs.Batch.{LoopOptions}
use Rattle.batch_meaning.specs.Places.{Spot, spot, if_some, entry, value_in, value_at}
use Rattle.batch_meaning.specs.Answers.{found_or, all_values, sum_of, answer_in, answer}
use Rattle.batch_meaning.specs.Report.{CheckedStatement, checked_one, checked_in, checked_statements, verdict_on, finding}
use Rattle.batch_interp.specs.Answered.{value_of}
use Rattle.batch_interp.specs.Frames.{Plan, earlier, body_of, body_at, value_after, value_at_head}
use Rattle.batch_interp.specs.Handing.{in_one, IsEnteredBy}
use Rattle.batch_interp.specs.Pairs.{All2}
use Rattle.batch_interp.specs.Summing.{sum_with}
use Rattle.batch_interp.specs.Gathered.{Gathering, gathered}
use Rattle.batch_interp.specs.Reporting.{claim_of, claims, before_one, of_checks, befores}
use Rattle.batch_interp.specs.Totalling.{first_of, behind_first, all_added, answer_of_sum, EachWith, AreTotals, kind_for, found_from, all_found}
use Rattle.batch_interp.specs.declared.claim.Claim.{Claim}
use Rattle.batch_interp.specs.declared.value.Answer.{Answer}
use Rattle.batch_interp.specs.declared.frames.CallFrame.{CallFrame}
use Rattle.batch_interp.specs.declared.walks.Entered.{Entered}
use Rattle.base_values.proofs.Lists.{drop_item, drop_next}
use Rattle.base_values.proofs.Members.{Member, here, there, in_left, in_right}
use Rattle.batch_sound.proofs.Chains.{has_member, every_ends}
use Rattle.batch_interp.proofs.Alongside.{Agree, IsFound, each_found}
use Rattle.batch_interp.proofs.Members.{all2_as, all2_length, AllOf, all_both, all_as, At}
use Rattle.batch_interp.proofs.Procedures.{there_at}
use Rattle.batch_interp.proofs.Turned.{IsPopped, reversed}
use Rattle.batch_interp.proofs.Walkings.{before_there}
use Rattle.batch_interp.proofs.ChainSums.{sum_so_far, sum_none, one_added_chain}

claims_both : (xs ys : List CheckedStatement) → claims (xs ++ ys) ≡ claims xs ++ claims ys
claims_both [] ys = refl
claims_both (x ∷ xs) ys = ap (λ zs. (x.number, x.effect) ∷ zs) (claims_both xs ys)

-- of a statement that has a check its number and what it does, whatever is known before it
abbrev of_claims : {S : Type 0} → Gathering S (ℕ × Effect)
of_claims = record { simple = λ n e v. claims (checked_one n e (check_of e)); head = λ n v. []; call = λ n i q v. [] }

-- a statement has this number, and this value is known before it
abbrev IsBefore : {S : Type 0} → ℕ × Spot S → ℕ × Effect → Value S → Type 0
IsBefore at k b = (at.0 ≡ k.0) × (at.1.before ≡ b)

before_claim : {S : Type 0} (n : ℕ) (e : Effect) (v w : Value S) (o : Option Check) → All2 (IsBefore (n, spot v None w None)) (claims (checked_one n e o)) (before_one o v)
before_claim n e v w None = tt
before_claim n e v w (Some c) = ((refl, refl), tt)

agree : {S : Type 0} → Agree {S = S} IsBefore of_claims of_checks
agree = record { simple = λ n e v w. before_claim n e v w (check_of e); head = λ n v w h. tt; call = λ n i q v w. tt }

module _ {S : Type 0} (dom : Operations S) (plan : Plan) where
  module _ (place : ℕ) (z : List ℕ) where
    abbrev after : Code → Value S → Value S
    after = value_after dom plan place z

    claims_gathered : (c : Code) (v : Value S) → claims (checked_in c) ≡ gathered of_claims dom plan place z c v
    claims_gathered Stop v = refl
    claims_gathered (Simple n e r) v =
        claims_both (checked_one n e (check_of e)) (checked_in r) ∙ ap (λ ks. claims (checked_one n e (check_of e)) ++ ks) (claims_gathered r (after (Simple n e Stop) v))
    claims_gathered (If n g t e r) v =
        claims_both (checked_in t) (checked_in e ++ checked_in r) ∙ ap (λ ks. claims (checked_in t) ++ ks) (claims_both (checked_in e) (checked_in r))
        ∙ sym (append_assoc (claims (checked_in t)) (claims (checked_in e)) (claims (checked_in r)))
        ∙ (λ i. (claims_gathered t (lift (dom.assume g true) v) i ++ claims_gathered e (lift (dom.assume g false) v) i) ++ claims_gathered r (after (If n g t e Stop) v) i)
    claims_gathered (While n g b r) v =
        claims_both (checked_in b) (checked_in r)
        ∙ (λ i. claims_gathered b (lift (dom.assume g true) (value_at_head dom plan place z n g b v)) i ++ claims_gathered r (after (While n g b Stop) v) i)
    claims_gathered (Call n i q r) v = claims_gathered r (after (Call n i q Stop) v)
    claims_gathered (Break n r) v = claims_gathered r (after (Break n Stop) v)

  -- what stands before a statement is the value at its location
  pub fronts : (place : ℕ) (z : List ℕ) (r : Routine) (v : Value S) → IsChecked plan.program → slice_get plan.program place ≡ Some r → entry dom plan.engine (reverse plan.program) z ≡ Some (earlier plan.program (suc place), v) → All2 (λ (c : ℕ × Effect) b. Some b ≡ value_at dom plan.engine plan.program (Before c.0) z) (claims (checked_in r.code)) (befores dom plan place z r.code v)
  fronts place z r v checked g e =
      let Found = IsFound IsBefore of_claims of_checks agree dom plan place z r.code v in
      all2_as Found (λ c b. Some b ≡ value_at dom plan.engine plan.program (Before c.0) z) (claims (checked_in r.code)) (befores dom plan place z r.code v)
      (λ c b s.
      ap Some (sym s.is.1)
      ∙ sym (ap (λ o. if_some o (λ (x : Spot S). Some x.before)) s.spotted)
      ∙ before_there dom plan place s.at.0 z r v g
      ∙ ap (λ o. if_some o (λ x. value_in dom plan.engine x.0 z x.1 (Before s.at.0))) (sym e)
      ∙ ap (λ n. value_at dom plan.engine plan.program (Before n) z) s.is.0)
      (subst (λ ks. All2 Found ks (befores dom plan place z r.code v)) (sym (claims_gathered place z r.code v)) (each_found IsBefore of_claims of_checks agree dom plan place z r v checked g))

  abbrev at_claim : ℕ × Effect → List ℕ → Option (Value S)
  at_claim c = value_at dom plan.engine plan.program (Before c.0)

  -- the totals so far, with the chains to come, give what all chains give
  abbrev pub SoFar : (all rest : List (List ℕ)) → List (ℕ × Effect) → List (Value S) → Type 0
  SoFar all rest cs vs = EachWith (λ (c : ℕ × Effect) o. sum_so_far dom plan.engine o (all_values dom plan.engine (value_at dom plan.engine plan.program (Before c.0)) rest) ≡ sum_of dom plan.engine (all_values dom plan.engine (value_at dom plan.engine plan.program (Before c.0)) all)) cs vs

  pub none_so_far : (zs : List (List ℕ)) (cs : List (ℕ × Effect)) → SoFar zs zs cs []
  none_so_far zs [] = tt
  none_so_far zs (c ∷ cs) = (sum_none dom plan.engine (all_values dom plan.engine (at_claim c) zs), none_so_far zs cs)

  one_more_chain : (all rest : List (List ℕ)) (z : List ℕ) (cs : List (ℕ × Effect)) (vs bs : List (Value S)) → All2 (λ (c : ℕ × Effect) b. Some b ≡ value_at dom plan.engine plan.program (Before c.0) z) cs bs → SoFar all (z ∷ rest) cs vs → SoFar all rest cs (all_added dom vs bs)
  one_more_chain all rest z [] vs [] f g = tt
  one_more_chain all rest z [] vs (b ∷ bs) f g = absurd f
  one_more_chain all rest z (c ∷ cs) vs [] f g = absurd f
  one_more_chain all rest z (c ∷ cs) vs (b ∷ bs) f g = (one_added_chain dom plan.engine (at_claim c) rest z (first_of vs) b f.0 ∙ g.0, one_more_chain all rest z cs (behind_first vs) bs f.1 g.1)

  sum_end : (o : Option (Value S)) → sum_so_far dom plan.engine o (Some []) ≡ answer_of_sum o
  sum_end None = refl
  sum_end (Some v) = refl

  pub all_chains : (zs : List (List ℕ)) (cs : List (ℕ × Effect)) (vs : List (Value S)) → SoFar zs [] cs vs → AreTotals dom plan zs cs vs
  all_chains zs [] vs g = tt
  all_chains zs (c ∷ cs) vs g = (sym g.0 ∙ sum_end (first_of vs), all_chains zs cs (behind_first vs) g.1)

  -- A checked statement of a block is one of its statements, and has that check.
  record Right (code : Code) (c : CheckedStatement) : Type 0 where
    stands : Member c.number (code_numbers code)
    check : check_of c.effect ≡ Some c.check

  right_more : (c d : Code) (cs : List CheckedStatement) → ((n : ℕ) → Member n (code_numbers c) → Member n (code_numbers d)) → AllOf (Right c) cs → AllOf (Right d) cs
  right_more c d cs f h = all_as (Right c) (Right d) cs (λ x k. record { stands = f x.number k.stands; check = k.check }) h

  right_one : (n : ℕ) (e : Effect) (r : Code) (o : Option Check) → check_of e ≡ o → AllOf (Right (Simple n e r)) (checked_one n e o)
  right_one n e r None k = tt
  right_one n e r (Some c) k = (record { stands = here; check = k }, tt)

  all_right : (c : Code) → AllOf (Right c) (checked_in c)
  all_right Stop = tt
  all_right (Simple n e r) = all_both (Right (Simple n e r)) (checked_one n e (check_of e)) (checked_in r) (right_one n e r (check_of e) refl) (right_more r (Simple n e r) (checked_in r) (λ x. there) (all_right r))
  all_right (If n g t e r) =
      let c = If n g t e r in
      all_both (Right c) (checked_in t) (checked_in e ++ checked_in r) (right_more t c (checked_in t) (λ x m. there (in_left (code_numbers e ++ code_numbers r) m)) (all_right t))
      (all_both (Right c) (checked_in e) (checked_in r) (right_more e c (checked_in e) (λ x m. there (in_right (code_numbers t) (in_left (code_numbers r) m))) (all_right e))
      (right_more r c (checked_in r) (λ x m. there (in_right (code_numbers t) (in_right (code_numbers e) m))) (all_right r)))
  all_right (While n g b r) =
      let c = While n g b r in
      all_both (Right c) (checked_in b) (checked_in r) (right_more b c (checked_in b) (λ x m. there (in_left (code_numbers r) m)) (all_right b))
      (right_more r c (checked_in r) (λ x m. there (in_right (code_numbers b) m)) (all_right r))
  all_right (Call n i q r) = right_more r (Call n i q r) (checked_in r) (λ x. there) (all_right r)
  all_right (Break n r) = right_more r (Break n r) (checked_in r) (λ x. there) (all_right r)

  module _ (place : ℕ) (r : Routine) (checked : IsChecked plan.program) (law : PlacesAreFound) (at : slice_get plan.program place ≡ Some r) where
    one_finding : (c : CheckedStatement) (o : Option (Value S)) → Right r.code c → sum_of dom plan.engine (all_values dom plan.engine (value_at dom plan.engine plan.program (Before c.number)) (chains plan.program place)) ≡ answer_of_sum o → found_from dom plan.engine (c.number, c.effect) o ≡ finding dom plan.engine plan.program c
    one_finding c o k t =
        let f = value_at dom plan.engine plan.program (Before c.number) in
        let h : holder c.number plan.program ≡ Some place = (law plan.program checked place r at).statement c.number (has_member c.number (code_numbers r.code) k.stands) in
        let same : answer dom plan.engine plan.program (Before c.number) [] ≡ answer_of_sum o =
        ap (λ p. answer_in dom plan.engine plan.program (Before c.number) [] (found_or NoStatement p)) h
        ∙ ap (λ zs. sum_of dom plan.engine (all_values dom plan.engine f zs)) (every_ends (chains plan.program place)) ∙ t in
        let kind : kind_for (check_of c.effect) ≡ kind_of c.check = ap kind_for k.check in
        let verdict : verdict_on dom plan.engine c.effect (answer_of_sum o) ≡ verdict_on dom plan.engine c.effect (answer dom plan.engine plan.program (Before c.number) []) = ap (verdict_on dom plan.engine c.effect) (sym same) in
        λ i. record { id = c.number; check = kind i; verdict = verdict i }

    each_finding : (cs : List CheckedStatement) (vs : List (Value S)) → AllOf (Right r.code) cs → AreTotals dom plan (chains plan.program place) (claims cs) vs → all_found dom plan.engine (claims cs) vs ≡ map (finding dom plan.engine plan.program) cs
    each_finding [] vs k t = refl
    each_finding (c ∷ cs) vs k t = λ i. one_finding c (first_of vs) k.0 t.0 i ∷ each_finding cs (behind_first vs) k.1 t.1 i

    pub procedure_findings : (vs : List (Value S)) → AreTotals dom plan (chains plan.program place) (claims (checked_in r.code)) vs → all_found dom plan.engine (claims (checked_in r.code)) vs ≡ map (finding dom plan.engine plan.program) (checked_in r.code)
    procedure_findings vs t = each_finding (checked_in r.code) vs (all_right r.code) t

-- Values that are popped.
pub first_popped : {S : Type 0} (o : Option (Answer S)) (xs ys : List (Answer S)) → IsPopped o xs ys → option_map value_of o ≡ first_of (map value_of (reverse xs))
first_popped None xs ys h = sym (ap (λ zs. first_of (map value_of (reverse zs))) h.0)
first_popped (Some x) xs ys h = sym (ap (λ zs. first_of (map value_of zs)) (reversed xs ys x h))

pub rest_popped : {S : Type 0} (o : Option (Answer S)) (xs ys : List (Answer S)) → IsPopped o xs ys → behind_first (map value_of (reverse xs)) ≡ map value_of (reverse ys)
rest_popped None xs ys h = ap (λ zs. behind_first (map value_of (reverse zs))) h.0 ∙ sym (ap (λ zs. map value_of (reverse zs)) h.1)
rest_popped (Some x) xs ys h = ap (λ zs. behind_first (map value_of zs)) (reversed xs ys x h)

pub one_added : {S : Type 0} (dom : Operations S) (all all' before before' left left' : List (Answer S)) (next : Answer S) → left ≡ left' ++ next ∷ [] → behind_first (map value_of (reverse before)) ≡ map value_of (reverse before') → map value_of all' ≡ map value_of all ++ sum_with dom (first_of (map value_of (reverse before))) (value_of next) ∷ [] → map value_of all' ++ all_added dom (map value_of (reverse before')) (map value_of (reverse left')) ≡ map value_of all ++ all_added dom (map value_of (reverse before)) (map value_of (reverse left))
one_added dom all all' before before' left left' next l q a =
    let total = sum_with dom (first_of (map value_of (reverse before))) (value_of next) in
    let rest = all_added dom (map value_of (reverse before')) (map value_of (reverse left')) in
    ap (λ zs. zs ++ rest) a ∙ append_assoc (map value_of all) (total ∷ []) rest
    ∙ ap (λ zs. map value_of all ++ zs)
    (ap (λ bs. total ∷ all_added dom bs (map value_of (reverse left'))) (sym q)
    ∙ ap (λ zs. all_added dom (map value_of (reverse before)) (map value_of zs)) (sym (reversed left left' next l)))

first_drop : {S : Type 0} (xs : List (Answer S)) (i : ℕ) → first_of (map value_of (drop i xs)) ≡ option_map value_of (slice_get xs i)
first_drop [] zero = refl
first_drop [] (suc i) = refl
first_drop (x ∷ xs) zero = refl
first_drop (x ∷ xs) (suc i) = first_drop xs i

behind_drop : {S : Type 0} (xs : List (Answer S)) (i : ℕ) → behind_first (map value_of (drop i xs)) ≡ map value_of (drop (suc i) xs)
behind_drop [] zero = refl
behind_drop [] (suc i) = refl
behind_drop (x ∷ xs) zero = refl
behind_drop (x ∷ xs) (suc i) = behind_drop xs i

behind_next : {S : Type 0} (xs : List (Answer S)) (i : ℕ) → behind_first (map value_of (drop i xs)) ≡ map value_of (drop (i + 1) xs)
behind_next xs i = rw add-one (behind_drop xs i)

-- the finding of one more statement
pub finding_step : {S : Type 0} (dom : Operations S) (engine : LoopOptions) (found found' : List Finding) (cs : List Claim) (ts : List (Answer S)) (i : ℕ) (c : Claim) (o : Option (Answer S)) (f : Finding) → i < length cs → c ≡ get_or cs i c → o ≡ slice_get ts i → f ≡ found_from dom engine (claim_of c) (option_map value_of o) → found' ≡ found ++ f ∷ [] → found' ++ all_found dom engine (map claim_of (drop (i + 1) cs)) (map value_of (drop (i + 1) ts)) ≡ found ++ all_found dom engine (map claim_of (drop i cs)) (map value_of (drop i ts))
finding_step dom engine found found' cs ts i c o f h e g k a =
    let rest = all_found dom engine (map claim_of (drop (i + 1) cs)) (map value_of (drop (i + 1) ts)) in
    let here : all_found dom engine (map claim_of (drop i cs)) (map value_of (drop i ts)) ≡ f ∷ rest =
    ap (λ ks. all_found dom engine (map claim_of ks) (map value_of (drop i ts))) (drop_item cs i c h e)
    ∙ ap (λ v. found_from dom engine (claim_of c) v ∷ all_found dom engine (map claim_of (drop (i + 1) cs)) (behind_first (map value_of (drop i ts)))) (first_drop ts i ∙ ap (option_map value_of) (sym g))
    ∙ ap (λ x. x ∷ all_found dom engine (map claim_of (drop (i + 1) cs)) (behind_first (map value_of (drop i ts)))) (sym k)
    ∙ ap (λ vs. f ∷ all_found dom engine (map claim_of (drop (i + 1) cs)) vs) (behind_next ts i) in
    ap (λ xs. xs ++ rest) a ∙ append_assoc found (f ∷ []) rest ∙ ap (λ xs. found ++ xs) (sym here)

module _ {S : Type 0} (dom : Operations S) (plan : Plan) where
  -- the totals under one more chain
  pub totals_next : (place i : ℕ) (body : Code) (e : Entered S) (at : At (IsEnteredBy dom plan place) (chains plan.program place) i e) (none all more before left all' : List (Answer S)) → IsChecked plan.program → place < length plan.program → body ≡ body_at plan.program place → none ≡ [] → map value_of more ≡ map value_of none ++ befores dom plan e.frame.place e.frame.sites body (value_of e.before) → before ≡ reverse all → left ≡ reverse more → map value_of all' ≡ all_added dom (map value_of (reverse before)) (map value_of (reverse left)) → SoFar dom plan (chains plan.program place) (drop i (chains plan.program place)) (claims (checked_in (body_at plan.program place))) (map value_of all) → SoFar dom plan (chains plan.program place) (drop (i + 1) (chains plan.program place)) (claims (checked_in (body_at plan.program place))) (map value_of all')
  totals_next place i body e at none all more before left all' checked h b n m k l a g =
      let zs = chains plan.program place in
      let code = body_at plan.program place in
      let r = there_at plan.program place h in
      let here : code ≡ r.0.code = ap body_of r.1 in
      let v = value_of e.before in
      let z = at.item in
      let p : e.frame.place ≡ place = ap (λ (f : CallFrame). f.place) at.holds.frame in
      let q : e.frame.sites ≡ z = ap (λ (f : CallFrame). f.sites) at.holds.frame in
      let same : befores dom plan place z r.0.code v ≡ map value_of more = sym (m ∙ ap (λ xs. map value_of xs ++ befores dom plan e.frame.place e.frame.sites body v) n ∙ (λ j. befores dom plan (p j) (q j) ((b ∙ here) j) v)) in
      let front = subst (λ bs. All2 (λ (c : ℕ × Effect) x. Some x ≡ value_at dom plan.engine plan.program (Before c.0) z) (claims (checked_in r.0.code)) bs) same (fronts dom plan place z r.0 v checked r.1 at.holds.value) in
      let front' = subst (λ c. All2 (λ (c : ℕ × Effect) x. Some x ≡ value_at dom plan.engine plan.program (Before c.0) z) (claims (checked_in c)) (map value_of more)) (sym here) front in
      let turned : map value_of all' ≡ all_added dom (map value_of all) (map value_of more) =
      a ∙ ap (λ xs. all_added dom (map value_of (reverse xs)) (map value_of (reverse left))) k ∙ ap (λ xs. all_added dom (map value_of xs) (map value_of (reverse left))) (reverse-reverse all)
      ∙ ap (λ xs. all_added dom (map value_of all) (map value_of (reverse xs))) l ∙ ap (λ xs. all_added dom (map value_of all) (map value_of xs)) (reverse-reverse more) in
      subst (SoFar dom plan zs (drop (i + 1) zs) (claims (checked_in code))) (sym turned)
      (one_more_chain dom plan zs (drop (i + 1) zs) z (claims (checked_in code)) (map value_of all) (map value_of more) front' (subst (λ ys. SoFar dom plan zs ys (claims (checked_in code)) (map value_of all)) at.rest g))

  pub totals_end : (place i : ℕ) (es : List (Entered S)) (cs : List (ℕ × Effect)) (vs : List (Value S)) → All2 (IsEnteredBy dom plan place) (chains plan.program place) es → length es ≤ i → SoFar dom plan (chains plan.program place) (drop i (chains plan.program place)) cs vs → AreTotals dom plan (chains plan.program place) cs vs
  totals_end place i es cs vs a h g =
      let zs = chains plan.program place in
      all_chains dom plan zs cs vs (subst (λ ys. SoFar dom plan zs ys cs vs) (drop_all i zs (omega (arith, h, all2_length (IsEnteredBy dom plan place) zs es a))) g)

  -- the findings of a procedure are those of the report
  pub findings_come : (place : ℕ) (body : Code) (vs : List (Value S)) (fs : List Finding) → IsChecked plan.program → PlacesAreFound → place < length plan.program → body ≡ body_at plan.program place → AreTotals dom plan (chains plan.program place) (claims (checked_in (body_at plan.program place))) vs → fs ≡ all_found dom plan.engine (claims (checked_in body)) vs → fs ≡ map (finding dom plan.engine plan.program) (checked_in (body_at plan.program place))
  findings_come place body vs fs checked law h b t e =
      let r = there_at plan.program place h in
      let here : body_at plan.program place ≡ r.0.code = ap body_of r.1 in
      e ∙ ap (λ c. all_found dom plan.engine (claims (checked_in c)) vs) (b ∙ here)
      ∙ procedure_findings dom plan place r.0 checked law r.1 vs (subst (λ c. AreTotals dom plan (chains plan.program place) (claims (checked_in c)) vs) here t)
      ∙ sym (ap (λ c. map (finding dom plan.engine plan.program) (checked_in c)) here)

  -- the findings of one more procedure come before
  pub report_next : (k : ℕ) (parts parts' : List (List Finding)) (part : List Finding) → k < length plan.program → part ≡ map (finding dom plan.engine plan.program) (checked_in (body_at plan.program k)) → parts' ≡ parts ++ part ∷ [] → in_one (reverse parts) ≡ map (finding dom plan.engine plan.program) (checked_statements (drop (suc k) plan.program)) → in_one (reverse parts') ≡ map (finding dom plan.engine plan.program) (checked_statements (drop k plan.program))
  report_next k parts parts' part h e a g =
      let r = there_at plan.program k h in
      let f = finding dom plan.engine plan.program in
      ap in_one (reversed parts' parts part a)
      ∙ (λ i. e i ++ g i)
      ∙ ap (λ o. map f (checked_in (body_of o)) ++ map f (checked_statements (drop (suc k) plan.program))) r.1
      ∙ sym (map-append f (checked_in r.0.code) (checked_statements (drop (suc k) plan.program)))
      ∙ sym (ap (λ rs. map f (checked_statements rs)) (drop_next plan.program k r.0 r.1))

  pub report_none : (n : ℕ) (parts : List (List Finding)) → n ≡ length plan.program → parts ≡ [] → in_one (reverse parts) ≡ map (finding dom plan.engine plan.program) (checked_statements (drop n plan.program))
  report_none n parts e a = ap (λ xs. in_one (reverse xs)) a ∙ sym (ap (λ rs. map (finding dom plan.engine plan.program) (checked_statements rs)) (drop_all n plan.program (omega (arith, e))))

-- each finding of a report that is sound
pub each_sound : {E : Type 0} (r : Result (List Finding) E) (all : List Finding) (P : Finding → Type 0) → ((f : Finding) → Contains all f → P f) → IfOk r (λ fs. fs ≡ all) → IfOk r (λ fs. (f : Finding) → Contains fs f → P f)
each_sound (Err e) all P h k = k
each_sound (Ok fs) all P h k = λ f m. h f (subst (λ gs. Contains gs f) k m)
