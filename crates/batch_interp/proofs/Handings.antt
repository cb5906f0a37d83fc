-- What calls hand down is their procedures, entered under the chains to them.
use Rattle.std.proofs.Common.{ℕ, zero, suc, ◌≡◌, ◌≢◌, ◌+◌, ◌-◌, ◌<◌, ◌≤◌, true, false, List, [], ◌∷◌, ◌++◌, length, map, drop, take, reverse, slice_get, Some, None, refl, sym, ap, subst, ◌∙◌, arith, append_assoc}
use Rattle.std.specs.Prelude.{◌==◌, if◌then◌else◌}
use Rattle.std.proofs.lemmas.List.{drop_all, take_all, length-take-le}
use Rattle.imp_slots.specs.Plain.{Invoke, Code, Stop, Simple, If, While, Call, Break, Routine}
use Rattle.imp_slots.specs.Fits.{IsChecked}
use Rattle.imp_chains.specs.Chains.{calls_to, extended, through, chains_within, chains}
use Rattle.imp_chains.specs.Claims.{ChainsAreThroughCallers}
use Rattle.imp_chains.proofs.Found.{called_earlier}
use Rattle.domain_laws.specs.Operations.{Operations}
use Rattle.batch_meaning.specs.Values.{Value, lift}
use Rattle.batch_meaning.specs.Places.{Spot, find, if_some, entered, entry}
use Rattle.base_values.proofs.Cases.{by_test}
use Rattle.base_values.proofs.Lists.{get_take, drop_next}
use Rattle.base_values.proofs.Members.{Member, here, there}
use Rattle.batch_interp.specs.Answered.{value_of}
use Rattle.batch_interp.specs.Frames.{Plan, earlier, body_of, body_at, value_after, value_at_head}
use Rattle.batch_interp.specs.Gathered.{Gathering, gathered}
use Rattle.batch_interp.specs.Handing.{told_of, handed_on, all_handed, handed_to, handed_besides, of_calls, calls_from, IsEnteredBy, coming, AreEntered, AreHandedBy, AreHanded}
use Rattle.batch_interp.specs.Pairs.{All2}
use Rattle.batch_interp.specs.Seeking.{places}
use Rattle.batch_interp.specs.Walking.{entered_of, called_from}
use Rattle.batch_interp.specs.declared.calls.Handed.{Handed}
use Rattle.batch_interp.specs.declared.frames.CallFrame.{CallFrame}
use Rattle.batch_interp.specs.declared.walks.Entered.{Entered}
use Rattle.batch_interp.proofs.Alongside.{Agree, IsFound, each_found}
use Rattle.batch_interp.proofs.Members.{all2_both, all2_within, all2_map, all2_length, At}
use Rattle.batch_interp.proofs.Once.{fit_at, called_before}
use Rattle.batch_interp.proofs.Procedures.{there_at, from_earlier}
use Rattle.batch_interp.proofs.Walkings.{standing, entered_there}

-- the calls of a block, each with its procedure
abbrev pub calls_made : Code → List (ℕ × ℕ)
calls_made Stop = []
calls_made (Simple n e r) = calls_made r
calls_made (If n g t e r) = (calls_made t ++ calls_made e) ++ calls_made r
calls_made (While n g b r) = calls_made b ++ calls_made r
calls_made (Call n i q r) = (n, q) ∷ calls_made r
calls_made (Break n r) = calls_made r

-- those of procedure p
abbrev pub sites_to : (p : ℕ) → List (ℕ × ℕ) → List ℕ
sites_to p [] = []
sites_to p (k ∷ ks) = if p == k.1 then k.0 ∷ sites_to p ks else sites_to p ks

made_site : (ks : List (ℕ × ℕ)) (k : ℕ × ℕ) → Member k ks → Member k.0 (sites_to k.1 ks)
made_site [] k m = elim m [ ]
made_site (x ∷ ks) k here = by_test k.1 k.1 (λ c. Member k.0 (if c then k.0 ∷ sites_to k.1 ks else sites_to k.1 ks)) (λ e. here) (λ e. absurd (e refl))
made_site (x ∷ ks) k (there m) = by_test k.1 x.1 (λ c. Member k.0 (if c then x.0 ∷ sites_to k.1 ks else sites_to k.1 ks)) (λ e. there (made_site ks k m)) (λ e. made_site ks k m)

sites_both : (p : ℕ) (xs ys : List (ℕ × ℕ)) → sites_to p (xs ++ ys) ≡ sites_to p xs ++ sites_to p ys
sites_both p [] ys = refl
sites_both p (x ∷ xs) ys = by_test p x.1 (λ c. (if c then x.0 ∷ sites_to p (xs ++ ys) else sites_to p (xs ++ ys)) ≡ (if c then x.0 ∷ sites_to p xs else sites_to p xs) ++ sites_to p ys) (λ e. ap (λ zs. x.0 ∷ zs) (sites_both p xs ys)) (λ e. sites_both p xs ys)

pub sites_of : (p : ℕ) (c : Code) → sites_to p (calls_made c) ≡ calls_to p c
sites_of p Stop = refl
sites_of p (Simple n e r) = sites_of p r
sites_of p (If n g t e r) =
    sites_both p (calls_made t ++ calls_made e) (calls_made r) ∙ ap (λ xs. xs ++ sites_to p (calls_made r)) (sites_both p (calls_made t) (calls_made e))
    ∙ append_assoc (sites_to p (calls_made t)) (sites_to p (calls_made e)) (sites_to p (calls_made r))
    ∙ (λ i. sites_of p t i ++ (sites_of p e i ++ sites_of p r i))
sites_of p (While n g b r) = sites_both p (calls_made b) (calls_made r) ∙ (λ i. sites_of p b i ++ sites_of p r i)
sites_of p (Call n i q r) = by_test p q (λ c. (if c then n ∷ sites_to p (calls_made r) else sites_to p (calls_made r)) ≡ (if c then n ∷ calls_to p r else calls_to p r)) (λ e. ap (λ xs. n ∷ xs) (sites_of p r)) (λ e. sites_of p r)
sites_of p (Break n r) = sites_of p r

-- main's frame, where main stands at this place
abbrev main_at : ℕ → CallFrame
main_at n = record { place = n; sites = [] }

-- of a call its number and its procedure's place, whatever is known before it
abbrev of_sites : {S : Type 0} → Gathering S (ℕ × ℕ)
of_sites = record { simple = λ n e v. []; head = λ n v. []; call = λ n i q v. (n, q) ∷ [] }

-- a call has this number and procedure, and enters it so
record Calls {S : Type 0} (dom : Operations S) (z : List ℕ) (at : ℕ × Spot S) (k : ℕ × ℕ) (w : CallFrame × Value S) : Type 0 where
  invoke : Invoke
  number : at.0 ≡ k.0
  calls : at.1.call ≡ Some (invoke, k.1)
  frame : w.0 ≡ record { place = k.1; sites = k.0 ∷ z }
  value : lift (dom.enter invoke.entering) at.1.before ≡ w.1

agree : {S : Type 0} (dom : Operations S) (z : List ℕ) → Agree (Calls dom z) of_sites (of_calls dom z)
agree dom z = record {
  simple = λ n e v w. tt;
  head = λ n v w h. tt;
  call = λ n i q v w. (record { invoke = i; number = refl; calls = refl; frame = refl; value = refl }, tt);
}

module _ {S : Type 0} (dom : Operations S) (plan : Plan) where
  module _ (place : ℕ) (z : List ℕ) where
    abbrev after : Code → Value S → Value S
    after = value_after dom plan place z

    sites_gathered : (c : Code) (v : Value S) → calls_made c ≡ gathered of_sites dom plan place z c v
    sites_gathered Stop v = refl
    sites_gathered (Simple n e r) v = sites_gathered r (after (Simple n e Stop) v)
    sites_gathered (If n g t e r) v = λ i. (sites_gathered t (lift (dom.assume g true) v) i ++ sites_gathered e (lift (dom.assume g false) v) i) ++ sites_gathered r (after (If n g t e Stop) v) i
    sites_gathered (While n g b r) v = λ i. sites_gathered b (lift (dom.assume g true) (value_at_head dom plan place z n g b v)) i ++ sites_gathered r (after (While n g b Stop) v) i
    sites_gathered (Call n j q r) v = ap (λ ks. (n, q) ∷ ks) (sites_gathered r (after (Call n j q Stop) v))
    sites_gathered (Break n r) v = sites_gathered r (after (Break n Stop) v)

    abbrev Found : Routine → Value S → ℕ × ℕ → CallFrame × Value S → Type 0
    Found r v = IsFound (Calls dom z) of_sites (of_calls dom z) (agree dom z) dom plan place z r.code v

  -- the procedures that calls enter, under the chains through the calls
  abbrev pub Enters : (z : List ℕ) → ℕ × ℕ → Entered S → Type 0
  Enters z k e = IsEnteredBy dom plan k.1 (k.0 ∷ z) e

  enters : (place : ℕ) (z : List ℕ) (r : Routine) (v : Value S) (k : ℕ × ℕ) (e : Entered S) → IsChecked plan.program → slice_get plan.program place ≡ Some r → entry dom plan.engine (reverse plan.program) z ≡ Some (earlier plan.program (suc place), v) → Member k (calls_made r.code) → Found place z r v k (told_of e) → Enters z k e
  enters place z r v k e checked g en m s =
      let before = s.at.1.before in
      let enter = lift (dom.enter s.is.invoke.entering) in
      let seen : find k.0 (places dom plan place z r.code v) ≡ Some s.at.1 = ap (λ n. find n (places dom plan place z r.code v)) (sym s.is.number) ∙ s.spotted in
      let q = called_before plan.program place k.1 r k.0 checked g (subst (Member k.0) (sites_of k.1 r.code) (made_site (calls_made r.code) k m)) in
      let list : called_from dom plan.program place before (Some (s.is.invoke, k.1)) ≡ Some (earlier plan.program (suc k.1), enter before) =
      ap (λ rs. Some (rs, enter before)) (from_earlier plan.program place k.1 q.0 q.1 ∙ sym (standing plan.program k.1 q.0 (get_take plan.program place k.1 q.0 q.1))) in
      record {
        frame = s.is.frame;
        value =
            ap (λ o. if_some o (entered dom plan.engine k.0 z)) en
            ∙ entered_there dom plan place k.0 z r v (Some s.at.1) g (sym seen)
            ∙ ap (called_from dom plan.program place before) s.is.calls
            ∙ list
            ∙ ap (λ w. Some (earlier plan.program (suc k.1), w)) s.is.value;
      }

  -- what a walk through a body under one chain hands down
  row : (place : ℕ) (z : List ℕ) (c : Code) (r : Routine) (x : Entered S) (es : List (Entered S)) → IsChecked plan.program → slice_get plan.program place ≡ Some r → c ≡ r.code → IsEnteredBy dom plan place z x → map told_of es ≡ calls_from dom plan x.frame.place x.frame.sites c (value_of x.before) → All2 (λ k e. IsEnteredBy dom plan k.1 (k.0 ∷ z) e) (calls_made r.code) es
  row place z c r x es checked g b i m =
      let v = value_of x.before in
      let same : calls_from dom plan place z r.code v ≡ map told_of es =
      (let p : place ≡ x.frame.place = sym (ap (λ (f : CallFrame). f.place) i.frame) in let q : z ≡ x.frame.sites = sym (ap (λ (f : CallFrame). f.sites) i.frame) in λ j. calls_from dom plan (p j) (q j) (sym b j) v) ∙ sym m in
      let all : All2 (Found place z r v) (calls_made r.code) (calls_from dom plan place z r.code v) =
      subst (λ ks. All2 (Found place z r v) ks (calls_from dom plan place z r.code v)) (sym (sites_gathered place z r.code v)) (each_found (Calls dom z) of_sites (of_calls dom z) (agree dom z) dom plan place z r v checked g) in
      all2_within (λ k e. Found place z r v k (told_of e)) (Enters z) (calls_made r.code) es (λ k e n s. enters place z r v k e checked g i.value n s)
      (all2_map (Found place z r v) told_of (calls_made r.code) es (subst (All2 (Found place z r v) (calls_made r.code)) same all))

  -- what a call statement hands down under these chains
  pub record Column (zs : List (List ℕ)) (k : ℕ × ℕ) (h : Handed S) : Type 0 where
    pub callee : h.place ≡ k.1
    pub all : All2 (λ z e. IsEnteredBy dom plan k.1 (k.0 ∷ z) e) zs h.entered

  -- What the calls of a procedure hand down under these chains: nothing where there is no chain.
  abbrev pub AreColumns : List (List ℕ) → List (ℕ × ℕ) → List (Handed S) → Type 0
  AreColumns [] ks hs = hs ≡ []
  AreColumns (z ∷ zs) ks hs = All2 (Column (z ∷ zs)) ks hs

  one_on : (zs : List (List ℕ)) (z : List ℕ) (k : ℕ × ℕ) (h : Handed S) (e : Entered S) → Column zs k h → Enters z k e → Column (zs ++ z ∷ []) k (handed_on (Some h) e)
  one_on zs z k h e c i = record { callee = c.callee; all = all2_both (λ z e. IsEnteredBy dom plan k.1 (k.0 ∷ z) e) zs (z ∷ []) h.entered (e ∷ []) c.all (i, tt) }

  first_on : (z : List ℕ) (k : ℕ × ℕ) (e : Entered S) → Enters z k e → Column (z ∷ []) k (handed_on None e)
  first_on z k e i = record { callee = ap (λ (f : CallFrame). f.place) i.frame; all = (i, tt) }

  first_row : (z : List ℕ) (ks : List (ℕ × ℕ)) (es : List (Entered S)) → All2 (Enters z) ks es → All2 (Column (z ∷ [])) ks (all_handed [] es)
  first_row z [] [] h = tt
  first_row z [] (e ∷ es) h = absurd h
  first_row z (k ∷ ks) [] h = absurd h
  first_row z (k ∷ ks) (e ∷ es) h = (first_on z k e h.0, first_row z ks es h.1)

  next_row : (zs : List (List ℕ)) (z : List ℕ) (ks : List (ℕ × ℕ)) (hs : List (Handed S)) (es : List (Entered S)) → All2 (Column zs) ks hs → All2 (Enters z) ks es → All2 (Column (zs ++ z ∷ [])) ks (all_handed hs es)
  next_row zs z [] [] [] c h = tt
  next_row zs z [] [] (e ∷ es) c h = absurd h
  next_row zs z [] (x ∷ hs) es c h = absurd c
  next_row zs z (k ∷ ks) [] es c h = absurd c
  next_row zs z (k ∷ ks) (x ∷ hs) [] c h = absurd h
  next_row zs z (k ∷ ks) (x ∷ hs) (e ∷ es) c h = (one_on zs z k x e c.0 h.0, next_row zs z ks hs es c.1 h.1)

  columns_step : (zs : List (List ℕ)) (z : List ℕ) (ks : List (ℕ × ℕ)) (hs : List (Handed S)) (es : List (Entered S)) → AreColumns zs ks hs → All2 (λ k e. IsEnteredBy dom plan k.1 (k.0 ∷ z) e) ks es → AreColumns (zs ++ z ∷ []) ks (all_handed hs es)
  columns_step [] z ks hs es c h = subst (λ xs. All2 (Column (z ∷ [])) ks (all_handed xs es)) (sym c) (first_row z ks es h)
  columns_step (y ∷ zs) z ks hs es c h = next_row (y ∷ zs) z ks hs es c h

  -- what the calls of a procedure hand down under one more chain
  pub columns_next : (place i : ℕ) (body : Code) (x : Entered S) (at : At (IsEnteredBy dom plan place) (chains plan.program place) i x) (none calls : List (Entered S)) (hs hs' : List (Handed S)) → IsChecked plan.program → place < length plan.program → body ≡ body_at plan.program place → none ≡ [] → map told_of calls ≡ map told_of none ++ calls_from dom plan x.frame.place x.frame.sites body (value_of x.before) → hs' ≡ all_handed hs calls → AreColumns (take i (chains plan.program place)) (calls_made (body_at plan.program place)) hs → AreColumns (take (i + 1) (chains plan.program place)) (calls_made (body_at plan.program place)) hs'
  columns_next place i body x at none calls hs hs' checked h b n m a c =
      let r = there_at plan.program place h in
      let code : body_at plan.program place ≡ r.0.code = ap body_of r.1 in
      let told : map told_of calls ≡ calls_from dom plan x.frame.place x.frame.sites body (value_of x.before) = m ∙ ap (λ xs. map told_of xs ++ calls_from dom plan x.frame.place x.frame.sites body (value_of x.before)) n in
      let one = row place at.item body r.0 x calls checked r.1 (b ∙ code) at.holds told in
      subst (λ ys. AreColumns ys (calls_made (body_at plan.program place)) hs') (sym at.front)
      (subst (AreColumns (take i (chains plan.program place) ++ at.item ∷ []) (calls_made (body_at plan.program place))) (sym a)
      (columns_step (take i (chains plan.program place)) at.item (calls_made (body_at plan.program place)) hs calls c
      (subst (λ ks. All2 (λ k e. IsEnteredBy dom plan k.1 (k.0 ∷ at.item) e) ks calls) (sym (ap calls_made code)) one)))

  longer : (n p : ℕ) (zs : List (List ℕ)) (es : List (Entered S)) → All2 (λ z e. IsEnteredBy dom plan p (n ∷ z) e) zs es → AreEntered dom plan p (map (λ z. n ∷ z) zs) es
  longer n p [] [] h = tt
  longer n p [] (e ∷ es) h = absurd h
  longer n p (z ∷ zs) [] h = absurd h
  longer n p (z ∷ zs) (e ∷ es) h = (h.0, longer n p zs es h.1)

  all_longer : (p : ℕ) (zs : List (List ℕ)) (ks : List (ℕ × ℕ)) (hs : List (Handed S)) → All2 (Column zs) ks hs → AreEntered dom plan p (extended zs (sites_to p ks)) (handed_to p hs)
  all_longer p zs [] [] c = tt
  all_longer p zs [] (h ∷ hs) c = absurd c
  all_longer p zs (k ∷ ks) [] c = absurd c
  all_longer p zs (k ∷ ks) (h ∷ hs) c =
      let rest = all_longer p zs ks hs c.1 in
      subst (λ q. AreEntered dom plan p (extended zs (if p == k.1 then k.0 ∷ sites_to p ks else sites_to p ks)) (if q == p then h.entered ++ handed_to p hs else handed_to p hs)) (sym c.0.callee)
      (by_test p k.1 (λ b. AreEntered dom plan p (extended zs (if b then k.0 ∷ sites_to p ks else sites_to p ks)) (if k.1 == p then h.entered ++ handed_to p hs else handed_to p hs))
      (λ e. by_test k.1 p (λ b. AreEntered dom plan p (extended zs (k.0 ∷ sites_to p ks)) (if b then h.entered ++ handed_to p hs else handed_to p hs))
      (λ f. all2_both (IsEnteredBy dom plan p) (map (λ z. k.0 ∷ z) zs) (extended zs (sites_to p ks)) h.entered (handed_to p hs)
      (longer k.0 p zs h.entered (subst (λ q. All2 (λ z e. IsEnteredBy dom plan q (k.0 ∷ z) e) zs h.entered) f c.0.all)) rest)
      (λ f. absurd (f (sym e))))
      (λ e. by_test k.1 p (λ b. AreEntered dom plan p (extended zs (sites_to p ks)) (if b then h.entered ++ handed_to p hs else handed_to p hs)) (λ f. absurd (e (sym f))) (λ f. rest)))

  none_longer : (ns : List ℕ) → extended [] ns ≡ []
  none_longer [] = refl
  none_longer (n ∷ ns) = none_longer ns

  columns_all : (p : ℕ) (zs : List (List ℕ)) (ks : List (ℕ × ℕ)) (hs : List (Handed S)) → AreColumns zs ks hs → AreEntered dom plan p (extended zs (sites_to p ks)) (handed_to p hs)
  columns_all p [] ks hs c = subst (λ xs. AreEntered dom plan p (extended [] (sites_to p ks)) (handed_to p xs)) (sym c) (subst (λ zs. AreEntered dom plan p zs []) (sym (none_longer (sites_to p ks))) tt)
  columns_all p (z ∷ zs) ks hs c = all_longer p (z ∷ zs) ks hs c

  -- what a procedure's calls hand down under all chains to it
  pub columns_end : (place i : ℕ) (es : List (Entered S)) (hs : List (Handed S)) → AreEntered dom plan place (chains plan.program place) es → length es ≤ i → AreColumns (take i (chains plan.program place)) (calls_made (body_at plan.program place)) hs → AreHandedBy dom plan place hs
  columns_end place i es hs a h c = λ p.
      let zs = chains plan.program place in
      let all : take i zs ≡ zs = take_all i zs (omega (arith, h, all2_length (IsEnteredBy dom plan place) zs es a)) in
      subst (λ ys. AreEntered dom plan p ys (handed_to p hs)) (λ j. extended (all j) (sites_of p (body_at plan.program place) j)) (columns_all p (take i zs) (calls_made (body_at plan.program place)) hs c)

  to_both : (p : ℕ) (hs js : List (Handed S)) → handed_to p (hs ++ js) ≡ handed_to p hs ++ handed_to p js
  to_both p [] js = refl
  to_both p (h ∷ hs) js =
      by_test h.place p (λ b. (if b then h.entered ++ handed_to p (hs ++ js) else handed_to p (hs ++ js)) ≡ (if b then h.entered ++ handed_to p hs else handed_to p hs) ++ handed_to p js)
      (λ e. ap (λ xs. h.entered ++ xs) (to_both p hs js) ∙ sym (append_assoc h.entered (handed_to p hs) (handed_to p js))) (λ e. to_both p hs js)

  to_others : (p k : ℕ) (hs : List (Handed S)) → p ≢ k → handed_to p (handed_besides k hs) ≡ handed_to p hs
  to_others p k [] n = refl
  to_others p k (h ∷ hs) n =
      by_test h.place k (λ b. handed_to p (if b then handed_besides k hs else h ∷ handed_besides k hs) ≡ handed_to p (h ∷ hs))
      (λ e. to_others p k hs n ∙ by_test h.place p (λ b. handed_to p hs ≡ (if b then h.entered ++ handed_to p hs else handed_to p hs)) (λ f. absurd (n (sym f ∙ e))) (λ f. refl))
      (λ e. by_test h.place p (λ b. (if b then h.entered ++ handed_to p (handed_besides k hs) else handed_to p (handed_besides k hs)) ≡ (if b then h.entered ++ handed_to p hs else handed_to p hs)) (λ f. ap (λ xs. h.entered ++ xs) (to_others p k hs n)) (λ f. to_others p k hs n))

  -- the calls of one more procedure
  handed_next : (k : ℕ) (r : Routine) (hs cs : List (Handed S)) → slice_get plan.program k ≡ Some r → k < length plan.program → AreHanded dom plan (suc k) hs → AreHandedBy dom plan k cs → AreHanded dom plan k (cs ++ handed_besides k hs)
  handed_next k r hs cs g h a b = λ p l.
      let before : p ≢ k = λ e. (let bad : k < k = subst (λ q. q < k) e l in omega (arith, bad)) in
      let lists : handed_to p (cs ++ handed_besides k hs) ≡ handed_to p cs ++ handed_to p hs = to_both p cs (handed_besides k hs) ∙ ap (λ xs. handed_to p cs ++ xs) (to_others p k hs before) in
      let here : AreEntered dom plan p (extended (chains plan.program k) (calls_to p r.code)) (handed_to p cs) = subst (λ o. AreEntered dom plan p (extended (chains plan.program k) (calls_to p (body_of o))) (handed_to p cs)) g (b p) in
      let later : AreEntered dom plan p (coming plan.program (suc k) p) (handed_to p hs) = a p (omega (arith, l)) in
      subst (AreEntered dom plan p (coming plan.program k p)) (sym lists)
      ((by_test (suc p) (length plan.program)
      (λ c. AreEntered dom plan p (if c then [] ∷ [] else through (chains plan.program) (suc k) (drop (suc k) plan.program) p) (handed_to p hs) → AreEntered dom plan p (if c then [] ∷ [] else through (chains plan.program) k (drop k plan.program) p) (handed_to p cs ++ handed_to p hs))
      (λ e x. absurd (omega (arith, e, h, l)))
      (λ e x. subst (λ zs. AreEntered dom plan p zs (handed_to p cs ++ handed_to p hs)) (sym (ap (λ rs. through (chains plan.program) k rs p) (drop_next plan.program k r g)))
      (all2_both (IsEnteredBy dom plan p) (extended (chains plan.program k) (calls_to p r.code)) (through (chains plan.program) (suc k) (drop (suc k) plan.program) p) (handed_to p cs) (handed_to p hs) here x)))
      later)

  pub handed_down : (k : ℕ) (hs cs others all : List (Handed S)) → k < length plan.program → AreHanded dom plan (suc k) hs → AreHandedBy dom plan k cs → others ≡ handed_besides k hs → all ≡ cs ++ others → AreHanded dom plan k all
  handed_down k hs cs others all h a b o e =
      let r = there_at plan.program k h in
      subst (AreHanded dom plan k) (sym (e ∙ ap (λ xs. cs ++ xs) o)) (handed_next k r.0 hs cs r.1 h a b)

  -- procedures that do not call p
  no_callers : (f : ℕ → List (List ℕ)) (rs : List Routine) (k m p : ℕ) → ((j : ℕ) (r : Routine) → j < m → slice_get rs j ≡ Some r → calls_to p r.code ≡ []) → through f k rs p ≡ through f (k + m) (drop m rs) p
  no_callers f rs k zero p h = (let e : k ≡ k + 0 = omega arith in λ i. through f (e i) rs p)
  no_callers f [] k (suc m) p h = refl
  no_callers f (r ∷ rs) k (suc m) p h =
      let e : suc k + m ≡ k + suc m = omega arith in
      ap (λ ns. extended (f k) ns ++ through f (suc k) rs p) (h 0 r (omega arith) refl)
      ∙ no_callers f rs (suc k) m p (λ j x l g. h (suc j) x (omega (arith, l)) g)
      ∙ ap (λ q. through f q (drop m rs) p) e

  main_only : (p : ℕ) → suc p ≡ length plan.program → chains plan.program p ≡ [] ∷ []
  main_only p h = go (length plan.program) (sym h)
    where
      go : (most : ℕ) → most ≡ suc p → chains_within most plan.program p ≡ [] ∷ []
      go zero e = absurd (omega arith)
      go (suc most) e = by_test (suc p) (length plan.program) (λ c. (if c then [] ∷ [] else through (chains_within most plan.program) 0 plan.program p) ≡ [] ∷ []) (λ k. refl) (λ k. absurd (k h))

  -- all chains to a procedure come through the later ones
  all_coming : (p : ℕ) → IsChecked plan.program → ChainsAreThroughCallers → p < length plan.program → coming plan.program (suc p) p ≡ chains plan.program p
  all_coming p checked law h =
      by_test (suc p) (length plan.program) (λ c. (if c then [] ∷ [] else through (chains plan.program) (suc p) (drop (suc p) plan.program) p) ≡ chains plan.program p)
      (λ e. sym (main_only p e))
      (λ e.
      (let same : 0 + suc p ≡ suc p = omega arith in
      sym (law plan.program checked p (omega (arith, h, e)) ∙ no_callers (chains plan.program) plan.program 0 (suc p) p (λ j r l g. called_earlier (take j plan.program) r.layout p r.code (fit_at [] plan.program j r checked.fit g) (few_before j (omega (arith, l)))) ∙ ap (λ q. through (chains plan.program) q (drop (suc p) plan.program) p) same)))
    where
      few_before : (j : ℕ) → j ≤ p → length (take j plan.program) ≤ p
      few_before j l = omega (arith, l, h, length-take-le j plan.program (omega (arith, l, h)))

  pub handed_all : (p : ℕ) (hs : List (Handed S)) (es : List (Entered S)) → IsChecked plan.program → ChainsAreThroughCallers → p < length plan.program → AreHanded dom plan (suc p) hs → es ≡ handed_to p hs → AreEntered dom plan p (chains plan.program p) es
  handed_all p hs es checked law h a e =
      subst (AreEntered dom plan p (chains plan.program p)) (sym e) (subst (λ zs. AreEntered dom plan p zs (handed_to p hs)) (all_coming p checked law h) (a p (omega arith)))

  -- main alone is handed down where no procedure has been walked
  pub main_first : (e : Entered S) → 0 < length plan.program → entry dom plan.engine (reverse plan.program) [] ≡ Some (entered_of plan.program e) → e.frame ≡ record { place = length plan.program - 1; sites = [] } → AreHanded dom plan (length plan.program) (handed_on None e ∷ [])
  main_first e some en f = λ p l.
      let main : e.frame.place ≡ length plan.program - 1 = ap (λ (f : CallFrame). f.place) f in
      by_test (suc p) (length plan.program) (λ c. AreEntered dom plan p (if c then [] ∷ [] else through (chains plan.program) (length plan.program) (drop (length plan.program) plan.program) p) (if e.frame.place == p then e ∷ [] else []))
      (λ q.
      let here : e.frame.place ≡ p = omega (arith, main, q) in
      by_test e.frame.place p (λ b. AreEntered dom plan p ([] ∷ []) (if b then e ∷ [] else []))
      (λ i. (record { frame = f ∙ ap main_at (sym main ∙ i); value = en ∙ ap (λ n. Some (earlier plan.program (suc n), value_of e.before)) i }, tt))
      (λ i. absurd (i here)))
      (λ q. by_test e.frame.place p (λ b. AreEntered dom plan p (through (chains plan.program) (length plan.program) (drop (length plan.program) plan.program) p) (if b then e ∷ [] else []))
      (λ i. absurd (q (omega (arith, main, i, some))))
      (λ i. subst (λ rs. AreEntered dom plan p (through (chains plan.program) (length plan.program) rs p) []) (sym (drop_all (length plan.program) plan.program (omega arith))) tt))
