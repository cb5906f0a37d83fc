-- Procedures entered one after another.
use Rattle.std.proofs.Common.{ℕ, suc, ◌≡◌, ◌+◌, ◌<◌, ◌≤◌, List, [], ◌∷◌, ◌++◌, length, take, drop, reverse, get_or, slice_get, option_map, Option, Some, None, Result, Ok, Err, IfOk, sym, ap, subst, ◌∙◌, arith}
use Rattle.std.specs.Prelude.{if◌then◌else◌}
use Rattle.std.specs.Str.{bytes_eq}
use Rattle.std.proofs.lemmas.List.{reverse-append, take-append-drop, take_all}
use Rattle.imp_slots.specs.Plain.{Invoke, Code, Routine}
use Rattle.imp_syntax.specs.declared.edit.Location.{Location}
use Rattle.imp_syntax.specs.declared.edit.Location.TheVariants.{Before, Head, End}
use Rattle.imp_chains.specs.Thresholds.{thresholds}
use Rattle.domain_laws.specs.Operations.{Operations}
use Rattle.batch_meaning.specs.Values.{Value, State, lift}
use Rattle.batch_meaning.specs.Batch.{calls_of, batch}
use Rattle.batch_meaning.specs.Places.{Spot, spots, find, if_some, head_value, from, earlier_of, main_layout, spots_in, end_of, value_in, entered, entry}
use Rattle.batch_interp.specs.Answered.{value_of}
use Rattle.batch_interp.specs.Frames.{Plan, earlier, thresholds_at, thresholds_of, passed, body_of, body_at}
use Rattle.batch_interp.specs.Handing.{told_of}
use Rattle.batch_interp.specs.Seeking.{places, call_at, spot_of}
use Rattle.batch_interp.specs.Walking.{entered_of, IsGone, IsEntered, called_from}
use Rattle.batch_interp.specs.declared.frames.CallFrame.{CallFrame}
use Rattle.batch_interp.specs.declared.value.Answer.{Answer}
use Rattle.batch_interp.specs.declared.spots.Seen.{Seen}
use Rattle.batch_interp.specs.declared.walks.Entered.{Entered}
use Rattle.std.proofs.lemmas.Option.{slice_get_within}
use Rattle.base_values.proofs.Lists.{get_take, get_there, take_next, take_back}
use Rattle.std.proofs.Math.Seq.{take-length}
use Rattle.batch_interp.proofs.Procedures.{from_earlier, from_gone}
use Rattle.batch_interp.proofs.Lists.{if_ok_along}

-- the procedures down from a place
pub standing : (program : List Routine) (k : ℕ) (r : Routine) → slice_get program k ≡ Some r → earlier program (suc k) ≡ r ∷ earlier program k
standing program k r e = ap reverse (take_next program k r e) ∙ reverse-append (take k program) (r ∷ [])

pub whole : (program : List Routine) (k : ℕ) → length program ≡ suc k → earlier program (suc k) ≡ reverse program
whole program k e = ap (λ n. reverse (take n program)) (sym e) ∙ ap reverse (take-length program)

module _ {S : Type 0} (dom : Operations S) (plan : Plan) where
  -- main, entered
  pub main_entry : (k : ℕ) (r : Routine) (s : S) (e : Entered S) → length plan.program ≡ suc k → slice_get plan.program k ≡ Some r → s ≡ dom.init r.layout → e.frame.place ≡ k → value_of e.before ≡ State s → entry dom plan.engine (reverse plan.program) [] ≡ Some (entered_of plan.program e)
  main_entry k r s e l g i p v =
      let all : reverse plan.program ≡ earlier plan.program (suc k) = sym (whole plan.program k l) in
      let layout : main_layout (reverse plan.program) ≡ r.layout = ap main_layout (all ∙ standing plan.program k r g) in
      let first : State (dom.init (main_layout (reverse plan.program))) ≡ value_of e.before = ap (λ x. State (dom.init x)) layout ∙ ap State (sym i) ∙ sym v in
      let place : earlier plan.program (suc k) ≡ earlier plan.program (suc e.frame.place) = ap (λ n. earlier plan.program (suc n)) (sym p) in
      λ j. Some ((all ∙ place) j, first j)

  -- the statements of a procedure that is entered
  pub spots_there : (k : ℕ) (z : List ℕ) (r : Routine) (v : Value S) → slice_get plan.program k ≡ Some r → spots_in dom plan.engine (earlier plan.program (suc k)) z v ≡ places dom plan k z r.code v
  spots_there k z r v g =
      let m : thresholds plan.engine.widening r ≡ thresholds_at plan k = ap (thresholds_of plan.engine.widening) (sym g) in
      ap (λ rs. spots_in dom plan.engine rs z v) (standing plan.program k r g)
      ∙ ap (λ ms. spots dom plan.engine ms z (calls_of dom plan.engine (earlier plan.program k) z) r.code v) m

  behind_there : (k : ℕ) (r : Routine) → slice_get plan.program k ≡ Some r → earlier_of (earlier plan.program (suc k)) ≡ earlier plan.program k
  behind_there k r g = ap earlier_of (standing plan.program k r g)

  -- the procedure that the statement of a number calls
  pub entered_there : (k n : ℕ) (z : List ℕ) (r : Routine) (v : Value S) (o : Option (Spot S)) → slice_get plan.program k ≡ Some r → o ≡ find n (places dom plan k z r.code v) → entered dom plan.engine n z (earlier plan.program (suc k), v) ≡ if_some o (λ s. called_from dom plan.program k s.before s.call)
  entered_there k n z r v o g f =
      ap (λ xs. if_some (find n xs) (λ s. if_some s.call (λ q. Some (from (earlier_of (earlier plan.program (suc k))) q.1, lift (dom.enter q.0.entering) s.before)))) (spots_there k z r v g)
      ∙ ap (λ rs. if_some (find n (places dom plan k z r.code v)) (λ s. if_some s.call (λ q. Some (from rs q.1, lift (dom.enter q.0.entering) s.before)))) (behind_there k r g)
      ∙ ap (λ o. if_some o (λ s. called_from dom plan.program k s.before s.call)) (sym f)

  pub not_seen : (k n : ℕ) (z : List ℕ) (r : Routine) (v : Value S) → slice_get plan.program k ≡ Some r → None ≡ find n (places dom plan k z r.code v) → IsGone (entered dom plan.engine n z (earlier plan.program (suc k), v))
  not_seen k n z r v g f = subst IsGone (sym (entered_there k n z r v None g f)) tt

  pub seen_there : {E : Type 0} (k n : ℕ) (z : List ℕ) (r : Routine) (v : Value S) (s : Seen S) (y : Result (Option (Entered S)) E) → slice_get plan.program k ≡ Some r → Some (spot_of dom plan k z s) ≡ find n (places dom plan k z r.code v) → IfOk y (λ o. IsEntered plan.program (n ∷ z) o (called_from dom plan.program k (value_of s.before) (call_at s.node.now))) → IfOk y (λ o. IsEntered plan.program (n ∷ z) o (entered dom plan.engine n z (earlier plan.program (suc k), v)))
  seen_there k n z r v s (Err e) g f h = h
  seen_there k n z r v s (Ok o) g f h = subst (IsEntered plan.program (n ∷ z) o) (sym (entered_there k n z r v (Some (spot_of dom plan k z s)) g f)) h

  -- the callee of a call
  pub callee_there : (k q : ℕ) (z : List ℕ) (i : Invoke) (v : Value S) (r : Routine) (e : Entered S) → Some r ≡ slice_get (take k plan.program) q → told_of e ≡ (record { place = q; sites = z }, lift (dom.enter i.entering) v) → IsEntered plan.program z (Some e) (called_from dom plan.program k v (Some (i, q)))
  callee_there k q z i v r e g t =
      let here : slice_get plan.program q ≡ Some r = get_take plan.program k q r (sym g) in
      let p : e.frame.place ≡ q = ap (λ (x : CallFrame × Value S). x.0.place) t in
      let list : from (earlier plan.program k) q ≡ earlier plan.program (suc e.frame.place) =
      from_earlier plan.program k q r (sym g) ∙ sym (standing plan.program q r here) ∙ ap (λ n. earlier plan.program (suc n)) (sym p) in
      let w : lift (dom.enter i.entering) v ≡ value_of e.before = sym (ap (λ (x : CallFrame × Value S). x.1) t) in
      ((λ j. Some (list j, w j)), omega (arith, slice_get_within plan.program q r here, p), ap (λ (x : CallFrame × Value S). x.0.sites) t)

  pub callee_gone : (k q : ℕ) (i : Invoke) (v : Value S) → None ≡ slice_get (take k plan.program) q → IsGone (called_from dom plan.program k v (Some (i, q)))
  callee_gone k q i v g = from_gone plan.program k q (sym g)

  -- once gone, gone for all longer chains
  gone_on : (n : ℕ) (z : List ℕ) (o : Option (List Routine × Value S)) → IsGone o → IsGone (if_some o (entered dom plan.engine n z))
  gone_on n z None h = tt
  gone_on n z (Some x) h = subst IsGone (sym (ap (λ rs. entered dom plan.engine n z (rs, x.1)) h)) tt

  gone_more : (ys z : List ℕ) → IsGone (entry dom plan.engine (reverse plan.program) z) → IsGone (entry dom plan.engine (reverse plan.program) (ys ++ z))
  gone_more [] z h = h
  gone_more (y ∷ ys) z h = gone_on y (ys ++ z) (entry dom plan.engine (reverse plan.program) (ys ++ z)) (gone_more ys z h)

  pub chain_gone : (xs : List ℕ) (i x : ℕ) (z : List ℕ) (e : Entered S) → i < length xs → x ≡ get_or xs i x → z ≡ reverse (take i xs) → entry dom plan.engine (reverse plan.program) (reverse (take i xs)) ≡ Some (entered_of plan.program e) → IsGone (entered dom plan.engine x z (entered_of plan.program e)) → IsGone (entry dom plan.engine (reverse plan.program) (reverse xs))
  chain_gone xs i x z e h k s t g =
      let here : entry dom plan.engine (reverse plan.program) (reverse (take (i + 1) xs)) ≡ entered dom plan.engine x z (entered_of plan.program e) =
      ap (entry dom plan.engine (reverse plan.program)) (take_back xs i x h k) ∙ ap (λ o. if_some o (entered dom plan.engine x (reverse (take i xs)))) t ∙ ap (λ y. entered dom plan.engine x y (entered_of plan.program e)) (sym s) in
      let all : reverse (drop (i + 1) xs) ++ reverse (take (i + 1) xs) ≡ reverse xs = sym (reverse-append (take (i + 1) xs) (drop (i + 1) xs)) ∙ ap reverse (take-append-drop (i + 1) xs) in
      subst (λ z. IsGone (entry dom plan.engine (reverse plan.program) z)) all (gone_more (reverse (drop (i + 1) xs)) (reverse (take (i + 1) xs)) (subst IsGone (sym here) g))

  pub record Along (xs : List ℕ) (i : ℕ) (e : Entered S) : Type 0 where
    pub comes : entry dom plan.engine (reverse plan.program) (reverse (take i xs)) ≡ Some (entered_of plan.program e)
    pub there : e.frame.place < length plan.program
    pub sites : e.frame.sites ≡ reverse (take i xs)

  pub chain_on : (xs : List ℕ) (i x : ℕ) (e f : Entered S) → i < length xs → x ≡ get_or xs i x → Along xs i e → IsEntered plan.program (x ∷ e.frame.sites) (Some f) (entered dom plan.engine x e.frame.sites (entered_of plan.program e)) → Along xs (i + 1) f
  chain_on xs i x e f h k a g = record {
    comes =
        ap (entry dom plan.engine (reverse plan.program)) (take_back xs i x h k) ∙ ap (λ o. if_some o (entered dom plan.engine x (reverse (take i xs)))) a.comes
        ∙ ap (λ y. entered dom plan.engine x y (entered_of plan.program e)) (sym a.sites) ∙ g.0;
    there = g.1;
    sites = g.2 ∙ ap (λ z. x ∷ z) a.sites ∙ sym (take_back xs i x h k);
  }

  pub chain_end : (xs : List ℕ) (i : ℕ) (e : Entered S) → length xs ≤ i → Along xs i e → IsEntered plan.program (reverse xs) (Some e) (entry dom plan.engine (reverse plan.program) (reverse xs))
  chain_end xs i e h a =
      let all : reverse (take i xs) ≡ reverse xs = ap reverse (take_all i xs h) in
      (ap (entry dom plan.engine (reverse plan.program)) (sym all) ∙ a.comes, a.there, a.sites ∙ all)

  -- the values at the locations of a procedure that is entered
  pub before_there : (k n : ℕ) (z : List ℕ) (r : Routine) (v : Value S) → slice_get plan.program k ≡ Some r → if_some (find n (places dom plan k z r.code v)) (λ s. Some s.before) ≡ value_in dom plan.engine (earlier plan.program (suc k)) z v (Before n)
  before_there k n z r v g = ap (λ xs. if_some (find n xs) (λ s. Some s.before)) (sym (spots_there k z r v g))

  pub head_there : (k n : ℕ) (z : List ℕ) (r : Routine) (v : Value S) → slice_get plan.program k ≡ Some r → if_some (find n (places dom plan k z r.code v)) head_value ≡ value_in dom plan.engine (earlier plan.program (suc k)) z v (Head n)
  head_there k n z r v g = ap (λ xs. if_some (find n xs) head_value) (sym (spots_there k z r v g))

  pub end_there : (k : ℕ) (name : List ℕ) (z : List ℕ) (r : Routine) (v : Value S) → slice_get plan.program k ≡ Some r → (if bytes_eq name r.name then Some (passed dom plan k z r.code v).value else None) ≡ value_in dom plan.engine (earlier plan.program (suc k)) z v (End name)
  end_there k name z r v g =
      let m : thresholds_at plan k ≡ thresholds plan.engine.widening r = ap (thresholds_of plan.engine.widening) g in
      ap (λ ms. if bytes_eq name r.name then Some (batch dom plan.engine ms z (calls_of dom plan.engine (earlier plan.program k) z) r.code v).value else None) m
      ∙ ap (λ rs. end_of dom plan.engine rs z v name) (sym (standing plan.program k r g))

  -- what a spot of the procedure tells, at the location that asks it of the spot
  pub told_there : {E : Type 0} (k m n : ℕ) (z : List ℕ) (r : Routine) (code : Code) (v : Value S) (f : Spot S → Option (Value S)) (l : Location) (y : Result (Option (Answer S)) E) → slice_get plan.program k ≡ Some r → m ≡ n → code ≡ r.code → if_some (find n (spots_in dom plan.engine (earlier plan.program (suc k)) z v)) f ≡ value_in dom plan.engine (earlier plan.program (suc k)) z v l → IfOk y (λ o. option_map value_of o ≡ if_some (find m (places dom plan k z code v)) f) → IfOk y (λ o. option_map value_of o ≡ value_in dom plan.engine (earlier plan.program (suc k)) z v l)
  told_there k m n z r code v f l y g a b s h =
      if_ok_along y (option_map value_of) (if_some (find m (places dom plan k z code v)) f) (value_in dom plan.engine (earlier plan.program (suc k)) z v l) h
      ((λ i. if_some (find (a i) (places dom plan k z (b i) v)) f) ∙ ap (λ xs. if_some (find n xs) f) (sym (spots_there k z r v g)) ∙ s)

pub get_same : (xs ys : List Routine) (k : ℕ) (r : Routine) → xs ≡ ys → k < length ys → r ≡ get_or xs k r → slice_get ys k ≡ Some r
get_same xs ys k r e h g = get_there ys k r h (g ∙ ap (λ zs. get_or zs k r) e)

pub body_there : (xs ys : List Routine) (k : ℕ) (r : Routine) (b : Code) → xs ≡ ys → k < length ys → r ≡ get_or xs k r → b ≡ r.code → b ≡ body_at ys k
body_there xs ys k r b e h g c = c ∙ sym (ap body_of (get_same xs ys k r e h g))
