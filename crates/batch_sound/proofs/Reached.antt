-- What batch interpretation finds at a location under a chain is what a configuration that stands there fits.
use Rattle.std.specs.Prelude.{◌≡◌, ◌<◌, ◌≤◌, ◌+◌, ℕ, zero, suc, List, [], ◌∷◌, length, reverse, slice_get, option_map, Option, Some, None, Bool, true, false, if◌then◌else◌, All, ℤ}
use Rattle.std.proofs.Common.{refl, sym, ap, ◌∙◌, arith, subst, le_of_eq}
use Rattle.std.proofs.lemmas.List.{reverse-reverse, length-reverse}
use Rattle.std.proofs.lemmas.Slice.Eq.{bytes_eq-Decides}
use Rattle.imp_syntax.specs.declared.edit.Location.{Location}
use Rattle.imp_syntax.specs.declared.edit.Location.TheVariants.{Before, After, Head, End}
use Rattle.imp_slots.specs.Plain.{Layout, Invoke, Code, Stop, Simple, If, While, Call, Break, Routine, code_numbers}
use Rattle.imp_slots.specs.Fits.{Distinct, IsChecked}
use Rattle.concrete_sem.specs.Values.{Variables, Heap, IsWord}
use Rattle.concrete_sem.specs.Passing.{first_variables}
use Rattle.concrete_sem.specs.Steps.{Work, Ret, Do, Done, Test, Frame, Config, main, started, start}
use Rattle.concrete_sem.specs.Reach.{location_of, sites, after_steps}
use Rattle.concrete_sem.specs.WellFormed.{variables_of}
use Rattle.imp_chains.specs.Chains.{calls_to, extended, through, chains_within, holder, is_while}
use Rattle.imp_chains.specs.Thresholds.{thresholds}
use Rattle.imp_chains.specs.Claims.{PlacesAreFound}
use Rattle.domain_laws.specs.Operations.{Operations}
use Rattle.domain_laws.specs.Laws.{Laws}
use Rattle.batch_meaning.specs.Values.{Value, State, Over, lift}
use Rattle.batch_meaning.specs.Batch.{LoopOptions, batch, calls_of}
use Rattle.batch_meaning.specs.Places.{Spot, spots, find, from, main_layout, if_some, head_value, value_in, entered, entry}
use Rattle.imp_words.specs.declared.refusal.QueryRefusal.{QueryRefusal}
use Rattle.imp_words.specs.declared.refusal.QueryRefusal.TheVariants.{NoProcedure, NoStatement}
use Rattle.batch_meaning.specs.Answers.{In as Belongs, found_or, found_loop, procedure_of}
use Rattle.batch_sound.proofs.Values.{Says, Fit, Below, each_over}
use Rattle.base_values.proofs.Cases.{by_test}
use Rattle.batch_meaning.proofs.Procedures.{look, look_get, look_from, from_self, from_place, length_from, FitBack, fit_back}
use Rattle.base_values.proofs.Members.{Member, here, key_member}
use Rattle.batch_meaning.proofs.Places.{found, keys_numbers, are_calls}
use Rattle.batch_sound.proofs.Chains.{in_extended, in_through, has_member, once_in}
use Rattle.batch_sound.proofs.Steps.{Kept, Place, Seen, Fits, fits_ret, fits_done, fits_do, fits_test, ahead_push, place_of, Stack, bottom, above, Good, good, run_good, self}
use Rattle.std.proofs.lemmas.Option.{same_Some}

pub same_in_turn : (program : List Routine) (q : ℕ) → slice_get program q ≡ look (reverse program) q
same_in_turn program q = sym (look_get (reverse program) q ∙ ap (λ ps. slice_get ps q) (reverse-reverse program))

module _ {S : Type 0} (dom : Operations S) (engine : LoopOptions) (covers : S → Heap → List Variables → Type 0) (laws : Laws dom covers) (keeps : Kept) (program : List Routine) (checked : IsChecked program) (places : PlacesAreFound) where
  abbrev Yes : Value S → Heap → List Variables → Type 0
  Yes = Says dom engine covers laws

  abbrev Fine : Value S → List Layout → Type 0
  Fine = Fit dom engine covers laws

  abbrev Under : List Layout → Value S → Value S → Type 0
  Under = Below dom engine covers laws

  abbrev Frame_place : Type 0
  Frame_place = Place dom engine covers laws keeps program (reverse program) (same_in_turn program)

  abbrev Sees : List Routine → Type 0
  Sees = Seen dom engine covers laws keeps program (reverse program) (same_in_turn program)

  abbrev Known : Frame_place → Type 0
  Known a = Sees (a.routine ∷ a.earlier)

  abbrev layouts : Frame_place → List Layout
  layouts a = a.routine.layout ∷ a.below

  abbrev Stacked : List Frame → List ℕ → List Layout → List Routine → Value S → List Variables → Type 0
  Stacked = Stack dom engine covers laws keeps program (reverse program) (same_in_turn program)

  abbrev Stands : Frame_place → List Frame → List Variables → Type 0
  Stands a below ms = Stacked below a.z a.below (a.routine ∷ a.earlier) a.first ms

  abbrev FitsAt : Frame_place → Work → Value S → Value S → Type 0
  FitsAt = Fits dom engine covers laws keeps program (reverse program) (same_in_turn program)

  abbrev IsGood : Heap → List Frame → Type 0
  IsGood = Good dom engine covers laws keeps program (reverse program) (same_in_turn program)

  abbrev Spots : Frame_place → Code → Value S → List (ℕ × Spot S)
  Spots a = spots dom engine (thresholds engine.widening a.routine) a.z (calls_of dom engine a.earlier a.z)

  abbrev At : Frame_place → ℕ → Spot S → Type 0
  At a n x = Member (n, x) (Spots a a.routine.code a.first)

  -- The first configuration is good.
  start_at : (inputs : List ℤ) → All IsWord inputs → (bs : List Routine) → reverse program ≡ bs → IsGood (record { cells = []; inputs = inputs }) (start program inputs).frames
  start_at inputs words [] e =
      let n : length (reverse program) ≡ length program = length-reverse program in
      let k : length (reverse program) ≡ 0 = ap length e in
      let s : 0 < length program = checked.some in
      absurd (omega arith)
  start_at inputs words (r ∷ earlier) e =
      let n : length (reverse program) ≡ length program = length-reverse program in
      let k : length (reverse program) ≡ length (r ∷ earlier) = ap length e in
      let i : main program ≡ length earlier = omega arith in
      let h : Heap = record { cells = []; inputs = inputs } in
      let at : slice_get program (main program) ≡ Some r = ap (slice_get program) i ∙ same_in_turn program (length earlier) ∙ ap (λ ps. look ps (length earlier)) e ∙ look_from (r ∷ earlier) (length earlier) r earlier (from_self r earlier) in
      let a : Frame_place = record { z = []; below = []; earlier = earlier; routine = r; first = State (dom.init r.layout) } in
      let seen : Known a = record { checked = subst FitBack e (fit_back program checked); same = λ q l. ap (λ ps. from ps q) e; long = le_of_eq (ap length (sym e)) } in
      let p = keeps.starts r.layout inputs words in
      let x = ahead_push dom engine covers laws keeps program (reverse program) (same_in_turn program) a r.code (Ret (main program)) (State (dom.init r.layout)) _ (Over 0 []) (record { sub = record { at = λ y p. p }; suits = seen.checked.0; fine = laws.fitting.init r.layout; leave = each_over dom engine covers laws (layouts a) _ 0 []; behind = self dom engine covers laws keeps program (reverse program) (same_in_turn program) (layouts a) _ }) (fits_ret i (self dom engine covers laws keeps program (reverse program) (same_in_turn program) (layouts a) _)) in
      subst (λ o. IsGood h (started program h o).frames) (sym at)
      (good a seen (subst (λ ps. Stacked [] [] [] ps (State (dom.init (main_layout ps))) []) e bottom) p x.fits (x.below.says h (first_variables r.layout ∷ []) p (laws.init r.layout inputs words)))

  pub reached_good : (inputs : List ℤ) → All IsWord inputs → (k : ℕ) (c : Config) → after_steps program k (start program inputs) ≡ Some c → Good dom engine covers laws keeps program (reverse program) (same_in_turn program) c.heap c.frames
  reached_good inputs words k c e =
      run_good dom engine covers laws keeps program (reverse program) (same_in_turn program) k (start program inputs) c (first_good inputs words) e
    where
      first_good : (inputs : List ℤ) → All IsWord inputs → IsGood (start program inputs).heap (start program inputs).frames
      first_good inputs words = subst (λ h. IsGood h (start program inputs).frames) (sym (heap_of inputs (slice_get program (main program)))) (start_at inputs words (reverse program) refl)
        where
          heap_of : (inputs : List ℤ) (o : Option Routine) → (started program (record { cells = []; inputs = inputs }) o).heap ≡ record { cells = []; inputs = inputs }
          heap_of inputs None = refl
          heap_of inputs (Some r) = refl

  -- A frame's procedure in the program.
  module _ (a : Frame_place) (known : Known a) where
    pub place_get : slice_get program (length a.earlier) ≡ Some a.routine
    place_get = place_of dom engine covers laws keeps program (reverse program) (same_in_turn program) a known

    numbers_of : (n : ℕ) (x : Spot S) → At a n x → Member n (code_numbers a.routine.code)
    numbers_of n x at = subst (Member n) (keys_numbers dom engine (thresholds engine.widening a.routine) a.z (calls_of dom engine a.earlier a.z) a.routine.code a.first) (key_member (n, x) _ at)

    at_number : (n : ℕ) (x : Spot S) → At a n x → find n (Spots a a.routine.code a.first) ≡ Some x
    at_number n x at =
        found (n, x) _
        (subst Distinct (sym (keys_numbers dom engine (thresholds engine.widening a.routine) a.z (calls_of dom engine a.earlier a.z) a.routine.code a.first))
        (once_in program (length a.earlier) a.routine checked.numbers_once place_get)) at

    pub holder_at : (n : ℕ) (x : Spot S) → At a n x → holder n program ≡ Some (length a.earlier)
    holder_at n x at = (places program checked (length a.earlier) a.routine place_get).statement n (has_member n (code_numbers a.routine.code) (numbers_of n x at))

    -- What is found is what the configuration fits.
    found_value : (n : ℕ) (x : Spot S) (f : Spot S → Option (Value S)) (u v : Value S) → At a n x → if_some (find n (Spots a a.routine.code a.first)) f ≡ Some u → f x ≡ Some v → Under (layouts a) v u
    found_value n x f u v at g i =
        subst (Under (layouts a) v) (same_Some _ _ (sym i ∙ subst (λ o. if_some o f ≡ Some u) (at_number n x at) g)) (self dom engine covers laws keeps program (reverse program) (same_in_turn program) (layouts a) v)

    abbrev value : Location → Option (Value S)
    value = value_in dom engine (a.routine ∷ a.earlier) a.z a.first

    at_location : (l k : Location) (u : Value S) → Some k ≡ Some l → value l ≡ Some u → value k ≡ Some u
    at_location l k u e g = subst (λ l. value l ≡ Some u) (sym (same_Some k l e)) g

    name_at : (p : ℕ) → p ≡ length a.earlier → location_of program (Ret p) ≡ Some (End a.routine.name)
    name_at p i = ap (λ o. option_map (λ (r : Routine). End r.name) o) (ap (slice_get program) i ∙ place_get)

    pub top_under : (w : Work) (v e u : Value S) → Fits dom engine covers laws keeps program (reverse program) (same_in_turn program) a w v e → (l : Location) → location_of program w ≡ Some l → value_in dom engine (a.routine ∷ a.earlier) a.z a.first l ≡ Some u → Below dom engine covers laws (a.routine.layout ∷ a.below) v u
    top_under (Ret p) v e u (fits_ret i b) l t g =
        let x = (batch dom engine (thresholds engine.widening a.routine) a.z (calls_of dom engine a.earlier a.z) a.routine.code a.first).value in
        let k = subst (λ c. (if c then Some x else None) ≡ Some u) ((bytes_eq-Decides a.routine.name a.routine.name).1 refl) (at_location l (End a.routine.name) u (sym (name_at p i) ∙ t) g) in
        subst (Under (layouts a) v) (same_Some x u k) b
    top_under (Done n o w) v e u (fits_done {x = x} at i b f) l t g = found_value n x (λ s. Some s.after) u v at (at_location l (After n) u t g) (ap Some i)
    top_under (Test n c b w) v e u (fits_test k bu f) l t g = found_value n k.spot head_value u v k.at (at_location l (Head n) u t g) k.head
    top_under (Do Stop w) v e u f l t g = absurd cc
    top_under (Do (Simple n x d) w) v e u (fits_do b f) l t g = found_value n _ (λ s. Some s.before) u v (b.sub.at _ here) (at_location l (Before n) u t g) refl
    top_under (Do (If n c x y d) w) v e u (fits_do b f) l t g = found_value n _ (λ s. Some s.before) u v (b.sub.at _ here) (at_location l (Before n) u t g) refl
    top_under (Do (While n c x d) w) v e u (fits_do b f) l t g = found_value n _ (λ s. Some s.before) u v (b.sub.at _ here) (at_location l (Before n) u t g) refl
    top_under (Do (Call n i q d) w) v e u (fits_do b f) l t g = found_value n _ (λ s. Some s.before) u v (b.sub.at _ here) (at_location l (Before n) u t g) refl
    top_under (Do (Break n d) w) v e u (fits_do b f) l t g = found_value n _ (λ s. Some s.before) u v (b.sub.at _ here) (at_location l (Before n) u t g) refl

    enters_at : (n : ℕ) (i : Invoke) (q : ℕ) (x : Spot S) (ps : List Routine) (a1 : Value S) → At a n x → x.call ≡ Some (i, q) → from a.earlier q ≡ ps → a1 ≡ lift (dom.enter i.entering) x.before → entered dom engine n a.z (a.routine ∷ a.earlier, a.first) ≡ Some (ps, a1)
    enters_at n i q x ps a1 at ic k ea = rw (at_number n x at, ic, k, ← ea)

    -- A location's procedure is that of the frame that stands at it.
    pub top_procedure : (w : Work) (v e : Value S) → Fits dom engine covers laws keeps program (reverse program) (same_in_turn program) a w v e → (l : Location) → location_of program w ≡ Some l → (p : ℕ) → procedure_of program l ≡ Belongs p → p ≡ length a.earlier
    top_procedure w v e f l t p g = by w v e f t
      where
        same : (o : Option ℕ) (r : QueryRefusal) → o ≡ Some (length a.earlier) → found_or r o ≡ Belongs p → p ≡ length a.earlier
        same None r i g = absurd cc
        same (Some q) r i g = cc

        at_place : (k : Location) → Some k ≡ Some l → procedure_of program k ≡ Belongs p
        at_place k e = subst (λ l. procedure_of program l ≡ Belongs p) (sym (same_Some k l e)) g

        of_loop : (b : Bool) (o : Option ℕ) → o ≡ Some (length a.earlier) → found_loop b (found_or NoStatement o) ≡ Belongs p → p ≡ length a.earlier
        of_loop b None i g = absurd cc
        of_loop true (Some q) i g = cc
        of_loop false (Some q) i g = absurd cc

        by : (w : Work) (v e : Value S) → FitsAt a w v e → location_of program w ≡ Some l → p ≡ length a.earlier
        by (Ret r) v e (fits_ret i b) t = same _ NoProcedure (places program checked (length a.earlier) a.routine place_get).name (at_place (End a.routine.name) (sym (name_at r i) ∙ t))
        by (Done n o w) v e (fits_done {x = x} at i b f) t = same _ NoStatement (holder_at n x at) (at_place (After n) t)
        by (Test n c b w) v e (fits_test k bu f) t = of_loop (is_while n program) _ (holder_at n k.spot k.at) (at_place (Head n) t)
        by (Do Stop w) v e f t = absurd cc
        by (Do (Simple n x d) w) v e (fits_do b f) t = same _ NoStatement (holder_at n _ (b.sub.at _ here)) (at_place (Before n) t)
        by (Do (If n c x y d) w) v e (fits_do b f) t = same _ NoStatement (holder_at n _ (b.sub.at _ here)) (at_place (Before n) t)
        by (Do (While n c x d) w) v e (fits_do b f) t = same _ NoStatement (holder_at n _ (b.sub.at _ here)) (at_place (Before n) t)
        by (Do (Call n i q d) w) v e (fits_do b f) t = same _ NoStatement (holder_at n _ (b.sub.at _ here)) (at_place (Before n) t)
        by (Do (Break n d) w) v e (fits_do b f) t = same _ NoStatement (holder_at n _ (b.sub.at _ here)) (at_place (Before n) t)

  pub stack_entry : (below : List Frame) (z : List ℕ) (ps : List Layout) (list : List Routine) (first : Value S) (ms : List Variables) → Stack dom engine covers laws keeps program (reverse program) (same_in_turn program) below z ps list first ms → entry dom engine (reverse program) z ≡ Some (list, first)
  stack_entry below z ps list first ms bottom = refl
  stack_entry below z ps list first ms (above {n = n} {q = q} {i = i} a known stack x at ic fr ea lay suits fine f bu k r y) =
      ap (λ o. if_some o (entered dom engine n a.z)) (stack_entry _ _ _ _ _ _ stack) ∙ enters_at a known n i q x list first at ic fr ea

  pub stack_sites : (below : List Frame) (z : List ℕ) (ps : List Layout) (list : List Routine) (first : Value S) (ms : List Variables) → Stack dom engine covers laws keeps program (reverse program) (same_in_turn program) below z ps list first ms → (z ≡ sites below) × (ms ≡ variables_of below)
  stack_sites below z ps list first ms bottom = (refl, refl)
  stack_sites below z ps list first ms (above {n = n} {m = m} a known stack x at ic fr ea lay suits fine f bu k r y) =
      let s = stack_sites _ _ _ _ _ _ stack in (ap (λ y. n ∷ y) s.0, ap (λ y. m ∷ y) s.1)

  -- The chain of a configuration is one of its procedure's.
  stack_short : (below : List Frame) (z : List ℕ) (ps : List Layout) (list : List Routine) (first : Value S) (ms : List Variables) → Stacked below z ps list first ms → length z + length list ≤ length (reverse program)
  stack_short below z ps list first ms bottom = omega arith
  stack_short below z ps list first ms (above {q = q} a known stack x at ic fr ea lay suits fine f bu k r y) =
      omega (arith, stack_short _ _ _ _ _ _ stack, length_from a.earlier q, ap length fr)

  pub short : (below : List Frame) (a : Place dom engine covers laws keeps program (reverse program) (same_in_turn program)) (ms : List Variables) → Stack dom engine covers laws keeps program (reverse program) (same_in_turn program) below a.z a.below (a.routine ∷ a.earlier) a.first ms → length a.z < length program
  short below a ms stack =
      let n : length (reverse program) ≡ length program = length-reverse program in
      let k : length a.z + suc (length a.earlier) ≤ length (reverse program) = stack_short below a.z a.below (a.routine ∷ a.earlier) a.first ms stack in omega arith

  pub stack_chain : (k : ℕ) (below : List Frame) (z : List ℕ) (ps : List Layout) (list : List Routine) (first : Value S) (ms : List Variables) → Stack dom engine covers laws keeps program (reverse program) (same_in_turn program) below z ps list first ms → (t : Routine) (earlier : List Routine) → list ≡ t ∷ earlier → length z < k → Member z (chains_within k program (length earlier))
  stack_chain zero below z ps list first ms stack t earlier e lt = absurd (omega arith)
  stack_chain (suc k) below z ps list first ms bottom t earlier e lt =
      let n : length (reverse program) ≡ length program = length-reverse program in
      by_test (suc (length earlier)) (length program) (λ c. Member [] (if c then [] ∷ [] else through (chains_within k program) 0 program (length earlier))) (λ i. here) (λ i. absurd (i (sym (ap length e) ∙ n)))
  stack_chain (suc k) below z ps list first ms (above {n = n} {q = q} {i = i} a known stack x at ic fr ea lay suits fine f bu c r y) t earlier e lt =
      let g : length (reverse program) ≡ length program = length-reverse program in
      let long : suc (length a.earlier) ≤ length (reverse program) = known.long in
      let fl : length (from a.earlier q) ≤ length a.earlier = length_from a.earlier q in
      let l : length (from a.earlier q) ≡ suc (length earlier) = ap length (fr ∙ e) in
      let zero_at : length a.earlier ≡ 0 + length a.earlier = omega arith in
      by_test (suc (length earlier)) (length program) (λ c. Member (n ∷ a.z) (if c then [] ∷ [] else through (chains_within k program) 0 program (length earlier)))
      (λ j. absurd (omega arith))
      (λ j. in_through (chains_within k program) 0 program (length earlier) (length a.earlier) a.routine (n ∷ a.z) (place_get a known)
      (subst (λ m. Member (n ∷ a.z) (extended (chains_within k program m) (calls_to (length earlier) a.routine.code))) zero_at
      (in_extended n a.z _ _ (stack_chain k _ _ _ _ _ _ stack a.routine a.earlier refl (omega arith))
      (subst (λ p. Member n (calls_to p a.routine.code)) (from_place a.earlier q t earlier (fr ∙ e)) ((are_calls dom engine (thresholds engine.widening a.routine) a.z (calls_of dom engine a.earlier a.z) a.routine.code a.first).at (n, x) at (i, q) ic)))))
