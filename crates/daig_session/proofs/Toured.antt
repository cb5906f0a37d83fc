-- Places one after another, of which so many are full.
use Rattle.std.proofs.Common.{◌≡◌, ℕ, zero, suc, ◌+◌, ◌-◌, ◌*◌, ◌<◌, ◌≤◌, Bool, true, false, List, [], ◌∷◌, ◌++◌, map, take, drop, length, Some, slice_get, refl, sym, ap, subst, ◌∙◌, arith}
use Rattle.std.specs.Prelude.{min, ◌↔◌, Option, None, IfSome}
use Rattle.std.proofs.lemmas.Option.{same_Some}
use Rattle.base_values.proofs.Cases.{by_test}
use Rattle.imp_flow.specs.Plans.{Plan}
use Rattle.std.proofs.Math.Seq.{take-length, take-append-add}
use Rattle.std.proofs.lemmas.List.{length-append, take-append-drop}
use Rattle.base_values.proofs.Lists.{take_next}
use Rattle.imp_syntax.specs.declared.edit.Location.{Location}
use Rattle.imp_slots.specs.Fits.{IsChecked}
use Rattle.imp_slots.specs.Plain.{Routine}
use Rattle.imp_check.specs.Slots.{routines_of}
use Rattle.domain_laws.specs.Operations.{Operations}
use Rattle.batch_meaning.specs.Answers.{procedure_of}
use Rattle.batch_meaning.specs.Batch.{LoopOptions}
use Rattle.cell_names.specs.Paths.{CellName}
use Rattle.cell_rows.specs.Targets.{demanded}
use Rattle.daig_order.specs.InTurn.{missing_in_turn}
use Rattle.daig_order.specs.Order.{System, IsAcyclic, fill_all, member, seen}
use Rattle.daig_order.proofs.AskingProofs.{system-acyclic}
use Rattle.daig_order.proofs.OrderLawProofs.{all_kept}
use Rattle.daig_demands.specs.Claims.{found_by, names_of}
use Rattle.daig_demands.specs.Reports.{targets_in}
use Rattle.daig_demands.proofs.Machine.{rows, law}
use Rattle.cell_graph.specs.Same.{same_name}
use Rattle.cell_graph.proofs.Same.{same_is}
use Rattle.daig_query.specs.declared.store.Store.{Store}
use Rattle.daig_query.specs.Filled.{cells_added}
use Rattle.daig_query.specs.Right.{found}
use Rattle.daig_machine.specs.Machine.{Machine, keeping}
use Rattle.daig_machine.specs.Turns.{is_kept, missing_in_places}
use Rattle.daig_session.specs.declared.book.Book.{Book}
use Rattle.daig_session.specs.Books.{flow_in, machine_of}
use Rattle.daig_session.specs.declared.course.Going.{Going}
use Rattle.daig_session.specs.Going.{IsFull, IsGoing}
use Rattle.daig_session.specs.Holds.{Holds, IsReady}
use Rattle.daig_session.specs.Places.{HoldsAll, HoldsPart, HoldsWith}
use Rattle.daig_session.specs.Tours.{IsSomeFilled}
use Rattle.daig_session.proofs.Answering.{work_both}
use Rattle.daig_session.proofs.Placed.{append_taken, behind, missing_both, seen_none}
use Rattle.daig_session.proofs.Reporting.{cells_are, cells_no_less, cells_with}

take_less : {A : Type 0} (xs ys : List A) (n : ℕ) → n ≤ length xs → take n (xs ++ ys) ≡ take n xs
take_less xs ys zero h = refl
take_less [] ys (suc n) h = absurd (let k : suc n ≤ 0 = h in omega arith)
take_less (x ∷ xs) ys (suc n) h = ap (λ zs. x ∷ zs) (take_less xs ys n (omega (arith, h)))

drop_all : {A : Type 0} (xs : List A) → drop (length xs) xs ≡ []
drop_all [] = refl
drop_all (x ∷ xs) = drop_all xs

module _ {S : Type 0} (dom : Operations S) (engine : LoopOptions) (program : List Routine) (checked : IsChecked program) where
  acyclic : IsAcyclic (names_of dom engine program same_name)
  acyclic = system-acyclic (rows dom engine program same_name same_is checked) (law dom engine program same_name same_is checked)

  abbrev demand_at : Location → List CellName
  demand_at l = demanded (found_by dom engine program same_name) (targets_in program l (procedure_of program l))

  -- full places ask for nothing
  skip_full : (k : CellName → Bool) (n : ℕ) (ls : List Location) → ((i : ℕ) (l : Location) → i < n → slice_get ls i ≡ Some l → (x : CellName) → member same_name (demand_at l) x ≡ true → k x ≡ true) →
      missing_in_turn (names_of dom engine program same_name) k (map demand_at ls) ≡ missing_in_turn (names_of dom engine program same_name) k (map demand_at (drop n ls))
  skip_full k zero ls full = refl
  skip_full k (suc n) [] full = refl
  skip_full k (suc n) (l ∷ ls) full =
      let s = names_of dom engine program same_name in
      ap (λ xs. xs ++ missing_in_turn s (seen s k xs) (map demand_at ls)) (all_kept s acyclic k [] (demand_at l) (full 0 l (omega arith) refl))
      ∙ ap (λ g. missing_in_turn s g (map demand_at ls)) (sym (seen_none s k))
      ∙ skip_full k n ls (λ i u less there. full (suc i) u (omega (arith, less)) there)

module _ {S : Type 0} (dom : Operations S) (store : Store S) (book : Book) (m : Machine) (h : Holds dom store book m) (checked : IsChecked (flow_in book).program) where
  pub full_skipped : (n : ℕ) (ls : List Location) → ((i : ℕ) (l : Location) → i < n → slice_get ls i ≡ Some l → IsFull dom (flow_in book) store l) → missing_in_places dom ls m ≡ missing_in_places dom (drop n ls) m
  unfolding found
  full_skipped n ls full =
      subst (λ (z : Machine). missing_in_places dom ls z ≡ missing_in_places dom (drop n ls) z) h.is (
      skip_full dom book.setting.engine (routines_of book.history.now) checked (member same_name m.kept) n ls (λ i l less there x mem. sym (h.same x) ∙ full i l less there x mem))

  -- where all are full nothing is missing
  pub none_left_full : (ls : List Location) → ((i : ℕ) (l : Location) → slice_get ls i ≡ Some l → IsFull dom (flow_in book) store l) → missing_in_places dom ls m ≡ []
  none_left_full ls full = full_skipped (length ls) ls (λ i l less there. full i l there) ∙ ap (λ us. missing_in_places dom us m) (drop_all ls)

module _ {S : Type 0} (dom : Operations S) (m : Machine) where
  count_then : (cost : ℕ) (cs ds : List Location) → length (missing_in_places dom (cs ++ ds) m) ≡ length (missing_in_places dom cs m) + length (missing_in_places dom ds (behind dom m cs cost))
  count_then cost cs ds = ap length (missing_both dom m cost cs ds) ∙ length-append (missing_in_places dom cs m) (missing_in_places dom ds (behind dom m cs cost))

  module _ (store : Store S) (book : Book) where
    -- all that was missing there
    pub all_some : (ls : List Location) (most filled : ℕ) → IsSomeFilled dom m store book ls most filled true → HoldsAll dom m store book ls
    all_some ls most filled s =
        let xs = missing_in_places dom ls m in
        let few : length xs ≤ most = s.ends.0 refl in
        let n : filled ≡ length xs = (let e = s.as_many in omega (arith, e, few)) in
        subst (λ ys. HoldsWith dom m store book ys) (ap (λ k. take k xs) n ∙ take-length xs) s.some

    pub all_count : (ls : List Location) (most filled : ℕ) → IsSomeFilled dom m store book ls most filled true → filled ≡ length (missing_in_places dom ls m)
    all_count ls most filled s = let few : length (missing_in_places dom ls m) ≤ most = s.ends.0 refl in let e = s.as_many in omega (arith, e, few)

    -- one place more
    pub next_count : (cost : ℕ) (cs ds : List Location) (was filled : ℕ) → was ≡ length (missing_in_places dom cs m) → filled ≡ length (missing_in_places dom ds (behind dom m cs cost)) → was + filled ≡ length (missing_in_places dom (cs ++ ds) m)
    next_count cost cs ds was filled e f = let k = count_then cost cs ds in omega (arith, e, f, k)

    -- the last of those that are reached, where more is missing
    pub some_reached : (cost : ℕ) (sofar one rest all : List Location) → all ≡ (sofar ++ one) ++ rest → (most was filled : ℕ) → was ≡ length (missing_in_places dom sofar m) → was ≤ most →
        IsSomeFilled dom (behind dom m sofar cost) store book one (most - was) filled false → IsSomeFilled dom m store book all most (was + filled) false
    some_reached cost sofar one rest all is most was filled e low s =
        let xs = missing_in_places dom sofar m in
        let ys = missing_in_places dom one (behind dom m sofar cost) in
        let zs = missing_in_places dom rest (behind dom m (sofar ++ one) cost) in
        let more : most - was < length ys = (let no : length ys ≤ most - was → ⊥ = λ l. (let t : false ≡ true = s.ends.1 l in absurd cc) in omega (arith, no)) in
        let f : was + filled ≡ most = (let a = s.as_many in omega (arith, a, more, low)) in
        let both = count_then cost sofar one in
        let whole = count_then cost (sofar ++ one) rest in
        let total = ap (λ us. length (missing_in_places dom us m)) is in
        record {
          as_many = omega (arith, f, both, whole, total, more, e);
          ends = (λ t. absurd (let u : false ≡ true = t in cc), λ l. absurd (omega (arith, l, both, whole, total, more, e, low)));
          some =
              subst (λ us. HoldsWith dom m store book (take (was + filled) (missing_in_places dom us m))) (sym is) (
              subst (λ us. HoldsWith dom m store book us) (sym (ap (take (was + filled)) (missing_both dom m cost (sofar ++ one) rest) ∙ take_less (missing_in_places dom (sofar ++ one) m) zs (was + filled) (omega (arith, f, both, more, e, low)))) (
              append_taken dom m store book cost sofar one (was + filled) filled (ap (λ k. k + filled) e) s.some));
        }

    -- all of them are reached
    pub all_reached : (all : List Location) (most was : ℕ) → was ≡ length (missing_in_places dom all m) → was ≤ most → HoldsAll dom m store book all → IsSomeFilled dom m store book all most was true
    all_reached all most was e low h =
        let xs = missing_in_places dom all m in
        record {
          as_many = omega (arith, e, low);
          ends = (λ t. omega (arith, e, low), λ l. refl);
          some = subst (λ ys. HoldsWith dom m store book ys) (sym (ap (λ k. take k xs) e ∙ take-length xs)) h;
        }

-- One more of some places: those so far, it, and the rest.
pub next_taken : {A : Type 0} (xs : List A) (i : ℕ) (x : A) → slice_get xs i ≡ Some x → take (i + 1) xs ≡ take i xs ++ x ∷ []
next_taken xs i x there = let k : i + 1 ≡ suc i = omega arith in ap (λ j. take j xs) k ∙ take_next xs i x there

pub all_taken : {A : Type 0} (xs : List A) (i : ℕ) (x : A) → slice_get xs i ≡ Some x → xs ≡ (take i xs ++ x ∷ []) ++ drop (i + 1) xs
all_taken xs i x there = sym (take-append-drop (i + 1) xs) ∙ ap (λ ys. ys ++ drop (i + 1) xs) (next_taken xs i x there)

-- What is counted where one more place fails.
pub failed_fill : {S : Type 0} (dom : Operations S) (m : Machine) (sofar one : List Location) (old mid new : Store S) (before during after : Book) (s t u each filled : ℕ) →
    IsReady dom old before → Holds dom old before m → IsReady dom mid during → HoldsAll dom m mid during sofar → IsReady dom new after → HoldsPart dom (behind dom m sofar during.cost) new after one → filled ≡ length (missing_in_places dom sofar m) →
    t ≤ s + each * filled → u ≤ t + each * suc (cells_added mid new) → u ≤ s + each * suc (cells_added old new)
failed_fill dom m sofar one old mid new before during after s t u each filled r h q k p part e w v =
    let a = cells_are dom old before r m h in
    let b = cells_with dom mid during q m (missing_in_places dom sofar m) k in
    let d = cells_are dom mid during q (behind dom m sofar during.cost) k in
    let f = cells_no_less dom new after p (behind dom m sofar during.cost) one part in
    let n : filled + suc (cells_added mid new) ≡ suc (cells_added old new) = omega (arith, a, b, d, e, f) in
    subst (λ j. u ≤ s + each * j) n (work_both s t u each filled (suc (cells_added mid new)) w v)

-- How far the next place has come, and that those before it are full, by one place more.
module _ {S : Type 0} (dom : Operations S) (plan : Plan) (store : Store S) (places : List Location) (k i : ℕ) (at : Location) (same : k ≡ i) (there : slice_get places i ≡ Some at) where
  named_so : (l : Location) → slice_get places k ≡ Some l → at ≡ l
  named_so l e = same_Some at l (sym there ∙ (ap (slice_get places) (sym same) ∙ e))

  pub next_named : (o : Option Going) → IfSome o (IsGoing dom plan store at []) → IfSome o (λ g. (l : Location) → slice_get places k ≡ Some l → IsGoing dom plan store l [] g)
  next_named None h = tt
  next_named (Some g) h = λ l e. subst (λ p. IsGoing dom plan store p [] g) (named_so l e) h

  pub full_next : ((j : ℕ) (p : Location) → j < k → slice_get places j ≡ Some p → IsFull dom plan store p) → IsFull dom plan store at → (j : ℕ) (p : Location) → j < k + 1 → slice_get places j ≡ Some p → IsFull dom plan store p
  full_next before full j p less e =
      by_test j k (λ b. IsFull dom plan store p) (λ is. subst (IsFull dom plan store) (named_so p (ap (slice_get places) (sym is) ∙ e)) full) (λ no. before j p (omega (arith, less, no)) e)

-- one operation more
pub work_none : (s u each n : ℕ) → u ≤ s + each * n → u ≤ s + each * suc n
work_none s u each n h = omega arith
