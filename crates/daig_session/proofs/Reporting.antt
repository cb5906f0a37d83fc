-- Reports, a statement at a time.
use Rattle.std.proofs.Common.{◌≡◌, ℕ, suc, ◌+◌, ◌-◌, ◌*◌, ◌≤◌, List, [], ◌∷◌, ◌++◌, map, take, drop, length, Some, slice_get, refl, sym, ap, subst, ◌∙◌, arith, append_assoc, append-nil}
use Rattle.std.specs.FinMap.{len}
use Rattle.std.proofs.Math.Nat.{mul-le-mul_left}
use Rattle.std.proofs.lemmas.List.{length-append, map-append, take-append-drop, take_all}
use Rattle.imp_syntax.specs.Plain.{Procedure, program_numbers}
use Rattle.imp_check.specs.Programs.{AreNumbered}
use Rattle.imp_check.specs.Slots.{routines_of}
use Rattle.imp_slots.specs.Fits.{IsChecked}
use Rattle.imp_slots.specs.Plain.{Effect, Routine}
use Rattle.imp_syntax.specs.declared.edit.Location.{Location}
use Rattle.imp_syntax.specs.declared.edit.Location.TheVariants.{Before}
use Rattle.cell_rows.specs.Targets.{demanded}
use Rattle.cell_graph.specs.Same.{same_name}
use Rattle.daig_order.specs.InTurn.{missing_in_turn}
use Rattle.daig_demands.specs.Claims.{names_of}
use Rattle.daig_demands.specs.Reports.{check_targets}
use Rattle.imp_words.specs.declared.findings.Finding.{Finding}
use Rattle.domain_laws.specs.Operations.{Operations}
use Rattle.domain_laws.specs.Checks.{Check, kind_of}
use Rattle.batch_meaning.specs.Report.{CheckedStatement, checked_one, checked_statements, finding, verdict_on}
use Rattle.daig_query.specs.declared.store.Store.{Store}
use Rattle.daig_query.specs.Filled.{cells_added}
use Rattle.cell_names.specs.Paths.{CellName}
use Rattle.daig_machine.specs.Machine.{Machine, keeping}
use Rattle.daig_machine.specs.Turns.{IsBetween, answer_at, cell_value, is_kept, missing_for_report, missing_in_places, place_targets, with_filled}
use Rattle.daig_session.specs.declared.book.Book.{Book}
use Rattle.daig_session.specs.Books.{flow_in, machine_of}
use Rattle.daig_session.specs.Holds.{Holds, IsReady}
use Rattle.daig_session.specs.Places.{chain_count, work_on, HoldsAll, HoldsPart, HoldsWith}
use Rattle.daig_session.specs.Reports.{checked_among, checked_at, findings, places_of, HasCheck}
use Rattle.daig_session.proofs.CheckLemmas.{all_checks, among_both, among_next}
use Rattle.daig_session.proofs.Answering.{work_both}
use Rattle.daig_session.proofs.Counted.{kept_counted}
use Rattle.daig_session.proofs.Standing.{names, stands}
use Rattle.daig_session.proofs.Placed.{all_none, all_part, all_then, behind, chains_both, part_more, part_then, ticks_then}
use Rattle.base_values.proofs.Lists.{take_next}

among_at : (ps : List Procedure) (ns : List ℕ) (i n : ℕ) → slice_get ns i ≡ Some n → checked_among ps (take (i + 1) ns) ≡ checked_among ps (take i ns) ++ checked_at ps n
among_at ps ns i n e = let k : i + 1 ≡ suc i = omega arith in ap (λ j. checked_among ps (take j ns)) k ∙ (ap (checked_among ps) (take_next ns i n e) ∙ among_next ps (take i ns) n)

pub among_end : (ps : List Procedure) (ns : List ℕ) (i : ℕ) → length ns ≤ i → checked_among ps (take i ns) ≡ checked_among ps ns
among_end ps ns i h = ap (checked_among ps) (take_all i ns h)

among_split : (ps : List Procedure) (ns : List ℕ) (k : ℕ) → checked_among ps (take k ns) ++ checked_among ps (drop k ns) ≡ checked_among ps ns
among_split ps ns k = sym (among_both ps (take k ns) (drop k ns)) ∙ ap (checked_among ps) (take-append-drop k ns)

module _ {S : Type 0} (dom : Operations S) (store : Store S) (book : Book) where
  -- the machine's program is the session's
  pub at_is : (m : Machine) (n : ℕ) → Holds dom store book m → checked_at m.program n ≡ checked_at book.history.now n
  at_is m n h = ap (λ (z : Machine). checked_at z.program n) (sym h.is)

  pub checked_is : (m : Machine) (n : ℕ) → Holds dom store book m → (there : HasCheck book.history.now n) → checked_at m.program n ≡ checked_one n there.0 (Some there.1)
  checked_is m n h there = at_is m n h ∙ there.2

  pub all_among : (m : Machine) (ns : List ℕ) → Holds dom store book m → AreNumbered book.history.now → ns ≡ program_numbers book.history.now → checked_among m.program ns ≡ checked_statements (routines_of m.program)
  all_among m ns h once e = subst (λ (z : Machine). checked_among z.program ns ≡ checked_statements (routines_of z.program)) h.is (ap (checked_among book.history.now) e ∙ all_checks book.history.now once)

  pub checked_here : (m : Machine) → Holds dom store book m → IsChecked (routines_of book.history.now) → IsChecked (routines_of m.program)
  checked_here m h c = subst (λ (z : Machine). IsChecked (routines_of z.program)) h.is c

  pub none_all : (m : Machine) (n : ℕ) → Holds dom store book m → checked_at book.history.now n ≡ [] → HoldsAll dom m store book (places_of (checked_at m.program n))
  none_all m n h e = subst (λ cs. HoldsAll dom m store book (places_of cs)) (sym (at_is m n h ∙ e)) (all_none dom m store book h)

  pub none_part : (m : Machine) (n : ℕ) → Holds dom store book m → checked_at book.history.now n ≡ [] → HoldsPart dom m store book (places_of (checked_at m.program n))
  none_part m n h e = all_part dom m store book (places_of (checked_at m.program n)) (none_all m n h e)

pub found_none : {S : Type 0} (dom : Operations S) (m : Machine) (cs : List CheckedStatement) (xs : List Finding) → cs ≡ [] → xs ≡ xs ++ findings dom m cs
found_none dom m cs xs e = sym (ap (λ ds. xs ++ findings dom m ds) e ∙ append-nil xs)

pub found_one : {S : Type 0} (dom : Operations S) (m : Machine) (n : ℕ) (e : Effect) (k : Check) (cs : List CheckedStatement) (before after : List Finding) (f : Finding) → cs ≡ checked_one n e (Some k) → after ≡ before ++ f ∷ [] →
    f ≡ record { id = n; check = kind_of k; verdict = verdict_on dom m.engine e (answer_at dom (Before n) [] m) } → after ≡ before ++ findings dom m cs
found_one dom m n e k cs before after f is a b = a ∙ (ap (λ (g : Finding). before ++ g ∷ []) b ∙ ap (λ ds. before ++ findings dom m ds) (sym is))

-- One more of some statements.
module _ (ps : List Procedure) (ns : List ℕ) (i n : ℕ) (there : slice_get ns i ≡ Some n) where
  pub next_places : places_of (checked_among ps (take (i + 1) ns)) ≡ places_of (checked_among ps (take i ns)) ++ places_of (checked_at ps n)
  next_places = ap places_of (among_at ps ns i n there) ∙ map-append (λ (c : CheckedStatement). Before c.number) (checked_among ps (take i ns)) (checked_at ps n)

  pub rest_places : places_of (checked_among ps ns) ≡ places_of (checked_among ps (take (i + 1) ns)) ++ places_of (checked_among ps (drop (i + 1) ns))
  rest_places = ap places_of (sym (among_split ps ns (i + 1))) ∙ map-append (λ (c : CheckedStatement). Before c.number) (checked_among ps (take (i + 1) ns)) (checked_among ps (drop (i + 1) ns))

pub next_found : {S : Type 0} (dom : Operations S) (m : Machine) (ns : List ℕ) (i n : ℕ) → slice_get ns i ≡ Some n → (before mid after : List Finding) →
    mid ≡ before ++ findings dom m (checked_among m.program (take i ns)) → after ≡ mid ++ findings dom m (checked_at m.program n) → after ≡ before ++ findings dom m (checked_among m.program (take (i + 1) ns))
next_found dom m ns i n there before mid after e k =
    let sofar = checked_among m.program (take i ns) in
    let one = checked_at m.program n in
    k ∙ (ap (λ xs. xs ++ findings dom m one) e
    ∙ (append_assoc before (findings dom m sofar) (findings dom m one)
    ∙ ap (λ xs. before ++ xs) (sym (ap (findings dom m) (among_at m.program ns i n there) ∙ map-append (finding dom m.engine (routines_of m.program)) sofar one))))

-- How many cells are kept, and what they cost where a call fails.
module _ {S : Type 0} (dom : Operations S) (store : Store S) (book : Book) (r : IsReady dom store book) where
  pub cells_are : (m : Machine) → Holds dom store book m → len store.graph.cells ≡ length m.kept
  cells_are m h = kept_counted dom (flow_in book) store m.kept r.right h.same h.cells.once

  pub cells_with : (m : Machine) (xs : List CellName) → HoldsWith dom m store book xs → len store.graph.cells ≡ length m.kept + length xs
  cells_with m xs h = cells_are (keeping (m.kept ++ xs) book.cost m) h ∙ length-append m.kept xs

  pub cells_no_less : (m : Machine) (ls : List Location) → HoldsPart dom m store book ls → length m.kept ≤ len store.graph.cells
  cells_no_less m ls p = let e = cells_with m (take p.count (missing_in_places dom ls m)) p.some in omega arith

-- as many as were missing
pub all_added : {S : Type 0} (dom : Operations S) (old new : Store S) (before after : Book) (m : Machine) (ls : List Location) → IsReady dom old before → Holds dom old before m → IsReady dom new after → HoldsAll dom m new after ls → length (missing_in_places dom ls m) ≡ cells_added old new
all_added dom old new before after m ls r h q k =
    let a = cells_are dom old before r m h in
    let b = cells_with dom new after q m (missing_in_places dom ls m) k in
    omega arith

no_more : (s u each i j : ℕ) → i ≤ j → u ≤ s + each * i → u ≤ s + each * j
no_more s u each i j le h = let q = mul-le-mul_left each le in omega (arith, q, h)

pub work_within : (s u each n a k : ℕ) → n ≡ a → u ≤ s + each * (n + 2 * k) → u ≤ s + each * suc (a + 2 * k)
work_within s u each n a k e w = no_more s u each (n + 2 * k) (suc (a + 2 * k)) (omega (arith, e)) w

work_sum : (s t u each n a b k l most : ℕ) → t ≤ s + each * (n + 2 * k) → u ≤ t + each * suc (a + 2 * l) → n + a ≤ b → k + l ≤ most → u ≤ s + each * suc (b + 2 * most)
work_sum s t u each n a b k l most h g le few =
    no_more s u each (n + 2 * k + suc (a + 2 * l)) (suc (b + 2 * most)) (omega (arith, le, few)) (work_both s t u each (n + 2 * k) (suc (a + 2 * l)) h g)

-- What stands of the session itself, whichever machine it stands for.
module _ {S : Type 0} (dom : Operations S) (old new : Store S) (before after : Book) (places : List Procedure → List Location) (r : IsReady dom old before) (part : (m : Machine) → Holds dom old before m → HoldsPart dom m new after (places m.program)) where
  abbrev here : Machine
  here = machine_of before (names dom old before r)

  pub same_program : after.history.now ≡ before.history.now
  same_program = let p = part here (stands dom old before r) in ap (λ (z : Machine). z.program) p.some.is

  pub same_ticket : after.tickets.next ≡ before.tickets.next
  same_ticket = let p = part here (stands dom old before r) in ap (λ (z : Machine). z.next_ticket) p.some.is

-- A report ends, of which these are the locations.
module _ {S : Type 0} (dom : Operations S) (m : Machine) (store : Store S) (book : Book) where
  pub recosted : (ks : List CellName) (was cost : ℕ) → Holds dom store book (keeping ks was m) → Holds dom store (record book { cost = cost }) (keeping ks cost m)
  recosted ks was cost h = record {
    is = ap (λ (z : Machine). keeping ks cost z) h.is;
    same = h.same;
    cells = h.cells;
  }

  -- so many more cells are kept
  pub as_filled : (xs : List CellName) (was now : ℕ) → was ≡ length m.kept → now ≡ length (m.kept ++ xs) → (was ≤ now) × (now - was ≡ length xs)
  as_filled xs was now e k = let both = k ∙ length-append m.kept xs in (omega arith, omega arith)

  pub ended_holds : (cost : ℕ) (xs : List CellName) → HoldsWith dom m store book xs → cost ≡ length xs → Holds dom store (record book { cost = cost }) (with_filled xs m)
  ended_holds cost xs h e = subst (λ k. Holds dom store (record book { cost = cost }) (keeping (m.kept ++ xs) k m)) e (recosted (m.kept ++ xs) book.cost cost h)

  pub failed_holds : (cost : ℕ) (ls : List Location) → HoldsPart dom m store book ls → cost ≡ m.cost → IsBetween (missing_in_places dom ls m) m (Holds dom store (record book { cost = cost }))
  failed_holds cost ls p e =
      let xs = take p.count (missing_in_places dom ls m) in
      record { count = p.count; some = subst (λ k. Holds dom store (record book { cost = cost }) (keeping (m.kept ++ xs) k m)) e (recosted (m.kept ++ xs) book.cost cost p.some) }

-- What is missing for a report is what is missing of the places of its statements.
module _ {S : Type 0} (dom : Operations S) (m : Machine) where
  demands_same : (cs : List CheckedStatement) →
      map (λ l. demanded (cell_value dom m) (place_targets m l)) (places_of cs) ≡ map (λ (c : CheckedStatement). demanded (cell_value dom m) (check_targets (routines_of m.program) c)) cs
  demands_same [] = refl
  demands_same (c ∷ cs) = ap (λ xss. demanded (cell_value dom m) (place_targets m (Before c.number)) ∷ xss) (demands_same cs)

  pub report_missing : missing_in_places dom (places_of (checked_statements (routines_of m.program))) m ≡ missing_for_report dom m
  report_missing = ap (missing_in_turn (names_of dom m.engine (routines_of m.program) same_name) (is_kept m)) (demands_same (checked_statements (routines_of m.program)))

pub cost_here : {S : Type 0} (dom : Operations S) (store : Store S) (book : Book) (m : Machine) → Holds dom store book m → book.cost ≡ m.cost
cost_here dom store book m h = ap (λ (z : Machine). z.cost) h.is

-- One more of some locations: those so far, it, those with it, the rest, and all.
module _ {S : Type 0} (dom : Operations S) (m : Machine) (sofar one next rest all : List Location) (next_is : next ≡ sofar ++ one) (all_is : all ≡ next ++ rest) where
  pub next_all : (cost : ℕ) (store : Store S) (book : Book) → HoldsAll dom (behind dom m sofar cost) store book one → HoldsAll dom m store book next
  next_all cost store book h = subst (HoldsAll dom m store book) (sym next_is) (all_then dom m store book cost sofar one h)

  pub next_part : (cost : ℕ) (store : Store S) (book : Book) → HoldsPart dom (behind dom m sofar cost) store book one → HoldsPart dom m store book all
  next_part cost store book p =
      subst (HoldsPart dom m store book) (ap (λ ls. ls ++ rest) (sym next_is) ∙ sym all_is)
      (part_more dom m store book (sofar ++ one) rest (part_then dom m store book cost sofar one p))

  pub next_ticked : (cost s t u each : ℕ) → t ≤ s + each * work_on dom m sofar → u ≤ t + each * work_on dom (behind dom m sofar cost) one → u ≤ s + each * work_on dom m next
  next_ticked cost s t u each h k = subst (λ ls. u ≤ s + each * work_on dom m ls) (sym next_is) (ticks_then dom m cost sofar one s t u each h k)

  few_chains : (rs : List Routine) → chain_count rs sofar + chain_count rs one ≤ chain_count rs all
  few_chains rs =
      let a = ap (chain_count rs) next_is ∙ chains_both rs sofar one in
      let b = ap (chain_count rs) all_is ∙ chains_both rs next rest in
      omega arith

  pub failed_most : (old mid new : Store S) (before during after : Book) (s t u each : ℕ) →
      IsReady dom old before → Holds dom old before m → IsReady dom mid during → HoldsAll dom m mid during sofar → IsReady dom new after → HoldsPart dom (behind dom m sofar during.cost) new after one →
      t ≤ s + each * work_on dom m sofar → u ≤ t + each * suc (cells_added mid new + 2 * chain_count (routines_of m.program) one) →
      u ≤ s + each * suc (cells_added old new + 2 * chain_count (routines_of m.program) all)
  failed_most old mid new before during after s t u each r h q k p part w v =
      let rs = routines_of m.program in
      let a = cells_are dom old before r m h in
      let b = cells_with dom mid during q m (missing_in_places dom sofar m) k in
      let d = cells_are dom mid during q (behind dom m sofar during.cost) k in
      let e = cells_no_less dom new after p (behind dom m sofar during.cost) one part in
      work_sum s t u each (length (missing_in_places dom sofar m)) (cells_added mid new) (cells_added old new) (chain_count rs sofar) (chain_count rs one) (chain_count rs all) w v (omega (arith, a, b, d, e)) (few_chains rs)
