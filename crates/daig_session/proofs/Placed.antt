-- Locations one after another: what is missing of them, and what is kept then.
use Rattle.std.proofs.Common.{◌≡◌, ℕ, zero, suc, ◌+◌, ◌*◌, ◌≤◌, Bool, ◌||◌, List, [], ◌∷◌, ◌++◌, map, take, length, Option, Some, None, Result, Ok, Err, refl, sym, ap, subst, ◌∙◌, arith, append_assoc, append-nil}
use Rattle.std.proofs.Math.Seq.{take-length, take-append-add}
use Rattle.std.proofs.lemmas.List.{length-append, map-append}
use std.Path.{fun_ext}
use Rattle.imp_syntax.specs.declared.edit.Location.{Location}
use Rattle.imp_slots.specs.Fits.{IsChecked}
use Rattle.imp_slots.specs.Plain.{Routine}
use Rattle.imp_check.specs.Slots.{routines_of}
use Rattle.imp_words.specs.declared.refusal.QueryRefusal.{QueryRefusal}
use Rattle.domain_laws.specs.Operations.{Operations}
use Rattle.batch_meaning.specs.Answers.{Answers, Found, In, Misses, Refuses, procedure_of}
use Rattle.cell_names.specs.Paths.{CellName}
use Rattle.cell_rows.specs.Targets.{Target, demanded, targets}
use Rattle.daig_order.specs.InTurn.{missing_in_turn}
use Rattle.daig_order.specs.Order.{System, fill_all, member, seen}
use Rattle.daig_order.proofs.OrderLemmas.{member-append}
use Rattle.daig_demands.specs.Claims.{names_of}
use Rattle.daig_demands.specs.Reports as reports
use Rattle.cell_graph.specs.Same.{same_name}
use Rattle.daig_graph.specs.declared.value.Value.{Value}
use Rattle.daig_query.specs.declared.store.Store.{Store}
use Rattle.daig_machine.specs.Machine.{Machine, keeping}
use Rattle.daig_machine.specs.Turns as turns
use Rattle.daig_machine.specs.Turns.{IsBetween, answer_at, after_question, cell_value, is_kept, missing_at, missing_in_places, place_targets, targets_of}
use Rattle.daig_session.specs.declared.book.Book.{Book}
use Rattle.daig_session.specs.declared.error.QueryError.{QueryError}
use Rattle.daig_session.specs.declared.error.QueryError.TheVariants as query
use Rattle.daig_session.specs.Going.{IsAnswered}
use Rattle.daig_session.specs.Holds.{Holds}
use Rattle.daig_session.specs.Places.{chain_count, work_on, HoldsAll, HoldsPart, HoldsWith}
use Rattle.daig_session.specs.Turns.{Questions}
use Rattle.daig_session.proofs.Answering.{work_both}
use Rattle.daig_session.proofs.Asked.{asked_answered}
use mathlib.Core.Bool.{or-false}
use Rattle.std.proofs.Math.Bool.{or_assoc}

take_within : {A : Type 0} (xs ys : List A) (n : ℕ) → (k : ℕ) × (take k (xs ++ ys) ≡ take n xs)
take_within xs ys zero = (0, refl)
take_within [] ys (suc n) = (0, refl)
take_within (x ∷ xs) ys (suc n) = let p = take_within xs ys n in (suc p.0, ap (λ zs. x ∷ zs) p.1)

-- Demands in turn.
module _ {T : Type 0} (s : System T) where
  seen_both : (kept : T → Bool) (xs ys : List T) → seen s (seen s kept xs) ys ≡ seen s kept (xs ++ ys)
  seen_both kept xs ys = fun_ext (λ x. or_assoc (kept x) (member s.same xs x) (member s.same ys x) ∙ ap (λ b. kept x || b) (sym (member-append s.same xs ys x)))

  pub seen_none : (kept : T → Bool) → kept ≡ seen s kept []
  seen_none kept = fun_ext (λ x. sym (or-false (kept x)))

  turns_both : (kept : T → Bool) (xss yss : List (List T)) → missing_in_turn s kept (xss ++ yss) ≡ missing_in_turn s kept xss ++ missing_in_turn s (seen s kept (missing_in_turn s kept xss)) yss
  turns_both kept [] yss = ap (λ k. missing_in_turn s k yss) (seen_none kept)
  turns_both kept (xs ∷ xss) yss =
      let first = fill_all s kept [] xs in
      let then = seen s kept first in
      let more = missing_in_turn s then xss in
      ap (λ v. first ++ v) (turns_both then xss yss)
      ∙ sym (append_assoc first more (missing_in_turn s (seen s then more) yss))
      ∙ ap (λ k. (first ++ more) ++ missing_in_turn s k yss) (seen_both kept first more)

pub chains_both : (program : List Routine) (cs ds : List Location) → chain_count program (cs ++ ds) ≡ chain_count program cs + chain_count program ds
chains_both program [] ds = omega arith
chains_both program (l ∷ ls) ds = let e = chains_both program ls ds in omega arith

module _ {S : Type 0} (dom : Operations S) (m : Machine) where
  abbrev demands : Location → List CellName
  demands l = demanded (cell_value dom m) (place_targets m l)

  -- the machine after some of them
  abbrev pub behind : List Location → (cost : ℕ) → Machine
  behind cs cost = keeping (m.kept ++ missing_in_places dom cs m) cost m

  pub missing_both : (cost : ℕ) (cs ds : List Location) → missing_in_places dom (cs ++ ds) m ≡ missing_in_places dom cs m ++ missing_in_places dom ds (behind cs cost)
  missing_both cost cs ds =
      let s = names_of dom m.engine (routines_of m.program) same_name in
      let xs = missing_in_places dom cs m in
      ap (missing_in_turn s (is_kept m)) (map-append demands cs ds)
      ∙ turns_both s (is_kept m) (map demands cs) (map demands ds)
      ∙ ap (λ k. xs ++ missing_in_turn s k (map demands ds)) (fun_ext (λ x. sym (member-append same_name m.kept xs x)))

  work_then : (cost : ℕ) (cs ds : List Location) → work_on dom m (cs ++ ds) ≡ work_on dom m cs + work_on dom (behind cs cost) ds
  work_then cost cs ds =
      let e = ap length (missing_both cost cs ds) ∙ length-append (missing_in_places dom cs m) (missing_in_places dom ds (behind cs cost)) in
      let k = chains_both (routines_of m.program) cs ds in
      omega arith

  pub ticks_then : (cost : ℕ) (cs ds : List Location) (s t u each : ℕ) → t ≤ s + each * work_on dom m cs → u ≤ t + each * work_on dom (behind cs cost) ds → u ≤ s + each * work_on dom m (cs ++ ds)
  ticks_then cost cs ds s t u each h k = subst (λ w. u ≤ s + each * w) (sym (work_then cost cs ds)) (work_both s t u each (work_on dom m cs) (work_on dom (behind cs cost) ds) h k)

  module _ (store : Store S) (book : Book) where
    -- the cost is what it is
    pub at_cost : (ks : List CellName) (cost : ℕ) → Holds dom store book (keeping ks cost m) → Holds dom store book (keeping ks book.cost m)
    at_cost ks cost h = record {
      is = ap (λ (z : Machine). keeping ks book.cost z) h.is;
      same = h.same;
      cells = h.cells;
    }

    pub all_none : Holds dom store book m → HoldsAll dom m store book []
    all_none h = subst (λ ks. Holds dom store book (keeping ks book.cost m)) (sym (append-nil m.kept)) (at_cost m.kept m.cost h)

    pub part_none : (cs : List Location) → Holds dom store book m → HoldsPart dom m store book cs
    part_none cs h = record { count = 0; some = all_none h }

    pub all_part : (cs : List Location) → HoldsAll dom m store book cs → HoldsPart dom m store book cs
    all_part cs h =
        let xs = missing_in_places dom cs m in
        record { count = length xs; some = subst (λ ys. Holds dom store book (keeping (m.kept ++ ys) book.cost m)) (sym (take-length xs)) h }

    pub all_then : (cost : ℕ) (cs ds : List Location) → HoldsAll dom (behind cs cost) store book ds → HoldsAll dom m store book (cs ++ ds)
    all_then cost cs ds h =
        let xs = missing_in_places dom cs m in
        let ys = missing_in_places dom ds (behind cs cost) in
        subst (λ ks. Holds dom store book (keeping ks book.cost m)) (append_assoc m.kept xs ys ∙ ap (λ zs. m.kept ++ zs) (sym (missing_both cost cs ds))) h

    pub part_then : (cost : ℕ) (cs ds : List Location) → HoldsPart dom (behind cs cost) store book ds → HoldsPart dom m store book (cs ++ ds)
    part_then cost cs ds p =
        let xs = missing_in_places dom cs m in
        let ys = missing_in_places dom ds (behind cs cost) in
        record {
          count = length xs + p.count;
          some = subst (λ ks. Holds dom store book (keeping ks book.cost m)) (append_assoc m.kept xs (take p.count ys) ∙ ap (λ zs. m.kept ++ zs) (sym (ap (take (length xs + p.count)) (missing_both cost cs ds) ∙ take-append-add xs ys p.count))) p.some;
        }

    -- so many of them
    pub append_taken : (cost : ℕ) (cs ds : List Location) (n k : ℕ) → n ≡ length (missing_in_places dom cs m) + k → HoldsWith dom (behind cs cost) store book (take k (missing_in_places dom ds (behind cs cost))) → HoldsWith dom m store book (take n (missing_in_places dom (cs ++ ds) m))
    append_taken cost cs ds n k e h =
        let xs = missing_in_places dom cs m in
        let ys = missing_in_places dom ds (behind cs cost) in
        subst (λ ks. Holds dom store book (keeping ks book.cost m)) (append_assoc m.kept xs (take k ys) ∙ ap (λ zs. m.kept ++ zs) (sym (ap (λ j. take j (missing_in_places dom (cs ++ ds) m)) e ∙ (ap (take (length xs + k)) (missing_both cost cs ds) ∙ take-append-add xs ys k)))) h

    pub part_more : (cs ds : List Location) → HoldsPart dom m store book cs → HoldsPart dom m store book (cs ++ ds)
    part_more cs ds p =
        let xs = missing_in_places dom cs m in
        let q = take_within xs (missing_in_places dom ds (behind cs m.cost)) p.count in
        record {
          count = q.0;
          some = subst (λ zs. Holds dom store book (keeping (m.kept ++ zs) book.cost m)) (sym (ap (take q.0) (missing_both m.cost cs ds) ∙ q.1)) p.some;
        }

  -- One location is a question there.
  module _ (l : Location) where
    abbrev one : List Location
    one = l ∷ []

    abbrev one_targets : List Target
    one_targets = place_targets m l

    pub targets_same : (f : Found) → turns.targets_in m l [] f ≡ reports.targets_in (routines_of m.program) l f
    targets_same (Misses r) = refl
    targets_same (In p) = go (targets (routines_of m.program) p l [])
      where
        go : (o : Option (List Target)) → turns.or_none o ≡ reports.or_none o
        go None = refl
        go (Some ts) = refl

    one_asks : targets_of m l [] ≡ one_targets
    one_asks = targets_same (procedure_of (routines_of m.program) l)

    pub one_missing : missing_at dom l [] m ≡ missing_in_places dom one m
    one_missing =
        let s = names_of dom m.engine (routines_of m.program) same_name in
        ap (λ ts. fill_all s (is_kept m) [] (demanded (cell_value dom m) ts)) one_asks
        ∙ sym (append-nil (fill_all s (is_kept m) [] (demanded (cell_value dom m) one_targets)))

    pub one_work : length (missing_at dom l [] m) + 2 * length (targets_of m l []) ≡ work_on dom m one
    one_work =
        let a = ap length one_missing in
        let b = ap length one_asks in
        omega arith

    pub one_chains : length (targets_of m l []) ≡ chain_count (routines_of m.program) one
    one_chains = let e = ap length one_asks in omega arith

    -- It is refused only where it has no targets.
    pub none_refused : (r : QueryRefusal) → IsChecked (routines_of m.program) → answer_at dom l [] m ≡ Refuses r → targets_of m l [] ≡ []
    none_refused r checked a = go (procedure_of (routines_of m.program) l) refl
      where
        not_answered : IsAnswered (answer_at dom l [] m) → ⊥
        not_answered i = let q : Answers i.0 ≡ Refuses r = sym i.1 ∙ a in cc

        some : (p : ℕ) → procedure_of (routines_of m.program) l ≡ In p → (o : Option (List Target)) → targets (routines_of m.program) p l [] ≡ o → turns.or_none o ≡ []
        some p there None t = refl
        some p there (Some []) t = refl
        some p there (Some (x ∷ xs)) t = absurd (not_answered (asked_answered dom m.engine (routines_of m.program) l [] (x ∷ xs) checked (record { place = p; there = there; are = t; some = λ q. cc; short = refl })))

        go : (f : Found) → procedure_of (routines_of m.program) l ≡ f → turns.targets_in m l [] f ≡ []
        go (Misses why) there = refl
        go (In p) there = some p there (targets (routines_of m.program) p l []) refl

    pub none_missing : (r : QueryRefusal) → IsChecked (routines_of m.program) → answer_at dom l [] m ≡ Refuses r → missing_in_places dom one m ≡ []
    none_missing r checked a =
        let s = names_of dom m.engine (routines_of m.program) same_name in
        sym one_missing ∙ ap (λ ts. fill_all s (is_kept m) [] (demanded (cell_value dom m) ts)) (none_refused r checked a)

    module _ (store : Store S) (book : Book) where
      pub one_answered : Holds dom store book (after_question dom l [] m) → HoldsAll dom m store book one
      one_answered h =
          let xs = missing_at dom l [] m in
          subst (λ ys. Holds dom store book (keeping (m.kept ++ ys) book.cost m)) one_missing (at_cost store book (m.kept ++ xs) (length xs) h)

      pub one_refused : (r : QueryRefusal) → IsChecked (routines_of m.program) → answer_at dom l [] m ≡ Refuses r → Holds dom store book m → HoldsAll dom m store book one
      one_refused r checked a h = subst (λ ys. Holds dom store book (keeping (m.kept ++ ys) book.cost m)) (sym (none_missing r checked a)) (all_none store book h)

      pub one_between : IsBetween (missing_at dom l [] m) m (Holds dom store book) → HoldsPart dom m store book one
      one_between b =
          let xs = missing_at dom l [] m in
          record {
            count = b.count;
            some = subst (λ ys. Holds dom store book (keeping (m.kept ++ take b.count ys) book.cost m)) one_missing (at_cost store book (m.kept ++ take b.count xs) m.cost b.some);
          }

      -- After the question some of what was missing is kept, however it ends.
      pub one_asked : IsChecked (routines_of m.program) → (r : Result (Value S) QueryError) → Questions dom m (Holds dom store book) l [] r → HoldsPart dom m store book one
      one_asked checked (Ok v) q = all_part store book one (one_answered q.1)
      one_asked checked (Err (query.Refused r)) q = all_part store book one (one_refused r checked q.0 q.1)
      one_asked checked (Err query.Memory) q = one_between q
