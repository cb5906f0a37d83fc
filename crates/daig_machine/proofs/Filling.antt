-- Filling what is missing keeps cells.
use Rattle.std.proofs.Common.{◌≡◌, ℕ, Bool, true, false, List, [], ◌++◌, take, filter, sym, subst, ◌∙◌, inl, inr}
use Rattle.std.specs.Prelude.{not}
use Rattle.std.proofs.lemmas.Bool.{or_right, false_from_ne_true, or_cases}
use Rattle.imp_slots.specs.Fits.{IsChecked}
use Rattle.imp_slots.specs.Plain.{Routine}
use Rattle.domain_laws.specs.Operations.{Operations}
use Rattle.batch_meaning.specs.Batch.{LoopOptions}
use Rattle.cell_names.specs.Paths.{CellName}
use Rattle.cell_rows.specs.Claims.{HasName}
use Rattle.daig_order.specs.Order.{System, IsAcyclic, member, seen, fill_all}
use Rattle.daig_order.specs.OrderLaws.{IsClosed, Needed, order}
use Rattle.daig_order.proofs.AskingProofs.{system-acyclic}
use Rattle.daig_order.proofs.OrderLemmas.{member-append}
use Rattle.daig_order.proofs.OrderLawProofs.{order-distinct}
use Rattle.daig_order.proofs.TheoremProofs.{below, ceiling, filled, kept_or_needed, missing}
use Rattle.daig_demands.specs.Claims.{names_of}
use Rattle.daig_demands.proofs.Machine.{rows, law}
use Rattle.cell_graph.specs.Same.{same_name}
use Rattle.cell_graph.proofs.Same.{same_is}
use Rattle.daig_machine.specs.Claims.{AreKept}
use Rattle.daig_machine.proofs.Lists.{take_member, take_distinct, filter_holds, append_distinct}

module _ {S : Type 0} (dom : Operations S) (engine : LoopOptions) (program : List Routine) (checked : IsChecked program) (kept : List CellName) (are : AreKept dom engine program kept) where
  abbrev s : System CellName
  s = names_of dom engine program same_name

  abbrev k : CellName → Bool
  k = member same_name kept

  acyclic : IsAcyclic (names_of dom engine program same_name)
  acyclic = system-acyclic (rows dom engine program same_name same_is checked) (law dom engine program same_name same_is checked)

  module _ (names : List CellName) (there : (x : CellName) → Needed (names_of dom engine program same_name) names x → HasName engine program x) (n : ℕ) where
    abbrev xs : List CellName
    xs = fill_all s k [] names

    seen_is : (x : CellName) → member same_name (kept ++ take n xs) x ≡ seen s k (take n xs) x
    seen_is x = member-append same_name kept (take n xs) x

    all_seen : member same_name (kept ++ take n xs) ≡ seen s k (take n xs)
    all_seen = λ i x. seen_is x i

    named : (x : CellName) → member same_name (kept ++ take n xs) x ≡ true → HasName engine program x
    named x m =
        elim (or_cases (k x) (member same_name (take n xs) x) (sym (seen_is x) ∙ m)) [
          | inl h ↦ are.cells.named x h
          | inr h ↦ elim ((kept_or_needed s acyclic k are.cells.closed names x).0 (or_right (k x) (member same_name xs x) (take_member same_name n xs x h))) [
            | inl j ↦ are.cells.named x j
            | inr j ↦ there x j
          ]
        ]

    fresh : (x : CellName) → member same_name (take n xs) x ≡ true → k x ≡ false
    fresh x m =
        let h : member same_name (filter (λ y. not (k y)) (order s names)) x ≡ true = subst (λ ys. member same_name ys x ≡ true) (missing s acyclic k are.cells.closed names) (take_member same_name n xs x m) in
        let j = filter_holds same_name same_is.same_true (λ y. not (k y)) (order s names) x h in
        false_from_ne_true (k x) (λ i. cc)

    pub fill_keeps : AreKept dom engine program (kept ++ take n xs)
    fill_keeps = record {
      cells = record {
        named = named;
        closed = subst (IsClosed s) (sym all_seen) (filled s acyclic k are.cells.closed names n);
      };
      once = append_distinct same_name kept (take n xs) are.once (take_distinct same_name n xs (order-distinct s acyclic k names (ceiling s names) (below s acyclic names))) same_is.same_true same_is.same_refl fresh;
    }
