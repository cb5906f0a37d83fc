-- As many cells are kept as names.
use Rattle.std.proofs.Common.{◌≡◌, ◌≢◌, ◌⊎◌, ℕ, ◌+◌, true, cond, List, [], ◌∷◌, length, Option, Some, None, is_some, slice_get, refl, sym, ap, subst, ◌∙◌, inl, inr, arith}
use Rattle.std.specs.Ordering.{nat_cmp}
use Rattle.std.specs.Cmp.{nat_cmp_total}
use Rattle.std.specs.FinMap.{FinMap, get, insert, remove, empty, len, get-empty, len-empty, len-insert, same_map, nat_cmp-IsAntisymmetric}
use Rattle.std.proofs.lemmas.Bool.{or_left, or_right, or_cases, cases_eq as same_number}
use Rattle.domain_laws.specs.Operations.{Operations}
use Rattle.cell_names.specs.Known.{IsOnce}
use Rattle.cell_names.specs.Paths.{CellName}
use Rattle.daig_order.specs.Order.{member}
use Rattle.daig_order.specs.OrderLaws.{IsDistinct}
use Rattle.daig_graph.specs.Cells.{Filled}
use Rattle.daig_graph.proofs.Maps.{get-remove-here, get-remove-other, insert-is}
use Rattle.imp_flow.specs.Plans.{Plan}
use Rattle.cell_graph.specs.Same.{same_name}
use Rattle.cell_graph.specs.Named.{filled_at}
use Rattle.cell_graph.proofs.Same.{same_is}
use Rattle.cell_graph.proofs.Numbers.{filled_named, filled_number}
use Rattle.daig_query.specs.declared.held.Held.{Held}
use Rattle.daig_query.specs.declared.store.Store.{Store}
use Rattle.daig_query.specs.Kept.{kept}
use Rattle.daig_query.specs.Right.{IsRight}
use Rattle.std.proofs.lemmas.Option.{same_Some}

abbrev Cells : Type 0
Cells = FinMap nat_cmp (Filled Held)

module _ (names : List CellName) (once : IsOnce names) where
  -- a cell of a name
  record HasCell (cells : Cells) (x : CellName) : Type 0 where
    number : ℕ
    cell : Filled Held
    named : slice_get names number ≡ Some x
    there : get cells number ≡ Some cell

  -- the name of a cell, which is one of these
  record HasName (xs : List CellName) (n : ℕ) : Type 0 where
    name : CellName
    named : slice_get names n ≡ Some name
    one : member same_name xs name ≡ true

  none_there : (cells : Cells) → ((n : ℕ) (f : Filled Held) → get cells n ≡ Some f → HasName [] n) → (q : ℕ) → get cells q ≡ None
  none_there cells only q = go (get cells q) refl
    where
      go : (o : Option (Filled Held)) → get cells q ≡ o → o ≡ None
      go None e = refl
      go (Some f) e = let h = (only q f e).one in absurd cc

  counted : (xs : List CellName) → IsDistinct same_name xs → (cells : Cells) → ((x : CellName) → member same_name xs x ≡ true → HasCell cells x) → ((n : ℕ) (f : Filled Held) → get cells n ≡ Some f → HasName xs n) → len cells ≡ length xs
  counted [] d cells all only =
      ap len (same_map nat_cmp_total nat_cmp-IsAntisymmetric cells empty (λ q. none_there cells only q ∙ sym (get-empty nat_cmp q))) ∙ len-empty nat_cmp (Filled Held)
  counted (x ∷ xs) d cells all only =
      let p = all x (or_left (same_name x x) (member same_name xs x) (same_is.same_refl x)) in
      let rest = remove cells p.number in
      let is : cells ≡ insert rest p.number p.cell = insert-is rest cells p.number p.cell p.there (λ q ne. sym (get-remove-other cells p.number q ne)) in
      let more : len (insert rest p.number p.cell) ≡ len rest + 1 = len-insert nat_cmp_total rest p.number p.cell ∙ ap (λ o. cond (is_some o) (len rest) (len rest + 1)) (get-remove-here cells p.number) in
      let fewer : len rest ≡ length xs = counted xs d.1 rest (others p) (only_others p) in
      let last : len cells ≡ len rest + 1 = ap len is ∙ more in
      omega arith
    where
      others : (p : HasCell cells x) → (y : CellName) → member same_name xs y ≡ true → HasCell (remove cells p.number) y
      others p y m =
          let q = all y (or_right (same_name y x) (member same_name xs y) m) in
          record {
            number = q.number;
            cell = q.cell;
            named = q.named;
            there = get-remove-other cells p.number q.number (λ e. let s : y ≡ x = same_Some y x (sym q.named ∙ (ap (slice_get names) e ∙ p.named)) in let k : member same_name xs x ≡ true = subst (λ z. member same_name xs z ≡ true) s m in absurd (let h = d.0 in cc)) ∙ q.there;
          }

      only_others : (p : HasCell cells x) → (n : ℕ) (f : Filled Held) → get (remove cells p.number) n ≡ Some f → HasName xs n
      only_others p n f e = by (same_number n p.number)
        where
          at : n ≢ p.number → HasName (x ∷ xs) n → HasName xs n
          at ne q =
              elim (or_cases (same_name q.name x) (member same_name xs q.name) q.one) [
                | inl h ↦ absurd (ne (once n p.number x (q.named ∙ ap Some (same_is.same_true q.name x h)) p.named))
                | inr k ↦ record { name = q.name; named = q.named; one = k }
              ]

          by : (n ≡ p.number) ⊎ (n ≢ p.number) → HasName xs n
          by (inl h) = let c : None ≡ Some f = sym (ap (get (remove cells p.number)) h ∙ get-remove-here cells p.number) ∙ e in absurd cc
          by (inr ne) = at ne (only n f (sym (get-remove-other cells p.number n ne) ∙ e))

-- the names that have cells
pub kept_counted : {S : Type 0} (dom : Operations S) (plan : Plan) (store : Store S) (xs : List CellName) → IsRight dom plan store → ((x : CellName) → kept store x ≡ member same_name xs x) → IsDistinct same_name xs → len store.graph.cells ≡ length xs
kept_counted dom plan store xs right same d = counted store.names.names right.once xs d store.graph.cells all only
  where
    found : (x : CellName) (o : Option (Filled Held)) → filled_at store.graph.cells store.names.names x ≡ o → is_some o ≡ true → HasCell store.names.names right.once store.graph.cells x
    found x None e h = absurd cc
    found x (Some f) e h =
        let p = filled_named store.graph.cells store.names.names x f e in
        record { number = p.0; cell = f; named = p.1; there = p.2 }

    all : (x : CellName) → member same_name xs x ≡ true → HasCell store.names.names right.once store.graph.cells x
    all x m = found x (filled_at store.graph.cells store.names.names x) refl (same x ∙ m)

    only : (n : ℕ) (f : Filled Held) → get store.graph.cells n ≡ Some f → HasName store.names.names right.once xs n
    only n f e =
        let p = right.cells n f e in
        let there : kept store p.0 ≡ true = ap is_some (filled_number store.graph.cells store.names.names right.once p.0 n p.1 ∙ e) in
        record { name = p.0; named = p.1; one = sym (same p.0) ∙ there }
