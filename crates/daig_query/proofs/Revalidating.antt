-- Looks at the inputs of a stale cell, one after another.
use Rattle.std.proofs.Common.{◌≡◌, ℕ, ◌<◌, List, [], ◌∷◌, ◌++◌, length, Option, Some, None, is_some, option_map, slice_get, refl, sym, ap, ap₂, subst, ◌∙◌, arith}
use Rattle.std.proofs.lemmas.Option.{same_Some}
use Rattle.std.specs.FinMap.{get}
use Rattle.domain_laws.specs.Operations.{Operations}
use Rattle.cell_names.specs.declared.path.Name.{Name}
use Rattle.cell_names.specs.Paths.{name_in}
use Rattle.imp_flow.specs.Plans.{Plan}
use Rattle.daig_graph.specs.Cells.{Filled}
use Rattle.loop_unroll.specs.Iterates.{value_at}
use Rattle.daig_query.specs.declared.held.Held.{Held}
use Rattle.daig_query.specs.declared.opening.Open.{Open}
use Rattle.daig_query.specs.declared.revalidation.Revalidation.{Revalidation}
use Rattle.daig_query.specs.declared.stale.Read.{Read}
use Rattle.daig_query.specs.declared.stale.Reads.{Reads}
use Rattle.daig_query.specs.declared.stale.Reads.TheVariants.{Nothing, One, Two}
use Rattle.daig_query.specs.declared.stale.StaleCell.{StaleCell}
use Rattle.daig_query.specs.declared.store.Store.{Store}
use Rattle.daig_query.specs.Kept.{Cells}
use Rattle.daig_query.specs.Opened.{IsNext, IsOpen, StaysOpen}
use Rattle.daig_query.specs.Revalidated.{HoldsRead, IsNextRead, IsValid, Looks}
use Rattle.daig_query.specs.Right.{IsRight}
use Rattle.daig_query.specs.Stale.{stale_at, Stale}
use Rattle.daig_query.proofs.Firsts.{first_found, stays_named}
use Rattle.daig_query.proofs.Growing.{names_refl}
use Rattle.daig_query.proofs.Looking.{open_longer, Named}
use Rattle.daig_query.proofs.StaleTraces.{next_read, valid_again}
use Rattle.daig_query.proofs.Sweeping.{holder}

-- a stale cell with what it read
pub stale_with : (stale : Stale) (n : ℕ) (s : StaleCell) (reads : Reads) → Some s ≡ stale_at stale n → s.reads ≡ reads → stale_at stale n ≡ Some (record { held = s.held; reads = reads })
stale_with stale n s reads is e = sym is ∙ ap (λ (rs : Reads). Some (record { held = s.held; reads = rs })) e

-- a number without a value has no cell
pub value_none : (cells : Cells) (n : ℕ) → value_at cells n ≡ None → get cells n ≡ None
value_none cells n e = by (get cells n) e
  where
    by : (o : Option (Filled Held)) → option_map (λ f. f.value) o ≡ None → o ≡ None
    by None e = refl
    by (Some f) e = absurd cc

-- where a look does not end, the input holds what was read
pub read_held : {S : Type 0} (dom : Operations S) (plan : Plan) (store : Store S) (o : Open) (r : Read) (end : Option Revalidation) → Looks dom plan store o r end → end ≡ None → HoldsRead store r
read_held dom plan store o r end looks is = subst (Looks dom plan store o r) is looks

module _ {S : Type 0} {dom : Operations S} {plan : Plan} {store : Store S} where
  pub stays_trans : {a b c : Open} → StaysOpen dom plan store a b → StaysOpen dom plan store b c → StaysOpen dom plan store a c
  stays_trans h k = record { entry = k.entry; cell = k.cell ∙ h.cell; name = k.name ∙ h.name }

module _ {S : Type 0} (dom : Operations S) (plan : Plan) (store : Store S) where
  -- it is being filled, with the inputs that were found
  pub stays_same : (o : Open) → IsOpen dom plan store o → (ns : List ℕ) → ns ≡ o.inputs → StaysOpen dom plan store o (record { cell = o.cell; name = o.name; inputs = ns })
  stays_same o opened ns same = stays_named dom plan store store (names_refl store) o opened ns same

  module _ (right : IsRight dom plan store) (o : Open) (opened : IsOpen dom plan store o) where
    module _ (place : ℕ) (r : Read) (next : IsNextRead dom plan store o place r) (many : length o.inputs ≡ place) where
      -- the next input has no cell
      pub read_waits : (x : Name) → x.path < length store.names.paths → slice_get store.names.names r.cell ≡ Some (name_in store.names.paths x) → get store.graph.cells r.cell ≡ None → IsNext dom plan store o (Some (record { cell = r.cell; name = x; inputs = [] }))
      read_waits x within is none =
          let p = next many in
          let named : Named store store p.0 x r.cell = record { names = names_refl store; once = right.once; path = within; is = same_Some (name_in store.names.paths x) p.0 (sym is ∙ p.1); number = p.1 } in
          first_found dom plan store store right p.0 x r.cell named o opened p.2 none

      -- it has one
      pub read_taken : HoldsRead store r → (ns : List ℕ) → ns ≡ o.inputs ++ r.cell ∷ [] → StaysOpen dom plan store o (record { cell = o.cell; name = o.name; inputs = ns })
      read_taken holds ns is =
          let p = next many in
          let f = holder store.graph.cells r.cell r.held holds in
          record {
            entry = subst (λ zs. IsOpen dom plan store (record { cell = o.cell; name = o.name; inputs = zs })) (sym is) (open_longer dom plan store o p.0 r.cell opened p.2 p.1 (ap is_some f.1));
            cell = refl;
            name = refl;
          }

    -- what a stale cell read, by how many it read
    module _ (h : Held) where
      pub nothing_valid : stale_at store.stale o.cell ≡ Some (record { held = h; reads = Nothing }) → length o.inputs ≡ 0 → IsValid dom plan store o h
      nothing_valid stale many = valid_again dom plan store right o opened (record { held = h; reads = Nothing }) stale many refl

      module _ (a : Read) (stale : stale_at store.stale o.cell ≡ Some (record { held = h; reads = One a })) where
        pub one_next : IsNextRead dom plan store o 0 a
        one_next = next_read dom plan store right o opened (record { held = h; reads = One a }) stale 0 a refl (omega arith) refl

        pub one_valid : HoldsRead store a → length o.inputs ≡ 1 → IsValid dom plan store o h
        one_valid holds many = valid_again dom plan store right o opened (record { held = h; reads = One a }) stale many (ap (λ v. v ∷ []) holds)

      module _ (a b : Read) (stale : stale_at store.stale o.cell ≡ Some (record { held = h; reads = Two a b })) where
        pub two_first : IsNextRead dom plan store o 0 a
        two_first = next_read dom plan store right o opened (record { held = h; reads = Two a b }) stale 0 a refl (omega arith) refl

        pub two_second : HoldsRead store a → IsNextRead dom plan store o 1 b
        two_second holds = next_read dom plan store right o opened (record { held = h; reads = Two a b }) stale 1 b refl (omega arith) (ap (λ v. v ∷ []) holds)

        pub two_valid : HoldsRead store a → HoldsRead store b → length o.inputs ≡ 2 → IsValid dom plan store o h
        two_valid left right_too many = valid_again dom plan store right o opened (record { held = h; reads = Two a b }) stale many (ap₂ (λ v w. v ∷ w ∷ []) left right_too)
