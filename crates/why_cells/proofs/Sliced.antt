-- The cells that are reached from those of the targets are those of the names that are needed.
use Rattle.std.proofs.Common.{◌≡◌, ◌↔◌, ℕ, List, [], ◌∷◌, ◌++◌, map, reverse, Option, Some, None, IsSome, is_some, true, slice_get, refl, sym, ap, subst, ◌∙◌, append-nil, inl, inr}
use Rattle.std.specs.FinMap.{get}
use Rattle.std.proofs.lemmas.List.{reverse-append}
use Rattle.imp_syntax.specs.declared.edit.Location.{Location}
use Rattle.base_values.proofs.Members.{Member, here, there, in_left, in_right, either, of_reverse, contains_of, member_of}
use Rattle.imp_chains.specs.Chains.{selected}
use Rattle.domain_laws.specs.Operations.{Operations}
use Rattle.daig_order.specs.Order.{member, System}
use Rattle.daig_order.specs.OrderLaws.{Needed, input, under}
use Rattle.cell_names.specs.Known.{Known}
use Rattle.cell_names.specs.Paths.{CellName}
use Rattle.cell_rows.specs.Targets.{Target, demanded}
use Rattle.daig_demands.specs.Claims.{names_of}
use Rattle.daig_demands.specs.Walks.{asks, asks_at, names_at}
use Rattle.daig_demands.specs.Walks as law
use Rattle.imp_flow.specs.Plans.{Plan}
use Rattle.daig_graph.specs.Cells.{AreCells, Filled}
use Rattle.daig_graph.specs.Held.{IsIn}
use Rattle.cell_removal.proofs.Ins.{in_first, in_more}
use Rattle.cell_graph.specs.Asked.{inputs}
use Rattle.cell_graph.specs.Named.{filled_at, AreNumbers}
use Rattle.cell_graph.specs.Same.{same_name}
use Rattle.cell_graph.proofs.Numbers.{filled_named, numbers_get, numbers_of, member_at, at_member}
use Rattle.cell_graph.proofs.Same.{same_is}
use Rattle.daig_query.specs.declared.held.Held.{Held}
use Rattle.daig_query.specs.declared.store.Store.{Store}
use Rattle.daig_query.specs.declared.walk.Walk.{Walk}
use Rattle.daig_query.specs.Kept.{kept}
use Rattle.daig_query.specs.Right.{found, IsRight}
use Rattle.daig_query.specs.Walked.{fixes, with_fixes, place_of, IsDone}
use Rattle.daig_query.proofs.Found.{stored}
use Rattle.why_slice.specs.Upstream.{all_hung, all_of, listed, statement_at, needed_by, sorted_once, upstream, NeededBy}
use Rattle.base_sets.proofs.Rising.{rising_same}
use Rattle.why_slice.proofs.Told.{all_hung_only, all_hung_there, as_member, is_member, needs}
use Rattle.why_cells.specs.Reached.{Reached, seed, input as leads, AllNamed, AreReached}
use Rattle.why_cells.specs.Told.{SameItems}
use Rattle.std.proofs.lemmas.Option.{same_Some}

-- nothing is left where nothing is asked for
none_left : (w : law.Walk) → asks w ≡ None → w.left ≡ []
none_left w e = go w.left e
  where
    go : (ts : List Target) → asks_at w.path ts ≡ None → ts ≡ []
    go [] e = refl
    go (t ∷ ts) e = absurd cc

-- the items of lists that are turned round
in_reverse : (ns : List ℕ) (n : ℕ) → Member n ns → Member n (reverse ns)
in_reverse [] n m = m
in_reverse (k ∷ ns) _ here = subst (Member k) (sym (reverse-append (k ∷ []) ns)) (in_right (reverse ns) here)
in_reverse (k ∷ ns) n (there m) = subst (Member n) (sym (reverse-append (k ∷ []) ns)) (in_left (k ∷ []) (in_reverse ns n m))

of_turned : (nss : List (List ℕ)) (n : ℕ) → Member n (all_of (map reverse nss)) → Member n (all_of nss)
of_turned [] n m = m
of_turned (ns ∷ nss) n m =
    elim (either n (reverse ns) (all_of (map reverse nss)) m) [
      | inl a ↦ in_left (all_of nss) (of_reverse n ns a)
      | inr b ↦ in_right ns (of_turned nss n b)
    ]

in_turned : (nss : List (List ℕ)) (n : ℕ) → Member n (all_of nss) → Member n (all_of (map reverse nss))
in_turned [] n m = m
in_turned (ns ∷ nss) n m =
    elim (either n ns (all_of nss) m) [
      | inl a ↦ in_left (all_of (map reverse nss)) (in_reverse ns n a)
      | inr b ↦ in_right (reverse ns) (in_turned nss n b)
    ]

-- the names of these numbers
names_for : (names : List CellName) (ks : List ℕ) → ((n : ℕ) → IsIn ks n → (x : CellName) × (slice_get names n ≡ Some x)) → (xs : List CellName) × AreNumbers names ks xs
names_for names [] f = ([], refl)
names_for names (k ∷ ks) f =
    let x = f k (in_first k ks) in
    let r = names_for names ks (λ n m. f n (in_more n k ks m)) in
    (x.0 ∷ r.0, ap (λ o. o ∷ map (slice_get names) ks) x.1 ∙ ap (λ zs. Some x.0 ∷ zs) r.1)

module _ {S : Type 0} (dom : Operations S) (plan : Plan) (ts : List Target) (store : Store S) (w : Walk) (right : IsRight dom plan store) (done : IsDone dom plan ts store w) where
  abbrev system : System CellName
  system = names_of dom plan.engine plan.program same_name

  abbrev lasts : List CellName
  lasts = done.placed.stands.lasts

  abbrev asked : List CellName
  asked = demanded (found dom plan) ts

  abbrev Need : CellName → Type 0
  Need = Needed system asked

  to_needed : (x : CellName) → Need x → NeededBy dom plan.engine plan.program same_name ts x
  unfolding found
  to_needed x n = n

  of_needed : (x : CellName) → NeededBy dom plan.engine plan.program same_name ts x → Need x
  unfolding found
  of_needed x n = n

  as_input : (x y : CellName) → member same_name (inputs dom plan x) y ≡ true → member system.same (system.inputs x) y ≡ true
  unfolding inputs
  as_input x y m = m

  of_input : (x y : CellName) → member system.same (system.inputs x) y ≡ true → member same_name (inputs dom plan x) y ≡ true
  unfolding inputs
  of_input x y m = m

  left : (place_of ts store w).left ≡ []
  left = none_left (place_of ts store w) done.asks_none

  asked_is : asked ≡ done.placed.stands.asked
  asked_is =
      done.placed.stands.names ∙ ap (λ xs. done.placed.stands.asked ++ names_at (found dom plan) (place_of ts store w).path xs) left ∙ append-nil done.placed.stands.asked

  among : with_fixes lasts ++ fixes (place_of ts store w).path ≡ with_fixes lasts
  among = ap (λ v. with_fixes lasts ++ fixes v) (done.placed.stands.ended left) ∙ append-nil (with_fixes lasts)

  asked_of : (x : CellName) → member same_name (with_fixes lasts) x ≡ true → member same_name asked x ≡ true
  asked_of x m = subst (λ xs. member same_name xs x ≡ true) (sym asked_is) (done.placed.stands.comes x (subst (λ xs. member same_name xs x ≡ true) (sym among) m))

  of_asked : (x : CellName) → member same_name asked x ≡ true → member same_name (with_fixes lasts) x ≡ true
  of_asked x m = subst (λ xs. member same_name xs x ≡ true) among (done.placed.stands.covered x (subst (λ xs. member same_name xs x ≡ true) asked_is m))

  -- each name that is needed has a cell
  kept_of : (x : CellName) → Need x → kept store x ≡ true
  kept_of x (input _ m) = done.placed.stands.asked_kept x (subst (λ xs. member same_name xs x ≡ true) asked_is m)
  kept_of y (under x _ n m) = right.kept.closed x y (kept_of x n) m

  cell_of : (x : CellName) → kept store x ≡ true → (n : ℕ) × (f : Filled Held) × (slice_get store.names.names n ≡ Some x) × (get store.graph.cells n ≡ Some f)
  cell_of x k = go (filled_at store.graph.cells store.names.names x) refl k
    where
      go : (o : Option (Filled Held)) → filled_at store.graph.cells store.names.names x ≡ o → is_some o ≡ true → (n : ℕ) × (f : Filled Held) × (slice_get store.names.names n ≡ Some x) × (get store.graph.cells n ≡ Some f)
      go None e s = absurd cc
      go (Some f) e s = let p = filled_named store.graph.cells store.names.names x f e in (p.0, f, p.1, p.2)

  there_of : (n : ℕ) (x : CellName) → Need x → slice_get store.names.names n ≡ Some x → (f : Filled Held) × (get store.graph.cells n ≡ Some f)
  there_of n x k e =
      let c = cell_of x (kept_of x k) in
      (c.1, subst (λ m. get store.graph.cells m ≡ Some c.1) (right.once c.0 n x c.2 e) c.3)

  need_seed : (i : ℕ) (x : CellName) → slice_get (with_fixes lasts) i ≡ Some x → Need x
  need_seed i x e = input x (asked_of x (at_member (with_fixes lasts) i x e))

  pub named_all : AllNamed store.names.names (with_fixes lasts)
  named_all x m = let c = cell_of x (kept_of x (need_seed m.0 x m.1)) in (c.0, c.2)

  is_filled : (n : ℕ) (f : Filled Held) → get store.graph.cells n ≡ Some f → IsSome (get store.graph.cells n)
  is_filled n f e = subst (λ (o : Option (Filled Held)). IsSome o) (sym e) refl

  pub found_named : (i n : ℕ) → slice_get w.found.items i ≡ Some n → (x : CellName) × (slice_get store.names.names n ≡ Some x)
  found_named i n e = let p = numbers_get store.names.names w.found.items lasts done.placed.stands.numbers i n e in (p.0, p.2)

  -- the cells that are found with those of the fixed points
  pub seeds_are : (names : Known) (cells seeds : List ℕ) → names ≡ store.names → cells ≡ w.found.items →
      ((xs : List CellName) → AreNumbers names.names cells xs → AllNamed names.names (with_fixes xs) → AreNumbers names.names seeds (with_fixes xs)) → AreNumbers store.names.names seeds (with_fixes lasts)
  seeds_are names cells seeds e f h =
      subst (λ (k : Known). AreNumbers k.names seeds (with_fixes lasts)) e
      (h lasts (subst (λ (k : Known). AreNumbers k.names cells lasts) (sym e) (subst (λ ns. AreNumbers store.names.names ns lasts) (sym f) done.placed.stands.numbers))
      (subst (λ (k : Known). AllNamed k.names (with_fixes lasts)) (sym e) named_all))

  module _ (seeds : List ℕ) (are : AreNumbers store.names.names seeds (with_fixes lasts)) where
    pub seeds_there : AreCells store.graph.cells seeds
    seeds_there i n e =
        let p = numbers_get store.names.names seeds (with_fixes lasts) are i n e in
        let f = there_of n p.0 (need_seed i p.0 p.1) p.2 in
        is_filled n f.0 f.1

    reached_needed : (n : ℕ) → Reached store.graph.cells seeds n → (x : CellName) × (slice_get store.names.names n ≡ Some x) × Need x
    reached_needed n (seed _ m) = let p = numbers_get store.names.names seeds (with_fixes lasts) are m.0 n m.1 in (p.0, p.2, need_seed m.0 p.0 p.1)
    reached_needed n (leads m _ f r e i) =
        let z = reached_needed m r in
        let c = stored dom plan store right m z.0 f z.1 e in
        let p = numbers_get store.names.names f.inputs (inputs dom plan z.0) c.inputs i.0 n i.1 in
        (p.0, p.2, under z.0 p.0 z.2 (as_input z.0 p.0 (at_member (inputs dom plan z.0) i.0 p.0 p.1)))

    needed_reached : (x : CellName) → Need x → (n : ℕ) × (slice_get store.names.names n ≡ Some x) × Reached store.graph.cells seeds n
    needed_reached x (input _ m) =
        let q = member_at (with_fixes lasts) x (of_asked x m) in
        let p = numbers_of store.names.names seeds (with_fixes lasts) are q.0 x q.1 in
        (p.0, p.2, seed p.0 (q.0, p.1))
    needed_reached y (under x _ n m) =
        let z = needed_reached x n in
        let f = there_of z.0 x n z.1 in
        let c = stored dom plan store right z.0 x f.0 z.1 f.1 in
        let q = member_at (inputs dom plan x) y (of_input x y m) in
        let p = numbers_of store.names.names f.0.inputs (inputs dom plan x) c.inputs q.0 y q.1 in
        (p.0, p.2, leads z.0 p.0 f.0 z.2 f.1 (q.0, p.1))

    module _ (keys : List ℕ) (reached : AreReached store.graph.cells seeds keys) where
      pub keys_named : (xs : List CellName) × AreNumbers store.names.names keys xs
      keys_named = names_for store.names.names keys (λ n m. let z = reached_needed n ((reached n).0 m) in (z.0, z.1))

      module _ (xs : List CellName) (named : AreNumbers store.names.names keys xs) where
        of_keys : (x : CellName) → Member x xs → Need x
        of_keys x m =
            let q = member_at xs x (as_member same_name same_is.same_refl xs x m) in
            let p = numbers_of store.names.names keys xs named q.0 x q.1 in
            let z = reached_needed p.0 ((reached p.0).0 (q.0, p.1)) in
            subst Need (same_Some z.0 x (sym z.1 ∙ p.2)) z.2

        in_keys : (x : CellName) → Need x → Member x xs
        in_keys x k =
            let z = needed_reached x k in
            let m = (reached z.0).1 z.2 in
            let p = numbers_get store.names.names keys xs named m.0 z.0 m.1 in
            is_member same_name same_is.same_true xs x (at_member xs m.0 x (p.1 ∙ ap Some (same_Some p.0 x (sym p.2 ∙ z.1))))

        abbrev hung : List CellName → List ℕ
        hung = all_hung dom plan.engine plan.program same_name

        abbrev needed : List CellName
        needed = needed_by dom plan.engine plan.program same_name ts

        module _ (l : Location) (string : List ℕ) (p : ℕ) where
          abbrev need : (x : CellName) → (member same_name needed x ≡ true) ↔ NeededBy dom plan.engine plan.program same_name ts x
          need = needs dom plan.engine plan.program same_name same_is right.checked l string p ts

          of_hung : (n : ℕ) → Member n (hung xs) → Member n (hung needed)
          of_hung n m =
              let h = all_hung_only dom plan.engine plan.program same_name same_is right.checked xs n m in
              all_hung_there dom plan.engine plan.program same_name same_is right.checked needed h.0 n
              (is_member same_name same_is.same_true needed h.0 ((need h.0).1 (to_needed h.0 (of_keys h.0 h.1)))) h.2

          in_hung : (n : ℕ) → Member n (hung needed) → Member n (hung xs)
          in_hung n m =
              let h = all_hung_only dom plan.engine plan.program same_name same_is right.checked needed n m in
              all_hung_there dom plan.engine plan.program same_name same_is right.checked xs h.0 n
              (in_keys h.0 (of_needed h.0 ((need h.0).0 (as_member same_name same_is.same_refl needed h.0 h.1)))) h.2

          parts : (fs bs cs ds es : List ℕ) → ((n : ℕ) → Member n bs → Member n cs) → ((n : ℕ) → Member n ds → Member n es) → (n : ℕ) → Member n (fs ++ (bs ++ ds)) → Member n (fs ++ (cs ++ es))
          parts fs bs cs ds es f g n m =
              elim (either n fs (bs ++ ds) m) [
                | inl a ↦ in_left (cs ++ es) a
                | inr k ↦ in_right fs (elim (either n bs ds k) [ inl b ↦ in_left es (f n b) | inr d ↦ in_right cs (g n d) ])
              ]

          -- the statements of the chains and cells are those that the answer depends on
          pub upstream_is : (ns : List ℕ) → SameItems ns (hung xs) → sorted_once (listed (statement_at l) ++ (all_of (map reverse (selected plan.program p string)) ++ ns)) ≡ upstream dom plan.engine plan.program same_name l string p ts
          upstream_is ns items =
              let nss = selected plan.program p string in
              rising_same _ _
              (parts (listed (statement_at l)) (all_of (map reverse nss)) (all_of nss) ns (hung needed) (of_turned nss) (λ n m. of_hung n (member_of n (hung xs) ((items n).0 (contains_of n ns m)))))
              (parts (listed (statement_at l)) (all_of nss) (all_of (map reverse nss)) (hung needed) ns (in_turned nss) (λ n m. member_of n ns ((items n).1 (contains_of n (hung xs) (in_hung n m)))))
