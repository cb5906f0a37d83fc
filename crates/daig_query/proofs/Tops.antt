-- A turn at the name on top of a stack.
use Rattle.std.proofs.Common.{◌≡◌, ℕ, suc, ◌+◌, ◌<◌, ◌⊎◌, ◌||◌, false, List, [], ◌∷◌, ◌++◌, length, Some, None, IsSome, is_some, slice_get, refl, sym, ap, subst, ◌∙◌, inl, inr, arith, length-append}
use Rattle.std.specs.FinMap.{get, len}
use Rattle.std.proofs.lemmas.List.{map-append}
use Rattle.std.proofs.lemmas.Option.{slice_get_within}
use Rattle.std.proofs.Math.Bool.{or-true}
use Rattle.base_values.proofs.Lists.{get_last, get_front, get_pushed}
use Rattle.domain_laws.specs.Operations.{Operations}
use Rattle.cell_names.specs.Paths.{CellName}
use Rattle.cell_rows.proofs.Rowed.{has_row}
use Rattle.cell_rows.specs.Targets.{Target}
use Rattle.daig_demands.specs.Walks as law
use Rattle.imp_flow.specs.Plans.{Plan}
use Rattle.imp_flow_rows.specs.declared.row.Row.{Row}
use Rattle.cell_graph.specs.Same.{same_name}
use Rattle.cell_graph.specs.Asked.{inputs}
use Rattle.cell_graph.proofs.Numbers.{filled_number}
use Rattle.cell_graph.proofs.Same.{same_is}
use Rattle.daig_query.specs.declared.opening.Open.{Open}
use Rattle.daig_query.specs.declared.store.Store.{Store}
use Rattle.daig_query.specs.declared.walk.Walk.{Walk}
use Rattle.daig_query.specs.Kept.{kept, Grows, Names}
use Rattle.daig_query.specs.Right.{IsRight}
use Rattle.daig_query.specs.Opened.{name_of, next_of, row_at, IsOpen, IsFurther, IsNext, Puts, StaysOpen}
use Rattle.daig_query.specs.Turned.{stacked_names, AreKept, HandsDown, Pushes, FillsTop, Waits}
use Rattle.daig_query.specs.Walked.{AreStacked, IsPlaced, IsGood, place_of}
use Rattle.daig_query.proofs.Growing.{few_trans, names_few, names_grow, grows_trans, kept_same, name_stays, open_grows, next_grows}
use Rattle.daig_query.proofs.Walks.{placed_grows, place_stays}
use Rattle.daig_query.proofs.Looking.{open_longer}
use Rattle.daig_query.proofs.Stepping.{place_same, placed_same}
use Rattle.daig_query.proofs.Stacked.{names_stay, open_ready}
use Rattle.daig_query.proofs.Starting.{stacked_front}
use Rattle.std.proofs.Math.Seq.{take-append_seam as take_start}

module _ {S : Type 0} (dom : Operations S) (plan : Plan) where
  -- the top is open
  pub open_at_end : (store : Store S) (k : law.Walk) (os : List Open) (top : Open) → AreStacked dom plan store k (os ++ top ∷ []) → IsOpen dom plan store top
  open_at_end store k os top h = h.opens (length os) top (get_last os top)

  -- and does not lack a row
  pub lacks_row : (store : Store S) (o : Open) → IsRight dom plan store → IsOpen dom plan store o → row_at plan (name_of store o) ≡ None → ⊥
  lacks_row store o right opened none =
      let p = has_row plan.engine plan.program right.checked (name_of store o) opened.named in
      let c : None ≡ Some p.0 = sym none ∙ p.1 in
      cc

  -- a name of which more inputs are found is being filled still
  pub further_stays : (store : Store S) (row : Row) (o u : Open) → IsFurther dom plan store row o u → StaysOpen dom plan store o u
  further_stays store row o u further = record { entry = further.at.entry; cell = further.cell; name = further.name }

  -- the top once more, with other inputs found
  stacked_again : (store : Store S) (k : law.Walk) (os : List Open) (o u : Open) → name_of store u ≡ name_of store o → IsOpen dom plan store u → AreStacked dom plan store k (os ++ o ∷ []) → AreStacked dom plan store k (os ++ u ∷ [])
  stacked_again store k os o u same opened h = record {
    opens = λ i x e. opens i x (get_pushed os u i x e);
    bottom = λ x e. bottom x (get_pushed os u 0 x e);
    chained = λ i x y e f. chained i x y (get_pushed os u i x e) (get_pushed os u (suc i) y f);
  }
    where
      At : ℕ → Open → Type 0
      At i x = (slice_get os i ≡ Some x) ⊎ ((i ≡ length os) × (u ≡ x))

      there : (i : ℕ) (x : Open) → slice_get os i ≡ Some x → slice_get (os ++ o ∷ []) i ≡ Some x
      there i x e = get_front os (o ∷ []) i x e

      last : slice_get (os ++ o ∷ []) (length os) ≡ Some o
      last = get_last os o

      opens : (i : ℕ) (x : Open) → At i x → IsOpen dom plan store x
      opens i x (inr p) = subst (IsOpen dom plan store) p.1 opened
      opens i x (inl e) = h.opens i x (there i x e)

      bottom : (x : Open) → At 0 x → law.asks k ≡ Some (name_of store x)
      bottom x (inr p) = h.bottom o (ap (slice_get (os ++ o ∷ [])) p.0 ∙ last) ∙ ap Some (sym same ∙ ap (name_of store) p.1)
      bottom x (inl e) = h.bottom x (there 0 x e)

      chained : (i : ℕ) (x y : Open) → At i x → At (suc i) y → next_of dom plan store x ≡ Some (name_of store y)
      chained i x y (inr p) (inr q) = absurd (let a : i ≡ length os = p.0 in let b : suc i ≡ length os = q.0 in omega arith)
      chained i x y (inr p) (inl f) = absurd (let a : i ≡ length os = p.0 in let b : suc i < length os = slice_get_within os (suc i) y f in omega arith)
      chained i x y (inl e) (inr q) = h.chained i x o (there i x e) (ap (slice_get (os ++ o ∷ [])) q.0 ∙ last) ∙ ap Some (sym same ∙ ap (name_of store) q.1)
      chained i x y (inl e) (inl f) = h.chained i x y (there i x e) (there (suc i) y f)

  -- the next input of the top is pushed
  stacked_push : (store : Store S) (k : law.Walk) (os : List Open) (o u : Open) → IsOpen dom plan store u → next_of dom plan store o ≡ Some (name_of store u) → AreStacked dom plan store k (os ++ o ∷ []) → AreStacked dom plan store k ((os ++ o ∷ []) ++ u ∷ [])
  stacked_push store k os o u opened next h = record {
    opens = λ i x e. opens i x (get_pushed all u i x e);
    bottom = λ x e. bottom x (get_pushed all u 0 x e);
    chained = λ i x y e f. chained i x y (get_pushed all u i x e) (get_pushed all u (suc i) y f);
  }
    where
      all : List Open
      all = os ++ o ∷ []

      size : length all ≡ length os + 1
      size = length-append os (o ∷ [])

      At : ℕ → Open → Type 0
      At i x = (slice_get all i ≡ Some x) ⊎ ((i ≡ length all) × (u ≡ x))

      opens : (i : ℕ) (x : Open) → At i x → IsOpen dom plan store x
      opens i x (inr p) = subst (IsOpen dom plan store) p.1 opened
      opens i x (inl e) = h.opens i x e

      bottom : (x : Open) → At 0 x → law.asks k ≡ Some (name_of store x)
      bottom x (inr p) = absurd (let a : 0 ≡ length all = p.0 in let b = size in omega arith)
      bottom x (inl e) = h.bottom x e

      chained : (i : ℕ) (x y : Open) → At i x → At (suc i) y → next_of dom plan store x ≡ Some (name_of store y)
      chained i x y (inr p) (inr q) = absurd (let a : i ≡ length all = p.0 in let b : suc i ≡ length all = q.0 in omega arith)
      chained i x y (inr p) (inl f) = absurd (let a : i ≡ length all = p.0 in let b : suc i < length all = slice_get_within all (suc i) y f in omega arith)
      chained i x y (inl e) (inl f) = h.chained i x y e f
      chained i x y (inl e) (inr q) =
          let a : suc i ≡ length all = q.0 in
          let b = size in
          let n : i ≡ length os = omega arith in
          by (get_pushed os o i x e) n ∙ ap (λ z. Some (name_of store z)) q.1
        where
          by : (slice_get os i ≡ Some x) ⊎ ((i ≡ length os) × (o ≡ x)) → i ≡ length os → next_of dom plan store x ≡ Some (name_of store u)
          by (inr p) n = ap (next_of dom plan store) (sym p.1) ∙ next
          by (inl e) n = absurd (let w : i < length os = slice_get_within os i x e in omega arith)

  stacked_with_names : (ts : List Target) (old new : Store S) (w : Walk) (os : List Open) → Grows old new → IsPlaced dom plan ts old w → AreStacked dom plan old (place_of ts old w) os → AreStacked dom plan new (place_of ts new w) os
  stacked_with_names ts old new w os grows placed h = record {
    opens = λ i o e. open_grows dom plan old new grows o (h.opens i o e);
    bottom = λ o e. ap law.asks (place_stays dom plan ts old new grows w placed.path) ∙ h.bottom o e ∙ ap Some (sym (name_stays old new grows.paths o (h.opens 0 o e).path));
    chained = λ i o u e f. next_grows dom plan old new grows o (h.opens i o e) ∙ h.chained i o u e f ∙ ap Some (sym (name_stays old new grows.paths u (h.opens (suc i) u f).path));
  }

  -- a name that has one input more found is the same name
  handed_names : (store : Store S) (cell : ℕ) (os us : List Open) → HandsDown cell os us → stacked_names store us ≡ stacked_names store os
  handed_names store cell os us (inl same) = ap (stacked_names store) same
  handed_names store cell os us (inr h) =
      ap (stacked_names store) h.3
      ∙ (map-append (name_of store) h.0 (record h.1 { inputs = h.1.inputs ++ cell ∷ [] } ∷ [])
      ∙ (sym (map-append (name_of store) h.0 (h.1 ∷ [])) ∙ ap (stacked_names store) (sym h.2)))

  module _ (ts : List Target) where
    -- a walk with another stack
    pub good_with : (store : Store S) (w new : Walk) → new ≡ record w { stack = new.stack } → IsPlaced dom plan ts store w → AreStacked dom plan store (place_of ts store w) new.stack.items → IsGood dom plan ts store new
    good_with store w new on placed stacked =
        let target : new.target ≡ w.target = ap (λ (v : Walk). v.target) on in
        let step : new.step ≡ w.step = ap (λ (v : Walk). v.step) on in
        let path : new.path ≡ w.path = ap (λ (v : Walk). v.path) on in
        let found : new.found.items ≡ w.found.items = ap (λ (v : Walk). v.found.items) on in
        record {
          placed = placed_same dom plan ts store w new target step path found placed;
          stacked = subst (λ k. AreStacked dom plan store k new.stack.items) (sym (place_same dom plan ts store w new target step path)) stacked;
        }

    -- In a turn the name on top of others is looked at in a store with more names.
    module _ (old mid : Store S) (w : Walk) (os : List Open) (top : Open) (right : IsRight dom plan old) (later : IsRight dom plan mid) (names : Names old mid) (placed : IsPlaced dom plan ts old w) (stacked : AreStacked dom plan old (place_of ts old w) (os ++ top ∷ [])) where
      abbrev grows : Grows old mid
      grows = names_grow old mid names

      placed_mid : IsPlaced dom plan ts mid w
      placed_mid = placed_grows dom plan ts old mid w later grows placed

      stacked_mid : AreStacked dom plan mid (place_of ts mid w) (os ++ top ∷ [])
      stacked_mid = stacked_with_names ts old mid w (os ++ top ∷ []) grows placed stacked

      top_open : IsOpen dom plan old top
      top_open = open_at_end old (place_of ts old w) os top stacked

      stacked_rest : AreStacked dom plan mid (place_of ts mid w) os
      stacked_rest = stacked_front dom plan mid (place_of ts mid w) (os ++ top ∷ []) os (length os) (sym (take_start os (top ∷ []))) stacked_mid

      -- without the top
      pub good_rest : (new : Walk) → new ≡ record w { stack = new.stack } → new.stack.items ≡ os → IsGood dom plan ts mid new
      good_rest new on stack = good_with mid w new on placed_mid (subst (AreStacked dom plan mid (place_of ts mid w)) (sym stack) stacked_rest)

      within : (i : ℕ) (o : Open) → slice_get os i ≡ Some o → o.name.path < length old.names.paths
      within i o e = (stacked.opens i o (get_front os (top ∷ []) i o e)).path

      rest_names : (new : Store S) → Grows old new → stacked_names new os ≡ stacked_names old os
      rest_names new more = names_stay old new more os within

      module _ (entry : Open) (stays : StaysOpen dom plan mid top entry) where
        pub same_name_mid : name_of mid entry ≡ name_of old top
        same_name_mid = ap (λ (n : _). name_of mid (record top { name = n })) stays.name ∙ name_stays old mid grows.paths top top_open.path

        same_top : name_of mid entry ≡ name_of mid top
        same_top = ap (λ (n : _). name_of mid (record top { name = n })) stays.name

        stacked_entry : AreStacked dom plan mid (place_of ts mid w) (os ++ entry ∷ [])
        stacked_entry = stacked_again mid (place_of ts mid w) os top entry same_top stays.entry stacked_mid

        -- with it
        pub good_entry : (new : Walk) → new ≡ record w { stack = new.stack } → new.stack.items ≡ os ++ entry ∷ [] → IsGood dom plan ts mid new
        good_entry new on stack = good_with mid w new on placed_mid (subst (AreStacked dom plan mid (place_of ts mid w)) (sym stack) stacked_entry)

        pub entry_names : stacked_names mid (os ++ entry ∷ []) ≡ stacked_names old (os ++ top ∷ [])
        entry_names =
            map-append (name_of mid) os (entry ∷ [])
            ∙ (ap (λ xs. xs ++ name_of mid entry ∷ []) (rest_names mid grows)
            ∙ (ap (λ x. stacked_names old os ++ x ∷ []) same_name_mid ∙ sym (map-append (name_of old) os (top ∷ []))))

        split : stacked_names old (os ++ top ∷ []) ≡ stacked_names old os ++ name_of old top ∷ []
        split = map-append (name_of old) os (top ∷ [])

        ready_mid : next_of dom plan mid entry ≡ None → AreKept mid (inputs dom plan (name_of old top))
        ready_mid none = subst (λ x. AreKept mid (inputs dom plan x)) same_name_mid (open_ready dom plan mid later entry stays.entry none)

        -- it waits
        pub waits_top : (new : Walk) → next_of dom plan mid entry ≡ None → new.stack.items ≡ os ++ entry ∷ [] → Waits dom plan ts old mid (stacked_names old (os ++ top ∷ [])) new
        waits_top new none stack = record {
          rest = stacked_names old os;
          top = name_of old top;
          names = ap (stacked_names mid) stack ∙ entry_names;
          split = split;
          ready = ready_mid none;
          only = names;
        }

        -- it is filled and handed down
        pub good_handed : (new : Store S) (after : Walk) → after ≡ record w { stack = after.stack } → Puts dom plan mid new (name_of mid entry) → HandsDown entry.cell os after.stack.items → IsGood dom plan ts new after
        good_handed new after on puts hands = good_with new w after on (placed_grows dom plan ts mid new w puts.right puts.grows placed_mid) (by hands)
          where
            stacked_new : AreStacked dom plan new (place_of ts new w) os
            stacked_new = stacked_with_names ts mid new w os puts.grows placed_mid stacked_rest

            number : slice_get new.names.names entry.cell ≡ Some (name_of mid entry)
            number = puts.grows.names entry.cell (name_of mid entry) stays.entry.number

            there : IsSome (get new.graph.cells entry.cell)
            there =
                ap is_some (sym (filled_number new.graph.cells new.names.names puts.right.once (name_of mid entry) entry.cell number))
                ∙ (puts.adds (name_of mid entry) ∙ (ap (λ b. kept mid (name_of mid entry) || b) (same_is.same_refl (name_of mid entry)) ∙ or-true (kept mid (name_of mid entry))))

            longer : (rest : List Open) (o : Open) → os ≡ rest ++ o ∷ [] → AreStacked dom plan new (place_of ts new w) (rest ++ record o { inputs = o.inputs ++ entry.cell ∷ [] } ∷ [])
            longer rest o os_is =
                let below : AreStacked dom plan new (place_of ts new w) (rest ++ o ∷ []) = subst (AreStacked dom plan new (place_of ts new w)) os_is stacked_new in
                let opened = open_at_end new (place_of ts new w) rest o below in
                let all : os ++ top ∷ [] ≡ (rest ++ o ∷ []) ++ top ∷ [] = ap (λ xs. xs ++ top ∷ []) os_is in
                let here : slice_get (os ++ top ∷ []) (length rest) ≡ Some o = ap (λ xs. slice_get xs (length rest)) all ∙ get_front (rest ++ o ∷ []) (top ∷ []) (length rest) o (get_last rest o) in
                let long : length (rest ++ o ∷ []) ≡ suc (length rest) = length-append rest (o ∷ []) ∙ (let e : length rest + 1 ≡ suc (length rest) = omega arith in e) in
                let last : slice_get (os ++ top ∷ []) (suc (length rest)) ≡ Some top = ap (slice_get (os ++ top ∷ [])) (sym long) ∙ (ap (λ xs. slice_get xs (length (rest ++ o ∷ []))) all ∙ get_last (rest ++ o ∷ []) top) in
                let next : next_of dom plan new o ≡ Some (name_of mid entry) =
                next_grows dom plan mid new puts.grows o (stacked_mid.opens (length rest) o here)
                ∙ (stacked_mid.chained (length rest) o top here last ∙ ap Some (sym same_top)) in
                stacked_again new (place_of ts new w) rest o (record o { inputs = o.inputs ++ entry.cell ∷ [] }) refl (open_longer dom plan new o (name_of mid entry) entry.cell opened next number there) below

            by : HandsDown entry.cell os after.stack.items → AreStacked dom plan new (place_of ts new w) after.stack.items
            by (inl same) = subst (AreStacked dom plan new (place_of ts new w)) (sym same) stacked_new
            by (inr h) = subst (AreStacked dom plan new (place_of ts new w)) (sym h.3) (longer h.0 h.1 h.2)

        pub fills_top : (new : Store S) (after : Walk) → next_of dom plan mid entry ≡ None → HandsDown entry.cell os after.stack.items → Puts dom plan mid new (name_of mid entry) → FillsTop dom plan ts old new (stacked_names old (os ++ top ∷ [])) after
        fills_top new after none hands puts = record {
          top = name_of old top;
          names = split ∙ ap (λ xs. xs ++ name_of old top ∷ []) (sym (handed_names new entry.cell os after.stack.items hands ∙ rest_names new (grows_trans old mid new grows puts.grows)));
          ready = λ x m. sym (same x) ∙ ready_mid none x m;
          puts = record {
            right = puts.right;
            grows = grows_trans old mid new grows puts.grows;
            adds = λ y. puts.adds y ∙ (ap (λ b. b || same_name y (name_of mid entry)) (same y) ∙ ap (λ x. kept old y || same_name y x) same_name_mid);
            count = puts.count ∙ ap (λ g. suc (len g.cells)) names.graph;
            few = few_trans old mid new 0 1 (names_few old mid names) puts.few;
          };
        }
          where
            same : (x : CellName) → kept mid x ≡ kept old x
            same = kept_same dom plan old mid right names later.once

        pub absent_mid : kept old (name_of old top) ≡ false → kept mid (name_of mid entry) ≡ false
        absent_mid h = ap (kept mid) same_name_mid ∙ (kept_same dom plan old mid right names later.once (name_of old top) ∙ h)

      module _ (entry u : Open) (stays : StaysOpen dom plan mid top entry) (next : IsNext dom plan mid entry (Some u)) where
        -- its next input is pushed on it
        pub good_pushed : (new : Walk) → new ≡ record w { stack = new.stack } → new.stack.items ≡ (os ++ entry ∷ []) ++ u ∷ [] → IsGood dom plan ts mid new
        good_pushed new on stack =
            good_with mid w new on placed_mid (
            subst (AreStacked dom plan mid (place_of ts mid w)) (sym stack) (stacked_push mid (place_of ts mid w) os entry u next.1 next.0 (stacked_entry entry stays))
            )

        pub pushes_top : (new : Walk) → new.stack.items ≡ (os ++ entry ∷ []) ++ u ∷ [] → Pushes old mid (stacked_names old (os ++ top ∷ [])) new
        pushes_top new stack = record {
          top = name_of mid u;
          names = ap (stacked_names mid) stack ∙ (map-append (name_of mid) (os ++ entry ∷ []) (u ∷ []) ∙ ap (λ xs. xs ++ name_of mid u ∷ []) (entry_names entry stays));
          absent = next.2;
          only = names;
        }
