-- What is known at a location under a chain is the pair of what the parts know there.
use Rattle.std.specs.Prelude.{◌≡◌, ℕ, ◌==◌, ℤ, List, [], ◌∷◌, reverse, Option, Some, None, true, false, if◌then◌else◌}
use Rattle.std.specs.Str.{bytes_eq}
use Rattle.std.proofs.Common.{refl, sym, subst}
use Rattle.imp_syntax.specs.declared.edit.Location.{Location}
use Rattle.imp_syntax.specs.declared.edit.Location.TheVariants.{Before, After, Head, End}
use Rattle.imp_slots.specs.Plain.{DoBreak, Does, Invoke, Code, Stop, Simple, If, While, Call, Break, Routine}
use Rattle.imp_chains.specs.Thresholds.{thresholds}
use Rattle.domain_laws.specs.Operations.{Operations}
use Rattle.dom_product_meaning.specs.Product.{product}
use Rattle.batch_meaning.specs.Values.{Value, lift}
use Rattle.batch_meaning.specs.Batch.{LoopOptions, Fixed}
use Rattle.batch_meaning.specs.Places.{Spot, if_some, find, head_value, from, earlier_of, spots, spots_in, end_of, value_in, entered, entry, value_at}
use Rattle.batch_product.proofs.Lists.{InTurn, turn_both, WhereThere, there_then, chosen}
use Rattle.batch_product.proofs.Values.{IsPair, pair_lift, pair_lift2}
use Rattle.batch_product.proofs.Rounds.{Decides}
use Rattle.batch_product.proofs.Blocks.{CallsPair, pair_assume, pair_join, pair_head, pair_behind, pair_block, pair_calls}

module _ {S T : Type 0} where
  abbrev pub IsPairFixed : Fixed S → Fixed T → Fixed (S × T) → Type 0
  IsPairFixed x y p = IsPair x.value y.value p.value

  -- the same call, and pairs of values
  pub record PairSpot (x : Spot S) (y : Spot T) (p : Spot (S × T)) : Type 0 where
    pub before : IsPair x.before y.before p.before
    pub head : WhereThere IsPairFixed x.head y.head p.head
    pub after : IsPair x.after y.after p.after
    pub second_call : y.call ≡ x.call
    pub whole_call : p.call ≡ x.call

  -- under the same number
  abbrev pub PairEntry : ℕ × Spot S → ℕ × Spot T → ℕ × Spot (S × T) → Type 0
  PairEntry x y p = (y.0 ≡ x.0) × (p.0 ≡ x.0) × PairSpot x.1 y.1 p.1

  abbrev pub PairSpots : List (ℕ × Spot S) → List (ℕ × Spot T) → List (ℕ × Spot (S × T)) → Type 0
  PairSpots = InTurn PairEntry

  pub pair_find : (n : ℕ) (xs : List (ℕ × Spot S)) (ys : List (ℕ × Spot T)) (ps : List (ℕ × Spot (S × T))) → PairSpots xs ys ps → WhereThere PairSpot (find n xs) (find n ys) (find n ps)
  pair_find n [] [] [] h = tt
  pair_find n [] [] (p ∷ ps) h = absurd h
  pair_find n [] (y ∷ ys) ps h = absurd h
  pair_find n (x ∷ xs) [] ps h = absurd h
  pair_find n (x ∷ xs) (y ∷ ys) [] h = absurd h
  pair_find n (x ∷ xs) (y ∷ ys) (p ∷ ps) h =
      subst (λ m. WhereThere PairSpot (find n (x ∷ xs)) (if n == m then Some y.1 else find n ys) (find n (p ∷ ps))) (sym h.0.0)
      (subst (λ m. WhereThere PairSpot (find n (x ∷ xs)) (if n == x.0 then Some y.1 else find n ys) (if n == m then Some p.1 else find n ps)) (sym h.0.1)
      (chosen (WhereThere PairSpot) (n == x.0) _ _ _ _ _ _ h.0.2 (pair_find n xs ys ps h.1)))

  -- the same procedures, and pairs of values before the last one's body
  abbrev pub PairEntered : List Routine × Value S → List Routine × Value T → List Routine × Value (S × T) → Type 0
  PairEntered x y p = (y.0 ≡ x.0) × (p.0 ≡ x.0) × IsPair x.1 y.1 p.1

-- the procedures and the value that a call enters with, if it is one
abbrev callee : {S : Type 0} → Operations S → List Routine → Value S → Option (Invoke × ℕ) → Option (List Routine × Value S)
callee dom rs v c = if_some c (λ k. Some (from (earlier_of rs) k.1, lift (dom.enter k.0.entering) v))

module _ {S T : Type 0} (a : Operations S) (b : Operations T) (da : Decides a) (db : Decides b) (engine : LoopOptions) (at_once : engine.widening.delay ≡ 0) where
  module _ (ms : List ℤ) (z : List ℕ) (ca : (n q : ℕ) → Value S → Value S) (cb : (n q : ℕ) → Value T → Value T) (cp : (n q : ℕ) → Value (S × T) → Value (S × T)) (calls : CallsPair a b da db engine at_once ca cb cp) where
    abbrev SpotsPair : Code → Type 0
    SpotsPair c = (v : Value S) (w : Value T) (u : Value (S × T)) → IsPair v w u → PairSpots (spots a engine ms z ca c v) (spots b engine ms z cb c w) (spots (product a b) engine ms z cp c u)

    -- a statement that is no loop
    plain : (n : ℕ) (v : Value S) (w : Value T) (u : Value (S × T)) (x : Value S) (y : Value T) (p : Value (S × T)) (c : Option (Invoke × ℕ)) → IsPair v w u → IsPair x y p →
        PairEntry (n, record { before = v; head = None; after = x; call = c }) (n, record { before = w; head = None; after = y; call = c }) (n, record { before = u; head = None; after = p; call = c })
    plain n v w u x y p c k j = (refl, refl, record { before = k; head = tt; after = j; second_call = refl; whole_call = refl })

    pub pair_spots : (c : Code) → SpotsPair c
    pair_spots Stop v w u k = tt
    pair_spots (Simple n e r) v w u k =
        let j = pair_lift (a.post (Does e)) (b.post (Does e)) v w u k in
        (plain n v w u _ _ _ None k j, pair_spots r _ _ _ j)
    pair_spots (If n g t e r) v w u k =
        let kt = pair_assume a b da db engine at_once g true v w u k in
        let ke = pair_assume a b da db engine at_once g false v w u k in
        let x = pair_block a b da db engine at_once ms z ca cb cp calls t _ _ _ kt in
        let y = pair_block a b da db engine at_once ms z ca cb cp calls e _ _ _ ke in
        let j = pair_join a b da db engine at_once _ _ _ _ _ _ x.value y.value in
        (plain n v w u _ _ _ None k j, turn_both PairEntry _ _ _ _ _ _ (pair_spots t _ _ _ kt) (turn_both PairEntry _ _ _ _ _ _ (pair_spots e _ _ _ ke) (pair_spots r _ _ _ j)))
    pair_spots (While n g c r) v w u k =
        let body = pair_block a b da db engine at_once ms z ca cb cp calls c in
        let head = pair_head a b da db engine at_once ms z ca cb cp calls n g c body v w u k in
        let j = pair_behind a b da db engine at_once ms z ca cb cp calls g c body _ _ _ head in (
          (refl, refl, record { before = k; head = head; after = j; second_call = refl; whole_call = refl }),
          turn_both PairEntry _ _ _ _ _ _ (pair_spots c _ _ _ (pair_assume a b da db engine at_once g true _ _ _ head)) (pair_spots r _ _ _ j),
        )
    pair_spots (Call n i q r) v w u k =
        let done = calls n q _ _ _ (pair_lift (a.enter i.entering) (b.enter i.entering) v w u k) in
        let j = pair_lift2 (a.leave i.returning) (b.leave i.returning) v w u _ _ _ k done in
        (plain n v w u _ _ _ (Some (i, q)) k j, pair_spots r _ _ _ j)
    pair_spots (Break n r) v w u k =
        let j = pair_lift (a.post DoBreak) (b.post DoBreak) v w u k in
        (plain n v w u _ _ _ None k j, pair_spots r _ _ _ j)

  pair_spots_in : (rs : List Routine) (z : List ℕ) (v : Value S) (w : Value T) (u : Value (S × T)) → IsPair v w u → PairSpots (spots_in a engine rs z v) (spots_in b engine rs z w) (spots_in (product a b) engine rs z u)
  pair_spots_in [] z v w u k = tt
  pair_spots_in (r ∷ earlier) z v w u k = pair_spots (thresholds engine.widening r) z _ _ _ (pair_calls a b da db engine at_once earlier z) r.code v w u k

  pair_end : (rs : List Routine) (z : List ℕ) (v : Value S) (w : Value T) (u : Value (S × T)) (name : List ℕ) → IsPair v w u → WhereThere IsPair (end_of a engine rs z v name) (end_of b engine rs z w name) (end_of (product a b) engine rs z u name)
  pair_end [] z v w u name k = tt
  pair_end (r ∷ earlier) z v w u name k =
      chosen (WhereThere IsPair) (bytes_eq name r.name) _ None _ None _ None
      (pair_block a b da db engine at_once (thresholds engine.widening r) z _ _ _ (pair_calls a b da db engine at_once earlier z) r.code v w u k).value tt

  pair_found : (rs : List Routine) (z : List ℕ) (n : ℕ) (v : Value S) (w : Value T) (u : Value (S × T)) → IsPair v w u → WhereThere PairSpot (find n (spots_in a engine rs z v)) (find n (spots_in b engine rs z w)) (find n (spots_in (product a b) engine rs z u))
  pair_found rs z n v w u k = pair_find n _ _ _ (pair_spots_in rs z v w u k)

  pair_head_value : (x : Spot S) (y : Spot T) (p : Spot (S × T)) → PairSpot x y p → WhereThere IsPair (head_value x) (head_value y) (head_value p)
  pair_head_value x y p h = there_then IsPairFixed IsPair (λ j. Some j.value) (λ j. Some j.value) (λ j. Some j.value) x.head y.head p.head (λ i j k e. e) h.head

  pair_value_in : (rs : List Routine) (z : List ℕ) (v : Value S) (w : Value T) (u : Value (S × T)) → IsPair v w u → (l : Location) → WhereThere IsPair (value_in a engine rs z v l) (value_in b engine rs z w l) (value_in (product a b) engine rs z u l)
  pair_value_in rs z v w u k (Before n) = there_then PairSpot IsPair _ _ _ _ _ _ (λ x y p h. h.before) (pair_found rs z n v w u k)
  pair_value_in rs z v w u k (After n) = there_then PairSpot IsPair _ _ _ _ _ _ (λ x y p h. h.after) (pair_found rs z n v w u k)
  pair_value_in rs z v w u k (Head n) = there_then PairSpot IsPair _ _ _ _ _ _ pair_head_value (pair_found rs z n v w u k)
  pair_value_in rs z v w u k (End name) = pair_end rs z v w u name k

  -- into the callee of a statement
  called : (rs : List Routine) (x : Spot S) (y : Spot T) (p : Spot (S × T)) → PairSpot x y p →
      WhereThere PairEntered (callee a rs x.before x.call) (callee b rs y.before y.call) (callee (product a b) rs p.before p.call)
  called rs x y p h =
      subst (λ c. WhereThere PairEntered (callee a rs x.before x.call) (callee b rs y.before c) (callee (product a b) rs p.before p.call)) (sym h.second_call)
      (subst (λ c. WhereThere PairEntered (callee a rs x.before x.call) (callee b rs y.before x.call) (callee (product a b) rs p.before c)) (sym h.whole_call) (by x.call))
    where
      by : (c : Option (Invoke × ℕ)) → WhereThere PairEntered (callee a rs x.before c) (callee b rs y.before c) (callee (product a b) rs p.before c)
      by None = tt
      by (Some k) = (refl, refl, pair_lift (a.enter k.0.entering) (b.enter k.0.entering) x.before y.before p.before h.before)

  pair_entered : (n : ℕ) (z : List ℕ) (x : List Routine × Value S) (y : List Routine × Value T) (p : List Routine × Value (S × T)) → PairEntered x y p → WhereThere PairEntered (entered a engine n z x) (entered b engine n z y) (entered (product a b) engine n z p)
  pair_entered n z x y p h =
      subst (λ rs. WhereThere PairEntered (entered a engine n z x) (entered b engine n z (rs, y.1)) (entered (product a b) engine n z p)) (sym h.0)
      (subst (λ rs. WhereThere PairEntered (entered a engine n z x) (entered b engine n z (x.0, y.1)) (entered (product a b) engine n z (rs, p.1))) (sym h.1)
      (there_then PairSpot PairEntered _ _ _ _ _ _ (called x.0) (pair_found x.0 z n x.1 y.1 p.1 h.2)))

  pair_entry : (rs : List Routine) (z : List ℕ) → WhereThere PairEntered (entry a engine rs z) (entry b engine rs z) (entry (product a b) engine rs z)
  pair_entry rs [] = (refl, refl, refl)
  pair_entry rs (n ∷ z) = there_then PairEntered PairEntered _ _ _ _ _ _ (pair_entered n z) (pair_entry rs z)

  pub pair_value : (program : List Routine) (l : Location) (z : List ℕ) → WhereThere IsPair (value_at a engine program l z) (value_at b engine program l z) (value_at (product a b) engine program l z)
  pair_value program l z = there_then PairEntered IsPair _ _ _ _ _ _ there (pair_entry (reverse program) z)
    where
      there : (x : List Routine × Value S) (y : List Routine × Value T) (p : List Routine × Value (S × T)) → PairEntered x y p → WhereThere IsPair (value_in a engine x.0 z x.1 l) (value_in b engine y.0 z y.1 l) (value_in (product a b) engine p.0 z p.1 l)
      there x y p h =
          subst (λ rs. WhereThere IsPair (value_in a engine x.0 z x.1 l) (value_in b engine rs z y.1 l) (value_in (product a b) engine p.0 z p.1 l)) (sym h.0)
          (subst (λ rs. WhereThere IsPair (value_in a engine x.0 z x.1 l) (value_in b engine x.0 z y.1 l) (value_in (product a b) engine rs z p.1 l)) (sym h.1) (pair_value_in x.0 z x.1 y.1 p.1 h.2 l))
