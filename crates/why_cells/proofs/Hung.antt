-- What cells tell of the statements that their names hang on.
use Rattle.std.proofs.Common.{◌≡◌, ◌↔◌, ◌⊎◌, ℕ, suc, ◌≤◌, ◌+◌, List, [], ◌∷◌, ◌++◌, take, length, map, reverse, Option, Some, None, IsSome, Bool, true, false, not, if◌then◌else◌, slice_get, Contains, inl, inr, refl, sym, ap, subst, ◌∙◌, append_assoc, append-nil, take_all, take-take, arith}
use Rattle.std.specs.FinMap.{get}
use Rattle.std.proofs.lemmas.Bool.{cases_eq}
use Rattle.std.proofs.lemmas.Option.{slice_get-get_or, slice_get_within, same_Some}
use Rattle.imp_slots.specs.Plain.{Effect, DoBreak, Does}
use Rattle.base_values.proofs.Lists.{take_item}
use Rattle.base_values.proofs.Members.{Member, here, in_left, in_right, either, contains_of, member_of}
use Rattle.base_sets.proofs.Rising.{cases}
use Rattle.base_sets.specs.Sets.{Puts}
use Rattle.domain_laws.specs.Operations.{Operations}
use Rattle.batch_meaning.specs.Values as plain
use Rattle.daig_demands.specs.Stops.{state_of}
use Rattle.cell_names.specs.Paths.{CellName}
use Rattle.cell_rows.specs.Cells.{Cell}
use Rattle.cell_rows.specs.Rows.{Posts, Assumes, Enters, Exits, Row, Init, One, Two, Fixed, Joins}
use Rattle.cell_rows.specs.Flat.{flat_row}
use Rattle.imp_flow.specs.Plans.{Plan}
use Rattle.cell_graph.specs.Asked.{inputs}
use Rattle.cell_graph.specs.Named.{AreNumbers}
use Rattle.cell_graph.specs.Same.{same_name}
use Rattle.cell_graph.proofs.Numbers.{numbers_get, numbers_length, numbers_of}
use Rattle.daig_query.specs.declared.store.Store.{Store}
use Rattle.daig_query.specs.Answered.{value_in}
use Rattle.daig_query.specs.Right.{found, IsRight}
use Rattle.daig_query.proofs.Found.{stored, is_there}
use Rattle.daig_query.proofs.Reading.{value_of}
use Rattle.why_slice.specs.Upstream.{all_hung, hung_on, is_live, listed, matters, statement_of_name}
use Rattle.why_slice.proofs.Staying.{input_alone, input_none}
use Rattle.why_cells.specs.Told.{hangs, is_effect, IsCellAt, SameItems, Takes}

-- lists with an item more, or none
pub record Grows (old new : List ℕ) (o : Option ℕ) : Type 0 where
  pub is : (m : ℕ) → Contains new m ↔ (Contains old m ⊎ (o ≡ Some m))

pub grows_put : (old new : List ℕ) (o : Option ℕ) (k : ℕ) → o ≡ Some k → Puts old new k → Grows old new o
grows_put old new o k e p = record { is = λ m. (λ c. into m c, λ h. from m h) }
  where
    into : (m : ℕ) → Contains new m → Contains old m ⊎ (o ≡ Some m)
    into m c = elim (cases_eq m k) [ inl q ↦ inr (e ∙ ap Some (sym q)) | inr d ↦ inl ((p.others m d).0 c) ]

    from : (m : ℕ) → Contains old m ⊎ (o ≡ Some m) → Contains new m
    from m (inl c) = elim (cases_eq m k) [ inl q ↦ subst (Contains new) (sym q) p.here | inr d ↦ (p.others m d).1 c ]
    from m (inr q) = subst (Contains new) (same_Some k m (sym e ∙ q)) p.here

pub grows_none : (old new : List ℕ) (o : Option ℕ) → ((n : ℕ) → o ≡ Some n → ⊥) → new ≡ old → Grows old new o
grows_none old new o f e = subst (λ xs. Grows old xs o) (sym e) (record { is = λ m. (λ c. inl c, λ h. elim h [ inl c ↦ c | inr q ↦ absurd (f m q) ]) })

-- the names of the cells in front
numbers_front : (names : List CellName) (cells new : List ℕ) (xs : List CellName) → ((j n : ℕ) → slice_get cells j ≡ Some n → slice_get new j ≡ Some n) → AreNumbers names new xs → AreNumbers names cells (take (length cells) xs)
numbers_front names [] new xs keeps a = refl
numbers_front names (c ∷ cells) [] xs keeps a = let e = keeps 0 c refl in absurd cc
numbers_front names (c ∷ cells) (m ∷ ns) [] keeps a = absurd cc
numbers_front names (c ∷ cells) (m ∷ ns) (x ∷ xs) keeps a =
    let same : m ≡ c = same_Some m c (keeps 0 c refl) in
    let first : slice_get names m ≡ Some x = cc in
    let rest : AreNumbers names ns xs = cc in
    ap (λ o. o ∷ map (slice_get names) cells) (subst (λ k. slice_get names k ≡ Some x) same first) ∙ ap (λ os. Some x ∷ os) (numbers_front names cells ns xs (λ j n e. keeps (suc j) n e) rest)

-- old items, and those that are told of another name
pub takes : (told new more : List ℕ) (o : Option ℕ) → Grows told new o → ((n : ℕ) → o ≡ Some n → Contains more n) → ((n : ℕ) → Contains more n → (o ≡ Some n) ⊎ Contains told n) → Takes told more new
takes told new more o g only each n = (
  λ c. elim ((g.is n).0 c) [ inl a ↦ inl a | inr e ↦ inr (only n e) ],
  λ h. (g.is n).1 (elim h [ inl a ↦ inl a | inr m ↦ elim (each n m) [ inl e ↦ inr e | inr c ↦ inl c ] ]),
)

module _ {S : Type 0} (dom : Operations S) where
  pub live_some : (v : plain.Value S) (s : S) → state_of v ≡ Some s → is_live dom v ≡ not (dom.dead s)
  live_some (plain.State t) s e = ap (λ s. not (dom.dead s)) (same_Some t s e)
  live_some (plain.Over n z) s e = absurd cc

  pub live_none : (v : plain.Value S) → state_of v ≡ None → is_live dom v ≡ false
  live_none (plain.State t) e = absurd cc
  live_none (plain.Over n z) e = refl

  matters_other : (f : CellName → Cell S) (r : Row) → is_effect r ≡ false → matters dom f r ≡ true
  matters_other f (Init layout) e = refl
  matters_other f (One (Posts DoBreak) a) e = refl
  matters_other f (One (Posts (Does x)) a) e = absurd cc
  matters_other f (One (Assumes guard h) a) e = refl
  matters_other f (One (Enters entering) a) e = refl
  matters_other f (One (Exits guard) a) e = refl
  matters_other f (Two op a b) e = refl
  matters_other f (Fixed n z w p) e = refl
  matters_other f (Joins stays l n w p) e = refl

  effect_of : (r : Row) → is_effect r ≡ true → (x : Effect) × (a : CellName) × (r ≡ One (Posts (Does x)) a)
  effect_of (Init layout) e = absurd cc
  effect_of (One (Posts DoBreak) a) e = absurd cc
  effect_of (One (Posts (Does x)) a) e = (x, a, refl)
  effect_of (One (Assumes guard h) a) e = absurd cc
  effect_of (One (Enters entering) a) e = absurd cc
  effect_of (One (Exits guard) a) e = absurd cc
  effect_of (Two op a b) e = absurd cc
  effect_of (Fixed n z w p) e = absurd cc
  effect_of (Joins stays l n w p) e = absurd cc

  module _ (plan : Plan) (store : Store S) (right : IsRight dom plan store) where
    inputs_are : (x a : CellName) (e : Effect) → flat_row plan.engine (reverse plan.program) x.path x.point ≡ Some (One (Posts (Does e)) a) → inputs dom plan x ≡ a ∷ []
    unfolding inputs
    inputs_are x a e h = input_alone dom plan.engine plan.program same_name x a e h

    no_inputs : (x : CellName) → flat_row plan.engine (reverse plan.program) x.path x.point ≡ None → inputs dom plan x ≡ []
    unfolding inputs
    no_inputs x h = input_none dom plan.engine plan.program same_name x h

    -- a cell holds a value
    pub holds_value : (n : ℕ) → IsSome (get store.graph.cells n) → (v : plain.Value S) × (value_in store n ≡ Some v)
    holds_value n there =
        let f = is_there dom plan store right n there in
        let x = right.cells n f.0 f.1 in
        ((found dom plan x.0).value, value_of dom plan store right n x.0 f.0 x.1 f.1)

    -- the inputs of a cell have the numbers of its name's inputs
    named_inputs : (cell : ℕ) (x : CellName) (ns : List ℕ) → IsCellAt store cell x ns → AreNumbers store.names.names ns (inputs dom plan x)
    named_inputs cell x ns c = subst (λ ks. AreNumbers store.names.names ks (inputs dom plan x)) c.cell.2 (stored dom plan store right cell x c.cell.0 c.named c.cell.1).inputs

    -- a cell of a name without a row has no input
    pub row_there : (cell n : ℕ) (x : CellName) (ns : List ℕ) → IsCellAt store cell x ns → flat_row plan.engine (reverse plan.program) x.path x.point ≡ None → slice_get ns 0 ≡ Some n → ⊥
    row_there cell n x ns c row first =
        let are : AreNumbers store.names.names ns [] = subst (AreNumbers store.names.names ns) (no_inputs x row) (named_inputs cell x ns c) in
        let p = numbers_get store.names.names ns [] are 0 n first in
        let q = p.1 in
        cc

    -- the one input of a cell after a simple statement
    effect_input : (cell : ℕ) (x : CellName) (r : Row) (ns : List ℕ) → IsCellAt store cell x ns → flat_row plan.engine (reverse plan.program) x.path x.point ≡ Some r → (e : is_effect r ≡ true) →
        (p : ℕ) × (slice_get ns 0 ≡ Some p) × (slice_get store.names.names p ≡ Some (effect_of r e).1)
    effect_input cell x r ns c row effect =
        let e = effect_of r effect in
        let are : AreNumbers store.names.names ns (e.1 ∷ []) = subst (AreNumbers store.names.names ns) (inputs_are x e.1 e.0 (row ∙ ap Some e.2)) (named_inputs cell x ns c) in
        numbers_of store.names.names ns (e.1 ∷ []) are 0 e.1 refl

    -- what a row after a simple statement hangs on: what its first input's cell holds
    pub effect_matters : (cell n : ℕ) (x : CellName) (r : Row) (ns : List ℕ) → IsCellAt store cell x ns → flat_row plan.engine (reverse plan.program) x.path x.point ≡ Some r → is_effect r ≡ true → slice_get ns 0 ≡ Some n → IsSome (get store.graph.cells n) →
        (v : plain.Value S) × (value_in store n ≡ Some v) × (is_live dom v ≡ matters dom (found dom plan) r)
    effect_matters cell n x r ns c row effect first there =
        let e = effect_of r effect in
        let p = effect_input cell x r ns c row effect in
        let same : p.0 ≡ n = same_Some p.0 n (sym p.1 ∙ first) in
        let f = is_there dom plan store right n there in
        let named : slice_get store.names.names n ≡ Some e.1 = subst (λ m. slice_get store.names.names m ≡ Some e.1) same p.2 in (
          (found dom plan e.1).value,
          value_of dom plan store right n e.1 f.0 named f.1,
          sym (ap (matters dom (found dom plan)) e.2),
        )

    pub effect_first : (cell : ℕ) (x : CellName) (r : Row) (ns : List ℕ) → IsCellAt store cell x ns → flat_row plan.engine (reverse plan.program) x.path x.point ≡ Some r → is_effect r ≡ true → slice_get ns 0 ≡ None → ⊥
    effect_first cell x r ns c row effect none =
        let p = effect_input cell x r ns c row effect in
        let q = sym none ∙ p.1 in
        cc

    abbrev hung : CellName → Option Row → List ℕ
    hung = hung_on dom plan.engine plan.program same_name

    -- what a name hangs on, by whether it does
    hung_is : (x : CellName) (o : Option Row) (b : Bool) → hangs dom (found dom plan) o ≡ b → hung x o ≡ (if b then listed (statement_of_name x.path x.point) else [])
    unfolding found
    hung_is x None b e = ap (λ b. if b then listed (statement_of_name x.path x.point) else []) e
    hung_is x (Some r) b e = ap (λ b. if b then listed (statement_of_name x.path x.point) else []) e

    listed_item : (o : Option ℕ) (n : ℕ) → Contains (listed o) n → o ≡ Some n
    listed_item None n c = elim (member_of n [] c) [ ]
    listed_item (Some k) n c = elim (cases n k [] (member_of n (k ∷ []) c)) [ inl e ↦ ap Some (sym e) | inr m ↦ elim m [ ] ]

    pub hung_holds : (x : CellName) (o : Option Row) (n : ℕ) → Contains (hung x o) n → (statement_of_name x.path x.point ≡ Some n) × (hangs dom (found dom plan) o ≡ true)
    hung_holds x o n c = go (hangs dom (found dom plan) o) refl
      where
        go : (b : Bool) → hangs dom (found dom plan) o ≡ b → (statement_of_name x.path x.point ≡ Some n) × (hangs dom (found dom plan) o ≡ true)
        go true e = (listed_item (statement_of_name x.path x.point) n (subst (λ ns. Contains ns n) (hung_is x o true e) c), e)
        go false e = elim (member_of n [] (subst (λ ns. Contains ns n) (hung_is x o false e) c)) [ ]

    pub holds_hung : (x : CellName) (o : Option Row) (n : ℕ) → statement_of_name x.path x.point ≡ Some n → hangs dom (found dom plan) o ≡ true → Contains (hung x o) n
    holds_hung x o n s h =
        subst (λ ns. Contains ns n) (sym (hung_is x o true h ∙ ap listed s)) (contains_of n (n ∷ []) here)

    abbrev row_at : CellName → Option Row
    row_at x = flat_row plan.engine (reverse plan.program) x.path x.point

    -- whether a name hangs on its statement, by whether a live state stands in front
    pub hangs_front : (x : CellName) (b : Bool) → b ≡ true → ((r : Row) → row_at x ≡ Some r → is_effect r ≡ true → b ≡ matters dom (found dom plan) r) → (row_at x ≡ None → b ≡ false) → true ≡ hangs dom (found dom plan) (row_at x)
    hangs_front x b t f g = go (row_at x) refl
      where
        by : (r : Row) → row_at x ≡ Some r → (e : Bool) → is_effect r ≡ e → true ≡ matters dom (found dom plan) r
        by r h true e = sym t ∙ f r h e
        by r h false e = sym (matters_other (found dom plan) r e)

        go : (o : Option Row) → row_at x ≡ o → true ≡ hangs dom (found dom plan) (row_at x)
        go None h = let e = sym t ∙ g h in absurd cc
        go (Some r) h = by r h (is_effect r) refl ∙ sym (ap (hangs dom (found dom plan)) h)

    pub hangs_none : (x : CellName) → None ≡ row_at x → false ≡ hangs dom (found dom plan) (row_at x)
    hangs_none x e = ap (hangs dom (found dom plan)) e

    pub hangs_some : (x : CellName) (r : Row) (b e : Bool) → row_at x ≡ Some r → b ≡ false → (is_effect r ≡ true → b ≡ matters dom (found dom plan) r) → e ≡ is_effect r → not e ≡ hangs dom (found dom plan) (row_at x)
    hangs_some x r b e h t f s = by (is_effect r) refl ∙ sym (ap (hangs dom (found dom plan)) h)
      where
        by : (d : Bool) → is_effect r ≡ d → not e ≡ matters dom (found dom plan) r
        by true k = ap not (s ∙ k) ∙ sym t ∙ f k
        by false k = ap not (s ∙ k) ∙ sym (matters_other (found dom plan) r k)

    -- what is told of a cell, by its name
    pub told_only : (cell : ℕ) (x y : CellName) (o : Option ℕ) (b : Bool) (n : ℕ) → slice_get store.names.names cell ≡ Some y → slice_get store.names.names cell ≡ Some x →
        o ≡ statement_of_name y.path y.point → b ≡ hangs dom (found dom plan) (row_at y) → b ≡ true → o ≡ Some n → Contains (hung x (row_at x)) n
    told_only cell x y o b n at named s h t e =
        subst (λ (z : CellName). Contains (hung z (row_at z)) n) (same_Some y x (sym at ∙ named)) (holds_hung y (row_at y) n (sym s ∙ e) (sym h ∙ t))

    pub told_each : (cell : ℕ) (x y : CellName) (o : Option ℕ) (n : ℕ) → slice_get store.names.names cell ≡ Some y → slice_get store.names.names cell ≡ Some x →
        o ≡ statement_of_name y.path y.point → Contains (hung x (row_at x)) n → (o ≡ Some n) × (hangs dom (found dom plan) (row_at y) ≡ true)
    told_each cell x y o n at named s c =
        let h = hung_holds y (row_at y) n (subst (λ (z : CellName). Contains (hung z (row_at z)) n) (sym (same_Some y x (sym at ∙ named))) c) in
        (s ∙ h.0, h.1)

  -- the statements of the names so far
  all_hung_both : (plan : Plan) (xs ys : List CellName) → all_hung dom plan.engine plan.program same_name (xs ++ ys) ≡ all_hung dom plan.engine plan.program same_name xs ++ all_hung dom plan.engine plan.program same_name ys
  all_hung_both plan [] ys = refl
  all_hung_both plan (x ∷ xs) ys =
      let h = hung_on dom plan.engine plan.program same_name x (flat_row plan.engine (reverse plan.program) x.path x.point) in
      ap (λ ns. h ++ ns) (all_hung_both plan xs ys) ∙ sym (append_assoc h (all_hung dom plan.engine plan.program same_name xs) (all_hung dom plan.engine plan.program same_name ys))

  abbrev pub hung_row : Plan → CellName → List ℕ
  hung_row plan x = hung_on dom plan.engine plan.program same_name x (flat_row plan.engine (reverse plan.program) x.path x.point)

  pub record Hung (plan : Plan) (names : List CellName) (cells : List ℕ) (i : ℕ) (told : List ℕ) : Type 0 where
    pub are : (xs : List CellName) → AreNumbers names cells xs → SameItems told (all_hung dom plan.engine plan.program same_name (take i xs))

  pub hung_first : (plan : Plan) (names : List CellName) (cells told : List ℕ) → told ≡ [] → Hung plan names cells 0 told
  hung_first plan names cells told e = record {
    are = λ xs a n. (λ c. subst (λ xs. Contains xs n) e c, λ c. subst (λ xs. Contains xs n) (sym e) c);
  }

  -- the same items as those of some names, and those of another name
  same_more : (told new front more : List ℕ) → Takes told more new → SameItems told front → SameItems new (front ++ more)
  same_more told new front more t h n = (λ c. into ((t n).0 c), λ c. from (either n front more (member_of n (front ++ more) c)))
    where
      into : Contains told n ⊎ Contains more n → Contains (front ++ more) n
      into (inl c) = contains_of n (front ++ more) (in_left more (member_of n front ((h n).0 c)))
      into (inr c) = contains_of n (front ++ more) (in_right front (member_of n more c))

      from : Member n front ⊎ Member n more → Contains new n
      from (inl m) = (t n).1 (inl ((h n).1 (contains_of n front m)))
      from (inr m) = (t n).1 (inr (contains_of n more m))

  pub hung_next : (plan : Plan) (names : List CellName) (cells told more : List ℕ) (i n : ℕ) → slice_get cells i ≡ Some n → Hung plan names cells i told → ((x : CellName) → slice_get names n ≡ Some x → Takes told (hung_row plan x) more) →
      Hung plan names cells (i + 1) more
  hung_next plan names cells told more i n at h tells = record {
    are = λ xs a.
        let p = numbers_get names cells xs a i n at in
        let l = slice_get_within xs i p.0 p.1 in
        let t : take (i + 1) xs ≡ take i xs ++ p.0 ∷ [] = take_item xs i p.0 l (same_Some _ _ (sym p.1 ∙ slice_get-get_or xs i p.0 l)) in
        let front = all_hung dom plan.engine plan.program same_name (take i xs) in
        subst (SameItems more)
        (ap (λ ns. front ++ ns) (sym (append-nil (hung_row plan p.0))) ∙ sym (ap (all_hung dom plan.engine plan.program same_name) t ∙ all_hung_both plan (take i xs) (p.0 ∷ [])))
        (same_more told more front (hung_row plan p.0) (tells p.0 p.2) (h.are xs a));
  }

  -- cells more, behind those that are there
  pub hung_grows : (plan : Plan) (names : List CellName) (cells new told : List ℕ) (i : ℕ) → i ≤ length cells → ((j n : ℕ) → slice_get cells j ≡ Some n → slice_get new j ≡ Some n) → Hung plan names cells i told → Hung plan names new i told
  hung_grows plan names cells new told i l keeps h = record {
    are = λ xs a.
        subst (λ ys. SameItems told (all_hung dom plan.engine plan.program same_name ys)) (take-take i (length cells) xs l) (h.are (take (length cells) xs) (numbers_front names cells new xs keeps a));
  }

  pub hung_all : (plan : Plan) (names : List CellName) (cells told : List ℕ) (i : ℕ) (xs : List CellName) → length cells ≤ i → Hung plan names cells i told → AreNumbers names cells xs → SameItems told (all_hung dom plan.engine plan.program same_name xs)
  hung_all plan names cells told i xs u h a =
      let e = numbers_length names cells xs a in
      subst (SameItems told) (ap (all_hung dom plan.engine plan.program same_name) (take_all i xs (omega (arith, u, e)))) (h.are xs a)
