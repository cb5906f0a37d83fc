-- Walks over targets: where they stand, and how they go on.
use Rattle.std.proofs.Common.{◌≡◌, ℕ, zero, suc, ◌<◌, ◌||◌, List, [], ◌∷◌, ◌++◌, map, drop, length, Option, Some, None, Bool, true, false, IsSome, slice_get, refl, sym, ap, subst, ◌∙◌, inl, inr, append_assoc, append-nil}
use Rattle.std.specs.Prelude.{is_some}
use Rattle.std.specs.FinMap.{get}
use Rattle.std.proofs.lemmas.Bool.{or_left, or_right, or_cases}
use Rattle.std.proofs.lemmas.List.{map-append}
use Rattle.domain_laws.specs.Operations.{Operations}
use Rattle.batch_meaning.specs.Values as batch
use Rattle.daig_order.specs.Order.{member}
use Rattle.daig_order.proofs.OrderLemmas.{member-append}
use Rattle.cell_names.specs.declared.frame.NameFrame.{NameFrame}
use Rattle.cell_names.specs.declared.frame.NameFrame.TheVariants.{InCall, InLoop}
use Rattle.cell_names.specs.declared.frame.Point.{Point}
use Rattle.cell_names.specs.declared.frame.Point.TheVariants.{Fix}
use Rattle.cell_names.specs.Paths.{CellName}
use Rattle.cell_rows.specs.Claims.{HasName}
use Rattle.cell_rows.specs.Names.{name}
use Rattle.cell_rows.specs.Cells.{Cell}
use Rattle.cell_rows.specs.Targets.{TargetStep, Take, Go, Target, to_point, unless_over, demanded}
use Rattle.daig_demands.specs.Walks.{asks, goes, names_left, values_left}
use Rattle.daig_demands.specs.Walks as law
use Rattle.daig_demands.proofs.Walking.{start_names, start_values, walk_goes}
use Rattle.daig_demands.proofs.Demanded.{demanded_named}
use Rattle.imp_flow.specs.Plans.{Plan}
use Rattle.daig_graph.specs.Cells.{AreCells, Filled}
use Rattle.daig_query.specs.declared.held.Held.{Held}
use Rattle.daig_query.specs.declared.store.Store.{Store}
use Rattle.daig_query.specs.declared.walk.Walk.{Walk}
use Rattle.cell_graph.specs.Same.{same_name}
use Rattle.cell_graph.specs.Named.{filled_at}
use Rattle.daig_query.specs.Kept.{kept, Grows, Lasts}
use Rattle.daig_query.specs.Right.{found, IsRight}
use Rattle.daig_query.specs.Walked.{AreTargets, behind_steps, place_of, Stands, IsPlaced, AreStacked, IsGood, IsDone, fixes, with_fixes, AreAmong}
use Rattle.cell_graph.proofs.Same.{same_is}
use Rattle.daig_query.proofs.Growing.{path_stays, keeps_within, grows_last, cells_last, open_lasts, next_lasts, name_stays}
use Rattle.cell_graph.proofs.Numbers.{filled_number, filled_named, numbers_grow, numbers_push}
use Rattle.std.proofs.lemmas.Option.{same_Some}

-- a name that has a cell keeps one
pub kept_lasts : {S : Type 0} (dom : Operations S) (plan : Plan) (old new : Store S) → IsRight dom plan new → Lasts old new → (x : CellName) → kept old x ≡ true → kept new x ≡ true
kept_lasts dom plan old new right lasts x h = go (filled_at old.graph.cells old.names.names x) refl h
  where
    there : (o : Option (Filled Held)) → IsSome o → is_some o ≡ true
    there None h = absurd cc
    there (Some f) h = refl

    go : (o : Option (Filled Held)) → filled_at old.graph.cells old.names.names x ≡ o → is_some o ≡ true → kept new x ≡ true
    go None e h = absurd cc
    go (Some f) e h =
        let p = filled_named old.graph.cells old.names.names x f e in
        ap is_some (filled_number new.graph.cells new.names.names right.once x p.0 (lasts.names p.0 x p.1))
        ∙ there (get new.graph.cells p.0) (lasts.there p.0 (subst IsSome (sym p.2) refl))

one_member : (x y : CellName) → member same_name (y ∷ []) x ≡ true → x ≡ y
one_member x y h = elim (or_cases (same_name x y) false h) [ inl a ↦ same_is.same_true x y a | inr b ↦ absurd cc ]

-- names among others
among_left : (xs ys : List CellName) → AreAmong xs (xs ++ ys)
among_left xs ys x m = member-append same_name xs ys x ∙ or_left (member same_name xs x) (member same_name ys x) m

among_last : (xs ys : List CellName) → AreAmong ys (xs ++ ys)
among_last xs ys x m = member-append same_name xs ys x ∙ or_right (member same_name xs x) (member same_name ys x) m

among_both : (xs ys zs : List CellName) → AreAmong xs zs → AreAmong ys zs → AreAmong (xs ++ ys) zs
among_both xs ys zs f g x m = elim (or_cases (member same_name xs x) (member same_name ys x) (sym (member-append same_name xs ys x) ∙ m)) [ inl a ↦ f x a | inr b ↦ g x b ]

among_right : (xs us vs : List CellName) → AreAmong xs vs → AreAmong xs (us ++ vs)
among_right xs us vs f x m = among_last us vs x (f x m)

among_on : (xs us vs ws : List CellName) → AreAmong xs (us ++ vs) → AreAmong vs ws → AreAmong xs (us ++ ws)
among_on xs us vs ws f g x m =
    elim (or_cases (member same_name us x) (member same_name vs x) (sym (member-append same_name us vs x) ∙ f x m)) [ inl a ↦ among_left us ws x a | inr b ↦ among_last us ws x (g x b) ]

one_first : (x y : CellName) (ys : List CellName) → member same_name (y ∷ []) x ≡ true → member same_name (y ∷ ys) x ≡ true
one_first x y ys m = or_left (same_name x y) (member same_name ys x) (subst (λ z. same_name x z ≡ true) (one_member x y m) (same_is.same_refl x))

first_or : {P : Type 0} (x y : CellName) (ys : List CellName) → member same_name (y ∷ ys) x ≡ true → (member same_name (y ∷ []) x ≡ true → P) → (member same_name ys x ≡ true → P) → P
first_or x y ys m f g = elim (or_cases (same_name x y) (member same_name ys x) m) [ inl a ↦ f (or_left (same_name x y) false a) | inr b ↦ g b ]

-- Into a loop's last round there is one fixed point more on the way.
module _ {S : Type 0} (y : CellName) (c : Cell S) where
  round_fixes : (ts : List Target) (w : List NameFrame) → asks (law.walk w ts) ≡ Some y → law.found c (law.walk w ts) ≡ [] → fixes (goes c (law.walk w ts)).path ≡ y ∷ fixes w
  round_fixes [] w e none = absurd cc
  round_fixes (t ∷ ts) w e none = go t.steps w e none
    where
      by : (n : ℕ) (ss : List TargetStep) (w : List NameFrame) (v : batch.Value S) → y ≡ name w (Fix n) → unless_over v (v ∷ []) [] ≡ [] → fixes (unless_over v (law.start ts) (law.walk (InLoop n c.index ∷ w) (to_point ss t.last ∷ ts))).path ≡ y ∷ fixes w
      by n ss w (batch.Over m z) i none = absurd cc
      by n ss w (batch.State s) i none = ap (λ x. x ∷ fixes w) (sym i)

      go : (ss : List TargetStep) (w : List NameFrame) → Some (law.asks_in ss t.last w) ≡ Some y → law.found_in c ss ≡ [] → fixes (law.goes_in c ss t.last w ts).path ≡ y ∷ fixes w
      go [] w e none = absurd cc
      go (Go n ∷ ss) w e none = go ss (InCall n ∷ w) e none
      go (Take n ∷ ss) w e none = by n ss w c.value (sym (same_Some _ _ e)) none

  goes_on : (ts : List Target) (w : List NameFrame) → asks (law.walk w ts) ≡ Some y → law.found c (law.walk w ts) ≡ [] → (goes c (law.walk w ts)).left ≡ [] → (goes c (law.walk w ts)).path ≡ []
  goes_on [] w e none i = absurd cc
  goes_on (t ∷ ts) w e none i = go t.steps w none i
    where
      by : (n : ℕ) (ss : List TargetStep) (w : List NameFrame) (v : batch.Value S) → unless_over v (v ∷ []) [] ≡ [] → (unless_over v (law.start ts) (law.walk (InLoop n c.index ∷ w) (to_point ss t.last ∷ ts))).left ≡ [] →
          (unless_over v (law.start ts) (law.walk (InLoop n c.index ∷ w) (to_point ss t.last ∷ ts))).path ≡ []
      by n ss w (batch.Over m z) none i = absurd cc
      by n ss w (batch.State s) none i = absurd cc

      go : (ss : List TargetStep) (w : List NameFrame) → law.found_in c ss ≡ [] → (law.goes_in c ss t.last w ts).left ≡ [] → (law.goes_in c ss t.last w ts).path ≡ []
      go [] w none i = absurd cc
      go (Go n ∷ ss) w none i = go ss (InCall n ∷ w) none i
      go (Take n ∷ ss) w none i = by n ss w c.value none i

  -- After a target's last name the next target begins; that name's path has the fixed points on the way.
  ends_here : (ts : List Target) (w : List NameFrame) → asks (law.walk w ts) ≡ Some y → law.found c (law.walk w ts) ≡ c.value ∷ [] → ((goes c (law.walk w ts)).path ≡ []) × (fixes y.path ≡ fixes w)
  ends_here [] w e one = absurd cc
  ends_here (t ∷ ts) w e one = go t.steps w e one
    where
      by : (n : ℕ) (ss : List TargetStep) (w : List NameFrame) (v : batch.Value S) → y ≡ name w (Fix n) → unless_over v (v ∷ []) [] ≡ v ∷ [] → ((unless_over v (law.start ts) (law.walk (InLoop n c.index ∷ w) (to_point ss t.last ∷ ts))).path ≡ []) × (fixes y.path ≡ fixes w)
      by n ss w (batch.Over m z) i one = (refl, ap (λ (x : CellName). fixes x.path) i)
      by n ss w (batch.State s) i one = absurd cc

      go : (ss : List TargetStep) (w : List NameFrame) → Some (law.asks_in ss t.last w) ≡ Some y → law.found_in c ss ≡ c.value ∷ [] → ((law.goes_in c ss t.last w ts).path ≡ []) × (fixes y.path ≡ fixes w)
      go [] w e one = (refl, ap (λ (x : CellName). fixes x.path) (sym (same_Some _ _ e)))
      go (Go n ∷ ss) w e one = go ss (InCall n ∷ w) e one
      go (Take n ∷ ss) w e one = by n ss w c.value (sym (same_Some _ _ e)) one

pub with_both : (xs ys : List CellName) → with_fixes (xs ++ ys) ≡ with_fixes xs ++ with_fixes ys
with_both [] ys = refl
with_both (x ∷ xs) ys = ap (λ zs. x ∷ (fixes x.path ++ zs)) (with_both xs ys) ∙ ap (λ zs. x ∷ zs) (sym (append_assoc (fixes x.path) (with_fixes xs) (with_fixes ys)))

module _ {S : Type 0} (dom : Operations S) (plan : Plan) (ts : List Target) where
  -- a walk begins
  pub stands_first : (store : Store S) → Stands dom plan ts store (law.start ts) []
  stands_first store = record {
    asked = [];
    names = sym (start_names (found dom plan) ts);
    asked_kept = λ x h. absurd cc;
    lasts = [];
    values = sym (start_values (found dom plan) ts);
    numbers = refl;
    there = λ i x e. absurd cc;
    covered = λ x h. absurd cc;
    comes = λ x h. absurd cc;
    ended = λ e. refl;
  }

  -- through a call
  pub stands_go : (store : Store S) (w : List NameFrame) (n : ℕ) (ss : List TargetStep) (p : Point) (rest : List Target) (cells : List ℕ) →
      Stands dom plan ts store (law.walk w (to_point (Go n ∷ ss) p ∷ rest)) cells → Stands dom plan ts store (law.walk (InCall n ∷ w) (to_point ss p ∷ rest)) cells
  stands_go store w n ss p rest cells h = record {
    asked = h.asked;
    names = h.names;
    asked_kept = h.asked_kept;
    lasts = h.lasts;
    values = h.values;
    numbers = h.numbers;
    there = h.there;
    covered = h.covered;
    comes = h.comes;
    ended = λ e. absurd cc;
  }

  asked_more : (store : Store S) (k : law.Walk) (cells : List ℕ) (y : CellName) → (h : Stands dom plan ts store k cells) → kept store y ≡ true → (x : CellName) → member same_name (h.asked ++ y ∷ []) x ≡ true → kept store x ≡ true
  asked_more store k cells y h keeps x m = elim (or_cases (member same_name h.asked x) (member same_name (y ∷ []) x) (sym (member-append same_name h.asked (y ∷ []) x) ∙ m)) [
    | inl a ↦ h.asked_kept x a
    | inr b ↦ subst (λ z. kept store z ≡ true) (sym (one_member x y b)) keeps
  ]

  names_on : (store : Store S) (k : law.Walk) (cells : List ℕ) (y : CellName) → (h : Stands dom plan ts store k cells) → asks k ≡ Some y → demanded (found dom plan) ts ≡ (h.asked ++ y ∷ []) ++ names_left (found dom plan) (goes (found dom plan y) k)
  names_on store k cells y h e = h.names ∙ ap (λ xs. h.asked ++ xs) (walk_goes (found dom plan) k y e).0 ∙ sym (append_assoc h.asked (y ∷ []) (names_left (found dom plan) (goes (found dom plan y) k)))

  -- past a name that has a cell, and is the last of no target
  pub stands_on : (store : Store S) (k : law.Walk) (cells : List ℕ) (y : CellName) → Stands dom plan ts store k cells → asks k ≡ Some y → kept store y ≡ true → law.found (found dom plan y) k ≡ [] →
      Stands dom plan ts store (goes (found dom plan y) k) cells
  stands_on store k cells y h e keeps none = record {
    asked = h.asked ++ y ∷ [];
    names = names_on store k cells y h e;
    asked_kept = asked_more store k cells y h keeps;
    lasts = h.lasts;
    values = h.values ∙ ap (λ vs. map (λ x. (found dom plan x).value) h.lasts ++ vs) ((walk_goes (found dom plan) k y e).1 ∙ ap (λ us. us ++ values_left (found dom plan) (goes (found dom plan y) k)) none);
    numbers = h.numbers;
    there = h.there;
    covered =
        among_both h.asked (y ∷ []) (with_fixes h.lasts ++ fixes (goes (found dom plan y) k).path)
        (among_on h.asked (with_fixes h.lasts) (fixes k.path) (fixes (goes (found dom plan y) k).path) h.covered (λ x m. subst (λ xs. member same_name xs x ≡ true) (sym (round_fixes y (found dom plan y) k.left k.path e none)) (or_right (same_name x y) (member same_name (fixes k.path) x) m)))
        (among_right (y ∷ []) (with_fixes h.lasts) (fixes (goes (found dom plan y) k).path) (λ x m. subst (λ xs. member same_name xs x ≡ true) (sym (round_fixes y (found dom plan y) k.left k.path e none)) (one_first x y (fixes k.path) m)));
    comes =
        among_both (with_fixes h.lasts) (fixes (goes (found dom plan y) k).path) (h.asked ++ y ∷ [])
        (λ x m. among_left h.asked (y ∷ []) x (h.comes x (among_left (with_fixes h.lasts) (fixes k.path) x m)))
        (λ x m.
        first_or x y (fixes k.path) (subst (λ xs. member same_name xs x ≡ true) (round_fixes y (found dom plan y) k.left k.path e none) m)
        (λ i. among_last h.asked (y ∷ []) x i)
        (λ i. among_left h.asked (y ∷ []) x (h.comes x (among_last (with_fixes h.lasts) (fixes k.path) x i))));
    ended = goes_on y (found dom plan y) k.left k.path e none;
  }

  pub pushed_there : (store : Store S) (cells : List ℕ) (n : ℕ) → AreCells store.graph.cells cells → IsSome (get store.graph.cells n) → AreCells store.graph.cells (cells ++ n ∷ [])
  pushed_there store [] n h s zero x e = subst (λ m. IsSome (get store.graph.cells m)) (same_Some n x e) s
  pushed_there store [] n h s (suc i) x e = absurd cc
  pushed_there store (c ∷ cells) n h s zero x e = h zero x e
  pushed_there store (c ∷ cells) n h s (suc i) x e = pushed_there store cells n (λ j y q. h (suc j) y q) s i x e

  next_fixes : (k : law.Walk) (y : CellName) (lasts : List CellName) → asks k ≡ Some y → law.found (found dom plan y) k ≡ (found dom plan y).value ∷ [] →
      with_fixes (lasts ++ y ∷ []) ++ fixes (goes (found dom plan y) k).path ≡ with_fixes lasts ++ y ∷ fixes k.path
  next_fixes k y lasts e one =
      let h = ends_here y (found dom plan y) k.left k.path e one in
      ap (λ w. with_fixes (lasts ++ y ∷ []) ++ fixes w) h.0
      ∙ append-nil (with_fixes (lasts ++ y ∷ []))
      ∙ with_both lasts (y ∷ [])
      ∙ ap (λ zs. with_fixes lasts ++ y ∷ zs) (append-nil (fixes y.path) ∙ h.1)

  -- past one that is the last of a target
  pub stands_next : (store : Store S) (k : law.Walk) (cells : List ℕ) (y : CellName) (n : ℕ) → Stands dom plan ts store k cells → asks k ≡ Some y → kept store y ≡ true → law.found (found dom plan y) k ≡ (found dom plan y).value ∷ [] →
      slice_get store.names.names n ≡ Some y → IsSome (get store.graph.cells n) → Stands dom plan ts store (goes (found dom plan y) k) (cells ++ n ∷ [])
  stands_next store k cells y n h e keeps one number s = record {
    asked = h.asked ++ y ∷ [];
    names = names_on store k cells y h e;
    asked_kept = asked_more store k cells y h keeps;
    lasts = h.lasts ++ y ∷ [];
    values =
        let g : CellName → batch.Value S = λ x. (found dom plan x).value in
        let rest = values_left (found dom plan) (goes (found dom plan y) k) in
        h.values
        ∙ ap (λ vs. map g h.lasts ++ vs) ((walk_goes (found dom plan) k y e).1 ∙ ap (λ us. us ++ rest) one)
        ∙ sym (append_assoc (map g h.lasts) (g y ∷ []) rest)
        ∙ ap (λ us. us ++ rest) (sym (map-append g h.lasts (y ∷ [])));
    numbers = numbers_push store.names.names cells h.lasts n y h.numbers number;
    there = pushed_there store cells n h.there s;
    covered =
        subst (AreAmong (h.asked ++ y ∷ [])) (sym (next_fixes k y h.lasts e one))
        (among_both h.asked (y ∷ []) (with_fixes h.lasts ++ y ∷ fixes k.path)
        (among_on h.asked (with_fixes h.lasts) (fixes k.path) (y ∷ fixes k.path) h.covered (λ x m. or_right (same_name x y) (member same_name (fixes k.path) x) m))
        (among_right (y ∷ []) (with_fixes h.lasts) (y ∷ fixes k.path) (λ x m. one_first x y (fixes k.path) m)));
    comes =
        subst (λ xs. AreAmong xs (h.asked ++ y ∷ [])) (sym (next_fixes k y h.lasts e one))
        (among_both (with_fixes h.lasts) (y ∷ fixes k.path) (h.asked ++ y ∷ [])
        (λ x m. among_left h.asked (y ∷ []) x (h.comes x (among_left (with_fixes h.lasts) (fixes k.path) x m)))
        (λ x m.
        first_or x y (fixes k.path) m
        (λ i. among_last h.asked (y ∷ []) x i)
        (λ i. among_left h.asked (y ∷ []) x (h.comes x (among_last (with_fixes h.lasts) (fixes k.path) x i)))));
    ended = λ i. (ends_here y (found dom plan y) k.left k.path e one).0;
  }

  -- where what has a cell has one still
  pub stands_last : (old new : Store S) (k : law.Walk) (cells : List ℕ) → IsRight dom plan new → Lasts old new → Stands dom plan ts old k cells → Stands dom plan ts new k cells
  stands_last old new k cells right lasts h = record {
    asked = h.asked;
    names = h.names;
    asked_kept = λ x m. kept_lasts dom plan old new right lasts x (h.asked_kept x m);
    lasts = h.lasts;
    values = h.values;
    numbers = numbers_grow old.names.names new.names.names lasts.names cells h.lasts h.numbers;
    there = cells_last dom plan old new lasts cells h.there;
    covered = h.covered;
    comes = h.comes;
    ended = h.ended;
  }

  pub place_lasts : (old new : Store S) → Lasts old new → (w : Walk) → w.path < length old.names.paths → place_of ts new w ≡ place_of ts old w
  place_lasts old new lasts w h = ap (λ p. law.walk p (behind_steps w.step (drop w.target ts))) (path_stays old new lasts.paths w.path h)

  pub place_stays : (old new : Store S) → Grows old new → (w : Walk) → w.path < length old.names.paths → place_of ts new w ≡ place_of ts old w
  place_stays old new grows = place_lasts old new (grows_last dom plan old new grows)

  pub placed_lasts : (old new : Store S) (w : Walk) → IsRight dom plan new → Lasts old new → IsPlaced dom plan ts old w → IsPlaced dom plan ts new w
  placed_lasts old new w right lasts h = record {
    path = keeps_within old.names.paths new.names.paths lasts.paths w.path h.path;
    stands = subst (λ k. Stands dom plan ts new k w.found.items) (sym (place_lasts old new lasts w h.path)) (stands_last old new (place_of ts old w) w.found.items right lasts h.stands);
  }

  pub placed_grows : (old new : Store S) (w : Walk) → IsRight dom plan new → Grows old new → IsPlaced dom plan ts old w → IsPlaced dom plan ts new w
  placed_grows old new w right grows = placed_lasts old new w right (grows_last dom plan old new grows)

  stacked_last : (old new : Store S) (w : Walk) → Lasts old new → IsPlaced dom plan ts old w → AreStacked dom plan old (place_of ts old w) w.stack.items → AreStacked dom plan new (place_of ts new w) w.stack.items
  stacked_last old new w lasts placed h = record {
    opens = λ i o e. open_lasts dom plan old new lasts o (h.opens i o e);
    bottom = λ o e. ap asks (place_lasts old new lasts w placed.path) ∙ h.bottom o e ∙ ap Some (sym (name_stays old new lasts.paths o (h.opens 0 o e).path));
    chained = λ i o u e f. next_lasts dom plan old new lasts o (h.opens i o e) ∙ h.chained i o u e f ∙ ap Some (sym (name_stays old new lasts.paths u (h.opens (suc i) u f).path));
  }

  -- a walk that is good stays good where what has a cell has one still
  pub good_lasts : (old new : Store S) (w : Walk) → IsRight dom plan new → Lasts old new → IsGood dom plan ts old w → IsGood dom plan ts new w
  good_lasts old new w right lasts h = record { placed = placed_lasts old new w right lasts h.placed; stacked = stacked_last old new w lasts h.placed h.stacked }

  -- so while cells are only added
  pub good_grows : (old new : Store S) (w : Walk) → IsRight dom plan new → Grows old new → IsGood dom plan ts old w → IsGood dom plan ts new w
  good_grows old new w right grows = good_lasts old new w right (grows_last dom plan old new grows)

  -- and one that is done stays so
  pub done_grows : (old new : Store S) (w : Walk) → IsRight dom plan new → Grows old new → IsDone dom plan ts old w → IsDone dom plan ts new w
  done_grows old new w right grows h = record { placed = placed_grows old new w right grows h.placed; asks_none = ap asks (place_stays old new grows w h.placed.path) ∙ h.asks_none }

  -- what is asked for is a name of the program
  pub asked_named : (store : Store S) (k : law.Walk) (cells : List ℕ) (y : CellName) → IsRight dom plan store → AreTargets plan ts → Stands dom plan ts store k cells → asks k ≡ Some y → HasName plan.engine plan.program y
  unfolding found
  asked_named store k cells y right targets h e =
      demanded_named dom plan.engine plan.program same_name same_is right.checked targets.location targets.string targets.place ts y targets.are (
      subst (λ xs. member same_name xs y ≡ true) (sym (names_on store k cells y h e)) (
      member-append same_name (h.asked ++ y ∷ []) (names_left (found dom plan) (goes (found dom plan y) k)) y
      ∙ ap (λ b. b || member same_name (names_left (found dom plan) (goes (found dom plan y) k)) y) (
      member-append same_name h.asked (y ∷ []) y ∙ is_member (member same_name h.asked y)
      )
      )
      )
    where
      is_member : (b : Bool) → (b || member same_name (y ∷ []) y) ≡ true
      is_member true = refl
      is_member false = ap (λ c. c || false) (same_is.same_refl y)
