-- What the cells of a program hold fits, and so does the exchanged statement.
use Rattle.std.proofs.Common.{◌≡◌, ℕ, zero, suc, ℤ, List, [], ◌∷◌, length, reverse, Some, Bool, true, false, if◌then◌else◌, nat_lt, refl, sym, ◌∙◌, subst}
use Rattle.imp_slots.specs.Plain.{Layout, Guard, Effect, Code, Stop, Simple, If, While, Call, Break, Routine}
use Rattle.imp_slots.specs.Fits.{fits_effect, fits_guard, FitsCode}
use Rattle.concrete_sem.specs.Values.{Variables, Heap}
use Rattle.imp_chains.specs.Thresholds.{IsRising}
use Rattle.imp_chains.specs.Claims.{ThresholdsRise}
use Rattle.domain_laws.specs.Operations.{Operations}
use Rattle.domain_laws.specs.Laws.{Laws}
use Rattle.batch_meaning.specs.Values.{Value, State, Over, lift, lift2}
use Rattle.batch_meaning.specs.Batch.{LoopOptions, next_of}
use Rattle.batch_meaning.specs.Places.{from, main_layout}
use Rattle.batch_meaning.proofs.Procedures.{look_get, FitBack, fit_back_from}
use Rattle.batch_sound.proofs.Values.{Fit, fit_assume}
use Rattle.batch_sound.proofs.Fitting.{FitPassed, block_fit, procedure_fit, entered_fit}
use Rattle.cell_names.specs.declared.frame.NameFrame.{NameFrame}
use Rattle.cell_names.specs.declared.frame.NameFrame.TheVariants.{InCall, InLoop}
use Rattle.base_values.proofs.Cases.{by_test, given_item}
use Rattle.base_values.proofs.Members.{Each, each_more, each_both, none_there}
use Rattle.cell_rows.specs.Blocks.{iterate_at}
use Rattle.cell_rows.specs.Names.{Scope, Mark, At, Algebra, PathBlock, entry, inside, behind_it, level, start_of, in_call, in_loop, round_place, follow}
use Rattle.cell_rows.specs.Cells.{Cell, values, calls, block, after_value, iterate_value, one_round}
use Rattle.cell_rows.proofs.Lookup.{Stands, unstated}
use Rattle.why_slice.proofs.Shifted.{swap, pick_it}
use Rattle.why_slice.proofs.ShiftedRows.{swap_all}
use Rattle.std.proofs.lemmas.Option.{same_Some}

-- the other statement fits where the exchanged one stands
abbrev pub Suits : (s : ℕ) → Effect → Layout → Code → Type 0
Suits s f l Stop = Unit {0}
Suits s f l (Simple n e r) = (n ≡ s → fits_effect l f ≡ true) × Suits s f l r
Suits s f l (If n g x y r) = Suits s f l x × Suits s f l y × Suits s f l r
Suits s f l (While n g b r) = Suits s f l b × Suits s f l r
Suits s f l (Call n i q r) = Suits s f l r
Suits s f l (Break n r) = Suits s f l r

abbrev pub AllSuit : (s : ℕ) → Effect → List Routine → Type 0
AllSuit s f [] = Unit {0}
AllSuit s f (r ∷ rs) = Suits s f r.layout r.code × AllSuit s f rs

suits : (s t : ℕ) (f : Effect) (before : List Routine) (l : Layout) (c : Code) → FitsCode before l (swap s t f c) → Suits s f l c
suits s t f before l Stop h = tt
suits s t f before l (Simple n e r) h = ((λ k. subst (λ a. fits_effect l a ≡ true) (pick_it s t f n e k) h.0), suits s t f before l r h.1)
suits s t f before l (If n g x y r) h = (suits s t f before l x h.1, suits s t f before l y h.2, suits s t f before l r h.3)
suits s t f before l (While n g b r) h = (suits s t f before l b h.1, suits s t f before l r h.2)
suits s t f before l (Call n i q r) h = suits s t f before l r h.1
suits s t f before l (Break n r) h = suits s t f before l r h

pub all_suit : (s t : ℕ) (f : Effect) (ps : List Routine) → FitBack (swap_all s t f ps) → AllSuit s f ps
all_suit s t f [] h = tt
all_suit s t f (r ∷ ps) h = (suits s t f (reverse (swap_all s t f ps)) r.layout r.code h.0, all_suit s t f ps h.1)

suit_from : (s : ℕ) (f : Effect) (ps : List Routine) (q : ℕ) → AllSuit s f ps → AllSuit s f (from ps q)
suit_from s f [] q h = tt
suit_from s f (r ∷ ps) q h = by_test q (length ps) (λ c. AllSuit s f (if c then r ∷ ps else from ps q)) (λ e. h) (λ e. suit_from s f ps q h.1)

module _ {S : Type 0} (dom : Operations S) (engine : LoopOptions) (covers : S → Heap → List Variables → Type 0) (laws : Laws dom covers) (rises : ThresholdsRise) (s : ℕ) (f : Effect) where
  abbrev pub G : Value S → List Layout → Type 0
  G = Fit dom engine covers laws

  next_fits : (ls : List Layout) (ms : List ℤ) → IsRising ms → (k : ℕ) (v w : Value S) → G v ls → G w ls → G (lift2 (next_of dom engine ms k) v w) ls
  next_fits ls ms rising k (State a) (State b) g h = go (nat_lt k engine.widening.delay)
    where
      go : (c : Bool) → dom.fits (if c then dom.join a b else dom.widen ms a b) ls ≡ true
      go true = laws.fitting.join ls a b g h
      go false = laws.fitting.widen ms ls a b rising g h
  next_fits ls ms rising k (State a) (Over n z) g h = tt
  next_fits ls ms rising k (Over n z) w g h = tt

  iterate_fits : (ls : List Layout) (ms : List ℤ) → IsRising ms → (body : Value S → Value S) → ((v : Value S) → G v ls → G (body v) ls) → (k : ℕ) (a : Value S) → G a ls → G (iterate_at dom engine ms body a k) ls
  iterate_fits ls ms rising body keep zero a g = g
  iterate_fits ls ms rising body keep (suc k) a g = let i = iterate_fits ls ms rising body keep k a g in next_fits ls ms rising k (iterate_at dom engine ms body a k) (body (iterate_at dom engine ms body a k)) i (keep (iterate_at dom engine ms body a k) i)

  module _ (layout : Layout) where
    abbrev A : Algebra (Cell S)
    A = values dom engine layout

    abbrev M : Type 0
    M = Mark (Cell S)

    abbrev P : Type 0
    P = PathBlock engine A

    module _ (scope : Scope) (z : List ℕ) (rising : IsRising scope.thresholds) (procs : FitBack scope.earlier) (l : Layout) (ls : List Layout) where
      abbrev before : List Routine
      before = reverse scope.earlier

      block_fits : (c : Code) (a : Value S) → FitsCode before l c → G a (l ∷ ls) → FitPassed dom engine covers laws (l ∷ ls) (block dom engine scope z c a)
      block_fits c a h g =
          block_fit dom engine covers laws scope.thresholds rising z (calls dom engine scope z) before l ls
          (λ n q c v e h. procedure_fit dom engine covers laws rises scope.earlier (n ∷ z) q c (l ∷ ls) v (look_get scope.earlier q ∙ e) procs h) c a h g

      after_fits : (c : Code) (a : Value S) → FitsCode before l c → G a (l ∷ ls) → G (after_value dom engine scope z c a) (l ∷ ls)
      after_fits Stop a h g = g
      after_fits (Simple n e r) a h g = (block_fits (Simple n e Stop) a (h.0, tt) g).value
      after_fits (If n c x y r) a h g = (block_fits (If n c x y Stop) a (h.0, h.1, h.2, tt) g).value
      after_fits (While n c b r) a h g = (block_fits (While n c b Stop) a (h.0, h.1, tt) g).value
      after_fits (Call n i q r) a h g = (block_fits (Call n i q Stop) a (h.0, tt) g).value
      after_fits (Break n r) a h g = (block_fits (Break n Stop) a tt g).value

      pub round_fits : (c : Guard) (b : Code) (k : ℕ) (a : Cell S) → fits_guard l c ≡ true → FitsCode before l b → G a.value (l ∷ ls) → G (iterate_value dom engine scope z c b k a).value (l ∷ ls)
      round_fits c b zero a h i g = g
      round_fits c b (suc k) a h i g =
          iterate_fits (l ∷ ls) scope.thresholds rising (one_round dom engine scope z c b) (λ v j. (block_fits b (lift (dom.assume c true) v) i (fit_assume dom engine covers laws c true l ls v h j)).value) (suc k) a.value g

      -- What stands before a statement of a block fits, and the statement does.
      pub record AtFits (x : ℕ × At (Cell S)) : Type 0 where
        pub front : G x.1.before.value.value (l ∷ ls)
        pub code : FitsCode before l x.1.code
        pub suits : Suits s f l x.1.code

      abbrev E : M → Code → ℕ × At (Cell S)
      E = entry engine A scope z

      pub level_fits : (c : Code) (x : M) → FitsCode before l c → Suits s f l c → G x.value.value (l ∷ ls) → Each AtFits (level engine A scope z c x)
      level_fits Stop x h u g = none_there AtFits
      level_fits (Simple n e r) x h u g = each_more AtFits (E x (Simple n e r)) _ (record { front = g; code = h; suits = u }) (level_fits r (behind_it engine A scope z (Simple n e r) x) h.1 u.1 (after_fits (Simple n e r) x.value.value h g))
      level_fits (If n c y w r) x h u g =
          each_more AtFits (E x (If n c y w r)) _ (record { front = g; code = h; suits = u })
          (each_both AtFits _ _ (level_fits y (inside engine A scope z true n c x) h.1 u.0 (fit_assume dom engine covers laws c true l ls x.value.value h.0 g))
          (each_both AtFits _ _ (level_fits w (inside engine A scope z false n c x) h.2 u.1 (fit_assume dom engine covers laws c false l ls x.value.value h.0 g))
          (level_fits r (behind_it engine A scope z (If n c y w r) x) h.3 u.2 (after_fits (If n c y w r) x.value.value h g))))
      level_fits (While n c b r) x h u g = each_more AtFits (E x (While n c b r)) _ (record { front = g; code = h; suits = u }) (level_fits r (behind_it engine A scope z (While n c b r) x) h.2 u.1 (after_fits (While n c b r) x.value.value h g))
      level_fits (Call n i q r) x h u g = each_more AtFits (E x (Call n i q r)) _ (record { front = g; code = h; suits = u }) (level_fits r (behind_it engine A scope z (Call n i q r) x) h.1 u (after_fits (Call n i q r) x.value.value h g))
      level_fits (Break n r) x h u g = each_more AtFits (E x (Break n r)) _ (record { front = g; code = h; suits = u }) (level_fits r (behind_it engine A scope z (Break n r) x) h u (after_fits (Break n r) x.value.value h g))

    -- A block that a path leads to fits, with what is before it.
    pub record PlaceFits (b : P) : Type 0 where
      pub frame : Layout
      pub below : List Layout
      pub rising : IsRising b.scope.thresholds
      pub procs : FitBack b.scope.earlier
      pub suit : AllSuit s f b.scope.earlier
      pub code : FitsCode (reverse b.scope.earlier) frame b.code
      pub suits : Suits s f frame b.code
      pub first : G b.first.value.value (frame ∷ below)

    pub at_fits : (b : P) (p : PlaceFits b) (y : M) (d : Code) → Stands engine A b y d → AtFits b.scope b.sites p.rising p.procs p.frame p.below (entry engine A b.scope b.sites y d)
    at_fits b p y d h = (level_fits b.scope b.sites p.rising p.procs p.frame p.below b.code b.first p.code p.suits p.first).at _ h.there

    start_fits : (ps : List Routine) (z : List ℕ) (x : M) (b : P) (ls : List Layout) → FitBack ps → AllSuit s f ps → ((r : Routine) (e : List Routine) → ps ≡ r ∷ e → G x.value.value (r.layout ∷ ls)) → start_of engine A ps z x ≡ Some b → PlaceFits b
    start_fits [] z x b ls h u g e = absurd cc
    start_fits (r ∷ ps) z x b ls h u g e = subst PlaceFits (same_Some _ _ e) (record {
      frame = r.layout;
      below = ls;
      rising = rises engine.widening (reverse ps) r h.0;
      procs = h.1;
      suit = u.1;
      code = h.0;
      suits = u.0;
      first = g r ps refl;
    })

    call_fits : (b : P) (n : ℕ) (y : M) (d : Code) (c : P) → PlaceFits b → Stands engine A b y d → in_call engine A b n y d ≡ Some c → PlaceFits c
    call_fits b n y Stop c p h e = absurd cc
    call_fits b n y (Simple m x r) c p h e = absurd cc
    call_fits b n y (If m g x w r) c p h e = absurd cc
    call_fits b n y (While m g x r) c p h e = absurd cc
    call_fits b n y (Call m i q r) c p h e =
        let a = at_fits b p y (Call m i q r) h in
        start_fits (from b.scope.earlier q) (n ∷ b.sites) _ c (p.frame ∷ p.below) (fit_back_from b.scope.earlier q p.procs) (suit_from s f b.scope.earlier q p.suit)
        (entered_fit dom engine covers laws b.scope.earlier p.frame p.below i q y.value.value a.code.0 a.front) e
    call_fits b n y (Break m r) c p h e = absurd cc

    loop_fits : (b : P) (n k : ℕ) (y : M) (d : Code) (c : P) → PlaceFits b → Stands engine A b y d → in_loop engine A b n k y d ≡ Some c → PlaceFits c
    loop_fits b n k y Stop c p h e = absurd cc
    loop_fits b n k y (Simple m x r) c p h e = absurd cc
    loop_fits b n k y (If m g x w r) c p h e = absurd cc
    loop_fits b n k y (While m g x r) c p h e =
        let a = at_fits b p y (While m g x r) h in
        subst PlaceFits (given_item (nat_lt k engine.budget) (round_place engine A b n g x k y) c e) (record {
          frame = p.frame;
          below = p.below;
          rising = p.rising;
          procs = p.procs;
          suit = p.suit;
          code = a.code.1;
          suits = a.suits.0;
          first = fit_assume dom engine covers laws g true p.frame p.below _ a.code.0 (round_fits b.scope b.sites p.rising p.procs p.frame p.below g x k y.value a.code.0 a.code.1 a.front);
        })
    loop_fits b n k y (Call m i q r) c p h e = absurd cc
    loop_fits b n k y (Break m r) c p h e = absurd cc

  -- Of a program that fits, the last procedure first.
  module _ (program : List Routine) (fits : FitBack program) (suit : AllSuit s f program) where
    abbrev B : Algebra (Cell S)
    B = values dom engine (main_layout program)

    pub follow_fits : (w : List NameFrame) (b : PathBlock engine B) → follow engine B program w ≡ Some b → PlaceFits (main_layout program) b
    follow_fits [] b e = start_fits (main_layout program) program [] _ b [] fits suit (λ r ps j. subst (λ qs. G (State (dom.init (main_layout qs))) (r.layout ∷ [])) (sym j) (laws.fitting.init r.layout)) e
    follow_fits (InCall n ∷ w) b e =
        let u = unstated engine B (follow engine B program w) n (λ b. in_call engine B b n) b e in
        call_fits (main_layout program) u.place n u.before u.code b (follow_fits w u.place u.leads) u.stands u.gives
    follow_fits (InLoop n k ∷ w) b e =
        let u = unstated engine B (follow engine B program w) n (λ b. in_loop engine B b n k) b e in
        loop_fits (main_layout program) u.place n k u.before u.code b (follow_fits w u.place u.leads) u.stands u.gives
