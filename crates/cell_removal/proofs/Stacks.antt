-- Depth first along the users of cells: what holds of the stack, its bottom first.
use Rattle.std.proofs.Common.{◌≡◌, ℕ, ◌<◌, ◌≤◌, ◌+◌, ◌-◌, ◌*◌, ◌⊎◌, List, [], ◌∷◌, ◌++◌, length, map, Some, IsSome, slice_get, refl, sym, ap, subst, ◌∙◌, inl, inr, arith, length-append}
use Rattle.std.proofs.lemmas.List.{map-append, length-map}
use Rattle.std.specs.FinMap.{get, len}
use Rattle.daig_graph.specs.Held.{IsIn}
use Rattle.daig_graph.specs.declared.graph.Use.{Use}
use Rattle.cell_removal.specs.declared.planning.Open.{Open}
use Rattle.cell_removal.specs.Removal.{Cells, Uses, LeadsTo, itself, through, IsOrder, Adds, IsFirst}
use Rattle.cell_removal.proofs.Ins.{in_none, in_first, in_more, in_cases, in_left, in_either, in_last, in_pushed}
use Rattle.cell_removal.proofs.Pigeons.{Differ, differ_both, differ_once, no_more_than}
use Rattle.base_values.proofs.Lists.{get_front, get_pushed}
use Rattle.std.proofs.lemmas.Option.{slice_get_within}

abbrev pub cells_of : List Open → List ℕ
cells_of stack = map (λ (o : Open). o.cell) stack

pub cells_push : (stack : List Open) (o : Open) → cells_of (stack ++ o ∷ []) ≡ cells_of stack ++ o.cell ∷ []
cells_push stack o = map-append (λ (o : Open). o.cell) stack (o ∷ [])

-- a use by a cell that is still to be looked at
abbrev pub IsLeft : List Use → ℕ → Type 0
IsLeft users y = (u : Use) × (u.cell ≡ y) × IsIn users u

-- how many turns are left at most
abbrev pub turns : {V : Type 0} → Cells V → (planned : List ℕ) → List Open → ℕ
turns cells planned stack = 2 * (len cells - (length planned + length stack)) + length stack

pub turns_more : {V : Type 0} (cells : Cells V) (planned : List ℕ) (stack more : List Open) → length more ≡ length stack + 1 → length planned + length more ≤ len cells → turns cells planned more < turns cells planned stack
turns_more cells planned stack more a b = omega arith

module _ {V : Type 0} (cells : Cells V) (rank : ℕ → ℕ) where
  -- each of these cells ranks higher
  abbrev pub Above : ℕ → List ℕ → Type 0
  Above r xs = (y : ℕ) → IsIn xs y → r < rank y

  -- Of each cell on the stack each user is planned, or still to be looked at, or stands above it; and it ranks below those
  -- above it.
  abbrev pub Stands : (planned : List ℕ) → List Open → Type 0
  Stands planned [] = Unit {0}
  Stands planned (o ∷ above) =
      ((y : ℕ) → Uses cells y o.cell → IsIn planned y ⊎ (IsLeft o.users y ⊎ IsIn (cells_of above) y)) × Above (rank o.cell) (cells_of above) × Stands planned above

  pub in_push : (stack : List Open) (o : Open) (y : ℕ) → IsIn (cells_of (stack ++ o ∷ [])) y → IsIn (cells_of stack) y ⊎ (o.cell ≡ y)
  in_push stack o y m = in_pushed y o.cell (cells_of stack) (subst (λ xs. IsIn xs y) (cells_push stack o) m)

  pub push_in : (stack : List Open) (o : Open) (y : ℕ) → IsIn (cells_of stack) y ⊎ (o.cell ≡ y) → IsIn (cells_of (stack ++ o ∷ [])) y
  push_in stack o y (inl m) = subst (λ xs. IsIn xs y) (sym (cells_push stack o)) (in_left y (cells_of stack) (o.cell ∷ []) m)
  push_in stack o y (inr e) = subst (λ xs. IsIn xs y) (sym (cells_push stack o)) (subst (λ z. IsIn (cells_of stack ++ o.cell ∷ []) z) e (in_last o.cell (cells_of stack)))

  -- the top ranks above all others
  pub below_top : (planned : List ℕ) (stack : List Open) (o : Open) → Stands planned (stack ++ o ∷ []) → (y : ℕ) → IsIn (cells_of stack) y → rank y < rank o.cell
  below_top planned [] o h y m = in_none y m
  below_top planned (b ∷ stack) o h y m =
      elim (in_cases y b.cell (cells_of stack) m) [
        | inl e ↦ subst (λ z. rank z < rank o.cell) e (h.1 o.cell (push_in stack o o.cell (inr refl)))
        | inr k ↦ below_top planned stack o h.2 y k
      ]

  -- its users are planned, or still to be looked at
  pub top_users : (planned : List ℕ) (stack : List Open) (o : Open) → Stands planned (stack ++ o ∷ []) → (y : ℕ) → Uses cells y o.cell → IsIn planned y ⊎ IsLeft o.users y
  top_users planned [] o h y u = elim (h.0 y u) [ inl p ↦ inl p | inr q ↦ elim q [ inl l ↦ inr l | inr m ↦ in_none y m ] ]
  top_users planned (b ∷ stack) o h y u = top_users planned stack o h.2 y u

  -- the top is planned
  pub stands_less : (planned : List ℕ) (stack : List Open) (o : Open) → Stands planned (stack ++ o ∷ []) → Stands (planned ++ o.cell ∷ []) stack
  stands_less planned [] o h = tt
  stands_less planned (b ∷ stack) o h = (
    λ y u. elim (h.0 y u) [
      | inl p ↦ inl (in_left y planned (o.cell ∷ []) p)
      | inr q ↦ elim q [
        | inl l ↦ inr (inl l)
        | inr m ↦ elim (in_push stack o y m) [
          | inl k ↦ inr (inr k)
          | inr e ↦ inl (subst (λ z. IsIn (planned ++ o.cell ∷ []) z) e (in_last o.cell planned))
        ]
      ]
    ],
    λ y m. h.1 y (push_in stack o y (inl m)),
    stands_less planned stack o h.2,
  )

  -- One of its users comes above it.
  module _ (planned : List ℕ) (o p r : Open) (same : r.cell ≡ o.cell)
      (others : (u : Use) → IsIn o.users u → IsIn planned u.cell ⊎ ((u.cell ≡ p.cell) ⊎ IsIn r.users u))
      (higher : rank o.cell < rank p.cell) (users : (y : ℕ) → Uses cells y p.cell → IsLeft p.users y) where
    top_more : (y : ℕ) → IsIn planned y ⊎ (IsLeft o.users y ⊎ IsIn [] y) → IsIn planned y ⊎ (IsLeft r.users y ⊎ IsIn (p.cell ∷ []) y)
    top_more y (inl k) = inl k
    top_more y (inr (inl l)) =
        elim (others l.0 l.2) [
          | inl k ↦ inl (subst (IsIn planned) l.1 k)
          | inr q ↦ elim q [
            | inl e ↦ inr (inr (subst (λ z. IsIn (p.cell ∷ []) z) (sym e ∙ l.1) (in_first p.cell [])))
            | inr k ↦ inr (inl (l.0, l.1, k))
          ]
        ]
    top_more y (inr (inr m)) = in_none y m

    both_there : (stack : List Open) (y : ℕ) → IsIn (cells_of (stack ++ o ∷ [])) y → IsIn (cells_of (stack ++ r ∷ p ∷ [])) y
    both_there [] y m = elim (in_cases y o.cell [] m) [ inl e ↦ (0, ap Some (same ∙ e)) | inr n ↦ in_none y n ]
    both_there (b ∷ stack) y m = elim (in_cases y b.cell (cells_of (stack ++ o ∷ [])) m) [ inl e ↦ (0, ap Some e) | inr k ↦ in_more y b.cell (cells_of (stack ++ r ∷ p ∷ [])) (both_there stack y k) ]

    both_back : (stack : List Open) (y : ℕ) → IsIn (cells_of (stack ++ r ∷ p ∷ [])) y → IsIn (cells_of (stack ++ o ∷ [])) y ⊎ (p.cell ≡ y)
    both_back [] y m =
        elim (in_cases y r.cell (p.cell ∷ []) m) [
          | inl e ↦ inl (0, ap Some (sym same ∙ e))
          | inr k ↦ elim (in_cases y p.cell [] k) [ inl e ↦ inr e | inr n ↦ in_none y n ]
        ]
    both_back (b ∷ stack) y m =
        elim (in_cases y b.cell (cells_of (stack ++ r ∷ p ∷ [])) m) [
          | inl e ↦ inl (0, ap Some e)
          | inr k ↦ elim (both_back stack y k) [ inl l ↦ inl (in_more y b.cell (cells_of (stack ++ o ∷ [])) l) | inr e ↦ inr e ]
        ]

    pub stands_more : (stack : List Open) → Stands planned (stack ++ o ∷ []) → Stands planned (stack ++ r ∷ p ∷ [])
    stands_more [] h = (
      λ y u. top_more y (h.0 y (subst (Uses cells y) same u)),
      λ y m. elim (in_cases y p.cell [] m) [ inl e ↦ (let k : rank r.cell ≡ rank o.cell = ap rank same in let j : rank p.cell ≡ rank y = ap rank e in omega arith) | inr n ↦ in_none y n ],
      (λ y u. inr (inl (users y u)), λ y m. in_none y m, tt),
    )
    stands_more (b ∷ stack) h = (
      λ y u. elim (h.0 y u) [
        | inl k ↦ inl k
        | inr q ↦ elim q [ inl l ↦ inr (inl l) | inr m ↦ inr (inr (both_there stack y m)) ]
      ],
      λ y m. elim (both_back stack y m) [
        | inl k ↦ h.1 y k
        | inr e ↦ (let a : rank b.cell < rank o.cell = h.1 o.cell (push_in stack o o.cell (inr refl)) in let j : rank p.cell ≡ rank y = ap rank e in omega arith)
      ],
      stands_more stack h.2,
    )

  -- cells on the stack differ
  pub stack_differs : (planned : List ℕ) (stack : List Open) → Stands planned stack → Differ (cells_of stack)
  stack_differs planned [] h = tt
  stack_differs planned (o ∷ stack) h = (λ m. (let lt : rank o.cell < rank o.cell = h.1 o.cell m in omega arith), stack_differs planned stack h.2)

  -- What holds while a cell is planned: of what was planned before, what is planned by now, and the stack.
  pub record Growing (cell : ℕ) (old planned : List ℕ) (stack : List Open) : Type 0 where
    pub order : IsOrder cells planned
    pub kept : (x : ℕ) → IsIn old x → IsIn planned x
    pub only : (x : ℕ) → IsIn planned x → IsIn old x ⊎ LeadsTo cells (λ y. y ≡ cell) x
    pub stands : Stands planned stack
    pub new : (x : ℕ) → IsIn (cells_of stack) x → IsIn planned x → ⊥
    pub there : (x : ℕ) → IsIn (cells_of stack) x → IsSome (get cells x)
    pub leads : (x : ℕ) → IsIn (cells_of stack) x → LeadsTo cells (λ y. y ≡ cell) x
    pub first : IsIn planned cell ⊎ IsIn (cells_of stack) cell

  -- at first
  pub grows_first : (cell : ℕ) (old : List ℕ) (o : Open) → IsOrder cells old → (IsIn old cell → ⊥) → IsSome (get cells cell) → o.cell ≡ cell → ((y : ℕ) → Uses cells y cell → IsLeft o.users y) → Growing cell old old (o ∷ [])
  grows_first cell old o order new there same users = record {
    order = order;
    kept = λ x m. m;
    only = λ x m. inl m;
    stands = (λ y u. inr (inl (users y (subst (Uses cells y) same u))), λ y m. in_none y m, tt);
    new = λ x m. new_at x (one x m);
    there = λ x m. subst (λ z. IsSome (get cells z)) (one x m) there;
    leads = λ x m. itself x (sym (one x m));
    first = inr (0, ap Some same);
  }
    where
      one : (x : ℕ) → IsIn (o.cell ∷ []) x → cell ≡ x
      one x m = elim (in_cases x o.cell [] m) [ inl e ↦ sym same ∙ e | inr n ↦ in_none x n ]

      new_at : (x : ℕ) → cell ≡ x → IsIn old x → ⊥
      new_at x e m = new (subst (IsIn old) (sym e) m)

  -- at last
  pub grown : (cell : ℕ) (old planned : List ℕ) → Growing cell old planned [] → Adds cells cell old planned
  grown cell old planned g = record {
    here = elim g.first [ inl m ↦ m | inr n ↦ in_none cell n ];
    kept = g.kept;
    only = g.only;
  }

  -- The top is planned, once all its users are.
  module _ (cell : ℕ) (old planned : List ℕ) (stack : List Open) (o : Open) (g : Growing cell old planned (stack ++ o ∷ [])) where
    -- it is on the stack
    at_top : IsIn (cells_of (stack ++ o ∷ [])) o.cell
    at_top = push_in stack o o.cell (inr refl)

    all_users : ((u : Use) → IsIn o.users u → IsIn planned u.cell) → (y : ℕ) → Uses cells y o.cell → IsIn planned y
    all_users done y u = elim (top_users planned stack o g.stands y u) [ inl p ↦ p | inr l ↦ subst (IsIn planned) l.1 (done l.0 l.2) ]

    ordered : ((u : Use) → IsIn o.users u → IsIn planned u.cell) → IsOrder cells (planned ++ o.cell ∷ [])
    ordered done = record {
      there = λ x m. elim (in_pushed x o.cell planned m) [ inl p ↦ g.order.there x p | inr e ↦ subst (λ z. IsSome (get cells z)) e (g.there o.cell at_top) ];
      once = λ m n x a b. once m n x (get_pushed planned o.cell m x a) (get_pushed planned o.cell n x b);
      users_first = λ i x y a u. first i x y u (get_pushed planned o.cell i x a);
    }
      where
        no : (n x : ℕ) → slice_get planned n ≡ Some x → o.cell ≡ x → ⊥
        no n x a e = g.new o.cell at_top (n, a ∙ ap Some (sym e))

        once : (m n x : ℕ) → (slice_get planned m ≡ Some x) ⊎ ((m ≡ length planned) × (o.cell ≡ x)) → (slice_get planned n ≡ Some x) ⊎ ((n ≡ length planned) × (o.cell ≡ x)) → m ≡ n
        once m n x (inl a) (inl b) = g.order.once m n x a b
        once m n x (inl a) (inr b) = absurd (no m x a b.1)
        once m n x (inr a) (inl b) = absurd (no n x b a.1)
        once m n x (inr a) (inr b) = a.0 ∙ sym b.0

        first : (i x y : ℕ) → Uses cells y x → (slice_get planned i ≡ Some x) ⊎ ((i ≡ length planned) × (o.cell ≡ x)) → (j : ℕ) × (j < i) × (slice_get (planned ++ o.cell ∷ []) j ≡ Some y)
        first i x y u (inl a) = let f = g.order.users_first i x y a u in (f.0, f.1, get_front planned (o.cell ∷ []) f.0 y f.2)
        first i x y u (inr b) =
            let m = all_users done y (subst (Uses cells y) (sym b.1) u) in
            let lt : m.0 < length planned = slice_get_within planned m.0 y m.1 in
            let e : i ≡ length planned = b.0 in
            (m.0, omega arith, get_front planned (o.cell ∷ []) m.0 y m.1)

    pub grows_less : ((u : Use) → IsIn o.users u → IsIn planned u.cell) → Growing cell old (planned ++ o.cell ∷ []) stack
    grows_less done = record {
      order = ordered done;
      kept = λ x m. in_left x planned (o.cell ∷ []) (g.kept x m);
      only = λ x m. elim (in_pushed x o.cell planned m) [ inl p ↦ g.only x p | inr e ↦ inr (subst (LeadsTo cells (λ y. y ≡ cell)) e (g.leads o.cell at_top)) ];
      stands = stands_less planned stack o g.stands;
      new = λ x m k. elim (in_pushed x o.cell planned k) [
        | inl p ↦ g.new x (push_in stack o x (inl m)) p
        | inr e ↦ (let lt : rank x < rank o.cell = below_top planned stack o g.stands x m in let q : rank o.cell ≡ rank x = ap rank e in omega arith)
      ];
      there = λ x m. g.there x (push_in stack o x (inl m));
      leads = λ x m. g.leads x (push_in stack o x (inl m));
      first = elim g.first [
        | inl p ↦ inl (in_left cell planned (o.cell ∷ []) p)
        | inr m ↦ elim (in_push stack o cell m) [ inl k ↦ inr k | inr e ↦ inl (subst (λ z. IsIn (planned ++ o.cell ∷ []) z) e (in_last o.cell planned)) ]
      ];
    }

    -- there was room for it
    pub counted : length planned + length (stack ++ o ∷ []) ≤ len cells
    counted =
        let l : length (planned ++ cells_of (stack ++ o ∷ [])) ≤ len cells = no_more_than cells (planned ++ cells_of (stack ++ o ∷ [])) (differ_both planned (cells_of (stack ++ o ∷ [])) (differ_once planned g.order.once) (stack_differs planned (stack ++ o ∷ []) g.stands) (λ x m k. g.new x k m)) (λ x m. elim (in_either x planned (cells_of (stack ++ o ∷ [])) m) [ inl p ↦ g.order.there x p | inr k ↦ g.there x k ]) in
        let a : length (planned ++ cells_of (stack ++ o ∷ [])) ≡ length planned + length (cells_of (stack ++ o ∷ [])) = length-append planned (cells_of (stack ++ o ∷ [])) in
        let b : length (cells_of (stack ++ o ∷ [])) ≡ length (stack ++ o ∷ []) = length-map (stack ++ o ∷ []) _ in
        omega arith

    pub turns_less : turns cells (planned ++ o.cell ∷ []) stack < turns cells planned (stack ++ o ∷ [])
    turns_less =
        let c = counted in
        let a : length (planned ++ o.cell ∷ []) ≡ length planned + 1 = length-append planned (o.cell ∷ []) in
        let b : length (stack ++ o ∷ []) ≡ length stack + 1 = length-append stack (o ∷ []) in
        omega arith

    -- One of its users comes above it.
    module _ (rising : (x y : ℕ) → Uses cells y x → rank x < rank y) (r p : Open) (same : r.cell ≡ o.cell) (found : IsFirst (IsIn planned) o.users r.users p.cell)
        (is_user : Uses cells p.cell o.cell) (users : (y : ℕ) → Uses cells y p.cell → IsLeft p.users y) where
      there_more : (x : ℕ) → Uses cells p.cell x → IsSome (get cells p.cell)
      there_more x u = let f = u.1 in subst IsSome (sym f.1) refl

      back : (x : ℕ) → IsIn (cells_of (stack ++ r ∷ p ∷ [])) x → IsIn (cells_of (stack ++ o ∷ [])) x ⊎ (p.cell ≡ x)
      back x m = both_back planned o p r same found.others (rising o.cell p.cell is_user) users stack x m

      pub grows_more : Growing cell old planned (stack ++ r ∷ p ∷ [])
      grows_more = record {
        order = g.order;
        kept = g.kept;
        only = g.only;
        stands = stands_more planned o p r same found.others (rising o.cell p.cell is_user) users stack g.stands;
        new = λ x m k. elim (back x m) [ inl l ↦ g.new x l k | inr e ↦ found.new (subst (IsIn planned) (sym e) k) ];
        there = λ x m. elim (back x m) [ inl l ↦ g.there x l | inr e ↦ subst (λ z. IsSome (get cells z)) e (there_more o.cell is_user) ];
        leads = λ x m. elim (back x m) [ inl l ↦ g.leads x l | inr e ↦ subst (LeadsTo cells (λ y. y ≡ cell)) e (through o.cell p.cell (g.leads o.cell at_top) is_user) ];
        first = elim g.first [
          | inl m ↦ inl m
          | inr m ↦ inr (both_there planned o p r same found.others (rising o.cell p.cell is_user) users stack cell m)
        ];
      }
