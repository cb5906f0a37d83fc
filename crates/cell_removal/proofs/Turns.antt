-- Turns of the walk, and what they keep.
use Rattle.std.proofs.Common.{◌≡◌, ℕ, ◌<◌, ◌+◌, ◌↔◌, ◌⊎◌, List, [], ◌∷◌, ◌++◌, length, Some, IsSome, is_some, refl, sym, ap, subst, ◌∙◌, inl, inr, arith, append_assoc, length-append}
use Rattle.std.specs.FinMap.{get}
use Rattle.std.proofs.lemmas.Bool.{cases_eq}
use Rattle.daig_graph.specs.Cells.{IsUse}
use Rattle.daig_graph.specs.Held.{IsIn}
use Rattle.daig_graph.specs.declared.graph.Use.{Use}
use Rattle.cell_removal.specs.declared.planning.Open.{Open}
use Rattle.cell_removal.specs.Removal.{Cells, Uses, IsRising, IsOrder, IsFirst, Adds}
use Rattle.cell_removal.specs.Marks.{HasMark, Puts, AreMarked}
use Rattle.cell_removal.specs.Turns.{AreOpenUsers, IsOpened, Turns}
use Rattle.cell_removal.specs.Turns as turn
use Rattle.cell_removal.proofs.Ins.{in_none, in_cases, in_left, in_last, in_pushed}
use Rattle.cell_removal.proofs.Stacks.{IsLeft, cells_of, cells_push, in_push, push_in, below_top, Growing, grows_less, turns, turns_less, turns_more, counted, grows_more, grows_first, grown}

pub opens : {V : Type 0} (cells : Cells V) (cell : ℕ) (o : Open) → o.cell ≡ cell → ((u : Use) → IsIn o.users u ↔ IsUse cells cell u) → IsOpened cells cell o
opens cells cell o e u = record { same = e; uses = u }

pub takes : {V : Type 0} (cells : Cells V) (o : Open) (marks planned now : List ℕ) (stack : List Open) → ((u : Use) → IsIn o.users u → HasMark marks u.cell) → now ≡ planned ++ o.cell ∷ [] → Turns cells o marks planned marks now stack stack
takes cells o marks planned now stack all e = subst (λ xs. Turns cells o marks planned marks xs stack stack) (sym e) (turn.takes stack all)

pub goes : {V : Type 0} (cells : Cells V) (o r p : Open) (marks planned marked : List ℕ) (stack more most : List Open) (user : ℕ) → r.cell ≡ o.cell → IsFirst (HasMark marks) o.users r.users user → IsOpened cells user p → Puts marks marked user
    → more ≡ stack ++ r ∷ [] → most ≡ more ++ p ∷ [] → Turns cells o marks planned marked planned stack most
goes cells o r p marks planned marked stack more most user e f i m a b =
    let g : IsFirst (HasMark marks) o.users r.users p.cell = subst (IsFirst (HasMark marks) o.users r.users) (sym i.same) f in
    let j : IsOpened cells p.cell p = subst (λ n. IsOpened cells n p) (sym i.same) i in
    let n : Puts marks marked p.cell = subst (Puts marks marked) (sym i.same) m in
    subst (λ xs. Turns cells o marks planned marked planned stack xs) (sym (b ∙ ap (λ xs. xs ++ p ∷ []) a)) (turn.goes marked stack r p e g j n)

all_left : {V : Type 0} (cells : Cells V) (cell : ℕ) (o : Open) → IsOpened cells cell o → (y : ℕ) → Uses cells y cell → IsLeft o.users y
all_left cells cell o i y u = (record { cell = y; place = u.0 }, refl, (i.uses (record { cell = y; place = u.0 })).1 u.1)

is_use : {V : Type 0} (cells : Cells V) (x : ℕ) (u : Use) → IsUse cells x u → Uses cells u.cell x
is_use cells x u h = (u.place, h)

-- What a walk keeps: of all ranks that rise, what holds of its stack; and of each cell on it, that what is left of its uses
-- are uses.
pub record Walks {V : Type 0} (cells : Cells V) (cell : ℕ) (old planned : List ℕ) (stack : List Open) : Type 0 where
  pub growing : (r : IsRising cells) → Growing cells r.rank cell old planned stack
  pub are_uses : (o : Open) (u : Use) → IsIn stack o → IsIn o.users u → IsUse cells o.cell u

at_top : (stack : List Open) (o : Open) → IsIn (cells_of (stack ++ o ∷ [])) o.cell
at_top stack o = subst (λ xs. IsIn xs o.cell) (sym (cells_push stack o)) (in_last o.cell (cells_of stack))

module _ {V : Type 0} (cells : Cells V) (cell : ℕ) (old : List ℕ) where
  -- at first
  walks_first : (o : Open) (stack : List Open) → IsOpened cells cell o → stack ≡ o ∷ [] → (IsIn old cell → ⊥) → IsSome (get cells cell) → IsOrder cells old → Walks cells cell old old stack
  walks_first o stack i e new there order = subst (Walks cells cell old old) (sym e) (record {
    growing = λ up. grows_first cells up.rank cell old o order new there i.same (all_left cells cell o i);
    are_uses = λ q u m k. elim (in_cases q o [] m) [
      | inl s ↦ subst (λ (z : Open). IsUse cells z.cell u) s (subst (λ n. IsUse cells n u) (sym i.same) ((i.uses u).0 (subst (λ (z : Open). IsIn z.users u) (sym s) k)))
      | inr n ↦ in_none q n
    ];
  })

  -- at last
  walks_last : (planned : List ℕ) (stack : List Open) → IsRising cells → Walks cells cell old planned stack → stack ≡ [] → IsOrder cells planned × Adds cells cell old planned
  walks_last planned stack up w e =
      let g = subst (Growing cells up.rank cell old planned) e (w.growing up) in
      (g.order, grown cells up.rank cell old planned g)

  module _ (planned : List ℕ) (stack : List Open) (o : Open) (w : Walks cells cell old planned (stack ++ o ∷ [])) where
    taken : ((u : Use) → IsIn o.users u → IsIn planned u.cell) → Walks cells cell old (planned ++ o.cell ∷ []) stack
    taken all = record {
      growing = λ up. grows_less cells up.rank cell old planned stack o (w.growing up) all;
      are_uses = λ q u m k. w.are_uses q u (in_left q stack (o ∷ []) m) k;
    }

    taken_less : IsRising cells → turns cells (planned ++ o.cell ∷ []) stack < turns cells planned (stack ++ o ∷ [])
    taken_less up = turns_less cells up.rank cell old planned stack o (w.growing up)

    module _ (r p : Open) (same : r.cell ≡ o.cell) (found : IsFirst (IsIn planned) o.users r.users p.cell) (i : IsOpened cells p.cell p) where
      user : Uses cells p.cell o.cell
      user = is_use cells o.cell (record { cell = p.cell; place = found.place }) (w.are_uses o (record { cell = p.cell; place = found.place }) (in_last o stack) found.there)

      grows : (up : IsRising cells) → Growing cells up.rank cell old planned ((stack ++ r ∷ []) ++ p ∷ [])
      grows up =
          subst (Growing cells up.rank cell old planned) (sym (append_assoc stack (r ∷ []) (p ∷ [])))
          (grows_more cells up.rank cell old planned stack o (w.growing up) up.falls r p same found user (all_left cells p.cell p i))

      gone_on : Walks cells cell old planned ((stack ++ r ∷ []) ++ p ∷ [])
      gone_on = record {
        growing = grows;
        are_uses = λ q u m k. elim (in_pushed q p (stack ++ r ∷ []) m) [
          | inl l ↦ elim (in_pushed q r stack l) [
            | inl s ↦ w.are_uses q u (in_left q stack (o ∷ []) s) k
            | inr e ↦ (let h : IsIn o.users u = found.less u (subst (λ (z : Open). IsIn z.users u) (sym e) k) in
                let g : IsUse cells o.cell u = w.are_uses o u (in_last o stack) h in
                subst (λ (z : Open). IsUse cells z.cell u) e (subst (λ n. IsUse cells n u) (sym same) g))
          ]
          | inr e ↦ subst (λ (z : Open). IsUse cells z.cell u) e ((i.uses u).0 (subst (λ (z : Open). IsIn z.users u) (sym e) k))
        ];
      }

      gone_less : IsRising cells → turns cells planned ((stack ++ r ∷ []) ++ p ∷ []) < turns cells planned (stack ++ o ∷ [])
      gone_less up =
          let a : length ((stack ++ r ∷ []) ++ p ∷ []) ≡ length (stack ++ r ∷ []) + 1 = length-append (stack ++ r ∷ []) (p ∷ []) in
          let b : length (stack ++ r ∷ []) ≡ length stack + 1 = length-append stack (r ∷ []) in
          let c : length (stack ++ o ∷ []) ≡ length stack + 1 = length-append stack (o ∷ []) in
          turns_more cells planned (stack ++ o ∷ []) ((stack ++ r ∷ []) ++ p ∷ []) (omega arith) (counted cells up.rank cell old planned (stack ++ r ∷ []) p (grows up))

-- exactly what is planned or stands on the stack is marked
abbrev pub Agree : List ℕ → List ℕ → List Open → Type 0
Agree marks planned stack = (n : ℕ) → HasMark marks n ↔ (IsIn planned n ⊎ IsIn (cells_of stack) n)

-- one more number that is marked
module _ (marks more : List ℕ) (cell : ℕ) (m : Puts marks more cell) where
  mark_kept : (n : ℕ) → HasMark marks n → HasMark more n
  mark_kept n h = elim (cases_eq n cell) [ inl e ↦ subst (HasMark more) (sym e) m.here | inr ne ↦ (m.others n ne).1 h ]

  mark_was : (n : ℕ) → HasMark more n → HasMark marks n ⊎ (n ≡ cell)
  mark_was n h = elim (cases_eq n cell) [ inl e ↦ inr e | inr ne ↦ inl ((m.others n ne).0 h) ]

-- the first cell is marked
agree_first : (marks more planned : List ℕ) (o : Open) → AreMarked marks planned → Puts marks more o.cell → Agree more planned (o ∷ [])
agree_first marks more planned o a m n = (
  λ h. elim (mark_was marks more o.cell m n h) [ inl k ↦ inl ((a n).0 k) | inr e ↦ inr (0, ap Some (sym e)) ],
  λ h. elim h [
    | inl p ↦ mark_kept marks more o.cell m n ((a n).1 p)
    | inr k ↦ elim (in_cases n o.cell [] k) [ inl e ↦ subst (HasMark more) e m.here | inr none ↦ in_none n none ]
  ],
)

-- nothing is planned yet
pub none_planned : (marks planned : List ℕ) → ((n : ℕ) → HasMark marks n → ⊥) → planned ≡ [] → AreMarked marks planned
none_planned marks planned none e n = (λ h. absurd (none n h), λ m. in_none n (subst (λ xs. IsIn xs n) e m))

-- with nothing on the stack
agree_end : (marks planned : List ℕ) → Agree marks planned [] → AreMarked marks planned
agree_end marks planned a n = (
  λ h. elim ((a n).0 h) [ inl p ↦ p | inr k ↦ in_none n k ],
  λ p. (a n).1 (inl p),
)

module _ {V : Type 0} (cells : Cells V) (rank : ℕ → ℕ) (marks planned : List ℕ) (stack : List Open) (o : Open) (a : Agree marks planned (stack ++ o ∷ [])) where
  agree_less : Agree marks (planned ++ o.cell ∷ []) stack
  agree_less n = (
    λ h. elim ((a n).0 h) [
      | inl p ↦ inl (in_left n planned (o.cell ∷ []) p)
      | inr k ↦ elim (in_push cells rank stack o n k) [ inl s ↦ inr s | inr e ↦ inl (subst (IsIn (planned ++ o.cell ∷ [])) e (in_last o.cell planned)) ]
    ],
    λ h. elim h [
      | inl p ↦ elim (in_pushed n o.cell planned p) [ inl q ↦ (a n).1 (inl q) | inr e ↦ (a n).1 (inr (push_in cells rank stack o n (inr e))) ]
      | inr s ↦ (a n).1 (inr (push_in cells rank stack o n (inl s)))
    ],
  )

  agree_more : (more : List ℕ) (r p : Open) → r.cell ≡ o.cell → Puts marks more p.cell → Agree more planned ((stack ++ r ∷ []) ++ p ∷ [])
  agree_more more r p same m n = (
    λ h. elim (mark_was marks more p.cell m n h) [
      | inl k ↦ elim ((a n).0 k) [
        | inl q ↦ inl q
        | inr s ↦ elim (in_push cells rank stack o n s) [
          | inl t ↦ inr (push_in cells rank (stack ++ r ∷ []) p n (inl (push_in cells rank stack r n (inl t))))
          | inr e ↦ inr (push_in cells rank (stack ++ r ∷ []) p n (inl (push_in cells rank stack r n (inr (same ∙ e)))))
        ]
      ]
      | inr e ↦ inr (push_in cells rank (stack ++ r ∷ []) p n (inr (sym e)))
    ],
    λ h. elim h [
      | inl q ↦ mark_kept marks more p.cell m n ((a n).1 (inl q))
      | inr s ↦ elim (in_push cells rank (stack ++ r ∷ []) p n s) [
        | inl t ↦ mark_kept marks more p.cell m n (elim (in_push cells rank stack r n t) [
          | inl k ↦ (a n).1 (inr (push_in cells rank stack o n (inl k)))
          | inr e ↦ (a n).1 (inr (push_in cells rank stack o n (inr (sym same ∙ e))))
        ])
        | inr e ↦ subst (HasMark more) e m.here
      ]
    ],
  )

-- What the walk keeps, with its marks.
pub record Walking {V : Type 0} (cells : Cells V) (cell : ℕ) (old marks planned : List ℕ) (stack : List Open) : Type 0 where
  pub walks : Walks cells cell old planned stack
  pub agree : Agree marks planned stack

module _ {V : Type 0} (cells : Cells V) (cell : ℕ) (old : List ℕ) where
  -- at first
  pub walking_first : (marks more : List ℕ) (o : Open) (stack : List Open) → IsOpened cells cell o → stack ≡ o ∷ [] → AreMarked marks old → (HasMark marks cell → ⊥) → Puts marks more cell → IsSome (get cells cell) → IsOrder cells old → Walking cells cell old more old stack
  walking_first marks more o stack i e a new m there order = record {
    walks = walks_first cells cell old o stack i e (λ k. new ((a cell).1 k)) there order;
    agree = subst (Agree more old) (sym e) (agree_first marks more old o a (subst (Puts marks more) (sym i.same) m));
  }

  -- at last
  pub walking_last : (marks planned : List ℕ) (stack : List Open) → IsRising cells → Walking cells cell old marks planned stack → stack ≡ [] → IsOrder cells planned × Adds cells cell old planned × AreMarked marks planned
  walking_last marks planned stack up w e =
      let h = walks_last cells cell old planned stack up w.walks e in
      (h.0, h.1, agree_end marks planned (subst (Agree marks planned) e w.agree))

  module _ (up : IsRising cells) (marks planned : List ℕ) (stack : List Open) (o : Open) (w : Walking cells cell old marks planned (stack ++ o ∷ [])) where
    -- a marked user of the top is planned, since it ranks above all on the stack
    is_planned : (u : Use) → IsIn o.users u → HasMark marks u.cell → IsIn planned u.cell
    is_planned u m h =
        let over : up.rank o.cell < up.rank u.cell = up.falls o.cell u.cell (is_use cells o.cell u (w.walks.are_uses o u (in_last o stack) m)) in
        elim ((w.agree u.cell).0 h) [
          | inl p ↦ p
          | inr s ↦ elim (in_push cells up.rank stack o u.cell s) [
            | inl k ↦ (let under : up.rank u.cell < up.rank o.cell = below_top cells up.rank planned stack o (w.walks.growing up).stands u.cell k in absurd (omega (arith, under, over)))
            | inr e ↦ (let same : up.rank o.cell ≡ up.rank u.cell = ap up.rank e in absurd (omega (arith, same, over)))
          ]
        ]

    all_planned : ((u : Use) → IsIn o.users u → HasMark marks u.cell) → (u : Use) → IsIn o.users u → IsIn planned u.cell
    all_planned all u m = is_planned u m (all u m)

    first_planned : (rest : List Use) (user : ℕ) → IsFirst (HasMark marks) o.users rest user → IsFirst (IsIn planned) o.users rest user
    first_planned rest user f = record {
      place = f.place;
      there = f.there;
      new = λ m. f.new ((w.agree user).1 (inl m));
      others = λ u m. elim (f.others u m) [ inl h ↦ inl (is_planned u m h) | inr q ↦ inr q ];
      less = f.less;
    }

  turned : (up : IsRising cells) (o : Open) (marks more planned now : List ℕ) (stack after : List Open) → Turns cells o marks planned more now stack after → Walking cells cell old marks planned (stack ++ o ∷ []) → Walking cells cell old more now after
  turned up o marks _ planned _ _ _ (turn.takes stack all) w = record {
    walks = taken cells cell old planned stack o w.walks (all_planned up marks planned stack o w all);
    agree = agree_less cells up.rank marks planned stack o w.agree;
  }
  turned up o marks _ planned _ _ _ (turn.goes more stack r p same found i m) w = record {
    walks = gone_on cells cell old planned stack o w.walks r p same (first_planned up marks planned stack o w r.users p.cell found) i;
    agree = agree_more cells up.rank marks planned stack o w.agree more r p same m;
  }

  lower : (up : IsRising cells) (o : Open) (marks more planned now : List ℕ) (stack after : List Open) → Turns cells o marks planned more now stack after → Walking cells cell old marks planned (stack ++ o ∷ []) → turns cells now after < turns cells planned (stack ++ o ∷ [])
  lower up o marks _ planned _ _ _ (turn.takes stack all) w = taken_less cells cell old planned stack o w.walks up
  lower up o marks _ planned _ _ _ (turn.goes more stack r p same found i m) w =
      gone_less cells cell old planned stack o w.walks r p same (first_planned up marks planned stack o w r.users p.cell found) i up

  -- over the stack as the code has it
  pub walking_turn : (o : Open) (marks more planned now : List ℕ) (items stack after : List Open) → IsRising cells → Walking cells cell old marks planned items → items ≡ stack ++ o ∷ [] → Turns cells o marks planned more now stack after → Walking cells cell old more now after
  walking_turn o marks more planned now items stack after up w e t = turned up o marks more planned now stack after t (subst (Walking cells cell old marks planned) e w)

  pub turns_fall : (o : Open) (marks more planned now : List ℕ) (items stack after : List Open) → IsRising cells → Walking cells cell old marks planned items → items ≡ stack ++ o ∷ [] → Turns cells o marks planned more now stack after → turns cells now after < turns cells planned items
  turns_fall o marks more planned now items stack after up w e t =
      subst (λ xs. turns cells now after < turns cells planned xs) (sym e) (lower up o marks more planned now stack after t (subst (Walking cells cell old marks planned) e w))

  -- what is left of the users of the cells on the stack are cells
  pub walking_uses : (marks planned : List ℕ) (stack : List Open) → Walking cells cell old marks planned stack → AreOpenUsers cells stack
  walking_uses marks planned stack w o u m k = let h = w.walks.are_uses o u m k in ap is_some h.1
