-- Each text of a block is a statement of it, or stands in a loop of it.
use Rattle.std.proofs.Common.{◌≡◌, ℕ, List, [], ◌∷◌, true, false, refl, subst}
use Rattle.imp_slots.specs.Plain.{Guard, Code, Stop, Simple, If, While, Call, Break}
use Rattle.batch_meaning.specs.Batch.{LoopOptions}
use Rattle.cell_names.specs.declared.frame.Point.TheVariants.{Body}
use Rattle.base_values.proofs.Members.{Member, here, there, in_left, in_right, Each, each_more, each_both, none_there, each_as}
use Rattle.cell_rows.specs.Names.{Scope, bare, behind_it, inside, entry, level}
use Rattle.cell_rows.specs.Targets.{Text, text, deeper, texts}
use Rattle.cell_rows.proofs.Listed.{each_map, one}
use Rattle.cell_rows.proofs.Shown.{U, Seat}

module _ (engine : LoopOptions) (e : Scope) (z : List ℕ) where
  abbrev L : Code → U → List Seat
  L = level engine bare e z

  abbrev E : U → Code → Seat
  E = entry engine bare e z

  abbrev after : Code → U → U
  after = behind_it engine bare e z

  abbrev seat : ℕ → U → Code → Seat
  seat n y d = (n, record { before = y; code = d })

  -- A text in no loop is a statement of the block; one in a loop n is in the body of the block's statement n.
  pub record On (c : Code) (x : U) (q : ℕ × Text) : Type 0 where
    pub before : U
    pub front : before.point ≡ q.1.front
    pub there : Member (seat q.0 before q.1.code) (L c x)

  pub record Under (c : Code) (x : U) (n : ℕ) (q : ℕ × Text) : Type 0 where
    pub before : U
    pub guard : Guard
    pub body : Code
    pub rest : Code
    pub there : Member (seat n before (While n guard body rest)) (L c x)
    pub inner : Member q (texts body Body)

  pub record Sits (c : Code) (x : U) (q : ℕ × Text) : Type 0 where
    pub on : q.1.loops ≡ [] → On c x q
    pub under : (n : ℕ) (more : List ℕ) → q.1.loops ≡ n ∷ more → Under c x n (q.0, text more q.1.front q.1.code)

  sits_more : (c d : Code) (x y : U) → ((p : Seat) → Member p (L c x) → Member p (L d y)) → (xs : List (ℕ × Text)) → Each (Sits c x) xs → Each (Sits d y) xs
  sits_more c d x y f xs e =
      each_as (Sits c x) (Sits d y) xs
      (λ q s. record {
        on = λ h. let o = s.on h in record { before = o.before; front = o.front; there = f _ o.there };
        under = λ n more h. let u = s.under n more h in record { before = u.before; guard = u.guard; body = u.body; rest = u.rest; there = f _ u.there; inner = u.inner };
      }) e

  itself : (c : Code) (x : U) → Member (E x c) (L c x) → Sits c x (one x.point c)
  itself c x m = record { on = λ h. record { before = x; front = refl; there = m }; under = λ n more h. absurd cc }

  pub sits : (c : Code) (x : U) → Each (Sits c x) (texts c x.point)
  sits Stop x = none_there (Sits Stop x)
  sits (Simple n effect r) x =
      let c = Simple n effect r in
      each_more (Sits c x) (one x.point c) _ (itself c x here) (sits_more r c (after c x) x (λ p. there) _ (sits r (after c x)))
  sits (If n guard t f r) x =
      let c = If n guard t f r in
      let xt = inside engine bare e z true n guard x in
      let xf = inside engine bare e z false n guard x in
      each_more (Sits c x) (one x.point c) _ (itself c x here)
      (each_both (Sits c x) _ _ (sits_more t c xt x (λ p m. there (in_left _ m)) _ (sits t xt))
      (each_both (Sits c x) _ _ (sits_more f c xf x (λ p m. there (in_right (L t xt) (in_left _ m))) _ (sits f xf))
      (sits_more r c (after c x) x (λ p m. there (in_right (L t xt) (in_right (L f xf) m))) _ (sits r (after c x)))))
  sits (While n guard b r) x =
      let c = While n guard b r in
      each_more (Sits c x) (one x.point c) _ (itself c x here)
      (each_both (Sits c x) _ _ (each_map (deeper n) (λ q. Member q (texts b Body)) (Sits c x) in_body (texts b Body) (record { at = λ q m. m }))
      (sits_more r c (after c x) x (λ p. there) _ (sits r (after c x))))
    where
      at_it : (q : ℕ × Text) (more : List ℕ) → q.1.loops ≡ more → Member q (texts b Body) → Under (While n guard b r) x n (q.0, text more q.1.front q.1.code)
      at_it q more h m = record { before = x; guard = guard; body = b; rest = r; there = here; inner = subst (λ ls. Member (q.0, text ls q.1.front q.1.code) (texts b Body)) h m }

      in_body : (q : ℕ × Text) → Member q (texts b Body) → Sits (While n guard b r) x (deeper n q)
      in_body q m = record {
        on = λ h. absurd cc;
        under = λ k more h.
            let i : n ≡ k = cc in
            let j : q.1.loops ≡ more = cc in
            subst (λ k. Under (While n guard b r) x k (q.0, text more q.1.front q.1.code)) i (at_it q more j m);
      }
  sits (Call n call q r) x =
      let c = Call n call q r in
      each_more (Sits c x) (one x.point c) _ (itself c x here) (sits_more r c (after c x) x (λ p. there) _ (sits r (after c x)))
  sits (Break n r) x =
      let c = Break n r in
      each_more (Sits c x) (one x.point c) _ (itself c x here) (sits_more r c (after c x) x (λ p. there) _ (sits r (after c x)))
