-- An item is taken out of its list.
use Rattle.std.proofs.Common.{◌≡◌, ◌≢◌, ℕ, ◌<◌, Option, Some, None, refl, sym, ap, ◌∙◌, subst, arith, ◌⊎◌, inl, inr}
use Rattle.daig_graph.specs.Linked.{Member, AreLinked}
use Rattle.daig_graph.proofs.Cases.{Decides, has_item, none-some}
use Rattle.std.proofs.lemmas.Option.{same_Some}
use Rattle.std.proofs.lemmas.Bool.{cases_eq}

module _ {K : Type 0} (decide : Decides K) (old new : K → Option (Member K)) (firsts new_firsts : ℕ → Option K) (key : K) (r : Member K) where
  pub record Removed : Type 0 where
    pub there : old key ≡ Some r
    pub gone : new key ≡ None
    pub before : (k : K) (m : Member K) → r.before ≡ Some k → old k ≡ Some m → new k ≡ Some (record m { next = r.next })
    pub next : (k : K) (m : Member K) → r.next ≡ Some k → old k ≡ Some m → new k ≡ Some (record m { before = r.before })
    pub others : (k : K) → k ≢ key → r.before ≢ Some k → r.next ≢ Some k → new k ≡ old k
    pub head : r.before ≡ None → new_firsts r.list ≡ r.next
    pub heads : (q : ℕ) → (r.before ≡ None → q ≢ r.list) → new_firsts q ≡ firsts q

  module _ (linked : AreLinked old firsts) (there : old key ≡ Some r) where
    -- the member before the key has it after itself, and the one after has it before
    pub next_of_before : (k : K) (m : Member K) → r.before ≡ Some k → old k ≡ Some m → (m.next ≡ Some key) × (m.list ≡ r.list)
    next_of_before k m b e =
        let n = linked.back key k r there b in
        let same : n.0 ≡ m = same_Some _ _ (sym n.1 ∙ e) in
        (sym (ap (λ o. o.next) same) ∙ n.3, sym (ap (λ o. o.list) same) ∙ n.2)

    pub before_of_next : (k : K) (m : Member K) → r.next ≡ Some k → old k ≡ Some m → (m.before ≡ Some key) × (m.list ≡ r.list)
    before_of_next k m b e =
        let n = linked.ahead key k r there b in
        let same : n.0 ≡ m = same_Some _ _ (sym n.1 ∙ e) in
        (sym (ap (λ o. o.before) same) ∙ n.3, sym (ap (λ o. o.list) same) ∙ n.2)

    -- nothing stands before it and after it
    pub sides_apart : (k : K) {P : Type 0} → r.before ≡ Some k → r.next ≡ Some k → P
    sides_apart k b a =
        let n = linked.back key k r there b in
        let up = linked.falls k key n.0 n.1 n.3 in
        let down = linked.falls key k r there a in
        absurd (omega (arith, up, down))

    pub before_apart : (k : K) → r.before ≡ Some k → k ≢ key
    before_apart k b same =
        let n = linked.back key k r there b in
        let up = linked.falls k key n.0 n.1 n.3 in
        absurd (omega (arith, up, ap linked.rank same))

    pub next_apart : (k : K) → r.next ≡ Some k → k ≢ key
    next_apart k a same = absurd (omega (arith, linked.falls key k r there a, ap linked.rank same))

  module _ (linked : AreLinked old firsts) (p : Removed) where
    -- what a member of another key became: its place, and its neighbours
    record Became (k : K) (m to : Member K) : Type 0 where
      list_same : to.list ≡ m.list
      next_is : ((r.before ≡ Some k) × (m.next ≡ Some key) × (to.next ≡ r.next)) ⊎ ((to.next ≡ m.next) × (m.next ≢ Some key))
      before_is : ((r.next ≡ Some k) × (m.before ≡ Some key) × (to.before ≡ r.before)) ⊎ ((to.before ≡ m.before) × (m.before ≢ Some key))

    -- a member has the key after it only where it stands before it
    is_before : (k : K) (m : Member K) → old k ≡ Some m → m.next ≡ Some key → r.before ≡ Some k
    is_before k m e a =
        let n = linked.ahead k key m e a in
        ap (λ o. o.before) (same_Some _ _ (sym p.there ∙ n.1)) ∙ n.3

    is_next : (k : K) (m : Member K) → old k ≡ Some m → m.before ≡ Some key → r.next ≡ Some k
    is_next k m e b =
        let n = linked.back k key m e b in
        ap (λ o. o.next) (same_Some _ _ (sym p.there ∙ n.1)) ∙ n.3

    became : (k : K) (m : Member K) → k ≢ key → old k ≡ Some m → (to : Member K) × (new k ≡ Some to) × Became k m to
    became k m ne e = elim (has_item decide r.before k) [
      | inl b ↦
          let side = next_of_before linked p.there k m b e in (
            record m { next = r.next },
            p.before k m b e,
            record {
              list_same = refl;
              next_is = inl (b, side.0, refl);
              before_is = inr (refl, λ h. sides_apart linked p.there k b (is_next k m e h));
            },
          )
      | inr b ↦ elim (has_item decide r.next k) [
        | inl a ↦
            let side = before_of_next linked p.there k m a e in (
              record m { before = r.before },
              p.next k m a e,
              record {
                list_same = refl;
                next_is = inr (refl, λ h. b (is_before k m e h));
                before_is = inl (a, side.0, refl);
              },
            )
        | inr a ↦ (
          m,
          p.others k ne b a ∙ e,
          record {
            list_same = refl;
            next_is = inr (refl, λ h. b (is_before k m e h));
            before_is = inr (refl, λ h. a (is_next k m e h));
          },
        )
      ]
    ]

    left : (k : K) (m : Member K) → new k ≡ Some m → k ≢ key
    left k m e same = none-some (sym p.gone ∙ ap new (sym same) ∙ e)

    -- what a member was
    was_there : (k : K) (m : Member K) → new k ≡ Some m → (o : Option (Member K)) → old k ≡ o → (was : Member K) × (old k ≡ Some was) × Became k was m
    was_there k m e None h = none-some (sym h ∙ sym (p.others k (left k m e) (λ b. let n = linked.back key k r p.there b in none-some (sym h ∙ n.1)) (λ a. let n = linked.ahead key k r p.there a in none-some (sym h ∙ n.1))) ∙ e)
    was_there k m e (Some was) h =
        let b = became k was (left k m e) h in
        let same : b.0 ≡ m = same_Some _ _ (sym b.1 ∙ e) in
        let P : Member K → Type 0 = Became k was in
        (was, h, subst P same b.2)

    next_first : (l : ℕ) (k : K) → new_firsts l ≡ Some k → (m : Member K) × (new k ≡ Some m) × (m.list ≡ l) × (m.before ≡ None)
    next_first l k e = by (r.before) refl (cases_eq l r.list)
      where
        kept : (r.before ≡ None → l ≢ r.list) → (m : Member K) × (new k ≡ Some m) × (m.list ≡ l) × (m.before ≡ None)
        kept other =
            let there = linked.first l k (sym (p.heads l other) ∙ e) in
            let ne : k ≢ key = λ same.
            let is : there.0 ≡ r = same_Some _ _ (sym there.1 ∙ ap old same ∙ p.there) in
            other (sym (ap (λ o. o.before) is) ∙ there.3) (sym there.2 ∙ ap (λ o. o.list) is) in
            let b = became k there.0 ne there.1 in (
              b.0,
              b.1,
              b.2.list_same ∙ there.2,
              elim b.2.before_is [
                | inl h ↦ none-some (sym there.3 ∙ h.1)
                | inr h ↦ h.0 ∙ there.3
              ],
            )

        by : (o : Option K) → r.before ≡ o → (l ≡ r.list) ⊎ (l ≢ r.list) → (m : Member K) × (new k ≡ Some m) × (m.list ≡ l) × (m.before ≡ None)
        by (Some j) h side = kept (λ none. none-some (sym none ∙ h))
        by None h (inr ne) = kept (λ none. ne)
        by None h (inl same) =
            let a : r.next ≡ Some k = sym (p.head h) ∙ ap new_firsts (sym same) ∙ e in
            let n = linked.ahead key k r p.there a in
            (record n.0 { before = r.before }, p.next k n.0 a n.1, n.2 ∙ sym same, h)

    next_front : (k : K) (m : Member K) → new k ≡ Some m → m.before ≡ None → new_firsts m.list ≡ Some k
    next_front k m e none =
        let w = was_there k m e (old k) refl in
        ap new_firsts w.2.list_same ∙ elim w.2.before_is [
          | inl h ↦
              let side = before_of_next linked p.there k w.0 h.0 w.1 in
              ap new_firsts side.1 ∙ p.head (sym h.2 ∙ none) ∙ h.0
          | inr h ↦
              let first = linked.front k w.0 w.1 (sym h.0 ∙ none) in
              p.heads w.0.list (λ b same.
              left k m e (same_Some _ _ (sym first ∙ ap firsts same ∙ linked.front key r p.there b))) ∙ first
        ]

    -- what stands before a member that is left has it after itself
    facing : (k j : K) (n : Member K) → j ≢ key → k ≢ key → old j ≡ Some n → n.next ≡ Some k → (to : Member K) × (new j ≡ Some to) × (to.list ≡ n.list) × (to.next ≡ Some k)
    facing k j n nj nk e a =
        let b = became j n nj e in (
          b.0,
          b.1,
          b.2.list_same,
          elim b.2.next_is [
            | inl h ↦ absurd (nk (same_Some _ _ (sym a ∙ h.1)))
            | inr h ↦ h.0 ∙ a
          ],
        )

    back_from : (k j : K) (m was : Member K) → old k ≡ Some was → Became k was m → k ≢ key → m.before ≡ Some j → (n : Member K) × (new j ≡ Some n) × (n.list ≡ m.list) × (n.next ≡ Some k)
    back_from k j m was at b ne some =
        elim b.before_is [
          | inl h ↦
              let f : r.before ≡ Some j = sym h.2 ∙ some in
              let n = linked.back key j r p.there f in
              let side = before_of_next linked p.there k was h.0 at in
              let here : r.list ≡ m.list = sym side.1 ∙ sym b.list_same in
              (record n.0 { next = r.next }, p.before j n.0 f n.1, n.2 ∙ here, h.0)
          | inr h ↦
              let n = linked.back k j was at (sym h.0 ∙ some) in
              let nj : j ≢ key = λ same. h.1 (sym h.0 ∙ some ∙ ap Some same) in
              let f = facing k j n.0 nj ne n.1 n.3 in
              (f.0, f.1, f.2 ∙ n.2 ∙ sym b.list_same, f.3)
        ]

    next_back : (k j : K) (m : Member K) → new k ≡ Some m → m.before ≡ Some j → (n : Member K) × (new j ≡ Some n) × (n.list ≡ m.list) × (n.next ≡ Some k)
    next_back k j m e some = let w = was_there k m e (old k) refl in back_from k j m w.0 w.1 w.2 (left k m e) some

    backing : (k j : K) (n : Member K) → j ≢ key → k ≢ key → old j ≡ Some n → n.before ≡ Some k → (to : Member K) × (new j ≡ Some to) × (to.list ≡ n.list) × (to.before ≡ Some k)
    backing k j n nj nk e a =
        let b = became j n nj e in (
          b.0,
          b.1,
          b.2.list_same,
          elim b.2.before_is [
            | inl h ↦ absurd (nk (same_Some _ _ (sym a ∙ h.1)))
            | inr h ↦ h.0 ∙ a
          ],
        )

    ahead_from : (k j : K) (m was : Member K) → old k ≡ Some was → Became k was m → k ≢ key → m.next ≡ Some j → (n : Member K) × (new j ≡ Some n) × (n.list ≡ m.list) × (n.before ≡ Some k)
    ahead_from k j m was at b ne some =
        elim b.next_is [
          | inl h ↦
              let a : r.next ≡ Some j = sym h.2 ∙ some in
              let n = linked.ahead key j r p.there a in
              let side = next_of_before linked p.there k was h.0 at in
              let here : r.list ≡ m.list = sym side.1 ∙ sym b.list_same in
              (record n.0 { before = r.before }, p.next j n.0 a n.1, n.2 ∙ here, h.0)
          | inr h ↦
              let n = linked.ahead k j was at (sym h.0 ∙ some) in
              let nj : j ≢ key = λ same. h.1 (sym h.0 ∙ some ∙ ap Some same) in
              let f = backing k j n.0 nj ne n.1 n.3 in
              (f.0, f.1, f.2 ∙ n.2 ∙ sym b.list_same, f.3)
        ]

    next_ahead : (k j : K) (m : Member K) → new k ≡ Some m → m.next ≡ Some j → (n : Member K) × (new j ≡ Some n) × (n.list ≡ m.list) × (n.before ≡ Some k)
    next_ahead k j m e some = let w = was_there k m e (old k) refl in ahead_from k j m w.0 w.1 w.2 (left k m e) some

    next_falls : (k j : K) (m : Member K) → new k ≡ Some m → m.next ≡ Some j → linked.rank j < linked.rank k
    next_falls k j m e some =
        let w = was_there k m e (old k) refl in
        elim w.2.next_is [
          | inl h ↦
              let up = linked.falls k key w.0 w.1 h.1 in
              let down = linked.falls key j r p.there (sym h.2 ∙ some) in
              omega (arith, up, down)
          | inr h ↦ linked.falls k j w.0 w.1 (sym h.0 ∙ some)
        ]

    next_low : (k : K) (m : Member K) → new k ≡ Some m → linked.rank k < linked.peak
    next_low k m e = let w = was_there k m e (old k) refl in linked.low k w.0 w.1

    pub linked-remove : AreLinked new new_firsts
    linked-remove = record { first = next_first; front = next_front; back = next_back; ahead = next_ahead; rank = linked.rank; peak = linked.peak; falls = next_falls; low = next_low }
