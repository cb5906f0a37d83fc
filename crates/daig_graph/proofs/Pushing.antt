-- An item is put before a list.
use Rattle.std.proofs.Common.{◌≡◌, ◌≢◌, ℕ, suc, ◌<◌, Option, Some, None, refl, sym, ap, ◌∙◌, arith, ◌⊎◌, inl, inr}
use Rattle.daig_graph.specs.Linked.{Member, AreLinked}
use Rattle.daig_graph.proofs.Cases.{Decides, has_item, none-some}
use Rattle.std.proofs.lemmas.Option.{same_Some}
use Rattle.std.proofs.lemmas.Bool.{cases_eq}

module _ {K : Type 0} (decide : Decides K) (old new : K → Option (Member K)) (firsts new_firsts : ℕ → Option K) (list : ℕ) (key : K) where
  abbrev pub put_member : Member K
  put_member = record { list = list; before = None; next = firsts list }

  pub record Pushed : Type 0 where
    pub fresh : old key ≡ None
    pub here : new key ≡ Some put_member
    pub after : (k : K) (m : Member K) → firsts list ≡ Some k → old k ≡ Some m → new k ≡ Some (record m { before = Some key })
    pub others : (k : K) → k ≢ key → firsts list ≢ Some k → new k ≡ old k
    pub head : new_firsts list ≡ Some key
    pub heads : (q : ℕ) → q ≢ list → new_firsts q ≡ firsts q

  module _ (linked : AreLinked old firsts) (p : Pushed) where
    known : (k : K) (m : Member K) → old k ≡ Some m → k ≢ key
    known k m e same = none-some (sym p.fresh ∙ ap old (sym same) ∙ e)

    -- what a member became
    record Became (k : K) (m : Member K) : Type 0 where
      to : Member K
      at : new k ≡ Some to
      list_same : to.list ≡ m.list
      next_same : to.next ≡ m.next
      before_is : (to.before ≡ m.before) ⊎ ((firsts list ≡ Some k) × (to.before ≡ Some key))

    became : (k : K) (m : Member K) → old k ≡ Some m → Became k m
    became k m e = elim (has_item decide (firsts list) k) [
      | inl f ↦ record { to = record m { before = Some key }; at = p.after k m f e; list_same = refl; next_same = refl; before_is = inr (f, refl) }
      | inr f ↦ record { to = m; at = p.others k (known k m e) f ∙ e; list_same = refl; next_same = refl; before_is = inl refl }
    ]

    -- what a member was: new, the first of the list, or the same
    record WasFirst (k : K) (m : Member K) : Type 0 where
      was : Member K
      at : old k ≡ Some was
      first : firsts list ≡ Some k
      is : m ≡ record was { before = Some key }

    Was : (k : K) (m : Member K) → Type 0
    Was k m = ((k ≡ key) × (m ≡ put_member)) ⊎ (WasFirst k m ⊎ ((old k ≡ Some m) × (firsts list ≢ Some k)))

    was : (k : K) (m : Member K) → new k ≡ Some m → Was k m
    unfolding Was
    was k m e = elim (decide k key) [
      | inl same ↦ inl (same, same_Some _ _ (sym e ∙ ap new same ∙ p.here))
      | inr ne ↦ elim (has_item decide (firsts list) k) [
        | inl f ↦ let there = linked.first list k f in
            inr (inl (record { was = there.0; at = there.1; first = f; is = same_Some _ _ (sym e ∙ p.after k there.0 f there.1) }))
        | inr f ↦ inr (inr (sym (p.others k ne f) ∙ e, f))
      ]
    ]

    next_first : (l : ℕ) (k : K) → new_firsts l ≡ Some k → (m : Member K) × (new k ≡ Some m) × (m.list ≡ l) × (m.before ≡ None)
    next_first l k e = elim (cases_eq l list) [
      | inl same ↦ let k_is : key ≡ k = same_Some _ _ (sym p.head ∙ ap new_firsts (sym same) ∙ e) in (put_member, ap new (sym k_is) ∙ p.here, sym same, refl)
      | inr ne ↦
          let there = linked.first l k (sym (p.heads l ne) ∙ e) in
          let b = became k there.0 there.1 in (
            b.to,
            b.at,
            b.list_same ∙ there.2,
            elim b.before_is [
              | inl h ↦ h ∙ there.3
              | inr h ↦ let own = linked.first list k h.0 in
                  absurd (ne (sym there.2 ∙ ap (λ o. o.list) (same_Some _ _ (sym there.1 ∙ own.1)) ∙ own.2))
            ],
          )
    ]

    next_front : (k : K) (m : Member K) → new k ≡ Some m → m.before ≡ None → new_firsts m.list ≡ Some k
    unfolding Was
    next_front k m e none = elim (was k m e) [
      | inl h ↦ ap (λ o. new_firsts o.list) h.1 ∙ p.head ∙ ap Some (sym h.0)
      | inr (inl h) ↦ none-some (sym none ∙ ap (λ o. o.before) h.is)
      | inr (inr h) ↦
          let there = linked.front k m h.0 none in
          p.heads m.list (λ same. h.1 (ap firsts (sym same) ∙ there)) ∙ there
    ]

    next_back : (k j : K) (m : Member K) → new k ≡ Some m → m.before ≡ Some j → (n : Member K) × (new j ≡ Some n) × (n.list ≡ m.list) × (n.next ≡ Some k)
    unfolding Was
    next_back k j m e some = elim (was k m e) [
      | inl h ↦ none-some (sym (ap (λ o. o.before) h.1) ∙ some)
      | inr (inl h) ↦
          let j_is : key ≡ j = same_Some _ _ (sym (ap (λ o. o.before) h.is) ∙ some) in
          let own = linked.first list k h.first in
          (put_member, ap new (sym j_is) ∙ p.here, sym own.2 ∙ ap (λ o. o.list) (same_Some _ _ (sym own.1 ∙ h.at)) ∙ sym (ap (λ o. o.list) h.is), h.first)
      | inr (inr h) ↦
          let n = linked.back k j m h.0 some in
          let b = became j n.0 n.1 in
          (b.to, b.at, b.list_same ∙ n.2, b.next_same ∙ n.3)
    ]

    -- a member with another before it keeps that
    kept_before : (k j : K) (m : Member K) (e : old j ≡ Some m) → m.before ≡ Some k → (became j m e).to.before ≡ Some k
    kept_before k j m e some = elim (became j m e).before_is [
      | inl h ↦ h ∙ some
      | inr h ↦ let own = linked.first list j h.0 in none-some (sym own.3 ∙ ap (λ o. o.before) (same_Some _ _ (sym own.1 ∙ e)) ∙ some)
    ]

    behind : (k j : K) (m m2 : Member K) → old k ≡ Some m → m2.list ≡ m.list → m.next ≡ Some j → (n : Member K) × (new j ≡ Some n) × (n.list ≡ m2.list) × (n.before ≡ Some k)
    behind k j m m2 e l some =
        let n = linked.ahead k j m e some in
        let b = became j n.0 n.1 in
        (b.to, b.at, b.list_same ∙ n.2 ∙ sym l, kept_before k j n.0 n.1 n.3)

    next_ahead : (k j : K) (m : Member K) → new k ≡ Some m → m.next ≡ Some j → (n : Member K) × (new j ≡ Some n) × (n.list ≡ m.list) × (n.before ≡ Some k)
    unfolding Was
    next_ahead k j m e some = elim (was k m e) [
      | inl h ↦
          let f : firsts list ≡ Some j = sym (ap (λ o. o.next) h.1) ∙ some in
          let own = linked.first list j f in
          (record own.0 { before = Some key }, p.after j own.0 f own.1, own.2 ∙ sym (ap (λ o. o.list) h.1), ap Some (sym h.0))
      | inr (inl h) ↦ behind k j h.was m h.at (ap (λ o. o.list) h.is) (sym (ap (λ o. o.next) h.is) ∙ some)
      | inr (inr h) ↦ behind k j m m h.0 refl some
    ]

    rank_by : (k : K) → (k ≡ key) ⊎ (k ≢ key) → ℕ
    rank_by k (inl e) = linked.peak
    rank_by k (inr e) = linked.rank k

    next_rank : K → ℕ
    next_rank k = rank_by k (decide k key)

    rank_by-new : (k : K) (d : (k ≡ key) ⊎ (k ≢ key)) → k ≡ key → rank_by k d ≡ linked.peak
    unfolding rank_by
    rank_by-new k (inl f) e = refl
    rank_by-new k (inr f) e = absurd (f e)

    rank_by-old : (k : K) (d : (k ≡ key) ⊎ (k ≢ key)) → k ≢ key → rank_by k d ≡ linked.rank k
    unfolding rank_by
    rank_by-old k (inl f) e = absurd (e f)
    rank_by-old k (inr f) e = refl

    rank-new : (k : K) → k ≡ key → next_rank k ≡ linked.peak
    unfolding next_rank
    rank-new k e = rank_by-new k (decide k key) e

    rank-old : (k : K) → k ≢ key → next_rank k ≡ linked.rank k
    unfolding next_rank
    rank-old k e = rank_by-old k (decide k key) e

    falls_from : (k j : K) (m : Member K) → old k ≡ Some m → m.next ≡ Some j → next_rank j < next_rank k
    falls_from k j m e some =
        let n = linked.ahead k j m e some in
        rw (rank-old k (known k m e), rank-old j (known j n.0 n.1)) (linked.falls k j m e some)

    next_falls : (k j : K) (m : Member K) → new k ≡ Some m → m.next ≡ Some j → next_rank j < next_rank k
    unfolding Was
    next_falls k j m e some = elim (was k m e) [
      | inl h ↦
          let own = linked.first list j (sym (ap (λ o. o.next) h.1) ∙ some) in
          rw (rank-new k h.0, rank-old j (known j own.0 own.1)) (linked.low j own.0 own.1)
      | inr (inl h) ↦ falls_from k j h.was h.at (sym (ap (λ o. o.next) h.is) ∙ some)
      | inr (inr h) ↦ falls_from k j m h.0 some
    ]

    low_from : (k : K) (m : Member K) → old k ≡ Some m → next_rank k < suc linked.peak
    low_from k m e = let h = linked.low k m e in let r = rank-old k (known k m e) in omega arith

    next_low : (k : K) (m : Member K) → new k ≡ Some m → next_rank k < suc linked.peak
    unfolding Was
    next_low k m e = elim (was k m e) [
      | inl h ↦ let r = rank-new k h.0 in omega arith
      | inr (inl h) ↦ low_from k h.was h.at
      | inr (inr h) ↦ low_from k m h.0
    ]

    pub linked-push : AreLinked new new_firsts
    linked-push = record { first = next_first; front = next_front; back = next_back; ahead = next_ahead; rank = next_rank; peak = suc linked.peak; falls = next_falls; low = next_low }
