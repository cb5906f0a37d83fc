-- Entries that are results, and what looking up and keeping make of them.
use Rattle.std.proofs.Common.{◌≡◌, ℕ, Bool, true, List, Option, Some, None, IfSome, Contains, ◌⊎◌, inl, inr, refl, sym, ap, ap₂, ◌∙◌, subst, option_map}
use Rattle.std.specs.Map.{lookup}
use Rattle.lru.specs.LruCache.{LruCache, promoted, put_entries}
use Rattle.lru.proofs.CallerLemmas.{Contains-lookup, Contains-promoted, Contains-put_entries}
use Rattle.domain_laws.specs.Operations.{Operations}
use Rattle.state_table.specs.Numbers.{KeepsNumbers}
use Rattle.memo_table.specs.declared.operation.Operation.{Operation}
use Rattle.memo_table.specs.declared.operation.Operation.TheVariants.{Init, Post, Assume, Enter, Join, Leave, Widen}
use Rattle.imp_slots.specs.ActionViews.{act_of}
use Rattle.imp_slots.specs.CallViews.{taken_of}
use Rattle.memo_table.specs.declared.memo.Key.{Key}
use Rattle.memo_table.specs.Results.{IsResult, AreResults, ResultsStay, result_of, operand, both}

module _ {S : Type 0} (dom : Operations S) (operations : List Operation) (states : List S) (eq : Key → Key → Bool) (tells : (x y : Key) → eq x y ≡ true → x ≡ y) where
  pub result-found : (es : List (Key × ℕ)) → AreResults dom operations states es → (key : Key) (o : Option ℕ) → o ≡ lookup (eq key) es → IfSome o (IsResult dom operations states key)
  result-found es are key None e = tt
  result-found es are key (Some v) e =
      let h = Contains-lookup (eq key) es v (sym e) in
      let P : Key → Type 0 = λ k. IsResult dom operations states k v in
      subst P (sym (tells key h.0 h.2)) (are h.0 v h.1)

  pub results-promoted : (es : List (Key × ℕ)) (key : Key) → AreResults dom operations states es → AreResults dom operations states (promoted (eq key) es)
  results-promoted es key are k n c = are k n (Contains-promoted (eq key) es (k, n) c)

  pub results-put : (cache : LruCache Key ℕ) (key : Key) (value : ℕ) → AreResults dom operations states cache.entries → IsResult dom operations states key value → AreResults dom operations states (put_entries eq cache key value)
  results-put cache key value are is k n c = elim (Contains-put_entries eq cache key value (k, n) c) [
    | inl old ↦ are k n old
    | inr put ↦
        let P : ℕ → Type 0 = IsResult dom operations states k in
        let Q : Key → Type 0 = λ j. IsResult dom operations states j value in
        subst P (sym put.0) (subst Q (same put.1) is)
  ]
    where
      same : (k ≡ key) ⊎ ((w : ℕ) × Contains cache.entries (k, w) × (eq key k ≡ true)) → key ≡ k
      same (inl e) = sym e
      same (inr h) = tells key k h.2

-- what is there stays
Stays : {S : Type 0} → Option S → Option S → Type 0
Stays {S} o later = (s : S) → o ≡ Some s → later ≡ Some s

one-stays : {S : Type 0} (f : S → S) (l later : Option S) (s : S) → Stays l later → option_map f l ≡ Some s → option_map f later ≡ Some s
unfolding Stays
one-stays f None later s h e = absurd cc
one-stays f (Some x) later s h e = ap (option_map f) (h x refl) ∙ e

both-stays : {S : Type 0} (f : S → S → S) (l later_l r later_r : Option S) (s : S) → Stays l later_l → Stays r later_r → both f l r ≡ Some s → both f later_l later_r ≡ Some s
unfolding Stays
both-stays f None later_l r later_r s h k e = absurd cc
both-stays f (Some x) later_l None later_r s h k e = absurd cc
both-stays f (Some x) later_l (Some y) later_r s h k e = ap₂ (both f) (h x refl) (k y refl) ∙ e

result-stays : {S : Type 0} (dom : Operations S) (o : Operation) (l later_l r later_r : Option S) (s : S) → Stays l later_l → Stays r later_r → result_of dom o l r ≡ Some s → result_of dom o later_l later_r ≡ Some s
result-stays dom (Init layout) l later_l r later_r s h k e = e
result-stays dom (Post stmt) l later_l r later_r s h k e = one-stays (dom.post (act_of stmt)) l later_l s h e
result-stays dom (Assume guard sense) l later_l r later_r s h k e = one-stays (dom.assume guard sense) l later_l s h e
result-stays dom (Enter entering) l later_l r later_r s h k e = one-stays (dom.enter entering) l later_l s h e
result-stays dom Join l later_l r later_r s h k e = both-stays dom.join l later_l r later_r s h k e
result-stays dom (Leave taken) l later_l r later_r s h k e = both-stays (dom.leave (taken_of taken)) l later_l r later_r s h k e
result-stays dom (Widen thresholds) l later_l r later_r s h k e = both-stays (dom.widen thresholds) l later_l r later_r s h k e

operand-stays : {S : Type 0} (dom : Operations S) (states later : List S) → KeepsNumbers states later → (n : Option ℕ) → Stays (operand dom states n) (operand dom later n)
unfolding Stays
operand-stays dom states later keeps None s e = e
operand-stays dom states later keeps (Some n) s e = keeps n s e

pub results-stay : (S : Type 0) → ResultsStay S
results-stay S dom operations later_operations states later entries keeps_operations keeps are k n c =
    let h = are k n c in (
      h.0,
      h.1,
      keeps_operations k.operation h.0 h.2,
      keeps n h.1 h.3,
      result-stays dom h.0 (operand dom states k.left) (operand dom later k.left) (operand dom states k.right) (operand dom later k.right) h.1
          (operand-stays dom states later keeps k.left) (operand-stays dom states later keeps k.right) h.4,
    )
