-- What a change takes and brings, with what is both left out.
use Rattle.std.proofs.lemmas.List.{take_all}
use Rattle.std.proofs.Common.{◌≡◌, ℕ, zero, suc, ◌+◌, ◌<◌, ◌≤◌, ◌==◌, ◌++◌, Bool, true, false, List, [], ◌∷◌, length, take, get_or, slice_get, Option, Some, None, refl, sym, ap, subst, ◌∙◌, arith}
use Rattle.std.proofs.lemmas.Option.{slice_get-get_or, same_Some}
use Rattle.std.specs.Prelude.{if◌then◌else◌}
use Rattle.imp_table.specs.declared.change.Put.{Put}
use Rattle.imp_check.specs.declared.entry.Entry.{Entry}
use Rattle.imp_chains.specs.Chains.{has}
use Rattle.call_contexts.specs.Literals.{form_literals}
use Rattle.call_contexts.specs.Differences.{lists_in, numbers_in, lost, gained, AreDifferent, AreMore}
use Rattle.call_contexts.specs.Tallies.{one_if, times}
use Rattle.call_contexts.proofs.Looped.{take_none}
use Rattle.call_contexts.proofs.TallyLemmas.{times_both}
use Rattle.base_values.proofs.Lists.{take_item}
use Rattle.base_values.proofs.Cases.{by_test}

module _ (k n : ℕ) where
  in_times : (o : Option Entry) → times n (lists_in k o) ≡ one_if (has n (numbers_in k o))
  in_times None = refl
  in_times (Some e) = go (e.context.proc == k)
    where
      go : (b : Bool) → times n (if b then form_literals e.form ∷ [] else []) ≡ one_if (has n (if b then form_literals e.form else []))
      go true = omega arith
      go false = refl

  lost_last : (at : ℕ → Option Entry) (ps : List Put) (p : Put) → times n (lost k at (ps ++ p ∷ [])) ≡ times n (lost k at ps) + one_if (has n (numbers_in k (at p.number)))
  lost_last at [] p = times_both n (lists_in k (at p.number)) [] ∙ omega (arith, in_times (at p.number))
  lost_last at (q ∷ ps) p = omega (arith, times_both n (lists_in k (at q.number)) (lost k at (ps ++ p ∷ [])), times_both n (lists_in k (at q.number)) (lost k at ps), lost_last at ps p)

  gained_last : (ps : List Put) (p : Put) → times n (gained k (ps ++ p ∷ [])) ≡ times n (gained k ps) + one_if (has n (numbers_in k p.entry))
  gained_last [] p = times_both n (lists_in k p.entry) [] ∙ omega (arith, in_times p.entry)
  gained_last (q ∷ ps) p = omega (arith, times_both n (lists_in k q.entry) (gained k (ps ++ p ∷ [])), times_both n (lists_in k q.entry) (gained k ps), gained_last ps p)

-- Those at the first numbers of a change.
module _ (at : ℕ → Option Entry) (puts : List Put) (k : ℕ) where
  abbrev pub SoFar : ℕ → (less more : List (List ℕ)) → Type 0
  SoFar i less more = AreDifferent (lost k at (take i puts)) (gained k (take i puts)) less more

  pub differ_none : (less more : List (List ℕ)) → less ≡ [] → more ≡ [] → SoFar 0 less more
  differ_none less more a b =
      subst (λ (ps : List Put). AreDifferent (lost k at ps) (gained k ps) less more) (sym (take_none puts))
      (record { balanced = λ n. omega (arith, ap (times n) a, ap (times n) b); within = λ n. omega (arith, ap (times n) a) })

  pub differ_more : (i : ℕ) (p : Put) (less more less_now more_now : List (List ℕ)) → i < length puts → p ≡ get_or puts i p → SoFar i less more → AreMore less more (numbers_in k (at p.number)) (numbers_in k p.entry) less_now more_now → SoFar (i + 1) less_now more_now
  differ_more i p less more less_now more_now l e d m =
      subst (λ (ps : List Put). AreDifferent (lost k at ps) (gained k ps) less_now more_now) (sym (take_item puts i p l e))
      (record {
        balanced = λ n. omega (arith, d.balanced n, m.balanced n, lost_last k n at (take i puts) p, gained_last k n (take i puts) p);
        within = λ n. omega (arith, d.within n, m.within n, lost_last k n at (take i puts) p);
      })

  pub differ_all : (i : ℕ) (less more : List (List ℕ)) → length puts ≤ i → SoFar i less more → AreDifferent (lost k at puts) (gained k puts) less more
  differ_all i less more l d = subst (λ (ps : List Put). AreDifferent (lost k at ps) (gained k ps) less more) (take_all i puts l) d

-- One more on both sides, or none where it is the same.
pub more_same : (less more : List (List ℕ)) (goes comes : List ℕ) → goes ≡ comes → AreMore less more goes comes less more
more_same less more goes comes e = record { balanced = λ n. omega (arith, ap (λ ns. one_if (has n ns)) e); within = λ n. omega arith }

pub more_both : (less more : List (List ℕ)) (goes comes : List ℕ) (less_now more_now : List (List ℕ)) → less_now ≡ less ++ goes ∷ [] → more_now ≡ more ++ comes ∷ [] → AreMore less more goes comes less_now more_now
more_both less more goes comes less_now more_now a b = record {
  balanced = λ n. omega (arith, ap (times n) a ∙ times_both n less (goes ∷ []), ap (times n) b ∙ times_both n more (comes ∷ []));
  within = λ n. omega (arith, ap (times n) a ∙ times_both n less (goes ∷ []));
}

-- Lists with the same items.
pub same_items : {A : Type 0} (xs ys : List A) (i : ℕ) → length xs ≡ length ys → length xs ≤ i → ((k : ℕ) → k < i → slice_get xs k ≡ slice_get ys k) → xs ≡ ys
same_items [] [] i l m h = refl
same_items [] (y ∷ ys) i l m h = absurd (omega arith)
same_items (x ∷ xs) [] i l m h = absurd (omega arith)
same_items (x ∷ xs) (y ∷ ys) zero l m h = absurd (omega arith)
same_items (x ∷ xs) (y ∷ ys) (suc i) l m h =
    let e : x ≡ y = same_Some x y (h 0 (omega arith)) in
    let r = same_items xs ys i (omega arith) (omega arith) (λ k s. h (suc k) (omega arith)) in
    λ j. e j ∷ r j

pub same_item : {A : Type 0} (xs ys : List A) (i : ℕ) (x y : A) → length xs ≡ length ys → i < length xs → x ≡ get_or xs i x → y ≡ get_or ys i y → x ≡ y → ((k : ℕ) → k < i → slice_get xs k ≡ slice_get ys k) → (k : ℕ) → k < i + 1 → slice_get xs k ≡ slice_get ys k
same_item xs ys i x y l m a b e h k s =
    by_test k i (λ c. slice_get xs k ≡ slice_get ys k)
    (λ q. ap (slice_get xs) q ∙ slice_get-get_or xs i x m ∙ ap Some (sym a ∙ e ∙ b) ∙ sym (slice_get-get_or ys i y (omega arith)) ∙ ap (slice_get ys) (sym q))
    (λ q. h k (omega arith))
