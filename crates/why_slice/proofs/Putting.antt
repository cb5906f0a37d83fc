-- Numbers are put into an ordered set one after another.
use Rattle.std.proofs.Common.{◌≡◌, ℕ, ◌<◌, ◌+◌, ◌^◌, All, Result, Ok, Err, OnOk, OnErr, subst, List, [], ◌∷◌, ◌++◌, fold, take, length, get_or, inl, inr, refl, sym, ap, ◌∙◌, append_assoc, append-nil}
use Rattle.std.proofs.lemmas.List.Sums.{fold-append}
use Rattle.std.proofs.lemmas.Map.Views.{All-insert_key}
use Rattle.std.specs.BTreeSet.{insert_key}
use Rattle.std.specs.Ordering.{nat_cmp}
use Rattle.base_values.proofs.Lists.{take_item}
use Rattle.base_values.proofs.Members.{Member, either, in_left, in_right}
use Rattle.base_sets.specs.Sets.{Strict}
use Rattle.base_sets.proofs.Rising.{in_rising, of_rising, rising_same, rising_strict, strict_same}
use Rattle.why_slice.specs.Upstream.{all_of, sorted_once}

pub put_next : (old now new ns : List ℕ) (i x : ℕ) → i < length ns → x ≡ get_or ns i x → now ≡ fold (insert_key nat_cmp) old (take i ns) → new ≡ insert_key nat_cmp now x → new ≡ fold (insert_key nat_cmp) old (take (i + 1) ns)
put_next old now new ns i x h e k j = j ∙ ap (λ ks. insert_key nat_cmp ks x) k ∙ sym (ap (fold (insert_key nat_cmp) old) (take_item ns i x h e) ∙ fold-append (insert_key nat_cmp) old (take i ns) (x ∷ []))

all_both : (xs ys : List (List ℕ)) → all_of (xs ++ ys) ≡ all_of xs ++ all_of ys
all_both [] ys = refl
all_both (x ∷ xs) ys = ap (λ k. x ++ k) (all_both xs ys) ∙ sym (append_assoc x (all_of xs) (all_of ys))

pub put_list : (old now new : List ℕ) (nss : List (List ℕ)) (i : ℕ) (ns : List ℕ) → i < length nss → ns ≡ get_or nss i ns → now ≡ fold (insert_key nat_cmp) old (all_of (take i nss)) → new ≡ fold (insert_key nat_cmp) now ns → new ≡ fold (insert_key nat_cmp) old (all_of (take (i + 1) nss))
put_list old now new nss i ns h e k j =
    j ∙ ap (λ ks. fold (insert_key nat_cmp) ks ns) k
    ∙ sym (ap (λ xs. fold (insert_key nat_cmp) old (all_of xs)) (take_item nss i ns h e) ∙ ap (fold (insert_key nat_cmp) old) (all_both (take i nss) (ns ∷ []) ∙ ap (λ k. all_of (take i nss) ++ k) (append-nil ns)) ∙ fold-append (insert_key nat_cmp) old (all_of (take i nss)) ns)

-- Numbers are put among some that rise.
pub put_among : (hung place sites among all : List ℕ) → Strict hung → among ≡ fold (insert_key nat_cmp) hung place → all ≡ fold (insert_key nat_cmp) among sites → all ≡ sorted_once (place ++ (sites ++ hung))
put_among hung place sites among all rise first last =
    let own : hung ≡ sorted_once hung = strict_same hung (sorted_once hung) rise (rising_strict hung) (in_rising hung) (of_rising hung) in
    last
    ∙ ap (λ ks. fold (insert_key nat_cmp) ks sites) first
    ∙ sym (fold-append (insert_key nat_cmp) hung place sites)
    ∙ ap (λ ks. fold (insert_key nat_cmp) ks (place ++ sites)) own
    ∙ sym (fold-append (insert_key nat_cmp) [] hung (place ++ sites))
    ∙ rising_same (hung ++ (place ++ sites)) (place ++ (sites ++ hung)) into from
  where
    into : (i : ℕ) → Member i (hung ++ (place ++ sites)) → Member i (place ++ (sites ++ hung))
    into i m =
        elim (either i hung (place ++ sites) m) [
          | inl a ↦ in_right place (in_right sites a)
          | inr b ↦ elim (either i place sites b) [ inl c ↦ in_left (sites ++ hung) c | inr d ↦ in_right place (in_left hung d) ]
        ]

    from : (i : ℕ) → Member i (place ++ (sites ++ hung)) → Member i (hung ++ (place ++ sites))
    from i m =
        elim (either i place (sites ++ hung) m) [
          | inl a ↦ in_right hung (in_left sites a)
          | inr b ↦ elim (either i sites hung b) [ inl c ↦ in_right hung (in_right place c) | inr d ↦ in_left (place ++ sites) d ]
        ]

-- numbers of statements are small, also with one more
pub small_put : {A E : Type 0} (r : Result A E) (old new : List ℕ) (n : ℕ) → All (λ (k : ℕ). k < 2 ^ 32) old → n < 2 ^ 32 → OnOk r (new ≡ insert_key nat_cmp old n) → OnErr r (new ≡ old) → All (λ (k : ℕ). k < 2 ^ 32) new
small_put (Ok a) old new n s l h e = subst (All (λ (k : ℕ). k < 2 ^ 32)) (sym h) (All-insert_key nat_cmp n (λ (k : ℕ). k < 2 ^ 32) old s l)
small_put (Err x) old new n s l h e = subst (All (λ (k : ℕ). k < 2 ^ 32)) (sym e) s
