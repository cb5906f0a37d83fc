-- What is missing after a fill, and demands in turn.
use Rattle.std.proofs.Common.{◌≡◌, ℕ, zero, suc, ◌||◌, Bool, true, false, cond, not, List, [], ◌∷◌, ◌++◌, take, drop, length, Some, slice_get, refl, sym, ap, subst, ◌∙◌}
use Rattle.std.proofs.Math.Seq.{take-length}
use std.Path.{fun_ext}
use Rattle.std.specs.List.{filter}
use Rattle.base_values.proofs.Cases.{by_bool}
use Rattle.domain_laws.specs.Operations.{Operations}
use Rattle.daig_order.specs.Order.{member}
use Rattle.daig_order.specs.OrderLaws.{IsDistinct, order}
use Rattle.daig_order.specs.InTurn.{missing_in_turn}
use Rattle.daig_order.proofs.TheoremProofs.{missing as missing_rest}
use Rattle.daig_order.proofs.OrderLawProofs.{order-distinct}
use Rattle.cell_names.specs.Paths.{CellName}
use Rattle.cell_rows.specs.Targets.{Target}
use Rattle.imp_flow.specs.Plans.{Plan}
use Rattle.cell_graph.specs.Same.{same_name}
use Rattle.cell_graph.proofs.Same.{same_is}
use Rattle.cell_graph.proofs.Numbers.{at_member}
use Rattle.daig_query.specs.declared.store.Store.{Store}
use Rattle.daig_query.specs.Kept.{kept}
use Rattle.daig_query.specs.Right.{IsRight}
use Rattle.daig_query.specs.Filled.{missing, Fills}
use Rattle.daig_query.proofs.Running.{system, wanted, bound, acyclic, low}

-- filters of one list by tests that agree on it
filter_same : {A : Type 0} (p q : A → Bool) (xs : List A) → ((i : ℕ) (x : A) → slice_get xs i ≡ Some x → p x ≡ q x) → filter p xs ≡ filter q xs
filter_same p q [] e = refl
filter_same p q (x ∷ xs) e =
    ap (λ b. cond b (x ∷ filter p xs) (filter p xs)) (e 0 x refl) ∙ ap (λ ys. cond (q x) (x ∷ ys) ys) (filter_same p q xs (λ i y g. e (suc i) y g))

filter_all : {A : Type 0} (xs : List A) → filter (λ _. true) xs ≡ xs
filter_all [] = refl
filter_all (x ∷ xs) = ap (λ ys. x ∷ ys) (filter_all xs)

filter_twice : {A : Type 0} (a b : A → Bool) (xs : List A) → filter (λ x. not (a x || b x)) xs ≡ filter (λ x. not (b x)) (filter (λ x. not (a x)) xs)
filter_twice a b [] = refl
filter_twice {A} a b (x ∷ xs) = go (filter_twice a b xs) (a x)
  where
    rest : List A
    rest = filter (λ y. not (a y)) xs

    go : filter (λ y. not (a y || b y)) xs ≡ filter (λ y. not (b y)) rest → (c : Bool) → cond (not (c || b x)) (x ∷ filter (λ y. not (a y || b y)) xs) (filter (λ y. not (a y || b y)) xs) ≡ filter (λ y. not (b y)) (cond (not c) (x ∷ rest) rest)
    go same true = same
    go same false = ap (λ ys. cond (not (b x)) (x ∷ ys) ys) same

-- a list of which no name stands twice, without its first so many
without_front : (xs : List CellName) (n : ℕ) → IsDistinct same_name xs → filter (λ x. not (member same_name (take n xs) x)) xs ≡ drop n xs
without_front [] zero h = refl
without_front [] (suc n) h = refl
without_front (x ∷ xs) zero h = filter_all (x ∷ xs)
without_front (x ∷ xs) (suc n) h =
    ap (λ b. cond (not (b || member same_name (take n xs) x)) (x ∷ filter front xs) (filter front xs)) (same_is.same_refl x)
    ∙ (filter_same front (λ z. not (member same_name (take n xs) z)) xs other ∙ without_front xs n h.1)
  where
    front : CellName → Bool
    front z = not (same_name z x || member same_name (take n xs) z)

    other : (i : ℕ) (z : CellName) → slice_get xs i ≡ Some z → front z ≡ not (member same_name (take n xs) z)
    other i z e = by_bool (same_name z x)
        (λ q.
        let m : member same_name xs x ≡ true = subst (λ y. member same_name xs y ≡ true) (same_is.same_true z x q) (at_member xs i z e) in
        let c : true ≡ false = sym m ∙ h.0 in
        absurd cc)
        (λ q. ap (λ b. not (b || member same_name (take n xs) z)) q)

module _ {S : Type 0} (dom : Operations S) (plan : Plan) (ts : List Target) (old new : Store S) where
  pub rest_missing : (count : ℕ) → IsRight dom plan old → Fills dom plan ts old new count → missing dom plan ts new ≡ drop count (missing dom plan ts old)
  rest_missing count right fills =
      let s = system dom plan ts in
      let law = acyclic dom plan ts right.checked in
      let xs = wanted dom plan ts in
      missing_rest s law (kept new) fills.right.kept.closed xs
      ∙ (ap (λ keeps. filter (λ x. not (keeps x)) (order s xs)) (fun_ext fills.adds)
      ∙ (filter_twice (kept old) (member same_name (take count (missing dom plan ts old))) (order s xs)
      ∙ (ap (filter (λ x. not (member same_name (take count (missing dom plan ts old)) x))) (sym (missing_rest s law (kept old) right.kept.closed xs))
      ∙ without_front (missing dom plan ts old) count (order-distinct s law (kept old) xs (bound dom plan ts) (low dom plan ts right.checked)))))

  pub in_turn : (xss : List (List CellName)) → Fills dom plan ts old new (length (missing dom plan ts old)) →
      missing_in_turn (system dom plan ts) (kept old) (wanted dom plan ts ∷ xss) ≡ missing dom plan ts old ++ missing_in_turn (system dom plan ts) (kept new) xss
  in_turn xss fills =
      ap (λ keeps. missing dom plan ts old ++ missing_in_turn (system dom plan ts) keeps xss) (fun_ext (λ x. sym (fills.adds x ∙ ap (λ ys. kept old x || member same_name ys x) (take-length (missing dom plan ts old)))))
