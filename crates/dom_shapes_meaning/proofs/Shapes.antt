-- When two graphs have the same shape.
use Rattle.std.proofs.Common.{◌≡◌, ℕ, zero, suc, Bool, true, false, not, List, [], ◌∷◌, Option, None, Some, length, refl, sym, ◌∙◌, ap, subst, arith}
use Rattle.std.specs.Prelude.{◌&&◌, nat_eq}
use Rattle.std.specs.Bool.{Decides}
use Rattle.std.specs.Ordering.{nat_cmp, eq_by_cmp}
use Rattle.std.specs.Option.{option_cmp}
use Rattle.std.specs.declared.cmp.Ordering.TheVariants.{Less, Equal, Greater}
use Rattle.std.specs.Cmp.{IsEquivalence, nat_cmp_total, eq_by_cmp_equiv, both_ways}
use Rattle.std.specs.Cmp.Lexicographic.{lists_total, options_total}
use Rattle.std.specs.FinMap.{IsAntisymmetric, nat_cmp-IsAntisymmetric, slice_cmp-IsAntisymmetric}
use Rattle.std.proofs.lemmas.Bool.{and_parts, and_from}
use lib.Pointwise.{pointwise, pointwise_decides}
use Rattle.base_values.proofs.Cases.{is_equal}
use Rattle.concrete_sem.specs.Evaluation.{same_link}
use Rattle.shape_graph.specs.declared.graph.Atom.{Atom}
use Rattle.shape_graph.specs.Shape.{Shape, nodes, atom_at, target_at}
use Rattle.shape_graph.specs.Order.{target_cmp, row_cmp}
use Rattle.dom_listseg_meaning.proofs.Links.{same-is}
use Rattle.dom_shapes_meaning.specs.Sets.{same_targets, alike, either, merged}

target-same : IsAntisymmetric target_cmp
target-same None None e = refl
target-same None (Some k) e = cc
target-same (Some j) None e = cc
target-same (Some j) (Some k) e = ap Some (nat_cmp-IsAntisymmetric j k e)

row-equiv : IsEquivalence (eq_by_cmp row_cmp)
row-equiv = eq_by_cmp_equiv (lists_total (options_total nat_cmp_total))

row-Decides : (a b : List (Option ℕ)) → Decides (eq_by_cmp row_cmp a b) (a ≡ b)
row-Decides a b = (
  λ e. slice_cmp-IsAntisymmetric target-same a b (is_equal (row_cmp a b) e),
  λ e. subst (λ (x : List (Option ℕ)). eq_by_cmp row_cmp a x ≡ true) e (row-equiv.refl a),
)

link-self : (a : Option ℕ) → same_link a a ≡ true
link-self None = refl
link-self (Some k) = grind arith

link-turned : (a b : Option ℕ) → same_link a b ≡ true → same_link b a ≡ true
link-turned a b h = subst (λ x. same_link x a ≡ true) (same-is a b h) (link-self a)

link-along : (a b c : Option ℕ) → same_link a b ≡ true → same_link b c ≡ true → same_link a c ≡ true
link-along a b c h k = subst (λ x. same_link x c ≡ true) (sym (same-is a b h)) k

targets-self : (xs : List Atom) → same_targets xs xs ≡ true
targets-self [] = refl
targets-self (a ∷ xs) = and_from (same_link a.target a.target) (same_targets xs xs) (link-self a.target) (targets-self xs)

targets-turned : (xs ys : List Atom) → same_targets xs ys ≡ true → same_targets ys xs ≡ true
targets-turned [] [] h = refl
targets-turned [] (b ∷ ys) h = cc
targets-turned (a ∷ xs) [] h = cc
targets-turned (a ∷ xs) (b ∷ ys) h =
    let p = and_parts (same_link a.target b.target) (same_targets xs ys) h in
    and_from (same_link b.target a.target) (same_targets ys xs) (link-turned a.target b.target p.0) (targets-turned xs ys p.1)

targets-along : (xs ys cs : List Atom) → same_targets xs ys ≡ true → same_targets ys cs ≡ true → same_targets xs cs ≡ true
targets-along [] [] cs h k = k
targets-along [] (b ∷ ys) cs h k = cc
targets-along (a ∷ xs) [] cs h k = cc
targets-along (a ∷ xs) (b ∷ ys) [] h k = cc
targets-along (a ∷ xs) (b ∷ ys) (c ∷ cs) h k =
    let p = and_parts (same_link a.target b.target) (same_targets xs ys) h in
    let q = and_parts (same_link b.target c.target) (same_targets ys cs) k in
    and_from (same_link a.target c.target) (same_targets xs cs) (link-along a.target b.target c.target p.0 q.0) (targets-along xs ys cs p.1 q.1)

-- the same number of nodes, and the same successor of each
pub targets-count : (xs ys : List Atom) → same_targets xs ys ≡ true → length xs ≡ length ys
targets-count [] [] h = refl
targets-count [] (b ∷ ys) h = cc
targets-count (a ∷ xs) [] h = cc
targets-count (a ∷ xs) (b ∷ ys) h = ap suc (targets-count xs ys (and_parts (same_link a.target b.target) (same_targets xs ys) h).1)

pub targets-at : (xs ys : List Atom) → same_targets xs ys ≡ true → (k : ℕ) → (atom_at xs k).target ≡ (atom_at ys k).target
targets-at [] [] h k = refl
targets-at [] (b ∷ ys) h k = cc
targets-at (a ∷ xs) [] h k = cc
targets-at (a ∷ xs) (b ∷ ys) h zero = same-is a.target b.target (and_parts (same_link a.target b.target) (same_targets xs ys) h).0
targets-at (a ∷ xs) (b ∷ ys) h (suc k) = targets-at xs ys (and_parts (same_link a.target b.target) (same_targets xs ys) h).1 k

-- one shape: the same frames, and the same successors
pub alike-parts : (g h : Shape) → alike g h ≡ true → (g.frames ≡ h.frames) × (same_targets g.atoms h.atoms ≡ true)
unfolding alike
alike-parts g h e =
    let p = and_parts (pointwise (eq_by_cmp row_cmp) g.frames h.frames) (same_targets g.atoms h.atoms) e in
    ((pointwise_decides row-Decides g.frames h.frames).0 p.0, p.1)

pub alike-from : (g h : Shape) → g.frames ≡ h.frames → same_targets g.atoms h.atoms ≡ true → alike g h ≡ true
unfolding alike
alike-from g h e t =
    and_from (pointwise (eq_by_cmp row_cmp) g.frames h.frames) (same_targets g.atoms h.atoms) ((pointwise_decides row-Decides g.frames h.frames).1 e) t

pub alike-self : (g : Shape) → alike g g ≡ true
alike-self g = alike-from g g refl (targets-self g.atoms)

turned : (g h : Shape) → alike g h ≡ true → alike h g ≡ true
turned g h e = let p = alike-parts g h e in alike-from h g (sym p.0) (targets-turned g.atoms h.atoms p.1)

pub alike-turned : (g h : Shape) → alike g h ≡ alike h g
alike-turned g h = both_ways (alike g h) (alike h g) (turned g h) (turned h g)

along : (g h x : Shape) → alike g h ≡ true → alike h x ≡ true → alike g x ≡ true
along g h x e f =
    let p = alike-parts g h e in
    let q = alike-parts h x f in
    alike-from g x (p.0 ∙ q.0) (targets-along g.atoms h.atoms x.atoms p.1 q.1)

-- graphs of one shape are alike the same graphs
pub alike-along : (g h x : Shape) → alike g h ≡ true → alike g x ≡ alike h x
alike-along g h x e = both_ways (alike g x) (alike h x) (along h g x (turned g h e)) (along g h x e)

either-targets : (xs ys cs : List Atom) → same_targets (either xs ys) cs ≡ same_targets xs cs
either-targets [] ys cs = refl
either-targets (a ∷ xs) [] cs = refl
either-targets (a ∷ xs) (b ∷ ys) [] = refl
either-targets (a ∷ xs) (b ∷ ys) (c ∷ cs) = ap (λ v. same_link a.target c.target && v) (either-targets xs ys cs)

-- to become one with another changes no shape
pub alike-merged : (g h x : Shape) → alike (merged g h) x ≡ alike g x
unfolding alike
alike-merged g h x = ap (λ v. pointwise (eq_by_cmp row_cmp) g.frames x.frames && v) (either-targets g.atoms h.atoms x.atoms)
