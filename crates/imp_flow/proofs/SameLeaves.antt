-- The breaks of two loops, one by one.
use Rattle.std.proofs.Common.{◌≡◌, ◌≢◌, ℕ, suc, ◌+◌, ◌<◌, ◌≤◌, ◌&&◌, List, [], ◌∷◌, length, drop, slice_get, Some, Bool, true, false, refl, sym, ap, ◌∙◌, arith}
use Rattle.std.specs.Cmp.Lexicographic.{pointwise}
use Rattle.std.proofs.lemmas.List.{drop_all}
use Rattle.std.proofs.Math.Bool.{and-false}
use Rattle.cell_names.specs.contracts.frame.PointPartialEq.TheImpl as points
use Rattle.imp_flow_rows.specs.declared.node.Leave.{Leave}
use Rattle.imp_flow_rows.specs.contracts.node.LeavePartialEq.TheImpl as leaves
use Rattle.imp_flow.specs.Changed.{last_of, same_leaves}
use Rattle.base_values.proofs.Lists.{drop_from, get_some}

and_swap : (a b c : Bool) → (a && (b && c)) ≡ (b && (a && c))
and_swap true b c = refl
and_swap false true c = refl
and_swap false false c = refl

rest_length : (l : Leave) (ls : List Leave) → length (last_of l ls).1 ≡ length ls
rest_length l [] = refl
rest_length l (m ∷ ls) = ap suc (rest_length m ls)

not_as_long : (ls ks : List Leave) → length ks ≢ length ls → pointwise leaves.ghosts.eq ls ks ≡ false
not_as_long [] [] h = absurd (h refl)
not_as_long [] (k ∷ ks) h = refl
not_as_long (l ∷ ls) [] h = refl
not_as_long (l ∷ ls) (k ∷ ks) h = ap (λ b. leaves.ghosts.eq l k && b) (not_as_long ls ks (λ e. h (ap suc e))) ∙ and-false (leaves.ghosts.eq l k)

pub leaves_apart : (ls ks : List Leave) → length ks ≢ length ls → same_leaves ls ks ≡ false
leaves_apart [] [] h = absurd (h refl)
leaves_apart [] (k ∷ ks) h = refl
leaves_apart (l ∷ ls) [] h = refl
leaves_apart (l ∷ ls) (k ∷ ks) h =
    let e = last_of l ls in
    let f = last_of k ks in
    ap (λ b. points.ghosts.eq e.0.front f.0.front && b) (not_as_long e.1 f.1 (λ n. h (ap suc (sym (rest_length k ks) ∙ n ∙ rest_length l ls)))) ∙ and-false (points.ghosts.eq e.0.front f.0.front)

pub leaves_end : (ls ks : List Leave) (i : ℕ) → length ls ≤ i → length ks ≡ length ls → same_leaves (drop i ls) (drop i ks) ≡ true
leaves_end ls ks i h e = (λ j. same_leaves (drop_all i ls h j) (drop_all i ks (omega arith) j))

-- the last break of each
pub last_same : (ls ks : List Leave) (i : ℕ) (l k : Leave) (b : Bool) → length ks ≡ length ls → slice_get ls i ≡ Some l → slice_get ks i ≡ Some k → i + 1 ≡ length ls → b ≡ points.ghosts.eq l.front k.front →
    same_leaves (drop i ls) (drop i ks) ≡ (b && same_leaves (drop (i + 1) ls) (drop (i + 1) ks))
last_same ls ks i l k b n e f h t =
    let ended = leaves_end ls ks (i + 1) (omega arith) n in
    (λ j. same_leaves (drop_from ls i l e j) (drop_from ks i k f j))
    ∙ (λ j. same_leaves (l ∷ drop_all (i + 1) ls (omega arith) j) (k ∷ drop_all (i + 1) ks (omega arith) j))
    ∙ ap (λ c. c && true) (sym t)
    ∙ ap (λ c. b && c) (sym ended)

-- breaks that are not the last
pub more_same : (ls ks : List Leave) (i : ℕ) (l k : Leave) (b : Bool) → length ks ≡ length ls → slice_get ls i ≡ Some l → slice_get ks i ≡ Some k → i < length ls → i + 1 ≢ length ls → b ≡ leaves.ghosts.eq l k →
    same_leaves (drop i ls) (drop i ks) ≡ (b && same_leaves (drop (i + 1) ls) (drop (i + 1) ks))
more_same ls ks i l k b n e f w h t =
    let m = get_some ls (i + 1) (omega arith) in
    let o = get_some ks (i + 1) (omega arith) in
    let u = drop_from ls (i + 1) m.0 m.1 in
    let v = drop_from ks (i + 1) o.0 o.1 in
    (λ j. same_leaves (drop_from ls i l e j) (drop_from ks i k f j))
    ∙ (λ j. same_leaves (l ∷ u j) (k ∷ v j))
    ∙ and_swap (points.ghosts.eq (last_of m.0 (drop ((i + 1) + 1) ls)).0.front (last_of o.0 (drop ((i + 1) + 1) ks)).0.front) (leaves.ghosts.eq l k) (pointwise leaves.ghosts.eq (last_of m.0 (drop ((i + 1) + 1) ls)).1 (last_of o.0 (drop ((i + 1) + 1) ks)).1)
    ∙ ap (λ c. c && same_leaves (m.0 ∷ drop ((i + 1) + 1) ls) (o.0 ∷ drop ((i + 1) + 1) ks)) (sym t)
    ∙ (λ j. b && same_leaves (sym u j) (sym v j))
