-- A join keeps its left side, or adds a graph, or is Top.
use Rattle.std.proofs.Common.{◌≡◌, ℕ, ◌+◌, ◌-◌, ◌<◌, ◌≤◌, cond, List, [], ◌∷◌, ◌⊎◌, inl, inr, length, refl, sym, ap, subst, arith}
use Rattle.std.specs.Prelude.{nat_le}
use Rattle.std.specs.Ordering.{match_ordering}
use Rattle.std.specs.declared.cmp.Ordering.{Ordering}
use Rattle.std.specs.declared.cmp.Ordering.TheVariants.{Less, Equal, Greater}
use Rattle.std.proofs.lemmas.Bool.{cases_Bool}
use Rattle.shape_graph.specs.Shape.{Shape}
use Rattle.shape_graph.specs.Order.{shape_cmp}
use Rattle.dom_listseg_meaning.specs.State.{Segments, Top, Graphs}
use Rattle.dom_listseg_meaning.specs.Sets.{put, union, most, capped}
use Rattle.dom_listseg_meaning.specs.Operations.{join}
use Rattle.dom_listseg_meaning.specs.Covers.{counts}
use Rattle.dom_listseg_meaning.specs.Convergence.{changes_left, JoiningEnds, WideningEnds}
use Rattle.dom_listseg_meaning.proofs.Fitting.{FitsState, fits-state, few-is}

put-cases : (g h : Shape) (hs : List Shape) (o : Ordering) → (put g hs ≡ hs) ⊎ (length (put g hs) ≡ length hs + 1)
    → (match_ordering o (g ∷ h ∷ hs) (h ∷ hs) (h ∷ put g hs) ≡ h ∷ hs) ⊎ (length (match_ordering o (g ∷ h ∷ hs) (h ∷ hs) (h ∷ put g hs)) ≡ length (h ∷ hs) + 1)
put-cases g h hs Less i = inr (omega arith)
put-cases g h hs Equal i = inl refl
put-cases g h hs Greater (inl e) = inl (ap (λ v. h ∷ v) e)
put-cases g h hs Greater (inr e) = inr (omega arith)

-- a graph is there, or makes the list one longer
put-grows : (g : Shape) (gs : List Shape) → (put g gs ≡ gs) ⊎ (length (put g gs) ≡ length gs + 1)
put-grows g [] = inr (omega arith)
put-grows g (h ∷ hs) = put-cases g h hs (shape_cmp g h) (put-grows g hs)

pub union-le : (gs hs : List Shape) → length gs ≤ length (union gs hs)
union-le gs [] = omega arith
union-le gs (h ∷ hs) =
    let l = union-le (put h gs) hs in
    elim (put-grows h gs) [ inl e ↦ (let d : length (put h gs) ≡ length gs = ap length e in omega arith) | inr e ↦ omega arith ]

-- a union is its left part, or longer
union-grows : (gs hs : List Shape) → (union gs hs ≡ gs) ⊎ (length gs < length (union gs hs))
union-grows gs [] = inl refl
union-grows gs (h ∷ hs) =
    elim (put-grows h gs) [
      | inl e ↦ subst (λ v. (union v hs ≡ gs) ⊎ (length gs < length (union v hs))) (sym e) (union-grows gs hs)
      | inr e ↦ inr (let l = union-le (put h gs) hs in omega arith)
    ]

capped-grows : (gs hs : List Shape) → length gs ≤ 64 → (hs ≡ gs) ⊎ (length gs < length hs) → (capped hs ≡ Graphs gs) ⊎ (changes_left (capped hs) < 65 - length gs)
unfolding capped
capped-grows gs hs fits h =
    elim (cases_Bool (nat_le (length hs) most)) [
      | inl e ↦ (let few = few-is (length hs) e in
          subst (λ b. (cond b (Graphs hs) Top ≡ Graphs gs) ⊎ (changes_left (cond b (Graphs hs) Top) < 65 - length gs)) (sym e)
          (elim h [ inl d ↦ inl (ap Graphs d) | inr l ↦ inr (omega arith) ]))
      | inr e ↦ subst (λ b. (cond b (Graphs hs) Top ≡ Graphs gs) ⊎ (changes_left (cond b (Graphs hs) Top) < 65 - length gs)) (sym e) (inr (omega arith))
    ]

join-grows : (ns : List ℕ) (s t : Segments) → FitsState ns s → (join s t ≡ s) ⊎ (changes_left (join s t) < changes_left s)
unfolding join
join-grows ns Top t h = inl refl
join-grows ns (Graphs gs) Top h = inr (let f = h.few in omega arith)
join-grows ns (Graphs gs) (Graphs hs) h = capped-grows gs (union gs hs) h.few (union-grows gs hs)

pub joins-end : JoiningEnds
joins-end ls s t f = join-grows (counts ls) s t (fits-state s ls f)

pub widenings-end : WideningEnds
widenings-end thresholds ls s t f = join-grows (counts ls) s t (fits-state s ls f)
