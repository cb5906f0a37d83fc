-- A join keeps its left side, or adds a shape or turns a `one` to `seg`, or is Top.
use Rattle.std.proofs.Common.{◌≡◌, ℕ, ◌+◌, ◌-◌, ◌*◌, ◌<◌, ◌≤◌, Bool, true, false, not, cond, List, [], ◌∷◌, ◌⊎◌, inl, inr, length, refl, sym, ◌∙◌, ap, subst, arith}
use Rattle.std.specs.Prelude.{◌&&◌, ◌||◌, nat_le}
use Rattle.std.specs.Ordering.{match_ordering}
use Rattle.std.specs.declared.cmp.Ordering.{Ordering}
use Rattle.std.specs.declared.cmp.Ordering.TheVariants.{Less, Equal, Greater}
use Rattle.std.proofs.lemmas.Bool.{and_parts, and_from}
use Rattle.std.proofs.lemmas.Bool.Decides.{nat_tests}
use Rattle.base_values.proofs.Cases.{or_first, or_second}
use Rattle.shape_graph.specs.declared.graph.Atom.{Atom}
use Rattle.shape_graph.specs.Shape.{Shape, nodes}
use Rattle.shape_graph.specs.Order.{shape_cmp, shape_cmp-same}
use Rattle.dom_listseg_meaning.specs.State.{Segments, Top, Graphs}
use Rattle.dom_listseg_meaning.specs.Sets.{put, most}
use Rattle.dom_listseg_meaning.proofs.Fitting.{few-is}
use Rattle.dom_shapes_meaning.specs.Sets.{same_targets, alike, allow, either, merged, allowed, grown, others, absorbed, gathered, is_alone, all_alone, most_nodes, are_small, bounded}
use Rattle.dom_shapes_meaning.specs.Operations.{join}
use Rattle.dom_shapes_meaning.specs.Convergence.{one_if, segs, weight, most_weight, changes_left, JoiningEnds, WideningEnds}
use Rattle.dom_shapes_meaning.proofs.Shapes.{alike-parts, alike-self, alike-along, alike-merged}
use Rattle.dom_shapes_meaning.proofs.Absorbing.{grown-alone, alone-parts, alone-from, absorbed-all}
use Rattle.dom_shapes_meaning.proofs.Tidy.{IsTidy}
use Rattle.dom_shapes_meaning.proofs.Laws.{fits-tidy}

-- ---- nodes that are `seg`

either-more : (xs ys : List Atom) → segs xs ≤ segs (either xs ys)
either-more [] ys = omega arith
either-more (a ∷ xs) [] = omega arith
either-more (a ∷ xs) (b ∷ ys) = by a.many b.many (either-more xs ys)
  where
    by : (c d : Bool) → segs xs ≤ segs (either xs ys) → one_if c + segs xs ≤ one_if (c || d) + segs (either xs ys)
    by true d h = omega arith
    by false true h = omega arith
    by false false h = omega arith

either-other : (xs ys : List Atom) → same_targets xs ys ≡ true → segs ys ≤ segs (either xs ys)
either-other [] [] t = omega arith
either-other [] (b ∷ ys) t = cc
either-other (a ∷ xs) [] t = cc
either-other (a ∷ xs) (b ∷ ys) t = by a.many b.many (either-other xs ys (and_parts _ (same_targets xs ys) t).1)
  where
    by : (c d : Bool) → segs ys ≤ segs (either xs ys) → one_if d + segs ys ≤ one_if (c || d) + segs (either xs ys)
    by true true h = omega arith
    by true false h = omega arith
    by false true h = omega arith
    by false false h = omega arith

-- where nodes do not allow others, there are more with those
either-grows : (xs ys : List Atom) → same_targets xs ys ≡ true → allow ys xs ≡ false → segs ys < segs (either xs ys)
either-grows [] [] t n = cc
either-grows [] (b ∷ ys) t n = cc
either-grows (a ∷ xs) [] t n = cc
either-grows (a ∷ xs) (b ∷ ys) t n =
    let s = (and_parts _ (same_targets xs ys) t).1 in
    by a.many b.many (either-other xs ys s) (either-grows xs ys s) n
  where
    by : (c d : Bool) → segs ys ≤ segs (either xs ys) → (allow ys xs ≡ false → segs ys < segs (either xs ys)) → ((d || not c) && allow ys xs) ≡ false → one_if d + segs ys < one_if (c || d) + segs (either xs ys)
    by true true h k m = let l = k m in omega arith
    by true false h k m = omega arith
    by false true h k m = let l = k m in omega arith
    by false false h k m = let l = k m in omega arith

segs-few : (xs : List Atom) → segs xs ≤ length xs
segs-few [] = omega arith
segs-few (a ∷ xs) = by a.many (segs-few xs)
  where
    by : (c : Bool) → segs xs ≤ length xs → one_if c + segs xs ≤ length (a ∷ xs)
    by true h = omega arith
    by false h = omega arith

-- ---- graphs of other shapes

-- a graph that is alone is put as one more
put-weight : (m : Shape) (hs : List Shape) → is_alone m hs ≡ true → weight (put m hs) ≡ (1 + segs m.atoms) + weight hs
put-weight m [] e = refl
put-weight m (h ∷ hs) e = let p = alone-parts m h hs e in by (shape_cmp m h) refl p.0 (put-weight m hs p.1)
  where
    by : (o : Ordering) → shape_cmp m h ≡ o → alike m h ≡ false → weight (put m hs) ≡ (1 + segs m.atoms) + weight hs
        → weight (match_ordering o (m ∷ h ∷ hs) (h ∷ hs) (h ∷ put m hs)) ≡ (1 + segs m.atoms) + weight (h ∷ hs)
    by Less d f later = refl
    by Equal d f later =
        let w : true ≡ false = sym (alike-self m) ∙ ap (alike m) (shape_cmp-same m h d) ∙ f in cc
    by Greater d f later = omega arith

-- of a graph's shape none is among others that are alike none of them
alone-alike : (g h : Shape) (hs : List Shape) → alike g h ≡ true → is_alone h hs ≡ true → is_alone g hs ≡ true
alone-alike g h [] e f = refl
alone-alike g h (k ∷ ks) e f = let p = alone-parts h k ks f in alone-from g k ks (alike-along g h k e ∙ p.0) (alone-alike g h ks e p.1)

-- one that is alone stays as it is, and so do the others
pub grown_itself : (g : Shape) (hs : List Shape) → is_alone g hs ≡ true → grown g hs ≡ g
grown_itself g [] e = refl
grown_itself g (h ∷ hs) e = let p = alone-parts g h hs e in (λ i. grown (cond (p.0 i) (merged g h) g) hs) ∙ grown_itself g hs p.1

pub others_all : (g : Shape) (hs : List Shape) → is_alone g hs ≡ true → others g hs ≡ hs
others_all g [] e = refl
others_all g (h ∷ hs) e = let p = alone-parts g h hs e in (λ i. cond (not (p.0 i)) (h ∷ others g hs) (others g hs)) ∙ ap (λ v. h ∷ v) (others_all g hs p.1)

merged-alone : (g h : Shape) (hs : List Shape) → is_alone g hs ≡ true → is_alone (merged g h) hs ≡ true
merged-alone g h [] e = refl
merged-alone g h (k ∷ ks) e = let p = alone-parts g k ks e in alone-from (merged g h) k ks (alike-merged g h k ∙ p.0) (merged-alone g h ks p.1)

-- the graph and the others outweigh the list, where it does not allow the graph
outweighs : (g : Shape) (hs : List Shape) → all_alone hs ≡ true → allowed g hs ≡ false → weight hs < (1 + segs (grown g hs).atoms) + weight (others g hs)
outweighs g [] a n = omega arith
outweighs g (h ∷ hs) a n =
    let p = and_parts (is_alone h hs) (all_alone hs) a in
    by (alike g h) refl p.0 (outweighs g hs p.1 (or_second (alike g h && allow h.atoms g.atoms) (allowed g hs) n)) (or_first (alike g h && allow h.atoms g.atoms) (allowed g hs) n)
  where
    by : (b : Bool) → alike g h ≡ b → is_alone h hs ≡ true → weight hs < (1 + segs (grown g hs).atoms) + weight (others g hs) → (alike g h && allow h.atoms g.atoms) ≡ false
        → weight (h ∷ hs) < (1 + segs (grown (cond b (merged g h) g) hs).atoms) + weight (cond (not b) (h ∷ others g hs) (others g hs))
    by false e f later m = omega arith
    by true e f later m =
        let bare = alone-alike g h hs e f in
        let more : allow h.atoms g.atoms ≡ false = ap (λ c. c && allow h.atoms g.atoms) (sym e) ∙ m in
        let grows = either-grows g.atoms h.atoms (alike-parts g h e).1 more in
        let same : segs (grown (merged g h) hs).atoms ≡ segs (either g.atoms h.atoms) = ap (λ (x : Shape). segs x.atoms) (grown_itself (merged g h) hs (merged-alone g h hs bare)) in
        let rest : weight (others g hs) ≡ weight hs = ap weight (others_all g hs bare) in
        omega arith

absorbed-grows : (g : Shape) (hs : List Shape) → all_alone hs ≡ true → (absorbed g hs ≡ hs) ⊎ (weight hs < weight (absorbed g hs))
unfolding absorbed
absorbed-grows g hs a = by (allowed g hs) refl
  where
    by : (b : Bool) → allowed g hs ≡ b → (cond b hs (put (grown g hs) (others g hs)) ≡ hs) ⊎ (weight hs < weight (cond b hs (put (grown g hs) (others g hs))))
    by true e = inl refl
    by false e = let w = put-weight (grown g hs) (others g hs) (grown-alone g hs hs) in let o = outweighs g hs a e in inr (omega arith)

gathered-more : (gs hs : List Shape) → all_alone gs ≡ true → weight gs ≤ weight (gathered gs hs)
gathered-more gs [] a = omega arith
gathered-more gs (h ∷ hs) a =
    let l = gathered-more (absorbed h gs) hs (absorbed-all h gs a) in
    elim (absorbed-grows h gs a) [ inl e ↦ (let d : weight (absorbed h gs) ≡ weight gs = ap weight e in omega arith) | inr e ↦ omega arith ]

gathered-grows : (gs hs : List Shape) → all_alone gs ≡ true → (gathered gs hs ≡ gs) ⊎ (weight gs < weight (gathered gs hs))
gathered-grows gs [] a = inl refl
gathered-grows gs (h ∷ hs) a =
    elim (absorbed-grows h gs a) [
      | inl e ↦ subst (λ v. (gathered v hs ≡ gs) ⊎ (weight gs < weight (gathered v hs))) (sym e) (gathered-grows gs hs a)
      | inr e ↦ inr (let l = gathered-more (absorbed h gs) hs (absorbed-all h gs a) in omega arith)
    ]

-- ---- a state weighs no more than a full one

small-weight : (gs : List Shape) → are_small gs ≡ true → weight gs ≤ length gs * (1 + most_nodes)
small-weight [] e = omega arith
small-weight (g ∷ gs) e =
    let p = and_parts (nat_le (nodes g) most_nodes) (are_small gs) e in
    let n : nodes g ≤ 144 = grind (arith, nat_tests) in
    let f = segs-few g.atoms in
    let l = small-weight gs p.1 in
    omega arith

full-weight : (gs : List Shape) → length gs ≤ 64 → are_small gs ≡ true → weight gs ≤ 9280
full-weight gs h e = let l = small-weight gs e in omega arith

bounded-grows : (gs hs : List Shape) → length gs ≤ 64 → are_small gs ≡ true → (hs ≡ gs) ⊎ (weight gs < weight hs) → (bounded hs ≡ Graphs gs) ⊎ (changes_left (bounded hs) < changes_left (Graphs gs))
unfolding bounded
bounded-grows gs hs h e d = by (nat_le (length hs) most && are_small hs) refl
  where
    full : weight gs ≤ 9280
    full = full-weight gs h e

    by : (b : Bool) → (nat_le (length hs) most && are_small hs) ≡ b → (cond b (Graphs hs) Top ≡ Graphs gs) ⊎ (changes_left (cond b (Graphs hs) Top) < changes_left (Graphs gs))
    by true k = elim d [ inl f ↦ inl (ap Graphs f) | inr f ↦ inr (let g = full in omega arith) ]
    by false k = inr (let g = full in omega arith)

join-grows : (ns : List ℕ) (s t : Segments) → IsTidy ns s → (join s t ≡ s) ⊎ (changes_left (join s t) < changes_left s)
unfolding join
join-grows ns Top t h = inl refl
join-grows ns (Graphs gs) Top h = inr (let w = full-weight gs h.fits.few (and_parts (all_alone gs) (are_small gs) h.tidy).1 in omega arith)
join-grows ns (Graphs gs) (Graphs hs) h =
    let p = and_parts (all_alone gs) (are_small gs) h.tidy in
    bounded-grows gs (gathered gs hs) h.fits.few p.1 (gathered-grows gs hs p.0)

pub joins-end : JoiningEnds
joins-end ls s t f = join-grows _ s t (fits-tidy s ls f)

pub widenings-end : WideningEnds
widenings-end thresholds ls s t f = join-grows _ s t (fits-tidy s ls f)
