-- States with one graph a shape: they fit, and describe what the graphs did.
use Rattle.std.proofs.Common.{◌≡◌, ℕ, ◌≤◌, Bool, true, false, not, cond, List, [], ◌∷◌, ◌⊎◌, inl, inr, Option, length, take, drop, refl, sym, ◌∙◌, ap, subst, arith}
use Rattle.std.specs.Prelude.{◌&&◌, nat_le}
use Rattle.std.specs.Ordering.{is_lt}
use Rattle.std.proofs.lemmas.Bool.{and_parts, and_from, cases_Bool}
use Rattle.imp_slots.specs.Plain.{Layout}
use Rattle.concrete_sem.specs.Values.{Variables, Heap}
use Rattle.shape_graph.specs.Shape.{Shape, nodes, In}
use Rattle.shape_graph.specs.Order.{shape_cmp, shape_total, shape_cmp-self}
use Rattle.shape_steps.specs.Steps.{AnyCovers}
use Rattle.dom_listseg_meaning.specs.State.{Segments, Top, Graphs}
use Rattle.dom_listseg_meaning.specs.Sets.{rises, most}
use Rattle.dom_listseg_meaning.specs.Covers.{counts}
use Rattle.dom_listseg_meaning.proofs.Rising.{tail-rises, less-is}
use Rattle.dom_listseg_meaning.proofs.Fitting.{FitsGraph, FitsState, few-is}
use Rattle.dom_listseg_meaning.proofs.Covering.{Describes}
use Rattle.dom_shapes_meaning.specs.Sets.{alike, is_alone, all_alone, are_small, most_nodes, gathered, bounded, tidied}
use Rattle.dom_shapes_meaning.specs.Operations.{join}
use Rattle.dom_shapes_meaning.specs.Covers.{is_tidy}
use Rattle.dom_shapes_meaning.proofs.Shapes.{alike-turned}
use Rattle.dom_shapes_meaning.proofs.Absorbing.{gathered-left, gathered-right, gathered-rises, gathered-fit, gathered-all, alone-parts, alone-from}

-- a state that fits, with one graph a shape
pub record IsTidy (ns : List ℕ) (s : Segments) : Type 0 where
  pub fits : FitsState ns s
  pub tidy : is_tidy s ≡ true

-- graphs in their order that fit, one a shape
pub record Gathering (ns : List ℕ) (gs : List Shape) : Type 0 where
  pub rise : rises gs ≡ true
  pub alone : all_alone gs ≡ true
  pub each_fits : (g : Shape) → In g gs → FitsGraph ns g

top-tidy : (ns : List ℕ) → IsTidy ns Top
top-tidy ns = record { fits = tt; tidy = refl }

bounded-tidy : (ns : List ℕ) (gs : List Shape) → Gathering ns gs → IsTidy ns (bounded gs)
unfolding bounded
bounded-tidy ns gs k = by (nat_le (length gs) most && are_small gs) refl
  where
    by : (b : Bool) → (nat_le (length gs) most && are_small gs) ≡ b → IsTidy ns (cond b (Graphs gs) Top)
    by true e =
        let p = and_parts (nat_le (length gs) most) (are_small gs) e in
        record { fits = record { few = few-is (length gs) p.0; rise = k.rise; each_fits = k.each_fits }; tidy = and_from (all_alone gs) (are_small gs) k.alone p.1 }
    by false e = top-tidy ns

bounded-describes : (variables : List (List (Option ℕ))) (heap : List (Option ℕ)) (gs : List Shape) → AnyCovers gs variables heap → Describes variables heap (bounded gs)
unfolding bounded
bounded-describes variables heap gs c = by (nat_le (length gs) most && are_small gs)
  where
    by : (b : Bool) → Describes variables heap (cond b (Graphs gs) Top)
    by true = c
    by false = tt

gathering : (ns : List ℕ) (gs hs : List Shape) → Gathering ns gs → ((g : Shape) → In g hs → FitsGraph ns g) → Gathering ns (gathered gs hs)
gathering ns gs hs k f = record {
  rise = gathered-rises gs hs k.rise;
  alone = gathered-all gs hs k.alone;
  each_fits = gathered-fit ns gs hs k.each_fits f;
}

pub tidied-tidy : (ns : List ℕ) (s : Segments) → FitsState ns s → IsTidy ns (tidied s)
unfolding tidied
tidied-tidy ns Top h = top-tidy ns
tidied-tidy ns (Graphs gs) h = by (all_alone gs) refl
  where
    by : (b : Bool) → all_alone gs ≡ b → IsTidy ns (cond b (bounded gs) (bounded (gathered [] gs)))
    by true e = bounded-tidy ns gs (record { rise = h.rise; alone = e; each_fits = h.each_fits })
    by false e = bounded-tidy ns (gathered [] gs) (gathering ns [] gs (record { rise = refl; alone = refl; each_fits = λ g i. absurd i }) h.each_fits)

pub tidied-describes : (variables : List (List (Option ℕ))) (heap : List (Option ℕ)) (s : Segments) → Describes variables heap s → Describes variables heap (tidied s)
unfolding tidied
tidied-describes variables heap Top d = tt
tidied-describes variables heap (Graphs gs) d = by (all_alone gs)
  where
    by : (b : Bool) → Describes variables heap (cond b (bounded gs) (bounded (gathered [] gs)))
    by true = bounded-describes variables heap gs d
    by false = bounded-describes variables heap (gathered [] gs) (gathered-right variables heap [] gs d)

alone-of : (gs : List Shape) → is_tidy (Graphs gs) ≡ true → all_alone gs ≡ true
alone-of gs e = (and_parts (all_alone gs) (are_small gs) e).0

pub join-tidy : (ns : List ℕ) (s t : Segments) → IsTidy ns s → FitsState ns t → IsTidy ns (join s t)
unfolding join
join-tidy ns Top t h k = top-tidy ns
join-tidy ns (Graphs gs) Top h k = top-tidy ns
join-tidy ns (Graphs gs) (Graphs hs) h k =
    bounded-tidy ns (gathered gs hs) (gathering ns gs hs (record { rise = h.fits.rise; alone = alone-of gs h.tidy; each_fits = h.fits.each_fits }) k.each_fits)

pub join-left : (variables : List (List (Option ℕ))) (heap : List (Option ℕ)) (s t : Segments) → Describes variables heap s → Describes variables heap (join s t)
unfolding join
join-left variables heap Top t d = tt
join-left variables heap (Graphs gs) Top d = tt
join-left variables heap (Graphs gs) (Graphs hs) d = bounded-describes variables heap (gathered gs hs) (gathered-left variables heap gs hs d)

pub join-right : (variables : List (List (Option ℕ))) (heap : List (Option ℕ)) (s t : Segments) → Describes variables heap t → Describes variables heap (join s t)
unfolding join
join-right variables heap Top t d = tt
join-right variables heap (Graphs gs) Top d = tt
join-right variables heap (Graphs gs) (Graphs hs) d = bounded-describes variables heap (gathered gs hs) (gathered-right variables heap gs hs d)

-- ---- fewer graphs stay tidy

small-at : (g : Shape) (gs : List Shape) → are_small gs ≡ true → In g gs → nat_le (nodes g) most_nodes ≡ true
small-at g [] e i = absurd i
small-at g (h ∷ hs) e (inl i) = subst (λ (x : Shape). nat_le (nodes x) most_nodes ≡ true) (sym i) (and_parts (nat_le (nodes h) most_nodes) (are_small hs) e).0
small-at g (h ∷ hs) e (inr i) = small-at g hs (and_parts (nat_le (nodes h) most_nodes) (are_small hs) e).1 i

small-from : (gs : List Shape) → ((g : Shape) → In g gs → nat_le (nodes g) most_nodes ≡ true) → are_small gs ≡ true
small-from [] f = refl
small-from (g ∷ gs) f = and_from (nat_le (nodes g) most_nodes) (are_small gs) (f g (inl refl)) (small-from gs (λ x i. f x (inr i)))

-- a graph of which none of the others is alike
alone-at : (g x : Shape) (gs : List Shape) → is_alone g gs ≡ true → In x gs → alike g x ≡ false
alone-at g x [] e i = absurd i
alone-at g x (h ∷ hs) e (inl i) = ap (alike g) i ∙ (alone-parts g h hs e).0
alone-at g x (h ∷ hs) e (inr i) = alone-at g x hs (alone-parts g h hs e).1 i

-- so graphs that are alike are one graph
alike-one : (x y : Shape) (gs : List Shape) → all_alone gs ≡ true → In x gs → In y gs → alike x y ≡ true → x ≡ y
alike-one x y [] e i j a = absurd i
alike-one x y (g ∷ gs) e (inl i) (inl j) a = i ∙ sym j
alike-one x y (g ∷ gs) e (inl i) (inr j) a =
    let f : alike x y ≡ false = ap (λ z. alike z y) i ∙ alone-at g y gs (and_parts (is_alone g gs) (all_alone gs) e).0 j in
    absurd (let w : true ≡ false = sym a ∙ f in cc)
alike-one x y (g ∷ gs) e (inr i) (inl j) a =
    let f : alike x y ≡ false = alike-turned x y ∙ ap (λ z. alike z x) j ∙ alone-at g x gs (and_parts (is_alone g gs) (all_alone gs) e).0 i in
    absurd (let w : true ≡ false = sym a ∙ f in cc)
alike-one x y (g ∷ gs) e (inr i) (inr j) a = alike-one x y gs (and_parts (is_alone g gs) (all_alone gs) e).1 i j a

-- the first of a rising list is not behind itself
first-below : (g h : Shape) (hs : List Shape) → rises (g ∷ hs) ≡ true → In h hs → is_lt (shape_cmp g h) ≡ true
first-below g h [] r i = absurd i
first-below g h (k ∷ ks) r (inl i) = subst (λ x. is_lt (shape_cmp g x) ≡ true) (sym i) (and_parts (is_lt (shape_cmp g k)) (rises (k ∷ ks)) r).0
first-below g h (k ∷ ks) r (inr i) =
    let p = and_parts (is_lt (shape_cmp g k)) (rises (k ∷ ks)) r in
    ap is_lt (shape_total.trans g k h (less-is (shape_cmp g k) p.0) (less-is (shape_cmp k h) (first-below k h ks p.1 i)))

not-self : (g : Shape) → is_lt (shape_cmp g g) ≡ true → ⊥
not-self g e = let w = sym (ap is_lt (shape_cmp-self g)) ∙ e in cc

-- graphs of a tidy list, each once, are tidy
module _ (gs : List Shape) (alone : all_alone gs ≡ true) where
  one-alone : (g : Shape) (hs ks : List Shape) → In g gs → ((x : Shape) → In x ks → In x gs) → ((x : Shape) → In x ks → In x hs) → rises (g ∷ hs) ≡ true → is_alone g ks ≡ true
  one-alone g hs [] i f b r = refl
  one-alone g hs (k ∷ ks) i f b r = alone-from g k ks (by (alike g k) refl) (one-alone g hs ks i (λ x j. f x (inr j)) (λ x j. b x (inr j)) r)
    where
      by : (c : Bool) → alike g k ≡ c → alike g k ≡ false
      by false e = e
      by true e =
          let same : g ≡ k = alike-one g k gs alone i (f k (inl refl)) e in
          absurd (not-self g (subst (λ x. is_lt (shape_cmp g x) ≡ true) (sym same) (first-below g k hs r (b k (inl refl)))))

  pub among-alone : (hs : List Shape) → ((x : Shape) → In x hs → In x gs) → rises hs ≡ true → all_alone hs ≡ true
  among-alone [] f r = refl
  among-alone (h ∷ hs) f r =
      and_from (is_alone h hs) (all_alone hs) (one-alone h hs hs (f h (inl refl)) (λ x i. f x (inr i)) (λ x i. i) r)
      (among-alone hs (λ x i. f x (inr i)) (tail-rises h hs r))

-- the graphs of a state, where it is not Top, are among these
abbrev pub Among : List Shape → Segments → Type 0
Among gs Top = Unit {0}
Among gs (Graphs hs) = (x : Shape) → In x hs → In x gs

pub among-tidy : (ns : List ℕ) (gs : List Shape) (s : Segments) → is_tidy (Graphs gs) ≡ true → Among gs s → FitsState ns s → IsTidy ns s
among-tidy ns gs Top e a f = top-tidy ns
among-tidy ns gs (Graphs hs) e a f = record {
  fits = f;
  tidy = and_from (all_alone hs) (are_small hs) (among-alone gs (alone-of gs e) hs a f.rise)
      (small-from hs (λ x i. small-at x gs (and_parts (all_alone gs) (are_small gs) e).1 (a x i)));
}
