-- Graphs put into a set in which no two have one shape: what such a set covers, and that it stays one.
use Rattle.std.proofs.Common.{◌≡◌, ℕ, Bool, true, false, not, cond, List, [], ◌∷◌, ◌⊎◌, inl, inr, Option, refl, sym, ◌∙◌, ap, subst}
use Rattle.std.specs.Prelude.{◌&&◌, ◌||◌}
use Rattle.std.specs.List.{filter}
use Rattle.std.specs.Ordering.{match_ordering}
use Rattle.std.specs.declared.cmp.Ordering.{Ordering}
use Rattle.std.specs.declared.cmp.Ordering.TheVariants.{Less, Equal, Greater}
use Rattle.std.proofs.lemmas.Bool.{and_parts, and_from, cases_Bool}
use Rattle.shape_graph.specs.Shape.{Shape, In}
use Rattle.shape_graph.specs.Order.{shape_cmp}
use Rattle.shape_graph.specs.Covers.{Covers}
use Rattle.shape_steps.specs.Steps.{AnyCovers}
use Rattle.dom_listseg_meaning.specs.Sets.{put, rises}
use Rattle.dom_listseg_meaning.proofs.Members.{put-kept, put-new, put-from, In-filter, In-from_filter}
use Rattle.dom_listseg_meaning.proofs.Rising.{put_rises, filter_rises}
use Rattle.dom_listseg_meaning.proofs.Fitting.{FitsGraph}
use Rattle.dom_shapes_meaning.specs.Sets.{alike, allow, merged, allowed, grown, others, absorbed, gathered, is_alone, all_alone}
use Rattle.dom_shapes_meaning.proofs.Shapes.{alike-turned, alike-merged}
use Rattle.dom_shapes_meaning.proofs.Growing.{IsGrown, grown-self, grown-along, grown-covers, grown-fits, merged-left, merged-right, allowed-grown}

-- a graph of the list has the shape, and is `seg` wherever the graph is
pub record IsAllowed (g : Shape) (hs : List Shape) : Type 0 where
  pub one : Shape
  pub among : In one hs
  pub grows : IsGrown g one

is-allowed : (g : Shape) (hs : List Shape) → allowed g hs ≡ true → IsAllowed g hs
is-allowed g [] e = cc
is-allowed g (h ∷ hs) e = by (alike g h) (allow h.atoms g.atoms) refl refl (is-allowed g hs) e
  where
    by : (a b : Bool) → alike g h ≡ a → allow h.atoms g.atoms ≡ b → (allowed g hs ≡ true → IsAllowed g hs) → ((a && b) || allowed g hs) ≡ true → IsAllowed g (h ∷ hs)
    by true true p q later e = record { one = h; among = inl refl; grows = allowed-grown g h p q }
    by true false p q later e = let r = later e in record { one = r.one; among = inr r.among; grows = r.grows }
    by false b p q later e = let r = later e in record { one = r.one; among = inr r.among; grows = r.grows }

-- what a graph becomes has its shape
pub alike-grown : (g x : Shape) (hs : List Shape) → alike (grown g hs) x ≡ alike g x
alike-grown g x [] = refl
alike-grown g x (h ∷ hs) = by (alike g h) (alike-grown (merged g h) x hs) (alike-grown g x hs)
  where
    by : (b : Bool) → alike (grown (merged g h) hs) x ≡ alike (merged g h) x → alike (grown g hs) x ≡ alike g x → alike (grown (cond b (merged g h) g) hs) x ≡ alike g x
    by true e f = e ∙ alike-merged g h x
    by false e f = f

-- it has grown from the graph
pub grown-first : (g : Shape) (hs : List Shape) → IsGrown g (grown g hs)
grown-first g [] = grown-self g
grown-first g (h ∷ hs) = by (alike g h) (grown-first (merged g h) hs) (grown-first g hs)
  where
    by : (b : Bool) → IsGrown (merged g h) (grown (merged g h) hs) → IsGrown g (grown g hs) → IsGrown g (grown (cond b (merged g h) g) hs)
    by true e f = grown-along g (merged g h) (grown (merged g h) hs) (merged-left g h) e
    by false e f = f

-- and from each of its shape
pub grown-each : (g x : Shape) (hs : List Shape) → In x hs → alike g x ≡ true → IsGrown x (grown g hs)
grown-each g x [] i e = absurd i
grown-each g x (h ∷ hs) (inl i) e =
    let f : alike g h ≡ true = subst (λ y. alike g y ≡ true) i e in
    subst (λ b. IsGrown x (grown (cond b (merged g h) g) hs)) (sym f)
    (subst (λ y. IsGrown y (grown (merged g h) hs)) (sym i)
    (grown-along h (merged g h) (grown (merged g h) hs) (merged-right g h f) (grown-first (merged g h) hs)))
grown-each g x (h ∷ hs) (inr i) e = by (alike g h) (grown-each (merged g h) x hs i (alike-merged g h x ∙ e)) (grown-each g x hs i e)
  where
    by : (b : Bool) → IsGrown x (grown (merged g h) hs) → IsGrown x (grown g hs) → IsGrown x (grown (cond b (merged g h) g) hs)
    by true a c = a
    by false a c = c

module _ (variables : List (List (Option ℕ))) (heap : List (Option ℕ)) where
  -- what the graph covers is covered where it is absorbed
  absorbed-new : (g : Shape) (hs : List Shape) → Covers g variables heap → AnyCovers (absorbed g hs) variables heap
  unfolding absorbed
  absorbed-new g hs c = by (allowed g hs) refl
    where
      by : (b : Bool) → allowed g hs ≡ b → AnyCovers (cond b hs (put (grown g hs) (others g hs))) variables heap
      by true e = let r = is-allowed g hs e in (r.one, r.among, grown-covers g r.one r.grows variables heap c)
      by false e = (grown g hs, put-new (grown g hs) (others g hs), grown-covers g (grown g hs) (grown-first g hs) variables heap c)

  -- and what was covered still is
  absorbed-old : (g : Shape) (hs : List Shape) → AnyCovers hs variables heap → AnyCovers (absorbed g hs) variables heap
  unfolding absorbed
  absorbed-old g hs c = by (allowed g hs)
    where
      one : (b : Bool) → alike g c.0 ≡ b → AnyCovers (put (grown g hs) (others g hs)) variables heap
      one true e = (grown g hs, put-new (grown g hs) (others g hs), grown-covers c.0 (grown g hs) (grown-each g c.0 hs c.1 e) variables heap c.2)
      one false e = (c.0, put-kept (grown g hs) c.0 (others g hs) (In-filter (λ (h : Shape). not (alike g h)) c.0 hs (ap not e) c.1), c.2)

      by : (b : Bool) → AnyCovers (cond b hs (put (grown g hs) (others g hs))) variables heap
      by true = c
      by false = one (alike g c.0) refl

  pub gathered-left : (gs hs : List Shape) → AnyCovers gs variables heap → AnyCovers (gathered gs hs) variables heap
  gathered-left gs [] c = c
  gathered-left gs (h ∷ hs) c = gathered-left (absorbed h gs) hs (absorbed-old h gs c)

  pub gathered-right : (gs hs : List Shape) → AnyCovers hs variables heap → AnyCovers (gathered gs hs) variables heap
  gathered-right gs [] (x, i, c) = absurd i
  gathered-right gs (h ∷ hs) (x, inl i, c) = gathered-left (absorbed h gs) hs (absorbed-new h gs (subst (λ y. Covers y variables heap) i c))
  gathered-right gs (h ∷ hs) (x, inr i, c) = gathered-right (absorbed h gs) hs (x, i, c)

-- the order is kept
absorbed-rises : (g : Shape) (hs : List Shape) → rises hs ≡ true → rises (absorbed g hs) ≡ true
unfolding absorbed
absorbed-rises g hs r = by (allowed g hs)
  where
    by : (b : Bool) → rises (cond b hs (put (grown g hs) (others g hs))) ≡ true
    by true = r
    by false = put_rises (grown g hs) (others g hs) (filter_rises (λ (h : Shape). not (alike g h)) hs r)

pub gathered-rises : (gs hs : List Shape) → rises gs ≡ true → rises (gathered gs hs) ≡ true
gathered-rises gs [] r = r
gathered-rises gs (h ∷ hs) r = gathered-rises (absorbed h gs) hs (absorbed-rises h gs r)

-- graphs fit that have grown from graphs that do
absorbed-fit : (ns : List ℕ) (g : Shape) (hs : List Shape) → FitsGraph ns g → ((x : Shape) → In x hs → FitsGraph ns x) → (x : Shape) → In x (absorbed g hs) → FitsGraph ns x
unfolding absorbed
absorbed-fit ns g hs f fs x = by (allowed g hs)
  where
    by : (b : Bool) → In x (cond b hs (put (grown g hs) (others g hs))) → FitsGraph ns x
    by true i = fs x i
    by false i =
        elim (put-from (grown g hs) x (others g hs) i) [
          | inl e ↦ subst (FitsGraph ns) (sym e) (grown-fits g (grown g hs) (grown-first g hs) ns f)
          | inr j ↦ fs x (In-from_filter (λ (h : Shape). not (alike g h)) x hs j)
        ]

pub gathered-fit : (ns : List ℕ) (gs hs : List Shape) → ((x : Shape) → In x gs → FitsGraph ns x) → ((x : Shape) → In x hs → FitsGraph ns x) → (x : Shape) → In x (gathered gs hs) → FitsGraph ns x
gathered-fit ns gs [] f k = f
gathered-fit ns gs (h ∷ hs) f k = gathered-fit ns (absorbed h gs) hs (absorbed-fit ns h gs (k h (inl refl)) f) (λ x i. k x (inr i))

-- ---- no two graphs of one shape

not-true : (b : Bool) → not b ≡ true → b ≡ false
not-true true e = cc
not-true false e = refl

pub alone-parts : (g h : Shape) (hs : List Shape) → is_alone g (h ∷ hs) ≡ true → (alike g h ≡ false) × (is_alone g hs ≡ true)
alone-parts g h hs e = let p = and_parts (not (alike g h)) (is_alone g hs) e in (not-true (alike g h) p.0, p.1)

pub alone-from : (g h : Shape) (hs : List Shape) → alike g h ≡ false → is_alone g hs ≡ true → is_alone g (h ∷ hs) ≡ true
alone-from g h hs e f = and_from (not (alike g h)) (is_alone g hs) (ap not e) f

-- of others a graph that becomes one with those of its shape has none
pub grown-alone : (g : Shape) (hs ks : List Shape) → is_alone (grown g hs) (others g ks) ≡ true
grown-alone g hs [] = refl
grown-alone g hs (k ∷ ks) = by (alike g k) refl (grown-alone g hs ks)
  where
    by : (b : Bool) → alike g k ≡ b → is_alone (grown g hs) (others g ks) ≡ true → is_alone (grown g hs) (cond (not b) (k ∷ others g ks) (others g ks)) ≡ true
    by true e later = later
    by false e later = alone-from (grown g hs) k (others g ks) (alike-grown g k hs ∙ e) later

filter-alone : (test : Shape → Bool) (g : Shape) (hs : List Shape) → is_alone g hs ≡ true → is_alone g (filter test hs) ≡ true
filter-alone test g [] e = refl
filter-alone test g (h ∷ hs) e = let p = alone-parts g h hs e in by (test h) p.0 (filter-alone test g hs p.1)
  where
    by : (b : Bool) → alike g h ≡ false → is_alone g (filter test hs) ≡ true → is_alone g (cond b (h ∷ filter test hs) (filter test hs)) ≡ true
    by true f later = alone-from g h (filter test hs) f later
    by false f later = later

filter-all : (test : Shape → Bool) (hs : List Shape) → all_alone hs ≡ true → all_alone (filter test hs) ≡ true
filter-all test [] e = refl
filter-all test (h ∷ hs) e = let p = and_parts (is_alone h hs) (all_alone hs) e in by (test h) p.0 (filter-all test hs p.1)
  where
    by : (b : Bool) → is_alone h hs ≡ true → all_alone (filter test hs) ≡ true → all_alone (cond b (h ∷ filter test hs) (filter test hs)) ≡ true
    by true f later = and_from (is_alone h (filter test hs)) (all_alone (filter test hs)) (filter-alone test h hs f) later
    by false f later = later

put-alone : (g m : Shape) (hs : List Shape) → alike g m ≡ false → is_alone g hs ≡ true → is_alone g (put m hs) ≡ true
put-alone g m [] e f = alone-from g m [] e f
put-alone g m (h ∷ hs) e f = let p = alone-parts g h hs f in by (shape_cmp m h) p.0 (put-alone g m hs e p.1)
  where
    by : (o : Ordering) → alike g h ≡ false → is_alone g (put m hs) ≡ true → is_alone g (match_ordering o (m ∷ h ∷ hs) (h ∷ hs) (h ∷ put m hs)) ≡ true
    by Less d later = alone-from g m (h ∷ hs) e f
    by Equal d later = f
    by Greater d later = alone-from g h (put m hs) d later

pub put-all : (m : Shape) (hs : List Shape) → is_alone m hs ≡ true → all_alone hs ≡ true → all_alone (put m hs) ≡ true
put-all m [] e f = refl
put-all m (h ∷ hs) e f =
    let p = alone-parts m h hs e in
    let q = and_parts (is_alone h hs) (all_alone hs) f in
    by (shape_cmp m h) (put-alone h m hs (alike-turned h m ∙ p.0) q.0) (put-all m hs p.1 q.1)
  where
    by : (o : Ordering) → is_alone h (put m hs) ≡ true → all_alone (put m hs) ≡ true → all_alone (match_ordering o (m ∷ h ∷ hs) (h ∷ hs) (h ∷ put m hs)) ≡ true
    by Less d later = and_from (is_alone m (h ∷ hs)) (all_alone (h ∷ hs)) e f
    by Equal d later = f
    by Greater d later = and_from (is_alone h (put m hs)) (all_alone (put m hs)) d later

pub absorbed-all : (g : Shape) (hs : List Shape) → all_alone hs ≡ true → all_alone (absorbed g hs) ≡ true
unfolding absorbed
absorbed-all g hs f = by (allowed g hs)
  where
    by : (b : Bool) → all_alone (cond b hs (put (grown g hs) (others g hs))) ≡ true
    by true = f
    by false = put-all (grown g hs) (others g hs) (grown-alone g hs hs) (filter-all (λ (h : Shape). not (alike g h)) hs f)

pub gathered-all : (gs hs : List Shape) → all_alone gs ≡ true → all_alone (gathered gs hs) ≡ true
gathered-all gs [] f = f
gathered-all gs (h ∷ hs) f = gathered-all (absorbed h gs) hs (absorbed-all h gs f)
