-- What a graph covers, a graph of its shape covers that is `seg` wherever it is: exactly one cell is one cell or more.
use Rattle.std.proofs.Common.{◌≡◌, ℕ, zero, suc, ◌<◌, Bool, true, false, not, List, [], ◌∷◌, ◌⊎◌, inl, inr, map, length, Option, None, Some, refl, sym, ◌∙◌, ap, subst, arith}
use Rattle.std.specs.Prelude.{◌&&◌, ◌||◌}
use Rattle.std.proofs.lemmas.Bool.{and_parts}
use Rattle.shape_graph.specs.declared.graph.Atom.{Atom}
use Rattle.shape_graph.specs.Shape.{Shape, nodes, atom_at, target_at, slots, In, Named, IsGraph, Reached, named, along, IsShared, IsAnchor}
use Rattle.shape_graph.specs.Covers.{start_of, Linked, HasCount, IsPlaced, Covers, IsCoveredBy}
use Rattle.shape_graph.specs.Folds.{IsSeen, IsWalk, InOrder, IsFolded}
use Rattle.dom_listseg_meaning.proofs.Fitting.{Framed, FitsGraph}
use Rattle.dom_shapes_meaning.specs.Sets.{same_targets, alike, allow, either, merged}
use Rattle.dom_shapes_meaning.proofs.Shapes.{targets-count, targets-at, alike-parts}

-- the same shape, and `seg` wherever the first is
pub record IsGrown (g m : Shape) : Type 0 where
  pub frames : g.frames ≡ m.frames
  pub count : nodes g ≡ nodes m
  pub targets : (k : ℕ) → target_at g k ≡ target_at m k
  pub many : (k : ℕ) → (atom_at g.atoms k).many ≡ true → (atom_at m.atoms k).many ≡ true

pub grown-self : (g : Shape) → IsGrown g g
grown-self g = record { frames = refl; count = refl; targets = λ k. refl; many = λ k e. e }

pub grown-along : (g h m : Shape) → IsGrown g h → IsGrown h m → IsGrown g m
grown-along g h m a b = record {
  frames = a.frames ∙ b.frames;
  count = a.count ∙ b.count;
  targets = λ k. a.targets k ∙ b.targets k;
  many = λ k e. b.many k (a.many k e);
}

has-count : (b d : Bool) (cs : List ℕ) → (b ≡ true → d ≡ true) → HasCount b cs → HasCount d cs
has-count b d [] f h = absurd h
has-count true d (c ∷ cs) f h = subst (λ x. HasCount x (c ∷ cs)) (sym (f refl)) tt
has-count false true (c ∷ cs) f h = tt
has-count false false (c ∷ cs) f h = h

-- a placing stays one where kinds grow
pub grown-covers : (g m : Shape) → IsGrown g m → IsCoveredBy g m
grown-covers g m a variables heap c =
    let cells = c.0 in
    let p = c.1 in
    let below : (k : ℕ) → k < nodes m → k < nodes g = λ k l. subst (λ n. k < n) (sym a.count) l in (
      cells,
      record {
        starts = p.starts ∙ ap (map (map (start_of cells))) a.frames;
        counts = λ k l. has-count (atom_at g.atoms k).many (atom_at m.atoms k).many (cells k) (a.many k) (p.counts k (below k l));
        links = λ k l. subst (λ t. Linked heap (cells k) (start_of cells t)) (a.targets k) (p.links k (below k l));
        once = λ k l. p.once k (below k l);
        apart = λ j k c l n. p.apart j k c (below j l) (below k n);
      },
    )

named-still : (g m : Shape) → IsGrown g m → (k : ℕ) → Named g k → Named m k
named-still g m a k i = subst (λ f. In (Some k) (slots (record { frames = f; atoms = m.atoms }))) a.frames i

named-before : (g m : Shape) → IsGrown g m → (k : ℕ) → Named m k → Named g k
named-before g m a k i = subst (λ f. In (Some k) (slots (record { frames = f; atoms = m.atoms }))) (sym a.frames) i

reached-still : (g m : Shape) → IsGrown g m → (k : ℕ) → Reached g k → Reached m k
reached-still g m a k (named i) = named (named-still g m a k i)
reached-still g m a k (along {j} r e) = along (reached-still g m a j r) (sym (a.targets j) ∙ e)

anchor-still : (g m : Shape) → IsGrown g m → (k : ℕ) → IsAnchor g k → IsAnchor m k
anchor-still g m a k (inl i) = inl (named-still g m a k i)
anchor-still g m a k (inr s) = inr (record {
  one = s.one;
  other = s.other;
  one_reached = reached-still g m a s.one s.one_reached;
  other_reached = reached-still g m a s.other s.other_reached;
  two = s.two;
  one_points = sym (a.targets s.one) ∙ s.one_points;
  other_points = sym (a.targets s.other) ∙ s.other_points;
})

pub grown-graph : (g m : Shape) → IsGrown g m → IsGraph g → IsGraph m
grown-graph g m a ok = record {
  slots_in = λ k i. subst (λ n. k < n) a.count (ok.slots_in k (named-before g m a k i));
  targets_in = λ j k e. subst (λ n. k < n) a.count (ok.targets_in j k (a.targets j ∙ e));
}

module _ (g m : Shape) (a : IsGrown g m) where
  walk-still : (start : Option ℕ) (from to : ℕ) → IsWalk g.atoms start from to → IsWalk m.atoms start from to
  walk-still start from to w = record {
    le = w.le;
    stays = w.stays;
    begins = w.begins;
    goes = λ j l n. sym (a.targets j) ∙ w.goes j l n;
    stops = λ j l e. subst (IsSeen to) (a.targets j) (w.stops j l e);
  }

  order-still : (starts : List (Option ℕ)) (from : ℕ) → InOrder g.atoms starts from → InOrder m.atoms starts from
  order-still [] from e = e ∙ a.count
  order-still (start ∷ starts) from o = (o.0, walk-still start from o.0 o.1, order-still starts o.0 o.2)

  pub grown-folded : IsFolded g → IsFolded m
  grown-folded f = record {
    anchors = λ k l. anchor-still g m a k (f.anchors k (subst (λ n. k < n) (sym a.count) l));
    order = subst (λ s. InOrder m.atoms (slots (record { frames = s; atoms = m.atoms })) 0) a.frames (order-still (slots g) 0 f.order);
  }

  pub grown-fits : (ns : List ℕ) → FitsGraph ns g → FitsGraph ns m
  grown-fits ns f = record {
    framed = record { graph = grown-graph g m a f.framed.graph; frames = ap (map length) (sym a.frames) ∙ f.framed.frames };
    folded = grown-folded f.folded;
  }

or-left : (b d : Bool) → b ≡ true → (b || d) ≡ true
or-left b d e = subst (λ x. (x || d) ≡ true) (sym e) refl

or-right : (b d : Bool) → d ≡ true → (b || d) ≡ true
or-right true d e = refl
or-right false d e = e

either-count : (xs ys : List Atom) → length xs ≡ length (either xs ys)
either-count [] ys = refl
either-count (a ∷ xs) [] = refl
either-count (a ∷ xs) (b ∷ ys) = ap suc (either-count xs ys)

either-at : (xs ys : List Atom) (k : ℕ) → (atom_at xs k).target ≡ (atom_at (either xs ys) k).target
either-at [] ys k = refl
either-at (a ∷ xs) [] k = refl
either-at (a ∷ xs) (b ∷ ys) zero = refl
either-at (a ∷ xs) (b ∷ ys) (suc k) = either-at xs ys k

either-left : (xs ys : List Atom) (k : ℕ) → (atom_at xs k).many ≡ true → (atom_at (either xs ys) k).many ≡ true
either-left [] ys k e = e
either-left (a ∷ xs) [] k e = e
either-left (a ∷ xs) (b ∷ ys) zero e = or-left a.many b.many e
either-left (a ∷ xs) (b ∷ ys) (suc k) e = either-left xs ys k e

either-right : (xs ys : List Atom) → same_targets xs ys ≡ true → (k : ℕ) → (atom_at ys k).many ≡ true → (atom_at (either xs ys) k).many ≡ true
either-right [] [] h k e = e
either-right [] (b ∷ ys) h k e = cc
either-right (a ∷ xs) [] h k e = cc
either-right (a ∷ xs) (b ∷ ys) h zero e = or-right a.many b.many e
either-right (a ∷ xs) (b ∷ ys) h (suc k) e = either-right xs ys (and_parts _ (same_targets xs ys) h).1 k e

-- both graphs grow where they become one
pub merged-left : (g h : Shape) → IsGrown g (merged g h)
merged-left g h = record {
  frames = refl;
  count = either-count g.atoms h.atoms;
  targets = either-at g.atoms h.atoms;
  many = either-left g.atoms h.atoms;
}

pub merged-right : (g h : Shape) → alike g h ≡ true → IsGrown h (merged g h)
merged-right g h e =
    let p = alike-parts g h e in
    record {
      frames = sym p.0;
      count = sym (targets-count g.atoms h.atoms p.1) ∙ either-count g.atoms h.atoms;
      targets = λ k. sym (targets-at g.atoms h.atoms p.1 k) ∙ either-at g.atoms h.atoms k;
      many = either-right g.atoms h.atoms p.1;
    }

allow-at : (xs ys : List Atom) → same_targets ys xs ≡ true → allow xs ys ≡ true → (k : ℕ) → (atom_at ys k).many ≡ true → (atom_at xs k).many ≡ true
allow-at [] [] t h k e = e
allow-at [] (b ∷ ys) t h k e = cc
allow-at (a ∷ xs) [] t h k e = cc
allow-at (a ∷ xs) (b ∷ ys) t h zero e = by a.many b.many (and_parts (a.many || not b.many) (allow xs ys) h).0 e
  where
    by : (x y : Bool) → (x || not y) ≡ true → y ≡ true → x ≡ true
    by true y c d = refl
    by false true c d = cc
    by false false c d = cc
allow-at (a ∷ xs) (b ∷ ys) t h (suc k) e =
    allow-at xs ys (and_parts _ (same_targets ys xs) t).1 (and_parts (a.many || not b.many) (allow xs ys) h).1 k e

-- and a graph is grown that is allowed by one of its shape
pub allowed-grown : (g h : Shape) → alike g h ≡ true → allow h.atoms g.atoms ≡ true → IsGrown g h
allowed-grown g h e f =
    let p = alike-parts g h e in
    record {
      frames = p.0;
      count = targets-count g.atoms h.atoms p.1;
      targets = targets-at g.atoms h.atoms p.1;
      many = allow-at h.atoms g.atoms p.1 f;
    }
