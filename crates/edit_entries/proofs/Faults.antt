-- The first fault of a block with something else in place of a part of it, where the old block has none.
use Rattle.std.proofs.Common.{◌≡◌, List, [], ◌∷◌, Option, Some, None, Bool, true, refl, sym, ap, ◌∙◌}
use Rattle.imp_syntax.specs.Plain.{Statement, Statements, Ends, Starts, If, While}
use Rattle.imp_check.specs.Faults.{first, at}
use Rattle.imp_check.specs.Statements.{Scope, condition_fault, statement_fault, block_fault}
use Rattle.edit_entries.specs.Holes.{append, Hole, Then, Else, Body, fill, plug, in_loop, between}
use Rattle.imp_check.proofs.FewLemmas.{first_alone, first_none}

pub first_assoc : {A : Type 0} (a b c : Option A) → first (first a b) c ≡ first a (first b c)
first_assoc None b c = refl
first_assoc (Some x) b c = refl

-- Of three parts of which the outer ones have no fault, the fault is that of the middle one.
pub first_middle : {A : Type 0} (a b c : Option A) → a ≡ None → c ≡ None → first a (first b c) ≡ b
first_middle a b c p q = ap (λ o. first o (first b c)) p ∙ ap (first b) q ∙ first_alone b

module _ (s : Scope) where
  pub fault_append : (i : Bool) (xs ys : Statements) → block_fault s i (append xs ys) ≡ first (block_fault s i xs) (block_fault s i ys)
  fault_append i Ends ys = refl
  fault_append i (Starts x xs) ys = ap (first (statement_fault s i x)) (fault_append i xs ys) ∙ sym (first_assoc (statement_fault s i x) (block_fault s i xs) (block_fault s i ys))

  -- one statement among others
  fault_among : (i : Bool) (b r : Statements) (x : Statement) → block_fault s i (append b (Starts x r)) ≡ first (block_fault s i b) (first (statement_fault s i x) (block_fault s i r))
  fault_among i b r x = fault_append i b (Starts x r)

  -- What replaces x has no fault around it, and y brings its own.
  pub record Brings (i : Bool) (hs : List Hole) (x y : Statements) : Type 0 where
    pub none : block_fault s (in_loop i hs) x ≡ None
    pub own : block_fault s i (plug hs y) ≡ block_fault s (in_loop i hs) y

  fill_fault : (i : Bool) (h : Hole) (x y : Statements) → block_fault s i (fill h x) ≡ None → Brings i (h ∷ []) x y
  fill_fault i (Then b n c e r) x y z =
      let a = first_none (block_fault s i b) _ (sym (fault_among i b r (If n c x e)) ∙ z) in
      let d = first_none (statement_fault s i (If n c x e)) (block_fault s i r) a.1 in
      let g = first_none (at n (condition_fault s.variables c)) _ d.0 in
      let k = first_none (block_fault s i x) (block_fault s i e) g.1 in
      record {
        none = k.0;
        own = fault_among i b r (If n c y e) ∙ first_middle (block_fault s i b) (statement_fault s i (If n c y e)) (block_fault s i r) a.0 d.1 ∙ first_middle (at n (condition_fault s.variables c)) (block_fault s i y) (block_fault s i e) g.0 k.1;
      }
  fill_fault i (Else b n c t r) x y z =
      let a = first_none (block_fault s i b) _ (sym (fault_among i b r (If n c t x)) ∙ z) in
      let d = first_none (statement_fault s i (If n c t x)) (block_fault s i r) a.1 in
      let g = first_none (at n (condition_fault s.variables c)) _ d.0 in
      let k = first_none (block_fault s i t) (block_fault s i x) g.1 in
      record {
        none = k.1;
        own = fault_among i b r (If n c t y) ∙ first_middle (block_fault s i b) (statement_fault s i (If n c t y)) (block_fault s i r) a.0 d.1 ∙ ap (λ o. first o (first (block_fault s i t) (block_fault s i y))) g.0 ∙ ap (λ o. first o (block_fault s i y)) k.0;
      }
  fill_fault i (Body b n c r) x y z =
      let a = first_none (block_fault s i b) _ (sym (fault_among i b r (While n c x)) ∙ z) in
      let d = first_none (statement_fault s i (While n c x)) (block_fault s i r) a.1 in
      let g = first_none (at n (condition_fault s.variables c)) (block_fault s true x) d.0 in
      record {
        none = g.1;
        own = fault_among i b r (While n c y) ∙ first_middle (block_fault s i b) (statement_fault s i (While n c y)) (block_fault s i r) a.0 d.1 ∙ ap (λ o. first o (block_fault s true y)) g.0;
      }

  deeper : (i : Bool) (h : Hole) (hs : List Hole) (x y : Statements) → Brings i (h ∷ []) (plug hs x) (plug hs y) → (block_fault s (in_loop i (h ∷ [])) (plug hs x) ≡ None → Brings (in_loop i (h ∷ [])) hs x y) → Brings i (h ∷ hs) x y
  deeper i (Then b n c e r) hs x y o f = let g = f o.none in record { none = g.none; own = o.own ∙ g.own }
  deeper i (Else b n c t r) hs x y o f = let g = f o.none in record { none = g.none; own = o.own ∙ g.own }
  deeper i (Body b n c r) hs x y o f = let g = f o.none in record { none = g.none; own = o.own ∙ g.own }

  pub plug_fault : (i : Bool) (hs : List Hole) (x y : Statements) → block_fault s i (plug hs x) ≡ None → Brings i hs x y
  plug_fault i [] x y z = record { none = z; own = refl }
  plug_fault i (h ∷ hs) x y z = deeper i h hs x y (fill_fault i h (plug hs x) (plug hs y) z) (λ e. plug_fault (in_loop i (h ∷ [])) hs x y e)

  -- The first fault of the new block is the first one of the statements that come, in their scope.
  pub edit_fault : (i : Bool) (hs : List Hole) (before olds news behind : Statements) → block_fault s i (plug hs (between before behind olds)) ≡ None →
      block_fault s i (plug hs (between before behind news)) ≡ block_fault s (in_loop i hs) news
  edit_fault i hs before olds news behind z =
      let o = plug_fault i hs (between before behind olds) (between before behind news) z in
      let j = in_loop i hs in
      let a = first_none (block_fault s j before) (block_fault s j (append olds behind)) (sym (fault_append j before (append olds behind)) ∙ o.none) in
      let d = first_none (block_fault s j olds) (block_fault s j behind) (sym (fault_append j olds behind) ∙ a.1) in
      o.own
      ∙ fault_append j before (append news behind)
      ∙ ap (first (block_fault s j before)) (fault_append j news behind)
      ∙ first_middle (block_fault s j before) (block_fault s j news) (block_fault s j behind) a.0 d.1
