-- Calls, chains, how many statements and how deep, where a part of a block is exchanged.
use Rattle.std.proofs.Common.{◌≡◌, ℕ, ◌+◌, ◌≤◌, max, List, [], ◌∷◌, ◌++◌, length, refl, sym, ap, ◌∙◌, arith, append_assoc}
use Rattle.imp_syntax.specs.Plain.{Statements, Ends, Starts, If, While, Procedure}
use Rattle.imp_check.specs.Chains.{calls_in, calls, extended, chains_to, chains_through, all_chains}
use Rattle.imp_check.specs.Programs.{block_count, program_count, nesting, deepest}
use Rattle.edit_entries.specs.Holes.{append, Hole, Then, Else, Body, fill, plug, between}
use Rattle.edit_entries.proofs.Heads.{bare}

-- Calls.
calls_append : (g : List ℕ) (xs ys : Statements) → calls g (append xs ys) ≡ calls g xs ++ calls g ys
calls_append g Ends ys = refl
calls_append g (Starts s xs) ys = ap (λ k. calls_in g s ++ k) (calls_append g xs ys) ∙ sym (append_assoc (calls_in g s) (calls g xs) (calls g ys))

calls_filled : (g : List ℕ) (h : Hole) (x y : Statements) → calls g x ≡ calls g y → calls g (fill h x) ≡ calls g (fill h y)
calls_filled g (Then b n c e r) x y q = calls_append g b (Starts (If n c x e) r) ∙ ap (λ k. calls g b ++ ((k ++ calls g e) ++ calls g r)) q ∙ sym (calls_append g b (Starts (If n c y e) r))
calls_filled g (Else b n c t r) x y q = calls_append g b (Starts (If n c t x) r) ∙ ap (λ k. calls g b ++ ((calls g t ++ k) ++ calls g r)) q ∙ sym (calls_append g b (Starts (If n c t y) r))
calls_filled g (Body b n c r) x y q = calls_append g b (Starts (While n c x) r) ∙ ap (λ k. calls g b ++ (k ++ calls g r)) q ∙ sym (calls_append g b (Starts (While n c y) r))

pub calls_plug : (g : List ℕ) (hs : List Hole) (x y : Statements) → calls g x ≡ calls g y → calls g (plug hs x) ≡ calls g (plug hs y)
calls_plug g [] x y q = q
calls_plug g (h ∷ hs) x y q = calls_filled g h (plug hs x) (plug hs y) (calls_plug g hs x y q)

calls_between : (g : List ℕ) (before behind x y : Statements) → calls g x ≡ calls g y → calls g (between before behind x) ≡ calls g (between before behind y)
calls_between g before behind x y q =
    calls_append g before (append x behind)
    ∙ ap (λ k. calls g before ++ k) (calls_append g x behind ∙ ap (λ k. k ++ calls g behind) q ∙ sym (calls_append g y behind))
    ∙ sym (calls_append g before (append y behind))

pub calls_edited : (g : List ℕ) (hs : List Hole) (before olds news behind : Statements) → calls g olds ≡ calls g news → calls g (plug hs (between before behind olds)) ≡ calls g (plug hs (between before behind news))
calls_edited g hs before olds news behind q = calls_plug g hs (between before behind olds) (between before behind news) (calls_between g before behind olds news q)

-- Procedures with the same heads and the same calls have the same chains.
abbrev pub CallAlike : List Procedure → List Procedure → Type 0
CallAlike [] [] = Unit {0}
CallAlike [] (q ∷ qs) = ⊥
CallAlike (p ∷ ps) [] = ⊥
CallAlike (p ∷ ps) (q ∷ qs) = (bare p ≡ bare q) × ((g : List ℕ) → calls g p.body ≡ calls g q.body) × CallAlike ps qs

mutual
  chains_alike : (g : List ℕ) (ps qs : List Procedure) → CallAlike ps qs → chains_to g ps ≡ chains_to g qs
  chains_alike g [] [] a = refl
  chains_alike g [] (q ∷ qs) a = absurd a
  chains_alike g (p ∷ ps) [] a = absurd a
  chains_alike g (p ∷ ps) (q ∷ qs) a =
      ap (λ cs. extended cs (calls g p.body) ++ chains_through g ps) (ap (λ n. chains_to n ps) (ap (λ (x : Procedure). x.name) a.0) ∙ chains_alike q.name ps qs a.2)
      ∙ ap (λ cs. extended (chains_to q.name qs) cs ++ chains_through g ps) (a.1 g)
      ∙ ap (λ cs. extended (chains_to q.name qs) (calls g q.body) ++ cs) (through_alike g ps qs a.2)

  through_alike : (g : List ℕ) (ps qs : List Procedure) → CallAlike ps qs → chains_through g ps ≡ chains_through g qs
  through_alike g [] [] a = refl
  through_alike g [] (q ∷ qs) a = absurd a
  through_alike g (p ∷ ps) [] a = absurd a
  through_alike g (p ∷ ps) (q ∷ qs) a =
      ap (λ cs. extended cs (calls g p.body) ++ chains_through g ps) (ap (λ n. chains_to n ps) (ap (λ (x : Procedure). x.name) a.0) ∙ chains_alike q.name ps qs a.2)
      ∙ ap (λ cs. extended (chains_to q.name qs) cs ++ chains_through g ps) (a.1 g)
      ∙ ap (λ cs. extended (chains_to q.name qs) (calls g q.body) ++ cs) (through_alike g ps qs a.2)

pub all_alike : (ps qs : List Procedure) → CallAlike ps qs → all_chains ps ≡ all_chains qs
all_alike [] [] a = refl
all_alike [] (q ∷ qs) a = absurd a
all_alike (p ∷ ps) [] a = absurd a
all_alike (p ∷ ps) (q ∷ qs) a =
    ap (λ cs. cs ++ all_chains ps) (ap (λ n. chains_to n ps) (ap (λ (x : Procedure). x.name) a.0) ∙ chains_alike q.name ps qs a.2)
    ∙ ap (λ cs. chains_to q.name qs ++ cs) (all_alike ps qs a.2)

pub alike_self : (ps : List Procedure) → CallAlike ps ps
alike_self [] = tt
alike_self (p ∷ ps) = (refl, λ g. refl, alike_self ps)

pub alike_at : (ps : List Procedure) (p q : Procedure) (qs : List Procedure) → bare p ≡ bare q → ((g : List ℕ) → calls g p.body ≡ calls g q.body) → CallAlike (ps ++ p ∷ qs) (ps ++ q ∷ qs)
alike_at [] p q qs h c = (h, c, alike_self qs)
alike_at (x ∷ ps) p q qs h c = (refl, λ g. refl, alike_at ps p q qs h c)

-- How many statements.
pub count_append : (xs ys : Statements) → block_count (append xs ys) ≡ block_count xs + block_count ys
count_append Ends ys = omega arith
count_append (Starts s xs) ys = omega (arith, count_append xs ys)

count_filled : (h : Hole) (x y : Statements) → block_count (fill h x) + block_count y ≡ block_count (fill h y) + block_count x
count_filled (Then b n c e r) x y = omega (arith, count_append b (Starts (If n c x e) r), count_append b (Starts (If n c y e) r))
count_filled (Else b n c t r) x y = omega (arith, count_append b (Starts (If n c t x) r), count_append b (Starts (If n c t y) r))
count_filled (Body b n c r) x y = omega (arith, count_append b (Starts (While n c x) r), count_append b (Starts (While n c y) r))

pub count_plug : (hs : List Hole) (x y : Statements) → block_count (plug hs x) + block_count y ≡ block_count (plug hs y) + block_count x
count_plug [] x y = omega arith
count_plug (h ∷ hs) x y = omega (arith, count_filled h (plug hs x) (plug hs y), count_plug hs x y)

pub count_edited : (hs : List Hole) (before olds news behind : Statements) → block_count (plug hs (between before behind news)) + block_count olds ≡ block_count (plug hs (between before behind olds)) + block_count news
count_edited hs before olds news behind =
    omega (
      arith,
      count_plug hs (between before behind olds) (between before behind news),
      count_append before (append olds behind),
      count_append before (append news behind),
      count_append olds behind,
      count_append news behind,
    )

-- A block in holes has no fewer statements than the block.
pub count_least : (hs : List Hole) (x : Statements) → block_count x ≤ block_count (plug hs x)
count_least [] x = omega arith
count_least (Then b n c e r ∷ hs) x = omega (arith, count_append b (Starts (If n c (plug hs x) e) r), count_least hs x)
count_least (Else b n c t r ∷ hs) x = omega (arith, count_append b (Starts (If n c t (plug hs x)) r), count_least hs x)
count_least (Body b n c r ∷ hs) x = omega (arith, count_append b (Starts (While n c (plug hs x)) r), count_least hs x)

pub count_within : (hs : List Hole) (before part behind : Statements) → block_count part ≤ block_count (plug hs (between before behind part))
count_within hs before part behind = omega (arith, count_least hs (between before behind part), count_append before (append part behind), count_append part behind)

-- How deep.
nesting_append : (xs ys : Statements) → nesting (append xs ys) ≡ max (nesting xs) (nesting ys)
nesting_append Ends ys = omega arith
nesting_append (Starts s xs) ys = omega (arith, nesting_append xs ys)

-- A block in holes is as deep as they say, and brings no more than that.
pub record Deep (hs : List Hole) (x y : Statements) : Type 0 where
  pub least : length hs + nesting y ≤ nesting (plug hs y)
  pub most : nesting (plug hs y) ≤ max (nesting (plug hs x)) (length hs + nesting y)

deep_filled : (h : Hole) (hs : List Hole) (x y : Statements) → Deep hs x y → Deep (h ∷ hs) x y
deep_filled (Then b n c e r) hs x y d =
    record {
      least = omega (arith, d.least, nesting_append b (Starts (If n c (plug hs y) e) r));
      most = omega (arith, d.most, nesting_append b (Starts (If n c (plug hs y) e) r), nesting_append b (Starts (If n c (plug hs x) e) r));
    }
deep_filled (Else b n c t r) hs x y d =
    record {
      least = omega (arith, d.least, nesting_append b (Starts (If n c t (plug hs y)) r));
      most = omega (arith, d.most, nesting_append b (Starts (If n c t (plug hs y)) r), nesting_append b (Starts (If n c t (plug hs x)) r));
    }
deep_filled (Body b n c r) hs x y d =
    record {
      least = omega (arith, d.least, nesting_append b (Starts (While n c (plug hs y)) r));
      most = omega (arith, d.most, nesting_append b (Starts (While n c (plug hs y)) r), nesting_append b (Starts (While n c (plug hs x)) r));
    }

deep_plug : (hs : List Hole) (x y : Statements) → Deep hs x y
deep_plug [] x y = record { least = omega arith; most = omega arith }
deep_plug (h ∷ hs) x y = deep_filled h hs x y (deep_plug hs x y)

-- The same of a part of a block.
pub record DeepEdit (hs : List Hole) (news : Statements) (old new : Statements) : Type 0 where
  pub least : length hs + nesting news ≤ nesting new
  pub most : nesting new ≤ max (nesting old) (length hs + nesting news)

pub deep_edited : (hs : List Hole) (before olds news behind : Statements) → DeepEdit hs news (plug hs (between before behind olds)) (plug hs (between before behind news))
deep_edited hs before olds news behind =
    let x = between before behind olds in
    let y = between before behind news in
    let a = nesting_append before (append olds behind) in
    let b = nesting_append olds behind in
    let c = nesting_append before (append news behind) in
    let d = nesting_append news behind in
    let u = deep_plug hs x y in
    let v = deep_plug hs y x in
    record { least = omega (arith, u.least, c, d); most = omega (arith, u.most, v.least, a, b, c, d) }

pub count_program : (ps : List Procedure) (p q : Procedure) (qs : List Procedure) → program_count (ps ++ p ∷ qs) + block_count q.body ≡ program_count (ps ++ q ∷ qs) + block_count p.body
count_program [] p q qs = omega arith
count_program (x ∷ ps) p q qs = omega (arith, count_program ps p q qs)

pub deepest_program : (ps : List Procedure) (p : Procedure) (qs : List Procedure) → nesting p.body ≤ deepest (ps ++ p ∷ qs)
deepest_program [] p qs = omega arith
deepest_program (x ∷ ps) p qs = omega (arith, deepest_program ps p qs)

pub deepest_other : (ps : List Procedure) (p q : Procedure) (qs : List Procedure) → deepest (ps ++ q ∷ qs) ≤ max (deepest (ps ++ p ∷ qs)) (nesting q.body)
deepest_other [] p q qs = omega arith
deepest_other (x ∷ ps) p q qs = omega (arith, deepest_other ps p q qs)
