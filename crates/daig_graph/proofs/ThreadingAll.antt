-- The uses of all inputs of a cell, one after another.
use Rattle.std.proofs.Common.{◌≡◌, ℕ, zero, suc, ◌+◌, ◌<◌, ◌≤◌, List, [], ◌∷◌, ◌++◌, length, take, Some, IsSome, slice_get, slice_set, refl, sym, ap, ◌∙◌, subst, arith}
use Rattle.daig_graph.specs.declared.graph.Use.{Use}
use Rattle.daig_graph.specs.declared.links.Beside.{Beside}
use Rattle.daig_graph.specs.declared.links.Links.{Links}
use Rattle.daig_graph.specs.Threads.{inputs_at, first_at, besides, beside_at, AreThreaded, AreThreadedWith, HasNeighbours, HasRoom, PutsUse, TakesUse, Threads}
use Rattle.daig_graph.proofs.ThreadingOn.{first_there, inputs-here, threaded-put, threaded-taken, has_neighbours}
use Rattle.base_values.proofs.Lists.{get_some, take_next}
use Rattle.std.proofs.lemmas.Option.{slice_get_within}
use Rattle.std.proofs.lemmas.List.{length-set, length-take-le, set-set, set-get_or, take-take}

-- an item before a place is there in the front
pub get-front : {A : Type 0} (xs : List A) (m : ℕ) (x : A) → slice_get xs m ≡ Some x → slice_get (take (suc m) xs) m ≡ Some x
get-front [] m x e = e
get-front (y ∷ ys) zero x e = e
get-front (y ∷ ys) (suc m) x e = get-front ys m x e

-- with the inputs that a cell has nothing changes
pub threads-start : (first : List Links) (cell : ℕ) (xs : List ℕ) → Threads first first cell xs xs
threads-start first cell xs w t e =
    let P : List (List ℕ) → Type 0 = λ v. AreThreaded v first in
    subst P (sym (ap (slice_set w cell) (sym e) ∙ set-get_or w cell [])) t

module _ (first now : List Links) (cell : ℕ) (xs ys : List ℕ) (with : AreThreadedWith first cell xs) (threads : Threads first now cell xs ys) where
  witness : List (List ℕ)
  witness = slice_set with.0 cell ys

  witness_threaded : AreThreaded witness now
  unfolding witness
  witness_threaded = threads with.0 with.1 with.3

  witness_length : length witness ≡ length with.0
  unfolding witness
  witness_length = length-set with.0 cell ys

  witness_here : inputs_at witness cell ≡ ys
  unfolding witness
  witness_here = inputs-here with.0 cell ys with.2

  witness_inside : cell < length witness
  witness_inside = omega (arith, witness_length, with.2)

  pub threads-length : length now ≡ length first
  threads-length = witness_threaded.places ∙ witness_length ∙ sym with.1.places

  pub threads-cell : cell < length now
  threads-cell = omega (arith, witness_threaded.places, witness_inside)

  pub threads-count : length (besides now cell) ≡ length ys
  threads-count = witness_threaded.as_many cell ∙ ap length witness_here

  pub threads-first : (x : ℕ) (u : Use) → first_at now x ≡ Some u → IsSome (beside_at now u)
  threads-first = first_there witness now witness_threaded

  pub threads-below : (i x : ℕ) → slice_get ys i ≡ Some x → x < length now
  threads-below i x e = let h = witness_threaded.within cell i x (ap (λ zs. slice_get zs i) witness_here ∙ e) in omega (arith, h, witness_threaded.places)

  pub threads-near : (place x : ℕ) (b : Beside) → slice_get ys place ≡ Some x → beside_at now (record { cell = cell; place = place }) ≡ Some b → HasNeighbours now (record { cell = cell; place = place }) b
  threads-near place x b at there = has_neighbours witness now now witness_threaded (record { cell = cell; place = place }) ys x witness_inside witness_here b at there

  module _ (new : List Links) (x : ℕ) where
    -- one use more
    pub threads-put : x < length now → PutsUse now new (record { cell = cell; place = length ys }) x → Threads first new cell xs (ys ++ x ∷ [])
    threads-put below puts w t e =
        let P : List (List ℕ) → Type 0 = λ v. AreThreaded v new in
        let inside : cell < length w = omega (arith, t.places, with.1.places, with.2) in
        let long = length-set w cell ys in
        let at = threads w t e in
        subst P (set-set w cell ys (ys ++ x ∷ []))
        (threaded-put (slice_set w cell ys) now new at (record { cell = cell; place = length ys }) ys x (omega (arith, inside, long)) (inputs-here w cell ys inside) refl (omega (arith, below, at.places)) puts)

    -- one use less
    pub threads-taken : (place : ℕ) → length ys ≡ suc place → slice_get ys place ≡ Some x
        → ((b : Beside) → beside_at now (record { cell = cell; place = place }) ≡ Some b → TakesUse now new (record { cell = cell; place = place }) b x) → Threads first new cell xs (take place ys)
    threads-taken place last at takes w t e =
        let P : List (List ℕ) → Type 0 = λ v. AreThreaded v new in
        let inside : cell < length w = omega (arith, t.places, with.1.places, with.2) in
        let long = length-set w cell ys in
        let b = get_some (besides now cell) place (omega (arith, threads-count, last)) in
        subst P (set-set w cell ys (take place ys))
        (threaded-taken (slice_set w cell ys) now new (threads w t e) (record { cell = cell; place = place }) ys x (omega (arith, inside, long)) (inputs-here w cell ys inside) b.0 at b.1 last (takes b.0 b.1))

-- who has room for more has room for less
pub room-less : (links : List Links) (cell few many : ℕ) → few ≤ many → HasRoom links cell many → HasRoom links cell few
room-less links cell few many le h l e = let r = h l e in omega (arith, le, r)

module _ (first now : List Links) (cell : ℕ) (inputs : List ℕ) (i x : ℕ) (at : slice_get inputs i ≡ Some x) where
  front-length : length (take i inputs) ≡ i
  front-length = length-take-le i inputs (let h = slice_get_within inputs i x at in omega (arith, h))

  -- the next input of a cell that has so many
  module _ (with : AreThreadedWith first cell []) (threads : Threads first now cell [] (take i inputs)) where
    pub next-place : i ≡ length (besides now cell)
    next-place = sym (threads-count first now cell [] (take i inputs) with threads ∙ front-length)

    pub next-threads : (new : List Links) → x < length now → PutsUse now new (record { cell = cell; place = i }) x → Threads first new cell [] (take (i + 1) inputs)
    next-threads new below puts =
        let P : ℕ → Type 0 = λ n. PutsUse now new (record { cell = cell; place = n }) x in
        let Q : List ℕ → Type 0 = λ ys. Threads first new cell [] ys in
        let on : suc i ≡ i + 1 = omega arith in
        subst Q (sym (take_next inputs i x at) ∙ ap (λ n. take n inputs) on)
        (threads-put first now cell [] (take i inputs) with threads new x below (subst P (sym front-length) puts))

  -- the last of the inputs that a cell has still
  module _ (with : AreThreadedWith first cell inputs) (threads : Threads first now cell inputs (take (suc i) inputs)) where
    last-length : length (take (suc i) inputs) ≡ suc i
    last-length = length-take-le (suc i) inputs (let h = slice_get_within inputs i x at in omega (arith, h))

    pub last-place : length (besides now cell) ≡ suc i
    last-place = threads-count first now cell inputs (take (suc i) inputs) with threads ∙ last-length

    pub last-below : x < length now
    last-below = threads-below first now cell inputs (take (suc i) inputs) with threads i x (get-front inputs i x at)

    pub last-near : (b : Beside) → beside_at now (record { cell = cell; place = i }) ≡ Some b → HasNeighbours now (record { cell = cell; place = i }) b
    last-near b = threads-near first now cell inputs (take (suc i) inputs) with threads i x b (get-front inputs i x at)

    pub last-threads : (new : List Links) → ((b : Beside) → beside_at now (record { cell = cell; place = i }) ≡ Some b → TakesUse now new (record { cell = cell; place = i }) b x) → Threads first new cell inputs (take i inputs)
    last-threads new takes =
        let Q : List ℕ → Type 0 = λ ys. Threads first new cell inputs ys in
        subst Q (take-take i (suc i) inputs (omega arith))
        (threads-taken first now cell inputs (take (suc i) inputs) with threads new x i last-length (get-front inputs i x at) takes)
