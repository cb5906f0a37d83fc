-- What is found of the breaks of the loop around a place is what the program has.
use Rattle.std.proofs.lemmas.Bool.{false≢true}
use Rattle.std.proofs.Common.{◌≡◌, ℕ, zero, suc, ◌+◌, ◌-◌, ◌<◌, ◌≤◌, ◌⊎◌, inl, inr, List, [], ◌∷◌, ◌++◌, length, Option, Some, None, true, false, refl, sym, ap, ◌∙◌, subst, arith, append-nil, append_assoc, length-append}
use Rattle.imp_syntax.specs.Plain.{Condition, Statement, Simple, Break, Call, If, While, Statements, Ends, Starts, Procedure, number_of, numbers, program_numbers}
use Rattle.imp_slots.specs.Fits.{Distinct}
use Rattle.imp_check.specs.Entries.{inside, entry_at, entries_of, entry_of, resolver_at, context_at, statement_entries, block_entries}
use Rattle.imp_check.specs.Parts.{part_of, first_or, last_or, leaving_in, leaving}
use Rattle.imp_check.specs.Programs.{block_count, program_count}
use Rattle.imp_check.specs.Slots.{Resolver}
use Rattle.imp_check.specs.declared.entry.Context.{Context}
use Rattle.imp_check.specs.declared.entry.Entry.{Entry}
use Rattle.imp_check.specs.declared.entry.Which.TheVariants as which
use Rattle.imp_check.proofs.RebuildLemmas.{in_left, Known, known_left, known_right}
use Rattle.edit_entries.specs.Holes.{append, Hole, Then, Else, Body, fill, plug, between, with_body}
use Rattle.edit_entries.specs.Spliced.{among, left_of}
use Rattle.edit_entries.proofs.Breaks.{in_front, Looped, looped, loop_found, loop_with, loop_gained, plug_parts, context_head}
use Rattle.edit_entries.proofs.Counts.{count_append, count_least, count_plug}
use Rattle.edit_entries.proofs.Filled.{has_loop}
use Rattle.edit_entries.proofs.Others.{last_append, leaving_append}
use Rattle.edit_entries.proofs.Parts.{around_of, around_last, inmost, Inmost}
use Rattle.edit_entries.proofs.Programs.{old_program, new_program}
use Rattle.edit_entries.proofs.Touched.{context_of, own_in, part_found, plug_last}
use Rattle.edit_breaks.specs.Breaks.{counted, front_count, leaving_from, leaving_on, leaving_part, loop_breaks, passed}
use Rattle.edit_breaks.specs.declared.gap.Gap.{Gap}
use Rattle.edit_breaks.proofs.BreakLemmas.{with_loop}
use Rattle.imp_edit.proofs.GapLemmas.{append_again}
use Rattle.imp_edit.proofs.CallFreeLemmas.{own_count}

-- A statement is one at least.
one_more : (s : Statement) → 1 ≤ block_count (Starts s Ends)
one_more (Simple n x) = omega arith
one_more (Break n) = omega arith
one_more (Call n x g es) = omega arith
one_more (If n d t e) = omega arith
one_more (While n d b) = omega arith

-- What leaves a block whose statements are found.
module _ (at : ℕ → Option Entry) (f : Resolver) where
  mutual
    part_leaves : (m : ℕ) (s : Statement) (c : Context) (a p : Option ℕ) → block_count (Starts s Ends) ≤ m → Known at (statement_entries f c a p s) → leaving_part (leaving_from at m) (entry_at f c a p s) (part_of s) ≡ leaving_in s
    part_leaves m (Simple n x) c a p h k = refl
    part_leaves m (Break n) c a p h k = refl
    part_leaves m (Call n x g es) c a p h k = refl
    part_leaves m (If n d t e) c a p h k =
        let T = block_entries f (inside c n which.Then) None None t in
        let E = block_entries f (inside c n which.Else) None None e in
        let l : Known at (T ++ E) = λ y i. k y (inr i) in
        ap (λ ns. ns ++ leaving_from at m (first_or e None)) (leaving_is m t (inside c n which.Then) None (omega (arith, h)) (known_left at T E l))
        ∙ ap (λ ns. leaving t ++ ns) (leaving_is m e (inside c n which.Else) None (omega (arith, h)) (known_right at T E l))
    part_leaves m (While n d b) c a p h k = refl

    leaving_is : (m : ℕ) (b : Statements) (c : Context) (a : Option ℕ) → block_count b < m → Known at (block_entries f c a None b) → leaving_from at m (first_or b None) ≡ leaving b
    leaving_is zero b c a h k = absurd (omega (arith, h))
    leaving_is (suc m) Ends c a h k = refl
    leaving_is (suc m) (Starts s ss) c a h k =
        let x = entry_at f c a (first_or ss None) s in
        let S = statement_entries f c a (first_or ss None) s in
        let R = block_entries f c (Some (number_of s)) None ss in
        ap (leaving_on (leaving_from at m)) (k x (in_left x S R (own_in f c a (first_or ss None) s)))
        ∙ ap (λ ns. ns ++ leaving_from at m (first_or ss None)) (part_leaves m s c a (first_or ss None) (omega (arith, h)) (known_left at S R k))
        ∙ ap (λ ns. leaving_in s ++ ns) (leaving_is m ss c (Some (number_of s)) (omega (arith, h, one_more s)) (known_right at S R k))

-- A block of statements has a last one, or none.
record Last (b : Statements) : Type 0 where
  before : Statements
  stmt : Statement
  is_last : b ≡ append before (Starts stmt Ends)

last : (b : Statements) → (b ≡ Ends) ⊎ Last b
last Ends = inl refl
last (Starts s ss) = go (last ss)
  where
    go : (ss ≡ Ends) ⊎ Last ss → (Starts s ss ≡ Ends) ⊎ Last (Starts s ss)
    go (inl e) = inr (record { before = Ends; stmt = s; is_last = ap (Starts s) e })
    go (inr l) = inr (record { before = Starts s l.before; stmt = l.stmt; is_last = ap (Starts s) l.is_last })

-- How many breaks are before a place, by those of a statement there.
more_in_front : (hs : List Hole) (b x : Statements) → length (in_front hs (append b x)) ≡ length (leaving x) + length (in_front hs b)
more_in_front [] b x = omega (arith, ap (λ (ns : List ℕ). length ns) (leaving_append b x), length-append (leaving b) (leaving x))
more_in_front (Then v n c e r ∷ hs) b x = omega (arith, more_in_front hs b x, length-append (leaving v) (in_front hs (append b x)), length-append (leaving v) (in_front hs b))
more_in_front (Else v n c t r ∷ hs) b x =
    omega (
      arith,
      more_in_front hs b x,
      length-append (leaving v) (leaving t ++ in_front hs (append b x)),
      length-append (leaving t) (in_front hs (append b x)),
      length-append (leaving v) (leaving t ++ in_front hs b),
      length-append (leaving t) (in_front hs b),
    )
more_in_front (Body v n c r ∷ hs) b x = more_in_front hs b x

-- .. or by those of the block's own statement
further_in_front : (hs : List Hole) (h : Hole) (v : Statements) (k : ℕ) → length (in_front (h ∷ []) Ends) ≡ k + length (leaving v) → length (in_front (hs ++ h ∷ []) Ends) ≡ k + length (in_front hs v)
further_in_front [] h v k e = e
further_in_front (Then b n c x r ∷ hs) h v k e = omega (arith, further_in_front hs h v k e, length-append (leaving b) (in_front (hs ++ h ∷ []) Ends), length-append (leaving b) (in_front hs v))
further_in_front (Else b n c t r ∷ hs) h v k e =
    omega (
      arith,
      further_in_front hs h v k e,
      length-append (leaving b) (leaving t ++ in_front (hs ++ h ∷ []) Ends),
      length-append (leaving t) (in_front (hs ++ h ∷ []) Ends),
      length-append (leaving b) (leaving t ++ in_front hs v),
      length-append (leaving t) (in_front hs v),
    )
further_in_front (Body b n c r ∷ hs) h v k e = further_in_front hs h v k e

last_plain : (hs : List Hole) (h : Hole) → has_loop (hs ++ h ∷ []) ≡ false → (has_loop hs ≡ false) × (has_loop (h ∷ []) ≡ false)
last_plain [] h i = (refl, i)
last_plain (Then b n c e r ∷ hs) h i = last_plain hs h i
last_plain (Else b n c t r ∷ hs) h i = last_plain hs h i
last_plain (Body b n c r ∷ hs) h i = absurd cc

-- In a procedure, inside a loop.
module _ (ps qs : List Procedure) (p : Procedure) (outer : List Hole) (loop : Hole) (looping : has_loop (loop ∷ []) ≡ true) (P : List Procedure) (once : Distinct (program_numbers P)) where
  abbrev at' : ℕ → Option Entry
  at' = entry_of (entries_of P)

  abbrev f : Resolver
  f = resolver_at ps p

  abbrev holes : List Hole → List Hole
  holes inner = outer ++ loop ∷ inner

  abbrev k : List Hole → Context
  k inner = context_of (context_at (length ps)) (holes inner)

  abbrev with_block : List Hole → Statements → List Procedure
  with_block inner x = ps ++ with_body p (plug (holes inner) x) ∷ qs

  -- the statements of a statement of the block are found
  stmt_known : (inner : List Hole) (b r : Statements) (s : Statement) → P ≡ with_block inner (append b (Starts s r)) → Known at' (statement_entries f (k inner) (last_or b None) (first_or r None) s)
  stmt_known inner b r s e y i =
      ap (λ os. entry_of (entries_of os) y.number) e
      ∙ part_found ps qs p (holes inner) b (Starts s Ends) r (subst (λ (os : List Procedure). Distinct (program_numbers os)) e once) y
      (in_left y (statement_entries f (k inner) (last_or b None) (first_or r None) s) [] i)

  own_known : (inner : List Hole) (b r : Statements) (s : Statement) → P ≡ with_block inner (append b (Starts s r)) → at' (number_of s) ≡ Some (entry_at f (k inner) (last_or b None) (first_or r None) s)
  own_known inner b r s e = stmt_known inner b r s e (entry_at f (k inner) (last_or b None) (first_or r None) s) (own_in f (k inner) (last_or b None) (first_or r None) s)

  holes_last : (gs : List Hole) (h : Hole) → holes (gs ++ h ∷ []) ≡ holes gs ++ h ∷ []
  holes_last gs h = sym (append_assoc outer (loop ∷ gs) (h ∷ []))

  abbrev Counted : (m : ℕ) → List Hole → Statements → Type 0
  Counted m inner before = front_count at' m (k inner).around (last_or before None) ≡ length (in_front inner before)

  -- after a statement
  counted_behind : (m : ℕ) (inner : List Hole) (b r : Statements) (s : Statement) → block_count (Starts s Ends) ≤ m → P ≡ with_block inner (append b (Starts s r)) → Counted m inner b → Counted (suc m) inner (append b (Starts s Ends))
  counted_behind m inner b r s few e rest =
      let w = (k inner).around in
      let x = entry_at f (k inner) (last_or b None) (first_or r None) s in
      let one : length (leaving (Starts s Ends)) ≡ length (leaving_in s) = ap (λ (ns : List ℕ). length ns) (append-nil (leaving_in s)) in
      ap (front_count at' (suc m) w) (last_append b (Starts s Ends) None)
      ∙ ap (counted (front_count at' m) (passed (leaving_from at' m) w (Some (number_of s)))) (own_known inner b r s e)
      ∙ ap (λ (ns : List ℕ). length ns + front_count at' m w (last_or b None)) (part_leaves at' f m s (k inner) (last_or b None) (first_or r None) few (stmt_known inner b r s e))
      ∙ ap (λ n. length (leaving_in s) + n) rest
      ∙ ap (λ n. n + length (in_front inner b)) (sym one)
      ∙ sym (more_in_front inner b (Starts s Ends))

  -- before a block of an if
  counted_then : (m : ℕ) (gs : List Hole) (b : Statements) (n : ℕ) (c : Condition) (u r x : Statements) → P ≡ with_block gs (append b (Starts (If n c x u) r)) → Counted m gs b → Counted (suc m) (gs ++ Then b n c u r ∷ []) Ends
  counted_then m gs b n c u r x e rest =
      let h = Then b n c u r in
      ap (λ hs. front_count at' (suc m) (context_of (context_at (length ps)) hs).around None) (holes_last gs h)
      ∙ ap (λ w. front_count at' (suc m) w None) (around_last (context_at (length ps)) (holes gs) h)
      ∙ ap (counted (front_count at' m) (passed (leaving_from at' m) (around_of h) None)) (own_known gs b r (If n c x u) e)
      ∙ omega (arith, rest, further_in_front gs h b 0 (omega (arith, ap (λ (ns : List ℕ). length ns) (append-nil (leaving b)))))

  counted_else : (m : ℕ) (gs : List Hole) (b : Statements) (n : ℕ) (c : Condition) (t r x : Statements) → block_count t < m → P ≡ with_block gs (append b (Starts (If n c t x) r)) → Counted m gs b → Counted (suc m) (gs ++ Else b n c t r ∷ []) Ends
  counted_else m gs b n c t r x few e rest =
      let h = Else b n c t r in
      let T = block_entries f (inside (k gs) n which.Then) None None t in
      let E = block_entries f (inside (k gs) n which.Else) None None x in
      let known : Known at' (T ++ E) = λ y i. stmt_known gs b r (If n c t x) e y (inr i) in
      ap (λ hs. front_count at' (suc m) (context_of (context_at (length ps)) hs).around None) (holes_last gs h)
      ∙ ap (λ w. front_count at' (suc m) w None) (around_last (context_at (length ps)) (holes gs) h)
      ∙ ap (counted (front_count at' m) (passed (leaving_from at' m) (around_of h) None)) (own_known gs b r (If n c t x) e)
      ∙ ap (λ (ns : List ℕ). length ns + front_count at' m (k gs).around (last_or b None)) (leaving_is at' f m t (inside (k gs) n which.Then) None few (known_left at' T E known))
      ∙ ap (λ j. length (leaving t) + j) rest
      ∙ sym (further_in_front gs h b (length (leaving t)) both)
    where
      both : length (leaving b ++ (leaving t ++ [])) ≡ length (leaving t) + length (leaving b)
      both = omega (arith, length-append (leaving b) (leaving t ++ []), ap (λ (ns : List ℕ). length ns) (append-nil (leaving t)))

  -- at the start of the loop
  counted_loop : (m : ℕ) → Counted (suc m) [] Ends
  counted_loop m = ap (λ w. front_count at' (suc m) w None) (around_last (context_at (length ps)) outer loop) ∙ go loop looping
    where
      go : (h : Hole) → has_loop (h ∷ []) ≡ true → front_count at' (suc m) (around_of h) None ≡ 0
      go (Then b n c e r) i = cc
      go (Else b n c t r) i = cc
      go (Body b n c r) i = refl

  abbrev Below : ℕ → Type 0
  Below m = (inner : List Hole) (before behind : Statements) → has_loop inner ≡ false → P ≡ with_block inner (append before behind) → block_count (plug inner before) < m → Counted m inner before

  counted_once : (m : ℕ) → Below m → Below (suc m)
  counted_once m below inner before behind plain e few = by_last (last before)
    where
      by_hole : (gs : List Hole) (h : Hole) → inner ≡ gs ++ h ∷ [] → before ≡ Ends → Counted (suc m) (gs ++ h ∷ []) Ends
      by_hole gs (Then b n c u r) q o =
          let h = Then b n c u r in
          let is : P ≡ with_block gs (fill h behind) = e ∙ ap (λ z. with_block inner (append z behind)) o ∙ ap (λ z. with_block z behind) q ∙ ap (λ z. ps ++ with_body p (plug z behind) ∷ qs) (holes_last gs h) ∙ ap (λ z. ps ++ with_body p z ∷ qs) (plug_last (holes gs) h behind) in
          let l = last_plain gs h (ap has_loop (sym q) ∙ plain) in
          let was : block_count (plug inner before) ≡ block_count (plug gs (fill h Ends)) = ap (λ z. block_count (plug inner z)) o ∙ ap (λ z. block_count (plug z Ends)) q ∙ ap block_count (plug_last gs h Ends) in
          let few' : block_count (plug gs b) < m = omega (arith, few, was, count_plug gs (fill h Ends) b, count_append b (Starts (If n c Ends u) r)) in
          counted_then m gs b n c u r behind is (below gs b (Starts (If n c behind u) r) l.0 is few')
      by_hole gs (Else b n c t r) q o =
          let h = Else b n c t r in
          let is : P ≡ with_block gs (fill h behind) = e ∙ ap (λ z. with_block inner (append z behind)) o ∙ ap (λ z. with_block z behind) q ∙ ap (λ z. ps ++ with_body p (plug z behind) ∷ qs) (holes_last gs h) ∙ ap (λ z. ps ++ with_body p z ∷ qs) (plug_last (holes gs) h behind) in
          let l = last_plain gs h (ap has_loop (sym q) ∙ plain) in
          let was : block_count (plug inner before) ≡ block_count (plug gs (fill h Ends)) = ap (λ z. block_count (plug inner z)) o ∙ ap (λ z. block_count (plug z Ends)) q ∙ ap block_count (plug_last gs h Ends) in
          let many = count_append b (Starts (If n c t Ends) r) in
          let few' : block_count (plug gs b) < m = omega (arith, few, was, count_plug gs (fill h Ends) b, many) in
          let small : block_count t < m = omega (arith, few, was, count_least gs (fill h Ends), many) in
          counted_else m gs b n c t r behind small is (below gs b (Starts (If n c t behind) r) l.0 is few')
      by_hole gs (Body b n c r) q o = let l = last_plain gs (Body b n c r) (ap has_loop (sym q) ∙ plain) in absurd (false≢true (sym l.1))

      by_inner : before ≡ Ends → (inner ≡ []) ⊎ Inmost inner → Counted (suc m) inner before
      by_inner o (inl q) = subst (λ z. Counted (suc m) inner z) (sym o) (subst (λ z. Counted (suc m) z Ends) (sym q) (counted_loop m))
      by_inner o (inr i) = subst (λ z. Counted (suc m) inner z) (sym o) (subst (λ z. Counted (suc m) z Ends) (sym i.is) (by_hole i.outer i.inner i.is o))

      by_last : (before ≡ Ends) ⊎ Last before → Counted (suc m) inner before
      by_last (inl o) = by_inner o (inmost inner)
      by_last (inr l) =
          let s = l.stmt in
          let b = l.before in
          let is : P ≡ with_block inner (append b (Starts s behind)) = e ∙ ap (λ z. with_block inner (append z behind)) l.is_last ∙ ap (with_block inner) (append_again b (Starts s Ends) behind) in
          let was : block_count (plug inner before) ≡ block_count (plug inner (append b (Starts s Ends))) = ap (λ z. block_count (plug inner z)) l.is_last in
          let many = count_append b (Starts s Ends) in
          let few' : block_count (plug inner b) < m = omega (arith, few, was, count_plug inner (append b (Starts s Ends)) b, many, one_more s) in
          let small : block_count (Starts s Ends) ≤ m = omega (arith, few, was, count_least inner (append b (Starts s Ends)), many) in
          subst (Counted (suc m) inner) (sym l.is_last) (counted_behind m inner b behind s small is (below inner b (Starts s behind) plain is few'))

  counted_in : (m : ℕ) → Below m
  counted_in zero inner before behind plain e few = absurd (omega (arith, few))
  counted_in (suc m) inner before behind plain e few = counted_once m (counted_in m) inner before behind plain e few

-- So the breaks of the loop around a place are told.
module _ (ps qs : List Procedure) (p : Procedure) (hs : List Hole) (before olds behind news : Statements) where
  abbrev O : List Procedure
  O = old_program p hs before olds news behind ps qs

  abbrev N : List Procedure
  N = new_program p hs before olds news behind ps qs

  front_is : (m : ℕ) (l : Looped hs m) → Distinct (program_numbers O) → front_count (entry_of (entries_of O)) (suc (program_count O)) (context_of (context_at (length ps)) hs).around (last_or before None) ≡ length (in_front l.inner before)
  front_is m l once =
      let loop = Body l.before m l.condition l.behind in
      let whole = append olds behind in
      let body = append before whole in
      let same : plug hs body ≡ plug l.outer (fill loop (plug l.inner body)) = ap (λ gs. plug gs body) l.is ∙ plug_parts l.outer (loop ∷ l.inner) body in
      ap (λ gs. front_count (entry_of (entries_of O)) (suc (program_count O)) (context_of (context_at (length ps)) gs).around (last_or before None)) l.is
      ∙ counted_in ps qs p l.outer loop refl O once (suc (program_count O)) l.inner before whole l.plain (ap (λ gs. ps ++ with_body p (plug gs body) ∷ qs) l.is)
      (omega (
        arith,
        own_count ps (with_body p (plug hs body)) qs,
        ap block_count same,
        count_least l.outer (fill loop (plug l.inner body)),
        count_append l.before (Starts (While m l.condition (plug l.inner body)) l.behind),
        count_plug l.inner body before,
        count_append before whole,
      ))

  module _ (g : Gap) (context : g.context ≡ context_of (context_at (length ps)) hs) (in_front_is : g.front ≡ last_or before None) (gone : g.gone ≡ numbers olds) where
    pub breaks_told : Distinct (program_numbers O) → Distinct (program_numbers N) → (m : ℕ) (y : Entry) → (context_of (context_at (length ps)) hs).head ≡ Some m → entry_of (entries_of N) m ≡ Some y → y.breaks ≡ loop_breaks O g news
    breaks_told old new m y around w =
        let l = looped hs m (sym (context_head (context_at (length ps)) hs) ∙ around) in
        let x = loop_with ps qs p hs m l (between before behind olds) in
        let z = loop_with ps qs p hs m l (between before behind news) in
        let q : Some y ≡ Some z = sym w ∙ loop_found ps qs p hs m l (between before behind news) new in
        let same : y ≡ z = cc in
        ap (λ (e : Entry). e.breaks) same
        ∙ loop_gained ps qs p hs m l before olds news behind old
        ∙ ap (λ n. among n (leaving news) (left_of (numbers olds) x.breaks)) (sym (front_is m l old))
        ∙ ap (λ ns. among (front_count (entry_of (entries_of O)) (suc (program_count O)) (context_of (context_at (length ps)) hs).around (last_or before None)) (leaving news) (left_of ns x.breaks)) (sym gone)
        ∙ ap (λ o. among (front_count (entry_of (entries_of O)) (suc (program_count O)) (context_of (context_at (length ps)) hs).around o) (leaving news) (left_of g.gone x.breaks)) (sym in_front_is)
        ∙ ap (λ (c : Context). among (front_count (entry_of (entries_of O)) (suc (program_count O)) c.around g.front) (leaving news) (left_of g.gone x.breaks)) (sym context)
        ∙ sym (with_loop O g news m x (ap (λ (c : Context). c.head) context ∙ around) (loop_found ps qs p hs m l (between before behind olds) old))
