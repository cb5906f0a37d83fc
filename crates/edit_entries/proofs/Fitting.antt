-- A program fits again where a part of a block is exchanged for one that fits in the same place.
use Rattle.std.proofs.Common.{◌≡◌, ℕ, zero, suc, ◌<◌, ◌||◌, Bool, true, false, List, [], ◌∷◌, ◌++◌, length, map, slice_get, refl, sym, ap, ◌∙◌, subst, arith}
use Rattle.std.proofs.lemmas.List.{map-append}
use Rattle.std.proofs.Math.Bool.{or_assoc}
use Rattle.imp_syntax.specs.Plain.{Statement, Statements, Ends, Starts, Procedure}
use Rattle.imp_syntax.specs.Plain as tree
use Rattle.imp_slots.specs.Plain.{Layout, Invoke, Code, Routine}
use Rattle.imp_slots.specs.Plain as slot
use Rattle.imp_slots.specs.Fits.{FitsCode, FitsCall, FitsRoutine, FitInTurn, IsChecked, Absent, Distinct, breaks}
use Rattle.imp_check.specs.Slots.{Resolver, layout_in, guard_in, invoke_of, invoke_in, callee_in, statement_in, code_in, routine_of, routines_from, routines_of}
use Rattle.imp_check.specs.Names.{place_named}
use Rattle.imp_check.specs.Parts.{leaving_in, leaving}
use Rattle.imp_check.specs.Entries.{resolver_at}
use Rattle.imp_check.specs.Programs.{AreNumbered}
use Rattle.edit_entries.specs.Holes.{append, Hole, Then, Else, Body, fill, plug, between}
use Rattle.edit_entries.proofs.Heads.{bare, bares, one_more, place_bare, get_bare, invoke_bare}
use Rattle.edit_entries.proofs.Programs.{old_one, new_one, old_program, new_program, bares_at}
use Rattle.edit_entries.proofs.Filled.{plug_leaving}
use Rattle.edit_entries.proofs.Holders.{leaving_between}
use Rattle.imp_check.proofs.FitsPrograms.{all_numbers}

-- Blocks of one procedure.
module _ (before : List Routine) (l : Layout) (f : Resolver) where
  abbrev pub Fits : Statements → Type 0
  Fits b = FitsCode before l (code_in f b)

  abbrev One : Statement → Type 0
  One s = FitsCode before l (statement_in f s slot.Stop)

  -- a statement, and the code after it
  record Parts (s : Statement) (r : Code) : Type 0 where
    one : One s
    rest : FitsCode before l r

  parts : (s : Statement) (r : Code) → FitsCode before l (statement_in f s r) → Parts s r
  parts (tree.Simple n a) r h = record { one = (h.0, tt); rest = h.1 }
  parts (tree.Break n) r h = record { one = tt; rest = h }
  parts (tree.Call n x g es) r h = record { one = (h.0, tt); rest = h.1 }
  parts (tree.If n c t e) r h = record { one = (h.0, h.1, h.2, tt); rest = h.3 }
  parts (tree.While n c b) r h = record { one = (h.0, h.1, tt); rest = h.2 }

  joined : (s : Statement) (r : Code) → One s → FitsCode before l r → FitsCode before l (statement_in f s r)
  joined (tree.Simple n a) r h k = (h.0, k)
  joined (tree.Break n) r h k = k
  joined (tree.Call n x g es) r h k = (h.0, k)
  joined (tree.If n c t e) r h k = (h.0, h.1, h.2, k)
  joined (tree.While n c b) r h k = (h.0, h.1, k)

  record Both (xs ys : Statements) : Type 0 where
    front : Fits xs
    back : Fits ys

  split : (xs ys : Statements) → Fits (append xs ys) → Both xs ys
  split Ends ys h = record { front = tt; back = h }
  split (Starts s xs) ys h =
      let p = parts s (code_in f (append xs ys)) h in
      let q = split xs ys p.rest in
      record { front = joined s (code_in f xs) p.one q.front; back = q.back }

  both : (xs ys : Statements) → Fits xs → Fits ys → Fits (append xs ys)
  both Ends ys h k = k
  both (Starts s xs) ys h k = let p = parts s (code_in f xs) h in joined s (code_in f (append xs ys)) p.one (both xs ys p.rest k)

  fill_fits : (h : Hole) (x y : Statements) → Fits (fill h x) → (Fits x → Fits y) → Fits (fill h y)
  fill_fits (Then b n c e r) x y w g =
      let q = split b (Starts (tree.If n c x e) r) w in
      let p = parts (tree.If n c x e) (code_in f r) q.back in
      let o = p.one in
      both b (Starts (tree.If n c y e) r) q.front (joined (tree.If n c y e) (code_in f r) (o.0, g o.1, o.2, tt) p.rest)
  fill_fits (Else b n c t r) x y w g =
      let q = split b (Starts (tree.If n c t x) r) w in
      let p = parts (tree.If n c t x) (code_in f r) q.back in
      let o = p.one in
      both b (Starts (tree.If n c t y) r) q.front (joined (tree.If n c t y) (code_in f r) (o.0, o.1, g o.2, tt) p.rest)
  fill_fits (Body b n c r) x y w g =
      let q = split b (Starts (tree.While n c x) r) w in
      let p = parts (tree.While n c x) (code_in f r) q.back in
      let o = p.one in
      both b (Starts (tree.While n c y) r) q.front (joined (tree.While n c y) (code_in f r) (o.0, g o.1, tt) p.rest)

  plug_fits : (hs : List Hole) (x y : Statements) → Fits (plug hs x) → (Fits x → Fits y) → Fits (plug hs y)
  plug_fits [] x y w g = g w
  plug_fits (h ∷ hs) x y w g = fill_fits h (plug hs x) (plug hs y) w (λ k. plug_fits hs x y k g)

  pub part_fits : (hs : List Hole) (front olds news behind : Statements) → Fits (plug hs (between front behind olds)) → (Fits olds → Fits news) → Fits (plug hs (between front behind news))
  part_fits hs front olds news behind w g =
      plug_fits hs (between front behind olds) (between front behind news) w
      (λ k.
      let a = split front (append olds behind) k in
      let d = split olds behind a.back in
      both front (append news behind) a.front (both news behind (g d.front) d.back))

-- Breaks.
abbrev some : List ℕ → Bool
some [] = false
some (x ∷ xs) = true

none_some : (xs : List ℕ) → some xs ≡ false → xs ≡ []
none_some [] h = refl
none_some (x ∷ xs) h = cc

some_both : (xs ys : List ℕ) → some (xs ++ ys) ≡ (some xs || some ys)
some_both [] ys = refl
some_both (x ∷ xs) ys = refl

module _ (f : Resolver) where
  mutual
    statement_breaks : (s : Statement) (r : Code) → breaks (statement_in f s r) ≡ (some (leaving_in s) || breaks r)
    statement_breaks (tree.Simple n a) r = refl
    statement_breaks (tree.Break n) r = refl
    statement_breaks (tree.Call n x g es) r = refl
    statement_breaks (tree.If n c t e) r =
        ap (λ a. a || (breaks (code_in f e) || breaks r)) (block_breaks t)
        ∙ ap (λ a. some (leaving t) || (a || breaks r)) (block_breaks e)
        ∙ sym (or_assoc (some (leaving t)) (some (leaving e)) (breaks r))
        ∙ ap (λ a. a || breaks r) (sym (some_both (leaving t) (leaving e)))
    statement_breaks (tree.While n c b) r = refl

    block_breaks : (b : Statements) → breaks (code_in f b) ≡ some (leaving b)
    block_breaks Ends = refl
    block_breaks (Starts s ss) = statement_breaks s (code_in f ss) ∙ ap (λ a. some (leaving_in s) || a) (block_breaks ss) ∙ sym (some_both (leaving_in s) (leaving ss))

-- Procedures after others with the same heads.
module _ (l : Layout) (ps : List Procedure) where
  abbrev whole : Resolver
  whole = record { layout = l; earlier = ps }

  abbrev heads : Resolver
  heads = record { layout = l; earlier = bares ps }

  mutual
    statement_bare : (s : Statement) (r q : Code) → r ≡ q → statement_in whole s r ≡ statement_in heads s q
    statement_bare (tree.Simple n a) r q k = ap (statement_in whole (tree.Simple n a)) k
    statement_bare (tree.Break n) r q k = ap (statement_in whole (tree.Break n)) k
    statement_bare (tree.Call n x g es) r q k =
        ap (λ i. slot.Call n i (place_named ps g) r) (invoke_bare l x es (slice_get ps (place_named ps g)) ∙ ap (invoke_of l x es) (sym (get_bare ps (place_named ps g))))
        ∙ ap (λ m. slot.Call n (invoke_of l x es (slice_get (bares ps) m)) m r) (place_bare ps g)
        ∙ ap (slot.Call n (invoke_in heads x g es) (callee_in heads g)) k
    statement_bare (tree.If n c t e) r q k =
        ap (λ z. slot.If n (guard_in l c) z (code_in whole e) r) (code_bare t)
        ∙ ap (λ z. slot.If n (guard_in l c) (code_in heads t) z r) (code_bare e)
        ∙ ap (λ z. slot.If n (guard_in l c) (code_in heads t) (code_in heads e) z) k
    statement_bare (tree.While n c b) r q k =
        ap (λ z. slot.While n (guard_in l c) z r) (code_bare b)
        ∙ ap (λ z. slot.While n (guard_in l c) (code_in heads b) z) k

    code_bare : (b : Statements) → code_in whole b ≡ code_in heads b
    code_bare Ends = refl
    code_bare (Starts s ss) = statement_bare s (code_in whole ss) (code_in heads ss) (code_bare ss)

routine_alike : (es ds : List Procedure) (p : Procedure) → bares es ≡ bares ds → routine_of es p ≡ routine_of ds p
routine_alike es ds p h =
    ap (λ c. record { name = p.name; layout = layout_in p; code = c })
    (code_bare (layout_in p) es p.body
    ∙ ap (λ (os : List Procedure). code_in (record { layout = layout_in p; earlier = os }) p.body) h
    ∙ sym (code_bare (layout_in p) ds p.body))

-- Calls are of layouts alone.
abbrev layouts : List Routine → List Layout
layouts rs = map (λ (r : Routine). r.layout) rs

call_alike : (xs ys : List Routine) → layouts xs ≡ layouts ys → (l : Layout) (i : Invoke) (q : ℕ) → FitsCall l i (slice_get xs q) → FitsCall l i (slice_get ys q)
call_alike [] [] e l i q h = h
call_alike [] (y ∷ ys) e l i q h = absurd h
call_alike (x ∷ xs) [] e l i q h = cc
call_alike (x ∷ xs) (y ∷ ys) e l i zero h = let same : x.layout ≡ y.layout = cc in (sym same ∙ h.0, h.1)
call_alike (x ∷ xs) (y ∷ ys) e l i (suc q) h = let same : layouts xs ≡ layouts ys = cc in call_alike xs ys same l i q h

module _ (xs ys : List Routine) (same : layouts xs ≡ layouts ys) (l : Layout) where
  code_alike : (c : Code) → FitsCode xs l c → FitsCode ys l c
  code_alike slot.Stop h = tt
  code_alike (slot.Simple n e r) h = (h.0, code_alike r h.1)
  code_alike (slot.If n g t e r) h = (h.0, code_alike t h.1, code_alike e h.2, code_alike r h.3)
  code_alike (slot.While n g b r) h = (h.0, code_alike b h.1, code_alike r h.2)
  code_alike (slot.Call n i q r) h = (call_alike xs ys same l i q h.0, code_alike r h.1)
  code_alike (slot.Break n r) h = code_alike r h

one_layout : (xs ys : List Routine) (x y : Routine) → layouts xs ≡ layouts ys → x.layout ≡ y.layout → layouts (xs ++ x ∷ []) ≡ layouts (ys ++ y ∷ [])
one_layout xs ys x y e k =
    map-append (λ (r : Routine). r.layout) xs (x ∷ [])
    ∙ ap (λ ls. ls ++ x.layout ∷ []) e
    ∙ ap (λ o. layouts ys ++ o ∷ []) k
    ∙ sym (map-append (λ (r : Routine). r.layout) ys (y ∷ []))

fits_alike : (xs ys : List Routine) (es ds qs : List Procedure) → layouts xs ≡ layouts ys → bares es ≡ bares ds → FitInTurn xs (routines_from es qs) → FitInTurn ys (routines_from ds qs)
fits_alike xs ys es ds [] e h w = tt
fits_alike xs ys es ds (q ∷ qs) e h w =
    let r = routine_alike es ds q h in
    let own : FitsRoutine ys (routine_of es q) = record { code = code_alike xs ys e (layout_in q) (routine_of es q).code w.0.code; no_break = w.0.no_break } in
    (subst (FitsRoutine ys) r own, fits_alike (xs ++ routine_of es q ∷ []) (ys ++ routine_of ds q ∷ []) (es ++ q ∷ []) (ds ++ q ∷ []) qs (one_layout xs ys (routine_of es q) (routine_of ds q) e refl) (one_more es ds q h) w.1)

module _ (p : Procedure) (hs : List Hole) (front olds news behind : Statements) where
  abbrev O : Procedure
  O = old_one p hs front olds news behind

  abbrev N : Procedure
  N = new_one p hs front olds news behind

  -- what comes fits where what goes does
  abbrev pub FitsThere : Type 0
  FitsThere = (before : List Routine) (es : List Procedure) → Fits before (layout_in p) (resolver_at es p) olds → Fits before (layout_in p) (resolver_at es p) news

  -- where no break leaves the body, none leaves what is then there
  abbrev pub NoneLeaves : Type 0
  NoneLeaves = leaving O.body ≡ [] → leaving N.body ≡ []

  module _ (there : FitsThere) (none_leaves : NoneLeaves) where
    own_fits : (before : List Routine) (es : List Procedure) → FitsRoutine before (routine_of es O) → FitsRoutine before (routine_of es N)
    own_fits before es w = record {
      code = part_fits before (layout_in p) (resolver_at es p) hs front olds news behind w.code (there before es);
      no_break =
          block_breaks (resolver_at es p) N.body ∙ ap some (none_leaves (none_some (leaving O.body) (sym (block_breaks (resolver_at es p) O.body) ∙ w.no_break)));
    }

    fits_along : (xs : List Routine) (es ps qs : List Procedure) → FitInTurn xs (routines_from es (ps ++ O ∷ qs)) → FitInTurn xs (routines_from es (ps ++ N ∷ qs))
    fits_along xs es [] qs w =
        (own_fits xs es w.0, fits_alike (xs ++ routine_of es O ∷ []) (xs ++ routine_of es N ∷ []) (es ++ O ∷ []) (es ++ N ∷ []) qs (one_layout xs xs (routine_of es O) (routine_of es N) refl refl) (bares_at p hs front olds news behind es []) w.1)
    fits_along xs es (x ∷ ps) qs w = (w.0, fits_along (xs ++ routine_of es x ∷ []) (es ++ x ∷ []) ps qs w.1)

names : (es ds ps qs : List Procedure) → bares ps ≡ bares qs → map (λ (r : Routine). r.name) (routines_from es ps) ≡ map (λ (r : Routine). r.name) (routines_from ds qs)
names es ds [] [] h = refl
names es ds [] (q ∷ qs) h = cc
names es ds (p ∷ ps) [] h = cc
names es ds (p ∷ ps) (q ∷ qs) h =
    let o : bare p ≡ bare q = cc in
    let a : p.name ≡ q.name = ap (λ (z : Procedure). z.name) o in
    let b : bares ps ≡ bares qs = cc in
    ap (λ n. n ∷ map (λ (r : Routine). r.name) (routines_from (es ++ p ∷ []) ps)) a
    ∙ ap (λ ns. q.name ∷ ns) (names (es ++ p ∷ []) (ds ++ q ∷ []) ps qs b)

some_there : (es ps : List Procedure) (q : Procedure) (qs : List Procedure) → 0 < length (routines_from es (ps ++ q ∷ qs))
some_there es [] q qs = omega arith
some_there es (p ∷ ps) q qs = omega arith

-- The breaks that leave a part stay.
pub same_leave : (p : Procedure) (hs : List Hole) (front olds news behind : Statements) → leaving olds ≡ leaving news → NoneLeaves p hs front olds news behind
same_leave p hs front olds news behind q z = sym (plug_leaving (resolver_at [] p) 0 hs (between front behind olds) (between front behind news) (leaving_between front behind olds news q)) ∙ z

-- The new program fits where the old one does.
pub program_fits : (p : Procedure) (hs : List Hole) (front olds news behind : Statements) (ps qs : List Procedure) → FitsThere p hs front olds news behind → NoneLeaves p hs front olds news behind →
    IsChecked (routines_of (old_program p hs front olds news behind ps qs)) → AreNumbered (new_program p hs front olds news behind ps qs) → IsChecked (routines_of (new_program p hs front olds news behind ps qs))
program_fits p hs front olds news behind ps qs there q w k =
    let old = old_program p hs front olds news behind ps qs in
    let new = new_program p hs front olds news behind ps qs in
    record {
      some = some_there [] ps (new_one p hs front olds news behind) qs;
      fit = fits_along p hs front olds news behind there q [] [] ps qs w.fit;
      numbers_once = subst Distinct (sym (all_numbers [] new)) k.once;
      no_zero = subst (Absent 0) (sym (all_numbers [] new)) k.no_zero;
      names_once = subst (λ (z : List (List ℕ)). Distinct z) (names [] [] old new (bares_at p hs front olds news behind ps qs)) w.names_once;
    }
