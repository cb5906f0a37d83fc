-- The loops of each procedure of a program, and what a change makes of them.
use Rattle.std.proofs.lemmas.Bool.Decides.{nat_tests}
use Rattle.std.proofs.lemmas.Map.Lookups.{exact_unsigned, btree_set_from_contains}
use Rattle.std.proofs.lemmas.Option.{slice_get-map, slice_get_within, same_Some}
use Rattle.std.proofs.lemmas.List.{length-map}
use Rattle.std.proofs.Common.{◌≡◌, ◌≢◌, ℕ, zero, suc, ◌+◌, ◌<◌, ◌==◌, ◌||◌, ◌&&◌, Bool, true, false, cond, List, [], ◌∷◌, ◌++◌, length, take, slice_get, get_or, Option, Some, None, option_map, inl, inr, refl, sym, ap, ◌∙◌, subst, arith}
use Rattle.std.specs.Prelude.{if◌then◌else◌}
use Rattle.std.specs.Cmp.{nat_cmp_total, both_ways}
use Rattle.std.specs.Ordering.{nat_cmp}
use Rattle.std.specs.List.Sorted.{IsStrictlySortedBy}
use Rattle.std.specs.BTreeSet.{BTreeSet}
use Rattle.std.proofs.Math.Bool.{and-false, or-false}
use Rattle.imp_syntax.specs.Plain.{Procedure}
use Rattle.imp_slots.specs.Plain.{Code, Stop, Simple, If, While, Call, Break}
use Rattle.imp_check.specs.Slots.{routine_of, routines_of}
use Rattle.imp_check.specs.Programs.{AreNumbered}
use Rattle.imp_table.specs.Changes.{overlay}
use Rattle.imp_check.specs.Entries.{procedure_entries, entries_of, entry_of, resolver_at, context_at}
use Rattle.imp_check.specs.Walks.{numbers_at}
use Rattle.imp_table.specs.declared.change.Put.{Put}
use Rattle.imp_check.specs.declared.entry.Entry.{Entry}
use Rattle.imp_table.proofs.OverlayLemmas.{overlay_other}
use Rattle.imp_check.proofs.PutLemmas.{same}
use Rattle.imp_check.proofs.RebuildLemmas.{In}
use Rattle.imp_check.proofs.StandLemmas.{entry_found, stands, number_there, procedure_is}
use Rattle.imp_check.proofs.WalkLemmas.{own, all_known}
use Rattle.imp_chains.specs.Chains.{has, has_while}
use Rattle.call_contexts.specs.Loops.{whiles, loops, all_loops, loop_in, put_numbers}
use Rattle.call_contexts.specs.Places.{is_loop}
use Rattle.call_contexts.specs.Settings.{or_no_loops}
use Rattle.call_contexts.specs.Touches.{stands_in, touches, Brings}
use Rattle.call_contexts.proofs.Few.{as_many}
use Rattle.call_contexts.proofs.LiteralLemmas.{routine_there}
use Rattle.call_contexts.proofs.Numbered.{has_both}
use Rattle.call_contexts.proofs.Placed.{any_loop, any_block, or_last}
use Rattle.call_contexts.proofs.Rising.{has_there, there_has}
use Rattle.call_contexts.proofs.TallyLemmas.{any_is, rising_sorted, rising_has}
use Rattle.base_values.proofs.Lists.{get_some, take_item}
use Rattle.base_values.proofs.Cases.{by_test}
use Rattle.imp_chains.proofs.Found.{lacks}

-- Among the loops of a block is each while of it.
or_else : (a b c : Bool) → (a || (b || c)) ≡ (if a then true else if b then true else c)
or_else true b c = refl
or_else false true c = refl
or_else false false c = refl

module _ (n : ℕ) where
  whiles_are : (c : Code) → has n (whiles c) ≡ has_while n c
  whiles_are Stop = refl
  whiles_are (Simple m e r) = whiles_are r
  whiles_are (If m g t e r) =
      has_both n (whiles t) (whiles e ++ whiles r)
      ∙ ap (λ b. has n (whiles t) || b) (has_both n (whiles e) (whiles r))
      ∙ (λ i. whiles_are t i || (whiles_are e i || whiles_are r i))
      ∙ or_else (has_while n t) (has_while n e) (has_while n r)
  whiles_are (While m g b r) =
      ap (λ c. if n == m then true else c) (has_both n (whiles b) (whiles r) ∙ (λ i. whiles_are b i || whiles_are r i) ∙ or_last (has_while n b) (has_while n r))
  whiles_are (Call m i q r) = whiles_are r
  whiles_are (Break m r) = whiles_are r

  -- The loop of a number, where one of these is.
  record Found (xs : List Entry) : Type 0 where
    entry : Entry
    among : In entry xs
    number : entry.number ≡ n
    loop : is_loop entry.part ≡ true

  behind : (x : Entry) (xs : List Entry) → Found xs → Found (x ∷ xs)
  behind x xs f = record { entry = f.entry; among = inr f.among; number = f.number; loop = f.loop }

  any_found : (xs : List Entry) → any_loop n xs ≡ true → Found xs
  any_found [] h = absurd cc
  any_found (x ∷ xs) h =
      (by_test x.number n (λ b. cond b (is_loop x.part || any_loop n xs) (any_loop n xs) ≡ true → Found (x ∷ xs))
      (λ e. at_head e (any_found xs) (is_loop x.part) refl)
      (λ e h. behind x xs (any_found xs h))) h
    where
      at_head : x.number ≡ n → (any_loop n xs ≡ true → Found xs) → (l : Bool) → is_loop x.part ≡ l → (l || any_loop n xs) ≡ true → Found (x ∷ xs)
      at_head e more true l h = record { entry = x; among = inl refl; number = e; loop = l }
      at_head e more false l h = behind x xs (more h)

  any_there : (x : Entry) (xs : List Entry) → In x xs → x.number ≡ n → is_loop x.part ≡ true → any_loop n xs ≡ true
  any_there x [] h e l = absurd h
  any_there x (y ∷ ys) (inl h) e l =
      let k : (y.number == n) ≡ true = ap (λ (z : Entry). z.number == n) (sym h) ∙ ap (λ m. m == n) e ∙ same n in
      let m : is_loop y.part ≡ true = ap (λ (z : Entry). is_loop z.part) (sym h) ∙ l in
      ap (λ b. cond b (is_loop y.part || any_loop n ys) (any_loop n ys)) k ∙ ap (λ b. b || any_loop n ys) m
  any_there x (y ∷ ys) (inr h) e l = go (y.number == n) (is_loop y.part) (any_there x ys h e l)
    where
      go : (b c : Bool) → any_loop n ys ≡ true → cond b (c || any_loop n ys) (any_loop n ys) ≡ true
      go true true h = refl
      go true false h = h
      go false c h = h

-- What is a loop of the procedure at a place.
loop_parts : (k : ℕ) (o : Option Entry) → loop_in k o ≡ true → (x : Entry) × (o ≡ Some x) × (x.context.proc ≡ k) × (is_loop x.part ≡ true)
loop_parts k None h = absurd cc
loop_parts k (Some x) h = (by_test x.context.proc k (λ b. (b && is_loop x.part) ≡ true → (y : Entry) × (Some x ≡ Some y) × (y.context.proc ≡ k) × (is_loop y.part ≡ true)) (λ e h. (x, refl, e, h)) (λ e h. absurd cc)) h

loop_whole : (k : ℕ) (o : Option Entry) (x : Entry) → o ≡ Some x → x.context.proc ≡ k → is_loop x.part ≡ true → loop_in k o ≡ true
loop_whole k o x e p l = ap (loop_in k) e ∙ (λ i. (p i == k) && l i) ∙ ap (λ b. b && true) (same k)

-- A loop of the procedure is known by the entry of its number.
module _ (ps : List Procedure) (k : ℕ) (p : Procedure) (numbered : AreNumbered ps) (h : slice_get ps k ≡ Some p) where
  abbrev own_code : Code
  own_code = (routine_of (take k ps) p).code

  abbrev own_entries : List Entry
  own_entries = procedure_entries (take k ps) p

  taken : (qs : List Procedure) (j : ℕ) → j < length qs → length (take j qs) ≡ j
  taken [] j l = absurd (omega arith)
  taken (q ∷ qs) zero l = refl
  taken (q ∷ qs) (suc j) l = ap suc (taken qs j (omega arith))

  known_loop : (n : ℕ) → any_loop n own_entries ≡ true → loop_in k (entry_of (entries_of ps) n) ≡ true
  known_loop n a =
      let f = any_found n own_entries a in
      let x = f.entry in
      let known : entry_of (entries_of ps) n ≡ Some x = ap (entry_of (entries_of ps)) (sym f.number) ∙ all_known ps numbered x (own ps k p h x f.among) in
      let place : x.context.proc ≡ k = procedure_is (resolver_at (take k ps) p) p.body (context_at (length (take k ps))) None None x f.among ∙ taken ps k (slice_get_within ps k p h) in
      loop_whole k (entry_of (entries_of ps) n) x known place f.loop

  loop_known : (n : ℕ) → loop_in k (entry_of (entries_of ps) n) ≡ true → any_loop n own_entries ≡ true
  loop_known n l =
      let f = loop_parts k (entry_of (entries_of ps) n) l in
      let x = f.0 in
      let s = stands ps n x f.1 in
      let at : slice_get ps k ≡ Some s.procedure = ap (slice_get ps) (sym f.2) ∙ s.there in
      let q : s.procedure ≡ p = same_Some s.procedure p (sym at ∙ h) in
      let i : In x (procedure_entries (take k ps) p) = subst (λ (j : ℕ). In x (procedure_entries (take j ps) p)) f.2 (subst (λ (z : Procedure). In x (procedure_entries (take x.context.proc ps) z)) q s.own) in
      any_there n x own_entries i (entry_found ps n x f.1).1 f.3

  own_loops : (n : ℕ) → has n (loops (routine_of (take k ps) p)) ≡ loop_in k (entry_of (entries_of ps) n)
  own_loops n =
      rising_has n (whiles own_code)
      ∙ whiles_are n own_code
      ∙ sym (any_block n (resolver_at (take k ps) p) (context_at (length (take k ps))) None None p.body)
      ∙ both_ways (any_loop n own_entries) (loop_in k (entry_of (entries_of ps) n)) (known_loop n) (loop_known n)

loops_there : (ps : List Procedure) (k : ℕ) (p : Procedure) → slice_get ps k ≡ Some p → slice_get (all_loops (routines_of ps)) k ≡ Some (loops (routine_of (take k ps) p))
loops_there ps k p h = slice_get-map loops (routines_of ps) k ∙ ap (option_map loops) (routine_there ps k p h)

-- The loops of a procedure are told by the entries.
pub loops_tell : (ps : List Procedure) (k : ℕ) (ns : List ℕ) → AreNumbered ps → slice_get (all_loops (routines_of ps)) k ≡ Some ns → (n : ℕ) → has n ns ≡ loop_in k (entry_of (entries_of ps) n)
loops_tell ps k ns numbered h n =
    let p = get_some ps k (omega (arith, slice_get_within (all_loops (routines_of ps)) k ns h, length-map (routines_of ps) loops, as_many [] ps)) in
    let e : loops (routine_of (take k ps) p.0) ≡ ns = same_Some (loops (routine_of (take k ps) p.0)) ns (sym (loops_there ps k p.0 p.1) ∙ h) in
    ap (has n) (sym e) ∙ own_loops ps k p.0 numbered p.1 n

-- And numbers that rise, and are those of its loops, are these.
abbrev keyed : List ℕ → BTreeSet ℕ
keyed ks = record { keys = ks }

same_rising : (xs ys : List ℕ) → IsStrictlySortedBy nat_cmp xs → IsStrictlySortedBy nat_cmp ys → ((n : ℕ) → has n xs ≡ has n ys) → xs ≡ ys
same_rising xs ys s t h = btree_set_from_contains nat_cmp_total (keyed xs) (keyed ys) s t (λ n. any_is n xs ∙ h n ∙ sym (any_is n ys)) exact_unsigned

told_loops : (ps : List Procedure) (k : ℕ) (ns : List ℕ) → AreNumbered ps → k < length ps → IsStrictlySortedBy nat_cmp ns → ((n : ℕ) → has n ns ≡ loop_in k (entry_of (entries_of ps) n)) → slice_get (all_loops (routines_of ps)) k ≡ Some ns
told_loops ps k ns numbered l s h =
    let p = get_some ps k l in
    let R = routine_of (take k ps) p.0 in
    loops_there ps k p.0 p.1 ∙ ap Some (same_rising (loops R) ns (rising_sorted (whiles R.code)) s (λ n. own_loops ps k p.0 numbered p.1 n ∙ sym (h n)))

-- Those that are found among the statements of the procedure.
pub loops_made : (ps : List Procedure) (k : ℕ) (ns : List ℕ) (none found : ℕ → Bool) → AreNumbered ps → k < length ps → IsStrictlySortedBy nat_cmp ns
    → ((n : ℕ) → none n ≡ false)
    → ((n : ℕ) → found n ≡ (none n || (has n (numbers_at ps k) && loop_in k (entry_of (entries_of ps) n))))
    → ((n : ℕ) → has n ns ≡ found n)
    → slice_get (all_loops (routines_of ps)) k ≡ Some ns
loops_made ps k ns none found numbered l s e f h = told_loops ps k ns numbered l s (λ n. h n ∙ f n ∙ ap (λ b. b || (has n (numbers_at ps k) && loop_in k (entry_of (entries_of ps) n))) (e n) ∙ whole n (loop_in k (entry_of (entries_of ps) n)) refl)
  where
    inside : (n : ℕ) → loop_in k (entry_of (entries_of ps) n) ≡ true → has n (numbers_at ps k) ≡ true
    inside n t =
        let x = loop_parts k (entry_of (entries_of ps) n) t in
        let r = number_there ps n x.0 x.1 in
        has_there (numbers_at ps k) r.0 n (subst (λ (j : ℕ). slice_get (numbers_at ps j) r.0 ≡ Some n) x.2 r.1)

    whole : (n : ℕ) (b : Bool) → loop_in k (entry_of (entries_of ps) n) ≡ b → (false || (has n (numbers_at ps k) && loop_in k (entry_of (entries_of ps) n))) ≡ loop_in k (entry_of (entries_of ps) n)
    whole n true t = ap (λ c. c && loop_in k (entry_of (entries_of ps) n)) (inside n t)
    whole n false t = ap (λ c. has n (numbers_at ps k) && c) t ∙ and-false (has n (numbers_at ps k)) ∙ sym t

-- They rise.
pub loops_rise : (ps : List Procedure) (k : ℕ) (ns : List ℕ) → slice_get (all_loops (routines_of ps)) k ≡ Some ns → IsStrictlySortedBy nat_cmp ns
loops_rise ps k ns h =
    let p = get_some ps k (omega (arith, slice_get_within (all_loops (routines_of ps)) k ns h, length-map (routines_of ps) loops, as_many [] ps)) in
    let R = routine_of (take k ps) p.0 in
    subst (IsStrictlySortedBy nat_cmp) (same_Some (loops R) ns (sym (loops_there ps k p.0 p.1) ∙ h)) (rising_sorted (whiles R.code))

module _ (old new : List Procedure) (puts : List Put) (b : Brings old new puts) (k : ℕ) where
  abbrev was : ℕ → Bool
  was n = loop_in k (entry_of (entries_of old) n)

  abbrev is : ℕ → Bool
  is n = loop_in k (entry_of (entries_of new) n)

  -- nothing is another loop but what comes or goes
  elsewhere : (n : ℕ) → has n (put_numbers puts) ≡ false → is n ≡ was n
  elsewhere n h = ap (loop_in k) (b.entries n ∙ overlay_other puts (entry_of (entries_of old)) n (lacks n (put_numbers puts) h))

  pub loops_changed : (before after : List ℕ) → k < length new → slice_get (all_loops (routines_of old)) k ≡ Some before → IsStrictlySortedBy nat_cmp after
      → ((n : ℕ) → has n after ≡ (if has n (put_numbers puts) then is n else has n before))
      → slice_get (all_loops (routines_of new)) k ≡ Some after
  loops_changed before after l h s m = told_loops new k after b.numbered l s (λ n. m n ∙ each n (has n (put_numbers puts)) refl)
    where
      each : (n : ℕ) (c : Bool) → has n (put_numbers puts) ≡ c → (if c then is n else has n before) ≡ is n
      each n true e = refl
      each n false e = loops_tell old k before b.numbered_before h n ∙ sym (elsewhere n e)

  -- Where each that comes or goes is a loop as before, all loops are those before.
  pub loops_kept : (before : List ℕ) → k < length new → slice_get (all_loops (routines_of old)) k ≡ Some before → ((n : ℕ) → has n (put_numbers puts) ≡ true → was n ≡ is n) → slice_get (all_loops (routines_of new)) k ≡ Some before
  loops_kept before l h same =
      told_loops new k before b.numbered l (loops_rise old k before h) (λ n. loops_tell old k before b.numbered_before h n ∙ each n (has n (put_numbers puts)) refl)
    where
      each : (n : ℕ) (c : Bool) → has n (put_numbers puts) ≡ c → was n ≡ is n
      each n true e = same n e
      each n false e = sym (elsewhere n e)

-- A procedure that is not touched.
pub untouched_loops : (old new : List Procedure) (puts : List Put) (k : ℕ) (before : List ℕ) → Brings old new puts → touches (entry_of (entries_of old)) puts k ≡ false → k < length new → slice_get (all_loops (routines_of old)) k ≡ Some before → slice_get (all_loops (routines_of new)) k ≡ Some before
untouched_loops old new puts k before b t l h =
    loops_kept old new puts b k before l h
    (λ n e. (none_was puts n t e) ∙ sym (ap (loop_in k) (b.entries n) ∙ none_is puts n t e))
  where
    at : ℕ → Option Entry
    at = entry_of (entries_of old)

    stranger : (o : Option Entry) → stands_in o k ≡ false → loop_in k o ≡ false
    stranger None h = refl
    stranger (Some x) h = ap (λ c. c && is_loop x.part) h

    first : (a c d : Bool) → (a || (c || d)) ≡ false → a ≡ false
    first true c d h = absurd cc
    first false c d h = refl

    second : (a c d : Bool) → (a || (c || d)) ≡ false → c ≡ false
    second true c d h = absurd cc
    second false true d h = absurd cc
    second false false d h = refl

    third : (a c d : Bool) → (a || (c || d)) ≡ false → d ≡ false
    third true c d h = absurd cc
    third false true d h = absurd cc
    third false false d h = h

    none_was : (qs : List Put) (n : ℕ) → touches at qs k ≡ false → has n (put_numbers qs) ≡ true → loop_in k (at n) ≡ false
    none_was [] n t e = absurd cc
    none_was (q ∷ qs) n t e =
        let a = first (stands_in (at q.number) k) (stands_in q.entry k) (touches at qs k) t in
        let c = third (stands_in (at q.number) k) (stands_in q.entry k) (touches at qs k) t in
        (by_test n q.number (λ d. (if d then true else has n (put_numbers qs)) ≡ true → loop_in k (at n) ≡ false) (λ i e. ap (λ m. loop_in k (at m)) i ∙ stranger (at q.number) a) (λ i e. none_was qs n c e)) e

    none_is : (qs : List Put) (n : ℕ) → touches at qs k ≡ false → has n (put_numbers qs) ≡ true → loop_in k (overlay qs at n) ≡ false
    none_is [] n t e = absurd cc
    none_is (q ∷ qs) n t e =
        let a = second (stands_in (at q.number) k) (stands_in q.entry k) (touches at qs k) t in
        let c = third (stands_in (at q.number) k) (stands_in q.entry k) (touches at qs k) t in
        (by_test q.number n (λ d. loop_in k (cond d q.entry (overlay qs at n)) ≡ false) (λ i. stranger q.entry a) (λ i. none_is qs n c (rest i (n == q.number) refl e)))
      where
        rest : q.number ≢ n → (d : Bool) → (n == q.number) ≡ d → (if d then true else has n (put_numbers qs)) ≡ true → has n (put_numbers qs) ≡ true
        rest i true d e = absurd (i (let r : q.number ≡ n = grind (arith, nat_tests) in r))
        rest i false d e = e

-- Those so far.
pub take_none : {A : Type 0} (xs : List A) → take 0 xs ≡ []
take_none [] = refl
take_none (x ∷ xs) = refl

abbrev pub Adds : (initial now : ℕ → Bool) → (ns : List ℕ) → (is : ℕ → Bool) → Type 0
Adds initial now ns is = (n : ℕ) → now n ≡ (initial n || (has n ns && is n))

pub adds_none : (found is : ℕ → Bool) (ns : List ℕ) → ns ≡ [] → Adds found found ns is
adds_none found is ns e n = sym (ap (λ ms. found n || (has n ms && is n)) e ∙ or-false (found n))

pub adds_one : (initial now more : ℕ → Bool) (ns ms : List ℕ) (is : ℕ → Bool) (m : ℕ) → Adds initial now ns is → ms ≡ ns ++ m ∷ [] → ((n : ℕ) → more n ≡ (now n || (is m && (n == m)))) → Adds initial more ms is
adds_one initial now more ns ms is m a e h n =
    h n
    ∙ ap (λ b. b || (is m && (n == m))) (a n)
    ∙ by_test n m (λ b. ((initial n || (has n ns && is n)) || (is m && b)) ≡ (initial n || ((has n ns || (if b then true else false)) && is n)))
    (λ q. ap (λ (j : ℕ). ((initial n || (has n ns && is n)) || (is j && true))) (sym q) ∙ with (initial n) (has n ns) (is n))
    (λ q. without (initial n) (has n ns) (is n) (is m))
    ∙ ap (λ b. initial n || (b && is n)) (sym (has_both n ns (m ∷ [])))
    ∙ ap (λ zs. initial n || (has n zs && is n)) (sym e)
  where
    with : (a b c : Bool) → ((a || (b && c)) || (c && true)) ≡ (a || ((b || true) && c))
    with true b c = refl
    with false true true = refl
    with false true false = refl
    with false false true = refl
    with false false false = refl

    without : (a b c d : Bool) → ((a || (b && c)) || (d && false)) ≡ (a || ((b || false) && c))
    without true b c d = refl
    without false true true d = refl
    without false true false true = refl
    without false true false false = refl
    without false false c true = refl
    without false false c false = refl

-- Numbers of a change, one after the other.
pub put_step : (puts : List Put) (i : ℕ) (p : Put) → i < length puts → p ≡ get_or puts i p → put_numbers (take (i + 1) puts) ≡ put_numbers (take i puts) ++ p.number ∷ []
put_step puts i p l e = ap put_numbers (take_item puts i p l e) ∙ both (take i puts)
  where
    both : (qs : List Put) → put_numbers (qs ++ p ∷ []) ≡ put_numbers qs ++ p.number ∷ []
    both [] = refl
    both (q ∷ qs) = ap (λ ns. q.number ∷ ns) (both qs)

abbrev pub Sets : (initial now : List ℕ) → (ns : List ℕ) → (is : ℕ → Bool) → Type 0
Sets initial now ns is = (n : ℕ) → has n now ≡ (if has n ns then is n else has n initial)

pub sets_none : (initial ns : List ℕ) (is : ℕ → Bool) → ns ≡ [] → Sets initial initial ns is
sets_none initial ns is e n = sym (ap (λ ms. if has n ms then is n else has n initial) e)

pub sets_one : (initial now more ns ms : List ℕ) (is : ℕ → Bool) (m : ℕ) → Sets initial now ns is → ms ≡ ns ++ m ∷ [] → ((n : ℕ) → has n more ≡ (if n == m then is m else has n now)) → Sets initial more ms is
sets_one initial now more ns ms is m a e h n =
    h n
    ∙ by_test n m (λ b. (if b then is m else has n now) ≡ (if has n ns || (if b then true else false) then is n else has n initial))
    (λ q. ap is (sym q) ∙ with (has n ns))
    (λ q. a n ∙ without (has n ns))
    ∙ ap (λ c. if c then is n else has n initial) (sym (has_both n ns (m ∷ [])) ∙ ap (has n) (sym e))
  where
    with : (c : Bool) → is n ≡ (if c || true then is n else has n initial)
    with true = refl
    with false = refl

    without : (c : Bool) → (if c then is n else has n initial) ≡ (if c || false then is n else has n initial)
    without true = refl
    without false = refl

abbrev pub SameSoFar : (was is : ℕ → Bool) → List ℕ → Type 0
SameSoFar was is ns = (n : ℕ) → has n ns ≡ true → was n ≡ is n

pub same_one : (was is : ℕ → Bool) (ns ms : List ℕ) (m : ℕ) → SameSoFar was is ns → ms ≡ ns ++ m ∷ [] → was m ≡ is m → SameSoFar was is ms
same_one was is ns ms m a e h n k = go (has n ns) refl (sym (has_both n ns (m ∷ [])) ∙ ap (has n) (sym e) ∙ k)
  where
    go : (b : Bool) → has n ns ≡ b → (has n ns || (if n == m then true else false)) ≡ true → was n ≡ is n
    go true q k = a n q
    go false q k = (by_test n m (λ c. (has n ns || (if c then true else false)) ≡ true → was n ≡ is n) (λ i k. ap was i ∙ h ∙ ap is (sym i)) (λ i k. clash (sym (ap (λ c. c || false) q) ∙ k))) k
      where
        clash : false ≡ true → was n ≡ is n
        clash e = absurd cc

-- A loop is among those of its procedure.
pub loop_there : (ps : List Procedure) (n : ℕ) (x : Entry) → AreNumbered ps → entry_of (entries_of ps) n ≡ Some x → is_loop x.part ≡ true → (i : ℕ) × (slice_get (or_no_loops (slice_get (all_loops (routines_of ps)) x.context.proc)) i ≡ Some n)
loop_there ps n x numbered h l =
    let k = x.context.proc in
    let s = stands ps n x h in
    let own = loops (routine_of (take k ps) s.procedure) in
    let r = there_has own n (own_loops ps k s.procedure numbered s.there n ∙ loop_whole k (entry_of (entries_of ps) n) x h refl l) in
    (r.0, ap (λ o. slice_get (or_no_loops o) r.0) (loops_there ps k s.procedure s.there) ∙ r.1)
