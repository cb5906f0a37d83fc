-- The thresholds and the tally of each procedure of a program, and what a change makes of them.
use Rattle.std.proofs.lemmas.Option.{slice_get-map, slice_get_within, same_Some}
use Rattle.std.proofs.lemmas.List.{length-map, length-take-le, take_all}
use Rattle.std.proofs.Common.{◌≡◌, ℕ, ℤ, ◌+◌, ◌-◌, ◌<◌, ◌≤◌, ◌==◌, ◌||◌, ◌&&◌, ◌^◌, Bool, true, false, List, [], ◌∷◌, ◌++◌, length, take, slice_get, get_or, add-one, Option, Some, None, option_map, inl, inr, refl, sym, ap, ◌∙◌, subst, arith}
use Rattle.std.specs.Prelude.{if◌then◌else◌, Result, Ok, Err, IfOk}
use Rattle.std.specs.Bool.{OnTrue}
use Rattle.std.specs.List.Sorted.{IsStrictlySortedBy}
use Rattle.std.specs.Map.{keys_of}
use Rattle.std.proofs.Math.Bool.{or-true}
use Rattle.imp_syntax.specs.Plain.{Procedure}
use Rattle.imp_slots.specs.Plain.{Routine}
use Rattle.imp_slots.specs.Fits.{Distinct}
use Rattle.imp_check.specs.Slots.{routine_of, routines_of}
use Rattle.imp_check.specs.Programs.{AreNumbered, check_fault}
use Rattle.imp_check.specs.Entries.{procedure_entries, entries_of, entry_of, resolver_at, context_at}
use Rattle.imp_check.specs.Walks.{body_numbers, numbers_at}
use Rattle.imp_table.specs.declared.change.Put.{Put}
use Rattle.imp_check.specs.declared.entry.Entry.{Entry}
use Rattle.imp_table.proofs.FallingLemmas.{falling_once}
use Rattle.imp_check.proofs.FewLemmas.{few_statements}
use Rattle.imp_check.proofs.PutLemmas.{same}
use Rattle.imp_check.proofs.RebuildLemmas.{In, Known, entry_numbers, block_numbers, all_numbers}
use Rattle.imp_check.proofs.StandLemmas.{procedure_is}
use Rattle.imp_check.proofs.WalkLemmas.{own, all_known}
use Rattle.imp_chains.specs.declared.widening.Widening.{Widening}
use Rattle.imp_chains.specs.Chains.{has}
use Rattle.imp_chains.specs.Thresholds.{literals, thresholds, thresholds_of}
use Rattle.call_contexts.specs.Literals.{form_literals, literals_in}
use Rattle.batch_meaning.specs.Batch.{LoopOptions}
use Rattle.call_contexts.specs.Loops.{loops, all_loops}
use Rattle.call_contexts.specs.Settings.{Setting, all_thresholds, setting_of, IsPart}
use Rattle.call_contexts.specs.Tallies.{literal_lists, one_if, times, tally, tally_by, all_tallies, Tells, capped}
use Rattle.call_contexts.specs.Differences.{lists_in, lost, gained, lists_by, AreDifferent}
use Rattle.call_contexts.specs.Touches.{stands_in, touches, Brings}
use Rattle.call_contexts.proofs.Balance.{counted, counted_block, own_counted, balance, times_below}
use Rattle.call_contexts.proofs.Few.{as_many}
use Rattle.call_contexts.proofs.LiteralLemmas.{routine_there, threshold_there}
use Rattle.call_contexts.proofs.TallyLemmas.{tally_tells, told_once, same_thresholds}
use Rattle.base_values.proofs.Lists.{get_some, take_item, take_next}
use Rattle.base_values.proofs.Cases.{or_first, or_second}

-- the statements of the procedure at a place, by the numbers of each
abbrev lists_at : List Procedure → ℕ → Procedure → List (List ℕ)
lists_at ps k p = literal_lists (routine_of (take k ps) p).code

tally_there : (w : Widening) (ps : List Procedure) (k : ℕ) (p : Procedure) → slice_get ps k ≡ Some p → slice_get (all_tallies w (routines_of ps)) k ≡ Some (tally_by w (routine_of (take k ps) p))
tally_there w ps k p h = slice_get-map (tally_by w) (routines_of ps) k ∙ ap (option_map (tally_by w)) (routine_there ps k p h)

-- what has a tally is there
pub had : (w : Widening) (ps : List Procedure) (k : ℕ) (t : List (ℕ × ℕ)) → slice_get (all_tallies w (routines_of ps)) k ≡ Some t → (p : Procedure) × (slice_get ps k ≡ Some p) × (tally_by w (routine_of (take k ps) p) ≡ t)
had w ps k t h =
    let p = get_some ps k (omega (arith, slice_get_within (all_tallies w (routines_of ps)) k t h, length-map (routines_of ps) (tally_by w), as_many [] ps)) in
    (p.0, p.1, same_Some (tally_by w (routine_of (take k ps) p.0)) t (sym (tally_there w ps k p.0 p.1) ∙ h))

few : (ps : List Procedure) (k : ℕ) (p : Procedure) → check_fault ps ≡ None → slice_get ps k ≡ Some p → (n : ℕ) → times n (lists_at ps k p) < 10001
few ps k p f h n = omega (arith, times_below ps k n p h, (few_statements ps f).0)

module _ (old new : List Procedure) (puts : List Put) (b : Brings old new puts) (k : ℕ) (p q : Procedure) (h : slice_get old k ≡ Some p) (i : slice_get new k ≡ Some q) where
  law : (n : ℕ) → (times n (lists_at new k q) + times n (lost k (entry_of (entries_of old)) puts) ≡ times n (lists_at old k p) + times n (gained k puts)) × (times n (lost k (entry_of (entries_of old)) puts) ≤ times n (lists_at old k p))
  law n =
      let r = balance k n (entries_of old) (entries_of new) puts
      (subst Distinct (sym (all_numbers old)) b.numbered_before.once)
      (subst Distinct (sym (all_numbers new)) b.numbered.once)
      (falling_once puts b.falling) b.entries in
      let x = own_counted k n old p h in
      let y = own_counted k n new q i in
      (omega (arith, r.0, x, y), omega (arith, r.1, x))

  changed_times : (ls gs : List (List ℕ)) → AreDifferent (lost k (entry_of (entries_of old)) puts) (gained k puts) ls gs → (n : ℕ) → capped ((times n (lists_at old k p) - times n ls) + times n gs) ≡ times n (lists_at new k q)
  changed_times ls gs d n = omega (arith, (law n).0, (law n).1, d.balanced n, d.within n, few new k q b.faultless i n)

abbrev pub Makes : List (ℕ × ℕ) → List (ℕ × ℕ) → (ls gs : List (List ℕ)) → Type 0
Makes t u ls gs = (f : ℕ → ℕ) → Tells t f → ((n : ℕ) → f n < 2 ^ 32) → Tells u (λ n. capped ((f n - times n ls) + times n gs))

pub by_thresholds : (w : Widening) (r : Routine) → w.thresholds ≡ true → tally_by w r ≡ tally r.code
by_thresholds w r e = ap (λ (b : Bool). if b then tally r.code else []) e

pub tally_changed : (w : Widening) (old new : List Procedure) (puts : List Put) (k : ℕ) (t u : List (ℕ × ℕ)) (ls gs : List (List ℕ)) → Brings old new puts → w.thresholds ≡ true → k < length new
    → slice_get (all_tallies w (routines_of old)) k ≡ Some t
    → AreDifferent (lost k (entry_of (entries_of old)) puts) (gained k puts) ls gs
    → Makes t u ls gs
    → slice_get (all_tallies w (routines_of new)) k ≡ Some u
tally_changed w old new puts k t u ls gs b e l h d m =
    let p = had w old k t h in
    let q = get_some new k l in
    let P = routine_of (take k old) p.0 in
    let Q = routine_of (take k new) q.0 in
    let was : Tells t (λ n. times n (literal_lists P.code)) = subst (λ (z : List (ℕ × ℕ)). Tells z (λ n. times n (literal_lists P.code))) (sym (by_thresholds w P e) ∙ p.2) (tally_tells P.code) in
    let now = m (λ n. times n (literal_lists P.code)) was (λ n. omega (arith, few old k p.0 b.faultless_before p.1 n)) in
    let same : tally Q.code ≡ u =
    told_once (tally Q.code) u (λ n. times n (literal_lists Q.code)) (λ n. capped ((times n (literal_lists P.code) - times n ls) + times n gs)) (tally_tells Q.code) now
    (λ n. sym (changed_times old new puts b k p.0 q.0 p.1 q.1 ls gs d n)) in
    tally_there w new k q.0 q.1 ∙ ap Some (by_thresholds w Q e ∙ same)

-- a procedure with the same numbers
pub thresholds_kept : (w : Widening) (old new : List Procedure) (k : ℕ) (ms : List ℤ) (t u : List (ℕ × ℕ)) → w.thresholds ≡ true
    → slice_get (all_thresholds w (routines_of old)) k ≡ Some ms
    → slice_get (all_tallies w (routines_of old)) k ≡ Some t
    → slice_get (all_tallies w (routines_of new)) k ≡ Some u
    → keys_of u ≡ keys_of t → slice_get (all_thresholds w (routines_of new)) k ≡ Some ms
thresholds_kept w old new k ms t u e m h i keys =
    let p = had w old k t h in
    let q = had w new k u i in
    let P = routine_of (take k old) p.0 in
    let Q = routine_of (take k new) q.0 in
    let same : thresholds_of (literals Q.code) ≡ thresholds_of (literals P.code) =
    same_thresholds Q.code P.code (ap keys_of (sym (by_thresholds w Q e) ∙ q.2) ∙ keys ∙ ap keys_of (sym p.2 ∙ by_thresholds w P e)) in
    threshold_there w new k q.0 q.1 ∙ ap (λ (z : List ℤ). Some (if w.thresholds then z else [])) same ∙ sym (threshold_there w old k p.0 p.1) ∙ m

pub thresholds_kept_if : (same : Bool) (w : Widening) (old new : List Procedure) (k : ℕ) (ms : List ℤ) (t u : List (ℕ × ℕ)) → w.thresholds ≡ true
    → slice_get (all_thresholds w (routines_of old)) k ≡ Some ms
    → slice_get (all_tallies w (routines_of old)) k ≡ Some t
    → slice_get (all_tallies w (routines_of new)) k ≡ Some u
    → OnTrue same (keys_of u ≡ keys_of t) → OnTrue same (slice_get (all_thresholds w (routines_of new)) k ≡ Some ms)
thresholds_kept_if true w old new k ms t u e m h i keys = thresholds_kept w old new k ms t u e m h i keys
thresholds_kept_if false w old new k ms t u e m h i keys = tt

pub made_of : (t s u : List (ℕ × ℕ)) (ls ms gs hs : List (List ℕ)) → s ≡ t → ms ≡ ls → hs ≡ gs → Makes s u ms hs → Makes t u ls gs
made_of t s u ls ms gs hs a b c m =
    subst (λ (z : List (ℕ × ℕ)). Makes z u ls gs) a (subst (λ (z : List (List ℕ)). Makes s u z gs) b (subst (λ (z : List (List ℕ)). Makes s u ms z) c m))

none_in : (k : ℕ) (o : Option Entry) → stands_in o k ≡ false → lists_in k o ≡ []
none_in k None h = refl
none_in k (Some e) h = ap (λ (c : Bool). if c then form_literals e.form ∷ [] else []) h

none_lost : (at : ℕ → Option Entry) (ps : List Put) (k : ℕ) → touches at ps k ≡ false → (lost k at ps ≡ []) × (gained k ps ≡ [])
none_lost at [] k h = (refl, refl)
none_lost at (p ∷ ps) k h =
    let r = or_second (stands_in (at p.number) k) (stands_in p.entry k || touches at ps k) h in
    let more = none_lost at ps k (or_second (stands_in p.entry k) (touches at ps k) r) in
    ((λ i. none_in k (at p.number) (or_first (stands_in (at p.number) k) (stands_in p.entry k || touches at ps k) h) i ++ more.0 i), (λ i. none_in k p.entry (or_first (stands_in p.entry k) (touches at ps k) r) i ++ more.1 i))

tally_kept : (w : Widening) (old new : List Procedure) (puts : List Put) (k : ℕ) (t : List (ℕ × ℕ)) → Brings old new puts → w.thresholds ≡ true → ((n : ℕ) → times n (lost k (entry_of (entries_of old)) puts) ≡ times n (gained k puts)) → k < length new
    → slice_get (all_tallies w (routines_of old)) k ≡ Some t → slice_get (all_tallies w (routines_of new)) k ≡ Some t
tally_kept w old new puts k t b e f l h =
    let p = had w old k t h in
    let q = get_some new k l in
    let P = routine_of (take k old) p.0 in
    let Q = routine_of (take k new) q.0 in
    let same : tally Q.code ≡ tally P.code =
    told_once (tally Q.code) (tally P.code) (λ n. times n (literal_lists Q.code)) (λ n. times n (literal_lists P.code)) (tally_tells Q.code) (tally_tells P.code)
    (λ n. omega (arith, (law old new puts b k p.0 q.0 p.1 q.1 n).0, f n)) in
    tally_there w new k q.0 q.1 ∙ ap Some (by_thresholds w Q e ∙ same ∙ sym (by_thresholds w P e) ∙ p.2)

untouched_tally : (w : Widening) (old new : List Procedure) (puts : List Put) (k : ℕ) (t : List (ℕ × ℕ)) → Brings old new puts → w.thresholds ≡ true → touches (entry_of (entries_of old)) puts k ≡ false → k < length new
    → slice_get (all_tallies w (routines_of old)) k ≡ Some t → slice_get (all_tallies w (routines_of new)) k ≡ Some t
untouched_tally w old new puts k t b e f l h = let none = none_lost (entry_of (entries_of old)) puts k f in tally_kept w old new puts k t b e (λ n. ap (times n) (none.0 ∙ sym none.1)) l h

-- a procedure of which as many statements with each number go as come
pub part_same : (w : Widening) (old new : List Procedure) (puts : List Put) (k : ℕ) (ms : List ℤ) (t : List (ℕ × ℕ)) (os : List ℕ) (ls gs : List (List ℕ)) → Brings old new puts → w.thresholds ≡ true → k < length new
    → slice_get (all_thresholds w (routines_of old)) k ≡ Some ms → slice_get (all_tallies w (routines_of old)) k ≡ Some t → slice_get (all_loops (routines_of new)) k ≡ Some os
    → AreDifferent (lost k (entry_of (entries_of old)) puts) (gained k puts) ls gs → ls ≡ gs → IsPart w (routines_of new) k ms t os
part_same w old new puts k ms t os ls gs b e l m h i d s =
    let u = tally_kept w old new puts k t b e (λ n. omega (arith, d.balanced n, ap (times n) s)) l h in
    record { thresholds_are = thresholds_kept w old new k ms t t e m h u refl; tally_is = u; loops_are = i }

-- a procedure without thresholds, or one that is not touched
pub part_kept : (w : Widening) (old new : List Procedure) (puts : List Put) (k : ℕ) (c : Bool) (ms : List ℤ) (t : List (ℕ × ℕ)) (ls : List ℕ) → Brings old new puts → c ≡ touches (entry_of (entries_of old)) puts k → k < length new
    → slice_get (all_thresholds w (routines_of old)) k ≡ Some ms → slice_get (all_tallies w (routines_of old)) k ≡ Some t → slice_get (all_loops (routines_of new)) k ≡ Some ls
    → (w.thresholds && c) ≡ false → IsPart w (routines_of new) k ms t ls
part_kept w old new puts k c ms t ls b e l m h i f = go w.thresholds refl f
  where
    go : (d : Bool) → w.thresholds ≡ d → (d && c) ≡ false → IsPart w (routines_of new) k ms t ls
    go true d f =
        let u = untouched_tally w old new puts k t b d (sym e ∙ f) l h in
        record { thresholds_are = thresholds_kept w old new k ms t t d m h u refl; tally_is = u; loops_are = i }
    go false d f =
        let p = had w old k t h in
        let q = get_some new k l in
        let P = routine_of (take k old) p.0 in
        let Q = routine_of (take k new) q.0 in
        let no_tally : (r : Routine) → tally_by w r ≡ [] = λ r. ap (λ (b : Bool). if b then tally r.code else []) d in
        let no_thresholds : (r : Routine) → thresholds w r ≡ [] = λ r. ap (λ (b : Bool). if b then thresholds_of (literals r.code) else []) d in
        record {
          thresholds_are = threshold_there w new k q.0 q.1 ∙ ap Some (no_thresholds Q ∙ sym (no_thresholds P)) ∙ sym (threshold_there w old k p.0 p.1) ∙ m;
          tally_is = tally_there w new k q.0 q.1 ∙ ap Some (no_tally Q ∙ sym (no_tally P) ∙ p.2);
          loops_are = i;
        }

-- The tally of a procedure that is made of its statements.
pub none_told : Tells [] (λ n. capped 0)
unfolding IsStrictlySortedBy
none_told = record { sorted = tt; at = λ n. refl }

module _ (at : ℕ → Option Entry) (k n : ℕ) where
  by_list : (es : List Entry) → Known at es → ((x : Entry) → In x es → x.context.proc ≡ k) → times n (lists_by at (entry_numbers es)) ≡ counted k n es
  by_list [] known own = refl
  by_list (e ∷ es) known own =
      let here : literals_in (at e.number) ≡ form_literals e.form = ap literals_in (known e (inl refl)) in
      let there : lists_in k (Some e) ≡ form_literals e.form ∷ [] = ap (λ (c : Bool). if c then form_literals e.form ∷ [] else []) (ap (λ m. m == k) (own e (inl refl)) ∙ same k) in
      omega (arith, ap (λ ns. one_if (has n ns)) here, ap (times n) there, by_list es (λ x i. known x (inr i)) (λ x i. own x (inr i)))

pub tally_made : (w : Widening) (ps : List Procedure) (k : ℕ) (t : List (ℕ × ℕ)) → k < length ps → AreNumbered ps → check_fault ps ≡ None → w.thresholds ≡ true
    → Tells t (λ n. capped (0 + times n (lists_by (entry_of (entries_of ps)) (numbers_at ps k)))) → slice_get (all_tallies w (routines_of ps)) k ≡ Some t
tally_made w ps k t l numbered faultless e told =
    let p = get_some ps k l in
    let at = entry_of (entries_of ps) in
    let R = routine_of (take k ps) p.0 in
    let es = procedure_entries (take k ps) p.0 in
    let ns : numbers_at ps k ≡ entry_numbers es = ap body_numbers p.1 ∙ sym (block_numbers (resolver_at (take k ps) p.0) (context_at (length (take k ps))) None None p.0.body) in
    let place : length (take k ps) ≡ k = length-take-le k ps (omega arith) in
    let known : Known at es = λ x i. all_known ps numbered x (own ps k p.0 p.1 x i) in
    let owned : (x : Entry) → In x es → x.context.proc ≡ k = λ x i. procedure_is (resolver_at (take k ps) p.0) p.0.body (context_at (length (take k ps))) None None x i ∙ place in
    let same_times : (n : ℕ) → times n (literal_lists R.code) ≡ capped (0 + times n (lists_by at (numbers_at ps k))) =
    λ n.
    omega (
      arith,
      few ps k p.0 faultless p.1 n,
      ap (λ zs. times n (lists_by at zs)) ns,
      by_list at k n es known owned,
      counted_block k n (resolver_at (take k ps) p.0) true (context_at (length (take k ps))) None None p.0.body (ap (λ m. m == k) place ∙ same k),
    ) in
    tally_there w ps k p.0 p.1 ∙ ap Some (by_thresholds w R e ∙ told_once (tally R.code) t (λ n. times n (literal_lists R.code)) (λ n. capped (0 + times n (lists_by at (numbers_at ps k)))) (tally_tells R.code) told same_times)

pub no_tally : (w : Widening) (ps : List Procedure) (k : ℕ) → k < length ps → w.thresholds ≡ false → slice_get (all_tallies w (routines_of ps)) k ≡ Some []
no_tally w ps k l h =
    let p = get_some ps k l in
    tally_there w ps k p.0 p.1 ∙ ap (λ (b : Bool). Some (if b then tally (routine_of (take k ps) p.0).code else [])) h

-- What one more procedure adds, and all of them.
part_more : {A : Type 0} (whole all more : List A) (i : ℕ) (x : A) → all ≡ take i whole → slice_get whole i ≡ Some x → more ≡ all ++ x ∷ [] → more ≡ take (i + 1) whole
part_more whole all more i x e h p = p ∙ ap (λ zs. zs ++ x ∷ []) e ∙ sym (rw add-one (take_next whole i x h))

-- The parts of the first procedures.
pub record SoFar (e : LoopOptions) (program : List Routine) (place : ℕ) (s : Setting) : Type 0 where
  pub engine : s.engine ≡ e
  pub thresholds : s.thresholds ≡ take place (all_thresholds e.widening program)
  pub tallies : s.tallies ≡ take place (all_tallies e.widening program)
  pub loops : s.loops ≡ take place (all_loops program)

pub so_far_more : (e : LoopOptions) (program : List Routine) (i k : ℕ) (s t : Setting) (ms : List ℤ) (ts : List (ℕ × ℕ)) (ls : List ℕ) → SoFar e program i s → k ≡ i → IsPart e.widening program k ms ts ls
    → t.engine ≡ s.engine → t.thresholds ≡ s.thresholds ++ ms ∷ [] → t.tallies ≡ s.tallies ++ ts ∷ [] → t.loops ≡ s.loops ++ ls ∷ [] → SoFar e program (i + 1) t
so_far_more e program i k s t ms ts ls so_far at part same more others rest =
    let p = subst (λ j. IsPart e.widening program j ms ts ls) at part in
    record {
      engine = same ∙ so_far.engine;
      thresholds = part_more (all_thresholds e.widening program) s.thresholds t.thresholds i ms so_far.thresholds p.thresholds_are more;
      tallies = part_more (all_tallies e.widening program) s.tallies t.tallies i ts so_far.tallies p.tally_is others;
      loops = part_more (all_loops program) s.loops t.loops i ls so_far.loops p.loops_are rest;
    }

pub so_far_whole : (e : LoopOptions) (ps : List Procedure) (i : ℕ) (s : Setting) → SoFar e (routines_of ps) i s → length ps ≤ i → s ≡ setting_of e (routines_of ps)
so_far_whole e ps i s so_far h =
    let ms = so_far.thresholds ∙ take_all i (all_thresholds e.widening (routines_of ps)) (omega (arith, h, length-map (routines_of ps) (thresholds e.widening), as_many [] ps)) in
    let ts = so_far.tallies ∙ take_all i (all_tallies e.widening (routines_of ps)) (omega (arith, h, length-map (routines_of ps) (tally_by e.widening), as_many [] ps)) in
    let ls = so_far.loops ∙ take_all i (all_loops (routines_of ps)) (omega (arith, h, length-map (routines_of ps) loops, as_many [] ps)) in
    λ j. record { engine = so_far.engine j; thresholds = ms j; tallies = ts j; loops = ls j }

-- Procedures that are touched, one change after the other.
touches_last : (at : ℕ → Option Entry) (ps : List Put) (p : Put) (k : ℕ) → touches at (ps ++ p ∷ []) k ≡ (stands_in (at p.number) k || (stands_in p.entry k || touches at ps k))
touches_last at [] p k = refl
touches_last at (q ∷ ps) p k =
    ap (λ b. stands_in (at q.number) k || (stands_in q.entry k || b)) (touches_last at ps p k)
    ∙ swap (stands_in (at q.number) k) (stands_in q.entry k) (stands_in (at p.number) k) (stands_in p.entry k) (touches at ps k)
  where
    swap : (a b c d e : Bool) → (a || (b || (c || (d || e)))) ≡ (c || (d || (a || (b || e))))
    swap true b true d e = refl
    swap true b false true e = refl
    swap true b false false e = refl
    swap false b true d e = or-true b
    swap false b false true e = or-true b
    swap false b false false e = refl

pub touched_more : (at : ℕ → Option Entry) (ps : List Put) (i : ℕ) (p : Put) (k : ℕ) (had goes comes : Bool) → i < length ps → p ≡ get_or ps i p → had ≡ touches at (take i ps) k → goes ≡ (stands_in (at p.number) k || had) → comes ≡ (stands_in p.entry k || goes) → comes ≡ touches at (take (i + 1) ps) k
touched_more at ps i p k had goes comes l e h f g =
    g ∙ ap (λ b. stands_in p.entry k || b) (f ∙ ap (λ b. stands_in (at p.number) k || b) h)
    ∙ turned (stands_in p.entry k) (stands_in (at p.number) k) (touches at (take i ps) k)
    ∙ sym (ap (λ qs. touches at qs k) (take_item ps i p l e) ∙ touches_last at (take i ps) p k)
  where
    turned : (a b c : Bool) → (a || (b || c)) ≡ (b || (a || c))
    turned true true c = refl
    turned true false c = refl
    turned false b c = refl

pub touched_none : (at : ℕ → Option Entry) (ps : List Put) (k : ℕ) → touches at (take 0 ps) k ≡ false
touched_none at [] k = refl
touched_none at (p ∷ ps) k = refl

pub touched_whole : (at : ℕ → Option Entry) (ps : List Put) (i k : ℕ) (has : Bool) → has ≡ touches at (take i ps) k → length ps ≤ i → has ≡ touches at ps k
touched_whole at ps i k has e h = e ∙ ap (λ qs. touches at qs k) (take_all i ps h)

-- a part that is as it was
part_of : (w : Widening) (program : List Routine) (k : ℕ) (ms ns : List ℤ) (t u : List (ℕ × ℕ)) (ls os : List ℕ) → ns ≡ ms → u ≡ t → os ≡ ls → IsPart w program k ms t ls → IsPart w program k ns u os
part_of w program k ms ns t u ls os a b c p = record { thresholds_are = p.thresholds_are ∙ ap Some (sym a); tally_is = p.tally_is ∙ ap Some (sym b); loops_are = p.loops_are ∙ ap Some (sym c) }

pub shared_part : {T E : Type 0} (r : Result T E) (f : T → List ℤ) (g : T → List (ℕ × ℕ)) (h : T → List ℕ) (w : Widening) (program : List Routine) (k : ℕ) (ms : List ℤ) (t : List (ℕ × ℕ)) (ls : List ℕ)
    → IfOk r (λ p. f p ≡ ms) → IfOk r (λ p. g p ≡ t) → IfOk r (λ p. h p ≡ ls) → IsPart w program k ms t ls → IfOk r (λ p. IsPart w program k (f p) (g p) (h p))
shared_part (Ok p) f g h w program k ms t ls a b c part = part_of w program k ms (f p) t (g p) ls (h p) a b c part
shared_part (Err e) f g h w program k ms t ls a b c part = tt
