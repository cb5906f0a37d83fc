-- The chains to a procedure from those of the later ones.
use Rattle.std.proofs.Common.{ℕ, zero, suc, ◌≡◌, ◌⊎◌, inl, inr, ◌==◌, ◌+◌, ◌-◌, ◌<◌, ◌≤◌, cond, Bool, true, false, List, [], ◌∷◌, ◌++◌, length, drop, get_or, map, slice_get, Option, Some, None, refl, sym, ap, ◌∙◌, subst, arith, append_assoc}
use Rattle.std.specs.Prelude.{if◌then◌else◌, nat_lt}
use Rattle.std.proofs.lemmas.Bool.{cases_lt}
use Rattle.imp_syntax.specs.Plain.{Statements, Ends, Starts, Procedure}
use Rattle.imp_syntax.specs.Plain as tree
use Rattle.imp_slots.specs.Plain.{Routine}
use Rattle.imp_slots.specs.Fits.{FitInTurn, IsChecked}
use Rattle.imp_chains.specs.Chains.{calls_to, extended, through, chains_within, chains}
use Rattle.imp_chains.proofs.Found.{called_earlier}
use Rattle.imp_chains.specs.Claims.{ChainsAreThroughCallers}
use Rattle.imp_check.specs.Programs.{AreNumbered}
use Rattle.imp_check.specs.Slots.{Resolver, callee_in, code_in, routines_from, routines_of}
use Rattle.imp_check.specs.Entries.{inside, inside_loop, calls_here, sites_in, block_entries, procedure_entries, entries_from, entries_of, entry_of, resolver_at, context_at}
use Rattle.imp_check.specs.declared.entry.Context.{Context}
use Rattle.imp_check.specs.declared.entry.Entry.{Entry}
use Rattle.imp_check.specs.declared.entry.Which.TheVariants as which
use Rattle.imp_check.proofs.RebuildLemmas.{Known, all_numbers, found}
use Rattle.imp_slots.specs.Fits.{Distinct}
use Rattle.call_contexts.specs.Tables.{chains_up, or_no_chains, chains_in, chains_by, through_sites}
use Rattle.call_contexts.specs.Marks.{is_marked, chains_marked, left_out, AreCallersMarked}
use Rattle.call_contexts.proofs.Placed.{swapped}
use Rattle.base_values.proofs.Lists.{drop_item, get_last, get_other, one_more}
use Rattle.base_values.proofs.Cases.{by_test, less_test}
use Rattle.std.proofs.Math.Seq.{drop-length}
use Rattle.std.proofs.lemmas.List.{length-drop}

-- a procedure calls none of those from its own place on, so its chains go through those after it
through_later : (f : ℕ → List (List ℕ)) (before rs : List Routine) (k j p : ℕ) → k ≡ length before → FitInTurn before rs → k + j ≤ suc p → through f k rs p ≡ through f (k + j) (drop j rs) p
through_later f before rs k zero p l t h = ap (λ m. through f m rs p) (omega arith)
through_later f before [] k (suc j) p l t h = refl
through_later f before (r ∷ rs) k (suc j) p l t h =
    let none : calls_to p r.code ≡ [] = called_earlier before r.layout p r.code t.0.code (omega arith) in
    let next : k + suc j ≡ suc k + j = omega arith in
    ap (λ ns. extended (f k) ns ++ through f (suc k) rs p) none
    ∙ through_later f (before ++ (r ∷ [])) rs (suc k) j p (ap suc l ∙ sym (one_more before r)) t.1 (omega arith)
    ∙ ap (λ m. through f m (drop j rs) p) (sym next)

-- two lists that make none together
pub nil_first : (xs ys : List (List ℕ)) → xs ++ ys ≡ [] → xs ≡ []
nil_first [] ys h = refl
nil_first (x ∷ xs) ys h = absurd cc

pub nil_second : (xs ys : List (List ℕ)) → xs ++ ys ≡ [] → ys ≡ []
nil_second [] ys h = h
nil_second (x ∷ xs) ys h = absurd cc

-- where the chains of those from a place on are these, so are the chains through them
same_from : (f g : ℕ → List (List ℕ)) (k : ℕ) (rs : List Routine) (p : ℕ) → ((q : ℕ) → k ≤ q → q < k + length rs → f q ≡ g q) → through f k rs p ≡ through g k rs p
same_from f g k [] p h = refl
same_from f g k (r ∷ rs) p h =
    ap (λ zs. extended zs (calls_to p r.code) ++ through f (suc k) rs p) (h k (omega arith) (omega arith))
    ∙ ap (λ zs. extended (g k) (calls_to p r.code) ++ zs) (same_from f g (suc k) rs p (λ q a b. h q (omega arith) (omega arith)))

-- a table of chains by places
up_length : (f : ℕ → List (List ℕ)) (last n : ℕ) → length (chains_up f last n) ≡ n
up_length f last zero = refl
up_length f last (suc n) = one_more (chains_up f last n) (f (last - n)) ∙ ap suc (up_length f last n)

up_get : (f : ℕ → List (List ℕ)) (last n j : ℕ) → j < n → slice_get (chains_up f last n) j ≡ Some (f (last - j))
up_get f last zero j h = absurd (omega arith)
up_get f last (suc n) j h = go (up_get f last n j) (cases_lt j n)
  where
    go : (j < n → slice_get (chains_up f last n) j ≡ Some (f (last - j))) → (j < n) ⊎ (n ≤ j) → slice_get (chains_up f last n ++ f (last - n) ∷ []) j ≡ Some (f (last - j))
    go ih (inl k) = get_other (chains_up f last n) (f (last - n)) j (λ e. let l = up_length f last n in absurd (omega arith)) ∙ ih k
    go ih (inr k) =
        let e : n ≡ j = omega arith in
        let l : j ≡ length (chains_up f last n) = sym e ∙ sym (up_length f last n) in
        ap (slice_get (chains_up f last n ++ f (last - n) ∷ [])) l ∙ get_last (chains_up f last n) (f (last - n)) ∙ ap (λ m. Some (f (last - m))) e

pub up_more : (f : ℕ → List (List ℕ)) (last k i : ℕ) → k ≡ i + 1 → k ≤ last → chains_up f last (last - i) ≡ chains_up f last (last - k) ++ f k ∷ []
up_more f last k i e h =
    let a : last - i ≡ suc (last - k) = omega arith in
    let b : last - (last - k) ≡ k = omega arith in
    ap (chains_up f last) a ∙ ap (λ m. chains_up f last (last - k) ++ f m ∷ []) b

-- the chains through these statements, as far as they call p
abbrev through_entries : (f : ℕ → List (List ℕ)) → List Entry → (p : ℕ) → List (List ℕ)
through_entries f [] p = []
through_entries f (e ∷ es) p = cond (calls_here e.form p) (map (λ z. e.number ∷ z) (f e.context.proc) ++ through_entries f es p) (through_entries f es p)

extended_both : (zs : List (List ℕ)) (ms ns : List ℕ) → extended zs (ms ++ ns) ≡ extended zs ms ++ extended zs ns
extended_both zs [] ns = refl
extended_both zs (m ∷ ms) ns = ap (λ ws. map (λ z. m ∷ z) zs ++ ws) (extended_both zs ms ns) ∙ sym (append_assoc (map (λ z. m ∷ z) zs) (extended zs ms) (extended zs ns))

module _ (f : ℕ → List (List ℕ)) (p : ℕ) where
  entries_both : (xs ys : List Entry) → through_entries f (xs ++ ys) p ≡ through_entries f xs p ++ through_entries f ys p
  entries_both [] ys = refl
  entries_both (e ∷ xs) ys = go (calls_here e.form p) (map (λ z. e.number ∷ z) (f e.context.proc)) (entries_both xs ys)
    where
      go : (b : Bool) (zs : List (List ℕ)) → through_entries f (xs ++ ys) p ≡ through_entries f xs p ++ through_entries f ys p → cond b (zs ++ through_entries f (xs ++ ys) p) (through_entries f (xs ++ ys) p) ≡ cond b (zs ++ through_entries f xs p) (through_entries f xs p) ++ through_entries f ys p
      go true zs h = ap (λ ws. zs ++ ws) h ∙ sym (append_assoc zs (through_entries f xs p) (through_entries f ys p))
      go false zs h = h

  module _ (g : Resolver) (k : ℕ) where
    -- the chains through these statements are those through these calls
    abbrev Through : List Entry → List ℕ → Type 0
    Through xs ns = through_entries f xs p ≡ extended (f k) ns

    through_both : (xs ys : List Entry) (ms ns : List ℕ) → Through xs ms → Through ys ns → Through (xs ++ ys) (ms ++ ns)
    through_both xs ys ms ns a b = entries_both xs ys ∙ (λ i. a i ++ b i) ∙ sym (extended_both (f k) ms ns)

    through_block : (c : Context) (a next : Option ℕ) (b : Statements) → c.proc ≡ k → Through (block_entries g c a next b) (calls_to p (code_in g b))
    through_block c a next Ends e = refl
    through_block c a next (Starts (tree.Simple n x) ss) e = through_block c (Some n) next ss e
    through_block c a next (Starts (tree.Break n) ss) e = through_block c (Some n) next ss e
    through_block c a next (Starts (tree.Call n x h es) ss) e =
        let R = block_entries g c (Some n) next ss in
        ap (λ b. cond b (map (λ z. n ∷ z) (f c.proc) ++ through_entries f R p) (through_entries f R p)) (swapped (callee_in g h) p)
        ∙ go (p == callee_in g h) (through_block c (Some n) next ss e)
      where
        go : (b : Bool) → through_entries f (block_entries g c (Some n) next ss) p ≡ extended (f k) (calls_to p (code_in g ss)) → cond b (map (λ z. n ∷ z) (f c.proc) ++ through_entries f (block_entries g c (Some n) next ss) p) (through_entries f (block_entries g c (Some n) next ss) p) ≡ extended (f k) (if b then n ∷ calls_to p (code_in g ss) else calls_to p (code_in g ss))
        go true h = (λ i. map (λ z. n ∷ z) (f (e i)) ++ h i)
        go false h = h
    through_block c a next (Starts (tree.If n d t u) ss) e =
        let T = block_entries g (inside c n which.Then) None None t in
        let E = block_entries g (inside c n which.Else) None None u in
        let R = block_entries g c (Some n) next ss in
        let ts = calls_to p (code_in g t) in
        let us = calls_to p (code_in g u) in
        let rs = calls_to p (code_in g ss) in
        subst (Through ((T ++ E) ++ R)) (append_assoc ts us rs)
        (through_both (T ++ E) R (ts ++ us) rs (through_both T E ts us (through_block (inside c n which.Then) None None t e) (through_block (inside c n which.Else) None None u e)) (through_block c (Some n) next ss e))
    through_block c a next (Starts (tree.While n d b) ss) e =
        through_both (block_entries g (inside_loop c n) None None b) (block_entries g c (Some n) next ss) (calls_to p (code_in g b)) (calls_to p (code_in g ss)) (through_block (inside_loop c n) None None b e) (through_block c (Some n) next ss e)

  through_from : (es ps : List Procedure) → through_entries f (entries_from es ps) p ≡ through f (length es) (routines_from es ps) p
  through_from es [] = refl
  through_from es (q ∷ ps) =
      entries_both (procedure_entries es q) (entries_from (es ++ q ∷ []) ps)
      ∙ ap (λ zs. zs ++ through_entries f (entries_from (es ++ q ∷ []) ps) p) (through_block (resolver_at es q) (length es) (context_at (length es)) None None q.body refl)
      ∙ ap (λ zs. extended (f (length es)) (calls_to p (code_in (resolver_at es q) q.body)) ++ zs) (through_from (es ++ q ∷ []) ps ∙ ap (λ k. through f k (routines_from (es ++ q ∷ []) ps) p) (one_more es q))

  -- call statements that are known stand for what is known of them
  sites_are : (at : ℕ → Option Entry) (xs : List Entry) → Known at xs → through_sites f at (sites_in xs p) ≡ through_entries f xs p
  sites_are at [] k = refl
  sites_are at (e ∷ xs) k = go (calls_here e.form p) (sites_are at xs (λ y i. k y (inr i)))
    where
      go : (b : Bool) → through_sites f at (sites_in xs p) ≡ through_entries f xs p → through_sites f at (cond b (e.number ∷ sites_in xs p) (sites_in xs p)) ≡ cond b (map (λ z. e.number ∷ z) (f e.context.proc) ++ through_entries f xs p) (through_entries f xs p)
      go true h = (λ i. map (λ z. e.number ∷ z) (chains_by f (k e (inl refl) i)) ++ h i)
      go false h = h

-- the chains through one more call statement
pub sites_step : (f : ℕ → List (List ℕ)) (at : ℕ → Option Entry) (ns : List ℕ) (i n : ℕ) (zs before behind : List (List ℕ)) → i < length ns → n ≡ get_or ns i n → zs ≡ chains_by f (at n) → behind ≡ before ++ map (λ z. n ∷ z) zs →
    behind ++ through_sites f at (drop (i + 1) ns) ≡ before ++ through_sites f at (drop i ns)
sites_step f at ns i n zs before behind h e c b =
    let rest = through_sites f at (drop (i + 1) ns) in
    ap (λ ws. ws ++ rest) (b ∙ ap (λ ws. before ++ map (λ z. n ∷ z) ws) c)
    ∙ append_assoc before (map (λ z. n ∷ z) (chains_by f (at n))) rest
    ∙ ap (λ ms. before ++ through_sites f at ms) (sym (drop_item ns i n h e))

-- the chains through the call statements of a procedure are those through its calls in the text
pub through_sites_are : (f : ℕ → List (List ℕ)) (ps : List Procedure) (p : ℕ) → AreNumbered ps → through_sites f (entry_of (entries_of ps)) (sites_in (entries_of ps) p) ≡ through f 0 (routines_of ps) p
through_sites_are f ps p numbered =
    let k : Known (entry_of (entries_of ps)) (entries_of ps) = found (entries_of ps) (subst Distinct (sym (all_numbers ps)) numbered.once) in
    sites_are f p (entry_of (entries_of ps)) (entries_of ps) k ∙ through_from f p [] ps

-- where none without a mark calls a procedure, the chains through its calls are those by marked procedures
marked_calls : (zs : List (List ℕ)) (after here : Bool) (ns : List ℕ) → after ≡ true → extended (if after then (if here then [] else [] ∷ []) else []) ns ≡ [] → extended (if here then zs else []) ns ≡ extended zs ns
marked_calls zs false here ns e h = absurd cc
marked_calls zs true true ns e h = refl
marked_calls zs true false [] e h = refl
marked_calls zs true false (n ∷ ns) e h = absurd cc

marked_from : (f : ℕ → List (List ℕ)) (marks : List Bool) (p k : ℕ) (rs : List Routine) → p < k → through (left_out p marks) k rs p ≡ [] → through (chains_marked marks f) k rs p ≡ through f k rs p
marked_from f marks p k [] l h = refl
marked_from f marks p k (r ∷ rs) l h =
    let ns = calls_to p r.code in
    let a = nil_first (extended (left_out p marks k) ns) (through (left_out p marks) (suc k) rs p) h in
    let b = nil_second (extended (left_out p marks k) ns) (through (left_out p marks) (suc k) rs p) h in
    ap (λ (zs : List (List ℕ)). zs ++ through (chains_marked marks f) (suc k) rs p) (marked_calls (f k) (nat_lt p k) (is_marked marks k) ns (less_test p k l) a)
    ∙ ap (λ (zs : List (List ℕ)). extended (f k) ns ++ zs) (marked_from f marks p (suc k) rs (omega arith) b)

-- The chains to a procedure go through its call statements, by the chains to its callers.
pub from_sites : (ps : List Procedure) (marks : List Bool) (main p : ℕ) (table : List (List (List ℕ))) → ChainsAreThroughCallers → IsChecked (routines_of ps) → AreNumbered ps → main + 1 ≡ length (routines_of ps) → p < main → AreCallersMarked (routines_of ps) marks p → table ≡ chains_up (chains_marked marks (chains (routines_of ps))) main (main - p) →
    through_sites (chains_in table main) (entry_of (entries_of ps)) (sites_in (entries_of ps) p) ≡ chains (routines_of ps) p
from_sites ps marks main p table law checked numbered e h callers t =
    let rs = routines_of ps in
    let later = drop (p + 1) rs in
    let f = chains_in table main in
    let g = chains_marked marks (chains rs) in
    let out = left_out p marks in
    let l : length later ≡ main - p = length-drop (p + 1) rs ∙ counted in
    through_sites_are f ps p numbered
    ∙ through_later f [] rs 0 (p + 1) p refl checked.fit (omega arith)
    ∙ same_from f g (0 + (p + 1)) later p (λ q a b. known q (omega arith) (omega arith))
    ∙ marked_from (chains rs) marks p (0 + (p + 1)) later (omega arith) (sym (through_later out [] rs 0 (p + 1) p refl checked.fit (omega arith)) ∙ callers)
    ∙ sym (through_later (chains rs) [] rs 0 (p + 1) p refl checked.fit (omega arith))
    ∙ sym (law rs checked p (omega arith))
  where
    counted : length (routines_of ps) - (p + 1) ≡ main - p
    counted = omega arith

    known : (q : ℕ) → p < q → q ≤ main → chains_in table main q ≡ chains_marked marks (chains (routines_of ps)) q
    known q a b =
        let z : main - (main - q) ≡ q = omega arith in
        let g : ℕ → List (List ℕ) = chains_marked marks (chains (routines_of ps)) in
        ap (λ ts. or_no_chains (slice_get ts (main - q))) t ∙ ap or_no_chains (up_get g main (main - p) (main - q) (omega arith)) ∙ ap g z

-- main has the one empty chain
pub main_only : (program : List Routine) (p : ℕ) → p + 1 ≡ length program → chains program p ≡ [] ∷ []
main_only program p h = go (length program) (sym h)
  where
    go : (most : ℕ) → most ≡ p + 1 → chains_within most program p ≡ [] ∷ []
    go zero e = absurd (omega arith)
    go (suc most) e = by_test (suc p) (length program) (λ c. (if c then [] ∷ [] else through (chains_within most program) 0 program p) ≡ [] ∷ []) (λ k. refl) (λ k. absurd (k (omega arith)))

pub main_marked : (program : List Routine) (marks : List Bool) (p : ℕ) → p + 1 ≡ length program → is_marked marks p ≡ true → chains_marked marks (chains program) p ≡ [] ∷ []
main_marked program marks p h m = ap (λ (b : Bool). if b then chains program p else []) m ∙ main_only program p h

pub none_past : (program : List Routine) (p : ℕ) → IsChecked program → length program ≤ p → chains program p ≡ []
none_past program p checked h = go (length program)
  where
    gone : (f : ℕ → List (List ℕ)) → through f 0 program p ≡ []
    gone f = through_later f [] program 0 (length program) p refl checked.fit (omega arith) ∙ ap (λ rs. through f (0 + length program) rs p) (drop-length program)

    go : (most : ℕ) → chains_within most program p ≡ []
    go zero = refl
    go (suc most) = by_test (suc p) (length program) (λ c. (if c then [] ∷ [] else through (chains_within most program) 0 program p) ≡ []) (λ k. absurd (omega arith)) (λ k. gone (chains_within most program))
