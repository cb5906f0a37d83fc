-- The first fault of a program in which statements of one procedure are exchanged for others, where the old one has none.
use Rattle.std.proofs.lemmas.Bool.Decides.{nat_tests}
use Rattle.std.proofs.Common.{◌≡◌, ℕ, zero, suc, ◌+◌, ◌-◌, ◌<◌, nat_lt, List, [], ◌∷◌, ◌++◌, length, slice_get, Option, Some, None, Bool, true, false, not, refl, sym, ap, ◌∙◌, arith, append-nil, append_assoc}
use Rattle.std.specs.Str.{bytes_eq}
use Rattle.base_values.proofs.Cases.{less_of}
use Rattle.std.specs.Prelude.{codes}
use Rattle.imp_syntax.specs.Plain.{Statements, Ends, Procedure}
use Rattle.imp_check.specs.Faults.{first, unless, at, in_procedure}
use Rattle.imp_check.specs.Names.{is_named, variables}
use Rattle.imp_check.specs.Statements.{Scope, block_fault}
use Rattle.imp_check.specs.Chains.{calls, all_chains}
use Rattle.imp_check.specs.Programs.{block_count, program_count, nesting, deepest, size_fault, variables_fault, procedure_fault, procedures_fault, last_of, name_of, takes_nothing, chains_fault, ending_fault, check_fault, longest}
use Rattle.imp_check.specs.declared.fault.Fault.{Fault}
use Rattle.imp_check.specs.declared.fault.Fault.TheVariants.{Procedures, Statements as TooManyStatements, Nesting, Redeclared, NoMain, MainHasParameters, Depth, Chains}
use Rattle.imp_check.specs.declared.fault.LocatedFault.{LocatedFault}
use Rattle.edit_entries.specs.Holes.{Hole, plug, in_loop, between, with_body}
use Rattle.edit_entries.proofs.Faults.{edit_fault}
use Rattle.edit_entries.proofs.Heads.{bare, bares, as_many, named_bare, block_fault_bare, one_more}
use Rattle.edit_entries.proofs.Counts.{calls_edited, all_alike, alike_at, count_edited, deep_edited, count_program, deepest_program, deepest_other}
use Rattle.imp_check.proofs.FewLemmas.{unless_none, first_alone, first_none}

same_names : (es ds : List Procedure) (g : List ℕ) → bares es ≡ bares ds → is_named es g ≡ is_named ds g
same_names es ds g h = named_bare es g ∙ ap (λ (os : List Procedure). is_named os g) h ∙ sym (named_bare ds g)

-- Procedures with the same heads around them have the same faults.
block_fault_alike : (es os ds us : List Procedure) (p : Procedure) (i : Bool) (b : Statements) → bares es ≡ bares ds → bares os ≡ bares us →
    block_fault (record { earlier = es; others = os; variables = variables p }) i b ≡ block_fault (record { earlier = ds; others = us; variables = variables p }) i b
block_fault_alike es os ds us p i b h k =
    block_fault_bare es os (variables p) i b
    ∙ ap (λ (x : List Procedure). block_fault (record { earlier = x; others = bares os; variables = variables p }) i b) h
    ∙ ap (λ (x : List Procedure). block_fault (record { earlier = bares ds; others = x; variables = variables p }) i b) k
    ∙ sym (block_fault_bare ds us (variables p) i b)

procedure_fault_alike : (es os ds us : List Procedure) (p : Procedure) → bares es ≡ bares ds → bares os ≡ bares us → procedure_fault es os p ≡ procedure_fault ds us p
procedure_fault_alike es os ds us p h k =
    ap (λ t. first (at 0 (unless (not t) Redeclared)) (first (at 0 (variables_fault [] (variables p))) (block_fault (record { earlier = es; others = os; variables = variables p }) false p.body))) (same_names es ds p.name h)
    ∙ ap (λ o. first (at 0 (unless (not (is_named ds p.name)) Redeclared)) (first (at 0 (variables_fault [] (variables p))) o)) (block_fault_alike es os ds us p false p.body h k)

procedures_fault_alike : (es ds qs : List Procedure) → bares es ≡ bares ds → procedures_fault es qs ≡ procedures_fault ds qs
procedures_fault_alike es ds [] h = refl
procedures_fault_alike es ds (q ∷ qs) h =
    ap (λ o. first (in_procedure q.name o) (procedures_fault (es ++ q ∷ []) qs)) (procedure_fault_alike es (q ∷ qs) ds (q ∷ qs) q h refl)
    ∙ ap (λ o. first (in_procedure q.name (procedure_fault ds (q ∷ qs) q)) o) (procedures_fault_alike (es ++ q ∷ []) (ds ++ q ∷ []) qs (one_more es ds q h))

-- Where the spots are the first fault of some procedure, none of them is there.
in_none : (x : List ℕ) (es os : List Procedure) (p : Procedure) → in_procedure x (procedure_fault es os p) ≡ None → procedure_fault es os p ≡ None
in_none x es os p = go (procedure_fault es os p)
  where
    go : (o : _) → in_procedure x o ≡ None → o ≡ None
    go None h = refl
    go (Some s) h = cc

-- The last of procedures with these heads.
abbrev head : Option Procedure → Option Procedure
head None = None
head (Some q) = Some (bare q)

get_head : (ps : List Procedure) (i : ℕ) → slice_get (bares ps) i ≡ head (slice_get ps i)
get_head [] i = refl
get_head (p ∷ ps) zero = refl
get_head (p ∷ ps) (suc i) = get_head ps i

last_head : (os us : List Procedure) → bares os ≡ bares us → head (last_of os) ≡ head (last_of us)
last_head os us h =
    let n : length os ≡ length us = sym (as_many os) ∙ ap length h ∙ as_many us in
    sym (get_head os (length os - 1)) ∙ ap (λ (xs : List Procedure). slice_get xs (length os - 1)) h ∙ ap (λ k. slice_get (bares us) (k - 1)) n ∙ get_head us (length us - 1)

name_head : (o u : Option Procedure) → head o ≡ head u → name_of o ≡ name_of u
name_head o u h = name_is o ∙ ap name_of h ∙ sym (name_is u)
  where
    name_is : (o : Option Procedure) → name_of o ≡ name_of (head o)
    name_is None = refl
    name_is (Some q) = refl

takes_head : (o u : Option Procedure) → head o ≡ head u → takes_nothing o ≡ takes_nothing u
takes_head o u h = takes_is o ∙ ap takes_nothing h ∙ sym (takes_is u)
  where
    takes_is : (o : Option Procedure) → takes_nothing o ≡ takes_nothing (head o)
    takes_is None = refl
    takes_is (Some q) = refl

in_at_none : (x : List ℕ) (o : Option Fault) → in_procedure x (at 0 o) ≡ None → o ≡ None
in_at_none x None h = refl
in_at_none x (Some f) h = cc

tests_alike : (a b k : ℕ) → (a < k → b < k) → (b < k → a < k) → nat_lt a k ≡ nat_lt b k
tests_alike a b k f g = go (nat_lt a k) (nat_lt b k) refl refl
  where
    go : (s t : Bool) → nat_lt a k ≡ s → nat_lt b k ≡ t → s ≡ t
    go true true p q = refl
    go false false p q = refl
    go true false p q = let h = f (less_of a k p) in absurd (grind (arith, nat_tests))
    go false true p q = let h = g (less_of b k q) in absurd (grind (arith, nat_tests))

module _ (p : Procedure) (hs : List Hole) (before olds news behind : Statements) where
  abbrev pub old_body : Statements
  old_body = plug hs (between before behind olds)

  abbrev pub new_body : Statements
  new_body = plug hs (between before behind news)

  abbrev pub old_one : Procedure
  old_one = with_body p old_body

  abbrev pub new_one : Procedure
  new_one = with_body p new_body

  -- what the statements that come may name
  abbrev pub scope_at : (es qs : List Procedure) → Scope
  scope_at es qs = record { earlier = es; others = old_one ∷ qs; variables = variables p }

  -- the first fault of the statements that come
  abbrev pub news_fault : (es qs : List Procedure) → Option LocatedFault
  news_fault es qs = in_procedure p.name (block_fault (scope_at es qs) (in_loop false hs) news)

  own_fault : (es ds qs : List Procedure) → bares es ≡ bares ds → procedure_fault es (old_one ∷ qs) old_one ≡ None →
      procedure_fault ds (new_one ∷ qs) new_one ≡ block_fault (scope_at es qs) (in_loop false hs) news
  own_fault es ds qs h z =
      let a = first_none (at 0 (unless (not (is_named es p.name)) Redeclared)) _ z in
      let b = first_none (at 0 (variables_fault [] (variables p))) _ a.1 in
      ap (λ t. first (at 0 (unless (not t) Redeclared)) (first (at 0 (variables_fault [] (variables p))) (block_fault (record { earlier = ds; others = new_one ∷ qs; variables = variables p }) false new_body))) (sym (same_names es ds p.name h))
      ∙ ap (λ o. first o (first (at 0 (variables_fault [] (variables p))) (block_fault (record { earlier = ds; others = new_one ∷ qs; variables = variables p }) false new_body))) a.0
      ∙ ap (λ o. first o (block_fault (record { earlier = ds; others = new_one ∷ qs; variables = variables p }) false new_body)) b.0
      ∙ block_fault_alike ds (new_one ∷ qs) es (old_one ∷ qs) p false new_body (sym h) refl
      ∙ edit_fault (scope_at es qs) false hs before olds news behind b.1

  pub bares_at : (ps qs : List Procedure) → bares (ps ++ old_one ∷ qs) ≡ bares (ps ++ new_one ∷ qs)
  bares_at [] qs = refl
  bares_at (x ∷ ps) qs = ap (λ (os : List Procedure). bare x ∷ os) (bares_at ps qs)

  along : (es ds ps qs : List Procedure) → bares es ≡ bares ds → procedures_fault es (ps ++ old_one ∷ qs) ≡ None →
      procedures_fault ds (ps ++ new_one ∷ qs) ≡ news_fault (es ++ ps) qs
  along es ds [] qs h z =
      let a = first_none (in_procedure p.name (procedure_fault es (old_one ∷ qs) old_one)) (procedures_fault (es ++ old_one ∷ []) qs) z in
      let k : bares (ds ++ new_one ∷ []) ≡ bares (es ++ old_one ∷ []) = sym (one_more es ds old_one h ∙ bares_at ds []) in
      ap (λ o. first (in_procedure p.name o) (procedures_fault (ds ++ new_one ∷ []) qs)) (own_fault es ds qs h (in_none p.name es (old_one ∷ qs) old_one a.0))
      ∙ ap (first (news_fault es qs)) (procedures_fault_alike (ds ++ new_one ∷ []) (es ++ old_one ∷ []) qs k ∙ a.1)
      ∙ first_alone (news_fault es qs)
      ∙ ap (λ (os : List Procedure). news_fault os qs) (sym (append-nil es))
  along es ds (x ∷ ps) qs h z =
      let a = first_none (in_procedure x.name (procedure_fault es (x ∷ (ps ++ old_one ∷ qs)) x)) (procedures_fault (es ++ x ∷ []) (ps ++ old_one ∷ qs)) z in
      let k : bares (x ∷ (ps ++ new_one ∷ qs)) ≡ bares (x ∷ (ps ++ old_one ∷ qs)) = sym (bares_at (x ∷ ps) qs) in
      ap (λ o. first (in_procedure x.name o) (procedures_fault (ds ++ x ∷ []) (ps ++ new_one ∷ qs))) (procedure_fault_alike ds (x ∷ (ps ++ new_one ∷ qs)) es (x ∷ (ps ++ old_one ∷ qs)) x (sym h) k)
      ∙ ap (λ o. first o (procedures_fault (ds ++ x ∷ []) (ps ++ new_one ∷ qs))) a.0
      ∙ along (es ++ x ∷ []) (ds ++ x ∷ []) ps qs (one_more es ds x h) a.1
      ∙ ap (λ (os : List Procedure). news_fault os qs) (append_assoc es (x ∷ []) ps)

  abbrev pub old_program : (ps qs : List Procedure) → List Procedure
  old_program ps qs = ps ++ old_one ∷ qs

  abbrev pub new_program : (ps qs : List Procedure) → List Procedure
  new_program ps qs = ps ++ new_one ∷ qs

  -- whether the statements that come are too many, or too deep
  abbrev pub news_size : (ps qs : List Procedure) → Option Fault
  news_size ps qs = first (unless (nat_lt ((program_count (old_program ps qs) - block_count olds) + block_count news) 10001) TooManyStatements) (unless (nat_lt (length hs + nesting news) 33) Nesting)

  module _ (ps qs : List Procedure) where
    abbrev O : List Procedure
    O = old_program ps qs

    abbrev N : List Procedure
    N = new_program ps qs

    abbrev nm : List ℕ
    nm = name_of (last_of O)

    same_last : head (last_of N) ≡ head (last_of O)
    same_last = last_head N O (sym (bares_at ps qs))

    same_length : length N ≡ length O
    same_length = sym (as_many N) ∙ ap length (sym (bares_at ps qs)) ∙ as_many O

    pub news_count : program_count N ≡ (program_count O - block_count olds) + block_count news
    news_count =
        omega (
          arith,
          count_program ps old_one new_one qs,
          count_edited hs before olds news behind,
          count_edited hs before olds Ends behind,
          count_program ps old_one (with_body p Ends) qs,
        )

    news_depth : deepest O < 33 → nat_lt (deepest N) 33 ≡ nat_lt (length hs + nesting news) 33
    news_depth h =
        let d = deep_edited hs before olds news behind in
        let u = deepest_program ps new_one qs in
        let v = deepest_program ps old_one qs in
        let w = deepest_other ps old_one new_one qs in
        tests_alike (deepest N) (length hs + nesting news) 33 (λ l. omega (arith, d.least, u)) (λ l. omega (arith, d.most, v, w))

    size : size_fault O ≡ None → size_fault N ≡ news_size ps qs
    size z =
        let a = first_none (unless (nat_lt (length O) 65) Procedures) _ z in
        let b = first_none (unless (nat_lt (program_count O) 10001) TooManyStatements) (unless (nat_lt (deepest O) 33) Nesting) a.1 in
        let deep : deepest O < 33 = less_of (deepest O) 33 (unless_none (nat_lt (deepest O) 33) Nesting b.1) in
        ap (λ n. first (unless (nat_lt n 65) Procedures) (first (unless (nat_lt (program_count N) 10001) TooManyStatements) (unless (nat_lt (deepest N) 33) Nesting))) same_length
        ∙ ap (λ o. first o (first (unless (nat_lt (program_count N) 10001) TooManyStatements) (unless (nat_lt (deepest N) 33) Nesting))) a.0
        ∙ ap (λ n. first (unless (nat_lt n 10001) TooManyStatements) (unless (nat_lt (deepest N) 33) Nesting)) news_count
        ∙ ap (λ t. first (unless (nat_lt ((program_count O - block_count olds) + block_count news) 10001) TooManyStatements) (unless t Nesting)) (news_depth deep)

    same_chains : ((g : List ℕ) → calls g olds ≡ calls g news) → all_chains N ≡ all_chains O
    same_chains c = sym (all_alike O N (alike_at ps old_one new_one qs refl (λ g. calls_edited g hs before olds news behind (c g))))

    ending : ((g : List ℕ) → calls g olds ≡ calls g news) → ending_fault N ≡ ending_fault O
    ending c =
        ap (λ x. first (unless (bytes_eq x (codes "main")) NoMain) (first (unless (takes_nothing (last_of N)) MainHasParameters) (chains_fault N))) (name_head (last_of N) (last_of O) same_last)
        ∙ ap (λ t. first (unless (bytes_eq nm (codes "main")) NoMain) (first (unless t MainHasParameters) (chains_fault N))) (takes_head (last_of N) (last_of O) same_last)
        ∙ ap (λ cs. first (unless (bytes_eq nm (codes "main")) NoMain) (first (unless (takes_nothing (last_of O)) MainHasParameters) (first (unless (nat_lt (longest cs) 9) Depth) (unless (nat_lt (length cs) 4097) Chains)))) (same_chains c)

    -- The first fault of the new program is found in the statements that come, where calls stay.
    pub program_fault : check_fault O ≡ None → ((g : List ℕ) → calls g olds ≡ calls g news) → check_fault N ≡ first (in_procedure nm (at 0 (news_size ps qs))) (news_fault ps qs)
    program_fault z c =
        let a = first_none (in_procedure nm (at 0 (size_fault O))) (first (procedures_fault [] O) (in_procedure nm (at 0 (ending_fault O)))) z in
        let b = first_none (procedures_fault [] O) (in_procedure nm (at 0 (ending_fault O))) a.1 in
        ap (λ x. first (in_procedure x (at 0 (size_fault N))) (first (procedures_fault [] N) (in_procedure x (at 0 (ending_fault N))))) (name_head (last_of N) (last_of O) same_last)
        ∙ ap (λ o. first (in_procedure nm (at 0 o)) (first (procedures_fault [] N) (in_procedure nm (at 0 (ending_fault N))))) (size (in_at_none nm (size_fault O) a.0))
        ∙ ap (λ o. first (in_procedure nm (at 0 (news_size ps qs))) (first o (in_procedure nm (at 0 (ending_fault N))))) (along [] [] ps qs refl b.0)
        ∙ ap (λ o. first (in_procedure nm (at 0 (news_size ps qs))) (first (news_fault ps qs) (in_procedure nm (at 0 o)))) (ending c ∙ in_at_none nm (ending_fault O) b.1)
        ∙ ap (first (in_procedure nm (at 0 (news_size ps qs)))) (first_alone (news_fault ps qs))
