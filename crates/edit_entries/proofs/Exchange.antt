-- A part of a block is exchanged for one no deeper and with the same calls.
use Rattle.std.proofs.Common.{◌≡◌, ℕ, ◌+◌, ◌-◌, ◌<◌, ◌≤◌, not, nat_lt, List, [], ◌∷◌, ◌++◌, length, Option, None, false, sym, ap, ◌∙◌, arith, append-nil, append_assoc}
use Rattle.std.proofs.lemmas.Bool.{lt-ltb}
use Rattle.imp_syntax.specs.Plain.{Statements, Ends, Procedure}
use Rattle.imp_check.specs.Faults.{first, unless, at, in_procedure}
use Rattle.imp_check.specs.Names.{is_named, variables}
use Rattle.imp_check.specs.Statements.{block_fault}
use Rattle.imp_check.specs.Chains.{calls}
use Rattle.imp_check.specs.Programs.{block_count, program_count, nesting, deepest, size_fault, variables_fault, procedure_fault, procedures_fault, last_of, name_of, ending_fault, check_fault}
use Rattle.imp_check.specs.declared.fault.Fault.TheVariants.{Procedures, Statements as TooManyStatements, Nesting, Redeclared}
use Rattle.imp_check.specs.declared.fault.LocatedFault.{LocatedFault}
use Rattle.imp_check.proofs.FewLemmas.{unless_lt, at_none, in_none, first_alone, first_none}
use Rattle.imp_check.specs.Entries.{context_at}
use Rattle.imp_check.specs.declared.entry.Context.{Context}
use Rattle.edit_entries.specs.Holes.{append, Hole, Then, Else, Body, in_loop, between}
use Rattle.edit_entries.proofs.Faults.{fault_append, plug_fault}
use Rattle.edit_entries.proofs.Counts.{count_within, deep_edited, deepest_program}
use Rattle.edit_entries.proofs.Filled.{context_in}
use Rattle.edit_entries.proofs.Touched.{context_of}
use Rattle.edit_entries.proofs.Programs.{old_one, old_program, new_program, scope_at, news_fault, program_fault}

-- What has no fault in a program without faults: the variables of the procedure, and the part.
pub record Faultless (p : Procedure) (hs : List Hole) (before olds behind : Statements) (ps qs : List Procedure) : Type 0 where
  pub vars : variables_fault [] (variables p) ≡ None
  pub part : block_fault (scope_at p hs before olds olds behind ps qs) (in_loop false hs) olds ≡ None

own_none : (es ps : List Procedure) (p : Procedure) (qs : List Procedure) → procedures_fault es (ps ++ p ∷ qs) ≡ None → procedure_fault (es ++ ps) (p ∷ qs) p ≡ None
own_none es [] p qs z =
    let a = first_none (in_procedure p.name (procedure_fault es (p ∷ qs) p)) (procedures_fault (es ++ p ∷ []) qs) z in
    ap (λ (os : List Procedure). procedure_fault os (p ∷ qs) p) (append-nil es) ∙ in_none p.name (procedure_fault es (p ∷ qs) p) a.0
own_none es (x ∷ ps) p qs z =
    let a = first_none (in_procedure x.name (procedure_fault es (x ∷ (ps ++ p ∷ qs)) x)) (procedures_fault (es ++ x ∷ []) (ps ++ p ∷ qs)) z in
    ap (λ (os : List Procedure). procedure_fault os (p ∷ qs) p) (sym (append_assoc es (x ∷ []) ps)) ∙ own_none (es ++ x ∷ []) ps p qs a.1

module _ (p : Procedure) (hs : List Hole) (before olds news behind : Statements) (ps qs : List Procedure) where
  abbrev O : List Procedure
  O = old_program p hs before olds news behind ps qs

  module _ (z : check_fault O ≡ None) where
    abbrev rest : Option LocatedFault
    rest = first (procedures_fault [] O) (in_procedure (name_of (last_of O)) (at 0 (ending_fault O)))

    sizes : size_fault O ≡ None
    sizes = at_none 0 (size_fault O) (in_none (name_of (last_of O)) (at 0 (size_fault O)) (first_none (in_procedure (name_of (last_of O)) (at 0 (size_fault O))) rest z).0)

    procedures : procedures_fault [] O ≡ None
    procedures = (first_none (procedures_fault [] O) (in_procedure (name_of (last_of O)) (at 0 (ending_fault O))) (first_none (in_procedure (name_of (last_of O)) (at 0 (size_fault O))) rest z).1).0

    pub faultless : Faultless p hs before olds behind ps qs
    faultless =
        let one = old_one p hs before olds news behind in
        let sc = scope_at p hs before olds olds behind ps qs in
        let block = block_fault sc false one.body in
        let a = first_none (at 0 (unless (not (is_named ps p.name)) Redeclared)) (first (at 0 (variables_fault [] (variables p))) block) (own_none [] ps one qs procedures) in
        let b = first_none (at 0 (variables_fault [] (variables p))) block a.1 in
        let o = plug_fault sc false hs (between before behind olds) (between before behind olds) b.1 in
        let j = in_loop false hs in
        let c = first_none (block_fault sc j before) (block_fault sc j (append olds behind)) (sym (fault_append sc j before (append olds behind)) ∙ o.none) in
        let d = first_none (block_fault sc j olds) (block_fault sc j behind) (sym (fault_append sc j olds behind) ∙ c.1) in
        record { vars = at_none 0 (variables_fault [] (variables p)) b.0; part = d.0 }

    deep : deepest O < 33
    deep =
        let a = first_none (unless (nat_lt (length O) 65) Procedures) (first (unless (nat_lt (program_count O) 10001) TooManyStatements) (unless (nat_lt (deepest O) 33) Nesting)) sizes in
        unless_lt (deepest O) 33 Nesting (first_none (unless (nat_lt (program_count O) 10001) TooManyStatements) (unless (nat_lt (deepest O) 33) Nesting) a.1).1

    -- how many statements the new program has
    abbrev pub more : ℕ
    more = (program_count O - block_count olds) + block_count news

    -- Where it is no deeper, the new program has too many statements, or its first fault is that of the part alone.
    pub spliced_fault : nesting news ≤ nesting olds → ((g : List ℕ) → calls g olds ≡ calls g news) →
        check_fault (new_program p hs before olds news behind ps qs) ≡ first (in_procedure (name_of (last_of O)) (at 0 (unless (nat_lt more 10001) TooManyStatements))) (news_fault p hs before olds news behind ps qs)
    spliced_fault d c =
        let u = deepest_program ps (old_one p hs before olds news behind) qs in
        let v = (deep_edited hs before news olds behind).least in
        program_fault p hs before olds news behind ps qs z c
        ∙ ap (λ b. first (in_procedure (name_of (last_of O)) (at 0 (first (unless (nat_lt more 10001) TooManyStatements) (unless b Nesting)))) (news_fault p hs before olds news behind ps qs)) (lt-ltb (length hs + nesting news) 33 (omega (arith, deep, u, v, d)))
        ∙ ap (λ o. first (in_procedure (name_of (last_of O)) (at 0 o)) (news_fault p hs before olds news behind ps qs)) (first_alone (unless (nat_lt more 10001) TooManyStatements))

    -- The first fault of the new program is that of the part alone.
    pub exchanged_fault : block_count olds ≡ block_count news → nesting news ≤ nesting olds → ((g : List ℕ) → calls g olds ≡ calls g news) → check_fault (new_program p hs before olds news behind ps qs) ≡ news_fault p hs before olds news behind ps qs
    exchanged_fault n d c =
        let a = first_none (unless (nat_lt (length O) 65) Procedures) (first (unless (nat_lt (program_count O) 10001) TooManyStatements) (unless (nat_lt (deepest O) 33) Nesting)) sizes in
        let b = first_none (unless (nat_lt (program_count O) 10001) TooManyStatements) (unless (nat_lt (deepest O) 33) Nesting) a.1 in
        let many : program_count O < 10001 = unless_lt (program_count O) 10001 TooManyStatements b.0 in
        spliced_fault d c
        ∙ ap (λ t. first (in_procedure (name_of (last_of O)) (at 0 (unless t TooManyStatements))) (news_fault p hs before olds news behind ps qs)) (lt-ltb more 10001 (omega (arith, many, n, counted)))
      where
        counted : block_count olds ≤ program_count O
        counted = within ps
          where
            within : (os : List Procedure) → block_count olds ≤ program_count (os ++ old_one p hs before olds news behind ∷ qs)
            within [] = omega (arith, count_within hs before olds behind)
            within (x ∷ os) = omega (arith, within os)

-- how deep a block in holes is
pub context_depth : (k : Context) (hs : List Hole) → (context_of k hs).depth ≡ k.depth + length hs
context_depth k [] = omega arith
context_depth k (Then b n c e r ∷ hs) = omega (arith, context_depth (context_in k (Then b n c e r)) hs)
context_depth k (Else b n c t r ∷ hs) = omega (arith, context_depth (context_in k (Else b n c t r)) hs)
context_depth k (Body b n c r ∷ hs) = omega (arith, context_depth (context_in k (Body b n c r)) hs)

-- A place of a program without faults is not deep.
pub shallow_place : (p : Procedure) (hs : List Hole) (before part behind : Statements) (ps qs : List Procedure) → check_fault (old_program p hs before part Ends behind ps qs) ≡ None → (context_of (context_at (length ps)) hs).depth < 33
shallow_place p hs before part behind ps qs z =
    omega (
      arith,
      deep p hs before part Ends behind ps qs z,
      deepest_program ps (old_one p hs before part Ends behind) qs,
      (deep_edited hs before Ends part behind).least,
      context_depth (context_at (length ps)) hs,
    )
