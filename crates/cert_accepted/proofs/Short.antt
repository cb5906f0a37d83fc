-- A program without faults has short chains.
use Rattle.std.specs.Prelude.{◌≡◌, ◌<◌, ◌≤◌, ◌+◌, ◌⊎◌, ℕ, zero, suc, nat_lt, List, [], ◌∷◌, ◌++◌, length, map, reverse, slice_get, Some, None, Bool, true, false, cond, codes, if◌then◌else◌}
use Rattle.std.specs.Str.{bytes_eq}
use Rattle.std.proofs.Common.{refl, sym, ap, ◌∙◌, subst, arith, inl, inr, append_assoc, append-nil}
use Rattle.std.proofs.lemmas.List.{reverse-append, length-reverse, length-append}
use Rattle.std.proofs.lemmas.Option.{slice_get_within, same_Some}
use Rattle.std.proofs.lemmas.Slice.Eq.{bytes_eq-Decides}
use Rattle.base_values.proofs.Cases.{by_test}
use Rattle.base_values.proofs.Members.{Member, here, there, in_left, in_right, either, in_map, member_of}
use Rattle.imp_syntax.specs.Plain as tree
use Rattle.imp_syntax.specs.Plain.{Statement, Statements, Starts, Ends, Procedure}
use Rattle.imp_slots.specs.Plain.{Layout, Code, Stop, Simple, If, While, Call, Break, Routine}
use Rattle.imp_slots.specs.Fits.{FitsCode, FitInTurn, IsChecked}
use Rattle.imp_chains.specs.Chains.{calls_to, through, chains_within, chains}
use Rattle.imp_check.specs.Names.{place_named}
use Rattle.imp_check.specs.Chains.{calls_in, calls, chains_to, chains_through, all_chains}
use Rattle.imp_check.specs.Chains as told
use Rattle.imp_check.specs.Faults.{unless, first, at, in_procedure}
use Rattle.imp_check.specs.declared.fault.Fault.TheVariants.{NoMain, MainHasParameters, Depth, Chains}
use Rattle.imp_check.specs.Programs.{longest, last_of, name_of, takes_nothing, size_fault, procedures_fault, chains_fault, ending_fault, check_fault}
use Rattle.imp_check.specs.Slots.{Resolver, layout_in, statement_in, code_in, routine_of, routines_from, routines_of}
use Rattle.imp_check.proofs.FewLemmas.{first_none, unless_lt, at_none, in_none}
use Rattle.cert_accepted.specs.Accepted.{CheckedHaveLines}
use Rattle.cert_accepted.proofs.Chains.{goes}
use Rattle.imp_chains.proofs.Found.{callee_before}
use Rattle.call_contexts.proofs.Few.{as_many}

-- ---- calls by place are calls by name

-- the procedure at the place of a name has the name
named_there : (ps : List Procedure) (g : List ℕ) (q : Procedure) → slice_get ps (place_named ps g) ≡ Some q → q.name ≡ g
named_there [] g q e = cc
named_there (p ∷ ps) g q e = by (bytes_eq p.name g) refl e (named_there ps g q)
  where
    by : (c : Bool) → bytes_eq p.name g ≡ c → slice_get (p ∷ ps) (cond c 0 (suc (place_named ps g))) ≡ Some q → (slice_get ps (place_named ps g) ≡ Some q → q.name ≡ g) → q.name ≡ g
    by true b k go = ap (λ (p : Procedure). p.name) (sym (same_Some p q k)) ∙ (bytes_eq-Decides p.name g).0 b
    by false b k go = go k

module _ (f : Resolver) (p : ℕ) (q : Procedure) (at_p : slice_get f.earlier p ≡ Some q) where
  abbrev Called : ℕ → List ℕ → Code → Type 0
  Called n ns r = Member n ns ⊎ Member n (calls_to p r)

  mutual
    call_by_name : (s : Statement) (r : Code) (n : ℕ) → Member n (calls_to p (statement_in f s r)) → Called n (calls_in q.name s) r
    call_by_name (tree.Simple m a) r n k = inr k
    call_by_name (tree.Break m) r n k = inr k
    call_by_name (tree.Call m x g es) r n k =
        (by_test p (place_named f.earlier g) (λ c. Member n (if c then m ∷ calls_to p r else calls_to p r) → Called n (cond (bytes_eq g q.name) (m ∷ []) []) r)
        (λ e k.
        let same : q.name ≡ g = named_there f.earlier g q (ap (slice_get f.earlier) (sym e) ∙ at_p) in
        let test : bytes_eq g q.name ≡ true = (bytes_eq-Decides g q.name).1 (sym same) in
        elim (either n (m ∷ []) (calls_to p r) k) [ inl a ↦ inl (subst (λ c. Member n (cond c (m ∷ []) [])) (sym test) a) | inr b ↦ inr b ])
        (λ e k. inr k)) k
    call_by_name (tree.If m c t e) r n k = elim (either n (calls_to p (code_in f t)) (calls_to p (code_in f e) ++ calls_to p r) k) [
      | inl a ↦ inl (in_left (calls q.name e) (calls_by_name t n a))
      | inr b ↦ elim (either n (calls_to p (code_in f e)) (calls_to p r) b) [ inl a ↦ inl (in_right (calls q.name t) (calls_by_name e n a)) | inr d ↦ inr d ]
    ]
    call_by_name (tree.While m c b) r n k = elim (either n (calls_to p (code_in f b)) (calls_to p r) k) [ inl a ↦ inl (calls_by_name b n a) | inr d ↦ inr d ]

    calls_by_name : (b : Statements) (n : ℕ) → Member n (calls_to p (code_in f b)) → Member n (calls q.name b)
    calls_by_name Ends n k = elim k [ ]
    calls_by_name (Starts s ss) n k = elim (call_by_name s (code_in f ss) n k) [ inl a ↦ in_left (calls q.name ss) a | inr b ↦ in_right (calls_in q.name s) (calls_by_name ss n b) ]

-- ---- a procedure calls earlier ones

calls_before : (before : List Routine) (l : Layout) (p n : ℕ) (c : Code) → FitsCode before l c → Member n (calls_to p c) → p < length before
calls_before before l p n Stop f k = elim k [ ]
calls_before before l p n (Simple m e r) f k = calls_before before l p n r f.1 k
calls_before before l p n (If m g t e r) f k = elim (either n (calls_to p t) (calls_to p e ++ calls_to p r) k) [
  | inl a ↦ calls_before before l p n t f.1 a
  | inr b ↦ elim (either n (calls_to p e) (calls_to p r) b) [ inl a ↦ calls_before before l p n e f.2 a | inr d ↦ calls_before before l p n r f.3 d ]
]
calls_before before l p n (While m g b r) f k = elim (either n (calls_to p b) (calls_to p r) k) [ inl a ↦ calls_before before l p n b f.1 a | inr d ↦ calls_before before l p n r f.2 d ]
calls_before before l p n (Call m i q r) f k =
    (by_test p q (λ c. Member n (if c then m ∷ calls_to p r else calls_to p r) → p < length before)
    (λ e k. subst (λ p. p < length before) (sym e) (callee_before before l i q (slice_get before q) refl f.0))
    (λ e k. calls_before before l p n r f.1 k)) k
calls_before before l p n (Break m r) f k = calls_before before l p n r f k

-- ---- the procedure of a routine

-- The routine at a place is that of a procedure, with those before it.
record Comes (earlier ps : List Procedure) (j : ℕ) (r : Routine) : Type 0 where
  front : List Procedure
  own : Procedure
  rest : List Procedure
  are : ps ≡ front ++ own ∷ rest
  place : length front ≡ j
  is : r ≡ routine_of (earlier ++ front) own

comes : (earlier ps : List Procedure) (j : ℕ) (r : Routine) → slice_get (routines_from earlier ps) j ≡ Some r → Comes earlier ps j r
comes earlier [] j r e = cc
comes earlier (p ∷ ps) zero r e = record { front = []; own = p; rest = ps; are = refl; place = refl; is = sym (same_Some (routine_of earlier p) r e) ∙ ap (λ es. routine_of es p) (sym (append-nil earlier)) }
comes earlier (p ∷ ps) (suc j) r e =
    let c = comes (earlier ++ p ∷ []) ps j r e in
    record { front = p ∷ c.front; own = c.own; rest = c.rest; are = ap (λ ps. p ∷ ps) c.are; place = ap suc c.place; is = c.is ∙ ap (λ es. routine_of es c.own) (append_assoc earlier (p ∷ []) c.front) }

-- what fits in turn fits those before it
fits_there : (before rs : List Routine) (j : ℕ) (r : Routine) → FitInTurn before rs → slice_get rs j ≡ Some r → (front : List Routine) × (length front ≡ length before + j) × FitsCode front r.layout r.code
fits_there before [] j r f e = cc
fits_there before (x ∷ rs) zero r f e = (before, omega arith, subst (λ (r : Routine). FitsCode before r.layout r.code) (same_Some x r e) f.0.code)
fits_there before (x ∷ rs) (suc j) r f e =
    let k = fits_there (before ++ (x ∷ [])) rs j r f.1 e in
    (k.0, omega (arith, k.1, length-append before (x ∷ [])), k.2)

-- ---- chains by place are chains by name

told_extended : (w : List ℕ) (s : ℕ) (ws : List (List ℕ)) (ss : List ℕ) → Member w ws → Member s ss → Member (w ++ s ∷ []) (told.extended ws ss)
told_extended w s ws [] m k = elim k [ ]
told_extended w s ws (x ∷ ss) m here = in_left (told.extended ws ss) (in_map (λ w. w ++ x ∷ []) w ws m)
told_extended w s ws (x ∷ ss) m (there k) = in_right (map (λ w. w ++ x ∷ []) ws) (told_extended w s ws ss m k)

told_through : (f w : List ℕ) (mid : List Procedure) (q : Procedure) (later : List Procedure) → Member w (told.extended (chains_to q.name later) (calls f q.body)) → Member w (chains_through f (mid ++ q ∷ later))
told_through f w [] q later m = in_left (chains_through f later) m
told_through f w (x ∷ mid) q later m = in_right (told.extended (chains_to x.name (mid ++ q ∷ later)) (calls f x.body)) (told_through f w mid q later m)

told_to : (f w : List ℕ) (mid : List Procedure) (q : Procedure) (later : List Procedure) → Member w (told.extended (chains_to q.name later) (calls f q.body)) → Member w (chains_to f (mid ++ q ∷ later))
told_to f w [] q later m = in_left (chains_through f later) m
told_to f w (x ∷ mid) q later m = in_right (told.extended (chains_to x.name (mid ++ q ∷ later)) (calls f x.body)) (told_through f w mid q later m)

-- a procedure that stands further after than another
parted : (pre : List Procedure) (p : Procedure) (later front : List Procedure) (q : Procedure) (rest : List Procedure) → pre ++ p ∷ later ≡ front ++ q ∷ rest → length pre < length front → (mid : List Procedure) × (later ≡ mid ++ q ∷ rest)
parted pre p later [] q rest e h = absurd (omega arith)
parted [] p later (x ∷ front) q rest e h = (front, cc)
parted (y ∷ pre) p later (x ∷ front) q rest e h = let i : pre ++ p ∷ later ≡ front ++ q ∷ rest = cc in parted pre p later front q rest i (omega arith)

in_first : (pre : List Procedure) (p : Procedure) (later front : List Procedure) (q : Procedure) (rest : List Procedure) → pre ++ p ∷ later ≡ front ++ q ∷ rest → length pre < length front → slice_get front (length pre) ≡ Some p
in_first pre p later [] q rest e h = absurd (omega arith)
in_first [] p later (x ∷ front) q rest e h = let i : x ≡ p = cc in ap Some i
in_first (y ∷ pre) p later (x ∷ front) q rest e h = let i : pre ++ p ∷ later ≡ front ++ q ∷ rest = cc in in_first pre p later front q rest i (omega arith)

module _ (ps : List Procedure) (checked : IsChecked (routines_of ps)) where
  abbrev Named : ℕ → Type 0
  Named most = (pre : List Procedure) (p : Procedure) (later : List Procedure) → ps ≡ pre ++ p ∷ later → (z : List ℕ) → Member z (chains_within most (routines_of ps) (length pre)) → Member (reverse z) (chains_to p.name later)

  -- a chain after a call of another procedure
  behind_call : (most : ℕ) → Named most → (pre : List Procedure) (p : Procedure) (later : List Procedure) → ps ≡ pre ++ p ∷ later → (front : List Procedure) (own : Procedure) (rest : List Procedure) → ps ≡ front ++ own ∷ rest → length pre < length front →
      (n : ℕ) (y : List ℕ) → Member n (calls_to (length pre) (routine_of front own).code) → Member y (chains_within most (routines_of ps) (length front)) → Member (reverse (n ∷ y)) (chains_to p.name later)
  behind_call most inner pre p later are front own rest is lower n y call chain =
      let d = parted pre p later front own rest (sym are ∙ is) lower in
      let frame : Resolver = record { layout = layout_in own; earlier = front } in
      let named = calls_by_name frame (length pre) p (in_first pre p later front own rest (sym are ∙ is) lower) own.body n call in
      let extended = told_extended (reverse y) n (chains_to own.name rest) (calls p.name own.body) (inner front own rest is y chain) named in
      subst (λ later. Member (reverse (n ∷ y)) (chains_to p.name later)) (sym d.1)
      (subst (λ w. Member w (chains_to p.name (d.0 ++ own ∷ rest))) (sym (reverse-append (n ∷ []) y)) (told_to p.name (reverse y ++ n ∷ []) d.0 own rest extended))

  called_so : (most : ℕ) → Named most → (pre : List Procedure) (p : Procedure) (later : List Procedure) → ps ≡ pre ++ p ∷ later → (z : List ℕ) → Member z (through (chains_within most (routines_of ps)) 0 (routines_of ps) (length pre)) → Member (reverse z) (chains_to p.name later)
  called_so most inner pre p later are z m =
      let x = goes (chains_within most (routines_of ps)) 0 (routines_of ps) (length pre) z m in
      let c = comes [] ps x.place x.routine x.at in
      let t = fits_there [] (routines_of ps) x.place x.routine checked.fit x.at in
      let e : 0 + x.place ≡ length c.front = omega (arith, c.place) in
      subst (λ z. Member (reverse z) (chains_to p.name later)) (sym x.is)
      (behind_call most inner pre p later are c.front c.own c.rest c.are (omega (arith, calls_before t.0 x.routine.layout (length pre) x.last x.routine.code t.2 x.call, t.1, c.place)) x.last x.before
      (subst (λ (r : Routine). Member x.last (calls_to (length pre) r.code)) c.is x.call) (subst (λ k. Member x.before (chains_within most (routines_of ps) k)) e x.chain))

  named_chains : (most : ℕ) → Named most
  named_chains zero pre p later are z m = elim m [ ]
  named_chains (suc most) pre p later are z m =
      (by_test (suc (length pre)) (length (routines_of ps)) (λ c. Member z (if c then [] ∷ [] else through (chains_within most (routines_of ps)) 0 (routines_of ps) (length pre)) → Member (reverse z) (chains_to p.name later))
      (λ e k. last_one later (omega (arith, e, as_many [] ps, ap length are, length-append pre (p ∷ later))) z k)
      (λ e k. called_so most (named_chains most) pre p later are z k)) m
    where
      last_one : (later : List Procedure) → length later ≡ 0 → (z : List ℕ) → Member z ([] ∷ []) → Member (reverse z) (chains_to p.name later)
      last_one [] e z here = here
      last_one [] e z (there m) = elim m [ ]
      last_one (q ∷ later) e z m = absurd (omega (arith, e))

  -- each chain is among all that are told
  in_all : (pre : List Procedure) (p : Procedure) (later : List Procedure) (w : List ℕ) → Member w (chains_to p.name later) → Member w (all_chains (pre ++ p ∷ later))
  in_all [] p later w m = in_left (all_chains later) m
  in_all (x ∷ pre) p later w m = in_right (chains_to x.name (pre ++ p ∷ later)) (in_all pre p later w m)

  no_longer : (w : List ℕ) (ws : List (List ℕ)) → Member w ws → length w ≤ longest ws
  no_longer w [] m = elim m [ ]
  no_longer w (x ∷ ws) here = omega arith
  no_longer w (x ∷ ws) (there m) = omega (arith, no_longer w ws m)

  short_all : check_fault ps ≡ None → longest (all_chains ps) < 9
  short_all faultless =
      let a = first_none (in_procedure (name_of (last_of ps)) (at 0 (size_fault ps))) (first (procedures_fault [] ps) (in_procedure (name_of (last_of ps)) (at 0 (ending_fault ps)))) faultless in
      let b = first_none (procedures_fault [] ps) (in_procedure (name_of (last_of ps)) (at 0 (ending_fault ps))) a.1 in
      let c = at_none 0 (ending_fault ps) (in_none (name_of (last_of ps)) (at 0 (ending_fault ps)) b.1) in
      let d = first_none (unless (bytes_eq (name_of (last_of ps)) (codes "main")) NoMain) (first (unless (takes_nothing (last_of ps)) MainHasParameters) (chains_fault ps)) c in
      let e = first_none (unless (takes_nothing (last_of ps)) MainHasParameters) (chains_fault ps) d.1 in
      let f = first_none (unless (nat_lt (longest (all_chains ps)) 9) Depth) (unless (nat_lt (length (all_chains ps)) 4097) Chains) e.1 in
      unless_lt (longest (all_chains ps)) 9 Depth f.0

  short_at : (p : ℕ) (z : List ℕ) → p < length ps → Member z (chains (routines_of ps) p) → check_fault ps ≡ None → length z ≤ 8
  short_at p z h m faultless =
      let c = split ps p h in
      let named = named_chains (length (routines_of ps)) c.0 c.1 c.2 c.3 z (subst (λ k. Member z (chains (routines_of ps) k)) (sym c.4) m) in
      let among = subst (λ ps. Member (reverse z) (all_chains ps)) (sym c.3) (in_all c.0 c.1 c.2 (reverse z) named) in
      omega (arith, no_longer (reverse z) (all_chains ps) among, short_all faultless, length-reverse z)
    where
      split : (ps : List Procedure) (p : ℕ) → p < length ps → (pre : List Procedure) × (own : Procedure) × (later : List Procedure) × (ps ≡ pre ++ own ∷ later) × (length pre ≡ p)
      split [] p h = absurd (omega arith)
      split (x ∷ ps) zero h = ([], x, ps, refl, refl)
      split (x ∷ ps) (suc p) h = let c = split ps p (omega arith) in (x ∷ c.0, c.1, c.2, ap (λ ps. x ∷ ps) c.3, ap suc c.4)

  -- a place that has a chain is one of a procedure
  chain_place : (most p : ℕ) (z : List ℕ) → Member z (chains_within most (routines_of ps) p) → p < length ps
  chain_place zero p z m = elim m [ ]
  chain_place (suc most) p z m =
      (by_test (suc p) (length (routines_of ps)) (λ c. Member z (if c then [] ∷ [] else through (chains_within most (routines_of ps)) 0 (routines_of ps) p) → p < length ps)
      (λ e k. omega (arith, e, as_many [] ps))
      (λ e k.
      let x = goes (chains_within most (routines_of ps)) 0 (routines_of ps) p z k in
      let t = fits_there [] (routines_of ps) x.place x.routine checked.fit x.at in
      omega (arith, calls_before t.0 x.routine.layout p x.last x.routine.code t.2 x.call, t.1, slice_get_within (routines_of ps) x.place x.routine x.at, as_many [] ps))) m

  short_chains : check_fault ps ≡ None → (p : ℕ) (z : List ℕ) → Member z (chains (routines_of ps) p) → length z ≤ 8
  short_chains faultless p z m = short_at p z (chain_place (length (routines_of ps)) p z m) m faultless

pub checked_have_lines : CheckedHaveLines
checked_have_lines ps faultless checked small = record { small = small; short = λ p z c. short_chains ps checked faultless p z (member_of z (chains (routines_of ps) p) c) }
