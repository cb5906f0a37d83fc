-- The statements that have a check, by what is known of each statement.
use Rattle.std.proofs.Common.{◌≡◌, ℕ, zero, suc, ◌+◌, ◌<◌, ◌≤◌, true, Bor, is_some, Result, Ok, Err, List, [], ◌∷◌, ◌++◌, drop, length, Option, Some, None, refl, sym, ap, ◌∙◌, inl, inr, arith, append_assoc, append-nil}
use Rattle.std.proofs.lemmas.Option.{same_Some}
use Rattle.std.specs.Option.{option_copied}
use Rattle.std.specs.Prelude.{IfOk, IfSome, IsSome}
use Rattle.imp_syntax.specs.Plain.{Statement, Statements, Ends, Starts, Procedure, number_of, program_numbers}
use Rattle.imp_syntax.specs.Plain as tree
use Rattle.imp_slots.specs.ActionViews.{act_of}
use Rattle.imp_slots.specs.Plain.{Act, Code, DoBreak, Does, Effect}
use Rattle.imp_slots.specs.declared.actions.SlotStmt.{SlotStmt}
use Rattle.imp_check.specs.Entries.{block_entries, entries_from, entries_of, entry_at, entry_of, resolver_at, context_at, inside, inside_loop, procedure_entries, statement_entries}
use Rattle.imp_check.specs.Parts.{first_or}
use Rattle.imp_check.specs.Programs.{AreNumbered}
use Rattle.imp_check.specs.Slots.{Resolver, code_in, effect_in, routines_from, routines_of, statement_in}
use Rattle.imp_check.specs.Walks.{numbers_at}
use Rattle.imp_check.specs.declared.entry.Context.{Context}
use Rattle.imp_check.specs.declared.entry.Entry.{Entry}
use Rattle.imp_check.specs.declared.entry.Which.TheVariants as which
use Rattle.imp_check.proofs.RebuildLemmas.{Known, all_numbers, entry_numbers}
use Rattle.imp_check.proofs.WalkLemmas.{all_known}
use Rattle.call_contexts.proofs.LiteralLemmas.{effect_again}
use Rattle.imp_words.specs.declared.findings.Finding.{Finding}
use Rattle.imp_words.specs.declared.verdict.Verdict.{Verdict}
use Rattle.domain_laws.specs.Checks.{Check, check_of, kind_if, kind_in, kind_of}
use Rattle.batch_meaning.specs.Report.{CheckedStatement, checked_in, checked_one, checked_statements}
use Rattle.daig_session.specs.Reports.{checked_act, checked_among, checked_at, checked_by, checked_entry, checked_form, checked_stmt, HasCheck}

-- those of some entries
abbrev checked_entries : List Entry → List CheckedStatement
checked_entries [] = []
checked_entries (e ∷ es) = checked_form e.number e.form ++ checked_entries es

checked_both : (xs ys : List Entry) → checked_entries (xs ++ ys) ≡ checked_entries xs ++ checked_entries ys
checked_both [] ys = refl
checked_both (x ∷ xs) ys = ap (λ cs. checked_form x.number x.form ++ cs) (checked_both xs ys) ∙ sym (append_assoc (checked_form x.number x.form) (checked_entries xs) (checked_entries ys))

-- a statement by its entries, and a block by those of its statements
module _ (f : Resolver) where
  mutual
    statement_checks : (c : Context) (a p : Option ℕ) (s : Statement) (r : Code) → checked_in (statement_in f s r) ≡ checked_entries (statement_entries f c a p s) ++ checked_in r
    statement_checks c a p (tree.Simple n x) r =
        ap (λ (e : Effect). checked_one n e (check_of e) ++ checked_in r) (sym (effect_again (effect_in f.layout x)))
        ∙ ap (λ cs. cs ++ checked_in r) (sym (append-nil (checked_form n (entry_at f c a p (tree.Simple n x)).form)))
    statement_checks c a p (tree.Break n) r = refl
    statement_checks c a p (tree.Call n x g es) r = refl
    statement_checks c a p (tree.If n d t e) r =
        let T = block_entries f (inside c n which.Then) None None t in
        let E = block_entries f (inside c n which.Else) None None e in
        ap (λ cs. cs ++ (checked_in (code_in f e) ++ checked_in r)) (block_checks (inside c n which.Then) None None t)
        ∙ ap (λ cs. checked_entries T ++ (cs ++ checked_in r)) (block_checks (inside c n which.Else) None None e)
        ∙ sym (append_assoc (checked_entries T) (checked_entries E) (checked_in r))
        ∙ ap (λ cs. cs ++ checked_in r) (sym (checked_both T E))
    statement_checks c a p (tree.While n d b) r = ap (λ cs. cs ++ checked_in r) (block_checks (inside_loop c n) None None b)

    block_checks : (c : Context) (a p : Option ℕ) (b : Statements) → checked_in (code_in f b) ≡ checked_entries (block_entries f c a p b)
    block_checks c a p Ends = refl
    block_checks c a p (Starts s ss) =
        statement_checks c a (first_or ss p) s (code_in f ss)
        ∙ ap (λ cs. checked_entries (statement_entries f c a (first_or ss p) s) ++ cs) (block_checks c (Some (number_of s)) p ss)
        ∙ sym (checked_both (statement_entries f c a (first_or ss p) s) (block_entries f c (Some (number_of s)) p ss))

from_checks : (es ps : List Procedure) → checked_statements (routines_from es ps) ≡ checked_entries (entries_from es ps)
from_checks es [] = refl
from_checks es (p ∷ ps) =
    ap (λ cs. cs ++ checked_statements (routines_from (es ++ p ∷ []) ps)) (block_checks (resolver_at es p) (context_at (length es)) None None p.body)
    ∙ ap (λ cs. checked_entries (procedure_entries es p) ++ cs) (from_checks (es ++ p ∷ []) ps)
    ∙ sym (checked_both (procedure_entries es p) (entries_from (es ++ p ∷ []) ps))

-- entries that are found by their numbers
found_checks : (at : ℕ → Option Entry) (xs : List Entry) → Known at xs → checked_by at (entry_numbers xs) ≡ checked_entries xs
found_checks at [] k = refl
found_checks at (x ∷ xs) k =
    ap (λ o. checked_entry x.number o ++ checked_by at (entry_numbers xs)) (k x (inl refl))
    ∙ ap (λ cs. checked_form x.number x.form ++ cs) (found_checks at xs (λ y i. k y (inr i)))

-- The checked statements of a program are those among all its statements.
pub all_checks : (ps : List Procedure) → AreNumbered ps → checked_among ps (program_numbers ps) ≡ checked_statements (routines_of ps)
all_checks ps n =
    ap (checked_among ps) (sym (all_numbers ps))
    ∙ found_checks (entry_of (entries_of ps)) (entries_of ps) (all_known ps n)
    ∙ sym (from_checks [] ps)

-- one more of some statements
by_both : (at : ℕ → Option Entry) (ns ms : List ℕ) → checked_by at (ns ++ ms) ≡ checked_by at ns ++ checked_by at ms
by_both at [] ms = refl
by_both at (n ∷ ns) ms = ap (λ cs. checked_entry n (at n) ++ cs) (by_both at ns ms) ∙ sym (append_assoc (checked_entry n (at n)) (checked_by at ns) (checked_by at ms))

pub among_both : (ps : List Procedure) (ns ms : List ℕ) → checked_among ps (ns ++ ms) ≡ checked_among ps ns ++ checked_among ps ms
among_both ps ns ms = by_both (entry_of (entries_of ps)) ns ms

pub among_next : (ps : List Procedure) (ns : List ℕ) (n : ℕ) → checked_among ps (ns ++ n ∷ []) ≡ checked_among ps ns ++ checked_at ps n
among_next ps ns n = by_both (entry_of (entries_of ps)) ns (n ∷ []) ∙ ap (λ cs. checked_among ps ns ++ cs) (append-nil (checked_at ps n))

-- The statements from a procedure on are its own, and those of the procedures after it.
pub numbers_from : (ps : List Procedure) (k : ℕ) → k < length ps → numbers_at ps k ++ program_numbers (drop (k + 1) ps) ≡ program_numbers (drop k ps)
numbers_from ps k h = let e : k + 1 ≡ suc k = omega arith in ap (λ j. numbers_at ps k ++ program_numbers (drop j ps)) e ∙ go ps k h
  where
    go : (ps : List Procedure) (k : ℕ) → k < length ps → numbers_at ps k ++ program_numbers (drop (suc k) ps) ≡ program_numbers (drop k ps)
    go [] k h = absurd (omega arith)
    go (p ∷ ps) zero h = refl
    go (p ∷ ps) (suc k) h = go ps k (omega arith)

pub numbers_step : (ps : List Procedure) (k : ℕ) (found more all : List ℕ) → k < length ps → more ≡ found ++ numbers_at ps k → found ++ program_numbers (drop k ps) ≡ all → more ++ program_numbers (drop (k + 1) ps) ≡ all
numbers_step ps k found more all h e i =
    let rest = program_numbers (drop (k + 1) ps) in
    ap (λ ns. ns ++ rest) e ∙ (append_assoc found (numbers_at ps k) rest ∙ (ap (λ ns. found ++ ns) (numbers_from ps k h) ∙ i))

pub numbers_end : (ps : List Procedure) (k : ℕ) → length ps ≤ k → program_numbers (drop k ps) ≡ []
numbers_end [] zero h = refl
numbers_end [] (suc k) h = refl
numbers_end (p ∷ ps) zero h = absurd (omega arith)
numbers_end (p ∷ ps) (suc k) h = numbers_end ps k (omega arith)

-- What the code looks up is the check of the statement.
pub some_check : (n : ℕ) (program : List Procedure) (o : Option SlotStmt) → checked_stmt n o ≡ checked_at program n → IfSome o (λ s. IsSome (kind_in (act_of s))) → is_some o ≡ true → HasCheck program n
some_check n program None e h t = absurd cc
some_check n program (Some s) e h t = go (act_of s) e h
  where
    by : (f : Effect) → checked_one n f (check_of f) ≡ checked_at program n → (o : Option Check) → check_of f ≡ o → IsSome (kind_if o) → HasCheck program n
    by f e None q h = absurd cc
    by f e (Some k) q h = (f, k, sym e ∙ ap (checked_one n f) q)

    go : (a : Act) → checked_act n a ≡ checked_at program n → IsSome (kind_in a) → HasCheck program n
    go DoBreak e h = absurd cc
    go (Does f) e h = by f e (check_of f) refl h

-- The statement that a check is of.
pub record IsOf (a : Act) (e : Effect) (k : Check) : Type 0 where
  pub act : a ≡ Does e
  pub check : check_of e ≡ Some k

pub is_of : (n : ℕ) (a : Act) (e : Effect) (k : Check) → checked_act n a ≡ checked_one n e (Some k) → IsOf a e k
is_of n DoBreak e k h = absurd cc
is_of n (Does f) e k h = by (check_of f) refl h
  where
    by : (o : Option Check) → check_of f ≡ o → checked_one n f o ≡ checked_one n e (Some k) → IsOf (Does f) e k
    by None q h = absurd cc
    by (Some j) q h =
        let c : checked n f j ≡ checked n e k = same_head (checked n f j) (checked n e k) h in
        let same : f ≡ e = ap (λ (z : CheckedStatement). z.effect) c in
        record {
          act = ap Does same;
          check = ap check_of (sym same) ∙ (q ∙ ap (λ (z : CheckedStatement). Some z.check) c);
        }
      where
        checked : ℕ → Effect → Check → CheckedStatement
        checked n e k = record { number = n; effect = e; check = k }

        same_head : (c d : CheckedStatement) → c ∷ [] ≡ d ∷ [] → c ≡ d
        same_head c d e = cc

pub finding_is : (f : Finding) (n : ℕ) (a : Act) (e : Effect) (k : Check) (v : Verdict) → IsOf a e k → f.id ≡ n → kind_in a ≡ Some f.check → f.verdict ≡ v → f ≡ record { id = n; check = kind_of k; verdict = v }
finding_is f n a e k v is i h w = λ j. record { id = i j; check = same_Some f.check (kind_of k) (sym h ∙ (ap kind_in is.act ∙ ap kind_if is.check)) j; verdict = w j }

pub ok_finding : {E : Type 0} (r : Result Finding E) (n : ℕ) (a : Act) (e : Effect) (k : Check) (v : Verdict) → IsOf a e k → IfOk r (λ f. f.id ≡ n) → IfOk r (λ f. kind_in a ≡ Some f.check) → IfOk r (λ f. f.verdict ≡ v) → IfOk r (λ f. f ≡ record { id = n; check = kind_of k; verdict = v })
ok_finding (Ok f) n a e k v is i h w = finding_is f n a e k v is i h w
ok_finding (Err m) n a e k v is i h w = tt

pub copied_some : {T : Type 0} (r : Option (Bor T)) → is_some (option_copied r) ≡ is_some r
copied_some None = refl
copied_some (Some x) = refl
