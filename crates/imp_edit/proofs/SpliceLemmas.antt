-- The change that puts statements at a place.
use Rattle.std.proofs.lemmas.Bool.Decides.{nat_tests}
use Rattle.std.proofs.Common.{◌≡◌, ℕ, zero, suc, ◌+◌, ◌-◌, ◌<◌, ◌≤◌, ◌==◌, ◌||◌, cond, Bool, true, false, List, [], ◌∷◌, ◌++◌, length, drop, slice_get, slice_set, slice_index_or, Option, Some, None, refl, sym, ap, ◌∙◌, subst, arith, add-one, drop-cons}
use Rattle.std.specs.List.{All}
use Rattle.std.specs.Option.{option_map}
use Rattle.edit_entries.proofs.Faults.{first_assoc}
use Rattle.imp_syntax.specs.Plain.{Statement, Statements, Ends, Starts, Procedure, number_of, statements_of}
use Rattle.imp_check.specs.Entries.{entry_of, head_of, heads_of}
use Rattle.imp_check.specs.Faults.{first, in_procedure}
use Rattle.imp_check.specs.Parts.{last_or}
use Rattle.imp_check.specs.Programs.{has, last_of, name_of}
use Rattle.imp_check.specs.declared.entry.Around.{Around}
use Rattle.imp_check.specs.declared.entry.BlockEnds.{BlockEnds}
use Rattle.imp_check.specs.declared.entry.Entry.{Entry}
use Rattle.imp_check.specs.declared.entry.ProcHeader.{ProcHeader}
use Rattle.imp_check.specs.declared.fault.LocatedFault.{LocatedFault}
use Rattle.imp_check.proofs.RebuildLemmas.{entry_numbers}
use Rattle.edit_entries.specs.Gaps.{head_with, heads_in, holder_of}
use Rattle.edit_entries.proofs.Others.{entry_append}
use Rattle.edit_breaks.specs.Bounds.{IsBelow}
use Rattle.imp_edit.specs.Refusals.{IsRefusal}
use Rattle.imp_edit.specs.declared.error.EditError.{EditError}
use Rattle.imp_edit.specs.declared.error.EditError.TheVariants.{NoProcedure, NoStatement, WrongStatement, IsMain, StillCalled, Numbers, Fault, Memory}
use Rattle.imp_check.proofs.TableLemmas.{head_at, heads_length}

-- The last statement of a block, by its place.
pub last_there : (b : Statements) (o : Option ℕ) (i : ℕ) (s : Statement) → i ≡ length (statements_of b) - 1 → Some s ≡ slice_get (statements_of b) i → Some (number_of s) ≡ last_or b o
last_there Ends o i s h e = absurd cc
last_there (Starts x Ends) o zero s h e = let q : s ≡ x = cc in ap (λ z. Some (number_of z)) q
last_there (Starts x Ends) o (suc i) s h e = absurd (omega arith)
last_there (Starts x (Starts y ys)) o zero s h e = absurd (omega arith)
last_there (Starts x (Starts y ys)) o (suc i) s h e = last_there (Starts y ys) (Some (number_of x)) i s (omega arith) e

pub last_gone : (b : Statements) (o : Option ℕ) (i : ℕ) → i ≡ length (statements_of b) - 1 → None ≡ slice_get (statements_of b) i → o ≡ last_or b o
last_gone Ends o i h e = refl
last_gone (Starts x Ends) o zero h e = absurd cc
last_gone (Starts x Ends) o (suc i) h e = absurd (omega arith)
last_gone (Starts x (Starts y ys)) o zero h e = absurd (omega arith)
last_gone (Starts x (Starts y ys)) o (suc i) h e = absurd (some_there y ys i (omega arith) e)
  where
    some_there : (y : Statement) (ys : Statements) (i : ℕ) → i ≡ length (statements_of (Starts y ys)) - 1 → None ≡ slice_get (statements_of (Starts y ys)) i → ⊥
    some_there y Ends zero h e = cc
    some_there y Ends (suc i) h e = absurd (omega arith)
    some_there y (Starts z zs) zero h e = absurd (omega arith)
    some_there y (Starts z zs) (suc i) h e = some_there z zs i (omega arith) e

name_at : (o : Option Procedure) (h : ProcHeader) → Some h ≡ option_map head_of o → h.bare.name ≡ name_of o
name_at None h e = cc
name_at (Some p) h e = let q : h ≡ head_of p = cc in ap (λ (z : ProcHeader). z.bare.name) q

no_name : (o : Option Procedure) → None ≡ option_map head_of o → [] ≡ name_of o
no_name None e = refl
no_name (Some p) e = absurd cc

pub last_name : (ps : List Procedure) (hs : List ProcHeader) (i : ℕ) (h : ProcHeader) → hs ≡ heads_of ps → i ≡ length hs - 1 → Some h ≡ slice_get hs i → h.bare.name ≡ name_of (last_of ps)
last_name ps hs i h q k e =
    let n : i ≡ length ps - 1 = k ∙ ap (λ (zs : List ProcHeader). length zs - 1) q ∙ ap (λ n. n - 1) (heads_length ps) in
    name_at (last_of ps) h (e ∙ ap (λ (zs : List ProcHeader). slice_get zs i) q ∙ ap (slice_get (heads_of ps)) n ∙ head_at ps (length ps - 1))

pub no_last : (ps : List Procedure) (hs : List ProcHeader) (i : ℕ) → hs ≡ heads_of ps → i ≡ length hs - 1 → None ≡ slice_get hs i → [] ≡ name_of (last_of ps)
no_last ps hs i q k e =
    let n : i ≡ length ps - 1 = k ∙ ap (λ (zs : List ProcHeader). length zs - 1) q ∙ ap (λ n. n - 1) (heads_length ps) in
    no_name (last_of ps) (e ∙ ap (λ (zs : List ProcHeader). slice_get zs i) q ∙ ap (slice_get (heads_of ps)) n ∙ head_at ps (length ps - 1))

first_cond : (t : Bool) (e : Entry) (x : Option Entry) → first (cond t (Some e) None) x ≡ cond t (Some e) x
first_cond true e x = refl
first_cond false e x = refl

pub popped : (xs ys : List Entry) (e : Entry) (m : ℕ) (x : Option Entry) → xs ≡ ys ++ e ∷ [] → first (entry_of ys m) (cond (e.number == m) (Some e) x) ≡ first (entry_of xs m) x
popped xs ys e m x q =
    ap (first (entry_of ys m)) (sym (first_cond (e.number == m) e x))
    ∙ sym (first_assoc (entry_of ys m) (cond (e.number == m) (Some e) None) x)
    ∙ ap (λ o. first o x) (sym (entry_append ys (e ∷ []) m) ∙ ap (λ zs. entry_of zs m) (sym q))

pub all_front : (P : Entry → Type 0) (ys : List Entry) (e : Entry) → All P (ys ++ e ∷ []) → All P ys
all_front P [] e a i d l = absurd (omega arith)
all_front P (y ∷ ys) e a zero d l = a 0 d (omega arith)
all_front P (y ∷ ys) e a (suc i) d l = all_front P ys e (λ j x k. a (suc j) x (omega arith)) i d (omega arith)

pub all_last : (P : Entry → Type 0) (ys : List Entry) (e : Entry) → All P (ys ++ e ∷ []) → P e
all_last P [] e a = a 0 e (omega arith)
all_last P (y ∷ ys) e a = all_last P ys e (λ j x k. a (suc j) x (omega arith))

-- What is known of the entries that come, by their numbers.
has_entry : (xs : List Entry) (m : ℕ) (x : Option Entry) → first (entry_of xs m) x ≡ cond (has (entry_numbers xs) m) (entry_of xs m) x
has_entry [] m x = refl
has_entry (e ∷ xs) m x = go (e.number == m) (m == e.number) refl refl (has_entry xs m x)
  where
    go : (a b : Bool) → (e.number == m) ≡ a → (m == e.number) ≡ b → first (entry_of xs m) x ≡ cond (has (entry_numbers xs) m) (entry_of xs m) x → first (cond a (Some e) (entry_of xs m)) x ≡ cond (b || has (entry_numbers xs) m) (cond a (Some e) (entry_of xs m)) x
    go true true p q f = refl
    go false false p q f = f
    go true false p q f = absurd (grind (arith, nat_tests))
    go false true p q f = absurd (grind (arith, nat_tests))

pub come_is : (xs : List Entry) (ns : List ℕ) (m : ℕ) (x : Option Entry) → entry_numbers xs ≡ ns → first (entry_of xs m) x ≡ cond (has ns m) (entry_of xs m) x
come_is xs ns m x e = has_entry xs m x ∙ ap (λ zs. cond (has zs m) (entry_of xs m) x) e

pub all_numbers_below : (b : ℕ) (xs : List Entry) → All (λ (n : ℕ). n < b) (entry_numbers xs) → All (λ (e : Entry). e.number < b) xs
all_numbers_below b [] a i d l = absurd (omega arith)
all_numbers_below b (x ∷ xs) a zero d l = a 0 0 (omega arith)
all_numbers_below b (x ∷ xs) a (suc i) d l = all_numbers_below b xs (λ j y k. a (suc j) y (omega arith)) i d (omega arith)

-- One more statement goes.
has_more : (ns : List ℕ) (i x m : ℕ) → i < length ns → x ≡ slice_index_or ns i x → has (drop i ns) m ≡ ((m == x) || has (drop (i + 1) ns) m)
has_more ns i x m h e = rw (drop-cons ns i x, add-one, ← e) refl

pub gone_step : (ns : List ℕ) (i x m : ℕ) (o : Option Entry) → i < length ns → x ≡ slice_index_or ns i x → cond (x == m) None (cond (has (drop (i + 1) ns) m) None o) ≡ cond (has (drop i ns) m) None o
gone_step ns i x m o h e = go (x == m) (m == x) refl refl ∙ ap (λ b. cond b None o) (sym (has_more ns i x m h e))
  where
    go : (a b : Bool) → (x == m) ≡ a → (m == x) ≡ b → cond a None (cond (has (drop (i + 1) ns) m) None o) ≡ cond (b || has (drop (i + 1) ns) m) None o
    go true true p q = refl
    go false false p q = refl
    go true false p q = absurd (grind (arith, nat_tests))
    go false true p q = absurd (grind (arith, nat_tests))

pub below_at : (b : ℕ) (ns : List ℕ) (i x : ℕ) → All (λ (n : ℕ). n < b) ns → i < length ns → x ≡ slice_index_or ns i x → x < b
below_at b ns i x a h e = subst (λ n. n < b) (sym e) (a i x h)

pub around_below : (b : ℕ) (o : Option Around) (w : Around) → o ≡ Some w → IsBelow b (holder_of o) → w.stmt < b
around_below b o w e h = subst (λ (z : Option Around). IsBelow b (holder_of z)) e h

-- A refusal by the first of two faults, or by the second where the first is none.
only_memory : (o : Option LocatedFault) (r : EditError) → IsRefusal None r → IsRefusal (option_map Fault o) r
only_memory o NoProcedure h = absurd cc
only_memory o NoStatement h = absurd cc
only_memory o WrongStatement h = absurd cc
only_memory o IsMain h = absurd cc
only_memory o StillCalled h = absurd cc
only_memory o Numbers h = absurd cc
only_memory o (Fault f) h = absurd cc
only_memory o Memory h = tt

pub refused_first : (o p : Option LocatedFault) (r : EditError) → IsRefusal (option_map Fault o) r → IsRefusal (option_map Fault (first o p)) r
refused_first None p r h = only_memory p r h
refused_first (Some f) p r h = h

in_first : (x : List ℕ) (o : _) (p : _) → in_procedure x (first o p) ≡ first (in_procedure x o) (in_procedure x p)
in_first x None p = refl
in_first x (Some s) p = refl

pub refused_step : (x : List ℕ) (o : _) (p : _) (q : _) (r : EditError) → q ≡ first o p → IsRefusal (option_map Fault (in_procedure x o)) r → IsRefusal (option_map Fault (in_procedure x q)) r
refused_step x o p q r e h = subst (λ z. IsRefusal (option_map Fault z) r) (sym (ap (in_procedure x) e ∙ in_first x o p)) (refused_first (in_procedure x o) (in_procedure x p) r h)

-- The procedures, with other ends of one body.
pub head_set : (hs : List ProcHeader) (n : ℕ) (h : ProcHeader) (ends : BlockEnds → BlockEnds) → n < length hs → h ≡ slice_index_or hs n h → slice_set hs n (record h { body = ends h.body }) ≡ head_with hs n ends
head_set [] n h ends l e = absurd (omega arith)
head_set (x ∷ hs) zero h ends l e = ap (λ (z : ProcHeader). record z { body = ends z.body } ∷ hs) e
head_set (x ∷ hs) (suc n) h ends l e = ap (λ (zs : List ProcHeader). x ∷ zs) (head_set hs n h ends (omega arith) e)

pub head_past : (hs : List ProcHeader) (n : ℕ) (ends : BlockEnds → BlockEnds) → length hs ≤ n → hs ≡ head_with hs n ends
head_past [] n ends l = refl
head_past (x ∷ hs) zero ends l = absurd (omega arith)
head_past (x ∷ hs) (suc n) ends l = ap (λ (zs : List ProcHeader). x ∷ zs) (head_past hs n ends (omega arith))

pub head_same : (hs : List ProcHeader) (n : ℕ) (ends : BlockEnds → BlockEnds) → ((e : BlockEnds) → ends e ≡ e) → hs ≡ head_with hs n ends
head_same [] n ends h = refl
head_same (x ∷ hs) zero ends h = ap (λ o. record x { body = o } ∷ hs) (sym (h x.body))
head_same (x ∷ hs) (suc n) ends h = ap (λ (zs : List ProcHeader). x ∷ zs) (head_same hs n ends h)

pub heads_same : (o : Option Around) (hs : List ProcHeader) (n : ℕ) (ends : BlockEnds → BlockEnds) → ((e : BlockEnds) → ends e ≡ e) → hs ≡ heads_in o hs n ends
heads_same None hs n ends h = head_same hs n ends h
heads_same (Some w) hs n ends h = refl
