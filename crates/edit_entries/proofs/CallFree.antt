-- Blocks in which no call stands.
use Rattle.std.proofs.Common.{◌≡◌, ℕ, List, [], ◌∷◌, ◌++◌, length, Option, Some, None, Bool, true, ◌&&◌, refl, ap, ◌∙◌, arith}
use Rattle.std.proofs.lemmas.List.{length-append}
use Rattle.imp_syntax.specs.Plain.{Statement, Simple, Break, Call, If, While, Statements, Ends, Starts, Procedure, number_of, numbers_in, numbers}
use Rattle.imp_slots.specs.Plain.{Layout, Routine}
use Rattle.imp_slots.specs.Fits.{FitsCode}
use Rattle.imp_check.specs.Chains.{calls_in, calls}
use Rattle.imp_check.specs.Faults.{first, at}
use Rattle.imp_check.specs.Programs.{block_count, statement_count}
use Rattle.imp_check.specs.Slots.{Resolver, code_in}
use Rattle.imp_check.specs.Statements.{Scope, condition_fault, statement_fault, block_fault}
use Rattle.imp_check.specs.Parts.{first_or}
use Rattle.imp_check.specs.Entries.{inside, inside_loop, entry_at, statement_entries, block_entries, sites_in}
use Rattle.imp_check.specs.declared.entry.Context.{Context}
use Rattle.imp_check.specs.declared.entry.Entry.{Entry}
use Rattle.imp_check.specs.declared.entry.Which.TheVariants as which
use Rattle.edit_entries.specs.Gaps.{is_quiet, are_quiet, lone}
use Rattle.edit_entries.proofs.Sites.{sites_both}
use Rattle.std.proofs.lemmas.Bool.{and_parts}

pub none : (xs ys : List ℕ) → xs ≡ [] → ys ≡ [] → xs ++ ys ≡ []
none xs ys p q = ap (λ k. k ++ ys) p ∙ q

-- They make no calls ..
mutual
  quiet_calls_in : (g : List ℕ) (s : Statement) → is_quiet s ≡ true → calls_in g s ≡ []
  quiet_calls_in g (Simple n a) h = refl
  quiet_calls_in g (Break n) h = refl
  quiet_calls_in g (Call n x q es) h = cc
  quiet_calls_in g (If n c t e) h = let w = and_parts (are_quiet t) (are_quiet e) h in none (calls g t) (calls g e) (quiet_calls g t w.0) (quiet_calls g e w.1)
  quiet_calls_in g (While n c b) h = quiet_calls g b h

  pub quiet_calls : (g : List ℕ) (b : Statements) → are_quiet b ≡ true → calls g b ≡ []
  quiet_calls g Ends h = refl
  quiet_calls g (Starts s ss) h = let w = and_parts (is_quiet s) (are_quiet ss) h in none (calls_in g s) (calls g ss) (quiet_calls_in g s w.0) (quiet_calls g ss w.1)

-- .. and no statement of theirs is one.
mutual
  quiet_sites_in : (f : Resolver) (k : ℕ) (c : Context) (a p : Option ℕ) (s : Statement) → is_quiet s ≡ true → sites_in (statement_entries f c a p s) k ≡ []
  quiet_sites_in f k c a p (Simple n x) h = refl
  quiet_sites_in f k c a p (Break n) h = refl
  quiet_sites_in f k c a p (Call n x q es) h = cc
  quiet_sites_in f k c a p (If n d t e) h =
      let w = and_parts (are_quiet t) (are_quiet e) h in
      let T = block_entries f (inside c n which.Then) None None t in
      let E = block_entries f (inside c n which.Else) None None e in
      sites_both T E k ∙ none (sites_in T k) (sites_in E k) (quiet_sites f k (inside c n which.Then) None None t w.0) (quiet_sites f k (inside c n which.Else) None None e w.1)
  quiet_sites_in f k c a p (While n d b) h = quiet_sites f k (inside_loop c n) None None b h

  pub quiet_sites : (f : Resolver) (k : ℕ) (c : Context) (a p : Option ℕ) (b : Statements) → are_quiet b ≡ true → sites_in (block_entries f c a p b) k ≡ []
  quiet_sites f k c a p Ends h = refl
  quiet_sites f k c a p (Starts s ss) h =
      let w = and_parts (is_quiet s) (are_quiet ss) h in
      let S = statement_entries f c a (first_or ss p) s in
      let R = block_entries f c (Some (number_of s)) p ss in
      sites_both S R k ∙ none (sites_in S k) (sites_in R k) (quiet_sites_in f k c a (first_or ss p) s w.0) (quiet_sites f k c (Some (number_of s)) p ss w.1)

-- As many statements as numbers.
mutual
  numbers_count_in : (s : Statement) → length (numbers_in s) ≡ statement_count s
  numbers_count_in (Simple n a) = refl
  numbers_count_in (Break n) = refl
  numbers_count_in (Call n x g es) = refl
  numbers_count_in (If n c t e) = omega (arith, length-append (numbers t) (numbers e), numbers_count t, numbers_count e)
  numbers_count_in (While n c b) = omega (arith, numbers_count b)

  pub numbers_count : (b : Statements) → length (numbers b) ≡ block_count b
  numbers_count Ends = refl
  numbers_count (Starts s ss) = omega (arith, length-append (numbers_in s) (numbers ss), numbers_count_in s, numbers_count ss)

-- Their faults hang on the variables alone ..
mutual
  quiet_fault_in : (z : Scope) (i : Bool) (s : Statement) → is_quiet s ≡ true → statement_fault z i s ≡ statement_fault (lone z.variables) i s
  quiet_fault_in z i (Simple n a) h = refl
  quiet_fault_in z i (Break n) h = refl
  quiet_fault_in z i (Call n x g es) h = cc
  quiet_fault_in z i (If n c t e) h =
      let w = and_parts (are_quiet t) (are_quiet e) h in
      ap (λ o. first (at n (condition_fault z.variables c)) (first o (block_fault z i e))) (quiet_fault z i t w.0)
      ∙ ap (λ o. first (at n (condition_fault z.variables c)) (first (block_fault (lone z.variables) i t) o)) (quiet_fault z i e w.1)
  quiet_fault_in z i (While n c b) h = ap (first (at n (condition_fault z.variables c))) (quiet_fault z true b h)

  pub quiet_fault : (z : Scope) (i : Bool) (b : Statements) → are_quiet b ≡ true → block_fault z i b ≡ block_fault (lone z.variables) i b
  quiet_fault z i Ends h = refl
  quiet_fault z i (Starts s ss) h =
      let w = and_parts (is_quiet s) (are_quiet ss) h in
      ap (λ o. first o (block_fault z i ss)) (quiet_fault_in z i s w.0)
      ∙ ap (first (statement_fault (lone z.variables) i s)) (quiet_fault z i ss w.1)

-- .. and what is known of them on the variables' slots.
module _ (l : Layout) (es ds : List Procedure) where
  abbrev f : Resolver
  f = record { layout = l; earlier = es }

  abbrev g : Resolver
  g = record { layout = l; earlier = ds }

  mutual
    quiet_entries_in : (c : Context) (a p : Option ℕ) (s : Statement) → is_quiet s ≡ true → statement_entries f c a p s ≡ statement_entries g c a p s
    quiet_entries_in c a p (Simple n x) h = refl
    quiet_entries_in c a p (Break n) h = refl
    quiet_entries_in c a p (Call n x q os) h = cc
    quiet_entries_in c a p (If n d t e) h =
        let w = and_parts (are_quiet t) (are_quiet e) h in
        ap (λ (os : List Entry). entry_at f c a p (If n d t e) ∷ (os ++ block_entries f (inside c n which.Else) None None e)) (quiet_entries (inside c n which.Then) None None t w.0)
        ∙ ap (λ (os : List Entry). entry_at f c a p (If n d t e) ∷ (block_entries g (inside c n which.Then) None None t ++ os)) (quiet_entries (inside c n which.Else) None None e w.1)
    quiet_entries_in c a p (While n d b) h = ap (λ (os : List Entry). entry_at f c a p (While n d b) ∷ os) (quiet_entries (inside_loop c n) None None b h)

    pub quiet_entries : (c : Context) (a p : Option ℕ) (b : Statements) → are_quiet b ≡ true → block_entries f c a p b ≡ block_entries g c a p b
    quiet_entries c a p Ends h = refl
    quiet_entries c a p (Starts s ss) h =
        let w = and_parts (is_quiet s) (are_quiet ss) h in
        ap (λ (os : List Entry). os ++ block_entries f c (Some (number_of s)) p ss) (quiet_entries_in c a (first_or ss p) s w.0)
        ∙ ap (λ (os : List Entry). statement_entries g c a (first_or ss p) s ++ os) (quiet_entries c (Some (number_of s)) p ss w.1)

  pub quiet_fits : (xs ys : List Routine) (b : Statements) → are_quiet b ≡ true → FitsCode xs l (code_in f b) → FitsCode ys l (code_in g b)
  quiet_fits xs ys Ends h w = tt
  quiet_fits xs ys (Starts (Simple n x) ss) h w = (w.0, quiet_fits xs ys ss h w.1)
  quiet_fits xs ys (Starts (Break n) ss) h w = quiet_fits xs ys ss h w
  quiet_fits xs ys (Starts (Call n x q os) ss) h w = absurd cc
  quiet_fits xs ys (Starts (If n d t e) ss) h w =
      let u = and_parts (are_quiet t && are_quiet e) (are_quiet ss) h in
      let v = and_parts (are_quiet t) (are_quiet e) u.0 in
      (w.0, quiet_fits xs ys t v.0 w.1, quiet_fits xs ys e v.1 w.2, quiet_fits xs ys ss u.1 w.3)
  quiet_fits xs ys (Starts (While n d b) ss) h w =
      let u = and_parts (are_quiet b) (are_quiet ss) h in
      (w.0, quiet_fits xs ys b u.0 w.1, quiet_fits xs ys ss u.1 w.2)
