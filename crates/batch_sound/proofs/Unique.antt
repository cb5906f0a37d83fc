-- A number of a checked program belongs to one statement.
use Rattle.std.specs.Prelude.{◌≡◌, ◌<◌, ℕ, zero, suc, List, [], ◌∷◌, ◌++◌, length, map, slice_get, Option, Some, None, Contains, ◌⊎◌}
use Rattle.std.proofs.Common.{refl, sym, ap, ◌∙◌, subst, arith, inl, inr}
use Rattle.imp_slots.specs.Plain.{Effect, Code, Stop, Simple, If, While, Call, Break, Routine, code_numbers}
use Rattle.imp_slots.specs.Fits.{Distinct, IsChecked}
use Rattle.concrete_sem.specs.Reach.{first_number}
use Rattle.concrete_sem.specs.WellFormed.{StandsIn, whole, behind_simple, then_block, else_block, behind_if, loop_body, behind_loop, behind_call, behind_break}
use Rattle.imp_chains.specs.Chains.{holder}
use Rattle.imp_chains.specs.Claims.{PlacesAreFound}
use Rattle.domain_laws.specs.Checks.{Check, check_of}
use Rattle.batch_meaning.specs.Report.{CheckedStatement, checked_one, checked_in, checked_statements}
use Rattle.base_values.proofs.Members.{Member, here, there, in_left, in_right, keys, keys_both, key_member, either}
use Rattle.batch_meaning.proofs.Places.{found}
use Rattle.batch_sound.proofs.Chains.{has_member, once_in}
use Rattle.std.proofs.lemmas.Option.{same_Some}

-- the statements of a block, by their numbers, each with what is after it
abbrev statements : Code → List (ℕ × Code)
statements Stop = []
statements (Simple n e r) = (n, Simple n e r) ∷ statements r
statements (If n g t e r) = (n, If n g t e r) ∷ (statements t ++ (statements e ++ statements r))
statements (While n g b r) = (n, While n g b r) ∷ (statements b ++ statements r)
statements (Call n i q r) = (n, Call n i q r) ∷ statements r
statements (Break n r) = (n, Break n r) ∷ statements r

keys_statements : (c : Code) → keys (statements c) ≡ code_numbers c
keys_statements Stop = refl
keys_statements (Simple n e r) = ap (λ k. n ∷ k) (keys_statements r)
keys_statements (If n g t e r) = rw (keys_both, keys_both, keys_statements t, keys_statements e, keys_statements r)
keys_statements (While n g b r) = rw (keys_both, keys_statements b, keys_statements r)
keys_statements (Call n i q r) = ap (λ k. n ∷ k) (keys_statements r)
keys_statements (Break n r) = ap (λ k. n ∷ k) (keys_statements r)

-- the statements of a block that stands in a body are the body's
within : (body c : Code) → StandsIn body c → (x : ℕ × Code) → Member x (statements c) → Member x (statements body)
within body c whole x m = m
within body c (behind_simple s) x m = within body _ s x (there m)
within body c (then_block s) x m = within body _ s x (there (in_left _ m))
within body c (else_block {t = t} s) x m = within body _ s x (there (in_right (statements t) (in_left _ m)))
within body c (behind_if {t = t} {e = e} s) x m = within body _ s x (there (in_right (statements t) (in_right (statements e) m)))
within body c (loop_body s) x m = within body _ s x (there (in_left _ m))
within body c (behind_loop {b = b} s) x m = within body _ s x (there (in_right (statements b) m))
within body c (behind_call s) x m = within body _ s x (there m)
within body c (behind_break s) x m = within body _ s x (there m)

first_of : (c : Code) (n : ℕ) → first_number c ≡ Some n → Member (n, c) (statements c)
first_of Stop n e = absurd cc
first_of (Simple m x r) n e = subst (λ k. Member (k, Simple m x r) (statements (Simple m x r))) (same_Some m n e) here
first_of (If m g t x r) n e = subst (λ k. Member (k, If m g t x r) (statements (If m g t x r))) (same_Some m n e) here
first_of (While m g b r) n e = subst (λ k. Member (k, While m g b r) (statements (While m g b r))) (same_Some m n e) here
first_of (Call m i q r) n e = subst (λ k. Member (k, Call m i q r) (statements (Call m i q r))) (same_Some m n e) here
first_of (Break m r) n e = subst (λ k. Member (k, Break m r) (statements (Break m r))) (same_Some m n e) here

-- A checked statement is a simple statement of the program with that check.
record IsCheckedIn (body : Code) (c : CheckedStatement) : Type 0 where
  rest : Code
  stands : Member (c.number, Simple c.number c.effect rest) (statements body)
  check : check_of c.effect ≡ Some c.check

checked_more : (body other : Code) (c : CheckedStatement) → ((x : ℕ × Code) → Member x (statements body) → Member x (statements other)) → IsCheckedIn body c → IsCheckedIn other c
checked_more body other c f k = record { rest = k.rest; stands = f _ k.stands; check = k.check }

one_is : (n : ℕ) (e : Effect) (r : Code) (o : Option Check) → check_of e ≡ o → (c : CheckedStatement) → Member c (checked_one n e o) → IsCheckedIn (Simple n e r) c
one_is n e r None k c m = elim m [ ]
one_is n e r (Some x) k c m = one c m
  where
    one : (c : CheckedStatement) → Member c (record { number = n; effect = e; check = x } ∷ []) → IsCheckedIn (Simple n e r) c
    one c here = record { rest = r; stands = here; check = k }
    one c (there m) = elim m [ ]

is_checked : (body : Code) (c : CheckedStatement) → Member c (checked_in body) → IsCheckedIn body c
is_checked Stop c m = elim m [ ]
is_checked (Simple n e r) c m = by (either c (checked_one n e (check_of e)) (checked_in r) m) (λ k. is_checked r c k)
  where
    by : Member c (checked_one n e (check_of e)) ⊎ Member c (checked_in r) → (Member c (checked_in r) → IsCheckedIn r c) → IsCheckedIn (Simple n e r) c
    by (inl k) f = one_is n e r (check_of e) refl c k
    by (inr k) f = checked_more r (Simple n e r) c (λ x. there) (f k)
is_checked (If n g t e r) c m = by (either c (checked_in t) (checked_in e ++ checked_in r) m) (λ k. is_checked t c k) (λ k. is_checked e c k) (λ k. is_checked r c k)
  where
    by_two : Member c (checked_in e) ⊎ Member c (checked_in r) → (Member c (checked_in e) → IsCheckedIn e c) → (Member c (checked_in r) → IsCheckedIn r c) → IsCheckedIn (If n g t e r) c
    by_two (inl k) f h = checked_more e (If n g t e r) c (λ x m. there (in_right (statements t) (in_left _ m))) (f k)
    by_two (inr k) f h = checked_more r (If n g t e r) c (λ x m. there (in_right (statements t) (in_right (statements e) m))) (h k)

    by : Member c (checked_in t) ⊎ Member c (checked_in e ++ checked_in r) → (Member c (checked_in t) → IsCheckedIn t c) → (Member c (checked_in e) → IsCheckedIn e c) → (Member c (checked_in r) → IsCheckedIn r c) → IsCheckedIn (If n g t e r) c
    by (inl k) d f h = checked_more t (If n g t e r) c (λ x m. there (in_left _ m)) (d k)
    by (inr k) d f h = by_two (either c (checked_in e) (checked_in r) k) f h
is_checked (While n g b r) c m = by (either c (checked_in b) (checked_in r) m) (λ k. is_checked b c k) (λ k. is_checked r c k)
  where
    by : Member c (checked_in b) ⊎ Member c (checked_in r) → (Member c (checked_in b) → IsCheckedIn b c) → (Member c (checked_in r) → IsCheckedIn r c) → IsCheckedIn (While n g b r) c
    by (inl k) f h = checked_more b (While n g b r) c (λ x m. there (in_left _ m)) (f k)
    by (inr k) f h = checked_more r (While n g b r) c (λ x m. there (in_right (statements b) m)) (h k)
is_checked (Call n i q r) c m = checked_more r (Call n i q r) c (λ x. there) (is_checked r c m)
is_checked (Break n r) c m = checked_more r (Break n r) c (λ x. there) (is_checked r c m)

record IsCheckedOf (program : List Routine) (c : CheckedStatement) : Type 0 where
  place : ℕ
  routine : Routine
  at : slice_get program place ≡ Some routine
  is : IsCheckedIn routine.code c

checked_of : (program : List Routine) (c : CheckedStatement) → Member c (checked_statements program) → IsCheckedOf program c
checked_of [] c m = elim m [ ]
checked_of (r ∷ rs) c m = by (either c (checked_in r.code) (checked_statements rs) m) (λ k. checked_of rs c k)
  where
    by : Member c (checked_in r.code) ⊎ Member c (checked_statements rs) → (Member c (checked_statements rs) → IsCheckedOf rs c) → IsCheckedOf (r ∷ rs) c
    by (inl k) f = record { place = 0; routine = r; at = refl; is = is_checked r.code c k }
    by (inr k) f = let x = f k in record { place = suc x.place; routine = x.routine; at = x.at; is = x.is }

-- A block that stands in a procedure and begins with a checked statement's number begins with that statement.
pub record Begins (c : CheckedStatement) (d : Code) : Type 0 where
  pub rest : Code
  pub is : d ≡ Simple c.number c.effect rest

pub begins : (program : List Routine) → IsChecked program → PlacesAreFound → (c : CheckedStatement) → Member c (checked_statements program) → (p : ℕ) (r : Routine) → slice_get program p ≡ Some r → (d : Code) → StandsIn r.code d → first_number d ≡ Some c.number → Begins c d
begins program checked places c m p r at d s f =
    let x = checked_of program c m in
    let mine : Member (c.number, d) (statements r.code) = within r.code d s (c.number, d) (first_of d c.number f) in
    let here_number = subst (Member c.number) (keys_statements r.code) (key_member (c.number, d) (statements r.code) mine) in
    let there_number = subst (Member c.number) (keys_statements x.routine.code) (key_member (c.number, Simple c.number c.effect x.is.rest) (statements x.routine.code) x.is.stands) in
    let h1 : holder c.number program ≡ Some p = (places program checked p r at).statement c.number (has_member c.number _ here_number) in
    let h2 : holder c.number program ≡ Some x.place = (places program checked x.place x.routine x.at).statement c.number (has_member c.number _ there_number) in
    let q : x.place ≡ p = same_Some _ _ (sym h2 ∙ h1) in
    let same : x.routine ≡ r = same_Some _ _ (sym x.at ∙ ap (slice_get program) q ∙ at) in
    let once = subst Distinct (sym (keys_statements r.code)) (once_in program p r checked.numbers_once at) in
    let f1 = found (c.number, d) (statements r.code) once mine in
    let f2 = found (c.number, Simple c.number c.effect x.is.rest) (statements r.code) once (subst (λ (r : Routine). Member (c.number, Simple c.number c.effect x.is.rest) (statements r.code)) same x.is.stands) in
    record { rest = x.is.rest; is = same_Some _ _ (sym f1 ∙ f2) }

pub has_check : (program : List Routine) (c : CheckedStatement) → Member c (checked_statements program) → check_of c.effect ≡ Some c.check
has_check program c m = (checked_of program c m).is.check

-- what a list made by a function contains
pub record Made {A B : Type 0} (f : A → B) (xs : List A) (y : B) : Type 0 where
  pub from_item : A
  pub member : Member from_item xs
  pub is : f from_item ≡ y

pub made : {A B : Type 0} (f : A → B) (xs : List A) (y : B) → Contains (map f xs) y → Made f xs y
made f [] y c = absurd (none c.0 c.1)
  where
    none : (k : ℕ) → k < 0 → ⊥
    none k h = omega arith
made f (x ∷ xs) y (zero, h, e) = record { from_item = x; member = here; is = e }
made f (x ∷ xs) y (suc k, h, e) =
    let lt : k < length (map f xs) = omega arith in
    let m = made f xs y (k, lt, e) in
    record { from_item = m.from_item; member = there m.member; is = m.is }
