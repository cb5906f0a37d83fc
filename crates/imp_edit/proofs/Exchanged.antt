-- An edit at a statement's number is an exchange of a part of the block in which the statement stands.
use Rattle.std.proofs.lemmas.Bool.Decides.{nat_tests}
use Rattle.std.proofs.Common.{◌≡◌, ◌≢◌, ℕ, ◌==◌, cond, List, [], ◌∷◌, ◌++◌, true, refl, sym, ap, ◌∙◌, subst, arith, append-nil}
use Rattle.imp_syntax.specs.Plain.{Statement, Simple, Break, Call, If, While, Statements, Ends, Starts, Procedure, number_of, numbers_in, numbers, program_numbers}
use Rattle.imp_slots.specs.Fits.{Absent, Distinct}
use Rattle.edit_entries.specs.Holes.{append, Hole, Then, Else, Body, fill, plug, with_body}
use Rattle.edit_entries.proofs.Stay.{other_number}
use Rattle.edit_entries.proofs.Located.{Has, Located}
use Rattle.edit_entries.proofs.Numbers.{numbers_append, filled as numbers_filled, middle_alone}
use Rattle.edit_entries.proofs.Standing.{Stands, has_left, has_right, has_plugged, distinct_right, inner_once, deep_once, head_has, own_distinct, located_has}
use Rattle.imp_edit.specs.Changes.{in_statement, in_block, in_program}
use Rattle.imp_slots.proofs.Distinct.{absent_left, absent_right}

head_other : {n : ℕ} (s : Statement) → Absent n (numbers_in s) → n ≢ number_of s
head_other (Simple m a) h = h.0
head_other (Break m) h = h.0
head_other (Call m x g es) h = h.0
head_other (If m c t e) h = h.0
head_other (While m c b) h = h.0

-- An edit at a number leaves the statements that do not have it.
module _ (n : ℕ) (made : Statement → Statements) where
  mutual
    absent_statement : (s : Statement) → Absent n (numbers_in s) → in_statement n made s ≡ s
    absent_statement (Simple m a) h = refl
    absent_statement (Break m) h = refl
    absent_statement (Call m x g es) h = refl
    absent_statement (If m c t e) h =
        ap (λ x. If m c x (in_block n made e)) (absent_block t (absent_left n (numbers t) (numbers e) h.1))
        ∙ ap (If m c t) (absent_block e (absent_right n (numbers t) (numbers e) h.1))
    absent_statement (While m c b) h = ap (While m c) (absent_block b h.1)

    pub absent_block : (b : Statements) → Absent n (numbers b) → in_block n made b ≡ b
    absent_block Ends h = refl
    absent_block (Starts s ss) h =
        ap (λ t. cond t (append (made s) ss) (Starts (in_statement n made s) (in_block n made ss))) (other_number (number_of s) n (head_other s (absent_left n (numbers_in s) (numbers ss) h)))
        ∙ ap (λ x. Starts x (in_block n made ss)) (absent_statement s (absent_left n (numbers_in s) (numbers ss) h))
        ∙ ap (Starts s) (absent_block ss (absent_right n (numbers_in s) (numbers ss) h))

  -- .. and comes to the one that has it.
  past : (b : Statements) (s : Statement) (r : Statements) → Absent n (numbers b) → in_block n made (append b (Starts s r)) ≡ append b (in_block n made (Starts s r))
  past Ends s r h = refl
  past (Starts x b) s r h =
      ap (λ t. cond t (append (made x) (append b (Starts s r))) (Starts (in_statement n made x) (in_block n made (append b (Starts s r))))) (other_number (number_of x) n (head_other x (absent_left n (numbers_in x) (numbers b) h)))
      ∙ ap (λ y. Starts y (in_block n made (append b (Starts s r)))) (absent_statement x (absent_left n (numbers_in x) (numbers b) h))
      ∙ ap (Starts x) (past b s r (absent_right n (numbers_in x) (numbers b) h))

  -- the numbers around a hole
  abbrev pub outside : Hole → Type 0
  outside (Then b m c e r) = Absent n (numbers b) × (n ≢ m) × Absent n (numbers e) × Absent n (numbers r)
  outside (Else b m c t r) = Absent n (numbers b) × (n ≢ m) × Absent n (numbers t) × Absent n (numbers r)
  outside (Body b m c r) = Absent n (numbers b) × (n ≢ m) × Absent n (numbers r)

  abbrev pub Outside : List Hole → Type 0
  Outside [] = Unit {0}
  Outside (h ∷ hs) = outside h × Outside hs

  filled : (h : Hole) (x : Statements) → outside h → in_block n made (fill h x) ≡ fill h (in_block n made x)
  filled (Then b m c e r) x o =
      past b (If m c x e) r o.0
      ∙ ap (λ t. append b (cond t (append (made (If m c x e)) r) (Starts (If m c (in_block n made x) (in_block n made e)) (in_block n made r)))) (other_number m n o.1)
      ∙ ap (λ y. append b (Starts (If m c (in_block n made x) y) (in_block n made r))) (absent_block e o.2)
      ∙ ap (λ y. append b (Starts (If m c (in_block n made x) e) y)) (absent_block r o.3)
  filled (Else b m c t r) x o =
      past b (If m c t x) r o.0
      ∙ ap (λ u. append b (cond u (append (made (If m c t x)) r) (Starts (If m c (in_block n made t) (in_block n made x)) (in_block n made r)))) (other_number m n o.1)
      ∙ ap (λ y. append b (Starts (If m c y (in_block n made x)) (in_block n made r))) (absent_block t o.2)
      ∙ ap (λ y. append b (Starts (If m c t (in_block n made x)) y)) (absent_block r o.3)
  filled (Body b m c r) x o =
      past b (While m c x) r o.0
      ∙ ap (λ u. append b (cond u (append (made (While m c x)) r) (Starts (While m c (in_block n made x)) (in_block n made r)))) (other_number m n o.1)
      ∙ ap (λ y. append b (Starts (While m c (in_block n made x)) y)) (absent_block r o.2)

  plugged : (hs : List Hole) (x : Statements) → Outside hs → in_block n made (plug hs x) ≡ plug hs (in_block n made x)
  plugged [] x o = refl
  plugged (h ∷ hs) x o = filled h (plug hs x) o.0 ∙ ap (fill h) (plugged hs x o.1)

  same_number : (m : ℕ) → m ≡ n → (m == n) ≡ true
  same_number m e = grind (arith, nat_tests)

  -- An edit at a statement that stands nowhere else is an edit of what stands from it on in its block.
  pub edit_is : (hs : List Hole) (before : Statements) (s : Statement) (behind : Statements) → Outside hs → Absent n (numbers before) → number_of s ≡ n → in_block n made (plug hs (append before (Starts s behind))) ≡ plug hs (append before (append (made s) behind))
  edit_is hs before s behind o h e =
      plugged hs (append before (Starts s behind)) o
      ∙ ap (plug hs) (past before s behind h ∙ ap (λ t. append before (cond t (append (made s) behind) (Starts (in_statement n made s) (in_block n made behind)))) (same_number (number_of s) e))

module _ (n : ℕ) (made : Statement → Statements) where
  around : (h : Hole) (x : Statements) → Distinct (numbers (fill h x)) → Has n (numbers x) → outside n made h
  around (Then b m c e r) x d i =
      let g = numbers_filled (Then b m c e r) in
      let a = middle_alone g.0 (numbers x) g.1 n (subst Distinct (g.2 x) d) i in
      let l = absent_left n (numbers b ++ m ∷ []) (numbers e ++ numbers r) a in
      let k = absent_right n (numbers b ++ m ∷ []) (numbers e ++ numbers r) a in
      (absent_left n (numbers b) (m ∷ []) l, (absent_right n (numbers b) (m ∷ []) l).0, absent_left n (numbers e) (numbers r) k, absent_right n (numbers e) (numbers r) k)
  around (Else b m c t r) x d i =
      let g = numbers_filled (Else b m c t r) in
      let a = middle_alone g.0 (numbers x) g.1 n (subst Distinct (g.2 x) d) i in
      let l = absent_left n (numbers b ++ m ∷ numbers t) (numbers r) a in
      let k = absent_right n (numbers b) (m ∷ numbers t) l in
      (absent_left n (numbers b) (m ∷ numbers t) l, k.0, k.1, absent_right n (numbers b ++ m ∷ numbers t) (numbers r) a)
  around (Body b m c r) x d i =
      let g = numbers_filled (Body b m c r) in
      let a = middle_alone g.0 (numbers x) g.1 n (subst Distinct (g.2 x) d) i in
      let l = absent_left n (numbers b ++ m ∷ []) (numbers r) a in
      (absent_left n (numbers b) (m ∷ []) l, (absent_right n (numbers b) (m ∷ []) l).0, absent_right n (numbers b ++ m ∷ []) (numbers r) a)

  all_around : (hs : List Hole) (x : Statements) → Distinct (numbers (plug hs x)) → Has n (numbers x) → Outside n made hs
  all_around [] x d i = tt
  all_around (h ∷ hs) x d i = (around h (plug hs x) d (has_plugged n hs x i), all_around hs x (inner_once h (plug hs x) d) i)

  -- In its procedure ..
  pub own_edited : (b : Statements) → Distinct (numbers b) → (l : Located n b) → in_block n made b ≡ plug l.holes (append l.before (append (made l.stmt) l.behind))
  own_edited b d l =
      let x = append l.before (Starts l.stmt l.behind) in
      let d1 : Distinct (numbers (plug l.holes x)) = subst (λ z. Distinct (numbers z)) l.is d in
      let d2 : Distinct (numbers l.before ++ (numbers_in l.stmt ++ numbers l.behind)) = subst Distinct (numbers_append l.before (Starts l.stmt l.behind)) (deep_once l.holes x d1) in
      let i : Has n (numbers_in l.stmt) = head_has n l.stmt l.number in
      let j : Has n (numbers x) = subst (Has n) (sym (numbers_append l.before (Starts l.stmt l.behind))) (has_right n (numbers l.before) (numbers_in l.stmt ++ numbers l.behind) (has_left n (numbers_in l.stmt) (numbers l.behind) i)) in
      let a = absent_left n (numbers l.before) (numbers l.behind) (middle_alone (numbers l.before) (numbers_in l.stmt) (numbers l.behind) n d2 i) in
      ap (in_block n made) l.is ∙ edit_is n made l.holes l.before l.stmt l.behind (all_around l.holes x d1 j) a l.number

  -- .. and in the program.
  absent_program : (ps : List Procedure) → Absent n (program_numbers ps) → in_program n made ps ≡ ps
  absent_program [] a = refl
  absent_program (p ∷ ps) a =
      ap (λ b. with_body p b ∷ in_program n made ps) (absent_block n made p.body (absent_left n (numbers p.body) (program_numbers ps) a))
      ∙ ap (λ (os : List Procedure). p ∷ os) (absent_program ps (absent_right n (numbers p.body) (program_numbers ps) a))

  program_at : (ps : List Procedure) (p : Procedure) (qs : List Procedure) → Distinct (program_numbers (ps ++ p ∷ qs)) → Has n (numbers p.body) → in_program n made (ps ++ p ∷ qs) ≡ ps ++ with_body p (in_block n made p.body) ∷ qs
  program_at [] p qs d i = ap (λ (os : List Procedure). with_body p (in_block n made p.body) ∷ os) (absent_program qs (middle_alone [] (numbers p.body) (program_numbers qs) n d i))
  program_at (x ∷ ps) p qs d i =
      let a = middle_alone (numbers x.body) (program_numbers (ps ++ p ∷ qs)) [] n (subst Distinct (ap (λ k. numbers x.body ++ k) (sym (append-nil (program_numbers (ps ++ p ∷ qs))))) d) (inside ps) in
      ap (λ b. with_body x b ∷ in_program n made (ps ++ p ∷ qs)) (absent_block n made x.body (absent_left n (numbers x.body) [] a))
      ∙ ap (λ (os : List Procedure). x ∷ os) (program_at ps p qs (distinct_right (numbers x.body) (program_numbers (ps ++ p ∷ qs)) d) i)
    where
      inside : (os : List Procedure) → Has n (program_numbers (os ++ p ∷ qs))
      inside [] = has_left n (numbers p.body) (program_numbers qs) i
      inside (y ∷ os) = has_right n (numbers y.body) (program_numbers (os ++ p ∷ qs)) (inside os)

  pub program_edited : (ps : List Procedure) → Distinct (program_numbers ps) → (s : Stands n ps) →
      in_program n made ps ≡ s.front ++ with_body s.own (plug s.place.holes (append s.place.before (append (made s.place.stmt) s.place.behind))) ∷ s.back
  program_edited ps d s =
      let e = subst (λ (os : List Procedure). Distinct (program_numbers os)) s.is d in
      ap (in_program n made) s.is
      ∙ program_at s.front s.own s.back e (located_has n s.own.body s.place)
      ∙ ap (λ b. s.front ++ with_body s.own b ∷ s.back) (own_edited s.own.body (own_distinct s.front s.own s.back e) s.place)
