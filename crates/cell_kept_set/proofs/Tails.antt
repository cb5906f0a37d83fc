-- Procedures of a program with those before them: told by name, and the statements that they have.
use Rattle.std.proofs.lemmas.List.{reverse-append, map-append}
use Rattle.std.proofs.Common.{◌≡◌, ◌≢◌, ℕ, List, [], ◌∷◌, ◌++◌, length, map, reverse, if◌then◌else◌, refl, sym, ap, ◌∙◌, subst}
use Rattle.imp_slots.specs.Plain.{Routine}
use Rattle.imp_slots.specs.Fits.{Absent, Distinct, IsChecked}
use Rattle.batch_meaning.specs.Places.{from}
use Rattle.cell_names.specs.declared.frame.Point.TheVariants.{Entry}
use Rattle.base_values.proofs.Cases.{by_test}
use Rattle.base_values.proofs.Members.{Member, in_left, in_right, Each, each_both, none_there, each_as, in_map}
use Rattle.cell_rows.specs.Targets.{Text, texts}
use Rattle.cell_rows.specs.Flat.{Flat, flat_of, flat}
use Rattle.cell_rows.proofs.Listed.{each_map}
use Rattle.imp_slots.proofs.Distinct.{absent_end}

-- the first list is the end of the second
pub data Tail : List Routine → List Routine → Type 0 where
  whole : {ps : List Routine} → Tail ps ps
  behind : (r : Routine) {qs ps : List Routine} → Tail qs ps → Tail qs (r ∷ ps)

pub tail_trans : {xs ys zs : List Routine} → Tail xs ys → Tail ys zs → Tail xs zs
tail_trans s whole = s
tail_trans s (behind r t) = behind r (tail_trans s t)

pub tail_rest : (r : Routine) (e : List Routine) {ps : List Routine} → Tail (r ∷ e) ps → Tail e ps
tail_rest r e t = tail_trans (behind r whole) t

pub from_tail : (ps : List Routine) (q : ℕ) (r : Routine) (e : List Routine) → from ps q ≡ r ∷ e → Tail (r ∷ e) ps
from_tail [] q r e h = absurd cc
from_tail (p ∷ ps) q r e h =
    (by_test q (length ps) (λ c. (if c then p ∷ ps else from ps q) ≡ r ∷ e → Tail (r ∷ e) (p ∷ ps))
    (λ k h. subst (λ xs. Tail xs (p ∷ ps)) h whole)
    (λ k h. behind p (from_tail ps q r e h))) h

pub tail_in : (r : Routine) (e : List Routine) {ps : List Routine} → Tail (r ∷ e) ps → (x : ℕ × Text) → Member x (texts r.code Entry) → Member (flat_of r e x) (flat ps)
tail_in r e whole x m = in_left (flat e) (in_map (flat_of r e) x (texts r.code Entry) m)
tail_in r e (behind s {ps = ps} t) x m = in_right (map (flat_of s ps) (texts s.code Entry)) (tail_in r e t x m)

pub record Listed (ps : List Routine) (x : ℕ × Flat) : Type 0 where
  pub tail : Tail (x.1.routine ∷ x.1.earlier) ps
  pub text : Member (x.0, x.1.text) (texts x.1.routine.code Entry)

pub all_listed : (ps : List Routine) → Each (Listed ps) (flat ps)
all_listed [] = none_there (Listed [])
all_listed (r ∷ e) =
    each_both (Listed (r ∷ e)) _ _
    (each_map (flat_of r e) (λ q. Member q (texts r.code Entry)) (Listed (r ∷ e)) (λ q m. record { tail = whole; text = m }) (texts r.code Entry) (record { at = λ q m. m }))
    (each_as (Listed e) (Listed (r ∷ e)) (flat e) (λ x l. record { tail = behind r l.tail; text = l.text }) (all_listed e))

abbrev pub names_of : List Routine → List (List ℕ)
names_of ps = map (λ (r : Routine). r.name) ps

other_name : (n : List ℕ) (s : Routine) (d : List Routine) {ps : List Routine} → Tail (s ∷ d) ps → Absent n (names_of ps) → n ≢ s.name
other_name n s d whole a = a.0
other_name n s d (behind r t) a = other_name n s d t a.1

abbrev Same : Routine → List Routine → Routine → List Routine → Type 0
Same r e s d = (r ≡ s) × (e ≡ d)

-- A name tells a procedure and those before it.
pub tail_same : (r s : Routine) (e d ps : List Routine) → Distinct (names_of ps) → Tail (r ∷ e) ps → Tail (s ∷ d) ps → r.name ≡ s.name → Same r e s d
tail_same r s e d ps once whole whole h = (refl, refl)
tail_same r s e d ps once whole (behind p t) h = absurd (other_name r.name s d t once.0 h)
tail_same r s e d ps once (behind p t) whole h = absurd (other_name s.name r e t once.0 (sym h))
tail_same r s e d ps once (behind p t) (behind q u) h = tail_same r s e d _ once.1 t u h

distinct_end : (m : List ℕ) (xs : List (List ℕ)) → Distinct xs → Absent m xs → Distinct (xs ++ m ∷ [])
distinct_end m [] d a = (tt, tt)
distinct_end m (x ∷ xs) d a = (absent_end x m xs d.0 (λ e. a.0 (sym e)), distinct_end m xs d.1 a.1)

backwards : (p : Routine) (ps : List Routine) → names_of (reverse (p ∷ ps)) ≡ names_of (reverse ps) ++ p.name ∷ []
backwards p ps = ap names_of (reverse-append (p ∷ []) ps) ∙ map-append (λ (r : Routine). r.name) (reverse ps) (p ∷ [])

absent_back : (n : List ℕ) (ps : List Routine) → Absent n (names_of ps) → Absent n (names_of (reverse ps))
absent_back n [] a = tt
absent_back n (p ∷ ps) a = subst (Absent n) (sym (backwards p ps)) (absent_end n p.name (names_of (reverse ps)) (absent_back n ps a.1) a.0)

back_once : (ps : List Routine) → Distinct (names_of ps) → Distinct (names_of (reverse ps))
back_once [] d = tt
back_once (p ∷ ps) d = subst Distinct (sym (backwards p ps)) (distinct_end p.name (names_of (reverse ps)) (back_once ps d.1) (absent_back p.name ps d.0))

pub names_back : (program : List Routine) → IsChecked program → Distinct (names_of (reverse program))
names_back program c = back_once program c.names_once
