-- The slots of known names, by their kinds.
use Rattle.std.proofs.Common.{ℕ, ◌≡◌, ◌+◌, ◌<◌, Bool, true, false, not, cond, List, [], ◌∷◌, ◌++◌, length, slice_get, Option, Some, None, refl, sym, ap, ◌∙◌, arith, nat_lt}
use Rattle.std.specs.Str.{bytes_eq}
use Rattle.std.specs.Cmp.Lexicographic.{bytes_decides}
use Rattle.std.proofs.lemmas.Bool.{false≢true, lt-ltb, not-true}
use Rattle.imp_syntax.specs.declared.words.Declaration.{Declaration}
use Rattle.imp_syntax.specs.declared.words.VariableKind.{VariableKind}
use Rattle.imp_syntax.specs.declared.words.VariableKind.TheVariants.{Int, Array, List as OfLinks}
use Rattle.imp_slots.specs.Fits.{is_kind}
use Rattle.imp_check.specs.Faults.{first, unless}
use Rattle.imp_check.specs.Names.{kind_of, is_known, is_int, is_array, is_link}
use Rattle.imp_check.specs.Programs.{variable_fault, variables_fault, count_numeric, count_links, one_numeric, one_link}
use Rattle.imp_check.specs.Slots.{with_numeric, with_link, numerics, links, number_slot, link_slot, names_array, names_link}
use Rattle.imp_check.specs.declared.fault.Fault.TheVariants.{Redeclared, Ints, Lists}
use Rattle.imp_check.proofs.FewLemmas.{first_none, unless_none}

int_by : (k : VariableKind) (y x : List ℕ) (ds : List Declaration) (b : Bool) → bytes_eq y x ≡ b → (is_int (kind_of ds x) ≡ true → is_kind false (slice_get (numerics ds) (number_slot (numerics ds) x)) ≡ true) → is_int (cond b (Some k) (kind_of ds x)) ≡ true → is_kind false (slice_get (with_numeric k y (numerics ds)) (number_slot (with_numeric k y (numerics ds)) x)) ≡ true
int_by Int y x ds true e ih h = rw e refl
int_by Int y x ds false e ih h = rw e (ih h)
int_by Array y x ds true e ih h = absurd (false≢true h)
int_by Array y x ds false e ih h = rw e (ih h)
int_by OfLinks y x ds true e ih h = absurd (false≢true h)
int_by OfLinks y x ds false e ih h = ih h

pub int_slot : (ds : List Declaration) (x : List ℕ) → is_int (kind_of ds x) ≡ true → is_kind false (slice_get (numerics ds) (number_slot (numerics ds) x)) ≡ true
int_slot [] x h = absurd (false≢true h)
int_slot (d ∷ ds) x h = int_by d.kind d.name x ds (bytes_eq d.name x) refl (int_slot ds x) h

array_by : (k : VariableKind) (y x : List ℕ) (ds : List Declaration) (b : Bool) → bytes_eq y x ≡ b → (is_array (kind_of ds x) ≡ true → is_kind true (slice_get (numerics ds) (number_slot (numerics ds) x)) ≡ true) → is_array (cond b (Some k) (kind_of ds x)) ≡ true → is_kind true (slice_get (with_numeric k y (numerics ds)) (number_slot (with_numeric k y (numerics ds)) x)) ≡ true
array_by Int y x ds true e ih h = absurd (false≢true h)
array_by Int y x ds false e ih h = rw e (ih h)
array_by Array y x ds true e ih h = rw e refl
array_by Array y x ds false e ih h = rw e (ih h)
array_by OfLinks y x ds true e ih h = absurd (false≢true h)
array_by OfLinks y x ds false e ih h = ih h

pub array_slot : (ds : List Declaration) (x : List ℕ) → is_array (kind_of ds x) ≡ true → is_kind true (slice_get (numerics ds) (number_slot (numerics ds) x)) ≡ true
array_slot [] x h = absurd (false≢true h)
array_slot (d ∷ ds) x h = array_by d.kind d.name x ds (bytes_eq d.name x) refl (array_slot ds x) h

link_by : (k : VariableKind) (y x : List ℕ) (ds : List Declaration) (b : Bool) → bytes_eq y x ≡ b → (is_link (kind_of ds x) ≡ true → link_slot (links ds) x < length (links ds)) → is_link (cond b (Some k) (kind_of ds x)) ≡ true → link_slot (with_link k y (links ds)) x < length (with_link k y (links ds))
link_by Int y x ds true e ih h = absurd (false≢true h)
link_by Int y x ds false e ih h = ih h
link_by Array y x ds true e ih h = absurd (false≢true h)
link_by Array y x ds false e ih h = ih h
link_by OfLinks y x ds true e ih h = rw e (omega arith)
link_by OfLinks y x ds false e ih h = rw e (omega (arith, ih h))

link_lt : (ds : List Declaration) (x : List ℕ) → is_link (kind_of ds x) ≡ true → link_slot (links ds) x < length (links ds)
link_lt [] x h = absurd (false≢true h)
link_lt (d ∷ ds) x h = link_by d.kind d.name x ds (bytes_eq d.name x) refl (link_lt ds x) h

pub link_there : (ds : List Declaration) (x : List ℕ) → is_link (kind_of ds x) ≡ true → nat_lt (link_slot (links ds) x) (length (links ds)) ≡ true
link_there ds x h = lt-ltb (link_slot (links ds) x) (length (links ds)) (link_lt ds x h)

named_link_by : (k : VariableKind) (y x : List ℕ) (ds : List Declaration) (b : Bool) → bytes_eq y x ≡ b → (is_link (kind_of ds x) ≡ true → names_link (links ds) x ≡ true) → is_link (cond b (Some k) (kind_of ds x)) ≡ true → names_link (with_link k y (links ds)) x ≡ true
named_link_by Int y x ds true e ih h = absurd (false≢true h)
named_link_by Int y x ds false e ih h = ih h
named_link_by Array y x ds true e ih h = absurd (false≢true h)
named_link_by Array y x ds false e ih h = ih h
named_link_by OfLinks y x ds true e ih h = rw e refl
named_link_by OfLinks y x ds false e ih h = rw e (ih h)

pub named_link : (ds : List Declaration) (x : List ℕ) → is_link (kind_of ds x) ≡ true → names_link (links ds) x ≡ true
named_link [] x h = absurd (false≢true h)
named_link (d ∷ ds) x h = named_link_by d.kind d.name x ds (bytes_eq d.name x) refl (named_link ds x) h

named_array_by : (k : VariableKind) (y x : List ℕ) (ds : List Declaration) (b : Bool) → bytes_eq y x ≡ b → (is_array (kind_of ds x) ≡ true → names_array (numerics ds) x ≡ true) → is_array (cond b (Some k) (kind_of ds x)) ≡ true → names_array (with_numeric k y (numerics ds)) x ≡ true
named_array_by Int y x ds true e ih h = absurd (false≢true h)
named_array_by Int y x ds false e ih h = rw e (ih h)
named_array_by Array y x ds true e ih h = rw e refl
named_array_by Array y x ds false e ih h = rw e (ih h)
named_array_by OfLinks y x ds true e ih h = absurd (false≢true h)
named_array_by OfLinks y x ds false e ih h = ih h

pub named_array : (ds : List Declaration) (x : List ℕ) → is_array (kind_of ds x) ≡ true → names_array (numerics ds) x ≡ true
named_array [] x h = absurd (false≢true h)
named_array (d ∷ ds) x h = named_array_by d.kind d.name x ds (bytes_eq d.name x) refl (named_array ds x) h

not_array_by : (k : VariableKind) (y x : List ℕ) (ds : List Declaration) (b : Bool) → bytes_eq y x ≡ b → (is_int (kind_of ds x) ≡ true → names_array (numerics ds) x ≡ false) → is_int (cond b (Some k) (kind_of ds x)) ≡ true → names_array (with_numeric k y (numerics ds)) x ≡ false
not_array_by Int y x ds true e ih h = rw e refl
not_array_by Int y x ds false e ih h = rw e (ih h)
not_array_by Array y x ds true e ih h = absurd (false≢true h)
not_array_by Array y x ds false e ih h = rw e (ih h)
not_array_by OfLinks y x ds true e ih h = absurd (false≢true h)
not_array_by OfLinks y x ds false e ih h = ih h

pub not_array : (ds : List Declaration) (x : List ℕ) → is_int (kind_of ds x) ≡ true → names_array (numerics ds) x ≡ false
not_array [] x h = absurd (false≢true h)
not_array (d ∷ ds) x h = not_array_by d.kind d.name x ds (bytes_eq d.name x) refl (not_array ds x) h

-- no name stands again
abbrev pub Apart : List Declaration → Type 0
Apart [] = Unit {0}
Apart (d ∷ ds) = (kind_of ds d.name ≡ None) × Apart ds

not_link_by : (k : VariableKind) (y x : List ℕ) (ds : List Declaration) (b : Bool) → bytes_eq y x ≡ b → kind_of ds y ≡ None → (is_link (kind_of ds x) ≡ false → names_link (links ds) x ≡ false) → is_link (cond b (Some k) (kind_of ds x)) ≡ false → names_link (with_link k y (links ds)) x ≡ false
not_link_by Int y x ds true e u ih h = ih (ap is_link (ap (kind_of ds) (sym ((bytes_decides y x).0 e)) ∙ u))
not_link_by Int y x ds false e u ih h = ih h
not_link_by Array y x ds true e u ih h = ih (ap is_link (ap (kind_of ds) (sym ((bytes_decides y x).0 e)) ∙ u))
not_link_by Array y x ds false e u ih h = ih h
not_link_by OfLinks y x ds true e u ih h = absurd (false≢true (sym h))
not_link_by OfLinks y x ds false e u ih h = rw e (ih h)

pub not_link : (ds : List Declaration) → Apart ds → (x : List ℕ) → is_link (kind_of ds x) ≡ false → names_link (links ds) x ≡ false
not_link [] a x h = refl
not_link (d ∷ ds) a x h = not_link_by d.kind d.name x ds (bytes_eq d.name x) refl a.0 (not_link ds a.1 x) h

pub int_no_link : (k : Option VariableKind) → is_int k ≡ true → is_link k ≡ false
int_no_link None h = refl
int_no_link (Some Int) h = refl
int_no_link (Some Array) h = refl
int_no_link (Some OfLinks) h = absurd (false≢true h)

pub array_no_link : (k : Option VariableKind) → is_array k ≡ true → is_link k ≡ false
array_no_link None h = refl
array_no_link (Some Int) h = refl
array_no_link (Some Array) h = refl
array_no_link (Some OfLinks) h = absurd (false≢true h)

known_by : (b : Bool) (k : VariableKind) (o : Option VariableKind) → is_known o ≡ true → is_known (cond b (Some k) o) ≡ true
known_by true k o h = refl
known_by false k o h = h

known_last : (seen : List Declaration) (d : Declaration) → is_known (kind_of (seen ++ d ∷ []) d.name) ≡ true
known_last [] d = let e = (bytes_decides d.name d.name).1 refl in rw e refl
known_last (s ∷ seen) d = known_by (bytes_eq s.name d.name) s.kind (kind_of (seen ++ d ∷ []) d.name) (known_last seen d)

known_more_by : (b : Bool) (k : VariableKind) (o p : Option VariableKind) → (is_known o ≡ true → is_known p ≡ true) → is_known (cond b (Some k) o) ≡ true → is_known (cond b (Some k) p) ≡ true
known_more_by true k o p ih h = refl
known_more_by false k o p ih h = ih h

known_more : (seen : List Declaration) (d : Declaration) (x : List ℕ) → is_known (kind_of seen x) ≡ true → is_known (kind_of (seen ++ d ∷ []) x) ≡ true
known_more [] d x h = absurd (false≢true h)
known_more (s ∷ seen) d x h = known_more_by (bytes_eq s.name x) s.kind (kind_of seen x) (kind_of (seen ++ d ∷ []) x) (known_more seen d x) h

new_name : (seen : List Declaration) (d : Declaration) → variable_fault seen d ≡ None → is_known (kind_of seen d.name) ≡ false
new_name seen d h =
    let rest = first (unless (nat_lt (count_numeric seen + one_numeric d.kind) 17) Ints) (unless (nat_lt (count_links seen + one_link d.kind) 9) Lists) in
    let p = (first_none (unless (not (is_known (kind_of seen d.name))) Redeclared) rest h).0 in
    not-true (is_known (kind_of seen d.name)) (unless_none (not (is_known (kind_of seen d.name))) Redeclared p)

unknown_by : (b : Bool) (y x : List ℕ) (k : VariableKind) (o : Option VariableKind) (seen : List Declaration) → bytes_eq y x ≡ b → is_known (kind_of seen y) ≡ false → is_known (kind_of seen x) ≡ true → o ≡ None → cond b (Some k) o ≡ None
unknown_by true y x k o seen e n h g = absurd (false≢true (sym n ∙ ap (λ (z : List ℕ). is_known (kind_of seen z)) ((bytes_decides y x).0 e) ∙ h))
unknown_by false y x k o seen e n h g = g

later_unknown : (seen ds : List Declaration) (x : List ℕ) → variables_fault seen ds ≡ None → is_known (kind_of seen x) ≡ true → kind_of ds x ≡ None
later_unknown seen [] x h k = refl
later_unknown seen (d ∷ ds) x h k =
    let p = first_none (variable_fault seen d) (variables_fault (seen ++ d ∷ []) ds) h in
    unknown_by (bytes_eq d.name x) d.name x d.kind (kind_of ds x) seen refl (new_name seen d p.0) k (later_unknown (seen ++ d ∷ []) ds x p.1 (known_more seen d x k))

pub apart : (seen ds : List Declaration) → variables_fault seen ds ≡ None → Apart ds
apart seen [] h = tt
apart seen (d ∷ ds) h =
    let p = first_none (variable_fault seen d) (variables_fault (seen ++ d ∷ []) ds) h in
    (later_unknown (seen ++ d ∷ []) ds d.name p.1 (known_last seen d), apart (seen ++ d ∷ []) ds p.1)
