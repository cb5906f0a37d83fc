-- Expressions, conditions and simple statements without faults fit the layout.
use Rattle.std.proofs.Common.{ℕ, ◌≡◌, true, false, ◌&&◌, ◌⊎◌, inl, inr, List, refl}
use Rattle.std.proofs.lemmas.Bool.{and_parts, and_from, false≢true, or_cases, and_left}
use Rattle.imp_syntax.specs.Plain.{Expression, Literal, Variable, Length, Negative, Binary, Operand, Null, Value, Condition, Compare, Not, And, Or}
use Rattle.imp_syntax.specs.declared.words.Declaration.{Declaration}
use Rattle.imp_syntax.specs.declared.words.Relation.{Relation}
use Rattle.imp_slots.specs.Fits.{fits_term, fits_guard, is_side}
use Rattle.imp_check.specs.Names.{kind_of}
use Rattle.imp_check.specs.Kinds.{int, array, int_expression, int_operand, link_expression, link_operand, is_equality, fits_condition}
use Rattle.imp_check.specs.Slots.{layout_of, term_in, is_link_in, is_link_expression, is_link_operand, link_of, side_in, operand_term, comparison_in, guard_in}
use Rattle.imp_check.specs.Small.{small_expression, small_operand, small_condition}
use Rattle.imp_check.proofs.Lookup.{Apart, int_slot, array_slot, link_there, named_link, not_link, int_no_link, array_no_link}

pub fits_expression : (vs : List Declaration) (e : Expression) → small_expression e ≡ true → int_expression vs e ≡ true → fits_term (layout_of vs) (term_in (layout_of vs) e) ≡ true
unfolding fits_term
fits_expression vs (Literal n) s h = s
fits_expression vs (Variable x) s h = int_slot vs x h
fits_expression vs (Length x) s h = array_slot vs x h
fits_expression vs (Negative e) s h = fits_expression vs e s h
fits_expression vs (Binary o a b) s h =
    let p = and_parts (small_expression a) (small_expression b) s in
    let q = and_parts (int_expression vs a) (int_expression vs b) h in
    and_from (fits_term (layout_of vs) (term_in (layout_of vs) a)) (fits_term (layout_of vs) (term_in (layout_of vs) b)) (fits_expression vs a p.0 q.0) (fits_expression vs b p.1 q.1)

int_operand_fits : (vs : List Declaration) (a : Operand) → small_operand a ≡ true → int_operand vs a ≡ true → fits_term (layout_of vs) (operand_term (layout_of vs) a) ≡ true
int_operand_fits vs Null s h = absurd (false≢true h)
int_operand_fits vs (Value e) s h = fits_expression vs e s h

-- an int variable is no list variable
pub int_is_no_link : (vs : List Declaration) → Apart vs → (x : List ℕ) → int vs x ≡ true → is_link_in (layout_of vs) x ≡ false
int_is_no_link vs a x h = not_link vs a x (int_no_link (kind_of vs x) h)

pub array_is_no_link : (vs : List Declaration) → Apart vs → (x : List ℕ) → array vs x ≡ true → is_link_in (layout_of vs) x ≡ false
array_is_no_link vs a x h = not_link vs a x (array_no_link (kind_of vs x) h)

int_no_link_expression : (vs : List Declaration) → Apart vs → (e : Expression) → int_expression vs e ≡ true → is_link_expression (layout_of vs) e ≡ false
int_no_link_expression vs a (Literal n) h = refl
int_no_link_expression vs a (Variable x) h = int_is_no_link vs a x h
int_no_link_expression vs a (Length x) h = refl
int_no_link_expression vs a (Negative e) h = refl
int_no_link_expression vs a (Binary o e f) h = refl

int_no_link_operand : (vs : List Declaration) → Apart vs → (e : Operand) → int_operand vs e ≡ true → is_link_operand (layout_of vs) e ≡ false
int_no_link_operand vs a Null h = absurd (false≢true h)
int_no_link_operand vs a (Value e) h = int_no_link_expression vs a e h

link_expression_is : (vs : List Declaration) (e : Expression) → link_expression vs e ≡ true → is_link_expression (layout_of vs) e ≡ true
link_expression_is vs (Literal n) h = absurd (false≢true h)
link_expression_is vs (Variable x) h = named_link vs x h
link_expression_is vs (Length x) h = absurd (false≢true h)
link_expression_is vs (Negative e) h = absurd (false≢true h)
link_expression_is vs (Binary o a b) h = absurd (false≢true h)

pub link_operand_is : (vs : List Declaration) (a : Operand) → link_operand vs a ≡ true → is_link_operand (layout_of vs) a ≡ true
link_operand_is vs Null h = refl
link_operand_is vs (Value e) h = link_expression_is vs e h

link_expression_fits : (vs : List Declaration) (e : Expression) → link_expression vs e ≡ true → is_side (layout_of vs) (link_of (layout_of vs) e) ≡ true
link_expression_fits vs (Literal n) h = absurd (false≢true h)
link_expression_fits vs (Variable x) h = link_there vs x h
link_expression_fits vs (Length x) h = absurd (false≢true h)
link_expression_fits vs (Negative e) h = absurd (false≢true h)
link_expression_fits vs (Binary o a b) h = absurd (false≢true h)

pub link_operand_fits : (vs : List Declaration) (a : Operand) → link_operand vs a ≡ true → is_side (layout_of vs) (side_in (layout_of vs) a) ≡ true
link_operand_fits vs Null h = refl
link_operand_fits vs (Value e) h = link_expression_fits vs e h

comparison_fits : (vs : List Declaration) → Apart vs → (r : Relation) (a b : Operand) → (small_operand a && small_operand b) ≡ true → ((int_operand vs a && int_operand vs b) ≡ true) ⊎ ((is_equality r && (link_operand vs a && link_operand vs b)) ≡ true) → fits_guard (layout_of vs) (comparison_in (layout_of vs) r a b) ≡ true
unfolding fits_guard
comparison_fits vs p r a b s (inl h) =
    let l = layout_of vs in
    let q = and_parts (int_operand vs a) (int_operand vs b) h in
    let t = and_parts (small_operand a) (small_operand b) s in
    let e = and_left (is_link_operand l a) (is_link_operand l b) (int_no_link_operand vs p a q.0) in
    rw e (and_from (fits_term l (operand_term l a)) (fits_term l (operand_term l b)) (int_operand_fits vs a t.0 q.0) (int_operand_fits vs b t.1 q.1))
comparison_fits vs p r a b s (inr h) =
    let l = layout_of vs in
    let g = (and_parts (is_equality r) (link_operand vs a && link_operand vs b) h).1 in
    let q = and_parts (link_operand vs a) (link_operand vs b) g in
    let e = and_from (is_link_operand l a) (is_link_operand l b) (link_operand_is vs a q.0) (link_operand_is vs b q.1) in
    rw e (and_from (is_side l (side_in l a)) (is_side l (side_in l b)) (link_operand_fits vs a q.0) (link_operand_fits vs b q.1))

pub condition_fits : (vs : List Declaration) → Apart vs → (c : Condition) → small_condition c ≡ true → fits_condition vs c ≡ true → fits_guard (layout_of vs) (guard_in (layout_of vs) c) ≡ true
unfolding fits_guard
condition_fits vs p (Compare r a b) s h = comparison_fits vs p r a b s (or_cases (int_operand vs a && int_operand vs b) (is_equality r && (link_operand vs a && link_operand vs b)) h)
condition_fits vs p (Not c) s h = condition_fits vs p c s h
condition_fits vs p (And c d) s h =
    let t = and_parts (small_condition c) (small_condition d) s in
    let q = and_parts (fits_condition vs c) (fits_condition vs d) h in
    and_from (fits_guard (layout_of vs) (guard_in (layout_of vs) c)) (fits_guard (layout_of vs) (guard_in (layout_of vs) d)) (condition_fits vs p c t.0 q.0) (condition_fits vs p d t.1 q.1)
condition_fits vs p (Or c d) s h =
    let t = and_parts (small_condition c) (small_condition d) s in
    let q = and_parts (fits_condition vs c) (fits_condition vs d) h in
    and_from (fits_guard (layout_of vs) (guard_in (layout_of vs) c)) (fits_guard (layout_of vs) (guard_in (layout_of vs) d)) (condition_fits vs p c t.0 q.0) (condition_fits vs p d t.1 q.1)
