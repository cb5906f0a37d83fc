-- Simple statements and calls without faults fit the layouts.
use Rattle.std.proofs.Common.{ℕ, suc, ◌≡◌, Bool, true, false, ◌&&◌, ◌||◌, cond, ◌⊎◌, inl, inr, List, [], ◌∷◌, ◌++◌, length, Option, Some, None, refl, sym, ap, ◌∙◌, arith, subst, append_assoc}
use Rattle.std.specs.Str.{bytes_eq}
use Rattle.std.specs.Cmp.Lexicographic.{bytes_decides}
use Rattle.std.proofs.lemmas.Bool.{and_parts, and_from, false≢true, lt-ltb, or_cases, or_right}
use Rattle.imp_syntax.specs.Plain.{Expression, Literal, Variable, Length, Negative, Binary, Operand, Null, Value, Action, Skip, Assert, Assign, Input, MakeArray, SetNull, MakeCell, ReadElement, ReadNext, ReadItem, WriteElement, WriteNext, WriteItem, Procedure}
use Rattle.imp_syntax.specs.declared.words.Declaration.{Declaration}
use Rattle.imp_syntax.specs.declared.words.VariableKind.{VariableKind}
use Rattle.imp_syntax.specs.declared.words.VariableKind.TheVariants.{Int, Array, List as OfLinks}
use Rattle.imp_slots.specs.Fits as fits
use Rattle.imp_slots.specs.Fits.{fits_term, fits_effect, fits_arguments, fits_returning, fits_invoke}
use Rattle.imp_slots.specs.Plain as slot
use Rattle.imp_slots.specs.Plain.{Numeric}
use Rattle.imp_check.specs.Names.{kind_of, is_int, is_array, is_link, variables, outcomes}
use Rattle.imp_check.specs.Kinds.{int, array, link, int_expression, int_operand, array_operand, link_operand, fits_assign, fits_action}
use Rattle.imp_check.specs.Statements.{same_length, fits_parameter, fit_parameters, fits_result}
use Rattle.imp_check.specs.Slots.{with_numeric, with_link, layout_of, layout_in, numerics, links, number_in, link_in, term_in, copy_in, assign_in, effect_in, expression_argument, argument_in, arguments_in, result_in, returning_in, invoke_of}
use Rattle.imp_check.specs.Small.{small_expression, small_operand, small_operands, small_action}
use Rattle.imp_check.proofs.Lookup.{Apart, int_slot, array_slot, link_there, named_link, named_array, not_array}
use Rattle.imp_check.proofs.FitsTerms.{fits_expression, int_is_no_link, array_is_no_link, condition_fits}

assign_int : (vs : List Declaration) (x : List ℕ) (e : Expression) → small_expression e ≡ true → int vs x ≡ true → int_expression vs e ≡ true → fits_effect (layout_of vs) (slot.SetInt (number_in (layout_of vs) x) (term_in (layout_of vs) e)) ≡ true
unfolding fits_effect
assign_int vs x e s h k = and_from (fits.is_int (layout_of vs) (number_in (layout_of vs) x)) (fits_term (layout_of vs) (term_in (layout_of vs) e)) (int_slot vs x h) (fits_expression vs e s k)

copy_rest : (vs : List Declaration) → Apart vs → (x y : List ℕ) → ((array vs x && array vs y) ≡ true) ⊎ ((link vs x && link vs y) ≡ true) → fits_effect (layout_of vs) (copy_in (layout_of vs) x y) ≡ true
unfolding fits_effect
copy_rest vs p x y (inl h) =
    let l = layout_of vs in
    let q = and_parts (array vs x) (array vs y) h in
    let e = array_is_no_link vs p x q.0 in
    let f = named_array vs x q.0 in
    rw (e, f) (and_from (fits.is_array l (number_in l x)) (fits.is_array l (number_in l y)) (array_slot vs x q.0) (array_slot vs y q.1))
copy_rest vs p x y (inr h) =
    let l = layout_of vs in
    let q = and_parts (link vs x) (link vs y) h in
    let e = named_link vs x q.0 in
    rw e (and_from (fits.is_link l (link_in l x)) (fits.is_link l (link_in l y)) (link_there vs x q.0) (link_there vs y q.1))

copy_fits : (vs : List Declaration) → Apart vs → (x y : List ℕ) → ((int vs x && int vs y) ≡ true) ⊎ (((array vs x && array vs y) || (link vs x && link vs y)) ≡ true) → fits_effect (layout_of vs) (copy_in (layout_of vs) x y) ≡ true
copy_fits vs p x y (inl h) =
    let q = and_parts (int vs x) (int vs y) h in
    let e = int_is_no_link vs p x q.0 in
    let f = not_array vs x q.0 in
    rw (e, f) (assign_int vs x (Variable y) refl q.0 q.1)
copy_fits vs p x y (inr h) = copy_rest vs p x y (or_cases (array vs x && array vs y) (link vs x && link vs y) h)

-- of an expression that is no variable alone only an int is assigned
int_alone : (a i l : Bool) → (i || ((a && false) || (l && false))) ≡ true → i ≡ true
int_alone a true l h = refl
int_alone true false true h = absurd (false≢true h)
int_alone true false false h = absurd (false≢true h)
int_alone false false true h = absurd (false≢true h)
int_alone false false false h = absurd (false≢true h)

assign_alone : (vs : List Declaration) (x : List ℕ) (e : Expression) → small_expression e ≡ true → ((int vs x && int_expression vs e) || ((array vs x && false) || (link vs x && false))) ≡ true → fits_effect (layout_of vs) (slot.SetInt (number_in (layout_of vs) x) (term_in (layout_of vs) e)) ≡ true
assign_alone vs x e s h =
    let q = and_parts (int vs x) (int_expression vs e) (int_alone (array vs x) (int vs x && int_expression vs e) (link vs x) h) in
    assign_int vs x e s q.0 q.1

assign_fits : (vs : List Declaration) → Apart vs → (x : List ℕ) (e : Expression) → small_expression e ≡ true → fits_assign vs x e ≡ true → fits_effect (layout_of vs) (assign_in (layout_of vs) x e) ≡ true
assign_fits vs p x (Literal n) s h = assign_alone vs x (Literal n) s h
assign_fits vs p x (Variable y) s h = copy_fits vs p x y (or_cases (int vs x && int vs y) ((array vs x && array vs y) || (link vs x && link vs y)) h)
assign_fits vs p x (Length y) s h = assign_alone vs x (Length y) s h
assign_fits vs p x (Negative e) s h = assign_alone vs x (Negative e) s h
assign_fits vs p x (Binary o a b) s h = assign_alone vs x (Binary o a b) s h

pub action_fits : (vs : List Declaration) → Apart vs → (a : Action) → small_action a ≡ true → fits_action vs a ≡ true → fits_effect (layout_of vs) (effect_in (layout_of vs) a) ≡ true
unfolding fits_effect
action_fits vs p Skip s h = refl
action_fits vs p (Assert c) s h = condition_fits vs p c s h
action_fits vs p (Assign x e) s h = assign_fits vs p x e s h
action_fits vs p (Input x) s h = int_slot vs x h
action_fits vs p (MakeArray x e) s h =
    let l = layout_of vs in
    let q = and_parts (array vs x) (int_expression vs e) h in
    and_from (fits.is_array l (number_in l x)) (fits_term l (term_in l e)) (array_slot vs x q.0) (fits_expression vs e s q.1)
action_fits vs p (SetNull x) s h = link_there vs x h
action_fits vs p (MakeCell x) s h = link_there vs x h
action_fits vs p (ReadElement x a e) s h =
    let l = layout_of vs in
    let q = and_parts (int vs x) (array vs a && int_expression vs e) h in
    let r = and_parts (array vs a) (int_expression vs e) q.1 in
    and_from (fits.is_int l (number_in l x)) (fits.is_array l (number_in l a) && fits_term l (term_in l e)) (int_slot vs x q.0) (and_from (fits.is_array l (number_in l a)) (fits_term l (term_in l e)) (array_slot vs a r.0) (fits_expression vs e s r.1))
action_fits vs p (ReadNext x y) s h =
    let l = layout_of vs in
    let q = and_parts (link vs x) (link vs y) h in
    and_from (fits.is_link l (link_in l x)) (fits.is_link l (link_in l y)) (link_there vs x q.0) (link_there vs y q.1)
action_fits vs p (ReadItem x y) s h =
    let l = layout_of vs in
    let q = and_parts (int vs x) (link vs y) h in
    and_from (fits.is_int l (number_in l x)) (fits.is_link l (link_in l y)) (int_slot vs x q.0) (link_there vs y q.1)
action_fits vs p (WriteElement a e f) s h =
    let l = layout_of vs in
    let t = and_parts (small_expression e) (small_expression f) s in
    let q = and_parts (array vs a) (int_expression vs e && int_expression vs f) h in
    let r = and_parts (int_expression vs e) (int_expression vs f) q.1 in
    and_from (fits.is_array l (number_in l a)) (fits_term l (term_in l e) && fits_term l (term_in l f)) (array_slot vs a q.0) (and_from (fits_term l (term_in l e)) (fits_term l (term_in l f)) (fits_expression vs e t.0 r.0) (fits_expression vs f t.1 r.1))
action_fits vs p (WriteNext x y) s h =
    let l = layout_of vs in
    let q = and_parts (link vs x) (link vs y) h in
    and_from (fits.is_link l (link_in l x)) (fits.is_link l (link_in l y)) (link_there vs x q.0) (link_there vs y q.1)
action_fits vs p (WriteItem x e) s h =
    let l = layout_of vs in
    let q = and_parts (link vs x) (int_expression vs e) h in
    and_from (fits.is_link l (link_in l x)) (fits_term l (term_in l e)) (link_there vs x q.0) (fits_expression vs e s q.1)

int_argument : (vs : List Declaration) → Apart vs → (e : Expression) → int_expression vs e ≡ true → expression_argument (layout_of vs) e ≡ slot.IntArgument (term_in (layout_of vs) e)
int_argument vs p (Literal n) h = refl
int_argument vs p (Variable y) h =
    let e = int_is_no_link vs p y h in
    let f = not_array vs y h in
    rw (e, f) refl
int_argument vs p (Length y) h = refl
int_argument vs p (Negative e) h = refl
int_argument vs p (Binary o a b) h = refl

int_parameter : (vs : List Declaration) → Apart vs → (y : List ℕ) (a : Operand) (more : List slot.Argument) (ns : List Numeric) (ls : List (List ℕ)) → small_operand a ≡ true → int_operand vs a ≡ true → fits_arguments (layout_of vs) more ns ls ≡ true → fits_arguments (layout_of vs) (argument_in (layout_of vs) a ∷ more) (with_numeric Int y ns) ls ≡ true
int_parameter vs p y Null more ns ls s h k = absurd (false≢true h)
int_parameter vs p y (Value e) more ns ls s h k =
    let q = int_argument vs p e h in
    rw q (and_from (fits_term (layout_of vs) (term_in (layout_of vs) e)) (fits_arguments (layout_of vs) more ns ls) (fits_expression vs e s h) k)

array_parameter : (vs : List Declaration) → Apart vs → (y : List ℕ) (a : Operand) (more : List slot.Argument) (ns : List Numeric) (ls : List (List ℕ)) → array_operand vs a ≡ true → fits_arguments (layout_of vs) more ns ls ≡ true → fits_arguments (layout_of vs) (argument_in (layout_of vs) a ∷ more) (with_numeric Array y ns) ls ≡ true
array_parameter vs p y Null more ns ls h k = absurd (false≢true h)
array_parameter vs p y (Value (Literal n)) more ns ls h k = absurd (false≢true h)
array_parameter vs p y (Value (Variable x)) more ns ls h k =
    let e = array_is_no_link vs p x h in
    let f = named_array vs x h in
    rw (e, f) (and_from (fits.is_array (layout_of vs) (number_in (layout_of vs) x)) (fits_arguments (layout_of vs) more ns ls) (array_slot vs x h) k)
array_parameter vs p y (Value (Length x)) more ns ls h k = absurd (false≢true h)
array_parameter vs p y (Value (Negative e)) more ns ls h k = absurd (false≢true h)
array_parameter vs p y (Value (Binary o a b)) more ns ls h k = absurd (false≢true h)

link_parameter : (vs : List Declaration) (y : List ℕ) (a : Operand) (more : List slot.Argument) (ns : List Numeric) (ls : List (List ℕ)) → link_operand vs a ≡ true → fits_arguments (layout_of vs) more ns ls ≡ true → fits_arguments (layout_of vs) (argument_in (layout_of vs) a ∷ more) ns (with_link OfLinks y ls) ≡ true
link_parameter vs y Null more ns ls h k = let t = lt-ltb 0 (suc (length ls)) (omega arith) in rw t k
link_parameter vs y (Value (Literal n)) more ns ls h k = absurd (false≢true h)
link_parameter vs y (Value (Variable x)) more ns ls h k =
    let t = lt-ltb 0 (suc (length ls)) (omega arith) in
    let e = named_link vs x h in
    rw (e, t) (and_from (fits.is_link (layout_of vs) (link_in (layout_of vs) x)) (fits_arguments (layout_of vs) more ns ls) (link_there vs x h) k)
link_parameter vs y (Value (Length x)) more ns ls h k = absurd (false≢true h)
link_parameter vs y (Value (Negative e)) more ns ls h k = absurd (false≢true h)
link_parameter vs y (Value (Binary o a b)) more ns ls h k = absurd (false≢true h)

parameter_step : (vs : List Declaration) → Apart vs → (kind : VariableKind) (y : List ℕ) (a : Operand) (more : List slot.Argument) (ns : List Numeric) (ls : List (List ℕ)) → small_operand a ≡ true → fits_parameter vs a kind ≡ true → fits_arguments (layout_of vs) more ns ls ≡ true → fits_arguments (layout_of vs) (argument_in (layout_of vs) a ∷ more) (with_numeric kind y ns) (with_link kind y ls) ≡ true
parameter_step vs p Int y a more ns ls s h k = int_parameter vs p y a more ns ls s h k
parameter_step vs p Array y a more ns ls s h k = array_parameter vs p y a more ns ls h k
parameter_step vs p OfLinks y a more ns ls s h k = link_parameter vs y a more ns ls h k

pub parameters_fit : (vs : List Declaration) → Apart vs → (es : List Operand) (ds rest : List Declaration) → small_operands es ≡ true → same_length es ds ≡ true → fit_parameters vs es ds ≡ true → fits_arguments (layout_of vs) (arguments_in (layout_of vs) es) (numerics (ds ++ rest)) (links (ds ++ rest)) ≡ true
parameters_fit vs p [] [] rest s n h = refl
parameters_fit vs p [] (d ∷ ds) rest s n h = absurd (false≢true n)
parameters_fit vs p (a ∷ es) [] rest s n h = absurd (false≢true n)
parameters_fit vs p (a ∷ es) (d ∷ ds) rest s n h =
    let t = and_parts (small_operand a) (small_operands es) s in
    let q = and_parts (fits_parameter vs a d.kind) (fit_parameters vs es ds) h in
    parameter_step vs p d.kind d.name a (arguments_in (layout_of vs) es) (numerics (ds ++ rest)) (links (ds ++ rest)) t.0 q.0 (parameters_fit vs p es ds rest t.1 n q.1)

-- a variable's name has its kind, where no name stands again
own_by : (b : Bool) (y x : List ℕ) (ds : List Declaration) (k k' : VariableKind) → bytes_eq y x ≡ b → kind_of ds y ≡ None → kind_of ds x ≡ Some k → cond b (Some k') (kind_of ds x) ≡ Some k
own_by true y x ds k k' e n h = let q = sym n ∙ ap (kind_of ds) ((bytes_decides y x).0 e) ∙ h in absurd cc
own_by false y x ds k k' e n h = h

pub own_kind : (ds : List Declaration) (d : Declaration) (rest : List Declaration) → Apart (ds ++ d ∷ rest) → kind_of (ds ++ d ∷ rest) d.name ≡ Some d.kind
own_kind [] d rest a = let e = (bytes_decides d.name d.name).1 refl in rw e refl
own_kind (c ∷ ds) d rest a = own_by (bytes_eq c.name d.name) c.name d.name (ds ++ d ∷ rest) d.kind c.kind refl a.0 (own_kind ds d rest a.1)

result_rest : (vs ms : List Declaration) → Apart vs → (x y : List ℕ) (k : Option VariableKind) → kind_of ms y ≡ k → ((is_array (kind_of vs x) && is_array k) ≡ true) ⊎ ((is_link (kind_of vs x) && is_link k) ≡ true) → fits_returning (layout_of ms) (layout_of vs) (Some (result_in (layout_of vs) (layout_of ms) x y)) ≡ true
result_rest vs ms p x y k e (inl h) =
    let q = and_parts (is_array (kind_of vs x)) (is_array k) h in
    let f = array_is_no_link vs p x q.0 in
    let g = and_from (fits.is_array (layout_of ms) (number_in (layout_of ms) y)) (fits.is_array (layout_of vs) (number_in (layout_of vs) x)) (array_slot ms y (ap is_array e ∙ q.1)) (array_slot vs x q.0) in
    rw f (or_right (fits.is_int (layout_of ms) (number_in (layout_of ms) y) && fits.is_int (layout_of vs) (number_in (layout_of vs) x)) (fits.is_array (layout_of ms) (number_in (layout_of ms) y) && fits.is_array (layout_of vs) (number_in (layout_of vs) x)) g)
result_rest vs ms p x y k e (inr h) =
    let q = and_parts (is_link (kind_of vs x)) (is_link k) h in
    let f = named_link vs x q.0 in
    rw f (and_from (fits.is_link (layout_of ms) (link_in (layout_of ms) y)) (fits.is_link (layout_of vs) (link_in (layout_of vs) x)) (link_there ms y (ap is_link e ∙ q.1)) (link_there vs x q.0))

result_fits : (vs ms : List Declaration) → Apart vs → (x y : List ℕ) (k : Option VariableKind) → kind_of ms y ≡ k → ((is_int (kind_of vs x) && is_int k) ≡ true) ⊎ (((is_array (kind_of vs x) && is_array k) || (is_link (kind_of vs x) && is_link k)) ≡ true) → fits_returning (layout_of ms) (layout_of vs) (Some (result_in (layout_of vs) (layout_of ms) x y)) ≡ true
result_fits vs ms p x y k e (inl h) =
    let q = and_parts (is_int (kind_of vs x)) (is_int k) h in
    let f = int_is_no_link vs p x q.0 in
    let g = and_from (fits.is_int (layout_of ms) (number_in (layout_of ms) y)) (fits.is_int (layout_of vs) (number_in (layout_of vs) x)) (int_slot ms y (ap is_int e ∙ q.1)) (int_slot vs x q.0) in
    rw (f, g) refl
result_fits vs ms p x y k e (inr h) = result_rest vs ms p x y k e (or_cases (is_array (kind_of vs x) && is_array k) (is_link (kind_of vs x) && is_link k) h)

returning_fits : (vs : List Declaration) → Apart vs → (q : Procedure) (ms : List Declaration) → ms ≡ variables q → Apart ms → (x : Option (List ℕ)) (o : Option Declaration) → o ≡ q.outcome → fits_result vs x o ≡ true → fits_returning (layout_of ms) (layout_of vs) (returning_in (layout_of vs) (layout_of ms) x o) ≡ true
returning_fits vs p q ms m a None o e h = refl
returning_fits vs p q ms m a (Some x) None e h = refl
returning_fits vs p q ms m a (Some x) (Some d) e h =
    let same : ms ≡ q.parameters ++ d ∷ q.locals = m ∙ ap (λ (z : Option Declaration). q.parameters ++ outcomes z ++ q.locals) (sym e) ∙ append_assoc q.parameters (d ∷ []) q.locals in
    let own : kind_of ms d.name ≡ Some d.kind = ap (λ (z : List Declaration). kind_of z d.name) same ∙ own_kind q.parameters d q.locals (subst Apart same a) in
    result_fits vs ms p x d.name (Some d.kind) own (or_cases (is_int (kind_of vs x) && is_int (Some d.kind)) ((is_array (kind_of vs x) && is_array (Some d.kind)) || (is_link (kind_of vs x) && is_link (Some d.kind))) h)

-- a call of a procedure, with its arguments and result
pub invoke_fits : (vs : List Declaration) → Apart vs → (q : Procedure) → Apart (variables q) → (x : Option (List ℕ)) (es : List Operand) → small_operands es ≡ true → same_length es q.parameters ≡ true → fit_parameters vs es q.parameters ≡ true → fits_result vs x q.outcome ≡ true → fits_invoke (layout_of vs) (invoke_of (layout_of vs) x es (Some q)) ≡ true
unfolding fits_invoke
invoke_fits vs p q a x es s n h r =
    let same : variables q ≡ q.parameters ++ (outcomes q.outcome ++ q.locals) = append_assoc q.parameters (outcomes q.outcome) q.locals in
    let args = parameters_fit vs p es q.parameters (outcomes q.outcome ++ q.locals) s n h in
    let there : fits_arguments (layout_of vs) (arguments_in (layout_of vs) es) (numerics (variables q)) (links (variables q)) ≡ true = ap (λ (z : List Declaration). fits_arguments (layout_of vs) (arguments_in (layout_of vs) es) (numerics z) (links z)) same ∙ args in
    and_from (fits_arguments (layout_of vs) (arguments_in (layout_of vs) es) (numerics (variables q)) (links (variables q))) (fits_returning (layout_in q) (layout_of vs) (returning_in (layout_of vs) (layout_in q) x q.outcome)) there (returning_fits vs p q (variables q) refl a x q.outcome refl r)
