-- Names of variables and procedures.
use Rattle.std.specs.Prelude.{ℕ, List, [], ◌∷◌, ◌++◌, Option, Some, None, Bool, true, false, ◌||◌, cond, suc}
use Rattle.std.specs.Str.{bytes_eq}
use Rattle.imp_syntax.specs.Plain.{Procedure}
use Rattle.imp_syntax.specs.declared.words.Declaration.{Declaration}
use Rattle.imp_syntax.specs.declared.words.VariableKind.{VariableKind}
use Rattle.imp_syntax.specs.declared.words.VariableKind.TheVariants.{Int, Array, List as OfLinks}

-- the kind of the first variable of this name
abbrev pub kind_of : List Declaration → List ℕ → Option VariableKind
kind_of [] x = None
kind_of (d ∷ ds) x = cond (bytes_eq d.name x) (Some d.kind) (kind_of ds x)

abbrev pub is_known : Option VariableKind → Bool
is_known None = false
is_known (Some k) = true

abbrev pub is_int : Option VariableKind → Bool
is_int None = false
is_int (Some Int) = true
is_int (Some Array) = false
is_int (Some OfLinks) = false

abbrev pub is_array : Option VariableKind → Bool
is_array None = false
is_array (Some Int) = false
is_array (Some Array) = true
is_array (Some OfLinks) = false

abbrev pub is_link : Option VariableKind → Bool
is_link None = false
is_link (Some Int) = false
is_link (Some Array) = false
is_link (Some OfLinks) = true

-- the first procedure of this name, and its place
abbrev pub procedure_named : List Procedure → List ℕ → Option Procedure
procedure_named [] f = None
procedure_named (p ∷ ps) f = cond (bytes_eq p.name f) (Some p) (procedure_named ps f)

abbrev pub place_named : List Procedure → List ℕ → ℕ
place_named [] f = 0
place_named (p ∷ ps) f = cond (bytes_eq p.name f) 0 (suc (place_named ps f))

abbrev pub is_named : List Procedure → List ℕ → Bool
is_named [] f = false
is_named (p ∷ ps) f = bytes_eq p.name f || is_named ps f

abbrev pub named_in : List Procedure → List ℕ → Option ℕ
named_in ps f = cond (is_named ps f) (Some (place_named ps f)) None

-- the result of a procedure as a list of variables
abbrev pub outcomes : Option Declaration → List Declaration
outcomes None = []
outcomes (Some d) = d ∷ []

-- the variables of a procedure: parameters, result, locals
abbrev pub variables : Procedure → List Declaration
variables p = p.parameters ++ outcomes p.outcome ++ p.locals
