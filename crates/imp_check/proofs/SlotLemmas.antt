-- Slots.
use Rattle.std.proofs.Common.{ℕ, zero, suc, sym, ◌∙◌, take, ◌≡◌, ◌+◌, ◌<◌, List, [], ◌∷◌, ◌++◌, length, map, drop, refl, ap, arith, add-one, drop-cons, get_or, reverse, append_assoc, append-nil}
use Rattle.std.proofs.lemmas.List.{take-map, reverse-append}
use Rattle.imp_syntax.specs.declared.words.Declaration.{Declaration}
use Rattle.imp_syntax.specs.declared.words.VariableKind.{VariableKind}
use Rattle.imp_syntax.specs.declared.words.VariableKind.TheVariants.{Int, Array, List as OfLinks}
use Rattle.imp_syntax.specs.Plain.{Procedure}
use Rattle.imp_syntax.specs.Views.{operand_of}
use Rattle.imp_syntax.specs.ActionViews.{operands_of}
use Rattle.imp_syntax.specs.declared.expr.Side.{Side}
use Rattle.imp_slots.specs.Plain.{Numeric, Layout, Argument}
use Rattle.imp_slots.specs.CallViews.{argument_of}
use Rattle.imp_slots.specs.declared.calls.Argument as declared
use Rattle.imp_check.specs.Programs.{count_numeric, count_links, one_numeric, one_link}
use Rattle.imp_check.specs.Slots.{with_numeric, with_link, numerics, links, argument_in, arguments_in, layout_in, routine_of, routines_from, routines_of}

length_with : (k : VariableKind) (x : List ℕ) (ns : List Numeric) → length (with_numeric k x ns) ≡ one_numeric k + length ns
length_with Int x ns = omega arith
length_with Array x ns = omega arith
length_with OfLinks x ns = omega arith

pub length_numerics : (ds : List Declaration) → length (numerics ds) ≡ count_numeric ds
length_numerics [] = refl
length_numerics (d ∷ ds) = omega (arith, length_with d.kind d.name (numerics ds), length_numerics ds)

length_with_link : (k : VariableKind) (x : List ℕ) (ls : List (List ℕ)) → length (with_link k x ls) ≡ one_link k + length ls
length_with_link Int x ls = omega arith
length_with_link Array x ls = omega arith
length_with_link OfLinks x ls = omega arith

pub length_links : (ds : List Declaration) → length (links ds) ≡ count_links ds
length_links [] = refl
length_links (d ∷ ds) = omega (arith, length_with_link d.kind d.name (links ds), length_links ds)

pub numerics_step : (ds : List Declaration) (i : ℕ) (d : Declaration) → i < length ds → d ≡ get_or ds i d → numerics (drop i ds) ≡ with_numeric d.kind d.name (numerics (drop (i + 1) ds))
numerics_step ds i d h e = rw (drop-cons ds i d, add-one, ← e) refl

pub arguments_step : (l : Layout) (es : List Side) (i : ℕ) (e : Side) → i < length es → e ≡ get_or es i e → arguments_in l (operands_of (drop i es)) ≡ argument_in l (operand_of e) ∷ arguments_in l (operands_of (drop (i + 1) es))
arguments_step l es i e h p = rw (drop-cons es i e, add-one, ← p) refl

pub argument_added : (xs : List declared.Argument) (x : declared.Argument) (ys : List Argument) → map argument_of (xs ++ x ∷ []) ++ ys ≡ map argument_of xs ++ argument_of x ∷ ys
argument_added [] x ys = refl
argument_added (y ∷ xs) x ys = ap (λ (zs : List Argument). argument_of y ∷ zs) (argument_added xs x ys)

layout_at : (ps : List Procedure) (i : ℕ) (q : Procedure) (l : Layout) → i < length ps → q ≡ get_or ps i q → l ≡ get_or (map layout_in ps) i l → l ≡ layout_in q
layout_at [] i q l h e g = absurd (omega arith)
layout_at (p ∷ ps) zero q l h e g = g ∙ ap layout_in (sym e)
layout_at (p ∷ ps) (suc i) q l h e g = layout_at ps i q l (omega arith) e g

pub layout_there : (ps : List Procedure) (ls : List Layout) (i : ℕ) (q : Procedure) (l : Layout) → ls ≡ map layout_in ps → i < length ps → q ≡ get_or ps i q → l ≡ get_or ls i l → l ≡ layout_in q
layout_there ps ls i q l k h e g = layout_at ps i q l h e (g ∙ ap (λ (z : List Layout). get_or z i l) k)

map_length : (ps : List Procedure) → length (map layout_in ps) ≡ length ps
map_length [] = refl
map_length (p ∷ ps) = ap suc (map_length ps)

pub known_length : (ps : List Procedure) (ls : List Layout) → ls ≡ map layout_in ps → length ls ≡ length ps
known_length ps ls k = ap length k ∙ map_length ps

pub known_before : (ps : List Procedure) (ls : List Layout) (i : ℕ) → ls ≡ map layout_in ps → take i ls ≡ map layout_in (take i ps)
known_before ps ls i k = ap (take i) k ∙ take-map layout_in i ps

-- the routines of a program with one procedure more, backwards
pub routines_push : (es : List Procedure) (p : Procedure) → reverse (routines_of (es ++ p ∷ [])) ≡ routine_of es p ∷ reverse (routines_of es)
routines_push es p = ap reverse (split [] es) ∙ reverse-append (routines_of es) (routine_of es p ∷ [])
  where
    split : (bs es : List Procedure) → routines_from bs (es ++ p ∷ []) ≡ routines_from bs es ++ routine_of (bs ++ es) p ∷ []
    split bs [] = ap (λ z. routine_of z p ∷ []) (sym (append-nil bs))
    split bs (e ∷ es) = ap (λ z. routine_of bs e ∷ z) (split (bs ++ e ∷ []) es ∙ ap (λ z. routines_from (bs ++ e ∷ []) es ++ routine_of z p ∷ []) (append_assoc bs (e ∷ []) es))
