-- The codes of effects, layouts, calls.
use Rattle.std.specs.Prelude.{ℕ, zero, suc, [], Option, Some, None, ◌≡◌, refl}
use base.Stored.{Coded, Gv, gnil, gnum, gcons}
use Rattle.std.specs.Coded.{code_by}
use denote.Struct.Codes.{itself}
use Rattle.base_values.specs.Equal.{list_to, text_to, text_from, text_from_to}
use Rattle.imp_slots.specs.Codes.{list_from, list_from_to, bool_to, bool_from, bool_from_to, slot_to, slot_from, slot_from_to, term_to, term_from, term_from_to, guard_to, guard_from, guard_from_to}
use Rattle.imp_slots.specs.Plain.{Numeric, Layout, Effect, Skip, Assert, SetInt, Input, ReadElement, ReadItem, MakeArray, CopyArray, WriteElement, SetNull, MakeCell, CopyLink, ReadNext, WriteNext, WriteItem, Act, DoBreak, Does, Argument, IntArgument, ArrayArgument, LinkArgument, Entering, Returning, NumericResult, LinkResult, Invoke}

abbrev pub effect_to : Effect → Gv
effect_to Skip = gcons (gnum 0) gnil
effect_to (Assert c) = gcons (gnum 1) (guard_to c)
effect_to (SetInt x e) = gcons (gnum 2) (gcons (gnum x) (term_to e))
effect_to (Input x) = gcons (gnum 3) (gnum x)
effect_to (ReadElement x a e) = gcons (gnum 4) (gcons (gnum x) (gcons (gnum a) (term_to e)))
effect_to (ReadItem x q) = gcons (gnum 5) (gcons (gnum x) (gnum q))
effect_to (MakeArray a e) = gcons (gnum 6) (gcons (gnum a) (term_to e))
effect_to (CopyArray a b) = gcons (gnum 7) (gcons (gnum a) (gnum b))
effect_to (WriteElement a e f) = gcons (gnum 8) (gcons (gnum a) (gcons (term_to e) (term_to f)))
effect_to (SetNull p) = gcons (gnum 9) (gnum p)
effect_to (MakeCell p) = gcons (gnum 10) (gnum p)
effect_to (CopyLink p q) = gcons (gnum 11) (gcons (gnum p) (gnum q))
effect_to (ReadNext p q) = gcons (gnum 12) (gcons (gnum p) (gnum q))
effect_to (WriteNext p q) = gcons (gnum 13) (gcons (gnum p) (gnum q))
effect_to (WriteItem p e) = gcons (gnum 14) (gcons (gnum p) (term_to e))

-- the effect of a number and the code of its parts
abbrev pub effect_at : ℕ → Gv → Effect
effect_at (suc zero) c = Assert (guard_from c)
effect_at (suc (suc zero)) (gcons (gnum x) e) = SetInt x (term_from e)
effect_at (suc (suc (suc zero))) (gnum x) = Input x
effect_at (suc (suc (suc (suc zero)))) (gcons (gnum x) (gcons (gnum a) e)) = ReadElement x a (term_from e)
effect_at (suc (suc (suc (suc (suc zero))))) (gcons (gnum x) (gnum q)) = ReadItem x q
effect_at (suc (suc (suc (suc (suc (suc zero)))))) (gcons (gnum a) e) = MakeArray a (term_from e)
effect_at (suc (suc (suc (suc (suc (suc (suc zero))))))) (gcons (gnum a) (gnum b)) = CopyArray a b
effect_at (suc (suc (suc (suc (suc (suc (suc (suc zero)))))))) (gcons (gnum a) (gcons e f)) = WriteElement a (term_from e) (term_from f)
effect_at (suc (suc (suc (suc (suc (suc (suc (suc (suc zero))))))))) (gnum p) = SetNull p
effect_at (suc (suc (suc (suc (suc (suc (suc (suc (suc (suc zero)))))))))) (gnum p) = MakeCell p
effect_at (suc (suc (suc (suc (suc (suc (suc (suc (suc (suc (suc zero))))))))))) (gcons (gnum p) (gnum q)) = CopyLink p q
effect_at (suc (suc (suc (suc (suc (suc (suc (suc (suc (suc (suc (suc zero)))))))))))) (gcons (gnum p) (gnum q)) = ReadNext p q
effect_at (suc (suc (suc (suc (suc (suc (suc (suc (suc (suc (suc (suc (suc zero))))))))))))) (gcons (gnum p) (gnum q)) = WriteNext p q
effect_at (suc (suc (suc (suc (suc (suc (suc (suc (suc (suc (suc (suc (suc (suc k)))))))))))))) (gcons (gnum p) e) = WriteItem p (term_from e)
effect_at _ _ = Skip

abbrev pub effect_from : Gv → Effect
effect_from (gcons (gnum n) parts) = effect_at n parts
effect_from _ = Skip

pub effect_from_to : (e : Effect) → effect_from (effect_to e) ≡ e
effect_from_to Skip = refl
effect_from_to (Assert c) = λ i. Assert (guard_from_to c i)
effect_from_to (SetInt x e) = λ i. SetInt x (term_from_to e i)
effect_from_to (Input x) = refl
effect_from_to (ReadElement x a e) = λ i. ReadElement x a (term_from_to e i)
effect_from_to (ReadItem x q) = refl
effect_from_to (MakeArray a e) = λ i. MakeArray a (term_from_to e i)
effect_from_to (CopyArray a b) = refl
effect_from_to (WriteElement a e f) = λ i. WriteElement a (term_from_to e i) (term_from_to f i)
effect_from_to (SetNull p) = refl
effect_from_to (MakeCell p) = refl
effect_from_to (CopyLink p q) = refl
effect_from_to (ReadNext p q) = refl
effect_from_to (WriteNext p q) = refl
effect_from_to (WriteItem p e) = λ i. WriteItem p (term_from_to e i)

abbrev pub effect_code : Coded Effect
effect_code = code_by Gv itself effect_to effect_from effect_from_to

abbrev pub act_to : Act → Gv
act_to DoBreak = gnil
act_to (Does e) = effect_to e

abbrev pub act_from : Gv → Act
act_from gnil = DoBreak
act_from c = Does (effect_from c)

pub act_from_to : (a : Act) → act_from (act_to a) ≡ a
act_from_to DoBreak = refl
act_from_to (Does Skip) = refl
act_from_to (Does (Assert c)) = λ i. Does (Assert (guard_from_to c i))
act_from_to (Does (SetInt x e)) = λ i. Does (SetInt x (term_from_to e i))
act_from_to (Does (Input x)) = refl
act_from_to (Does (ReadElement x a e)) = λ i. Does (ReadElement x a (term_from_to e i))
act_from_to (Does (ReadItem x q)) = refl
act_from_to (Does (MakeArray a e)) = λ i. Does (MakeArray a (term_from_to e i))
act_from_to (Does (CopyArray a b)) = refl
act_from_to (Does (WriteElement a e f)) = λ i. Does (WriteElement a (term_from_to e i) (term_from_to f i))
act_from_to (Does (SetNull p)) = refl
act_from_to (Does (MakeCell p)) = refl
act_from_to (Does (CopyLink p q)) = refl
act_from_to (Does (ReadNext p q)) = refl
act_from_to (Does (WriteNext p q)) = refl
act_from_to (Does (WriteItem p e)) = λ i. Does (WriteItem p (term_from_to e i))

abbrev pub act_code : Coded Act
act_code = code_by Gv itself act_to act_from act_from_to

abbrev pub numeric_to : Numeric → Gv
numeric_to n = gcons (text_to n.name) (bool_to n.is_array)

abbrev pub numeric_from : Gv → Numeric
numeric_from (gcons name is_array) = record { name = text_from name; is_array = bool_from is_array }
numeric_from _ = record { name = []; is_array = bool_from gnil }

pub numeric_from_to : (n : Numeric) → numeric_from (numeric_to n) ≡ n
numeric_from_to n = λ i. record { name = text_from_to n.name i; is_array = bool_from_to n.is_array i }

abbrev pub numeric_code : Coded Numeric
numeric_code = code_by Gv itself numeric_to numeric_from numeric_from_to

abbrev pub layout_to : Layout → Gv
layout_to l = gcons (list_to numeric_to l.numbers) (list_to text_to l.links)

abbrev pub layout_from : Gv → Layout
layout_from (gcons numbers links) = record { numbers = list_from numeric_from numbers; links = list_from text_from links }
layout_from _ = record { numbers = []; links = [] }

pub layout_from_to : (l : Layout) → layout_from (layout_to l) ≡ l
layout_from_to l = λ i. record { numbers = list_from_to numeric_to numeric_from numeric_from_to l.numbers i; links = list_from_to text_to text_from text_from_to l.links i }

abbrev pub layout_code : Coded Layout
layout_code = code_by Gv itself layout_to layout_from layout_from_to

abbrev pub argument_to : Argument → Gv
argument_to (IntArgument e) = gcons (gnum 0) (term_to e)
argument_to (ArrayArgument a) = gcons (gnum 1) (gnum a)
argument_to (LinkArgument p) = gcons (gnum 2) (slot_to p)

abbrev pub argument_from : Gv → Argument
argument_from (gcons (gnum zero) e) = IntArgument (term_from e)
argument_from (gcons (gnum (suc zero)) (gnum a)) = ArrayArgument a
argument_from (gcons (gnum (suc (suc k))) p) = LinkArgument (slot_from p)
argument_from _ = LinkArgument None

pub argument_from_to : (a : Argument) → argument_from (argument_to a) ≡ a
argument_from_to (IntArgument e) = λ i. IntArgument (term_from_to e i)
argument_from_to (ArrayArgument a) = refl
argument_from_to (LinkArgument p) = λ i. LinkArgument (slot_from_to p i)

abbrev pub argument_code : Coded Argument
argument_code = code_by Gv itself argument_to argument_from argument_from_to

abbrev pub entering_to : Entering → Gv
entering_to e = gcons (layout_to e.layout) (list_to argument_to e.arguments)

abbrev pub entering_from : Gv → Entering
entering_from (gcons layout arguments) = record { layout = layout_from layout; arguments = list_from argument_from arguments }
entering_from _ = record { layout = layout_from gnil; arguments = [] }

pub entering_from_to : (e : Entering) → entering_from (entering_to e) ≡ e
entering_from_to e = λ i. record { layout = layout_from_to e.layout i; arguments = list_from_to argument_to argument_from argument_from_to e.arguments i }

abbrev pub entering_code : Coded Entering
entering_code = code_by Gv itself entering_to entering_from entering_from_to

-- what is taken of a result, or nothing
abbrev pub returning_to : Option Returning → Gv
returning_to None = gnil
returning_to (Some (NumericResult to from)) = gcons (gnum 0) (gcons (gnum to) (gnum from))
returning_to (Some (LinkResult to from)) = gcons (gnum 1) (gcons (gnum to) (gnum from))

abbrev pub returning_from : Gv → Option Returning
returning_from (gcons (gnum zero) (gcons (gnum to) (gnum from))) = Some (NumericResult to from)
returning_from (gcons (gnum (suc k)) (gcons (gnum to) (gnum from))) = Some (LinkResult to from)
returning_from _ = None

pub returning_from_to : (r : Option Returning) → returning_from (returning_to r) ≡ r
returning_from_to None = refl
returning_from_to (Some (NumericResult to from)) = refl
returning_from_to (Some (LinkResult to from)) = refl

abbrev pub invoke_to : Invoke → Gv
invoke_to c = gcons (entering_to c.entering) (returning_to c.returning)

abbrev pub invoke_from : Gv → Invoke
invoke_from (gcons entering returning) = record { entering = entering_from entering; returning = returning_from returning }
invoke_from _ = record { entering = entering_from gnil; returning = None }

pub invoke_from_to : (c : Invoke) → invoke_from (invoke_to c) ≡ c
invoke_from_to c = λ i. record { entering = entering_from_to c.entering i; returning = returning_from_to c.returning i }

abbrev pub invoke_code : Coded Invoke
invoke_code = code_by Gv itself invoke_to invoke_from invoke_from_to
