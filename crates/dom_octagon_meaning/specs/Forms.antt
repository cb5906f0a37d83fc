-- Linear forms of expressions: a constant, or the value of a node and a constant. Node 2k stands for the slot k and node
-- 2k + 1 for its negative, as in a matrix.
use Rattle.std.specs.Prelude.{ℕ, ◌*◌, pos, ◌+ℤ◌, neg_ℤ, Option, Some, None}
use Rattle.dbm_core.specs.Nodes.{flip}
use Rattle.imp_syntax.specs.declared.words.Operator.{Operator}
use Rattle.imp_syntax.specs.declared.words.Operator.TheVariants.{Add, Subtract, Multiply, Divide, Remainder}
use Rattle.imp_slots.specs.Plain.{Term, Literal, Slot, Length, Negative, Binary}
use Rattle.dom_octagon_meaning.specs.declared.form.Form.{Form}
use Rattle.dom_octagon_meaning.specs.declared.form.Form.TheVariants.{Constant, Node}

-- the slot itself
abbrev pub slot_form : ℕ → Form
slot_form x = Node (2 * x) (pos 0)

-- the form with the other sign
abbrev pub negated : Form → Form
negated (Constant c) = Constant (neg_ℤ c)
negated (Node i c) = Node (flip i) (neg_ℤ c)

-- the sum of two forms of which at most one has a node
abbrev pub sum_form : Form → Form → Option Form
sum_form (Constant c) (Constant d) = Some (Constant (c +ℤ d))
sum_form (Constant c) (Node i d) = Some (Node i (c +ℤ d))
sum_form (Node i c) (Constant d) = Some (Node i (c +ℤ d))
sum_form (Node i c) (Node j d) = None

abbrev pub if_form : Option Form → (Form → Option Form) → Option Form
if_form None f = None
if_form (Some a) f = f a

abbrev pub combined_form : Operator → Form → Form → Option Form
combined_form Add a b = sum_form a b
combined_form Subtract a b = sum_form a (negated b)
combined_form Multiply a b = None
combined_form Divide a b = None
combined_form Remainder a b = None

-- the linear form of an expression, if it has one
unfoldable pub form_of : Term → Option Form
form_of (Literal n) = Some (Constant (pos n))
form_of (Slot x) = Some (slot_form x)
form_of (Length a) = Some (slot_form a)
form_of (Negative e) = if_form (form_of e) (λ f. Some (negated f))
form_of (Binary o a b) = if_form (form_of a) (λ f. if_form (form_of b) (combined_form o f))
