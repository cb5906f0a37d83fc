-- The values at a procedure's statements, and at a location under a chain.
use Rattle.std.specs.Prelude.{ℕ, ◌==◌, ℤ, List, [], ◌∷◌, ◌++◌, length, reverse, Option, Some, None, true, false, if◌then◌else◌}
use Rattle.std.specs.Str.{bytes_eq}
use Rattle.imp_syntax.specs.declared.edit.Location.{Location}
use Rattle.imp_syntax.specs.declared.edit.Location.TheVariants.{Before, After, Head, End}
use Rattle.imp_slots.specs.Plain.{Layout, DoBreak, Does, Invoke, Code, Stop, Simple, If, While, Call, Break, Routine}
use Rattle.imp_chains.specs.Thresholds.{thresholds}
use Rattle.domain_laws.specs.Operations.{Operations}
use Rattle.batch_meaning.specs.Values.{Value, State, lift, lift2}
use Rattle.batch_meaning.specs.Batch.{LoopOptions, Fixed, head_of, behind, batch, calls_of}

-- What is known at a statement: the value before it, at its head where it is a loop, after it; and its call.
pub record Spot (S : Type 0) : Type 0 where
  pub before : Value S
  pub head : Option (Fixed S)
  pub after : Value S
  pub call : Option (Invoke × ℕ)

abbrev pub spot : {S : Type 0} → Value S → Option (Fixed S) → Value S → Option (Invoke × ℕ) → Spot S
spot b h a c = record { before = b; head = h; after = a; call = c }

-- the first entry of a number
abbrev pub find : {A : Type 0} → ℕ → List (ℕ × A) → Option A
find n [] = None
find n (x ∷ xs) = if n == x.0 then Some x.1 else find n xs

abbrev pub if_some : {A B : Type 0} → Option A → (A → Option B) → Option B
if_some None f = None
if_some (Some a) f = f a

abbrev pub head_value : {S : Type 0} → Spot S → Option (Value S)
head_value s = if_some s.head (λ h. Some h.value)

-- the procedures from the q-th down to the first, the last one first
abbrev pub from : List Routine → (q : ℕ) → List Routine
from [] q = []
from (r ∷ earlier) q = if q == length earlier then r ∷ earlier else from earlier q

abbrev pub earlier_of : List Routine → List Routine
earlier_of [] = []
earlier_of (r ∷ earlier) = earlier

-- main's layout, the last procedure's
abbrev pub main_layout : List Routine → Layout
main_layout [] = record { numbers = []; links = [] }
main_layout (r ∷ earlier) = r.layout

module _ {S : Type 0} (dom : Operations S) (engine : LoopOptions) where
  module _ (thresholds : List ℤ) (z : List ℕ) (calls : (n q : ℕ) → Value S → Value S) where
    -- The statements of a block, by their numbers, with what is known at them. A loop's body is taken from the value at
    -- its head.
    abbrev pub spots : Code → Value S → List (ℕ × Spot S)
    spots Stop a = []
    spots (Simple n e r) a = let x = lift (dom.post (Does e)) a in (n, spot a None x None) ∷ spots r x
    spots (If n g t e r) a =
        let at = lift (dom.assume g true) a in
        let ae = lift (dom.assume g false) a in
        let x = lift2 dom.join (batch dom engine thresholds z calls t at).value (batch dom engine thresholds z calls e ae).value in
        (n, spot a None x None) ∷ (spots t at ++ (spots e ae ++ spots r x))
    spots (While n g b r) a =
        let head = head_of dom engine thresholds z n g (batch dom engine thresholds z calls b) a in
        let x = behind dom engine g (batch dom engine thresholds z calls b) head.value in
        (n, spot a (Some head) x None) ∷ (spots b (lift (dom.assume g true) head.value) ++ spots r x)
    spots (Call n i q r) a =
        let x = lift2 (dom.leave i.returning) a (calls n q (lift (dom.enter i.entering) a)) in
        (n, spot a None x (Some (i, q))) ∷ spots r x
    spots (Break n r) a = let x = lift (dom.post DoBreak) a in (n, spot a None x None) ∷ spots r x

  -- Of these procedures, the last one first, what is known in the last, from the value before its body.
  abbrev pub spots_in : List Routine → (z : List ℕ) → Value S → List (ℕ × Spot S)
  spots_in [] z a = []
  spots_in (r ∷ earlier) z a = spots (thresholds engine.widening r) z (calls_of dom engine earlier z) r.code a

  -- after the last one's body, if that is its name
  abbrev pub end_of : List Routine → (z : List ℕ) → Value S → (name : List ℕ) → Option (Value S)
  end_of [] z a name = None
  end_of (r ∷ earlier) z a name = if bytes_eq name r.name then Some (batch dom engine (thresholds engine.widening r) z (calls_of dom engine earlier z) r.code a).value else None

  -- the value at a location there
  abbrev pub value_in : List Routine → (z : List ℕ) → Value S → Location → Option (Value S)
  value_in rs z a (Before n) = if_some (find n (spots_in rs z a)) (λ s. Some s.before)
  value_in rs z a (After n) = if_some (find n (spots_in rs z a)) (λ s. Some s.after)
  value_in rs z a (Head n) = if_some (find n (spots_in rs z a)) head_value
  value_in rs z a (End name) = end_of rs z a name

  -- the procedures and the value before the last one's body
  abbrev pub entered : (n : ℕ) → (z : List ℕ) → List Routine × Value S → Option (List Routine × Value S)
  entered n z x =
      if_some (find n (spots_in x.0 z x.1)) (λ s. if_some s.call (λ k. Some (from (earlier_of x.0) k.1, lift (dom.enter k.0.entering) s.before)))

  -- under a chain of call sites, the last first
  abbrev pub entry : List Routine → (z : List ℕ) → Option (List Routine × Value S)
  entry rs [] = Some (rs, State (dom.init (main_layout rs)))
  entry rs (n ∷ z) = if_some (entry rs z) (entered n z)

  -- The value at a location of a program under a chain, if the program has them.
  abbrev pub value_at : List Routine → Location → (z : List ℕ) → Option (Value S)
  value_at program l z = if_some (entry (reverse program) z) (λ x. value_in x.0 z x.1 l)
