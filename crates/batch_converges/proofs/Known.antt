-- Values that are no Over.
use Rattle.std.specs.Prelude.{List, [], ◌∷◌, ◌++◌}
use Rattle.domain_laws.specs.Operations.{Operations}
use Rattle.batch_meaning.specs.Values.{Value, State, Over, lift, lift2}
use Rattle.batch_meaning.specs.Batch.{LoopOptions, joined}

abbrev pub Known : {S : Type 0} → Value S → Type 0
Known (State s) = Unit {0}
Known (Over n z) = ⊥

abbrev pub EachKnown : {S : Type 0} → List (Value S) → Type 0
EachKnown [] = Unit {0}
EachKnown (v ∷ vs) = Known v × EachKnown vs

pub known_lift : {S : Type 0} (f : S → S) (v : Value S) → Known v → Known (lift f v)
known_lift f (State s) k = tt
known_lift f (Over n z) k = absurd k

pub known_lift2 : {S : Type 0} (f : S → S → S) (v w : Value S) → Known v → Known w → Known (lift2 f v w)
known_lift2 f (State s) (State t) k j = tt
known_lift2 f (State s) (Over n z) k j = absurd j
known_lift2 f (Over n z) w k j = absurd k

pub known_both : {S : Type 0} (xs ys : List (Value S)) → EachKnown xs → EachKnown ys → EachKnown (xs ++ ys)
known_both [] ys k j = j
known_both (x ∷ xs) ys k j = (k.0, known_both xs ys k.1 j)

pub known_joined : {S : Type 0} (dom : Operations S) (engine : LoopOptions) (v : Value S) (xs : List (Value S)) → Known v → EachKnown xs → Known (joined dom engine v xs)
known_joined dom engine v [] k j = k
known_joined dom engine v (x ∷ xs) k j = known_joined dom engine (lift2 dom.join v x) xs (known_lift2 dom.join v x k j.0) j.1
