-- One evaluation after another has the points of the first, then those of the second.
use Rattle.std.specs.Prelude.{◌≡◌, List, [], ◌∷◌, ◌++◌, map, Bool, true, false, not, if◌then◌else◌}
use Rattle.std.proofs.Common.{refl, ap, ◌∙◌, inl, inr}
use Rattle.imp_slots.specs.Plain.{Guard, Not, Or}
use Rattle.imp_words.specs.declared.fault.FaultKind.{FaultKind}
use Rattle.concrete_sem.specs.Values.{Variables, Attempt, Gives, Faults, LacksInput, andthen}
use Rattle.concrete_sem.specs.Evaluation.{truth_of}
use Rattle.concrete_sem.proofs.Numbers.{given}
use Rattle.domain_laws.proofs.CheckLaws.{andthen-faults}
use Rattle.fault_points.specs.declared.point.FaultPoint.{FaultPoint}
use Rattle.fault_points.specs.Points.{point, unless}
use Rattle.fault_points.specs.Exact.{NoneFails, SomeFails, AreExact}

pub none_both : (v : Variables) (xs ys : List FaultPoint) → NoneFails v xs → NoneFails v ys → NoneFails v (xs ++ ys)
none_both v [] ys n m = m
none_both v (x ∷ xs) ys n m = (n.0, none_both v xs ys n.1 m)

pub some_left : (v : Variables) (k : FaultKind) (xs ys : List FaultPoint) → SomeFails v k xs → SomeFails v k (xs ++ ys)
some_left v k [] ys s = absurd s
some_left v k (x ∷ xs) ys (inl f) = inl f
some_left v k (x ∷ xs) ys (inr s) = inr (some_left v k xs ys s)

pub some_right : (v : Variables) (k : FaultKind) (xs ys : List FaultPoint) → SomeFails v k ys → SomeFails v k (xs ++ ys)
some_right v k [] ys s = s
some_right v k (x ∷ xs) ys s = inr (some_right v k xs ys s)

-- a value has no points
pub nothing : {A : Type 0} (v : Variables) (a : A) → AreExact v [] (Gives a)
nothing v a = record { passes = λ b e. tt; fails = λ k e. absurd (cc) }

pub then_exact : {A B : Type 0} (v : Variables) (xs ys : List FaultPoint) (o : Attempt A) (f : A → Attempt B) → AreExact v xs o → ((a : A) → o ≡ Gives a → AreExact v ys (f a)) → AreExact v (xs ++ ys) (andthen o f)
then_exact v xs ys o f x y = record {
  passes = λ b e. let g = given o f b e in none_both v xs ys (x.passes g.value g.was) ((y g.value g.was).passes b g.gives);
  fails = λ k e. elim (andthen-faults o f k e) [
    | inl m ↦ some_left v k xs ys (x.fails k m)
    | inr m ↦ some_right v k xs ys ((y m.0 m.1).fails k m.2)
  ];
}

-- what is made of a value adds no points
pub map_exact : {A B : Type 0} (v : Variables) (xs : List FaultPoint) (o : Attempt A) (f : A → B) → AreExact v xs o → AreExact v xs (andthen o (λ a. Gives (f a)))
map_exact v xs (Gives a) f x = record { passes = λ b e. x.passes a refl; fails = λ k e. absurd (cc) }
map_exact v xs (Faults j) f x = record { passes = λ b e. absurd (cc); fails = λ k e. let d : j ≡ k = cc in x.fails k (ap Faults d) }
map_exact v xs LacksInput f x = record { passes = λ b e. absurd (cc); fails = λ k e. absurd (cc) }

-- one claim, by its truth value
pub one_point : {A : Type 0} (v : Variables) (k : FaultKind) (claim : Guard) (b : Bool) (a : A) → truth_of v claim ≡ Gives b → AreExact v (point k claim ∷ []) (if b then Gives a else Faults k)
one_point v k claim true a t = record { passes = λ x e. (t, tt); fails = λ j e. absurd (cc) }
one_point v k claim false a t = record { passes = λ x e. absurd (cc); fails = λ j e. inl (cc, t) }

pub or_is : (m n : Attempt Bool) (p q : Bool) → m ≡ Gives p → (p ≡ false → n ≡ Gives q) → andthen m (λ b. if b then Gives true else n) ≡ Gives (if p then true else q)
or_is m n true q e f = ap (λ m. andthen m (λ b. if b then Gives true else n)) e
or_is m n false q e f = ap (λ m. andthen m (λ b. if b then Gives true else n)) e ∙ f refl

pub and_is : (m n : Attempt Bool) (p q : Bool) → m ≡ Gives p → n ≡ Gives q → andthen m (λ b. if b then n else Gives false) ≡ Gives (if p then q else false)
and_is m n true q e f = ap (λ m. andthen m (λ b. if b then n else Gives false)) e ∙ f
and_is m n false q e f = ap (λ m. andthen m (λ b. if b then n else Gives false)) e

-- points that are come to where a guard fails: it holds
pub unless_true : (v : Variables) (g : Guard) (ps : List FaultPoint) → truth_of v g ≡ Gives true → NoneFails v (map (unless g) ps)
unfolding truth_of
unless_true v g [] t = tt
unless_true v g (p ∷ ps) t = (ap (λ m. andthen m (λ b. if b then Gives true else truth_of v p.claim)) t, unless_true v g ps t)

-- it fails
claim_same : (v : Variables) (g h : Guard) → truth_of v g ≡ Gives false → truth_of v (Or g h) ≡ truth_of v h
unfolding truth_of
claim_same v g h t = ap (λ m. andthen m (λ b. if b then Gives true else truth_of v h)) t

none_unless : (v : Variables) (g : Guard) (ps : List FaultPoint) → truth_of v g ≡ Gives false → NoneFails v ps → NoneFails v (map (unless g) ps)
none_unless v g [] t n = tt
none_unless v g (p ∷ ps) t n = (claim_same v g p.claim t ∙ n.0, none_unless v g ps t n.1)

some_unless : (v : Variables) (k : FaultKind) (g : Guard) (ps : List FaultPoint) → truth_of v g ≡ Gives false → SomeFails v k ps → SomeFails v k (map (unless g) ps)
some_unless v k g [] t s = absurd s
some_unless v k g (p ∷ ps) t (inl f) = inl (f.0, claim_same v g p.claim t ∙ f.1)
some_unless v k g (p ∷ ps) t (inr s) = inr (some_unless v k g ps t s)

pub unless_exact : {A : Type 0} (v : Variables) (g : Guard) (ps : List FaultPoint) (o : Attempt A) → truth_of v g ≡ Gives false → AreExact v ps o → AreExact v (map (unless g) ps) o
unless_exact v g ps o t x = record { passes = λ a e. none_unless v g ps t (x.passes a e); fails = λ k e. some_unless v k g ps t (x.fails k e) }

pub negated : (v : Variables) (g : Guard) (b c : Bool) → not b ≡ c → truth_of v g ≡ Gives b → truth_of v (Not g) ≡ Gives c
unfolding truth_of
negated v g b c e t = ap (λ m. andthen m (λ b. Gives (not b))) t ∙ ap Gives e
