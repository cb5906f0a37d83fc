-- Steps keep heaps and variables as the layouts say.
use Rattle.std.specs.Prelude.{◌≡◌, ℕ, zero, suc, ◌<◌, ◌≤◌, nat_lt, nat_le, ℤ, pos, negsuc, List, [], ◌∷◌, ◌++◌, length, map, drop, replicate, slice_get, slice_index_or, slice_set, Option, Some, None, Bool, true, false, ◌&&◌, if◌then◌else◌, All, ◌⊎◌}
use Rattle.std.specs.List.{AllZip}
use Rattle.std.proofs.Common.{refl, sym, ap, ◌∙◌, subst, inl, inr, arith}
use Rattle.std.proofs.lemmas.Bool.Decides.{nat_tests}
use Rattle.std.proofs.lemmas.List.Elements.{All-set, All-append, All-replicate, All-nil, All-cons, All-tail}
use Rattle.std.proofs.lemmas.List.{length-set, length-append, length-replicate}
use Rattle.std.proofs.lemmas.Option.{same_Some}
use Rattle.imp_slots.specs.Plain.{Numeric, Layout, Effect, Skip, Assert, SetInt, Input, ReadElement, ReadItem, MakeArray, CopyArray, WriteElement, SetNull, MakeCell, CopyLink, ReadNext, WriteNext, WriteItem, Argument, IntArgument, ArrayArgument, LinkArgument, Returning, NumericResult, LinkResult}
use Rattle.imp_slots.specs.Fits.{is_kind, is_int, is_array, is_link, is_side, fits_term, fits_effect, fits_arguments, fits_returning, fits_invoke}
use Rattle.imp_words.specs.declared.fault.FaultKind.{FaultKind}
use Rattle.imp_words.specs.declared.fault.FaultKind.TheVariants.{Length, Index, Null, Assert as Failed}
use Rattle.concrete_sem.specs.Values.{Number, Int, Array, Variables, Cell, Heap, Gives, Faults, andthen, given_or, IsWord, number_at, array_at, link_at, with_number, with_link}
use Rattle.concrete_sem.specs.Evaluation.{value_of, truth_of, side_at}
use Rattle.concrete_sem.specs.Effects.{new_array, element, with_element, cell_of, with_cell, take_input, effect_of}
use Rattle.concrete_sem.specs.Passing.{first_number, first_link, first_variables, passed, over, pass, back}
use Rattle.concrete_sem.specs.Proper.{IsLink, IsCell, IsNumber, AreVariables, AreFrames, IsProper}
use Rattle.concrete_sem.specs.Keeping.{EffectsKeep, PassingKeeps, ReturnsKeep, LastAloneKeeps, StartKeeps}
use Rattle.std.proofs.lemmas.Bool.{and_parts, or_cases}
use Rattle.concrete_sem.proofs.Numbers.{given, is_word_zero, slot_of, array_is_words, numbers_kept, at_slot, value_word, gives_same}
use Rattle.base_values.proofs.Lists.{all_at}

-- Slots set to values of their kinds.
int_kept : (n : ℕ) (l : Layout) (v : Variables) (x : ℕ) (z : ℤ) → AreVariables n l v → is_int l x ≡ true → IsWord z → AreVariables n l (with_number v x (Int z))
int_kept n l v x z a e w =
    let s = slot_of false (slice_get l.numbers x) e in
    record { numbers = numbers_kept l.numbers v.numbers x s.0 (Int z) a.numbers s.1 (s.2, w); count = a.count; links = a.links }

array_kept : (n : ℕ) (l : Layout) (v : Variables) (x : ℕ) (zs : List ℤ) → AreVariables n l v → is_array l x ≡ true → length zs ≤ 1000000 → All IsWord zs → AreVariables n l (with_number v x (Array zs))
array_kept n l v x zs a e k w =
    let s = slot_of true (slice_get l.numbers x) e in
    record { numbers = numbers_kept l.numbers v.numbers x s.0 (Array zs) a.numbers s.1 (s.2, k, w); count = a.count; links = a.links }

link_kept : (n : ℕ) (l : Layout) (v : Variables) (p : ℕ) (q : Option ℕ) → AreVariables n l v → IsLink n q → AreVariables n l (with_link v p q)
link_kept n l v p q a i = record { numbers = a.numbers; count = length-set v.links p q ∙ a.count; links = All-set (IsLink n) v.links p q i a.links }

-- links that slots hold
pub link_is : (n : ℕ) (ls : List (Option ℕ)) (p : ℕ) → All (IsLink n) ls → IsLink n (slice_index_or ls p None)
link_is n [] p a = tt
link_is n (x ∷ ls) zero a = a 0 x (omega arith)
link_is n (x ∷ ls) (suc p) a = link_is n ls p (λ k d h. a (suc k) d (omega arith))

side_is : (n : ℕ) (l : Layout) (v : Variables) (p : Option ℕ) → AreVariables n l v → IsLink n (side_at v p)
side_is n l v None a = tt
side_is n l v (Some p) a = link_is n v.links p a.links

-- More cells.
link_more : (n m : ℕ) (q : Option ℕ) → n ≤ m → IsLink n q → IsLink m q
link_more n m None h i = tt
link_more n m (Some k) h i = let j : k < n = i in omega arith

variables_more : (n m : ℕ) (l : Layout) (v : Variables) → n ≤ m → AreVariables n l v → AreVariables m l v
variables_more n m l v h a = record { numbers = a.numbers; count = a.count; links = λ k d i. link_more n m (slice_index_or v.links k d) h (a.links k d i) }

frames_more : (n m : ℕ) (vs : List Variables) (ls : List Layout) → n ≤ m → AreFrames n vs ls → AreFrames m vs ls
frames_more n m [] [] h a = tt
frames_more n m [] (l ∷ ls) h a = absurd a
frames_more n m (v ∷ vs) [] h a = absurd a
frames_more n m (v ∷ vs) (l ∷ ls) h a = (variables_more n m l v h a.0, frames_more n m vs ls h a.1)

cell_more : (n m : ℕ) (c : Cell) → n ≤ m → IsCell n c → IsCell m c
cell_more n m c h i = (i.0, link_more n m c.next h i.1)

-- The last frame's variables, or a cell, become others.
on_top : (h : Heap) (v u : Variables) (vs : List Variables) (l : Layout) (ls : List Layout) → IsProper h (v ∷ vs) (l ∷ ls) → AreVariables (length h.cells) l u → IsProper h (u ∷ vs) (l ∷ ls)
on_top h v u vs l ls p a = record { cells = p.cells; inputs = p.inputs; frames = (a, p.frames.1) }

cell_set : (h : Heap) (k : ℕ) (c : Cell) (vs : List Variables) (ls : List Layout) → IsProper h vs ls → IsCell (length h.cells) c → IsProper (with_cell h k c) vs ls
cell_set h k c vs ls p i =
    let n = length h.cells in
    let m = length (slice_set h.cells k c) in
    let e : n ≤ m = let q = length-set h.cells k c in omega arith in
    record {
      cells = λ j d t. cell_more n m _ e (All-set (IsCell n) h.cells k c i p.cells j d t);
      inputs = p.inputs;
      frames = frames_more n m vs ls e p.frames;
    }

cell_added : (h : Heap) (c : Cell) (vs : List Variables) (ls : List Layout) → IsProper h vs ls → IsCell (length (h.cells ++ (c ∷ []))) c → IsProper (record h { cells = h.cells ++ (c ∷ []) }) vs ls
cell_added h c vs ls p i =
    let n = length h.cells in
    let m = length (h.cells ++ (c ∷ [])) in
    let e : n ≤ m = let q = length-append h.cells (c ∷ []) in omega arith in
    record {
      cells = All-append (IsCell m) h.cells (c ∷ []) (λ j d t. cell_more n m _ e (p.cells j d t)) (All-cons (IsCell m) c [] i (All-nil (IsCell m)));
      inputs = p.inputs;
      frames = frames_more n m vs ls e p.frames;
    }

-- What is read.
pub given_some : {A : Type 0} (k : FaultKind) (o : Option A) (x : A) → given_or k o ≡ Gives x → o ≡ Some x
given_some k None x e = absurd cc
given_some k (Some y) x e = cc

cell_is : (n : ℕ) (cells : List Cell) (q : Option ℕ) (c : ℕ × Cell) → All (IsCell n) cells → cell_of cells q ≡ Gives c → IsCell n c.1
cell_is n cells None c a e = absurd cc
cell_is n cells (Some k) c a e =
    let t = given (given_or Null (slice_get cells k)) (λ c. Gives (k, c)) c e in
    subst (λ (c : ℕ × Cell). IsCell n c.1) (gives_same t.gives) (all_at (IsCell n) cells k t.value a (given_some Null _ t.value t.was))

pub element_is : (zs : List ℤ) (i z : ℤ) → All IsWord zs → element zs i ≡ Gives z → IsWord z
element_is zs (pos k) z a e = all_at IsWord zs k z a (given_some Index _ z e)
element_is zs (negsuc k) z a e = absurd cc

record IsArray (zs : List ℤ) : Type 0 where
  short : length zs ≤ 1000000
  words : All IsWord zs

array_of_if : (c : Bool) (n : ℕ) (zs : List ℤ) → nat_le n 1000000 ≡ c → (if c then Gives (replicate n (pos 0)) else Faults Length) ≡ Gives zs → IsArray zs
array_of_if true n zs k e =
    let s : n ≤ 1000000 = grind (arith, nat_tests) in
    subst IsArray (gives_same e) (record { short = rw length-replicate s; words = All-replicate IsWord n (pos 0) is_word_zero })
array_of_if false n zs k e = absurd cc

new_is : (n : ℤ) (zs : List ℤ) → new_array n ≡ Gives zs → IsArray zs
new_is (pos n) zs e = array_of_if (nat_le n 1000000) n zs refl e
new_is (negsuc n) zs e = absurd cc

set_if : (c : Bool) (zs ys : List ℤ) (k : ℕ) (z : ℤ) → IsArray zs → IsWord z → (if c then Gives (slice_set zs k z) else Faults Index) ≡ Gives ys → IsArray ys
set_if true zs ys k z a w e = subst IsArray (gives_same e) (record { short = rw length-set a.short; words = All-set IsWord zs k z w a.words })
set_if false zs ys k z a w e = absurd cc

set_is : (zs ys : List ℤ) (i z : ℤ) → IsArray zs → IsWord z → with_element zs i z ≡ Gives ys → IsArray ys
set_is zs ys (pos k) z a w e = set_if (nat_lt k (length zs)) zs ys k z a w e
set_is zs ys (negsuc k) z a w e = absurd cc

array_is : (n : ℕ) (l : Layout) (v : Variables) (x : ℕ) → AreVariables n l v → is_array l x ≡ true → IsArray (array_at v x)
array_is n l v x a e = let s = at_slot n l v true x a e in let k = array_is_words s.0 _ s.2 in record { short = k.0; words = k.1 }

module _ (l : Layout) (ls : List Layout) (vs : List Variables) where
  abbrev Fine : Heap × Variables → Type 0
  Fine x = IsProper x.0 (x.1 ∷ vs) (l ∷ ls)

  fine : (x y : Heap × Variables) → Gives x ≡ Gives y → Fine x → Fine y
  fine x y e p = subst Fine (gives_same e) p

  input_kept : (cells : List Cell) (inputs : List ℤ) (v : Variables) (x : ℕ) (y : Heap × Variables) → is_int l x ≡ true → take_input cells inputs v x ≡ Gives y → IsProper (record { cells = cells; inputs = inputs }) (v ∷ vs) (l ∷ ls) → Fine y
  input_kept cells [] v x y f e p = absurd cc
  input_kept cells (z ∷ zs) v x y f e p =
      fine (record { cells = cells; inputs = zs }, with_number v x (Int z)) y e
      (record {
        cells = p.cells;
        inputs = λ k d t. p.inputs (suc k) d (omega arith);
        frames = (int_kept (length cells) l v x z p.frames.0 f (p.inputs 0 z (omega arith)), p.frames.1);
      })

  assert_kept : (c : Bool) (h : Heap) (v : Variables) (x : Heap × Variables) → (if c then Gives (h, v) else Faults Failed) ≡ Gives x → Fine (h, v) → Fine x
  assert_kept true h v x e p = fine (h, v) x e p
  assert_kept false h v x e p = absurd cc

  pub effect_kept : (e : Effect) (h : Heap) (v : Variables) (x : Heap × Variables) → fits_effect l e ≡ true → effect_of e h v ≡ Gives x → IsProper h (v ∷ vs) (l ∷ ls) → IsProper x.0 (x.1 ∷ vs) (l ∷ ls)
  unfolding effect_of fits_effect
  effect_kept Skip h v x f g p = fine (h, v) x g p
  effect_kept (Assert c) h v x f g p =
      let t = given (truth_of v c) (λ b. if b then Gives (h, v) else Faults Failed) x g in assert_kept t.value h v x t.gives p
  effect_kept (SetInt y e) h v x f g p =
      let t = given (value_of v e) (λ z. Gives (h, with_number v y (Int z))) x g in
      let k = and_parts (is_int l y) (fits_term l e) f in
      fine _ x t.gives (on_top h v _ vs l ls p (int_kept (length h.cells) l v y t.value p.frames.0 k.0 (value_word (length h.cells) l v p.frames.0 e k.1 t.value t.was)))
  effect_kept (Input y) h v x f g p = input_kept h.cells h.inputs v y x f g p
  effect_kept (ReadElement y a e) h v x f g p =
      let t = given (value_of v e) (λ i. andthen (element (array_at v a) i) (λ z. Gives (h, with_number v y (Int z)))) x g in
      let u = given (element (array_at v a) t.value) (λ z. Gives (h, with_number v y (Int z))) x t.gives in
      let k = and_parts (is_int l y) (is_array l a && fits_term l e) f in
      let j = and_parts (is_array l a) (fits_term l e) k.1 in
      fine _ x u.gives (on_top h v _ vs l ls p (int_kept (length h.cells) l v y u.value p.frames.0 k.0 (element_is (array_at v a) t.value u.value (array_is (length h.cells) l v a p.frames.0 j.0).words u.was)))
  effect_kept (ReadItem y q) h v x f g p =
      let t = given (cell_of h.cells (link_at v q)) (λ c. Gives (h, with_number v y (Int c.1.item))) x g in
      let k = and_parts (is_int l y) (is_link l q) f in
      fine _ x t.gives (on_top h v _ vs l ls p (int_kept (length h.cells) l v y t.value.1.item p.frames.0 k.0 (cell_is (length h.cells) h.cells (link_at v q) t.value p.cells t.was).0))
  effect_kept (MakeArray a e) h v x f g p =
      let t = given (value_of v e) (λ n. andthen (new_array n) (λ zs. Gives (h, with_number v a (Array zs)))) x g in
      let u = given (new_array t.value) (λ zs. Gives (h, with_number v a (Array zs))) x t.gives in
      let k = and_parts (is_array l a) (fits_term l e) f in
      let i = new_is t.value u.value u.was in
      fine _ x u.gives (on_top h v _ vs l ls p (array_kept (length h.cells) l v a u.value p.frames.0 k.0 i.short i.words))
  effect_kept (CopyArray a b) h v x f g p =
      let k = and_parts (is_array l a) (is_array l b) f in
      let i = array_is (length h.cells) l v b p.frames.0 k.1 in
      fine _ x g (on_top h v _ vs l ls p (array_kept (length h.cells) l v a (array_at v b) p.frames.0 k.0 i.short i.words))
  effect_kept (WriteElement a e y) h v x f g p =
      let t = given (value_of v e) (λ i. andthen (value_of v y) (λ z. andthen (with_element (array_at v a) i z) (λ zs. Gives (h, with_number v a (Array zs))))) x g in
      let u = given (value_of v y) (λ z. andthen (with_element (array_at v a) t.value z) (λ zs. Gives (h, with_number v a (Array zs)))) x t.gives in
      let w = given (with_element (array_at v a) t.value u.value) (λ zs. Gives (h, with_number v a (Array zs))) x u.gives in
      let k = and_parts (is_array l a) (fits_term l e && fits_term l y) f in
      let j = and_parts (fits_term l e) (fits_term l y) k.1 in
      let i = set_is (array_at v a) w.value t.value u.value (array_is (length h.cells) l v a p.frames.0 k.0) (value_word (length h.cells) l v p.frames.0 y j.1 u.value u.was) w.was in
      fine _ x w.gives (on_top h v _ vs l ls p (array_kept (length h.cells) l v a w.value p.frames.0 k.0 i.short i.words))
  effect_kept (SetNull q) h v x f g p = fine _ x g (on_top h v _ vs l ls p (link_kept (length h.cells) l v q None p.frames.0 tt))
  effect_kept (MakeCell q) h v x f g p =
      let c : Cell = record { item = pos 0; next = None } in
      let h2 : Heap = record h { cells = h.cells ++ (c ∷ []) } in
      let r = cell_added h c (v ∷ vs) (l ∷ ls) p (is_word_zero, tt) in
      let lt : length h.cells < length (h.cells ++ (c ∷ [])) = let k = length-append h.cells (c ∷ []) in omega arith in
      fine (h2, with_link v q (Some (length h.cells))) x g (on_top h2 v _ vs l ls r (link_kept (length (h.cells ++ (c ∷ []))) l v q (Some (length h.cells)) r.frames.0 lt))
  effect_kept (CopyLink q s) h v x f g p = fine _ x g (on_top h v _ vs l ls p (link_kept (length h.cells) l v q (link_at v s) p.frames.0 (link_is (length h.cells) v.links s p.frames.0.links)))
  effect_kept (ReadNext q s) h v x f g p =
      let t = given (cell_of h.cells (link_at v s)) (λ c. Gives (h, with_link v q c.1.next)) x g in
      fine _ x t.gives (on_top h v _ vs l ls p (link_kept (length h.cells) l v q t.value.1.next p.frames.0 (cell_is (length h.cells) h.cells (link_at v s) t.value p.cells t.was).1))
  effect_kept (WriteNext q s) h v x f g p =
      let t = given (cell_of h.cells (link_at v q)) (λ c. Gives (with_cell h c.0 (record { item = c.1.item; next = link_at v s }), v)) x g in
      let i = cell_is (length h.cells) h.cells (link_at v q) t.value p.cells t.was in
      fine (with_cell h t.value.0 (record { item = t.value.1.item; next = link_at v s }), v) x t.gives (cell_set h t.value.0 _ (v ∷ vs) (l ∷ ls) p (i.0, link_is (length h.cells) v.links s p.frames.0.links))
  effect_kept (WriteItem q e) h v x f g p =
      let t = given (value_of v e) (λ z. andthen (cell_of h.cells (link_at v q)) (λ c. Gives (with_cell h c.0 (record { item = z; next = c.1.next }), v))) x g in
      let u = given (cell_of h.cells (link_at v q)) (λ c. Gives (with_cell h c.0 (record { item = t.value; next = c.1.next }), v)) x t.gives in
      let k = and_parts (is_link l q) (fits_term l e) f in
      let i = cell_is (length h.cells) h.cells (link_at v q) u.value p.cells u.was in
      fine (with_cell h u.value.0 (record { item = t.value; next = u.value.1.next }), v) x u.gives (cell_set h u.value.0 _ (v ∷ vs) (l ∷ ls) p (value_word (length h.cells) l v p.frames.0 e k.1 t.value t.was, i.1))

pub effects_keep : EffectsKeep
effects_keep e l ls h v vs x f g p = effect_kept l ls vs e h v x f g p

-- What a call passes fits the callee's first slots.
abbrev FitsFirst : List Numeric → List Number → Type 0
FitsFirst ns [] = Unit {0}
FitsFirst [] (m ∷ ms) = ⊥
FitsFirst (n ∷ ns) (m ∷ ms) = IsNumber n m × FitsFirst ns ms

over_zip : (ns : List Numeric) (ms ds : List Number) → FitsFirst ns ms → AllZip IsNumber ns ds → AllZip IsNumber ns (over ms ds)
over_zip ns [] ds f a = a
over_zip [] (m ∷ ms) ds f a = absurd f
over_zip (n ∷ ns) (m ∷ ms) [] f a = absurd a
over_zip (n ∷ ns) (m ∷ ms) (d ∷ ds) f a = (f.0, over_zip ns ms ds f.1 a.1)

pub over_length : {A : Type 0} (xs ys : List A) → length (over xs ys) ≡ length ys
over_length [] ys = refl
over_length (x ∷ xs) [] = refl
over_length (x ∷ xs) (y ∷ ys) = ap suc (over_length xs ys)

over_all : {A : Type 0} (P : A → Type 0) (xs ys : List A) → All P xs → All P ys → All P (over xs ys)
over_all P [] ys a b = b
over_all P (x ∷ xs) [] a b = All-nil P
over_all P (x ∷ xs) (y ∷ ys) a b = All-cons P x (over xs ys) (a 0 x (omega arith)) (over_all P xs ys (All-tail P x xs a) (All-tail P y ys b))

record FitPassed (cells : ℕ) (ns : List Numeric) (p : Variables) : Type 0 where
  numbers : FitsFirst ns p.numbers
  links : All (IsLink cells) p.links

more_numbers : (k : Bool) (c : ℕ) (ns : List Numeric) (p : Variables) (m : Number) → is_kind k (slice_get ns 0) ≡ true → ((n : Numeric) → n.is_array ≡ k → IsNumber n m) → FitPassed c (drop 1 ns) p → FitPassed c ns (record p { numbers = m ∷ p.numbers })
more_numbers true c [] p m e i f = absurd cc
more_numbers false c [] p m e i f = absurd cc
more_numbers k c (n ∷ ns) p m e i f =
    let s = slot_of k (Some n) e in
    record { numbers = (subst (λ n. IsNumber n m) (same_Some _ _ (sym s.1)) (i s.0 s.2), f.numbers); links = f.links }

passed_fit : (c : ℕ) (l : Layout) (v : Variables) (list : List Argument) (ns : List Numeric) (ls : List (List ℕ)) (p : Variables) → AreVariables c l v → fits_arguments l list ns ls ≡ true → passed v list ≡ Gives p → FitPassed c ns p
passed_fit c l v [] ns ls p a f e = subst (FitPassed c ns) (gives_same e) (record { numbers = tt; links = All-nil (IsLink c) })
passed_fit c l v (IntArgument e ∷ more) ns ls p a f g =
    let t = given (value_of v e) (λ z. andthen (passed v more) (λ p. Gives (record p { numbers = Int z ∷ p.numbers }))) p g in
    let u = given (passed v more) (λ p. Gives (record p { numbers = Int t.value ∷ p.numbers })) p t.gives in
    let k = and_parts (is_kind false (slice_get ns 0)) (fits_term l e && fits_arguments l more (drop 1 ns) ls) f in
    let j = and_parts (fits_term l e) (fits_arguments l more (drop 1 ns) ls) k.1 in
    subst (FitPassed c ns) (gives_same u.gives)
    (more_numbers false c ns u.value (Int t.value) k.0 (λ n i. (i, value_word c l v a e j.0 t.value t.was)) (passed_fit c l v more (drop 1 ns) ls u.value a j.1 u.was))
passed_fit c l v (ArrayArgument x ∷ more) ns ls p a f g =
    let u = given (passed v more) (λ p. Gives (record p { numbers = Array (array_at v x) ∷ p.numbers })) p g in
    let k = and_parts (is_kind true (slice_get ns 0)) (is_array l x && fits_arguments l more (drop 1 ns) ls) f in
    let j = and_parts (is_array l x) (fits_arguments l more (drop 1 ns) ls) k.1 in
    let r = array_is c l v x a j.0 in
    subst (FitPassed c ns) (gives_same u.gives)
    (more_numbers true c ns u.value (Array (array_at v x)) k.0 (λ n i. (i, r.short, r.words)) (passed_fit c l v more (drop 1 ns) ls u.value a j.1 u.was))
passed_fit c l v (LinkArgument q ∷ more) ns ls p a f g =
    let u = given (passed v more) (λ p. Gives (record p { links = side_at v q ∷ p.links })) p g in
    let k = and_parts (nat_lt 0 (length ls)) (is_side l q && fits_arguments l more ns (drop 1 ls)) f in
    let j = and_parts (is_side l q) (fits_arguments l more ns (drop 1 ls)) k.1 in
    let r = passed_fit c l v more ns (drop 1 ls) u.value a j.1 u.was in
    subst (FitPassed c ns) (gives_same u.gives)
    (record { numbers = r.numbers; links = All-cons (IsLink c) (side_at v q) u.value.links (side_is c l v q a) r.links })

-- The values with which variables start.
first_is : (n : Numeric) → IsNumber n (first_number n)
first_is n = by n.is_array refl
  where
    by : (b : Bool) → n.is_array ≡ b → IsNumber n (if b then Array [] else Int (pos 0))
    by true e = (e, omega arith, All-nil IsWord)
    by false e = (e, is_word_zero)

first_zip : (ns : List Numeric) → AllZip IsNumber ns (map first_number ns)
first_zip [] = tt
first_zip (n ∷ ns) = (first_is n, first_zip ns)

first_length : (ls : List (List ℕ)) → length (map first_link ls) ≡ length ls
first_length [] = refl
first_length (x ∷ ls) = ap suc (first_length ls)

first_links : (c : ℕ) (ls : List (List ℕ)) → All (IsLink c) (map first_link ls)
first_links c [] = All-nil (IsLink c)
first_links c (x ∷ ls) = All-cons (IsLink c) None (map first_link ls) tt (first_links c ls)

pub first_kept : (c : ℕ) (l : Layout) → AreVariables c l (first_variables l)
unfolding first_variables
first_kept c l = record { numbers = first_zip l.numbers; count = first_length l.links; links = first_links c l.links }

pub passing_keeps : PassingKeeps
unfolding pass fits_invoke
passing_keeps i l ls h v u vs f g p =
    let c = length h.cells in
    let ns = i.entering.layout.numbers in
    let ks = i.entering.layout.links in
    let t = given (passed v i.entering.arguments) (λ p. Gives (record { numbers = over p.numbers (map first_number i.entering.layout.numbers); links = over p.links (map first_link i.entering.layout.links) })) u g in
    let k = and_parts (fits_arguments l i.entering.arguments ns ks) (fits_returning i.entering.layout l i.returning) f in
    let r = passed_fit c l v i.entering.arguments ns ks t.value p.frames.0 k.0 t.was in
    let a : AreVariables c i.entering.layout (record { numbers = over t.value.numbers (map first_number ns); links = over t.value.links (map first_link ks) }) =
    record {
      numbers = over_zip ns t.value.numbers (map first_number ns) r.numbers (first_zip ns);
      count = over_length t.value.links (map first_link ks) ∙ first_length ks;
      links = over_all (IsLink c) t.value.links (map first_link ks) r.links (first_links c ks);
    } in
    record { cells = p.cells; inputs = p.inputs; frames = (subst (AreVariables c i.entering.layout) (gives_same t.gives) a, p.frames) }

taken_kept : (c : ℕ) (k l : Layout) (v d : Variables) (to from : ℕ) (b : Bool) → is_kind b (slice_get k.numbers from) ≡ true → is_kind b (slice_get l.numbers to) ≡ true → AreVariables c k d → AreVariables c l v → AreVariables c l (with_number v to (number_at d from))
taken_kept c k l v d to from b e f a r =
    let s = at_slot c k d b from a e in
    let t = slot_of b (slice_get l.numbers to) f in
    record { numbers = numbers_kept l.numbers v.numbers to t.0 (number_at d from) r.numbers t.1 (same_kind s.0 t.0 (number_at d from) (s.1 ∙ sym t.2) s.2); count = r.count; links = r.links }
  where
    same_kind : (m n : Numeric) (x : Number) → m.is_array ≡ n.is_array → IsNumber m x → IsNumber n x
    same_kind m n (Int z) e i = (sym e ∙ i.0, i.1)
    same_kind m n (Array zs) e i = (sym e ∙ i.0, i.1, i.2)

back_kept : (c : ℕ) (k l : Layout) (v d : Variables) (r : Option Returning) → fits_returning k l r ≡ true → AreVariables c k d → AreVariables c l v → AreVariables c l (back r v d)
unfolding back
back_kept c k l v d None f a b = b
back_kept c k l v d (Some (NumericResult to from)) f a b = go (or_cases (is_int k from && is_int l to) (is_array k from && is_array l to) f)
  where
    go : ((is_int k from && is_int l to) ≡ true) ⊎ ((is_array k from && is_array l to) ≡ true) → AreVariables c l (with_number v to (number_at d from))
    go (inl e) = let s = and_parts (is_int k from) (is_int l to) e in taken_kept c k l v d to from false s.0 s.1 a b
    go (inr e) = let s = and_parts (is_array k from) (is_array l to) e in taken_kept c k l v d to from true s.0 s.1 a b
back_kept c k l v d (Some (LinkResult to from)) f a b = link_kept c l v to (link_at d from) b (link_is c d.links from a.links)

pub returns_keep : ReturnsKeep
unfolding fits_invoke
returns_keep i l ls h v d vs f p =
    let k = and_parts (fits_arguments l i.entering.arguments i.entering.layout.numbers i.entering.layout.links) (fits_returning i.entering.layout l i.returning) f in
    record { cells = p.cells; inputs = p.inputs; frames = (back_kept (length h.cells) i.entering.layout l v d i.returning k.1 p.frames.0 p.frames.1.0, p.frames.1.1) }

pub last_alone_keeps : LastAloneKeeps
last_alone_keeps l ls h v vs p = record { cells = p.cells; inputs = p.inputs; frames = (p.frames.0, tt) }

pub start_keeps : StartKeeps
start_keeps l inputs w = record { cells = All-nil (IsCell 0); inputs = w; frames = (first_kept 0 l, tt) }
