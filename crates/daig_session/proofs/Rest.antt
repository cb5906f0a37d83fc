-- The places of a report from the first on that is not full.
use Rattle.std.proofs.Common.{◌≡◌, ℕ, zero, suc, ◌+◌, ◌-◌, ◌<◌, ◌≤◌, Bool, true, List, [], ◌∷◌, take, drop, length, Some, None, slice_get, refl, sym, ap, subst, ◌∙◌, arith}
use Rattle.std.proofs.lemmas.List.{length-drop, take_all}
use Rattle.std.proofs.lemmas.Option.{slice_get_within}
use Rattle.std.specs.Prelude.{min, nat_lt, ◌↔◌, Option, IfSome}
use Rattle.std.proofs.lemmas.Bool.Decides.{nat_tests}
use Rattle.base_values.proofs.Cases.{by_bool, less_of}
use Rattle.imp_syntax.specs.declared.edit.Location.{Location}
use Rattle.imp_slots.specs.Fits.{IsChecked}
use Rattle.imp_check.specs.Slots.{routines_of}
use Rattle.domain_laws.specs.Operations.{Operations}
use Rattle.imp_flow.specs.Plans.{Plan}
use Rattle.cell_names.specs.Paths.{CellName}
use Rattle.daig_query.specs.declared.store.Store.{Store}
use Rattle.daig_query.specs.Kept.{kept}
use Rattle.daig_machine.specs.Machine.{Machine}
use Rattle.daig_machine.specs.Turns.{missing_in_places}
use Rattle.daig_session.specs.declared.book.Book.{Book}
use Rattle.daig_session.specs.declared.course.Going.{Going}
use Rattle.daig_session.specs.declared.course.Kind.{Kind}
use Rattle.daig_session.specs.declared.course.Tour.{Tour}
use Rattle.daig_session.specs.Books.{flow_in}
use Rattle.daig_session.specs.Going.{kind_places, IsAlong, IsFull, IsGoing}
use Rattle.daig_session.specs.Holds.{Holds}
use Rattle.daig_session.specs.Places.{HoldsPart, HoldsWith}
use Rattle.daig_session.specs.Tours.{places_in, IsSomeFilled}
use Rattle.daig_session.proofs.Toured.{full_skipped}

by_order : (a b : ℕ) (P : Type 0) → (a < b → P) → (b ≤ a → P) → P
by_order a b P low high = by_bool (nat_lt a b) (λ e. low (less_of a b e)) (λ e. high (grind (arith, nat_tests)))

-- what a slice from a place on shows
pub rest_shown : {A : Type 0} (k : ℕ) (xs : List A) → take (length xs - k) (drop k xs) ≡ drop k xs
rest_shown k xs = take_all (length xs - k) (drop k xs) (let n = length-drop k xs in omega (arith, n))

get_rest : {A : Type 0} (k : ℕ) (xs : List A) (i : ℕ) → slice_get (drop k xs) i ≡ slice_get xs (k + i)
get_rest zero xs i = ap (slice_get xs) (let e : i ≡ 0 + i = omega arith in e)
get_rest (suc k) [] i = refl
get_rest (suc k) (x ∷ xs) i = get_rest k xs i ∙ ap (slice_get (x ∷ xs)) (let e : suc (k + i) ≡ suc k + i = omega arith in e)

get_shown : {A : Type 0} (k : ℕ) (xs ys : List A) → ys ≡ drop k xs → (i j : ℕ) → k + i ≡ j → slice_get ys i ≡ slice_get xs j
get_shown k xs ys e i j s = ap (λ zs. slice_get zs i) e ∙ (get_rest k xs i ∙ ap (slice_get xs) s)

-- How far the first of the rest has come.
pub next_shown : (k : ℕ) (xs ys : List Location) → ys ≡ drop k xs → (comes : Location → Going → Type 0) (i j : ℕ) → k + i ≡ j → (o : Option Going) →
    IfSome o (λ g. (l : Location) → slice_get xs j ≡ Some l → comes l g) → IfSome o (λ g. (l : Location) → slice_get ys i ≡ Some l → comes l g)
next_shown k xs ys e comes i j s None h = tt
next_shown k xs ys e comes i j s (Some g) h = λ l there. h l (sym (get_shown k xs ys e i j s) ∙ there)

next_whole : (k : ℕ) (xs ys : List Location) → ys ≡ drop k xs → (comes : Location → Going → Type 0) (i j : ℕ) → k + i ≡ j → (o : Option Going) →
    IfSome o (λ g. (l : Location) → slice_get ys i ≡ Some l → comes l g) → IfSome o (λ g. (l : Location) → slice_get xs j ≡ Some l → comes l g)
next_whole k xs ys e comes i j s None h = tt
next_whole k xs ys e comes i j s (Some g) h = λ l there. h l (get_shown k xs ys e i j s ∙ there)

-- More of the places are full.
module _ {S : Type 0} (dom : Operations S) (plan : Plan) (old new : Store S) (places rest : List Location) (t : Tour) (a : IsAlong dom plan old places t) (is : rest ≡ drop t.full places) (stays : (x : CellName) → kept old x ≡ true → kept new x ≡ true)
    (more : ℕ) (within : more ≤ length rest) (full : (i : ℕ) (l : Location) → i < more → slice_get rest i ≡ Some l → IsFull dom plan new l) where
  pub more_full : (i : ℕ) (l : Location) → i < t.full + more → slice_get places i ≡ Some l → IsFull dom plan new l
  more_full i l less there =
      by_order i t.full (IsFull dom plan new l) (λ low. λ x mem. stays x (a.full i l low there x mem)) (λ high. full (i - t.full) l (omega (arith, less, high)) (get_shown t.full places rest is (i - t.full) i (omega (arith, high)) ∙ there))

  pub along_more : (next : Option Going) → IfSome next (λ g. (l : Location) → slice_get rest more ≡ Some l → IsGoing dom plan new l [] g) →
      IsAlong dom plan new places (record { kind = t.kind; places = t.places; full = t.full + more; going = next })
  along_more next h = record {
    are = a.are;
    within = let n = ap length is ∙ length-drop t.full places in let w = a.within in omega (arith, n, w, within);
    full = more_full;
    next = next_whole t.full places rest is (λ l g. IsGoing dom plan new l [] g) more (t.full + more) refl next h;
  }

  pub all_full : more ≡ length rest → (i : ℕ) (l : Location) → slice_get places i ≡ Some l → IsFull dom plan new l
  all_full e i l there =
      let n = ap length is ∙ length-drop t.full places in
      let w = a.within in
      let low = slice_get_within places i l there in
      more_full i l (omega (arith, n, w, e, low)) there

-- What is missing is missing of the rest.
module _ {S : Type 0} (dom : Operations S) (store : Store S) (book : Book) (kind : Kind) (rest : List Location) (k : ℕ) (is : rest ≡ drop k (kind_places kind (routines_of book.history.now))) (checked : IsChecked (flow_in book).program)
    (full : (i : ℕ) (l : Location) → i < k → slice_get (kind_places kind (routines_of book.history.now)) i ≡ Some l → IsFull dom (flow_in book) store l) (m : Machine) (h : Holds dom store book m) where
  missing_rest : missing_in_places dom (places_in kind m) m ≡ missing_in_places dom rest m
  missing_rest =
      ap (λ (z : Machine). missing_in_places dom (places_in kind z) m) (sym h.is)
      ∙ (full_skipped dom store book m h checked k (kind_places kind (routines_of book.history.now)) full
      ∙ ap (λ ls. missing_in_places dom ls m) (sym is))

  module _ (new : Store S) (after : Book) where
    pub part_of_all : HoldsPart dom m new after rest → HoldsPart dom m new after (places_in kind m)
    part_of_all p = record { count = p.count; some = subst (λ xs. HoldsWith dom m new after (take p.count xs)) (sym missing_rest) p.some }

    pub some_of_all : (most filled : ℕ) (done : Bool) → IsSomeFilled dom m new after rest most filled done → IsSomeFilled dom m new after (places_in kind m) most filled done
    some_of_all most filled done s = record {
      as_many = subst (λ xs. filled ≡ min most (length xs)) (sym missing_rest) s.as_many;
      ends = subst (λ xs. (done ≡ true) ↔ (length xs ≤ most)) (sym missing_rest) s.ends;
      some = subst (λ xs. HoldsWith dom m new after (take filled xs)) (sym missing_rest) s.some;
    }
