-- Reports for which nothing is missing.
use Rattle.std.proofs.Common.{◌≡◌, ℕ, zero, suc, ◌+◌, ◌*◌, ◌≤◌, List, [], ◌∷◌, ◌++◌, take, length, Some, Ok, Err, slice_get, refl, sym, ap, subst, ◌∙◌, arith, append-nil}
use Rattle.std.specs.FinMap.{len}
use Rattle.std.specs.Prelude.{Result, IfErr}
use Rattle.std.proofs.lemmas.List.{length-append}
use Rattle.imp_syntax.specs.declared.edit.Location.{Location}
use Rattle.imp_check.specs.Slots.{routines_of}
use Rattle.domain_laws.specs.Operations.{Operations}
use Rattle.cell_names.specs.Paths.{CellName}
use Rattle.daig_query.specs.declared.store.Store.{Store}
use Rattle.daig_query.specs.Filled.{cells_added}
use Rattle.daig_machine.specs.Machine.{Machine, keeping}
use Rattle.daig_machine.specs.Turns.{missing_for_faults, missing_for_report, missing_in_places, with_filled, with_names, IsBetween}
use Rattle.daig_session.specs.declared.book.Book.{Book}
use Rattle.daig_session.specs.declared.course.Kind.{Kind}
use Rattle.daig_session.specs.declared.course.Kind.TheVariants as kind
use Rattle.daig_session.specs.Books.{flow_in}
use Rattle.daig_session.specs.Going.{kind_places, IsFull}
use Rattle.daig_session.specs.Holds.{Holds, IsReady}
use Rattle.daig_session.specs.Tours.{places_in}
use Rattle.daig_session.proofs.Reporting.{cells_are, report_missing}
use Rattle.daig_session.proofs.Toured.{none_left_full}

-- all its places are full
pub nothing_missing : {S : Type 0} (dom : Operations S) (store : Store S) (book : Book) (k : Kind) → IsReady dom store book →
    ((i : ℕ) (l : Location) → slice_get (kind_places k (routines_of book.history.now)) i ≡ Some l → IsFull dom (flow_in book) store l) → (m : Machine) → Holds dom store book m → missing_in_places dom (places_in k m) m ≡ []
nothing_missing dom store book k r full m h =
    none_left_full dom store book m h r.right.checked (places_in k m) (λ i l e. full i l (ap (λ (z : Machine). slice_get (places_in k z) i) h.is ∙ e))

module _ {S : Type 0} (dom : Operations S) (store : Store S) (book : Book) (k : Kind) (r : IsReady dom store book) (full : (i : ℕ) (l : Location) → slice_get (kind_places k (routines_of book.history.now)) i ≡ Some l → IsFull dom (flow_in book) store l) (m : Machine) (h : Holds dom store book m) where
  -- for a report ..
  pub report_full : k ≡ kind.Checks → missing_for_report dom m ≡ []
  report_full e = sym (report_missing dom m) ∙ subst (λ (x : Kind). missing_in_places dom (places_in x m) m ≡ []) e (nothing_missing dom store book k r full m h)

  -- .. and for a report of faults
  pub faults_full : k ≡ kind.Faults → missing_for_faults dom m ≡ []
  faults_full e = subst (λ (x : Kind). missing_in_places dom (places_in x m) m ≡ []) e (nothing_missing dom store book k r full m h)

first_none : (n : ℕ) (ys : List CellName) → ys ≡ [] → take n ys ≡ []
first_none zero ys e = refl
first_none (suc n) [] e = refl
first_none (suc n) (y ∷ ys) e = absurd cc

-- What is kept then is what was kept.
module _ (xs : List CellName) (m : Machine) (stands : Machine → Type 0) (none : xs ≡ []) where
  pub nothing_filled : stands (with_filled xs m) → stands (keeping m.kept 0 m)
  nothing_filled h = subst (λ ks. stands (keeping ks 0 m)) (append-nil m.kept) (subst (λ ys. stands (with_filled ys m)) none h)

  take_none : (n : ℕ) → take n xs ≡ []
  take_none n = first_none n xs none

  pub nothing_between : IsBetween xs m stands → stands m
  nothing_between b = subst (λ ks. stands (keeping ks m.cost m)) (ap (λ ys. m.kept ++ ys) (take_none b.count) ∙ append-nil m.kept) b.some

-- as many cells as there were
pub none_added : {S : Type 0} (dom after_dom : Operations S) (old new : Store S) (before after : Book) (m later : Machine) → IsReady dom old before → Holds dom old before m → IsReady after_dom new after → Holds after_dom new after later → later.kept ≡ m.kept → len new.graph.cells ≡ len old.graph.cells
none_added dom after_dom old new before after m later r h q k e =
    let a = cells_are dom old before r m h in
    let b = cells_are after_dom new after q later k in
    let f = ap length e in
    omega (arith, a, b, f)

pub none_filled : {S : Type 0} (old new : Store S) → len new.graph.cells ≡ len old.graph.cells → cells_added old new ≡ 0
none_filled old new e = omega (arith, e)

-- these are more, if then none is added
pub added_names : {S : Type 0} (dom later : Operations S) (old mid new : Store S) (before during : Book) (m : Machine) (xs : List CellName) → IsReady dom old before → Holds dom old before m → IsReady later mid during → Holds later mid during (with_names xs m) → len new.graph.cells ≡ len mid.graph.cells → cells_added old new ≡ length xs
added_names dom later old mid new before during m xs r h q k e =
    let a = cells_are dom old before r m h in
    let b = cells_are later mid during q (with_names xs m) k ∙ length-append m.kept xs in
    omega (arith, a, b, e)

-- nothing beside is worked out
pub work_unfilled : (s u each n k : ℕ) → n ≡ 0 → u ≤ s + each * (n + k) → u ≤ s + each * k
work_unfilled s u each n k e h = subst (λ j. u ≤ s + each * j) (let q : n + k ≡ k = omega (arith, e) in q) h

pub work_one_more : (s u each n k : ℕ) → n ≡ 0 → u ≤ s + each * suc (n + k) → u ≤ s + each * suc k
work_one_more s u each n k e h = subst (λ j. u ≤ s + each * suc j) (let q : n + k ≡ k = omega (arith, e) in q) h

-- whichever error it is
pub whichever : {R E : Type 0} (r : Result R E) (P : Type 0) → P → IfErr r (λ e. P)
whichever (Ok v) P h = tt
whichever (Err e) P h = h
