-- After a value that is an Over or dead two simple statements give the same.
use Rattle.std.proofs.Common.{◌≡◌, ℕ, zero, suc, List, ◌∷◌, reverse, slice_get, Option, Some, None, Bool, true, false, refl, sym, ap, ◌∙◌, subst}
use Rattle.imp_slots.specs.Plain.{Layout, Guard, Effect, DoBreak, Does, Invoke, Code, Stop, Simple, If, While, Call, Break, Routine}
use Rattle.imp_slots.specs.Fits.{fits_effect, IsChecked}
use Rattle.concrete_sem.specs.Values.{Variables, Heap}
use Rattle.imp_chains.specs.Claims.{ThresholdsRise}
use Rattle.domain_laws.specs.Operations.{Operations}
use Rattle.domain_laws.specs.Laws.{Laws, KeepsDead}
use Rattle.batch_meaning.specs.Values.{Value, State, Over, lift}
use Rattle.batch_meaning.specs.Batch.{LoopOptions}
use Rattle.batch_meaning.specs.Places.{if_some, main_layout}
use Rattle.batch_meaning.proofs.Procedures.{fit_back}
use Rattle.batch_sound.proofs.Values.{Fit}
use Rattle.cell_names.specs.declared.frame.NameFrame.{NameFrame}
use Rattle.cell_names.specs.declared.frame.NameFrame.TheVariants.{InCall}
use Rattle.cell_names.specs.declared.frame.Point.{Point}
use Rattle.cell_names.specs.declared.frame.Point.TheVariants.{Entry, Body, Post}
use Rattle.cell_names.specs.Paths.{CellName}
use Rattle.cell_rows.specs.Names.{IsSame, name, Mark, PathBlock, Algebra, number, breaks, in_call, statement, follow, post_mark}
use Rattle.cell_rows.specs.Rows.{Posts, Assumes, Enters, Exits, Leaves, Row, Init, One, Two, Fixed, Joins, joined_point, last_point, leave_points, loop_row, post_row}
use Rattle.cell_rows.specs.Cells.{Cell, values, plain, unary, row_of_name, value_of_mark}
use Rattle.cell_rows.specs.Flat.{flat_row}
use Rattle.cell_rows.specs.Claims.{HasName}
use Rattle.cell_rows.proofs.Answered.{valued, total_batch}
use Rattle.cell_rows.proofs.Bare.{row_bare}
use Rattle.cell_rows.proofs.FlatOnce.{flat_once, all_fine}
use Rattle.cell_rows.proofs.FlatRows.{flat_row_is}
use Rattle.cell_rows.proofs.Lookup.{unstated, fine}
use Rattle.cell_rows.proofs.TableProofs.{tie, by_tie, mark_at_name}
use Rattle.cell_rows.proofs.Tied.{Led, led_to, front_found}
use Rattle.daig_demands.specs.Claims.{found_by}
use Rattle.why_slice.specs.Upstream.{is_live}
use Rattle.why_slice.proofs.Fitting.{AllSuit, follow_fits, at_fits}
use Rattle.std.proofs.lemmas.Option.{same_Some}
use Rattle.std.proofs.lemmas.Bool.{not-false}

module _ {S : Type 0} (dom : Operations S) (engine : LoopOptions) (covers : S → Heap → List Variables → Type 0) (laws : Laws dom covers) (rises : ThresholdsRise) (dead : KeepsDead dom) where
  -- on a value that fits
  idle_value : (l : Layout) (ls : List Layout) (e f : Effect) (v : Value S) → fits_effect l e ≡ true → fits_effect l f ≡ true → Fit dom engine covers laws v (l ∷ ls) → is_live dom v ≡ false → lift (dom.post (Does e)) v ≡ lift (dom.post (Does f)) v
  idle_value l ls e f (Over n z) h k g i = refl
  idle_value l ls e f (State x) h k g i =
      let d : dom.dead x ≡ true = not-false (dom.dead x) i in
      ap (λ s. State s) (dead e l ls x h g d ∙ sym (dead f l ls x k g d))

  module _ (s : ℕ) (f : Effect) (program : List Routine) (checked : IsChecked program) (suit : AllSuit s f (reverse program)) (same : CellName → CellName → Bool) (is : IsSame same) where
    abbrev back : List Routine
    back = reverse program

    abbrev A : Algebra (Cell S)
    A = values dom engine (main_layout back)

    abbrev M : Type 0
    M = Mark (Cell S)

    abbrev P : Type 0
    P = PathBlock engine A

    abbrev found : CellName → Cell S
    found = found_by dom engine program same

    -- the effect of a row after a simple statement
    abbrev effect_of : Row → Option Effect
    effect_of (Init layout) = None
    effect_of (One (Posts DoBreak) a) = None
    effect_of (One (Posts (Does e)) a) = Some e
    effect_of (One (Assumes guard h) a) = None
    effect_of (One (Enters entering) a) = None
    effect_of (One (Exits guard) a) = None
    effect_of (Two op a b) = None
    effect_of (Fixed n z w p) = None
    effect_of (Joins stays l n w p) = None

    abbrev effects : Option Row → Option Effect
    effects None = None
    effects (Some r) = effect_of r

    abbrev input_of : Row → Point
    input_of (Init layout) = Entry
    input_of (One op a) = a.point
    input_of (Two op a b) = Entry
    input_of (Fixed n z w p) = Entry
    input_of (Joins stays l n w p) = Entry

    loop_effects : (w : List NameFrame) (n : ℕ) (g : Guard) (body : Code) (k : ℕ) → effects (loop_row engine A w n g body k) ≡ None
    loop_effects w n g body zero = refl
    loop_effects w n g body (suc i) = go (slice_get (leave_points body Body) i)
      where
        go : (o : Option Point) → effects (if_some o (λ p. Some (Joins false (name w (joined_point n body i)) n w p))) ≡ None
        go None = refl
        go (Some p) = refl

    call_effects : (w : List NameFrame) (i : Invoke) (n : ℕ) (o : Option P) (p : Point) → effects (if_some o (λ d. Some (Two (Leaves i.returning) (name w p) (name (InCall n ∷ w) (last_point d.code Entry))))) ≡ None
    call_effects w i n None p = refl
    call_effects w i n (Some d) p = refl

    -- the value before a statement that a path leads to
    found_front : (w : List NameFrame) (b : P) (y : M) (d : Code) → Led dom engine back (all_fine program checked) w b y d → found (name w y.point) ≡ y.value
    found_front w b y d l =
        let i = front_found dom engine back (all_fine program checked) w b y d l in
        total_batch dom engine program checked same is (name w y.point) (y, i) ∙ ap (value_of_mark dom engine) i

    idle_at : (w : List NameFrame) (b : P) (y : M) (d : Code) (e : Effect) (p : Point) → Led dom engine back (all_fine program checked) w b y d → s ≡ number d →
        post_row engine A w b y d ≡ Some (One (Posts (Does e)) (name w p)) → is_live dom (found (name w p)).value ≡ false →
        unary dom engine (Posts (Does e)) (found (name w p)) ≡ unary dom engine (Posts (Does f)) (found (name w p))
    idle_at w b y Stop e p l k r h = absurd cc
    idle_at w b y (Simple n x q) e p l k r h =
        let i : p ≡ y.point = sym (ap input_of (same_Some _ _ r)) in
        let j : x ≡ e = same_Some x e (ap effects r) in
        let c = found_front w b y (Simple n x q) l in
        let v : is_live dom y.value.value ≡ false = subst (λ (a : Cell S). is_live dom a.value ≡ false) c (subst (λ (p : Point). is_live dom (found (name w p)).value ≡ false) i h) in
        let t = follow_fits dom engine covers laws rises s f back (fit_back program checked) suit w b l.leads in
        let a = at_fits dom engine covers laws rises s f (main_layout back) b t y (Simple n x q) l.stands in
        let u = idle_value t.frame t.below x f y.value.value a.code.0 (a.suits.0 (sym k)) a.front v in
        subst (λ (p : Point). unary dom engine (Posts (Does e)) (found (name w p)) ≡ unary dom engine (Posts (Does f)) (found (name w p))) (sym i)
        (subst (λ (a : Cell S). unary dom engine (Posts (Does e)) a ≡ unary dom engine (Posts (Does f)) a) (sym c)
        (subst (λ (e : Effect). unary dom engine (Posts (Does e)) y.value ≡ unary dom engine (Posts (Does f)) y.value) j (ap (λ v. plain v) u)))
    idle_at w b y (If n g a c q) e p l k r h = absurd cc
    idle_at w b y (While n g a q) e p l k r h = let i = sym (ap effects r) ∙ loop_effects w n g a (breaks a) in absurd cc
    idle_at w b y (Call n i j q) e p l k r h = let c = sym (ap effects r) ∙ call_effects w i n (in_call engine A b n y (Call n i j q)) y.point in absurd cc
    idle_at w b y (Break n q) e p l k r h = absurd cc

    -- After the statement s of a program, where it is a simple one, another one gives the same, if the value before
    -- it is not live.
    pub idle : (w : List NameFrame) (e : Effect) (p : Point) → HasName engine program (name w (Post s)) → flat_row engine back w (Post s) ≡ Some (One (Posts (Does e)) (name w p)) →
        is_live dom (found (name w p)).value ≡ false → unary dom engine (Posts (Does e)) (found (name w p)) ≡ unary dom engine (Posts (Does f)) (found (name w p))
    idle w e p has row h =
        let v = valued dom engine program checked (name w (Post s)) has in
        let u = unstated engine A (follow engine A back w) s (post_mark engine A) v.0 v.1 in
        let l : Led dom engine back (all_fine program checked) w u.place u.before u.code = record { leads = u.leads; fine = fine engine A back (all_fine program checked) w u.place u.leads; stands = u.stands } in
        by_tie dom engine back (all_fine program checked) (row_of_name dom engine back (name w (Post s))) (mark_at_name dom engine back (all_fine program checked) (name w (Post s))) (tie dom engine back (all_fine program checked) (name w (Post s)))
        (λ a b. let e = sym b ∙ v.1 in absurd cc)
        (λ r m a b k.
        let i : r ≡ One (Posts (Does e)) (name w p) = same_Some _ _ (sym (flat_row_is engine back (flat_once program checked) w (Post s) r a) ∙ row) in
        let j : post_row engine A w u.place u.before u.code ≡ Some r =
        sym (led_to dom engine back (all_fine program checked) w u.place u.before u.code l (post_row engine A w))
        ∙ ap (λ n. statement engine A (follow engine A back w) n (post_row engine A w)) (sym u.numbered)
        ∙ sym (row_bare engine A back w (Post s)) ∙ a in
        idle_at w u.place u.before u.code e p l u.numbered (j ∙ ap (λ r. Some r) i) h)
