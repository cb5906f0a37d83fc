-- The table by numbers is one for all names, and has the same values at the names that the program has.
use Rattle.std.proofs.Common.{◌≡◌, ℕ, zero, suc, ◌+◌, ◌<◌, ◌≤◌, List, [], ◌∷◌, ◌++◌, length, map, Option, Some, None, Bool, true, false, if◌then◌else◌, ◌==◌, refl, sym, ap, ◌∙◌, subst, nat_lt}
use Rattle.std.specs.Option.{option_map}
use Rattle.std.proofs.lemmas.List.{map-append}
use mathlib.Core.List.{map-map}
use Rattle.imp_slots.specs.Plain.{Guard, Code, Stop, Simple, If, While, Call, Break, Routine}
use Rattle.imp_slots.specs.Fits.{Distinct}
use Rattle.domain_laws.specs.Operations.{Operations}
use Rattle.batch_meaning.specs.Values.{Value, State, Over}
use Rattle.batch_meaning.specs.Batch.{LoopOptions}
use Rattle.batch_meaning.specs.Places.{find, if_some}
use Rattle.cell_names.specs.declared.frame.NameFrame.{NameFrame}
use Rattle.cell_names.specs.declared.frame.NameFrame.TheVariants.{InCall, InLoop}
use Rattle.cell_names.specs.declared.frame.Point.{Point}
use Rattle.cell_names.specs.declared.frame.Point.TheVariants.{Entry, Then, Else, Body, Post, Iterate, Fix, Exit, Leap}
use Rattle.cell_names.specs.Paths.{CellName}
use Rattle.base_values.proofs.Members.{here, there, Each, each_more, each_both, none_there, keys}
use Rattle.base_values.proofs.Cases.{less_of}
use Rattle.batch_meaning.proofs.Places.{found_member}
use Rattle.daig_order.specs.Asking.{SameRow, Rows, AreRows, value_of, inputs_of}
use Rattle.daig_order.proofs.Stable.{stable}
use Rattle.cell_rows.specs.Names.{Scope, scope_of, IsSame, name, Mark, mark, At, PathBlock, bare, AllFine, Nested, number, break_numbers, inside, behind_it, entry, iterate_point}
use Rattle.cell_rows.specs.Rows.{Row, Init, One, Two, Fixed as FixedRow, Joins, sites_of, branch_row, post_row, next_row, fix_row, exit_row, leap_row, enter_row, turn_row}
use Rattle.cell_rows.specs.Targets.{Text, deeper, texts}
use Rattle.cell_rows.specs.Cells.{Cell, table, asks_row, operation_row, most_row, by_row, nothing, right_of, wants_first, row_of_name, value_of_name}
use Rattle.cell_rows.specs.Flat.{Flat, flat_of, flat, stand_in, by_text, flat_row}
use Rattle.cell_rows.specs.Total.{Spread, spread_of, entries, spread, total_rank, base, offset}
use Rattle.cell_rows.specs.TotalTable.{total_row, total_table}
use Rattle.cell_rows.proofs.Checked.{distinct_part, break_part}
use Rattle.cell_rows.proofs.FlatRows.{Reads, branch_reads, post_reads, enter_reads, turn_reads, next_reads, fix_reads, exit_reads, leap_reads, flat_row_is}
use Rattle.cell_rows.proofs.TableProofs.{HasName, is_table, values_agree, wants_within, enough, by_tie, tie, mark_at_name}
use Rattle.cell_rows.proofs.Package.{inputs_have}
use Rattle.cell_rows.proofs.TotalRank.{U, Good, fair, Whole}
use Rattle.cell_rows.proofs.TotalFalls.{Lower, LowerIn, G, low_branch, low_post, low_next, low_fix, low_exit, low_leap, low_turn, low_enter}
use Rattle.std.proofs.lemmas.Option.{same_Some, cond_some}

find_map : {A B : Type 0} (f : A → B) (n : ℕ) (xs : List (ℕ × A)) → find n (map (λ (x : ℕ × A). (x.0, f x.1)) xs) ≡ option_map f (find n xs)
find_map f n [] = refl
find_map {A} {B} f n (x ∷ xs) = go (n == x.0) (find_map f n xs)
  where
    go : (c : Bool) → find n (map (λ (x : ℕ × A). (x.0, f x.1)) xs) ≡ option_map f (find n xs) → (if c then Some (f x.1) else find n (map (λ (x : ℕ × A). (x.0, f x.1)) xs)) ≡ option_map f (if c then Some x.1 else find n xs)
    go true e = refl
    go false e = e

module _ (engine : LoopOptions) where
  -- What both tables have of a statement.
  record Strip : Type 0 where
    scope : Scope
    front : Point
    code : Code

  abbrev strip_spread : ℕ × Spread → ℕ × Strip
  strip_spread x = (x.0, record { scope = x.1.scope; front = x.1.at.before.point; code = x.1.at.code })

  abbrev strip_flat : ℕ × Flat → ℕ × Strip
  strip_flat x = (x.0, record { scope = scope_of engine bare x.1.routine x.1.earlier; front = x.1.text.front; code = x.1.text.code })

  abbrev Sc : Routine → List Routine → Scope
  Sc = scope_of engine bare

  abbrev SE : Scope → ℕ × At (Unit {0}) → ℕ × Strip
  SE e x = strip_spread (spread_of e x)

  abbrev SF : Routine → List Routine → ℕ × Text → ℕ × Strip
  SF c e x = strip_flat (flat_of c e x)

  deeper_strip : (c : Routine) (e : List Routine) (n : ℕ) (xs : List (ℕ × Text)) → map (SF c e) (map (deeper n) xs) ≡ map (SF c e) xs
  deeper_strip c e n [] = refl
  deeper_strip c e n (x ∷ xs) = ap (λ k. SF c e x ∷ k) (deeper_strip c e n xs)

  two : {A B C : Type 0} (f : A → C) (g : B → C) (xs ys : List A) (us vs : List B) → map f xs ≡ map g us → map f ys ≡ map g vs → map f (xs ++ ys) ≡ map g (us ++ vs)
  two f g xs ys us vs a b = rw (map-append f xs ys, map-append g us vs, a, b) refl

  entries_texts : (rt : Routine) (e : List Routine) (c : Code) (x : Mark (Unit {0})) → map (SE (Sc rt e)) (entries engine (Sc rt e) c x) ≡ map (SF rt e) (texts c x.point)
  entries_texts rt e Stop x = refl
  entries_texts rt e (Simple n effect r) x = ap (λ k. SE (Sc rt e) (entry engine bare (Sc rt e) [] x (Simple n effect r)) ∷ k) (entries_texts rt e r (behind_it engine bare (Sc rt e) [] (Simple n effect r) x))
  entries_texts rt e (If n guard t f r) x =
      let xt = inside engine bare (Sc rt e) [] true n guard x in
      let xf = inside engine bare (Sc rt e) [] false n guard x in
      let u = behind_it engine bare (Sc rt e) [] (If n guard t f r) x in
      ap (λ k. SE (Sc rt e) (entry engine bare (Sc rt e) [] x (If n guard t f r)) ∷ k)
      (two (SE (Sc rt e)) (SF rt e) (entries engine (Sc rt e) t xt) (entries engine (Sc rt e) f xf ++ entries engine (Sc rt e) r u) (texts t (Then n)) (texts f (Else n) ++ texts r (Post n)) (entries_texts rt e t xt)
      (two (SE (Sc rt e)) (SF rt e) (entries engine (Sc rt e) f xf) (entries engine (Sc rt e) r u) (texts f (Else n)) (texts r (Post n)) (entries_texts rt e f xf) (entries_texts rt e r u)))
  entries_texts rt e (While n guard b r) x =
      let u = behind_it engine bare (Sc rt e) [] (While n guard b r) x in
      ap (λ k. SE (Sc rt e) (entry engine bare (Sc rt e) [] x (While n guard b r)) ∷ k)
      (two (SE (Sc rt e)) (SF rt e) (entries engine (Sc rt e) b (mark Body 0 tt)) (entries engine (Sc rt e) r u) (map (deeper n) (texts b Body)) (texts r (Post n)) (entries_texts rt e b (mark Body 0 tt) ∙ sym (deeper_strip rt e n (texts b Body))) (entries_texts rt e r u))
  entries_texts rt e (Call n call q r) x = ap (λ k. SE (Sc rt e) (entry engine bare (Sc rt e) [] x (Call n call q r)) ∷ k) (entries_texts rt e r (behind_it engine bare (Sc rt e) [] (Call n call q r) x))
  entries_texts rt e (Break n r) x = ap (λ k. SE (Sc rt e) (entry engine bare (Sc rt e) [] x (Break n r)) ∷ k) (entries_texts rt e r (behind_it engine bare (Sc rt e) [] (Break n r) x))

  strips : (ps : List Routine) → map strip_spread (spread engine ps) ≡ map strip_flat (flat ps)
  strips [] = refl
  strips (c ∷ e) =
      two strip_spread strip_flat (map (spread_of (Sc c e)) (entries engine (Sc c e) c.code (mark Entry 0 tt))) (spread engine e) (map (flat_of c e) (texts c.code Entry)) (flat e)
      (map-map strip_spread (spread_of (Sc c e)) (entries engine (Sc c e) c.code (mark Entry 0 tt)) ∙ entries_texts c e c.code (mark Entry 0 tt) ∙ sym (map-map strip_flat (flat_of c e) (texts c.code Entry)))
      (strips e)

  keys_strip_spread : (xs : List (ℕ × Spread)) → keys (map strip_spread xs) ≡ keys xs
  keys_strip_spread [] = refl
  keys_strip_spread (x ∷ xs) = ap (λ k. x.0 ∷ k) (keys_strip_spread xs)

  keys_strip_flat : (xs : List (ℕ × Flat)) → keys (map strip_flat xs) ≡ keys xs
  keys_strip_flat [] = refl
  keys_strip_flat (x ∷ xs) = ap (λ k. x.0 ∷ k) (keys_strip_flat xs)

  pub spread_once : (ps : List Routine) → Distinct (keys (flat ps)) → Distinct (keys (spread engine ps))
  spread_once ps d = subst Distinct (sym (keys_strip_flat (flat ps)) ∙ ap (λ (xs : List (ℕ × Strip)). keys xs) (sym (strips ps)) ∙ keys_strip_spread (spread engine ps)) d

  -- the breaks of each loop are told apart
  abbrev BreaksOnce : Code → Type 0
  BreaksOnce Stop = Unit {0}
  BreaksOnce (Simple n effect r) = Unit {0}
  BreaksOnce (If n guard t f r) = Unit {0}
  BreaksOnce (While n guard b r) = Distinct (break_numbers b)
  BreaksOnce (Call n call q r) = Unit {0}
  BreaksOnce (Break n r) = Unit {0}

  abbrev OnceAt : ℕ × At (Unit {0}) → Type 0
  OnceAt x = BreaksOnce x.1.code

  breaks_once : (e : Scope) (c : Code) (x : Mark (Unit {0})) → Nested c → Each OnceAt (entries engine e c x)
  breaks_once e Stop x h = none_there OnceAt
  breaks_once e (Simple n effect r) x h = each_more OnceAt (entry engine bare e [] x (Simple n effect r)) _ tt (breaks_once e r (behind_it engine bare e [] (Simple n effect r) x) h)
  breaks_once e (If n guard t f r) x h =
      each_more OnceAt (entry engine bare e [] x (If n guard t f r)) _ tt
      (each_both OnceAt _ _ (breaks_once e t (inside engine bare e [] true n guard x) h.0)
      (each_both OnceAt _ _ (breaks_once e f (inside engine bare e [] false n guard x) h.1) (breaks_once e r (behind_it engine bare e [] (If n guard t f r) x) h.2)))
  breaks_once e (While n guard b r) x h =
      each_more OnceAt (entry engine bare e [] x (While n guard b r)) _ (distinct_part (break_part b) h.0)
      (each_both OnceAt _ _ (breaks_once e b (mark Body 0 tt) h.1) (breaks_once e r (behind_it engine bare e [] (While n guard b r) x) h.2))
  breaks_once e (Call n call q r) x h = each_more OnceAt (entry engine bare e [] x (Call n call q r)) _ tt (breaks_once e r (behind_it engine bare e [] (Call n call q r) x) h)
  breaks_once e (Break n r) x h = each_more OnceAt (entry engine bare e [] x (Break n r)) _ tt (breaks_once e r (behind_it engine bare e [] (Break n r) x) h)

  abbrev OnceIn : ℕ × Spread → Type 0
  OnceIn x = BreaksOnce x.1.at.code

  once_map : (e : Scope) (xs : List (ℕ × At (Unit {0}))) → Each OnceAt xs → Each OnceIn (map (spread_of e) xs)
  once_map e [] g = none_there OnceIn
  once_map e (x ∷ xs) g = each_more OnceIn (spread_of e x) (map (spread_of e) xs) (g.at x here) (once_map e xs (record { at = λ y m. g.at y (there m) }))

  all_breaks : (ps : List Routine) → AllFine ps → Each OnceIn (spread engine ps)
  all_breaks [] h = none_there OnceIn
  all_breaks (c ∷ e) h = each_both OnceIn _ _ (once_map (Sc c e) (entries engine (Sc c e) c.code (mark Entry 0 tt)) (breaks_once (Sc c e) c.code (mark Entry 0 tt) h.0.nested)) (all_breaks e h.1)

  module _ (program : List Routine) (fine : AllFine program) (once : Distinct (keys (flat program))) where
    abbrev spread_is : Distinct (keys (spread engine program))
    spread_is = spread_once program once

    abbrev stand_at : List NameFrame → Spread → PathBlock engine bare
    stand_at w u = record { scope = u.scope; sites = sites_of w; code = u.at.code; first = mark Entry 0 tt }

    abbrev by_spread : List NameFrame → ℕ → (PathBlock engine bare → Mark (Unit {0}) → Code → Option Row) → Option Row
    by_spread w n g = if_some (find n (spread engine program)) (λ u. g (stand_at w u) u.at.before u.at.code)

    -- rows by either table
    same_tables : (w : List NameFrame) (n : ℕ) (g : PathBlock engine bare → Mark (Unit {0}) → Code → Option Row) → Reads engine program once g → by_text engine program w n g ≡ by_spread w n g
    same_tables w n g h =
        let sf = λ (v : Flat). strip_flat_of v in
        from_flat (find n (flat program)) ∙ ap stripped (sym (find_map strip_flat_of n (flat program)) ∙ ap (find n) (sym (strips program)) ∙ find_map strip_spread_of n (spread engine program)) ∙ to_spread (find n (spread engine program))
      where
        strip_flat_of : Flat → Strip
        strip_flat_of v = record { scope = Sc v.routine v.earlier; front = v.text.front; code = v.text.code }

        strip_spread_of : Spread → Strip
        strip_spread_of u = record { scope = u.scope; front = u.at.before.point; code = u.at.code }

        stripped : Option Strip → Option Row
        stripped o = if_some o (λ s. g (record { scope = s.scope; sites = sites_of w; code = s.code; first = mark Entry 0 tt }) (mark s.front 0 tt) s.code)

        from_flat : (o : Option Flat) → if_some o (λ u. g (stand_in engine program w u) (mark u.text.front 0 tt) u.text.code) ≡ stripped (option_map strip_flat_of o)
        from_flat None = refl
        from_flat (Some v) = refl

        to_spread : (o : Option Spread) → stripped (option_map strip_spread_of o) ≡ if_some o (λ u. g (stand_at w u) u.at.before u.at.code)
        to_spread None = refl
        to_spread (Some u) = h (stand_at w u) (stand_at w u) (mark u.at.before.point 0 tt) u.at.before u.at.code refl refl refl

    abbrev GoodAt : Spread → Type 0
    GoodAt u = Good engine program spread_is u.scope (number u.at.code, u.at)

    low_statement : (w : List NameFrame) (n m : ℕ) (g : PathBlock engine bare → Mark (Unit {0}) → Code → Option Row) → Reads engine program once g → ((u : Spread) → n ≡ number u.at.code → GoodAt u → Whole engine program spread_is u.scope.earlier → BreaksOnce u.at.code → LowerIn engine program spread_is (g (stand_at w u) u.at.before u.at.code) m) → LowerIn engine program spread_is (by_text engine program w n g) m
    low_statement w n m g h f = subst (λ (o : Option Row). LowerIn engine program spread_is o m) (sym (same_tables w n g h)) (go (find n (spread engine program)) refl)
      where
        go : (o : Option Spread) → find n (spread engine program) ≡ o → LowerIn engine program spread_is (if_some o (λ u. g (stand_at w u) u.at.before u.at.code)) m
        go None e = tt
        go (Some u) e =
            let i = found_member n u (spread engine program) e in
            let q = (fair engine program spread_is program (λ x m. m)).at (n, u) i in
            f u q.good_there.named (subst (λ (k : ℕ). Good engine program spread_is u.scope (k, u.at)) q.good_there.named q.good_there) q.whole ((all_breaks program fine).at (n, u) i)

    breaks_of : (d : Code) → BreaksOnce d → (n : ℕ) (guard : Guard) (body r : Code) → d ≡ While n guard body r → Distinct (break_numbers body)
    breaks_of d h n guard body r e = subst BreaksOnce e h

    next_low : (b : PathBlock engine bare) (y : U engine program spread_is) (w : List NameFrame) (whole : Whole engine program spread_is b.scope.earlier) (k : ℕ) (d : Code) → G engine program spread_is b y w whole d → BreaksOnce d → LowerIn engine program spread_is (next_row engine bare w k b y d) (base engine program w + offset engine program (Iterate (number d) (suc k)))
    next_low b y w whole k Stop g h = tt
    next_low b y w whole k (Simple n effect r) g h = tt
    next_low b y w whole k (If n guard t f r) g h = tt
    next_low b y w whole k (While n guard body r) g h = low_next engine program spread_is b y w whole n guard body r h g k
    next_low b y w whole k (Call n call q r) g h = tt
    next_low b y w whole k (Break n r) g h = tt

    fix_low : (b : PathBlock engine bare) (y : U engine program spread_is) (w : List NameFrame) (whole : Whole engine program spread_is b.scope.earlier) (d : Code) → G engine program spread_is b y w whole d → BreaksOnce d → LowerIn engine program spread_is (fix_row engine bare w b y d) (base engine program w + offset engine program (Fix (number d)))
    fix_low b y w whole Stop g h = tt
    fix_low b y w whole (Simple n effect r) g h = tt
    fix_low b y w whole (If n guard t f r) g h = tt
    fix_low b y w whole (While n guard body r) g h = low_fix engine program spread_is b y w whole n guard body r h g
    fix_low b y w whole (Call n call q r) g h = tt
    fix_low b y w whole (Break n r) g h = tt

    exit_low : (b : PathBlock engine bare) (y : U engine program spread_is) (w : List NameFrame) (whole : Whole engine program spread_is b.scope.earlier) (d : Code) → G engine program spread_is b y w whole d → BreaksOnce d → LowerIn engine program spread_is (exit_row engine bare w b y d) (base engine program w + offset engine program (Exit (number d)))
    exit_low b y w whole Stop g h = tt
    exit_low b y w whole (Simple n effect r) g h = tt
    exit_low b y w whole (If n guard t f r) g h = tt
    exit_low b y w whole (While n guard body r) g h = low_exit engine program spread_is b y w whole n guard body r h g
    exit_low b y w whole (Call n call q r) g h = tt
    exit_low b y w whole (Break n r) g h = tt

    leap_low : (b : PathBlock engine bare) (y : U engine program spread_is) (w : List NameFrame) (whole : Whole engine program spread_is b.scope.earlier) (k : ℕ) (d : Code) → G engine program spread_is b y w whole d → BreaksOnce d → LowerIn engine program spread_is (leap_row engine bare w k b y d) (base engine program w + offset engine program (Leap (number d) k))
    leap_low b y w whole k Stop g h = tt
    leap_low b y w whole k (Simple n effect r) g h = tt
    leap_low b y w whole k (If n guard t f r) g h = tt
    leap_low b y w whole k (While n guard body r) g h = low_leap engine program spread_is b y w whole n guard body r h g k
    leap_low b y w whole k (Call n call q r) g h = tt
    leap_low b y w whole k (Break n r) g h = tt

    turn_low : (n k : ℕ) (b : PathBlock engine bare) (y : U engine program spread_is) (w : List NameFrame) (whole : Whole engine program spread_is b.scope.earlier) (d : Code) → n ≡ number d → G engine program spread_is b y w whole d → BreaksOnce d → LowerIn engine program spread_is (turn_row engine bare w b n k y d) (base engine program (InLoop n k ∷ w) + 0)
    turn_low n k b y w whole Stop e g h = tt
    turn_low n k b y w whole (Simple m effect r) e g h = tt
    turn_low n k b y w whole (If m guard t f r) e g h = tt
    turn_low n k b y w whole (While m guard body r) e g h =
        subst (λ (n : ℕ). LowerIn engine program spread_is (turn_row engine bare w b n k y (While m guard body r)) (base engine program (InLoop n k ∷ w) + 0)) (sym e) (low_turn engine program spread_is b y w whole m guard body r h g k)
    turn_low n k b y w whole (Call m call q r) e g h = tt
    turn_low n k b y w whole (Break m r) e g h = tt

    abbrev RankOf : List NameFrame → Point → ℕ
    RankOf w p = total_rank engine program (name w p)

    at_point : (w : List NameFrame) (P : ℕ → Point) (n m : ℕ) (o : Option Row) → n ≡ m → LowerIn engine program spread_is o (base engine program w + offset engine program (P m)) → LowerIn engine program spread_is o (RankOf w (P n))
    at_point w P n m o e l = subst (λ k. LowerIn engine program spread_is o (base engine program w + offset engine program (P k))) (sym e) l

    pub lower_all : (w : List NameFrame) (p : Point) → LowerIn engine program spread_is (flat_row engine program w p) (RankOf w p)
    lower_all [] Entry = tt
    lower_all (InCall n ∷ w) Entry = low_statement w n _ (λ b. enter_row engine bare w b n) (enter_reads engine program once w n) (λ u e g h k. low_enter engine program spread_is (stand_at w u) u.at.before w h n u.at.code e g)
    lower_all (InLoop n k ∷ w) Entry = tt
    lower_all [] Body = tt
    lower_all (InCall n ∷ w) Body = tt
    lower_all (InLoop n k ∷ w) Body = low_statement w n _ (λ b. turn_row engine bare w b n k) (turn_reads engine program once w n k) (λ u e g h j. turn_low n k (stand_at w u) u.at.before w h u.at.code e g j)
    lower_all w (Then n) = low_statement w n _ (branch_row engine bare w true) (branch_reads engine program once w true) (λ u e g h k. at_point w Then n (number u.at.code) _ e (low_branch engine program spread_is (stand_at w u) u.at.before w h true u.at.code g))
    lower_all w (Else n) = low_statement w n _ (branch_row engine bare w false) (branch_reads engine program once w false) (λ u e g h k. at_point w Else n (number u.at.code) _ e (low_branch engine program spread_is (stand_at w u) u.at.before w h false u.at.code g))
    lower_all w (Post n) = low_statement w n _ (post_row engine bare w) (post_reads engine program once w) (λ u e g h k. at_point w Post n (number u.at.code) _ e (low_post engine program spread_is (stand_at w u) u.at.before w h u.at.code g (breaks_of u.at.code k)))
    lower_all w (Iterate n zero) = tt
    lower_all w (Iterate n (suc k)) = low_statement w n _ (next_row engine bare w k) (next_reads engine program once w k) (λ u e g h j. at_point w (λ n. Iterate n (suc k)) n (number u.at.code) _ e (next_low (stand_at w u) u.at.before w h k u.at.code g j))
    lower_all w (Fix n) = low_statement w n _ (fix_row engine bare w) (fix_reads engine program once w) (λ u e g h j. at_point w Fix n (number u.at.code) _ e (fix_low (stand_at w u) u.at.before w h u.at.code g j))
    lower_all w (Exit n) = low_statement w n _ (exit_row engine bare w) (exit_reads engine program once w) (λ u e g h j. at_point w Exit n (number u.at.code) _ e (exit_low (stand_at w u) u.at.before w h u.at.code g j))
    lower_all w (Leap n k) = low_statement w n _ (leap_row engine bare w k) (leap_reads engine program once w k) (λ u e g h j. at_point w (λ n. Leap n k) n (number u.at.code) _ e (leap_low (stand_at w u) u.at.before w h k u.at.code g j))

module _ {S : Type 0} (dom : Operations S) (engine : LoopOptions) (program : List Routine) (fine : AllFine program) (once : Distinct (keys (flat program))) (same : CellName → CellName → Bool) (is : IsSame same) where
  abbrev B : ℕ
  B = engine.budget

  abbrev D : Distinct (keys (spread engine program))
  D = spread_once engine program once

  abbrev TT : Rows CellName (Cell S)
  TT = total_table dom engine program same

  abbrev T : Rows CellName (Cell S)
  T = table dom engine program same

  abbrev rank : CellName → ℕ
  rank = total_rank engine program

  lower_asks : (r : Row) (m : ℕ) (vs : List (Cell S)) (y : CellName) → Lower engine program D r m → asks_row dom engine r vs ≡ Some y → rank y < m
  lower_asks (Init layout) m vs y h e = absurd cc
  lower_asks (One op a) m [] y h e = subst (λ a. rank a < m) (same_Some _ _ e) h
  lower_asks (One op a) m (v ∷ vs) y h e = absurd cc
  lower_asks (Two op a b) m [] y h e = subst (λ a. rank a < m) (same_Some _ _ e) h.0
  lower_asks (Two op a b) m (v ∷ []) y h e = subst (λ a. rank a < m) (same_Some _ _ e) h.1
  lower_asks (Two op a b) m (v ∷ u ∷ vs) y h e = absurd cc
  lower_asks (FixedRow n z w p) m vs y h e =
      let i = cond_some (wants_first dom engine vs) (name w (iterate_point engine bare n p (length vs))) y e in
      subst (λ a. rank a < m) i.1 (h (length vs) (wants_within dom engine program fine vs i.0))
  lower_asks (Joins stays l n w p) m [] y h e = subst (λ a. rank a < m) (same_Some _ _ e) h.0
  lower_asks (Joins stays l n w p) m (v ∷ []) y h e = go v.value e
    where
      go : (u : Value S) → right_of dom engine n w p u v.index ≡ Some y → rank y < m
      go (Over j z) e = absurd cc
      go (State s) e =
          let i = cond_some (nat_lt v.index B) (name (InLoop n v.index ∷ w) p) y e in
          subst (λ a. rank a < m) i.1 (h.1 v.index (less_of v.index B i.0))
  lower_asks (Joins stays l n w p) m (v ∷ u ∷ vs) y h e = absurd cc

  falls : (x y : CellName) (vs : List (Cell S)) → TT.asks x vs ≡ Some y → TT.rank y < TT.rank x
  falls x y vs e = go (total_row dom engine program x) (lower_all engine program fine once x.path x.point) e
    where
      go : (o : Option Row) → LowerIn engine program D o (rank x) → by_row dom engine o None (λ r. asks_row dom engine r vs) ≡ Some y → rank y < rank x
      go None h e = absurd cc
      go (Some r) h e = lower_asks r (rank x) vs y h e

  ends_there : (x : CellName) (vs : List (Cell S)) → TT.most x ≤ length vs → TT.asks x vs ≡ None
  ends_there x vs h = go (total_row dom engine program x) h
    where
      go : (o : Option Row) → by_row dom engine o 0 (most_row dom engine) ≤ length vs → by_row dom engine o None (λ r. asks_row dom engine r vs) ≡ None
      go None h = refl
      go (Some r) h = enough dom engine program fine r vs h

  -- It is a table for all names, those that the program lacks too.
  pub is_total : AreRows TT
  is_total = record { same_true = is.same_true; same_refl = is.same_refl; falls = falls; ends = ends_there }

  pub same_rows : (x : CellName) → HasName dom engine program fine x → row_of_name dom engine program x ≡ total_row dom engine program x
  same_rows x h =
      by_tie dom engine program fine (row_of_name dom engine program x) (mark_at_name dom engine program fine x) (tie dom engine program fine x)
      (λ a b. let e = sym b ∙ h.1 in absurd cc)
      (λ r m a b k. a ∙ sym (flat_row_is engine program once x.path x.point r a))

  same_row : (x : CellName) → HasName dom engine program fine x → SameRow T TT x
  same_row x h =
      let e = same_rows x h in
      record {
        asks = λ vs. ap (λ o. by_row dom engine o None (λ r. asks_row dom engine r vs)) e;
        operation = λ vs. ap (λ o. by_row dom engine o (nothing dom engine) (λ r. operation_row dom engine r vs)) e;
        most = ap (λ o. by_row dom engine o 0 (most_row dom engine)) e;
      }

  total_agrees : (x : CellName) → HasName dom engine program fine x → (inputs_of T x ≡ inputs_of TT x) × (value_of T x ≡ value_of TT x)
  total_agrees x h =
      stable T TT (is_table dom engine program fine same is) is_total (HasName dom engine program fine) same_row (λ x y h m. inputs_have dom engine program fine same is x y h m) x h

  -- At the names that the program has its values are the batch interpreter's.
  pub total_values : (x : CellName) → HasName dom engine program fine x → value_of TT x ≡ value_of_name dom engine program x
  total_values x h = sym (total_agrees x h).1 ∙ values_agree dom engine program fine same is x h

  pub total_inputs : (x : CellName) → HasName dom engine program fine x → inputs_of TT x ≡ inputs_of T x
  total_inputs x h = sym (total_agrees x h).0
