-- Names of cells that are written anew, one after another.
use Rattle.std.proofs.Common.{◌≡◌, ◌≢◌, ℕ, ◌+◌, ◌<◌, ◌≤◌, List, [], ◌∷◌, ◌++◌, length, get_or, Option, Some, None, IsSome, is_some, Bool, true, false, slice_get, refl, sym, ap, subst, ◌∙◌, inl, inr, arith, append_assoc, append-nil}
use Rattle.std.proofs.lemmas.Bool.{cases_eq}
use Rattle.std.proofs.lemmas.List.{get_or_append_left, get_or_push, length_push}
use Rattle.std.specs.FinMap.{get}
use Rattle.base_values.proofs.Lists.{get_last, get_other, get_pushed}
use Rattle.cell_names.specs.declared.frame.NameFrame.{NameFrame}
use Rattle.cell_names.specs.declared.path.Name.{Name}
use Rattle.cell_names.specs.Known.{Adds, IsOnce, KeepsNumbers, Known}
use Rattle.cell_names.specs.Paths.{CellName, name_in, or_root, path_at}
use Rattle.daig_graph.specs.Cells.{Filled}
use Rattle.daig_graph.specs.Numbers.{renumbered}
use Rattle.cell_graph.proofs.Numbers.{adds_here, adds_keeps}
use Rattle.daig_query.specs.declared.held.Held.{Held}
use Rattle.daig_query.specs.Kept.{Cells}
use Rattle.daig_query.specs.Renamed.{AddsNameOf, AreNamedAnew}
use Rattle.daig_query.proofs.Growing.{keeps_refl, keeps_trans}
use Rattle.daig_query.proofs.Sweeping.{Leaves, leaves-all, leaves-cell, leaves-over}

-- frames so far, and those that are left of a path, are those of a path where one is taken more
pub frames-on : (frames : List NameFrame) (frame : NameFrame) (before rest more path : List NameFrame) → more ≡ frames ++ frame ∷ [] → rest ≡ frame ∷ before → frames ++ rest ≡ path → more ++ before ≡ path
frames-on frames frame before rest more path more_is last split = ap (λ l. l ++ before) more_is ∙ append_assoc frames (frame ∷ []) before ∙ ap (λ l. frames ++ l) (sym last) ∙ split

-- A path is copied from its first frame on: what is copied, and the frames that are left of it.
pub record Copies (before : List (List NameFrame)) (path rest : List NameFrame) (later : List (List NameFrame)) (copied : ℕ) : Type 0 where
  pub done : List NameFrame
  pub here : slice_get later copied ≡ Some done
  pub split : rest ++ done ≡ path
  pub keeps : KeepsNumbers before later

pub copies-none : (before : List (List NameFrame)) (path : List NameFrame) → slice_get before 0 ≡ Some [] → Copies before path path before 0
copies-none before path root = record { done = []; here = root; split = append-nil path; keeps = keeps_refl before }

pub copies-on : (before : List (List NameFrame)) (path rest : List NameFrame) (mid : List (List NameFrame)) (copied : ℕ) → Copies before path rest mid copied →
    (frame : NameFrame) (fewer : List NameFrame) → rest ≡ fewer ++ frame ∷ [] →
    (later : List (List NameFrame)) (n : ℕ) → Adds mid later (frame ∷ path_at mid copied) n → Copies before path fewer later n
copies-on before path rest mid copied c frame fewer rest_is later n adds = record {
  done = frame ∷ c.done;
  here = adds_here mid later (frame ∷ path_at mid copied) n adds ∙ ap (λ o. Some (frame ∷ or_root o)) c.here;
  split = sym (append_assoc fewer (frame ∷ []) c.done) ∙ ap (λ l. l ++ c.done) (sym rest_is) ∙ c.split;
  keeps = keeps_trans before mid later c.keeps (adds_keeps mid later (frame ∷ path_at mid copied) n adds);
}

-- all of it is copied
pub copies-all : (before : List (List NameFrame)) (path rest : List NameFrame) (later : List (List NameFrame)) (copied : ℕ) → Copies before path rest later copied → rest ≡ [] → slice_get later copied ≡ Some path
copies-all before path rest later copied c none = c.here ∙ ap Some (ap (λ l. l ++ c.done) (sym none) ∙ c.split)

-- without a cell nothing is added
pub adds-nothing : (cells : Cells) (names : List CellName) (number : ℕ) (later : Known) → is_some (get cells number) ≡ false → slice_get later.paths 0 ≡ Some [] → AddsNameOf cells names number later later
adds-nothing cells names number later none root = record {
  some = λ s. let e : true ≡ false = sym s ∙ none in absurd cc;
  none = λ e. refl;
  root = root;
}

-- a path that is copied makes the same name
pub adds-name : (cells : Cells) (names : Known) (number : ℕ) (old mid new : Known) (name : Name) (path q : ℕ) → IsSome (get cells number) → slice_get names.names number ≡ Some (name_in names.paths name) →
    slice_get mid.paths path ≡ Some (path_at names.paths name.path) → mid.names ≡ old.names → KeepsNumbers old.paths mid.paths →
    Adds mid.names new.names (name_in mid.paths (record { path = path; point = name.point })) q → new.paths ≡ mid.paths → slice_get old.paths 0 ≡ Some [] → AddsNameOf cells names.names number old new
adds-name cells names number old mid new name path q there named copied same keeps adds paths root = record {
  some = λ s. (name_in names.paths name, q, named, subst (λ xs. Adds xs new.names (name_in names.paths name) q) same its);
  none = λ e. let h : true ≡ false = sym there ∙ e in absurd cc;
  root = ap (λ ps. slice_get ps 0) paths ∙ keeps 0 [] root;
}
  where
    on_path : Option (List NameFrame) → CellName
    on_path o = record { path = or_root o; point = name.point }

    its : Adds mid.names new.names (name_in names.paths name) q
    its = subst (λ (x : CellName). Adds mid.names new.names x q) (ap on_path copied) adds

module _ (cells : Cells) (names : List CellName) where
  pub anew-none : (numbers : List ℕ) (later : List CellName) → numbers ≡ [] → later ≡ [] → AreNamedAnew cells names 0 numbers later
  anew-none numbers later none empty = record {
    places = ap length none;
    short = let e : length later ≡ 0 = ap length empty in omega (arith, e);
    named = λ n l s. absurd (omega (arith, l));
    within = λ n l s. absurd (omega (arith, l));
    below = λ n l s. absurd (omega (arith, l));
    rising = λ m n u l s t. absurd (omega (arith, l));
    back = λ q x e. let h : None ≡ Some x = sym (ap (λ xs. slice_get xs q) empty) ∙ e in absurd cc;
  }

  pub leaves-none : (later : List CellName) → later ≡ [] → Leaves cells 0 0 (length later)
  leaves-none later empty = subst (λ n. Leaves cells 0 0 n) (sym (ap length empty)) (leaves-all cells 0)

  module _ (count : ℕ) (numbers more : List ℕ) (mid : List CellName) (so_far : AreNamedAnew cells names count numbers mid) (more_is : more ≡ numbers ++ length mid ∷ []) where
    size : length more ≡ count + 1
    size = ap length more_is ∙ length_push numbers (length mid) ∙ ap (λ n. n + 1) so_far.places

    -- those before keep their new numbers
    before : (n : ℕ) → n < count → renumbered more n ≡ renumbered numbers n
    before n l = ap (λ ns. get_or ns n n) more_is ∙ get_or_append_left numbers (length mid ∷ []) n n (omega (arith, l, so_far.places))

    -- and this one has the number after all so far
    here : renumbered more count ≡ length mid
    here = ap (λ ns. get_or ns count count) more_is ∙ get_or_push numbers (length mid) count count so_far.places

    earlier : (n : ℕ) → n < count + 1 → n ≢ count → n < count
    earlier n l ne = omega (arith, l, ne)

    -- a number without a cell is passed over
    pub anew-over : (later : List CellName) → is_some (get cells count) ≡ false → later ≡ mid → AreNamedAnew cells names (count + 1) more later
    anew-over later none same = record {
      places = size;
      short = let s : length later ≡ length mid = ap length same in omega (arith, s, so_far.short);
      named = λ n l s. let b = below_it n l s in ap (slice_get later) (before n b) ∙ ap (λ xs. slice_get xs (renumbered numbers n)) same ∙ so_far.named n b s;
      within = λ n l s.
          let b = below_it n l s in
          let w = so_far.within n b s in
          let e : length later ≡ length mid = ap length same in
          omega (arith, w, before n b, e);
      below = λ n l s. let b = below_it n l s in omega (arith, so_far.below n b s, before n b);
      rising = λ m n u l s t.
          let b = below_it n l t in
          let r = so_far.rising m n u b s t in
          omega (arith, r, before n b, before m (omega (arith, u, b)));
      back = λ q x e. let h = so_far.back q x (ap (λ xs. slice_get xs q) (sym same) ∙ e) in (h.0, omega (arith, h.1), h.2);
    }
      where
        below_it : (n : ℕ) → n < count + 1 → IsSome (get cells n) → n < count
        below_it n l s = elim (cases_eq n count) [
          | inl same ↦ (let e : true ≡ false = sym s ∙ ap (λ m. is_some (get cells m)) same ∙ none in absurd cc)
          | inr ne ↦ earlier n l ne
        ]

    -- and a cell has its name at the end
    module _ (once : IsOnce names) (x : CellName) (q : ℕ) (later : List CellName) (x_is : slice_get names count ≡ Some x) (adds : Adds mid later x q) where
      -- the name is new
      later_is : later ≡ mid ++ x ∷ []
      later_is = elim adds [
        | inl h ↦ (let b = so_far.back q x h.0 in absurd (omega (arith, b.1, once b.0 count x b.2 x_is)))
        | inr h ↦ h.2
      ]

      longer : length later ≡ length mid + 1
      longer = ap length later_is ∙ length_push mid x

      named : (n : ℕ) → n < count + 1 → IsSome (get cells n) → slice_get later (renumbered more n) ≡ slice_get names n
      named n l s = elim (cases_eq n count) [
        | inl same ↦
            ap (λ m. slice_get later (renumbered more m)) same ∙ ap (slice_get later) here ∙ ap (λ xs. slice_get xs (length mid)) later_is
            ∙ get_last mid x ∙ sym x_is ∙ ap (slice_get names) (sym same)
        | inr ne ↦
            let b = earlier n l ne in
            let w = so_far.within n b s in
            ap (slice_get later) (before n b) ∙ ap (λ xs. slice_get xs (renumbered numbers n)) later_is
            ∙ get_other mid x (renumbered numbers n) (λ e. omega (arith, w, e)) ∙ so_far.named n b s
      ]

      within : (n : ℕ) → n < count + 1 → IsSome (get cells n) → renumbered more n < length later
      within n l s = elim (cases_eq n count) [
        | inl same ↦ (let e : renumbered more n ≡ renumbered more count = ap (renumbered more) same in omega (arith, e, here, longer))
        | inr ne ↦ (let b = earlier n l ne in omega (arith, so_far.within n b s, before n b, longer))
      ]

      below : (n : ℕ) → n < count + 1 → IsSome (get cells n) → renumbered more n ≤ n
      below n l s = elim (cases_eq n count) [
        | inl same ↦ (let e : renumbered more n ≡ renumbered more count = ap (renumbered more) same in omega (arith, e, here, so_far.short, same))
        | inr ne ↦ (let b = earlier n l ne in omega (arith, so_far.below n b s, before n b))
      ]

      rising : (m n : ℕ) → m < n → n < count + 1 → IsSome (get cells m) → IsSome (get cells n) → renumbered more m < renumbered more n
      rising m n u l s t = elim (cases_eq n count) [
        | inl same ↦
            let e : renumbered more n ≡ renumbered more count = ap (renumbered more) same in
            let b : m < count = omega (arith, u, same) in
            omega (arith, e, here, so_far.within m b s, before m b)
        | inr ne ↦
            let b = earlier n l ne in
            let a : m < count = omega (arith, u, b) in
            omega (arith, so_far.rising m n u b s t, before n b, before m a)
      ]

      back : (p : ℕ) (y : CellName) → slice_get later p ≡ Some y → (n : ℕ) × (n < count + 1) × (slice_get names n ≡ Some y)
      back p y e = elim (get_pushed mid x p y (ap (λ xs. slice_get xs p) (sym later_is) ∙ e)) [
        | inl h ↦ (let b = so_far.back p y h in (b.0, omega (arith, b.1), b.2))
        | inr h ↦ (count, omega arith, x_is ∙ ap Some h.1)
      ]

      pub anew-on : AreNamedAnew cells names (count + 1) more later
      anew-on = record {
        places = size;
        short = omega (arith, longer, so_far.short);
        named = named;
        within = within;
        below = below;
        rising = rising;
        back = back;
      }

  -- equal lists of new numbers tell the same
  pub anew-same : (count : ℕ) (numbers same : List ℕ) (later : List CellName) → same ≡ numbers → AreNamedAnew cells names count numbers later → AreNamedAnew cells names count same later
  anew-same count numbers same later is anew = subst (λ (ns : List ℕ). AreNamedAnew cells names count ns later) (sym is) anew

  -- one number after another
  pub anew-step : IsOnce names → (count : ℕ) (numbers more : List ℕ) (mid later : Known) → AreNamedAnew cells names count numbers mid.names → more ≡ numbers ++ length mid.names ∷ [] →
      AddsNameOf cells names count mid later → AreNamedAnew cells names (count + 1) more later.names
  anew-step once count numbers more mid later so_far more_is adds = by (is_some (get cells count)) refl
    where
      by : (b : Bool) → is_some (get cells count) ≡ b → AreNamedAnew cells names (count + 1) more later.names
      by true e = let a = adds.some e in anew-on count numbers more mid.names so_far more_is once a.0 a.1 later.names a.2 a.3
      by false e = anew-over count numbers more mid.names so_far more_is later.names e (adds.none e)

  -- and at most one name more for each cell
  pub leaves-step : (count : ℕ) (mid later : Known) → Leaves cells count 0 (length mid.names) → AddsNameOf cells names count mid later → Leaves cells (count + 1) 0 (length later.names)
  leaves-step count mid later leaves adds = by (get cells count) refl
    where
      few : (x : CellName) (q : ℕ) → Adds mid.names later.names x q → length later.names ≤ length mid.names + 1
      few x q (inl h) = let same : length later.names ≡ length mid.names = ap length h.1 in omega (arith, same)
      few x q (inr h) = let more : length later.names ≡ length mid.names + 1 = ap length h.2 ∙ length_push mid.names x in omega (arith, more)

      by : (o : Option (Filled Held)) → get cells count ≡ o → Leaves cells (count + 1) 0 (length later.names)
      by None e = subst (λ n. Leaves cells (count + 1) 0 n) (sym (ap length (adds.none (ap is_some e)))) (leaves-over cells count 0 (length mid.names) leaves)
      by (Some f) e = let a = adds.some (ap is_some e) in leaves-cell cells count 0 (length mid.names) (length later.names) f leaves e (few a.0 a.1 a.3)
