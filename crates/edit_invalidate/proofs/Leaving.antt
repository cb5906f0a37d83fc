-- What a plan leaves are the kept names.
use Rattle.std.proofs.Common.{reverse, ◌≡◌, ℕ, ◌↔◌, List, Option, Some, None, IsSome, true, is_some, length, slice_get, refl, sym, ap, ◌∙◌, subst, inl, inr}
use Rattle.std.proofs.lemmas.Option.{slice_get-get_or}
use Rattle.std.specs.List.{Contains}
use Rattle.std.specs.FinMap.{get}
use Rattle.imp_slots.specs.Fits.{IsChecked}
use Rattle.domain_laws.specs.Operations.{Operations}
use Rattle.batch_meaning.specs.Batch.{LoopOptions}
use Rattle.daig_order.specs.Asking.{inputs_of, value_of}
use Rattle.daig_order.specs.Leading as lead
use Rattle.cell_names.specs.Owners.{owner}
use Rattle.cell_names.specs.Paths.{CellName}
use Rattle.cell_rows.specs.Flat.{flat_row}
use Rattle.cell_rows.specs.Claims.{rows_of}
use Rattle.cell_rows.proofs.Rowed.{has_row}
use Rattle.cell_kept_set.specs.Places.{KeepPlaces}
use Rattle.cell_kept_set.specs.Touched.{Edit, AreCells, old_system, KeepsRow, IsChanged, IsKept, IsKeptByRows}
use Rattle.cell_kept_set.proofs.Decided.{keeps_row}
use Rattle.cell_kept_set.proofs.Local.{same_kept}
use Rattle.cell_kept_set.proofs.ByNew.{is_right}
use Rattle.cell_kept_set.proofs.Plans.{same_rows_stay}
use Rattle.daig_graph.specs.Cells.{Filled}
use Rattle.daig_graph.specs.Held.{IsIn}
use Rattle.imp_flow.specs.Plans.{Plan}
use Rattle.imp_flow.specs.Changed.{AreChanged}
use Rattle.cell_removal.specs.Removal.{Cells, LeadsTo, itself, through, Removes, without}
use Rattle.cell_removal.proofs.Rest.{rest_other, rest_cell}
use Rattle.cell_graph.specs.Same.{same_name}
use Rattle.cell_graph.specs.Named.{filled_at, kept, AreNumbers}
use Rattle.edit_invalidate.specs.Touched.{KeepsCell, or_start, name_at, input_count, inputs_at, IsTouched}
use Rattle.cell_graph.specs.Asked.{inputs}
use Rattle.cell_graph.specs.Holds.{IsCellOf, HoldsCells}
use Rattle.edit_invalidate.specs.Claims.{edit_of, LeavesKept, PlansLeaveKept, UntouchedKeepRows}
use Rattle.cell_graph.proofs.Same.{same_is}
use Rattle.cell_graph.proofs.Numbers.{filled_number, filled_named, numbers_get, numbers_of, numbers_length, member_at, at_member}
use Rattle.edit_invalidate.proofs.Asking.{keeps, keeps_cell}

filled_some : {A : Type 0} (o : Option A) → is_some o ≡ true → (a : A) × (o ≡ Some a)
filled_some None h = absurd cc
filled_some (Some a) h = (a, refl)

pub contained : (xs : List ℕ) (n : ℕ) → Contains xs n → IsIn xs n
contained xs n c = (c.0, slice_get-get_or xs c.0 n c.1 ∙ ap Some c.2)

module _ {S V : Type 0} (dom : Operations S) (old new : Plan) (names : List CellName) (cells : Cells V) (stmts : List ℕ) (one : old.engine ≡ new.engine) (h : HoldsCells dom old names cells) (are : AreChanged old new stmts) where
  abbrev e : Edit
  e = edit_of old new

  -- a cell with its name
  record IsNamed (n : ℕ) (x : CellName) (f : Filled V) : Type 0 where
    name : slice_get names n ≡ Some x
    cell : get cells n ≡ Some f
    is : IsCellOf dom old names x f

  named : (n : ℕ) (f : Filled V) → get cells n ≡ Some f → (x : CellName) × IsNamed n x f
  named n f c = let p = h.each n f c in (p.0, record { name = p.1; cell = c; is = p.2 })

  -- of a kept name
  of_name : (x : CellName) → kept cells names x ≡ true → (n : ℕ) × (f : Filled V) × IsNamed n x f
  of_name x k =
      let f = filled_some (filled_at cells names x) k in
      let p = filled_named cells names x f.0 f.1 in
      let q = named p.0 f.0 p.2 in
      let same : Some q.0 ≡ Some x = sym q.1.name ∙ p.1 in
      let s : q.0 ≡ x = cc in
      (p.0, f.0, subst (λ z. IsNamed p.0 z f.0) s q.1)

  name_kept : (n : ℕ) (x : CellName) (f : Filled V) → IsNamed n x f → kept cells names x ≡ true
  name_kept n x f c = ap is_some (filled_number cells names h.once x n c.name ∙ c.cell)

  count : (n : ℕ) (x : CellName) (f : Filled V) → IsNamed n x f → inputs_at cells n ≡ length (inputs dom old x)
  count n x f c = ap input_count c.cell ∙ numbers_length names f.inputs (inputs dom old x) c.is.inputs

  -- It is touched exactly where its own row is changed.
  changed : (n : ℕ) (x : CellName) (f : Filled V) → IsNamed n x f → IsTouched old new names cells stmts n → IsChanged dom e same_name x
  changed n x f c t k =
      t.touched.lost (subst (λ z. KeepsCell old new z (inputs_at cells n)) (sym (ap or_start c.name)) (keeps_cell dom old new one x (inputs_at cells n) (count n x f c) k))

  touched : (n : ℕ) (x : CellName) (f : Filled V) → IsNamed n x f → IsChanged dom e same_name x → IsTouched old new names cells stmts n
  touched n x f c lost =
      let r = has_row old.engine old.program h.checked x (h.kept.named x (name_kept n x f c)) in
      record {
        stmt = f.owner;
        changed = subst (IsIn stmts) (sym c.is.owned) (contained stmts (owner x.path x.point) (are.all (owner x.path x.point) (record {
          path = x.path;
          point = x.point;
          row = r.0;
          owned = refl;
          had = r.1;
          lost = λ k. lost (same_rows_stay dom e same_name x r.0 r.1 (subst (λ (g : LoopOptions). flat_row g (reverse new.program) x.path x.point ≡ Some r.0) (sym one) k));
        })));
        touched = record {
          owned = (f, c.cell, refl);
          lost = λ k. lost (keeps dom old new one x (inputs_at cells n) (count n x f c) (subst (λ z. KeepsCell old new z (inputs_at cells n)) (ap or_start c.name) k));
        };
      }

  -- An untouched one keeps its row.
  untouched_keeps : (n : ℕ) (x : CellName) (f : Filled V) → IsNamed n x f → (IsTouched old new names cells stmts n → ⊥) → KeepsRow dom e same_name x
  untouched_keeps n x f c free =
      elim (keeps_row same_name same_is dom e x) [
        | inl k ↦ k
        | inr lost ↦ absurd (free (touched n x f c lost))
      ]

  pub untouched_cell_keeps : (n : ℕ) → IsSome (get cells n) → (IsTouched old new names cells stmts n → ⊥) → KeepsCell old new (name_at names n) (inputs_at cells n)
  untouched_cell_keeps n s free =
      let f = filled_some (get cells n) s in
      let d = named n f.0 f.1 in
      subst (λ z. KeepsCell old new z (inputs_at cells n)) (sym (ap or_start d.1.name))
      (keeps_cell dom old new one d.0 (inputs_at cells n) (count n d.0 f.0 d.1) (untouched_keeps n d.0 f.0 d.1 free))

  -- what leads to touched cells are cells
  is_cell : (n : ℕ) → LeadsTo cells (IsTouched old new names cells stmts) n → (f : Filled V) × (get cells n ≡ Some f)
  is_cell n (itself _ t) = let o = t.touched.owned in (o.0, o.1)
  is_cell n (through m _ l u) = let f = u.1 in (f.0, f.1)

  same_cell : (n : ℕ) (x : CellName) (f g : Filled V) → IsNamed n x f → get cells n ≡ Some g → f ≡ g
  same_cell n x f g c q = let s : Some f ≡ Some g = sym c.cell ∙ q in cc

  -- along inputs by number, and by name
  by_name : (n : ℕ) → LeadsTo cells (IsTouched old new names cells stmts) n → (x : CellName) (f : Filled V) → IsNamed n x f → lead.LeadsTo (old_system dom e same_name) (IsChanged dom e same_name) x
  unfolding inputs
  by_name n (itself _ t) x f c = lead.itself x (changed n x f c t)
  by_name n (through m _ l u) x f c =
      let g = u.1 in
      let s : g.0 ≡ f = sym (same_cell n x f g.0 c g.1) in
      let at : slice_get f.inputs u.0 ≡ Some m = subst (λ (k : Filled V). slice_get k.inputs u.0 ≡ Some m) s g.2 in
      let q = numbers_get names f.inputs (inputs dom old x) c.is.inputs u.0 m at in
      let k = is_cell m l in
      let d = named m k.0 k.1 in
      let same : Some d.0 ≡ Some q.0 = sym d.1.name ∙ q.2 in
      let z : d.0 ≡ q.0 = cc in
      lead.through q.0 x (by_name m l q.0 k.0 (subst (λ y. IsNamed m y k.0) z d.1)) (at_member (inputs dom old x) u.0 q.0 q.1)

  by_number : (x : CellName) → lead.LeadsTo (old_system dom e same_name) (IsChanged dom e same_name) x → (n : ℕ) (f : Filled V) → IsNamed n x f → LeadsTo cells (IsTouched old new names cells stmts) n
  unfolding inputs
  by_number x (lead.itself _ t) n f c = itself n (touched n x f c t)
  by_number x (lead.through y _ l m) n f c =
      let p = member_at (inputs dom old x) y m in
      let q = numbers_of names f.inputs (inputs dom old x) c.is.inputs p.0 y p.1 in
      let k = of_name y (h.kept.closed x y (name_kept n x f c) m) in
      let s : k.0 ≡ q.0 = h.once k.0 q.0 y k.2.name q.2 in
      through q.0 n (subst (LeadsTo cells (IsTouched old new names cells stmts)) s (by_number y l k.0 k.1 k.2)) (p.0, (f, c.cell, q.1))

  module _ (cn : IsChecked new.program) (keep : KeepPlaces old.program new.program) (plan : List ℕ) (r : Removes cells (IsTouched old new names cells stmts) plan) where
    abbrev rest : Cells V
    rest = without cells plan

    by_rows : (x : CellName) → (kept rest names x ≡ true) ↔ IsKeptByRows dom e same_name (kept cells names) x
    by_rows x = (
      λ k. (let f = filled_some (filled_at rest names x) k in
          let p = filled_named rest names x f.0 f.1 in
          let c = rest_cell cells plan p.0 f.0 p.2 in
          let d = named p.0 f.0 c.0 in
          let same : Some d.0 ≡ Some x = sym d.1.name ∙ p.1 in
          let z : d.0 ≡ x = cc in
          let w = subst (λ y. IsNamed p.0 y f.0) z d.1 in
          record { had = name_kept p.0 x f.0 w; free = λ l. c.1 (r.each p.0 (by_number x l p.0 f.0 w)) }),
      λ k. (let c = of_name x k.had in
          ap is_some (filled_number rest names h.once x c.0 c.2.name ∙ rest_other cells plan c.0 (λ m. k.free (by_name c.0 (r.only c.0 m) x c.1 c.2)) ∙ c.2.cell)),
    )

    kept_is : (x : CellName) → (kept rest names x ≡ true) ↔ IsKept dom e same_name (kept cells names) x
    kept_is x =
        let a = by_rows x in
        let b = same_kept dom e h.checked cn same_name same_is (kept cells names) h.kept keep x in
        (λ k. b.1 (a.0 k), λ k. a.1 (b.0 k))

    still : AreCells dom old.engine new.program same_name (kept rest names)
    still = record {
      named = λ x k. (is_right dom e h.checked cn same_name same_is (kept cells names) h.kept x ((kept_is x).0 k)).named;
      closed = λ x y k m. (kept_is y).1 ((is_right dom e h.checked cn same_name same_is (kept cells names) h.kept x ((kept_is x).0 k)).closed y m);
    }

    -- a cell that is left has the inputs that the new program asks for
    inputs_stay : (n : ℕ) (x : CellName) (f : Filled V) → IsNamed n x f → get rest n ≡ Some f → AreNumbers names f.inputs (inputs dom new x)
    unfolding inputs
    inputs_stay n x f c g =
        let k : kept rest names x ≡ true = ap is_some (filled_number rest names h.once x n c.name ∙ g) in
        let i = (is_right dom e h.checked cn same_name same_is (kept cells names) h.kept x ((kept_is x).0 k)).inputs in
        let j = subst (AreNumbers names f.inputs) (sym i) c.is.inputs in
        subst (λ (engine : LoopOptions). AreNumbers names f.inputs (inputs_of (rows_of dom engine new.program same_name) x)) one j

    pub leaves : LeavesKept dom old new names cells rest
    leaves = record {
      found = λ x k. subst (λ (engine : LoopOptions). value_of (rows_of dom engine new.program same_name) x ≡ value_of (rows_of dom old.engine old.program same_name) x) one (is_right dom e h.checked cn same_name same_is (kept cells names) h.kept x ((kept_is x).0 k)).found;
      kept = kept_is;
      holds = record {
        checked = cn;
        once = h.once;
        kept = subst (λ (engine : LoopOptions). AreCells dom engine new.program same_name (kept rest names)) one still;
        each = λ n f g. (let c = rest_cell cells plan n f g in let d = named n f c.0 in (d.0, d.1.name, record { inputs = inputs_stay n d.0 f d.1 g; owned = d.1.is.owned }));
      };
    }

pub plans_leave : {S : Type 0} (dom : Operations S) {V : Type 0} → PlansLeaveKept dom V
plans_leave dom old new names cells stmts plan one cn keep h are r = leaves dom old new names cells stmts one h are cn keep plan r

pub untouched_keep_rows : {S : Type 0} (dom : Operations S) {V : Type 0} → UntouchedKeepRows dom V
untouched_keep_rows dom old new names cells stmts n one h are s free = untouched_cell_keeps dom old new names cells stmts one h are n s free
