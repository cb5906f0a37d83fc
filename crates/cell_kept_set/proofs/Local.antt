-- What is kept by the own rows alone is what is kept.
use Rattle.std.proofs.Common.{reverse, ◌≡◌, ℕ, zero, suc, ◌<◌, ◌↔◌, Bool, true, List, [], Some, None, sym, ap, ◌∙◌, subst, inl, inr, arith}
use Rattle.imp_slots.specs.Fits.{IsChecked}
use Rattle.domain_laws.specs.Operations.{Operations}
use Rattle.cell_names.specs.declared.frame.NameFrame.{NameFrame}
use Rattle.cell_names.specs.Paths.{CellName}
use Rattle.daig_order.specs.Order.{System, member}
use Rattle.daig_order.specs.OrderLaws.{IsClosed}
use Rattle.daig_order.specs.Asking.{Rows, inputs_of}
use Rattle.daig_order.proofs.AskingProofs.{system-acyclic}
use Rattle.cell_rows.specs.Names.{start_point, IsSame}
use Rattle.cell_rows.specs.Cells.{Cell, by_row, asks_row}
use Rattle.cell_rows.specs.Flat.{flat_row}
use Rattle.cell_rows.specs.Claims.{HasName}
use Rattle.daig_order.specs.Leading.{LeadsTo, itself, through, Stays}
use Rattle.daig_order.proofs.WithinLemmas.{stays-closed}
use Rattle.cell_kept_set.specs.Touched.{Edit, old_rows, old_system, KeepsRow, IsChanged, IsTouched, AreCells, IsKept, IsKeptByRows}
use Rattle.cell_kept_set.specs.Places.{KeepPlaces, FramesHaveRows}
use Rattle.cell_kept_set.proofs.Decided.{Decided, keeps_row}
use Rattle.cell_kept_set.proofs.Right.{old_law}
use Rattle.cell_kept_set.proofs.Named.{name_there}
use Rattle.cell_rows.proofs.Left.{Goes, main, own, out, goes, InPath, first_asked, first_input}

-- what does not hold of what leads to none of these
pub transfer : {T : Type 0} (s : System T) (these those : T → Type 0) (cells : T → Bool) → IsClosed s cells → ((x : T) → Stays s these cells x → those x → ⊥) → (x : T) → Stays s these cells x → Stays s those cells x
transfer {T} s these those cells closed f x k = record { had = k.had; free = λ l. go x l k }
  where
    go : (x : T) → LeadsTo s those x → Stays s these cells x → ⊥
    go x (itself _ h) k = f x k h
    go x (through y _ l m) k = go y l (stays-closed s these cells closed x y k m)

pub leads_more : {T : Type 0} (s : System T) (these those : T → Type 0) → ((x : T) → these x → those x) → (x : T) → LeadsTo s these x → LeadsTo s those x
leads_more s these those f x (itself _ h) = itself x (f x h)
leads_more s these those f x (through y _ l m) = through y x (leads_more s these those f y l) m

pub sure : {A : Type 0} → Decided A → ((A → ⊥) → ⊥) → A
sure (inl a) f = a
sure (inr n) f = absurd (f n)

module _ {S : Type 0} (dom : Operations S) (e : Edit) (co : IsChecked e.old) (cn : IsChecked e.new) (same : CellName → CellName → Bool) (is : IsSame same) (cells : CellName → Bool) (are : AreCells dom e.engine e.old same cells) where
  abbrev TO : Rows CellName (Cell S)
  TO = old_rows dom e same

  abbrev Free : CellName → Type 0
  Free = IsKeptByRows dom e same cells

  free_keeps : (x : CellName) → Free x → KeepsRow dom e same x
  free_keeps x k = sure (keeps_row same is dom e x) (λ n. k.free (itself x n))

  free_down : (x y : CellName) → Free x → member same (inputs_of TO x) y ≡ true → Free y
  free_down x y k m = stays-closed (old_system dom e same) (IsChanged dom e same) cells are.closed x y k m

  abbrev Framed : CellName → Type 0
  Framed x = FramesHaveRows e.engine e.new x.path

  -- By its first input it leads to the blocks on the way.
  module _ (x : CellName) (k : Free x) (row : KeepsRow dom e same x) (lower : (y : CellName) → TO.rank y < TO.rank x → Free y → Framed y) where
    below : (v : List NameFrame) → InPath v row.row → FramesHaveRows e.engine e.new v
    below v i =
        let f = first_asked dom e.engine v row.row i in
        let asks : TO.asks x [] ≡ Some f.0 = ap (λ o. by_row dom e.engine o None (λ r. asks_row dom e.engine r [])) row.had ∙ f.1 in
        let m = first_input TO (old_law dom e co cn same is) x f.0 asks in
        subst (FramesHaveRows e.engine e.new) f.2 (lower f.0 ((system-acyclic TO (old_law dom e co cn same is)).falls x f.0 m) (free_down x f.0 k m))

    framed : Goes x.path x.point row.row → Framed x
    framed (main p) = subst (FramesHaveRows e.engine e.new) (sym p) tt
    framed (own i) = below x.path i
    framed (out g v p q i) =
        let a = ap (flat_row e.engine (reverse e.new) x.path) (sym q) ∙ row.has in
        subst (FramesHaveRows e.engine e.new) (sym p)
        ((row.other, subst (λ w. flat_row e.engine (reverse e.new) w (start_point w) ≡ Some row.other) p a), below v i)

  frames_at : (r : ℕ) (x : CellName) → TO.rank x < r → Free x → Framed x
  frames_at zero x h k = absurd (omega arith)
  frames_at (suc r) x h k =
      let row = free_keeps x k in
      framed x k row (λ y l f. frames_at r y (omega arith) f) (goes e.engine (reverse e.old) x.path x.point row.row row.had)

  pub frames : (x : CellName) → Free x → FramesHaveRows e.engine e.new x.path
  frames x k = frames_at (suc (TO.rank x)) x (omega arith) k

  -- The new program has the names that are kept by the own rows.
  pub free_named : KeepPlaces e.old e.new → (x : CellName) → Free x → HasName e.engine e.new x
  free_named keep x k = let row = free_keeps x k in name_there e.engine e.old e.new co cn keep x row.other (are.named x k.had) (frames x k) row.has

  pub same_kept : KeepPlaces e.old e.new → (x : CellName) → IsKept dom e same cells x ↔ IsKeptByRows dom e same cells x
  same_kept keep x = (
    λ k. record { had = k.had; free = λ l. k.free (leads_more (old_system dom e same) (IsChanged dom e same) (IsTouched dom e same) (λ z c p. c p.1) x l) },
    λ k. transfer (old_system dom e same) (IsChanged dom e same) (IsTouched dom e same) cells are.closed (λ z f t. t (free_named keep z f, free_keeps z f)) x k,
  )
