-- The block that a path leads to: its procedure, the loops around it, its statements.
use Rattle.std.proofs.Common.{◌≡◌, ℕ, suc, List, [], ◌∷◌, ◌++◌, Option, Some, None, refl, sym, ap, ◌∙◌, subst, nat_lt, append_assoc, append-nil}
use Rattle.imp_slots.specs.Plain.{Guard, Code, Stop, Simple, If, While, Call, Break, Routine}
use Rattle.imp_slots.specs.Fits.{Distinct}
use Rattle.batch_meaning.specs.Batch.{LoopOptions}
use Rattle.batch_meaning.specs.Places.{find, from}
use Rattle.cell_names.specs.declared.frame.NameFrame.{NameFrame}
use Rattle.cell_names.specs.declared.frame.NameFrame.TheVariants.{InCall, InLoop}
use Rattle.cell_names.specs.declared.frame.Point.{Point}
use Rattle.cell_names.specs.declared.frame.Point.TheVariants.{Entry, Body}
use Rattle.base_values.proofs.Members.{Member, keys}
use Rattle.batch_meaning.proofs.Places.{found, found_member}
use Rattle.cell_rows.specs.Names.{start_point, Scope, At, mark, PathBlock, bare, number, level_of, scope_of, start_of, in_call, in_loop, round_place, follow}
use Rattle.cell_rows.specs.Targets.{Text, text, texts}
use Rattle.cell_rows.specs.Flat.{Flat, flat}
use Rattle.cell_rows.proofs.Lookup.{Stands, unstated}
use Rattle.cell_kept_set.specs.Places.{first_name, callee_name, SamePlace}
use Rattle.cell_rows.proofs.Listed.{numbered}
use Rattle.cell_rows.proofs.Shown.{U, shows}
use Rattle.cell_kept_set.proofs.Tails.{Tail, whole, tail_trans, tail_rest, from_tail, tail_in, all_listed, names_of, tail_same}
use Rattle.cell_kept_set.proofs.Seats.{sits}
use Rattle.std.proofs.lemmas.Option.{same_Some, cond_some}

-- The procedure and the loops of the block at a path's end, by the number in its last frame.
abbrev pub IsHome : List Routine → List NameFrame → List ℕ → List ℕ → Type 0
IsHome ps [] m ls = (first_name ps ≡ Some m) × (ls ≡ [])
IsHome ps (InCall n ∷ w) m ls = (u : Flat) × (find n (flat ps) ≡ Some u) × (callee_name u ≡ Some m) × (ls ≡ [])
IsHome ps (InLoop n k ∷ w) m ls = (u : Flat) × (find n (flat ps) ≡ Some u) × (u.routine.name ≡ m) × (ls ≡ u.text.loops ++ n ∷ [])

-- the body of a loop
abbrev while_body : Code → Code
while_body (While n guard b r) = b
while_body _ = Stop

abbrev body_of : Option (At (Unit {0})) → Code
body_of None = Stop
body_of (Some x) = while_body x.code

module _ (engine : LoopOptions) (ps : List Routine) (once : Distinct (keys (flat ps))) where
  abbrev Q : Type 0
  Q = PathBlock engine bare

  pub record Block (w : List NameFrame) (b : Q) : Type 0 where
    pub routine : Routine
    pub earlier : List Routine
    pub loops : List ℕ
    pub tail : Tail (routine ∷ earlier) ps
    pub scoped : scope_of engine bare routine earlier ≡ b.scope
    pub start : b.first.point ≡ start_point w
    pub home : IsHome ps w routine.name loops
    pub up : (k : ℕ) (t : Text) (more : List ℕ) → Member (k, t) (texts routine.code Entry) → t.loops ≡ loops ++ more → Member (k, text more t.front t.code) (texts b.code b.first.point)
    pub down : (k : ℕ) (t : Text) → Member (k, t) (texts b.code b.first.point) → Member (k, text (loops ++ t.loops) t.front t.code) (texts routine.code Entry)

  -- the table's entry of a statement of the block
  abbrev pub flat_at : {w : List NameFrame} {b : Q} → Block w b → U → Code → Flat
  flat_at k y d = record { routine = k.routine; earlier = k.earlier; text = text k.loops y.point d }

  pub listed : (w : List NameFrame) (b : Q) (k : Block w b) (y : U) (d : Code) → Stands engine bare b y d → find (number d) (flat ps) ≡ Some (flat_at k y d)
  listed w b k y d s =
      let m = k.down (number d) (text [] y.point d) ((shows engine b.scope b.sites b.code b.first).at _ s.there).itself in
      let i = subst (λ ls. Member (number d, text ls y.point d) (texts k.routine.code Entry)) (append-nil k.loops) m in
      found (number d, flat_at k y d) (flat ps) once (tail_in k.routine k.earlier k.tail (number d, text k.loops y.point d) i)

  block_start : (qs : List Routine) (z : List ℕ) (x : U) (w : List NameFrame) (b : Q) → x.point ≡ Entry → start_point w ≡ Entry → ((r : Routine) (e : List Routine) → qs ≡ r ∷ e → Tail (r ∷ e) ps × IsHome ps w r.name []) → start_of engine bare qs z x ≡ Some b → Block w b
  block_start [] z x w b i j f e = absurd cc
  block_start (r ∷ earlier) z x w b i j f e =
      subst (Block w) (same_Some _ _ e)
      (let t = f r earlier refl in
      record {
        routine = r;
        earlier = earlier;
        loops = [];
        tail = t.0;
        scoped = refl;
        start = i ∙ sym j;
        home = t.1;
        up = λ k t more m h. subst (λ (p : Point). Member (k, text more t.front t.code) (texts r.code p)) (sym i) (subst (λ ls. Member (k, text ls t.front t.code) (texts r.code Entry)) h m);
        down = λ k t m. subst (λ (p : Point). Member (k, t) (texts r.code p)) i m;
      })

  block_call : (w : List NameFrame) (b : Q) (k : Block w b) (n : ℕ) (y : U) (d : Code) (c : Q) → n ≡ number d → Stands engine bare b y d → in_call engine bare b n y d ≡ Some c → Block (InCall n ∷ w) c
  block_call w b k n y Stop c h s e = absurd cc
  block_call w b k n y (Simple m effect r) c h s e = absurd cc
  block_call w b k n y (If m guard t x r) c h s e = absurd cc
  block_call w b k n y (While m guard t r) c h s e = absurd cc
  block_call w b k n y (Call m call q r) c h s e =
      block_start (from b.scope.earlier q) (n ∷ b.sites) (mark Entry (suc y.rank) tt) (InCall n ∷ w) c refl refl
      (λ a before g.
      let g2 : from k.earlier q ≡ a ∷ before = ap (λ (o : Scope). from o.earlier q) k.scoped ∙ g in
      let l = listed w b k y (Call m call q r) s in (
        tail_trans (from_tail k.earlier q a before g2) (tail_rest k.routine k.earlier k.tail),
        (flat_at k y (Call m call q r), ap (λ (n : ℕ). find n (flat ps)) h ∙ l, ap first_name g2, refl),
      )) e
  block_call w b k n y (Break m r) c h s e = absurd cc

  block_loop : (w : List NameFrame) (b : Q) (k : Block w b) (n i : ℕ) (y : U) (d : Code) (c : Q) → n ≡ number d → Stands engine bare b y d → Distinct (keys (level_of engine bare b)) → in_loop engine bare b n i y d ≡ Some c → Block (InLoop n i ∷ w) c
  block_loop w b k n i y Stop c h s o e = absurd cc
  block_loop w b k n i y (Simple m effect r) c h s o e = absurd cc
  block_loop w b k n i y (If m guard t x r) c h s o e = absurd cc
  block_loop w b k n i y (While m guard t r) c h s o e =
      subst (Block (InLoop n i ∷ w)) (cond_some (nat_lt i engine.budget) (round_place engine bare b n guard t i y) c e).1
      (record {
        routine = k.routine;
        earlier = k.earlier;
        loops = k.loops ++ n ∷ [];
        tail = k.tail;
        scoped = k.scoped;
        start = refl;
        home = (flat_at k y (While m guard t r), ap (λ (n : ℕ). find n (flat ps)) h ∙ listed w b k y (While m guard t r) s, refl, refl);
        up = up;
        down = down;
      })
    where
      same_body : (v : U) (g2 : Guard) (body rest : Code) → Member (n, record { before = v; code = While n g2 body rest }) (level_of engine bare b) → body ≡ t
      same_body v g2 body rest j =
          ap body_of
          (sym (found (n, record { before = v; code = While n g2 body rest }) (level_of engine bare b) o j)
          ∙ ap (λ (n : ℕ). find n (level_of engine bare b)) h
          ∙ found (m, record { before = y; code = While m guard t r }) (level_of engine bare b) o s.there)

      up : (j : ℕ) (x : Text) (more : List ℕ) → Member (j, x) (texts k.routine.code Entry) → x.loops ≡ (k.loops ++ n ∷ []) ++ more → Member (j, text more x.front x.code) (texts t Body)
      up j x more l g =
          let a = k.up j x (n ∷ more) l (g ∙ append_assoc k.loops (n ∷ []) more) in
          let u = ((sits engine b.scope b.sites b.code b.first).at (j, text (n ∷ more) x.front x.code) a).under n more refl in
          subst (λ (c : Code). Member (j, text more x.front x.code) (texts c Body)) (same_body u.before u.guard u.body u.rest u.there) u.inner

      down : (j : ℕ) (x : Text) → Member (j, x) (texts t Body) → Member (j, text ((k.loops ++ n ∷ []) ++ x.loops) x.front x.code) (texts k.routine.code Entry)
      down j x l =
          let a = ((shows engine b.scope b.sites b.code b.first).at _ s.there).inner (j, x) l in
          let u = k.down j (text (m ∷ x.loops) x.front x.code) a in
          let v = subst (λ (i : ℕ). Member (j, text (k.loops ++ i ∷ x.loops) x.front x.code) (texts k.routine.code Entry)) (sym h) u in
          subst (λ ls. Member (j, text ls x.front x.code) (texts k.routine.code Entry)) (sym (append_assoc k.loops (n ∷ []) x.loops)) v
  block_loop w b k n i y (Call m call q r) c h s o e = absurd cc
  block_loop w b k n i y (Break m r) c h s o e = absurd cc

  module _ (fine : (w : List NameFrame) (b : Q) → follow engine bare ps w ≡ Some b → Distinct (keys (level_of engine bare b))) where
    pub block : (w : List NameFrame) (b : Q) → follow engine bare ps w ≡ Some b → Block w b
    block [] b e = block_start ps [] (mark Entry 0 tt) [] b refl refl (λ r before g. (subst (λ xs. Tail xs ps) g whole, (ap first_name g, refl))) e
    block (InCall n ∷ w) b e =
        let u = unstated engine bare (follow engine bare ps w) n (λ b. in_call engine bare b n) b e in
        block_call w u.place (block w u.place u.leads) n u.before u.code b u.numbered u.stands u.gives
    block (InLoop n k ∷ w) b e =
        let u = unstated engine bare (follow engine bare ps w) n (λ b. in_loop engine bare b n k) b e in
        block_loop w u.place (block w u.place u.leads) n k u.before u.code b u.numbered u.stands (fine w u.place u.leads) u.gives

  -- A statement that the table has in the procedure and the loops of the block stands in it.
  pub record Seated (b : Q) (n : ℕ) (v : Flat) : Type 0 where
    pub before : U
    pub front : before.point ≡ v.text.front
    pub numbered : n ≡ number v.text.code
    pub stands : Stands engine bare b before v.text.code
    pub earlier : b.scope.earlier ≡ v.earlier

  pub seated : (w : List NameFrame) (b : Q) (k : Block w b) (n : ℕ) (v : Flat) → Distinct (names_of ps) → find n (flat ps) ≡ Some v → v.routine.name ≡ k.routine.name → v.text.loops ≡ k.loops → Seated b n v
  seated w b k n v names e f g =
      let m = found_member n v (flat ps) e in
      let l = (all_listed ps).at (n, v) m in
      let h : n ≡ number v.text.code = (numbered ps).at (n, v) m in
      let s = tail_same v.routine k.routine v.earlier k.earlier ps names l.tail k.tail f in
      let i = subst (λ (r : Routine). Member (n, v.text) (texts r.code Entry)) s.0 l.text in
      let a = k.up n v.text [] i (g ∙ sym (append-nil k.loops)) in
      let o = ((sits engine b.scope b.sites b.code b.first).at (n, text [] v.text.front v.text.code) a).on refl in
      record {
        before = o.before;
        front = o.front;
        numbered = h;
        stands = record { there = subst (λ (i : ℕ). Member (i, record { before = o.before; code = v.text.code }) (level_of engine bare b)) h o.there };
        earlier = ap (λ (o : Scope). o.earlier) (sym k.scoped) ∙ sym s.1;
      }

-- In two programs whose statements keep their places a path leads to the same procedure and loops.
pub same_home : (old new : List Routine) → first_name old ≡ first_name new → ((n : ℕ) (u v : Flat) → find n (flat old) ≡ Some u → find n (flat new) ≡ Some v → SamePlace u v) →
    (w : List NameFrame) (m j : List ℕ) (ls ks : List ℕ) → IsHome old w m ls → IsHome new w j ks → (m ≡ j) × (ls ≡ ks)
same_home old new main places [] m j ls ks h k = (same_Some _ _ (sym h.0 ∙ main ∙ k.0), h.1 ∙ sym k.1)
same_home old new main places (InCall n ∷ w) m j ls ks h k = ((places n h.0 k.0 h.1 k.1).callee m j h.2 k.2, h.3 ∙ sym k.3)
same_home old new main places (InLoop n i ∷ w) m j ls ks h k =
    let p = places n h.0 k.0 h.1 k.1 in
    (sym h.2 ∙ p.procedure ∙ k.2, h.3 ∙ ap (λ xs. xs ++ n ∷ []) p.loops ∙ sym k.3)
