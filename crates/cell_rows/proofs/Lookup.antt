-- Names find their marks.
use Rattle.std.proofs.Common.{◌≡◌, ℕ, ◌<◌, List, [], ◌∷◌, length, Option, Some, None, true, false, if◌then◌else◌, refl, sym, ap, subst, ◌⊎◌, inl, inr, arith, nat_lt}
use Rattle.imp_slots.specs.Plain.{Code, Stop, Simple, If, While, Call, Break, Routine}
use Rattle.imp_slots.specs.Fits.{Distinct}
use Rattle.batch_meaning.specs.Batch.{LoopOptions}
use Rattle.batch_meaning.specs.Places.{find, if_some, from}
use Rattle.cell_names.specs.declared.frame.NameFrame.{NameFrame}
use Rattle.cell_names.specs.declared.frame.NameFrame.TheVariants.{InCall, InLoop}
use Rattle.cell_names.specs.declared.frame.Point.{Point}
use Rattle.cell_names.specs.declared.frame.Point.TheVariants.{Entry, Body}
use Rattle.base_values.proofs.Cases.{by_test}
use Rattle.base_values.proofs.Members.{Member, Each, each_more, each_both, none_there}
use Rattle.batch_meaning.proofs.Places.{found, found_member}
use Rattle.cell_rows.specs.Names.{Scope, CallsBelow, Mark, At, Algebra, PathBlock, number, behind_it, inside, entry, level, level_of, Nested, IsFine, AllFine, start_of, in_call, in_loop, round_place, statement, follow, branch_mark, post_mark, mark_at, is_entry}
use Rattle.cell_rows.proofs.Levels.{Known, first, post, branch, keyed, keys_own}
use Rattle.std.proofs.lemmas.Option.{same_Some, cond_some}

pub then_some : {A B : Type 0} (o : Option A) (f : A → Option B) (r : B) → if_some o f ≡ Some r → (a : A) × (o ≡ Some a) × (f a ≡ Some r)
then_some None f r e = absurd cc
then_some (Some a) f r e = (a, refl, e)

abbrev pub IsStart : Point → Type 0
IsStart p = (p ≡ Entry) ⊎ (p ≡ Body)

pub fine_from : (ps : List Routine) (q : ℕ) → AllFine ps → AllFine (from ps q)
fine_from [] q h = tt
fine_from (b ∷ ps) q h = by_test q (length ps) (λ c. AllFine (if c then b ∷ ps else from ps q)) (λ e. h) (λ e. fine_from ps q h.1)

pub from_some : (ps : List Routine) (q : ℕ) → q < length ps → (r : Routine) × (earlier : List Routine) × (from ps q ≡ r ∷ earlier)
from_some [] q h = absurd (omega arith)
from_some (b ∷ ps) q h =
    by_test q (length ps) (λ c. (r : Routine) × (earlier : List Routine) × ((if c then b ∷ ps else from ps q) ≡ r ∷ earlier))
    (λ e. (b, ps, refl))
    (λ e. let l : q < length ps = omega arith in from_some ps q l)

module _ (engine : LoopOptions) {V : Type 0} (alg : Algebra V) where
  abbrev P : Type 0
  P = PathBlock engine alg

  pub record Fine (b : P) : Type 0 where
    pub block : IsFine (length b.scope.earlier) b.code
    pub procs : AllFine b.scope.earlier
    pub starts : IsStart b.first.point

  abbrev pub Part : ℕ → Code → Type 0
  Part k Stop = ⊥
  Part k (Simple n effect r) = Unit {0}
  Part k (If n guard t e r) = Unit {0}
  Part k (While n guard b r) = IsFine k b
  Part k (Call n call q r) = q < k
  Part k (Break n r) = Unit {0}

  module _ (scope : Scope) (z : List ℕ) (k : ℕ) where
    abbrev HasPart : ℕ × At V → Type 0
    HasPart p = Part k p.1.code

    abbrev E : Mark V → Code → ℕ × At V
    E = entry engine alg scope z

    parts : (c : Code) (x : Mark V) → Nested c → CallsBelow k c → Each HasPart (level engine alg scope z c x)
    parts Stop x f h = none_there HasPart
    parts (Simple n effect r) x f h = each_more HasPart (E x (Simple n effect r)) _ tt (parts r (behind_it engine alg scope z (Simple n effect r) x) f h)
    parts (If n guard t e r) x f h =
        each_more HasPart (E x (If n guard t e r)) _ tt
        (each_both HasPart _ _ (parts t (inside engine alg scope z true n guard x) f.0 h.0)
        (each_both HasPart _ _ (parts e (inside engine alg scope z false n guard x) f.1 h.1)
        (parts r (behind_it engine alg scope z (If n guard t e r) x) f.2 h.2)))
    parts (While n guard b r) x f h =
        each_more HasPart (E x (While n guard b r)) _ (record { once = f.0; nested = f.1; calls = h.0 }) (parts r (behind_it engine alg scope z (While n guard b r) x) f.2 h.1)
    parts (Call n call q r) x f h = each_more HasPart (E x (Call n call q r)) _ h.0 (parts r (behind_it engine alg scope z (Call n call q r) x) f h.1)
    parts (Break n r) x f h = each_more HasPart (E x (Break n r)) _ tt (parts r (behind_it engine alg scope z (Break n r) x) f h)

  -- The statement at a mark of a block.
  pub record Stands (b : P) (y : Mark V) (d : Code) : Type 0 where
    pub there : Member (entry engine alg b.scope b.sites y d) (level_of engine alg b)

  pub part_of : (b : P) (y : Mark V) (d : Code) → Fine b → Stands b y d → Part (length b.scope.earlier) d
  part_of b y d f s = (parts b.scope b.sites (length b.scope.earlier) b.code b.first f.block.nested f.block.calls).at _ s.there

  pub finds : (b : P) (y : Mark V) (d : Code) → Fine b → Stands b y d → find (number d) (level_of engine alg b) ≡ Some (record { before = y; code = d })
  finds b y d f s = found (entry engine alg b.scope b.sites y d) (level_of engine alg b) (subst Distinct (sym (keys_own engine alg b.scope b.sites b.code b.first)) f.block.once) s.there

  pub stated : {A : Type 0} (b : P) (y : Mark V) (d : Code) → Fine b → Stands b y d → (g : P → Mark V → Code → Option A) → statement engine alg (Some b) (number d) g ≡ g b y d
  stated b y d f s g = ap (λ o. if_some o (λ x. g b x.before x.code)) (finds b y d f s)

  pub record Stated {A : Type 0} (o : Option P) (n : ℕ) (g : P → Mark V → Code → Option A) (r : A) : Type 0 where
    pub place : P
    pub leads : o ≡ Some place
    pub before : Mark V
    pub code : Code
    pub stands : Stands place before code
    pub gives : g place before code ≡ Some r
    pub numbered : n ≡ number code

  pub unstated : {A : Type 0} (o : Option P) (n : ℕ) (g : P → Mark V → Code → Option A) (r : A) → statement engine alg o n g ≡ Some r → Stated o n g r
  unstated {A} o n g r e =
      let p = then_some o (λ b. if_some (find n (level_of engine alg b)) (λ x. g b x.before x.code)) r e in
      let q = then_some (find n (level_of engine alg p.0)) (λ x. g p.0 x.before x.code) r p.2 in
      let m = found_member n q.0 (level_of engine alg p.0) q.1 in
      let k : n ≡ number q.0.code = (keyed engine alg p.0.scope p.0.sites p.0.code p.0.first).at (n, q.0) m in
      record {
        place = p.0;
        leads = p.1;
        before = q.0.before;
        code = q.0.code;
        stands = record { there = subst (λ (j : ℕ). Member (j, q.0) (level_of engine alg p.0)) k m };
        gives = q.2;
        numbered = k;
      }

  fine_start : (ps : List Routine) (z : List ℕ) (x : Mark V) (b : P) → AllFine ps → IsStart x.point → start_of engine alg ps z x ≡ Some b → Fine b
  fine_start [] z x b f s e = absurd cc
  fine_start (r ∷ earlier) z x b f s e = subst Fine (same_Some _ _ e) (record { block = f.0; procs = f.1; starts = s })

  fine_call : (b : P) (n : ℕ) (y : Mark V) (d : Code) (c : P) → Fine b → in_call engine alg b n y d ≡ Some c → Fine c
  fine_call b n y Stop c f e = absurd cc
  fine_call b n y (Simple m effect r) c f e = absurd cc
  fine_call b n y (If m guard t x r) c f e = absurd cc
  fine_call b n y (While m guard t r) c f e = absurd cc
  fine_call b n y (Call m call q r) c f e = fine_start (from b.scope.earlier q) _ _ c (fine_from b.scope.earlier q f.procs) (inl refl) e
  fine_call b n y (Break m r) c f e = absurd cc

  fine_loop : (b : P) (n k : ℕ) (y : Mark V) (d : Code) (c : P) → Fine b → Stands b y d → in_loop engine alg b n k y d ≡ Some c → Fine c
  fine_loop b n k y Stop c f s e = absurd cc
  fine_loop b n k y (Simple m effect r) c f s e = absurd cc
  fine_loop b n k y (If m guard t x r) c f s e = absurd cc
  fine_loop b n k y (While m guard t r) c f s e =
      let i = cond_some (nat_lt k engine.budget) (round_place engine alg b n guard t k y) c e in
      subst Fine i.1 (record { block = part_of b y (While m guard t r) f s; procs = f.procs; starts = inr refl })
  fine_loop b n k y (Call m call q r) c f s e = absurd cc
  fine_loop b n k y (Break m r) c f s e = absurd cc

  module _ (program : List Routine) (all : AllFine program) where
    pub fine : (w : List NameFrame) (b : P) → follow engine alg program w ≡ Some b → Fine b
    fine [] b e = fine_start program [] _ b all (inl refl) e
    fine (InCall n ∷ w) b e =
        let u = unstated (follow engine alg program w) n (λ b. in_call engine alg b n) b e in
        fine_call u.place n u.before u.code b (fine w u.place u.leads) u.gives
    fine (InLoop n k ∷ w) b e =
        let u = unstated (follow engine alg program w) n (λ b. in_loop engine alg b n k) b e in
        fine_loop u.place n k u.before u.code b (fine w u.place u.leads) u.stands u.gives

  at_first : (b : P) (p : Point) → b.first.point ≡ p → IsStart p → mark_at engine alg b p ≡ Some b.first
  at_first b p e (inl k) = subst (λ p. b.first.point ≡ p → mark_at engine alg b p ≡ Some b.first) (sym k) (λ e. ap (λ (p : Point). if is_entry engine alg p then Some b.first else None) e) e
  at_first b p e (inr k) = subst (λ p. b.first.point ≡ p → mark_at engine alg b p ≡ Some b.first) (sym k) (λ e. ap (λ (p : Point). if is_entry engine alg p then None else Some b.first) e) e

  -- A known mark is the one at its point.
  pub at_known : (b : P) → Fine b → (u : Mark V) → Known engine alg b.scope b.sites b.code b.first u → mark_at engine alg b u.point ≡ Some u
  at_known b f u first = at_first b b.first.point refl f.starts
  at_known b f u (post y d m) = stated b y d f (record { there = m }) (post_mark engine alg)
  at_known b f u (branch true n guard t e r y m) = stated b y (If n guard t e r) f (record { there = m }) (branch_mark engine alg true)
  at_known b f u (branch false n guard t e r y m) = stated b y (If n guard t e r) f (record { there = m }) (branch_mark engine alg false)
