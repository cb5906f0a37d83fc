-- Cells that are gathered along inputs.
use Rattle.std.proofs.Common.{◌≡◌, ◌⊎◌, ℕ, ◌<◌, ◌≤◌, ◌+◌, ◌-◌, List, [], ◌∷◌, ◌++◌, take, length, get_or, Option, Some, None, IsSome, slice_get, Bool, true, false, nat_lt, Contains, refl, sym, ap, subst, ◌∙◌, inl, inr, arith}
use Rattle.std.specs.FinMap.{get, len}
use Rattle.std.proofs.lemmas.Option.{slice_get-get_or, slice_get_within, same_Some}
use Rattle.std.proofs.lemmas.List.{get_or_default}
use Rattle.std.specs.Bool.{Decides}
use Rattle.std.proofs.lemmas.Bool.{cases_eq}
use Rattle.std.proofs.lemmas.Bool.Decides.{nat_tests}
use Rattle.base_values.proofs.Cases.{by_bool}
use Rattle.base_values.proofs.Members.{member_of}
use Rattle.base_values.proofs.Lists.{take_item, get_front as get_left, get_pushed}
use Rattle.daig_graph.specs.Cells.{AreCells, Filled}
use Rattle.daig_graph.specs.Held.{IsIn, IsOnce}
use Rattle.cell_removal.specs.Removal.{Cells}
use Rattle.cell_removal.proofs.Ins.{in_none, in_left, in_last, in_pushed}
use Rattle.cell_removal.proofs.Pigeons.{differ_once, no_more_than}
use Rattle.base_sets.specs.Sets.{Puts}
use Rattle.why_cells.specs.Reached.{Reached, seed, input, AreReached, IsSetOf, Joins}

-- a set of the cells of a list
none_once : IsOnce {A = ℕ} []
none_once i j x a b = absurd cc

pub no_cells : (cells set : List ℕ) → cells ≡ [] → set ≡ [] → IsSetOf cells set
no_cells cells set e s =
    subst (λ xs. IsSetOf xs set) (sym e) (subst (IsSetOf []) (sym s) (record {
      once = none_once;
      same = λ n. (λ c. elim (member_of n [] c) [ ], λ m. in_none n m);
    }))

once_pushed : (old : List ℕ) (n : ℕ) → (IsIn old n → ⊥) → IsOnce old → IsOnce (old ++ n ∷ [])
once_pushed old n out once i j x a b =
    elim (get_pushed old n i x a) [
      | inl p ↦ elim (get_pushed old n j x b) [
        | inl q ↦ once i j x p q
        | inr q ↦ absurd (out (i, p ∙ ap Some (sym q.1)))
      ]
      | inr p ↦ elim (get_pushed old n j x b) [
        | inl q ↦ absurd (out (j, q ∙ ap Some (sym p.1)))
        | inr q ↦ p.0 ∙ sym q.0
      ]
    ]

-- a cell more, in the list and in the set
set_pushed : (now set next : List ℕ) (n : ℕ) → IsSetOf now set → (IsIn now n → ⊥) → Puts set next n → IsSetOf (now ++ n ∷ []) next
set_pushed now set next n h out puts = record {
  once = once_pushed now n out h.once;
  same = λ m. elim (cases_eq m n) [
    | inl e ↦ (λ c. subst (λ k. IsIn (now ++ n ∷ []) k) (sym e) (in_last n now), λ i. subst (Contains next) (sym e) puts.here)
    | inr d ↦ (
      λ c. in_left m now (n ∷ []) ((h.same m).0 ((puts.others m d).0 c)),
      λ i. (puts.others m d).1 ((h.same m).1 (elim (in_pushed m n now i) [ inl a ↦ a | inr q ↦ absurd (d (sym q)) ])),
    )
  ];
}

-- What is kept while cells are added.
pub record Adding (first more : List ℕ) (i : ℕ) (now set : List ℕ) : Type 0 where
  pub set_of : IsSetOf now set
  pub joins : Joins first (take i more) now

pub adding_first : (first more set : List ℕ) → IsSetOf first set → Adding first more 0 first set
adding_first first more set h = record { set_of = h; joins = record { keeps = λ i n e. e; only = λ n m. inl m; each = λ n m. in_none n m } }

-- a cell that is there already
pub adding_stays : (first more now set : List ℕ) (i n : ℕ) → i < length more → n ≡ get_or more i n → Adding first more i now set → Contains set n → Adding first more (i + 1) now set
adding_stays first more now set i n l at h c = record {
  set_of = h.set_of;
  joins = record {
    keeps = h.joins.keeps;
    only = λ x m. elim (h.joins.only x m) [ inl a ↦ inl a | inr b ↦ inr (subst (λ xs. IsIn xs x) (sym more_is) (in_left x (take i more) (n ∷ []) b)) ];
    each = λ x m. elim (in_pushed x n (take i more) (subst (λ xs. IsIn xs x) more_is m)) [ inl a ↦ h.joins.each x a | inr q ↦ subst (IsIn now) q ((h.set_of.same n).0 c) ];
  };
}
  where
    more_is : take (i + 1) more ≡ take i more ++ n ∷ []
    more_is = take_item more i n l at

-- a cell that is new
pub adding_pushed : (first more now set next new : List ℕ) (i n : ℕ) → i < length more → n ≡ get_or more i n → Adding first more i now set → (Contains set n → ⊥) → Puts set next n → new ≡ now ++ n ∷ [] → Adding first more (i + 1) new next
adding_pushed first more now set next new i n l at h out puts e =
    subst (λ xs. Adding first more (i + 1) xs next) (sym e) (record {
      set_of = set_pushed now set next n h.set_of (λ m. out ((h.set_of.same n).1 m)) puts;
      joins = record {
        keeps = λ j x k. get_left now (n ∷ []) j x (h.joins.keeps j x k);
        only = λ x k. elim (in_pushed x n now k) [ inl a ↦ only_more x a | inr b ↦ inr (subst (λ xs. IsIn xs x) (sym more_is) (subst (λ y. IsIn (take i more ++ n ∷ []) y) b (in_last n (take i more)))) ];
        each = λ x m.
            elim (in_pushed x n (take i more) (subst (λ xs. IsIn xs x) more_is m)) [
              | inl a ↦ in_left x now (n ∷ []) (h.joins.each x a)
              | inr q ↦ subst (IsIn (now ++ n ∷ [])) q (in_last n now)
            ];
      };
    })
  where
    more_is : take (i + 1) more ≡ take i more ++ n ∷ []
    more_is = take_item more i n l at

    only_more : (x : ℕ) → IsIn now x → IsIn first x ⊎ IsIn (take (i + 1) more) x
    only_more x m = elim (h.joins.only x m) [ inl a ↦ inl a | inr b ↦ inr (subst (λ xs. IsIn xs x) (sym more_is) (in_left x (take i more) (n ∷ []) b)) ]

-- a cell, by whether the set has it
pub adding_old : (first more now set seen new : List ℕ) (i d : ℕ) (b : Bool) → i < length more → Adding first more i now set → Decides b (Contains set (get_or more i d)) → b ≡ true → seen ≡ set → new ≡ now → Adding first more (i + 1) new seen
adding_old first more now set seen new i d b l h has t s e =
    subst (λ xs. Adding first more (i + 1) xs seen) (sym e) (subst (Adding first more (i + 1) now) (sym s) (adding_stays first more now set i (get_or more i d) l (get_or_default more i d (get_or more i d) l) h (has.0 t)))

pub adding_new : (first more now set next seen new : List ℕ) (i d : ℕ) (b : Bool) → i < length more → Adding first more i now set → Decides b (Contains set (get_or more i d)) → b ≡ false → Puts set next (get_or more i d) → seen ≡ next →
    new ≡ now ++ get_or more i d ∷ [] → Adding first more (i + 1) new seen
adding_new first more now set next seen new i d b l h has t puts s e =
    subst (Adding first more (i + 1) new) (sym s)
    (adding_pushed first more now set next new i (get_or more i d) l (get_or_default more i d (get_or more i d) l) h (λ c. let y = sym (has.1 c) ∙ t in cc) puts e)

-- What is kept while the inputs of the cells are looked at in turn: those before `next` are done.
pub record Gathers {V : Type 0} (cells : Cells V) (seeds : List ℕ) (next : ℕ) (out : List ℕ) : Type 0 where
  pub once : IsOnce out
  pub there : (n : ℕ) → IsIn out n → IsSome (get cells n)
  pub only : (n : ℕ) → IsIn out n → Reached cells seeds n
  pub seeds_in : (n : ℕ) → IsIn seeds n → IsIn out n
  pub done : (i m n : ℕ) (f : Filled V) → i < next → slice_get out i ≡ Some m → get cells m ≡ Some f → IsIn f.inputs n → IsIn out n

pub gathers_first : {V : Type 0} (cells : Cells V) (seeds empty out : List ℕ) → empty ≡ [] → AreCells cells seeds → (IsOnce empty → IsOnce out) → Joins empty seeds out → Gathers cells seeds 0 out
gathers_first cells seeds empty out e there once j = record {
  once = once (subst IsOnce (sym e) (λ m n x a b. absurd cc));
  there = λ n m. there_of n (j.only n m);
  only = λ n m. seed n (seed_of n (j.only n m));
  seeds_in = λ n m. j.each n m;
  done = λ i m n f l a g k. absurd (omega arith);
}
  where
    seed_of : (n : ℕ) → IsIn empty n ⊎ IsIn seeds n → IsIn seeds n
    seed_of n (inl a) = in_none n (subst (λ xs. IsIn xs n) e a)
    seed_of n (inr b) = b

    there_of : (n : ℕ) → IsIn empty n ⊎ IsIn seeds n → IsSome (get cells n)
    there_of n o = let m = seed_of n o in there m.0 n m.1

-- the cells are no fewer than those that are gathered
pub few : {V : Type 0} (cells : Cells V) (seeds : List ℕ) (next : ℕ) (out : List ℕ) → Gathers cells seeds next out → length out ≤ len cells
few cells seeds next out g = no_more_than cells out (differ_once out g.once) g.there

-- the next cell is looked at
pub gathers_next : {V : Type 0} (cells : Cells V) (seeds out new inputs : List ℕ) (next m : ℕ) (f : Filled V) → Gathers cells seeds next out → slice_get out next ≡ Some m → get cells m ≡ Some f → f.inputs ≡ inputs → AreCells cells inputs →
    (IsOnce out → IsOnce new) → Joins out inputs new → Gathers cells seeds (next + 1) new
gathers_next cells seeds out new inputs next m f g at is same there once j = record {
  once = once g.once;
  there = λ n k. there_of n (j.only n k);
  only = λ n k. only_of n (j.only n k);
  seeds_in = λ n k. on n (g.seeds_in n k);
  done = λ i a n h l b c k. done_of i a n h l b c k (g.there a);
}
  where
    on : (n : ℕ) → IsIn out n → IsIn new n
    on n k = (k.0, j.keeps k.0 n k.1)

    there_of : (n : ℕ) → IsIn out n ⊎ IsIn inputs n → IsSome (get cells n)
    there_of n (inl a) = g.there n a
    there_of n (inr b) = there b.0 n b.1

    only_of : (n : ℕ) → IsIn out n ⊎ IsIn inputs n → Reached cells seeds n
    only_of n (inl a) = g.only n a
    only_of n (inr b) = input m n f (g.only m (next, at)) is (subst (λ xs. IsIn xs n) (sym same) b)

    same_item : (i a : ℕ) → i < length out → slice_get new i ≡ Some a → slice_get out i ≡ Some a
    same_item i a l b = go (slice_get out i) refl
      where
        go : (o : Option ℕ) → slice_get out i ≡ o → slice_get out i ≡ Some a
        go None e = absurd (beyond out i l e)
          where
            beyond : (xs : List ℕ) (i : ℕ) → i < length xs → slice_get xs i ≡ None → ⊥
            beyond xs i l e = let s = slice_get-get_or xs i 0 l in let q = sym e ∙ s in cc
        go (Some c) e = e ∙ ap Some (same_Some c a (sym (j.keeps i c e) ∙ b))

    done_of : (i a n : ℕ) (h : Filled _) → i < next + 1 → slice_get new i ≡ Some a → get cells a ≡ Some h → IsIn h.inputs n → (IsIn out a → IsSome (get cells a)) → IsIn new n
    done_of i a n h l b c k t =
        let lt : next < length out = slice_get_within out next m at in
        let o = same_item i a (omega arith) b in
        last_or i next (omega arith)
        (λ q. on n (g.done i a n h q o c k))
        (λ q.
        let same_cell : m ≡ a = same_Some m a (sym at ∙ ap (slice_get out) (sym q) ∙ o) in
        let same_filled : f ≡ h = same_Some f h (sym is ∙ ap (get cells) same_cell ∙ c) in
        j.each n (subst (λ xs. IsIn xs n) same (subst (λ (z : Filled _). IsIn z.inputs n) (sym same_filled) k)))
      where
        last_or : {P : Type 0} (i n : ℕ) → i ≤ n → (i < n → P) → (i ≡ n → P) → P
        last_or i n l f g = by_bool (nat_lt i n) (λ h. f (grind (arith, nat_tests))) (λ h. g (grind (arith, nat_tests)))

pub gathers_done : {V : Type 0} (cells : Cells V) (seeds out : List ℕ) (next : ℕ) → Gathers cells seeds next out → length out ≤ next → AreReached cells seeds out
gathers_done cells seeds out next g l n = (λ m. g.only n m, λ r. all n r)
  where
    all : (n : ℕ) → Reached cells seeds n → IsIn out n
    all n (seed _ m) = g.seeds_in n m
    all n (input m _ f r h k) =
        let i = all m r in
        let lt : i.0 < length out = slice_get_within out i.0 m i.1 in
        g.done i.0 m n f (omega arith) i.1 h k

-- each turn of the walk
pub turn_left : {V : Type 0} (cells : Cells V) (seeds out : List ℕ) (next size : ℕ) → Gathers cells seeds next out → size ≡ length out → next < size → len cells - (next + 1) < len cells - next
turn_left cells seeds out next size g e l = let k = few cells seeds next out g in omega arith

pub gathers_look : {V : Type 0} (cells : Cells V) (seeds out new : List ℕ) (next size m : ℕ) → Gathers cells seeds next out → size ≡ length out → next < size → m ≡ get_or out next m → IsOnce new →
    ((f : Filled V) → get cells m ≡ Some f → Joins out f.inputs new) → ((f : Filled V) → get cells m ≡ Some f → AreCells cells f.inputs) → Gathers cells seeds (next + 1) new
gathers_look {V} cells seeds out new next size m g e l same once joins there =
    let lt : next < length out = omega arith in
    let at : slice_get out next ≡ Some m = slice_get-get_or out next m lt ∙ ap Some (sym same) in
    filled (get cells m) refl (g.there m (next, at)) at
  where
    filled : (o : Option (Filled V)) → get cells m ≡ o → IsSome o → slice_get out next ≡ Some m → Gathers cells seeds (next + 1) new
    filled None e s at = absurd cc
    filled (Some f) e s at = gathers_next cells seeds out new f.inputs next m f g at e refl (there f e) (λ o. once) (joins f e)

pub gathers_all : {V : Type 0} (cells : Cells V) (seeds out : List ℕ) (next size : ℕ) → Gathers cells seeds next out → size ≡ length out → size ≤ next → AreReached cells seeds out
gathers_all cells seeds out next size g e h = gathers_done cells seeds out next g (omega arith)
