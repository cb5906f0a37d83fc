-- Breaks by their places.
use Rattle.std.proofs.Common.{◌≡◌, ◌≢◌, ℕ, zero, suc, ◌+◌, ◌-◌, ◌<◌, ◌≤◌, List, [], ◌∷◌, Bool, length, map, drop, get_or, slice_get, Option, Some, None, if◌then◌else◌, refl, sym, ap, ◌∙◌, arith, add-zero}
use Rattle.std.specs.Option.{option_map}
use Rattle.batch_meaning.specs.Places.{if_some}
use Rattle.cell_names.specs.declared.frame.NameFrame.{NameFrame}
use Rattle.base_values.proofs.Cases.{by_test}
use Rattle.base_values.proofs.Lists.{drop_from}
use Rattle.cell_names.specs.declared.frame.Point.TheVariants.{Leap}
use Rattle.cell_rows.specs.Names.{name, next_place, place_of, item}
use Rattle.cell_rows.specs.Rows.{Joins}
use Rattle.imp_flow_rows.specs.declared.node.Leave.{Leave}
use Rattle.imp_flow_rows.specs.Entered.{Table, leave_at}
use Rattle.imp_flow_rows.specs.NodeRows.{breaks_of, fronts_of, joined_at, joins_at}
use Rattle.std.proofs.lemmas.Option.{slice_get-map, same_Some}
use Rattle.std.proofs.lemmas.List.{drop_all}

-- Breaks by their numbers.
pub leaves_long : (at : Table) (bs : List ℕ) → length (map (leave_at at) bs) ≡ length bs
leaves_long at [] = refl
leaves_long at (b ∷ bs) = ap suc (leaves_long at bs)

pub leave_there : (at : Table) (bs : List ℕ) (i b : ℕ) → i < length bs → b ≡ get_or bs i b → slice_get (map (leave_at at) bs) i ≡ Some (leave_at at b)
leave_there at [] i b h e = absurd (omega arith)
leave_there at (c ∷ bs) zero b h e = ap (λ n. Some (leave_at at n)) (sym e)
leave_there at (c ∷ bs) (suc i) b h e = leave_there at bs i b (omega arith) e

pub number_there : (at : Table) (bs : List ℕ) (i b : ℕ) → i < length bs → b ≡ get_or bs i b → slice_get (breaks_of (map (leave_at at) bs)) i ≡ Some b
number_there at [] i b h e = absurd (omega arith)
number_there at (c ∷ bs) zero b h e = ap Some (sym e)
number_there at (c ∷ bs) (suc i) b h e = number_there at bs i b (omega arith) e

-- A break at its place.
pub front_at : (ls : List Leave) (i : ℕ) (l : Leave) → slice_get ls i ≡ Some l → slice_get (fronts_of ls) i ≡ Some l.front
front_at ls i l e = slice_get-map (λ (x : Leave). x.front) ls i ∙ ap (option_map (λ (x : Leave). x.front)) e

pub break_at : (ls : List Leave) (i : ℕ) (l : Leave) → slice_get ls i ≡ Some l → item (breaks_of ls) i ≡ l.stmt
break_at [] i l e = absurd cc
break_at (x ∷ ls) zero l e = ap (λ (x : Leave). x.stmt) (same_Some x l e)
break_at (x ∷ ls) (suc i) l e = break_at ls i l e

-- The row of a break.
pub joins_some : (w : List NameFrame) (stays : Bool) (n : ℕ) (ls : List Leave) (i : ℕ) (l : Leave) → slice_get ls i ≡ Some l → joins_at w stays n ls i ≡ Some (Joins stays (name w (joined_at n (breaks_of ls) i)) n w l.front)
joins_some w stays n ls i l e = ap (λ o. if_some o (λ p. Some (Joins stays (name w (joined_at n (breaks_of ls) i)) n w p))) (front_at ls i l e)

pub joins_none : (w : List NameFrame) (stays : Bool) (n : ℕ) (ls : List Leave) (i : ℕ) → length ls ≤ i → joins_at w stays n ls i ≡ None
joins_none w stays n ls i h = ap (λ o. if_some o (λ p. Some (Joins stays (name w (joined_at n (breaks_of ls) i)) n w p))) (none ls i h)
  where
    none : (ls : List Leave) (i : ℕ) → length ls ≤ i → slice_get (fronts_of ls) i ≡ None
    none [] i h = refl
    none (l ∷ ls) zero h = absurd (omega arith)
    none (l ∷ ls) (suc i) h = none ls i (omega arith)

-- with so many breaks, the last of which is x
pub joined_last : (n : ℕ) (ls : List Leave) (k : ℕ) (x : Leave) → k ≢ 0 → slice_get ls (k - 1) ≡ Some x → Leap n x.stmt ≡ joined_at n (breaks_of ls) k
joined_last n ls zero x z e = absurd (z refl)
joined_last n ls (suc k) x z e =
    let one : suc k - 1 ≡ k = omega arith in
    ap (Leap n) (sym (break_at ls k x (ap (slice_get ls) (sym one) ∙ e)))

-- The search for a break.
abbrev counted : ℕ → ℕ → List ℕ → Option ℕ
counted i n bs = option_map (λ j. i + j) (place_of n bs)

plus_next : (i j : ℕ) → i + suc j ≡ (i + 1) + j
plus_next i j = omega arith

further : (i : ℕ) (o : Option ℕ) → option_map (λ j. i + j) (next_place o) ≡ option_map (λ j. (i + 1) + j) o
further i None = refl
further i (Some j) = ap Some (plus_next i j)

pub place_found : (bs : List ℕ) (i n b : ℕ) → slice_get bs i ≡ Some b → b ≡ n → counted i n (drop i bs) ≡ Some i
place_found bs i n b e k =
    ap (counted i n) (drop_from bs i b e)
    ∙ by_test n b (λ c. option_map (λ j. i + j) (if c then Some 0 else next_place (place_of n (drop (i + 1) bs))) ≡ Some i) (λ q. ap Some (add-zero i)) (λ q. absurd (q (sym k)))

pub place_passed : (bs : List ℕ) (i n b : ℕ) → slice_get bs i ≡ Some b → b ≢ n → counted i n (drop i bs) ≡ counted (i + 1) n (drop (i + 1) bs)
place_passed bs i n b e k =
    ap (counted i n) (drop_from bs i b e)
    ∙ by_test n b (λ c. option_map (λ j. i + j) (if c then Some 0 else next_place (place_of n (drop (i + 1) bs))) ≡ counted (i + 1) n (drop (i + 1) bs)) (λ q. absurd (k (sym q))) (λ q. further i (place_of n (drop (i + 1) bs)))

breaks_long : (ls : List Leave) → length (breaks_of ls) ≡ length ls
breaks_long [] = refl
breaks_long (l ∷ ls) = ap suc (breaks_long ls)

pub place_none : (ls : List Leave) (i n : ℕ) → length ls ≤ i → counted i n (drop i (breaks_of ls)) ≡ None
place_none ls i n h = let far : length (breaks_of ls) ≤ i = rw (breaks_long ls) h in ap (counted i n) (drop_all i (breaks_of ls) far)
