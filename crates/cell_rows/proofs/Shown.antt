-- The statements of a block that stand in no loop of it, and those in its loops, are among the block's texts.
use Rattle.std.proofs.Common.{ℕ, List, [], map, true, false}
use Rattle.imp_slots.specs.Plain.{Code, Stop, Simple, If, While, Call, Break}
use Rattle.batch_meaning.specs.Batch.{LoopOptions}
use Rattle.cell_names.specs.declared.frame.Point.TheVariants.{Then, Else, Body, Post}
use Rattle.base_values.proofs.Members.{Member, here, there, in_left, in_right, Each, each_more, each_both, none_there, each_as, in_map}
use Rattle.cell_rows.specs.Names.{Scope, Mark, At, bare, number, behind_it, inside, entry, level}
use Rattle.cell_rows.specs.Targets.{Text, text, deeper, texts}

abbrev pub U : Type 0
U = Mark (Unit {0})

abbrev pub Seat : Type 0
Seat = ℕ × At (Unit {0})

abbrev pub Inner : List (ℕ × Text) → Code → Type 0
Inner xs Stop = Unit {0}
Inner xs (Simple n effect r) = Unit {0}
Inner xs (If n guard t e r) = Unit {0}
Inner xs (While n guard b r) = (q : ℕ × Text) → Member q (texts b Body) → Member (deeper n q) xs
Inner xs (Call n call q r) = Unit {0}
Inner xs (Break n r) = Unit {0}

-- A statement of a block is among its texts, and so are those of its body.
pub record Shows (xs : List (ℕ × Text)) (x : Seat) : Type 0 where
  pub itself : Member (number x.1.code, text [] x.1.before.point x.1.code) xs
  pub inner : Inner xs x.1.code

inner_more : (xs ys : List (ℕ × Text)) → ((q : ℕ × Text) → Member q xs → Member q ys) → (d : Code) → Inner xs d → Inner ys d
inner_more xs ys f Stop i = tt
inner_more xs ys f (Simple n effect r) i = tt
inner_more xs ys f (If n guard t e r) i = tt
inner_more xs ys f (While n guard b r) i = λ q m. f _ (i q m)
inner_more xs ys f (Call n call q r) i = tt
inner_more xs ys f (Break n r) i = tt

shows_more : (xs ys : List (ℕ × Text)) → ((q : ℕ × Text) → Member q xs → Member q ys) → (zs : List Seat) → Each (Shows xs) zs → Each (Shows ys) zs
shows_more xs ys f zs e = each_as (Shows xs) (Shows ys) zs (λ x s. record { itself = f _ s.itself; inner = inner_more xs ys f x.1.code s.inner }) e

module _ (engine : LoopOptions) (e : Scope) (z : List ℕ) where
  abbrev L : Code → U → List Seat
  L = level engine bare e z

  abbrev E : U → Code → Seat
  E = entry engine bare e z

  abbrev after : Code → U → U
  after = behind_it engine bare e z

  pub shows : (c : Code) (x : U) → Each (Shows (texts c x.point)) (L c x)
  shows Stop x = none_there (Shows [])
  shows (Simple n effect r) x =
      let xs = texts (Simple n effect r) x.point in
      each_more (Shows xs) (E x (Simple n effect r)) _ (record { itself = here; inner = tt }) (shows_more (texts r (Post n)) xs (λ q. there) _ (shows r (after (Simple n effect r) x)))
  shows (If n guard t f r) x =
      let xs = texts (If n guard t f r) x.point in
      each_more (Shows xs) (E x (If n guard t f r)) _ (record { itself = here; inner = tt })
      (each_both (Shows xs) _ _ (shows_more (texts t (Then n)) xs (λ q m. there (in_left _ m)) _ (shows t (inside engine bare e z true n guard x)))
      (each_both (Shows xs) _ _ (shows_more (texts f (Else n)) xs (λ q m. there (in_right (texts t (Then n)) (in_left _ m))) _ (shows f (inside engine bare e z false n guard x)))
      (shows_more (texts r (Post n)) xs (λ q m. there (in_right (texts t (Then n)) (in_right (texts f (Else n)) m))) _ (shows r (after (If n guard t f r) x)))))
  shows (While n guard b r) x =
      let xs = texts (While n guard b r) x.point in
      each_more (Shows xs) (E x (While n guard b r)) _ (record { itself = here; inner = λ q m. there (in_left (texts r (Post n)) (in_map (deeper n) q (texts b Body) m)) })
      (shows_more (texts r (Post n)) xs (λ q m. there (in_right (map (deeper n) (texts b Body)) m)) _ (shows r (after (While n guard b r) x)))
  shows (Call n call q r) x =
      let xs = texts (Call n call q r) x.point in
      each_more (Shows xs) (E x (Call n call q r)) _ (record { itself = here; inner = tt }) (shows_more (texts r (Post n)) xs (λ q. there) _ (shows r (after (Call n call q r) x)))
  shows (Break n r) x =
      let xs = texts (Break n r) x.point in
      each_more (Shows xs) (E x (Break n r)) _ (record { itself = here; inner = tt }) (shows_more (texts r (Post n)) xs (λ q. there) _ (shows r (after (Break n r) x)))
