-- A statement of a program stands in holes, and an edit at it is an edit of the block there.
use Rattle.std.proofs.Common.{◌≡◌, ℕ, ◌⊎◌, inl, inr, List, [], ◌∷◌, ◌++◌, refl, sym, ap, ◌∙◌}
use Rattle.imp_syntax.specs.Plain.{Statement, Simple, Break, Call, If, While, Statements, Ends, Starts, number_of, numbers_in, numbers}
use Rattle.edit_entries.specs.Holes.{append, Hole, Then, Else, Body, fill, plug}

abbrev pub Has : ℕ → List ℕ → Type 0
Has n [] = ⊥
Has n (m ∷ ms) = (n ≡ m) ⊎ Has n ms

pub has_parts : (n : ℕ) (xs ys : List ℕ) → Has n (xs ++ ys) → Has n xs ⊎ Has n ys
has_parts n [] ys h = inr h
has_parts n (x ∷ xs) ys (inl e) = inl (inl e)
has_parts n (x ∷ xs) ys (inr h) = go (has_parts n xs ys h)
  where
    go : Has n xs ⊎ Has n ys → Has n (x ∷ xs) ⊎ Has n ys
    go (inl i) = inl (inr i)
    go (inr i) = inr i

-- Where a statement stands.
pub record Located (n : ℕ) (b : Statements) : Type 0 where
  pub holes : List Hole
  pub before : Statements
  pub stmt : Statement
  pub behind : Statements
  pub is : b ≡ plug holes (append before (Starts stmt behind))
  pub number : number_of stmt ≡ n

abbrev push : Statement → Hole → Hole
push s (Then b n c e r) = Then (Starts s b) n c e r
push s (Else b n c t r) = Else (Starts s b) n c t r
push s (Body b n c r) = Body (Starts s b) n c r

pushed : (s : Statement) (h : Hole) (x : Statements) → Starts s (fill h x) ≡ fill (push s h) x
pushed s (Then b n c e r) x = refl
pushed s (Else b n c t r) x = refl
pushed s (Body b n c r) x = refl

later : (n : ℕ) (s : Statement) (ss : Statements) → Located n ss → Located n (Starts s ss)
later n s ss l = go l.holes refl
  where
    go : (hs : List Hole) → l.holes ≡ hs → Located n (Starts s ss)
    go [] e = record { holes = []; before = Starts s l.before; stmt = l.stmt; behind = l.behind; is = ap (Starts s) (l.is ∙ ap (λ hs. plug hs (append l.before (Starts l.stmt l.behind))) e); number = l.number }
    go (h ∷ hs) e = record {
      holes = push s h ∷ hs;
      before = l.before;
      stmt = l.stmt;
      behind = l.behind;
      is = ap (Starts s) (l.is ∙ ap (λ gs. plug gs (append l.before (Starts l.stmt l.behind))) e) ∙ pushed s h (plug hs (append l.before (Starts l.stmt l.behind)));
      number = l.number;
    }

here : (n : ℕ) (s : Statement) (ss : Statements) → n ≡ number_of s → Located n (Starts s ss)
here n s ss e = record { holes = []; before = Ends; stmt = s; behind = ss; is = refl; number = sym e }

in_hole : (n : ℕ) (h : Hole) (x : Statements) → Located n x → Located n (fill h x)
in_hole n h x l = record { holes = h ∷ l.holes; before = l.before; stmt = l.stmt; behind = l.behind; is = ap (fill h) l.is; number = l.number }

branch : (n m : ℕ) (c : _) (t e ss : Statements) → Has n (numbers t) ⊎ Has n (numbers e) → (Has n (numbers t) → Located n t) → (Has n (numbers e) → Located n e) → Located n (Starts (If m c t e) ss)
branch n m c t e ss (inl h) f g = in_hole n (Then Ends m c e ss) t (f h)
branch n m c t e ss (inr h) f g = in_hole n (Else Ends m c t ss) e (g h)

either : (n : ℕ) (s : Statement) (ss : Statements) → Has n (numbers_in s) ⊎ Has n (numbers ss) → (Has n (numbers_in s) → Located n (Starts s ss)) → (Has n (numbers ss) → Located n ss) → Located n (Starts s ss)
either n s ss (inl h) f g = f h
either n s ss (inr h) f g = later n s ss (g h)

mutual
  locate_in : (n : ℕ) (s : Statement) (ss : Statements) → Has n (numbers_in s) → Located n (Starts s ss)
  locate_in n (Simple m a) ss (inl e) = here n (Simple m a) ss e
  locate_in n (Simple m a) ss (inr h) = absurd h
  locate_in n (Break m) ss (inl e) = here n (Break m) ss e
  locate_in n (Break m) ss (inr h) = absurd h
  locate_in n (Call m x g es) ss (inl e) = here n (Call m x g es) ss e
  locate_in n (Call m x g es) ss (inr h) = absurd h
  locate_in n (If m c t e) ss (inl q) = here n (If m c t e) ss q
  locate_in n (If m c t e) ss (inr h) = branch n m c t e ss (has_parts n (numbers t) (numbers e) h) (locate n t) (locate n e)
  locate_in n (While m c b) ss (inl q) = here n (While m c b) ss q
  locate_in n (While m c b) ss (inr h) = in_hole n (Body Ends m c ss) b (locate n b h)

  pub locate : (n : ℕ) (b : Statements) → Has n (numbers b) → Located n b
  locate n Ends h = absurd h
  locate n (Starts s ss) h = either n s ss (has_parts n (numbers_in s) (numbers ss) h) (locate_in n s ss) (locate n ss)
