-- What an edit of a block leaves as it is.
use Rattle.std.proofs.Common.{◌≡◌, ℕ, ◌==◌, cond, List, [], ◌∷◌, ◌++◌, Option, Some, None, Bool, true, false, refl, sym, ap, ◌∙◌, append_assoc}
use Rattle.imp_syntax.specs.Plain.{Statement, Statements, Ends, Starts, number_of}
use Rattle.imp_syntax.specs.Plain as tree
use Rattle.imp_check.specs.Faults.{first}
use Rattle.imp_check.specs.Slots.{Resolver}
use Rattle.imp_check.specs.declared.entry.Context.{Context}
use Rattle.imp_check.specs.declared.entry.Entry.{Entry}
use Rattle.imp_check.specs.Parts.{first_or, last_or, leaving_in, leaving}
use Rattle.imp_check.specs.Entries.{statement_entries, block_entries, entry_of}
use Rattle.edit_entries.specs.Spliced.{is}
use Rattle.edit_entries.specs.Holes.{append, between}

-- A block's first statement, and its last.
pub first_append : (xs ys : Statements) (o : Option ℕ) → first_or (append xs ys) o ≡ first_or xs (first_or ys o)
first_append Ends ys o = refl
first_append (Starts s xs) ys o = refl

pub last_append : (xs ys : Statements) (o : Option ℕ) → last_or (append xs ys) o ≡ last_or ys (last_or xs o)
last_append Ends ys o = refl
last_append (Starts s xs) ys o = last_append xs ys (Some (number_of s))

pub leaving_append : (xs ys : Statements) → leaving (append xs ys) ≡ leaving xs ++ leaving ys
leaving_append Ends ys = refl
leaving_append (Starts s xs) ys = ap (λ k. leaving_in s ++ k) (leaving_append xs ys) ∙ sym (append_assoc (leaving_in s) (leaving xs) (leaving ys))

-- The spots of a block are those of its parts, of which each knows its neighbours.
pub entries_append : (f : Resolver) (c : Context) (front next : Option ℕ) (xs ys : Statements) →
    block_entries f c front next (append xs ys) ≡ block_entries f c front (first_or ys next) xs ++ block_entries f c (last_or xs front) next ys
entries_append f c front next Ends ys = refl
entries_append f c front next (Starts s xs) ys =
    ap (λ o. statement_entries f c front o s ++ block_entries f c (Some (number_of s)) next (append xs ys)) (first_append xs ys next)
    ∙ ap (λ k. statement_entries f c front (first_or xs (first_or ys next)) s ++ k) (entries_append f c (Some (number_of s)) next xs ys)
    ∙ sym (append_assoc (statement_entries f c front (first_or xs (first_or ys next)) s) (block_entries f c (Some (number_of s)) (first_or ys next) xs) (block_entries f c (last_or xs (Some (number_of s))) next ys))

pub entry_append : (xs ys : List Entry) (m : ℕ) → entry_of (xs ++ ys) m ≡ first (entry_of xs m) (entry_of ys m)
entry_append [] ys m = refl
entry_append (x ∷ xs) ys m = go (x.number == m) (entry_append xs ys m)
  where
    go : (b : Bool) → entry_of (xs ++ ys) m ≡ first (entry_of xs m) (entry_of ys m) → cond b (Some x) (entry_of (xs ++ ys) m) ≡ first (cond b (Some x) (entry_of xs m)) (entry_of ys m)
    go true e = refl
    go false e = e

module _ (f : Resolver) (m : ℕ) where
  -- Neighbours are known of the first statement alone, and of the last.
  head_other : (c : Context) (a b p q : Option ℕ) (s : Statement) → (number_of s == m) ≡ false → entry_of (statement_entries f c a p s) m ≡ entry_of (statement_entries f c b q s) m
  head_other c a b p q (tree.Simple n x) h = rw h refl
  head_other c a b p q (tree.Break n) h = rw h refl
  head_other c a b p q (tree.Call n x g es) h = rw h refl
  head_other c a b p q (tree.If n d t e) h = rw h refl
  head_other c a b p q (tree.While n d x) h = rw h refl

  -- a block with something else before it or after it
  pub next_other : (c : Context) (front p q : Option ℕ) (b : Statements) → is (last_or b None) m ≡ false → entry_of (block_entries f c front p b) m ≡ entry_of (block_entries f c front q b) m
  next_other c front p q Ends h = refl
  next_other c front p q (Starts s Ends) h =
      entry_append (statement_entries f c front p s) [] m
      ∙ ap (λ o. first o None) (head_other c front front p q s h)
      ∙ sym (entry_append (statement_entries f c front q s) [] m)
  next_other c front p q (Starts s (Starts t ss)) h =
      entry_append (statement_entries f c front (Some (number_of t)) s) (block_entries f c (Some (number_of s)) p (Starts t ss)) m
      ∙ ap (λ o. first (entry_of (statement_entries f c front (Some (number_of t)) s) m) o) (next_other c (Some (number_of s)) p q (Starts t ss) h)
      ∙ sym (entry_append (statement_entries f c front (Some (number_of t)) s) (block_entries f c (Some (number_of s)) q (Starts t ss)) m)

  pub front_other : (c : Context) (a b next : Option ℕ) (ss : Statements) → is (first_or ss None) m ≡ false → entry_of (block_entries f c a next ss) m ≡ entry_of (block_entries f c b next ss) m
  front_other c a b next Ends h = refl
  front_other c a b next (Starts s ss) h =
      entry_append (statement_entries f c a (first_or ss next) s) (block_entries f c (Some (number_of s)) next ss) m
      ∙ ap (λ o. first o (entry_of (block_entries f c (Some (number_of s)) next ss) m)) (head_other c a b (first_or ss next) (first_or ss next) s h)
      ∙ sym (entry_append (statement_entries f c b (first_or ss next) s) (block_entries f c (Some (number_of s)) next ss) m)

  -- In a block, what stands neither in the part that goes nor in the one that comes, nor beside them, stays.
  pub part_other : (c : Context) (front next : Option ℕ) (before olds news behind : Statements) →
      ((a p : Option ℕ) → entry_of (block_entries f c a p olds) m ≡ None) → ((a p : Option ℕ) → entry_of (block_entries f c a p news) m ≡ None) →
      is (last_or before None) m ≡ false → is (first_or behind None) m ≡ false →
      entry_of (block_entries f c front next (between before behind olds)) m ≡ entry_of (block_entries f c front next (between before behind news)) m
  part_other c front next before olds news behind gone fresh last_is first_is =
      spread olds gone
      ∙ ap (λ o. first o (entry_of (block_entries f c (last_or olds (last_or before front)) next behind) m)) (next_other c front (first_or (append olds behind) next) (first_or (append news behind) next) before last_is)
      ∙ ap (λ o. first (entry_of (block_entries f c front (first_or (append news behind) next) before) m) o) (front_other c (last_or olds (last_or before front)) (last_or news (last_or before front)) next behind first_is)
      ∙ sym (spread news fresh)
    where
      spread : (part : Statements) → ((a p : Option ℕ) → entry_of (block_entries f c a p part) m ≡ None) →
          entry_of (block_entries f c front next (between before behind part)) m ≡ first (entry_of (block_entries f c front (first_or (append part behind) next) before) m) (entry_of (block_entries f c (last_or part (last_or before front)) next behind) m)
      spread part none =
          ap (λ xs. entry_of xs m) (entries_append f c front next before (append part behind))
          ∙ entry_append (block_entries f c front (first_or (append part behind) next) before) (block_entries f c (last_or before front) next (append part behind)) m
          ∙ ap (λ o. first (entry_of (block_entries f c front (first_or (append part behind) next) before) m) o)
          (ap (λ xs. entry_of xs m) (entries_append f c (last_or before front) next part behind)
          ∙ entry_append (block_entries f c (last_or before front) (first_or behind next) part) (block_entries f c (last_or part (last_or before front)) next behind) m
          ∙ ap (λ o. first o (entry_of (block_entries f c (last_or part (last_or before front)) next behind) m)) (none (last_or before front) (first_or behind next)))

  -- Two blocks of which m is known alike, whatever stands around them.
  abbrev pub Alike : Statements → Statements → Type 0
  Alike x y = (c : Context) → entry_of (block_entries f c None None x) m ≡ entry_of (block_entries f c None None y) m
