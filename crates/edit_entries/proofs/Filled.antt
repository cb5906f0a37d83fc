-- What an edit of a block leaves as it is outside that block.
use Rattle.std.proofs.Common.{◌≡◌, ℕ, ◌==◌, cond, List, [], ◌∷◌, ◌++◌, Option, Some, None, Bool, true, false, refl, sym, ap, ◌∙◌}
use Rattle.imp_syntax.specs.Plain.{Statement, Statements, Starts, If, While, number_of}
use Rattle.imp_check.specs.Faults.{first}
use Rattle.imp_check.specs.Slots.{Resolver}
use Rattle.imp_check.specs.declared.entry.Which.TheVariants as which
use Rattle.imp_check.specs.declared.entry.Context.{Context}
use Rattle.imp_check.specs.declared.entry.Entry.{Entry}
use Rattle.imp_check.specs.Parts.{ends_of, first_or, last_or, leaving}
use Rattle.imp_check.specs.Entries.{inside, inside_loop, entry_at, statement_entries, block_entries, entry_of}
use Rattle.edit_entries.specs.Spliced.{is}
use Rattle.edit_entries.specs.Holes.{append, Hole, Then, Else, Body, fill, plug, holder, loop_of}
use Rattle.edit_entries.proofs.Others.{first_append, last_append, leaving_append, entries_append, entry_append, Alike}

-- The statements around a hole, and the one that has it.
abbrev pub before : Hole → Statements
before (Then b n c e r) = b
before (Else b n c t r) = b
before (Body b n c r) = b

abbrev pub behind : Hole → Statements
behind (Then b n c e r) = r
behind (Else b n c t r) = r
behind (Body b n c r) = r

abbrev pub holding : Hole → Statements → Statement
holding (Then b n c e r) x = If n c x e
holding (Else b n c t r) x = If n c t x
holding (Body b n c r) x = While n c x

abbrev pub context_in : Context → Hole → Context
context_in k (Then b n c e r) = inside k n which.Then
context_in k (Else b n c t r) = inside k n which.Else
context_in k (Body b n c r) = inside_loop k n

-- A filled hole is a block whose ends do not tell what it was filled with.
pub fill_is : (h : Hole) (x : Statements) → fill h x ≡ append (before h) (Starts (holding h x) (behind h))
fill_is (Then b n c e r) x = refl
fill_is (Else b n c t r) x = refl
fill_is (Body b n c r) x = refl

pub holding_number : (h : Hole) (x : Statements) → number_of (holding h x) ≡ holder h
holding_number (Then b n c e r) x = refl
holding_number (Else b n c t r) x = refl
holding_number (Body b n c r) x = refl

ends_is : (b r : Statements) (s : Statement) → ends_of (append b (Starts s r)) ≡ record { first = first_or b (Some (number_of s)); last = last_or r (Some (number_of s)) }
ends_is b r s =
    ap (λ o. record { first = o; last = last_or (append b (Starts s r)) None }) (first_append b (Starts s r) None)
    ∙ ap (λ o. record { first = first_or b (Some (number_of s)); last = o }) (last_append b (Starts s r) None)

pub ends_filled : (h : Hole) (x y : Statements) → ends_of (fill h x) ≡ ends_of (fill h y)
ends_filled (Then b n c e r) x y = ends_is b r (If n c x e) ∙ sym (ends_is b r (If n c y e))
ends_filled (Else b n c t r) x y = ends_is b r (If n c t x) ∙ sym (ends_is b r (If n c t y))
ends_filled (Body b n c r) x y = ends_is b r (While n c x) ∙ sym (ends_is b r (While n c y))

pub leaving_filled : (h : Hole) (x y : Statements) → leaving x ≡ leaving y → leaving (fill h x) ≡ leaving (fill h y)
leaving_filled (Then b n c e r) x y q = leaving_append b (Starts (If n c x e) r) ∙ ap (λ k. leaving b ++ ((k ++ leaving e) ++ leaving r)) q ∙ sym (leaving_append b (Starts (If n c y e) r))
leaving_filled (Else b n c t r) x y q = leaving_append b (Starts (If n c t x) r) ∙ ap (λ k. leaving b ++ ((leaving t ++ k) ++ leaving r)) q ∙ sym (leaving_append b (Starts (If n c t y) r))
leaving_filled (Body b n c r) x y q = leaving_append b (Starts (While n c x) r) ∙ sym (leaving_append b (Starts (While n c y) r))

-- Breaks leave the innermost loop and no other.
leaving_cut : (b r : Statements) (n : ℕ) (c : _) (x y : Statements) → leaving (fill (Body b n c r) x) ≡ leaving (fill (Body b n c r) y)
leaving_cut b r n c x y = leaving_append b (Starts (While n c x) r) ∙ sym (leaving_append b (Starts (While n c y) r))

abbrev pub has_loop : List Hole → Bool
has_loop [] = false
has_loop (Then b n c e r ∷ hs) = has_loop hs
has_loop (Else b n c t r ∷ hs) = has_loop hs
has_loop (Body b n c r ∷ hs) = true

pub cut : (hs : List Hole) (x y : Statements) → has_loop hs ≡ true → leaving (plug hs x) ≡ leaving (plug hs y)
cut [] x y h = cc
cut (Then b n c e r ∷ hs) x y h = leaving_filled (Then b n c e r) (plug hs x) (plug hs y) (cut hs x y h)
cut (Else b n c t r ∷ hs) x y h = leaving_filled (Else b n c t r) (plug hs x) (plug hs y) (cut hs x y h)
cut (Body b n c r ∷ hs) x y h = leaving_cut b r n c (plug hs x) (plug hs y)

pub no_loop : (o : Option ℕ) (hs : List Hole) → has_loop hs ≡ false → loop_of o hs ≡ o
no_loop o [] h = refl
no_loop o (Then b n c e r ∷ hs) h = no_loop o hs h
no_loop o (Else b n c t r ∷ hs) h = no_loop o hs h
no_loop o (Body b n c r ∷ hs) h = cc

pub some_loop : (o p : Option ℕ) (hs : List Hole) → has_loop hs ≡ true → loop_of o hs ≡ loop_of p hs
some_loop o p [] h = cc
some_loop o p (Then b n c e r ∷ hs) h = some_loop o p hs h
some_loop o p (Else b n c t r ∷ hs) h = some_loop o p hs h
some_loop o p (Body b n c r ∷ hs) h = refl

module _ (f : Resolver) (m : ℕ) where
  -- What is found in a filled hole, by the spot of its statement and what is found in the block.
  abbrev look : Context → Hole → Entry → Option Entry → Option Entry
  look k (Then b n c e r) s o = first (entry_of (block_entries f k None (Some n) b) m) (first (cond (n == m) (Some s) (first o (entry_of (block_entries f (inside k n which.Else) None None e) m))) (entry_of (block_entries f k (Some n) None r) m))
  look k (Else b n c t r) s o = first (entry_of (block_entries f k None (Some n) b) m) (first (cond (n == m) (Some s) (first (entry_of (block_entries f (inside k n which.Then) None None t) m) o)) (entry_of (block_entries f k (Some n) None r) m))
  look k (Body b n c r) s o = first (entry_of (block_entries f k None (Some n) b) m) (first (cond (n == m) (Some s) o) (entry_of (block_entries f k (Some n) None r) m))

  abbrev own : Context → Hole → Statements → Entry
  own k h x = entry_at f k (last_or (before h) None) (first_or (behind h) None) (holding h x)

  in_block : (k : Context) (b r : Statements) (s : Statement) (o : Option Entry) → entry_of (statement_entries f k (last_or b None) (first_or r None) s) m ≡ o → entry_of (block_entries f k None None (append b (Starts s r))) m ≡ first (entry_of (block_entries f k None (Some (number_of s)) b) m) (first o (entry_of (block_entries f k (Some (number_of s)) None r) m))
  in_block k b r s o e =
      ap (λ xs. entry_of xs m) (entries_append f k None None b (Starts s r))
      ∙ entry_append (block_entries f k None (Some (number_of s)) b) (block_entries f k (last_or b None) None (Starts s r)) m
      ∙ ap (λ p. first (entry_of (block_entries f k None (Some (number_of s)) b) m) p) (entry_append (statement_entries f k (last_or b None) (first_or r None) s) (block_entries f k (Some (number_of s)) None r) m ∙ ap (λ p. first p (entry_of (block_entries f k (Some (number_of s)) None r) m)) e)

  look_is : (k : Context) (h : Hole) (x : Statements) → entry_of (block_entries f k None None (fill h x)) m ≡ look k h (own k h x) (entry_of (block_entries f (context_in k h) None None x) m)
  look_is k (Then b n c e r) x = in_block k b r (If n c x e) _ (ap (λ o. cond (n == m) (Some (own k (Then b n c e r) x)) o) (entry_append (block_entries f (inside k n which.Then) None None x) (block_entries f (inside k n which.Else) None None e) m))
  look_is k (Else b n c t r) x = in_block k b r (If n c t x) _ (ap (λ o. cond (n == m) (Some (own k (Else b n c t r) x)) o) (entry_append (block_entries f (inside k n which.Then) None None t) (block_entries f (inside k n which.Else) None None x) m))
  look_is k (Body b n c r) x = in_block k b r (While n c x) _ refl

  -- The spot of the statement tells the ends of the block, and of a loop its breaks.
  own_same : (k : Context) (h : Hole) (x y : Statements) → ends_of x ≡ ends_of y → leaving x ≡ leaving y → own k h x ≡ own k h y
  own_same k (Then b n c e r) x y p q = ap (λ s. record (own k (Then b n c e r) x) { inner = s }) p
  own_same k (Else b n c t r) x y p q = ap (λ s. record (own k (Else b n c t r) x) { other = s }) p
  own_same k (Body b n c r) x y p q = ap (λ s. record (own k (Body b n c r) x) { inner = s }) p ∙ ap (λ ls. record (own k (Body b n c r) y) { breaks = ls }) q

  look_other : (k : Context) (h : Hole) (s t : Entry) (o : Option Entry) → (holder h == m) ≡ false → look k h s o ≡ look k h t o
  look_other k (Then b n c e r) s t o h = rw h refl
  look_other k (Else b n c u r) s t o h = rw h refl
  look_other k (Body b n c r) s t o h = rw h refl

  pub fill_same : (h : Hole) (x y : Statements) → ends_of x ≡ ends_of y → leaving x ≡ leaving y → Alike f m x y → Alike f m (fill h x) (fill h y)
  fill_same h x y p q a k = look_is k h x ∙ ap (λ s. look k h s (entry_of (block_entries f (context_in k h) None None x) m)) (own_same k h x y p q) ∙ ap (look k h (own k h y)) (a (context_in k h)) ∙ sym (look_is k h y)

  pub fill_other : (h : Hole) (x y : Statements) → (holder h == m) ≡ false → Alike f m x y → Alike f m (fill h x) (fill h y)
  fill_other h x y e a k =
      look_is k h x
      ∙ look_other k h (own k h x) (own k h y) (entry_of (block_entries f (context_in k h) None None x) m) e
      ∙ ap (look k h (own k h y)) (a (context_in k h))
      ∙ sym (look_is k h y)

  -- an if has no breaks of its own
  pub fill_then : (b : Statements) (n : ℕ) (c : _) (e r x y : Statements) → ends_of x ≡ ends_of y → Alike f m x y → Alike f m (fill (Then b n c e r) x) (fill (Then b n c e r) y)
  fill_then b n c e r x y p a k =
      let h = Then b n c e r in
      look_is k h x
      ∙ ap (λ s. look k h s (entry_of (block_entries f (context_in k h) None None x) m)) (ap (λ s. record (own k h x) { inner = s }) p)
      ∙ ap (look k h (own k h y)) (a (context_in k h))
      ∙ sym (look_is k h y)

  pub fill_else : (b : Statements) (n : ℕ) (c : _) (t r x y : Statements) → ends_of x ≡ ends_of y → Alike f m x y → Alike f m (fill (Else b n c t r) x) (fill (Else b n c t r) y)
  fill_else b n c t r x y p a k =
      let h = Else b n c t r in
      look_is k h x
      ∙ ap (λ s. look k h s (entry_of (block_entries f (context_in k h) None None x) m)) (ap (λ s. record (own k h x) { other = s }) p)
      ∙ ap (look k h (own k h y)) (a (context_in k h))
      ∙ sym (look_is k h y)

  -- Outside a block whose ends stay, and whose breaks do, all stays.
  pub plug_ends : (hs : List Hole) (x y : Statements) → ends_of x ≡ ends_of y → ends_of (plug hs x) ≡ ends_of (plug hs y)
  plug_ends [] x y p = p
  plug_ends (h ∷ hs) x y p = ends_filled h (plug hs x) (plug hs y)

  pub plug_leaving : (hs : List Hole) (x y : Statements) → leaving x ≡ leaving y → leaving (plug hs x) ≡ leaving (plug hs y)
  plug_leaving [] x y q = q
  plug_leaving (h ∷ hs) x y q = leaving_filled h (plug hs x) (plug hs y) (plug_leaving hs x y q)

  pub plug_same : (hs : List Hole) (x y : Statements) → ends_of x ≡ ends_of y → leaving x ≡ leaving y → Alike f m x y → Alike f m (plug hs x) (plug hs y)
  plug_same [] x y p q a = a
  plug_same (h ∷ hs) x y p q a = fill_same h (plug hs x) (plug hs y) (plug_ends hs x y p) (plug_leaving hs x y q) (plug_same hs x y p q a)

  -- Outside a block whose ends stay, all but the innermost loop around it stays.
  pub plug_loop : (hs : List Hole) (x y : Statements) → ends_of x ≡ ends_of y → is (loop_of None hs) m ≡ false → Alike f m x y → Alike f m (plug hs x) (plug hs y)
  plug_loop [] x y p l a = a
  plug_loop (Then b n c e r ∷ hs) x y p l a = fill_then b n c e r (plug hs x) (plug hs y) (plug_ends hs x y p) (plug_loop hs x y p l a)
  plug_loop (Else b n c t r ∷ hs) x y p l a = fill_else b n c t r (plug hs x) (plug hs y) (plug_ends hs x y p) (plug_loop hs x y p l a)
  plug_loop (Body b n c r ∷ hs) x y p l a = go (has_loop hs) refl (λ i. plug_loop hs x y p i a)
    where
      go : (t : Bool) → has_loop hs ≡ t → (is (loop_of None hs) m ≡ false → Alike f m (plug hs x) (plug hs y)) → Alike f m (fill (Body b n c r) (plug hs x)) (fill (Body b n c r) (plug hs y))
      go true e rest = fill_same (Body b n c r) (plug hs x) (plug hs y) (plug_ends hs x y p) (cut hs x y e) (rest (ap (λ o. is o m) (some_loop None (Some n) hs e) ∙ l))
      go false e rest = fill_other (Body b n c r) (plug hs x) (plug hs y) (ap (λ o. is o m) (sym (no_loop (Some n) hs e)) ∙ l) (rest (ap (λ o. is o m) (no_loop None hs e)))

  -- In a procedure, an edit of a block changes that block, the statement that has it, and the innermost loop around it.
  pub edit_other : (hs : List Hole) (h : Hole) (x y : Statements) → (holder h == m) ≡ false → is (loop_of None hs) m ≡ false → Alike f m x y → Alike f m (plug hs (fill h x)) (plug hs (fill h y))
  edit_other hs h x y e l a = plug_loop hs (fill h x) (fill h y) (ends_filled h x y) l (fill_other h x y e a)

  -- the same of the body of a loop, whose breaks leave that loop alone
  pub edit_body : (hs : List Hole) (b : Statements) (n : ℕ) (c : _) (r x y : Statements) → (n == m) ≡ false → Alike f m x y → Alike f m (plug hs (fill (Body b n c r) x)) (plug hs (fill (Body b n c r) y))
  edit_body hs b n c r x y e a = plug_same hs (fill (Body b n c r) x) (fill (Body b n c r) y) (ends_filled (Body b n c r) x y) (leaving_cut b r n c x y) (fill_other (Body b n c r) x y e a)
