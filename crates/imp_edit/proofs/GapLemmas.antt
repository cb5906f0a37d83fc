-- Where an edit changes a block, and what it makes of the program there.
use Rattle.std.proofs.Common.{◌≡◌, ℕ, suc, ◌+◌, ◌^◌, ◌<◌, ◌||◌, cond, List, [], ◌∷◌, ◌++◌, length, slice_get, Option, Some, None, Bool, true, false, refl, sym, ap, ◌∙◌, subst, arith}
use Rattle.std.specs.Option.{option_map}
use Rattle.std.specs.Str.{bytes_eq}
use Rattle.imp_syntax.specs.Plain.{Statement, Simple, Break, Call, If, While, Statements, Ends, Starts, Procedure, number_of, numbers, program_numbers}
use Rattle.imp_syntax.specs.declared.edit.Edit.{Edit}
use Rattle.imp_syntax.specs.declared.edit.Edit.TheVariants as edit
use Rattle.imp_syntax.specs.declared.edit.Place.TheVariants as place
use Rattle.imp_slots.specs.Fits.{Distinct}
use Rattle.imp_check.specs.Entries.{inside, inside_loop, entry_at, statement_entries, entries_of, entry_of, resolver_at, context_at, head_of, heads_of}
use Rattle.imp_check.specs.Names.{is_named, named_in, place_named}
use Rattle.imp_check.specs.Parts.{part_of, first_ends, second_ends, first_or, last_or}
use Rattle.imp_check.specs.Programs.{AreNumbered, block_count, program_count, check_fault}
use Rattle.imp_check.specs.Slots.{Resolver}
use Rattle.imp_check.specs.declared.entry.Context.{Context}
use Rattle.imp_check.specs.declared.entry.Entry.{Entry}
use Rattle.imp_check.specs.declared.entry.Which.TheVariants as which
use Rattle.edit_entries.specs.Gaps.{are_quiet}
use Rattle.edit_entries.specs.Holes.{append, Hole, Then, Else, Body, fill, plug, with_body}
use Rattle.imp_check.proofs.RebuildLemmas.{in_left, Known}
use Rattle.edit_entries.proofs.Counts.{count_within}
use Rattle.edit_entries.proofs.Exchange.{shallow_place}
use Rattle.edit_entries.proofs.Filled.{context_in}
use Rattle.edit_entries.proofs.Others.{last_append}
use Rattle.edit_entries.proofs.Programs.{old_one, old_program, new_program}
use Rattle.edit_entries.proofs.Standing.{Stands, stands, old_is, known_is, known_has, own_head}
use Rattle.edit_entries.proofs.Touched.{context_of, part_found, plug_last}
use Rattle.imp_edit.specs.Changes.{in_program, deleted, exchanged, followed, then_started, else_started, body_started, at_named, started}
use Rattle.imp_edit.specs.Edited.{edited, brought}
use Rattle.imp_edit.specs.Gaps.{gone_gap, behind_gap, then_gap, else_gap, body_gap, start_gap, of_entry, of_place, gap_of}
use Rattle.imp_edit.specs.CallFreeParts.{part_numbers, part_quiet}
use Rattle.imp_edit.specs.Refusals.{site_refusal, statement_refusal, entry_refusal, fits}
use Rattle.edit_breaks.specs.declared.gap.Gap.{Gap}
use Rattle.imp_edit.specs.declared.refusals.Needed.{Needed}
use Rattle.imp_edit.specs.declared.refusals.Needed.TheVariants as needed
use Rattle.imp_edit.specs.declared.error.EditError.TheVariants.{NoProcedure, WrongStatement}
use Rattle.imp_edit.proofs.Exchanged.{program_edited}
use Rattle.imp_edit.proofs.CallFreeLemmas.{own_count, part_numbers_is, part_quiet_is}

-- The place of an edit, between statements of a block in holes, and what the edit puts there.
pub record GapPart (e : Edit) (P : List Procedure) (g : Gap) : Type 0 where
  pub front : List Procedure
  pub own : Procedure
  pub back : List Procedure
  pub holes : List Hole
  pub before : Statements
  pub olds : Statements
  pub behind : Statements
  pub is : P ≡ old_program own holes before olds Ends behind front back
  pub context : g.context ≡ context_of (context_at (length front)) holes
  pub in_front : g.front ≡ last_or before None
  pub in_back : g.next ≡ first_or behind None
  pub gone : g.gone ≡ numbers olds
  pub quiet : are_quiet olds ≡ true
  pub becomes : edited e P ≡ new_program own holes before olds (brought e) behind front back

-- What is known of a statement where it stands.
abbrev entry_there : {n : ℕ} {P : List Procedure} → Stands n P → Entry
entry_there s = entry_at (resolver_at s.front s.own) (context_of (context_at (length s.front)) s.place.holes) (last_or s.place.before None) (first_or s.place.behind None) s.place.stmt

record There (n : ℕ) (P : List Procedure) (e : Entry) : Type 0 where
  place : Stands n P
  entry : e ≡ entry_there place

there : (n : ℕ) (P : List Procedure) (e : Entry) → Distinct (program_numbers P) → entry_of (entries_of P) n ≡ Some e → There n P e
there n P e once k =
    let s = stands n P (known_has n P e k) in
    let q : Some e ≡ Some (entry_there s) = sym k ∙ known_is n P once s in
    record { place = s; entry = cc }

-- .. and how deep
pub shallow : (n : ℕ) (P : List Procedure) (e : Entry) → check_fault P ≡ None → AreNumbered P → entry_of (entries_of P) n ≡ Some e → e.context.depth + 1 < 2 ^ 32
shallow n P e z u k =
    let t = there n P e u.once k in
    let s = t.place in
    let d = shallow_place s.own s.place.holes s.place.before (Starts s.place.stmt Ends) s.place.behind s.front s.back (ap check_fault (sym (old_is n P s)) ∙ z) in
    let q : e.context.depth ≡ (context_of (context_at (length s.front)) s.place.holes).depth = ap (λ (x : Entry). x.context.depth) t.entry in
    omega (arith, d, q)

pub append_again : (xs ys zs : Statements) → append (append xs ys) zs ≡ append xs (append ys zs)
append_again Ends ys zs = refl
append_again (Starts s xs) ys zs = ap (Starts s) (append_again xs ys zs)

context_last : (k : Context) (gs : List Hole) (h : Hole) → context_of k (gs ++ h ∷ []) ≡ context_in (context_of k gs) h
context_last k [] h = refl
context_last k (g ∷ gs) h = context_last (context_in k g) gs h

-- In the place of a statement in which no call stands.
abbrev at : List Procedure → ℕ → Option Entry
at P = entry_of (entries_of P)

abbrev most : List Procedure → ℕ
most P = suc (program_count P)

gone_quiet : (P : List Procedure) (e : Entry) (g : Gap) → gone_gap (at P) (most P) e ≡ Some g → part_quiet (at P) (most P) e ≡ true
gone_quiet P e g h = go (part_quiet (at P) (most P) e) refl h
  where
    go : (b : Bool) → part_quiet (at P) (most P) e ≡ b → cond b (Some (record { context = e.context; front = e.front; next = e.next; gone = part_numbers (at P) (most P) e })) None ≡ Some g → part_quiet (at P) (most P) e ≡ true
    go true q h = q
    go false q h = cc

gone_is : (P : List Procedure) (e : Entry) (g : Gap) → gone_gap (at P) (most P) e ≡ Some g → record { context = e.context; front = e.front; next = e.next; gone = part_numbers (at P) (most P) e } ≡ g
gone_is P e g h =
    let x : Gap = record { context = e.context; front = e.front; next = e.next; gone = part_numbers (at P) (most P) e } in
    let q : Some x ≡ Some g = ap (λ b. cond b (Some x) None) (sym (gone_quiet P e g h)) ∙ h in
    cc

-- what is known of the statement and of those inside it
module _ (n : ℕ) (P : List Procedure) (once : Distinct (program_numbers P)) (s : Stands n P) where
  abbrev stmt : Statement
  stmt = s.place.stmt

  abbrev f : Resolver
  f = resolver_at s.front s.own

  abbrev k : Context
  k = context_of (context_at (length s.front)) s.place.holes

  abbrev a : Option ℕ
  a = last_or s.place.before None

  abbrev b : Option ℕ
  b = first_or s.place.behind None

  all_known : Known (at P) (statement_entries f k a b stmt)
  all_known y i =
      ap (λ os. entry_of (entries_of os) y.number) (old_is n P s)
      ∙ part_found s.front s.back s.own s.place.holes s.place.before (Starts stmt Ends) s.place.behind (subst (λ (os : List Procedure). Distinct (program_numbers os)) (old_is n P s) once) y (in_left y (statement_entries f k a b stmt) [] i)

  few : block_count (Starts stmt Ends) < most P
  few =
      let old = ap program_count (old_is n P s) in
      omega (
        arith,
        old,
        count_within s.place.holes s.place.before (Starts stmt Ends) s.place.behind,
        own_count s.front (old_one s.own s.place.holes s.place.before (Starts stmt Ends) Ends s.place.behind) s.back,
      )

  numbers_there : part_numbers (at P) (most P) (entry_there s) ≡ numbers (Starts stmt Ends)
  numbers_there = part_numbers_is (at P) f (most P) stmt k a b few all_known

  quiet_there : part_quiet (at P) (most P) (entry_there s) ≡ are_quiet (Starts stmt Ends)
  quiet_there = part_quiet_is (at P) f (most P) stmt k a b few all_known

-- what an edit makes of the statement there, where only what it brings is left
module _ (d : Edit) (n : ℕ) (made : Statement → Statements) (P : List Procedure) (once : Distinct (program_numbers P)) (same : edited d P ≡ in_program n made P) (alone : (s : Statement) → made s ≡ brought d) (e : Entry) (k : entry_of (entries_of P) n ≡ Some e) where
  gone_part : (g : Gap) → gone_gap (at P) (most P) e ≡ Some g → GapPart d P g
  gone_part g w =
      let t = there n P e once k in
      let s = t.place in
      let l = s.place in
      let q = gone_is P e g w in
      record {
        front = s.front;
        own = s.own;
        back = s.back;
        holes = l.holes;
        before = l.before;
        olds = Starts l.stmt Ends;
        behind = l.behind;
        is = old_is n P s;
        context = ap (λ (x : Gap). x.context) (sym q) ∙ ap (λ (x : Entry). x.context) t.entry;
        in_front = ap (λ (x : Gap). x.front) (sym q) ∙ ap (λ (x : Entry). x.front) t.entry;
        in_back = ap (λ (x : Gap). x.next) (sym q) ∙ ap (λ (x : Entry). x.next) t.entry;
        gone = ap (λ (x : Gap). x.gone) (sym q) ∙ ap (part_numbers (at P) (most P)) t.entry ∙ numbers_there n P once s;
        quiet = sym (quiet_there n P once s) ∙ ap (part_quiet (at P) (most P)) (sym t.entry) ∙ gone_quiet P e g w;
        becomes = same ∙ program_edited n made P once s ∙ ap (λ b. s.front ++ with_body s.own (plug l.holes (append l.before (append b l.behind))) ∷ s.back) (alone l.stmt);
      }

module _ (more : Statements) (P : List Procedure) (once : Distinct (program_numbers P)) (n : ℕ) (e : Entry) (k : entry_of (entries_of P) n ≡ Some e) where
  -- After a statement.
  behind_part : GapPart (edit.Insert (place.After n) more) P (record { context = e.context; front = Some e.number; next = e.next; gone = [] })
  behind_part =
      let t = there n P e once k in
      let s = t.place in
      let l = s.place in
      let one : Statements = Starts l.stmt Ends in
      record {
        front = s.front;
        own = s.own;
        back = s.back;
        holes = l.holes;
        before = append l.before one;
        olds = Ends;
        behind = l.behind;
        is = old_is n P s ∙ ap (λ b. s.front ++ with_body s.own (plug l.holes b) ∷ s.back) (sym (append_again l.before one l.behind));
        context = ap (λ (x : Entry). x.context) t.entry;
        in_front = ap (λ (x : Entry). Some x.number) t.entry ∙ sym (last_append l.before one None);
        in_back = ap (λ (x : Entry). x.next) t.entry;
        gone = refl;
        quiet = refl;
        becomes = program_edited n (followed more) P once s ∙ ap (λ b. s.front ++ with_body s.own (plug l.holes b) ∷ s.back) (sym (append_again l.before one (append more l.behind)));
      }

  -- Before a block of a statement.
  module _ (d : Edit) (made : Statement → Statements) (same : edited d P ≡ in_program n made P) (brings : brought d ≡ more) (c : Context) (o : Option ℕ) (t : There n P e) where
    abbrev s : Stands n P
    s = t.place

    block_part : (h : Hole) (x : Statements) → append s.place.before (Starts s.place.stmt s.place.behind) ≡ fill h x → append s.place.before (append (made s.place.stmt) s.place.behind) ≡ fill h (append more x) →
        c ≡ context_in (context_of (context_at (length s.front)) s.place.holes) h → o ≡ first_or x None → GapPart d P (record { context = c; front = None; next = o; gone = [] })
    block_part h x was becomes inner first =
        let l = s.place in
        let gs = l.holes in
        record {
          front = s.front;
          own = s.own;
          back = s.back;
          holes = gs ++ h ∷ [];
          before = Ends;
          olds = Ends;
          behind = x;
          is = old_is n P s ∙ ap (λ b. s.front ++ with_body s.own b ∷ s.back) (ap (plug gs) was ∙ sym (plug_last gs h x));
          context = inner ∙ sym (context_last (context_at (length s.front)) gs h);
          in_front = refl;
          in_back = first;
          gone = refl;
          quiet = refl;
          becomes =
              same ∙ program_edited n made P once s
              ∙ ap (λ b. s.front ++ with_body s.own b ∷ s.back) (ap (plug gs) becomes ∙ sym (plug_last gs h (append more x)))
              ∙ ap (λ y. s.front ++ with_body s.own (plug (gs ++ h ∷ []) (append y x)) ∷ s.back) (sym brings);
        }

fits_there : (w : Needed) (n : ℕ) (P : List Procedure) (e : Entry) → entry_of (entries_of P) n ≡ Some e → statement_refusal w n P ≡ None → fits w e.part ≡ true
fits_there w n P e k z = go (fits w e.part) refl (ap (entry_refusal w) (sym k) ∙ z)
  where
    go : (b : Bool) → fits w e.part ≡ b → cond b None (Some WrongStatement) ≡ None → fits w e.part ≡ true
    go true q h = q
    go false q h = cc

module _ (more : Statements) (P : List Procedure) (once : Distinct (program_numbers P)) (n : ℕ) (e : Entry) (k : entry_of (entries_of P) n ≡ Some e) where
  conditional : (w : Needed) (t : There n P e) → fits w e.part ≡ true → fits w (part_of t.place.place.stmt) ≡ true
  conditional w t f = ap (λ (x : Entry). fits w x.part) (sym t.entry) ∙ f

  then_part : fits needed.If e.part ≡ true → GapPart (edit.Insert (place.ThenStart n) more) P (record { context = inside e.context e.number which.Then; front = None; next = e.inner.first; gone = [] })
  then_part f = let t = there n P e once k in go t t.place.place.stmt refl (conditional needed.If t f)
    where
      go : (t : There n P e) (x : Statement) → t.place.place.stmt ≡ x → fits needed.If (part_of t.place.place.stmt) ≡ true → GapPart (edit.Insert (place.ThenStart n) more) P (record { context = inside e.context e.number which.Then; front = None; next = e.inner.first; gone = [] })
      go t (Simple m a) q f = let no : false ≡ true = ap (λ s. fits needed.If (part_of s)) (sym q) ∙ f in absurd cc
      go t (Break m) q f = let no : false ≡ true = ap (λ s. fits needed.If (part_of s)) (sym q) ∙ f in absurd cc
      go t (Call m x g es) q f = let no : false ≡ true = ap (λ s. fits needed.If (part_of s)) (sym q) ∙ f in absurd cc
      go t (While m c b) q f = let no : false ≡ true = ap (λ s. fits needed.If (part_of s)) (sym q) ∙ f in absurd cc
      go t (If m c b u) q f =
          let l = t.place.place in
          block_part more P once n e k (edit.Insert (place.ThenStart n) more) (then_started more) refl refl (inside e.context e.number which.Then) e.inner.first t
          (Then l.before m c u l.behind) b
          (ap (λ s. append l.before (Starts s l.behind)) q)
          (ap (λ s. append l.before (append (then_started more s) l.behind)) q)
          (ap (λ (x : Entry). inside x.context x.number which.Then) t.entry ∙ ap (λ s. inside (context_of (context_at (length t.place.front)) l.holes) (number_of s) which.Then) q)
          (ap (λ (x : Entry). x.inner.first) t.entry ∙ ap (λ s. (first_ends s).first) q)

  else_part : fits needed.If e.part ≡ true → GapPart (edit.Insert (place.ElseStart n) more) P (record { context = inside e.context e.number which.Else; front = None; next = e.other.first; gone = [] })
  else_part f = let t = there n P e once k in go t t.place.place.stmt refl (conditional needed.If t f)
    where
      go : (t : There n P e) (x : Statement) → t.place.place.stmt ≡ x → fits needed.If (part_of t.place.place.stmt) ≡ true → GapPart (edit.Insert (place.ElseStart n) more) P (record { context = inside e.context e.number which.Else; front = None; next = e.other.first; gone = [] })
      go t (Simple m a) q f = let no : false ≡ true = ap (λ s. fits needed.If (part_of s)) (sym q) ∙ f in absurd cc
      go t (Break m) q f = let no : false ≡ true = ap (λ s. fits needed.If (part_of s)) (sym q) ∙ f in absurd cc
      go t (Call m x g es) q f = let no : false ≡ true = ap (λ s. fits needed.If (part_of s)) (sym q) ∙ f in absurd cc
      go t (While m c b) q f = let no : false ≡ true = ap (λ s. fits needed.If (part_of s)) (sym q) ∙ f in absurd cc
      go t (If m c b u) q f =
          let l = t.place.place in
          block_part more P once n e k (edit.Insert (place.ElseStart n) more) (else_started more) refl refl (inside e.context e.number which.Else) e.other.first t
          (Else l.before m c b l.behind) u
          (ap (λ s. append l.before (Starts s l.behind)) q)
          (ap (λ s. append l.before (append (else_started more s) l.behind)) q)
          (ap (λ (x : Entry). inside x.context x.number which.Else) t.entry ∙ ap (λ s. inside (context_of (context_at (length t.place.front)) l.holes) (number_of s) which.Else) q)
          (ap (λ (x : Entry). x.other.first) t.entry ∙ ap (λ s. (second_ends s).first) q)

  body_part : fits needed.While e.part ≡ true → GapPart (edit.Insert (place.BodyStart n) more) P (record { context = inside_loop e.context e.number; front = None; next = e.inner.first; gone = [] })
  body_part f = let t = there n P e once k in go t t.place.place.stmt refl (conditional needed.While t f)
    where
      go : (t : There n P e) (x : Statement) → t.place.place.stmt ≡ x → fits needed.While (part_of t.place.place.stmt) ≡ true → GapPart (edit.Insert (place.BodyStart n) more) P (record { context = inside_loop e.context e.number; front = None; next = e.inner.first; gone = [] })
      go t (Simple m a) q f = let no : false ≡ true = ap (λ s. fits needed.While (part_of s)) (sym q) ∙ f in absurd cc
      go t (Break m) q f = let no : false ≡ true = ap (λ s. fits needed.While (part_of s)) (sym q) ∙ f in absurd cc
      go t (Call m x g es) q f = let no : false ≡ true = ap (λ s. fits needed.While (part_of s)) (sym q) ∙ f in absurd cc
      go t (If m c b u) q f = let no : false ≡ true = ap (λ s. fits needed.While (part_of s)) (sym q) ∙ f in absurd cc
      go t (While m c b) q f =
          let l = t.place.place in
          block_part more P once n e k (edit.Insert (place.BodyStart n) more) (body_started more) refl refl (inside_loop e.context e.number) e.inner.first t
          (Body l.before m c l.behind) b
          (ap (λ s. append l.before (Starts s l.behind)) q)
          (ap (λ s. append l.before (append (body_started more s) l.behind)) q)
          (ap (λ (x : Entry). inside_loop x.context x.number) t.entry ∙ ap (λ s. inside_loop (context_of (context_at (length t.place.front)) l.holes) (number_of s)) q)
          (ap (λ (x : Entry). x.inner.first) t.entry ∙ ap (λ s. (first_ends s).first) q)

-- Before the body of a procedure.
record Named (x : List ℕ) (P : List Procedure) : Type 0 where
  front : List Procedure
  own : Procedure
  back : List Procedure
  is : P ≡ front ++ own ∷ back
  place : place_named P x ≡ length front
  becomes : (made : Procedure → List Procedure) → at_named x made P ≡ front ++ (made own ++ back)

named : (x : List ℕ) (P : List Procedure) → is_named P x ≡ true → Named x P
named x [] h = absurd cc
named x (p ∷ ps) h = go (bytes_eq p.name x) refl h (named x ps)
  where
    go : (b : Bool) → bytes_eq p.name x ≡ b → (b || is_named ps x) ≡ true → (is_named ps x ≡ true → Named x ps) → Named x (p ∷ ps)
    go true q h f = record {
      front = [];
      own = p;
      back = ps;
      is = refl;
      place = ap (λ b. cond b 0 (suc (place_named ps x))) q;
      becomes = λ made. ap (λ b. cond b (made p ++ ps) (p ∷ at_named x made ps)) q;
    }
    go false q h f =
        let r = f h in
        record {
          front = p ∷ r.front;
          own = r.own;
          back = r.back;
          is = ap (λ (os : List Procedure). p ∷ os) r.is;
          place = ap (λ b. cond b 0 (suc (place_named ps x))) q ∙ ap suc r.place;
          becomes = λ made. ap (λ b. cond b (made p ++ ps) (p ∷ at_named x made ps)) q ∙ ap (λ (os : List Procedure). p ∷ os) (r.becomes made);
        }

module _ (x : List ℕ) (more : Statements) (P : List Procedure) (g : Gap) (there : is_named P x ≡ true) (w : of_place (heads_of P) (named_in P x) ≡ Some g) where
  abbrev r : Named x P
  r = named x P there

  head_there : slice_get (heads_of P) (place_named P x) ≡ Some (head_of r.own)
  head_there = ap (slice_get (heads_of P)) r.place ∙ ap (λ (os : List Procedure). slice_get (heads_of os) (length r.front)) r.is ∙ own_head r.front r.own r.back

  start_is : record { context = context_at (length r.front); front = None; next = first_or r.own.body None; gone = [] } ≡ g
  start_is =
      let y : Gap = record { context = context_at (length r.front); front = None; next = first_or r.own.body None; gone = [] } in
      let q : Some y ≡ Some g =
      ap (λ m. Some (start_gap m (head_of r.own))) (sym r.place)
      ∙ ap (option_map (start_gap (place_named P x))) (sym head_there)
      ∙ ap (λ b. of_place (heads_of P) (cond b (Some (place_named P x)) None)) (sym there)
      ∙ w in
      cc

  start_part : GapPart (edit.Insert (place.ProcStart x) more) P g
  start_part =
      let q = start_is in
      record {
        front = r.front;
        own = r.own;
        back = r.back;
        holes = [];
        before = Ends;
        olds = Ends;
        behind = r.own.body;
        is = r.is;
        context = ap (λ (y : Gap). y.context) (sym q);
        in_front = ap (λ (y : Gap). y.front) (sym q);
        in_back = ap (λ (y : Gap). y.next) (sym q);
        gone = ap (λ (y : Gap). y.gone) (sym q);
        quiet = refl;
        becomes = r.becomes (started more);
      }

some_entry : (gap : Entry → Option Gap) (P : List Procedure) (n : ℕ) (g : Gap) → of_entry gap (entry_of (entries_of P) n) ≡ Some g → (A : Type 0) → ((e : Entry) → entry_of (entries_of P) n ≡ Some e → gap e ≡ Some g → A) → A
some_entry gap P n g w A f = go (entry_of (entries_of P) n) refl w
  where
    go : (o : Option Entry) → entry_of (entries_of P) n ≡ o → of_entry gap o ≡ Some g → A
    go None q w = absurd cc
    go (Some e) q w = f e q w

same_gap : (d : Edit) (P : List Procedure) (x g : Gap) → Some x ≡ Some g → GapPart d P x → GapPart d P g
same_gap d P x g e p = let q : x ≡ g = cc in subst (GapPart d P) q p

-- The place of each edit that has one.
pub gap_part : (d : Edit) (P : List Procedure) (g : Gap) → Distinct (program_numbers P) → site_refusal d P ≡ None → gap_of d P ≡ Some g → GapPart d P g
gap_part (edit.Replace n t) P g once z w = some_entry (gone_gap (at P) (most P)) P n g w (GapPart (edit.Replace n t) P g) (λ e k v. gone_part (edit.Replace n t) n (exchanged t) P once refl (λ s. refl) e k g v)
gap_part (edit.Delete n) P g once z w = some_entry (gone_gap (at P) (most P)) P n g w (GapPart (edit.Delete n) P g) (λ e k v. gone_part (edit.Delete n) n deleted P once refl (λ s. refl) e k g v)
gap_part (edit.Insert (place.After n) more) P g once z w = some_entry behind_gap P n g w (GapPart (edit.Insert (place.After n) more) P g) (λ e k v. same_gap (edit.Insert (place.After n) more) P _ g v (behind_part more P once n e k))
gap_part (edit.Insert (place.ThenStart n) more) P g once z w = some_entry then_gap P n g w (GapPart (edit.Insert (place.ThenStart n) more) P g) (λ e k v. same_gap (edit.Insert (place.ThenStart n) more) P _ g v (then_part more P once n e k (fits_there needed.If n P e k z)))
gap_part (edit.Insert (place.ElseStart n) more) P g once z w = some_entry else_gap P n g w (GapPart (edit.Insert (place.ElseStart n) more) P g) (λ e k v. same_gap (edit.Insert (place.ElseStart n) more) P _ g v (else_part more P once n e k (fits_there needed.If n P e k z)))
gap_part (edit.Insert (place.BodyStart n) more) P g once z w = some_entry body_gap P n g w (GapPart (edit.Insert (place.BodyStart n) more) P g) (λ e k v. same_gap (edit.Insert (place.BodyStart n) more) P _ g v (body_part more P once n e k (fits_there needed.While n P e k z)))
gap_part (edit.Insert (place.ProcStart x) more) P g once z w = start_part x more P g (is_there (is_named P x) refl z) w
  where
    is_there : (b : Bool) → is_named P x ≡ b → cond b None (Some NoProcedure) ≡ None → is_named P x ≡ true
    is_there true q h = q
    is_there false q h = cc
gap_part (edit.Guard n c) P g once z w = absurd cc
gap_part (edit.Declare x d) P g once z w = absurd cc
gap_part (edit.AddProc x p) P g once z w = absurd cc
gap_part (edit.DropProc x) P g once z w = absurd cc
