-- A break that leaves a loop names the loop.
use Rattle.std.proofs.Common.{◌≡◌, ℕ, ◌⊎◌, inl, inr, List, [], ◌∷◌, ◌++◌, Option, Some, None, refl, sym, ap, ◌∙◌, subst}
use Rattle.imp_syntax.specs.Plain.{Statements, Ends, Starts, Procedure}
use Rattle.imp_syntax.specs.Plain as tree
use Rattle.imp_slots.specs.declared.actions.SlotStmt.TheVariants as act
use Rattle.imp_check.specs.Slots.{Resolver}
use Rattle.imp_check.specs.Parts.{first_or, leaving}
use Rattle.imp_check.specs.Programs.{AreNumbered}
use Rattle.imp_check.specs.Entries.{inside, inside_loop, entry_at, block_entries, procedure_entries, entries_from, entries_of, entry_of, resolver_at, context_at}
use Rattle.imp_check.specs.declared.entry.Context.{Context}
use Rattle.imp_check.specs.declared.entry.Entry.{Entry}
use Rattle.imp_check.specs.declared.entry.SlotForm.TheVariants as form
use Rattle.imp_check.specs.declared.entry.Which.TheVariants as which
use Rattle.imp_check.proofs.RebuildLemmas.{In, in_left, in_right}
use Rattle.imp_check.proofs.WalkLemmas.{all_known}
use Rattle.imp_check.proofs.StandLemmas.{either, entry_found}

abbrev pub Has : List ℕ → ℕ → Type 0
Has [] m = ⊥
Has (n ∷ ns) m = (m ≡ n) ⊎ Has ns m

has_either : (ns ms : List ℕ) (m : ℕ) → Has (ns ++ ms) m → Has ns m ⊎ Has ms m
has_either [] ms m h = inr h
has_either (n ∷ ns) ms m (inl e) = inl (inl e)
has_either (n ∷ ns) ms m (inr h) = elim (has_either ns ms m h) [ inl a ↦ inl (inr a) | inr b ↦ inr b ]

-- a break among these, which leaves a loop
pub record Leaves (xs : List Entry) (head : Option ℕ) (m : ℕ) : Type 0 where
  pub entry : Entry
  pub there : In entry xs
  pub number : entry.number ≡ m
  pub break : entry.form ≡ form.Stmt act.Break
  pub loop : entry.context.head ≡ head

leaves_left : (xs ys : List Entry) (head : Option ℕ) (m : ℕ) → Leaves xs head m → Leaves (xs ++ ys) head m
leaves_left xs ys head m l = record { entry = l.entry; there = in_left l.entry xs ys l.there; number = l.number; break = l.break; loop = l.loop }

leaves_right : (xs ys : List Entry) (head : Option ℕ) (m : ℕ) → Leaves ys head m → Leaves (xs ++ ys) head m
leaves_right xs ys head m l = record { entry = l.entry; there = in_right l.entry xs ys l.there; number = l.number; break = l.break; loop = l.loop }

leaves_more : (x : Entry) (xs : List Entry) (head : Option ℕ) (m : ℕ) → Leaves xs head m → Leaves (x ∷ xs) head m
leaves_more x xs head m l = record { entry = l.entry; there = inr l.there; number = l.number; break = l.break; loop = l.loop }

module _ (f : Resolver) where
  -- the breaks of a block leave the loop around it
  leave_block : (b : Statements) (c : Context) (a p : Option ℕ) (m : ℕ) → Has (leaving b) m → Leaves (block_entries f c a p b) c.head m
  leave_block Ends c a p m h = absurd h
  leave_block (Starts (tree.Simple n z) ss) c a p m h = leaves_more (entry_at f c a (first_or ss p) (tree.Simple n z)) (block_entries f c (Some n) p ss) c.head m (leave_block ss c (Some n) p m h)
  leave_block (Starts (tree.Break n) ss) c a p m (inl e) = record { entry = entry_at f c a (first_or ss p) (tree.Break n); there = inl refl; number = sym e; break = refl; loop = refl }
  leave_block (Starts (tree.Break n) ss) c a p m (inr h) = leaves_more (entry_at f c a (first_or ss p) (tree.Break n)) (block_entries f c (Some n) p ss) c.head m (leave_block ss c (Some n) p m h)
  leave_block (Starts (tree.Call n z g es) ss) c a p m h = leaves_more (entry_at f c a (first_or ss p) (tree.Call n z g es)) (block_entries f c (Some n) p ss) c.head m (leave_block ss c (Some n) p m h)
  leave_block (Starts (tree.If n d t u) ss) c a p m h =
      let X = entry_at f c a (first_or ss p) (tree.If n d t u) in
      let T = block_entries f (inside c n which.Then) None None t in
      let E = block_entries f (inside c n which.Else) None None u in
      let R = block_entries f c (Some n) p ss in
      leaves_more X ((T ++ E) ++ R) c.head m
      (elim (has_either (leaving t ++ leaving u) (leaving ss) m h) [
        | inl i ↦ leaves_left (T ++ E) R c.head m (elim (has_either (leaving t) (leaving u) m i) [
          | inl j ↦ leaves_left T E c.head m (leave_block t (inside c n which.Then) None None m j)
          | inr j ↦ leaves_right T E c.head m (leave_block u (inside c n which.Else) None None m j)
        ])
        | inr i ↦ leaves_right (T ++ E) R c.head m (leave_block ss c (Some n) p m i)
      ])
  leave_block (Starts (tree.While n d b) ss) c a p m h =
      let B = block_entries f (inside_loop c n) None None b in
      let R = block_entries f c (Some n) p ss in
      leaves_more (entry_at f c a (first_or ss p) (tree.While n d b)) (B ++ R) c.head m (leaves_right B R c.head m (leave_block ss c (Some n) p m h))

  -- the breaks of each statement of a block leave it
  leave_entry : (b : Statements) (c : Context) (a p : Option ℕ) (x : Entry) (m : ℕ) → In x (block_entries f c a p b) → Has x.breaks m → Leaves (block_entries f c a p b) (Some x.number) m
  leave_entry Ends c a p x m i h = absurd i
  leave_entry (Starts (tree.Simple n z) ss) c a p x m (inl e) h = absurd (subst (λ (y : Entry). Has y.breaks m) e h)
  leave_entry (Starts (tree.Simple n z) ss) c a p x m (inr i) h = leaves_more (entry_at f c a (first_or ss p) (tree.Simple n z)) (block_entries f c (Some n) p ss) (Some x.number) m (leave_entry ss c (Some n) p x m i h)
  leave_entry (Starts (tree.Break n) ss) c a p x m (inl e) h = absurd (subst (λ (y : Entry). Has y.breaks m) e h)
  leave_entry (Starts (tree.Break n) ss) c a p x m (inr i) h = leaves_more (entry_at f c a (first_or ss p) (tree.Break n)) (block_entries f c (Some n) p ss) (Some x.number) m (leave_entry ss c (Some n) p x m i h)
  leave_entry (Starts (tree.Call n z g es) ss) c a p x m (inl e) h = absurd (subst (λ (y : Entry). Has y.breaks m) e h)
  leave_entry (Starts (tree.Call n z g es) ss) c a p x m (inr i) h = leaves_more (entry_at f c a (first_or ss p) (tree.Call n z g es)) (block_entries f c (Some n) p ss) (Some x.number) m (leave_entry ss c (Some n) p x m i h)
  leave_entry (Starts (tree.If n d t u) ss) c a p x m (inl e) h = absurd (subst (λ (y : Entry). Has y.breaks m) e h)
  leave_entry (Starts (tree.If n d t u) ss) c a p x m (inr i) h =
      let X = entry_at f c a (first_or ss p) (tree.If n d t u) in
      let T = block_entries f (inside c n which.Then) None None t in
      let E = block_entries f (inside c n which.Else) None None u in
      let R = block_entries f c (Some n) p ss in
      leaves_more X ((T ++ E) ++ R) (Some x.number) m
      (elim (either x (T ++ E) R i) [
        | inl j ↦ leaves_left (T ++ E) R (Some x.number) m (elim (either x T E j) [
          | inl k ↦ leaves_left T E (Some x.number) m (leave_entry t (inside c n which.Then) None None x m k h)
          | inr k ↦ leaves_right T E (Some x.number) m (leave_entry u (inside c n which.Else) None None x m k h)
        ])
        | inr j ↦ leaves_right (T ++ E) R (Some x.number) m (leave_entry ss c (Some n) p x m j h)
      ])
  leave_entry (Starts (tree.While n d b) ss) c a p x m (inl e) h =
      let X = entry_at f c a (first_or ss p) (tree.While n d b) in
      let B = block_entries f (inside_loop c n) None None b in
      let R = block_entries f c (Some n) p ss in
      let l : Leaves B (Some n) m = leave_block b (inside_loop c n) None None m (subst (λ (y : Entry). Has y.breaks m) e h) in
      subst (λ (k : ℕ). Leaves (X ∷ (B ++ R)) (Some k) m) (sym (ap (λ (y : Entry). y.number) e)) (leaves_more X (B ++ R) (Some n) m (leaves_left B R (Some n) m l))
  leave_entry (Starts (tree.While n d b) ss) c a p x m (inr i) h =
      let X = entry_at f c a (first_or ss p) (tree.While n d b) in
      let B = block_entries f (inside_loop c n) None None b in
      let R = block_entries f c (Some n) p ss in
      leaves_more X (B ++ R) (Some x.number) m
      (elim (either x B R i) [
        | inl j ↦ leaves_left B R (Some x.number) m (leave_entry b (inside_loop c n) None None x m j h)
        | inr j ↦ leaves_right B R (Some x.number) m (leave_entry ss c (Some n) p x m j h)
      ])

leave_from : (es ps : List Procedure) (x : Entry) (m : ℕ) → In x (entries_from es ps) → Has x.breaks m → Leaves (entries_from es ps) (Some x.number) m
leave_from es [] x m i h = absurd i
leave_from es (p ∷ ps) x m i h =
    let P = procedure_entries es p in
    let R = entries_from (es ++ p ∷ []) ps in
    elim (either x P R i) [
      | inl j ↦ leaves_left P R (Some x.number) m (leave_entry (resolver_at es p) p.body (context_at _) None None x m j h)
      | inr j ↦ leaves_right P R (Some x.number) m (leave_from (es ++ p ∷ []) ps x m j h)
    ]

-- What is known of a break that leaves the loop n.
pub record Named (at : ℕ → Option Entry) (n m : ℕ) : Type 0 where
  pub entry : Entry
  pub known : at m ≡ Some entry
  pub break : entry.form ≡ form.Stmt act.Break
  pub loop : entry.context.head ≡ Some n

pub loop_named : (ps : List Procedure) (n m : ℕ) (x : Entry) → AreNumbered ps → entry_of (entries_of ps) n ≡ Some x → Has x.breaks m → Named (entry_of (entries_of ps)) n m
loop_named ps n m x numbered e h =
    let f = entry_found ps n x e in
    let l = leave_from [] ps x m f.0 h in
    record {
      entry = l.entry;
      known = ap (entry_of (entries_of ps)) (sym l.number) ∙ all_known ps numbered l.entry l.there;
      break = l.break;
      loop = l.loop ∙ ap Some f.1;
    }
