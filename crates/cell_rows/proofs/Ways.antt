-- Each chain of a checked program has its way, and each location under it a target.
use Rattle.std.proofs.Common.{◌≡◌, ℕ, suc, zero, ◌+◌, ◌<◌, List, [], ◌∷◌, ◌++◌, length, map, reverse, slice_get, Option, Some, None, Bool, true, false, if◌then◌else◌, refl, sym, ap, ◌∙◌, subst, inl, inr, arith}
use Rattle.std.proofs.lemmas.List.{reverse-reverse, length-reverse}
use Rattle.std.specs.Str.{bytes_eq}
use Rattle.imp_syntax.specs.declared.edit.Location.{Location}
use Rattle.imp_syntax.specs.declared.edit.Location.TheVariants.{Before, After, Head, End}
use Rattle.imp_slots.specs.Plain.{Invoke, Code, Stop, Simple, If, While, Call, Break, Routine, code_numbers}
use Rattle.imp_slots.specs.Fits.{Distinct, IsChecked}
use Rattle.imp_chains.specs.Chains.{calls_to, extended, through, chains_within, chains, ends_in, ending_in, selected, has, holder_from, holder, named_from, named, has_while, is_while}
use Rattle.imp_words.specs.declared.refusal.QueryRefusal.{QueryRefusal}
use Rattle.imp_words.specs.declared.refusal.QueryRefusal.TheVariants.{NoProcedure, NoStatement}
use Rattle.batch_meaning.specs.Answers.{Found, In, Misses, found_or, found_loop, procedure_of}
use Rattle.batch_meaning.specs.Places.{find, if_some, from}
use Rattle.cell_names.specs.declared.frame.Point.{Point}
use Rattle.cell_names.specs.declared.frame.Point.TheVariants.{Entry, Then, Else, Body, Post, Fix}
use Rattle.base_values.proofs.Cases.{by_test}
use Rattle.batch_meaning.proofs.Procedures.{look_get, from_look, from_behind, from_from, from_self}
use Rattle.base_values.proofs.Members.{Member, here, there, in_left, in_right, keys, either, in_map}
use Rattle.batch_meaning.proofs.Places.{found, found_member, find_key}
use Rattle.cell_rows.specs.Names.{CallsBelow, AllFine}
use Rattle.cell_rows.specs.Rows.{last_point}
use Rattle.cell_rows.specs.Flat.{Flat, flat_of, flat}
use Rattle.cell_rows.specs.Targets.{Text, text, deeper, texts, TargetStep, Go, takes, callee_of, is_loop, way_of, way_in, way, Target, to_point, target_in, target, all_targets, targets}
use Rattle.cell_rows.proofs.Lookup.{fine_from}
use Rattle.cell_rows.proofs.Arriving.{keys_texts}
use Rattle.cell_rows.proofs.FlatOnce.{all_fine, flat_once, once_reversed}
use Rattle.cell_rows.proofs.Chained.{AllOnce, all_once, once_from}
use Rattle.std.proofs.lemmas.Option.{same_Some}

-- a call of p in the text
record Calls (p n : ℕ) (xs : List (ℕ × Text)) : Type 0 where
  text : Text
  listed : Member (n, text) xs
  invoke : Invoke
  callee : callee_of text.code ≡ Some (invoke, p)

calls_more : (p n : ℕ) (xs ys : List (ℕ × Text)) → ((x : ℕ × Text) → Member x xs → Member x ys) → Calls p n xs → Calls p n ys
calls_more p n xs ys f c = record { text = c.text; listed = f _ c.listed; invoke = c.invoke; callee = c.callee }

calls_deep : (p n m : ℕ) (xs ys : List (ℕ × Text)) → ((x : ℕ × Text) → Member x xs → Member (deeper m x) ys) → Calls p n xs → Calls p n ys
calls_deep p n m xs ys f c = record { text = text (m ∷ c.text.loops) c.text.front c.text.code; listed = f _ c.listed; invoke = c.invoke; callee = c.callee }

is_called : (p n : ℕ) (c : Code) (q : Point) → Member n (calls_to p c) → Calls p n (texts c q)
is_called p n Stop q m = elim m [ ]
is_called p n (Simple k effect r) q m = calls_more p n _ _ (λ x. there) (is_called p n r (Post k) m)
is_called p n (If k guard t e r) q m =
    elim (either n (calls_to p t) (calls_to p e ++ calls_to p r) m) [
      | inl a ↦ calls_more p n (texts t (Then k)) (texts (If k guard t e r) q) (λ x i. there (in_left _ i)) (is_called p n t (Then k) a)
      | inr b ↦ elim (either n (calls_to p e) (calls_to p r) b) [
        | inl a ↦ calls_more p n (texts e (Else k)) (texts (If k guard t e r) q) (λ x i. there (in_right (texts t (Then k)) (in_left _ i))) (is_called p n e (Else k) a)
        | inr d ↦ calls_more p n (texts r (Post k)) (texts (If k guard t e r) q) (λ x i. there (in_right (texts t (Then k)) (in_right (texts e (Else k)) i))) (is_called p n r (Post k) d)
      ]
    ]
is_called p n (While k guard b r) q m =
    elim (either n (calls_to p b) (calls_to p r) m) [
      | inl a ↦ calls_deep p n k (texts b Body) (texts (While k guard b r) q) (λ x i. there (in_left (texts r (Post k)) (in_map (deeper k) x (texts b Body) i))) (is_called p n b Body a)
      | inr d ↦ calls_more p n (texts r (Post k)) (texts (While k guard b r) q) (λ x i. there (in_right (map (deeper k) (texts b Body)) i)) (is_called p n r (Post k) d)
    ]
is_called p n (Call k call c r) q m =
    (by_test p c (λ t. Member n (if t then k ∷ calls_to p r else calls_to p r) → Calls p n (texts (Call k call c r) q))
    (λ e m. call_here (is_called p n r (Post k)) e m)
    (λ e m. calls_more p n (texts r (Post k)) (texts (Call k call c r) q) (λ x. there) (is_called p n r (Post k) m))) m
  where
    call_here : (Member n (calls_to p r) → Calls p n (texts r (Post k))) → p ≡ c → Member n (k ∷ calls_to p r) → Calls p n (texts (Call k call c r) q)
    call_here f e m = split m refl
      where
        split : {xs : List ℕ} → Member n xs → xs ≡ k ∷ calls_to p r → Calls p n (texts (Call k call c r) q)
        split (here {xs = ys}) i =
            let j : n ≡ k = cc in
            record { text = text [] q (Call k call c r); listed = subst (λ (j : ℕ). Member (j, text [] q (Call k call c r)) (texts (Call k call c r) q)) (sym j) here; invoke = call; callee = ap (λ p. Some (call, p)) (sym e) }
        split (there {xs = ys} l) i = let j : ys ≡ calls_to p r = cc in calls_more p n (texts r (Post k)) (texts (Call k call c r) q) (λ x. there) (f (subst (λ zs. Member n zs) j l))
is_called p n (Break k r) q m = calls_more p n _ _ (λ x. there) (is_called p n r (Post k) m)

-- the parts of an extended chain
record Extends (y : List ℕ) (zs : List (List ℕ)) (ns : List ℕ) : Type 0 where
  site : ℕ
  chain : List ℕ
  is : y ≡ site ∷ chain
  in_sites : Member site ns
  in_chains : Member chain zs

in_map_cons : (n : ℕ) (y : List ℕ) (zs : List (List ℕ)) → Member y (map (λ z. n ∷ z) zs) → (z : List ℕ) × (y ≡ n ∷ z) × Member z zs
in_map_cons n y [] m = elim m [ ]
in_map_cons n y (z ∷ zs) m = split m refl (in_map_cons n y zs)
  where
    split : {xs : List (List ℕ)} → Member y xs → xs ≡ (n ∷ z) ∷ map (λ z. n ∷ z) zs → (Member y (map (λ z. n ∷ z) zs) → (z : List ℕ) × (y ≡ n ∷ z) × Member z zs) → (x : List ℕ) × (y ≡ n ∷ x) × Member x (z ∷ zs)
    split (here {xs = ys}) i f = (z, cc, here)
    split (there {xs = ys} l) i f = let j : ys ≡ map (λ z. n ∷ z) zs = cc in let r = f (subst (λ xs. Member y xs) j l) in (r.0, r.1, there r.2)

extends : (y : List ℕ) (zs : List (List ℕ)) (ns : List ℕ) → Member y (extended zs ns) → Extends y zs ns
extends y zs [] m = elim m [ ]
extends y zs (n ∷ ns) m =
    elim (either y (map (λ z. n ∷ z) zs) (extended zs ns) m) [
      | inl a ↦ let r = in_map_cons n y zs a in record { site = n; chain = r.0; is = r.1; in_sites = here; in_chains = r.2 }
      | inr b ↦ let r = extends y zs ns b in record { site = r.site; chain = r.chain; is = r.is; in_sites = there r.in_sites; in_chains = r.in_chains }
    ]

called_below : (k p n : ℕ) (c : Code) → CallsBelow k c → Member n (calls_to p c) → p < k
called_below k p n Stop h m = elim m [ ]
called_below k p n (Simple j effect r) h m = called_below k p n r h m
called_below k p n (If j guard t e r) h m =
    elim (either n (calls_to p t) (calls_to p e ++ calls_to p r) m) [
      | inl a ↦ called_below k p n t h.0 a
      | inr b ↦ elim (either n (calls_to p e) (calls_to p r) b) [ inl a ↦ called_below k p n e h.1 a | inr d ↦ called_below k p n r h.2 d ]
    ]
called_below k p n (While j guard b r) h m = elim (either n (calls_to p b) (calls_to p r) m) [ inl a ↦ called_below k p n b h.0 a | inr d ↦ called_below k p n r h.1 d ]
called_below k p n (Call j call q r) h m =
    (by_test p q (λ t. Member n (if t then j ∷ calls_to p r else calls_to p r) → p < k)
    (λ e m. let l : q < k = h.0 in omega arith)
    (λ e m. called_below k p n r h.1 m)) m
called_below k p n (Break j r) h m = called_below k p n r h m

whole : (ps : List Routine) (p : ℕ) → suc p ≡ length ps → from ps p ≡ ps
whole [] p e = absurd (omega arith)
whole (b ∷ ps) p e = let k : p ≡ length ps = omega arith in ap (from (b ∷ ps)) k ∙ from_self b ps

-- the first procedure that has a statement, or a name
record At (test : Routine → Bool) (k p : ℕ) (rs : List Routine) : Type 0 where
  place : ℕ
  is : p ≡ k + place
  routine : Routine
  stands : slice_get rs place ≡ Some routine
  passes : test routine ≡ true

later : (test : Routine → Bool) (k p : ℕ) (r : Routine) (rs : List Routine) → At test (suc k) p rs → At test k p (r ∷ rs)
later test k p r rs a = record { place = suc a.place; is = a.is ∙ omega arith; routine = a.routine; stands = a.stands; passes = a.passes }

held_from : (n k p : ℕ) (rs : List Routine) → holder_from n k rs ≡ Some p → At (λ r. has n (code_numbers r.code)) k p rs
held_from n k p [] e = absurd cc
held_from n k p (r ∷ rs) e = go (has n (code_numbers r.code)) refl e (held_from n (suc k) p rs)
  where
    go : (t : Bool) → has n (code_numbers r.code) ≡ t → (if t then Some k else holder_from n (suc k) rs) ≡ Some p → (holder_from n (suc k) rs ≡ Some p → At (λ r. has n (code_numbers r.code)) (suc k) p rs) → At (λ r. has n (code_numbers r.code)) k p (r ∷ rs)
    go true i e f = let j : k ≡ p = same_Some _ _ e in record { place = 0; is = omega arith; routine = r; stands = refl; passes = i }
    go false i e f = later (λ r. has n (code_numbers r.code)) k p r rs (f e)

called_from : (x : List ℕ) (k p : ℕ) (rs : List Routine) → named_from x k rs ≡ Some p → At (λ r. bytes_eq x r.name) k p rs
called_from x k p [] e = absurd cc
called_from x k p (r ∷ rs) e = go (bytes_eq x r.name) refl e (called_from x (suc k) p rs)
  where
    go : (t : Bool) → bytes_eq x r.name ≡ t → (if t then Some k else named_from x (suc k) rs) ≡ Some p → (named_from x (suc k) rs ≡ Some p → At (λ r. bytes_eq x r.name) (suc k) p rs) → At (λ r. bytes_eq x r.name) k p (r ∷ rs)
    go true i e f = let j : k ≡ p = same_Some _ _ e in record { place = 0; is = omega arith; routine = r; stands = refl; passes = i }
    go false i e f = later (λ r. bytes_eq x r.name) k p r rs (f e)

-- a loop in the text
record Loop (n : ℕ) (xs : List (ℕ × Text)) : Type 0 where
  text : Text
  listed : Member (n, text) xs
  loops : is_loop text.code ≡ true

loop_more : (n : ℕ) (xs ys : List (ℕ × Text)) → ((x : ℕ × Text) → Member x xs → Member x ys) → Loop n xs → Loop n ys
loop_more n xs ys f l = record { text = l.text; listed = f _ l.listed; loops = l.loops }

loop_deep : (n m : ℕ) (xs ys : List (ℕ × Text)) → ((x : ℕ × Text) → Member x xs → Member (deeper m x) ys) → Loop n xs → Loop n ys
loop_deep n m xs ys f l = record { text = text (m ∷ l.text.loops) l.text.front l.text.code; listed = f _ l.listed; loops = l.loops }

is_looped : (n : ℕ) (c : Code) (q : Point) → has_while n c ≡ true → Loop n (texts c q)
is_looped n Stop q e = absurd cc
is_looped n (Simple k effect r) q e = loop_more n (texts r (Post k)) (texts (Simple k effect r) q) (λ x. there) (is_looped n r (Post k) e)
is_looped n (If k guard t f r) q e = go (is_looped n t (Then k)) (is_looped n f (Else k)) (is_looped n r (Post k)) (has_while n t) refl (has_while n f) refl e
  where
    go : (has_while n t ≡ true → Loop n (texts t (Then k))) → (has_while n f ≡ true → Loop n (texts f (Else k))) → (has_while n r ≡ true → Loop n (texts r (Post k))) →
        (a : Bool) → has_while n t ≡ a → (b : Bool) → has_while n f ≡ b → (if a then true else if b then true else has_while n r) ≡ true → Loop n (texts (If k guard t f r) q)
    go u v w true i b j e = loop_more n (texts t (Then k)) (texts (If k guard t f r) q) (λ x m. there (in_left _ m)) (u i)
    go u v w false i true j e = loop_more n (texts f (Else k)) (texts (If k guard t f r) q) (λ x m. there (in_right (texts t (Then k)) (in_left _ m))) (v j)
    go u v w false i false j e = loop_more n (texts r (Post k)) (texts (If k guard t f r) q) (λ x m. there (in_right (texts t (Then k)) (in_right (texts f (Else k)) m))) (w e)
is_looped n (While k guard b r) q e =
    (by_test n k (λ c. (if c then true else if has_while n b then true else has_while n r) ≡ true → Loop n (texts (While k guard b r) q))
    (λ i e. record { text = text [] q (While k guard b r); listed = subst (λ (j : ℕ). Member (j, text [] q (While k guard b r)) (texts (While k guard b r) q)) (sym i) here; loops = refl })
    (λ i e. go (is_looped n b Body) (is_looped n r (Post k)) (has_while n b) refl e)) e
  where
    go : (has_while n b ≡ true → Loop n (texts b Body)) → (has_while n r ≡ true → Loop n (texts r (Post k))) → (a : Bool) → has_while n b ≡ a → (if a then true else has_while n r) ≡ true → Loop n (texts (While k guard b r) q)
    go u v true i e = loop_deep n k (texts b Body) (texts (While k guard b r) q) (λ x m. there (in_left (texts r (Post k)) (in_map (deeper k) x (texts b Body) m))) (u i)
    go u v false i e = loop_more n (texts r (Post k)) (texts (While k guard b r) q) (λ x m. there (in_right (map (deeper k) (texts b Body)) m)) (v e)
is_looped n (Call k call c r) q e = loop_more n (texts r (Post k)) (texts (Call k call c r) q) (λ x. there) (is_looped n r (Post k) e)
is_looped n (Break k r) q e = loop_more n (texts r (Post k)) (texts (Break k r) q) (λ x. there) (is_looped n r (Post k) e)

-- the procedure of a loop
looped_in : (n : ℕ) (rs : List Routine) → is_while n rs ≡ true → (j : ℕ) × (r : Routine) × (slice_get rs j ≡ Some r) × (has_while n r.code ≡ true)
looped_in n [] e = absurd cc
looped_in n (r ∷ rs) e = go (has_while n r.code) refl e (looped_in n rs)
  where
    go : (t : Bool) → has_while n r.code ≡ t → (if t then true else is_while n rs) ≡ true → (is_while n rs ≡ true → (j : ℕ) × (q : Routine) × (slice_get rs j ≡ Some q) × (has_while n q.code ≡ true)) → (j : ℕ) × (q : Routine) × (slice_get (r ∷ rs) j ≡ Some q) × (has_while n q.code ≡ true)
    go true i e f = (0, r, refl, i)
    go false i e f = let x = f e in (suc x.0, x.1, x.2, x.3)

pub flat_behind : (ps : List Routine) (q : ℕ) (x : ℕ × Flat) → Member x (flat (from ps q)) → Member x (flat ps)
flat_behind [] q x m = m
flat_behind (b ∷ ps) q x m =
    (by_test q (length ps) (λ c. Member x (flat (if c then b ∷ ps else from ps q)) → Member x (flat (b ∷ ps)))
    (λ e m. m)
    (λ e m. in_right (map (flat_of b ps) (texts b.code Entry)) (flat_behind ps q x m))) m

found_some : (r : QueryRefusal) (o : Option ℕ) (p : ℕ) → found_or r o ≡ In p → o ≡ Some p
found_some r None p e = absurd cc
found_some r (Some q) p e = let i : q ≡ p = cc in ap Some i

found_true : (b : Bool) (f : Found) (p : ℕ) → found_loop b f ≡ In p → (b ≡ true) × (f ≡ In p)
found_true b (Misses r) p e = absurd cc
found_true true (In q) p e = (refl, e)
found_true false (In q) p e = absurd cc

module _ (program : List Routine) (checked : IsChecked program) where
  abbrev back : List Routine
  back = reverse program

  stands : (p : ℕ) (r : Routine) → slice_get program p ≡ Some r → (earlier : List Routine) × (from back p ≡ r ∷ earlier)
  stands p r e = from_look back p r (look_get back p ∙ ap (λ xs. slice_get xs p) (reverse-reverse program) ∙ e)

  -- the call that a chain ends in
  record LastCall (of : ℕ → List (List ℕ)) (p : ℕ) (y : List ℕ) : Type 0 where
    place : ℕ
    routine : Routine
    is : slice_get program place ≡ Some routine
    extension : Extends y (of place) (calls_to p routine.code)

  last_call : (of : ℕ → List (List ℕ)) (p : ℕ) (y : List ℕ) (k : ℕ) (rs : List Routine) → ((j : ℕ) (r : Routine) → slice_get rs j ≡ Some r → slice_get program (k + j) ≡ Some r) → Member y (through of k rs p) → LastCall of p y
  last_call of p y k [] h m = elim m [ ]
  last_call of p y k (r ∷ rs) h m =
      elim (either y (extended (of k) (calls_to p r.code)) (through of (suc k) rs p) m) [
        | inl a ↦ (let z : k + 0 ≡ k = omega arith in record { place = k; routine = r; is = subst (λ n. slice_get program n ≡ Some r) z (h 0 r refl); extension = extends y (of k) (calls_to p r.code) a })
        | inr b ↦ last_call of p y (suc k) rs (λ j r e. let z : k + suc j ≡ suc k + j = omega arith in subst (λ n. slice_get program n ≡ Some r) z (h (suc j) r e)) b
      ]

  pub record HasWay (z : List ℕ) (p : ℕ) : Type 0 where
    steps : List TargetStep
    is : way back z ≡ Some (way_of steps (from back p))

  go_on : (p n : ℕ) (z : List ℕ) (j : ℕ) (r : Routine) → slice_get program j ≡ Some r → Member n (calls_to p r.code) → HasWay z j → HasWay (n ∷ z) p
  go_on p n z j r e m i =
      let s = stands j r e in
      let earlier : List Routine = s.0 in
      let f : AllFine (r ∷ earlier) = subst AllFine s.1 (fine_from back j (all_fine program checked)) in
      let o : AllOnce (r ∷ earlier) = subst AllOnce s.1 (once_from back j (all_once back (once_reversed program checked.numbers_once))) in
      let k = is_called p n r.code Entry m in
      let t : find n (texts r.code Entry) ≡ Some k.text = found (n, k.text) (texts r.code Entry) (subst Distinct (sym (keys_texts r.code Entry)) o.0) k.listed in
      let l : p < length earlier = called_below (length earlier) p n r.code f.0.calls m in
      let a : p < length (from back j) = rw s.1 (omega arith) in
      let same : from back p ≡ from earlier p = from_from back j p a ∙ ap (λ ps. from ps p) s.1 ∙ from_behind r earlier p l in
      let ss = i.steps ++ (takes k.text.loops ++ Go n ∷ []) in
      record {
        steps = ss;
        is = ap (λ o. if_some o (λ x. way_in n x.steps x.procs)) i.is
            ∙ ap (λ ps. way_in n i.steps ps) s.1
            ∙ ap (λ o. if_some o (λ t. if_some (callee_of t.code) (λ q. Some (way_of (i.steps ++ (takes t.loops ++ Go n ∷ [])) (from earlier q.1))))) t
            ∙ ap (λ o. if_some o (λ q. Some (way_of ss (from earlier q.1)))) k.callee
            ∙ ap (λ ps. Some (way_of ss ps)) (sym same);
      }

  has_way : (k p : ℕ) (z : List ℕ) → Member z (chains_within k program p) → HasWay z p
  has_way zero p z m = elim m [ ]
  has_way (suc k) p z m =
      (by_test (suc p) (length program) (λ t. Member z (if t then [] ∷ [] else through (chains_within k program) 0 program p) → HasWay z p)
      (λ e m. only e m)
      (λ e m.
      let c = last_call (chains_within k program) p z 0 program (λ j r e. let i : 0 + j ≡ j = omega arith in subst (λ n. slice_get program n ≡ Some r) (sym i) e) m in
      let x = c.extension in
      subst (λ z. HasWay z p) (sym x.is) (go_on p x.site x.chain c.place c.routine c.is x.in_sites (has_way k c.place x.chain x.in_chains)))) m
    where
      only : suc p ≡ length program → Member z ([] ∷ []) → HasWay z p
      only e m = split m refl
        where
          split : {xs : List (List ℕ)} → Member z xs → xs ≡ [] ∷ [] → HasWay z p
          split (here {xs = ys}) i = let j : z ≡ [] = cc in record { steps = []; is = ap (way back) j ∙ ap (λ ps. Some (way_of [] ps)) (sym (whole back p (e ∙ sym (length-reverse program)))) }
          split (there {xs = ys} l) i = let j : ys ≡ [] = cc in elim (subst (λ xs. Member z xs) j l) [ ]

  -- a statement of procedure p
  record Stated (n p : ℕ) : Type 0 where
    routine : Routine
    earlier : List Routine
    text : Text
    is : from back p ≡ routine ∷ earlier
    found_text : find n (texts routine.code Entry) ≡ Some text

  stated : (n p : ℕ) → holder n program ≡ Some p → Stated n p
  stated n p e =
      let h = held_from n 0 p program e in
      let i : p ≡ h.place = h.is ∙ omega arith in
      let s = stands p h.routine (ap (slice_get program) i ∙ h.stands) in
      let k : has n (keys (texts h.routine.code Entry)) ≡ true = ap (has n) (keys_texts h.routine.code Entry) ∙ h.passes in
      let t = find_key n (texts h.routine.code Entry) k in
      record { routine = h.routine; earlier = s.0; text = t.0; is = s.1; found_text = t.1 }

  in_table : (p : ℕ) (r : Routine) (earlier : List Routine) (n : ℕ) (t : Text) → from back p ≡ r ∷ earlier → Member (n, t) (texts r.code Entry) → find n (flat back) ≡ Some (record { routine = r; earlier = earlier; text = t })
  in_table p r earlier n t e m =
      found (n, record { routine = r; earlier = earlier; text = t }) (flat back) (flat_once program checked)
      (flat_behind back p _ (subst (λ ps. Member (n, record { routine = r; earlier = earlier; text = t }) (flat ps)) (sym e) (in_left (flat earlier) (in_map (flat_of r earlier) (n, t) (texts r.code Entry) m))))

  -- a while is a loop in its procedure's text
  loop_there : (n p : ℕ) (s : Stated n p) → is_while n program ≡ true → is_loop s.text.code ≡ true
  loop_there n p s e =
      let w = looped_in n program e in
      let k = stands w.0 w.1 w.2 in
      let l = is_looped n w.1.code Entry w.3 in
      let a = in_table p s.routine s.earlier n s.text s.is (found_member n s.text (texts s.routine.code Entry) s.found_text) in
      let b = in_table w.0 w.1 k.0 n l.text k.1 l.listed in
      let same : s.text ≡ l.text = ap (λ (f : Flat). f.text) (same_Some _ _ (sym a ∙ b)) in
      ap (λ (t : Text). is_loop t.code) same ∙ l.loops

  target_some : (l : Location) (p : ℕ) (z : List ℕ) → procedure_of program l ≡ In p → HasWay z p → (t : Target) × (target program l z ≡ Some t)
  target_some (Before n) p z e i =
      let x = stated n p (found_some NoStatement (holder n program) p e) in
      (to_point (i.steps ++ takes x.text.loops) x.text.front, ap (λ o. if_some o (λ x. target_in (Before n) x.steps x.procs)) i.is ∙ ap (λ ps. target_in (Before n) i.steps ps) x.is ∙ ap (λ o. if_some o (λ t. Some (to_point (i.steps ++ takes t.loops) t.front))) x.found_text)
  target_some (After n) p z e i =
      let x = stated n p (found_some NoStatement (holder n program) p e) in
      (to_point (i.steps ++ takes x.text.loops) (Post n), ap (λ o. if_some o (λ x. target_in (After n) x.steps x.procs)) i.is ∙ ap (λ ps. target_in (After n) i.steps ps) x.is ∙ ap (λ o. if_some o (λ t. Some (to_point (i.steps ++ takes t.loops) (Post n)))) x.found_text)
  target_some (Head n) p z e i =
      let h = found_true (is_while n program) (found_or NoStatement (holder n program)) p e in
      let x = stated n p (found_some NoStatement (holder n program) p h.1) in (
        to_point (i.steps ++ takes x.text.loops) (Fix n),
        ap (λ o. if_some o (λ x. target_in (Head n) x.steps x.procs)) i.is ∙ ap (λ ps. target_in (Head n) i.steps ps) x.is
            ∙ ap (λ o. if_some o (λ t. if is_loop t.code then Some (to_point (i.steps ++ takes t.loops) (Fix n)) else None)) x.found_text
            ∙ ap (λ (c : Bool). if c then Some (to_point (i.steps ++ takes x.text.loops) (Fix n)) else None) (loop_there n p x h.0),
      )
  target_some (End x) p z e i =
      let h = called_from x 0 p program (found_some NoProcedure (named x program) p e) in
      let k : p ≡ h.place = h.is ∙ omega arith in
      let s = stands p h.routine (ap (slice_get program) k ∙ h.stands) in (
        to_point i.steps (last_point h.routine.code Entry),
        ap (λ o. if_some o (λ y. target_in (End x) y.steps y.procs)) i.is ∙ ap (λ ps. target_in (End x) i.steps ps) s.1
            ∙ ap (λ (c : Bool). if c then Some (to_point i.steps (last_point h.routine.code Entry)) else None) h.passes,
      )

  all_some : (l : Location) (p : ℕ) (zs : List (List ℕ)) → procedure_of program l ≡ In p → ((z : List ℕ) → Member z zs → HasWay z p) → (ts : List Target) × (all_targets (target program l) zs ≡ Some ts)
  all_some l p [] e h = ([], refl)
  all_some l p (z ∷ zs) e h =
      let t = target_some l p z e (h z here) in
      let r = all_some l p zs e (λ x m. h x (there m)) in
      (t.0 ∷ r.0, ap (λ o. if_some o (λ t. if_some (all_targets (target program l) zs) (λ ts. Some (t ∷ ts)))) t.1 ∙ ap (λ o. if_some o (λ ts. Some (t.0 ∷ ts))) r.1)

  selected_in : (s z : List ℕ) (zs : List (List ℕ)) → Member z (ending_in s zs) → Member z zs
  selected_in s z [] m = m
  selected_in s z (y ∷ ys) m = go (ends_in s y) (selected_in s z ys) m
    where
      split : {xs : List (List ℕ)} → (Member z (ending_in s ys) → Member z ys) → Member z xs → xs ≡ y ∷ ending_in s ys → Member z (y ∷ ys)
      split f (here {xs = us}) i = let j : z ≡ y = cc in subst (λ z. Member z (y ∷ ys)) (sym j) here
      split f (there {xs = us} l) i = let j : us ≡ ending_in s ys = cc in there (f (subst (λ xs. Member z xs) j l))

      go : (c : Bool) → (Member z (ending_in s ys) → Member z ys) → Member z (if c then y ∷ ending_in s ys else ending_in s ys) → Member z (y ∷ ys)
      go true f m = split f m refl
      go false f m = there (f m)

  -- A location of a checked program has its targets, one for each selected chain.
  pub targets_some : (l : Location) (p : ℕ) (string : List ℕ) → procedure_of program l ≡ In p → (ts : List Target) × (targets program p l string ≡ Some ts)
  targets_some l p string e = all_some l p (selected program p string) e (λ z m. has_way (length program) p z (selected_in (reverse string) z (chains program p) m))
