-- The batch interpreter's value at a location under a chain is the value of the target's cells.
use Rattle.std.proofs.Common.{◌≡◌, ℕ, suc, List, [], ◌∷◌, ◌++◌, length, map, Option, Some, None, Bool, true, false, if◌then◌else◌, ◌==◌, refl, sym, ap, ◌∙◌, subst, ◌⊎◌, inl, inr, append_assoc, append-nil}
use Rattle.imp_slots.specs.Plain.{Invoke, Code, Stop, Simple, If, While, Call, Break, Routine, code_numbers}
use Rattle.imp_slots.specs.Fits.{Distinct, routine_numbers}
use Rattle.domain_laws.specs.Operations.{Operations}
use Rattle.imp_chains.specs.Thresholds.{thresholds}
use Rattle.batch_meaning.specs.Values.{Value, State, Over, lift}
use Rattle.batch_meaning.specs.Batch.{LoopOptions, Fixed, batch, calls_of}
use Rattle.batch_meaning.specs.Places.{Spot, spots, find, if_some, from, main_layout, spots_in, value_in, entered, entry, head_value as head_of_spot}
use Rattle.cell_names.specs.declared.frame.NameFrame.{NameFrame}
use Rattle.cell_names.specs.declared.frame.NameFrame.TheVariants.{InCall}
use Rattle.cell_names.specs.declared.frame.Point.{Point}
use Rattle.cell_names.specs.declared.frame.Point.TheVariants.{Entry, Then, Else, Body, Post, Fix}
use Rattle.cell_names.specs.Paths.{CellName}
use Rattle.base_values.proofs.Cases.{by_test, given_test}
use Rattle.base_values.proofs.Members.{Member, here, there, Each, each_more, each_both, none_there, keys}
use Rattle.batch_meaning.proofs.Places.{keys_numbers, found, found_member}
use Rattle.cell_rows.specs.Names.{Scope, scope_of, name, Mark, mark, Algebra, PathBlock, number, behind_it, last, AllFine, start_of, in_call, post_mark}
use Rattle.cell_rows.specs.Rows.{last_point}
use Rattle.cell_rows.specs.Cells.{Cell, plain, values, value_of_name, value_of_mark}
use Rattle.cell_rows.specs.Targets.{Text, text, deeper, texts, TargetStep, Go, takes, Target, to_point, Way, way_of, way_in, way, callee_of, is_loop, target_in, value_in_path, value_of_target, demanded_in}
use Rattle.cell_rows.proofs.Unique.{All}
use Rattle.cell_rows.proofs.Lookup.{then_some}
use Rattle.imp_syntax.specs.declared.edit.Location.{Location}
use Rattle.imp_syntax.specs.declared.edit.Location.TheVariants.{Before, After, Head, End}
use Rattle.std.specs.Str.{bytes_eq}
use Rattle.cell_rows.proofs.Linked.{batch_over}
use Rattle.cell_rows.proofs.BatchTie.{last_value}
use Rattle.imp_slots.proofs.Distinct.{left_once, right_once}
use Rattle.cell_rows.proofs.Tied.{at, to, Led, led_to, front_found, first_end, fix_found}
use Rattle.cell_rows.proofs.Arriving.{keys_texts, spot_of, AllOver, Fits, shown, over_spots, Reaches, Stops, seen, Has}
use Rattle.std.proofs.lemmas.Option.{same_Some}

abbrev pub AllOnce : List Routine → Type 0
AllOnce [] = Unit {0}
AllOnce (c ∷ earlier) = Distinct (code_numbers c.code) × AllOnce earlier

pub once_from : (ps : List Routine) (q : ℕ) → AllOnce ps → AllOnce (from ps q)
once_from [] q h = tt
once_from (b ∷ ps) q h = by_test q (length ps) (λ c. AllOnce (if c then b ∷ ps else from ps q)) (λ e. h) (λ e. once_from ps q h.1)

pub all_once : (ps : List Routine) → Distinct (routine_numbers ps) → AllOnce ps
all_once [] h = tt
all_once (c ∷ earlier) h = (left_once (code_numbers c.code) (routine_numbers earlier) h, all_once earlier (right_once (code_numbers c.code) (routine_numbers earlier) h))

abbrev Numbered : ℕ × Text → Type 0
Numbered x = x.0 ≡ number x.1.code

numbered_deeper : (n : ℕ) (xs : List (ℕ × Text)) → Each Numbered xs → Each Numbered (map (deeper n) xs)
numbered_deeper n [] e = none_there Numbered
numbered_deeper n (x ∷ xs) e = each_more Numbered (deeper n x) (map (deeper n) xs) (e.at x here) (numbered_deeper n xs (record { at = λ y m. e.at y (there m) }))

numbered : (c : Code) (p : Point) → Each Numbered (texts c p)
numbered Stop p = none_there Numbered
numbered (Simple n effect r) p = each_more Numbered (n, text [] p (Simple n effect r)) (texts r (Post n)) refl (numbered r _)
numbered (If n guard t e r) p = each_more Numbered (n, text [] p (If n guard t e r)) _ refl (each_both Numbered (texts t (Then n)) _ (numbered t _) (each_both Numbered (texts e (Else n)) (texts r (Post n)) (numbered e _) (numbered r _)))
numbered (While n guard b r) p = each_more Numbered (n, text [] p (While n guard b r)) _ refl (each_both Numbered (map (deeper n) (texts b Body)) (texts r (Post n)) (numbered_deeper n (texts b Body) (numbered b _)) (numbered r _))
numbered (Call n call q r) p = each_more Numbered (n, text [] p (Call n call q r)) (texts r (Post n)) refl (numbered r _)
numbered (Break n r) p = each_more Numbered (n, text [] p (Break n r)) (texts r (Post n)) refl (numbered r _)

module _ {S : Type 0} (dom : Operations S) (engine : LoopOptions) (program : List Routine) (all : AllFine program) (once : AllOnce program) where
  abbrev A : Algebra (Cell S)
  A = values dom engine (main_layout program)

  abbrev M : Type 0
  M = Mark (Cell S)

  abbrev P : Type 0
  P = PathBlock engine A

  abbrev f : CellName → Cell S
  f = value_of_name dom engine program

  abbrev goto : List TargetStep → Point → List NameFrame → Value S
  goto = value_in_path f

  abbrev Need : List TargetStep → Point → List NameFrame → Type 0
  Need ss p w = All (Has dom engine program all) (demanded_in f ss p w)

  abbrev Sc : Routine → List Routine → Scope
  Sc = scope_of engine A

  abbrev spots_by : Scope → List ℕ → Code → Value S → List (ℕ × Spot S)
  spots_by sc z c a = spots dom engine sc.thresholds z (calls_of dom engine sc.earlier z) c a

  abbrev ended_by : Scope → List ℕ → Code → Value S → Value S
  ended_by sc z c a = (batch dom engine sc.thresholds z (calls_of dom engine sc.earlier z) c a).value

  abbrev all_spots : List Routine → List ℕ → Value S → List (ℕ × Spot S)
  all_spots = spots_in dom engine

  -- a block is the body of the first of these
  abbrev Placed : List Routine → P → Type 0
  Placed [] b = ⊥
  Placed (c ∷ e) b = (b.scope ≡ Sc c e) × (b.code ≡ c.code)

  -- Where a target's steps from main come to.
  record Arrives (ss : List TargetStep) (procs : List Routine) (z : List ℕ) (a : Value S) : Type 0 where
    path : List NameFrame
    place : P
    leads : to dom engine program all path ≡ Some place
    placed : Placed procs place
    sites_are : z ≡ place.sites
    value_is : a ≡ place.first.value.value
    point : place.first.point ≡ Entry
    goes : (rest : List TargetStep) (p : Point) → goto (ss ++ rest) p [] ≡ goto rest p path
    needs : (rest : List TargetStep) (p : Point) → Need rest p path → Need (ss ++ rest) p []

  record Halts (ss : List TargetStep) (a : Value S) : Type 0 where
    loop : ℕ
    chain : List ℕ
    over : a ≡ Over loop chain
    stops : (rest : List TargetStep) (p : Point) → goto (ss ++ rest) p [] ≡ Over loop chain
    needs : (rest : List TargetStep) (p : Point) → Need (ss ++ rest) p []

  data Comes (ss : List TargetStep) (procs : List Routine) (z : List ℕ) (a : Value S) : Type 0 where
    arrives : Arrives ss procs z a → Comes ss procs z a
    halts : Halts ss a → Comes ss procs z a
    nowhere : procs ≡ [] → Comes ss procs z a

  record Came (procs : List Routine) (z : List ℕ) (a : Value S) : Type 0 where
    steps : List TargetStep
    way_is : way program z ≡ Some (way_of steps procs)
    came : Comes steps procs z a
    once_too : AllOnce procs

  -- A statement of the procedure in which a chain ends.
  record Here (ss : List TargetStep) (t : Text) (s : Spot S) (scope : Scope) (z : List ℕ) : Type 0 where
    path : List NameFrame
    place : P
    front : M
    led : Led dom engine program all path place front t.code
    same_scope : place.scope ≡ scope
    same_sites : place.sites ≡ z
    point : t.front ≡ front.point
    spot_is : s ≡ spot_of dom engine place.scope place.sites t.code front.value.value
    goes : (rest : List TargetStep) (p : Point) → goto (ss ++ (takes t.loops ++ rest)) p [] ≡ goto rest p path
    needs : (rest : List TargetStep) (p : Point) → Need rest p path → Need (ss ++ (takes t.loops ++ rest)) p []

  record Gone (ss : List TargetStep) (t : Text) (s : Spot S) : Type 0 where
    loop : ℕ
    chain : List ℕ
    over : AllOver dom engine loop chain s
    stops : (rest : List TargetStep) (p : Point) → goto (ss ++ (takes t.loops ++ rest)) p [] ≡ Over loop chain
    needs : (rest : List TargetStep) (p : Point) → Need (ss ++ (takes t.loops ++ rest)) p []

  record Located (ss : List TargetStep) (body : Code) (scope : Scope) (z : List ℕ) (n : ℕ) (s : Spot S) : Type 0 where
    text : Text
    found_text : find n (texts body Entry) ≡ Some text
    fits : Fits dom engine text s
    named : n ≡ number text.code
    outcome : Here ss text s scope z ⊎ Gone ss text s

  find_text : (body : Code) (n : ℕ) (t : Text) → Distinct (code_numbers body) → Member (n, t) (texts body Entry) → find n (texts body Entry) ≡ Some t
  find_text body n t d m = found (n, t) (texts body Entry) (subst Distinct (sym (keys_texts body Entry)) d) m

  located : (ss : List TargetStep) (c : Routine) (earlier : List Routine) (z : List ℕ) (a : Value S) (n : ℕ) (s : Spot S) → Distinct (code_numbers c.code) → Comes ss (c ∷ earlier) z a → find n (all_spots (c ∷ earlier) z a) ≡ Some s → Located ss c.code (Sc c earlier) z n s
  located ss c earlier z a n s d (arrives r) e =
      let b = r.place in
      let same : all_spots (c ∷ earlier) z a ≡ spots_by b.scope b.sites b.code b.first.value.value =
      ap (λ (sc : Scope). spots_by sc z c.code a) (sym r.placed.0) ∙ ap (λ z. spots_by b.scope z c.code a) r.sites_are ∙ ap (λ (d : Code). spots_by b.scope b.sites d a) (sym r.placed.1) ∙ ap (spots_by b.scope b.sites b.code) r.value_is in
      let m : Member (n, s) (spots_by b.scope b.sites b.code b.first.value.value) = subst (λ xs. Member (n, s) xs) same (found_member n s (all_spots (c ∷ earlier) z a) e) in
      let q = (seen dom engine program all b.code r.path b b.first r.leads (λ p m. m)).at (n, s) m in
      let l : Member (n, q.text) (texts c.code Entry) = subst (λ (d : Code). Member (n, q.text) (texts d Entry)) r.placed.1 (subst (λ (p : Point). Member (n, q.text) (texts b.code p)) r.point q.listed) in
      record {
        text = q.text;
        found_text = find_text c.code n q.text d l;
        fits = q.fits;
        named = (numbered c.code Entry).at (n, q.text) l;
        outcome = go q.text q.outcome;
      }
    where
      go : (t : Text) → Reaches dom engine program all r.path r.place t s ⊎ Stops dom engine program all r.path t s → Here ss t s (Sc c earlier) z ⊎ Gone ss t s
      go t (inl o) = inl (record {
        path = o.path;
        place = o.place;
        front = o.front;
        led = o.led;
        same_scope = o.same_earlier ∙ r.placed.0;
        same_sites = o.same_sites ∙ sym r.sites_are;
        point = o.point;
        spot_is = o.spot_is;
        goes = λ rest p. r.goes (takes t.loops ++ rest) p ∙ o.goes rest p;
        needs = λ rest p k. r.needs (takes t.loops ++ rest) p (o.needs rest p k);
      })
      go t (inr o) = inr (record { loop = o.loop; chain = o.chain; over = o.over; stops = λ rest p. r.goes (takes t.loops ++ rest) p ∙ o.stops rest p; needs = λ rest p. r.needs (takes t.loops ++ rest) p (o.needs rest p) })
  located ss c earlier z a n s d (halts r) e =
      let m = found_member n s (all_spots (c ∷ earlier) z a) e in
      let q = (shown dom engine (thresholds engine.widening c) z (calls_of dom engine earlier z) c.code Entry a).at (n, s) m in
      let o = (over_spots dom engine (thresholds engine.widening c) z (calls_of dom engine earlier z) r.loop r.chain c.code a r.over).at (n, s) m in
      record {
        text = q.text;
        found_text = find_text c.code n q.text d q.listed;
        fits = q.fits;
        named = (numbered c.code Entry).at (n, q.text) q.listed;
        outcome = inr (record { loop = r.loop; chain = r.chain; over = o; stops = λ rest p. r.stops (takes q.text.loops ++ rest) p; needs = λ rest p. r.needs (takes q.text.loops ++ rest) p });
      }
  located ss c earlier z a n s d (nowhere r) e = absurd cc

  reassoc : (ss ls : List TargetStep) (x : TargetStep) (rest : List TargetStep) → (ss ++ (ls ++ x ∷ [])) ++ rest ≡ ss ++ (ls ++ x ∷ rest)
  reassoc ss ls x rest = append_assoc ss (ls ++ x ∷ []) rest ∙ ap (λ k. ss ++ k) (append_assoc ls (x ∷ []) rest)

  come_call : (ss : List TargetStep) (scope : Scope) (z : List ℕ) (n : ℕ) (s : Spot S) (t : Text) (h : Here ss t s scope z) (m : ℕ) (call : Invoke) (q : ℕ) (r : Code) → t.code ≡ Call m call q r → n ≡ m → Comes (ss ++ (takes t.loops ++ Go n ∷ [])) (from scope.earlier q) (n ∷ z) (lift (dom.enter call.entering) s.before)
  come_call ss scope z n s t h m call q r i j = go (from scope.earlier q) refl
    where
      x : M
      x = mark Entry (suc h.front.rank) (plain (lift (dom.enter call.entering) h.front.value.value))

      go : (ps : List Routine) → from scope.earlier q ≡ ps → Comes (ss ++ (takes t.loops ++ Go n ∷ [])) ps (n ∷ z) (lift (dom.enter call.entering) s.before)
      go [] e = nowhere refl
      go (c ∷ before) e =
          let l : Led dom engine program all h.path h.place h.front (Call m call q r) = subst (λ c. Led dom engine program all h.path h.place h.front c) i h.led in
          let b : P = record { scope = Sc c before; sites = n ∷ h.place.sites; code = c.code; first = x } in
          let leads : to dom engine program all (InCall m ∷ h.path) ≡ Some (record { scope = Sc c before; sites = m ∷ h.place.sites; code = c.code; first = x }) =
          led_to dom engine program all h.path h.place h.front (Call m call q r) l (λ b. in_call engine A b m) ∙ ap (λ ps. start_of engine A ps (m ∷ h.place.sites) x) (ap (λ (sc : Scope). from sc.earlier q) h.same_scope ∙ e) in
          arrives (record {
            path = InCall n ∷ h.path;
            place = b;
            leads = subst (λ (n : ℕ). to dom engine program all (InCall n ∷ h.path) ≡ Some (record { scope = Sc c before; sites = n ∷ h.place.sites; code = c.code; first = x })) (sym j) leads;
            placed = (refl, refl);
            sites_are = ap (λ z. n ∷ z) (sym h.same_sites);
            value_is = ap (λ (s : Spot S). lift (dom.enter call.entering) s.before) h.spot_is;
            point = refl;
            goes = λ rest p. ap (λ k. goto k p []) (reassoc ss (takes t.loops) (Go n) rest) ∙ h.goes (Go n ∷ rest) p;
            needs = λ rest p q. subst (λ k. Need k p []) (sym (reassoc ss (takes t.loops) (Go n) rest)) (h.needs (Go n ∷ rest) p q);
          })

  come_here : (ss : List TargetStep) (scope : Scope) (z : List ℕ) (n : ℕ) (s : Spot S) (t : Text) (h : Here ss t s scope z) (k : Invoke × ℕ) (d : Code) → t.code ≡ d → callee_of d ≡ Some k → n ≡ number d → Comes (ss ++ (takes t.loops ++ Go n ∷ [])) (from scope.earlier k.1) (n ∷ z) (lift (dom.enter k.0.entering) s.before)
  come_here ss scope z n s t h k Stop i c j = absurd cc
  come_here ss scope z n s t h k (Simple m effect r) i c j = absurd cc
  come_here ss scope z n s t h k (If m guard x y r) i c j = absurd cc
  come_here ss scope z n s t h k (While m guard x r) i c j = absurd cc
  come_here ss scope z n s t h k (Call m call q r) i c j =
      subst (λ (k : Invoke × ℕ). Comes (ss ++ (takes t.loops ++ Go n ∷ [])) (from scope.earlier k.1) (n ∷ z) (lift (dom.enter k.0.entering) s.before)) (same_Some _ _ c) (come_call ss scope z n s t h m call q r i j)
  come_here ss scope z n s t h k (Break m r) i c j = absurd cc

  come_in : (ss : List TargetStep) (scope : Scope) (z : List ℕ) (n : ℕ) (s : Spot S) (t : Text) (k : Invoke × ℕ) → callee_of t.code ≡ Some k → n ≡ number t.code → Here ss t s scope z ⊎ Gone ss t s → Comes (ss ++ (takes t.loops ++ Go n ∷ [])) (from scope.earlier k.1) (n ∷ z) (lift (dom.enter k.0.entering) s.before)
  come_in ss scope z n s t k c j (inl h) = come_here ss scope z n s t h k t.code refl c j
  come_in ss scope z n s t k c j (inr g) = halts (record {
    loop = g.loop;
    chain = g.chain;
    over = ap (lift (dom.enter k.0.entering)) g.over.before;
    stops = λ rest p. ap (λ k. goto k p []) (reassoc ss (takes t.loops) (Go n) rest) ∙ g.stops (Go n ∷ rest) p;
    needs = λ rest p. subst (λ k. Need k p []) (sym (reassoc ss (takes t.loops) (Go n) rest)) (g.needs (Go n ∷ rest) p);
  })

  abbrev first_mark : M
  first_mark = mark Entry 0 (plain (State (dom.init (main_layout program))))

  come_start : (ps : List Routine) → program ≡ ps → Comes [] ps [] (State (dom.init (main_layout program)))
  come_start [] e = nowhere refl
  come_start (c ∷ earlier) e = arrives (record {
    path = [];
    place = record { scope = Sc c earlier; sites = []; code = c.code; first = first_mark };
    leads = ap (λ q. start_of engine A q [] first_mark) e;
    placed = (refl, refl);
    sites_are = refl;
    value_is = refl;
    point = refl;
    goes = λ rest p. refl;
    needs = λ rest p q. q;
  })

  enter_in : (n : ℕ) (z : List ℕ) (ps : List Routine) (a0 : Value S) (procs : List Routine) (a : Value S) → Came ps z a0 → entered dom engine n z (ps, a0) ≡ Some (procs, a) → Came procs (n ∷ z) a
  enter_in n z [] a0 procs a i e = absurd cc
  enter_in n z (c0 ∷ earlier) a0 procs a i e =
      let x = then_some (find n (all_spots (c0 ∷ earlier) z a0)) (λ s. if_some s.call (λ k. Some (from earlier k.1, lift (dom.enter k.0.entering) s.before))) (procs, a) e in
      let s = x.0 in
      let y = then_some s.call (λ k. Some (from earlier k.1, lift (dom.enter k.0.entering) s.before)) (procs, a) x.2 in
      let k = y.0 in
      let q = located i.steps c0 earlier z a0 n s i.once_too.0 i.came x.1 in
      let c : callee_of q.text.code ≡ Some k = sym q.fits.callee ∙ y.1 in
      subst (λ (x : List Routine × Value S). Came x.0 (n ∷ z) x.1) (same_Some _ _ y.2) (record {
        steps = i.steps ++ (takes q.text.loops ++ Go n ∷ []);
        way_is = ap (λ o. if_some o (λ x. way_in n x.steps x.procs)) i.way_is
            ∙ ap (λ o. if_some o (λ t. if_some (callee_of t.code) (λ q. Some (way_of (i.steps ++ (takes t.loops ++ Go n ∷ [])) (from earlier q.1))))) q.found_text
            ∙ ap (λ o. if_some o (λ j. Some (way_of (i.steps ++ (takes q.text.loops ++ Go n ∷ [])) (from earlier j.1)))) c;
        came = come_in i.steps (Sc c0 earlier) z n s q.text k c q.named q.outcome;
        once_too = once_from earlier k.1 i.once_too.1;
      })

  came : (z : List ℕ) (procs : List Routine) (a : Value S) → entry dom engine program z ≡ Some (procs, a) → Came procs z a
  came [] procs a e = subst (λ (x : List Routine × Value S). Came x.0 [] x.1) (same_Some _ _ e) (record { steps = []; way_is = refl; came = come_start program refl; once_too = once })
  came (n ∷ z) procs a e =
      let p = then_some (entry dom engine program z) (entered dom engine n z) (procs, a) e in
      enter_in n z p.0.0 p.0.1 procs a (came z p.0.0 p.0.1 p.1) p.2

  -- A target, and the value at a location, from the procedures with the last one first.
  abbrev pub target_back : Location → List ℕ → Option Target
  target_back l z = if_some (way program z) (λ x. target_in l x.steps x.procs)

  abbrev pub value_back : Location → List ℕ → Option (Value S)
  value_back l z = if_some (entry dom engine program z) (λ x. value_in dom engine x.0 z x.1 l)

  record AtIs (l : Location) (z : List ℕ) (v : Value S) : Type 0 where
    target_at : Target
    is : target_back l z ≡ Some target_at
    value : value_of_target f target_at ≡ v
    needs : Need target_at.steps target_at.last []

  reached : (ss : List TargetStep) (scope : Scope) (z : List ℕ) (s : Spot S) (t : Text) (p : Point) (v : Value S) → ((h : Here ss t s scope z) → (f (name h.path p)).value ≡ v) → ((g : Gone ss t s) → Over g.loop g.chain ≡ v) → Here ss t s scope z ⊎ Gone ss t s → goto (ss ++ takes t.loops) p [] ≡ v
  reached ss scope z s t p v j k (inl h) = ap (λ x. goto (ss ++ x) p []) (sym (append-nil (takes t.loops))) ∙ h.goes [] p ∙ j h
  reached ss scope z s t p v j k (inr g) = ap (λ x. goto (ss ++ x) p []) (sym (append-nil (takes t.loops))) ∙ g.stops [] p ∙ k g

  needed : (ss : List TargetStep) (scope : Scope) (z : List ℕ) (s : Spot S) (t : Text) (p : Point) → ((h : Here ss t s scope z) → Has dom engine program all (name h.path p)) → Here ss t s scope z ⊎ Gone ss t s → Need (ss ++ takes t.loops) p []
  needed ss scope z s t p j (inl h) = subst (λ x. Need (ss ++ x) p []) (append-nil (takes t.loops)) (h.needs [] p (j h, tt))
  needed ss scope z s t p j (inr g) = subst (λ x. Need (ss ++ x) p []) (append-nil (takes t.loops)) (g.needs [] p)

  cell_at : (x : CellName) (m : M) → at dom engine program all x ≡ Some m → (f x).value ≡ m.value.value
  cell_at x m e = ap (λ (o : Option M). (value_of_mark dom engine o).value) e

  before_is : (ss : List TargetStep) (scope : Scope) (z : List ℕ) (s : Spot S) (t : Text) (h : Here ss t s scope z) → (f (name h.path t.front)).value ≡ s.before
  before_is ss scope z s t h =
      ap (λ (p : Point). (f (name h.path p)).value) h.point ∙ cell_at (name h.path h.front.point) h.front (front_found dom engine program all h.path h.place h.front t.code h.led) ∙ ap (λ (s : Spot S). s.before) (sym h.spot_is)

  front_has : (ss : List TargetStep) (scope : Scope) (z : List ℕ) (s : Spot S) (t : Text) (h : Here ss t s scope z) → Has dom engine program all (name h.path t.front)
  front_has ss scope z s t h = subst (λ (p : Point). Has dom engine program all (name h.path p)) (sym h.point) (h.front, front_found dom engine program all h.path h.place h.front t.code h.led)

  post_has : (ss : List TargetStep) (scope : Scope) (z : List ℕ) (n : ℕ) (s : Spot S) (t : Text) (h : Here ss t s scope z) → n ≡ number t.code → Has dom engine program all (name h.path (Post n))
  post_has ss scope z n s t h j =
      subst (λ (n : ℕ). Has dom engine program all (name h.path (Post n))) (sym j) (behind_it engine A h.place.scope h.place.sites t.code h.front, led_to dom engine program all h.path h.place h.front t.code h.led (post_mark engine A))

  fix_has : (ss : List TargetStep) (scope : Scope) (z : List ℕ) (n : ℕ) (s : Spot S) (t : Text) (h : Here ss t s scope z) (d : Code) → t.code ≡ d → n ≡ number d → is_loop d ≡ true → Has dom engine program all (name h.path (Fix n))
  fix_has ss scope z n s t h Stop i j k = absurd cc
  fix_has ss scope z n s t h (Simple m effect r) i j k = absurd cc
  fix_has ss scope z n s t h (If m guard x y r) i j k = absurd cc
  fix_has ss scope z n s t h (While m guard x r) i j k =
      let l : Led dom engine program all h.path h.place h.front (While m guard x r) = subst (λ c. Led dom engine program all h.path h.place h.front c) i h.led in
      subst (λ (n : ℕ). Has dom engine program all (name h.path (Fix n))) (sym j) (_, fix_found dom engine program all h.path h.place m guard x r h.front l)
  fix_has ss scope z n s t h (Call m call q r) i j k = absurd cc
  fix_has ss scope z n s t h (Break m r) i j k = absurd cc

  after_is : (ss : List TargetStep) (scope : Scope) (z : List ℕ) (n : ℕ) (s : Spot S) (t : Text) (h : Here ss t s scope z) → n ≡ number t.code → (f (name h.path (Post n))).value ≡ s.after
  after_is ss scope z n s t h j =
      ap (λ (n : ℕ). (f (name h.path (Post n))).value) j
      ∙ cell_at (name h.path (Post (number t.code))) (behind_it engine A h.place.scope h.place.sites t.code h.front) (led_to dom engine program all h.path h.place h.front t.code h.led (post_mark engine A))
      ∙ ap (λ (s : Spot S). s.after) (sym h.spot_is)

  head_at : (ss : List TargetStep) (scope : Scope) (z : List ℕ) (n : ℕ) (s : Spot S) (t : Text) (h : Here ss t s scope z) (d : Code) (v : Fixed S) → t.code ≡ d → n ≡ number d → is_loop d ≡ true → s.head ≡ Some v → (f (name h.path (Fix n))).value ≡ v.value
  head_at ss scope z n s t h Stop v i j k e = absurd cc
  head_at ss scope z n s t h (Simple m effect r) v i j k e = absurd cc
  head_at ss scope z n s t h (If m guard x y r) v i j k e = absurd cc
  head_at ss scope z n s t h (While m guard x r) v i j k e =
      let l : Led dom engine program all h.path h.place h.front (While m guard x r) = subst (λ c. Led dom engine program all h.path h.place h.front c) i h.led in
      let is : s ≡ spot_of dom engine h.place.scope h.place.sites (While m guard x r) h.front.value.value = h.spot_is ∙ ap (λ c. spot_of dom engine h.place.scope h.place.sites c h.front.value.value) i in
      let hv = same_Some _ _ (sym (ap (λ (s : Spot S). s.head) is) ∙ e) in
      ap (λ (n : ℕ). (f (name h.path (Fix n))).value) j
      ∙ cell_at (name h.path (Fix m)) _ (fix_found dom engine program all h.path h.place m guard x r h.front l)
      ∙ ap (λ (q : Fixed S). q.value) hv
  head_at ss scope z n s t h (Call m call q r) v i j k e = absurd cc
  head_at ss scope z n s t h (Break m r) v i j k e = absurd cc

  at_end : (x : List ℕ) (z : List ℕ) (c : Routine) (earlier : List Routine) (a v : Value S) (i : Came (c ∷ earlier) z a) → (if bytes_eq x c.name then Some (ended_by (Sc c earlier) z c.code a) else None) ≡ Some v → AtIs (End x) z v
  at_end x z c earlier a v i e =
      by_name (bytes_eq x c.name) (ap (λ o. if_some o (λ y. target_in (End x) y.steps y.procs)) i.way_is) e
    where
      end_needs : (ss : List TargetStep) → Comes ss (c ∷ earlier) z a → Need ss (last_point c.code Entry) []
      end_needs ss (arrives r) =
          let m = first_end dom engine program all r.path r.place r.leads r.point in
          subst (λ x. Need x (last_point c.code Entry) []) (append-nil ss)
          (r.needs [] (last_point c.code Entry) (subst (λ (d : Code). Has dom engine program all (name r.path (last_point d Entry))) r.placed.1 (_, m), tt))
      end_needs ss (halts r) = subst (λ x. Need x (last_point c.code Entry) []) (append-nil ss) (r.needs [] (last_point c.code Entry))
      end_needs ss (nowhere r) = absurd cc

      ending : (ss : List TargetStep) → Comes ss (c ∷ earlier) z a → goto ss (last_point c.code Entry) [] ≡ ended_by (Sc c earlier) z c.code a
      ending ss (arrives r) =
          ap (λ x. goto x (last_point c.code Entry) []) (sym (append-nil ss)) ∙ r.goes [] (last_point c.code Entry)
          ∙ ap (λ (d : Code). (f (name r.path (last_point d Entry))).value) (sym r.placed.1)
          ∙ cell_at (name r.path (last_point r.place.code Entry)) (last engine A r.place.scope r.place.sites r.place.code r.place.first) (first_end dom engine program all r.path r.place r.leads r.point)
          ∙ last_value dom engine (main_layout program) r.place.scope r.place.sites r.place.code r.place.first
          ∙ ap (λ v. ended_by r.place.scope r.place.sites r.place.code v) (sym r.value_is)
          ∙ ap (λ (sc : Scope). ended_by sc r.place.sites r.place.code a) r.placed.0
          ∙ ap (λ (d : Code). ended_by (Sc c earlier) r.place.sites d a) r.placed.1
          ∙ ap (λ z. ended_by (Sc c earlier) z c.code a) (sym r.sites_are)
      ending ss (halts r) = ap (λ x. goto x (last_point c.code Entry) []) (sym (append-nil ss)) ∙ r.stops [] (last_point c.code Entry) ∙ sym (batch_over dom engine (thresholds engine.widening c) z (calls_of dom engine earlier z) r.loop r.chain c.code a r.over)
      ending ss (nowhere r) = absurd cc

      by_name : (t : Bool) → target_back (End x) z ≡ (if t then Some (to_point i.steps (last_point c.code Entry)) else None) → (if t then Some (ended_by (Sc c earlier) z c.code a) else None) ≡ Some v → AtIs (End x) z v
      by_name true is e = record { target_at = to_point i.steps (last_point c.code Entry); is = is; value = ending i.steps i.came ∙ same_Some _ _ e; needs = end_needs i.steps i.came }
      by_name false is e = absurd cc

  at_in : (l : Location) (z : List ℕ) (ps : List Routine) (a v : Value S) → Came ps z a → value_in dom engine ps z a l ≡ Some v → AtIs l z v
  at_in (Before n) z [] a v i e = absurd cc
  at_in (After n) z [] a v i e = absurd cc
  at_in (Head n) z [] a v i e = absurd cc
  at_in (End x) z [] a v i e = absurd cc
  at_in (Before n) z (c ∷ earlier) a v i e =
      let x = then_some (find n (all_spots (c ∷ earlier) z a)) (λ s. Some s.before) v e in
      let q = located i.steps c earlier z a n x.0 i.once_too.0 i.came x.1 in
      let k : x.0.before ≡ v = same_Some _ _ x.2 in
      record {
        target_at = to_point (i.steps ++ takes q.text.loops) q.text.front;
        is = ap (λ o. if_some o (λ x. target_in (Before n) x.steps x.procs)) i.way_is ∙ ap (λ o. if_some o (λ t. Some (to_point (i.steps ++ takes t.loops) t.front))) q.found_text;
        value = reached i.steps (Sc c earlier) z x.0 q.text q.text.front v (λ h. before_is i.steps (Sc c earlier) z x.0 q.text h ∙ k) (λ g. sym g.over.before ∙ k) q.outcome;
        needs = needed i.steps (Sc c earlier) z x.0 q.text q.text.front (front_has i.steps (Sc c earlier) z x.0 q.text) q.outcome;
      }
  at_in (After n) z (c ∷ earlier) a v i e =
      let x = then_some (find n (all_spots (c ∷ earlier) z a)) (λ s. Some s.after) v e in
      let q = located i.steps c earlier z a n x.0 i.once_too.0 i.came x.1 in
      let k : x.0.after ≡ v = same_Some _ _ x.2 in
      record {
        target_at = to_point (i.steps ++ takes q.text.loops) (Post n);
        is = ap (λ o. if_some o (λ x. target_in (After n) x.steps x.procs)) i.way_is ∙ ap (λ o. if_some o (λ t. Some (to_point (i.steps ++ takes t.loops) (Post n)))) q.found_text;
        value = reached i.steps (Sc c earlier) z x.0 q.text (Post n) v (λ h. after_is i.steps (Sc c earlier) z n x.0 q.text h q.named ∙ k) (λ g. sym g.over.after ∙ k) q.outcome;
        needs = needed i.steps (Sc c earlier) z x.0 q.text (Post n) (λ h. post_has i.steps (Sc c earlier) z n x.0 q.text h q.named) q.outcome;
      }
  at_in (Head n) z (c ∷ earlier) a v i e =
      let x = then_some (find n (all_spots (c ∷ earlier) z a)) head_of_spot v e in
      let y = then_some x.0.head (λ h. Some h.value) v x.2 in
      let q = located i.steps c earlier z a n x.0 i.once_too.0 i.came x.1 in
      let k = q.fits.loop y.0 y.1 in
      let g : y.0.value ≡ v = same_Some _ _ y.2 in
      record {
        target_at = to_point (i.steps ++ takes q.text.loops) (Fix n);
        is = ap (λ o. if_some o (λ x. target_in (Head n) x.steps x.procs)) i.way_is ∙ ap (λ o. if_some o (λ t. if is_loop t.code then Some (to_point (i.steps ++ takes t.loops) (Fix n)) else None)) q.found_text
            ∙ ap (λ (c : Bool). if c then Some (to_point (i.steps ++ takes q.text.loops) (Fix n)) else None) k;
        value = reached i.steps (Sc c earlier) z x.0 q.text (Fix n) v (λ h. head_at i.steps (Sc c earlier) z n x.0 q.text h q.text.code y.0 refl q.named k y.1 ∙ g) (λ o. sym (o.over.head y.0 y.1) ∙ g) q.outcome;
        needs = needed i.steps (Sc c earlier) z x.0 q.text (Fix n) (λ h. fix_has i.steps (Sc c earlier) z n x.0 q.text h q.text.code refl q.named k) q.outcome;
      }
  at_in (End x) z (c ∷ earlier) a v i e = at_end x z c earlier a v i e

  -- The value at a location under a chain is that of the target's cells.
  pub at_is : (l : Location) (z : List ℕ) (v : Value S) → value_back l z ≡ Some v → (t : Target) × (target_back l z ≡ Some t) × (value_of_target f t ≡ v) × All (Has dom engine program all) (demanded_in f t.steps t.last [])
  at_is l z v e =
      let p = then_some (entry dom engine program z) (λ x. value_in dom engine x.0 z x.1 l) v e in
      let r = at_in l z p.0.0 p.0.1 v (came z p.0.0 p.0.1 p.1) p.2 in
      (r.target_at, r.is, r.value, r.needs)

  find_some : {X Y : Type 0} (n : ℕ) (xs : List (ℕ × X)) (ys : List (ℕ × Y)) (x : X) → keys xs ≡ keys ys → find n xs ≡ Some x → (y : Y) × (find n ys ≡ Some y)
  find_some n [] ys x k e = absurd cc
  find_some n (u ∷ xs) [] x k e = absurd cc
  find_some {X} {Y} n (u ∷ xs) (v ∷ ys) x k e =
      let h : u.0 ≡ v.0 = cc in
      let t : keys xs ≡ keys ys = cc in
      (by_test n v.0 (λ c. (if c then Some u.1 else find n xs) ≡ Some x → (y : Y) × ((if c then Some v.1 else find n ys) ≡ Some y))
      (λ i e. (v.1, refl))
      (λ i e. find_some n xs ys x t e)) (subst (λ (j : ℕ). (if n == j then Some u.1 else find n xs) ≡ Some x) h e)

  -- A statement that stands in the text has a spot, with its text.
  record Spotted (c : Routine) (earlier : List Routine) (z : List ℕ) (a : Value S) (n : ℕ) (t : Text) : Type 0 where
    at_it : Spot S
    found_it : find n (all_spots (c ∷ earlier) z a) ≡ Some at_it
    fits : Fits dom engine t at_it

  spotted : (c : Routine) (earlier : List Routine) (z : List ℕ) (a : Value S) (n : ℕ) (t : Text) → Distinct (code_numbers c.code) → find n (texts c.code Entry) ≡ Some t → Spotted c earlier z a n t
  spotted c earlier z a n t d e =
      let same = keys_texts c.code Entry ∙ sym (keys_numbers dom engine (thresholds engine.widening c) z (calls_of dom engine earlier z) c.code a) in
      let s = find_some n (texts c.code Entry) (all_spots (c ∷ earlier) z a) t same e in
      let q = (shown dom engine (thresholds engine.widening c) z (calls_of dom engine earlier z) c.code Entry a).at (n, s.0) (found_member n s.0 (all_spots (c ∷ earlier) z a) s.1) in
      let i : q.text ≡ t = same_Some _ _ (sym (find_text c.code n q.text d q.listed) ∙ e) in
      record { at_it = s.0; found_it = s.1; fits = subst (λ t. Fits dom engine t s.0) i q.fits }

  enter_some : (n : ℕ) (z : List ℕ) (ss : List TargetStep) (ps : List Routine) (a : Value S) (w : Way) → AllOnce ps → way_in n ss ps ≡ Some w → (b : Value S) × (entered dom engine n z (ps, a) ≡ Some (w.procs, b))
  enter_some n z ss [] a w o e = absurd cc
  enter_some n z ss (c ∷ earlier) a w o e =
      let x = then_some (find n (texts c.code Entry)) (λ t. if_some (callee_of t.code) (λ q. Some (way_of (ss ++ (takes t.loops ++ Go n ∷ [])) (from earlier q.1)))) w e in
      let y = then_some (callee_of x.0.code) (λ q. Some (way_of (ss ++ (takes x.0.loops ++ Go n ∷ [])) (from earlier q.1))) w x.2 in
      let s = spotted c earlier z a n x.0 o.0 x.1 in
      let k = y.0 in
      let c1 : s.at_it.call ≡ Some k = s.fits.callee ∙ y.1 in
      let same : from earlier k.1 ≡ w.procs = ap (λ (w : Way). w.procs) (same_Some _ _ y.2) in (
        lift (dom.enter k.0.entering) s.at_it.before,
        ap (λ o. if_some o (λ s. if_some s.call (λ k. Some (from earlier k.1, lift (dom.enter k.0.entering) s.before)))) s.found_it
            ∙ ap (λ o. if_some o (λ k. Some (from earlier k.1, lift (dom.enter k.0.entering) s.at_it.before))) c1
            ∙ ap (λ (ps : List Routine). Some (ps, lift (dom.enter k.0.entering) s.at_it.before)) same,
      )

  entry_some : (z : List ℕ) (w : Way) → way program z ≡ Some w → (a : Value S) × (entry dom engine program z ≡ Some (w.procs, a))
  entry_some [] w e = (State (dom.init (main_layout program)), ap (λ (w : Way). Some (w.procs, State (dom.init (main_layout program)))) (same_Some _ _ e))
  entry_some (n ∷ z) w e =
      let x = then_some (way program z) (λ x. way_in n x.steps x.procs) w e in
      let i = entry_some z x.0 x.1 in
      let r = enter_some n z x.0.steps x.0.procs i.0 w (came z x.0.procs i.0 i.1).once_too x.2 in
      (r.0, ap (λ o. if_some o (entered dom engine n z)) i.1 ∙ r.1)

  value_some : (l : Location) (z : List ℕ) (ss : List TargetStep) (ps : List Routine) (a : Value S) (t : Target) → AllOnce ps → target_in l ss ps ≡ Some t → (v : Value S) × (value_in dom engine ps z a l ≡ Some v)
  value_some l z ss [] a t o e = absurd cc
  value_some (Before n) z ss (c ∷ earlier) a t o e =
      let x = then_some (find n (texts c.code Entry)) (λ t. Some (to_point (ss ++ takes t.loops) t.front)) t e in
      let s = spotted c earlier z a n x.0 o.0 x.1 in
      (s.at_it.before, ap (λ o. if_some o (λ s. Some s.before)) s.found_it)
  value_some (After n) z ss (c ∷ earlier) a t o e =
      let x = then_some (find n (texts c.code Entry)) (λ t. Some (to_point (ss ++ takes t.loops) (Post n))) t e in
      let s = spotted c earlier z a n x.0 o.0 x.1 in
      (s.at_it.after, ap (λ o. if_some o (λ s. Some s.after)) s.found_it)
  value_some (Head n) z ss (c ∷ earlier) a t o e =
      let x = then_some (find n (texts c.code Entry)) (λ t. if is_loop t.code then Some (to_point (ss ++ takes t.loops) (Fix n)) else None) t e in
      let s = spotted c earlier z a n x.0 o.0 x.1 in
      let k = given_test (is_loop x.0.code) (to_point (ss ++ takes x.0.loops) (Fix n)) t x.2 in
      let h = s.fits.headed k in
      (h.0.value, ap (λ o. if_some o head_of_spot) s.found_it ∙ ap (λ o. if_some o (λ (h : Fixed S). Some h.value)) h.1)
  value_some (End x) z ss (c ∷ earlier) a t o e = by_name (bytes_eq x c.name) e
    where
      by_name : (b : Bool) → (if b then Some (to_point ss (last_point c.code Entry)) else None) ≡ Some t → (v : Value S) × ((if b then Some (ended_by (Sc c earlier) z c.code a) else None) ≡ Some v)
      by_name true e = (_, refl)
      by_name false e = absurd cc

  -- Where a target is, the batch interpreter has a value: the target's.
  pub is_at : (l : Location) (z : List ℕ) (t : Target) → target_back l z ≡ Some t → (value_back l z ≡ Some (value_of_target f t)) × All (Has dom engine program all) (demanded_in f t.steps t.last [])
  is_at l z t e =
      let x = then_some (way program z) (λ x. target_in l x.steps x.procs) t e in
      let i = entry_some z x.0 x.1 in
      let r = value_some l z x.0.steps x.0.procs i.0 t (came z x.0.procs i.0 i.1).once_too x.2 in
      let v : value_back l z ≡ Some r.0 = ap (λ o. if_some o (λ x. value_in dom engine x.0 z x.1 l)) i.1 ∙ r.1 in
      let q = at_is l z r.0 v in
      let same : q.0 ≡ t = same_Some _ _ (sym q.1 ∙ e) in
      (v ∙ ap (λ v. Some v) (sym q.2 ∙ ap (value_of_target f) same), subst (λ (t : Target). All (Has dom engine program all) (demanded_in f t.steps t.last [])) same q.3)
