-- The values at the statements of a block are those of the cells at the end of a target's path.
use Rattle.std.proofs.Common.{ℤ, ◌≡◌, ℕ, ◌<◌, List, [], ◌∷◌, ◌++◌, map, Option, Some, None, true, false, refl, sym, ap, ◌∙◌, subst, ◌⊎◌, inl, inr}
use Rattle.imp_slots.specs.Plain.{Guard, DoBreak, Does, Code, Stop, Simple, If, While, Call, Break, Routine, code_numbers}
use Rattle.domain_laws.specs.Operations.{Operations}
use Rattle.batch_meaning.specs.Values.{Value, State, Over, lift, lift2}
use Rattle.batch_meaning.specs.Batch.{LoopOptions, Passed, Fixed, head_of, behind, batch, calls_of}
use Rattle.batch_meaning.specs.Places.{Spot, spots, main_layout, spot}
use Rattle.cell_names.specs.declared.frame.NameFrame.{NameFrame}
use Rattle.cell_names.specs.declared.frame.NameFrame.TheVariants.{InLoop}
use Rattle.cell_names.specs.declared.frame.Point.{Point}
use Rattle.cell_names.specs.declared.frame.Point.TheVariants.{Then, Else, Body, Post, Fix}
use Rattle.cell_names.specs.Paths.{CellName}
use Rattle.base_values.proofs.Members.{Member, here, there, in_left, in_right, Each, each_more, each_both, none_there, each_as, keys, keys_both, in_map}
use Rattle.cell_rows.specs.Names.{Scope, name, Mark, At, Algebra, PathBlock, behind_it, inside, level, level_of, AllFine}
use Rattle.cell_rows.specs.Cells.{Cell, block, values, one_round, fix_value, after_value, value_of_name, value_of_mark}
use Rattle.cell_rows.specs.Targets.{Text, text, deeper, texts, TargetStep, Take, takes, callee_of, is_loop, unless_over, value_in_path, demanded_in}
use Rattle.cell_rows.proofs.Unique.{All}
use Rattle.cell_rows.proofs.Linked.{batch_over, behind_over}
use Rattle.cell_rows.proofs.Lookup.{fine}
use Rattle.cell_rows.proofs.BatchTie.{fix_index}
use Rattle.cell_rows.proofs.Tied.{at, to, Led, turn, round_found, iterate_is, fix_found}
use Rattle.std.proofs.lemmas.Option.{same_Some}

-- the keys of the texts
keys_deeper : (n : ℕ) (xs : List (ℕ × Text)) → keys (map (deeper n) xs) ≡ keys xs
keys_deeper n [] = refl
keys_deeper n (x ∷ xs) = ap (λ k. x.0 ∷ k) (keys_deeper n xs)

pub keys_texts : (c : Code) (p : Point) → keys (texts c p) ≡ code_numbers c
keys_texts Stop p = refl
keys_texts (Simple n effect r) p = ap (λ k. n ∷ k) (keys_texts r _)
keys_texts (If n guard t e r) p = rw (keys_both, keys_both, keys_texts t, keys_texts e, keys_texts r) refl
keys_texts (While n guard b r) p = rw (keys_both, keys_deeper, keys_texts b, keys_texts r) refl
keys_texts (Call n call q r) p = ap (λ k. n ∷ k) (keys_texts r _)
keys_texts (Break n r) p = ap (λ k. n ∷ k) (keys_texts r _)

module _ {S : Type 0} (dom : Operations S) (engine : LoopOptions) where
  -- What is known at a statement, by its code and the value before it.
  abbrev pub head_value : (scope : Scope) (z : List ℕ) → Code → Value S → Option (Fixed S)
  head_value scope z (While n guard b r) a = Some (head_of dom engine scope.thresholds z n guard (block dom engine scope z b) a)
  head_value scope z _ a = None

  abbrev pub spot_of : (scope : Scope) (z : List ℕ) → Code → Value S → Spot S
  spot_of scope z c a = spot a (head_value scope z c a) (after_value dom engine scope z c a) (callee_of c)

  -- All that is known is this Over.
  pub record AllOver (j : ℕ) (y : List ℕ) (s : Spot S) : Type 0 where
    pub before : s.before ≡ Over j y
    pub after : s.after ≡ Over j y
    pub head : (v : Fixed S) → s.head ≡ Some v → v.value ≡ Over j y

  -- A spot has its text's callee and loop.
  pub record Fits (t : Text) (s : Spot S) : Type 0 where
    pub callee : s.call ≡ callee_of t.code
    pub loop : (v : Fixed S) → s.head ≡ Some v → is_loop t.code ≡ true
    pub headed : is_loop t.code ≡ true → (v : Fixed S) × (s.head ≡ Some v)

  pub record Shown (c : Code) (p : Point) (x : ℕ × Spot S) : Type 0 where
    pub text : Text
    pub listed : Member (x.0, text) (texts c p)
    pub fits : Fits text x.1

  abbrev ShownAt : Code → Point → ℕ × Spot S → Type 0
  ShownAt c p x = Shown c p x

  shown_more : (c d : Code) (p q : Point) → ((x : ℕ × Text) → Member x (texts c p) → Member x (texts d q)) → (xs : List (ℕ × Spot S)) → Each (ShownAt c p) xs → Each (ShownAt d q) xs
  shown_more c d p q f xs e = each_as (ShownAt c p) (ShownAt d q) xs (λ x s. record { text = s.text; listed = f _ s.listed; fits = s.fits }) e

  shown_deep : (n : ℕ) (guard : Guard) (b r : Code) (p : Point) (xs : List (ℕ × Spot S)) → Each (ShownAt b Body) xs → Each (ShownAt (While n guard b r) p) xs
  shown_deep n guard b r p xs e =
      each_as (ShownAt b Body) (ShownAt (While n guard b r) p) xs
      (λ x s. record {
        text = text (n ∷ s.text.loops) s.text.front s.text.code;
        listed = there (in_left (texts r (Post n)) (in_map (deeper n) (x.0, s.text) (texts b Body) s.listed));
        fits = record { callee = s.fits.callee; loop = s.fits.loop; headed = s.fits.headed };
      }) e

  module _ (ms : List ℤ) (z : List ℕ) (calls : ℕ → ℕ → Value S → Value S) where
    abbrev SP : Code → Value S → List (ℕ × Spot S)
    SP = spots dom engine ms z calls

    abbrev B : Code → Value S → Passed S
    B = batch dom engine ms z calls

    pub shown : (c : Code) (p : Point) (a : Value S) → Each (ShownAt c p) (SP c a)
    shown Stop p a = none_there (ShownAt Stop p)
    shown (Simple n effect r) p a =
        each_more (ShownAt (Simple n effect r) p) _ _ (record { text = text [] p (Simple n effect r); listed = here; fits = record { callee = refl; loop = λ v e. absurd cc; headed = λ e. absurd cc } })
        (shown_more r (Simple n effect r) (Post n) p (λ x. there) _ (shown r (Post n) _))
    shown (If n guard t e r) p a =
        each_more (ShownAt (If n guard t e r) p) _ _ (record { text = text [] p (If n guard t e r); listed = here; fits = record { callee = refl; loop = λ v e. absurd cc; headed = λ e. absurd cc } })
        (each_both (ShownAt (If n guard t e r) p) _ _ (shown_more t (If n guard t e r) (Then n) p (λ x m. there (in_left _ m)) _ (shown t (Then n) _))
        (each_both (ShownAt (If n guard t e r) p) _ _ (shown_more e (If n guard t e r) (Else n) p (λ x m. there (in_right (texts t (Then n)) (in_left _ m))) _ (shown e (Else n) _))
        (shown_more r (If n guard t e r) (Post n) p (λ x m. there (in_right (texts t (Then n)) (in_right (texts e (Else n)) m))) _ (shown r (Post n) _))))
    shown (While n guard b r) p a =
        each_more (ShownAt (While n guard b r) p) _ _ (record { text = text [] p (While n guard b r); listed = here; fits = record { callee = refl; loop = λ v e. refl; headed = λ e. (_, refl) } })
        (each_both (ShownAt (While n guard b r) p) _ _ (shown_deep n guard b r p _ (shown b Body _))
        (shown_more r (While n guard b r) (Post n) p (λ x m. there (in_right (map (deeper n) (texts b Body)) m)) _ (shown r (Post n) _)))
    shown (Call n call q r) p a =
        each_more (ShownAt (Call n call q r) p) _ _ (record { text = text [] p (Call n call q r); listed = here; fits = record { callee = refl; loop = λ v e. absurd cc; headed = λ e. absurd cc } })
        (shown_more r (Call n call q r) (Post n) p (λ x. there) _ (shown r (Post n) _))
    shown (Break n r) p a =
        each_more (ShownAt (Break n r) p) _ _ (record { text = text [] p (Break n r); listed = here; fits = record { callee = refl; loop = λ v e. absurd cc; headed = λ e. absurd cc } })
        (shown_more r (Break n r) (Post n) p (λ x. there) _ (shown r (Post n) _))

    abbrev OverAt : ℕ → List ℕ → ℕ × Spot S → Type 0
    OverAt j y x = AllOver j y x.1

    pub over_spots : (j : ℕ) (y : List ℕ) (c : Code) (a : Value S) → a ≡ Over j y → Each (OverAt j y) (SP c a)
    over_spots j y Stop a e = none_there (OverAt j y)
    over_spots j y (Simple m effect r) a e =
        let k = ap (lift (dom.post (Does effect))) e in
        each_more (OverAt j y) _ _ (record { before = e; after = k; head = λ v i. absurd cc }) (over_spots j y r _ k)
    over_spots j y (If m guard t x r) a e =
        let kt = batch_over dom engine ms z calls j y t _ (ap (lift (dom.assume guard true)) e) in
        let k = ap (λ v. lift2 dom.join v (B x (lift (dom.assume guard false) a)).value) kt in
        each_more (OverAt j y) _ _ (record { before = e; after = k; head = λ v i. absurd cc })
        (each_both (OverAt j y) _ _ (over_spots j y t _ (ap (lift (dom.assume guard true)) e))
        (each_both (OverAt j y) _ _ (over_spots j y x _ (ap (lift (dom.assume guard false)) e))
        (over_spots j y r _ k)))
    over_spots j y (While m guard b r) a e =
        let h : (head_of dom engine ms z m guard (B b) a).value ≡ Over j y = ap (λ v. (head_of dom engine ms z m guard (B b) v).value) e in
        let k = ap (λ v. behind dom engine guard (B b) v) h ∙ behind_over dom engine guard (B b) j y in
        each_more (OverAt j y) _ _ (record { before = e; after = k; head = λ v i. ap (λ (q : Fixed S). q.value) (sym (same_Some _ _ i)) ∙ h })
        (each_both (OverAt j y) _ _ (over_spots j y b _ (ap (lift (dom.assume guard true)) h))
        (over_spots j y r _ k))
    over_spots j y (Call m call q r) a e =
        let k = ap (λ v. lift2 (dom.leave call.returning) v (calls m q (lift (dom.enter call.entering) v))) e in
        each_more (OverAt j y) _ _ (record { before = e; after = k; head = λ v i. absurd cc }) (over_spots j y r _ k)
    over_spots j y (Break m r) a e =
        let k = ap (lift (dom.post DoBreak)) e in
        each_more (OverAt j y) _ _ (record { before = e; after = k; head = λ v i. absurd cc }) (over_spots j y r _ k)

  module _ (program : List Routine) (all : AllFine program) where
    abbrev N : ℕ
    N = engine.budget

    abbrev A : Algebra (Cell S)
    A = values dom engine (main_layout program)

    abbrev M : Type 0
    M = Mark (Cell S)

    abbrev P : Type 0
    P = PathBlock engine A

    abbrev f : CellName → Cell S
    f = value_of_name dom engine program

    abbrev goto : List TargetStep → Point → List NameFrame → Value S
    goto = value_in_path f

    -- Names that the program has.
    abbrev pub Has : CellName → Type 0
    Has x = (m : M) × (at dom engine program all x ≡ Some m)

    abbrev Need : List TargetStep → Point → List NameFrame → Type 0
    Need ss p w = All Has (demanded_in f ss p w)

    -- The target's path leads to the statement, and all that is known there is as the marks have it.
    pub record Reaches (w : List NameFrame) (b : P) (t : Text) (s : Spot S) : Type 0 where
      pub path : List NameFrame
      pub place : P
      pub front : M
      pub led : Led dom engine program all path place front t.code
      pub same_earlier : place.scope ≡ b.scope
      pub same_sites : place.sites ≡ b.sites
      pub point : t.front ≡ front.point
      pub spot_is : s ≡ spot_of place.scope place.sites t.code front.value.value
      pub goes : (rest : List TargetStep) (p : Point) → goto (takes t.loops ++ rest) p w ≡ goto rest p path
      pub needs : (rest : List TargetStep) (p : Point) → Need rest p path → Need (takes t.loops ++ rest) p w

    pub record Stops (w : List NameFrame) (t : Text) (s : Spot S) : Type 0 where
      pub loop : ℕ
      pub chain : List ℕ
      pub over : AllOver loop chain s
      pub stops : (rest : List TargetStep) (p : Point) → goto (takes t.loops ++ rest) p w ≡ Over loop chain
      pub needs : (rest : List TargetStep) (p : Point) → Need (takes t.loops ++ rest) p w

    pub record Seen (c : Code) (p : Point) (w : List NameFrame) (b : P) (x : ℕ × Spot S) : Type 0 where
      pub text : Text
      pub listed : Member (x.0, text) (texts c p)
      pub fits : Fits text x.1
      pub outcome : Reaches w b text x.1 ⊎ Stops w text x.1

    abbrev SeenAt : Code → Point → List NameFrame → P → ℕ × Spot S → Type 0
    SeenAt c p w b x = Seen c p w b x

    seen_more : (w : List NameFrame) (b : P) (c d : Code) (p q : Point) → ((x : ℕ × Text) → Member x (texts c p) → Member x (texts d q)) → (xs : List (ℕ × Spot S)) → Each (SeenAt c p w b) xs → Each (SeenAt d q w b) xs
    seen_more w b c d p q g xs e = each_as (SeenAt c p w b) (SeenAt d q w b) xs (λ x s. record { text = s.text; listed = g _ s.listed; fits = s.fits; outcome = s.outcome }) e

    seen_here : (w : List NameFrame) (b : P) (x : M) (c : Code) (n : ℕ) (s : Spot S) → Led dom engine program all w b x c → Member (n, text [] x.point c) (texts c x.point) → Fits (text [] x.point c) s → s ≡ spot_of b.scope b.sites c x.value.value → Seen c x.point w b (n, s)
    seen_here w b x c n s l m k e = record {
      text = text [] x.point c;
      listed = m;
      fits = k;
      outcome = inl (record { path = w; place = b; front = x; led = l; same_earlier = refl; same_sites = refl; point = refl; spot_is = e; goes = λ rest p. refl; needs = λ rest p q. q });
    }

    module _ (w : List NameFrame) (b : P) (n : ℕ) (guard : Guard) (body r : Code) (y : M) (l : Led dom engine program all w b y (While n guard body r)) where
      abbrev F : Cell S
      F = fix_value dom engine b.scope b.sites n guard body y.value

      abbrev round_at : ℕ → P
      round_at k = turn dom engine program all w b n guard body r y l k

      abbrev SPB : Value S → List (ℕ × Spot S)
      SPB a = spots dom engine b.scope.thresholds b.sites (calls_of dom engine b.scope.earlier b.sites) body a

      cell_is : f (name w (Fix n)) ≡ F
      cell_is = ap (value_of_mark dom engine) (fix_found dom engine program all w b n guard body r y l)

      at_over : (j : ℕ) (z : List ℕ) → F.value ≡ Over j z → (rest : List TargetStep) (p : Point) → goto (Take n ∷ rest) p w ≡ Over j z
      at_over j z e rest p =
          ap (λ (c : Cell S). unless_over c.value c.value (goto rest p (InLoop n c.index ∷ w))) cell_is
          ∙ ap (λ v. unless_over v v (goto rest p (InLoop n F.index ∷ w))) e

      at_state : (s : S) → F.value ≡ State s → (rest : List TargetStep) (p : Point) → goto (Take n ∷ rest) p w ≡ goto rest p (InLoop n F.index ∷ w)
      at_state s e rest p =
          ap (λ (c : Cell S). unless_over c.value c.value (goto rest p (InLoop n c.index ∷ w))) cell_is
          ∙ ap (λ v. unless_over v v (goto rest p (InLoop n F.index ∷ w))) e

      fix_has : Has (name w (Fix n))
      fix_has = (_, fix_found dom engine program all w b n guard body r y l)

      over_needs : (j : ℕ) (z : List ℕ) → F.value ≡ Over j z → (rest : List TargetStep) (p : Point) → Need (Take n ∷ rest) p w
      over_needs j z e rest p =
          let i : (f (name w (Fix n))).value ≡ Over j z = ap (λ (c : Cell S). c.value) cell_is ∙ e in
          (fix_has, subst (λ v. All Has (unless_over v [] (demanded_in f rest p (InLoop n (f (name w (Fix n))).index ∷ w)))) (sym i) tt)

      state_needs : (s : S) → F.value ≡ State s → (rest : List TargetStep) (p : Point) → Need rest p (InLoop n F.index ∷ w) → Need (Take n ∷ rest) p w
      state_needs s e rest p q =
          let i : (f (name w (Fix n))).value ≡ State s = ap (λ (c : Cell S). c.value) cell_is ∙ e in (
            fix_has,
            subst (λ v. All Has (unless_over v [] (demanded_in f rest p (InLoop n (f (name w (Fix n))).index ∷ w)))) (sym i)
                (subst (λ (c : Cell S). All Has (demanded_in f rest p (InLoop n c.index ∷ w))) (sym cell_is) q),
          )

      deepen : (x : ℕ × Spot S) (s : S) → F.value ≡ State s → Seen body Body (InLoop n F.index ∷ w) (round_at F.index) x → Seen (While n guard body r) y.point w b x
      deepen x s e q = record {
        text = text (n ∷ q.text.loops) q.text.front q.text.code;
        listed = there (in_left (texts r (Post n)) (in_map (deeper n) (x.0, q.text) (texts body Body) q.listed));
        fits = record { callee = q.fits.callee; loop = q.fits.loop; headed = q.fits.headed };
        outcome = go q.outcome;
      }
        where
          go : Reaches (InLoop n F.index ∷ w) (round_at F.index) q.text x.1 ⊎ Stops (InLoop n F.index ∷ w) q.text x.1 → Reaches w b (text (n ∷ q.text.loops) q.text.front q.text.code) x.1 ⊎ Stops w (text (n ∷ q.text.loops) q.text.front q.text.code) x.1
          go (inl o) = inl (record {
            path = o.path;
            place = o.place;
            front = o.front;
            led = o.led;
            same_earlier = o.same_earlier;
            same_sites = o.same_sites;
            point = o.point;
            spot_is = o.spot_is;
            goes = λ rest p. at_state s e (takes q.text.loops ++ rest) p ∙ o.goes rest p;
            needs = λ rest p k. state_needs s e (takes q.text.loops ++ rest) p (o.needs rest p k);
          })
          go (inr o) = inr (record { loop = o.loop; chain = o.chain; over = o.over; stops = λ rest p. at_state s e (takes q.text.loops ++ rest) p ∙ o.stops rest p; needs = λ rest p. state_needs s e (takes q.text.loops ++ rest) p (o.needs rest p) })

      head_is : F.value ≡ (head_of dom engine b.scope.thresholds b.sites n guard (block dom engine b.scope b.sites body) y.value.value).value
      head_is = refl

      seen_loop : ((k : ℕ) → k < N → Each (SeenAt body Body (InLoop n k ∷ w) (round_at k)) (SPB (round_at k).first.value.value)) → (v : Value S) → F.value ≡ v → Each (SeenAt (While n guard body r) y.point w b) (SPB (lift (dom.assume guard true) (head_of dom engine b.scope.thresholds b.sites n guard (block dom engine b.scope b.sites body) y.value.value).value))
      seen_loop rec (Over j z) e =
          let h = sym head_is ∙ e in
          record {
            at = λ x m.
                let s = (shown b.scope.thresholds b.sites (calls_of dom engine b.scope.earlier b.sites) body Body _).at x m in
                let o = (over_spots b.scope.thresholds b.sites (calls_of dom engine b.scope.earlier b.sites) j z body _ (ap (lift (dom.assume guard true)) h)).at x m in
                record {
                  text = text (n ∷ s.text.loops) s.text.front s.text.code;
                  listed = there (in_left (texts r (Post n)) (in_map (deeper n) (x.0, s.text) (texts body Body) s.listed));
                  fits = record { callee = s.fits.callee; loop = s.fits.loop; headed = s.fits.headed };
                  outcome = inr (record { loop = j; chain = z; over = o; stops = λ rest p. at_over j z e (takes s.text.loops ++ rest) p; needs = λ rest p. over_needs j z e (takes s.text.loops ++ rest) p });
                };
          }
      seen_loop rec (State s) e =
          let i = fix_index dom engine b.scope.thresholds (one_round dom engine b.scope b.sites guard body) n b.sites y.value.value s e in
          let same = iterate_is dom engine program all w b n guard body r y l F.index ∙ i.1 ∙ sym e ∙ head_is in
          subst (λ v. Each (SeenAt (While n guard body r) y.point w b) (SPB (lift (dom.assume guard true) v))) same
          (each_as (SeenAt body Body (InLoop n F.index ∷ w) (round_at F.index)) (SeenAt (While n guard body r) y.point w b) _ (λ x q. deepen x s e q) (rec F.index i.0))

    -- Each statement of a block is seen, from a mark of it on.
    pub seen : (c : Code) (w : List NameFrame) (b : P) (x : M) → to dom engine program all w ≡ Some b → ((p : ℕ × At (Cell S)) → Member p (level engine A b.scope b.sites c x) → Member p (level_of engine A b)) → Each (SeenAt c x.point w b) (spots dom engine b.scope.thresholds b.sites (calls_of dom engine b.scope.earlier b.sites) c x.value.value)
    seen Stop w b x e k = none_there (SeenAt Stop x.point w b)
    seen (Simple n effect r) w b x e k =
        let l : Led dom engine program all w b x (Simple n effect r) = record { leads = e; fine = fine engine A program all w b e; stands = record { there = k _ here } } in
        let u = behind_it engine A b.scope b.sites (Simple n effect r) x in
        each_more (SeenAt (Simple n effect r) x.point w b) _ _ (seen_here w b x (Simple n effect r) n _ l here (record { callee = refl; loop = λ v e. absurd cc; headed = λ e. absurd cc }) refl)
        (seen_more w b r (Simple n effect r) (Post n) x.point (λ x. there) _ (seen r w b u e (λ p m. k p (there m))))
    seen (If n guard t q r) w b x e k =
        let c = If n guard t q r in
        let l : Led dom engine program all w b x (If n guard t q r) = record { leads = e; fine = fine engine A program all w b e; stands = record { there = k _ here } } in
        let ut = inside engine A b.scope b.sites true n guard x in
        let ue = inside engine A b.scope b.sites false n guard x in
        let u = behind_it engine A b.scope b.sites (If n guard t q r) x in
        let lt = level engine A b.scope b.sites t ut in
        let le = level engine A b.scope b.sites q ue in
        each_more (SeenAt c x.point w b) _ _ (seen_here w b x (If n guard t q r) n _ l here (record { callee = refl; loop = λ v e. absurd cc; headed = λ e. absurd cc }) refl)
        (each_both (SeenAt c x.point w b) _ _ (seen_more w b t c (Then n) x.point (λ x m. there (in_left _ m)) _ (seen t w b ut e (λ p m. k p (there (in_left _ m)))))
        (each_both (SeenAt c x.point w b) _ _ (seen_more w b q c (Else n) x.point (λ x m. there (in_right (texts t (Then n)) (in_left _ m))) _ (seen q w b ue e (λ p m. k p (there (in_right lt (in_left _ m))))))
        (seen_more w b r c (Post n) x.point (λ x m. there (in_right (texts t (Then n)) (in_right (texts q (Else n)) m))) _ (seen r w b u e (λ p m. k p (there (in_right lt (in_right le m))))))))
    seen (While n guard body r) w b x e k =
        let l : Led dom engine program all w b x (While n guard body r) = record { leads = e; fine = fine engine A program all w b e; stands = record { there = k _ here } } in
        let u = behind_it engine A b.scope b.sites (While n guard body r) x in
        let rec = λ (i : ℕ) (h : i < N). seen body (InLoop n i ∷ w) (round_at w b n guard body r x l i) (round_at w b n guard body r x l i).first (round_found dom engine program all w b n guard body r x l i h) (λ p m. m) in
        each_more (SeenAt (While n guard body r) x.point w b) _ _ (seen_here w b x (While n guard body r) n _ l here (record { callee = refl; loop = λ v e. refl; headed = λ e. (_, refl) }) refl)
        (each_both (SeenAt (While n guard body r) x.point w b) _ _ (seen_loop w b n guard body r x l rec (fix_value dom engine b.scope b.sites n guard body x.value).value refl)
        (seen_more w b r (While n guard body r) (Post n) x.point (λ x m. there (in_right (map (deeper n) (texts body Body)) m)) _ (seen r w b u e (λ p m. k p (there m)))))
    seen (Call n call q r) w b x e k =
        let l : Led dom engine program all w b x (Call n call q r) = record { leads = e; fine = fine engine A program all w b e; stands = record { there = k _ here } } in
        let u = behind_it engine A b.scope b.sites (Call n call q r) x in
        each_more (SeenAt (Call n call q r) x.point w b) _ _ (seen_here w b x (Call n call q r) n _ l here (record { callee = refl; loop = λ v e. absurd cc; headed = λ e. absurd cc }) refl)
        (seen_more w b r (Call n call q r) (Post n) x.point (λ x. there) _ (seen r w b u e (λ p m. k p (there m))))
    seen (Break n r) w b x e k =
        let l : Led dom engine program all w b x (Break n r) = record { leads = e; fine = fine engine A program all w b e; stands = record { there = k _ here } } in
        let u = behind_it engine A b.scope b.sites (Break n r) x in
        each_more (SeenAt (Break n r) x.point w b) _ _ (seen_here w b x (Break n r) n _ l here (record { callee = refl; loop = λ v e. absurd cc; headed = λ e. absurd cc }) refl)
        (seen_more w b r (Break n r) (Post n) x.point (λ x. there) _ (seen r w b u e (λ p m. k p (there m))))
