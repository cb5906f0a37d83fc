-- Following keeps states that fit.
use Rattle.std.specs.Prelude.{◌≡◌, ℕ, List, [], ◌∷◌, ◌++◌, length, reverse, slice_get, Option, Some, None, Bool, true, false, if◌then◌else◌}
use Rattle.std.proofs.Common.{refl, sym, ap, ◌∙◌, arith, subst}
use Rattle.imp_slots.specs.Plain.{Layout, DoBreak, Does, Code, Stop, Simple, If, While, Call, Break, Routine, code_numbers}
use Rattle.imp_slots.specs.Fits.{FitsCode, IsChecked}
use Rattle.concrete_sem.specs.Values.{Variables, Heap}
use Rattle.imp_chains.specs.Claims.{PlacesAreFound}
use Rattle.domain_laws.specs.Operations.{Operations}
use Rattle.domain_laws.specs.Laws.{Laws}
use Rattle.base_values.proofs.Cases.{by_test}
use Rattle.base_values.proofs.Members.{Member, here, there, in_left, in_right}
use Rattle.batch_meaning.proofs.Procedures.{look, look_get, look_below, FitBack}
use Rattle.batch_sound.proofs.Fitting.{callee}
use Rattle.batch_sound.proofs.Chains.{has_member}
use Rattle.cert_meaning.specs.Followed.{Followed, Passes, Fails, passing, with_leaving, unless, where_written, joined, followed, followed_procedure}
use Rattle.cert_meaning.specs.Chained.{layout_of, layout_around, layouts_around}
use Rattle.cert_sound.specs.Theorem.{AreOfFrames}
use Rattle.std.proofs.lemmas.Option.{same_Some}

-- these procedures, the last one first, stand in the program
abbrev pub InProgram : List Routine → List Routine → Type 0
InProgram program earlier = (q : ℕ) (t : Routine) → look earlier q ≡ Some t → slice_get program q ≡ Some t

pub earlier_in : (program : List Routine) (r : Routine) (earlier : List Routine) → InProgram program (r ∷ earlier) → InProgram program earlier
earlier_in program r earlier i q t at =
    i q t (by_test q (length earlier) (λ c. (if c then Some r else look earlier q) ≡ Some t) (λ k. absurd (omega (arith, look_below earlier q t at))) (λ k. at))

pub last_at : (r : Routine) (earlier : List Routine) → look (r ∷ earlier) (length earlier) ≡ Some r
last_at r earlier = by_test (length earlier) (length earlier) (λ c. (if c then Some r else look earlier (length earlier)) ≡ Some r) (λ k. refl) (λ k. absurd (k refl))

-- the statements of a block are of procedures with this layout
abbrev pub AreOf : List Routine → Layout → Code → Type 0
AreOf program l c = (k : ℕ) → Member k (code_numbers c) → layout_around program k ≡ l

pub are_of : (program : List Routine) → IsChecked program → PlacesAreFound → (p : ℕ) (r : Routine) → slice_get program p ≡ Some r → AreOf program r.layout r.code
are_of program checked places p r at k m = ap (layout_of program) ((places program checked p r at).statement k (has_member k (code_numbers r.code) m)) ∙ around
  where
    around : layout_of program (Some p) ≡ r.layout
    around = rw at refl

module _ {S : Type 0} (dom : Operations S) (leq : S → S → Bool) (written : List ℕ → ℕ → Option S) (covers : S → Heap → List Variables → Type 0) (laws : Laws dom covers) (program : List Routine) (frames : AreOfFrames dom program written) where
  abbrev pub EachFit : List Layout → List S → Type 0
  EachFit ls [] = Unit {0}
  EachFit ls (x ∷ xs) = (dom.fits x ls ≡ true) × EachFit ls xs

  -- what following comes to fits
  abbrev pub DoesFit : List Layout → Followed S → Type 0
  DoesFit ls (Passes b es) = (dom.fits b ls ≡ true) × EachFit ls es
  DoesFit ls (Fails n z why) = Unit {0}

  pub fit_both : (ls : List Layout) (xs ys : List S) → EachFit ls xs → EachFit ls ys → EachFit ls (xs ++ ys)
  fit_both ls [] ys f g = g
  fit_both ls (x ∷ xs) ys f g = (f.0, fit_both ls xs ys f.1 g)

  pub fit_joined : (ls : List Layout) (s : S) (xs : List S) → dom.fits s ls ≡ true → EachFit ls xs → dom.fits (joined dom s xs) ls ≡ true
  fit_joined ls s [] f g = f
  fit_joined ls s (x ∷ xs) f g = fit_joined ls (dom.join s x) xs (laws.fitting.join ls s x f g.0) g.1

  fit_passing : (ls ks : List Layout) (r : Followed S) (f : S → List S → Followed S) → DoesFit ks r → ((s : S) (ss : List S) → dom.fits s ks ≡ true → EachFit ks ss → DoesFit ls (f s ss)) → DoesFit ls (passing r f)
  fit_passing ls ks (Passes s ss) f d g = g s ss d.0 d.1
  fit_passing ls ks (Fails n z why) f d g = tt

  fit_after : (ls : List Layout) (xs : List S) (r : Followed S) → EachFit ls xs → DoesFit ls r → DoesFit ls (with_leaving xs r)
  fit_after ls xs (Passes s ss) f d = (d.0, fit_both ls xs ss f d.1)
  fit_after ls xs (Fails n z why) f d = tt

  fit_unless : (ls : List Layout) (b : Bool) (fault r : Followed S) → DoesFit ls fault → DoesFit ls r → DoesFit ls (unless b fault r)
  fit_unless ls true fault r f d = d
  fit_unless ls false fault r f d = f

  fit_written : (ls : List Layout) (o : Option S) (fault : Followed S) (f : S → Followed S) → DoesFit ls fault → ((x : S) → o ≡ Some x → DoesFit ls (f x)) → DoesFit ls (where_written o fault f)
  fit_written ls None fault f d g = d
  fit_written ls (Some x) fault f d g = g x refl

  -- what is written of a loop of a frame fits the frames there
  pub written_fits : (z : List ℕ) (l : Layout) (ls : List Layout) (n : ℕ) (x : S) → layouts_around program z ≡ ls → layout_around program n ≡ l → written z n ≡ Some x → dom.fits x (l ∷ ls) ≡ true
  written_fits z l ls n x known own e = subst (λ k. dom.fits x (k ∷ ls) ≡ true) own (subst (λ ks. dom.fits x (layout_around program n ∷ ks) ≡ true) known (frames z n x e))

  -- the body of a callee gives states that fit
  abbrev pub CallsFit : (l : Layout) → (ls : List Layout) → (earlier : List Routine) → (z : List ℕ) → Type 0
  CallsFit l ls earlier z =
      (n q : ℕ) (t : Routine) (v : S) → layout_around program n ≡ l → look earlier q ≡ Some t → dom.fits v (t.layout ∷ l ∷ ls) ≡ true →
      DoesFit (t.layout ∷ l ∷ ls) (followed_procedure dom leq written earlier (n ∷ z) q v)

  module _ (z : List ℕ) (l : Layout) (ls : List Layout) (known : layouts_around program z ≡ ls) (earlier : List Routine) (calls : CallsFit l ls earlier z) where
    pub block_fit : (c : Code) (a : S) → FitsCode (reverse earlier) l c → AreOf program l c → dom.fits a (l ∷ ls) ≡ true → DoesFit (l ∷ ls) (followed dom leq written z (λ n. followed_procedure dom leq written earlier (n ∷ z)) c a)
    block_fit Stop a suits own f = (f, tt)
    block_fit (Simple n e r) a suits own f = block_fit r (dom.post (Does e) a) suits.1 (λ k m. own k (there m)) (laws.fitting.post (Does e) l ls a suits.0 f)
    block_fit (If n g t e r) a suits own f =
        fit_passing (l ∷ ls) (l ∷ ls) _ _ (block_fit t (dom.assume g true a) suits.1 (λ k m. own k (there (in_left _ m))) (laws.fitting.assume g true l ls a suits.0 f))
        (λ x xs fx fxs.
        fit_passing (l ∷ ls) (l ∷ ls) _ _ (block_fit e (dom.assume g false a) suits.2 (λ k m. own k (there (in_right (code_numbers t) (in_left _ m)))) (laws.fitting.assume g false l ls a suits.0 f))
        (λ y ys fy fys.
        fit_after (l ∷ ls) (xs ++ ys) _ (fit_both (l ∷ ls) xs ys fxs fys)
        (block_fit r (dom.join x y) suits.3 (λ k m. own k (there (in_right (code_numbers t) (in_right (code_numbers e) m)))) (laws.fitting.join (l ∷ ls) x y fx fy))))
    block_fit (While n g b r) a suits own f =
        fit_written (l ∷ ls) (written z n) _ _ tt
        (λ x k.
        let fx = written_fits z l ls n x known (own n here) k in
        fit_unless (l ∷ ls) (leq a x) _ _ tt
        (fit_passing (l ∷ ls) (l ∷ ls) _ _ (block_fit b (dom.assume g true x) suits.1 (λ k m. own k (there (in_left _ m))) (laws.fitting.assume g true l ls x suits.0 fx))
        (λ y ys fy fys.
        fit_unless (l ∷ ls) (leq y x) _ _ tt
        (block_fit r (joined dom (dom.assume g false x) ys) suits.2 (λ k m. own k (there (in_right (code_numbers b) m)))
        (fit_joined (l ∷ ls) (dom.assume g false x) ys (laws.fitting.assume g false l ls x suits.0 fx) fys)))))
    block_fit (Call n i q r) a suits own f =
        let o = callee (reverse earlier) l i q suits.0 in
        let enters = subst (λ k. dom.fits (dom.enter i.entering a) (k ∷ l ∷ ls) ≡ true) (sym o.layout) (laws.fitting.enter i l ls a o.fits f) in
        fit_passing (l ∷ ls) (o.routine.layout ∷ l ∷ ls) _ _ (calls n q o.routine (dom.enter i.entering a) (own n here) (look_get earlier q ∙ o.at) enters)
        (λ d ds fd fds.
        block_fit r (dom.leave i.returning a d) suits.1 (λ k m. own k (there m))
        (laws.fitting.leave i l ls a d o.fits f (subst (λ k. dom.fits d (k ∷ l ∷ ls) ≡ true) o.layout fd)))
    block_fit (Break n r) a suits own f = fit_after (l ∷ ls) (a ∷ []) _ (f, tt) (block_fit r (dom.post DoBreak a) suits (λ k m. own k (there m)) (laws.fitting.post DoBreak l ls a refl f))

  pub procedure_fit : IsChecked program → PlacesAreFound → (earlier : List Routine) → FitBack earlier → InProgram program earlier → (l : Layout) (ls : List Layout) (z : List ℕ) → layouts_around program z ≡ ls → CallsFit l ls earlier z
  procedure_fit checked places [] fb inp l ls z known n q t v own at f = absurd cc
  procedure_fit checked places (r ∷ earlier) fb inp l ls z known n q t v own at f =
      (by_test q (length earlier)
      (λ c. (if c then Some r else look earlier q) ≡ Some t → DoesFit (t.layout ∷ l ∷ ls) (if c then followed dom leq written (n ∷ z) (λ m. followed_procedure dom leq written earlier (m ∷ n ∷ z)) r.code v else followed_procedure dom leq written earlier (n ∷ z) q v))
      (λ e at. body (same_Some r t at) (procedure_fit checked places earlier fb.1 (earlier_in program r earlier inp) r.layout (l ∷ ls) (n ∷ z) around))
      (λ e at. procedure_fit checked places earlier fb.1 (earlier_in program r earlier inp) l ls z known n q t v own at f)) at
    where
      around : layouts_around program (n ∷ z) ≡ l ∷ ls
      around = ap (λ k. k ∷ layouts_around program z) own ∙ ap (λ ks. l ∷ ks) known

      body : r ≡ t → CallsFit r.layout (l ∷ ls) earlier (n ∷ z) → DoesFit (t.layout ∷ l ∷ ls) (followed dom leq written (n ∷ z) (λ m. followed_procedure dom leq written earlier (m ∷ n ∷ z)) r.code v)
      body e calls =
          let le : r.layout ≡ t.layout = ap (λ (r : Routine). r.layout) e in
          subst (λ k. DoesFit (k ∷ l ∷ ls) (followed dom leq written (n ∷ z) (λ m. followed_procedure dom leq written earlier (m ∷ n ∷ z)) r.code v)) le
          (block_fit (n ∷ z) r.layout (l ∷ ls) around earlier calls r.code v fb.0
          (are_of program checked places (length earlier) r (inp (length earlier) r (last_at r earlier)))
          (subst (λ k. dom.fits v (k ∷ l ∷ ls) ≡ true) (sym le) f))
