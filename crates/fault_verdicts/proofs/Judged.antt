-- What verdicts at a state say of what the state describes.
use Rattle.std.specs.Prelude.{◌≡◌, ℕ, ◌==◌, List, [], ◌∷◌, ◌++◌, Bool, true, false, if◌then◌else◌, ◌⊎◌}
use Rattle.std.proofs.Common.{refl, sym, ap, ◌∙◌, subst, inl, inr}
use Rattle.std.proofs.lemmas.Bool.{eqb-true, eq-eqb, or_cases}
use Rattle.imp_slots.specs.Plain.{Layout, Guard, Not, Assert, Does}
use Rattle.imp_slots.specs.Fits.{fits_guard, fits_effect}
use Rattle.imp_words.specs.declared.fault.FaultKind.{FaultKind}
use Rattle.imp_words.specs.declared.fault.FaultKind.TheVariants.{Overflow, Zero, Length, Index, Null, Assert as Failed}
use Rattle.imp_words.specs.declared.verdict.Verdict.{Verdict}
use Rattle.imp_words.specs.declared.verdict.Verdict.TheVariants as of_check
use Rattle.concrete_sem.specs.Values.{Variables, Heap, Gives, Faults, andthen}
use Rattle.concrete_sem.specs.Evaluation.{truth_of}
use Rattle.concrete_sem.specs.Effects.{effect_of}
use Rattle.concrete_sem.specs.Proper.{IsProper}
use Rattle.domain_laws.specs.Checks.{Claims}
use Rattle.domain_laws.specs.Operations.{Operations}
use Rattle.domain_laws.specs.Laws.{Laws}
use Rattle.base_values.proofs.Members.{Member, here, there, in_left, in_right}
use Rattle.fault_points.specs.declared.point.FaultPoint.{FaultPoint}
use Rattle.fault_points.specs.Exact.{NoneFails, SomeFails}
use Rattle.fault_points.proofs.Fitting.{ClaimsFit}
use Rattle.fault_points.proofs.Sequences.{negated}
use Rattle.fault_words.specs.declared.finding.FaultVerdict.{FaultVerdict}
use Rattle.fault_words.specs.declared.finding.FaultVerdict.TheVariants.{Dead, Safe, May, Fails}
use Rattle.fault_verdicts.specs.Verdicts.{rank, same_kind, told, stronger, verdict_at, verdict_of, is_among, with_kind, kinds_after, kinds_of}

-- kinds are told apart by their ranks
abbrev kind_at : ℕ → FaultKind
kind_at n = if n == 0 then Overflow else (if n == 1 then Zero else (if n == 2 then Length else (if n == 3 then Index else (if n == 4 then Null else Failed))))

kind_of_rank : (k : FaultKind) → kind_at (rank k) ≡ k
kind_of_rank Overflow = refl
kind_of_rank Zero = refl
kind_of_rank Length = refl
kind_of_rank Index = refl
kind_of_rank Null = refl
kind_of_rank Failed = refl

same_of : (j k : FaultKind) → same_kind j k ≡ true → j ≡ k
same_of j k e = sym (kind_of_rank j) ∙ ap kind_at (eqb-true (rank j) (rank k) e) ∙ kind_of_rank k

of_same : (j k : FaultKind) → j ≡ k → same_kind j k ≡ true
of_same j k e = eq-eqb (rank j) (rank k) (ap rank e)

told_safe : (c o : Verdict) → told c o ≡ Safe → c ≡ of_check.Safe
told_safe of_check.Dead o e = absurd (cc)
told_safe of_check.Safe o e = refl
told_safe of_check.May of_check.Dead e = absurd (cc)
told_safe of_check.May of_check.Safe e = absurd (cc)
told_safe of_check.May of_check.May e = absurd (cc)

told_dead : (c o : Verdict) → told c o ≡ Dead → (c ≡ of_check.Dead) ⊎ (o ≡ of_check.Dead)
told_dead of_check.Dead o e = inl refl
told_dead of_check.Safe o e = absurd (cc)
told_dead of_check.May of_check.Dead e = inr refl
told_dead of_check.May of_check.Safe e = absurd (cc)
told_dead of_check.May of_check.May e = absurd (cc)

told_fails : (c o : Verdict) → told c o ≡ Fails → o ≡ of_check.Safe
told_fails of_check.Dead o e = absurd (cc)
told_fails of_check.Safe o e = absurd (cc)
told_fails of_check.May of_check.Dead e = absurd (cc)
told_fails of_check.May of_check.Safe e = refl
told_fails of_check.May of_check.May e = absurd (cc)

stronger_safe : (a b : FaultVerdict) → stronger a b ≡ Safe → (a ≡ Safe) × (b ≡ Safe)
stronger_safe Dead b e = absurd (cc)
stronger_safe Safe b e = (refl, e)
stronger_safe May Dead e = absurd (cc)
stronger_safe May Safe e = absurd (cc)
stronger_safe May May e = absurd (cc)
stronger_safe May Fails e = absurd (cc)
stronger_safe Fails Dead e = absurd (cc)
stronger_safe Fails Safe e = absurd (cc)
stronger_safe Fails May e = absurd (cc)
stronger_safe Fails Fails e = absurd (cc)

stronger_dead : (a b : FaultVerdict) → stronger a b ≡ Dead → (a ≡ Dead) ⊎ (b ≡ Dead)
stronger_dead Dead b e = inl refl
stronger_dead Safe b e = inr e
stronger_dead May Dead e = inr refl
stronger_dead May Safe e = absurd (cc)
stronger_dead May May e = absurd (cc)
stronger_dead May Fails e = absurd (cc)
stronger_dead Fails Dead e = inr refl
stronger_dead Fails Safe e = absurd (cc)
stronger_dead Fails May e = absurd (cc)
stronger_dead Fails Fails e = absurd (cc)

stronger_fails : (a b : FaultVerdict) → stronger a b ≡ Fails → (a ≡ Fails) ⊎ (b ≡ Fails)
stronger_fails Dead b e = absurd (cc)
stronger_fails Safe b e = inr e
stronger_fails May Dead e = absurd (cc)
stronger_fails May Safe e = absurd (cc)
stronger_fails May May e = absurd (cc)
stronger_fails May Fails e = inr refl
stronger_fails Fails Dead e = absurd (cc)
stronger_fails Fails Safe e = inl refl
stronger_fails Fails May e = inl refl
stronger_fails Fails Fails e = inl refl

-- the kinds of points are all told
stays : (k : FaultKind) (ks : List FaultKind) (j : FaultKind) → Member k ks → Member k (with_kind ks j)
stays k ks j m = by (is_among j ks)
  where
    by : (b : Bool) → Member k (if b then ks else ks ++ (j ∷ []))
    by true = m
    by false = in_left (j ∷ []) m

among : (k : FaultKind) (ks : List FaultKind) → is_among k ks ≡ true → Member k ks
among k [] e = absurd (cc)
among k (j ∷ js) e = elim (or_cases (same_kind j k) (is_among k js) e) [
  | inl s ↦ subst (λ j. Member k (j ∷ js)) (sym (same_of j k s)) here
  | inr m ↦ there (among k js m)
]

is_added : (k : FaultKind) (ks : List FaultKind) → Member k (with_kind ks k)
is_added k ks = by (is_among k ks) refl
  where
    by : (b : Bool) → is_among k ks ≡ b → Member k (if b then ks else ks ++ (k ∷ []))
    by true e = among k ks e
    by false e = in_right ks here

kept : (k : FaultKind) (ks : List FaultKind) (ps : List FaultPoint) → Member k ks → Member k (kinds_after ks ps)
kept k ks [] m = m
kept k ks (p ∷ ps) m = kept k (with_kind ks p.kind) ps (stays k ks p.kind m)

kind_after : (v : Variables) (k : FaultKind) (ks : List FaultKind) (ps : List FaultPoint) → SomeFails v k ps → Member k (kinds_after ks ps)
kind_after v k ks [] s = absurd s
kind_after v k ks (p ∷ ps) (inl f) = kept k (with_kind ks p.kind) ps (subst (λ j. Member j (with_kind ks p.kind)) f.0 (is_added p.kind ks))
kind_after v k ks (p ∷ ps) (inr s) = kind_after v k (with_kind ks p.kind) ps s

pub kind_told : (v : Variables) (k : FaultKind) (ps : List FaultPoint) → SomeFails v k ps → Member k (kinds_of ps)
kind_told v k ps s = kind_after v k [] ps s

module _ {S : Type 0} (dom : Operations S) (covers : S → Heap → List Variables → Type 0) (laws : Laws dom covers) (l : Layout) (s : S) (h : Heap) (v : Variables) (fits : dom.fits s (l ∷ []) ≡ true) (proper : IsProper h (v ∷ []) (l ∷ [])) (covered : covers s h (v ∷ [])) where
  asserted : (g : Guard) → fits_guard l g ≡ true → fits_effect l (Assert g) ≡ true
  unfolding fits_effect
  asserted g f = f

  not_fits : (g : Guard) → fits_guard l g ≡ true → fits_guard l (Not g) ≡ true
  unfolding fits_guard
  not_fits g f = f

  fails_then : (g : Guard) → truth_of v g ≡ Gives false → effect_of (Assert g) h v ≡ Faults Failed
  unfolding effect_of
  fails_then g t = ap (λ m. andthen m (λ b. if b then Gives (h, v) else Faults Failed)) t

  never_dead : (g : Guard) → fits_guard l g ≡ true → dom.check (Does (Assert g)) s ≡ of_check.Dead → ⊥
  never_dead g f e = laws.dead_verdict (Assert g) (Claims g) l [] s h (v ∷ []) refl (asserted g f) fits proper e covered

  never_safe : (g : Guard) → fits_guard l g ≡ true → dom.check (Does (Assert g)) s ≡ of_check.Safe → truth_of v g ≡ Gives false → ⊥
  never_safe g f e t = laws.safe_verdict (Assert g) (Claims g) l [] s h v [] refl (asserted g f) fits proper e covered (fails_then g t)

  dead_at : (g : Guard) → fits_guard l g ≡ true → verdict_at dom s g ≡ Dead → ⊥
  dead_at g f e = elim (told_dead (dom.check (Does (Assert g)) s) (dom.check (Does (Assert (Not g))) s) e) [
    | inl d ↦ never_dead g f d
    | inr d ↦ never_dead (Not g) (not_fits g f) d
  ]

  safe_at : (g : Guard) → fits_guard l g ≡ true → verdict_at dom s g ≡ Safe → truth_of v g ≡ Gives false → ⊥
  safe_at g f e t = never_safe g f (told_safe (dom.check (Does (Assert g)) s) (dom.check (Does (Assert (Not g))) s) e) t

  fails_at : (g : Guard) → fits_guard l g ≡ true → verdict_at dom s g ≡ Fails → truth_of v g ≡ Gives true → ⊥
  fails_at g f e t = never_safe (Not g) (not_fits g f) (told_fails (dom.check (Does (Assert g)) s) (dom.check (Does (Assert (Not g))) s) e) (negated v g true false refl t)

  pub safe_of : (k : FaultKind) (ps : List FaultPoint) → ClaimsFit l ps → verdict_of dom s k ps ≡ Safe → SomeFails v k ps → ⊥
  safe_of k [] f e n = n
  safe_of k (p ∷ ps) f e n = by (λ e m. safe_of k ps f.1 e m) (same_kind p.kind k) refl e n
    where
      by : (verdict_of dom s k ps ≡ Safe → SomeFails v k ps → ⊥) → (b : Bool) → same_kind p.kind k ≡ b → (if b then stronger (verdict_at dom s p.claim) (verdict_of dom s k ps) else verdict_of dom s k ps) ≡ Safe → SomeFails v k (p ∷ ps) → ⊥
      by more true i e (inl m) = safe_at p.claim f.0 (stronger_safe (verdict_at dom s p.claim) (verdict_of dom s k ps) e).0 m.1
      by more true i e (inr m) = more (stronger_safe (verdict_at dom s p.claim) (verdict_of dom s k ps) e).1 m
      by more false i e (inl m) = let j : false ≡ true = sym i ∙ of_same p.kind k m.0 in cc
      by more false i e (inr m) = more e m

  pub dead_of : (k : FaultKind) (ps : List FaultPoint) → ClaimsFit l ps → verdict_of dom s k ps ≡ Dead → ⊥
  dead_of k [] f e = cc
  dead_of k (p ∷ ps) f e = by (λ e. dead_of k ps f.1 e) (same_kind p.kind k) e
    where
      by : (verdict_of dom s k ps ≡ Dead → ⊥) → (b : Bool) → (if b then stronger (verdict_at dom s p.claim) (verdict_of dom s k ps) else verdict_of dom s k ps) ≡ Dead → ⊥
      by more true e = elim (stronger_dead (verdict_at dom s p.claim) (verdict_of dom s k ps) e) [
        | inl d ↦ dead_at p.claim f.0 d
        | inr d ↦ more d
      ]
      by more false e = more e

  pub fails_of : (k : FaultKind) (ps : List FaultPoint) → ClaimsFit l ps → verdict_of dom s k ps ≡ Fails → NoneFails v ps → ⊥
  fails_of k [] f e n = cc
  fails_of k (p ∷ ps) f e n = by (λ e. fails_of k ps f.1 e n.1) (same_kind p.kind k) e
    where
      by : (verdict_of dom s k ps ≡ Fails → ⊥) → (b : Bool) → (if b then stronger (verdict_at dom s p.claim) (verdict_of dom s k ps) else verdict_of dom s k ps) ≡ Fails → ⊥
      by more true e = elim (stronger_fails (verdict_at dom s p.claim) (verdict_of dom s k ps) e) [
        | inl d ↦ fails_at p.claim f.0 d n.0
        | inr d ↦ more d
      ]
      by more false e = more e
