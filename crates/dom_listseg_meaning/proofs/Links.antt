-- What comparisons of links tell, and what assuming a guard keeps and describes.
use Rattle.std.proofs.Common.{◌≡◌, ℕ, Bool, true, not, if◌then◌else◌, List, ◌∷◌, inl, inr, Option, None, Some, refl, sym, ◌∙◌, ap, subst}
use Rattle.std.specs.Prelude.{◌↔◌}
use Rattle.std.specs.Cmp.{both_ways}
use Rattle.std.proofs.lemmas.Bool.Decides.{nat_tests}
use Rattle.std.proofs.Common.{arith}
use Rattle.imp_slots.specs.Plain.{Layout, Guard}
use Rattle.imp_slots.specs.Fits.{fits_guard}
use Rattle.concrete_sem.specs.Values.{Variables, Gives}
use Rattle.concrete_sem.specs.Evaluation.{truth_of, same_link, side_at}
use Rattle.domain_laws.specs.Guards.{Compares, Tells}
use Rattle.domain_laws.proofs.GuardLaws.{assumed-fits, assumed-covers}
use Rattle.shape_graph.specs.Shape.{Shape, IsGraph}
use Rattle.shape_graph.specs.Covers.{Covers}
use Rattle.shape_steps.specs.Steps.{slot_of, argument_of}
use Rattle.shape_steps.proofs.Concrete.{slot-null, slot-cell, slots-equal}
use Rattle.dom_listseg_meaning.specs.State.{Segments, Top, Graphs}
use Rattle.dom_listseg_meaning.specs.Sets.{union}
use Rattle.dom_listseg_meaning.specs.Operations.{agrees, compare, compare_links, join, assume}
use Rattle.dom_listseg_meaning.specs.Covers.{main_first}
use Rattle.dom_listseg_meaning.proofs.Members.{union-from}
use Rattle.dom_listseg_meaning.proofs.Rising.{union_rises}
use Rattle.dom_listseg_meaning.proofs.Frames.{slot_of-push}
use Rattle.dom_listseg_meaning.proofs.Fitting.{FitsState, capped-fits, kept-fits}
use Rattle.dom_listseg_meaning.proofs.Covering.{Describes, kept-describes, join-left, join-right}

pub same-is : (a b : Option ℕ) → same_link a b ≡ true → a ≡ b
same-is None None h = refl
same-is None (Some k) h = cc
same-is (Some j) None h = cc
same-is (Some j) (Some k) h = let e : j ≡ k = grind (arith, nat_tests) in ap Some e

same-self : (a : Option ℕ) → same_link a a ≡ true
same-self None = refl
same-self (Some k) = grind (arith, nat_tests)

is-same : (a b : Option ℕ) → a ≡ b → same_link a b ≡ true
is-same a b e = subst (λ x. same_link a x ≡ true) e (same-self a)

-- the side of a comparison, as what stands in a slot of the last frame
pub side-is : (vs : List Variables) (v : Variables) (p : Option ℕ) → argument_of (main_first (v ∷ vs)) p ≡ side_at v p
side-is vs v None = refl
side-is vs v (Some p) = slot_of-push (main_first vs) v.links p

module _ (g : Shape) (variables : List (List (Option ℕ))) (heap : List (Option ℕ)) (ok : IsGraph g) (c : Covers g variables heap) where
  -- a slot is nil where its variable is null
  null-nil : (b : ℕ) → slot_of variables b ≡ None → slot_of g.frames b ≡ None
  null-nil b e = by (slot_of g.frames b) refl
    where
      by : (t : Option ℕ) → slot_of g.frames b ≡ t → slot_of g.frames b ≡ None
      by None d = d
      by (Some k) d = let w = slot-cell g variables heap b k ok d c in absurd (let f : None ≡ Some w.0 = sym e ∙ w.1 in cc)

  -- two sides are equal exactly where their targets are
  sides-equal : (p q : Option ℕ) → (argument_of g.frames p ≡ argument_of g.frames q) ↔ (argument_of variables p ≡ argument_of variables q)
  sides-equal None None = (λ e. refl, λ e. refl)
  sides-equal None (Some b) = (λ e. sym (slot-null g variables heap b (sym e) c), λ e. sym (null-nil b (sym e)))
  sides-equal (Some a) None = (λ e. slot-null g variables heap a e c, λ e. null-nil a e)
  sides-equal (Some a) (Some b) = slots-equal g variables heap a b ok c

  sides-same : (p q : Option ℕ) → same_link (argument_of g.frames p) (argument_of g.frames q) ≡ same_link (argument_of variables p) (argument_of variables q)
  sides-same p q =
      both_ways (same_link (argument_of g.frames p) (argument_of g.frames q)) (same_link (argument_of variables p) (argument_of variables q))
      (λ h. is-same (argument_of variables p) (argument_of variables q) ((sides-equal p q).0 (same-is (argument_of g.frames p) (argument_of g.frames q) h)))
      (λ h. is-same (argument_of g.frames p) (argument_of g.frames q) ((sides-equal p q).1 (same-is (argument_of variables p) (argument_of variables q) h)))

tells-agrees : (equal b d : Bool) → b ≡ d → (if equal then d else not d) ≡ true → (if equal then b else not b) ≡ true
tells-agrees equal b d e h = subst (λ x. (if equal then x else not x) ≡ true) (sym e) h

pub join-fits : (ns : List ℕ) (s t : Segments) → FitsState ns s → FitsState ns t → FitsState ns (join s t)
unfolding join
join-fits ns Top t f h = tt
join-fits ns (Graphs gs) Top f h = tt
join-fits ns (Graphs gs) (Graphs hs) f h =
    capped-fits ns (union gs hs) (union_rises gs hs f.rise) (λ g i. elim (union-from g gs hs i) [ inl j ↦ f.each_fits g j | inr j ↦ h.each_fits g j ])

pub compares : (ns : List ℕ) (l : Layout) → Compares compare compare_links join l (FitsState ns)
compares ns l = record {
  compare_keeps = λ r a b s f g h. h;
  links_keep = λ equal p q s f g h. kept-fits ns (agrees equal p q) s h;
  join_keeps = join-fits ns;
}

pub tells : (ns : List ℕ) (l : Layout) (vs : List Variables) (v : Variables) (heap : List (Option ℕ)) → Tells compare compare_links join l v (FitsState ns) (Describes (main_first (v ∷ vs)) heap)
tells ns l vs v heap = record {
  compare_tells = λ r a b x y s f g h i j k d. d;
  links_tell = λ equal p q s f g h t d. kept-describes ns (agrees equal p q) (main_first (v ∷ vs)) heap s h
      (λ k m c. tells-agrees equal _ _
      (sides-same k (main_first (v ∷ vs)) heap m.graph c p q ∙ λ i. same_link (side-is vs v p i) (side-is vs v q i)) t) d;
  join_left = λ s t f g d. join-left (main_first (v ∷ vs)) heap s t d;
  join_right = λ s t f g d. join-right (main_first (v ∷ vs)) heap s t d;
}

pub assume-fits : (ns : List ℕ) (l : Layout) (g : Guard) (b : Bool) (s : Segments) → fits_guard l g ≡ true → FitsState ns s → FitsState ns (assume g b s)
unfolding assume
assume-fits ns l g b s f h = assumed-fits compare compare_links join l (FitsState ns) (compares ns l) g b s f h

pub assume-describes : (ns : List ℕ) (l : Layout) (vs : List Variables) (v : Variables) (heap : List (Option ℕ)) (g : Guard) (b : Bool) (s : Segments) → fits_guard l g ≡ true → FitsState ns s → truth_of v g ≡ Gives b
    → Describes (main_first (v ∷ vs)) heap s → Describes (main_first (v ∷ vs)) heap (assume g b s)
unfolding assume
assume-describes ns l vs v heap g b s f h t d =
    assumed-covers compare compare_links join l v (FitsState ns) (Describes (main_first (v ∷ vs)) heap) (compares ns l) (tells ns l vs v heap) g b s f h t d
