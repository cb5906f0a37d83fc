-- Entries come of lines, and a yes is sound.
use Rattle.std.specs.Prelude.{◌≡◌, ◌+◌, ◌==◌, ◌&&◌, ℕ, suc, List, [], ◌∷◌, reverse, Option, Some, None, Contains, option_and_then, option_map, if◌then◌else◌}
use Rattle.std.proofs.Common.{refl, sym, ap, ◌∙◌, arith, subst}
use Rattle.std.specs.Str.{bytes_eq}
use Rattle.std.proofs.lemmas.Bool.{and_parts}
use Rattle.std.proofs.lemmas.Bool.Decides.{nat_tests}
use Rattle.std.proofs.lemmas.Slice.Eq.{bytes_eq-Decides}
use Rattle.serve_script.specs.Lines.{all_lines}
use Rattle.imp_slots.specs.Plain.{Routine}
use Rattle.concrete_sem.specs.Values.{Variables, Heap}
use Rattle.concrete_sem.specs.Reach.{call_sites}
use Rattle.concrete_sem.specs.WellFormed.{variables_of}
use Rattle.domain_laws.specs.Operations.{Operations}
use Rattle.base_values.proofs.Cases.{by_bool}
use Rattle.base_values.proofs.Members.{here, there, Each, none_there, each_more}
use Rattle.cert_meaning.specs.Portable.{Portable, PortableLaws}
use Rattle.cert_meaning.specs.Chained.{layouts_around}
use Rattle.cert_meaning.specs.Followed.{Followed, Passes, Fails, followed_program}
use Rattle.cert_sound.specs.Theorem.{AreOfFrames, IsCovered, AreCertificatesSound}
use Rattle.cert_lines.specs.Lines.{Line, line_of, CertEntry, written_in, Entries, Reads, Bad, unless_there, with_entry, is_loop_under, entry_in, entry_of, entries}
use Rattle.cert_lines.specs.Verify.{Yes, of_followed, of_entries, verify}
use Rattle.cert_lines.specs.Theorem.{IsWritten, IsYesSound}
use Rattle.std.proofs.lemmas.Option.{same_Some}

contains_later : {A : Type 0} (y : A) (x : A) (xs : List A) → Contains xs x → Contains (y ∷ xs) x
contains_later y x xs c = (suc c.0, omega (arith, c.1), c.2)

module _ {S : Type 0} (dom : Operations S) (covers : S → Heap → List Variables → Type 0) (port : Portable S) (laws : PortableLaws dom covers port) (program : List Routine) (cert : List ℕ) where
  -- the entry comes of a line
  abbrev Comes : CertEntry S → Type 0
  Comes e = IsWritten port program cert e.sites e.at e.state

  entry_comes_in : (bytes : List ℕ) (l : Line) (e : CertEntry S) → Contains (all_lines cert) bytes → line_of bytes ≡ Some l → entry_in port program l ≡ Some e → Comes e
  entry_comes_in bytes l e among says k =
      by_bool (is_loop_under program l.at (reverse l.chain))
      (λ b. by (port.take (layouts_around program (l.at ∷ reverse l.chain)) l.state) refl (sym (ap (λ c. if c then taken else None) b) ∙ k))
      (λ b. let i : None ≡ Some e = sym (ap (λ c. if c then taken else None) b) ∙ k in absurd cc)
    where
      taken : Option (CertEntry S)
      taken = option_map (λ s. record { at = l.at; sites = reverse l.chain; state = s }) (port.take (layouts_around program (l.at ∷ reverse l.chain)) l.state)

      by : (o : Option S) → port.take (layouts_around program (l.at ∷ reverse l.chain)) l.state ≡ o → option_map (λ s. record { at = l.at; sites = reverse l.chain; state = s }) o ≡ Some e → Comes e
      by None t i = absurd cc
      by (Some s) t i = subst Comes (same_Some _ e i) (record { bytes = bytes; among = among; line = l; says = says; at = refl; chain = refl; state = t })

  entry_comes : (bytes : List ℕ) (e : CertEntry S) → Contains (all_lines cert) bytes → entry_of port program bytes ≡ Some e → Comes e
  entry_comes bytes e among k = by (line_of bytes) refl k
    where
      by : (o : Option Line) → line_of bytes ≡ o → option_and_then (entry_in port program) o ≡ Some e → Comes e
      by None says i = absurd cc
      by (Some l) says i = entry_comes_in bytes l e among says i

  reads_inj : (xs ys : List (CertEntry S)) → Reads xs ≡ Reads ys → xs ≡ ys
  reads_inj xs ys e = cc

  all_come : (i : ℕ) (done : List (CertEntry S)) (lines : List (List ℕ)) (es : List (CertEntry S)) → ((bytes : List ℕ) → Contains lines bytes → Contains (all_lines cert) bytes) → Each Comes done → entries port program i done lines ≡ Reads es → Each Comes es
  all_come i done [] es inside each k = subst (Each Comes) (reads_inj done es k) each
  all_come i done (bytes ∷ lines) es inside each k =
      by (entry_of port program bytes) refl k
      (λ e is. all_come (i + 1) (e ∷ done) lines es (λ b c. inside b (contains_later bytes b lines c)) (each_more Comes e done (entry_comes bytes e (inside bytes (0, omega arith, refl)) is) each))
    where
      by : (o : Option (CertEntry S)) → entry_of port program bytes ≡ o → with_entry i done o (λ es. entries port program (i + 1) es lines) ≡ Reads es → ((e : CertEntry S) → entry_of port program bytes ≡ Some e → entries port program (i + 1) (e ∷ done) lines ≡ Reads es → Each Comes es) → Each Comes es
      by None is k go = absurd cc
      by (Some e) is k go = there_or (written_in done e.sites e.at) k
        where
          there_or : (o : Option S) → unless_there o (Bad i) (entries port program (i + 1) (e ∷ done) lines) ≡ Reads es → Each Comes es
          there_or None k = go e is k
          there_or (Some s) k = absurd cc

  -- what is written is the state of an entry
  written_comes : (es : List (CertEntry S)) (z : List ℕ) (n : ℕ) (s : S) → Each Comes es → written_in es z n ≡ Some s → IsWritten port program cert z n s
  written_comes [] z n s each k = absurd cc
  written_comes (e ∷ es) z n s each k =
      by_bool (n == e.at && bytes_eq z e.sites)
      (λ b.
      let p = and_parts (n == e.at) (bytes_eq z e.sites) b in
      let at : e.at ≡ n = grind (arith, nat_tests, p.0) in
      let same : e.sites ≡ z = sym ((bytes_eq-Decides z e.sites).0 p.1) in
      let state : e.state ≡ s = same_Some e.state s (sym (ap (λ c. if c then Some e.state else written_in es z n) b) ∙ k) in
      subst (λ s. IsWritten port program cert z n s) state
      (subst (λ n. IsWritten port program cert z n e.state) at
      (subst (λ z. IsWritten port program cert z e.at e.state) same (each.at e here))))
      (λ b. written_comes es z n s (record { at = λ x m. each.at x (there m) }) (sym (ap (λ c. if c then Some e.state else written_in es z n) b) ∙ k))

  of_frames : (es : List (CertEntry S)) → Each Comes es → AreOfFrames dom program (written_in es)
  of_frames es each z n x k = let w = written_comes es z n x each k in (laws.taken (layouts_around program (n ∷ z)) w.line.state x w.state).0

  covered_comes : (es : List (CertEntry S)) → Each Comes es → (z : List ℕ) (n : ℕ) (h : Heap) (vs : List Variables) (o : Option S) → written_in es z n ≡ o → IsCovered covers o h vs → (s : S) × IsWritten port program cert z n s × covers s h vs
  covered_comes es each z n h vs None k c = absurd c
  covered_comes es each z n h vs (Some s) k c = (s, written_comes es z n s each k, c)

pub yes_sound : {S : Type 0} (dom : Operations S) (covers : S → Heap → List Variables → Type 0) (port : Portable S) → PortableLaws dom covers port → AreCertificatesSound dom covers port.leq → IsYesSound dom covers port
unfolding verify
yes_sound {S} dom covers port laws sound program cert n c checked answer reach = by (entries port program 1 [] (all_lines cert)) refl answer
  where
    passes : (es : List (CertEntry S)) → Each (Comes dom covers port laws program cert) es → (r : Followed S) → followed_program dom port.leq (written_in es) program ≡ r → of_followed r ≡ Yes → (s : S) × IsWritten port program cert (call_sites c.frames) n s × covers s c.heap (variables_of c.frames)
    passes es each (Passes s ss) is k =
        covered_comes dom covers port laws program cert es each (call_sites c.frames) n c.heap (variables_of c.frames) _ refl
        (sound (written_in es) program s ss n c checked (of_frames dom covers port laws program cert es each) is reach)
    passes es each (Fails m z why) is k = absurd cc

    by : (r : Entries S) → entries port program 1 [] (all_lines cert) ≡ r → of_entries dom port program r ≡ Yes → (s : S) × IsWritten port program cert (call_sites c.frames) n s × covers s c.heap (variables_of c.frames)
    by (Reads es) is k = passes es (all_come dom covers port laws program cert 1 [] (all_lines cert) es (λ b i. i) (none_there _) is) (followed_program dom port.leq (written_in es) program) refl k
    by (Bad line) is k = absurd cc
