-- What checking comes to, from what is read, and what a yes says.
use Rattle.std.proofs.Common.{◌≡◌, ◌<◌, ◌^◌, ℕ, List, [], length, Result, Ok, Err, IfOk, sym, ap, ◌∙◌, subst}
use Rattle.std.specs.Prelude.{Vec}
use Rattle.imp_slots.specs.Plain.{Routine}
use Rattle.imp_slots.specs.Fits.{IsChecked}
use Rattle.concrete_sem.specs.Values.{Variables, Heap}
use Rattle.domain_laws.specs.Operations.{Operations}
use Rattle.serve_script.specs.Lines.{all_lines}
use Rattle.cert_meaning.specs.Portable.{Portable}
use Rattle.cert_meaning.specs.Followed.{followed_program}
use Rattle.cert_lines.specs.Lines.{CertEntry, Reads, entries}
use Rattle.cert_lines.specs.Verify as plain
use Rattle.cert_lines.specs.Verify.{of_followed, of_entries, verify, verified_line}
use Rattle.cert_lines.specs.Theorem.{IsYesSound}
use Rattle.cert_accepted.specs.Accepted.{HasLines, AreAccepted, IsCertificate}
use Rattle.cert_reading.specs.Table.{state_at, HasEntries}
use Rattle.cert_check.specs.Verified.{verified_of, CoversRuns}
use Rattle.cert_check.specs.declared.verified.Verified.{Verified}
use Rattle.cert_check.proofs.LineLemmas.{yes_alone}

-- where all lines are read, following with their states is what checking comes to
pub verified_read : {S E : Type 0} (dom : Operations S) (port : Portable S) (program : List Routine) (cert : List ℕ) (r : Result Verified E) (table : List (List ℕ × S)) (es : List (CertEntry S)) → entries port program 1 [] (all_lines cert) ≡ Reads es → HasEntries table es → IfOk r (λ v. verified_of v ≡ of_followed (followed_program dom port.leq (state_at table) program)) → IfOk r (λ v. verified_of v ≡ verify dom port program cert)
unfolding verify
verified_read dom port program cert (Err e) table es read has h = h
verified_read dom port program cert (Ok v) table es read has h =
    h ∙ ap of_followed (λ i. followed_program dom port.leq (λ z n. has z n i) program) ∙ sym (ap (of_entries dom port program) read)

-- where the line is that of a yes, every run is covered
pub covers_if_yes : {S E Z : Type 0} (dom : Operations S) (covers : S → Heap → List Variables → Type 0) (port : Portable S) (program : List Routine) (cert : List ℕ) (r : Result (Vec ℕ Z) E) (v : plain.Verified) → IsChecked program → IsYesSound dom covers port → v ≡ verify dom port program cert → IfOk r (λ b. b.items ≡ verified_line v) → IfOk r (λ b. b.items ≡ verified_line plain.Yes → CoversRuns covers port program cert)
covers_if_yes dom covers port program cert (Err e) v checked sound is h = h
covers_if_yes dom covers port program cert (Ok b) v checked sound is h = λ yes n c reach. sound program cert n c checked (sym is ∙ yes_alone v (sym h ∙ yes)) reach

-- where a certificate of the program is checked, the line is that of a yes
pub accepted_if_written : {S E Z : Type 0} (dom : Operations S) (port : Portable S) (program : List Routine) (cert : List ℕ) (r : Result (Vec ℕ Z) E) (v : plain.Verified) → IsChecked program → AreAccepted dom port → HasLines program → length cert < 2 ^ 64 → v ≡ verify dom port program cert → IfOk r (λ b. b.items ≡ verified_line v) → IsCertificate dom port program cert → IfOk r (λ b. b.items ≡ verified_line plain.Yes)
accepted_if_written dom port program cert (Err e) v checked accepted lines short is h c = h
accepted_if_written dom port program cert (Ok b) v checked accepted lines short is h c =
    h ∙ ap verified_line (is ∙ ap (verify dom port program) c.2 ∙ accepted c.0 program checked lines c.1 (subst (λ text. length text < 2 ^ 64) c.2 short))
