-- The whole claim.
use Rattle.std.specs.Prelude.{◌≡◌, ◌<◌, ◌≤◌, ◌^◌, ◌+◌, ℕ, List, [], ◌∷◌, ◌++◌, length, reverse, slice_get, Option, Some, None, true, Contains, MatchOption, option_and_then, option_map, if◌then◌else◌}
use Rattle.std.proofs.Common.{refl, ap, ◌∙◌, subst, arith}
use Rattle.std.proofs.lemmas.List.{length-append, length-reverse, reverse-reverse}
use Rattle.base_values.proofs.Members.{Member, here, there, Each, none_there, each_more, member_of, of_reverse, contains_of}
use Rattle.imp_slots.specs.Plain.{Routine}
use Rattle.imp_slots.specs.Fits.{routine_numbers, IsChecked}
use Rattle.concrete_sem.specs.Values.{Variables, Heap}
use Rattle.imp_chains.specs.Chains.{chains}
use Rattle.imp_chains.specs.Claims.{PlacesAreFound}
use Rattle.domain_laws.specs.Operations.{Operations}
use Rattle.request_json.specs.Members.{greatest_id}
use Rattle.serde_json.specs.Data.{Data}
use Rattle.serde_json.specs.Written.{compact_text}
use Rattle.batch_meaning.specs.Values.{State}
use Rattle.batch_meaning.specs.Batch.{LoopOptions}
use Rattle.cert_meaning.specs.Chained.{layouts_around}
use Rattle.cert_meaning.specs.Followed.{Followed, Passes, Fails, followed_program}
use Rattle.cert_meaning.specs.Portable.{Portable, PortableLaws}
use Rattle.cert_meaning.specs.Written.{loops, state_in}
use Rattle.cert_complete.specs.Theorem.{IsLoopUnder, DoesPass, CertificatesHold, HeadsAreOfFrames}
use Rattle.cert_lines.specs.Certificate.{Certificate, Lines, Gives, all_loops, certificate_of, certificate, lines_text, certificate_text}
use Rattle.cert_lines.specs.Lines.{line_of, written_in, is_loop_under, entry_in, entries}
use Rattle.cert_lines.specs.Verify.{Yes, of_followed, of_entries, verify}
use Rattle.cert_accepted.specs.Accepted.{HasLines, PutsUtf8, IsWhole, AreAccepted}
use Rattle.cert_accepted.proofs.OneLine.{has_no_end, AreIds, line_is_one, line_says, line_longer}
use Rattle.cert_accepted.proofs.Texts.{lines_back}
use Rattle.cert_accepted.proofs.Numbers.{loop_number, number_there}
use Rattle.cert_accepted.proofs.Chains.{call_numbers}
use Rattle.cert_accepted.proofs.Once.{Stands, stands, stands_there, loops_once}
use Rattle.cert_accepted.proofs.Standing.{loop_is_under}
use Rattle.cert_accepted.proofs.Entries.{value_of, line_with, entry_with, no_over, each_line, IsReadBack, Come, come}

are_ids : (ns : List ℕ) → ((n : ℕ) → Member n ns → n < 2 ^ 32) → AreIds ns
are_ids [] h = tt
are_ids (n ∷ ns) h = (omega (arith, h n here), are_ids ns (λ k m. h k (there m)))

each_short : (ds : List Data) → length (lines_text ds) < 2 ^ 64 → Each (λ d. length (compact_text d) < 2 ^ 64) ds
each_short [] h = none_there (λ d. length (compact_text d) < 2 ^ 64)
each_short (d ∷ ds) h =
    let a : length ((compact_text d ++ 10 ∷ []) ++ lines_text ds) ≡ length (compact_text d ++ 10 ∷ []) + length (lines_text ds) = length-append (compact_text d ++ 10 ∷ []) (lines_text ds) in
    let b : length (compact_text d ++ 10 ∷ []) ≡ length (compact_text d) + 1 = length-append (compact_text d) (10 ∷ []) in
    each_more (λ d. length (compact_text d) < 2 ^ 64) d ds (omega arith) (each_short ds (omega arith))

passes_yes : {S : Type 0} (r : Followed S) → DoesPass r → of_followed r ≡ Yes
passes_yes (Passes s ss) d = refl
passes_yes (Fails n z why) d = absurd d

module _ {S : Type 0} (dom : Operations S) (covers : S → Heap → List Variables → Type 0) (port : Portable S) (laws : PortableLaws dom covers port) (utf8 : PutsUtf8 dom port) (places : PlacesAreFound) (frames : HeadsAreOfFrames dom) (hold : CertificatesHold dom port.leq)
    (engine : LoopOptions) (program : List Routine) (checked : IsChecked program) (fits : HasLines program) where
  abbrev Own : List ℕ × ℕ → Type 0
  Own = Stands program checked.numbers_once 0 program

  -- ---- a loop under a chain, and its line

  module _ (x : List ℕ × ℕ) (own : Own x) where
    chain : Member x.0 (chains program own.place)
    chain = let e : 0 + own.place ≡ own.place = omega arith in subst (λ p. Member x.0 (chains program p)) e own.chain

    id : x.1 ≤ greatest_id
    id = omega (arith, fits.small x.1 (contains_of x.1 (routine_numbers program) (number_there program own.place own.routine x.1 own.at (loop_number x.1 own.routine.code own.loop))))

    ids : AreIds (reverse x.0)
    ids = are_ids (reverse x.0) (λ n m. fits.small n (contains_of n (routine_numbers program) ((call_numbers program checked.numbers_once own.place x.0 chain).at n (of_reverse n x.0 m))))

    few : length (reverse x.0) ≤ 8
    few = omega (arith, length-reverse x.0, fits.short own.place x.0 (contains_of x.0 (chains program own.place) chain))

    under : is_loop_under program x.1 x.0 ≡ true
    under = loop_is_under program checked places own.place own.routine x.1 x.0 own.at own.loop chain

    state_fits : (s : S) → value_of dom port engine program x ≡ Some (State s) → dom.fits s (layouts_around program (x.1 ∷ x.0)) ≡ true
    state_fits s v = frames engine program checked x.0 x.1 s (ap state_in v)

    back_in : (s : S) → dom.fits s (layouts_around program (x.1 ∷ x.0)) ≡ true → length (port.put s) < 2 ^ 64 → (z : List ℕ) → z ≡ x.0 →
        (if is_loop_under program x.1 z then option_map (λ s. record { at = x.1; sites = z; state = s }) (port.take (layouts_around program (x.1 ∷ z)) (port.put s)) else None) ≡ Some (entry_with dom port engine program x s)
    back_in s f short z e =
        ap (λ z. if is_loop_under program x.1 z then option_map (λ s. record { at = x.1; sites = z; state = s }) (port.take (layouts_around program (x.1 ∷ z)) (port.put s)) else None) e ∙
        ap (λ c. if c then option_map (λ s. record { at = x.1; sites = x.0; state = s }) (port.take (layouts_around program (x.1 ∷ x.0)) (port.put s)) else None) under ∙
        ap (option_map (λ s. record { at = x.1; sites = x.0; state = s })) (laws.back (layouts_around program (x.1 ∷ x.0)) s f short)

    read_back : IsReadBack dom port engine program x
    unfolding line_of
    read_back s v short =
        let f = state_fits s v in
        ap (option_and_then (entry_in port program)) (line_says x.1 (reverse x.0) (port.put s) id ids few (utf8 (layouts_around program (x.1 ∷ x.0)) s f short)) ∙ back_in s f short (reverse (reverse x.0)) (reverse-reverse x.0)

    one_line : (s : S) → value_of dom port engine program x ≡ Some (State s) → length (port.put s) < 2 ^ 64 → has_no_end (compact_text (line_with dom port engine program x s)) ≡ true
    one_line s v short = (line_is_one x.1 (reverse x.0) (port.put s) id ids (utf8 (layouts_around program (x.1 ∷ x.0)) s (state_fits s v) short)).whole

  -- ---- the lines

  module _ (ds : List Data) (is : certificate_of dom port engine program (all_loops program) ≡ Lines ds) (short : length (lines_text ds) < 2 ^ 64) where
    own_of : (x : List ℕ × ℕ) → Member x (all_loops program) → Own x
    own_of x m = stands program checked.numbers_once 0 program x m

    abbrev Told : Type 0
    Told = Come dom port engine program (all_loops program) 1 [] ds

    told : Told
    told = come dom port engine program (λ x s. line_longer x.1 (reverse x.0) (port.put s)) (all_loops program) 1 [] ds is short
        (record { at = λ x m. read_back x (own_of x m) }) (loops_once program checked.numbers_once 0 program checked.numbers_once) (record { at = λ x m. refl })

    there_of : (p n : ℕ) (z : List ℕ) (o : Option Routine) → slice_get program p ≡ o → MatchOption o ⊥ (λ (r : Routine). Contains (loops r.code) n) → Contains (chains program p) z → Member (z, n) (all_loops program)
    there_of p n z None at l c = absurd l
    there_of p n z (Some r) at l c =
        let e : p ≡ 0 + p = omega arith in
        stands_there program checked.numbers_once 0 program p r z n at (member_of n (loops r.code) l) (subst (λ p. Member z (chains program p)) e (member_of z (chains program p) c))

    in_all : (p n : ℕ) (z : List ℕ) → IsLoopUnder program p n z → Member (z, n) (all_loops program)
    in_all p n z u = there_of p n z (slice_get program p) refl u.loop u.chain

    passes : DoesPass (followed_program dom port.leq (written_in told.told) program)
    passes = hold engine program (written_in told.told) checked
        (λ p n z m y u v. no_over dom port engine program (all_loops program) ds is (z, n) (in_all p n z u) m y v)
        (λ p n z u. told.has (z, n) (in_all p n z u))

    wholes : Each (λ d. has_no_end (compact_text d) ≡ true) ds
    wholes =
        let lines = each_line dom port engine program (λ d. length (compact_text d) < 2 ^ 64 → has_no_end (compact_text d) ≡ true) (all_loops program) ds is
        (λ x m s v h. one_line x (own_of x m) s v (omega (arith, line_longer x.1 (reverse x.0) (port.put s), h))) in
        let shorts = each_short ds short in
        record { at = λ d m. lines.at d m (shorts.at d m) }

    says_yes : verify dom port program (lines_text ds) ≡ Yes
    unfolding verify
    says_yes =
        ap (λ ls. of_entries dom port program (entries port program 1 [] ls)) (lines_back ds wholes) ∙ ap (of_entries dom port program) told.reads ∙
        passes_yes (followed_program dom port.leq (written_in told.told) program) passes

  by_lines : (c : Certificate) → certificate dom port engine program ≡ c → IsWhole c → length (certificate_text c) < 2 ^ 64 → verify dom port program (certificate_text c) ≡ Yes
  unfolding certificate
  by_lines (Lines ds) e whole short = says_yes ds e short
  by_lines (Gives n z) e whole short = absurd whole

pub certificates_accepted : {S : Type 0} (dom : Operations S) (covers : S → Heap → List Variables → Type 0) (port : Portable S) → PortableLaws dom covers port → PutsUtf8 dom port → PlacesAreFound → HeadsAreOfFrames dom → CertificatesHold dom port.leq → AreAccepted dom port
certificates_accepted dom covers port laws utf8 places frames hold engine program checked fits whole short =
    by_lines dom covers port laws utf8 places frames hold engine program checked fits (certificate dom port engine program) refl whole short
