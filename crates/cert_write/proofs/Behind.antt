-- What is written, one line after another.
use Rattle.std.proofs.Common.{ℕ, suc, ◌≡◌, ◌+◌, ◌<◌, ◌≤◌, List, [], ◌∷◌, ◌++◌, length, map, drop, reverse, get_or, Option, Some, Result, Ok, Err, IfOk, refl, sym, ap, ◌∙◌, append_assoc}
use Rattle.std.specs.Prelude.{Vec}
use Rattle.std.proofs.lemmas.List.{drop_all, reverse-reverse}
use Rattle.serde_json.specs.Written.{compact_text}
use Rattle.imp_syntax.specs.declared.edit.Location.TheVariants.{Head as AtHead}
use Rattle.imp_slots.specs.Plain.{Routine}
use Rattle.imp_chains.specs.Chains.{chains}
use Rattle.domain_laws.specs.Operations.{Operations}
use Rattle.batch_meaning.specs.Values.{Value, State}
use Rattle.batch_meaning.specs.Batch.{LoopOptions}
use Rattle.batch_meaning.specs.Places.{value_at}
use Rattle.base_values.proofs.Lists.{drop_item}
use Rattle.cert_meaning.specs.Portable.{Portable}
use Rattle.cert_meaning.specs.Written.{loops}
use Rattle.batch_interp.specs.Answered.{value_of}
use Rattle.batch_interp.specs.Heads.{head_told, heads_under, under_told, told_under, all_loops_told}
use Rattle.batch_interp.specs.declared.heads.LoopHead.{LoopHead}
use Rattle.batch_interp.specs.declared.heads.LoopsUnder.{LoopsUnder}
use Rattle.batch_interp.specs.declared.value.Answer.TheVariants as known
use Rattle.cert_lines.specs.Certificate.{Certificate, Lines, Gives, under, loops_from, all_loops, with_line, certificate_of, lines_text, certificate_text}
use Rattle.cert_write.specs.Writing.{line_data, behind, lines_under, all_lines}

module _ {S : Type 0} (dom : Operations S) (port : Portable S) (engine : LoopOptions) (program : List Routine) where
  -- a line goes before more
  line_goes : (z : List ℕ) (n : ℕ) (s : S) (old new : List ℕ) (more : Certificate) → new ≡ old ++ (compact_text (line_data n (reverse z) (port.put s)) ++ 10 ∷ []) → behind old (with_line dom port engine program z n (Some (State s)) more) ≡ behind new more
  line_goes z n s old new (Lines ds) e = sym (append_assoc old (compact_text (line_data n (reverse z) (port.put s)) ++ 10 ∷ []) (lines_text ds)) ∙ ap (λ xs. xs ++ lines_text ds) (sym e)
  line_goes z n s old new (Gives m y) e = refl

  pub added_state : (chain : List ℕ) (h : LoopHead S) (s : S) (text old new : List ℕ) (more : Certificate) → h.value ≡ known.State s → text ≡ port.put s → new ≡ old ++ (compact_text (line_data h.stmt chain text) ++ 10 ∷ []) → behind old (lines_under dom port engine program (reverse chain) (head_told h ∷ []) more) ≡ behind new more
  added_state chain h s text old new more is t e =
      ap (λ v. behind old (with_line dom port engine program (reverse chain) h.stmt (Some (value_of v)) more)) is
      ∙ line_goes (reverse chain) h.stmt s old new more (e ∙ (let turned : chain ≡ reverse (reverse chain) = sym (reverse-reverse chain) in λ i. old ++ (compact_text (line_data h.stmt (turned i) (t i)) ++ 10 ∷ [])))

  -- one more loop
  pub lines_step : (z : List ℕ) (hs : List (LoopHead S)) (i : ℕ) (h : LoopHead S) (more : Certificate) → i < length hs → h ≡ get_or hs i h → lines_under dom port engine program z (map head_told (drop i hs)) more ≡ lines_under dom port engine program z (head_told h ∷ []) (lines_under dom port engine program z (map head_told (drop (i + 1) hs)) more)
  lines_step z hs i h more l e = ap (λ xs. lines_under dom port engine program z (map head_told xs) more) (drop_item hs i h l e)

  pub lines_end : (z : List ℕ) (hs : List (LoopHead S)) (i : ℕ) (more : Certificate) → length hs ≤ i → lines_under dom port engine program z (map head_told (drop i hs)) more ≡ more
  lines_end z hs i more l = ap (λ xs. lines_under dom port engine program z (map head_told xs) more) (drop_all i hs l)

  abbrev L : List (List ℕ × List (ℕ × Option (Value S))) → Certificate → Certificate
  L = all_lines dom port engine program

  -- one more chain
  pub chain_step : (us : List (LoopsUnder S)) (i : ℕ) (u : LoopsUnder S) (more : Certificate) → i < length us → u ≡ get_or us i u → all_lines dom port engine program (map under_told (drop i us)) more ≡ lines_under dom port engine program (reverse u.chain) (map head_told u.heads) (all_lines dom port engine program (map under_told (drop (i + 1) us)) more)
  chain_step us i u more h e = ap (λ xs. L (map under_told xs) more) (drop_item us i u h e)

  pub chain_end : (us : List (LoopsUnder S)) (i : ℕ) (more : Certificate) → length us ≤ i → all_lines dom port engine program (map under_told (drop i us)) more ≡ more
  chain_end us i more h = ap (λ xs. L (map under_told xs) more) (drop_all i us h)

  abbrev C : List (List ℕ × ℕ) → Certificate
  C = certificate_of dom port engine program

  one_chain : (ns z : List ℕ) (more : List (List ℕ × ℕ)) → lines_under dom port engine program z (heads_under dom engine program ns z) (C more) ≡ C (map (λ n. (z, n)) ns ++ more)
  one_chain [] z more = refl
  one_chain (n ∷ ns) z more = ap (with_line dom port engine program z n (value_at dom engine program (AtHead n) z)) (one_chain ns z more)

  procedure : (ns : List ℕ) (zs : List (List ℕ)) (us : List (List ℕ × List (ℕ × Option (Value S)))) (more : List (List ℕ × ℕ)) → L us (Lines []) ≡ C more → L (told_under dom engine program ns zs ++ us) (Lines []) ≡ C (under ns zs ++ more)
  procedure ns [] us more h = h
  procedure ns (z ∷ zs) us more h =
      ap (lines_under dom port engine program z (heads_under dom engine program ns z)) (procedure ns zs us more h)
      ∙ one_chain ns z (under ns zs ++ more)
      ∙ ap C (sym (append_assoc (map (λ n. (z, n)) ns) (under ns zs) more))

  procedures : (k : ℕ) (rs : List Routine) → L (all_loops_told dom engine program k rs) (Lines []) ≡ C (loops_from program k rs)
  procedures k [] = refl
  procedures k (r ∷ rs) = procedure (loops r.code) (chains program k) (all_loops_told dom engine program (suc k) rs) (loops_from program (suc k) rs) (procedures (suc k) rs)

  whole : (c : Certificate) → behind [] c ≡ certificate_text c
  whole (Lines ds) = refl
  whole (Gives n z) = refl

  -- the loops of the program under all chains are written
  pub all_written : (us : List (LoopsUnder S)) → map under_told us ≡ all_loops_told dom engine program 0 program → behind [] (all_lines dom port engine program (map under_told us) (Lines [])) ≡ certificate_text (certificate_of dom port engine program (all_loops program))
  all_written us e = ap (λ xs. behind [] (L xs (Lines []))) e ∙ ap (behind []) (procedures 0 program) ∙ whole (C (all_loops program))

  pub all_text : {E Z : Type 0} (r : Result (Vec ℕ Z) E) (us : List (LoopsUnder S)) → map under_told us ≡ all_loops_told dom engine program 0 program → IfOk r (λ v. (engine : LoopOptions) (program : List Routine) → v.items ≡ behind [] (all_lines dom port engine program (map under_told us) (Lines []))) → IfOk r (λ v. v.items ≡ certificate_text (certificate_of dom port engine program (all_loops program)))
  all_text (Err e) us h k = k
  all_text (Ok v) us h k = k engine program ∙ all_written us h
