-- What a text has is its answer, and that alone.
use Rattle.std.proofs.Common.{◌≡◌, ℕ, List, refl, sym, subst, ◌∙◌}
use Rattle.std.specs.Prelude.{Ok, Err}
use mathlib.Core.Logic.{inl}
use Rattle.imp_lex.specs.declared.error.Fault.{Fault}
use Rattle.imp_lex.specs.declared.error.Fault.TheVariants as f
use Rattle.imp_lex.specs.declared.error.LexError.{LexError}
use Rattle.imp_lex.specs.declared.error.LexError.TheVariants as e
use Rattle.imp_lex.specs.Lexing.{Answer, error_at, IsFaulty, IsFault, IsAnswer, IsOnlyAnswer, HasOneAnswer}
use Rattle.imp_lex.proofs.Answered.{answer_of, lexed_only, faulty_only, Has, has_answer}

pub answer_only : (text : List ℕ) (answer : Answer) → IsAnswer text answer → answer_of 0 text ≡ answer
answer_only text (Ok tokens) h = lexed_only 0 text tokens h
answer_only text (Err (e.BadByte place)) h = faulty_only 0 text f.BadByte place h
answer_only text (Err (e.NumberTooBig place)) h = faulty_only 0 text f.NumberTooBig place h
answer_only text (Err (e.NameTooLong place)) h = faulty_only 0 text f.NameTooLong place h
answer_only text (Err e.Memory) h = absurd h

pub fault_is_answer : (text : List ℕ) (fault : Fault) (place : ℕ) → IsFaulty 0 text fault place → IsAnswer text (Err (error_at fault place))
fault_is_answer text f.BadByte place h = h
fault_is_answer text f.NumberTooBig place h = h
fault_is_answer text f.NameTooLong place h = h

has_is_answer : (text : List ℕ) (answer : Answer) → Has 0 text answer → IsAnswer text answer
has_is_answer text (Ok tokens) h = h
has_is_answer text (Err error) h = subst (λ (error : LexError). IsAnswer text (Err error)) h.2 (fault_is_answer text h.0 h.1 h.3)

pub answered : (text : List ℕ) (answer : Answer) → answer_of 0 text ≡ answer → IsAnswer text answer
answered text answer e = has_is_answer text answer (subst (Has 0 text) e (has_answer 0 text))

pub one_answer : HasOneAnswer
one_answer text = (answer_of 0 text, answered text (answer_of 0 text) refl, λ other h. sym (answer_only text other h))

-- the errors of a fault's answer
fault_of_answer : (text : List ℕ) (error : LexError) → IsAnswer text (Err error) → IsFault text error
fault_of_answer text (e.BadByte place) h = h
fault_of_answer text (e.NumberTooBig place) h = h
fault_of_answer text (e.NameTooLong place) h = h
fault_of_answer text e.Memory h = absurd h

pub answered_fault : (text : List ℕ) (error : LexError) → answer_of 0 text ≡ Err error → IsFault text error
answered_fault text error e = fault_of_answer text error (answered text (Err error) e)

pub answered_only : (text : List ℕ) (answer : Answer) → answer_of 0 text ≡ answer → IsOnlyAnswer text answer
answered_only text answer e other h = inl (sym e ∙ answer_only text other h)
