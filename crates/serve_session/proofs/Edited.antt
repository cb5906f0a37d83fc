-- What requests for edits are replied.
use Rattle.std.proofs.Common.{◌≡◌, ℕ, List, Option, Some, None, Result, Ok, Err, IfOk, IfErr, refl, sym, ap, subst, ◌∙◌}
use Rattle.imp_syntax.specs.declared.edit.Edit.{Edit}
use Rattle.imp_edit.specs.Edited.{next_after}
use Rattle.imp_edit.specs.Refusals.{edit_refusal, IsRefusal}
use Rattle.imp_edit.specs.declared.error.EditError.{EditError}
use Rattle.imp_edit.specs.declared.error.EditError.TheVariants as error
use Rattle.domain_laws.specs.Operations.{Operations}
use Rattle.daig_query.specs.declared.store.Store.{Store}
use Rattle.daig_machine.specs.Machine.{Machine}
use Rattle.daig_machine.specs.Turns.{after_edit}
use Rattle.daig_session.specs.declared.book.Book.{Book}
use Rattle.daig_session.specs.Books.{IsSame}
use Rattle.daig_session.specs.Holds.{Holds}
use Rattle.daig_session.proofs.Unchanged.{same_holds}
use Rattle.request_json.specs.declared.reply.Reply.TheVariants as r
use Rattle.request_json.specs.declared.reply.Refusal.{Refusal}
use Rattle.serve_answers.specs.declared.edits.TextError.{TextError}
use Rattle.serve_answers.specs.Edits.{IsTextError}
use Rattle.serve_answers.specs.Refusals.{refusal_of}
use Rattle.serve_answers.specs.Turns.{edit_by, edit_turn}
use Rattle.request_json.specs.Replies.{reply_text}
use Rattle.serve_session.specs.Followed.{Follows, Makes}
use Rattle.serve_session.proofs.Replied.{IsReplied}

refusal_is : (o : Option EditError) (e : EditError) → IsRefusal o e → (e ≡ error.Memory → ⊥) → o ≡ Some e
refusal_is o error.NoProcedure is other = is
refusal_is o error.NoStatement is other = is
refusal_is o error.WrongStatement is other = is
refusal_is o error.IsMain is other = is
refusal_is o error.StillCalled is other = is
refusal_is o error.Numbers is other = is
refusal_is o (error.Fault f) is other = is
refusal_is o error.Memory is other = absurd (other refl)

module _ {S : Type 0} (dom : Operations S) (store : Store S) (book : Book) (e : Edit) (m : Machine) (h : Holds dom store book m) where
  -- the session's refusal is the machine's
  refusal_here : edit_refusal e book.history.now book.next ≡ edit_refusal e m.program m.next
  refusal_here = ap (λ (z : Machine). edit_refusal e z.program z.next) h.is

  module _ (stands : Machine → Type 0) where
    pub edit_made : (n : ℕ) → edit_refusal e book.history.now book.next ≡ None → n ≡ next_after e book.next → stands (after_edit dom e m) → IsReplied (edit_turn dom (Ok e) m) stands (r.Next n)
    edit_made n accepted next h2 =
        subst (λ (o : Option EditError). IsReplied (edit_by dom e o m) stands (r.Next n)) (sym accepted ∙ refusal_here) (record {
          is = ap r.Next (sym (next ∙ ap (λ (z : Machine). next_after e z.next) h.is));
          after = h2;
        })

    pub edit_refused : (why : EditError) → IsRefusal (edit_refusal e book.history.now book.next) why → (why ≡ error.Memory → ⊥) → stands m → IsReplied (edit_turn dom (Ok e) m) stands (r.Refused (refusal_of m.program e why))
    edit_refused why is other h2 =
        subst (λ (o : Option EditError). IsReplied (edit_by dom e o m) stands (r.Refused (refusal_of m.program e why))) (sym (refusal_is (edit_refusal e book.history.now book.next) why is other) ∙ refusal_here) (record { is = refl; after = h2 })

-- The edit is made where another holds the same machine, under the same domain, and its line is written.
pub edit_follows : {S X : Type 0} (ops : X → Operations S) (d : X) (store : Store S) (book : Book) (e : Edit) (m : Machine) → Holds (ops d) store book m → (stands : Machine → Type 0) (there : X) (store2 : Store S) (book2 : Book) (n : ℕ) (line : List ℕ) →
    Holds (ops there) store2 book2 m → there ≡ d → edit_refusal e book.history.now book.next ≡ None → n ≡ next_after e book2.next → stands (after_edit (ops there) e m) → line ≡ reply_text (r.Next n) → Follows (edit_turn (ops d) (Ok e) m) stands line
edit_follows ops d store book e m h stands there store2 book2 n line h2 same accepted next after is =
    let number : n ≡ next_after e book.next = next ∙ ap (next_after e) (ap (λ (z : Machine). z.next) h2.is ∙ sym (ap (λ (z : Machine). z.next) h.is)) in
    let rep = edit_made (ops d) store book e m h stands n accepted number (subst (λ x. stands (after_edit (ops x) e m)) same after) in
    record { reply = is ∙ ap reply_text (sym rep.is); machine = rep.after }

-- After want of room the machine is held as before.
pub rest_holds : {S X : Type 0} (ops : X → Operations S) (d there : X) (store store2 : Store S) (book book2 : Book) → there ≡ d → store2 ≡ store → IsSame book book2 → (m : Machine) → Holds (ops d) store book m → Holds (ops there) store2 book2 m
rest_holds ops d there store store2 book book2 same kept rest m h =
    subst (λ x. Holds (ops x) store2 book2 m) (sym same) (subst (λ (s : Store _). Holds (ops d) s book2 m) (sym kept) (same_holds (ops d) store book book2 rest m h))

-- what is made of a text, whatever its reading
pub makes : {R : Type 0} (of : R → Result Edit Refusal) (made : Result Edit TextError) → IfOk made (λ e. (readings : R) → of readings ≡ Ok e) → IfErr made (λ e. (readings : R) → IsTextError (of readings) e) → (readings : R) → Makes (of readings) made
makes of (Ok e) ok err readings = ok readings
makes of (Err e) ok err readings = err readings
