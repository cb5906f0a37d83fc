-- Books that stay in order.
use Rattle.std.proofs.Common.{◌≡◌, ℕ, zero, suc, ◌<◌, ◌≤◌, List, [], ◌∷◌, map, take, sym, ap, subst, ◌∙◌, arith}
use Rattle.imp_syntax.specs.Plain.{Procedure}
use Rattle.imp_slots.specs.Plain.{Routine}
use Rattle.imp_check.specs.Fine.{IsFine}
use Rattle.imp_check.specs.Slots.{routines_of}
use Rattle.batch_meaning.specs.Batch.{LoopOptions}
use Rattle.call_contexts.specs.Settings.{Setting, setting_of}
use Rattle.daig_tickets.specs.Tickets.{number, AreOpen}
use Rattle.daig_session.specs.declared.book.Book.{Book}
use Rattle.daig_session.specs.Books.{AreBelow, AreBehind, AreAhead, IsInOrder, IsSame, IsTurned}
use Rattle.daig_session.proofs.TicketLemmas.{still_open, numbers_anew}

pub set_again : (s : Setting) (e : LoopOptions) (rs : List Routine) → s ≡ setting_of e rs → s ≡ setting_of s.engine rs
set_again s e rs h = h ∙ ap (λ (x : LoopOptions). setting_of x rs) (sym (ap (λ (z : Setting). z.engine) h))

pub below_more : (n m : ℕ) (program : List Procedure) → n ≤ m → AreBelow n program → AreBelow m program
below_more n m program h b = λ k d l. (let q = b k d l in omega arith)

-- the next number may be greater
pub behind_more : (n m : ℕ) → n ≤ m → (now : List Procedure) (ps : List (List Procedure)) → AreBehind n now ps → AreBehind m now ps
behind_more n m h now [] a = tt
behind_more n m h now (p ∷ ps) a = (a.0, below_more n m p h a.1, behind_more n m h p ps a.2)

pub behind_take : (k n : ℕ) (now : List Procedure) (ps : List (List Procedure)) → AreBehind n now ps → AreBehind n now (take k ps)
behind_take zero n now [] a = tt
behind_take zero n now (p ∷ ps) a = tt
behind_take (suc k) n now [] a = tt
behind_take (suc k) n now (p ∷ ps) a = (a.0, a.1, behind_take k n p ps a.2)

-- at another program
pub turned_order : (old new : Book) (program : List Procedure) (past future : List (List Procedure)) (next : ℕ) → IsInOrder old → IsTurned old program past future next new → IsFine program → 0 < next → next ≤ 1000001 → AreBelow next program → AreBehind next program past → AreAhead next program future → IsInOrder new
turned_order old new program past future next o t fine some low below behind ahead = record {
  set = subst (λ (p : List Procedure). new.setting ≡ setting_of new.setting.engine (routines_of p)) (sym t.now) (set_again new.setting old.setting.engine (routines_of program) t.set);
  fine = subst IsFine (sym t.now) fine;
  some = subst (λ n. 0 < n) (sym t.next_is) some;
  low = subst (λ n. n ≤ 1000001) (sym t.next_is) low;
  below = subst (λ n. AreBelow n new.history.now) (sym t.next_is) (subst (AreBelow next) (sym t.now) below);
  behind =
      subst (λ n. AreBehind n new.history.now new.history.past) (sym t.next_is) (
      subst (λ p. AreBehind next p new.history.past) (sym t.now) (
      subst (AreBehind next program) (sym t.past_is) behind));
  ahead =
      subst (λ n. AreAhead n new.history.now new.history.future) (sym t.next_is) (
      subst (λ p. AreAhead next p new.history.future) (sym t.now) (
      subst (AreAhead next program) (sym t.future_is) ahead));
  are_open = still_open old.tickets new.tickets o.are_open (ap (map number) t.anew_all ∙ numbers_anew old.tickets.open_ones.items) t.next_ticket;
}

-- with the same programs, setting and next number
pub order_like : (old new : Book) → IsInOrder old → new.history.now ≡ old.history.now → new.history.past ≡ old.history.past → new.history.future ≡ old.history.future → new.setting ≡ old.setting → new.next ≡ old.next → AreOpen new.tickets → IsInOrder new
order_like old new o now past future setting next are = record {
  set = subst (λ (p : List Procedure). new.setting ≡ setting_of new.setting.engine (routines_of p)) (sym now) (subst (λ (s : Setting). s ≡ setting_of s.engine (routines_of old.history.now)) (sym setting) o.set);
  fine = subst IsFine (sym now) o.fine;
  some = subst (λ n. 0 < n) (sym next) o.some;
  low = subst (λ n. n ≤ 1000001) (sym next) o.low;
  below = subst (λ n. AreBelow n new.history.now) (sym next) (subst (AreBelow old.next) (sym now) o.below);
  behind =
      subst (λ n. AreBehind n new.history.now new.history.past) (sym next) (
      subst (λ p. AreBehind old.next p new.history.past) (sym now) (
      subst (AreBehind old.next old.history.now) (sym past) o.behind));
  ahead =
      subst (λ n. AreAhead n new.history.now new.history.future) (sym next) (
      subst (λ p. AreAhead old.next p new.history.future) (sym now) (
      subst (AreAhead old.next old.history.now) (sym future) o.ahead));
  are_open = are;
}

-- the same except which places the table has
pub same_order : (old new : Book) → IsInOrder old → IsSame old new → IsInOrder new
same_order old new o t = order_like old new o t.now t.past_is t.future_is t.setting t.next_is (subst AreOpen (sym t.tickets_are) o.are_open)
