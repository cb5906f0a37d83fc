-- Tickets that wait.
use Rattle.std.proofs.Common.{◌≡◌, ℕ, zero, suc, ◌+◌, List, [], ◌∷◌, ◌++◌, map, take, drop, Option, Some, None, slice_get, slice_set, subst, arith}
use Rattle.std.specs.Prelude.{IfSome}
use Rattle.daig_machine.specs.declared.question.Question.{Question}
use Rattle.daig_machine.specs.declared.question.Question.TheVariants as asks
use Rattle.imp_syntax.specs.declared.edit.Location.{Location}
use Rattle.domain_laws.specs.Operations.{Operations}
use Rattle.imp_flow.specs.Plans.{Plan}
use Rattle.imp_flow.specs.Reached.{target_of}
use Rattle.daig_query.specs.declared.store.Store.{Store}
use Rattle.daig_query.specs.Kept.{Grows, Lasts}
use Rattle.daig_query.specs.Right.{IsRight}
use Rattle.daig_query.proofs.Growing.{grows_last}
use Rattle.daig_query.proofs.Walks.{good_lasts, kept_lasts}
use Rattle.daig_tickets.specs.declared.tickets.OpenTicket.{OpenTicket}
use Rattle.daig_tickets.specs.Tickets.{anew}
use Rattle.daig_session.specs.declared.course.Course.{Course}
use Rattle.daig_session.specs.declared.course.Course.TheVariants.{Place, Along}
use Rattle.daig_session.specs.declared.course.Going.{Going}
use Rattle.daig_session.specs.declared.course.Tour.{Tour}
use Rattle.daig_session.specs.Going.{kind_places, HasComeFar, IsAlong, IsFull, IsGoing, IsWaiting, AreWaiting}
use Rattle.std.proofs.lemmas.Option.{same_Some}

module _ {S : Type 0} (dom : Operations S) where
  -- what has a cell has one still
  module _ (plan : Plan) (old new : Store S) (right : IsRight dom plan new) (lasts : Lasts old new) where
    going_lasts : (l : Location) (string : List ℕ) (g : Going) → IsGoing dom plan old l string g → IsGoing dom plan new l string g
    going_lasts l string g is = record {
      asked = is.asked;
      good = good_lasts dom plan (map target_of g.targets) old new g.walk right lasts is.good;
    }

    pub next_stays : (l : Location) (o : Option Going) → IfSome o (IsGoing dom plan old l []) → IfSome o (IsGoing dom plan new l [])
    next_stays l None h = tt
    next_stays l (Some g) h = going_lasts l [] g h

    -- nothing is missing at a place still
    pub full_lasts : (l : Location) → IsFull dom plan old l → IsFull dom plan new l
    full_lasts l full = λ x m. kept_lasts dom plan old new right lasts x (full x m)

    tour_lasts : (places : List Location) (t : Tour) → IsAlong dom plan old places t → IsAlong dom plan new places t
    tour_lasts places t is = record {
      are = is.are;
      within = is.within;
      full = λ i l less there. full_lasts l (is.full i l less there);
      next = next_lasts t.going is.next;
    }
      where
        next_lasts : (o : Option Going) → IfSome o (λ g. (l : Location) → slice_get places t.full ≡ Some l → IsGoing dom plan old l [] g) → IfSome o (λ g. (l : Location) → slice_get places t.full ≡ Some l → IsGoing dom plan new l [] g)
        next_lasts None h = tt
        next_lasts (Some g) h = λ l there. going_lasts l [] g (h l there)

    course_lasts : (q : Question) (c : Course) → HasComeFar dom plan old q c → HasComeFar dom plan new q c
    course_lasts (asks.State l string) (Place g) h = going_lasts l string g h
    course_lasts (asks.Why l string) (Place g) h = going_lasts l string g h
    course_lasts asks.Report (Place g) h = h
    course_lasts (asks.Faults only) (Place g) h = h
    course_lasts q (Along t) h = (h.0, tour_lasts (kind_places t.kind plan.program) t h.1)

    some_lasts : (q : Question) (o : Option Course) → IfSome o (HasComeFar dom plan old q) → IfSome o (HasComeFar dom plan new q)
    some_lasts q None h = tt
    some_lasts q (Some c) h = course_lasts q c h

    pub waiting_lasts : (os : List (OpenTicket Course)) → AreWaiting dom plan old os → AreWaiting dom plan new os
    waiting_lasts [] w = tt
    waiting_lasts (o ∷ os) w = (some_lasts o.question o.going w.0, waiting_lasts os w.1)

  -- cells are only added
  module _ (plan : Plan) (old new : Store S) (right : IsRight dom plan new) (grows : Grows old new) where
    pub going_grows : (l : Location) (string : List ℕ) (g : Going) → IsGoing dom plan old l string g → IsGoing dom plan new l string g
    going_grows = going_lasts plan old new right (grows_last dom plan old new grows)

    pub waiting_grows : (os : List (OpenTicket Course)) → AreWaiting dom plan old os → AreWaiting dom plan new os
    waiting_grows = waiting_lasts plan old new right (grows_last dom plan old new grows)

  -- all begin anew
  pub waiting_anew : (plan other : Plan) (old new : Store S) (os : List (OpenTicket Course)) → AreWaiting dom plan old os → AreWaiting dom other new (map anew os)
  waiting_anew plan other old new [] w = tt
  waiting_anew plan other old new (o ∷ os) w = (tt, waiting_anew plan other old new os w.1)

  module _ (plan : Plan) (store : Store S) where
    pub waiting_get : (os : List (OpenTicket Course)) (k : ℕ) (o : OpenTicket Course) → AreWaiting dom plan store os → slice_get os k ≡ Some o → IsWaiting dom plan store o
    waiting_get [] k o w e = absurd cc
    waiting_get (x ∷ xs) zero o w e = subst (IsWaiting dom plan store) (same_Some x o e) w.0
    waiting_get (x ∷ xs) (suc k) o w e = waiting_get xs k o w.1 e

    pub waiting_set : (os : List (OpenTicket Course)) (k : ℕ) (o : OpenTicket Course) → AreWaiting dom plan store os → IsWaiting dom plan store o → AreWaiting dom plan store (slice_set os k o)
    waiting_set [] k o w i = tt
    waiting_set (x ∷ xs) zero o w i = (i, w.1)
    waiting_set (x ∷ xs) (suc k) o w i = (w.0, waiting_set xs k o w.1 i)

    pub waiting_push : (os : List (OpenTicket Course)) (o : OpenTicket Course) → AreWaiting dom plan store os → IsWaiting dom plan store o → AreWaiting dom plan store (os ++ o ∷ [])
    waiting_push [] o w i = (i, tt)
    waiting_push (x ∷ xs) o w i = (w.0, waiting_push xs o w.1 i)

    rest : (k : ℕ) (os : List (OpenTicket Course)) → AreWaiting dom plan store os → AreWaiting dom plan store (take k os ++ drop (suc k) os)
    rest zero [] w = tt
    rest zero (o ∷ os) w = w.1
    rest (suc k) [] w = tt
    rest (suc k) (o ∷ os) w = (w.0, rest k os w.1)

    pub waiting_rest : (k : ℕ) (os : List (OpenTicket Course)) → AreWaiting dom plan store os → AreWaiting dom plan store (take k os ++ drop (k + 1) os)
    waiting_rest k os w = subst (λ n. AreWaiting dom plan store (take k os ++ drop n os)) (let e : suc k ≡ k + 1 = omega arith in e) (rest k os w)
