-- A turn after a look at the name on top of a stack.
use Rattle.std.proofs.Common.{◌≡◌, ℕ, ◌+◌, ◌<◌, ◌≤◌, Bool, true, false, List, [], ◌∷◌, ◌++◌, length, Option, Some, None, Result, Ok, Err, option_map, IfSome, inl, inr, refl, sym, ap, subst, ◌∙◌, arith, length-append}
use Rattle.domain_laws.specs.Operations.{Operations}
use Rattle.cell_rows.specs.Targets.{Target}
use Rattle.imp_flow.specs.Plans.{Plan}
use Rattle.imp_flow_rows.specs.declared.row.Row.{Row}
use Rattle.daig_query.specs.declared.held.Held.{Held}
use Rattle.daig_query.specs.declared.opening.Absent.{Absent}
use Rattle.daig_query.specs.declared.opening.Open.{Open}
use Rattle.daig_query.specs.declared.revalidation.Revalidation.{Revalidation}
use Rattle.daig_query.specs.declared.revalidation.Revalidation.TheVariants.{Waits as Waiting, Valid}
use Rattle.daig_query.specs.declared.store.Store.{Store}
use Rattle.daig_query.specs.declared.turning.TurnOutcome.{TurnOutcome}
use Rattle.daig_query.specs.declared.turning.TurnOutcome.TheVariants.{Pushed, Filled, Spent}
use Rattle.daig_query.specs.declared.walk.Walk.{Walk}
use Rattle.daig_query.specs.Kept.{kept, Names}
use Rattle.daig_query.specs.Right.{IsRight}
use Rattle.daig_query.specs.Opened.{name_of, next_of, unfound, Computes, IsNext, Puts}
use Rattle.daig_query.specs.Looked.{HasFurtherTop, HasOpenTop, IsTopOpen, LooksAtFirst, LooksAtTop}
use Rattle.daig_query.specs.Revalidated.{Finds, FindsOnTop, IsTopValid, IsValid}
use Rattle.daig_query.specs.Turned.{stacked_names, FillsTop, HandsDown, IsTopAbsent, IsTurn, Pushes, Waits}
use Rattle.daig_query.specs.Walked.{place_of, AreStacked, IsGood}
use Rattle.daig_query.proofs.Lists.{last_view, same_last}
use Rattle.daig_query.proofs.Tops.{open_at_end, further_stays, good_rest, good_entry, good_pushed, good_handed, entry_names, pushes_top, waits_top, fills_top, absent_mid}
use Rattle.daig_query.proofs.Outcomes.{turn_failed, turn_pushed, turn_spent, turn_unfilled, turn_filled, turn_before}

module _ {S : Type 0} {dom : Operations S} {plan : Plan} {store : Store S} where
  -- the name on top of a good walk is being filled
  pub top_opened : {ts : List Target} {w : Walk} → IsGood dom plan ts store w → IsTopOpen dom plan store w.stack.items
  top_opened {ts} {w} good rest top is = open_at_end dom plan store (place_of ts store w) rest top (subst (AreStacked dom plan store (place_of ts store w)) is good.stacked)

  module _ {row : Row} {old new : List Open} where
    -- it is so still where more of its inputs are found
    abbrev pub open_further : HasFurtherTop dom plan store row old new → HasOpenTop dom plan store old new
    open_further h = record { rest = h.rest; top = h.top; entry = h.entry; before = h.before; after = h.after; stays = further_stays dom plan store row h.top h.entry h.further }

    -- what was found is its next input
    pub next_found : {found is : Option Absent} (k : LooksAtTop dom plan store row old new found) → found ≡ is → IsNext dom plan store k.stack.entry (option_map unfound is)
    next_found k e = subst (λ f. IsNext dom plan store k.stack.entry (option_map unfound f)) e k.next

  pub first_found : {old new : List Open} {found : Option Absent} {a : Absent} (k : LooksAtFirst dom plan store old new found) → found ≡ Some a → IsNext dom plan store k.stack.entry (Some (unfound a))
  first_found k e = subst (λ f. IfSome f (λ b. IsNext dom plan store k.stack.entry (Some (unfound b)))) e k.next

  -- what was found of a stale cell
  module _ {old new : List Open} {end : Revalidation} (k : FindsOnTop dom plan store old new end) where
    pub top_waits : {a : Absent} → end ≡ Waiting a → IsNext dom plan store k.stack.entry (Some (unfound a))
    top_waits is = subst (Finds dom plan store k.stack.entry) is k.finds

    pub top_valid : {h : Held} → end ≡ Valid h → IsTopValid dom plan store h new
    top_valid {h} is rest u e = subst (λ o. IsValid dom plan store o h) (same_last k.stack.rest rest k.stack.entry u (sym k.stack.after ∙ e)).1 (subst (Finds dom plan store k.stack.entry) is k.finds)

  -- the name on top, as it is
  pub top_there : {ts : List Target} {w : Walk} → IsGood dom plan ts store w → 0 < length w.stack.items → HasOpenTop dom plan store w.stack.items w.stack.items
  top_there {ts} {w} good some = elim (last_view w.stack.items) [
    | inl e ↦ (let l = ap length e in absurd (omega (arith, some, l)))
    | inr p ↦ record { rest = p.0; top = p.1; entry = p.1; before = p.2; after = p.2; stays = record { entry = top_opened good p.0 p.1 p.2; cell = refl; name = refl } }
  ]

-- A look at the name on top of a walk's stack gave names numbers, and left this stack.
pub record HasLooked {S : Type 0} (dom : Operations S) (plan : Plan) (ts : List Target) (old mid : Store S) (w : Walk) (stack : List Open) : Type 0 where
  pub right : IsRight dom plan old
  pub walk : IsGood dom plan ts old w
  pub later : IsRight dom plan mid
  pub names : Names old mid
  pub look : HasOpenTop dom plan mid w.stack.items stack

abbrev pub looked : {S : Type 0} {dom : Operations S} {plan : Plan} {ts : List Target} {old mid : Store S} {w : Walk} {stack : List Open} → IsRight dom plan old → IsGood dom plan ts old w → IsRight dom plan mid → Names old mid → HasOpenTop dom plan mid w.stack.items stack → HasLooked dom plan ts old mid w stack
looked right walk later names look = record { right = right; walk = walk; later = later; names = names; look = look }

module _ {S : Type 0} {dom : Operations S} {plan : Plan} {ts : List Target} {old mid : Store S} {w : Walk} {stack : List Open} (l : HasLooked dom plan ts old mid w stack) where
  abbrev rest : List Open
  rest = l.look.rest

  abbrev top : Open
  top = l.look.top

  abbrev entry : Open
  entry = l.look.entry

  stacked : AreStacked dom plan old (place_of ts old w) (rest ++ top ∷ [])
  stacked = subst (AreStacked dom plan old (place_of ts old w)) l.look.before l.walk.stacked

  -- the names on the stack stay
  pub looked_names : stacked_names mid stack ≡ stacked_names old w.stack.items
  looked_names = ap (stacked_names mid) l.look.after ∙ (entry_names dom plan ts old mid w rest top l.right l.later l.names l.walk.placed stacked entry l.look.stays ∙ ap (stacked_names old) (sym l.look.before))

  -- there is one
  pub looked_some : 0 < length stack
  looked_some =
      let n : length stack ≡ length rest + 1 = ap length l.look.after ∙ length-append rest (entry ∷ []) in
      omega (arith, n)

  -- the last of them has no cell still
  pub looked_absent : IsTopAbsent old w.stack.items → IsTopAbsent mid stack
  looked_absent absent us u e =
      subst (λ o. kept mid (name_of mid o) ≡ false) (same_last rest us entry u (sym l.look.after ∙ e)).1 (
      absent_mid dom plan ts old mid w rest top l.right l.later l.names l.walk.placed stacked entry l.look.stays (absent rest top l.look.before))

  -- a turn from here on is one from before the look
  pub looked_turns : {E : Type 0} {new : Store S} {after : Walk} {spent : Bool} {each ticks later : ℕ} {r : Result TurnOutcome E} → IsTurn dom plan ts mid new (stacked_names mid stack) after spent each ticks later r → IsTurn dom plan ts old new (stacked_names old w.stack.items) after spent each ticks later r
  looked_turns {E} {new} {after} {spent} {each} {ticks} {later} {r} t =
      turn_before dom plan ts old mid new l.right l.later.once l.names (stacked_names old w.stack.items) after spent each ticks later r (
      subst (λ xs. IsTurn dom plan ts mid new xs after spent each ticks later r) looked_names t)

  module _ (new : Walk) (on : new ≡ record w { stack = new.stack }) where
    -- the walk stays good
    pub looked_good : new.stack.items ≡ stack → IsGood dom plan ts mid new
    looked_good same = good_entry dom plan ts old mid w rest top l.right l.later l.names l.walk.placed stacked entry l.look.stays new on (same ∙ l.look.after)

    module _ {spent : Bool} {each ticks : ℕ} {E : Type 0} where
      -- the turn ends here: memory runs out
      pub looked_fails : {r : Result TurnOutcome E} → new.stack.items ≡ stack → (e : E) → r ≡ Err e → IsTurn dom plan ts old mid (stacked_names old w.stack.items) new spent each ticks ticks r
      looked_fails {r} same e is = turn_failed dom plan ts old mid (stacked_names old w.stack.items) new spent each ticks l.later l.names (looked_good same) e r is

      -- the name waits
      pub looked_waits : new.stack.items ≡ stack → next_of dom plan mid entry ≡ None → spent ≡ true → IsTurn {E = E} dom plan ts old mid (stacked_names old w.stack.items) new spent each ticks ticks (Ok Spent)
      looked_waits same none is =
          turn_spent dom plan ts old mid (stacked_names old w.stack.items) new spent each ticks l.later l.names (looked_good same) is (
          subst (λ xs. Waits dom plan ts old mid (stacked_names old xs) new) (sym l.look.before) (
          waits_top dom plan ts old mid w rest top l.right l.later l.names l.walk.placed stacked entry l.look.stays new none (same ∙ l.look.after)))

      -- its next input is pushed
      pub looked_pushes : {o u : Open} → new.stack.items ≡ stack ++ o ∷ [] → o ≡ u → IsNext dom plan mid entry (Some u) → IsTurn {E = E} dom plan ts old mid (stacked_names old w.stack.items) new spent each ticks ticks (Ok Pushed)
      looked_pushes {o} {u} items is next =
          let all : new.stack.items ≡ (rest ++ entry ∷ []) ++ u ∷ [] = items ∙ ap (λ xs. xs ++ o ∷ []) l.look.after ∙ ap (λ v. (rest ++ entry ∷ []) ++ v ∷ []) is in
          turn_pushed dom plan ts old mid (stacked_names old w.stack.items) new spent each ticks l.later l.names
          (good_pushed dom plan ts old mid w rest top l.right l.later l.names l.walk.placed stacked entry u l.look.stays next new on all) (
          subst (λ xs. Pushes old mid (stacked_names old xs) new) (sym l.look.before) (
          pushes_top dom plan ts old mid w rest top l.right l.later l.names l.walk.placed stacked entry u l.look.stays next new all))

    -- The name is taken off, and a value for it is to be found.
    module _ (others : List Open) (taken : Open) (takes : stack ≡ others ++ taken ∷ []) where
      same : (rest ≡ others) × (entry ≡ taken)
      same = same_last rest others entry taken (sym l.look.after ∙ takes)

      module _ {last : Store S} {spent : Bool} {each ticks later : ℕ} (least : ticks ≤ later) (most : later ≤ ticks + each) {E : Type 0} where
        -- memory runs out
        pub looked_unfills : {r : Result TurnOutcome E} → new.stack.items ≡ others → Computes dom plan mid last → (e : E) → r ≡ Err e → IsTurn dom plan ts old last (stacked_names old w.stack.items) new spent each ticks later r
        looked_unfills {r} left computes e is =
            turn_unfilled dom plan ts old mid last (stacked_names old w.stack.items) spent each ticks later l.names least most new computes
            (good_rest dom plan ts old mid w rest top l.right l.later l.names l.walk.placed stacked new on (left ∙ sym same.0)) e r is

        -- it is filled and handed down
        pub looked_fills : HandsDown taken.cell others new.stack.items → next_of dom plan mid entry ≡ None → Puts dom plan mid last (name_of mid taken) → spent ≡ false → IsTurn {E = E} dom plan ts old last (stacked_names old w.stack.items) new spent each ticks later (Ok Filled)
        looked_fills handed none filled is =
            let puts = subst (λ o. Puts dom plan mid last (name_of mid o)) (sym same.1) filled in
            let hands = subst (λ xs. HandsDown entry.cell xs new.stack.items) (sym same.0) (subst (λ o. HandsDown o.cell others new.stack.items) (sym same.1) handed) in
            turn_filled dom plan ts old mid last (stacked_names old w.stack.items) spent each ticks later l.names least most new (name_of mid entry) puts
            (good_handed dom plan ts old mid w rest top l.right l.later l.names l.walk.placed stacked entry l.look.stays last new on puts hands) (
            subst (λ xs. FillsTop dom plan ts old last (stacked_names old xs) new) (sym l.look.before) (
            fills_top dom plan ts old mid w rest top l.right l.later l.names l.walk.placed stacked entry l.look.stays last new none hands puts)) is
