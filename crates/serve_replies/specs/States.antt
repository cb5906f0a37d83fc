-- The reply to a question for a state.
use Rattle.std.specs.Prelude.{List, [], reverse, slice_get, Option, Some, None, option_map}
use Rattle.imp_syntax.specs.declared.edit.Location.{Location}
use Rattle.imp_slots.specs.Plain.{Layout, Routine}
use Rattle.domain_laws.specs.Operations.{Operations}
use Rattle.batch_meaning.specs.Values.{Value, State, Over}
use Rattle.batch_meaning.specs.Answers.{Answer, Refuses, Answers, Found, In, Misses, procedure_of}
use Rattle.request_json.specs.declared.reply.Reply.{Reply}
use Rattle.request_json.specs.declared.reply.Reply.TheVariants as r
use Rattle.request_json.specs.declared.reply.Refusal.TheVariants as refusal

-- the variables of a frame; none where there is no frame
abbrev pub layout_or_none : Option Layout → Layout
layout_or_none None = record { numbers = []; links = [] }
layout_or_none (Some layout) = layout

-- those of the procedure of a location, where the program has the location
abbrev pub layout_found : List Routine → Found → Option Layout
layout_found program (In p) = option_map (λ (r : Routine). r.layout) (slice_get program p)
layout_found program (Misses why) = None

abbrev pub layout_at : List Routine → Location → Layout
layout_at program l = layout_or_none (layout_found program (procedure_of program l))

module _ {S : Type 0} (dom : Operations S) where
  -- a state as text, or the loop that used up its budget, with its chain from the outermost call in
  abbrev pub value_reply : Layout → Value S → Reply
  value_reply layout (State s) = r.State (dom.text layout s)
  value_reply layout (Over n z) = r.Over n (reverse z)

  abbrev pub answer_reply : Layout → Answer S → Reply
  answer_reply layout (Refuses why) = r.Refused (refusal.Query why)
  answer_reply layout (Answers v) = value_reply layout v
