-- What a generated script comes to: how many replies there are of each kind, and how many cells states cost.
use Rattle.std.specs.Prelude.{ℕ, ◌+◌, ◌*◌, ◌≤◌, ◌^◌, Bool, true, false, List, ◌++◌, codes, if◌then◌else◌, nat_eq}
use Rattle.std.specs.List.{starts_with}
use Rattle.std.specs.Fmt.{decimal}
use Rattle.request_json.specs.declared.reply.Reply.{Reply}
use Rattle.request_json.specs.declared.reply.Reply.TheVariants as r
use Rattle.gen_summary.specs.declared.kind.ReplyKind.{ReplyKind}
use Rattle.gen_summary.specs.declared.kind.ReplyKind.TheVariants.{Next, State, Over, Cost, Refused, Other}
use Rattle.gen_summary.specs.declared.tally.ReplyTally.{ReplyTally}

-- the kind of a reply: which of these members it has
abbrev pub kind_of : Reply → ReplyKind
kind_of (r.State text) = State
kind_of (r.Over head chain) = Over
kind_of (r.Report items) = Other
kind_of (r.Faults found) = Other
kind_of (r.Cost cost kept) = Cost
kind_of (r.Program next text) = Next
kind_of (r.Listing text) = Other
kind_of (r.Run end reached) = Other
kind_of (r.Next next) = Next
kind_of (r.Why ids) = Other
kind_of (r.Ticket ticket) = Other
kind_of (r.Pending filled) = Other
kind_of (r.Cancelled ticket) = Other
kind_of (r.Refused why) = Refused

-- .. told by how its line begins
abbrev pub begins : List ℕ → (line : List ℕ) → Bool
begins front line = starts_with nat_eq line front

unfoldable pub kind_in : (line : List ℕ) → ReplyKind
kind_in line =
    if begins (codes "{\"state\":") line then State
    else (if begins (codes "{\"chain\":") line then Over
    else (if begins (codes "{\"cost\":") line then Cost
    else (if begins (codes "{\"next\":") line then Next
    else (if begins (codes "{\"refused\":") line then Refused
    else (if begins (codes "{\"at\":") line then Refused
    else Other)))))

-- nothing was replied yet
abbrev pub nothing : ReplyTally
nothing = record { edits = 0; filled = 0; over = 0; refused = 0; states = 0; is_answered = false }

-- one more reply; a cost counts where it comes straight after a state or an over
abbrev pub counted : ReplyKind → (cost : ℕ) → ReplyTally → ReplyTally
counted Next cost t = record { edits = t.edits + 1; filled = t.filled; over = t.over; refused = t.refused; states = t.states; is_answered = false }
counted State cost t = record { edits = t.edits; filled = t.filled; over = t.over; refused = t.refused; states = t.states + 1; is_answered = true }
counted Over cost t = record { edits = t.edits; filled = t.filled; over = t.over + 1; refused = t.refused; states = t.states; is_answered = true }
counted Cost cost t = record { edits = t.edits; filled = if t.is_answered then t.filled + cost else t.filled; over = t.over; refused = t.refused; states = t.states; is_answered = false }
counted Refused cost t = record { edits = t.edits; filled = t.filled; over = t.over; refused = t.refused + 1; states = t.states; is_answered = false }
counted Other cost t = record { edits = t.edits; filled = t.filled; over = t.over; refused = t.refused; states = t.states; is_answered = false }

-- the cost that a reply tells
abbrev pub cost_in : Reply → ℕ
cost_in (r.State text) = 0
cost_in (r.Over head chain) = 0
cost_in (r.Report items) = 0
cost_in (r.Faults found) = 0
cost_in (r.Cost cost kept) = cost
cost_in (r.Program next text) = 0
cost_in (r.Listing text) = 0
cost_in (r.Run end reached) = 0
cost_in (r.Next next) = 0
cost_in (r.Why ids) = 0
cost_in (r.Ticket ticket) = 0
cost_in (r.Pending filled) = 0
cost_in (r.Cancelled ticket) = 0
cost_in (r.Refused why) = 0

abbrev pub tally_with : Reply → ReplyTally → ReplyTally
tally_with reply t = counted (kind_of reply) (cost_in reply) t

-- so many replies at most were added
pub record IsWithin (n : ℕ) (t : ReplyTally) : Type 0 where
  pub edits : t.edits ≤ n
  pub filled : t.filled ≤ n * 2 ^ 64
  pub over : t.over ≤ n
  pub refused : t.refused ≤ n
  pub states : t.states ≤ n

-- the line of the summary
unfoldable pub summary_text : ReplyTally → List ℕ
summary_text t =
    codes "{\"edits\":" ++ (decimal t.edits ++ (codes ",\"filled\":" ++ (decimal t.filled ++ (codes ",\"over\":" ++ (decimal t.over
    ++ (codes ",\"refused\":" ++ (decimal t.refused ++ (codes ",\"states\":" ++ (decimal t.states ++ codes "}\n")))))))))
