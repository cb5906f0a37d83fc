-- The generated script.
use Rattle.std.specs.Prelude.{ℕ, zero, suc, ◌+◌, List, [], ◌++◌, codes, ◌==◌, if◌then◌else◌}
use Rattle.std.specs.Fmt.{decimal}
use Rattle.daig_gen.specs.declared.turns.ScriptRequest.{ScriptRequest}
use Rattle.daig_gen.specs.declared.turns.ScriptRequest.TheVariants.{Ask, Replace, Insert}
use Rattle.daig_gen.specs.Draws.{next, pick, variable, constant}
use Rattle.daig_gen.specs.Pieces.{constant_text}
use Rattle.daig_gen.specs.Source.{pieces}

-- which turn the numbers below 4 stand for
unfoldable pub turn_of : ℕ → ScriptRequest
turn_of k = if k == 2 then Replace else (if k == 3 then Insert else Ask)

-- for the state after statement n, and for its cost
unfoldable pub ask_text : ℕ → List ℕ
ask_text n = codes "{\"at\":\"after " ++ decimal n ++ codes "\",\"do\":\"state\"}\n{\"do\":\"cost\"}\n"

-- `vX = C;` in place of statement n
unfoldable pub replace_text : ℕ → ℕ → ℕ → List ℕ
replace_text n x c = codes "{\"do\":\"replace\",\"id\":" ++ decimal n ++ codes ",\"text\":\"" ++ constant_text x c ++ codes "\"}\n"

-- `skip;` after statement n
unfoldable pub insert_text : ℕ → List ℕ
insert_text n = codes "{\"do\":\"insert\",\"place\":\"after " ++ decimal n ++ codes "\",\"text\":\"skip;\"}\n"

-- the lines of a turn about statement n, whose variable and constant are drawn from the state s on
abbrev pub lines_of : ScriptRequest → ℕ → ℕ → List ℕ
lines_of Ask n s = ask_text n
lines_of Replace n s = replace_text n (variable s) (constant (next s))
lines_of Insert n s = insert_text n

-- the state after those draws
abbrev pub state_after : ScriptRequest → ℕ → ℕ
state_after Ask s = s
state_after Replace s = next (next s)
state_after Insert s = s

-- The turn at the state s, of a source with so many statements: the turn is drawn, then the statement, then what occurs.
unfoldable pub turn_lines : ℕ → ℕ → List ℕ
turn_lines statements s = lines_of (turn_of (pick 4 s)) (1 + pick statements (next s)) (next (next s))

unfoldable pub turn_state : ℕ → ℕ
turn_state s = state_after (turn_of (pick 4 s)) (next (next s))

-- n turns from the state s on
abbrev pub turns : ℕ → ℕ → ℕ → List ℕ
turns statements zero s = []
turns statements (suc n) s = turn_lines statements s ++ turns statements n (turn_state s)

-- the script of this seed and size: as many turns as the source has pieces, from the state after the source on
unfoldable pub script_of : ℕ → ℕ → List ℕ
script_of seed size = let all = pieces size seed in turns all.statements size all.state
