-- In how many statements of a procedure each number stands.
use Rattle.std.specs.Prelude.{◌≡◌, ℕ, zero, suc, ◌+◌, Bool, true, false, List, [], ◌∷◌, ◌++◌, Option, Some, None, map, min, ◌^◌, ◌-◌, ◌==◌, if◌then◌else◌}
use Rattle.std.specs.Coded.{Coded, codes, coded_list}
use Rattle.std.specs.Ordering.{nat_cmp}
use Rattle.std.specs.List.Sorted.{IsStrictlySortedBy}
use Rattle.std.specs.Map.{keys_of, lookup}
use Rattle.std.specs.BTreeMap.{is_at}
use Rattle.std.specs.BTreeSet.{insert_key}
use Rattle.imp_slots.specs.Plain.{Code, Stop, Simple, If, While, Call, Break, Routine}
use Rattle.imp_chains.specs.declared.widening.Widening.{Widening}
use Rattle.imp_chains.specs.Chains.{has}
use Rattle.imp_chains.specs.Thresholds.{effect_literals, guard_literals, argument_literals, literals}

-- the numbers of each statement, without those inside it
abbrev pub literal_lists : Code → List (List ℕ)
literal_lists Stop = []
literal_lists (Simple n e r) = effect_literals e ∷ literal_lists r
literal_lists (If n g t e r) = guard_literals g ∷ (literal_lists t ++ (literal_lists e ++ literal_lists r))
literal_lists (While n g b r) = guard_literals g ∷ (literal_lists b ++ literal_lists r)
literal_lists (Call n i q r) = argument_literals i.entering.arguments ∷ literal_lists r
literal_lists (Break n r) = [] ∷ literal_lists r

abbrev pub one_if : Bool → ℕ
one_if true = 1
one_if false = 0

-- in how many of these lists a number stands
abbrev pub times : ℕ → List (List ℕ) → ℕ
times n [] = 0
times n (ns ∷ more) = one_if (has n ns) + times n more

-- how often a number stands among these
abbrev pub occurs : ℕ → List ℕ → ℕ
occurs n [] = 0
occurs n (k ∷ ks) = one_if (n == k) + occurs n ks

-- each of these numbers once, rising
abbrev pub rising : List ℕ → List ℕ
rising [] = []
rising (n ∷ ns) = insert_key nat_cmp (rising ns) n

-- each number of a block, rising, with in how many statements it stands
abbrev pub tally : Code → List (ℕ × ℕ)
tally c = map (λ n. (n, times n (literal_lists c))) (rising (literals c))

-- that of a procedure, where numbers are thresholds
abbrev pub tally_by : Widening → Routine → List (ℕ × ℕ)
tally_by w r = if w.thresholds then tally r.code else []

abbrev pub all_tallies : Widening → List Routine → List (List (ℕ × ℕ))
all_tallies w program = map (tally_by w) program

abbrev pub or_none : ℕ → Option ℕ
or_none zero = None
or_none (suc n) = Some (suc n)

-- Entries say how often each number stands. Those that stand nowhere are left out.
pub record Tells (entries : List (ℕ × ℕ)) (count : ℕ → ℕ) : Type 0 where
  pub sorted : IsStrictlySortedBy nat_cmp (keys_of entries)
  pub at : (n : ℕ) → lookup (is_at (nat_cmp n)) entries ≡ or_none (count n)

-- the greatest count that fits 32 bits, in place of greater ones
abbrev pub capped : ℕ → ℕ
capped n = min n (2 ^ 32 - 1)

pub pair_code : Coded (ℕ × ℕ)
pair_code = hlevel codes

abbrev pub tally_code : Coded (List (ℕ × ℕ))
tally_code = coded_list pair_code
