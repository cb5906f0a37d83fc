-- What the outside holds, and when a count of faults rose.
use Rattle.std.specs.Prelude.{◌==◌, ◌+◌, min, Bool, ◌≡◌, ℕ, ◌<◌, ◌≤◌, ◌^◌, ◌-◌, ◌++◌, ◌⊎◌, List, [], ◌∷◌, length, take, drop, Option, Some, None, Result, Ok, Err, IfSome, if◌then◌else◌}
use Rattle.std.specs.Str.{bytes_eq}
use Rattle.std.specs.List.{list_any}

-- The count rose in a call: it is greater than before, or it stands at its last value, 2^64 - 1.
abbrev pub Rose : ℕ → ℕ → Type 0
Rose before after = (before < after) ⊎ (2 ^ 64 - 1 ≤ after)

-- A file that is kept in memory.
pub record File : Type 0 where
  pub name : List ℕ
  pub bytes : List ℕ

-- The bytes of the first file of this name.
abbrev pub bytes_of : List ℕ → List File → Option (List ℕ)
bytes_of name [] = None
bytes_of name (file ∷ files) = if bytes_eq file.name name then Some file.bytes else bytes_of name files

-- the bytes of each name in a folder
abbrev pub told_of : List File → Option (List ℕ → Option (List ℕ))
told_of files = Some (λ name. bytes_of name files)

-- The files are told, and none has this name.
abbrev pub Lacks : Option (List ℕ → Option (List ℕ)) → List ℕ → Type 0
Lacks None name = ⊥
Lacks (Some files) name = files name ≡ None

-- There is a file, and it has more bytes than the limit.
abbrev pub IsLonger : Option (List ℕ) → ℕ → Type 0
IsLonger None limit = ⊥
IsLonger (Some bytes) limit = limit < length bytes

-- Which of the calls to come fail: the calls are numbered from 0, `calls` of them were made,
-- and each that failed was counted.
pub record Plan : Type 0 where
  pub failing : List ℕ
  pub calls : ℕ
  pub faults : ℕ

-- The next call is to fail.
abbrev pub is_planned : Plan → Bool
is_planned plan = list_any (λ call. call == plan.calls) plan.failing

-- one more, but no more than 2^64 - 1
abbrev pub one_more : ℕ → ℕ
one_more count = min (count + 1) (2 ^ 64 - 1)

-- the plan after a fault
abbrev pub with_fault : Plan → Plan
with_fault plan = record { failing = plan.failing; calls = plan.calls; faults = one_more plan.faults }

-- the plan after a call
abbrev pub after_call : Plan → Plan
after_call plan = record {
  failing = plan.failing;
  calls = one_more plan.calls;
  faults = if is_planned plan then one_more plan.faults else plan.faults;
}

-- A script in memory: the bytes that are left, the most that one call hands out, and the plan.
pub record Script : Type 0 where
  pub left : List ℕ
  pub most : ℕ
  pub plan : Plan

-- A sink in memory: the bytes that it has taken, the most that one call takes, and the plan.
pub record Taken : Type 0 where
  pub bytes : List ℕ
  pub most : ℕ
  pub plan : Plan

-- A folder in memory.
pub record Folder : Type 0 where
  pub files : List File
  pub plan : Plan

-- A read, where the bytes that are left are told: those handed out are the next ones.
abbrev pub HandsOut : {E : Type 0} → Option (List ℕ) → Option (List ℕ) → Result ℕ E → List ℕ → Type 0
HandsOut told told' (Ok n) buffer =
    IfSome told (λ left. (n ≤ length left) × (take n buffer ≡ take n left) × (told' ≡ Some (drop n left)))
HandsOut told told' (Err e) buffer = told' ≡ told

-- A write, where the bytes that were taken are told: they grow by the first of the piece.
abbrev pub Takes : {E : Type 0} → Option (List ℕ) → Option (List ℕ) → Result ℕ E → List ℕ → Type 0
Takes told told' (Ok n) piece = IfSome told (λ taken. told' ≡ Some (taken ++ take n piece))
Takes told told' (Err e) piece = told' ≡ told
