-- How many lines more can be answered, from line to line.
use Rattle.std.proofs.Common.{ℕ, zero, suc, ◌≤◌, arith, Result, Ok, Err, OnOk}
use Rattle.serve_script.specs.Lasts.{LastsFor}

-- as many, or fewer
pub fewer : {lasts : ℕ → Type 0} (a b : ℕ) → b ≤ a → LastsFor lasts a → LastsFor lasts b
fewer a b few for = record { most = for.most; enough = let enough = for.enough in omega arith; held = for.held }

one_of : (lasts : ℕ → Type 0) (most : ℕ) → 1 ≤ most → lasts most → (n : ℕ) × lasts (suc n)
one_of lasts zero some held = absurd (omega arith)
one_of lasts (suc n) some held = (n, held)

-- one line more
pub one_more_line : {lasts : ℕ → Type 0} → LastsFor lasts 1 → (n : ℕ) × lasts (suc n)
one_more_line {lasts = lasts} for = one_of lasts for.most for.enough for.held

less_of : (lasts later : ℕ → Type 0) → ((n : ℕ) → lasts (suc n) → later n) → (most n : ℕ) → suc n ≤ most → lasts most → LastsFor later n
less_of lasts later goes zero n enough held = absurd (omega arith)
less_of lasts later goes (suc most) n enough held = record { most = most; enough = omega arith; held = goes most held }

-- after a line that was answered, one fewer
pub answered_less : {T E : Type 0} (lasts later : ℕ → Type 0) (r : Result T E) → OnOk r ((n : ℕ) → lasts (suc n) → later n) →
    OnOk r ((n : ℕ) → LastsFor lasts (suc n) → LastsFor later n)
answered_less lasts later (Ok x) goes = λ n for. less_of lasts later goes for.most n for.enough for.held
answered_less lasts later (Err e) goes = tt
