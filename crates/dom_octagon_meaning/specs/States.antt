-- States: nothing, or a matrix. Equal ones have the same kinds and entries, closed or not.
use Rattle.std.specs.Prelude.{ℕ, Bool, true, false, ◌≡◌, refl}
use Rattle.std.specs.Bool.{Decides}
use Rattle.std.specs.Cmp.{IsEquivalence, IsPartialEquivalence, decided, partial_equiv_from_equiv}
use Rattle.std.proofs.Common.{ap, subst}
use Rattle.std.proofs.lemmas.Bool.{false≢true}
use Rattle.dbm_core.specs.Half.{HalfMatrix}
use Rattle.dbm_core.specs.Same.{same_matrix, same_matrix-Decides}
use Rattle.dbm_close.specs.CloseOf.{close_of}
use Rattle.dbm_close.specs.declared.closed.Closed.{Closed}
use Rattle.dbm_close.specs.declared.closed.Closed.TheVariants.{Empty, Matrix}

-- one thing after another: what is Empty stays so
abbrev pub unless_empty : Closed → (HalfMatrix → Closed) → Closed
unless_empty Empty f = Empty
unless_empty (Matrix m) f = f m

-- the closed state
abbrev pub closed : Closed → Closed
closed s = unless_empty s close_of

-- whether nothing is described
unfoldable pub dead : Closed → Bool
dead Empty = true
dead (Matrix m) = false

-- whether two states are equal
abbrev pub same_state : Closed → Closed → Bool
same_state Empty Empty = true
same_state Empty (Matrix b) = false
same_state (Matrix a) Empty = false
same_state (Matrix a) (Matrix b) = same_matrix a b

state_equal : (a b : Closed) → same_state a b ≡ true → a ≡ b
state_equal Empty Empty h = refl
state_equal Empty (Matrix b) h = absurd (false≢true h)
state_equal (Matrix a) Empty h = absurd (false≢true h)
state_equal (Matrix a) (Matrix b) h = ap Matrix ((same_matrix-Decides a b).0 h)

state_self : (a : Closed) → same_state a a ≡ true
state_self Empty = refl
state_self (Matrix a) = (same_matrix-Decides a a).1 refl

pub state_Decides : (a b : Closed) → Decides (same_state a b) (a ≡ b)
state_Decides a b = (state_equal a b, λ e. subst (λ z. same_state a z ≡ true) e (state_self a))

pub state_equiv : IsEquivalence same_state
state_equiv = decided same_state state_Decides

pub state_per : IsPartialEquivalence same_state
state_per = partial_equiv_from_equiv state_equiv
