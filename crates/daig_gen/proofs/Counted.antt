-- Pieces and turns, one after another: i of n are written.
use Rattle.std.proofs.Common.{◌≡◌, ℕ, suc, ◌+◌, ◌-◌, ◌<◌, List, ◌++◌, append_assoc, add_assoc, arith, ap, sym, ◌∙◌}
use Rattle.daig_gen.specs.Source.{piece, pieces}
use Rattle.daig_gen.specs.Script.{turn_lines, turn_state, turns}

one_less : (n i : ℕ) → i < n → n - i ≡ suc (n - (i + 1))
one_less n i h = omega arith

pub more_bytes : (text text' want : List ℕ) (n i s s' : ℕ) → i < n → text' ≡ text ++ (piece s).bytes → s' ≡ (piece s).state →
    text ++ (pieces (n - i) s).bytes ≡ want → text' ++ (pieces (n - (i + 1)) s').bytes ≡ want
more_bytes text text' want n i s s' h goes state is =
    ap (λ t. t ++ (pieces (n - (i + 1)) s').bytes) goes
    ∙ ap (λ u. (text ++ (piece s).bytes) ++ (pieces (n - (i + 1)) u).bytes) state
    ∙ append_assoc text (piece s).bytes (pieces (n - (i + 1)) (piece s).state).bytes
    ∙ ap (λ k. text ++ (pieces k s).bytes) (sym (one_less n i h))
    ∙ is

pub more_statements : (count count' want : ℕ) (n i s s' : ℕ) → i < n → count' ≡ count + (piece s).statements → s' ≡ (piece s).state →
    count + (pieces (n - i) s).statements ≡ want → count' + (pieces (n - (i + 1)) s').statements ≡ want
more_statements count count' want n i s s' h goes state is =
    ap (λ t. t + (pieces (n - (i + 1)) s').statements) goes
    ∙ ap (λ u. (count + (piece s).statements) + (pieces (n - (i + 1)) u).statements) state
    ∙ add_assoc count (piece s).statements (pieces (n - (i + 1)) (piece s).state).statements
    ∙ ap (λ k. count + (pieces k s).statements) (sym (one_less n i h))
    ∙ is

pub more_state : (want : ℕ) (n i s s' : ℕ) → i < n → s' ≡ (piece s).state →
    (pieces (n - i) s).state ≡ want → (pieces (n - (i + 1)) s').state ≡ want
more_state want n i s s' h state is =
    ap (λ u. (pieces (n - (i + 1)) u).state) state ∙ ap (λ k. (pieces k s).state) (sym (one_less n i h)) ∙ is

pub more_lines : (lines lines' want : List ℕ) (t n i s s' : ℕ) → i < n → lines' ≡ lines ++ turn_lines t s → s' ≡ turn_state s →
    lines ++ turns t (n - i) s ≡ want → lines' ++ turns t (n - (i + 1)) s' ≡ want
more_lines lines lines' want t n i s s' h goes state is =
    ap (λ l. l ++ turns t (n - (i + 1)) s') goes
    ∙ ap (λ u. (lines ++ turn_lines t s) ++ turns t (n - (i + 1)) u) state
    ∙ append_assoc lines (turn_lines t s) (turns t (n - (i + 1)) (turn_state s))
    ∙ ap (λ k. lines ++ turns t k s) (sym (one_less n i h))
    ∙ is
