-- The trees of generated sources have the language's names, numbers and budgets.
use Rattle.std.proofs.Common.{◌≤◌, ℕ, zero, suc, [], ◌∷◌, refl, arith}
use Rattle.std.specs.Prelude.{codes}
use Rattle.base_values.specs.Numbers.{greatest}
use Rattle.imp_syntax.specs.declared.words.Operator.TheVariants.{Add, Subtract}
use Rattle.imp_syntax.specs.Plain.{Expression, Literal, Variable, Binary, Statements}
use Rattle.imp_parse.specs.Grammar.{disjunction, or_ends, conjunction, and_ends, compare, value}
use Rattle.imp_parse.specs.Answer.{Fits}
use Rattle.imp_parse.specs.Limits.{inside, role_of}
use Rattle.daig_gen.specs.declared.pieces.PieceKind.{PieceKind}
use Rattle.daig_gen.specs.declared.pieces.PieceKind.TheVariants.{Constant, Sum, Difference, While, If, Array, Input, Node}
use Rattle.daig_gen.specs.Draws.{next, pick, variable, constant}
use Rattle.daig_gen.specs.Pieces.{kind_of, variable_text}
use Rattle.daig_gen.specs.Source.{piece}
use Rattle.imp_round_trip.specs.Printable.{IsNamed, HasWords, IsExpressionOfText, IsConditionOfText, IsPrintableBlock, IsPrintable}
use Rattle.imp_round_trip.proofs.Tokens.{expression_tokens, condition_tokens}
use Rattle.imp_round_trip.proofs.SpelledExpressions.{spelled}
use Rattle.gen_sources.specs.Trees.{named, less, piece_tree, pieces_tree, main_with}
use Rattle.gen_sources.proofs.Words.{variable_below, constant_below, is_variable, array_named, first_list, second_list, main_named, v0_named, v1_named, v2_named, v3_named}

of_text : (e : Expression) → HasWords e → Fits inside (expression_tokens e) → IsExpressionOfText e
of_text e h f = record { words = h; tokens = expression_tokens e; spelled = (spelled e).expression; fits = f }

-- the name of the variable that is drawn at the state s
drawn : (s : ℕ) → IsNamed (variable_text (variable s))
drawn s = is_variable (variable s) (variable_below s)

literal : (n : ℕ) → n ≤ greatest → IsExpressionOfText (Literal n)
unfolding role_of
literal n h = of_text (Literal n) h refl

alone : (s : ℕ) → IsExpressionOfText (named (variable s))
unfolding role_of
alone s = of_text (named (variable s)) (drawn s) refl

plus : (s n : ℕ) → n ≤ greatest → IsExpressionOfText (Binary Add (named (variable s)) (Literal n))
unfolding role_of
plus s n h = of_text (Binary Add (named (variable s)) (Literal n)) (drawn s, h) refl

minus : (s t : ℕ) → IsExpressionOfText (Binary Subtract (named (variable s)) (named (variable t)))
unfolding role_of
minus s t = of_text (Binary Subtract (named (variable s)) (named (variable t))) (drawn s, drawn t) refl

below_number : (s n : ℕ) → n ≤ greatest → IsConditionOfText (less (named (variable s)) (Literal n))
unfolding role_of
below_number s n h =
    record {
      words = (drawn s, h);
      tokens = condition_tokens (less (named (variable s)) (Literal n));
      spelled = disjunction (conjunction (compare _ (value (spelled (named (variable s))).expression) refl refl (value (spelled (Literal n)).expression)) and_ends) or_ends;
      fits = refl;
    }

below_variable : (s t : ℕ) → IsConditionOfText (less (named (variable s)) (named (variable t)))
unfolding role_of
below_variable s t =
    record {
      words = (drawn s, drawn t);
      tokens = condition_tokens (less (named (variable s)) (named (variable t)));
      spelled = disjunction (conjunction (compare _ (value (spelled (named (variable s))).expression) refl refl (value (spelled (named (variable t))).expression)) and_ends) or_ends;
      fits = refl;
    }

of_list : IsExpressionOfText (Variable (codes "p"))
unfolding role_of
of_list = of_text (Variable (codes "p")) first_list refl

piece_printable : (kind : PieceKind) (s : ℕ) (rest : Statements) → IsPrintableBlock 0 rest → IsPrintableBlock 0 (piece_tree kind s rest)
piece_printable Constant s rest h = ((drawn s, literal (constant (next s)) (constant_below (next s))), h)
piece_printable Sum s rest h = ((drawn s, plus (next s) (constant (next (next s))) (constant_below (next (next s)))), h)
piece_printable Difference s rest h = ((drawn s, minus (next s) (next (next s))), h)
piece_printable While s rest h = ((below_number s (constant (next s)) (constant_below (next s)), omega arith, ((drawn s, plus s 1 (omega arith)), tt)), h)
piece_printable If s rest h =
    ((below_variable s (next s), omega arith, ((drawn s, alone (next s)), tt), ((drawn (next s), literal (constant (next (next s))) (constant_below (next (next s)))), tt)), h)
piece_printable Array s rest h = ((array_named, literal (constant s) (constant_below s)), h)
piece_printable Input s rest h = (drawn s, h)
piece_printable Node s rest h = (first_list, ((first_list, second_list), ((second_list, of_list), h)))

pub pieces_printable : (size s : ℕ) → IsPrintableBlock 0 (pieces_tree size s)
pieces_printable zero s = tt
pieces_printable (suc n) s = piece_printable (kind_of (pick 8 s)) (next s) (pieces_tree n (piece s).state) (pieces_printable n (piece s).state)

pub program_printable : (size s : ℕ) → IsPrintable (main_with (pieces_tree size s) ∷ [])
program_printable size s = (record { name = main_named; parameters = tt; outcome = tt; locals = (v0_named, (v1_named, (v2_named, (v3_named, (array_named, (first_list, (second_list, tt))))))); body = pieces_printable size s }, tt)
