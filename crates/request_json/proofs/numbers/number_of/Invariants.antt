use Rattle.std.proofs.Common.{◌≡◌, ◌<◌, drop}
use Rattle.std.specs.List.{list_all}
use Rattle.imp_lex.specs.Front.{is_digit}
use Rattle.imp_lex.specs.Numbers.{value_on}
use Rattle.request_json.proofs.numbers.number_of.Given as goal

-- the digits from here on decide
abbrev pub invariant-loop-digit : goal.invariant-loop-digit
invariant-loop-digit l = record {
  value : value_on l.value (drop l.digit-index l.digits) ≡ value_on 0 l.digits;
  all : list_all is_digit (drop l.digit-index l.digits) ≡ list_all is_digit l.digits;
  small : l.value < 4294967296;
}
