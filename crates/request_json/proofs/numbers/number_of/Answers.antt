use Rattle.std.proofs.Common.{sym, arith, refl}
use Rattle.request_json.proofs.NumberLemmas.{no_digits, many_digits, value_step, all_on, stops, ends}
use Rattle.request_json.proofs.numbers.number_of.Goals as goal

pub returns-then-digits-lt1 : goal.returns-then-digits-lt1
returns-then-digits-lt1 c = record { number = sym (no_digits c.args.digits.now (omega arith)) }

pub returns-then-digits-gt10 : goal.returns-then-digits-gt10
returns-then-digits-gt10 c = record { number = sym (many_digits c.args.digits.now (omega arith)) }

pub loop-digit-preserved : goal.loop-digit-preserved
loop-digit-preserved c =
    let more = (c.in-Some.ensures {u = tt}).more in
    record {
      value = value_step c.args.digits.now c.loop-digit.digit-index c.loop-digit.value c.in-Some.next (omega arith) more.1 c.loop-digit.invariant.value;
      all = all_on c.args.digits.now c.loop-digit.digit-index (omega arith) more.0 c.loop-digit.invariant.all;
      small = (c.in-Some.ensures {u = tt}).small;
    }

pub returns-in-None : goal.returns-in-None
returns-in-None c = record { number = sym (stops c.args.digits.now c.loop-digit.digit-index c.loop-digit.value (omega arith) c.loop-digit.invariant.value c.loop-digit.invariant.all ((c.in-None.ensures {u = tt}).stop refl)) }

pub returns : goal.returns
returns c = record { number = sym (ends c.args.digits.now c.loop-digit.digit-index c.loop-digit.value (omega arith) (omega arith) (omega arith) c.loop-digit.invariant.small c.loop-digit.invariant.value c.loop-digit.invariant.all) }
