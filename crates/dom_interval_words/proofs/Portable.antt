-- The laws of intervals as words.
use Rattle.cert_words.proofs.States.{words_are_portable}
use Rattle.dom_interval_meaning.specs.Covers.{covers}
use Rattle.dom_interval_meaning.specs.Domain.{intervals}
use Rattle.dom_interval_words.specs.Claims.{IntervalsArePortable}
use Rattle.dom_interval_words.specs.Words.{state_words, state_of, leq}
use Rattle.dom_interval_words.proofs.Words.{interval_words_are}
use Rattle.dom_interval_words.proofs.Ordered.{interval_order}

pub interval_portable : IntervalsArePortable
interval_portable = words_are_portable intervals covers state_words state_of leq interval_words_are interval_order
