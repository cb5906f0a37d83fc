-- The laws of list segments as words.
use Rattle.cert_words.proofs.States.{words_are_portable}
use Rattle.dom_listseg_meaning.specs.Covers.{covers}
use Rattle.dom_listseg_meaning.specs.Domain.{segments}
use Rattle.dom_listseg_words.specs.Claims.{SegmentsArePortable}
use Rattle.dom_listseg_words.specs.Words.{state_words, state_of, leq}
use Rattle.dom_listseg_words.proofs.Words.{segment_words_are}
use Rattle.dom_listseg_words.proofs.Ordered.{segment_order}

pub segment_portable : SegmentsArePortable
segment_portable = words_are_portable segments covers state_words state_of leq segment_words_are segment_order
