use Rattle.dom_listseg_meaning.specs.Covers.{covers}
use Rattle.dom_listseg_meaning.specs.Domain.{segments}
use Rattle.dom_listseg_words.specs.Words.{state_words, state_of, leq, segment_port}
use Rattle.dom_listseg_words.proofs.Words.{segment_words_are}
use Rattle.cert_complete.proofs.Whole.{certificates_do_hold}
use Rattle.cert_complete.proofs.Frames.{heads_fit}
use Rattle.cert_accepted.proofs.Words.{words_put_utf8}
use Rattle.cert_accepted.proofs.Whole.{certificates_accepted}
use Rattle.cert_accepted.proofs.laws.segment_certificates_are_accepted.Goals as goal

pub returns : goal.returns
returns c =
    let laws = c.segments_are_a_domain.ensures.laws in
    let places = c.places_are_found.ensures.found in
    let rises = c.thresholds_rise.ensures.rising in
    record {
      accepted =
          certificates_accepted segments covers segment_port c.segments_are_portable.ensures.portable (words_put_utf8 segments state_words state_of leq segment_words_are) places (heads_fit segments covers laws rises places)
          (certificates_do_hold segments covers laws rises places c.chains_go_through_callers.ensures.through leq c.segments_have_upper_bounds.ensures.upper);
    }
