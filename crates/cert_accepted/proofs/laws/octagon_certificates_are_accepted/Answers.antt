use Rattle.dom_octagon_meaning.specs.Covers.{covers}
use Rattle.dom_octagon_meaning.specs.Domain.{octagons}
use Rattle.dom_octagon_words.specs.Words.{state_words, state_of, leq, octagon_port}
use Rattle.dom_octagon_words.proofs.Words.{octagon_words_are}
use Rattle.cert_complete.proofs.Whole.{certificates_do_hold}
use Rattle.cert_complete.proofs.Frames.{heads_fit}
use Rattle.cert_accepted.proofs.Words.{words_put_utf8}
use Rattle.cert_accepted.proofs.Whole.{certificates_accepted}
use Rattle.cert_accepted.proofs.laws.octagon_certificates_are_accepted.Goals as goal

pub returns : goal.returns
returns c =
    let laws = c.octagons_are_a_domain.ensures.laws in
    let places = c.places_are_found.ensures.found in
    let rises = c.thresholds_rise.ensures.rising in
    record {
      accepted =
          certificates_accepted octagons covers octagon_port c.octagons_are_portable.ensures.portable (words_put_utf8 octagons state_words state_of leq octagon_words_are) places (heads_fit octagons covers laws rises places)
          (certificates_do_hold octagons covers laws rises places c.chains_go_through_callers.ensures.through leq c.octagons_have_upper_bounds.ensures.upper);
    }
