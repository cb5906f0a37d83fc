use Rattle.dom_interval_meaning.specs.Covers.{covers}
use Rattle.dom_interval_meaning.specs.Domain.{intervals}
use Rattle.dom_interval_words.specs.Words.{state_words, state_of, leq, interval_port}
use Rattle.dom_interval_words.proofs.Words.{interval_words_are}
use Rattle.cert_complete.proofs.Whole.{certificates_do_hold}
use Rattle.cert_complete.proofs.Frames.{heads_fit}
use Rattle.cert_accepted.proofs.Words.{words_put_utf8}
use Rattle.cert_accepted.proofs.Whole.{certificates_accepted}
use Rattle.cert_accepted.proofs.laws.interval_certificates_are_accepted.Goals as goal

pub returns : goal.returns
returns c =
    let laws = c.intervals_are_a_domain.ensures.laws in
    let places = c.places_are_found.ensures.found in
    let rises = c.thresholds_rise.ensures.rising in
    record {
      accepted =
          certificates_accepted intervals covers interval_port c.intervals_are_portable.ensures.portable (words_put_utf8 intervals state_words state_of leq interval_words_are) places (heads_fit intervals covers laws rises places)
          (certificates_do_hold intervals covers laws rises places c.chains_go_through_callers.ensures.through leq c.intervals_have_upper_bounds.ensures.upper);
    }
