-- The intervals as a domain.
use Rattle.domain_laws.specs.Operations.{Operations}
use Rattle.dom_interval_meaning.specs.State.{Intervals, intervals_same}
use Rattle.dom_interval_meaning.specs.Operations.{init, post, assume, join, enter, leave, shed, check, dead}
use Rattle.dom_interval_meaning.specs.Widening.{widen}
use Rattle.dom_interval_meaning.specs.Text.{text}
use Rattle.dom_interval_meaning.specs.Covers.{fits}

abbrev pub intervals : Operations Intervals
intervals = record {
  init = init;
  post = post;
  assume = assume;
  join = join;
  widen = widen;
  enter = enter;
  leave = leave;
  shed = shed;
  check = check;
  same = intervals_same;
  dead = dead;
  text = text;
  fits = fits;
}
