-- The octagons as a domain.
use Rattle.dbm_close.specs.declared.closed.Closed.{Closed}
use Rattle.domain_laws.specs.Operations.{Operations}
use Rattle.dom_octagon_meaning.specs.Covers.{fits}
use Rattle.dom_octagon_meaning.specs.Operations.{assume, check, enter, init, join, leave, post, shed, widen}
use Rattle.dom_octagon_meaning.specs.States.{dead, same_state}
use Rattle.dom_octagon_meaning.specs.Text.{text}

abbrev pub octagons : Operations Closed
octagons = record {
  init = init;
  post = post;
  assume = assume;
  join = join;
  widen = widen;
  enter = enter;
  leave = leave;
  shed = shed;
  check = check;
  same = same_state;
  dead = dead;
  text = text;
  fits = fits;
}
