use Rattle.ctd_traps.proofs.Knowing.{elements_so}
use Rattle.ctd_traps.proofs.known.add_value.Goals as goal

pub returns : goal.returns
returns c = λ names n h stands so. c.in_ok-add_known-2.ensures names h (elements_so names c.args.i c.args.value n h stands) (c.in_ok-add_known.ensures names h (c.known_alone.ensures names n h stands) so)
