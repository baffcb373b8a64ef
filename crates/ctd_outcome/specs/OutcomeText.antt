-- How sites are written.
use Rattle.std.specs.Prelude.{ℕ, List, codes}
use Rattle.ctd_token.specs.FaultText.{place_text}
use Rattle.ctd_outcome.specs.declared.outcome.Site.{Site}
use Rattle.ctd_outcome.specs.declared.outcome.Site.TheVariants.{Start, At, Finish}

-- where in the program
abbrev pub site_text : Site → List ℕ
site_text Start = codes "program start"
site_text (At p) = place_text p
site_text Finish = codes "program end"
