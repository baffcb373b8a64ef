-- The places of commands.
use Rattle.ctd_token.specs.declared.text.Place.{Place}
use Rattle.ctd_program.specs.Tree.{CommandTree, space, newline, eof, int, string, regex, assert, set, unset, loop, choice}

-- the place of a command's word
abbrev pub place_of : CommandTree → Place
place_of (space place) = place
place_of (newline place) = place
place_of (eof place) = place
place_of (int place low high target) = place
place_of (string place e) = place
place_of (regex place literal target) = place
place_of (assert place t) = place
place_of (set place assignments) = place
place_of (unset place names) = place
place_of (loop place guard counter sep body) = place
place_of (choice place t a b) = place
