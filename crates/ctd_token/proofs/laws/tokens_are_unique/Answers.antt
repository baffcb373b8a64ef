use Rattle.ctd_token.proofs.UniqueTokens.{same_cut, no_cut, same_fault}
use Rattle.ctd_token.proofs.Decided.{decided}
use Rattle.ctd_token.proofs.laws.tokens_are_unique.Goals as goal

pub returns-clause-same : goal.returns-clause-same
returns-clause-same c text a b x y = same_cut text 0 text a b x y

pub returns-clause-no_fault : goal.returns-clause-no_fault
returns-clause-no_fault c text offset kind a f x = no_cut text 0 offset text a kind f x

pub returns-clause-first_fault : goal.returns-clause-first_fault
returns-clause-first_fault c text p q kind other f g = same_fault 0 p q text kind other f g

pub returns-clause-decided : goal.returns-clause-decided
returns-clause-decided c text = decided text
