-- What the program's claims stand for.
use Rattle.crs_audit.specs.declared.claims.Claim.{Claim as CodeClaim}
use Rattle.crs_audit.specs.declared.claims.Said.{Said as CodeSaid}
use Rattle.crs_audit.specs.declared.claims.Said.TheVariants as code
use Rattle.crs_audit.specs.Claims.{Claim, Said, Other, Formless, Claims}

abbrev pub claim_seen : CodeClaim → Claim
claim_seen c = record { name = c.name.now; mark = c.mark; numbers = c.numbers.items }

abbrev pub said_seen : CodeSaid → Said
said_seen code.Other = Other
said_seen code.Formless = Formless
said_seen (code.Claims claim) = Claims (claim_seen claim)
