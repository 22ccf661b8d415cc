-- The function `quoted_at` meets its contract. Assumes nothing.
use Rattle.assumptions.proofs.PartLaws.{quoted-kind, other-kind}
use Rattle.assumptions.proofs.parts.quoted_at.Goals as goal

pub returns-in-Quoted : goal.returns-in-Quoted
returns-in-Quoted c = rw (← c.kind_at.ensures) (quoted-kind _ c.in-Quoted.is)

pub returns-in_default : goal.returns-in_default
returns-in_default c = rw (← c.kind_at.ensures) (other-kind _ c.in_default.not-Quoted c.in_default.not-String)
