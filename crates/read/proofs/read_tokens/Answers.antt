-- The function read_tokens meets its contract: what is parsed of stored tokens is what the text is read as. Assumes nothing.
use Rattle.lexer.proofs.LexedAnswers.{tokens-lexed}
use Rattle.read.proofs.ReadLaws.{held-delivered, refused-delivered}
use Rattle.read.proofs.read_tokens.Goals as goal

pub refused_at-requires : goal.refused_at-requires
refused_at-requires c =
    (tokens-lexed _ _ _ c.requires.told).short

pub returns-in-Ok : goal.returns-in-Ok
returns-in-Ok c =
    record { given = held-delivered _ _ _ _ c.requires _ c.parse.ensures _ c.in-Ok.is _ _ _ c.deliver.ensures; size = c.parse.ensures.size }

pub returns-in-Err : goal.returns-in-Err
returns-in-Err c =
    record { given = refused-delivered _ _ _ _ c.requires _ c.parse.ensures _ _ c.in-Err.is _ _ c.refused_at.ensures; size = c.parse.ensures.size }
