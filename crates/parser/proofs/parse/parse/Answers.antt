-- The function `parse` meets its contract: #NEXUS, and the commands behind it. Assumes nothing.
use Rattle.lexer.specs.Base.{bytes}
use Rattle.parser.proofs.ParseLaws.{no_header, other-header, behind-header, parse-short, parse-refused, parse-read}
use Rattle.parser.proofs.parse.parse.Goals as goal

pub returns-then-work-count : goal.returns-then-work-count
returns-then-work-count c = parse-short _ _ _ c.if-work-count.true

pub returns-then-count-header : goal.returns-then-count-header
returns-then-count-header c = parse-refused _ _ _ _ _ (no_header _ _ _ _ c.skip_newlines-header.ensures c.if-count-header.true)

pub returns-then-not-is : goal.returns-then-not-is
unfolding bytes
returns-then-not-is c =
    parse-refused _ _ _ _ _ (other-header _ _ _ _ c.skip_newlines-header.ensures c.if-count-header.false _ c.is.ensures c.if-not-is.true)

pub returns : goal.returns
unfolding bytes
returns c =
    parse-read _ _ _ _ _ _ (behind-header _ _ _ _ c.skip_newlines-header.ensures c.if-count-header.false _ c.is.ensures c.if-not-is.false) c.read_commands.ensures
