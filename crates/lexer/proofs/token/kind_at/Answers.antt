-- The function `kind_at` meets its contract: the token's kind, by the symbol of its first byte. Assumes nothing.
use Rattle.lexer.proofs.TokenParts.{kind-newline, kind-single, kind-double, kind-word, kind-mark, kind-past}
use Rattle.lexer.proofs.token.kind_at.Goals as goal

pub returns-then-text-start : goal.returns-then-text-start
returns-then-text-start c = kind-past _ _ c.if-text-start.true

pub returns-in-Newline : goal.returns-in-Newline
returns-in-Newline c = kind-newline _ _ c.if-text-start.false _ c.symbol_at.ensures c.in-Newline.is

pub returns-in-Single : goal.returns-in-Single
returns-in-Single c = kind-single _ _ c.if-text-start.false _ c.symbol_at.ensures c.in-Single.is

pub returns-in-Double : goal.returns-in-Double
returns-in-Double c = kind-double _ _ c.if-text-start.false _ c.symbol_at.ensures c.in-Double.is

pub returns-in-Other : goal.returns-in-Other
returns-in-Other c = kind-word _ _ c.if-text-start.false _ c.symbol_at.ensures c.in-Other.is

pub returns-in_default : goal.returns-in_default
returns-in_default c = kind-mark _ _ c.if-text-start.false _ c.symbol_at.ensures (c.in_default.not-Newline, c.in_default.not-Single, c.in_default.not-Double, c.in_default.not-Other)
