-- The function `symbols_value` meets its contract: the symbols are known by the index of their token. Assumes nothing.
use Rattle.block.specs.Format.{format_value, options, with_symbols}
use Rattle.block.specs.Formats.{formatted_of, formatting_of, options_of, symbols_of}
use Rattle.lexer.specs.Base.{pick}
use Rattle.lexer.specs.Stored.{word_of}
use Rattle.block.proofs.format_options.symbols_value.Goals as goal

pub returns-then-is_string : goal.returns-then-is_string
unfolding format_value formatted_of formatting_of options_of options with_symbols symbols_of pick word_of
returns-then-is_string c = rw (← c.is_string.ensures, c.if-is_string.true)

pub returns : goal.returns
unfolding format_value formatted_of formatting_of options_of options pick word_of
returns c = rw (← c.is_string.ensures, c.if-is_string.false)
