-- The function `key_option` meets its contract, option by option. Assumes nothing.
use Rattle.block.proofs.FormatOptions.{symbols-given}
use Rattle.lexer.proofs.OptionLaws.{is-given}
use Rattle.block.specs.Format.{key_option, options, with_case, with_labels, with_no_tokens, with_interleave}
use Rattle.block.specs.Formats.{formatted_of, formatting_of, options_of}
use Rattle.lexer.specs.Base.{option_of}
use Rattle.lexer.specs.Stored.{word_of}
use mathlib.Core.Path.{◌∙◌}
use Rattle.block.proofs.format_options.key_option.Goals as goal

pub returns-in-DataType : goal.returns-in-DataType
unfolding key_option formatting_of options_of options word_of
returns-in-DataType c = λ text work. c.once.ensures text work ∙ rw (c.in-DataType.is, c.is_some.ensures, is-given)

pub returns-in-RespectCase : goal.returns-in-RespectCase
unfolding key_option formatting_of options_of options word_of with_case
returns-in-RespectCase c = λ text work. c.once-in-RespectCase.ensures text work ∙ rw c.in-RespectCase.is

pub returns-in-Labels : goal.returns-in-Labels
unfolding key_option formatting_of options_of options word_of with_labels
returns-in-Labels c = λ text work. c.once-in-Labels.ensures text work ∙ rw c.in-Labels.is

pub returns-in-NoTokens : goal.returns-in-NoTokens
unfolding key_option formatting_of options_of options word_of with_no_tokens
returns-in-NoTokens c = λ text work. c.once-in-NoTokens.ensures text work ∙ rw c.in-NoTokens.is

pub returns-in-Interleave : goal.returns-in-Interleave
unfolding key_option formatting_of options_of options word_of with_interleave option_of
returns-in-Interleave c = λ text work. c.once-in-Interleave.ensures text work ∙ rw (c.in-Interleave.is, c.is_some-in-Interleave.ensures, is-given)

pub returns-in-Symbols : goal.returns-in-Symbols
unfolding key_option formatting_of options_of options word_of
returns-in-Symbols c = λ text work. c.once-in-Symbols.ensures text work ∙ rw (c.in-Symbols.is, c.is_some-in-Symbols.ensures, symbols-given)

pub returns-in-Missing : goal.returns-in-Missing
unfolding key_option formatting_of options_of options word_of
returns-in-Missing c = λ text work. c.once-in-Missing.ensures text work ∙ rw (c.in-Missing.is, c.is_some-in-Missing.ensures, is-given)

pub returns-in-Gap : goal.returns-in-Gap
unfolding key_option formatting_of options_of options word_of
returns-in-Gap c = λ text work. c.once-in-Gap.ensures text work ∙ rw (c.in-Gap.is, c.is_some-in-Gap.ensures, is-given)

pub returns-in-Unknown : goal.returns-in-Unknown
unfolding formatted_of key_option word_of
returns-in-Unknown c = λ text work. rw c.in-Unknown.is
