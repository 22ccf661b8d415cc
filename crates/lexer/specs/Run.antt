-- The definitions opened, so that antt computes them. A check by computation of what a text's tokens are goes through here.
use Rattle.std.specs.Prelude.{ℕ, List}
use Rattle.lexer.specs.Base
use Rattle.lexer.specs.Classes
use Rattle.lexer.specs.Lexing
use Rattle.lexer.specs.Places
use Rattle.lexer.specs.Scanning
use Rattle.lexer.specs.Stored
use Rattle.lexer.specs.Tokens
use Rattle.lexer.specs.Utf8
use Rattle.lexer.specs.Words

-- The tokens of a text.
unfoldable pub run_tokens : List ℕ → List Tokens.Token
unfolding Base.pick Base.given Base.is_empty Base.bytes Base.among Base.same Base.lower Base.alike Utf8.follow Utf8.after_lead Utf8.is_lead Utf8.utf8_from Utf8.utf8 Classes.marks Classes.class Classes.next2 Classes.next1 Classes.general Classes.general_blank Classes.wide_blank Classes.symbol_of Classes.symbol Classes.rank Classes.is_newline Classes.is_return Classes.is_blank Classes.is_single Classes.is_double Classes.is_open Classes.is_close Classes.is_other Classes.is_part Classes.is_space Classes.blank Tokens.after_between Tokens.after_word Tokens.up Tokens.after_comment Tokens.next Tokens.quoted_byte Tokens.text_step Tokens.tail Tokens.begins_between Tokens.begins Tokens.kind_of Tokens.text_of Tokens.token Tokens.unclosed Tokens.tokens_from Tokens.marked Tokens.unmarked Tokens.tokens Tokens.open_kind Tokens.left_open Places.move Places.place_from Places.place Places.nowhere Places.starts_from Places.first_byte Places.starts Places.opens_between Places.opens Places.opened_from Places.opened Words.numbered Words.is_word Words.is_quoted Words.is_string Words.is_line_end Words.is_mark Words.is Words.punct Words.spaced Words.label Words.digits Words.largest Words.unsigned Words.positive Words.number Lexing.longest Lexing.work_needed Lexing.counted Lexing.lexed Lexing.first_token Lexing.token_at Lexing.word_at Scanning.first_symbol Scanning.symbol_at Scanning.comment_end Scanning.quote_end Scanning.string_end Scanning.goes_on Scanning.word_end Scanning.skipped Scanning.taken Scanning.step_of Scanning.token_step Stored.walk_of Stored.walked Stored.word_of Stored.words_of Stored.range
run_tokens text = Tokens.tokens text
