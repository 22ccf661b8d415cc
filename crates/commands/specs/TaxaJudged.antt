-- The words of TAXLABELS, which are judged before the step over the command.
use Rattle.std.specs.Prelude.{ℕ, ◌+◌, true, List, ◌≡◌, Result, ⊤}
use Rattle.block.specs.Commands.{words}
use Rattle.block.specs.Judged.{judged}
use Rattle.block.specs.Names.{unique_names}
use Rattle.block.specs.NamesHeld.{names_of}
use Rattle.lexer.specs.Base.{bytes}
use Rattle.lexer.specs.Stored.{range, word_of}
use Rattle.lexer.specs.Words.{is}
use Rattle.lexer.specs.declared.Fault.{Fault}

module _ (text starts : List ℕ) (head to : ℕ) (r : Result ⊤ (Fault ℕ)) where
  -- The words behind a command's own are names, no two of them alike, or this is their refusal.
  abbrev pub Judges : Type 0
  Judges = judged (names_of (words (range text starts (head + 1) to))) r ≡ unique_names (words (range text starts (head + 1) to))

  -- They were judged where the command is TAXLABELS.
  pub record TaxaJudged : Type 0 where
    pub right : is (bytes "TAXLABELS") (word_of text starts head) ≡ true → Judges
