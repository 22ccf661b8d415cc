-- Where the code is in an entry list of labels, and what its answers mean.
use Rattle.std.specs.Prelude.{ℕ, ◌≤◌, List, Ok, Err, Result}
use Rattle.block.specs.Commands.{words}
use Rattle.block.specs.Labels.{Labelled, LabelCommand, Entry, first, next, numbered, labelled, states, Entries, at}
use Rattle.block.specs.NamesHeld.{names_of}
use Rattle.block.specs.Outcome.{Outcome, done, refused}
use Rattle.block.specs.declared.kinds.Labelling.{Labelling}
use Rattle.labels.specs.declared.entries.Entry as code
use Rattle.lexer.specs.Stored.{range}
use Rattle.lexer.specs.Words.{Numbered}
use Rattle.lexer.specs.declared.Fault.{Fault}

-- In front of an index: the state labels so far are the names of the words from where they begin up to there.
unfoldable pub entry_of : List ℕ → List ℕ → ℕ → code.Entry → Entry
entry_of text work here code.Entry.First = first
entry_of text work here code.Entry.Next = next
entry_of text work here (code.Entry.Numbered k i) = numbered k.0 i
entry_of text work here (code.Entry.Labelled k i) = labelled k.0 i
entry_of text work here (code.Entry.States k i from) = states k.0 i (names_of (words (range text work from here)))

-- Its character is one of so many, and its state labels begin in front of the index.
abbrev pub placed : ℕ → ℕ → code.Entry → Type 0
placed count here code.Entry.First = Unit {0}
placed count here code.Entry.Next = Unit {0}
placed count here (code.Entry.Numbered k i) = (1 ≤ k.0) × (k.0 ≤ count)
placed count here (code.Entry.Labelled k i) = (1 ≤ k.0) × (k.0 ≤ count)
placed count here (code.Entry.States k i from) = (1 ≤ k.0) × (k.0 ≤ count) × (from ≤ here)

-- The list with one word more: the labels of the characters and the place in front of an index, or the refusal.
unfoldable pub entered : List ℕ → List ℕ → List Labelled → ℕ → Result code.Entry (Fault ℕ) → Outcome Entries
entered text work cs here (Ok e) = done (at cs (entry_of text work here e))
entered text work cs here (Err f) = refused f.0 f.1

abbrev pub placed_answer : ℕ → ℕ → Result code.Entry (Fault ℕ) → Type 0
placed_answer count here (Ok e) = placed count here e
placed_answer count here (Err f) = Unit {0}

-- A label command by its parts.
abbrev pub command_of : Labelling → ℕ → List Numbered → LabelCommand
command_of what head ws = record { what = what; head = head; words = ws }
