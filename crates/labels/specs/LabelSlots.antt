-- The labels of characters as work memory holds them, two numbers for each character: from a place on the labels of all, then the state labels of
-- all. Their words are those whose starts stand in front of that place, so that a store of a label changes no word.
use Rattle.std.specs.Prelude.{ℕ, zero, suc, ◌+◌, ◌/◌, ◌%◌, length, take, get_or, List, [], ◌∷◌}
use Rattle.block.specs.Commands.{words}
use Rattle.block.specs.Labels.{Labelled, character, with_label}
use Rattle.block.specs.NamesHeld.{name_of, names_of}
use Rattle.block.specs.Outcome.{Outcome, done, refused, then, need}
use Rattle.lexer.specs.Base.{pick, given}
use Rattle.lexer.specs.Stored.{word_of, range}
use Rattle.lexer.specs.Words.{Numbered, label}
use Rattle.lexer.specs.declared.refusal.Refusal.{Refusal}
use Rattle.std.proofs.Math.Option.{Option, none, some}

-- The label that a number stands for: 0 none; else it is one more than the index of a word, and the label is that word's name.
unfoldable pub label_slot : List ℕ → List ℕ → ℕ → Option (List ℕ)
label_slot text front zero = none
label_slot text front (suc i) = some (name_of (word_of text front i))

-- The state labels that a number stands for: 0 none were given; else it is one more than 128 times the index of a word and a count below 128, and the
-- state labels are so many names from that word on.
unfoldable pub states_slot : List ℕ → List ℕ → ℕ → Option (List (List ℕ))
states_slot text front zero = none
states_slot text front (suc v) = some (take (v % 128) (names_of (words (range text front (v / 128) (length front)))))

unfoldable pub slots : List ℕ → List ℕ → ℕ → ℕ → Labelled
slots text front l s = record { label = label_slot text front l; states = states_slot text front s }

-- The labels of so many characters, whose two numbers stand from these places on.
unfoldable pub labels_of : List ℕ → List ℕ → List ℕ → ℕ → ℕ → ℕ → List Labelled
labels_of text front work l s zero = []
labels_of text front work l s (suc n) =
    let more = labels_of text front work (suc l) (suc s) n in
    slots text front (get_or work l 0) (get_or work s 0) ∷ more

-- The labels of so many characters, held from a place of work memory on.
unfoldable pub labels_held : List ℕ → List ℕ → ℕ → ℕ → List Labelled
labels_held text work at count = labels_of text (take at work) work at (at + count) count

-- A word is the label of the character with a number, unless that has one: 26 then at an index, and 17 at a word that is no name.
unfoldable pub label_one : List Labelled → ℕ → ℕ → Numbered → Outcome (List Labelled)
label_one cs k i w =
    let named = then (need (label w) Refusal.NotName w.index) (λ n. done (with_label k n cs)) in
    pick (given (character k cs).label) (refused Refusal.LabelEntry i) named
