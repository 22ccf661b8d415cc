-- The front of work memory, where the tokens begin: words, label commands and names that are among so many tokens are the same by it alone; and what
-- a state is placed in is among its tokens. Assumes nothing.
use Rattle.std.specs.Prelude.{Some, None, Option}
use Prim.Native.Nat.{ℕ, ◌+◌, ◌≤◌, ◌<◌}
use Rattle.commands.specs.StatePlaced.{CommandsPlaced, NamesPlaced}
use Rattle.labels.specs.LabelLists.{Fits, command_held, commands_held}
use Rattle.labels.specs.declared.labels.LabelCommand.{LabelCommand}
use Rattle.labels.specs.declared.labels.LabelCommands.{LabelCommands}
use Rattle.lexer.proofs.Basics.{and_both, and_left, and_right}
use Rattle.lexer.proofs.RangeLaws as words
use Rattle.lexer.specs.Lexing.{longest}
use Rattle.lexer.specs.Stored.{range, word_of}
use Rattle.parser.specs.Storing.{command_within, commands_within, names_within}
use borrow.Author.Tests.{le-leb, leb-true, lt-ltb, ltb-true}
use lib.Dec.{leb, ltb}
use lib.ListN.{length, take}
use mathlib.Core.Bool.{true, ◌&&◌}
use mathlib.Core.List.{List}
use mathlib.Core.Path.{◌≡◌, refl, sym}
use native.Mathlib.Omega.{arith}

-- A command, and each of the three, that is among so many tokens.
command-bounds : (count : ℕ) (c : LabelCommand) → command_within count c ≡ true → (c.head < 1048576) × (c.to ≤ count)
unfolding command_within longest
command-bounds count c h =
    let a = ltb c.head 1048576 in
    let b = leb c.to count in
    (ltb-true c.head 1048576 (and_left a b h), leb-true c.to count (and_right a b h))

commands-each : (count : ℕ) (ls : LabelCommands) → commands_within count ls ≡ true
    → (command_within count ls.first ≡ true) × (command_within count ls.second ≡ true) × (command_within count ls.third ≡ true)
unfolding commands_within
commands-each count ls h =
    let a = command_within count ls.first in
    let b = command_within count ls.second in
    let c = command_within count ls.third in
    let two = and_left (a && b) c h in
    (and_left a b two, and_right a b two, and_right (a && b) c h)

-- What is among the tokens is the same by the front.
module _ (text work : List ℕ) (count : ℕ) where
  pub word-front : (i : ℕ) → i < count → word_of text work i ≡ word_of text (take count work) i
  word-front i h = sym (words.word-front text work count i h)

  pub range_front : (from to : ℕ) → to ≤ count → range text work from to ≡ range text (take count work) from to
  range_front from to h = sym (words.range_front text work count from to h)

  command-front : (c : LabelCommand) → command_within count c ≡ true → command_held text work c ≡ command_held text (take count work) c
  command-front c h = rw (range_front (c.head + 1) c.to (command-bounds count c h).1)

  pub commands-front : (ls : LabelCommands) → commands_within count ls ≡ true → commands_held text work ls ≡ commands_held text (take count work) ls
  unfolding commands_held
  commands-front ls h =
      let e = commands-each count ls h in
      rw (command-front ls.first e.0, command-front ls.second e.1, command-front ls.third e.2)

-- It stands in front of any place behind the tokens.
module _ (count at : ℕ) where
  command-fits : (c : LabelCommand) → command_within count c ≡ true → count ≤ 1048576 → count ≤ at → Fits at c
  command-fits c h few behind = let b = command-bounds count c h in record { small = b.0; front = omega (arith, b.1); short = omega (arith, b.1) }

  pub commands-fit : (ls : LabelCommands) → commands_within count ls ≡ true → count ≤ 1048576 → count ≤ at → Fits at ls.first × Fits at ls.second × Fits at ls.third
  commands-fit ls h few behind =
      let e = commands-each count ls h in
      (command-fits ls.first e.0 few behind, command-fits ls.second e.1 few behind, command-fits ls.third e.2 few behind)

-- What is placed is among the tokens.
fit-within : (count : ℕ) (c : LabelCommand) → Fits count c → command_within count c ≡ true
unfolding command_within longest
fit-within count c f = and_both (lt-ltb c.head 1048576 f.small) (le-leb c.to count f.front)

module _ (text front : List ℕ) (size : ℕ) where
  pub placed-within : (ls : LabelCommands) → CommandsPlaced text front size ls → commands_within (length front) ls ≡ true
  unfolding commands_within
  placed-within ls p =
      let n = length front in
      and_both (and_both (fit-within n ls.first p.first) (fit-within n ls.second p.second)) (fit-within n ls.third p.third)

  pub names-placed-within : (names : Option (ℕ × ℕ)) → NamesPlaced text front size names → names_within (length front) names ≡ true
  unfolding names_within
  names-placed-within None p = refl
  names-placed-within (Some (from, to)) p = le-leb to (length front) p
