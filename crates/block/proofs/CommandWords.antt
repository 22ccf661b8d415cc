-- What holds of every token of a text holds of the words of its commands. Assumes nothing.
use Rattle.block.proofs.OutcomeLaws.{All, all_map}
use Rattle.block.specs.Commands.{Command, command, empty, unended, newline, semicolon, up_to_end, ended, begun, commands_from, commands, words}
use Rattle.block.specs.TaxonOrder.{behind_header}
use Rattle.lexer.proofs.Basics.{by-test}
use Rattle.lexer.specs.Base.{pick}
use Rattle.lexer.specs.Words.{Numbered}
use mathlib.Core.Bool.{Bool, true, false}
use mathlib.Core.List.{List, [], ◌∷◌}
use mathlib.Core.Path.{◌≡◌}

-- What a command is cut from: tokens of which something holds.
pub data Cut (Q : Numbered → Type 0) : Command → Type 0 where
  whole : {h : Numbered} {raw : List Numbered} → Q h → All Q raw → Cut Q (command h raw)
  bare : (w : Numbered) → Q w → semicolon w ≡ true → Cut Q (empty w.index)
  last : (w : Numbered) → Q w → newline w ≡ false → semicolon w ≡ false → Cut Q (unended w.index)

-- A command with such tokens behind its first word.
abbrev pub OfTokens : (Numbered → Type 0) → Command → Type 0
OfTokens Q (command h raw) = All Q raw
OfTokens Q (empty i) = Unit {0}
OfTokens Q (unended i) = Unit {0}

module _ (Q : Numbered → Type 0) where
  pub all_words : (raw : List Numbered) → All Q raw → All Q (words raw)
  unfolding words pick
  all_words [] q = tt
  all_words (w ∷ r) q = by-test (newline w) (λ e. rw e (all_words r q.1)) (λ e. rw e (q.0, all_words r q.1))

  all-to-end : (ws : List Numbered) → All Q ws → All Q (up_to_end ws)
  unfolding up_to_end pick
  all-to-end [] q = tt
  all-to-end (w ∷ r) q = by-test (semicolon w) (λ e. rw e tt) (λ e. rw e (q.0, all-to-end r q.1))

  begun-cut : (w : Numbered) (r : List Numbered) → Q w → All Q r → newline w ≡ false → semicolon w ≡ false → Cut Q (begun w r)
  unfolding begun pick
  begun-cut w r p q n s = by-test (ended r) (λ e. rw e (whole p (all-to-end r q))) (λ e. rw e (last w p n s))

  commands-from-cut : (inside : Bool) (ws : List Numbered) → All Q ws → All (Cut Q) (commands_from inside ws)
  unfolding commands_from pick
  commands-from-cut inside [] q = tt
  commands-from-cut false (w ∷ r) q =
      by-test (newline w) (λ n. rw n (commands-from-cut false r q.1))
      (λ n. rw n (by-test (semicolon w) (λ s. rw s (bare w q.0 s, commands-from-cut false r q.1)) (λ s. rw s (begun-cut w r q.0 q.1 n s, commands-from-cut true r q.1))))
  commands-from-cut true (w ∷ r) q =
      by-test (semicolon w) (λ s. rw s (commands-from-cut false r q.1)) (λ s. rw s (commands-from-cut true r q.1))

  pub commands-cut : (ws : List Numbered) → All Q ws → All (Cut Q) (commands ws)
  unfolding commands
  commands-cut ws q = commands-from-cut false ws q

  cut-of : (c : Command) → Cut Q c → OfTokens Q c
  cut-of c (whole p q) = q
  cut-of c (bare w p s) = tt
  cut-of c (last w p n s) = tt

  pub commands-of : (ws : List Numbered) → All Q ws → All (OfTokens Q) (commands ws)
  commands-of ws q = all_map (Cut Q) (OfTokens Q) cut-of (commands ws) (commands-cut ws q)

  pub all-behind : (ws : List Numbered) → All Q ws → All Q (behind_header ws)
  unfolding behind_header pick
  all-behind [] q = tt
  all-behind (w ∷ r) q = by-test (newline w) (λ e. rw e (all-behind r q.1)) (λ e. rw e q.1)
