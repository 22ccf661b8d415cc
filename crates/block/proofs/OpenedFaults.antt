-- What BEGIN refuses, and what is known of the name of the block that it opens. Assumes nothing.
use Prim.Native.Nat.{ℕ}
use Rattle.block.proofs.Faulted.{Ends, gives, refuses, either}
use Rattle.block.proofs.LabelFaults.{LabellingFaults}
use Rattle.block.proofs.OutcomeLaws.{All}
use Rattle.block.proofs.ToldFaults.{Told, at_token, Characters, CommandOf, first, told-first}
use Rattle.block.specs.Blocks.{Data, Phase, outside, in_taxa, in_data, in_assumptions, in_trees, State, in_phase, begin_assumptions, no_data, begin_block, begin_words, ends, is_outside}
use Rattle.block.specs.Commands.{words}
use Rattle.block.specs.Faults.{TokenOf, BlockName, any, filled_block, known_block, ComesToEnd, FirstWord, open_name, unfilled, Misplaced, unknown, taxa_late, data_twice, assumptions_early, assumptions_twice, unended_block, not_begin, wrong_block, not_filled, taxa_count}
use Rattle.block.specs.Reading.{Reading}
use Rattle.lexer.proofs.Basics.{or-first, or-second, or-both}
use Rattle.lexer.specs.Base.{bytes, given}
use Rattle.lexer.specs.Words.{Numbered, is}
use Rattle.lexer.specs.declared.refusal.Refusal.{Refusal}
use borrow.Author.Tests.{eqb-false}
use lib.Dec.{eqb}
use lib.ListN.{length}
use mathlib.Core.Bool.{Bool, true, false, ◌||◌}
use mathlib.Core.List.{List, [], ◌∷◌}
use mathlib.Core.Option.{Option, none, some}
use mathlib.Core.Path.{◌≡◌, refl}

-- The name of a block of this kind, by its index.
pub data Opens (text : List ℕ) (kind : Numbered → Bool) : ℕ → Type 0 where
  opens : (w : Numbered) → TokenOf text w → BlockName text kind w → Opens text kind w.index

-- Another kind that such a name is of.
widened : (text : List ℕ) (kind more : Numbered → Bool) (b : ℕ) → ((w : Numbered) → kind w ≡ true → more w ≡ true) → Opens text kind b → Opens text more b
widened text kind more b f (opens w t n) =
    opens w t (record { first = n.first; behind = n.behind; comes = n.comes; top = n.top; begins = n.begins; alone = n.alone; of_kind = f w n.of_kind })

module _ (text : List ℕ) where
  abbrev pub LabelsTold : Data → Type 0
  LabelsTold d = All (LabellingFaults (Characters text) (Told text)) d.labels

  -- What holds of the open block: its name, and its label commands, which are refused later.
  abbrev pub Opened : Phase → Type 0
  Opened outside = Unit {0}
  Opened (in_taxa b count names) = Opens text (is (bytes "TAXA")) b
  Opened (in_data b d) = Opens text filled_block b × LabelsTold d
  Opened (in_assumptions b default set) = Opens text known_block b
  Opened (in_trees b) = Opens text known_block b

  abbrev pub OpenedIn : State → Type 0
  OpenedIn s = Opened s.phase

  pub taxa-filled : (b : ℕ) → Opens text (is (bytes "TAXA")) b → Opens text filled_block b
  unfolding filled_block
  taxa-filled b k = widened text (is (bytes "TAXA")) filled_block b (λ w e. or-first (is (bytes "TAXA") w) _ e) k

  pub filled-known : (b : ℕ) → Opens text filled_block b → Opens text known_block b
  unfolding known_block
  filled-known b k = widened text filled_block known_block b (λ w e. or-first (filled_block w) _ e) k

  -- 9, where the block is open at the end
  pub unended : (e : ComesToEnd text) (b : ℕ) → Opens text known_block b → open_name e.state.phase ≡ some b → Told text Refusal.UnendedBlock b
  unended e b (opens w t n) o = at_token w t (unended_block e n o)

  -- 14 and 16, where END ends the block
  module _ (h : Numbered) (f : FirstWord text ends h) where
    pub empty_block : (b : ℕ) → Opens text filled_block b → open_name f.comes.state.phase ≡ some b → unfilled f.comes.state.phase ≡ true → Told text Refusal.Absent b
    empty_block b (opens w t n) o e = at_token w t (not_filled (record { name = n; end = h; first = f; opened = o }) e)

    pub miscounted : (b count : ℕ) (ns : List (List ℕ)) → Opens text (is (bytes "TAXA")) b → f.comes.state.phase ≡ in_taxa b count (some ns) → eqb (length ns) count ≡ false → Told text Refusal.Count b
    unfolding open_name
    miscounted b count ns (opens w t n) at e = at_token w t (taxa_count (record { name = n; end = h; first = f; opened = rw at refl }) at (eqb-false (length ns) count e))

-- BEGIN
module _ (text : List ℕ) (h : Numbered) (raw : List Numbered) (c : CommandOf text h raw) (top : is_outside c.comes.state.phase ≡ true) where
  abbrev s : State
  s = c.comes.state

  module _ (b : Numbered) (begins : is (bytes "BEGIN") h ≡ true) (alone : words raw ≡ b ∷ []) (token : TokenOf text b) where
    abbrev name : (kind : Numbered → Bool) → kind b ≡ true → BlockName text kind b
    name kind e = record { first = h; behind = raw; comes = c.comes; top = top; begins = begins; alone = alone; of_kind = e }

    named : (kind : Numbered → Bool) → kind b ≡ true → Opens text kind b.index
    named kind e = opens b token (name kind e)

    wrong : Misplaced s b → Told text Refusal.Block b.index
    wrong m = at_token b token (wrong_block (name any refl) m)

    assumptions-faults : (seen : Bool) (m : Option Reading) → s.assumptions ≡ seen → s.matrix ≡ m → is (bytes "ASSUMPTIONS") b ≡ true
        → Ends (Told text) (OpenedIn text) (begin_assumptions s b.index seen m)
    unfolding begin_assumptions in_phase known_block given
    assumptions-faults true m at same e = refuses (wrong (assumptions_twice e at))
    assumptions-faults false none at same e = refuses (wrong (assumptions_early e (rw same refl)))
    assumptions-faults false (some r) at same e = gives (named known_block (or-second (filled_block b) _ (or-first (is (bytes "ASSUMPTIONS") b) _ e)))

    begin-faults : Ends (Told text) (OpenedIn text) (begin_block s b)
    unfolding begin_block in_phase no_data filled_block known_block
    begin-faults =
        either (Told text) (is (bytes "TAXA") b) (λ e. either (Told text) (given s.taxa || given s.matrix) (λ g. refuses (wrong (taxa_late e g))) (λ g. gives (named (is (bytes "TAXA")) e)))
        (λ n. either (Told text) (is (bytes "DATA") b || is (bytes "CHARACTERS") b) (λ e. either (Told text) (given s.matrix) (λ g. refuses (wrong (data_twice e g))) (λ g. gives (named filled_block (or-second (is (bytes "TAXA") b) _ e), tt)))
        (λ o. either (Told text) (is (bytes "ASSUMPTIONS") b) (λ e. assumptions-faults s.assumptions s.matrix refl refl e)
        (λ p. either (Told text) (is (bytes "TREES") b) (λ e. gives (named known_block (or-second (filled_block b) _ (or-second (is (bytes "ASSUMPTIONS") b) _ e))))
        (λ q. refuses (wrong (unknown (or-both (or-both n o) (or-both p q))))))))

  not-begin : ((b : Numbered) → words raw ≡ b ∷ [] → is (bytes "BEGIN") h ≡ false) → Told text Refusal.NotBegin h.index
  not-begin f = told-first c (not_begin (first c any refl) top f)

  pub words-faults : (ws : List Numbered) → words raw ≡ ws → All (TokenOf text) ws → Ends (Told text) (OpenedIn text) (begin_words c.comes.state h ws)
  unfolding begin_words
  words-faults [] at q = refuses (not-begin (λ b e. cc))
  words-faults (b ∷ []) at q = either (Told text) (is (bytes "BEGIN") h) (λ e. begin-faults b e at q.0) (λ e. refuses (not-begin (λ o p. e)))
  words-faults (b ∷ d ∷ r) at q = refuses (not-begin (λ o e. cc))
