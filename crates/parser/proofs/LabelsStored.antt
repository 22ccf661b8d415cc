-- The order and the labels of a matrix, stored one after the other behind its rows. Assumes nothing.
use Rattle.std.specs.Prelude.{Ok, Err, Result, ⊤}
use Prim.Native.Nat.{ℕ, ◌+◌, ◌*◌, ◌≤◌, ◌<◌}
use Rattle.block.specs.Format.{Format}
use Rattle.block.specs.Judged.{judged}
use Rattle.block.specs.Labels.{Labelled, apply_labels}
use Rattle.block.specs.Outcome.{Outcome, done, then}
use Rattle.block.specs.Reading.{Taxon}
use Rattle.commands.specs.MatrixHeld.{order_held}
use Rattle.commands.specs.WorkMap.{labels_place, map_fits, order_place}
use Rattle.commands.specs.declared.state.Data.{Data}
use Rattle.labels.specs.LabelLists.{Fits, commands_held}
use Rattle.labels.specs.LabelSlots.{labels_held}
use Rattle.labels.specs.declared.labels.LabelCommands.{LabelCommands}
use Rattle.lexer.specs.declared.refusal.Refusal.{Refusal}
use Rattle.parser.proofs.HeldLaws.{front_kept, order-kept}
use Rattle.parser.proofs.MapFits.{fits, fitting}
use Rattle.parser.proofs.StartsLaws.{commands-fit, commands-front}
use Rattle.parser.specs.Storing.{LabelsMade, OrderMade, commands_within, order_labelled, reading_parts}
use Rattle.lexer.specs.declared.Fault.{Fault}
use Rattle.lexer.specs.Refusals.{fault}
use lib.ListN.{length, take}
use mathlib.Core.Bool.{true}
use mathlib.Core.List.{List}
use mathlib.Core.Path.{◌≡◌, ap, ◌∙◌}
use native.Mathlib.Omega.{arith}

-- What storing asks for.
module _ (size count lines taxa characters : ℕ) (h : map_fits size count lines taxa characters ≡ true) where
  pub fits-order : map_fits size count lines taxa 0 ≡ true
  fits-order =
      let f = fitting size count lines taxa characters h in
      fits size count lines taxa 0 (record { few_tokens = f.few_tokens; few_lines = f.few_lines; few_taxa = f.few_taxa; few_characters = omega arith; order = f.order; types = omega (arith, f.types) })

  pub labels-few : (count ≤ 1048576) × (lines ≤ 1048576) × (taxa ≤ 1048576)
  labels-few = let f = fitting size count lines taxa characters h in (f.few_tokens, f.few_lines, f.few_taxa)

  pub labels-room : (n at symbols : ℕ) (ls : LabelCommands) → n ≡ size → at ≡ labels_place count lines taxa → commands_within count ls ≡ true → symbols < 128
      → (at + 2 * characters ≤ n) × (symbols < 128) × Fits at ls.first × Fits at ls.second × Fits at ls.third
  unfolding labels_place
  labels-room n at symbols ls same p w few =
      let f = fitting size count lines taxa characters h in
      let c = commands-fit count at ls w f.few_tokens (omega (arith, p)) in
      (omega (arith, p, same, f.types), few, c.0, c.1, c.2)

-- A judgement of the labels is one of the reading that has them.
labels-judged : (f : Format) (taxa : List Taxon) (cs : List Labelled) (r : Result ⊤ (Fault ℕ)) (o : Outcome (List Labelled)) → judged cs r ≡ o
    → judged (reading_parts f taxa cs) r ≡ then o (λ ls. done (reading_parts f taxa ls))
unfolding judged then
labels-judged f taxa cs (Ok tt) o e = rw (← e)
labels-judged f taxa cs (Err g) o e = rw (← e)

module _ (text before mid : List ℕ) (count lines taxa characters symbols head : ℕ) (d : Data) where
  -- The order was refused.
  pub order-refused : (n : Refusal) (i : ℕ) → OrderMade text before mid count lines taxa head d.names (Err (fault n i)) → LabelsMade text before mid count lines taxa characters symbols head d (Err (fault n i))
  unfolding order_labelled judged then
  order-refused n i o = record { size = o.size; kept = o.kept; each = λ f taken named below differ agreed. rw (← o.each taken named below differ agreed) }

  -- The order is stored, and then the labels.
  module _ (o : OrderMade text before mid count lines taxa head d.names (Ok tt)) (after : List ℕ) (same : length after ≡ length mid) (at : ℕ) (p : at ≡ labels_place count lines taxa)
      (front : take at after ≡ take at mid) (within : commands_within count d.labels ≡ true) (r : Result ⊤ (Fault ℕ))
      (labelled : judged (labels_held text after at characters) r ≡ apply_labels symbols characters (commands_held text mid d.labels)) where
    starts : take count mid ≡ take count before
    unfolding order_place
    starts = front_kept mid before (order_place count lines taxa) o.kept count (omega arith)

    commands : commands_held text mid d.labels ≡ commands_held text (take count before) d.labels
    commands = commands-front text mid count d.labels within ∙ ap (λ w. commands_held text w d.labels) starts

    order : (taken : List Taxon) → order_held text (take count before) after (order_place count lines taxa) taxa d.names taken ≡ order_held text (take count before) mid (order_place count lines taxa) taxa d.names taken
    unfolding order_place labels_place
    order taken = order-kept after mid at front text (take count before) (count + lines + taxa) taxa d.names taken (omega (arith, p))

    pub labels-stored : LabelsMade text before after count lines taxa characters symbols head d r
    unfolding order_labelled judged then order_place labels_place
    labels-stored =
        record {
          size = same ∙ o.size;
          kept = front_kept after mid at front (order_place count lines taxa) (omega (arith, p)) ∙ o.kept;
          each =
              λ f taken named below differ agreed.
              rw (← o.each taken named below differ agreed, order taken, ← p, ← commands)
              (labels-judged f _ _ r _ labelled);
        }
