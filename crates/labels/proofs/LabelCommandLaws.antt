-- Label commands, one after the other. Assumes nothing.
use Prim.Native.Nat.{ℕ, ◌+◌, ◌≤◌, ◌<◌, min}
use Rattle.block.specs.Commands.{words}
use Rattle.block.specs.Labels.{unlabelled, label_command, apply_labels}
use Rattle.block.specs.Outcome.{done, refused, then, fold}
use Rattle.labels.specs.LabelLists.{command_held, commands_held, command_step, listed, Fits}
use Rattle.labels.specs.LabelSlots.{labels_held}
use Rattle.labels.specs.declared.labels.LabelCommand as code
use Rattle.labels.specs.declared.labels.LabelCommands.{LabelCommands}
use Rattle.lexer.proofs.RangeLaws.{range_front}
use Rattle.lexer.specs.Stored.{range}
use Rattle.lexer.specs.declared.refusal.Refusal.{Refusal}
use Rattle.std.proofs.lemmas.List.{take_min, take-map}
use Rattle.std.proofs.lemmas.List.Elements.{All-cons, All-get_or, All-take}
use lib.ListN.{length, get_or, take, drop, replicate, length-map, drop_of_length-le, get_or-map}
use lib.Seq.{drop-cons}
use mathlib.Core.List.{List, [], ◌∷◌, map}
use mathlib.Core.Path.{◌≡◌, sym, ap, ◌∙◌}
use native.Mathlib.Numerals.{add-one}
use native.Mathlib.Omega.{arith}

-- The commands that are there, so many of the three
module _ (ls : LabelCommands) (m : ℕ) (all : m ≡ min ls.count 3) where
  commands-taken : (text work : List ℕ) → commands_held text work ls ≡ map (command_held text work) (take m (listed ls))
  unfolding commands_held
  commands-taken text work =
      let held = map (command_held text work) (listed ls) in
      sym (take_min ls.count held) ∙ ap (λ k. take k held) (sym all) ∙ take-map (command_held text work) m (listed ls)

  module _ (i : ℕ) where
    commands-next : (text work : List ℕ) (d : code.LabelCommand) → i < length (take m (listed ls)) → drop i (commands_held text work ls) ≡ command_held text work (get_or (take m (listed ls)) i d) ∷ drop (i + 1) (commands_held text work ls)
    commands-next text work d h =
        let f = command_held text work in
        let l : i < length (map f (take m (listed ls))) = rw (length-map (take m (listed ls)) f) h in
        rw (commands-taken text work, add-one i) (drop-cons (map f (take m (listed ls))) i (f d) l ∙ rw (get_or-map f (take m (listed ls)) i d))

    commands-end : (text work : List ℕ) → length (take m (listed ls)) ≤ i → drop i (commands_held text work ls) ≡ []
    commands-end text work h =
        let f = command_held text work in
        let l : length (map f (take m (listed ls))) ≤ i = rw (length-map (take m (listed ls)) f) h in
        rw (commands-taken text work) (drop_of_length-le (map f (take m (listed ls))) l)

    pub commands-fit : (at : ℕ) (d : code.LabelCommand) → Fits at ls.first → Fits at ls.second → Fits at ls.third → i < length (take m (listed ls)) → Fits at (get_or (take m (listed ls)) i d)
    commands-fit at d p q r h =
        let F = Fits at in
        let three = All-cons F ls.first (ls.second ∷ ls.third ∷ []) p (All-cons F ls.second (ls.third ∷ []) q (All-cons F ls.third [] r (λ k e l. absurd (omega arith)))) in
        All-get_or F (take m (listed ls)) i d h (All-take F m (listed ls) three)

-- The walk: the labels so far, with the commands from an index on, come to the whole.
pub record Applying (text : List ℕ) (at n symbols : ℕ) (ls : LabelCommands) (before work : List ℕ) (i : ℕ) : Type 0 where
  pub size : length work ≡ length before
  pub front : take at work ≡ take at before
  pub rest : fold (command_step symbols) (labels_held text work at n) (drop i (commands_held text before ls)) ≡ fold (command_step symbols) (labels_held text before at n) (commands_held text before ls)

module _ (text : List ℕ) (at n symbols : ℕ) (ls : LabelCommands) (before : List ℕ) where
  module _ (work : List ℕ) (i : ℕ) (k : Applying text at n symbols ls before work i) (m : ℕ) (all : m ≡ min ls.count 3) where
    pub applying-end : length (take m (listed ls)) ≤ i → done (labels_held text work at n) ≡ fold (command_step symbols) (labels_held text before at n) (commands_held text before ls)
    unfolding fold
    applying-end h = rw (commands-end ls m all i text before h) at k.rest

    module _ (d : code.LabelCommand) (h : i < length (take m (listed ls))) (c : code.LabelCommand) (this : c ≡ get_or (take m (listed ls)) i d) (within : c.to ≤ at) where
      same : words (range text work (c.head + 1) c.to) ≡ words (range text before (c.head + 1) c.to)
      same = ap words (sym (range_front text work at (c.head + 1) c.to within) ∙ ap (λ (f : List ℕ). range text f (c.head + 1) c.to) k.front ∙ range_front text before at (c.head + 1) c.to within)

      next : then (label_command symbols c.what (command_held text work c) (labels_held text work at n)) (λ ds. fold (command_step symbols) ds (drop (i + 1) (commands_held text before ls))) ≡ fold (command_step symbols) (labels_held text before at n) (commands_held text before ls)
      unfolding fold
      next = rw same (rw (commands-next ls m all i text before d h, ← this) at k.rest)

      pub applying-turn : (after : List ℕ) → length after ≡ length work → take at after ≡ take at work → done (labels_held text after at n) ≡ label_command symbols c.what (command_held text work c) (labels_held text work at n) → Applying text at n symbols ls before after (i + 1)
      unfolding then
      applying-turn after size front o = record { size = size ∙ k.size; front = front ∙ k.front; rest = rw (← o) at next }

      pub applying-refused : (r : Refusal) (j : ℕ) → refused r j ≡ label_command symbols c.what (command_held text work c) (labels_held text work at n) → refused r j ≡ fold (command_step symbols) (labels_held text before at n) (commands_held text before ls)
      unfolding then
      applying-refused r j o = rw (← o) at next

-- Commands whose tokens stand in front of a place are what they were.
module _ (text work after : List ℕ) (at : ℕ) (front : take at after ≡ take at work) where
  command-kept : (c : code.LabelCommand) → Fits at c → command_held text after c ≡ command_held text work c
  command-kept c f = rw same
    where
      same : words (range text after (c.head + 1) c.to) ≡ words (range text work (c.head + 1) c.to)
      same = ap words (sym (range_front text after at (c.head + 1) c.to f.front) ∙ ap (λ (l : List ℕ). range text l (c.head + 1) c.to) front ∙ range_front text work at (c.head + 1) c.to f.front)

  commands-kept : (ls : LabelCommands) → Fits at ls.first → Fits at ls.second → Fits at ls.third → commands_held text after ls ≡ commands_held text work ls
  unfolding commands_held
  commands-kept ls p q r = rw (command-kept ls.first p, command-kept ls.second q, command-kept ls.third r)

  -- from characters without labels on they come to what they give
  pub applied-clear : (ls : LabelCommands) → Fits at ls.first → Fits at ls.second → Fits at ls.third → (symbols n : ℕ) → labels_held text after at n ≡ replicate n unlabelled
      → fold (command_step symbols) (labels_held text after at n) (commands_held text after ls) ≡ apply_labels symbols n (commands_held text work ls)
  unfolding apply_labels
  applied-clear ls p q r symbols n clear = rw (clear, commands-kept ls p q r)
