-- Label commands by their kinds: whether one is among those that are held, and how many kinds there are with one command more. Assumes nothing.
use Prim.Native.Nat.{ℕ, zero, suc, ◌+◌, ◌≤◌}
use Rattle.block.specs.Blocks.{labelled_by, same_labelling}
use Rattle.block.specs.Labels.{LabelCommand}
use Rattle.block.specs.contracts.kinds.Labelling.{the_type}
use Rattle.block.specs.declared.kinds.Labelling.{Labelling}
use Rattle.commands.specs.LabelKinds.{OneMore, kinds_among}
use Rattle.commands.specs.StatePlaced.{CommandPlaced, CommandsPlaced}
use Rattle.labels.specs.LabelEntries.{command_of}
use Rattle.labels.specs.LabelLists.{Fits, command_held, commands_held, listed}
use Rattle.labels.specs.declared.labels.LabelCommand as code
use Rattle.labels.specs.declared.labels.LabelCommands.{LabelCommands}
use Rattle.lexer.proofs.Basics.{or_assoc, or-false}
use Rattle.lexer.specs.Base.{pick}
use Rattle.lexer.specs.Words.{Numbered}
use Rattle.std.specs.List.{list_any}
use denote.Enum.Bare.{sameb}
use lib.ListN.{length, take}
use mathlib.Core.Bool.{Bool, true, false, ◌||◌}
use mathlib.Core.List.{List, [], ◌∷◌, ◌++◌, map}
use mathlib.Core.Path.{◌≡◌, refl, sym, ap, ◌∙◌}
use native.Mathlib.Omega.{arith}

-- Two kinds are equal where they are the same.
pub same_kind : (a b : Labelling) → sameb the_type a b ≡ same_labelling b a
unfolding same_labelling
same_kind Labelling.CharLabels Labelling.CharLabels = refl
same_kind Labelling.CharLabels Labelling.StateLabels = refl
same_kind Labelling.CharLabels Labelling.CharStateLabels = refl
same_kind Labelling.StateLabels Labelling.CharLabels = refl
same_kind Labelling.StateLabels Labelling.StateLabels = refl
same_kind Labelling.StateLabels Labelling.CharStateLabels = refl
same_kind Labelling.CharStateLabels Labelling.CharLabels = refl
same_kind Labelling.CharStateLabels Labelling.StateLabels = refl
same_kind Labelling.CharStateLabels Labelling.CharStateLabels = refl

-- A kind is among the commands that are held where one of these has it.
module _ (text work : List ℕ) (l : Labelling) where
  among_first : (n : ℕ) (cs : List code.LabelCommand) → list_any (λ x. same_labelling l x.what) (take n cs) ≡ labelled_by l (take n (map (command_held text work) cs))
  unfolding labelled_by
  among_first zero cs = refl
  among_first (suc n) [] = refl
  among_first (suc n) (c ∷ cs) = ap (λ (x : Bool). same_labelling l c.what || x) (among_first n cs)

  pub among-held : (ls : LabelCommands) → list_any (λ x. same_labelling l x.what) (take ls.count (listed ls)) ≡ labelled_by l (commands_held text work ls)
  unfolding commands_held
  among-held ls = among_first ls.count (listed ls)

-- One command more has its own kind.
labelled-more : (k : Labelling) (cs : List LabelCommand) (c : LabelCommand) → labelled_by k (cs ++ (c ∷ [])) ≡ labelled_by k cs || same_labelling k c.what
unfolding labelled_by
labelled-more k [] c = or-false (same_labelling k c.what)
labelled-more k (d ∷ cs) c = rw (labelled-more k cs c) (or_assoc (same_labelling k d.what) (labelled_by k cs) (same_labelling k c.what))

-- A kind that is new is one kind more,
module _ (head : ℕ) (ws : List Numbered) (cs : List LabelCommand) where
  kinds-more : (l : Labelling) → labelled_by l cs ≡ false → kinds_among (cs ++ (command_of l head ws ∷ [])) ≡ kinds_among cs + 1
  unfolding kinds_among same_labelling pick
  kinds-more l h = rw (labelled-more Labelling.CharLabels cs (command_of l head ws), labelled-more Labelling.StateLabels cs (command_of l head ws), labelled-more Labelling.CharStateLabels cs (command_of l head ws)) (each l h)
    where
      each : (l : Labelling) → labelled_by l cs ≡ false → pick (labelled_by Labelling.CharLabels cs || same_labelling Labelling.CharLabels l) 1 0 + pick (labelled_by Labelling.StateLabels cs || same_labelling Labelling.StateLabels l) 1 0 + pick (labelled_by Labelling.CharStateLabels cs || same_labelling Labelling.CharStateLabels l) 1 0 ≡ pick (labelled_by Labelling.CharLabels cs) 1 0 + pick (labelled_by Labelling.StateLabels cs) 1 0 + pick (labelled_by Labelling.CharStateLabels cs) 1 0 + 1
      each Labelling.CharLabels h = rw (h, or-false (labelled_by Labelling.StateLabels cs), or-false (labelled_by Labelling.CharStateLabels cs)) (omega arith)
      each Labelling.StateLabels h = rw (h, or-false (labelled_by Labelling.CharLabels cs), or-false (labelled_by Labelling.CharStateLabels cs)) (omega arith)
      each Labelling.CharStateLabels h = rw (h, or-false (labelled_by Labelling.CharLabels cs), or-false (labelled_by Labelling.StateLabels cs)) (omega arith)

one-most : (b : Bool) → pick b 1 0 ≤ 1
unfolding pick
one-most true = omega arith
one-most false = omega arith

-- and where one is new there were at most two.
pub kinds-room : (l : Labelling) (cs : List LabelCommand) → labelled_by l cs ≡ false → kinds_among cs ≤ 2
unfolding kinds_among pick
kinds-room Labelling.CharLabels cs h = rw h (omega (arith, one-most (labelled_by Labelling.StateLabels cs), one-most (labelled_by Labelling.CharStateLabels cs)))
kinds-room Labelling.StateLabels cs h = rw h (omega (arith, one-most (labelled_by Labelling.CharLabels cs), one-most (labelled_by Labelling.CharStateLabels cs)))
kinds-room Labelling.CharStateLabels cs h = rw h (omega (arith, one-most (labelled_by Labelling.CharLabels cs), one-most (labelled_by Labelling.StateLabels cs)))

-- A command without tokens fits anywhere.
pub no-command-fits : (at : ℕ) (what : Labelling) → Fits at (record { what = what; head = 0; to = 0 })
no-command-fits at what = record { small = omega arith; front = omega arith; short = omega arith }

-- One command more, behind none, one or two.
module _ (ls : LabelCommands) (c : code.LabelCommand) where
  pub more-one : ls.count ≡ 0 → OneMore ls c (record { count = 1; first = c; second = c; third = c })
  unfolding commands_held
  more-one e = record { count = rw e; held = λ text work. rw e; first = λ at p q. q; second = λ at p q. q; third = λ at q. q }

  pub more-two : ls.count ≡ 1 → OneMore ls c (record { count = 2; first = ls.first; second = c; third = c })
  unfolding commands_held
  more-two e = record { count = rw e; held = λ text work. rw e; first = λ at p q. p; second = λ at p q. q; third = λ at q. q }

  pub more-three : ls.count ≡ 2 → OneMore ls c (record { count = 3; first = ls.first; second = ls.second; third = c })
  unfolding commands_held
  more-three e = record { count = rw e; held = λ text work. rw e; first = λ at p q. p; second = λ at p q. p; third = λ at q. q }

-- Commands that are placed stay so with one more of a new kind.
module _ (text front : List ℕ) (size : ℕ) (ls more : LabelCommands) (l : Labelling) (head to : ℕ) where
  pub commands-more : OneMore ls (record { what = l; head = head; to = to }) more → labelled_by l (commands_held text front ls) ≡ false → CommandPlaced front head to → CommandsPlaced text front size ls → CommandsPlaced text front size more
  commands-more o new at p =
      let fits : Fits (length front) (record { what = l; head = head; to = to }) = record { small = omega arith; front = at.within; short = omega arith } in
      record {
        first = o.first (length front) p.first fits;
        second = o.second (length front) p.second fits;
        third = o.third (length front) fits;
        kinds = o.count ∙ ap (λ (n : ℕ). n + 1) p.kinds ∙ sym (ap kinds_among (o.held text front) ∙ kinds-more _ _ _ l new);
      }
