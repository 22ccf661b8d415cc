-- What a held matrix reads as: a default type and a set are written over its own, it has its characters, and it is the same where work memory is the
-- same in front of the types. Assumes nothing.
use Rattle.std.specs.Prelude.{Some, None}
use Prim.Native.Nat.{ℕ, zero, suc, ◌+◌, ◌*◌, ◌≤◌, ◌<◌}
use Rattle.lexer.specs.Base.{option_of, pick}
use Rattle.block.proofs.MatrixSound.{unordered-length}
use Rattle.block.specs.Blocks.{unordered, retyped, with_types}
use Rattle.block.specs.Commands.{words}
use Rattle.block.specs.Labels.{Labelled}
use Rattle.block.specs.NamesHeld.{names_of}
use Rattle.block.specs.Reading.{Character, Reading, Taxon}
use Rattle.block.specs.Typeset.{Types}
use Rattle.block.specs.declared.model.CharacterOrdering.{CharacterOrdering}
use Rattle.commands.specs.MatrixHeld.{held, order_held, reading_held, rows_of, types_at, untyped_held}
use Rattle.commands.specs.StateHeld.{Retypes}
use Rattle.commands.specs.WorkMap.{labels_place, order_place, types_place}
use Rattle.commands.specs.declared.state.Held.{Held}
use Rattle.labels.proofs.LabelSlotLaws as slots
use Rattle.labels.specs.LabelSlots.{labels_of, labels_held}
use Rattle.lexer.specs.Stored.{range}
use Rattle.matrix.proofs.StoredRows.{stored-kept}
use Rattle.matrix.specs.OrderHeld.{ordered}
use Rattle.std.specs.Prelude as Std
use lib.ListN.{get_or, length, length-take, take}
use lib.Seq.{get_or-take, take-take}
use mathlib.Core.Bool.{false}
use mathlib.Core.List.{List, [], ◌∷◌}
use mathlib.Core.Option
use mathlib.Core.Option.{Option}
use mathlib.Core.Path.{◌≡◌, refl, sym, ap, ◌∙◌}
use native.Mathlib.Omega.{arith}

retyped-over : (o p : CharacterOrdering) (ts us : Types) (cs : List Character) → retyped o ts (retyped p us cs) ≡ retyped o ts cs
unfolding retyped
retyped-over o p ts us [] = refl
retyped-over o p [] [] (c ∷ cs) = rw (retyped-over o p [] [] cs)
retyped-over o p [] (u ∷ us) (c ∷ cs) = rw (retyped-over o p [] us cs)
retyped-over o p (t ∷ ts) [] (c ∷ cs) = rw (retyped-over o p ts [] cs)
retyped-over o p (t ∷ ts) (u ∷ us) (c ∷ cs) = rw (retyped-over o p ts us cs)

types-over : (d e : Option CharacterOrdering) (s t : Option Types) (r : Reading) → with_types d s (with_types e t r) ≡ with_types d s r
unfolding with_types
types-over d e s t r = rw (retyped-over (Option.get_or d CharacterOrdering.Unordered) (Option.get_or e CharacterOrdering.Unordered) (Option.get_or s []) (Option.get_or t []) r.characters)

-- As many characters as before, and as there are labels.
retyped-length : (o : CharacterOrdering) (ts : Types) (cs : List Character) → length (retyped o ts cs) ≡ length cs
unfolding retyped
retyped-length o ts [] = refl
retyped-length o [] (c ∷ cs) = ap suc (retyped-length o [] cs)
retyped-length o (t ∷ ts) (c ∷ cs) = ap suc (retyped-length o ts cs)

-- Characters without types are unordered.
unordered-untyped : (ls : List Labelled) → retyped CharacterOrdering.Unordered [] (unordered ls) ≡ unordered ls
unfolding unordered retyped
unordered-untyped [] = refl
unordered-untyped (l ∷ ls) = rw (unordered-untyped ls)

module _ (text work : List ℕ) (count : ℕ) where
  pub untyped-length : (h : Held) → length (untyped_held text work count h).characters ≡ h.characters
  unfolding untyped_held
  untyped-length h = unordered-length _ ∙ slots.held-length text work (labels_place count h.lines h.taxa) h.characters

  counted : (h : Held) → length (reading_held text work count h).characters ≡ h.characters
  unfolding reading_held with_types
  counted h = retyped-length _ _ (untyped_held text work count h).characters ∙ untyped-length h

  pub held-retypes : Retypes (held text work count)
  unfolding held reading_held types_at untyped_held rows_of
  held-retypes = record { retyped = λ h default typed. sym (types-over (option_of default) (option_of h.default) _ _ _); counted = counted }

  -- Without a default type and a set it is the reading without types.
  pub held-untyped : (h : Held) → h.default ≡ None → h.typed ≡ false → reading_held text work count h ≡ untyped_held text work count h
  unfolding reading_held untyped_held with_types option_of pick
  held-untyped h d t = rw (d, t, unordered-untyped (labels_held text work (labels_place count h.lines h.taxa) h.characters))

-- Work memory is the same up to an index.
module _ (after before : List ℕ) (p : ℕ) (kept : take p after ≡ take p before) where
  number-kept : (i : ℕ) → i < p → get_or after i 0 ≡ get_or before i 0
  number-kept i h = sym (get_or-take p after i 0 h) ∙ ap (λ l. get_or l i 0) kept ∙ get_or-take p before i 0 h

  pub front_kept : (n : ℕ) → n ≤ p → take n after ≡ take n before
  front_kept n h = sym (take-take n p after h) ∙ ap (take n) kept ∙ take-take n p before h

  ordered-kept : (rows : List Taxon) (at : ℕ) (ns : List (List ℕ)) → at + length ns ≤ p → ordered rows after at ns ≡ ordered rows before at ns
  unfolding ordered
  ordered-kept rows at [] h = refl
  ordered-kept rows at (n ∷ ns) h = rw (number-kept at (omega arith), ordered-kept rows (suc at) ns (omega arith))

  pub order-kept : (text front : List ℕ) (at taxa : ℕ) (names : Std.Option (ℕ × ℕ)) (rows : List Taxon) → at + taxa ≤ p → order_held text front after at taxa names rows ≡ order_held text front before at taxa names rows
  unfolding order_held
  order-kept text front at taxa None rows h = refl
  order-kept text front at taxa (Some (from, to)) rows h =
      let ns = names_of (words (range text front from to)) in
      ordered-kept rows at (take taxa ns) (omega (arith, length-take taxa ns))

  slots_kept : (text front : List ℕ) (l s n : ℕ) → l + n ≤ p → s + n ≤ p → labels_of text front after l s n ≡ labels_of text front before l s n
  unfolding labels_of
  slots_kept text front l s zero a b = refl
  slots_kept text front l s (suc n) a b = rw (number-kept l (omega arith), number-kept s (omega arith), slots_kept text front (suc l) (suc s) n (omega arith) (omega arith))

  labels-kept : (text : List ℕ) (at n : ℕ) → at + 2 * n ≤ p → labels_held text after at n ≡ labels_held text before at n
  unfolding labels_held
  labels-kept text at n h = rw (front_kept at (omega arith)) (slots_kept text (take at before) at (at + n) n (omega arith) (omega arith))

  -- Where that index is not in front of the types, the reading without types is the same.
  pub untyped-kept : (text : List ℕ) (count : ℕ) (h : Held) → types_place count h.lines h.taxa h.characters ≤ p → untyped_held text after count h ≡ untyped_held text before count h
  unfolding untyped_held rows_of types_place labels_place order_place
  untyped-kept text count h l =
      rw (
        front_kept count (omega arith),
        stored-kept after before p count h.lines kept (omega arith),
        labels-kept text (count + h.lines + 2 * h.taxa) h.characters (omega arith),
        order-kept text (take count before) (count + h.lines + h.taxa) h.taxa h.names _ (omega arith),
      )
