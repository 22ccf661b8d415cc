-- That the map of work memory fits, as its six inequalities. Assumes nothing.
use Prim.Native.Nat.{ℕ, ◌+◌, ◌*◌, ◌≤◌}
use Rattle.commands.specs.WorkMap.{map_fits, types_place}
use Rattle.lexer.proofs.Basics.{and_both, and_left, and_right}
use Rattle.lexer.specs.Lexing.{longest}
use borrow.Author.Tests.{le-leb, leb-true}
use lib.Dec.{leb}
use mathlib.Core.Bool.{true, ◌&&◌}
use mathlib.Core.Path.{◌≡◌}
use native.Mathlib.Omega.{arith}

pub record Fitting (size count lines taxa characters : ℕ) : Type 0 where
  pub few_tokens : count ≤ 1048576
  pub few_lines : lines ≤ 1048576
  pub few_taxa : taxa ≤ 1048576
  pub few_characters : characters ≤ 1048576
  pub order : count + lines + taxa + count ≤ size
  pub types : count + lines + 2 * taxa + 3 * characters ≤ size

module _ (size count lines taxa characters : ℕ) where
  pub fitting : map_fits size count lines taxa characters ≡ true → Fitting size count lines taxa characters
  unfolding map_fits longest
  fitting h =
      let a = leb count 1048576 in
      let b = leb lines 1048576 in
      let c = leb taxa 1048576 in
      let d = leb characters 1048576 in
      let e = leb (count + lines + taxa + count) size in
      let f = leb (count + lines + 2 * taxa + 3 * characters) size in
      let five = and_left (a && b && c && d && e) f h in
      let four = and_left (a && b && c && d) e five in
      let three = and_left (a && b && c) d four in
      let two = and_left (a && b) c three in
      record {
        few_tokens = leb-true count 1048576 (and_left a b two);
        few_lines = leb-true lines 1048576 (and_right a b two);
        few_taxa = leb-true taxa 1048576 (and_right (a && b) c three);
        few_characters = leb-true characters 1048576 (and_right (a && b && c) d four);
        order = leb-true (count + lines + taxa + count) size (and_right (a && b && c && d) e five);
        types = leb-true (count + lines + 2 * taxa + 3 * characters) size (and_right (a && b && c && d && e) f h);
      }

  pub fits : Fitting size count lines taxa characters → map_fits size count lines taxa characters ≡ true
  unfolding map_fits longest
  fits x =
      and_both (and_both (and_both (and_both (and_both
      (le-leb count 1048576 x.few_tokens)
      (le-leb lines 1048576 x.few_lines))
      (le-leb taxa 1048576 x.few_taxa))
      (le-leb characters 1048576 x.few_characters))
      (le-leb (count + lines + taxa + count) size x.order))
      (le-leb (count + lines + 2 * taxa + 3 * characters) size x.types)

  -- The types fit behind their place.
  pub types-room : map_fits size count lines taxa characters ≡ true → (at : ℕ) → at ≡ types_place count lines taxa characters → at + characters ≤ size
  unfolding types_place
  types-room h at e = omega (arith, (fitting h).types)
