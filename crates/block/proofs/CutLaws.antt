-- Commands are found by the indices of their tokens. Assumes nothing.
use Prim.Native.Nat.{ℕ, zero, suc, ◌+◌, ◌-◌, ◌≤◌, ◌<◌}
use Rattle.block.specs.Commands.{newline, semicolon, up_to_end, ended, begun, commands_from, commands}
use Rattle.block.specs.CommandsCut.{first_where, cut_of}
use Rattle.block.specs.declared.commands.Cut.{Cut}
use Rattle.lexer.proofs.Basics.{by-test}
use Rattle.lexer.proofs.RangeLaws.{range-next, range-end}
use Rattle.lexer.specs.Base.{pick}
use Rattle.lexer.specs.Stored.{word_of, words_of, range}
use Rattle.lexer.specs.Words.{Numbered}
use borrow.Author.Tests.{lt-ltb, le-ltb, not-true}
use lib.Dec.{ltb}
use mathlib.Core.Bool.{Bool, true, false, not}
use mathlib.Core.List.{List, [], ◌∷◌}
use mathlib.Core.Path.{◌≡◌, refl, sym, ◌∙◌}
use Rattle.std.specs.Prelude.{max}
use native.Mathlib.Nat.{max-le, le-max_left, le-max_right}
use native.Mathlib.Numerals.{add-one}
use native.Mathlib.Omega.{arith}

module _ (test : Numbered → Bool) (text work : List ℕ) where
  -- A walk that has passed some words finds what it seeks where the whole walk does.
  pub record Seeking (from to i : ℕ) : Type 0 where
    pub since : from ≤ i
    pub until : to < i → i ≤ from
    pub rest : first_where test text work i (to - i) ≡ first_where test text work from (to - from)

  module _ (from to i : ℕ) (k : Seeking from to i) where
    pub seeking-turn : i < to → test (word_of text work i) ≡ false → Seeking from to (i + 1)
    unfolding first_where pick
    seeking-turn h e =
        let count : to - i ≡ suc (to - (i + 1)) = omega arith in
        record { since = omega (arith, k.since); until = λ l. omega arith; rest = rw (add-one i) (rw (count, e, add-one i) at k.rest) }

    pub seeking-found : i < to → test (word_of text work i) ≡ true → i ≡ first_where test text work from (to - from)
    unfolding first_where pick
    seeking-found h e =
        let count : to - i ≡ suc (to - (i + 1)) = omega arith in
        rw (count, e) at k.rest

    -- At the end of the words a walk stands at the greater of the two indices.
    pub seeking-over : to ≤ i → max from to ≡ i
    seeking-over h = grind (arith, le-max_left from to, le-max_right from to, max-le k.since h, k.until)

    pub seeking-end : to ≤ i → i ≡ first_where test text work from (to - from)
    unfolding first_where
    seeking-end h =
        let none : to - i ≡ 0 = omega arith in
        rw none at k.rest

  -- Where it stands: not before the start, not behind the end unless it starts there; and a word that it stops at passes the test.
  pub record Stopped (from n at : ℕ) : Type 0 where
    pub since : from ≤ at
    pub until : at ≤ from + n
    pub passes : at < from + n → test (word_of text work at) ≡ true

  pub first_stops : (n from : ℕ) → Stopped from n (first_where test text work from n)
  unfolding first_where pick
  first_stops zero from = record { since = omega arith; until = omega arith; passes = λ l. absurd (omega arith) }
  first_stops (suc n) from =
      let k = first_stops n (suc from) in
      by-test (test (word_of text work from)) (λ e. rw e (record { since = omega arith; until = omega arith; passes = λ l. e }))
      (λ e. rw e (record { since = omega (arith, k.since); until = omega (arith, k.until); passes = λ l. k.passes (omega arith) }))

module _ (text work : List ℕ) where
  -- Newlines before a command are none of it.
  skipped-from : (n i end : ℕ) → end - i ≡ n
      → commands_from false (words_of text work i n) ≡ commands_from false (range text work (first_where (λ w. not (newline w)) text work i n) end)
  unfolding words_of commands_from first_where range pick
  skipped-from zero i end e = rw e refl
  skipped-from (suc n) i end e =
      by-test (newline (word_of text work i)) (λ p. rw p (skipped-from n (suc i) end (omega arith))) (λ p. rw (p, e, p) refl)

  skipped : (i end : ℕ) → commands (range text work i end) ≡ commands (range text work (first_where (λ w. not (newline w)) text work i (end - i)) end)
  unfolding commands range
  skipped i end = skipped-from (end - i) i end refl

  -- The tokens up to the next `;`: whether it comes, what stands before it, and the commands behind it.
  record Ended (i end at : ℕ) : Type 0 where
    comes : ended (range text work i end) ≡ ltb at end
    before : at < end → up_to_end (range text work i end) ≡ range text work i at
    behind : at < end → commands_from true (range text work i end) ≡ commands (range text work (at + 1) end)

  ended-from : (n i end : ℕ) → end - i ≡ n → i ≤ end → Ended i end (first_where semicolon text work i n)
  unfolding first_where ended up_to_end commands_from commands pick
  ended-from zero i end e l =
      record {
        comes = rw (range-end text work i end (omega arith)) (sym (le-ltb i end (omega arith)));
        before = λ h. absurd (omega arith);
        behind = λ h. absurd (omega arith);
      }
  ended-from (suc n) i end e l =
      let below : i < end = omega arith in
      let k = ended-from n (suc i) end (omega arith) (omega arith) in
      by-test (semicolon (word_of text work i))
      (λ p. rw p
      (record {
        comes = rw (range-next text work i end below, p) (sym (lt-ltb i end below));
        before = λ h. rw (range-next text work i end below, p) (sym (range-end text work i i (omega arith)));
        behind = λ h. rw (range-next text work i end below, p) refl;
      }))
      (λ p. rw p
      (record {
        comes = rw (range-next text work i end below, p, add-one i) k.comes;
        before = λ h. rw (range-next text work i end below, p, add-one i) (sym (rw (range-next text work i (first_where semicolon text work (suc i) n) (omega (arith, (first_stops semicolon text work n (suc i)).since)), add-one i, k.before h)));
        behind = λ h. rw (range-next text work i end below, p, add-one i) (k.behind h);
      }))

  -- The next command: none; a `;` by itself; one that does not end; or one that does.
  module _ (from count : ℕ) where
    pub cut-none : (h : ℕ) → h ≡ first_where (λ w. not (newline w)) text work from (count - from) → count ≤ h → [] ≡ commands (range text work from count)
    unfolding commands commands_from
    cut-none h e l = sym (skipped from count ∙ rw (← e, range-end text work h count l) refl)

    module _ (h : ℕ) (e : h ≡ first_where (λ w. not (newline w)) text work from (count - from)) (l : h < count) where
      at_head : commands (range text work from count) ≡ commands (word_of text work h ∷ range text work (h + 1) count)
      at_head = skipped from count ∙ rw (← e, range-next text work h count l) refl

      pub head-since : from ≤ h
      head-since = rw e (first_stops (λ w. not (newline w)) text work (count - from) from).since

      no-newline : newline (word_of text work h) ≡ false
      no-newline =
          let s = first_stops (λ w. not (newline w)) text work (count - from) from in
          not-true (newline (word_of text work h)) (rw (← e) at (s.passes (rw (← e) (omega (arith, head-since)))))

      pub cut-empty : semicolon (word_of text work h) ≡ true → cut_of text work count (Cut.Empty h) ≡ commands (range text work from count)
      unfolding cut_of commands commands_from pick word_of
      cut-empty p = sym (at_head ∙ rw (no-newline, p) refl)

      module _ (p : semicolon (word_of text work h) ≡ false) (at : ℕ) (is : at ≡ first_where semicolon text work (h + 1) (count - (h + 1))) where
        ends : Ended (h + 1) count at
        ends = rw is (ended-from (count - (h + 1)) (h + 1) count refl (omega arith))

        begun-here : commands (range text work from count) ≡ begun (word_of text work h) (range text work (h + 1) count) ∷ commands_from true (range text work (h + 1) count)
        unfolding commands commands_from pick
        begun-here = at_head ∙ rw (no-newline, p) refl

        pub cut-unended : count ≤ at → cut_of text work count (Cut.Unended h) ≡ commands (range text work from count)
        unfolding cut_of begun pick word_of
        cut-unended m = sym (begun-here ∙ rw (ends.comes, le-ltb at count m) refl)

        pub cut-command : at < count → cut_of text work count (Cut.Command h at) ≡ commands (range text work from count)
        unfolding cut_of begun pick
        cut-command m = sym (begun-here ∙ rw (ends.comes, lt-ltb at count m, ends.before m, ends.behind m) refl)

        pub end-behind : h < at
        end-behind = rw is (omega (arith, (first_stops semicolon text work (count - (h + 1)) (h + 1)).since))
