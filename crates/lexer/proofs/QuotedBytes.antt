-- Quoted text byte by byte, as it stands in a text: every newline is LF, two single quotes are one. Assumes nothing.
use Rattle.std.specs.Prelude.{Some, None}
use Prim.Native.Nat.{ℕ, ◌+◌, ◌<◌}
use Rattle.lexer.proofs.Basics.{chosen, by-test, not-both, or_left, or_right, or-both, pick_second}
use Rattle.lexer.proofs.ClassLaws.{next1-found}
use Rattle.lexer.proofs.ListLaws.{drop-next, drop-cases}
use Rattle.lexer.proofs.ScanLaws.{symbol-cases, single-byte, double-byte}
use Rattle.lexer.proofs.SymbolLaws.{symbol-return}
use Rattle.lexer.proofs.Yielded.{Yields, yields-byte, yields-end}
use Rattle.lexer.specs.Base.{pick}
use Rattle.lexer.specs.Bytes.{cursor, text_item, quoted_item, string_item, mark_item, left, rest_of, first}
use Rattle.lexer.specs.Classes.{class, symbol, symbol_of, next1, rank, is_newline, is_return, is_single, is_double}
use Rattle.lexer.specs.Tokens.{tail, next, text_step, quoted_byte}
use Rattle.lexer.specs.declared.Mode.{Mode}
use borrow.Author.Tests.{ne_eqb, eqb-true, eqb-false}
use lib.Dec.{eqb}
use lib.ListN.{length, get_or, drop}
use mathlib.Core.Bool.{true, false, ◌||◌}
use mathlib.Core.List.{List, [], ◌∷◌}
use mathlib.Core.Path.{◌≡◌, refl, ◌∙◌}
use native.Mathlib.Omega.{arith}

-- In quoted text a byte other than its quote is one of the text.
abbrev Plain : Mode → ℕ → Type 0
Plain Mode.Between b = ⊥
Plain Mode.Word b = ⊥
Plain Mode.Quoted b = b ≡ 39 → ⊥
Plain Mode.Closing b = ⊥
Plain Mode.String b = b ≡ 34 → ⊥
Plain (Mode.Comment d) b = ⊥
Plain (Mode.WordComment d) b = ⊥

-- A byte other than LF and CR is no newline, nor half of one.
unlined : (b : ℕ) (r : List ℕ) → eqb b 10 ≡ false → eqb b 13 ≡ false → is_newline (symbol b r) || is_return (symbol b r) ≡ false
unfolding is_newline is_return rank
unlined b r e f =
    let line = not-both (or-both e f) in
    symbol-cases (λ s. is_newline s || is_return s ≡ false) b r (λ _. refl) (λ _. refl) (λ _. refl) (λ _. refl) line line refl refl refl refl

-- A byte other than CR stands in quoted text as it is.
module _ (b : ℕ) (r : List ℕ) (h : b ≡ 13 → ⊥) where
  no-return : is_return (symbol b r) ≡ false
  unfolding symbol symbol_of class is_return rank pick
  no-return = by-test (eqb b 10) (λ t. rw (eqb-true b 10 t)) (λ f. or_right (is_newline (symbol b r)) (is_return (symbol b r)) (unlined b r f (ne_eqb b 13 h)))

  as-it-is : quoted_byte (symbol b r) b ≡ b
  unfolding symbol symbol_of class is_newline rank pick quoted_byte
  as-it-is = by-test (eqb b 10) (λ t. rw (eqb-true b 10 t)) (λ f. rw (or_left (is_newline (symbol b r)) (is_return (symbol b r)) (unlined b r f (ne_eqb b 13 h))))

  plain_byte : (m : Mode) → Plain m b → rest_of m (b ∷ r) ≡ b ∷ rest_of m r
  unfolding rest_of tail next text_step pick
  plain_byte Mode.Between p = absurd p
  plain_byte Mode.Word p = absurd p
  plain_byte Mode.Quoted p = rw (single-byte b r, ne_eqb b 39 p, no-return, as-it-is)
  plain_byte Mode.Closing p = absurd p
  plain_byte Mode.String p = rw (double-byte b r, ne_eqb b 34 p, no-return, as-it-is)
  plain_byte (Mode.Comment d) p = absurd p
  plain_byte (Mode.WordComment d) p = absurd p

-- A CR before an LF adds nothing to the LF; another CR is LF.
return-line : (m : Mode) (r : List ℕ) → Plain m 13 → rest_of m (13 ∷ 10 ∷ r) ≡ 10 ∷ rest_of m r
unfolding rest_of tail next text_step quoted_byte symbol symbol_of class next1 rank is_newline is_return is_single is_double pick
return-line Mode.Between r p = absurd p
return-line Mode.Word r p = absurd p
return-line Mode.Quoted r p = refl
return-line Mode.Closing r p = absurd p
return-line Mode.String r p = refl
return-line (Mode.Comment d) r p = absurd p
return-line (Mode.WordComment d) r p = absurd p

return_alone : (m : Mode) (r : List ℕ) → Plain m 13 → next1 10 r ≡ false → rest_of m (13 ∷ r) ≡ 10 ∷ rest_of m r
unfolding rest_of tail next text_step quoted_byte rank is_newline is_return is_single is_double pick
return_alone Mode.Between r p e = absurd p
return_alone Mode.Word r p e = absurd p
return_alone Mode.Quoted r p e = rw (symbol-return r, e)
return_alone Mode.Closing r p e = absurd p
return_alone Mode.String r p e = rw (symbol-return r, e)
return_alone (Mode.Comment d) r p e = absurd p
return_alone (Mode.WordComment d) r p e = absurd p

-- The next byte of quoted text that is not its quote.
module _ (text : List ℕ) (i : ℕ) (m : Mode) (h : i < length text) (p : Plain m (get_or text i 0)) where
  returned : get_or text i 0 ≡ 13 → Yields text i (rest_of m (get_or text i 0 ∷ drop (i + 1) text)) (Some (10, (cursor m (pick (next1 10 (drop (i + 1) text)) (i + 2) (i + 1)))))
  unfolding left
  returned e = chosen (λ j. Yields text i (rest_of m (get_or text i 0 ∷ drop (i + 1) text)) (Some (10, (cursor m j)))) (next1 10 (drop (i + 1) text)) line alone
    where
      line : next1 10 (drop (i + 1) text) ≡ true → Yields text i (rest_of m (get_or text i 0 ∷ drop (i + 1) text)) (Some (10, (cursor m (i + 2))))
      line t =
          let n = next1-found text (i + 1) 10 t in
          let two : i + 1 + 1 ≡ i + 2 = omega arith in
          yields-byte (record { here = rw (e, drop-next text (i + 1) n.0, n.1, two) (return-line m (drop (i + 2) text) (rw e at p)); ahead = omega arith; within = omega (arith, n.0) })

      alone : next1 10 (drop (i + 1) text) ≡ false → Yields text i (rest_of m (get_or text i 0 ∷ drop (i + 1) text)) (Some (10, (cursor m (i + 1))))
      alone f = yields-byte (record { here = rw e (return_alone m (drop (i + 1) text) (rw e at p) f); ahead = omega arith; within = omega arith })

  text-yields : Yields text i (rest_of m (get_or text i 0 ∷ drop (i + 1) text)) (text_item m i (get_or text i 0 ∷ drop (i + 1) text))
  unfolding text_item left
  text-yields =
      chosen (Yields text i (rest_of m (get_or text i 0 ∷ drop (i + 1) text))) (eqb (get_or text i 0) 13) (λ t. returned (eqb-true (get_or text i 0) 13 t))
      (λ f. yields-byte (record { here = plain_byte (get_or text i 0) (drop (i + 1) text) (eqb-false (get_or text i 0) 13 f) m p; ahead = omega arith; within = omega arith }))

-- At its quote quoted text ends, but for two single quotes, which are one.
string-quote : (r : List ℕ) → rest_of Mode.String (34 ∷ r) ≡ []
unfolding rest_of tail next text_step symbol symbol_of class rank is_double pick
string-quote r = refl

quote-twice : (r : List ℕ) → rest_of Mode.Quoted (39 ∷ 39 ∷ r) ≡ 39 ∷ rest_of Mode.Quoted r
unfolding rest_of tail next text_step symbol symbol_of class rank is_single pick
quote-twice r = refl

quote-once : (r : List ℕ) → next1 39 r ≡ false → rest_of Mode.Quoted (39 ∷ r) ≡ []
unfolding rest_of tail next text_step symbol symbol_of class rank is_single next1 pick
quote-once [] f = refl
quote-once (c ∷ r) f = pick_second _ _ _ (single-byte c r ∙ f)

nothing_left : (m : Mode) → rest_of m [] ≡ []
unfolding rest_of tail first
nothing_left Mode.Between = refl
nothing_left Mode.Word = refl
nothing_left Mode.Quoted = refl
nothing_left Mode.Closing = refl
nothing_left Mode.String = refl
nothing_left (Mode.Comment d) = refl
nothing_left (Mode.WordComment d) = refl

-- The next byte of each kind of text is the first of what is left.
module _ (text : List ℕ) (i : ℕ) where
  twice : get_or text i 0 ≡ 39 → next1 39 (drop (i + 1) text) ≡ true
      → Yields text i (rest_of Mode.Quoted (get_or text i 0 ∷ drop (i + 1) text)) (Some (39, (cursor Mode.Quoted (i + 2))))
  unfolding left
  twice e t =
      let n = next1-found text (i + 1) 39 t in
      let two : i + 1 + 1 ≡ i + 2 = omega arith in
      yields-byte (record { here = rw (e, drop-next text (i + 1) n.0, n.1, two) (quote-twice (drop (i + 2) text)); ahead = omega arith; within = omega (arith, n.0) })

  pub quoted-yields : Yields text i (rest_of Mode.Quoted (drop i text)) (quoted_item i (drop i text))
  unfolding quoted_item
  quoted-yields =
      drop-cases (λ r. Yields text i (rest_of Mode.Quoted r) (quoted_item i r)) text i
      (λ h. chosen (Yields text i (rest_of Mode.Quoted (get_or text i 0 ∷ drop (i + 1) text))) (eqb (get_or text i 0) 39)
      (λ t. quote (eqb-true (get_or text i 0) 39 t))
      (λ f. text-yields text i Mode.Quoted h (eqb-false (get_or text i 0) 39 f)))
      (yields-end (nothing_left Mode.Quoted))
    where
      quote : get_or text i 0 ≡ 39
          → Yields text i (rest_of Mode.Quoted (get_or text i 0 ∷ drop (i + 1) text)) (pick (next1 39 (drop (i + 1) text)) (Some (39, (cursor Mode.Quoted (i + 2)))) None)
      quote e =
          chosen (Yields text i (rest_of Mode.Quoted (get_or text i 0 ∷ drop (i + 1) text))) (next1 39 (drop (i + 1) text)) (twice e)
          (λ f. yields-end (rw e (quote-once (drop (i + 1) text) f)))

  pub string-yields : Yields text i (rest_of Mode.String (drop i text)) (string_item i (drop i text))
  unfolding string_item
  string-yields =
      drop-cases (λ r. Yields text i (rest_of Mode.String r) (string_item i r)) text i
      (λ h. chosen (Yields text i (rest_of Mode.String (get_or text i 0 ∷ drop (i + 1) text))) (eqb (get_or text i 0) 34)
      (λ t. yields-end (rw (eqb-true (get_or text i 0) 34 t) (string-quote (drop (i + 1) text))))
      (λ f. text-yields text i Mode.String h (eqb-false (get_or text i 0) 34 f)))
      (yields-end (nothing_left Mode.String))

  pub mark-yields : Yields text i (rest_of Mode.Between (drop i text)) (mark_item i (drop i text))
  unfolding mark_item rest_of first left
  mark-yields =
      drop-cases (λ r. Yields text i (rest_of Mode.Between r) (mark_item i r)) text i
      (λ h. yields-byte (record { here = refl; ahead = omega arith; within = omega arith }))
      (yields-end (nothing_left Mode.Between))
