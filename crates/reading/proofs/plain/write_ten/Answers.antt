use Prim.Native.Nat.{◌+◌, ◌/◌}
use Rattle.emit.proofs.PutLaws.{byte-written, puts_then}
use Rattle.lexer.specs.Base.{bytes}
use Rattle.reading.proofs.PutWalks.{putting-end, putting-turn}
use Rattle.reading.proofs.PutsOver.{puts-over}
use Rattle.reading.proofs.TenPlain.{bare-least, from_digit, front-made, ten-end, ten-next}
use Rattle.reading.specs.CharactersHeld.{bare_piece}
use mathlib.Core.List.{◌∷◌, ◌++◌}
use mathlib.Core.Path.{refl, sym, ap, ◌∙◌}
use native.Mathlib.Omega.{arith}
use Rattle.reading.proofs.plain.write_ten.Goals as goal

pub loop-digit-preserved : goal.loop-digit-preserved
unfolding bytes
loop-digit-preserved c =
    let number = c.args.number in
    let o = c.args.ordering in
    let less = c.loop-digit-test.true in
    let made = front-made _ _ (number / 10) c.put_digits-last.result (omega (arith, c.ranges.number)) refl refl c.put_digits-last.ensures.puts in
    let over =
    puts-over c.put_digits-last.new.buffer c.put_digits-last.result c.put_whole.ensures.puts (omega (arith, c.put_digits-last.ensures.upper_bound))
    (λ behind. omega (arith, bare-least o behind, made.1))
    (puts_then (byte-written c.put_whole.new.buffer (c.loop-digit.m + c.put_digits-last.result) c.loop-digit.digit) c.put_bare-m.ensures.puts) in (
      omega (arith, c.loop-digit.invariant.0),
      omega (arith, less),
      omega (arith, c.loop-digit.invariant.0, c.loop-digit.invariant.2, c.put_bare-m.ensures.upper_bound, c.put_digits-last.ensures.upper_bound),
      putting-turn c.loop-digit.invariant.3 over
          (λ behind.
          ten-next number c.requires.1 c.requires.2 o c.loop-digit.digit c.loop-digit.invariant.0 (omega (arith, less)) behind
          ∙ ap (λ f. f ++ (c.loop-digit.digit ∷ bare_piece o (from_digit number o (c.loop-digit.digit + 1) behind))) (sym made.0)),
    )

pub returns : goal.returns
returns c = putting-end c.loop-digit.invariant.3 (ten-end _ _ _ c.loop-digit-test.false)
