-- The function `put_bare` meets its contract: what both types begin with, the first letters of one of them, and what both end with. Assumes nothing.
use Rattle.emit.proofs.PutLaws.{puts-as, puts_then}
use Rattle.lexer.specs.Base.{bytes}
use Rattle.reading.proofs.CharacterPuts.{bare-ordered, bare-unordered}
use Rattle.reading.proofs.PutWalks.{puts-from}
use native.Mathlib.Omega.{arith}
use Rattle.reading.proofs.plain.put_bare.Goals as goal
use Rattle.reading.proofs.plain.put_bare.Goals.{in-Unordered, in-Ordered}

pub returns : goal.returns
unfolding bytes
returns c =
    let first = c.put_whole-m.ensures in
    let last = c.put_whole.ensures in
    elim c.match-ordering.branch [
      | in-Unordered w ↦
          let second = w.put_whole-m-in-Unordered.ensures in
          record {
            puts =
                puts-as (puts_then first.puts (puts_then second.puts (puts-from w.buffer-is w.m-is last.puts)))
                (λ behind. bare-unordered _ behind w.in-Unordered.is);
            upper_bound = omega (arith, w.m-is, second.value, first.value, last.value);
          }
      | in-Ordered w ↦
          record {
            puts = puts-as (puts_then first.puts (puts-from w.buffer-is w.m-is last.puts)) (λ behind. bare-ordered _ behind w.in-Ordered.is);
            upper_bound = omega (arith, w.m-is, first.value, last.value);
          }
    ]
