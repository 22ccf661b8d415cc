-- A record written and read again, by what the two calls answer and leave. Assumes nothing.
use Rattle.std.specs.Prelude.{Ok, Result}
use Prim.Native.Nat.{ℕ, ◌+◌, ◌*◌, ◌≤◌, ◌<◌}
use Rattle.demands.specs.Again.{WrittenAgain}
use Rattle.lexer.specs.declared.Place.{Place}
use Rattle.read.specs.Call.{ReadCall}
use Rattle.record.proofs.CallLaws.{length-refused}
use Rattle.record.proofs.Demands.{buffers-are-kept, calls-give-back-records, read-gives-records, read-refuses-in-order, what-is-left-is-given}
use Rattle.record.specs.Calls.{read_answer, read_leaves, write_answer}
use Rattle.record.specs.Demands.{Left, ReadGives, Refuses}
use Rattle.write.specs.Call.{WriteCall}
use Rattle.lexer.specs.declared.Fault.{Fault}
use lib.ListN.{length, take, drop, length-take, take-append-drop}
use mathlib.Core.List.{List, ◌++◌}
use mathlib.Core.Path.{◌≡◌, sym, ap, ◌∙◌}
use native.Mathlib.Omega.{arith}

-- A call that is lent this buffer leaves these bytes in front of what was behind them.
pub left-whole : (bs buffer after : List ℕ) (a : Result ℕ (Fault Place)) → Left bs buffer a after → after ≡ bs ++ drop (length bs) buffer
left-whole bs buffer after a l = sym (take-append-drop (length bs) after) ∙ ap (λ x. x ++ drop (length bs) after) l.result ∙ ap (λ x. bs ++ x) l.rest

-- The bytes of a length that write answers lie in the buffer.
pub written-within : (b buffer after : List ℕ) (a : Result ℕ (Fault Place)) → WriteCall b buffer after a → (n : ℕ) → a ≡ Ok n → n ≤ length after
written-within b buffer after a w n e =
    let k = buffers-are-kept.1 b buffer in
    let h = (k.answered n (sym w.answer ∙ e)).0 in
    rw w.left (omega (arith, k.room))

-- A refusal of read leaves the buffer as it was.
kept-refused : (text : List ℕ) (work : ℕ) (buffer : List ℕ) (a : Result ℕ (Fault Place)) (n : ℕ) → a ≡ read_answer text work (length buffer)
    → Refuses (read_answer text work (length buffer)) n 0 0 → Refuses a n 0 0 × (read_leaves text work buffer ≡ buffer)
kept-refused text work buffer a n told (why, number, e) =
    ((why, number, told ∙ e), (buffers-are-kept.0 text work buffer).refused why _ e)

module _ (b form form_after : List ℕ) (w : Result ℕ (Fault Place)) (written : WriteCall b form form_after w) where
  module _ (n : ℕ) (e : w ≡ Ok n) where
    told : write_answer b (length form) ≡ Ok n
    told = sym written.answer ∙ e

    -- What was written has so many bytes, and read gives the record for it.
    front_length : length (take n form_after) ≡ n
    front_length = let h = written-within b form form_after w written n e in rw length-take (omega arith)

    front-given : ReadGives (take n form_after) b
    front-given = rw written.left (calls-give-back-records b _ (what-is-left-is-given.1 b form n told))

    -- Write answers a length: what was written is read again.
    module _ (work work_after again again_after : List ℕ) (r : Result ℕ (Fault Place)) (call : ReadCall (take n form_after) work work_after again again_after r) where
      short-text : length (take n form_after) ≤ 1048576
      short-text = ((read-gives-records (take n form_after) b).0 front-given).0

      given-back : 4 * n + 64 ≤ length work → length b ≤ length again → (r ≡ Ok (length b)) × (again_after ≡ b ++ drop (length b) again)
      given-back enough room =
          let l = front-given (length work) again (omega (arith, front_length)) room in
          (call.answer ∙ l.counted, call.left ∙ left-whole b again _ _ l)

      memory-short : length work < 4 * n + 64 → Refuses r 2 0 0 × (again_after ≡ again)
      memory-short short =
          let x = (read-refuses-in-order (take n form_after) (length work) (length again)).memory_short.1 (short-text, omega (arith, front_length)) in
          rw call.left (kept-refused (take n form_after) (length work) again r 2 call.answer x)

      no-room : 4 * n + 64 ≤ length work → length again < length b → Refuses r 30 0 0 × (again_after ≡ again)
      no-room enough short =
          let k = ((read-gives-records (take n form_after) b).0 front-given).1 in
          let x = (read-refuses-in-order (take n form_after) (length work) (length again)).no_room.1 ((short-text, omega (arith, front_length)), (k.0, k.1, omega (arith, ap length k.2))) in
          rw call.left (kept-refused (take n form_after) (length work) again r 30 call.answer x)

      same : (m : ℕ) → write_answer b (length form) ≡ Ok m → n ≡ m
      same m h = let both : Ok n ≡ Ok m = sym told ∙ h in cc

      pub read_again : WrittenAgain b work work_after form form_after again again_after r
      read_again =
          record {
            written = written.left;
            size = call.size;
            refused = λ m q h. absurd (length-refused (sym told ∙ h));
            given_back = λ m h enough room. given-back (omega (arith, same m h)) room;
            memory_short = λ m h short. memory-short (omega (arith, same m h));
            no_room = λ m h enough short. no-room (omega (arith, same m h)) short;
          }
