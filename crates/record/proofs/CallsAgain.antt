-- Reading, writing and reading again, by the calls: the record comes back, and written bytes tell readings apart. Assumes nothing.
use Prim.Native.Nat.{ℕ}
use Rattle.block.proofs.ReadingSmall.{reading_small}
use Rattle.block.proofs.ReadingSound.{reading-sound}
use Rattle.block.specs.Reading.{Reading}
use Rattle.record.proofs.Agreement.{one-reading, forms-apart}
use Rattle.record.proofs.FormRead.{form-read}
use Rattle.record.proofs.ReadCall.{read-gives, read-gives-the-record}
use Rattle.record.proofs.SpellLaws.{unspell-spell}
use Rattle.record.proofs.UnspellLaws.{spell-unspell}
use Rattle.record.proofs.WriteCall.{write-gives, write-gives-the-form}
use Rattle.record.specs.Demands.{Reads, Agree, RecordsOfTextsPass, ReadGives, WriteGives, CallsGiveBackRecordsOfTexts, CallsGiveBackRecords, CallsTellTextsApart}
use Rattle.record.specs.Form.{form}
use Rattle.record.specs.Spell.{spell}
use Rattle.record.specs.Unspell.{unspell}
use mathlib.Core.List.{List}
use mathlib.Core.Logic.{◌↔◌}
use mathlib.Core.Option.{some, some-injective}
use mathlib.Core.Path.{◌≡◌, sym, ap, ◌∙◌, subst, subst₂}
use native.Mathlib.Omega.{arith}

-- A reading is no larger than its text, so its record is none that is refused.
pub text-record-passes : RecordsOfTextsPass
text-record-passes text r few h =
    let small = reading_small text r h in
    unspell-spell r (reading-sound text r h) (record { taxa = omega (arith, small.taxa); characters = omega (arith, small.characters) })

pub texts-given-back : CallsGiveBackRecordsOfTexts
texts-given-back text r t h f =
    (read-gives text r t h, write-gives (spell r) r (text-record-passes text r t h) f, read-gives (form r) r f (form-read r (reading-sound text r h)))

pub records-given-back : CallsGiveBackRecords
records-given-back b f w =
    let k = (write-gives-the-form b f).0 w in
    let r = k.1.0 in
    let p = spell-unspell b r k.1.1 in
    (read-gives-the-record f b).1 (k.0, (r, subst (λ x. Reads x r) k.1.2 (form-read r p.1), p.0))

-- What write gives for the record of a text is the form of its reading.
text-form : (t b f : List ℕ) (r : Reading) → Reads t r → ReadGives t b → WriteGives b f → form r ≡ f
text-form t b f r e g w =
    let k = (read-gives-the-record t b).0 g in
    let x = k.1.0 in
    let y = ((write-gives-the-form b f).0 w).1 in
    let passes : unspell b ≡ some x = ap unspell (sym k.1.2) ∙ text-record-passes t x k.0 k.1.1 in
    ap form (one-reading t r x e k.1.1 ∙ some-injective x y.0 (sym passes ∙ y.1)) ∙ y.2

pub calls-apart : CallsTellTextsApart
calls-apart t u b c f g r s p q rt ru wf wg =
    subst₂ (λ x y. (x ≡ y) ↔ Agree r s) (text-form t b f r p rt wf) (text-form u c g s q ru wg)
    (forms-apart r s (reading-sound t r p) (reading-sound u s q))
