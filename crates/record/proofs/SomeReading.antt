-- Bytes are a record exactly where some text's reading spells them: the form of that reading is such a text. Assumes nothing.
use Prim.Native.Nat.{ℕ}
use Rattle.block.specs.Reading.{Reading}
use Rattle.record.proofs.FormRead.{form-read}
use Rattle.record.proofs.SpellLaws.{unspell-spell}
use Rattle.record.proofs.UnspellLaws.{spell-unspell}
use Rattle.record.specs.Calls.{not_found, found, looked_up, lookup_answer}
use Rattle.record.specs.Demands.{SomeReadingSpells, NotRefusedIsSomeReading, nothing_found, LookupRefusesOtherBytes}
use Rattle.record.specs.Form.{form}
use Rattle.record.specs.Lookup.{Stretch, lookup}
use Rattle.record.specs.Unspell.{unspell}
use mathlib.Core.List.{List}
use mathlib.Core.Logic.{◌↔◌}
use mathlib.Core.Option.{Option, none, some, none-ne-some}
use mathlib.Core.Path.{◌≡◌, refl, sym, ap, ◌∙◌}
use native.Mathlib.Omega.{arith}

pub some-reading : NotRefusedIsSomeReading
some-reading b = (spelled, taken)
  where
    spelled : (r : Reading) × (unspell b ≡ some r) → SomeReadingSpells b
    spelled h =
        let k = spell-unspell b h.0 h.1 in
        (form h.0, h.0, form-read h.0 k.1, k.1, k.2, k.0)

    taken : SomeReadingSpells b → (r : Reading) × (unspell b ≡ some r)
    taken h = (h.1, ap unspell (sym h.5) ∙ unspell-spell h.1 h.3 h.4)

pub no-reading : (b : List ℕ) → (unspell b ≡ none) ↔ ¬ (SomeReadingSpells b)
no-reading b = (λ e s. let p = (some-reading b).1 s in none-ne-some p.0 (sym e ∙ p.1), refused (unspell b) refl)
  where
    refused : (o : Option Reading) → unspell b ≡ o → ¬ (SomeReadingSpells b) → o ≡ none
    refused none e h = refl
    refused (some r) e h = absurd (h ((some-reading b).0 (r, e)))

-- The lookup of any name
found_number : (o : Option Stretch) → ¬ ((found o).refused ≡ 31)
unfolding found not_found
found_number none e = omega arith
found_number (some s) e = omega arith

pub lookup-no-reading : LookupRefusesOtherBytes
unfolding lookup_answer looked_up not_found
lookup-no-reading name b = (λ h. (no-reading b).0 (unspelled (unspell b) h), λ h. rw ((no-reading b).1 h))
  where
    unspelled : (o : Option Reading) → looked_up name o ≡ nothing_found 31 → o ≡ none
    unspelled none h = refl
    unspelled (some r) h = absurd (found_number (lookup name r) (ap (λ x. x.refused) h))
