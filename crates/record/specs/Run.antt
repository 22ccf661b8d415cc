-- The definitions opened, so that antt computes them. A check by computation of what a call does goes through here.
use Rattle.std.specs.Prelude.{ℕ, replicate, List, [], ◌∷◌}
use Rattle.std.proofs.Math.Option.{bind}
use Rattle.block.specs.Run as Block
use Rattle.record.specs.Calls
use Rattle.record.specs.Decimal
use Rattle.record.specs.Form
use Rattle.record.specs.Lookup
use Rattle.record.specs.Spell
use Rattle.record.specs.Unspell

-- A lent buffer of so many bytes, before a call.
unfoldable pub buffer : ℕ → List ℕ
buffer room = replicate room 170

-- What a read call with so much work memory and room prints of a text, and what it leaves in the buffer.
unfoldable pub run_read : ℕ → ℕ → List ℕ → List (List ℕ)
unfolding Block.run_text bind buffer Decimal.digit Decimal.decimal_from Decimal.decimal Decimal.undecimal Spell.line Spell.type_word Spell.order_word Spell.escape Spell.escaped Spell.dotted Spell.spell_cell Spell.spell_cells Spell.spell_taxa Spell.spell_states Spell.spell_character Spell.spell_characters Spell.spell_head Spell.spell Unspell.lines_with Unspell.line_more Unspell.lines Unspell.behind Unspell.value Unspell.with_byte Unspell.unescaped Unspell.before Unspell.parts Unspell.numbers Unspell.made Unspell.unspell_cell Unspell.unspell_cells Unspell.type_of Unspell.order_of Unspell.most Unspell.count_of Unspell.no_taxa Unspell.with_taxon Unspell.with_character Unspell.with_states Unspell.line_turn Unspell.turns Unspell.drafted Unspell.shape Unspell.if_sound Unspell.unspell Form.first_free Form.missing_sign Form.gap_sign Form.quote Form.quoted_from Form.quoted Form.gap_option Form.form_format Form.any_label Form.labelled Form.form_label Form.form_each Form.form_states Form.form_entry Form.comma Form.form_entries Form.form_labels Form.sign Form.form_set Form.form_cell Form.form_cells Form.form_rows Form.form_types Form.form_assumptions Form.form_dimensions Form.form Lookup.before_cells Lookup.find_cells Lookup.lookup Calls.refuse Calls.answer Calls.leaves Calls.recorded Calls.read_result Calls.read_answer Calls.read_leaves Calls.written Calls.write_result Calls.write_answer Calls.write_leaves Calls.not_found Calls.found Calls.looked_up Calls.lookup_answer Calls.printed
run_read work room text =
    let result = Calls.read_result text work in
    let after = Calls.leaves result (buffer room) in
    Calls.printed (Calls.answer result room) after ∷ after ∷ []

-- The same of a write call and a record.
unfoldable pub run_write : ℕ → List ℕ → List (List ℕ)
unfolding run_read
run_write room record_bytes =
    let result = Calls.write_result record_bytes in
    let after = Calls.leaves result (buffer room) in
    Calls.printed (Calls.answer result room) after ∷ after ∷ []

-- A lookup's refusal, start and length.
unfoldable pub run_lookup : List ℕ → List ℕ → List ℕ
unfolding run_read
run_lookup name record_bytes =
    let f = Calls.lookup_answer name record_bytes in
    f.refused ∷ f.stretch.start ∷ f.stretch.size ∷ []
