-- The function `put_characters` meets its contract. Assumes nothing.
use Rattle.emit.proofs.PutLaws.{puts-as}
use Rattle.lexer.proofs.OptionLaws.{given-or}
use Rattle.parser.proofs.MapFits.{fitting}
use Rattle.reading.proofs.CharacterWalk.{characters-held, characters-room}
use Rattle.record.specs.Spell.{spell_characters}
use mathlib.Core.Path.{ap, ◌∙◌}
use Rattle.reading.proofs.characters.put_characters.Goals as goal

pub labels_place-at-requires : goal.labels_place-at-requires
labels_place-at-requires c =
    let f = fitting _ _ _ _ _ c.requires in
    (f.few_tokens, f.few_lines, f.few_taxa)

pub put_each-requires : goal.put_each-requires
put_each-requires c =
    characters-room c.args.work.now _ c.args.held _ c.labels_place-at.ensures c.requires

pub returns : goal.returns
returns c =
    puts-as c.put_each.ensures
    (λ behind. ap (λ cs. spell_characters 1 cs behind) (characters-held c.args.work.now _ c.args.held _ c.labels_place-at.ensures _ _ (c.unwrap_or-o.ensures ∙ given-or c.args.held.default _)))
