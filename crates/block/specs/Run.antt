-- The definitions opened, so that antt computes them. A check by computation of what a text means goes through here.
use Rattle.std.specs.Prelude.{ℕ, List}
use Rattle.block.specs.Blocks
use Rattle.block.specs.Cell
use Rattle.block.specs.CharacterList
use Rattle.block.specs.Chunk
use Rattle.block.specs.Commands
use Rattle.block.specs.Dimensions
use Rattle.block.specs.Dna
use Rattle.block.specs.Format
use Rattle.block.specs.Interleaved
use Rattle.block.specs.Labels
use Rattle.block.specs.Names
use Rattle.block.specs.Outcome
use Rattle.block.specs.Parse
use Rattle.block.specs.Sequential
use Rattle.block.specs.Sound
use Rattle.block.specs.Typeset
use Rattle.lexer.specs.Run as Lexer

-- What a text means.
unfoldable pub run_text : List ℕ → Parse.Read
unfolding Lexer.run_tokens Outcome.then Outcome.mapped Outcome.fold Outcome.need Commands.newline Commands.semicolon Commands.up_to_end Commands.ended Commands.begun Commands.commands_from Commands.commands Commands.words Names.known Names.add_name Names.name_turn Names.unique_names Dimensions.dimensions_of Dimensions.no_dimensions Dimensions.count Dimensions.with_count Dimensions.count_option Dimensions.dimension_option Dimensions.dimension_value Dimensions.dimension_turn Dimensions.dimension_end Dimensions.dimensions Cell.insert Cell.insert_all Dna.acgt Dna.dna_letter Dna.dna_cell Dna.dna_code Format.default_format Format.equal Format.invalid Format.valid_symbol Format.valid_symbols Format.options Format.no_options Format.with_type Format.with_symbols Format.with_missing Format.with_gap Format.with_interleave Format.with_case Format.with_labels Format.with_no_tokens Format.once Format.key Format.key_option Format.format_option Format.unspaced Format.single_symbol Format.symbol_value Format.format_value Format.format_turn Format.format_end Format.settled Format.format_of Format.dna_options Format.all_valid Format.clashes Format.all_differ Format.signs Format.good_symbols Format.judged Format.format Chunk.find_symbol Chunk.state_of Chunk.state_cell Chunk.state_or_code Chunk.gap_or Chunk.cell Chunk.before Chunk.cells_of Chunk.symbols Chunk.with_state Chunk.only_states Chunk.closer Chunk.set_cell Chunk.closed Chunk.into_set Chunk.chunk Chunk.row_end Sequential.names Sequential.row_begins Sequential.row_grown Sequential.sequential_turn Sequential.row_open Sequential.sequential_end Sequential.sequential Interleaved.to_newline Interleaved.lines_from Interleaved.lines Interleaved.first_page Interleaved.new_taxon Interleaved.old_taxon Interleaved.line_taxon Interleaved.behind Interleaved.turned Interleaved.with_row Interleaved.fits Interleaved.line_cells Interleaved.line_row Interleaved.line_turn Interleaved.pages Interleaved.all_long Interleaved.interleaved_end Interleaved.interleaved Labels.unlabelled Labels.label_each Labels.char_labels Labels.at Labels.character Labels.with_label Labels.with_states Labels.begin_states Labels.entry_number Labels.entry_begins Labels.entry_label Labels.entry_states Labels.state_label Labels.entry_turn Labels.entry_end Labels.label_entries Labels.label_command Labels.apply_labels CharacterList.part CharacterList.to_dash CharacterList.cut_from CharacterList.parts CharacterList.is_dash CharacterList.is_stride CharacterList.is_all CharacterList.character_number CharacterList.range CharacterList.first_number CharacterList.first_item CharacterList.next_item CharacterList.last_number CharacterList.stride_number CharacterList.item_turn CharacterList.listed CharacterList.with_further CharacterList.part_turn CharacterList.list_turn CharacterList.item_end CharacterList.in_range Typeset.ordering Typeset.typed_one Typeset.typed_range Typeset.on_types Typeset.typed Typeset.name_word Typeset.equals_word Typeset.vector_word Typeset.list_ends Typeset.list_word Typeset.typeset_turn Typeset.vector_end Typeset.typeset_end Typeset.typeset Blocks.at_start Blocks.in_phase Blocks.begin_assumptions Blocks.no_data Blocks.begin_block Blocks.begin_words Blocks.taxa_count Blocks.taxa_step Blocks.declared_count Blocks.agrees Blocks.row_of Blocks.arranged Blocks.in_order Blocks.unordered Blocks.rows Blocks.matrix_reading Blocks.matrix_shape Blocks.matrix Blocks.labelling Blocks.same_labelling Blocks.labelled_by Blocks.with_dimensions Blocks.with_format Blocks.with_taxa Blocks.with_matrix Blocks.label_step Blocks.data_command Blocks.data_step Blocks.options Blocks.characters_in Blocks.assumption_step Blocks.retyped Blocks.with_types Blocks.matrix_typed Blocks.taxa_end Blocks.data_end Blocks.end_block Blocks.inner_step Blocks.ends Blocks.block_step Blocks.is_outside Blocks.step Blocks.is_ordered Blocks.has_ordered Blocks.orderable Blocks.final Blocks.matrix_read Blocks.finish_in Blocks.finish Parse.parse_behind Parse.parse_from Parse.parse Parse.place_of Parse.placed Parse.read_tokens Parse.read Sound.no_underscore Sound.no_return Sound.not_blank Sound.sound_name Sound.each Sound.sound_names Sound.sound_label Sound.names_differ Sound.rising Sound.sound_set Sound.sound_cell Sound.sound_cells Sound.sound_rows Sound.is_gap Sound.gap_among Sound.gap_in Sound.distinct Sound.most_symbols Sound.sound_symbols Sound.dna_symbols Sound.label_texts Sound.sound_labels Sound.few_states Sound.sound
run_text text = Parse.read text
