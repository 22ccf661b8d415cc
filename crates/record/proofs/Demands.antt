-- The promises of specs/Demands.antt, each with its proof. Assumes nothing.
use Rattle.block.proofs.FaultPlaces.{fault-at, said-first}
use Rattle.block.proofs.LabelsFollow.{labels-follow}
use Rattle.block.proofs.NamesFromTokens.{names-from-tokens, labels-from-tokens}
use Rattle.block.proofs.ReadingSound.{reading-sound}
use Rattle.block.proofs.TaxaFollow.{taxa-follow}
use Rattle.record.proofs.Agreement.{forms-apart}
use Rattle.record.proofs.CallLaws.{kept}
use Rattle.record.proofs.CallsAgain.{text-record-passes, texts-given-back, records-given-back, calls-apart}
use Rattle.record.proofs.FormRead.{form-read}
use Rattle.record.proofs.LookupLaws.{found-row, other-names}
use Rattle.record.proofs.ProgramLaws.{program-prints}
use Rattle.record.proofs.ReadCall.{read-refuses, read-left-given, read-gives-the-record}
use Rattle.record.proofs.SomeReading.{some-reading, lookup-no-reading}
use Rattle.record.proofs.SpellLaws.{unspell-spell}
use Rattle.record.proofs.UnspellLaws.{spell-unspell}
use Rattle.record.proofs.WriteCall.{write-refuses, write-left-given, write-gives-the-form}
use Rattle.record.specs.Calls.{read_result, read_answer, read_leaves, write_result, write_answer, write_leaves}
use Rattle.record.specs.Demands.{FaultsHaveTheirPlace, FaultsComeInOrder, EveryReadingIsSound, TaxaFollowTheDeclaration, NamesComeFromTokens, LabelsComeFromTokens, LabelsFollowTheCommands, RecordsAreReadBack, RecordsAreSpelled, RecordsOfTextsPass, NotRefusedIsSomeReading, FormsAreReadAgain, FormsTellReadingsApart, FormsTellTextsApart, LookupRefusesOtherBytes, LookupFindsTheRow, LookupRefusesOtherNames, ReadGivesTheRecord, WriteGivesTheForm, WhatIsLeftIsGiven, CallsGiveBackRecordsOfTexts, CallsGiveBackRecords, CallsTellTextsApart, ReadRefusesInOrder, WriteRefusesInOrder, BuffersAreKept, TheProgramPrints}

pub faults-have-their-place : FaultsHaveTheirPlace
faults-have-their-place = fault-at

pub faults-come-in-order : FaultsComeInOrder
faults-come-in-order = said-first

pub every-reading-is-sound : EveryReadingIsSound
every-reading-is-sound = reading-sound

pub taxa-follow-the-declaration : TaxaFollowTheDeclaration
taxa-follow-the-declaration = taxa-follow

pub names-come-from-tokens : NamesComeFromTokens
names-come-from-tokens = names-from-tokens

pub labels-come-from-tokens : LabelsComeFromTokens
labels-come-from-tokens = labels-from-tokens

pub labels-follow-the-commands : LabelsFollowTheCommands
labels-follow-the-commands = labels-follow

pub records-are-read-back : RecordsAreReadBack
records-are-read-back = unspell-spell

pub records-are-spelled : RecordsAreSpelled
records-are-spelled = spell-unspell

pub records-of-texts-pass : RecordsOfTextsPass
records-of-texts-pass = text-record-passes

pub not-refused-is-some-reading : NotRefusedIsSomeReading
not-refused-is-some-reading = some-reading

pub forms-are-read-again : FormsAreReadAgain
forms-are-read-again = form-read

pub forms-tell-readings-apart : FormsTellReadingsApart
forms-tell-readings-apart = forms-apart

pub forms-tell-texts-apart : FormsTellTextsApart
forms-tell-texts-apart t u r s p q = forms-apart r s (reading-sound t r p) (reading-sound u s q)

pub lookup-refuses-other-bytes : LookupRefusesOtherBytes
lookup-refuses-other-bytes = lookup-no-reading

pub lookup-finds-the-row : LookupFindsTheRow
lookup-finds-the-row = found-row

pub lookup-refuses-other-names : LookupRefusesOtherNames
lookup-refuses-other-names = other-names

pub read-gives-records : ReadGivesTheRecord
read-gives-records = read-gives-the-record

pub write-gives-forms : WriteGivesTheForm
write-gives-forms = write-gives-the-form

pub what-is-left-is-given : WhatIsLeftIsGiven
what-is-left-is-given = (read-left-given, write-left-given)

pub calls-give-back-records-of-texts : CallsGiveBackRecordsOfTexts
calls-give-back-records-of-texts = texts-given-back

pub calls-give-back-records : CallsGiveBackRecords
calls-give-back-records = records-given-back

pub calls-tell-texts-apart : CallsTellTextsApart
calls-tell-texts-apart = calls-apart

pub read-refuses-in-order : ReadRefusesInOrder
read-refuses-in-order = read-refuses

pub write-refuses-in-order : WriteRefusesInOrder
write-refuses-in-order = write-refuses

pub buffers-are-kept : BuffersAreKept
unfolding read_answer read_leaves write_answer write_leaves
buffers-are-kept = (λ text work buffer. kept (read_result text work) buffer, λ b buffer. kept (write_result b) buffer)

pub the-program-prints : TheProgramPrints
the-program-prints = program-prints
