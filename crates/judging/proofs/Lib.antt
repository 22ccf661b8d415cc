-- What other crates may cite: lines of escaped bytes by their first byte, and laws of judging parts of a record, one behind another.
pub mod EscapedLines
pub mod JudgeLaws
-- What the proofs of this crate alone rest on.
mod CellBytes
mod CellCounts
mod CellModeLaws
mod CellRuns
mod CellsFit
mod CellsJudged
mod CellsRun
mod CharactersTold
mod HollowTexts
mod KeyLaws
mod LinesTold
mod ListTold
mod NameJudged
mod NameRests
mod NumberLaws
mod OpeningTold
mod PlainLines
mod ReadingParts
mod RecordParts
mod RecordReads
mod RowsTold
mod SymbolRuns
mod TellLaws
mod Utf8Bytes
mod WholeJudged
mod WideBlanks
