-- A reader that decides the grammar, and what the results of the inner functions mean. The contracts of those functions cite these definitions.
-- No part of them must be believed: nothing of this folder is cited above it, and the reader is proved to read exactly what the grammar says (proofs/reader/SheetLaws.antt).
pub mod reader
pub mod Refusals
pub mod rows
pub mod check
pub mod run
