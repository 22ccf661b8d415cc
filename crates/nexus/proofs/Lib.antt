-- What the proofs of this crate rest on.
mod PrintLaws
mod RefusalLines
