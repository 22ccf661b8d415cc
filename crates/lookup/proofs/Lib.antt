-- What the proofs of this crate alone rest on.
mod FindLaws
mod LookLaws
