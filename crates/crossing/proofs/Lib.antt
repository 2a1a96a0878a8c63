-- The contract determines the answer, and crossing back leads back.
pub mod Determined
-- What the proofs of the functions use.
mod AnswerLaws
mod LandingLaws
mod LeavingLaws
mod StayingLaws
