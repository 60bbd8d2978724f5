pub mod TailLemmas
pub mod Gaining
pub mod PieceSteps
pub mod AppendLemmas
pub mod InTurnLemmas
pub mod LoopLemmas
pub mod WritingLemmas
pub mod DigitLemmas
