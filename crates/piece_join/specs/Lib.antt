pub mod Cuttings
pub mod Joined
pub mod Laid
pub mod Pieces
pub mod Relaxed
pub mod Worked
