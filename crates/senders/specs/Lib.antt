pub mod Senders
pub mod Views
