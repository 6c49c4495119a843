pub mod Channels
pub mod Queues
