pub mod Members
pub mod Order
