pub mod Entries
pub mod EntryOrders
