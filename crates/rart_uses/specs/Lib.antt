pub mod Cursor
pub mod CursorLoans
