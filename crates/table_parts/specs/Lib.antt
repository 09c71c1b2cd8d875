pub mod Tables
pub mod PartTables
pub mod Columns
