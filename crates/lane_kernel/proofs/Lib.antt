mod Stored
mod Totals
