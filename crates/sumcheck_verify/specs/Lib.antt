pub mod Sumcheck
