pub mod api
mod AtOnce
mod IndexRows
mod Inserted
mod Places
