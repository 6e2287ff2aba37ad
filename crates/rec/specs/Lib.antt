pub mod Sessions
