pub mod OscBytes
