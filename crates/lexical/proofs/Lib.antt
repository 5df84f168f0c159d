pub mod Descent
