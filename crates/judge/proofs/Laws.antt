-- What crates above cite of the tests: a block's tests go by its own bytes alone; a test of every number below another.
pub mod Same
pub mod Every
