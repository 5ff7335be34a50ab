-- 01's causes with their numbers, answers, and tests one after the other.
pub mod Answer
pub mod Tests
