-- 01's twelve lines.
pub mod Lines
