-- What holds of one call and of lists of calls; that steps one after the other paint the rundown in order; two playings; a worked example.
pub mod Calls
pub mod Order
pub mod Two
pub mod Examples
